-- Unit data goes out in the order in which it was granted, over runs.
use Rattle.model_teis.specs.terminal.Messages.{information_of as own_information_of}
use Rattle.laws_trace.proofs.Vocabulary.{arith, ◌≡◌, ℕ, ◌<◌, ◌≤◌, ◌==◌, ◌&&◌, Bool, true, false, cond, List, [], ◌∷◌, ◌++◌, drop, map, slice_get, Option, Some, None, option_map, refl, sym, ap, ◌∙◌, subst, inl, inr, append-nil, All, not, filter, get_or-replicate, map-append, All-nil, All-head, Ui, sapi_of, IsInOrder, Link, ControlFrame, Config, hears, expiry, request, next, NextFrame}
use Rattle.laws_trace.proofs.Vocabulary.{Answer, gave}
use Rattle.laws_trace.proofs.Vocabulary.{Line, UnitData, link_count, link_at, service_at, terms, fresh_line, management_sapi, Taken, taken, unit_frame, next_of, IsInRange, IsUnitData, IsOfLink, IsOwed, IsIdle, contents_of_link, units_asked, event-follows, event-happens, served, units-wait, fold, information_of, fresh_link as fresh, Event, line_after as after, answer, Request, IsSound}
use Rattle.laws_trace.proofs.Vocabulary.{trace_frame_in as frame_in, Seen, seen_told, seen_granted, seen, frames_begun, IsFront, units_left, is_ui, is_down, is_unit, waits, trace_begun as begun, granted, fold-append, trace, seen_in, Moment, own_side}
use Rattle.laws_trace.proofs.NoUi.{IsPlain, all-left}
use Rattle.laws_trace.proofs.Reading.{other-frame, unit-is}
use Rattle.laws_trace.specs.Units as units
use Rattle.laws_trace.proofs.ReadAgain.{message-text, own-text}

-- No UI waits on any link of a line.
abbrev pub NoneWaits : Config → Line → Type 0
NoneWaits c l = (number : ℕ) → number < link_count c → All IsPlain (link_at number l).waiting

pub fresh-none : (c : Config) → NoneWaits c (fresh_line c)
fresh-none c number few = subst (λ (x : Link). All IsPlain x.waiting) (sym (get_or-replicate (link_count c) number fresh fresh few)) (All-nil IsPlain)

event-none : (c : Config) (e : Event) (l : Line) → IsSound c l → NoneWaits c l → NoneWaits c (after c e l)
event-none c e l s h number few = grind (arith, event-happens, All-nil, event-follows, all-left)

-- The unit data that begins in a trace.
abbrev pub units_begun : Config → List Seen → List (List ℕ)
units_begun c t = filter (is_unit (own_side c)) (frames_begun t)

-- What a trace is to the unit data that waits before it and after it: a UI that begins is the oldest, unit data that is granted
-- waits behind, and where the line is down none waits.
abbrev frames : Config → Line → List (List ℕ)
frames c l = map (unit_frame c) l.units

abbrev pub Begun : Bool → List (List ℕ) → List ℕ → List (List ℕ) → Type 0
Begun true waiting octets left = waiting ≡ octets ∷ left
Begun false waiting octets left = left ≡ waiting

abbrev pub left_by : Config → Request → List (List ℕ) → List (List ℕ)
left_by c r waiting = cond (is_down r) [] (waiting ++ units.unit_asked c r)

abbrev pub Step : Config → List (List ℕ) → Seen → List (List ℕ) → Type 0
Step c waiting (begun octets) left = Begun (is_unit (own_side c) octets) waiting octets left
Step c waiting (granted r) left = left ≡ left_by c r waiting
Step c waiting other left = left ≡ waiting

unfoldable pub Goes : Config → List (List ℕ) → List Seen → List (List ℕ) → Type 0
Goes c waiting [] left = left ≡ waiting
Goes c waiting (s ∷ t) left = (then : List (List ℕ)) × Step c waiting s then × Goes c then t left

abbrev pub Passes : Config → Line → List Seen → Line → Type 0
Passes c before t after = Goes c (frames c before) t (frames c after)

pub rests : (c : Config) (l : Line) → Passes c l [] l
unfolding Goes
rests c l = refl

behind : (c : Config) (k l m : List (List ℕ)) (t u : List Seen) → Goes c k t l → Goes c l u m → Goes c k (t ++ u) m
unfolding Goes
behind c k l m [] u h i = subst (λ l. Goes c l u m) h i
behind c k l m (s ∷ t) u (then, step, h) i = (then, step, behind c then l m t u h i)

pub joins : (c : Config) (k l m : Line) (t u : List Seen) → Passes c k t l → Passes c l u m → Passes c k (t ++ u) m
joins c k l m t u h i = behind c (frames c k) (frames c l) (frames c m) t u h i

-- Events but calls begin nothing, and what is granted waits.
pub none-told : (a : Answer) → frames_begun (seen_told a) ≡ []
none-told a = grind arith

pub none-requested : (r : Request) (a : Answer) → frames_begun (seen_granted r a ++ seen_told a) ≡ []
none-requested r a = grind arith

told-goes : (c : Config) (waiting left : List (List ℕ)) (a : Answer) → left ≡ waiting → Goes c waiting (seen_told a) left
unfolding Goes
told-goes c waiting left a same = grind arith

request-goes : (c : Config) (before after : Line) (r : Request) (a : Answer) → after.units ≡ units_left r a before.units ++ units_asked (request r) a
    → Passes c before (seen_granted r a ++ seen_told a) after
unfolding Goes
request-goes c before after r a is = grind (arith, map-append, append-nil)

-- A call begins the oldest unit data, or a frame that is none.
pub given-frames : (o : Option NextFrame) → frames_begun (map begun (frame_in (gave o))) ≡ frame_in (gave o)
given-frames o = grind arith

-- the oldest goes
first-goes : (c : Config) (us : List UnitData) (u : UnitData) → slice_get us 0 ≡ Some u → unit_frame c u ∷ map (unit_frame c) (drop 1 us) ≡ map (unit_frame c) us
first-goes c us u is = grind arith

pub first-of : (c : Config) (us : List UnitData) (u : UnitData) → slice_get us 0 ≡ Some u → All (IsUnitData c) us → u.tei ≤ 127
first-of c [] u is h = absurd (cc)
first-of c (v ∷ us) u is h = let same : v ≡ u = cc in subst (λ (x : UnitData). x.tei ≤ 127) same (All-head (IsUnitData c) v us h).tei

-- a frame of a link is none
pub plain-order : (c : Config) (l new : Line) (frame : List ℕ) → NoneWaits c l → (x : IsOfLink c (contents_of_link l) l new frame) → is_ui x.control ≡ false
plain-order c l new frame h x = by-order x.in_order
  where
    by-order : IsInOrder (terms c (service_at x.number) x.tei) (link_at x.number l) (link_at x.number new) (record { command = x.command; control = x.control }) → is_ui x.control ≡ false
    by-order (inl oldest) = All-head IsPlain (record { command = x.command; control = x.control }) (link_at x.number new).waiting (subst (All IsPlain) oldest.waited (h x.number x.few))
    by-order (inr (inl information)) = ap (λ (f : ControlFrame). is_ui f.control) information.is
    by-order (inr (inr acknowledgement)) = ap (λ (f : ControlFrame). is_ui f.control) acknowledgement.is

of-link : (c : Config) (l new : Line) (frame : List ℕ) → NoneWaits c l → IsOfLink c (contents_of_link l) l new frame → is_unit (own_side c) frame ≡ false
of-link c l new frame h x =
    ap (is_unit (own_side c)) x.spelled
    ∙ other-frame (own_side c) (record { sapi = sapi_of (service_at x.number); command = x.command; tei = x.tei }) x.control (ap (λ b. b && not (sapi_of (service_at x.number) == management_sapi)) (plain-order c l new frame h x)) _

begins : (c : Config) (waiting left : List (List ℕ)) (frame : List ℕ) (b : Bool) → is_unit (own_side c) frame ≡ b → Begun b waiting frame left → Goes c waiting (begun frame ∷ []) left
unfolding Goes
begins c waiting left frame b is h = (left, subst (λ b. Begun b waiting frame left) (sym is) h, refl)

next-passes : (c : Config) (l new : Line) → IsSound c l → NoneWaits c l → (o : Option Taken)
    → elim o as (λ o. Type 0) [ None ↦ IsIdle c l new | Some t ↦ IsOwed c (contents_of_link l) l new t.frame ]
    → Goes c (frames c l) (map begun (frame_in (gave (option_map next_of o)))) (frames c new)
unfolding Goes
next-passes c l new s h None x = ap (λ (l : Line). map (unit_frame c) l.units) x.line
next-passes c l new s h (Some t) (inl x) =
    begins c (frames c l) (frames c new) t.frame false
    (ap (is_unit (own_side c)) (x.spelled ∙ message-text c x.message) ∙ other-frame (own_side c) (record { sapi = 63; command = true; tei = 127 }) (Ui false) refl (information_of x.message))
    (ap (λ (l : Line). map (unit_frame c) l.units) x.line)
next-passes c l new s h (Some t) (inr (inl x)) =
    begins c (frames c l) (frames c new) t.frame false
    (ap (is_unit (own_side c)) (x.spelled ∙ own-text c x.message x.terminal) ∙ other-frame (own_side c) (record { sapi = 63; command = true; tei = 127 }) (Ui false) refl (own_information_of x.message))
    (ap (λ (l : Line). map (unit_frame c) l.units) x.line)
next-passes c l new s h (Some t) (inr (inr (inl x))) =
    begins c (frames c l) (frames c new) t.frame true
    (ap (is_unit (own_side c)) x.spelled ∙ unit-is c x.unit (first-of c l.units x.unit x.oldest s.units))
    (sym (ap (λ (l : Line). t.frame ∷ map (unit_frame c) l.units) x.line ∙ ap (λ f. f ∷ map (unit_frame c) (drop 1 l.units)) x.spelled
    ∙ first-goes c l.units x.unit x.oldest))
next-passes c l new s h (Some t) (inr (inr (inr x))) =
    begins c (frames c l) (frames c new) t.frame false (of-link c l new t.frame h x) (ap (λ (l : Line). map (unit_frame c) l.units) x.line)

pub next-passes-on : (c : Config) (l : Line) → IsSound c l → NoneWaits c l → Passes c l (seen next (answer c next l)) (after c next l)
unfolding answer
next-passes-on c l s h = next-passes c l (after c next l) s h (taken c l) (served c l s)

event-passes : (c : Config) (e : Event) (l : Line) → IsSound c l → NoneWaits c l → Passes c l (seen e (answer c e l)) (after c e l)
unfolding Goes
event-passes c (hears what) l s h =
    (frames c l, refl, told-goes c (frames c l) (frames c (after c (hears what) l)) (answer c (hears what) l) (ap (map (unit_frame c)) (units-wait c (hears what) l)))
event-passes c (expiry timer) l s h =
    told-goes c (frames c l) (frames c (after c (expiry timer) l)) (answer c (expiry timer) l) (ap (map (unit_frame c)) (units-wait c (expiry timer) l))
event-passes c (request r) l s h = request-goes c l (after c (request r) l) r (answer c (request r) l) (units-wait c (request r) l)
event-passes c next l s h = next-passes-on c l s h

pub steps : (c : Config) → IsInRange c → (e : Event) (l : Line) → IsSound c l → NoneWaits c l
    → Passes c l (seen e (answer c e l)) (after c e l) × NoneWaits c (after c e l)
steps c ranged e l s h = (event-passes c e l s h, event-none c e l s h)

-- So those that wait are as the observer has them, by what is seen;
abbrev pub traced : Config → List (List ℕ) → Seen → List (List ℕ)
traced c units (granted r) = left_by c r units
traced c units (begun octets) = cond (is_unit (own_side c) octets) (drop 1 units) units
traced c units other = units

pub left-is-waiting : (c : Config) (t : List Seen) (waiting left : List (List ℕ)) → Goes c waiting t left → fold (traced c) waiting t ≡ left
unfolding Goes
left-is-waiting c [] waiting left same = sym same
left-is-waiting c (s ∷ t) waiting left (kept, step, more) =
    ap (λ ws. fold (traced c) ws t) (grind (arith, append-nil)) ∙ left-is-waiting c t kept left more

-- and so in each moment by its event and answer;
by-request : (c : Config) (r : Request) (a : Answer) (units : List (List ℕ)) → waits c (request r) a units ≡ fold (traced c) units (seen (request r) a)
by-request c r a units = grind (arith, append-nil)

by-event : (c : Config) (e : Event) (a : Answer) (units : List (List ℕ)) → waits c e a units ≡ fold (traced c) units (seen e a)
by-event c e a units = grind (arith, by-request)

at-line : (c : Config) (e : Event) (a : Answer) (b : Bool) (units : List (List ℕ)) → cond b (waits c e a units) units ≡ fold (traced c) units (cond b (seen e a) [])
at-line c e a b units = grind (arith, by-event)

abbrev unit_step : Config → ℕ → List (List ℕ) → Moment → List (List ℕ)
unit_step c number units m = cond (m.event.line == number) (waits c m.event.what m.answer units) units

pub same-units : (c : Config) (number : ℕ) (ms : List Moment) (units : List (List ℕ)) → fold (unit_step c number) units ms ≡ fold (traced c) units (trace number ms)
same-units c number [] units = refl
same-units c number (m ∷ ms) units =
    same-units c number ms (unit_step c number units m)
    ∙ ap (λ us. fold (traced c) us (trace number ms)) (at-line c m.event.what m.answer (m.event.line == number) units)
    ∙ sym (fold-append (traced c) units (seen_in number m) (trace number ms))

-- and of what begins the unit data is the first of them.
pub begun-first : (c : Config) (fs : List (List ℕ)) (waiting left : List (List ℕ)) → Goes c waiting (map begun fs) left → IsFront (filter (is_unit (own_side c)) fs) waiting
unfolding Goes
begun-first c [] waiting left same = record { rest = waiting; whole_is = refl }
begun-first c (f ∷ fs) waiting left (kept, step, more) = grind (arith, begun-first c fs kept left more)
