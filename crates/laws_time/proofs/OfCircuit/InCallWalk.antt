-- In the first (N200 + 1) T200 of a call N200 is not used up: what an event of a line tells, and prompt steps from one end to another.
use Rattle.laws_time.proofs.Vocabulary.{All, All-cons, All-head, All-tail, All-weaker, Answer, AreAsked, AreAtLines, AreClear, ArePrompt, Beat, Bool, Card, Clocked, Config, Error, Establish, Event, Expiry, FrameEndpoint, IsFit, IsInRange, IsNoOctetsExpiry as IsNoExpiry, IsOfLink, IsShortAt, IsTalk, Lengths, Line, LineTold, Link, List, N200LastsInACall, None, Note, Observed, OctetEvent, Option}
use Rattle.laws_time.proofs.Vocabulary.{Port, Request, Service, Some, Step, T200, TimedEndpoint, TimedOctetCard, Timer, [], after, after_all, answered, ap, append-nil, append_assoc, arith, asks, at, beat, begins, by_event, calls, card_of, cases_lt, comes_to, cond, data_told, due, eq-eqb, error_in, errors_at, expiry, expiry_at, falls, falls_due, false, filter, flat_map, flat_map-append, by-bool}
use Rattle.laws_time.proofs.Vocabulary.{fold-append, fresh as fresh_fair, fresh_link, gone, happens, hears as hears_walk, in_state, inl, inr, is_news, is_on, is_timer_of, is_used_up, is_waiting, length, line_at, link_in, list_any, list_any-append, lt-div-mul-add, map, moment_at, mul-div-le, mul-le, news, news-is-told-so, news_in, next, not, notes_due, notes_in, notes_of, octet_at, octets}
use Rattle.laws_time.proofs.Vocabulary.{of_octets, option_map, option_map_or, own-is, port_of, refl, request, state, state_number, step_happens, subst, sym, tells_nothing, told_by, tries, true, true≢false, unwrap_or, view_behind, view_of, with_expiry, without_first_octet, ℕ, ◌*◌, ◌++◌, ◌+◌, ◌-◌, ◌/◌, ◌<◌, ◌∙◌, ◌∷◌, ◌≡◌, ◌≤◌, ◌⊎◌}
use Rattle.lapd_frame.specs.declared.timers.Timer.TheVariants as timers
use Rattle.model_line.specs.Event as line
use Rattle.model_card.specs.Card as cards
use Rattle.model_card.specs.Event as frames
use Rattle.model_card.specs.Machine as machine
use Rattle.model_card.specs.Run as frame_runs
use Rattle.model_card.specs.ports.Port as port
use Rattle.laws_wire.specs.Call as call
use Rattle.model_line.specs.Event.{hears}
use Rattle.model_card.specs.Card.{fresh}
use Rattle.model_timed.specs.Timed.{event_of, after as next_walk}
use Rattle.laws_wire.proofs.Beginning.{answers}
use Rattle.laws_time.proofs.ArrivalsOneEvent.{used-append, used-means, expiry-means, Used}
use Rattle.laws_time.proofs.OfCircuit.Words.{Counts, EndBut, EndOk, Leads, Pair, Rests, RunsOurs, all-keep, all-past, all-then, at-moment, at_time, awaits-in, begins_of, both-lead, both-prompt, clear-keeps, clear-parts, first-of, fit-turned, here-is, is_own_t200, leads-both, meant_at, near-gone, near-high, near-low, notes-are, own-same, pair-then, pair-turned, past, soon, state-here, stays-on}
use Rattle.laws_time.proofs.OfCircuit.Words.{there, time-comes, turned_beat, turned_line, turned_world}
use Rattle.laws_time.proofs.OfCircuit.ArrivSide.{codes, codes-append, IsFair}
use Rattle.laws_time.proofs.ArrivalsOfOctets.{n200-takes-its-time-of-octets}
use Rattle.laws_time.proofs.OfCircuit.AgainRan.{beats-then}
use Rattle.laws_time.proofs.OfCircuit.ArrivAs.{heard_of}
use Rattle.laws_time.proofs.OfCircuit.ArrivIdle.{IdleNow, idle-begins, all-idle, IsIdle}
use Rattle.laws_time.proofs.OfCircuit.ArrivBeat.{all-of-link}
use Rattle.laws_time.proofs.OfCircuit.ArrivTold.{codes-heard}

pub used-split : (ns ms : List Note) → Used (ns ++ ms) ≡ false → (Used ns ≡ false) × (Used ms ≡ false)
used-split ns ms none = grind (arith, flat_map-append, list_any-append)

-- Where no link tells it, it is not told.
rest-none : (b : Bool) (n : Note) (ms : List Note) → Used (cond b (n ∷ ms) ms) ≡ false → Used ms ≡ false
rest-none b n ms h1z = grind (arith, used-split)

none-used : (ns : List Note) → ((service : Service) (tei : ℕ) → Used (filter (is_news service tei) ns) ≡ false) → Used ns ≡ false
none-used [] each = refl
none-used (n ∷ ns) each =
    used-append (n ∷ []) ns (first n each) (none-used ns (λ service tei. rest-none (is_news service tei n) n (filter (is_news service tei) ns) (each service tei)))
  where
    first : (n : Note) → ((service : Service) (tei : ℕ) → Used (filter (is_news service tei) (n ∷ ns)) ≡ false) → Used (n ∷ []) ≡ false
    first (Error service tei code) all =
        (used-split (Error service tei code ∷ []) (filter (is_news service tei) ns)
        (ap (λ b. Used (cond b (Error service tei code ∷ filter (is_news service tei) ns) (filter (is_news service tei) ns))) (sym (own-is service tei)) ∙ all service tei)).0
    first n all = grind arith

-- Of one link T200 alone expires.
own-of : (s : Service) (t : ℕ) (service : Service) (tei : ℕ) (what : line.Event) → ((timer : Timer) → what ≡ expiry timer → is_timer_of service tei timer ≡ true)
    → is_own_t200 s t what ≡ true → (s ≡ service) × (t ≡ tei)
own-of s t service tei (expiry (timers.T200 of by)) ours own = let x = own-same s t of by own in let y = own-same service tei of by (ours (timers.T200 of by) refl) in (sym x.0 ∙ y.0, sym x.1 ∙ y.1)
own-of s t service tei (expiry (timers.T203 of by)) ours own = absurd (cc own)
own-of s t service tei (expiry timers.T201) ours own = absurd (cc own)
own-of s t service tei (expiry timers.T202) ours own = absurd (cc own)
own-of s t service tei (hears e) ours own = absurd (cc own)
own-of s t service tei (request r) ours own = absurd (cc own)
own-of s t service tei next ours own = absurd (cc own)

module _ (c : Config) (number : ℕ) (ranged : IsInRange c) (within : number < c.lines) (events : List Event) (all : AreAtLines (fresh c) events) (what : line.Event)
    (then : AreAtLines (fresh c) (events ++ at number what ∷ [])) where
  abbrev pub said : Answer
  said = (moment_at c events number what).answer

  module _ (service : Service) (tei : ℕ) where
    abbrev o : Observed
    o = (view_of c service tei number events).link

    abbrev q : Observed
    q = (view_behind c service tei number events what).link

    abbrev on_was : Bool
    on_was = is_on tei (view_of c service tei number events).teis

    abbrev on_now : Bool
    on_now = is_on tei (view_behind c service tei number events what).teis

    q-by : is_waiting o.state ≡ true → (q ≡ in_state 1) ⊎ (q ≡ by_event c service tei what said o)
    q-by waits = by-bool on_now (λ on. inr (stays-on c events number ranged all within service tei what (there c events number ranged all within service tei T200 (awaits-in o waits)) on))
        (λ off. inl ((ap (λ b. cond (not on_now) (in_state 1) (cond on_was (cond b (by_event c service tei what said o) o) (in_state 4))) (eq-eqb number number refl)) ∙ ap (λ b. cond (not b) (in_state 1) (cond on_was (by_event c service tei what said o) (in_state 4))) off))

    news-due : filter (is_news service tei) (notes_of said) ≡ notes_due c service tei o q what said
    news-due = news-is-told-so c (events ++ at number what ∷ []) number ranged then within service tei events what [] refl

    used-own : Used (filter (is_news service tei) (notes_of said)) ≡ true → is_own_t200 service tei what ≡ true
    used-own is = grind (arith, used-means, news-due, is_waiting, is_own_t200, q-by, expiry-means)

  pub all-own : (service : Service) (tei : ℕ) → ((timer : Timer) → what ≡ expiry timer → is_timer_of service tei timer ≡ true) → Used (filter (is_news service tei) (notes_of said)) ≡ false → Used (notes_of said) ≡ false
  all-own service tei ours none = none-used (notes_of said) each
    where
      each : (s : Service) (t : ℕ) → Used (filter (is_news s t) (notes_of said)) ≡ false
      each s t = go (Used (filter (is_news s t) (notes_of said))) refl
        where
          go : (b : Bool) → Used (filter (is_news s t) (notes_of said)) ≡ b → b ≡ false
          go false e = refl
          go true e = let same = own-of s t service tei what ours (used-own s t e) in absurd (true≢false (sym e ∙ (λ i. Used (filter (is_news (same.0 i) (same.1 i)) (notes_of said))) ∙ none))

-- ---- prompt steps from one end of the circuit to another. If its link's N200 is not used up by them, no error that says so is told there

pub fair-both : (ts us : List LineTold) → IsFair ts → IsFair us → IsFair (ts ++ us)
fair-both ts us first h = grind (arith, list_any, is_used_up, codes-append, list_any-append, codes)

-- The errors of an answer.
codes-told : (a : port.Answer) → codes (told_by a) ≡ flat_map error_in (notes_in a)
codes-told (port.told t) = go (tells_nothing t) t.notes refl refl
  where
    go : (b : Bool) (ns : List Note) → tells_nothing t ≡ b → t.notes ≡ ns → codes (cond (tells_nothing t) [] (record t { orders = []; given_up = 0; given_up_16 = 0 } ∷ [])) ≡ flat_map error_in t.notes
    go true [] e is = grind (arith, e, is)
    go true (n ∷ ns) e is = grind (arith, e, is)
    go false ns e is = ap (λ b. codes (cond b [] (record t { orders = []; given_up = 0; given_up_16 = 0 } ∷ []))) e ∙ ap (flat_map error_in) (append-nil t.notes)
codes-told (port.refused why) = refl
codes-told (port.pulled value begun orders) = refl

-- What is no expiry means none.
none-means : (n201 : ℕ) (ev : port.Event) (p : Port) (timer : Timer) → IsNoExpiry ev → port.meant n201 ev p ≡ Some (line.expiry timer) → ⊥
none-means n201 h p timer none is = grind arith

module _ (service : Service) (tei : ℕ) where
  abbrev pub Quiet : ℕ → List (Step OctetEvent) → TimedOctetCard → Type 0
  Quiet number steps t = Used (news of_octets service tei number steps t) ≡ false

  pub record Walks (a u : TimedEndpoint) : Type 0 where
    pub steps : List (Step OctetEvent)
    pub leads : after_all octets steps (card_of a) ≡ card_of u
    pub prompt : ArePrompt octets 0 steps (card_of a)
    pub line : u.at.line ≡ a.at.line
    pub more : List LineTold
    pub grows : u.at.told ≡ a.at.told ++ more
    pub fair : Quiet a.at.line steps (card_of a) → IsFair a.at.told → IsFair u.at.told

  pub walks-none : (a : TimedEndpoint) → Walks a a
  unfolding after_all ArePrompt
  walks-none a = record { steps = []; leads = refl; prompt = tt; line = refl; more = []; grows = sym (append-nil a.at.told); fair = λ quiet fair. fair }

  -- Nothing is told.
  pub walks-still : (a u : TimedEndpoint) → Leads (card_of a) (card_of u) → u.at.line ≡ a.at.line → u.at.told ≡ a.at.told → Walks a u
  walks-still a u l line told = grind (arith, append-nil)

  news-both : (number : ℕ) (xs ys : List (Step OctetEvent)) (t : TimedOctetCard)
      → news of_octets service tei number (xs ++ ys) t ≡ news of_octets service tei number xs t ++ news of_octets service tei number ys (after_all octets xs t)
  unfolding news after_all
  news-both number [] ys t = refl
  news-both number (s ∷ xs) ys t =
      let first = news_in of_octets service tei number (event_of octets s t) t.card in
      ap (λ ns. first ++ ns) (news-both number xs ys (next_walk octets s t))
      ∙ sym (append_assoc first (news of_octets service tei number xs (next_walk octets s t)) (news of_octets service tei number ys (after_all octets xs (next_walk octets s t))))

  pub walks-both : (a u v : TimedEndpoint) → Walks a u → Walks u v → Walks a v
  walks-both a u v g k = record {
    steps = g.steps ++ k.steps;
    leads = both-lead g.steps k.steps (card_of a) ∙ ap (after_all octets k.steps) g.leads ∙ k.leads;
    prompt = both-prompt g.steps k.steps (card_of a) g.prompt (subst (ArePrompt octets 0 k.steps) (sym g.leads) k.prompt);
    line = k.line ∙ g.line;
    more = g.more ++ k.more;
    grows = k.grows ∙ ap (λ ts. ts ++ k.more) g.grows ∙ append_assoc a.at.told g.more k.more;
    fair = grind (arith, used-split, news, of_octets, card_of, after_all, octets, news-both);
  }

  abbrev Noted : port.Event → TimedEndpoint → Type 0
  Noted ev a = Used (news_in of_octets service tei a.at.line (Some (octet_at a.at.line ev)) a.at.card) ≡ false → IsFair (told_by (answered ev a.at))

  -- Something happens,
  walks-event : (ev : port.Event) (a : TimedEndpoint) → IsNoExpiry ev → a.at.line < a.at.card.card.config.lines → Noted ev a → Walks a (happens ev a)
  unfolding after_all ArePrompt news
  walks-event ev a none within noted = record {
    steps = step_happens (octet_at a.at.line ev) ∷ [];
    leads = refl;
    prompt = ((within, none), tt);
    line = refl;
    more = told_by (answered ev a.at);
    grows = refl;
    fair = grind (arith, fair-both, told_by, answered, used-split, news_in, of_octets, octet_at);
  }

  -- or what is due falls due.
  walks-due : (a : TimedEndpoint) (x : Expiry) → due a.clock ≡ Some x → x.line ≡ a.at.line → Noted (port.expiry x.timer) a → Walks a (falls a x)
  unfolding after_all ArePrompt news
  walks-due a x is own noted = record {
    steps = falls_due ∷ [];
    leads = ap (λ o. option_map_or (with_expiry octets (card_of a)) o (card_of a)) is ∙ ap (λ line. with_expiry octets (card_of a) (record x { line = line })) own;
    prompt = (tt, tt);
    line = refl;
    more = told_by (answered (port.expiry x.timer) a.at);
    grows = refl;
    fair = grind (arith, news_in, of_octets, option_map, expiry_at, octets, due, used-split, octet_at, fair-both, told_by, answered);
  }

  module _ (c : Config) (ranged : IsInRange c) (lengths : Lengths) (rate : ℕ) where
    abbrev EndAt : ℕ → ℕ → TimedEndpoint → Type 0
    EndAt S M a = EndOk c service tei 0 ranged lengths rate S M a

    -- What is told by an event, of which no T200 of another link is one.
    module _ (a : TimedEndpoint) (ev : port.Event) (S M : ℕ) (h : EndBut c service tei 0 ranged lengths rate S M a)
        (ours : (what : line.Event) → meant_at (octet_at a.at.line ev) a.at.card ≡ Some what → (timer : Timer) → what ≡ line.expiry timer → is_timer_of service tei timer ≡ true) where
      abbrev noted_now : List Note
      noted_now = notes_in (answered ev a.at)

      told-fair : Noted ev a
      told-fair quiet = ap (list_any is_used_up) (codes-told (answered ev a.at)) ∙ go (meant_at (octet_at a.at.line ev) a.at.card) refl
        where
          go : (o : Option line.Event) → meant_at (octet_at a.at.line ev) a.at.card ≡ o → Used noted_now ≡ false
          go None is = ap Used (notes-are (octet_at a.at.line ev) a.at.card None is)
          go (Some what) is =
              let its = past c a h.ends.ran ev in let there = here-is c a h.ends.ran ev in
              let same : noted_now ≡ notes_of (machine.answer (frames.at a.at.line what) (frame_runs.after_all (cards.fresh c) its)) =
              notes-are (octet_at a.at.line ev) a.at.card (Some what) is ∙ ap (λ (card : Card). notes_of (machine.answer (frames.at a.at.line what) card)) there in
              ap Used same ∙ all-own c a.at.line ranged h.ends.ran.within its (all-past c a h.ends.ran ev) what (all-then c a h.ends.ran ev what is) service tei
              (ours what is) (subst (λ ns. Used (filter (is_news service tei) ns) ≡ false) same (ap (λ b. Used (cond b (filter (is_news service tei) noted_now) [])) (sym (eq-eqb a.at.line a.at.line refl)) ∙ quiet))

    -- So it is at an end, for anything but an expiry,
    pub event-walks : (ev : port.Event) (a : TimedEndpoint) (S M : ℕ) → EndAt S M a → IsNoExpiry ev → Walks a (happens ev a)
    event-walks ev a S M h none =
        walks-event ev a none h.but.clock.within
        (told-fair a ev S M h.but (λ what is timer same. absurd (none-means a.at.card.card.config.n201 ev (port_of a.at) timer none (is ∙ ap (λ what. Some what) same))))

    -- and for what is due, which is its own.
    pub due-walks : (a : TimedEndpoint) (S M : ℕ) → EndAt S M a → (x : Expiry) → due a.clock ≡ Some x → Walks a (falls a x)
    due-walks a S M h x is =
        walks-due a x is (first-of (λ x. x.line ≡ a.at.line) a.clock.running a.clock.now x h.but.clock.here is) (told-fair a (port.expiry x.timer) S M h.but (λ what means timer same.
        subst (λ t. is_timer_of service tei t ≡ true) (same-timer x.timer timer (means ∙ ap (λ what. Some what) same)) (first-of (RunsOurs service tei) a.clock.running a.clock.now x h.but.ours is)))
      where
        same-timer : (s t : Timer) → Some (line.expiry s) ≡ Some (line.expiry t) → s ≡ t
        same-timer s t is = cc is

    -- The moment comes, with what is asked and what falls due; an octet is pulled,
    module _ (transit moment n S M : ℕ) (rs : List Request) (a : TimedEndpoint) (h : EndAt S M a) (rests : Rests a) (low : a.clock.now ≤ moment) (high : moment ≤ a.clock.now + 1)
        (counts : Counts service tei transit lengths rate c ranged n a) (soon : n + 1 ≤ (moment + 1) * rate) (all : All (IsOfLink service tei) rs) where
      pub time-walks : Walks a (at_time moment a)
      time-walks = walks-still a (at_time moment a) (time-comes moment a rests low high).1 refl refl

      pub pulled-walks : Walks (at_time moment a) (happens port.pull (comes_to moment rs a))
      pulled-walks =
          let t = at_time moment a in let v = comes_to moment rs a in let ok = at-moment service tei transit lengths rate c ranged moment n S M rs a h rests low high counts soon all in
          let given = counts.given in
          let w = all-keep c service tei 0 ranged lengths rate (Walks t) (IsOfLink service tei) (λ r is. is)
          (λ r u S M ok g is w. walks-both t u (asks u r) w (event-walks (port.request r) u S M ok tt)) (λ x u S M ok g is w. walks-both t u (falls u x) w (due-walks u S M ok x is))
          S M moment rs all a ok (omega (arith, given, soon)) (walks-none t) in
          walks-both t v (happens port.pull v) w.1 (event-walks port.pull v w.0.S' M w.0.ok tt)

    -- and one is heard.
    pub heard-walks : (noise : Option ℕ) (way : List ℕ) (S M : ℕ) (a : TimedEndpoint) → EndAt S M a → Walks a (without_first_octet (hears_walk noise way a))
    heard-walks noise [] S M a h = let k = walks-none a in record { steps = k.steps; leads = k.leads; prompt = k.prompt; line = k.line; more = k.more; grows = k.grows; fair = k.fair }
    heard-walks noise (value ∷ more) S M a h =
        let k = event-walks (port.octet (unwrap_or noise value)) a S M h tt in record { steps = k.steps; leads = k.leads; prompt = k.prompt; line = k.line; more = k.more; grows = k.grows; fair = k.fair }

-- ---- in the first (N200 + 1) T200 of a call N200 is not used up, whatever noise there is

-- Beats of a call are fewer than so many milliseconds.
pub fewer : (n b rate X : ℕ) → 1 ≤ rate → b + rate ≤ X * rate → (n + b) / rate < n / rate + X
fewer n b rate h some short = grind (arith, lt-div-mul-add, mul-div-le, cases_lt, mul-le)

module _ (l : Line) (fit : IsFit l) where
  -- A beat at the near end, and from the moment on that it comes to.
  module _ (w : Clocked) (p : Pair l (begins_of fit) w) where
    near-time : Leads (card_of w.near) (card_of (at_time (w.beats / l.rate) w.near))
    near-time = (time-comes (w.beats / l.rate) w.near p.both.near (near-low l (begins_of fit) w p) (near-high l (begins_of fit) w p)).1

    module _ (b : Beat) (talk : IsTalk l b) where
      near-then : (Walks l.service l.tei (at_time (w.beats / l.rate) w.near) ((beat l.rate w b).near))
      near-then =
          let v = gone l.rate b w in let g = near-gone l (begins_of fit) w p b talk in
          walks-both l.service l.tei (at_time (w.beats / l.rate) w.near) v.near (beat l.rate w b).near
          (pulled-walks l.service l.tei l.near fit.call.near.0 l.lengths l.rate l.way (w.beats / l.rate) w.beats p.S p.M b.near_asks w.near p.near_ok p.both.near
          (near-low l (begins_of fit) w p) (near-high l (begins_of fit) w p) p.near_counts (soon l (begins_of fit) w) talk.0)
          (heard-walks l.service l.tei l.near fit.call.near.0 l.lengths l.rate b.near_noise v.far.at.way g.S' p.M v.near g.ok)

      near-beat : (Walks l.service l.tei w.near ((beat l.rate w b).near))
      near-beat =
          walks-both l.service l.tei w.near (at_time (w.beats / l.rate) w.near) (beat l.rate w b).near
          (time-walks l.service l.tei l.near fit.call.near.0 l.lengths l.rate l.way (w.beats / l.rate) w.beats p.S p.M b.near_asks w.near p.near_ok p.both.near
          (near-low l (begins_of fit) w p) (near-high l (begins_of fit) w p) p.near_counts (soon l (begins_of fit) w) talk.0)
          near-then

module _ (l : Line) (fit : IsFit l) where
  -- All beats.
  pub record BothWalk (w u : Clocked) : Type 0 where
    pub pair : Pair l (begins_of fit) u
    pub near : (Walks l.service l.tei w.near u.near)
    pub far : (Walks l.service l.tei w.far u.far)

  pub walks-all : (bs : List Beat) (w : Clocked) → Pair l (begins_of fit) w → All (IsTalk l) bs → AreClear l bs w → BothWalk w (after l.rate bs w)
  walks-all bs w p talk clear =
      clear-keeps l (IsTalk l) (BothWalk w)
      (λ b v t near far h. record {
        pair = pair-then l (begins_of fit) v h.pair b t near far;
        near = walks-both l.service l.tei w.near v.near (beat l.rate v b).near h.near (near-beat l fit v h.pair b t);
        far = walks-both l.service l.tei w.far v.far (beat l.rate v b).far h.far (near-beat (turned_line l) (fit-turned l fit) (turned_world v) (pair-turned l (begins_of fit) v h.pair) (turned_beat b) (t.1, t.0));
      }) bs talk w clear (record { pair = p; near = walks-none l.service l.tei w.near; far = walks-none l.service l.tei w.far })

  pub talk-of : (b : Beat) → AreAsked l b → IsTalk l b
  talk-of b asked = (all-of-link l fit b.near_asks asked.0, all-of-link l fit b.far_asks asked.1)

  pub talk-all : (bs : List Beat) → All (AreAsked l) bs → All (IsTalk l) bs
  talk-all = All-weaker (AreAsked l) (IsTalk l) talk-of

  pub calls-talk : (b : Beat) → AreAsked l b → IsTalk l (calls l b)
  calls-talk b asked = (All-cons (IsOfLink l.service l.tei) (Establish l.service l.tei) b.near_asks (refl, refl) (talk-of b asked).0, (talk-of b asked).1)

-- An end of which nothing was asked is in state 4, and no error was told there.
module _ (c : Config) (service : Service) (number tei : ℕ) (ranged : IsInRange c) (within : number < c.lines) (few : tei ≤ 126) (lengths : Lengths) (rate S M : ℕ) (a : TimedEndpoint)
    (ok : EndOk c service tei 0 ranged lengths rate S M a) (idle : IsIdle c number tei a) where
  its-fresh : ok.but.ends.its ≡ fresh_link
  its-fresh = sym ok.but.ends.stands.speaks.link ∙ ap (λ (x : FrameEndpoint). link_in (line_at x.line x.card) service 0) idle.same ∙ (answers service tei c ranged few number within).stands.speaks.link

  none-told : (call.assigned c number tei).told ≡ []
  none-told = let x = answers service tei c ranged few number within in x.told ∙ ap (map (data_told service tei)) (sym x.delivered)

  -- So it is for so long.
  module _ (line_is : a.at.line < c.lines) (moment : ℕ) (u : TimedEndpoint) (first : Leads (fresh_fair c lengths) (card_of (at_time moment a))) (x : Walks service tei (at_time moment a) u)
      (soon_now : u.clock.now < moment + tries c * lengths.t200) where
    abbrev Claim : TimedOctetCard → Type 0
    Claim t =
        ArePrompt octets 0 x.steps t → state a.at.line service tei t.card.card ≡ Some 4 → (after_all octets x.steps t).clock.now < t.clock.now + tries c * lengths.t200
        → Used (news of_octets service tei a.at.line x.steps t) ≡ false

    fair-then : IsFair u.at.told
    fair-then =
        x.fair (subst Claim first.leads (λ prompt at_4 soon. n200-takes-its-time-of-octets service c lengths 0 a.at.line tei 4 first.steps x.steps ranged line_is refl first.prompt prompt at_4 soon)
        x.prompt (state-here c service tei 0 ranged lengths rate a.at ok.but.ends ∙ ap (λ (x : Link). Some (state_number x.state)) its-fresh) (subst (λ (t : TimedOctetCard). t.clock.now < moment + tries c * lengths.t200) (sym x.leads) soon_now))
        (ap (list_any is_used_up) (sym (codes-heard a.at.told) ∙ ap codes (sym idle.heard) ∙ ap (λ ts. codes (heard_of ts)) none-told))

-- From a time on at which nothing was asked of the near end.
near-fair : (l : Line) (fit : IsFit l) (v : Clocked) (p : Pair l (begins_of fit) v) (b : Beat) (talk : IsTalk l b) → IsIdle l.near l.near_line l.tei v.near → (n : ℕ) → IsShortAt l n l.near l.lengths
    → (u : TimedEndpoint) → (Walks l.service l.tei ((beat l.rate v b).near) u) → (beats : ℕ) → beats ≡ v.beats + 1 + n → u.clock.now ≡ (beats - 1) / l.rate → IsFair u.at.told
near-fair l fit v p b talk idle n short u walk beats so_many now =
    let c = fit.call in let a = at_time (v.beats / l.rate) v.near in let now_is : u.clock.now ≡ (v.beats + n) / l.rate = now ∙ ap (λ k. k / l.rate) (omega (arith, so_many)) in
    fair-then l.near l.service l.near_line l.tei c.near.0 c.near.1 c.terminal l.lengths l.rate p.S p.M v.near p.near_ok idle p.near_ok.but.ends.ran.within (v.beats / l.rate) u
    (leads-both (fresh_fair l.near l.lengths) (card_of v.near) (card_of a) p.both.near_leads (near-time l fit v p))
    (walks-both l.service l.tei a (beat l.rate v b).near u (near-then l fit v p b talk) walk)
    (subst (λ n. n < v.beats / l.rate + tries l.near * l.lengths.t200) (sym now_is) (fewer v.beats n l.rate (tries l.near * l.lengths.t200) fit.some short))

both-fair : (l : Line) (bs : List Beat) (b : Beat) (fit : IsFit l) → All (AreAsked l) (b ∷ bs) → (v : Clocked) → IdleNow l fit v → AreClear l (calls l b ∷ bs) v → IsShortAt l (length bs) l.near l.lengths × IsShortAt l (length bs) l.far l.far_lengths
    → IsFair (after l.rate (calls l b ∷ bs) v).near.at.told × IsFair (after l.rate (calls l b ∷ bs) v).far.at.told
unfolding AreClear
both-fair l bs b fit all v idle clear short =
    let p = idle.pair in let now = calls l b in let u = beat l.rate v (calls l b) in let w = after l.rate bs u in let talk = calls-talk l fit b (All-head (AreAsked l) b bs all) in
    let rest = walks-all l fit bs u (pair-then l (begins_of fit) v p now talk clear.0 clear.1) (talk-all l fit bs (All-tail (AreAsked l) b bs all)) clear.2 in
    let so_many = beats-then l.rate bs u in (
      near-fair l fit v p now talk idle.near (length bs) short.0 w.near rest.near w.beats so_many rest.pair.both.near_now,
      near-fair (turned_line l) (fit-turned l fit) (turned_world v) (pair-turned l (begins_of fit) v p) (turned_beat now) (talk.1, talk.0) idle.far (length bs) short.1 w.far rest.far w.beats so_many rest.pair.both.far_now,
    )

pub n200-lasts-in-a-call : N200LastsInACall
n200-lasts-in-a-call l before bs b fit nothing all clear short =
    let v = after l.rate before (begins l) in let parts = clear-parts l before (calls l b ∷ bs) (begins l) clear in let idle = all-idle l fit before nothing (begins l) (idle-begins l fit) parts.0 in
    let both : after l.rate (before ++ calls l b ∷ bs) (begins l) ≡ after l.rate (calls l b ∷ bs) v = fold-append (beat l.rate) (begins l) before (calls l b ∷ bs) in
    let fair = both-fair l bs b fit all v idle parts.1 short in grind (arith, list_any, is_used_up, errors_at, list_any-append, after, calls)
