-- Where the contents that are granted, and the frames that are heard, are octets, so are those of each frame that
-- begins: the law.
use Rattle.laws_trace.proofs.Vocabulary.{◌≡◌, ℕ, zero, suc, ◌<◌, ◌≤◌, Bool, true, false, cond, List, [], ◌∷◌, ◌++◌, drop, get_or, replicate, slice_get, Option, Some, None, IfSome, option_map, refl, sym, ap, ◌∙◌, subst, arith, ◌⊎◌, inl, inr, All, option_map_or, flat_map-append, get_or-replicate, All-nil, All-head, All-tail, All-append, All-drop, AreOctets, Address, Side, Service}
use Rattle.laws_trace.proofs.Vocabulary.{action_of, Message, accepted, share, IsOffered, Carries, number_sent, kept-after, given-is-offered, Seq, Link, queue_of, address_at, Given, Terms, Config, request, next, Answer, gave, Line, UnitData, service_at, place_at, place_in, tei_at, link_at, link_in, link_of, terms, fresh_line, Taken, with_unit, unit_frame, taken, next_of}
use Rattle.laws_trace.proofs.Vocabulary.{line_of, IsInRange, IsSoundAt, IsUnitData, round_below, units_asked, is_granted, IsBy, OfLink, of-links, IsOne, taken-one, has-place, units-wait, number-is, fresh_is_sound, head, unwrap_or, Control, head_of, message_frame, fresh_link, Event, line_after as after, answer, with_message, Request, IsSound, fresh, all-left as all-front, all-right as all-back}
use Rattle.laws_trace.proofs.Vocabulary.{contents_given, GivesOctets, FramesAreOctets, trace_frame_in as frame_in, Seen, seen_told, seen, frames_begun, Always, units_left, frame_begun, seen_granted, LinkEvent, sapi-small, Sender, spelling, renamed, exchanged-small, own_side, sapi_of, Ui}
use Rattle.model_link.specs.Machine as links
use Rattle.model_link.specs.Sound as link_sound
use Rattle.laws_trace.proofs.OneLink.{Goes, event-goes}
use Rattle.laws_trace.proofs.Runs.{run-shows}
use Rattle.model_teis.specs.network.Events as teis
use Rattle.model_teis.specs.terminal.Events as terminals
use Rattle.model_teis.specs.terminal.Messages.{action_of as own_action_of, frame_of as own_frame_of}
use Rattle.model_teis.specs.declared.terminal.messages.Message.{Message as OwnMessage}
use Rattle.model_teis.proofs.OfTerminal.SoundWords.{low_front}
use Rattle.model_line.specs.Line.{is_terminal, terminal_in}
use Rattle.model_line.specs.Sound.{IsOfSide}
use Rattle.model_line.specs.Taken.{message_taken, unit_taken, with_own_message}
use Rattle.model_line.proofs.TakenWalk.{either}
use Rattle.laws_trace.proofs.SmallMessages.{IsSmall}
use Rattle.laws_trace.proofs.SmallMessagesWait.{MessagesAreSmall, fresh-small, messages-after}
use Rattle.laws_trace.proofs.SmallOwn.{IsSmall as IsOwnSmall}
use Rattle.laws_trace.proofs.Units.{none-told, none-requested, given-frames}
use Rattle.laws_trace.proofs.Spelled.{Anything}
use Rattle.laws_trace.proofs.LineAtEnd.{link-at-end}

abbrev IsUnit : UnitData → Type 0
IsUnit u = AreOctets u.contents

-- What a line keeps are octets.
record AreKept (l : Line) : Type 0 where
  messages : MessagesAreSmall l
  units : All IsUnit l.units
  links : (service : Service) (tei : ℕ) → All AreOctets (queue_of (link_of service tei l))

-- What begins: a head, and information of octets.
whole-octets : (side : Side) (a : Address) (c : Control) (info : List ℕ) → a.sapi < 64 → a.tei < 128 → AreOctets info → AreOctets (head_of side a c ++ info)
whole-octets side a c info sapi tei h = All-append (λ octet. octet < 256) (head_of side a c) info (head side a c sapi tei) h

named-octets : (sender : Sender) (a : Address) (c : Control) (info : List ℕ) → a.sapi < 64 → a.tei < 128 → AreOctets info
    → AreOctets (spelling sender (record { address = a; control = c; info = info }))
named-octets sender a c info sapi tei h = whole-octets sender.side (renamed sender.sapi a) c info (exchanged-small sender.sapi a.sapi sapi) tei h

-- the contents at V(S) are among those that are kept
at-any : (xs : List (List ℕ)) (i : ℕ) (x : List ℕ) → All AreOctets xs → slice_get xs i ≡ Some x → AreOctets x
at-any [] i x h is = absurd (cc is)
at-any (y ∷ xs) zero x h is = let same : y ≡ x = cc is in subst AreOctets same (All-head AreOctets y xs h)
at-any (y ∷ xs) (suc i) x h is = at-any xs i x (All-tail AreOctets y xs h) is

among-kept : (xs : List (List ℕ)) (a s : ℕ) (x : List ℕ) → All AreOctets (drop a xs) → a ≤ s → slice_get xs s ≡ Some x → AreOctets x
among-kept xs zero s x h low is = at-any xs s x h is
among-kept [] (suc a) s x h low is = absurd (cc is)
among-kept (y ∷ xs) (suc a) zero x h low is = absurd (omega (arith, low))
among-kept (y ∷ xs) (suc a) (suc s) x h low is = among-kept xs a s x h (omega (arith, low)) is

offered-octets : (contents : List (List ℕ)) (a s : ℕ) (o : Option Seq) (given : Option (List ℕ)) → All AreOctets (drop a contents) → a ≤ s
    → elim o as (λ o. Type 0) [ None ↦ given ≡ None | Some ns ↦ Carries contents s ns given ] → AreOctets (unwrap_or given [])
offered-octets contents a s None given h low is = subst (λ o. AreOctets (unwrap_or o [])) (sym is) (All-nil (λ octet. octet < 256))
offered-octets contents a s (Some ns) given h low x =
    subst (λ o. AreOctets (unwrap_or o [])) (sym x.is) (among-kept contents a s x.information h low x.among)

module _ (c : Config) (ranged : IsInRange c) (l : Line) (s : IsSound c l) (k : AreKept l) where
  abbrev IsExact : Taken → Type 0
  IsExact t = AreOctets t.frame

  message-exact : (m : Message) → IsSmall m → action_of m ≤ 127 → AreOctets (message_frame c.side m)
  message-exact m small low = grind (arith, whole-octets)

  own-exact : (m : OwnMessage) → IsOwnSmall m → own_action_of m < 128 → AreOctets (own_frame_of m)
  own-exact m small low = grind (arith, whole-octets)

  unit-exact : (u : UnitData) → u.tei ≤ 127 → IsUnit u → AreOctets (unit_frame c u)
  unit-exact u low h = named-octets (own_side c) (record { sapi = sapi_of u.service; command = true; tei = u.tei }) (Ui false) u.contents (sapi-small u.service) (omega (arith, low)) h

  -- the link at its number is that of its service with its TEI
  kept-at : (number tei : ℕ) → tei_at (place_at number) l ≡ Some tei → All AreOctets (queue_of (link_at number l))
  kept-at number tei on =
      let at = has-place l.management.places tei (place_at number) s.management.table on in
      subst (λ (x : Link). All AreOctets (queue_of x))
      (ap (λ o. option_map_or (link_in l (service_at number)) o fresh_link) at ∙ ap (λ n. link_at n l) (number-is number)) (k.links (service_at number) tei)

  from-offered : (t : Terms) (x : Link) (o : Option Given) (g : Given) → o ≡ Some g → IfSome o (λ g. IsOffered x.contents x.s g.frame g.contents) → IsOffered x.contents x.s g.frame g.contents
  from-offered t x o g is h = subst (λ o. IfSome o (λ g. IsOffered x.contents x.s g.frame g.contents)) is h

  link-exact : (t : Taken) → OfLink c l t → IsExact t
  link-exact t x =
      let own = terms c (service_at x.number) x.tei in
      let own-link = link_at x.number l in
      let sound : link_sound.IsSound own own-link = subst (IsSoundAt c x.number own-link) x.on_line (s.links x.number x.few) in
      let range = s.management.table.range (place_at x.number) x.tei x.on_line in
      let offered = from-offered own own-link (links.given own own-link) x.what x.given (given-is-offered own own-link sound) in
      subst IsExact (sym x.is)
      (named-octets (own_side c) (address_at own x.what.frame.command) x.what.frame.control (unwrap_or x.what.contents []) (sapi-small (service_at x.number)) (omega (arith, range))
      (offered-octets own-link.contents own-link.a own-link.s (number_sent x.what.frame.control) x.what.contents (kept-at x.number x.tei x.on_line) sound.ordered offered))

  first-exact : (o : Option Taken) → IfSome o (OfLink c l) → IfSome o IsExact
  first-exact o x = grind (arith, link-exact)

  of-message : (ms : List Message) → All IsSmall ms → All (λ m. action_of m ≤ 127) ms → IfSome (option_map (with_message l) (option_map (message_frame c.side) (slice_get ms 0))) IsExact
  of-message [] small low = tt
  of-message (m ∷ ms) small low = message-exact m (All-head IsSmall m ms small) (All-head (λ m. action_of m ≤ 127) m ms low)

  of-own : (ms : List OwnMessage) → All IsOwnSmall ms → ((m : OwnMessage) → slice_get ms 0 ≡ Some m → own_action_of m < 128)
      → IfSome (option_map (with_own_message l) (option_map own_frame_of (slice_get ms 0))) IsExact
  of-own [] small low = tt
  of-own (m ∷ ms) small low = own-exact m (All-head IsOwnSmall m ms small) (low m refl)

  by-message : (b : Bool) → is_terminal c ≡ b → IfSome (cond b (option_map (with_own_message l) (terminals.offered (terminal_in l))) (option_map (with_message l) (teis.offered c.side l.management))) IsExact
  by-message true is =
      let both = subst (λ b. IsOfSide b l.management l.own) is s.own in
      of-own l.own.waiting k.messages.own.all (λ m first. low_front (terminal_in l) m both.0 first)
  by-message false net = of-message l.management.waiting k.messages.messages s.management.queue.actions

  by-unit : (us : List UnitData) → All (IsUnitData c) us → All IsUnit us → IfSome (option_map (with_unit c l) (slice_get us 0)) IsExact
  by-unit [] units octets = tt
  by-unit (u ∷ us) units octets = unit-exact u (All-head (IsUnitData c) u us units).tei (All-head IsUnit u us octets)

  taken-exact : IfSome (taken c l) IsExact
  taken-exact = grind (arith, either, message_taken, unit_taken, by-message, by-unit, first-exact, of-links, round_below)

by-next : (o : Option Taken) → IfSome o (λ t. AreOctets t.frame) → All AreOctets (frame_in (gave (option_map next_of o)))
by-next o h = grind arith

event-exact : (c : Config) → IsInRange c → (e : Event) (l : Line) → IsSound c l → AreKept l → All AreOctets (frames_begun (seen e (answer c e l)))
unfolding answer
event-exact c ranged e l s k = grind (arith, given-frames, option_map, next_of, taken, by-next, taken-exact, none-requested, none-told)

-- What a link keeps, where what is granted are octets.
granted-seen : (r : Request) (a : Answer) → is_granted a ≡ true → All GivesOctets (seen_granted r a ++ seen_told a) → AreOctets (contents_given r)
granted-seen r a is h = grind arith

module _ (c : Config) (e : Event) (l : Line) (s : IsSound c l) (ranged : IsInRange c) (k : AreKept l) (gives : All GivesOctets (seen e (answer c e l))) (service : Service) (tei : ℕ) where
  accepted-octets : (t : Terms) (x : Link) (event : LinkEvent) → IsBy c e (answer c e l) service tei event → All AreOctets (accepted t event x)
  accepted-octets t x event by = grind (arith, granted-seen)

  left-octets : (b : Bool) (n : ℕ) (kept more : List (List ℕ)) → All AreOctets kept → All AreOctets more → All AreOctets (cond b [] (drop n kept ++ more))
  left-octets true n kept more h i = All-nil AreOctets
  left-octets false n kept more h i = All-append AreOctets (drop n kept) more (All-drop AreOctets n kept h) i

  abbrev own : Link
  own = link_of service tei l

  stays : (link_of service tei (after c e l) ≡ own) ⊎ (link_of service tei (after c e l) ≡ fresh_link) → All AreOctets (queue_of (link_of service tei (after c e l)))
  stays (inl same) = subst (λ (x : Link). All AreOctets (queue_of x)) (sym same) (k.links service tei)
  stays (inr gone) = subst (λ (x : Link). All AreOctets (queue_of x)) (sym gone) (All-nil AreOctets)

  link-after : Goes c service tei e l (after c e l) (answer c e l) → All AreOctets (queue_of (link_of service tei (after c e l)))
  link-after (inl x) = stays x.is
  link-after (inr (inr x)) = stays (inr x.is)
  link-after (inr (inl x)) =
      let t = terms c service tei in
      subst (λ (y : Link). All AreOctets (queue_of y)) (sym x.is)
      (subst (All AreOctets) (sym (kept-after t x.event own (link-at-end c l ranged s service tei x.place x.placed)))
      (left-octets (share t x.event own).empties (share t x.event own).acknowledged (queue_of own) (accepted t x.event own) (k.links service tei) (accepted-octets t own x.event x.by)))

-- The unit data that waits then.
by-grant : (r : Request) (a : Answer) → All GivesOctets (seen_granted r a ++ seen_told a) → All IsUnit (units_asked (request r) a)
by-grant r a h = grind (arith, granted-seen)

next-units : (c : Config) (l : Line) → IsSound c l → All IsUnit l.units → All IsUnit (option_map_or line_of (taken c l) l).units
next-units c l s h = go (taken c l) (taken-one c l s)
  where
    took : (t : Taken) → IsOne c l t → All IsUnit t.line.units
    took t (inl x) = subst (λ (u : Taken). All IsUnit u.line.units) (sym x.is) h
    took t (inr (inl x)) = subst (λ (u : Taken). All IsUnit u.line.units) (sym x.1) (All-drop IsUnit 1 l.units h)
    took t (inr (inr x)) = subst (λ (u : Taken). All IsUnit u.line.units) (sym x.is) h

    go : (o : Option Taken) → IfSome o (IsOne c l) → All IsUnit (option_map_or line_of o l).units
    go o x = grind (arith, took)

units-after : (c : Config) (e : Event) (l : Line) → IsSound c l → All GivesOctets (seen e (answer c e l)) → All IsUnit l.units → All IsUnit (after c e l).units
unfolding after
units-after c (request r) l s gives h =
    subst (All IsUnit) (sym (units-wait c (request r) l)) (All-append IsUnit (units_left r (answer c (request r) l) l.units) (units_asked (request r) (answer c (request r) l)) (grind arith) (by-grant r (answer c (request r) l) gives))
units-after c next l s gives h = next-units c l s h
units-after c other l s gives h = subst (All IsUnit) (sym (units-wait c other l)) h

-- Of a trace.
abbrev AreExact : Config → Line → List Seen → Line → Type 0
AreExact c before t after = All GivesOctets t → AreKept before → All AreOctets (frames_begun t) × AreKept after

rests : (c : Config) (l : Line) → AreExact c l [] l
rests c l gives k = (All-nil AreOctets, k)

joins : (c : Config) (k l m : Line) (t u : List Seen) → AreExact c k t l → AreExact c l u m → AreExact c k (t ++ u) m
joins c k l m t u h i gives kept =
    let first = h (all-front GivesOctets t u gives) kept in
    let second = i (all-back GivesOctets t u gives) first.1 in (
      subst (All AreOctets) (sym (flat_map-append frame_begun t u)) (All-append AreOctets (frames_begun t) (frames_begun u) first.0 second.0),
      second.1,
    )

steps : (c : Config) → IsInRange c → (e : Event) (l : Line) → IsSound c l → Anything c l
    → AreExact c l (seen e (answer c e l)) (after c e l) × Anything c (after c e l)
steps c ranged e l s h = (
  λ gives k. (
    event-exact c ranged e l s k,
    record {
      messages = messages-after c e l (answer c e l) s gives k.messages;
      units = units-after c e l s gives k.units;
      links = λ service tei. link-after c e l s ranged k gives service tei (event-goes c e l service tei s);
    },
  ),
  tt,
)

fresh-kept : (c : Config) → AreKept (fresh_line c)
fresh-kept c = record { messages = fresh-small c; units = All-nil IsUnit; links = λ service tei. by-place service (place_in (fresh_line c) tei) }
  where
    by-place : (service : Service) (o : Option ℕ) → All AreOctets (queue_of (option_map_or (link_in (fresh_line c) service) o fresh_link))
    by-place service None = All-nil AreOctets
    by-place service (Some place) = grind (arith, all-fresh)
      where
        all-fresh : (n i : ℕ) → get_or (replicate n fresh_link) i fresh_link ≡ fresh_link
        all-fresh (suc n) (suc i) = all-fresh n i
        all-fresh other any = refl

pub frames-are-octets : Always FramesAreOctets
frames-are-octets c events number ranged all within gives =
    ((run-shows Anything AreExact rests joins steps (fresh c) events number (fresh_is_sound c ranged) all tt).0 gives
    (subst AreKept (sym (get_or-replicate c.lines number (fresh_line c) (fresh_line c) within)) (fresh-kept c))).0
