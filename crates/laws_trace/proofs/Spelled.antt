-- Each frame that begins on a line is one that the grammar has, of a service or of TEI management: the law.
use Rattle.laws_trace.proofs.Vocabulary.{◌≡◌, ◌≤◌, true, false, List, [], ◌∷◌, ◌++◌, slice_get, Option, Some, IfSome, option_map, refl, sym, subst, arith, All, option_or, flat_map-append, All-nil, All-head, All-append, Parts, Ui, sapi_of, Message, address_at, IsGiven, Given, Terms, given_is_frame, Config, next, gave, Line, UnitData, service_at, place_at, terms, link_at, Taken, with_unit}
use Rattle.laws_trace.proofs.Vocabulary.{unit_frame, taken, next_of, IsInRange, IsSoundAt, IsUnitData, round_below, terms_in_range, OfLink, of-links, fresh_is_sound, Card, ℕ, moments, unwrap_or, information_of, message_frame, Event, line_after as after, answer, with_message, IsSound, fresh, IsSpelled, FramesAreRead, AreAtLines, trace_frame_in as frame_in, Seen, seen, trace}
use Rattle.laws_trace.proofs.Vocabulary.{frames_begun, Always, given, frame_begun, CardEvent, sapi-small}
use Rattle.model_link.specs.Sound as link_sound
use Rattle.model_card.specs.Sound as card_sound
use Rattle.laws_trace.proofs.Runs.{run-shows}
use Rattle.laws_trace.proofs.Units.{given-frames, none-told, none-requested}
use Rattle.laws_trace.proofs.OfOctets.Seen.{begun_given}
use Rattle.laws_trace.proofs.ReadAgain.{message-text, own-text}
use Rattle.std.specs.Prelude.{Bool, cond}
use Rattle.model_teis.specs.network.Events as teis
use Rattle.model_teis.specs.terminal.Events as terminals
use Rattle.model_teis.specs.declared.terminal.messages.Message.{Message as OwnMessage}
use Rattle.model_teis.specs.terminal.Messages.{frame_of as own_frame_of, information_of as own_information_of}
use Rattle.model_line.specs.Line.{is_terminal, terminal_in}
use Rattle.model_line.specs.Taken.{message_taken, unit_taken, with_own_message}

-- messages of TEI management, and unit data
message-spelled : (c : Config) (m : Message) → IsSpelled c (message_frame c.side m)
message-spelled c m =
    let parts : Parts = record { address = record { sapi = 63; command = true; tei = 127 }; control = Ui false; info = information_of m } in
    (parts, record { is_frame = record { sapi = omega arith; tei = omega arith; kind = refl; size = refl }; octets_are = message-text c m }, refl)

own-spelled : (c : Config) (m : OwnMessage) → is_terminal c ≡ true → IsSpelled c (own_frame_of m)
own-spelled c m is =
    let parts : Parts = record { address = record { sapi = 63; command = true; tei = 127 }; control = Ui false; info = own_information_of m } in
    (parts, record { is_frame = record { sapi = omega arith; tei = omega arith; kind = refl; size = refl }; octets_are = own-text c m is }, refl)

unit-spelled : (c : Config) (u : UnitData) → u.tei ≤ 127 → IsSpelled c (unit_frame c u)
unit-spelled c u small =
    let parts : Parts = record { address = record { sapi = sapi_of u.service; command = true; tei = u.tei }; control = Ui false; info = u.contents } in
    (parts, record { is_frame = record { sapi = sapi-small u.service; tei = omega (arith, small); kind = refl; size = refl }; octets_are = refl }, (grind arith))

-- what a link gives
abbrev pub whole-parts : Terms → Given → Parts
whole-parts t g = record { address = address_at t g.frame.command; control = g.frame.control; info = unwrap_or g.contents [] }

module _ (c : Config) (ranged : IsInRange c) (l : Line) (s : IsSound c l) where
  abbrev Spelled : Taken → Type 0
  Spelled t = IsSpelled c t.frame

  known : (o : Option Given) (g : Given) (t : Terms) → o ≡ Some g → IfSome o (λ g. IsGiven t g.frame g.contents) → IsGiven t g.frame g.contents
  known o g t is h = subst (λ o. IfSome o (λ g. IsGiven t g.frame g.contents)) is h

  pub link-given : (t : Taken) → (x : OfLink c l t) → IsGiven (terms c (service_at x.number) x.tei) x.what.frame x.what.contents
  link-given t x =
      let own = terms c (service_at x.number) x.tei in
      let range = terms_in_range c ranged (service_at x.number) x.tei (s.management.table.range (place_at x.number) x.tei x.on_line) in
      let sound : link_sound.IsSound own (link_at x.number l) = subst (IsSoundAt c x.number (link_at x.number l)) x.on_line (s.links x.number x.few) in
      known (given own (link_at x.number l)) x.what own x.given (given_is_frame own range (link_at x.number l) sound)

  link-spelled : (t : Taken) → OfLink c l t → Spelled t
  link-spelled t x = subst Spelled (sym x.is) ((whole-parts (terms c (service_at x.number) x.tei) x.what, (record { is_frame = (link-given t x).whole; octets_are = refl }), (grind arith)))

  first-spelled : (o : Option Taken) → IfSome o (OfLink c l) → IfSome o Spelled
  first-spelled o x = grind (arith, link-spelled)

  either : (m rest : Option Taken) → IfSome m Spelled → IfSome rest Spelled → IfSome (option_or m rest) Spelled
  either m rest x y = grind arith

  of-unit : (us : List UnitData) → All (IsUnitData c) us → IfSome (option_map (with_unit c l) (slice_get us 0)) Spelled
  of-unit [] h = tt
  of-unit (u ∷ us) h = unit-spelled c u (All-head (IsUnitData c) u us h).tei

  of-message : (b : Bool) → is_terminal c ≡ b → IfSome (cond b (option_map (with_own_message l) (terminals.offered (terminal_in l))) (option_map (with_message l) (teis.offered c.side l.management))) Spelled
  of-message b is = grind (arith, slice_get, IfSome, option_map, own-spelled, message-spelled)

  taken-spelled : IfSome (taken c l) Spelled
  taken-spelled = grind (arith, either, message_taken, unit_taken, of-message, of-unit, first-spelled, of-links, round_below)

-- Of what begins in a trace.
abbrev AreSpelled : Config → Line → List Seen → Line → Type 0
AreSpelled c before t after = All (IsSpelled c) (frames_begun t)

rests : (c : Config) (l : Line) → AreSpelled c l [] l
rests c l = All-nil (IsSpelled c)

joins : (c : Config) (k l m : Line) (t u : List Seen) → AreSpelled c k t l → AreSpelled c l u m → AreSpelled c k (t ++ u) m
joins c k l m t u h i = subst (All (IsSpelled c)) (sym (flat_map-append frame_begun t u)) (All-append (IsSpelled c) (frames_begun t) (frames_begun u) h i)

by-next : (c : Config) (o : Option Taken) → IfSome o (λ t. IsSpelled c t.frame) → All (IsSpelled c) (frame_in (gave (option_map next_of o)))
by-next c o h = grind arith

event-spelled : (c : Config) → IsInRange c → (e : Event) (l : Line) → IsSound c l → AreSpelled c l (seen e (answer c e l)) (after c e l)
unfolding answer
event-spelled c ranged next l s = subst (All (IsSpelled c)) (sym (given-frames (option_map next_of (taken c l)))) (by-next c (taken c l) (taken-spelled c ranged l s))
event-spelled c ranged e l s = grind (arith, none-requested, none-told)

-- Nothing has to hold of a line.
abbrev pub Anything : Config → Line → Type 0
Anything c l = Unit {0}

steps : (c : Config) → IsInRange c → (e : Event) (l : Line) → IsSound c l → Anything c l
    → AreSpelled c l (seen e (answer c e l)) (after c e l) × Anything c (after c e l)
steps c ranged e l s h = (event-spelled c ranged e l s, tt)

pub run-spelled : (card : Card) (events : List CardEvent) (number : ℕ) → card_sound.IsSound card → AreAtLines card events → All (IsSpelled card.config) (frames_begun (trace number (moments card events)))
run-spelled card events number s all = (run-shows Anything AreSpelled rests joins steps card events number s all tt).0

pub frames-are-read : Always FramesAreRead
frames-are-read c events number ranged all within =
    subst (All (IsSpelled c)) (begun_given number (fresh c) events) (run-spelled (fresh c) events number (fresh_is_sound c ranged) all)
