-- Which links each event of a line leaves as they stand.
use Rattle.std.proofs.Common.{◌≡◌, ℕ, ◌/◌, ◌<◌, List, Option, Some, None, refl, sym, subst}
use Rattle.std.specs.Prelude.{slice_index, false}
use Rattle.std.proofs.lemmas.Option.{none-some, same_Some}
use Rattle.lapd_clock.specs.Timer.{Timer, T200, T203, T201, T202}
use Rattle.lapd_frame.specs.declared.refusals.Refusal.{Refusal}
use Rattle.lapd_frame.specs.declared.services.Service.{Service}
use Rattle.model_bits.specs.Stream as stream
use Rattle.model_bits.specs.declared.heard.Cause.{Cause}
use Rattle.model_link.specs.Events as link
use Rattle.model_link.specs.declared.timers.LinkTimer.TheVariants as link_timer
use Rattle.model_line.specs.Came.{came}
use Rattle.model_line.specs.Effect.{at_units, of_aim}
use Rattle.model_card.specs.Card.{Card, line_at}
use Rattle.model_card.specs.Event as card_event
use Rattle.model_card.specs.Machine as machine
use Rattle.model_card.specs.Reached.{IsReached}
use Rattle.model_card.proofs.Reaching.{reached-sound}
use Rattle.model_card.proofs.Steps.{has_lines, by_line}
use Rattle.lapd_timed.proofs.Touched.{untouched}
use Rattle.model_line.specs.Event.{hears, expiry, request, refused}
use Rattle.model_line.specs.Expiry.{aim_of_expiry}
use Rattle.model_line.specs.Heard.{aim_of_heard}
use Rattle.model_line.specs.Line.{Line, UnitData, place_in}
use Rattle.model_line.specs.Machine.{after, answer, unless_refused, unless_refused_told}
use Rattle.model_line.specs.Refusal.{refusal}
use Rattle.model_line.specs.Request.{Request, Establish, Release, Data, Unit, Assign, Remove, Check, Disown, AskTei, VerifyTei, SetBusy, ClearBusy, Deactivate, Down}
use Rattle.model_line.specs.Requested.{aim_of_request, at_requested, at_deactivated}
use Rattle.model_line.specs.Sides.{group_tei}
use Rattle.model_line.specs.declared.config.Config.{Config}
use Rattle.model_timed.specs.Changes.{standing}
use Rattle.lapd_timed.specs.Touches.{touched_by, touched_by_timer}
use Rattle.lapd_timed.specs.Named.{Names}
use Rattle.model_line.proofs.ProperAims.{heard_proper, expiry_proper, request_proper}
use Rattle.lapd_timed.proofs.Touching.{IsFor, KeepsOthers, keeps-others, heard-for, came-names, timer-for, request-for, deactivated-for, granted-for}

-- what is heard
pub heard-keeps : (e : stream.Event) (tei : ℕ) → Names tei e → (c : Config) (l : Line) → KeepsOthers tei c l (after c (hears e) l)
unfolding after
heard-keeps e tei names c l = keeps-others c tei l (aim_of_heard c l e) (heard_proper c l e) (heard-for c l tei e names)

pub frame-keeps : (n201 : ℕ) (octets : List ℕ) (tei : ℕ) → tei ≡ slice_index octets 1 / 2 → (c : Config) (l : Line) → KeepsOthers tei c l (after c (hears (came n201 octets)) l)
frame-keeps n201 octets tei is c l = heard-keeps (came n201 octets) tei (subst (λ n. Names n (came n201 octets)) (sym is) (came-names n201 octets)) c l

-- what is dropped
pub dropped-keeps : (cause : Cause) (c : Config) (l : Line) (number : ℕ) → standing number (after c (hears (stream.dropped cause)) l) ≡ standing number l
unfolding after
dropped-keeps cause c l number = refl

-- a timer that expires
for-timer : (timer : Timer) (l : Line) → IsFor (touched_by_timer timer) l (aim_of_expiry timer l)
for-timer (T200 service tei) l = timer-for l service tei link_timer.T200 (place_in l tei) refl
for-timer (T203 service tei) l = timer-for l service tei link_timer.T203 (place_in l tei) refl
for-timer T201 l = refl
for-timer T202 l = refl

pub expiry-keeps : (timer : Timer) (c : Config) (l : Line) → KeepsOthers (touched_by_timer timer) c l (after c (expiry timer) l)
unfolding after
expiry-keeps timer c l = keeps-others c (touched_by_timer timer) l (aim_of_expiry timer l) (expiry_proper c l timer) (for-timer timer l)

-- a request
module _ (l : Line) (tei : ℕ) where
  of-link : (service : Service) (its : ℕ) (what : link.Request) → Some its ≡ Some tei → IsFor tei l (at_requested service its what (place_in l its))
  of-link service its what is = subst (λ n. IsFor n l (at_requested service its what (place_in l its))) (same_Some its tei is) (request-for l service its what (place_in l its) refl)

  group : Some group_tei ≡ Some tei → tei ≡ group_tei
  group is = sym (same_Some group_tei tei is)

  for-request : (r : Request) → touched_by r ≡ Some tei → IsFor tei l (aim_of_request r l)
  for-request (Establish service its) is = of-link service its link.Establish is
  for-request (Release service its) is = of-link service its link.Release is
  for-request (Data service its contents) is = of-link service its (link.Data contents) is
  for-request (Unit service its contents) is = tt
  for-request (SetBusy service its) is = of-link service its link.SetBusy is
  for-request (ClearBusy service its) is = of-link service its link.ClearBusy is
  for-request (Deactivate service its) is = subst (λ n. IsFor n l (at_deactivated service its (place_in l its))) (same_Some its tei is) (deactivated-for l service its (place_in l its) refl)
  for-request (Assign its) is = group is
  for-request (Remove its) is = group is
  for-request (Check its) is = group is
  for-request (Disown its) is = group is
  for-request AskTei is = group is
  for-request (VerifyTei its) is = group is
  for-request Down is = group is

pub request-keeps : (r : Request) (tei : ℕ) → touched_by r ≡ Some tei → (c : Config) (l : Line) → KeepsOthers tei c l (after c (request r) l)
unfolding after
request-keeps r tei is c l =
    keeps-others c tei l (unless_refused (refusal c false r l) (aim_of_request r l)) (request_proper c l r) (granted-for tei l (refusal c false r l) (aim_of_request r l) (for-request l tei r is))

-- and one of unit data
unit-stays : (c : Config) (l : Line) (number : ℕ) (o : Option Refusal) (unit : UnitData) → standing number (of_aim c (unless_refused o (at_units unit)) l).line ≡ standing number l
unit-stays c l number None unit = refl
unit-stays c l number (Some why) unit = refl

pub unit-keeps : (r : Request) → touched_by r ≡ None → (c : Config) (l : Line) (number : ℕ) → standing number (after c (request r) l) ≡ standing number l
unfolding after
unit-keeps (Unit service its contents) is c l number = unit-stays c l number (refusal c false (Unit service its contents) l) (record { service = service; tei = its; contents = contents })
unit-keeps (Establish service its) is c l number = absurd (none-some its (sym is))
unit-keeps (Release service its) is c l number = absurd (none-some its (sym is))
unit-keeps (Data service its contents) is c l number = absurd (none-some its (sym is))
unit-keeps (SetBusy service its) is c l number = absurd (none-some its (sym is))
unit-keeps (ClearBusy service its) is c l number = absurd (none-some its (sym is))
unit-keeps (Deactivate service its) is c l number = absurd (none-some its (sym is))
unit-keeps (Assign its) is c l number = absurd (none-some group_tei (sym is))
unit-keeps (Remove its) is c l number = absurd (none-some group_tei (sym is))
unit-keeps (Check its) is c l number = absurd (none-some group_tei (sym is))
unit-keeps (Disown its) is c l number = absurd (none-some group_tei (sym is))
unit-keeps AskTei is c l number = absurd (none-some group_tei (sym is))
unit-keeps (VerifyTei its) is c l number = absurd (none-some group_tei (sym is))
unit-keeps Down is c l number = absurd (none-some group_tei (sym is))

-- and one that is refused
refused-line : (c : Config) (r : Request) (l : Line) (why : Refusal) (number : ℕ) → answer c (request r) l ≡ refused why → standing number (after c (request r) l) ≡ standing number l
unfolding answer after
refused-line c r l why number = go (refusal c false r l)
  where
    go : (o : Option Refusal) → unless_refused_told o (of_aim c (unless_refused o (aim_of_request r l)) l) ≡ refused why → standing number (of_aim c (unless_refused o (aim_of_request r l)) l).line ≡ standing number l
    go None is = absurd (cc)
    go (Some other) is = refl

pub refused-keeps : (m : Card) → IsReached m → (at : ℕ) → at < m.config.lines → (r : Request) (why : Refusal) → machine.answer (card_event.at at (request r)) m ≡ refused why
    → (other number : ℕ) → standing number (line_at other (machine.after (card_event.at at (request r)) m)) ≡ standing number (line_at other m)
refused-keeps m reached at here r why is other number =
    by_line m (card_event.at at (request r)) other (has_lines m (reached-sound m reached)) here (λ b l a. a ≡ refused why → standing number l ≡ standing number (line_at other m)) (λ a _. refl) (λ full _. refl)
    (λ same room told. refused-line m.config r (line_at other m) why number told) is

pub unit-stays-on : (m : Card) → IsReached m → (at : ℕ) → at < m.config.lines → (r : Request) → touched_by r ≡ None
    → (other number : ℕ) → standing number (line_at other (machine.after (card_event.at at (request r)) m)) ≡ standing number (line_at other m)
unit-stays-on m reached at here r none other number =
    untouched m (reached-sound m reached) (card_event.at at (request r)) here 0 0 (λ n. unit-keeps r none m.config (line_at at m) n) other number
