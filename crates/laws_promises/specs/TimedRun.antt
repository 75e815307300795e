-- Whole lists of steps at a card that keeps its own timers, of whichever kind.
use Rattle.std.specs.Prelude.{◌≡◌, ℕ, ◌^◌, Bool, false, ◌||◌, nat_lt, nat_le, List, [], ◌∷◌, ◌++◌, Option, None, Some, option_to_list, if◌then◌else◌, Result, OnOk, OnErr}
use Rattle.model_card.specs.Counted.{all_counted}
use Rattle.model_card.specs.Run.{Moment}
use Rattle.model_timed.specs.Changes.{Marks, Seen}
unfoldable use Rattle.model_timed.specs.Changes.{marks_after}
use Rattle.model_timed.specs.Clock.{due}
use Rattle.model_timed.specs.Timed.{Kind, Timed, Step, happens, time, falls_due, after, after_all, event_of, events_of, expiry_at}
use Rattle.model_timed.specs.TimersAreTrue.{TimersAreTrue}
use Rattle.lapd_card.specs.Kinds.{config_of, counters_of, kind_of}
use Rattle.lapd_card.specs.Runs.{Runs}
use Rattle.lapd_card.specs.Sink.{one_failure_more}
use Rattle.lapd_card.specs.declared.sink.SinkFault.{SinkFault}
use Rattle.lapd_clock.specs.Timers.{Expiry}
use Rattle.lapd_timed.specs.Stands.{ChangesStandIn}
use Rattle.lapd_timed.specs.declared.timed_card.TimedCard.{TimedCard}
use Rattle.laws_promises.specs.TimedReply.{Answer, went, wrong_time, none_due, fell_due}

-- A moment is refused that is before the last, or from 2^63 milliseconds on. Then nothing changes.
abbrev pub is_wrong : ℕ → ℕ → Bool
is_wrong moment now = nat_lt moment now || nat_le (2 ^ 63) moment

abbrev pub is_refused : {Event : Type 0} → ℕ → Step Event → Bool
is_refused now (time moment) = is_wrong moment now
is_refused now other = false

abbrev pub served : {Card Event : Type 0} → Kind Card Event → Step Event → Timed Card → Timed Card
served k s t = if is_refused t.clock.now s then t else after k s t

unfoldable pub served_all : {Card Event : Type 0} → Kind Card Event → List (Step Event) → Timed Card → Timed Card
served_all k [] t = t
served_all k (s ∷ steps) t = served_all k steps (served k s t)

-- What each step is answered with, if an event of the card is answered so.
abbrev pub answer_due : {Card Event : Type 0} → Kind Card Event → (Event → Card → Answer) → Option Expiry → Card → Answer
answer_due k says None card = none_due
answer_due k says (Some x) card = fell_due x.timer (says (expiry_at k x) card)

abbrev pub answer : {Card Event : Type 0} → Kind Card Event → (Event → Card → Answer) → Step Event → Timed Card → Answer
answer k says (happens e) t = says e t.card
answer k says (time moment) t = if is_wrong moment t.clock.now then wrong_time else went
answer k says falls_due t = answer_due k says (due t.clock) t.card

-- The replies, each with its moment.
unfoldable pub replies : {Card Event : Type 0} → Kind Card Event → (Event → Card → Answer) → List (Step Event) → Timed Card → List (ℕ × Answer)
replies k says [] t = []
replies k says (s ∷ steps) t = ((served k s t).clock.now, answer k says s t) ∷ replies k says steps (served k s t)

-- The events of the card that the steps mean: what happens, and for each timer that falls due the event that it expires.
unfoldable pub events_in : {Card Event : Type 0} → Kind Card Event → List (Step Event) → Timed Card → List Event
events_in k [] t = []
events_in k (s ∷ steps) t = option_to_list (event_of k s t) ++ events_in k steps (served k s t)

-- The steps that are not refused. Where they lead, and which events they mean, `model_timed` says.
abbrev pub if_served : {Event : Type 0} → ℕ → Step Event → List (Step Event)
if_served now s = if is_refused now s then [] else s ∷ []

unfoldable pub steps_in : {Card Event : Type 0} → Kind Card Event → List (Step Event) → Timed Card → List (Step Event)
steps_in k [] t = []
steps_in k (s ∷ steps) t = if_served t.clock.now s ++ steps_in k steps (served k s t)

pub record AreSteps {Card Event : Type 0} (k : Kind Card Event) : Type 0 where
  pub leads : (steps : List (Step Event)) (t : Timed Card) → served_all k steps t ≡ after_all k (steps_in k steps t) t
  pub means : (steps : List (Step Event)) (t : Timed Card) → events_in k steps t ≡ events_of k (steps_in k steps t) t

-- What there is to say of a kind beside its timed machine: which card of frames is in it, for which machines a card stands, what it
-- says to an event, where a list of events leads, and which moments of the card of frames its counters count of it.
pub record DrivenKind (Card Event : Type 0) : Type 1 where
  pub kind : Kind Card Event
  pub sees : Seen Card
  pub Stand : TimedCard → Timed Card → Type 0
  pub says : Event → Card → Answer
  pub leads : Card → List Event → Card
  pub counts : Card → List Event → List Moment

-- The events that steps mean were counted. And what is noted of the links, if it was so of those of the card, has become what it is
-- after the steps that are not refused.
pub record IsKept {Card Event : Type 0} (d : DrivenKind Card Event) (old new : TimedCard) (t : Timed Card) (steps : List (Step Event)) : Type 0 where
  pub counted : counters_of new.card ≡ all_counted (counters_of old.card) (d.counts t.card (events_in d.kind steps t))
  pub noted : (marks : Marks) → ChangesStandIn old.timers (d.sees t.card) marks
      → ChangesStandIn new.timers (d.sees (served_all d.kind steps t).card) (marks_after d.kind d.sees (steps_in d.kind steps t) t marks)

-- A list of steps was run at a card. In place of the line of an event, a reply has its moment.
abbrev pub HasRunAs : {Card Event K : Type 0} → DrivenKind Card Event → (K → ℕ → Answer → K → Type 0) → (K → ℕ → Answer → K → Type 0) → (K → ℕ) → TimedCard → TimedCard
    → List (Step Event) → K → K → Result ℕ SinkFault → Type 0
HasRunAs d takes misses failures old new =
    Runs takes misses failures (d.Stand old) (d.Stand new) (λ t steps. served_all d.kind steps t) (λ t steps. replies d.kind d.says steps t)
    (λ t steps. IsKept d old new t steps)

-- What holds of all steps of a kind.
pub record KeepsTime {Card Event : Type 0} (d : DrivenKind Card Event) : Type 0 where
  -- The card is where the timed machine is after the steps that are not refused, and they mean these events.
  pub machine : AreSteps d.kind
  -- Without its timers the card is where these events lead it.
  pub leads : (t : Timed Card) (steps : List (Step Event)) → (served_all d.kind steps t).card ≡ d.leads t.card (events_in d.kind steps t)
  -- Its timers are true.
  pub timers_are_true : TimersAreTrue d.kind

-- One step: it leads a card from one value to another of its kind, and what it means is counted and noted. A sink was handed its reply with
-- its moment, or missed it and counts one failure more.
pub record Serves {Card Event K : Type 0} (d : DrivenKind Card Event) (takes misses : K → ℕ → Answer → K → Type 0) (failures : K → ℕ) (s : Step Event) (old new : TimedCard) (before later : K)
    {E : Type 0} (result : Result Unit E) : Type 0 where
  pub kind : kind_of new.card ≡ kind_of old.card
  pub config : config_of new.card ≡ config_of old.card
  pub stands : (t : Timed Card) → d.Stand old t → d.Stand new (served d.kind s t)
  pub counted : (t : Timed Card) → d.Stand old t → counters_of new.card ≡ all_counted (counters_of old.card) (d.counts t.card (option_to_list (event_of d.kind s t)))
  pub noted : (t : Timed Card) (marks : Marks) → d.Stand old t → ChangesStandIn old.timers (d.sees t.card) marks
      → ChangesStandIn new.timers (d.sees (served d.kind s t).card) (marks_after d.kind d.sees (if_served t.clock.now s) t marks)
  pub failed : OnErr result (failures later ≡ one_failure_more (failures before))
  pub not_failed : OnOk result (failures later ≡ failures before)
  pub taken : OnOk result ((t : Timed Card) → d.Stand old t → takes before (served d.kind s t).clock.now (answer d.kind d.says s t) later)
  pub not_taken : OnErr result ((t : Timed Card) → d.Stand old t → misses before (served d.kind s t).clock.now (answer d.kind d.says s t) later)
