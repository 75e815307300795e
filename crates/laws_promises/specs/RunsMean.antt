-- What a run of a list of events hands its sink, at a card of frames and at a card of either kind with timers of its own; and which
-- events such a list may have.
use Rattle.std.specs.Prelude.{◌≡◌, ℕ, ◌<◌, ◌+◌, ◌^◌, ◌||◌, nat_lt, nat_le, min, Bool, List, [], ◌∷◌, ◌++◌, map, Ok, None, Some, option_to_list, if◌then◌else◌}
use Rattle.std.specs.Borrow.{Bor}
use Rattle.lapd_frame.specs.declared.refusals.Refusal.{Refusal}
use Rattle.lapd_frame.specs.declared.timers.Order.{Order}
use Rattle.lapd_store.specs.Store.{Store}
use Rattle.lapd_card.specs.Counted.{counters_in}
use Rattle.lapd_card.specs.Card as octet_card
use Rattle.lapd_card.specs.Drive as drive
use Rattle.lapd_card.specs.FrameCard as frame_card
use Rattle.lapd_card.specs.FrameCard.{Held}
use Rattle.lapd_card.specs.FrameStands.{FrameStands}
use Rattle.lapd_card.specs.Kinds.{config_of, kind_of, line_count, shelf_of}
use Rattle.lapd_card.specs.Sink.{MissesNext, one_failure_more}
use Rattle.lapd_card.specs.Stands.{OctetCardStands}
use Rattle.lapd_card.specs.declared.kinds.AnyCard.{AnyCard}
use Rattle.lapd_clock.specs.Timers.{Expiry}
use Rattle.lapd_line.specs.declared.frame_line.FrameLine.{FrameLine}
use Rattle.lapd_timed.specs.TimedStands.{FramesStand, OctetsStand}
use Rattle.lapd_timed.specs.declared.timed_card.TimedCard.{TimedCard}
use Rattle.model_line.specs.Event as line
use Rattle.model_line.specs.Event.{LineTold}
use Rattle.model_line.specs.declared.config.Config.{Config}
use Rattle.model_line.specs.declared.faults.Fault.{Fault}
use Rattle.model_line.specs.declared.requests.Request.{Request}
use Rattle.model_card.specs.Card.{Card}
use Rattle.model_card.specs.Event.{Event}
use Rattle.model_card.specs.Machine as machine
use Rattle.model_card.specs.Run.{run}
use Rattle.model_card.specs.declared.kinds.CardKind.{CardKind}
use Rattle.model_card.specs.declared.ports.events.Event as octet_events
use Rattle.model_card.specs.declared.kinds.CardKind.TheVariants as kinds
use Rattle.model_card.specs.ports.Card as ports
use Rattle.model_card.specs.ports.Card.{OctetCard}
use Rattle.model_card.specs.ports.Event as octet
use Rattle.model_card.specs.ports.Port as port
use Rattle.model_timed.specs.Clock.{due}
use Rattle.model_timed.specs.Frames as of_timed_frames
use Rattle.model_timed.specs.Frames.{frames}
use Rattle.model_timed.specs.Octets.{octets, TimedOctetCard}
use Rattle.model_timed.specs.Timed.{Kind, Timed, Step, happens, time, falls_due, after, event_of}
use Rattle.laws_promises.specs.FrameDrive as of_frames
use Rattle.laws_promises.specs.TimedDrive.{MayHappen, HasRun, frame_step, octet_step, frames_say, octets_say}
use Rattle.laws_promises.specs.TimedReply.{Answer, went, wrong_time, none_due, fell_due, answered, pulled, by_port}
use Rattle.laws_promises.specs.TimedRun.{answer, served, served_all, replies, events_in}
use Rattle.laws_promises.specs.declared.frame_events.FrameEvent.{FrameEvent}
use Rattle.laws_promises.specs.declared.timed_events.TimedEvent as rust
use Rattle.laws_promises.specs.declared.timed_events.TimedEvent.TheVariants as timed

-- At each line of a card of a kind.
abbrev pub MayHappenAtLines : CardKind → (ℕ → rust.TimedEvent) → Type 0
MayHappenAtLines kind event = (lines number : ℕ) → number < lines → MayHappen kind lines (event number)

-- A sink that keeps each reply that it takes, with its line or its moment.
abbrev pub Keeps : {R : Type 0} → List (ℕ × R) → ℕ → R → List (ℕ × R) → Type 0
Keeps kept number reply later = later ≡ kept ++ (number, reply) ∷ []

abbrev pub Misses : {R : Type 0} → List (ℕ × R) → ℕ → R → List (ℕ × R) → Type 0
Misses kept number reply later = later ≡ kept

-- What a step of a timed card is answered with, and steps.
pub record AreAnswered {Card Event : Type 0} (k : Kind Card Event) (says : Event → Card → Answer) : Type 0 where
  pub event : (e : Event) (t : Timed Card) → answer k says (happens e) t ≡ says e t.card
  pub goes : (moment : ℕ) (t : Timed Card) → answer k says (time moment) t ≡ (if nat_lt moment t.clock.now || nat_le (2 ^ 63) moment then wrong_time else went)
  pub none_falls : (t : Timed Card) → due t.clock ≡ None → answer k says falls_due t ≡ none_due
  pub falls : (x : Expiry) (t : Timed Card) → due t.clock ≡ Some x → answer k says falls_due t ≡ fell_due x.timer (says (k.expiry x.line x.timer) t.card)
  pub none : (t : Timed Card) → replies k says [] t ≡ []
  pub each : (s : Step Event) (steps : List (Step Event)) (t : Timed Card) → replies k says (s ∷ steps) t ≡ ((served k s t).clock.now, answer k says s t) ∷ replies k says steps (served k s t)

-- Where a step leads a timed card, and steps: a wrong moment nowhere, and all else where the timed machine goes. And which
-- events of the card they are.
pub record AreServed {Card Event : Type 0} (k : Kind Card Event) : Type 0 where
  pub event : (e : Event) (t : Timed Card) → served k (happens e) t ≡ after k (happens e) t
  pub goes : (moment : ℕ) (t : Timed Card) → served k (time moment) t ≡ (if nat_lt moment t.clock.now || nat_le (2 ^ 63) moment then t else after k (time moment) t)
  pub falls : (t : Timed Card) → served k falls_due t ≡ after k falls_due t
  pub none : (t : Timed Card) → (served_all k [] t ≡ t) × (events_in k [] t ≡ [])
  pub each : (s : Step Event) (steps : List (Step Event)) (t : Timed Card) → (served_all k (s ∷ steps) t ≡ served_all k steps (served k s t))
      × (events_in k (s ∷ steps) t ≡ option_to_list (event_of k s t) ++ events_in k steps (served k s t))

-- Such a sink that took all replies of a timed run has kept these.
abbrev pub AreKept : {Card Event : Type 0} → Kind Card Event → (Event → Card → Answer) → (TimedCard → Timed Card → Type 0) → (TimedCard → rust.TimedEvent → Step Event) → Type 0
AreKept {Card} k says Stands step =
    (failures : List (ℕ × Answer) → ℕ) (old new : TimedCard) (events : List rust.TimedEvent)
    (kept later : List (ℕ × Answer)) (count : ℕ) → HasRun Keeps Misses failures old new events kept later (Ok count) → (t : Timed Card) → Stands old t
    → later ≡ kept ++ replies k says (map (step old) events) t

-- A card of either kind has the lines of its machine, and its configuration, and is of its kind.
abbrev pub IsOf : AnyCard → CardKind → Config → Type 0
IsOf card kind config = (kind_of card ≡ kind) × (config_of card ≡ config) × (line_count card ≡ config.lines)

pub record RunsMeanThis : Type 0 where
  -- A run is of lines that the machine of the card has,
  pub lines : (card : Held Store) (m : Card) → FrameStands shelf_of card m → (frame_card.line_count card ≡ m.config.lines) × (card.config ≡ m.config)
  pub octet_line : (e : octet_events.Event) → drive.line_of e ≡ (octet.event_of e).line
  pub octet_lines : (card : octet_card.Held Store) (m : OctetCard) → OctetCardStands shelf_of card m → octet_card.line_count card ≡ m.card.config.lines
  pub timed_lines : (card : TimedCard) (t : of_timed_frames.TimedCard) → FramesStand card t → IsOf card.card kinds.Frames t.card.config
  pub timed_octet_lines : (card : TimedCard) (t : TimedOctetCard) → OctetsStand card t → IsOf card.card kinds.Octets t.card.card.config
  -- of a card of frames,
  pub at_its_line : (n201 : ℕ) (e : FrameEvent) → of_frames.line_of e ≡ (of_frames.event_of n201 e).line
  pub kept : (failures : List (ℕ × line.Answer) → ℕ) (old new : Held Store) (events : List Event)
      (kept later : List (ℕ × line.Answer)) (count : ℕ) → of_frames.HasRun shelf_of Keeps Misses failures old new events kept later (Ok count)
      → (m : Card) → FrameStands shelf_of old m → later ≡ kept ++ (run m events).replies
  -- whose sink keeps those before the one that it misses, and counts a failure more; the counters of its lines are its own;
  pub missed : (some all : List (ℕ × line.Answer)) (kept later : List (ℕ × line.Answer)) → MissesNext Keeps Misses some all kept later → later ≡ kept ++ some
  pub failures : (n : ℕ) → one_failure_more n ≡ min (n + 1) 18446744073709551615
  pub counters : (lines : List FrameLine) → counters_in lines ≡ map (λ (l : FrameLine). l.counters) lines
  -- and of one with timers of its own: what may happen,
  pub frame_comes : (octets : Bor (List ℕ)) → MayHappenAtLines kinds.Frames (λ number. timed.Frame number octets)
  pub fails : (fault : Fault) → MayHappenAtLines kinds.Frames (λ number. timed.Failed number fault)
  pub next_frame : MayHappenAtLines kinds.Frames timed.Next
  pub octet_comes : (value : ℕ) → MayHappenAtLines kinds.Octets (λ number. timed.Octet number value)
  pub pull : MayHappenAtLines kinds.Octets timed.Pull
  pub ask : (kind : CardKind) (r : Request) → MayHappenAtLines kind (λ number. timed.Request number r)
  pub any_time : (kind : CardKind) (lines moment : ℕ) → MayHappen kind lines (timed.Time moment) × MayHappen kind lines timed.FallDue
  -- and what is answered.
  pub frames_answer : (e : Event) (card : Card) → frames_say e card ≡ answered e.line (machine.answer e card)
  pub octets_answer : (e : octet.Event) (m : OctetCard) → octets_say e m ≡ by_port e.line (ports.answer e m)
  pub told : (number : ℕ) (t : LineTold) → by_port number (port.told t) ≡ answered number (line.told t)
  pub refused : (number : ℕ) (why : Refusal) → by_port number (port.refused why) ≡ answered number (line.refused why)
  pub pulled_octet : (number value : ℕ) (begun : Bool) (orders : List Order) → by_port number (port.pulled value begun orders) ≡ pulled number value begun orders
  pub frames_are : AreAnswered frames frames_say
  pub octets_are : AreAnswered octets octets_say
  pub frames_served : AreServed frames
  pub octets_served : AreServed octets
  pub frames_kept : AreKept frames frames_say FramesStand (λ card. frame_step (config_of card.card).n201)
  pub octets_kept : AreKept octets octets_say OctetsStand (λ card. octet_step)
