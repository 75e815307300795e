-- What a call that exchanges a block of octets comes to, in words of the machine.
use Rattle.std.specs.Prelude.{◌≡◌, ◌≢◌, ◌⊎◌, ◌≤◌, ◌<◌, ℕ, ◌+◌, ◌-◌, ◌*◌, Bool, false, List, [], length, map}
use Rattle.lapd_frame.specs.declared.timers.Order.{Order}
use Rattle.model_line.specs.Event.{LineTold, nothing}
use Rattle.model_card.specs.Counted.{all_counted}
use Rattle.model_card.specs.Run.{moments}
use Rattle.model_card.specs.ports.Card.{OctetCard}
use Rattle.model_card.specs.ports.Port.{Answer, told, pulled}
use Rattle.model_card.specs.ports.Run.{after_all, meant_all}
use Rattle.model_timed.specs.Changes.{Marks, inside, marks_after}
use Rattle.model_timed.specs.Clock.{Clock}
use Rattle.model_timed.specs.Octets as timed
use Rattle.model_timed.specs.Octets.{TimedOctetCard}
use Rattle.model_timed.specs.Timed.{happens}
use Rattle.lapd_c.specs.Cards.{OctetsStand}
use Rattle.lapd_c.specs.Counted.{counters_at}
use Rattle.lapd_c.specs.Exchange.{Exchanges, answer_after, given_after, steps_made}
use Rattle.lapd_c.specs.Kept.{ChangesStandIn, TimersStandIn, is_timed, orders_by, timers_of}
use Rattle.lapd_c.specs.Reports.{Shows, ShowsPull}
use Rattle.lapd_c.specs.declared.card.CardHandle.{CardHandle}
use Rattle.lapd_c.specs.declared.plain.reports.PlainReport.{PlainReport}

-- An answer that tells nothing: to an octet, and to a pull.
abbrev pub IsEmpty : Answer → Type 0
IsEmpty a = (a ≡ told nothing) ⊎ ((value : ℕ) × (a ≡ pulled value false []))

-- A card with its own timers after steps that happen one after the other.
abbrev pub timed_through : ℕ → List ℕ → ℕ → ℕ → OctetCard → Clock → TimedOctetCard
timed_through line taken from n m c = timed.after_all (map happens (steps_made line taken from n)) (record { card = m; clock = c })

-- So many steps were made, from one up to another: the card, its timers, what is noted of its links, the octets given and the
-- counters are as after these.
pub record BlockIsMade (line : ℕ) (taken : List ℕ) (from to : ℕ) (m : OctetCard) (old new : CardHandle) (result : ℕ) (given given' : List ℕ) (r : PlainReport) : Type 0 where
  pub ok : result ≡ 0
  pub within : to ≤ 2 * length taken
  pub stands : OctetsStand new (after_all m (steps_made line taken from (to - from)))
  pub timers : (c : Clock) → TimersStandIn (timers_of old) m.card c
      → TimersStandIn (timers_of new) (timed_through line taken from (to - from) m c).card.card (timed_through line taken from (to - from) m c).clock
  pub links : (c : Clock) (marks : Marks) → TimersStandIn (timers_of old) m.card c → ChangesStandIn (timers_of old) m.card marks
      → ChangesStandIn (timers_of new) (timed_through line taken from (to - from) m c).card.card
      (marks_after timed.octets inside (map happens (steps_made line taken from (to - from))) (record { card = m; clock = c }) marks)
  pub octets : given' ≡ given_after line taken from (to - from) m given
  pub counters : counters_at new ≡ all_counted (counters_at old) (moments m.card (meant_all m (steps_made line taken from (to - from))))
  -- Before the last, none had anything to tell; and unless the last has, they go on to the end.
  pub quiet : (step : ℕ) → step + 1 < to - from → IsEmpty (answer_after line taken from step m)
  pub ended : to ≢ 2 * length taken → (last : ℕ) × (to ≡ from + (last + 1)) × (IsEmpty (answer_after line taken from last m) → ⊥)
  -- The report shows what the last told.
  pub nothing : to ≡ from → Shows r nothing
  pub told : (last : ℕ) (t : LineTold) → to ≡ from + (last + 1) → answer_after line taken from last m ≡ told t
      → Shows r (record t { orders = orders_by (is_timed old) t.orders })
  pub pulled : (last value : ℕ) (begun : Bool) (orders : List Order) → to ≡ from + (last + 1) → answer_after line taken from last m ≡ pulled value begun orders
      → ShowsPull r begun false (orders_by (is_timed old) orders)

abbrev pub BlocksAreMade : Type 0
BlocksAreMade = (line : ℕ) (taken : List ℕ) (from to : ℕ) (m : OctetCard) (old new : CardHandle) (result : ℕ) (given given' : List ℕ) (r : PlainReport)
    → Exchanges line taken from m old new result given given' to r → BlockIsMade line taken from to m old new result given given' r
