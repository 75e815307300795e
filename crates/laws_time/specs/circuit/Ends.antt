-- Each end of the clocked circuit is a timed card of octets.
use Rattle.std.specs.Prelude.{◌≡◌, ◌≤◌, ◌<◌, ℕ, List}
use Rattle.lapd_clock.specs.Timer.{Lengths, AreInRange}
use Rattle.model_line.specs.declared.config.Config.{Config}
use Rattle.model_card.specs.ports.Event.{Event}
use Rattle.model_timed.specs.Octets.{TimedOctetCard, fresh, after_all, ArePrompt}
use Rattle.model_timed.specs.Timed.{Step}
use Rattle.laws_time.specs.circuit.Clocked.{TimedEndpoint, Clocked, Beat, after, endpoint}

-- A card that began with this configuration and these lengths, after steps that were prompt to the millisecond.
abbrev pub card_of : TimedEndpoint → TimedOctetCard
card_of s = record { card = s.at.card; clock = s.clock }

abbrev pub IsTimedCard : Config → Lengths → TimedEndpoint → Type 0
IsTimedCard c lengths s =
    (steps : List (Step Event)) × ArePrompt 0 steps (fresh c lengths) × (after_all steps (fresh c lengths) ≡ card_of s)

-- So is each end, whatever is asked for and whatever noise there is, if lines run at an octet a millisecond at least.
abbrev pub EndsAreTimedCards : Type 0
EndsAreTimedCards =
    (c d : Config) (line other tei way rate : ℕ) (lengths others : Lengths) (bs : List Beat) → line < c.lines → other < d.lines → AreInRange lengths →
    AreInRange others → 1 ≤ rate → let w : Clocked = record { near = endpoint c line lengths way tei; far = endpoint d other others way tei; beats = 0 } in
    IsTimedCard c lengths (after rate bs w).near × IsTimedCard d others (after rate bs w).far
