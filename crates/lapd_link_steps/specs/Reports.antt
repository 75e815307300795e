-- What a report says of itself.
use Rattle.std.specs.Prelude.{◌≡◌, ◌||◌, ℕ, ◌-◌, Bool, false, List, [], drop, Option, Some, None, if◌then◌else◌}
use Rattle.std.specs.Option.{option_or}
use Rattle.model_bits.specs.declared.heard.Cause.{Cause}
use Rattle.model_bits.specs.declared.heard.Cause.TheVariants.{Unserved}
use Rattle.lapd_frame.specs.ShortLists.{listed}
use Rattle.lapd_frame.specs.declared.services.Service.{Service}
use Rattle.model_link.specs.Told.{of_call, of_packet}
use Rattle.lapd_link_steps.specs.declared.report.BareReport.{BareReport}

-- Nothing is told in it yet.
pub record IsClear (r : BareReport) : Type 0 where
  pub notes : listed r.notes ≡ []
  pub orders : listed r.orders ≡ []
  pub delivered : r.delivered ≡ false
  pub unit : r.unit ≡ false
  pub cause : r.cause ≡ None
  pub started : r.started ≡ None
  pub lost : r.lost ≡ 0
  pub unserved : r.unserved ≡ false
  pub released : r.released ≡ 0
  pub whole : r.given_up_from ≡ 127
  pub given_up : r.given_up ≡ 0
  pub given_up_16 : r.given_up_16 ≡ 0

-- What the event of a link gave up is counted, of so many contents that were queued as it began.
abbrev pub counting : Service → ℕ → BareReport → BareReport
counting service queued r = record r {
  given_up = of_call service (queued - r.given_up_from);
  given_up_16 = of_packet service (queued - r.given_up_from);
}

-- Whether contents were delivered.
abbrev pub has_contents : BareReport → Bool
has_contents r = r.delivered || r.unit

-- They lie in the octets of the frame that brought them.
abbrev pub delivered_in : List ℕ → BareReport → Option (List ℕ)
delivered_in octets r = option_or (if r.delivered then Some (drop r.start octets) else None) (if r.unit then Some (drop r.start octets) else None)

-- Why something was dropped.
abbrev pub cause_in : BareReport → Option Cause
cause_in r = option_or (if r.unserved then Some Unserved else None) r.cause
