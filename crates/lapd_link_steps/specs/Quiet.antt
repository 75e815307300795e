-- A report that tells nothing but orders for timers.
use Rattle.std.specs.Prelude.{◌≡◌, false, [], None}
use Rattle.lapd_frame.specs.ShortLists.{listed}
use Rattle.lapd_link_steps.specs.declared.report.BareReport.{BareReport}

pub record IsQuiet (r : BareReport) : Type 0 where
  pub notes : listed r.notes ≡ []
  pub delivered : r.delivered ≡ false
  pub unit : r.unit ≡ false
  pub cause : r.cause ≡ None
  pub unserved : r.unserved ≡ false
  pub lost : r.lost ≡ 0
  pub given_up : r.given_up ≡ 0
  pub given_up_16 : r.given_up_16 ≡ 0
