-- The ports of a card of octets and those of its machine.
use Rattle.std.specs.Prelude.{◌≡◌, ℕ, ◌<◌, List, length, get_or, slice_get, Option, None, Some}
use Rattle.std.specs.Option.{option_map_or}
use Rattle.lapd_line.specs.declared.port.Port.{Port}
use Rattle.lapd_link_steps.specs.declared.report.BareReport.{BareReport}
use Rattle.lapd_line.specs.Ports.{PortStands, latest_frame}
use Rattle.lapd_line.specs.Reports.{told_in}
use Rattle.model_line.specs.Event.{LineTold, nothing}
use Rattle.model_card.specs.ports.Port as machine
use Rattle.model_card.specs.ports.Port.{fresh_port}

-- Each port stands for that of the machine at its place.
pub record PortsStand (n201 : ℕ) (ports : List Port) (ps : List machine.Port) : Type 0 where
  pub count : length ports ≡ length ps
  pub each : (number : ℕ) (other : Port) → number < length ports → PortStands n201 (get_or ports number other) (get_or ps number fresh_port)

-- What an outcome tells of the line at a place, with the contents that it names in the frame that its port heard last.
abbrev pub told_of : BareReport → Port → LineTold
told_of outcome port = told_in (latest_frame port) outcome

abbrev pub told_at : List Port → ℕ → BareReport → LineTold
told_at ports number outcome = option_map_or (told_of outcome) (slice_get ports number) nothing

-- The same where there is an outcome, and nothing where there is none.
abbrev pub told_if_at : List Port → ℕ → Option BareReport → LineTold
told_if_at ports number None = nothing
told_if_at ports number (Some outcome) = told_at ports number outcome
