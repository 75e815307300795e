-- Which requests of layer management are refused.
use Rattle.std.specs.Prelude.{Bool, Option, Some, if◌then◌else◌}
use Rattle.lapd_frame.specs.declared.refusals.Refusal.{Refusal}

-- Why a request is refused: the first that holds (profile).
abbrev pub refusal_if : Bool → Refusal → Option Refusal → Option Refusal
refusal_if test why others = if test then Some why else others
