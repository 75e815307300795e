-- The control field of octets, where a command, or a response, can have it.
use Rattle.std.specs.Prelude.{Bool, Option, Some, None, if◌then◌else◌}
use Rattle.lapd_frame.specs.declared.controls.Control.{Control}
use Rattle.lapd_frame.specs.Grammar.{allows, row}

abbrev pub allowed : Bool → Option Control → Option Control
allowed command None = None
allowed command (Some control) = if allows (row control).kind command then Some control else None
