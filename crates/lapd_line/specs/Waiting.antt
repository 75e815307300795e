-- Whether a frame waits on a line.
use Rattle.std.specs.Prelude.{Bool, is_some}
use Rattle.model_line.specs.declared.config.Config.{Config}
use Rattle.model_line.specs.Line.{Line}
use Rattle.model_line.specs.Taken.{taken}

-- A call for the next frame gives one.
abbrev pub has_next : Config → Line → Bool
has_next c l = is_some (taken c l)
