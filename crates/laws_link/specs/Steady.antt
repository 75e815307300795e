-- What an event may change of V(S) and of own busy, and which events may empty a link.
use Rattle.std.specs.Prelude.{Bool, true, false}
use Rattle.lapd_frame.specs.declared.notes.ErrorCode.{ErrorCode}
use Rattle.lapd_frame.specs.declared.notes.ErrorCode.TheVariants as code

-- The link is established anew: the terminal does it, or this side does it after an error (clauses 5.7.1 and 5.8.2 to
-- 5.8.6, appendix II).
abbrev pub is_anew : ErrorCode → Bool
is_anew code.A = false
is_anew code.C = false
is_anew code.D = false
is_anew code.G = false
is_anew code.H = false
is_anew other = true
