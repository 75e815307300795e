-- What a window holds, and the plain numbers that it stands for.
use Rattle.std.specs.Prelude.{ℕ}
use Rattle.lapd_seq.specs.declared.numbers.Seq.{Seq}
use Rattle.lapd_seq.specs.declared.windows.Window.{Window}
use Rattle.lapd_seq.specs.Circle.{distance_of, AreNumbers}

-- V(A)
abbrev pub va_of : Window → Seq
va_of window = window.va

-- V(S)
abbrev pub vs_of : Window → Seq
vs_of window = window.vs

-- how many I-frames are sent and not acknowledged
abbrev pub outstanding_of : Window → ℕ
outstanding_of window = distance_of (va_of window) (vs_of window)

-- The first a I-frames are acknowledged and the first s are sent, as the window has it.
abbrev pub WindowStands : Window → ℕ → ℕ → Type 0
WindowStands window a s = AreNumbers (va_of window) (vs_of window) a s
