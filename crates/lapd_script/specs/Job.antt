-- What the words after the program's name ask for.
use Rattle.std.specs.Prelude.{ℕ, ◌&&◌, Bool, true, false, if◌then◌else◌, List, [], ◌∷◌, codes, bytes_eq, Option, Some, None, Result, Ok, Err}
use Rattle.lapd_script.specs.declared.kind.FaultKind.{FaultKind}
use Rattle.lapd_script.specs.declared.jobs.Job as rust
use Rattle.lapd_script.specs.Number.{number}
use Rattle.lapd_script.specs.Read.{◌>>=◌}

pub data Job : Type 0 where
  -- play a script
  run : Job
  -- show the frame of these digits, which the network sent, or else the user
  frame : List ℕ → Bool → Job
  -- show the bound of what a card of these numbers stores
  limits : ℕ → ℕ → ℕ → ℕ → ℕ → Job

-- the five numbers of `limits`, in the ranges of a card line
abbrev pub limits_of : List ℕ → List ℕ → List ℕ → List ℕ → List ℕ → Result Job FaultKind
limits_of lines terminals control slots n201 = do
  lines ← number 1 64 lines
  terminals ← number 1 8 terminals
  control ← number 2 16 control
  slots ← number 1 8192 slots
  n201 ← number 8 260 n201
  Ok (limits lines terminals control slots n201)

abbrev pub job_or_none : Result Job FaultKind → Option Job
job_or_none (Ok job) = Some job
job_or_none (Err kind) = None

-- `run`, `frame HEX`, `frame HEX --network`, and `limits` with five numbers; any other words ask for nothing
abbrev pub job : List (List ℕ) → Option Job
job (a ∷ []) = if bytes_eq a (codes "run") then Some run else None
job (a ∷ b ∷ []) = if bytes_eq a (codes "frame") then Some (frame b false) else None
job (a ∷ b ∷ c ∷ []) = if bytes_eq a (codes "frame") && bytes_eq c (codes "--network") then Some (frame b true) else None
job (a ∷ b ∷ c ∷ d ∷ e ∷ f ∷ []) = if bytes_eq a (codes "limits") then job_or_none (limits_of b c d e f) else None
job _ = None

-- the program's own form of it
abbrev pub seen : Option rust.Job → Option Job
seen None = None
seen (Some rust.TheVariants.Run) = Some run
seen (Some (rust.TheVariants.Frame hex network)) = Some (frame hex.now network)
seen (Some (rust.TheVariants.Limits l)) = Some (limits l.lines l.terminals l.control l.slots l.n201)
