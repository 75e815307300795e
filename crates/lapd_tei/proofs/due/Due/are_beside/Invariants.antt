-- The invariant of the loop of `Due::are_beside`.
use Rattle.std.proofs.Common.{◌≡◌, ℕ, ◌<◌, None, false, get_or, true}
use Rattle.model_teis.specs.network.Sound.{MayBeDue}
use Rattle.lapd_tei.proofs.due.Due.are_beside.Given as goal

-- each so far may be due
abbrev pub invariant-loop-place : goal.invariant-loop-place
invariant-loop-place l = (i : ℕ) → i < l.place → get_or l.self i false ≡ true → MayBeDue (get_or l.table i None) l.check
