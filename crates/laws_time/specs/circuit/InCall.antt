-- A call in time: how long it bears noise, and how soon it comes through once there is none.
use Rattle.std.specs.Prelude.{◌≡◌, ◌≤◌, ℕ, ◌+◌, ◌*◌, false, List, ◌∷◌, ◌++◌, length, flat_map, All, Some, ◌⊎◌}
use Rattle.std.specs.List.{list_any}
use Rattle.lapd_clock.specs.Timer.{Lengths}
use Rattle.model_line.specs.Event.{LineTold}
use Rattle.model_line.specs.declared.config.Config.{Config}
use Rattle.model_line.specs.Line.{tries}
use Rattle.laws_wire.specs.Call.{confirmed, indicated}
use Rattle.laws_wire.specs.Losing.{for_layer_3}
use Rattle.laws_time.specs.circuit.Answered.{IsUndisturbed, begun, state_at}
use Rattle.laws_time.specs.circuit.Arriving.{IsIdle, AreAsked, calls, errors_at, is_used_up}
use Rattle.laws_time.specs.circuit.Clocked.{TimedEndpoint, Beat, after}
use Rattle.laws_time.specs.circuit.LongEnough.{Line, IsFit, AreClear, answered_in, begins}

-- An end is up: its link is in state 7 or 8.
abbrev pub IsUp : Line → TimedEndpoint → Type 0
IsUp l s = (state_at l s ≡ Some 7) ⊎ (state_at l s ≡ Some 8)

-- Layer 3 of an end was told this, first of all. (What is dropped is not counted.)
abbrev pub WasTold : LineTold → TimedEndpoint → Type 0
WasTold first s = (more : List LineTold) × (flat_map for_layer_3 s.at.told ≡ first ∷ more)

-- So many beats are fewer than (N200 + 1) T200 of each end by a millisecond, as moments are whole.
abbrev pub IsShortAt : Line → ℕ → Config → Lengths → Type 0
IsShortAt l n c lengths = n + l.rate ≤ tries c * lengths.t200 * l.rate

abbrev pub IsShort : Line → ℕ → Type 0
IsShort l n = IsShortAt l n l.near l.lengths × IsShortAt l n l.far l.far_lengths

-- So long no end tells that N200 is used up, whatever noise there is.
abbrev pub N200LastsInACall : Type 0
N200LastsInACall =
    (l : Line) (before bs : List Beat) (b : Beat) → IsFit l → All IsIdle before → All (AreAsked l) (b ∷ bs) →
    AreClear l (before ++ calls l b ∷ bs) (begins l) → IsShort l (length bs) → let w = after l.rate (before ++ calls l b ∷ bs) (begins l) in
    list_any is_used_up (errors_at w.near ++ errors_at w.far) ≡ false

-- A call, noise, a beat without noise, and as many more as T200 of the end that calls and an answer take at most; then anything. N200
-- lasts so long, and until then no frame finds no place once noise has ended.
pub record Outlasts (l : Line) (before noisy clean later : List Beat) (b c : Beat) : Type 0 where
  pub idle : All IsIdle before
  pub asked : All (AreAsked l) (b ∷ noisy ++ c ∷ clean ++ later)
  pub undisturbed : IsUndisturbed l (before ++ calls l b ∷ noisy) c clean
  pub clear : AreClear l later (after l.rate clean (begun l (before ++ calls l b ∷ noisy) c))
  pub short : IsShort l (length (noisy ++ c ∷ clean ++ later))
  pub long : l.lengths.t200 * l.rate + answered_in l.near l.far l.way ≤ length clean

-- Then both ends are up, and stay so; the one that calls was told so, and the other that it was called.
abbrev pub ACallOutlastsNoise : Type 0
ACallOutlastsNoise =
    (l : Line) (before noisy clean later : List Beat) (b c : Beat) → Outlasts l before noisy clean later b c →
    let w = after l.rate later (after l.rate clean (begun l (before ++ calls l b ∷ noisy) c)) in
    IsUp l w.near × IsUp l w.far × WasTold (confirmed l.service l.tei) w.near × WasTold (indicated l.service l.tei) w.far
