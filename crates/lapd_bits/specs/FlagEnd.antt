-- What an octet brings in which a flag ends (Q.921 clause 2.2) and nothing else does. No public call names this.
use Rattle.std.specs.Prelude.{◌≡◌, ℕ, ◌-◌, ◌≤◌, true, false, [], ◌∷◌, ◌++◌, replicate}
use Rattle.model_bits.specs.Bits.{low_bits}
use Rattle.model_bits.specs.Stuffing.{unstuffed}
use Rattle.model_bits.specs.OpenGap.{run_of}
use Rattle.lapd_bits.specs.Steps.{with_bits}
use Rattle.lapd_bits.specs.Unstuffer.{ends_nothing}

-- After `ones` 1s and an octet in which a flag ends: `before` bits go on the gap that it closes, and the flag's last bit
-- comes after six 1s; behind it are these bits, and the 1s at the octet's end. No 0 is a stuffed one (clause 2.6).
pub record IsFlagEnd (ones octet before front behind run : ℕ) : Type 0 where
  pub begins : low_bits 8 octet ≡ low_bits before front ++ (false ∷ low_bits (7 - before) behind)
  pub few : ones ≤ 6
  pub quiet_front : ends_nothing ones (low_bits before front) ≡ true
  pub stays_front : unstuffed (replicate ones true ++ low_bits before front) ≡ replicate ones true ++ low_bits before front
  pub six : run_of (with_bits before front (replicate ones true ++ (false ∷ []))) ≡ 6
  pub quiet : ends_nothing 0 (low_bits (7 - before) behind) ≡ true
  pub stays : unstuffed (low_bits (7 - before) behind) ≡ low_bits (7 - before) behind
  pub run_is : run ≡ run_of (with_bits (7 - before) behind (false ∷ []))
