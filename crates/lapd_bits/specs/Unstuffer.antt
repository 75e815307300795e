-- What an octet brings to a gap all at once, where it ends nothing. No public call names this.
--
-- The table has, for an octet after 0 to 7 contiguous 1s, what stays of it where stuffed 0s are taken out, and the 1s at
-- its end; it has none where something ends in the octet: a flag, or seven 1s. Such an octet goes by `flag_end.rt`, or
-- bit by bit.
use Rattle.std.specs.Prelude.{◌≡◌, ℕ, suc, Bool, true, false, not, ◌&&◌, nat_eq, if◌then◌else◌, List, [], ◌∷◌, ◌++◌, replicate}
use Rattle.model_bits.specs.Bits.{low_bits}
use Rattle.model_bits.specs.Stuffing.{unstuffed}
use Rattle.model_bits.specs.OpenGap.{run_of}
use Rattle.lapd_bits.specs.Steps.{with_bits}

-- after `ones` contiguous 1s these bits end nothing: none comes after six 1s, neither a seventh (clause 2.10) nor a 0 (2.2)
abbrev pub ends_nothing : ℕ → List Bool → Bool
ends_nothing ones [] = true
ends_nothing ones (b ∷ text) = not (nat_eq ones 6) && ends_nothing (if b then suc ones else 0) text

-- after `ones` 1s and an octet that ends nothing: what stays of it where stuffed 0s are taken out (clause 2.6), and the 1s
-- at its end
pub record IsContent (ones octet content count run : ℕ) : Type 0 where
  pub quiet : ends_nothing ones (low_bits 8 octet) ≡ true
  pub stays : unstuffed (replicate ones true ++ low_bits 8 octet) ≡ replicate ones true ++ low_bits count content
  pub run_is : run ≡ run_of (with_bits 8 octet (replicate ones true ++ false ∷ []))
