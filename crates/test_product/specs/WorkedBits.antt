-- Worked values of what the tables and the steps of the code speak of: each is a fact that computes.
use Rattle.std.specs.Prelude.{◌≡◌, ◌∷◌, ◌++◌, [], true, false, replicate, refl}
use Rattle.model_bits.specs.Bits.{low_bits}
use Rattle.model_bits.specs.OpenGap.{run_of}
use Rattle.model_bits.specs.Stuffing.{stuffed, unstuffed}
use Rattle.lapd_bits.specs.Stuffer.{last_ones, text_after, fives}
use Rattle.lapd_bits.specs.Unstuffer.{ends_nothing}
use Rattle.lapd_bits.specs.Steps.{with_bits}

-- what stays of an octet after some 1s, and the 1s after it: no 1s and EF, one and EF, five and 00
stays_of_EF : unstuffed (low_bits 8 0xEF) ≡ replicate 4 true ++ false ∷ replicate 3 true
unfolding low_bits
stays_of_EF = refl

run_after_EF : run_of (with_bits 8 0xEF (false ∷ [])) ≡ 3
unfolding low_bits
run_after_EF = refl

stays_of_EF_after_one : unstuffed (replicate 1 true ++ low_bits 8 0xEF) ≡ replicate 1 true ++ replicate 7 true
unfolding low_bits
stays_of_EF_after_one = refl

run_after_one_and_EF : run_of (with_bits 8 0xEF (true ∷ false ∷ [])) ≡ 3
unfolding low_bits
run_after_one_and_EF = refl

stays_of_00_after_five : unstuffed (replicate 5 true ++ low_bits 8 0x00) ≡ replicate 5 true ++ replicate 7 false
unfolding low_bits
stays_of_00_after_five = refl

run_after_five_and_00 : run_of (with_bits 8 0x00 (replicate 5 true ++ false ∷ [])) ≡ 0
unfolding low_bits
run_after_five_and_00 = refl

-- a flag ends something, and so does 01 after five 1s; FC does not, though six 1s come at its end
flag_ends_something : ends_nothing 0 (low_bits 8 0x7E) ≡ false
unfolding low_bits
flag_ends_something = refl

one_after_five_ends_something : ends_nothing 5 (low_bits 8 0x01) ≡ false
unfolding low_bits
one_after_five_ends_something = refl

six_at_the_end_end_nothing : ends_nothing 0 (low_bits 8 0xFC) ≡ true
unfolding low_bits
six_at_the_end_end_nothing = refl

-- what an octet makes of itself after some 1s: after four, FF has two 0s put in, after its first 1 and its sixth
FF_after_four :
    stuffed (replicate 4 true ++ low_bits 8 0xFF)
    ≡ replicate 4 true ++ (true ∷ false ∷ replicate 5 true ++ false ∷ replicate 2 true)
unfolding low_bits
FF_after_four = refl

-- and what goes on after those four
FF_goes_on : text_after 4 (low_bits 8 0xFF) ≡ true ∷ false ∷ replicate 5 true ++ false ∷ replicate 2 true
unfolding low_bits
FF_goes_on = refl

-- the 1s at the end of four bits: three in 0111, which is E with its first bit lowest; four in 1111; none in 1110
three_at_the_end : last_ones 0xE ≡ 3
unfolding low_bits
three_at_the_end = refl

four_at_the_end : last_ones 0xF ≡ 4
unfolding low_bits
four_at_the_end = refl

none_at_the_end : last_ones 0x7 ≡ 0
unfolding low_bits
none_at_the_end = refl

-- five 1s begin at the first two places of six 1s, and at none of four
five_ones_in_six : fives 0x3F ≡ 0x3
five_ones_in_six = refl

five_ones_in_four : fives 0xF ≡ 0
five_ones_in_four = refl
