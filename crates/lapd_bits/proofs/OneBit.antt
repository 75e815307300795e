-- What a deframer hears with one bit more.
use Rattle.lapd_bits.proofs.Vocabulary.{◌≡◌, ◌≢◌, ℕ, ◌+◌, ◌<◌, ◌≤◌, ◌⊎◌, Bool, true, false, List, [], ◌∷◌, ◌++◌, length, min, Option, Some, None, option_map, refl, ap, sym, ◌∙◌, arith, lt-ltb, low_bits, run_of, open_gap, AssemblesIn, HoldsGap, HoldsPast, EndsFlag, Hears, IsYoung, onto, Gap, open_gap-abort, open_gap-flag, ones_after, unstuffed_after, one_bit, quiet}
use mir.Val.{bool_byte}
use Rattle.lapd_bits.specs.declared.deframer.Deframer.{Deframer}
use Rattle.lapd_bits.specs.declared.ended.Ended.TheVariants as ended
use Rattle.lapd_bits.proofs.AtOnce.{HoldsGap-joined, HoldsPast-quiet, joined}
use Rattle.lapd_bits.proofs.BitSteps.{open_run}

-- the seventh contiguous 1
pub HoldsPast-abort : (octets : List ℕ) (ones' : ℕ) (gap' : Option Gap) (b : Bool) (past : List Bool) → b ≡ true → 6 ≤ run_of past
    → ones' ≡ 7 → gap' ≡ None → HoldsPast octets ones' gap' (b ∷ past)
HoldsPast-abort octets ones' gap' b past is many e none = grind (arith, open_gap-abort)

-- a flag's last bit
pub HoldsPast-flag : (octets : List ℕ) (ones' : ℕ) (gap' : Gap) (b : Bool) (past : List Bool) → b ≡ false → run_of past ≡ 6
    → ones' ≡ 0 → gap'.since ≡ 0 → AssemblesIn octets gap' (low_bits 0 0) → HoldsPast octets ones' (Some gap') (b ∷ past)
unfolding low_bits
HoldsPast-flag octets ones' gap' b past is six e since a = grind (arith, open_gap-flag)

pub ends_here : (past : List Bool) → run_of past ≡ 6 → EndsFlag (low_bits 0 0) past
unfolding low_bits
ends_here past six = let q = quiet 0 6 [] past six tt in record { six = six; grown = q.gap; joined = joined past [] [] refl }

pub here_is : (past : List Bool) → onto (low_bits 0 0) past ≡ past
unfolding low_bits
here_is past = refl

-- ---- a bit that ends nothing

-- as the code has it
at_five : (b : Bool) → unstuffed_after 5 (b ∷ []) ≡ low_bits (bool_byte b) (bool_byte b)
unfolding low_bits
at_five true = refl
at_five false = refl

elsewhere : (b : Bool) (ones : ℕ) → ones < 7 → ones ≢ 6 → ones ≢ 5 → unstuffed_after ones (b ∷ []) ≡ low_bits 1 (bool_byte b)
unfolding low_bits
elsewhere true ones below not_six not_five = refl
elsewhere false ones below not_six not_five = rw (lt-ltb ones 5 (omega (arith, not_six, not_five))) refl

pub one_kept : (b : Bool) (ones count byte : ℕ) → ones < 7 → ones ≢ 6 → byte ≡ bool_byte b
    → ((ones ≡ 5) × (count ≡ byte)) ⊎ ((ones ≢ 5) × (count ≡ 1)) → unstuffed_after ones (b ∷ []) ≡ low_bits count byte
one_kept b ones count byte below not_six is o = grind (arith, unstuffed_after, at_five, elsewhere)

pub one_at_most : (b : Bool) (ones count byte : ℕ) → byte ≡ bool_byte b → ((ones ≡ 5) × (count ≡ byte)) ⊎ ((ones ≢ 5) × (count ≡ 1)) → count ≤ 1
one_at_most b ones count byte is o = grind arith

-- fewer than seven 1s stand before it where a gap is open
pub below_seven : (octets : List ℕ) (ones : ℕ) (gap : Gap) (past : List Bool) → HoldsPast octets ones (Some gap) past → ones < 7
below_seven octets ones gap past h = go (open_gap past) refl h.open_is
  where
    go : (o : Option (List Bool)) → open_gap past ≡ o → HoldsGap octets (Some gap) o → ones < 7
    go None e held = absurd held
    go (Some g) e held = let run = open_run past g e in omega (arith, h.run, run.0, run.1)

-- what is kept of it goes on the gap
pub HoldsGap-more :
    (octets octets' : List ℕ) (ones : ℕ) (gap gap' : Gap) (b : Bool) (content past : List Bool)
    → ones ≡ run_of past → unstuffed_after ones (b ∷ []) ≡ content → gap'.since ≡ min 8 (gap.since + 1)
    → ((t : List Bool) → AssemblesIn octets gap t → AssemblesIn octets' gap' (t ++ content))
    → HoldsGap octets (Some gap) (open_gap past) → HoldsGap octets' (Some gap') (option_map (onto (b ∷ [])) (open_gap past))
HoldsGap-more octets octets' ones gap gap' b content past run stays since taken h =
    HoldsGap-joined octets octets' gap gap' (b ∷ []) content (open_gap past) since taken
    (joined past (b ∷ []) content (ap (λ n. unstuffed_after n (b ∷ [])) (sym run) ∙ stays)) h

-- what the deframer then has heard
pub hears-quiet :
    (b : Bool) (old new : Deframer) → old.ones ≢ 6 → ((b ≡ true) × (new.ones ≡ min (old.ones + 1) 7)) ⊎ ((b ≡ false) × (new.ones ≡ 0))
    → length new.octets.items ≡ length old.octets.items → (IsYoung 7 old.gap → new.octets.items ≡ old.octets.items)
    → ((n : ℕ) → IsYoung n old.gap → IsYoung (n + 1) new.gap)
    → ((past : List Bool) → HoldsPast old.octets.items old.ones old.gap past
    → HoldsGap new.octets.items new.gap (option_map (onto (b ∷ [])) (open_gap past)))
    → Hears b old new ended.Nothing
hears-quiet b old new other ones room untouched grows taken =
    record {
      room = room;
      stands = λ past h.
          let run = h.run in
          HoldsPast-quiet new.octets.items new.ones new.gap old.ones (b ∷ []) past
          (quiet 0 old.ones (b ∷ []) past (omega (arith, run, old.ones_counted)) (other, tt)) (counted ones) (taken past h);
      told = λ past h.
          let run = h.run in
          sym (one_bit (length old.octets.items) old.ones b past (omega (arith, run, old.ones_counted)) other).0;
      quiet = λ _. refl;
      untouched = untouched;
      grows = grows;
      anew = λ not. absurd (not refl);
    }
  where
    counted : ((b ≡ true) × (new.ones ≡ min (old.ones + 1) 7)) ⊎ ((b ≡ false) × (new.ones ≡ 0)) → new.ones ≡ min 7 (ones_after old.ones (b ∷ []))
    counted ones = grind (arith, ones_after)
