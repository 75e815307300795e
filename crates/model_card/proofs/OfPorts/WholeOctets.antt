-- What whole octets are heard as: a frame, if they are enough for one and there is room for them.
use Rattle.model_card.proofs.OfPorts.Vocabulary.{◌≡◌, ◌⊎◌, ℕ, ◌+◌, ◌%◌, ◌≤◌, ◌<◌, true, false, not, cond, nat_lt, List, [], ◌∷◌, length, take, inl, inr, refl, ap, ◌∙◌, arith, eq-eqb, ne_eqb, le-ltb, lt-ltb}
use Rattle.std.specs.Prelude.{◌≢◌, slice_index}
use Rattle.lapd_frame.specs.Faults as without_check
use Rattle.model_bits.specs.Stream as stream
use Rattle.model_bits.specs.Stream.{dropped}
use Rattle.model_bits.specs.declared.heard.Cause.TheVariants as cause
use Rattle.model_card.specs.ports.WholeLaws.{AreWhole}

short_is : (octets : List ℕ) → (length octets < 3) ⊎ ((length octets ≡ 3) × (slice_index octets 2 % 4 ≢ 3)) → without_check.is_short octets ≡ true
short_is [] few = refl
short_is (a ∷ []) few = refl
short_is (a ∷ b ∷ []) few = refl
short_is (a ∷ b ∷ c ∷ []) (inl less) = absurd (omega (arith, less))
short_is (a ∷ b ∷ c ∷ []) (inr three) = ap not (ne_eqb (c % 4) 3 three.1)
short_is (a ∷ b ∷ c ∷ d ∷ more) (inl less) = absurd (omega (arith, less))
short_is (a ∷ b ∷ c ∷ d ∷ more) (inr three) = let is = three.0 in absurd (omega (arith, is))

not_short : (octets : List ℕ) → (4 ≤ length octets) ⊎ ((length octets ≡ 3) × (slice_index octets 2 % 4 ≡ 3)) → without_check.is_short octets ≡ false
not_short (a ∷ b ∷ c ∷ d ∷ more) some = refl
not_short (a ∷ b ∷ c ∷ []) (inl more) = absurd (omega (arith, more))
not_short (a ∷ b ∷ c ∷ []) (inr three) = ap not (eq-eqb (c % 4) 3 three.1)
not_short [] (inl more) = absurd (omega (arith, more))
not_short [] (inr three) = let is = three.0 in absurd (omega (arith, is))
not_short (a ∷ []) (inl more) = absurd (omega (arith, more))
not_short (a ∷ []) (inr three) = let is = three.0 in absurd (omega (arith, is))
not_short (a ∷ b ∷ []) (inl more) = absurd (omega (arith, more))
not_short (a ∷ b ∷ []) (inr three) = let is = three.0 in absurd (omega (arith, is))

pub are_whole : (n201 : ℕ) (octets : List ℕ) → AreWhole n201 octets
are_whole n201 octets =
    let long = nat_lt (n201 + 4) (length octets) in
    let rest = cond long (stream.overlong (take 4 octets)) (stream.frame octets) in
    record {
      short = λ few. ap (λ b. cond b (dropped cause.Short) rest) (short_is octets few);
      long = λ many some. ap (λ b. cond b (dropped cause.Short) rest) (not_short octets (inl some))
          ∙ ap (λ b. cond b (stream.overlong (take 4 octets)) (stream.frame octets)) (lt-ltb (n201 + 4) (length octets) many);
      whole = λ some fits. ap (λ b. cond b (dropped cause.Short) rest) (not_short octets some)
          ∙ ap (λ b. cond b (stream.overlong (take 4 octets)) (stream.frame octets)) (le-ltb (n201 + 4) (length octets) fits);
    }
