-- Check responses: one with more Ai than one is read by its places.
use Rattle.lapd_tei.proofs.Vocabulary.{◌≡◌, ℕ, ◌≤◌, ◌<◌, ◌==◌, ◌&&◌, Bool, true, false, cond, List, [], ◌∷◌, length, drop, refl, sym, ap, arith, Option, Some, None, is_last, position, responses_in, is_among, slice_index, up_to, Check, Course, respond, count, counted}
use Rattle.model_teis.proofs.Tables.{is_same}

of_test : (tei : ℕ) (b : Bool) (teis : Option (List ℕ)) → is_among tei (cond b teis None) ≡ (b && is_among tei teis)
of_test tei true teis = refl
of_test tei false teis = refl

pub among : (tei : ℕ) (octets : List ℕ) → 4 ≤ length octets
    → is_among tei (responses_in octets)
    ≡ ((slice_index octets 0 == 0x0F && slice_index octets 3 == 5) && is_among tei (up_to (drop 4 octets) (position is_last (drop 4 octets))))
among tei (entity ∷ high ∷ low ∷ type ∷ octets) long = of_test tei (entity == 0x0F && type == 5) (up_to octets (position is_last octets))
among tei [] long = absurd (omega (arith, long))
among tei (a ∷ []) long = absurd (omega (arith, long))
among tei (a ∷ b ∷ []) long = absurd (omega (arith, long))
among tei (a ∷ b ∷ c ∷ []) long = absurd (omega (arith, long))

pub too_few : (tei : ℕ) (octets : List ℕ) → length octets < 4 → is_among tei (responses_in octets) ≡ false
too_few tei (entity ∷ high ∷ low ∷ type ∷ octets) short = absurd (omega (arith, short))
too_few tei [] short = refl
too_few tei (a ∷ []) short = refl
too_few tei (a ∷ b ∷ []) short = refl
too_few tei (a ∷ b ∷ c ∷ []) short = refl

-- A response of the TEI under check counts.
pub responded : (own : Check) (tei : ℕ) (o : Option Check) (c : Course) → o ≡ Some own → own.tei ≡ tei → respond tei o c ≡ count own.tei (counted own) c
responded own tei o c runs same = rw (runs, is_same own.tei tei same) (ap (λ n. count n (counted own) c) (sym same))
