-- Octets in a text: bits and numbers give each other back, and the octets found are those sent.
use Rattle.model_bits.proofs.Vocabulary.{arith, ◌≡◌, ℕ, ◌<◌, Bool, true, List, [], ◌∷◌, Some, None, refl, ap, sym, ◌∙◌, subst, cond, All-nil, All-cons, All-head, All-tail, bits, low_bits, octets_of, same_bits, stuffed, unstuffed, octets_sent, AreOctets, OctetsAreThoseSent, NoneWhereNoneSent}
use Rattle.model_bits.proofs.BitLemmas.{number_of-lt, number_of-low_bits, same_from_test, same_bits_self}
use Rattle.model_bits.proofs.StuffingShape.{unstuffed-stuffed}

-- the octets of the bits of octets are these octets
pub octets_of-bits : (octets : List ℕ) → AreOctets octets → octets_of (bits octets) ≡ octets
unfolding low_bits
octets_of-bits [] h = refl
octets_of-bits (o ∷ octets) h =
    ap (λ y. y ∷ octets_of (bits octets)) (number_of-low_bits 8 o (All-head (λ x. x < 256) o octets h))
    ∙ ap (λ l. o ∷ l) (octets_of-bits octets (All-tail (λ x. x < 256) o octets h))

-- and each is below 256
pub AreOctets-octets_of : (b : List Bool) → AreOctets (octets_of b)
AreOctets-octets_of (a ∷ b ∷ c ∷ d ∷ e ∷ f ∷ g ∷ h ∷ bs) =
    All-cons (λ x. x < 256) _ _ (number_of-lt (a ∷ b ∷ c ∷ d ∷ e ∷ f ∷ g ∷ h ∷ [])) (AreOctets-octets_of bs)
AreOctets-octets_of _ = All-nil (λ x. x < 256)

-- a choice that gave octets
chosen : (t : Bool) (xs ys : List ℕ) → cond t (Some xs) None ≡ Some ys → (t ≡ true) × (xs ≡ ys)
chosen t xs ys h = grind arith

pub octets_sent-stuffed : (octets : List ℕ) → AreOctets octets → octets_sent (stuffed (bits octets)) ≡ Some octets
octets_sent-stuffed octets h = grind (arith, unstuffed-stuffed, octets_of-bits, same_bits_self)

pub octets_are_those_sent : OctetsAreThoseSent
octets_are_those_sent text octets = (
  λ e.
      let found = octets_of (unstuffed text) in
      let c = chosen (same_bits (stuffed (bits found)) text) found octets e in (
        sym (same_from_test (stuffed (bits found)) text c.0) ∙ ap (λ l. stuffed (bits l)) c.1,
        subst AreOctets c.1 (AreOctets-octets_of (unstuffed text)),
      ),
  λ s. ap octets_sent s.0 ∙ octets_sent-stuffed octets s.1,
)

-- what is not the text of octets has none
none_chosen : (t : Bool) (xs : List ℕ) → (t ≡ true → ⊥) → cond t (Some xs) None ≡ None
none_chosen t xs h = grind arith

pub none_where_none_sent : NoneWhereNoneSent
none_where_none_sent text = grind (arith, octets_are_those_sent, none_chosen, AreOctets-octets_of, same_from_test)

-- both laws
pub ruleset octets_of_texts = (octets_are_those_sent, none_where_none_sent)
