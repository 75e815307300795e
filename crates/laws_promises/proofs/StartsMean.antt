-- What a card and a shelf may begin with.
use Rattle.laws_promises.proofs.Vocabulary.{◌≡◌, ℕ, ap, refl, ◌∙◌}
use Rattle.std.specs.Prelude.{◌⊎◌, ◌≤◌, ◌<◌, ◌||◌, nat_lt, Bool, true, false, Option, None, Some, cond}
use Rattle.std.proofs.Common.{inl, inr}
use Rattle.std.proofs.lemmas.Bool.{false≢true, le-ltb, lt-ltb}
use Rattle.lapd_card.specs.Start.{fault_by, is_too_small, start_fault}
use Rattle.lapd_card.specs.declared.fault.CardFault.{CardFault}
use Rattle.lapd_card.specs.declared.fault.CardFault.TheVariants.{ShelfTooSmall}
use Rattle.lapd_store.specs.Store.{Store, empty_store, used_slots}
use Rattle.lapd_store.proofs.StoreLemmas.{used_slots-empty}
use Rattle.model_line.specs.Config.{first_fault}
use Rattle.model_line.specs.declared.config.Config.{Config}
use Rattle.laws_promises.specs.StartsMean.{StartsMeanThis}

none-of : (a b c : Bool) → a ≡ false → b ≡ false → c ≡ false → (a || b || c) ≡ false
none-of a b c no_a no_b no_c = ap (λ x. x || b || c) no_a ∙ ap (λ x. x || c) no_b ∙ no_c

one-of : (a b c : Bool) → (a ≡ true) ⊎ (b ≡ true) → (a || b || c) ≡ true
one-of true b c one = refl
one-of false true c one = refl
one-of false false c (inl a) = absurd (false≢true a)
one-of false false c (inr b) = absurd (false≢true b)

few-or-narrow : (c : Config) (s : Store) → (s.slots < c.slots) ⊎ (s.width < c.n201) → (nat_lt s.slots c.slots ≡ true) ⊎ (nat_lt s.width c.n201 ≡ true)
few-or-narrow c s (inl few) = inl (lt-ltb s.slots c.slots few)
few-or-narrow c s (inr narrow) = inr (lt-ltb s.width c.n201 narrow)

-- A shelf of enough slots that are wide enough, and free, is not too small; with too few, or if they are too narrow, it is.
is-enough : (c : Config) (slots width : ℕ) → c.slots ≤ slots → c.n201 ≤ width → is_too_small c (empty_store slots width) ≡ false
is-enough c slots width many wide =
    none-of (nat_lt slots c.slots) (nat_lt width c.n201) (nat_lt 0 (used_slots (empty_store slots width)))
    (le-ltb slots c.slots many) (le-ltb width c.n201 wide) (ap (λ n. nat_lt 0 n) (used_slots-empty slots width))

is-small : (c : Config) (s : Store) → (s.slots < c.slots) ⊎ (s.width < c.n201) → is_too_small c s ≡ true
is-small c s small = one-of (nat_lt s.slots c.slots) (nat_lt s.width c.n201) (nat_lt 0 (used_slots s)) (few-or-narrow c s small)

by-shelf : (c : Config) (s : Store) (small : Bool) → first_fault c ≡ None → is_too_small c s ≡ small → start_fault c s ≡ cond small (Some ShelfTooSmall) None
by-shelf c s small fine is = ap (λ o. fault_by o c s) fine ∙ ap (λ b. cond {A = Option CardFault} b (Some ShelfTooSmall) None) is

pub starts_mean_this : StartsMeanThis
starts_mean_this = record {
  usual = refl;
  shelf = λ slots width. refl;
  starts = λ c slots width fine many wide. by-shelf c (empty_store slots width) false fine (is-enough c slots width many wide);
  wrong = λ c shelf field is. ap (λ o. fault_by o c shelf) is;
  too_small = λ c shelf fine small. by-shelf c shelf true fine (is-small c shelf small);
}
