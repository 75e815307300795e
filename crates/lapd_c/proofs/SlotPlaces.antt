-- What stands in the machine for the place of a card or a clock: a word, and what it owns.
use Rattle.lapd_c.proofs.Vocabulary.{◌≡◌, ℕ, List, [], ◌∷◌, ◌++◌, Option, Some, IsSome, refl, subst, false≢true, ghosts, box_owns, slot_owns, heap}
use Rattle.std.specs.declared.option.Option.TheVariants.{None}
use base.Fml.{feq, fex}
use denote.RattleType.{flat}
use Rattle.lapd_c.proofs.Machine.{Fml, Goal, Item, Logic, Ptr, RattleType, RawPtr, Seq, Step, Ura, Val, Valss, bare, block_ptr, drop, feq_i, feq_l, fjoin, fpack, fpick, fsep, fsplit, fst∗, in_a_block, lone, never, nothing, null_ptr, of_list, owns, ptr_val, sem, step, vcons, vnil, vptr, vstruct, ‵, ◌$◌}

-- a struct of one word
abbrev pub word : Val → Val
word v = vstruct (vcons v vnil)

-- what a struct of one pointer owns, with what is held there
module _ (R : RattleType) where
  abbrev Words : Ptr → List Val → Valss (RawPtr ∷ []) → Fml
  Words at vs vss = fsep (feq (List Val) vs (vstruct (of_list (flat (RawPtr ∷ []) vss)) ∷ [])) (owns (RawPtr ∷ []) (at, tt) vss)

  abbrev Slot : Ptr → Option R.Denot → List Val → Fml
  Slot at held vs = fsep (fex (Valss (RawPtr ∷ [])) (Words at vs)) (slot_owns R at held)

  module _ {M : Type 1} {𝓤 : Ura M} {𝓛 : Logic 𝓤} {K : Type 0} {Γ : List (Item 𝓤)} {G : Goal 𝓤 𝓛.H} where
    by_held : K → (p : Ptr) (held : Option R.Denot) → IsSome held
        → ((x : R.Denot) → held ≡ Some x → Seq K 𝓛 (‵ (box_owns (ghosts.dealloc_token heap) R p x) ∷ Γ) G)
        → Seq K 𝓛 (‵ (slot_owns R p held) ∷ Γ) G
    by_held t p None is rest = absurd (false≢true is)
    by_held t p (Some x) is rest = rest x refl

    -- a place is taken apart
    pub slot_opens : K → (at : Ptr) (held : Option R.Denot) (vs : List Val) → IsSome held
        → ((b o : ℕ) (x : R.Denot) → at ≡ block_ptr b o → held ≡ Some x → vs ≡ word (vptr b o) ∷ []
        → Seq K 𝓛 (‵ (box_owns (ghosts.dealloc_token heap) R (block_ptr b o) x) ∷ Γ) G)
        → Seq K 𝓛 (‵ (Slot at held vs) ∷ Γ) G
    slot_opens t at held vs is rest =
        fsplit t $ fpick t (λ vss. fsplit t $ feq_l t (λ whole. fsplit t $ feq_l t (λ pointer. drop t $
        by_held t at held is (λ x has.
        in_a_block t at (λ p. box_owns (ghosts.dealloc_token heap) R p x) (fst∗ 𝓤 (never 𝓤) (sem 𝓛 (ghosts.dealloc_token heap (bare (lone R.mir)) null_ptr))) (λ b o there.
        let with_word = subst (λ (ps : List Val). vs ≡ vstruct (of_list (ps ++ [])) ∷ []) pointer whole in
        rest b o x there has (subst (λ (p : Ptr). vs ≡ vstruct (of_list (ptr_val p ∷ [])) ∷ []) there with_word))))))

    -- and made
    pub slot_made : K → (b o : ℕ) (x : R.Denot)
        → Step K 𝓛 (‵ (Slot (block_ptr b o) (Some x) (word (vptr b o) ∷ [])) ∷ Γ) G
        (‵ (box_owns (ghosts.dealloc_token heap) R (block_ptr b o) x) ∷ Γ) G
    slot_made t b o x = step (λ s.
        let v : Val = word (vptr b o) in
        nothing t $ feq_i t (List Val) (vptr b o ∷ []) (vptr b o ∷ []) refl $ fjoin t $
        feq_i t (List Val) (v ∷ []) (v ∷ []) refl $ fjoin t $
        fpack t (Valss (RawPtr ∷ [])) (Words (block_ptr b o) (v ∷ [])) (vptr b o ∷ [], tt) $
        fjoin t $ s)
