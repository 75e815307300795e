-- The machine values of the structs that stand for memory: what is owned tells them, and is made of nothing.
use Rattle.lapd_store.proofs.Vocabulary.{arith, ◌≡◌, ℕ, zero, suc, List, [], ◌∷◌, ◌++◌, T, refl, ◌∙◌}
use Rattle.lapd_store.proofs.Pointers.{Ura, ent, emp, sep, Fml, Ty, ty_ptr, ty_struct, tcons, tnil, Val, vstruct, vcons, vnil, of_list, has_ty, WT, Logic, sem, ‵, ◌$◌, ◌∵◌, !, qed, move, fjoin, feq_i, fpack, done, RattleType, Valss, Ptr, RawPtr, block_ptr, null_ptr, ptr_val, unit, Slot, plain, shadow, makes_shadow, nothing, Struct, within, Tuple, tuple_type}
use denote.Struct.Declared as Declared

-- a machine value of its type
abbrev pub Typed : Ty → Val → Type 0
Typed τ v = T (has_ty τ v) × WT v

-- the k-th parameter of a signature
abbrev pub slot_at : {n : ℕ} → ℕ → List (Slot n) → Slot n
slot_at k [] = plain (λ _. unit)
slot_at zero (s ∷ ss) = s
slot_at (suc k) (s ∷ ss) = slot_at k ss

-- a struct by its fields alone
abbrev plainly : List RattleType → RattleType
plainly Rs = Struct (record { name = []; args = []; types = []; fields = Rs })

-- `Base`: one pointer
abbrev pub base_val : Ptr → Val
base_val p = vstruct (vcons (ptr_val p) vnil)

abbrev pub base_own : Ptr → List Val → Fml
base_own p = (plainly (RawPtr ∷ [])).own_val (p, tt)

pub base_told : (p : Ptr) (vs : List Val) → shadow (base_own p vs) → vs ≡ base_val p ∷ []
base_told p vs s = s.1.0 ∙ (λ i. vstruct (of_list (s.1.1.0 i ++ [])) ∷ [])

pub base_typed : (p : Ptr) → Typed (ty_struct [] (tcons ty_ptr tnil)) (base_val p)
base_typed p = grind (arith, block_ptr, null_ptr)

pub base_made : {M : Type 1} {𝓤 : Ura M} (𝓛 : Logic 𝓤) (p : Ptr) → ent 𝓤 (emp 𝓤) (sem 𝓛 (base_own p (base_val p ∷ [])))
base_made 𝓛 p = makes_shadow 𝓛 (base_own p (base_val p ∷ [])) (λ _. (tt, (tt, tt))) ((ptr_val p ∷ [], tt), (refl, (refl, tt)))

-- the field of `Octets`: none
abbrev pub octets_val : Val
octets_val = vstruct vnil

abbrev pub octets_fields : List Val → Fml
octets_fields = (plainly []).own_val tt

pub octets_told : (vs : List Val) → shadow (octets_fields vs) → vs ≡ octets_val ∷ []
octets_told vs s = s.1.0

pub octets_made : {M : Type 1} {𝓤 : Ura M} (𝓛 : Logic 𝓤) → ent 𝓤 (emp 𝓤) (sem 𝓛 (octets_fields (octets_val ∷ [])))
octets_made 𝓛 = makes_shadow 𝓛 (octets_fields (octets_val ∷ [])) (λ _. (tt, tt)) (tt, (refl, tt))

-- the field of `Deed`: a mark that takes no octets
abbrev pub deed_val : Val
deed_val = vstruct (vcons (vstruct vnil) vnil)

abbrev pub deed_fields : List Val → Fml
deed_fields = (plainly (plainly [] ∷ [])).own_val (tt, tt)

pub deed_told : (vs : List Val) → shadow (deed_fields vs) → vs ≡ deed_val ∷ []
deed_told vs s = s.1.0 ∙ (λ i. vstruct (of_list (s.1.1.0.1.0 i ++ [])) ∷ [])

pub deed_made : {M : Type 1} {𝓤 : Ura M} (𝓛 : Logic 𝓤) → ent 𝓤 (emp 𝓤) (sem 𝓛 (deed_fields (deed_val ∷ [])))
deed_made 𝓛 = makes_shadow 𝓛 (deed_fields (deed_val ∷ [])) (λ _. (tt, ((λ _. (tt, tt)), tt))) ((vstruct vnil ∷ [], tt), (refl, ((tt, (refl, tt)), tt)))

-- a tuple of three
abbrev pub three_val : Val → Val → Val → Val
three_val u v w = vstruct (vcons u (vcons v (vcons w vnil)))

pub three_of : {M : Type 1} {𝓤 : Ura M} (𝓛 : Logic 𝓤) (R S T : RattleType) (x : R.Denot) (y : S.Denot) (z : T.Denot) (u v w : Val)
    → ent 𝓤 (sep 𝓤 (sem 𝓛 (R.own_val x (u ∷ []))) (sep 𝓤 (sem 𝓛 (S.own_val y (v ∷ []))) (sem 𝓛 (T.own_val z (w ∷ []))))) (sem 𝓛 ((Tuple (R ∷ S ∷ T ∷ [])).own_val (x, y, z) (three_val u v w ∷ [])))
three_of 𝓛 R S T x y z u v w =
    qed 𝓛 (‵ (R.own_val x (u ∷ [])) ∷ ‵ (S.own_val y (v ∷ [])) ∷ ‵ (T.own_val z (w ∷ [])) ∷ []) ∵
    nothing ! $ move ! (3 ∷ 0 ∷ []) $ fjoin ! $ move ! (2 ∷ 0 ∷ []) $ fjoin ! $ move ! (1 ∷ 0 ∷ []) $ fjoin ! $
    feq_i ! (List Val) (three_val u v w ∷ []) (three_val u v w ∷ []) refl $ fjoin ! $
    fpack ! (Valss (R ∷ S ∷ T ∷ [])) (within (Declared.shape (tuple_type (R ∷ S ∷ T ∷ []))) (x, (y, (z, tt))) (three_val u v w ∷ [])) (u ∷ [], (v ∷ [], (w ∷ [], tt))) $ done !
