-- Members of a list are read, one after the other: some are, and which the next one was meant to be.
use Rattle.lapd_card.proofs.Vocabulary.{◌≡◌, ℕ, zero, suc, ◌<◌, List, [], ◌∷◌, ◌++◌, length, get_or, set, take, refl, sym, ap, subst, ◌∙◌, arith, flat_map-append, flat_map, All, All-take}
use Rattle.std.proofs.Math.Seq.{take-append_seam}
use Rattle.std.proofs.Common.{append_assoc, append-nil}
use Rattle.std.specs.List.{AllZip}
use Rattle.lapd_image.specs.Reads.{HasNone}
use Rattle.lapd_image.proofs.Reading.{Reads, all-read}

-- what is at a place after some, and that it is replaced
pub at_seam : {X : Type 0} (xs : List X) (y d : X) (ys : List X) → get_or (xs ++ y ∷ ys) (length xs) d ≡ y
at_seam [] y d ys = refl
at_seam (x ∷ xs) y d ys = at_seam xs y d ys

pub set_seam : {X : Type 0} (xs : List X) (y z : X) (ys : List X) → set (xs ++ y ∷ ys) (length xs) z ≡ (xs ++ z ∷ []) ++ ys
set_seam [] y z ys = refl
set_seam (x ∷ xs) y z ys = ap (λ l. x ∷ l) (set_seam xs y z ys)

-- A list is what stands before a place, what is there, and what comes after.
pub record Cut {X : Type 0} (xs : List X) (i : ℕ) : Type 0 where
  pub before : List X
  pub here : X
  pub after : List X
  pub is : xs ≡ before ++ here ∷ after
  pub count : length before ≡ i

cut : {X : Type 0} (xs : List X) (i : ℕ) → i < length xs → Cut xs i
cut [] i within = absurd (omega (arith, within))
cut (x ∷ xs) zero within = record { before = []; here = x; after = xs; is = refl; count = refl }
cut (x ∷ xs) (suc i) within =
    let rest = cut xs i (omega (arith, within)) in
    record { before = x ∷ rest.before; here = rest.here; after = rest.after; is = ap (λ l. x ∷ l) rest.is; count = ap suc rest.count }

module _ {A : Type 0} {Sound : A → Type 0} {Same : A → A → Type 0} (f : A → List ℕ) (each : Reads Sound Same f) where
  -- Some are read, and these were meant: the same as these, one more, and others.
  pub record Meant (done meant : List A) (rest end : List ℕ) : Type 0 where
    pub parts : Cut meant (length done)
    pub sound : Sound parts.here
    pub same : AllZip Same done parts.before
    pub octets : rest ≡ f parts.here ++ (flat_map f parts.after ++ end)

  pub meant_by : {front rest end : List ℕ} (done meant : List A) → length done < length meant → All Sound done → All Sound meant → front ≡ flat_map f done ++ rest → front ≡ flat_map f meant ++ end → Meant done meant rest end
  meant_by {front} {rest} {end} done meant fewer sound all read e =
      let parts = cut meant (length done) fewer in
      let after = flat_map f parts.after in
      let here = all (length done) parts.here fewer in
      let is_here = ap (λ l. get_or l (length done) parts.here) parts.is ∙ ap (λ n. get_or (parts.before ++ parts.here ∷ parts.after) n parts.here) (sym parts.count) ∙ at_seam parts.before parts.here parts.here parts.after in
      let is_before = ap (take (length done)) parts.is ∙ ap (λ n. take n (parts.before ++ parts.here ∷ parts.after)) (sym parts.count) ∙ take-append_seam parts.before (parts.here ∷ parts.after) in
      let image = ap (flat_map f) parts.is ∙ flat_map-append f parts.before (parts.here ∷ parts.after) in
      let both = all-read Sound Same f each done parts.before rest ((f parts.here ++ after) ++ end) (sym parts.count) sound (subst (All Sound) is_before (All-take Sound (length done) meant all))
      (sym read ∙ e ∙ ap (λ l. l ++ end) image ∙ append_assoc (flat_map f parts.before) (f parts.here ++ after) end) in
      record { parts = parts; sound = subst Sound is_here here; same = both.0; octets = both.1 ∙ append_assoc (f parts.here) after end }

  -- so if none is there, none were meant
  pub none_more : {front rest : List ℕ} (done : List A) (n : ℕ) → length done < n → All Sound done → front ≡ flat_map f done ++ rest → HasNone f Sound rest
      → (meant : List A) (end : List ℕ) → length meant ≡ n → All Sound meant → front ≡ flat_map f meant ++ end → ⊥
  none_more done n fewer sound read none meant end count all e =
      let m = meant_by done meant (subst (λ n. length done < n) (sym count) fewer) sound all read e in
      none m.parts.here (flat_map f m.parts.after ++ end) m.sound m.octets

-- one more is read
pub one_more : {A : Type 0} (f : A → List ℕ) (done : List A) (one : A) (next : List ℕ) {front rest : List ℕ} → front ≡ flat_map f done ++ rest → rest ≡ f one ++ next → front ≡ flat_map f (done ++ one ∷ []) ++ next
one_more f done one next read more =
    read
    ∙ ap (λ octets. flat_map f done ++ octets) (more ∙ ap (λ l. l ++ next) (sym (append-nil (f one))))
    ∙ sym (append_assoc (flat_map f done) (f one ++ []) next)
    ∙ ap (λ l. l ++ next) (sym (flat_map-append f done (one ∷ [])))
