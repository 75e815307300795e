-- The table is read place by place.
use Rattle.lapd_tei.proofs.Vocabulary.{◌≡◌, ℕ, zero, suc, ◌<◌, ◌≤◌, ◌⊎◌, inl, inr, true, false, List, [], ◌∷◌, ◌++◌, length, Option, Some, None, refl, sym, ap, ◌∙◌, subst, arith, none-some, get_or_default, Places, is_on, IsAt, IsSoundTable}
use Rattle.std.proofs.Math.ListN.{get_or-append}
use Rattle.std.proofs.Math.Seq.{get_or-append_seam}
use Rattle.std.specs.Prelude.{flat_map}
use Rattle.std.proofs.lemmas.List.Concat.{flat_map_single}
use Rattle.lapd_image.specs.Reads.{HasNone, IsReadAs}
use Rattle.lapd_image.proofs.Reading.{Reads, heads, tails}
use Rattle.lapd_image.proofs.ReadLists.{IsKept, none-more, read-more, read-none}
use Rattle.model_teis.specs.TableImage.{IsTableOf, one_place, place, table}
use Rattle.model_teis.proofs.OfNetwork.ImageRead.{place-read}
use Rattle.model_teis.proofs.Tables.{at-within, at-off, at-is_on, table-empty}

-- a place that is free, or whose TEI a terminal can have
abbrev pub IsPlace : Option ℕ → Type 0
IsPlace own = (tei : ℕ) → own ≡ Some tei → tei ≤ 126

pub one_place-read : Reads IsPlace (λ (x y : Option ℕ). x ≡ y) one_place
one_place-read x y r s few also e = (place-read x y few also (heads e), tails e)

-- what stood at a place stands there with more places
at-before : (xs ys : Places) (i tei : ℕ) → IsAt xs i tei → IsAt (xs ++ ys) i tei
at-before xs ys i tei e = get_or-append xs ys None i (at-within xs i tei e) ∙ e

pub table-kept : IsKept IsPlace IsSoundTable
table-kept = record {
  each = λ all sound k d h tei e. sound.range k tei (get_or_default all k None d h ∙ e);
  front = λ xs ys sound. record {
    once = λ i j tei a b. sound.once i j tei (at-before xs ys i tei a) (at-before xs ys j tei b);
    range = λ i tei a. sound.range i tei (at-before xs ys i tei a);
  };
}

-- One place more: what stands at a place stood there before, or is the new one.
at-pushed : (xs : Places) (own : Option ℕ) (i tei : ℕ) → IsAt (xs ++ own ∷ []) i tei → IsAt xs i tei ⊎ ((i ≡ length xs) × (own ≡ Some tei))
at-pushed [] own zero tei e = inr (refl, e)
at-pushed [] own (suc i) tei e = absurd (none-some tei e)
at-pushed (x ∷ xs) own zero tei e = inl e
at-pushed (x ∷ xs) own (suc i) tei e = elim (at-pushed xs own i tei e) [
  | inl before ↦ inl before
  | inr new ↦ inr ((λ k. suc (new.0 k)), new.1)
]

pub table-pushed : (xs : Places) (own : Option ℕ) → IsSoundTable xs → ((tei : ℕ) → own ≡ Some tei → (is_on tei xs ≡ false) × (tei ≤ 126)) → IsSoundTable (xs ++ own ∷ [])
table-pushed xs own sound new = grind (arith, at-pushed, at-off)

-- No place is read from an octet that is of no TEI, or of one on the line.
of_octet : (own : Option ℕ) {octet : ℕ} {rest left : List ℕ} → octet ∷ left ≡ one_place own ++ rest → (octet ≡ 255 → ⊥) → own ≡ Some octet
of_octet None e other = absurd (other (heads e))
of_octet (Some tei) e other = ap Some (sym (heads e))

module _ (xs : Places) {octet : ℕ} {front left : List ℕ} (read : front ≡ octet ∷ left) (other : octet ≡ 255 → ⊥) where
  at_end : (own : Option ℕ) {rest : List ℕ} → front ≡ one_place own ++ rest → IsAt (xs ++ own ∷ []) (length xs) octet
  at_end own {rest} e = get_or-append_seam xs own [] None ∙ of_octet own (sym read ∙ e) other

  pub no_tei : 127 ≤ octet → HasNone one_place (λ own. IsSoundTable (xs ++ own ∷ [])) front
  no_tei high own rest sound e = let low = sound.range (length xs) octet (at_end own e) in omega (arith, low, high)

  pub tei_twice : is_on octet xs ≡ true → HasNone one_place (λ own. IsSoundTable (xs ++ own ∷ [])) front
  tei_twice on own rest sound e =
      let there = at-is_on xs octet on in
      let within = at-within xs there.0 octet there.1 in
      let same = sound.once there.0 (length xs) octet (at-before xs (own ∷ []) there.0 octet there.1) (at_end own e) in
      omega (arith, within, same)

-- The table as a whole.
pub table-begun : (front : List ℕ) (places : Places) → places ≡ [] → IsReadAs (flat_map one_place) IsSoundTable places front front
table-begun front places none =
    subst (λ p. IsReadAs (flat_map one_place) IsSoundTable p front front) (sym none)
    (read-none one_place IsPlace one_place-read IsSoundTable table-kept front (table-empty 0))

pub table-more : {old now new : List ℕ} {own : Option ℕ} (done : Places) → IsReadAs (flat_map one_place) IsSoundTable done old now
    → IsReadAs one_place (λ own. IsSoundTable (done ++ own ∷ [])) own now new → IsReadAs (flat_map one_place) IsSoundTable (done ++ own ∷ []) old new
table-more done before one = read-more one_place IsPlace one_place-read IsSoundTable table-kept done before one

pub table-whole : {like places : Places} {old new : List ℕ} → length places ≡ length like → IsReadAs (flat_map one_place) IsSoundTable places old new
    → IsReadAs table (IsTableOf like) places old new
table-whole {like} {places} {old} {new} size read =
    record { saved = record { sound = read.saved; size = size }; octets = read.octets ∙ ap (λ (l : List ℕ). l ++ new) (flat_map_single place places) }

pub table-none : {old now : List ℕ} (done like : Places) → length done < length like → IsReadAs (flat_map one_place) IsSoundTable done old now
    → HasNone one_place (λ own. IsSoundTable (done ++ own ∷ [])) now → HasNone table (IsTableOf like) old
table-none {old} {now} done like fewer before none places rest sound e =
    none-more one_place IsPlace one_place-read IsSoundTable table-kept done before none places rest
    (subst (λ n. length done < n) (sym sound.size) fewer) sound.sound (e ∙ ap (λ (l : List ℕ). l ++ rest) (sym (flat_map_single place places)))
