-- Lists that are read member by member, so long as those that were read may be saved.
use Rattle.std.proofs.Common.{arith, ◌≡◌, ℕ, ◌+◌, ◌<◌, ◌≤◌, List, [], ◌∷◌, ◌++◌, length, refl, sym, ap, ◌∙◌, subst, append_assoc, append-nil, length-append}
use Rattle.std.specs.Prelude.{All, flat_map}
use Rattle.std.proofs.lemmas.Grind.{flat_map-append}
use Rattle.std.proofs.Math.ListN.{get_or-append}
use Rattle.std.proofs.Math.Seq.{get_or-append_seam}
use Rattle.std.proofs.lemmas.List.Elements.{All-head, All-tail}
use Rattle.lapd_image.specs.Numbers.{list_of}
use Rattle.lapd_image.specs.Reads.{IsReadAs, HasNone}
use Rattle.lapd_image.proofs.Reading.{Reads, heads, tails, split}

-- What follows members that were read, if the list has more: one more member, and others.
record GoesOn {A : Type 0} (f : A → List ℕ) (done all : List A) (now rest : List ℕ) : Type 0 where
  next : A
  others : List A
  whole : all ≡ done ++ next ∷ others
  octets : now ≡ f next ++ (flat_map f others ++ rest)

-- A list of which this holds, and so of the members before others.
pub record IsKept {A : Type 0} (Each : A → Type 0) (Good : List A → Type 0) : Type 0 where
  pub each : (all : List A) → Good all → All Each all
  pub front : (xs ys : List A) → Good (xs ++ ys) → Good xs

module _ {A : Type 0} (f : A → List ℕ) (Each : A → Type 0) (each : Reads Each (λ (x y : A). x ≡ y) f) where
  goes-on : (done all : List A) (now rest : List ℕ) → length done < length all → All Each done → All Each all
      → flat_map f done ++ now ≡ flat_map f all ++ rest → GoesOn f done all now rest
  goes-on done [] now rest fewer few also e = absurd (omega (arith, fewer))
  goes-on [] (x ∷ all) now rest fewer few also e = record { next = x; others = all; whole = refl; octets = e ∙ append_assoc (f x) (flat_map f all) rest }
  goes-on (y ∷ done) (x ∷ all) now rest fewer few also e =
      let one : (y ≡ x) × (flat_map f done ++ now ≡ flat_map f all ++ rest) =
      each y x (flat_map f done ++ now) (flat_map f all ++ rest) (All-head Each y done few) (All-head Each x all also)
      (split (f y) (flat_map f done) (f x) (flat_map f all) now rest e) in
      let more = goes-on done all now rest (omega (arith, fewer)) (All-tail Each y done few) (All-tail Each x all also) one.1 in
      record { next = more.next; others = more.others; whole = λ i. sym one.0 i ∷ more.whole i; octets = more.octets }

  module _ (Good : List A → Type 0) (kept : IsKept Each Good) where
    -- nothing is read yet
    pub read-none : (old : List ℕ) → Good [] → IsReadAs (flat_map f) Good [] old old
    read-none old good = record { saved = good; octets = refl }

    -- one member more is read
    pub read-more : {old now new : List ℕ} {x : A} (done : List A) → IsReadAs (flat_map f) Good done old now → IsReadAs f (λ x. Good (done ++ x ∷ [])) x now new
        → IsReadAs (flat_map f) Good (done ++ x ∷ []) old new
    read-more {old} {now} {new} {x} done before one =
        let all : flat_map f (done ++ x ∷ []) ≡ flat_map f done ++ f x = flat_map-append f done (x ∷ []) ∙ ap (λ (l : List ℕ). flat_map f done ++ l) (append-nil (f x)) in
        record {
          saved = one.saved;
          octets = before.octets ∙ ap (λ (l : List ℕ). flat_map f done ++ l) one.octets ∙ sym (append_assoc (flat_map f done) (f x) new) ∙ ap (λ (l : List ℕ). l ++ new) (sym all);
        }

    -- No member follows: so no list with more members than were read is at the front.
    pub none-more : {old now : List ℕ} (done : List A) → IsReadAs (flat_map f) Good done old now → HasNone f (λ x. Good (done ++ x ∷ [])) now
        → (all : List A) (rest : List ℕ) → length done < length all → Good all → old ≡ flat_map f all ++ rest → ⊥
    none-more {old} {now} done before none all rest fewer good e =
        let on = goes-on done all now rest fewer (kept.each done before.saved) (kept.each all good) (sym before.octets ∙ e) in
        none on.next (flat_map f on.others ++ rest)
        (kept.front (done ++ on.next ∷ []) on.others (subst Good (on.whole ∙ sym (append_assoc done (on.next ∷ []) on.others)) good)) on.octets

    -- The same of a list with its count before it.
    pub list-end : {front old new : List ℕ} {count : ℕ} (all : List A) → front ≡ count ∷ old → length all ≡ count
        → IsReadAs (flat_map f) Good all old new → IsReadAs (list_of f) Good all front new
    list-end {front} {old} {new} {count} all counted size read = record { saved = read.saved; octets = counted ∙ (λ i. sym size i ∷ read.octets i) }

    pub list-none : {front old now : List ℕ} {count : ℕ} (done : List A) → front ≡ count ∷ old → length done < count
        → IsReadAs (flat_map f) Good done old now → HasNone f (λ x. Good (done ++ x ∷ [])) now → HasNone (list_of f) Good front
    list-none {front} {old} {now} {count} done counted fewer before none all rest good e =
        let same : count ∷ old ≡ length all ∷ (flat_map f all ++ rest) = sym counted ∙ e in
        let size : count ≡ length all = heads same in
        none-more done before none all rest (omega (arith, fewer, size)) good (tails same)

-- No list is at the front if there is no count, or one that is too great.
pub list-cut : {A : Type 0} (f : A → List ℕ) (Good : List A → Type 0) {front : List ℕ} → front ≡ [] → HasNone (list_of f) Good front
list-cut f Good {front} cut all rest good e =
    let size = ap (λ (l : List ℕ). length l) (sym cut ∙ e) in absurd (omega (arith, size))

pub list-many : {A : Type 0} (f : A → List ℕ) (Good : List A → Type 0) {front old : List ℕ} {count : ℕ} (most : ℕ) → ((all : List A) → Good all → length all ≤ most)
    → front ≡ count ∷ old → most < count → HasNone (list_of f) Good front
list-many f Good {front} {old} {count} most few counted many all rest good e =
    let same : count ∷ old ≡ length all ∷ (flat_map f all ++ rest) = sym counted ∙ e in
    let size : count ≡ length all = heads same in
    let least = few all good in
    omega (arith, many, size, least)

-- what holds of all holds of those at the front, and of the last
pub All-front : {A : Type 0} (P : A → Type 0) (xs ys : List A) → All P (xs ++ ys) → All P xs
All-front P xs ys all = λ k d h. subst P (get_or-append xs ys d k h) (all k d (omega (arith, h, length-append xs ys)))

pub All-last : {A : Type 0} (P : A → Type 0) (xs : List A) (x : A) → All P (xs ++ x ∷ []) → P x
All-last P xs x all = subst P (get_or-append_seam xs x [] x) (all (length xs) x (omega (arith, length-append xs (x ∷ []))))
