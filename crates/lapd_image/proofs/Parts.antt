-- Parts of an image are read one after the other: if a part is not at the front, or is another, then the whole is not.
use Rattle.std.proofs.Common.{◌≡◌, ℕ, List, ◌++◌, sym, ap, ◌∙◌, append_assoc}
use Rattle.lapd_image.specs.Reads.{IsReadAs, HasNone}
use Rattle.lapd_image.proofs.Reading.{Reads}

-- None that holds more is there if there is none, or if it is another.
pub none-narrower : {A : Type 0} (image : A → List ℕ) {P Q : A → Type 0} {old : List ℕ} → ((x : A) → Q x → P x) → HasNone image P old → HasNone image Q old
none-narrower image more none x rest saved e = none x rest (more x saved) e

pub none-other : {A : Type 0} {image : A → List ℕ} {P Q : A → Type 0} {x : A} {old new : List ℕ} → Reads P (λ (x y : A). x ≡ y) image → ((x : A) → Q x → P x)
    → IsReadAs image P x old new → ((y : A) → Q y → y ≡ x → ⊥) → HasNone image Q old
none-other {x = x} {new = new} one more read refused y rest saved e =
    refused y saved (one y x rest new (more y saved) read.saved (sym e ∙ read.octets)).0

-- An image that begins with that of a part.
module _ {A B : Type 0} (image : A → List ℕ) (Good : A → Type 0) (part : A → B) (f : B → List ℕ) (after : A → List ℕ) (P : B → Type 0)
    (begins : (a : A) → image a ≡ f (part a) ++ after a) (kept : (a : A) → Good a → P (part a)) where
  at_front : {old : List ℕ} (a : A) (rest : List ℕ) → old ≡ image a ++ rest → old ≡ f (part a) ++ (after a ++ rest)
  at_front a rest e = e ∙ ap (λ (l : List ℕ). l ++ rest) (begins a) ∙ append_assoc (f (part a)) (after a) rest

  pub none-part : {old : List ℕ} → HasNone f P old → HasNone image Good old
  none-part none a rest good e = none (part a) (after a ++ rest) (kept a good) (at_front a rest e)

  -- The part is read, and what is after it is of no whole with that part.
  pub none-after : {b : B} {old mid : List ℕ} → Reads P (λ (x y : B). x ≡ y) f → IsReadAs f P b old mid → HasNone after (λ (a : A). Good a × (part a ≡ b)) mid → HasNone image Good old
  none-after {b} {old} {mid} one read none a rest good e =
      let same : (part a ≡ b) × (after a ++ rest ≡ mid) = one (part a) b (after a ++ rest) mid (kept a good) read.saved (sym (at_front a rest e) ∙ read.octets) in
      none a rest (good, same.0) (sym same.1)
