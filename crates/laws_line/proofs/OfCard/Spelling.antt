-- What the grammar spells: the head of a frame is octets, and a frame is not too short.
use Rattle.laws_line.proofs.Vocabulary.{ℕ, ◌<◌, Bool, [], ◌∷◌, arith, All-nil, All-cons, Address, Side, Control, AreOctets, second_octet, row, head_of, Seq}
pub use Rattle.model_line.proofs.NotShort.{IsNotShort, not_short as not-short}

one : (x : ℕ) → x < 256 → AreOctets (x ∷ [])
one x small = All-cons (λ octet. octet < 256) x [] small (All-nil (λ octet. octet < 256))

both : (x y : ℕ) → x < 256 → y < 256 → AreOctets (x ∷ y ∷ [])
both x y small few = All-cons (λ octet. octet < 256) x (y ∷ []) small (one y few)

second : (first : ℕ) (nr : Seq) (pf : Bool) → first < 256 → AreOctets (first ∷ second_octet nr pf ∷ [])
second first nr pf small = grind (arith, both)

field : (c : Control) → AreOctets (row c).field
field c = grind (arith, second, one)

pub head : (side : Side) (a : Address) (c : Control) → a.sapi < 64 → a.tei < 128 → AreOctets (head_of side a c)
head side a c sapi tei = grind (arith, both, field)
