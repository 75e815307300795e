-- One direction between two ends, where an end receives the first frame of the other's way.
use Rattle.model_link.proofs.Vocabulary.{◌≡◌, ℕ, zero, suc, ◌+◌, ◌<◌, ◌≤◌, List, [], ◌∷◌, ◌++◌, length, take, Option, Some, refl, ap, subst, ◌∙◌, inl, inr, append-nil, arith, slice_get, option_to_list, slice_get_within, seq, named, Control, Information, Parts, Link, IsInRange, IsSound, Endpoint}
use Rattle.model_link.proofs.SoundRows.{named-within}
use Rattle.model_link.proofs.Lines.{Piece, Carried, Means, Rising, carried-higher, carried-lower, carried-high, rising-higher, rising-low}
use Rattle.model_link.proofs.Facing.{Number, Stay, Reports}
use Rattle.model_link.proofs.Direction.{Direction, line_of, frames_of, carried-reports, rising-reports, line-grows, named-means, carries-next}
use Rattle.model_link.proofs.Taking.{named-is_seq, HasNumber, Advance}

-- What the end that receives learns of its own contents: its V(A) becomes what the N(R) means.
pub sender-hears : (n m : Endpoint) (f : Parts) (fs : List Parts) (l : Link) (ds : List (List ℕ)) (S : Number)
    → IsInRange n.terms → IsSound n.terms n.link → m.way ≡ f ∷ fs
    → ((p : ℕ) → Means p f.control → (r : ℕ) × (v : ℕ) × (named n.link.a n.link.s (seq p) ≡ Some v) × Stay n.link S v r l.contents l.a l.s l.r l.waiting)
    → Direction n m → Direction (record n { link = l; delivered = ds }) (record m { way = fs })
sender-hears n m f fs l ds S ranges sound first heard h =
    let rising : Rising n.link.a m.link.r (f ∷ fs ++ frames_of m.terms m.link.waiting) = subst (λ way. Rising n.link.a m.link.r (way ++ frames_of m.terms m.link.waiting)) first h.rising in
    let p = rising.0 in
    let up : n.link.a ≤ p = rising.1 in
    let rest : Rising p m.link.r (fs ++ frames_of m.terms m.link.waiting) = rising.3 in
    let below : p ≤ m.link.r = rising-low p m.link.r (fs ++ frames_of m.terms m.link.waiting) rest in
    let high : m.link.r ≤ n.link.a + n.terms.k = carried-high n.link.contents (n.link.a + n.terms.k) m.link.r (line_of n) h.carried in
    let small : n.terms.k ≤ 127 = ranges.k_high in
    let within : n.link.s ≤ n.link.a + n.terms.k = sound.within in
    let told = heard p rising.2 in
    let r = told.0 in
    let v = told.1 in
    let stay = told.3 in
    let between = named-within n.link.a n.link.s v (seq p) told.2 in
    let from : n.link.a ≤ v = between.0 in
    let same : v ≡ p = named-means n.link.a n.link.s p v (seq p) refl up (omega arith) between.0 between.1 (omega arith) (named-is_seq n.link.a n.link.s v (seq p) told.2) in
    let now : l.a ≡ p = stay.acknowledged ∙ same in
    let reports = stay.reports in
    let line = line-grows n.terms n.way n.link.waiting l.waiting r reports in
    let c1 = carried-higher n.link.contents (n.link.a + n.terms.k) (l.a + n.terms.k) m.link.r (line_of n) (omega arith) h.carried in
    let c2 = carried-reports n.terms n.link.contents (l.a + n.terms.k) m.link.r r (line_of n) reports.news reports.are c1 in
    grind (arith, line_of, frames_of)

-- the contents up to a number, and the next one
pub take-next : (xs : List (List ℕ)) (i : ℕ) (x : List ℕ) → slice_get xs i ≡ Some x → take i xs ++ x ∷ [] ≡ take (suc i) xs
take-next [] i x e = absurd (cc)
take-next (y ∷ xs) zero x e = cc
take-next (y ∷ xs) (suc i) x e = ap (λ ys. y ∷ ys) (take-next xs i x e)

-- The I-frame with the number V(R) carries contents number V(R).
piece-next : (contents : List (List ℕ)) (high r top a k : ℕ) (octets : List ℕ) (control : Control) → high ≡ a + k → k ≤ 127 → a ≤ r
    → Piece contents high r top octets control → HasNumber r control → (slice_get contents r ≡ Some octets) × (r + 1 ≤ top)
piece-next contents high r top a k octets (Information ns nr p) e small low h next = carries-next contents high r top a k ns octets e small low h next
piece-next contents high r top a k octets other e small low h next = absurd next

-- what a frame brings
record Brings (contents : List (List ℕ)) (top r r' : ℕ) (d : Option (List ℕ)) : Type 0 where
  up : r ≤ r'
  to : r' ≤ top
  accepted : r' ≤ length contents
  delivered : take r contents ++ option_to_list d ≡ take r' contents

brings : (contents : List (List ℕ)) (r r' top a k : ℕ) (octets : List ℕ) (control : Control) (d : Option (List ℕ)) → k ≤ 127 → a ≤ r → r ≤ top
    → r ≤ length contents → Piece contents (a + k) r top octets control → Advance control octets r r' d → Brings contents top r r' d
brings contents r r' top a k octets control d small low here accepted piece (inl (still, none)) = grind (arith, append-nil)
brings contents r r' top a k octets control d small low here accepted piece (inr (one, some, next)) =
    let known = piece-next contents (a + k) r top a k octets control refl small low piece next in
    let inside : r < length contents = slice_get_within contents r octets known.0 in
    let most : r + 1 ≤ top = known.1 in
    let after : suc r ≡ r' = omega (arith, one) in
    record {
      up = omega (arith, one);
      to = omega (arith, one);
      accepted = omega (arith, one);
      delivered = ap (λ o. take r contents ++ option_to_list o) some ∙ take-next contents r octets known.0 ∙ ap (λ i. take i contents) after;
    }

-- What it takes of the other's contents.
pub receiver-hears : (n m : Endpoint) (f : Parts) (fs : List Parts) (l : Link) (ds : List (List ℕ)) (r : ℕ) (d : Option (List ℕ))
    → IsInRange m.terms → m.way ≡ f ∷ fs → Advance f.control f.info n.link.r r d → l.r ≡ r → Reports r n.link.waiting l.waiting
    → ds ≡ n.delivered ++ option_to_list d
    → Direction m n → Direction (record m { way = fs }) (record n { link = l; delivered = ds })
receiver-hears n m f fs l ds r d ranges first advance now reports told h =
    let high = m.link.a + m.terms.k in
    let carried : Carried m.link.contents high n.link.r (f ∷ fs ++ frames_of m.terms m.link.waiting) = subst (λ way. Carried m.link.contents high n.link.r (way ++ frames_of m.terms m.link.waiting)) first h.carried in
    let top = carried.0 in
    let low : m.link.a ≤ n.link.r = rising-low m.link.a n.link.r (line_of n) h.rising in
    let brought = brings m.link.contents n.link.r r top m.link.a m.terms.k f.info f.control d ranges.k_high low carried.1 h.accepted carried.2 advance in
    let line = line-grows n.terms n.way n.link.waiting l.waiting r reports in
    let r1 = rising-higher m.link.a n.link.r r (line_of n) brought.up h.rising in
    let r2 = rising-reports n.terms m.link.a r (line_of n) reports.news reports.are r1 in
    grind (arith, frames_of, carried-lower)
