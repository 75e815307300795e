-- What the other end does leaves it as it was how often T200 ran out, once nothing more is lost.
use Rattle.laws_wire.proofs.Vocabulary.{◌≡◌, ℕ, ◌+◌, ◌≤◌, Bool, true, false, IsTrue, List, ◌∷◌, refl, sym, ap, subst, ◌⊎◌, inl, inr, eq-eqb, arith, Control, Parts, Seq, seq, LinkTimer, received, expired, Link, is_multiple_frame, LinkEndpoint, with_link, is_recovering, Heard, heard, line, NoAlien, Kind, numbered, answer, rejection, alien, kind_of, frame, after, line_of, begun, frame_step, Rising}
use Rattle.laws_link.specs.two.Timely.{IsTimely}
use Rattle.laws_wire.proofs.Dense.{Dense, Replies}
use Rattle.laws_wire.proofs.Firm.{Firm}
use Rattle.laws_wire.proofs.Often.{Often, In7, In8, often-by}
use Rattle.laws_wire.proofs.Replying.{expires-so, next-taken}
use Rattle.laws_wire.proofs.Roomy.{kinds}
use Rattle.laws_wire.proofs.Sure.{Sure, room-for, none-open, known}
use Rattle.laws_wire.proofs.SureHeard.{other-expires, other-hears, sure-replied}
use Rattle.laws_wire.proofs.Tame.{IsFree}

-- its V(R) is the same
pub often-still : (o e : ℕ) (n m m' : LinkEndpoint) → m'.link.r ≡ m.link.r → (Sure n m → Sure n m') → Often o e n m → Often o e n m'
often-still o e n m m' same f h = often-by o e n m n m' (subst (λ r. m.link.r ≤ r) (sym same) (omega arith)) f go h
  where
    go : Sure n m → In7 o e n ⊎ In8 o e n m → In7 o e n ⊎ In8 o e n m'
    go s (inl x) = inl x
    go s (inr (state, inl one)) = inr (state, inl one)
    go s (inr (state, inr (d, few))) = inr (state, inr (subst (λ r. Dense r n.link.s (kinds n)) (sym same) d, few))

pub often-replied : (o e : ℕ) (n m : LinkEndpoint) → Rising m.link.a n.link.r (line_of n) → (l' : Link) (way : List Parts) (ds : List (List ℕ)) → l'.r ≡ n.link.r
    → Replies n.link.r n.link.pending l'.pending (line_of n) (line_of (record n { link = l'; way = way; delivered = ds })) → Often o e m n
    → Often o e m (record n { link = l'; way = way; delivered = ds })
often-replied o e n m rising l' way ds same says h =
    often-still o e m n (record n { link = l'; way = way; delivered = ds }) same (sure-replied n m rising l' way ds same says) h

module _ (o e : ℕ) (n m : LinkEndpoint) (h : Firm n m) (wide : 3 ≤ n.terms.control) where
  pub often-other-expires : (timer : LinkTimer) → IsTimely timer n m → IsTrue (is_multiple_frame (after n.terms (expired timer) n.link).state) → Often o e m n
      → Often o e m (with_link (expired timer) n)
  often-other-expires timer timely up f =
      often-still o e m n (with_link (expired timer) n)
      (elim (expires-so n.terms n.link h.joined.near_up timer (λ running. room-for n m h wide (none-open n m h wide timer timely running)) up) [
        | inl e ↦ ap (λ (l : Link). l.r) e
        | inr q ↦ q.r
      ]) (other-expires n m h wide timer timely up) f

-- ---- it hears a frame

module _ (o e : ℕ) (n m : LinkEndpoint) (h : Firm n m) (wide : 3 ≤ n.terms.control) (p : Parts) (fs : List Parts) (first : m.way ≡ p ∷ fs) (free : IsFree p.control)
    (up' : IsTrue (is_multiple_frame (after n.terms (received (frame p)) n.link).state)) where
  abbrev l' : Link
  l' = after n.terms (received (frame p)) n.link

  abbrev n' : LinkEndpoint
  n' = with_link (received (frame p)) n

  abbrev m' : LinkEndpoint
  m' = record m { way = fs }

  abbrev x : Kind
  x = kind_of p.address.command p.control

  abbrev rest : List Kind
  rest = line m.terms fs m.link.waiting

  abbrev IsUpBy : Bool → Control → Type 0
  IsUpBy b control = IsTrue (is_multiple_frame (frame_step n.terms b p.info control (begun n.link)).link.state)

  -- the next one
  next : (b : Bool) (control : Control) (ns : Seq) → kind_of b control ≡ numbered ns → ns ≡ seq n.link.r → IsUpBy b control
      → (frame_step n.terms b p.info control (begun n.link)).link.r ≡ n.link.r + 1
  next b control ns is same up = grind (arith, eq-eqb, next-taken)

  heard-in : Heard x (is_recovering n.link.state) n.link l'
  heard-in = heard n.terms n.link h.joined.near_up p.address.command p.info p.control up'

  rises : (y : Kind) (b : Bool) → NoAlien y → Heard y b n.link l' → n.link.r ≤ l'.r
  rises y b known_ k = grind arith

  popped : (y : Kind) (b : Bool) (s : ℕ) → x ≡ y → NoAlien y → Heard y b n.link l' → Dense n.link.r s (y ∷ rest) → Dense l'.r s rest
  popped (numbered ns) b s is known_ k d = subst (λ r. Dense r s rest) (sym (next p.address.command p.control ns is d.0 up')) d.1
  popped (answer nr) true s is known_ k d = subst (λ r. Dense r s rest) (sym k.r) d
  popped (answer nr) false s is known_ k d = subst (λ r. Dense r s rest) (sym k.r) d
  popped (rejection nr) true s is known_ k d = subst (λ r. Dense r s rest) (sym k.r) d
  popped (rejection nr) false s is known_ k d = subst (λ r. Dense r s rest) (sym k.r) d
  popped alien b s is known_ k d = absurd known_
  popped other b s is known_ k d = subst (λ r. Dense r s rest) (sym k.r) d

  pub often-other-hears : Often o e m n → Often o e m' n'
  often-other-hears f =
      often-by o e m n m' n' (rises x (is_recovering n.link.state) (known n m h p fs first) heard-in) (other-hears n m h wide p fs first free up') go f
    where
      go : Sure m n → In7 o e m ⊎ In8 o e m n → In7 o e m' ⊎ In8 o e m' n'
      go s (inl x) = inl x
      go s (inr (state, inl one)) = inr (state, inl one)
      go s (inr (state, inr (d, few))) =
          let d' : Dense n.link.r m.link.s (x ∷ rest) = subst (λ way. Dense n.link.r m.link.s (line m.terms way m.link.waiting)) first d in
          inr (state, inr (popped x (is_recovering n.link.state) m.link.s refl (known n m h p fs first) heard-in d', few))
