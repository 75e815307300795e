-- Numbered deliveries: one more eligible frame, delivered or passed over.
use Rattle.model_link.proofs.Vocabulary.{◌≡◌, ◌≢◌, ℕ, ◌+◌, ◌%◌, Bool, true, false, cond, ◌==◌, List, [], ◌∷◌, ◌++◌, length, Option, Some, None, refl, sym, ap, subst, ◌∙◌, append_assoc, append-nil, length-append, true≢false, eqb-true, eq-eqb, ◌⊎◌, inl, inr, arith, option_to_list, All-push, All-nil, Terms, Link, fresh, Event, after, after_all, told, course, Arrived, eligible, Numbered, History}
use Rattle.model_link.proofs.Vocabulary.{nothing_yet, with_event, with_all, IsNumbered}
use Rattle.model_link.proofs.Counting.{Counted, Restarted}
use Rattle.model_link.proofs.Delivering.{delivery, counted_on, event-delivers}

-- one more frame, which does not have the next number
pub passed-over : (i : ℕ) (frames : List Arrived) (more : List (List ℕ)) (f : Arrived) → f.ns.value ≢ (i + length more) % 128
    → Numbered i frames more → Numbered i (frames ++ f ∷ []) more
passed-over i frames [] f other h = All-push (λ g. g.ns.value ≢ i % 128) frames f h (subst (λ n. f.ns.value ≢ n % 128) (omega arith) other)
passed-over i frames (contents ∷ more) f other (front, next, back, is_next, same, rest) = (
  front,
  next,
  back ++ f ∷ [],
  record {
    parts = ap (λ xs. xs ++ f ∷ []) is_next.parts ∙ append_assoc front (next ∷ back) (f ∷ []);
    before = is_next.before;
    number = is_next.number;
  },
  same,
  passed-over (i + 1) back more f (subst (λ n. f.ns.value ≢ n % 128) (omega arith) other) rest,
)

-- one more frame, which has it
pub taken : (i : ℕ) (frames : List Arrived) (more : List (List ℕ)) (f : Arrived) → f.ns.value ≡ (i + length more) % 128
    → Numbered i frames more → Numbered i (frames ++ f ∷ []) (more ++ f.contents ∷ [])
taken i frames [] f this h =
    (frames, f, [], record { parts = refl; before = h; number = subst (λ n. f.ns.value ≡ n % 128) (omega arith) this }, refl, All-nil (λ g. g.ns.value ≢ (i + 1) % 128))
taken i frames (contents ∷ more) f this (front, next, back, is_next, same, rest) = (
  front,
  next,
  back ++ f ∷ [],
  record {
    parts = ap (λ xs. xs ++ f ∷ []) is_next.parts ∙ append_assoc front (next ∷ back) (f ∷ []);
    before = is_next.before;
    number = is_next.number;
  },
  same,
  taken (i + 1) back more f (subst (λ n. f.ns.value ≡ n % 128) (omega arith) this) rest,
)

-- one more eligible frame, by whether it has the next number
by-number : (frames : List Arrived) (deliveries : List (List ℕ)) (r : ℕ) (f : Arrived) (b : Bool) → (f.ns.value == r % 128) ≡ b
    → Numbered 0 frames deliveries → r ≡ length deliveries
    → Numbered 0 (frames ++ f ∷ []) (deliveries ++ option_to_list (cond b (Some f.contents) None))
    × (counted_on r (cond b (Some f.contents) None) ≡ length (deliveries ++ option_to_list (cond b (Some f.contents) None)))
by-number frames deliveries r f b test h e = grind (arith, taken, eqb-true, length-append, append-nil, passed-over, eq-eqb)

-- one more event that goes on
going-on : (frames : List Arrived) (deliveries : List (List ℕ)) (r : ℕ) (o : Option Arrived) → Numbered 0 frames deliveries → r ≡ length deliveries
    → Numbered 0 (frames ++ option_to_list o) (deliveries ++ option_to_list (delivery r o))
    × (counted_on r (delivery r o) ≡ length (deliveries ++ option_to_list (delivery r o)))
going-on frames deliveries r None h e = simp append-nil (h, e)
going-on frames deliveries r (Some f) h e = by-number frames deliveries r f (f.ns.value == r % 128) refl h e

-- what an event comes to keeps deliveries numbered
with-course : (b : Bool) (w : History) (o : Option Arrived) (r r' : ℕ) (contents : Option (List ℕ)) (zeroed : Bool) → zeroed ≡ b
    → (Counted (counted_on r (delivery r o)) (delivery r o) r' contents zeroed ⊎ Restarted r' contents zeroed)
    → Numbered 0 w.frames w.deliveries → r ≡ length w.deliveries
    → Numbered 0 (cond b nothing_yet (record { frames = w.frames ++ option_to_list o; deliveries = w.deliveries ++ option_to_list contents })).frames (cond b nothing_yet (record { frames = w.frames ++ option_to_list o; deliveries = w.deliveries ++ option_to_list contents })).deliveries
    × (r' ≡ length (cond b nothing_yet (record { frames = w.frames ++ option_to_list o; deliveries = w.deliveries ++ option_to_list contents })).deliveries)
with-course true w o r r' contents zeroed e (inl x) h c = absurd (true≢false (sym e ∙ x.goes_on))
with-course true w o r r' contents zeroed e (inr x) h c = (All-nil (λ g. g.ns.value ≢ 0 % 128), x.number)
with-course false w o r r' contents zeroed e (inl x) h c =
    let on = going-on w.frames w.deliveries r o h c in (
      subst (λ y. Numbered 0 (w.frames ++ option_to_list o) (w.deliveries ++ option_to_list y)) (sym x.delivered) on.0,
      x.number ∙ subst (λ y. counted_on r (delivery r o) ≡ length (w.deliveries ++ option_to_list y)) (sym x.delivered) on.1,
    )
with-course false w o r r' contents zeroed e (inr x) h c = absurd (true≢false (sym x.begins ∙ e))

pub numbered-after : (t : Terms) (e : Event) (l : Link) (w : History) → IsNumbered w l → IsNumbered (with_event t e l w) (after t e l)
numbered-after t e l w h =
    let c = course t e l in
    let x = with-course c.zeroed w (eligible t e l) l.r c.link.r c.delivered c.zeroed refl (event-delivers t l e) h.numbered h.counted in
    record { numbered = x.0; counted = x.1 }

pub numbered-fresh : IsNumbered nothing_yet fresh
numbered-fresh = record { numbered = All-nil (λ g. g.ns.value ≢ 0 % 128); counted = refl }

pub numbered-all : (t : Terms) (es : List Event) (l : Link) (w : History) → IsNumbered w l → IsNumbered (with_all t es l w) (after_all t es l)
unfolding with_all after_all
numbered-all t [] l w h = h
numbered-all t (e ∷ es) l w h = numbered-all t es (after t e l) (with_event t e l w) (numbered-after t e l w h)

-- what is delivered are the contents of the frame that the event brings
from-delivery : (r : ℕ) (o : Option Arrived) (contents : List ℕ) → delivery r o ≡ Some contents
    → (i : Arrived) × (o ≡ Some i) × (i.contents ≡ contents) × (i.ns.value ≡ r % 128)
from-delivery r None contents e = absurd (cc)
from-delivery r (Some i) contents e = tested (i.ns.value == r % 128) refl e
  where
    tested : (b : Bool) → (i.ns.value == r % 128) ≡ b → cond b (Some i.contents) None ≡ Some contents
        → (j : Arrived) × (Some i ≡ Some j) × (j.contents ≡ contents) × (j.ns.value ≡ r % 128)
    tested true test e = (i, refl, cc, eqb-true i.ns.value (r % 128) test)
    tested false test e = absurd (cc)

pub delivered-at_once : (t : Terms) (e : Event) (l : Link) (contents : List ℕ) → (told t e l).delivered ≡ Some contents
    → (i : Arrived) × (eligible t e l ≡ Some i) × (i.contents ≡ contents) × (i.ns.value ≡ l.r % 128)
delivered-at_once t e l contents d =
    elim (event-delivers t l e) [
      | inl x ↦ from-delivery l.r (eligible t e l) contents (sym x.delivered ∙ d)
      | inr x ↦ absurd (let none : None ≡ Some contents = sym x.delivered ∙ d in cc)
    ]
