-- Every event delivers the contents of the next eligible I-frame, if it brings it, and counts them; or the numbers
-- begin anew.
use Rattle.model_link.proofs.Vocabulary.{◌≡◌, ℕ, ◌+◌, ◌%◌, Bool, true, false, cond, ◌==◌, List, length, Option, Some, None, is_some, refl, ap, inl, arith, nat_lt, Seq, seq, Control, Information, State, Established, Terms, Link, is_multiple_frame, Arrived, information_of, eligible_of, eligible, Course, begun, Step, Event, leave_unserved, contents_in_7_8, information_in_7_8, is_next}
use Rattle.model_link.proofs.Vocabulary.{acknowledged_by_information_in_7, course, frame_in}
use Rattle.model_link.proofs.Leads.{Leads, depending_leads, number_leads}
use Rattle.model_link.proofs.Kept.{FitsEvent}
use Rattle.model_link.proofs.Contents.{contents}
use Rattle.model_link.proofs.Counting.{Count, On, counted, done, words}
use Rattle.model_link.proofs.Rows.{frame_row, event_row}

-- What an eligible frame delivers while V(R) is r, and V(R) after it.
abbrev pub delivery : ℕ → Option Arrived → Option (List ℕ)
delivery r None = None
delivery r (Some i) = cond (i.ns.value == r % 128) (Some i.contents) None

abbrev pub counted_on : ℕ → Option (List ℕ) → ℕ
counted_on r contents = cond (is_some contents) (r + 1) r

module _ (t : Terms) (l : Link) where
  pub begins : On (counted l.r None) (begun l)
  begins = record { number = refl; delivered = refl; goes_on = refl }

  branch-done : (b : Bool) (r r' : ℕ) (x x' : Option (List ℕ)) (u v : Course) → On (done r x) u → On (done r' x') v
      → On (done (cond b r r') (cond b x x')) (cond b u v)
  branch-done b r r' x x' u v h h' = grind arith

  information : (ns nr : Seq) (p : Bool) (octets : List ℕ) (f : ℕ → Step) → ((Q : Count) (m : ℕ) → Leads (On Q) (f m) (On Q))
      → On (done (cond (nat_lt t.n201 (length octets)) l.r (cond l.own_busy l.r (cond (is_next ns l) (l.r + 1) l.r)))
      (cond (nat_lt t.n201 (length octets)) None (cond l.own_busy None (cond (is_next ns l) (Some octets) None))))
      (information_in_7_8 t ns nr p octets f (begun l))
  information ns nr p octets f x =
      branch-done (nat_lt t.n201 (length octets)) _ _ _ _ _ _ (inl begins)
      (inl ((number_leads t nr (record { leads = λ c h. h }) (x (counted _ _))).leads (contents_in_7_8 t ns p octets (begun l))
      (contents t l (λ r' d. On (counted r' d)) (λ r' d. record { leads = λ c h. h }) (λ r' d. record { leads = λ c h. h }) (λ r' d b. record { leads = λ c h. h }) begins ns p octets
      (record { number = refl; delivered = refl; goes_on = refl }))))

-- The same in the words of eligibility.
next-is : (small own next : Bool) (octets : List ℕ) (r : ℕ)
    → cond small r (cond own r (cond next (r + 1) r)) ≡ counted_on r (cond small None (cond own None (cond next (Some octets) None)))
next-is small own next octets r = grind arith

module _ (t : Terms) (l : Link) where
  -- an I-frame in state 7 or 8
  numbered-frame : (ns nr : Seq) (p : Bool) (octets : List ℕ) (f : ℕ → Step) → ((Q : Count) (m : ℕ) → Leads (On Q) (f m) (On Q))
      → is_multiple_frame l.state ≡ true
      → let d = delivery l.r (eligible_of t l (Some (record { ns = ns; contents = octets }))) in
      On (done (counted_on l.r d) d) (information_in_7_8 t ns nr p octets f (begun l))
  unfolding seq
  numbered-frame ns nr p octets f x e =
      let small = nat_lt t.n201 (length octets) in
      let next = ns.value == l.r % 128 in
      let is : delivery l.r (eligible_of t l (Some (record { ns = ns; contents = octets }))) ≡ cond small None (cond l.own_busy None (cond next (Some octets) None)) = grind arith in
      let count = next-is small l.own_busy next octets l.r in
      grind (arith, done, information)

  In : Option Arrived → Course → Type 0
  In o c = On (done (counted_on l.r (delivery l.r (eligible_of t l o))) (delivery l.r (eligible_of t l o))) c

  -- outside states 7 and 8 nothing is eligible
  unserved : (o : Option Arrived) → is_multiple_frame l.state ≡ false → In o (leave_unserved (begun l))
  unfolding In
  unserved o e = grind (arith, On, done, begins)

  -- an I-frame in any state, and another frame
  information-in : (here : State) → l.state ≡ here → (b : Bool) (octets : List ℕ) (ns nr : Seq) (p : Bool)
      → In (information_of (Information ns nr p) octets) (frame_in here t b octets (Information ns nr p) (begun l))
  unfolding In
  information-in Established e b octets ns nr p =
      numbered-frame ns nr p octets acknowledged_by_information_in_7 (λ Q m. search (depending_leads)) (ap is_multiple_frame e)
  information-in here e b octets ns nr p = grind (arith, numbered-frame, unserved)

  frames : (here : State) → l.state ≡ here → (b : Bool) (octets : List ℕ) (control : Control) → In (information_of control octets) (frame_in here t b octets control (begun l))
  unfolding In
  frames here e b octets (Information ns nr p) = information-in here e b octets ns nr p
  frames here e b octets control = grind (arith, frame_row, words, begins)

  -- the other events
  others : (e : Event) → FitsEvent (Unit {0}) (Unit {0}) ⊥ e → On (done l.r None) (course t e l)
  others e may = (event_row (words t l.r) e may).leads (begun l) (begins t l)

  pub event-delivers : (e : Event)
      → On (done (counted_on l.r (delivery l.r (eligible t e l))) (delivery l.r (eligible t e l))) (course t e l)
  unfolding In
  event-delivers e = grind (arith, frames, others)
