-- Two links stay up where T200 is timely: what holds in both directions is kept by each act.
use Rattle.laws_link.proofs.Vocabulary.{◌≡◌, ℕ, ◌+◌, ◌≤◌, Bool, true, false, IsTrue, List, [], ◌∷◌, ◌++◌, refl, sym, ap, subst, ◌∙◌, inl, inr, arith, All, drop, All-head, All-tail, Control, Parts, State, TimerRecovery, LinkTimer, ControlFrame, Terms, Link, is_multiple_frame, Request, frame, received, expired, requested, offer, Course, Endpoint, EndStep, requests, expires, sends, receives, loses}
use Rattle.laws_link.proofs.Vocabulary.{with_link, with_first_of, frame_given, acting, IsUp, rising-low, frames_of, line_of, Joined, IsNotRelease, is_enquiry, is_answer, IsNoneOpen, IsTimelyStep, after, course, given_of, is_running}
use Rattle.laws_link.proofs.OfTwo.Trains.{Kind, enquiry, report, kind_of, kinds_of, tally, one_enquiry, one_answer, one_rejection, every-push, behind-push}
use Rattle.laws_link.proofs.OfTwo.Flow.{most, Flow, flow-low, there-calm, there-enquiry, there-information, there-tail, few-more}
use Rattle.laws_link.proofs.OfTwo.Effects.{is_recovering}
use Rattle.laws_link.proofs.OfTwo.HeardRows.{heard}
use Rattle.laws_link.proofs.OfTwo.Meeting.{line, Longer, line-longer, flow-at, is-no-alien, sender-kept, sender-went, sender-hears, receiver-kept, receiver-went, receiver-hears}
use Rattle.laws_link.proofs.OfTwo.Going.{Asked, Gives, Offered, asks-went, RanOut, expires-goes, offer-goes}

-- no enquiry, and no answer, is none among the kinds
pub not-enquiry : (b : Bool) (control : Control) → is_enquiry b control ≡ false → one_enquiry (kind_of b control) ≡ 0
not-enquiry b control e = grind arith

not-answer : (b : Bool) (control : Control) → is_answer b control ≡ false → one_answer (kind_of b control) ≡ 0
not-answer b control e = grind arith

module _ (asked : Bool → Control → Bool) (one : Kind → ℕ) (w : (b : Bool) (control : Control) → asked b control ≡ false → one (kind_of b control) ≡ 0) (t : Terms) where
  none-waits : (ws : List ControlFrame) → All (λ f. asked f.command f.control ≡ false) ws → tally one (kinds_of (frames_of t ws)) ≡ 0
  none-waits [] h = refl
  none-waits (f ∷ fs) h =
      let here : one (kind_of f.command f.control) ≡ 0 = w f.command f.control (All-head (λ f. asked f.command f.control ≡ false) f fs h) in
      let more : tally one (kinds_of (frames_of t fs)) ≡ 0 = none-waits fs (All-tail (λ f. asked f.command f.control ≡ false) f fs h) in
      omega arith

  none-there : (way : List Parts) (ws : List ControlFrame) → All (λ f. asked f.address.command f.control ≡ false) way → All (λ f. asked f.command f.control ≡ false) ws
      → tally one (line t way ws) ≡ 0
  none-there [] ws h k = none-waits ws k
  none-there (f ∷ fs) ws h k =
      let here : one (kind_of f.address.command f.control) ≡ 0 = w f.address.command f.control (All-head (λ f. asked f.address.command f.control ≡ false) f fs h) in
      let more : tally one (line t fs ws) ≡ 0 = none-there fs ws (All-tail (λ f. asked f.address.command f.control ≡ false) f fs h) k in
      omega arith

-- One direction between two ends.
abbrev pub Flows : Endpoint → Endpoint → Type 0
Flows n m = Flow n.link.s m.link.r (is_recovering n.link.state) m.link.rejecting (line n.terms n.way n.link.waiting) (line m.terms m.way m.link.waiting)

pub flows-low : (n m : Endpoint) → Flows n m → m.link.r ≤ n.link.s
flows-low n m h = flow-low n.link.s m.link.r (is_recovering n.link.state) m.link.rejecting (line n.terms n.way n.link.waiting) (line m.terms m.way m.link.waiting) h

module _ (n m : Endpoint) (h : Joined n m) (f : Flows n m) (g : Flows m n) where
  abbrev own : List Kind
  own = line n.terms n.way n.link.waiting

  abbrev other : List Kind
  other = line m.terms m.way m.link.waiting

  -- requests
  asks-flows : (request : Request) (full : Bool) → IsNotRelease request → Flows (with_link (requested request full) n) m × Flows m (with_link (requested request full) n)
  asks-flows request full mild =
      let w = asks-went n.terms n.link h.near_up request full mild in
      let l' = after n.terms (requested request full) n.link in (
        sender-went n.terms n.way n.link l' m.link.r m.link.rejecting other (is_recovering n.link.state) report tt refl refl w f,
        receiver-went n.terms n.way n.link l' m.link.s (is_recovering m.link.state) other report refl refl tt tt w.r w.rejecting w.waiting g,
      )

  -- expiries
  none-open : (here : State) → n.link.state ≡ here → (n.link.state ≡ TimerRecovery → IsNoneOpen n m) → IsTrue (is_multiple_frame here)
      → (tally one_enquiry own ≡ 0) × (tally one_answer other ≡ 0)
  none-open TimerRecovery e x up =
      let o = x e in (
        none-there is_enquiry one_enquiry not-enquiry n.terms n.way n.link.waiting o.enquiries.way o.enquiries.waiting,
        none-there is_answer one_answer not-answer m.terms m.way m.link.waiting o.answers.way o.answers.waiting,
      )
  none-open here e x up = grind (arith, tally, one_enquiry, one_answer, most, is_recovering)

  asked-flows : (l' : Link) → Asked n.link l' → Longer own (line n.terms n.way l'.waiting) enquiry → (tally one_enquiry own ≡ 0) × (tally one_answer other ≡ 0)
      → Flow l'.s m.link.r (is_recovering l'.state) m.link.rejecting (line n.terms n.way l'.waiting) other
  asked-flows l' a (inl e) none = grind (arith, flow-at, is_recovering)
  asked-flows l' a (inr e) none =
      flow-at a.s refl (ap is_recovering a.state) refl e refl (there-enquiry n.link.s m.link.r (is_recovering n.link.state) m.link.rejecting own other none.0 none.1 f)

  ran-flows : (timer : LinkTimer) (c : Course) → (n.link.state ≡ TimerRecovery → is_running timer n.link ≡ true → IsNoneOpen n m) → RanOut n.terms n.link timer c
      → Flow c.link.s m.link.r (is_recovering c.link.state) m.link.rejecting (line n.terms n.way c.link.waiting) other
      × Flow m.link.s c.link.r (is_recovering m.link.state) c.link.rejecting other (line n.terms n.way c.link.waiting)
  ran-flows timer c x (inl k) = grind (arith, sender-kept, is_recovering, receiver-kept)
  ran-flows timer c x (inr a) = (
    asked-flows c.link a.1 (line-longer n.terms n.way n.link.waiting c.link.waiting enquiry a.1.waiting) (none-open n.link.state refl (λ e. x e a.0) h.near_up),
    receiver-went n.terms n.way n.link c.link m.link.s (is_recovering m.link.state) other enquiry refl refl tt tt a.1.r a.1.rejecting a.1.waiting g,
  )

  -- V(S) is at most 127 beyond the other's V(R)
  near : n.link.s ≤ m.link.r + 127
  near = grind (arith, rising-low, line_of)

  -- offers
  gives-flows : (c : Course) → Offered n.terms n.link c → Gives n.terms n.link c
      → let way = n.way ++ frame_given n.terms (given_of n.terms n.link c c.sent) in
      Flow c.link.s m.link.r (is_recovering c.link.state) m.link.rejecting (line n.terms way c.link.waiting) other
      × Flow m.link.s c.link.r (is_recovering m.link.state) c.link.rejecting other (line n.terms way c.link.waiting)
  gives-flows c o (inl x) = grind (arith, flow-at, is_recovering)
  gives-flows c o (inr (inl x)) = (
    flow-at x.0 refl (ap is_recovering o.state) refl (x.1 n.way) refl (there-calm n.link.s m.link.r (is_recovering n.link.state) m.link.rejecting own other report tt refl f),
    flow-at refl o.r refl o.rejecting refl (x.1 n.way) (grind (arith, tally, one_answer, few-more, one_rejection, every-push, behind-push)),
  )
  gives-flows c o (inr (inr x)) = (
    flow-at x.1 refl (ap is_recovering (o.state ∙ x.0)) refl (x.2 n.way) refl
        (there-information n.link.s m.link.r m.link.rejecting own other near (flow-at refl refl (sym (ap is_recovering x.0)) refl refl refl f)),
    flow-at refl o.r refl o.rejecting refl (x.2 n.way) (grind (arith, tally, one_answer, few-more, one_rejection, every-push, behind-push)),
  )

  -- frames
  hears-flows : (p : Parts) (fs : List Parts) → m.way ≡ p ∷ fs → IsTrue (is_multiple_frame (with_link (received (frame p)) n).link.state)
      → Flows (with_link (received (frame p)) n) (record m { way = fs }) × Flows (record m { way = fs }) (with_link (received (frame p)) n)
  hears-flows p fs first up =
      let l' = after n.terms (received (frame p)) n.link in
      let x = kind_of p.address.command p.control in
      let rest = line m.terms fs m.link.waiting in
      let f' : Flow n.link.s m.link.r (is_recovering n.link.state) m.link.rejecting own (x ∷ rest) =
      subst (λ way. Flow n.link.s m.link.r (is_recovering n.link.state) m.link.rejecting own (line m.terms way m.link.waiting)) first f in
      let g' : Flow m.link.s n.link.r (is_recovering m.link.state) n.link.rejecting (x ∷ rest) own =
      subst (λ way. Flow m.link.s n.link.r (is_recovering m.link.state) n.link.rejecting (line m.terms way m.link.waiting) own) first g in
      let k = heard n.terms n.link h.near_up p.address.command p.info p.control up in
      let low : n.link.a ≤ m.link.r = rising-low n.link.a m.link.r (line_of m) h.there.rising in
      let known = is-no-alien m.link.s n.link.r (is_recovering m.link.state) n.link.rejecting x rest own g' in (
        sender-hears n.terms n.way n.link l' m.link.r m.link.rejecting x rest (is_recovering n.link.state) known low (omega arith) refl k f',
        receiver-hears n.terms n.way n.link l' m.link.s (is_recovering m.link.state) x rest (is_recovering n.link.state) (grind (arith, rising-low, line_of)) k g',
      )

  first-flows : (way : List Parts) → m.way ≡ way → IsTrue (is_multiple_frame (with_first_of way n).link.state)
      → Flows (with_first_of way n) (record m { way = drop 1 way }) × Flows (record m { way = drop 1 way }) (with_first_of way n)
  first-flows [] e up = (subst (λ way. Flows n (record m { way = way })) e f, subst (λ way. Flows (record m { way = way }) n) e g)
  first-flows (p ∷ fs) e up = hears-flows p fs e up

  -- losses
  lost-flows : (way : List Parts) → n.way ≡ way → Flows (record n { way = drop 1 way }) m × Flows m (record n { way = drop 1 way })
  lost-flows [] e = (subst (λ way. Flows (record n { way = way }) m) e f, subst (λ way. Flows m (record n { way = way })) e g)
  lost-flows (p ∷ fs) e =
      let x = kind_of p.address.command p.control in
      let rest = line n.terms fs n.link.waiting in (
        there-tail n.link.s m.link.r (is_recovering n.link.state) m.link.rejecting x rest other (subst (λ way. Flow n.link.s m.link.r (is_recovering n.link.state) m.link.rejecting (line n.terms way n.link.waiting) other) e f),
        (grind (arith, one_rejection, tally, one_enquiry, one_answer)),
      )

  pub acted-flows : (act : EndStep) → IsTimelyStep act n m → IsUp (acting act (record { near = n; far = m }))
      → Flows (acting act (record { near = n; far = m })).near (acting act (record { near = n; far = m })).far
      × Flows (acting act (record { near = n; far = m })).far (acting act (record { near = n; far = m })).near
  acted-flows (requests request full) x up = asks-flows request full x
  acted-flows (expires timer) x up = (ran-flows timer (course n.terms (expired timer) n.link) x.1 (expires-goes n.terms n.link h.near_up timer up.0))
  acted-flows sends x up = (let o = offer-goes n.terms n.link in gives-flows (course n.terms offer n.link) o o.gives)
  acted-flows receives x up = first-flows m.way refl up.0
  acted-flows loses x up = lost-flows n.way refl
