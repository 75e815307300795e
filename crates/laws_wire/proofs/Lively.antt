-- Where T200 runs in state 7 something is not acknowledged, at an end whose other is not taken for busy: after what it hears, and after an
-- offer.
use Rattle.laws_wire.proofs.Vocabulary.{arith, ◌≡◌, ℕ, ◌<◌, ◌≤◌, Bool, true, false, cond, IsTrue, List, [], ◌∷◌, Some, refl, sym, ◌∙◌, ◌⊎◌, inl, true≢false, nat_lt, ltb-true, ltb-false, eq-eqb, eqb-true, Seq, Control, Information, ReceiveReady, Reject, State, Established, TimerRecovery, T203, ControlFrame, Terms, Link, is_multiple_frame, Course, offer, Option, None, length}
use Rattle.laws_wire.proofs.Vocabulary.{◌then◌, code_J, code_O, begun, Step, c-7, c-8, named, named-within, NoAlien, kind_of}
use Rattle.model_link.specs.Counts.{with_reject_received}
use Rattle.model_link.specs.Established.{acknowledged_in_7, acknowledged_by_information_in_7, acknowledged_by_rej_in_7, frame_in_7}
use Rattle.model_link.specs.MultipleFrame
use Rattle.model_link.specs.TimerRecovery.{acknowledged_in_8, frame_in_8}
use Rattle.model_link.specs.Words.{acknowledge, by_number, error, re_establish, with_counted}
use Rattle.model_link.specs.Machine
use Rattle.model_link.specs.Offers
use Rattle.laws_wire.proofs.Tame.{IsFree}

abbrev pub Lively : Link → Type 0
Lively l = l.state ≡ Established → (l.running ≡ Some T203) ⊎ (l.a < l.s)

abbrev IsUpIn : Course → Type 0
IsUpIn c = IsTrue (is_multiple_frame c.link.state)

acked-lively : (c : Course) (n : ℕ) → c.link.a ≤ n → n ≤ c.link.s → Lively (acknowledged_in_7 n c).link
acked-lively c n low high = grind (arith, eqb-true, eq-eqb, nat_lt, ltb-true, ltb-false)

informed-lively : (c : Course) (n : ℕ) → c.link.peer_busy ≡ false → c.link.a ≤ n → n ≤ c.link.s → Lively (acknowledged_by_information_in_7 n c).link
informed-lively c n free low high = grind (arith, acked-lively)

module _ (t : Terms) (l : Link) where
  abbrev effected : (ℕ → Step) → Course → Option ℕ → Course
  effected f c o = elim o [ None ↦ (error t code_J then re_establish t) c | Some n ↦ f n c ]

  effect : (f : ℕ → Step) (c : Course) (o : Option ℕ) → ((n : ℕ) → o ≡ Some n → Lively (f n c).link) → IsUpIn (effected f c o) → Lively (effected f c o).link
  effect f c o x up = grind arith

  by-one : (nr : Seq) (f : ℕ → Step) (c : Course) → ((n : ℕ) → c.link.a ≤ n → n ≤ c.link.s → Lively (f n c).link) → IsUpIn (by_number t nr f c)
      → Lively (by_number t nr f c).link
  by-one nr f c x up = effect f c (named c.link.a c.link.s nr) (λ n e. let within = named-within c.link.a c.link.s n nr e in x n within.0 within.1) up

  -- what an I-frame brings leaves what counts here
  record SameIn (c : Course) : Type 0 where
    a : c.link.a ≡ l.a
    s : c.link.s ≡ l.s
    busy : c.link.peer_busy ≡ l.peer_busy
    state : c.link.state ≡ l.state

  either : (b : Bool) (u v : Course) → SameIn u → SameIn v → SameIn (cond b u v)
  either true u v x y = x
  either false u v x y = y

  contents : (ns : Seq) (octets : List ℕ) → SameIn (MultipleFrame.contents_in_7_8 t ns false octets (begun l))
  contents ns octets = grind (arith, either)

  fitting : (b : Bool) (u v : Course) → (IsUpIn u → ⊥) → (IsUpIn v → Lively v.link) → IsUpIn (cond b u v) → Lively (cond b u v).link
  fitting true u v x y up = absurd (x up)
  fitting false u v x y up = y up

  informed : (ns nr : Seq) (octets : List ℕ) (f : ℕ → Step) → ((c : Course) (n : ℕ) → SameIn c → c.link.a ≤ n → n ≤ c.link.s → Lively (f n c).link)
      → IsUpIn (MultipleFrame.information_in_7_8 t ns nr false octets f (begun l)) → Lively (MultipleFrame.information_in_7_8 t ns nr false octets f (begun l)).link
  informed ns nr octets f x up =
      let c = MultipleFrame.contents_in_7_8 t ns false octets (begun l) in
      fitting (nat_lt t.n201 (length octets)) (MultipleFrame.failed t code_O (begun l)) (by_number t nr f c) (λ up. absurd (true≢false (sym up))) (λ up. by-one nr f c (λ n low high. x c n (contents ns octets) low high) up) up

  in-7 : l.peer_busy ≡ false → (b : Bool) (octets : List ℕ) (control : Control) → NoAlien (kind_of b control) → IsFree control → IsUpIn (frame_in_7 t b octets control (begun l))
      → Lively (frame_in_7 t b octets control (begun l)).link
  in-7 free b octets (Information ns nr false) known calm up =
      informed ns nr octets acknowledged_by_information_in_7 (λ c n same low high. informed-lively c n (same.busy ∙ free) low high) up
  in-7 free b octets (ReceiveReady nr pf) known calm up =
      by-one nr acknowledged_in_7 (c-7 t l false b pf) (λ n low high. acked-lively (c-7 t l false b pf) n low high) up
  in-7 free false octets (Reject nr false) known calm up =
      by-one nr acknowledged_by_rej_in_7 (c-7 t (with_counted with_reject_received l) false false false) (λ n low high at. inl refl) up
  in-7 free b octets other known calm up = grind arith

  in-8 : (b : Bool) (octets : List ℕ) (control : Control) → NoAlien (kind_of b control) → IsFree control → l.state ≡ TimerRecovery → IsUpIn (frame_in_8 t b octets control (begun l))
      → Lively (frame_in_8 t b octets control (begun l)).link
  in-8 b octets (Information ns nr false) known calm at up = informed ns nr octets acknowledge (λ c n same low high in_7. cc (same.state, at, in_7)) up
  in-8 b octets (ReceiveReady nr pf) known calm at up = grind (arith, by-one)
  in-8 false octets (Reject nr false) known calm at up =
      by-one nr (acknowledged_in_8 T203 false) (c-8 t (with_counted with_reject_received l) false false false) (λ n low high in_7. cc (at, in_7)) up
  in-8 b octets other known calm at up = grind arith

  pub lively-heard : IsTrue (is_multiple_frame l.state) → l.peer_busy ≡ false → (b : Bool) (octets : List ℕ) (control : Control) → NoAlien (kind_of b control) → IsFree control
      → IsUpIn (Machine.frame_step t b octets control (begun l)) → Lively (Machine.frame_step t b octets control (begun l)).link
  lively-heard before free b octets control known calm up = go l.state refl before up
    where
      go : (here : State) → l.state ≡ here → IsTrue (is_multiple_frame here) → IsUpIn (Machine.frame_in here t b octets control (begun l))
          → Lively (Machine.frame_in here t b octets control (begun l)).link
      go Established e is up = in-7 free b octets control known calm up
      go TimerRecovery e is up = in-8 b octets control known calm e up
      go other e is up = absurd (true≢false (sym is))

  -- an offer
  pub lively-offers : l.a ≤ l.s → Lively l → Lively (Machine.course t offer l).link
  lively-offers low h = go l.waiting
    where
      go : (ws : List ControlFrame) → Lively (Offers.offer_among t ws (begun l)).link
      go (f ∷ fs) = h
      go [] = grind (arith, nat_lt)
