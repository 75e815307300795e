-- What an event does to a link that stays in states 7 and 8: its numbers, its state, and the kind of frame that waits anew.
use Rattle.laws_link.proofs.Vocabulary.{arith, ◌≡◌, ℕ, ◌+◌, Bool, true, false, cond, IsTrue, List, [], ◌∷◌, ◌++◌, Option, None, Some, refl, ◌∙◌, ◌⊎◌, inl, inr, eqb-false, Seq, seq, named, seq-value, is_seq, Control, Reject, State, Established, TimerRecovery, LinkTimer, ControlFrame, Terms, Link, is_multiple_frame, Course, begun, Step, ◌then◌, eqb-true, ErrorCode, by_number, error, has_room}
use Rattle.laws_link.proofs.Vocabulary.{peer_busy_is, re_establish, rr_or_rnr, response, acknowledged_by_information_in_7, acknowledged_by_rej_in_7, acknowledged_in_7, unsolicited, acknowledged_in_8, solicited}
use Rattle.model_link.specs.MultipleFrame
use Rattle.laws_link.proofs.OfTwo.Trains.{Kind, numbered, enquiry, answer, report, rejection, alien, kind_of}

-- Whether a state is timer recovery.
abbrev pub is_recovering : State → Bool
is_recovering TimerRecovery = true
is_recovering other = false

-- One frame more waits, of this kind; or none, since there was no room.
abbrev pub Grown : List ControlFrame → List ControlFrame → Kind → Type 0
Grown before after k = (after ≡ before) ⊎ ((f : ControlFrame) × (after ≡ before ++ f ∷ []) × (kind_of f.command f.control ≡ k))

pub grows : (b : Bool) (ws : List ControlFrame) (f : ControlFrame) (k : Kind) → kind_of f.command f.control ≡ k → Grown ws (cond b (ws ++ f ∷ []) ws) k
grows b ws f k e = grind arith

-- All that counts stays as it was.
pub record Kept (l l' : Link) : Type 0 where
  pub state : l'.state ≡ l.state
  pub s : l'.s ≡ l.s
  pub r : l'.r ≡ l.r
  pub rejecting : l'.rejecting ≡ l.rejecting
  pub waiting : l'.waiting ≡ l.waiting

-- V(S) becomes what the N(R) names, and the state is 7.
pub record Back (nr : Seq) (l l' : Link) : Type 0 where
  pub state : l'.state ≡ Established
  pub s : named l.a l.s nr ≡ Some l'.s
  pub r : l'.r ≡ l.r
  pub rejecting : l'.rejecting ≡ l.rejecting
  pub waiting : l'.waiting ≡ l.waiting

-- So it stays, except for a frame of this kind that waits anew.
pub record Went (k : Kind) (l l' : Link) : Type 0 where
  pub state : l'.state ≡ l.state
  pub s : l'.s ≡ l.s
  pub r : l'.r ≡ l.r
  pub rejecting : l'.rejecting ≡ l.rejecting
  pub waiting : Grown l.waiting l'.waiting k

-- An I-frame is dropped, it is the next, or it is not and REJ is sent.
abbrev pub Takes : Seq → Link → Link → Type 0
Takes ns l l' =
    ((l'.r ≡ l.r) × (l'.rejecting ≡ l.rejecting) × (l'.waiting ≡ l.waiting))
    ⊎ ((ns ≡ seq l.r) × (l'.r ≡ l.r + 1) × (l'.rejecting ≡ false) × (l'.waiting ≡ l.waiting))
    ⊎ ((ns.value ≡ (seq l.r).value → ⊥) × (l.rejecting ≡ false) × (l'.r ≡ l.r) × (l'.rejecting ≡ true) × Grown l.waiting l'.waiting (rejection (seq l.r)))

pub record Informed (ns : Seq) (l l' : Link) : Type 0 where
  pub state : l'.state ≡ l.state
  pub s : l'.s ≡ l.s
  pub takes : Takes ns l l'

-- What each kind of frame does in state 7, and in state 8.
abbrev pub Heard : Kind → Bool → Link → Link → Type 0
Heard (numbered ns) recovers l l' = Informed ns l l'
Heard enquiry recovers l l' = Went (answer (seq l.r)) l l'
Heard (answer nr) true l l' = Back nr l l'
Heard (answer nr) false l l' = Kept l l'
Heard report recovers l l' = Kept l l'
Heard (rejection nr) true l l' = Kept l l'
Heard (rejection nr) false l l' = Back nr l l'
Heard alien recovers l l' = Unit {0}

abbrev IsUpIn : Course → Type 0
IsUpIn c = IsTrue (is_multiple_frame c.link.state)

pub either : (P : Link → Type 0) (b : Bool) (u v : Course) → P u.link → P v.link → P (cond b u v).link
either P b u v x y = grind arith

-- An N(R) has its effect, or leads out of the states.
abbrev effected : Terms → (ℕ → Step) → Course → Option ℕ → Course
effected t f c o = elim o [ None ↦ (error t ErrorCode.J then re_establish t) c | Some n ↦ f n c ]

effect : (P : Link → Type 0) (t : Terms) (f : ℕ → Step) (c : Course) (o : Option ℕ) → ((n : ℕ) → o ≡ Some n → P (f n c).link)
    → IsUpIn (effected t f c o) → P (effected t f c o).link
effect P t f c o x up = grind arith

by-number : (P : Link → Type 0) (t : Terms) (nr : Seq) (f : ℕ → Step) (c : Course) → ((n : ℕ) → named c.link.a c.link.s nr ≡ Some n → P (f n c).link)
    → IsUpIn (by_number t nr f c) → P (by_number t nr f c).link
by-number P t nr f c x up = effect P t f c (named c.link.a c.link.s nr) x up

-- The effects.
same : (c : Course) → Kept c.link c.link
same c = record { state = refl; s = refl; r = refl; rejecting = refl; waiting = refl }

pub acknowledged-7 : (c : Course) (n : ℕ) → Kept c.link (acknowledged_in_7 n c).link
acknowledged-7 c n = grind (arith, either, same)

pub information-7 : (c : Course) (n : ℕ) → Kept c.link (acknowledged_by_information_in_7 n c).link
information-7 c n = grind (arith, either, acknowledged-7)

-- A supervisory frame, up to its N(R).
module _ (t : Terms) (l : Link) where
  abbrev pub c-7 : Bool → Bool → Bool → Course
  c-7 busy b pf = (peer_busy_is busy then MultipleFrame.answered t b pf then unsolicited t (MultipleFrame.is_final b pf)) (begun l)

  abbrev pub c-8 : Bool → Bool → Bool → Course
  c-8 busy b pf = (peer_busy_is busy then MultipleFrame.answered t b pf then solicited (MultipleFrame.is_final b pf)) (begun l)

  abbrev ready : Control
  ready = rr_or_rnr true l

  -- what waits, after the answer
  answers : (c : Course) (l' : Link) → c.link.state ≡ l.state → c.link.s ≡ l.s → c.link.r ≡ l.r → c.link.rejecting ≡ l.rejecting
      → c.link.waiting ≡ cond (has_room t l) (l.waiting ++ response ready ∷ []) l.waiting → Kept c.link l' → Went (answer (seq l.r)) l l'
  answers c l' state s r rejecting waiting k = grind (arith, answer, grows)

  pub enquired-7 : (busy : Bool) (nr : Seq) (f : ℕ → Step) → ((c : Course) (n : ℕ) → Kept c.link (f n c).link)
      → IsUpIn (by_number t nr f (c-7 busy true true)) → Went (answer (seq l.r)) l (by_number t nr f (c-7 busy true true)).link
  enquired-7 busy nr f x up = by-number (Went (answer (seq l.r)) l) t nr f (c-7 busy true true) (λ n e. answers (c-7 busy true true) _ refl refl refl refl refl (x (c-7 busy true true) n)) up

  pub enquired-8 : (busy : Bool) (nr : Seq) (f : ℕ → Step) → ((c : Course) (n : ℕ) → Kept c.link (f n c).link)
      → IsUpIn (by_number t nr f (c-8 busy true true)) → Went (answer (seq l.r)) l (by_number t nr f (c-8 busy true true)).link
  enquired-8 busy nr f x up = by-number (Went (answer (seq l.r)) l) t nr f (c-8 busy true true) (λ n e. answers (c-8 busy true true) _ refl refl refl refl refl (x (c-8 busy true true) n)) up

  -- nothing is answered
  keeps : (c : Course) (l' : Link) → Kept l c.link → Kept c.link l' → Kept l l'
  keeps c l' h k = grind arith

  pub kept-by : (nr : Seq) (f : ℕ → Step) (c : Course) → Kept l c.link → ((c : Course) (n : ℕ) → Kept c.link (f n c).link)
      → IsUpIn (by_number t nr f c) → Kept l (by_number t nr f c).link
  kept-by nr f c h x up = by-number (Kept l) t nr f c (λ n e. keeps c _ h (x c n)) up

  pub unchanged : Kept l l
  unchanged = record { state = refl; s = refl; r = refl; rejecting = refl; waiting = refl }

  -- V(S) goes back
  pub backs-7 : (nr : Seq) → l.state ≡ Established → IsUpIn (by_number t nr acknowledged_by_rej_in_7 (c-7 false false false))
      → Back nr l (by_number t nr acknowledged_by_rej_in_7 (c-7 false false false)).link
  backs-7 nr here up = by-number (Back nr l) t nr acknowledged_by_rej_in_7 (c-7 false false false) (λ n e. record { state = here; s = e; r = refl; rejecting = refl; waiting = refl }) up

  pub backs-8 : (busy : Bool) (timer : LinkTimer) (nr : Seq) → IsUpIn (by_number t nr (acknowledged_in_8 timer true) (c-8 busy false true))
      → Back nr l (by_number t nr (acknowledged_in_8 timer true) (c-8 busy false true)).link
  backs-8 busy timer nr up = by-number (Back nr l) t nr (acknowledged_in_8 timer true) (c-8 busy false true) (λ n e. record { state = refl; s = e; r = refl; rejecting = refl; waiting = refl }) up

  -- I-frames
  chosen : (ns : Seq) (b : Bool) (u v : Course) → (b ≡ true → Informed ns l u.link) → (b ≡ false → Informed ns l v.link) → Informed ns l (cond b u v).link
  chosen ns b u v x y = grind arith

  contents : (ns : Seq) (octets : List ℕ) → Informed ns l (MultipleFrame.contents_in_7_8 t ns false octets (begun l)).link
  contents ns octets =
      chosen ns l.own_busy _ _ (λ e. record { state = refl; s = refl; takes = inl (refl, refl, refl) })
      (λ e. chosen ns (MultipleFrame.is_next ns l) _ _
      (λ next. record { state = refl; s = refl; takes = inr (inl (is_seq ns l.r (eqb-true ns.value (seq l.r).value next ∙ seq-value (seq l.r) l.r refl), refl, refl, refl)) })
      (λ other. chosen ns l.rejecting _ _ (λ q. record { state = refl; s = refl; takes = inl (refl, refl, refl) })
      (λ q. record {
        state = refl;
        s = refl;
        takes = inr (inr (eqb-false ns.value (seq l.r).value other, q, refl, refl, grows (has_room t l) l.waiting (response (Reject (seq l.r) false)) (rejection (seq l.r)) refl));
      })))

  fitting : (ns : Seq) (b : Bool) (u v : Course) → (IsUpIn u → ⊥) → (IsUpIn v → Informed ns l v.link) → IsUpIn (cond b u v) → Informed ns l (cond b u v).link
  fitting ns b u v x y up = grind arith

  pub informs : (ns nr : Seq) (octets : List ℕ) (f : ℕ → Step) → ((c : Course) (n : ℕ) → Kept c.link (f n c).link)
      → IsUpIn (MultipleFrame.information_in_7_8 t ns nr false octets f (begun l)) → Informed ns l (MultipleFrame.information_in_7_8 t ns nr false octets f (begun l)).link
  informs ns nr octets f x up = grind (arith, fitting, by-number, contents)
