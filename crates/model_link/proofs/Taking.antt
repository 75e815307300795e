-- What a frame of the other end does to a link that stays in states 7 and 8.
use Rattle.model_link.proofs.Vocabulary.{arith, ◌≡◌, ℕ, ◌+◌, Bool, true, cond, IsTrue, List, Option, None, Some, refl, sym, ◌∙◌, ◌⊎◌, inl, eqb-true, true≢false, Seq, seq, named, seq-value, is_seq, seq-distance, Control, Information, State, Established, TimerRecovery, Terms, Link, is_multiple_frame, Course, begun, acknowledge, is_next, acknowledged_by_information_in_7, frame_in, frame_step}
use Rattle.model_link.proofs.Counting.{On, done, undelivered, words}
use Rattle.model_link.proofs.Leads.{depending_leads}
use Rattle.model_link.proofs.Rows.{frame_row}
use Rattle.model_link.proofs.Delivering.{begins}
use Rattle.model_link.proofs.Lines.{Means}
use Rattle.model_link.proofs.Kept.{Fits}
use Rattle.model_link.proofs.Facing.{IsReport, information_7_up, acknowledge_up, reports_up}
use Rattle.model_link.proofs.FacingInformation.{Took, at-first, information_took}

-- what `named` finds has the remainder that names it
found : (b : Bool) (x n : ℕ) → cond b (Some x) None ≡ Some n → x ≡ n
found b x n e = grind arith

pub named-is_seq : (a s n : ℕ) (nr : Seq) → named a s nr ≡ Some n → nr ≡ seq n
unfolding named
named-is_seq a s n nr e = grind (arith, seq-distance, found)

-- An I-frame whose N(S) is r.
abbrev pub HasNumber : ℕ → Control → Type 0
HasNumber r (Information ns nr p) = ns ≡ seq r
HasNumber r other = ⊥

-- V(R) stays and nothing is delivered, or it counts the frame's contents, which are delivered.
abbrev pub Advance : Control → List ℕ → ℕ → ℕ → Option (List ℕ) → Type 0
Advance control octets r r' d = ((r' ≡ r) × (d ≡ None)) ⊎ ((r' ≡ r + 1) × (d ≡ Some octets) × HasNumber r control)

-- A frame is taken whose N(R) means m.
pub record Taken (l : Link) (m : ℕ) (control : Control) (octets : List ℕ) (c : Course) : Type 0 where
  pub r : ℕ
  pub delivered : Option (List ℕ)
  pub advance : Advance control octets l.r r delivered
  pub took : Took l (seq m) r delivered c

by-flags : (own next : Bool) (ns nr : Seq) (p : Bool) (octets : List ℕ) (r : ℕ) → (next ≡ true → ns ≡ seq r)
    → Advance (Information ns nr p) octets r (cond own r (cond next (r + 1) r)) (cond own None (cond next (Some octets) None))
by-flags own next ns nr p octets r h = grind arith

module _ (t : Terms) (l : Link) where
  next-is_seq : (ns : Seq) → is_next ns l ≡ true → ns ≡ seq l.r
  next-is_seq ns e = is_seq ns l.r (eqb-true ns.value (seq l.r).value e ∙ seq-value (seq l.r) l.r refl)

  -- an I-frame
  information : (ns nr : Seq) (p : Bool) (octets : List ℕ) (m : ℕ) (c : Course) → nr ≡ seq m
      → Took l nr (cond l.own_busy l.r (cond (is_next ns l) (l.r + 1) l.r)) (cond l.own_busy None (cond (is_next ns l) (Some octets) None)) c
      → Taken l m (Information ns nr p) octets c
  information ns nr p octets m c e h = grind (arith, by-flags, next-is_seq, Took)

  -- a supervisory frame delivers nothing
  pub none-delivered : (c : Course) → On (done l.r None) c → c.delivered ≡ None
  none-delivered c h = undelivered h

  supervisory : (here : State) → IsTrue (is_multiple_frame here) → (b : Bool) (octets : List ℕ) (m : ℕ) (control : Control) → IsReport m control
      → Fits (Unit {0}) (Unit {0}) ⊥ control → Taken l m control octets (frame_in here t b octets control (begun l))
  supervisory here up b octets m control e may =
      record {
        r = l.r;
        delivered = None;
        advance = inl (refl, refl);
        took = record {
          by = (reports_up t l l.r here up b octets m control e).leads (begun l) (at-first t l);
          delivered = λ still. undelivered ((frame_row (words t l.r) here b octets control may).leads (begun l) (begins t l));
        };
      }

  information-in : (here : State) → IsTrue (is_multiple_frame here) → (b : Bool) (octets : List ℕ) (m : ℕ) (ns nr : Seq) (p : Bool) → nr ≡ seq m
      → Taken l m (Information ns nr p) octets (frame_in here t b octets (Information ns nr p) (begun l))
  information-in Established up b octets m ns nr p e =
      information ns nr p octets m _ e (information_took t l ns nr p octets acknowledged_by_information_in_7 (λ Q n. search (depending_leads)) (λ r n low. information_7_up l r l.a n low))
  information-in TimerRecovery up b octets m ns nr p e =
      information ns nr p octets m _ e (information_took t l ns nr p octets acknowledge (λ Q n. record { leads = λ c h. h }) (λ r n low. acknowledge_up l r l.a n))
  information-in other up b octets m ns nr p e = absurd (true≢false (sym up))

  frames-in : (here : State) → IsTrue (is_multiple_frame here) → (b : Bool) (octets : List ℕ) (m : ℕ) (control : Control) → Means m control
      → Taken l m control octets (frame_in here t b octets control (begun l))
  frames-in here up b octets m control e = grind (arith, information-in, supervisory)

  pub frame-taken : IsTrue (is_multiple_frame l.state) → (b : Bool) (octets : List ℕ) (m : ℕ) (control : Control) → Means m control
      → Taken l m control octets (frame_step t b octets control (begun l))
  frame-taken up b octets m control e = frames-in l.state up b octets m control e
