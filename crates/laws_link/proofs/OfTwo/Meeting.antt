-- One direction between two links whose T200 is timely, as one of the two goes on or hears a frame.
use Rattle.laws_link.proofs.Vocabulary.{arith, ◌≡◌, ℕ, ◌+◌, ◌≤◌, Bool, true, false, List, [], ◌∷◌, ◌++◌, Some, refl, sym, ap, subst, ◌∙◌, append_assoc, ◌⊎◌, inl, inr, Seq, seq, Parts, ControlFrame, Terms, Link, frames_of, frames-append}
use Rattle.laws_link.proofs.OfTwo.Halves.{named-number}
use Rattle.laws_link.proofs.OfTwo.Trains.{Kind, numbered, enquiry, answer, report, rejection, alien, kinds_of, kinds-append, one_enquiry, one_answer, one_rejection, Calm, every-push, behind-push, tally}
use Rattle.laws_link.proofs.OfTwo.Flow.{RejectsAt, AnswersAt, Flow, flow-low, there-calm, there-tail, few-more}
use Rattle.laws_link.proofs.OfTwo.Flowing.{hears-enquiry, hears-other-lost, hears-other, hears-next, answer-says, hears-answer, no-answer, hears-rejection}
use Rattle.laws_link.proofs.OfTwo.Effects.{is_recovering, Grown, Kept, Back, Went, Takes, Informed, Heard}

-- What is on its way, and then what waits.
abbrev pub line : Terms → List Parts → List ControlFrame → List Kind
line t way ws = kinds_of (way ++ frames_of t ws)

abbrev pub Longer : List Kind → List Kind → Kind → Type 0
Longer before after k = (after ≡ before) ⊎ (after ≡ before ++ k ∷ [])

pub line-longer : (t : Terms) (way : List Parts) (before after : List ControlFrame) (k : Kind) → Grown before after k → Longer (line t way before) (line t way after) k
line-longer t way before after k o = grind (arith, kinds_of, frames-append, append_assoc, frames_of, kinds-append)

-- the same direction, by other names
pub flow-at : {s s' r r' : ℕ} {b b' q q' : Bool} {ln ln' lm lm' : List Kind} → s' ≡ s → r' ≡ r → b' ≡ b → q' ≡ q → ln' ≡ ln → lm' ≡ lm
    → Flow s r b q ln lm → Flow s' r' b' q' ln' lm'
flow-at {s} {s'} {r} {r'} {b} {b'} {q} {q'} {ln} {ln'} {lm} {lm'} es er eb eq en em h = grind arith

there-longer : (s r : ℕ) (b q : Bool) (ln ln' lm : List Kind) (k : Kind) → Calm k → one_enquiry k ≡ 0 → Longer ln ln' k → Flow s r b q ln lm → Flow s r b q ln' lm
there-longer s r b q ln ln' lm k calm none (inl e) h = flow-at refl refl refl refl e refl h
there-longer s r b q ln ln' lm k calm none (inr e) h = flow-at refl refl refl refl e refl (there-calm s r b q ln lm k calm none h)

back-longer : (s r : ℕ) (b q : Bool) (ln lm lm' : List Kind) (k : Kind) → one_answer k ≡ 0 → one_rejection k ≡ 0 → RejectsAt r k → AnswersAt r k → Longer lm lm' k
    → Flow s r b q ln lm → Flow s r b q ln lm'
back-longer s r b q ln lm lm' k none none' says says' o h = grind (arith, flow-at, tally, one_answer, few-more, one_rejection, every-push, behind-push)

-- no frame that the direction knows is an alien
abbrev pub NoAlien : Kind → Type 0
NoAlien alien = ⊥
NoAlien other = Unit {0}

pub is-no-alien : (s r : ℕ) (b q : Bool) (x : Kind) (ln lm : List Kind) → Flow s r b q (x ∷ ln) lm → NoAlien x
is-no-alien s r b q x ln lm h = grind (arith, alien)

one-number : (x y : ℕ) → Some x ≡ Some y → x ≡ y
one-number x y e = cc

module _ (t : Terms) (way : List Parts) (l l' : Link) where
  abbrev own : List Kind
  own = line t way l.waiting

  abbrev own' : List Kind
  own' = line t way l'.waiting

  -- The sender goes on.
  pub sender-kept : (r : ℕ) (q : Bool) (lm : List Kind) (b : Bool) → is_recovering l.state ≡ b → Kept l l' → Flow l.s r b q own lm → Flow l'.s r (is_recovering l'.state) q own' lm
  sender-kept r q lm b e k h = flow-at k.s refl (ap is_recovering k.state ∙ e) refl (ap (λ ws. line t way ws) k.waiting) refl h

  pub sender-went : (r : ℕ) (q : Bool) (lm : List Kind) (b : Bool) (k : Kind) → Calm k → one_enquiry k ≡ 0 → is_recovering l.state ≡ b → Went k l l'
      → Flow l.s r b q own lm → Flow l'.s r (is_recovering l'.state) q own' lm
  sender-went r q lm b k calm none e w h =
      flow-at w.s refl (ap is_recovering w.state ∙ e) refl refl refl
      (there-longer l.s r b q own own' lm k calm none (line-longer t way l.waiting l'.waiting k w.waiting) h)

  -- It hears a frame.
  sender-informed : (r : ℕ) (q : Bool) (lm : List Kind) (b : Bool) (ns : Seq) → is_recovering l.state ≡ b → Informed ns l l' → Takes ns l l'
      → Flow l.s r b q own lm → Flow l'.s r (is_recovering l'.state) q own' lm
  sender-informed r q lm b ns e i (inl x) h = flow-at i.s refl (ap is_recovering i.state ∙ e) refl (ap (λ ws. line t way ws) x.2) refl h
  sender-informed r q lm b ns e i (inr (inl x)) h = flow-at i.s refl (ap is_recovering i.state ∙ e) refl (ap (λ ws. line t way ws) x.3) refl h
  sender-informed r q lm b ns e i (inr (inr x)) h =
      flow-at i.s refl (ap is_recovering i.state ∙ e) refl refl refl
      (there-longer l.s r b q own own' lm (rejection (seq l.r)) tt refl (line-longer t way l.waiting l'.waiting (rejection (seq l.r)) x.4) h)

  -- V(S) goes back to V(R)
  sender-back : (r : ℕ) (q : Bool) (lm : List Kind) (nr : Seq) → l.a ≤ r → r ≤ l.s → l.s ≤ l.a + 127 → nr ≡ seq r → Back nr l l' → Flow r r false q own lm
      → Flow l'.s r (is_recovering l'.state) q own' lm
  sender-back r q lm nr low high near says k h = grind (arith, flow-at, one-number, named-number, is_recovering)

  pub sender-hears : (r : ℕ) (q : Bool) (x : Kind) (lm : List Kind) (b : Bool) → NoAlien x → l.a ≤ r → l.s ≤ l.a + 127 → is_recovering l.state ≡ b → Heard x b l l'
      → Flow l.s r b q own (x ∷ lm) → Flow l'.s r (is_recovering l'.state) q own' lm
  sender-hears r q (numbered ns) lm b known low near e k h = sender-informed r q lm b ns e k k.takes (grind (arith, one_rejection, tally, one_enquiry, one_answer))
  sender-hears r q enquiry lm b known low near e k h = sender-went r q lm b (answer (seq l.r)) tt refl e k (grind (arith, one_rejection, tally, one_enquiry, one_answer))
  sender-hears r q (answer nr) lm true known low near e k h =
      sender-back r q lm nr low (flow-low l.s r true q own (answer nr ∷ lm) h) near (answer-says l.s r true q nr own lm h) k (hears-answer l.s r q nr own lm h)
  sender-hears r q (answer nr) lm false known low near e k h = absurd (no-answer l.s r q nr own lm h)
  sender-hears r q report lm b known low near e k h = sender-kept r q lm b e k (grind (arith, one_rejection, tally, one_enquiry, one_answer))
  sender-hears r q (rejection nr) lm true known low near e k h = sender-kept r q lm true e k (grind (arith, one_rejection, tally, one_enquiry, one_answer))
  sender-hears r q (rejection nr) lm false known low near e k h =
      sender-back r q lm nr low (flow-low l.s r false q own (rejection nr ∷ lm) h) near ((h.rejected (omega arith)).says.0) k (hears-rejection l.s r q nr own lm h)
  sender-hears r q alien lm b known low near e k h = absurd known

  -- The receiver goes on.
  pub receiver-went : (s : ℕ) (b : Bool) (there : List Kind) (k : Kind) → one_answer k ≡ 0 → one_rejection k ≡ 0 → RejectsAt l.r k → AnswersAt l.r k
      → l'.r ≡ l.r → l'.rejecting ≡ l.rejecting → Grown l.waiting l'.waiting k → Flow s l.r b l.rejecting there own → Flow s l'.r b l'.rejecting there own'
  receiver-went s b there k none none' says says' er eq w h =
      flow-at refl er refl eq refl refl (back-longer s l.r b l.rejecting there own own' k none none' says says' (line-longer t way l.waiting l'.waiting k w) h)

  pub receiver-kept : (s : ℕ) (b : Bool) (there : List Kind) → l'.r ≡ l.r → l'.rejecting ≡ l.rejecting → l'.waiting ≡ l.waiting
      → Flow s l.r b l.rejecting there own → Flow s l'.r b l'.rejecting there own'
  receiver-kept s b there er eq ew h = flow-at refl er refl eq refl (ap (λ ws. line t way ws) ew) h

  -- It hears a frame.
  receiver-asked : (s : ℕ) (b : Bool) (there : List Kind) → Went (answer (seq l.r)) l l' → Longer own own' (answer (seq l.r))
      → Flow s l.r b l.rejecting (enquiry ∷ there) own → Flow s l'.r b l'.rejecting there own'
  receiver-asked s b there w (inl e) h = flow-at refl w.r refl w.rejecting refl e (there-tail s l.r b l.rejecting enquiry there own h)
  receiver-asked s b there w (inr e) h = flow-at refl w.r refl w.rejecting refl e (hears-enquiry s l.r b l.rejecting there own h)

  receiver-rejects : (s : ℕ) (b : Bool) (ns : Seq) (there : List Kind) → s ≤ l.r + 127 → (ns.value ≡ (seq l.r).value → ⊥) → l.rejecting ≡ false → l'.r ≡ l.r
      → l'.rejecting ≡ true → Longer own own' (rejection (seq l.r)) → Flow s l.r b l.rejecting (numbered ns ∷ there) own → Flow s l'.r b l'.rejecting there own'
  receiver-rejects s b ns there near differ q er eq (inl e) h =
      flow-at refl er refl eq refl e (hears-other-lost s l.r b ns there own near differ (flow-at refl refl refl (sym q) refl refl h))
  receiver-rejects s b ns there near differ q er eq (inr e) h =
      flow-at refl er refl eq refl e (hears-other s l.r b ns there own near differ (flow-at refl refl refl (sym q) refl refl h))

  receiver-informed : (s : ℕ) (b : Bool) (ns : Seq) (there : List Kind) → s ≤ l.r + 127 → Takes ns l l'
      → Flow s l.r b l.rejecting (numbered ns ∷ there) own → Flow s l'.r b l'.rejecting there own'
  receiver-informed s b ns there near (inl x) h = receiver-kept s b there x.0 x.1 x.2 (there-tail s l.r b l.rejecting (numbered ns) there own h)
  receiver-informed s b ns there near (inr (inl x)) h =
      flow-at refl x.1 refl x.2 refl (ap (λ ws. line t way ws) x.3)
      (hears-next s l.r b l.rejecting there own (subst (λ z. Flow s l.r b l.rejecting (numbered z ∷ there) own) x.0 h))
  receiver-informed s b ns there near (inr (inr x)) h =
      receiver-rejects s b ns there near x.0 x.1 x.2 x.3 (line-longer t way l.waiting l'.waiting (rejection (seq l.r)) x.4) h

  pub receiver-hears : (s : ℕ) (b : Bool) (x : Kind) (there : List Kind) (c : Bool) → s ≤ l.r + 127 → Heard x c l l'
      → Flow s l.r b l.rejecting (x ∷ there) own → Flow s l'.r b l'.rejecting there own'
  receiver-hears s b (numbered ns) there c near k h = receiver-informed s b ns there near k.takes h
  receiver-hears s b enquiry there c near k h = receiver-asked s b there k (line-longer t way l.waiting l'.waiting (answer (seq l.r)) k.waiting) h
  receiver-hears s b report there c near k h = receiver-kept s b there k.r k.rejecting k.waiting (there-tail s l.r b l.rejecting report there own h)
  receiver-hears s b alien there c near k h = absurd (grind arith)
  receiver-hears s b other there false near k h = receiver-kept s b there k.r k.rejecting k.waiting (there-tail s l.r b l.rejecting other there own h)
  receiver-hears s b other there true near k h = receiver-kept s b there k.r k.rejecting k.waiting (there-tail s l.r b l.rejecting other there own h)
