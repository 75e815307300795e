-- A line of a card after so many calls for its next frame, whatever happened at the other lines meanwhile.
use Rattle.laws_line.proofs.Vocabulary.{◌≡◌, ◌≢◌, ℕ, zero, suc, ◌+◌, ◌<◌, ◌≤◌, ◌==◌, ◌&&◌, and_parts, All, is_take, takes_of, Bool, true, false, cond, List, [], ◌∷◌, ◌++◌, length, get_or, set, refl, sym, ap, ◌∙◌, arith, eqb-false, get_or-set_same, get_or-set_other, All-nil, All-cons, All-head, All-tail, All-get_or, Config, next, Line, fresh_line, Card, line_at, at, wants_room, IsAtLine}
use Rattle.laws_line.proofs.Vocabulary.{subst, taken, AreAtLines, after_all, after_is_sound, eqb-true, HasNothing, after_takes, frames_to_go, CardEvent as Event, card_after as after, CardIsSound as IsSound, AreTakesAt, takes_at, IsIdleAmong}
use Rattle.model_line.specs.Event as line_event
use Rattle.model_line.specs.Machine as lines
use Rattle.model_line.specs.Sound as line_sound
use Rattle.laws_line.proofs.Draining.{drains, idles}

-- One event, by whether it finds room.
elsewhere : (card : Card) (number : ℕ) (e : Event) (x : Line) (b : Bool) → number ≢ e.line
    → get_or (cond b card.lines (set card.lines e.line x)) number (fresh_line card.config) ≡ line_at number card
elsewhere card number e x b apart = grind (arith, get_or-set_other)

pub at-another : (card : Card) (number : ℕ) (e : Event) → number ≢ e.line → line_at number (after e card) ≡ line_at number card
at-another card number e apart = elsewhere card number e (lines.after card.config e.what (line_at e.line card)) (wants_room e card) apart

pub at-next : (card : Card) (number : ℕ) → number < length card.lines → line_at number (after (at number next) card) ≡ lines.after card.config next (line_at number card)
unfolding lines.takes_slot
at-next card number few = get_or-set_same card.lines number (lines.after card.config next (line_at number card)) (fresh_line card.config) few

is-next : (number : ℕ) (e : Event) → (e.line ≡ number → e.what ≡ next) → e.line ≡ number → e ≡ at number next
is-next number e h same = let what = h same in λ i. record { line = same i; what = what i }

is-the-next : (w : line_event.Event) → is_take w ≡ true → w ≡ next
is-the-next w is = grind arith

pub is-call : (number : ℕ) (e : Event) → (e.line == number && is_take e.what) ≡ true → e ≡ at number next
is-call number e is =
    let parts = and_parts (e.line == number) (is_take e.what) is in
    let line-is = eqb-true e.line number parts.0 in
    let what-is = is-the-next e.what parts.1 in
    λ i. record { line = line-is i; what = what-is i }

module _ (number : ℕ) where
  pub few-lines : (card : Card) → IsSound card → number < card.config.lines → number < length card.lines
  few-lines card s few = omega (arith, few, s.count)

  -- the line after all of them
  one-event : (c : Config) (n : ℕ) (b : Bool) (l l' : Line) → (b ≡ true → l' ≡ lines.after c next l) → (b ≡ false → l' ≡ l) → after_takes c n l' ≡ after_takes c (cond b 1 0 + n) l
  unfolding after_takes
  one-event c n true l l' x y =
      let one : suc n ≡ 1 + n = omega arith in
      ap (after_takes c n) (x refl) ∙ ap (λ k. after_takes c k l) one
  one-event c n false l l' x y =
      let none : n ≡ 0 + n = omega arith in
      ap (after_takes c n) (y refl) ∙ ap (λ k. after_takes c k l) none

  pub line-after : (events : List Event) (card : Card) → IsSound card → number < card.config.lines → AreAtLines card events → AreTakesAt number events
      → line_at number (after_all card events) ≡ after_takes card.config (takes_at number events) (line_at number card)
  unfolding after_all after_takes
  line-after [] card s few lines takes = refl
  line-after (e ∷ events) card s few lines takes =
      let here = All-head (λ e. e.line ≡ number → e.what ≡ next) e events takes in
      line-after events (after e card) (after_is_sound card e s (All-head (IsAtLine card) e events lines)) few (All-tail (IsAtLine card) e events lines)
      (All-tail (λ e. e.line ≡ number → e.what ≡ next) e events takes)
      ∙ one-event card.config (takes_at number events) (e.line == number) (line_at number card) (line_at number (after e card))
      (λ b.
      let same = eqb-true e.line number b in
      ap (λ e. line_at number (after e card)) (is-next number e here same) ∙ at-next card number (few-lines card s few))
      (λ b. let apart = eqb-false e.line number b in at-another card number e (λ same. apart (sym same)))

  abbrev pub IsServed : Event → Type 0
  IsServed e = e.line ≡ number → e.what ≡ next

-- The call behind so many others of the line.
pub record IsCallBehind (number count : ℕ) (es : List Event) : Type 0 where
  pub front : List Event
  pub back : List Event
  pub split : es ≡ front ++ at number next ∷ back
  pub before : takes_of number front ≡ count

later-call : (number : ℕ) (e : Event) (es : List Event) (b : Bool) (k n : ℕ) → (e.line == number && is_take e.what) ≡ b → cond b 1 0 + k ≡ n
    → IsCallBehind number k es → IsCallBehind number n (e ∷ es)
later-call number e es b k n is sum x =
    let one : takes_of number (e ∷ x.front) ≡ cond b 1 0 + takes_of number x.front = ap (λ c. cond c 1 0 + takes_of number x.front) is in
    record { front = e ∷ x.front; back = x.back; split = ap (λ l. e ∷ l) x.split; before = omega (arith, sum, x.before, one) }

pub call-behind : (number count : ℕ) (es : List Event) → count < takes_of number es → IsCallBehind number count es
call-behind number count [] more = absurd (omega arith)
call-behind number count (e ∷ es) more = go count (e.line == number && is_take e.what) refl more (λ k less. call-behind number k es less)
  where
    go : (n : ℕ) (b : Bool) → (e.line == number && is_take e.what) ≡ b → n < cond b 1 0 + takes_of number es
        → ((k : ℕ) → k < takes_of number es → IsCallBehind number k es) → IsCallBehind number n (e ∷ es)
    go n false is less rest = later-call number e es false n n is (omega arith) (rest n (omega (arith, less)))
    go zero true is less rest = record { front = []; back = es; split = ap (λ x. x ∷ es) (is-call number e is); before = refl }
    go (suc n) true is less rest = later-call number e es true n (suc n) is (omega arith) (rest n (omega (arith, less)))

-- What holds of all of a list holds of its parts.
pub all-left : {X : Type 0} (P : X → Type 0) (xs ys : List X) → All P (xs ++ ys) → All P xs
all-left P [] ys h = All-nil P
all-left P (x ∷ xs) ys h = All-cons P x xs (All-head P x (xs ++ ys) h) (all-left P xs ys (All-tail P x (xs ++ ys) h))

pub all-right : {X : Type 0} (P : X → Type 0) (xs ys : List X) → All P (xs ++ ys) → All P ys
all-right P [] ys h = h
all-right P (x ∷ xs) ys h = all-right P xs ys (All-tail P x (xs ++ ys) h)

-- The laws.
pub line-sound : (card : Card) (number : ℕ) → IsSound card → number < card.config.lines → line_sound.IsSound card.config (line_at number card)
line-sound card number s few = All-get_or (line_sound.IsSound card.config) card.lines number (fresh_line card.config) (few-lines number card s few) s.lines

pub card-drains : (card : Card) (number : ℕ) (events : List Event) → IsSound card → number < card.config.lines → AreAtLines card events → AreTakesAt number events
    → frames_to_go card.config (line_at number card) ≤ takes_at number events → HasNothing card.config (line_at number (after_all card events))
card-drains card number events s few lines takes less = grind (arith, line-after, drains, line-sound)

pub card-idles : (card : Card) (number : ℕ) (events : List Event) → IsSound card → number < card.config.lines → AreAtLines card events → AreTakesAt number events
    → HasNothing card.config (line_at number card) → IsIdleAmong card number events
card-idles card number events s few lines takes nothing =
    let is = line-after number events card s few lines takes in
    let i = idles card.config (takes_at number events) (line_at number card) (line-sound card number s few) nothing in
    record { nothing = subst (HasNothing card.config) (sym is) i.nothing; none = ap (taken card.config) is ∙ i.none; same = is ∙ i.same }
