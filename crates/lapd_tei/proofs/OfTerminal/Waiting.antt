-- The messages that wait are read one after the other: each is due, and no two have one slot.
use Rattle.model_teis.proofs.OfTerminal.Vocabulary.{◌≡◌, ℕ, ◌≤◌, ◌==◌, ◌||◌, nat_tests, Bool, true, false, cond, List, [], ◌∷◌, ◌++◌, length, Option, ap, refl, arith, All-append, All-cons, All-nil, count_by, list_any, Places, has_slot, is_due, slot_of}
use Rattle.std.proofs.lemmas.List.Sums.{sum_by-append, sum_by_push}
use Rattle.lapd_image.proofs.Reading.{Reads}
use Rattle.lapd_image.proofs.ReadLists.{All-front, All-last, IsKept}
use Rattle.model_teis.proofs.OfNetwork.ImageRead.{message-read}
use Rattle.model_teis.proofs.OfTerminal.Counted.{count-cons, count-none, none-passes}
use Rattle.model_teis.proofs.OfTerminal.ImageRead.{message_from, message-spelled}
use Rattle.model_teis.proofs.OfTerminal.Queues.{queue-length, queue-more}
use Rattle.model_teis.specs.terminal.Image.{IsOfOctets}
use Rattle.model_teis.specs.terminal.Messages.{information_of}
use Rattle.model_teis.specs.declared.terminal.messages.Message.{Message}
use Rattle.model_teis.specs.declared.terminal.procedure.Procedure.{Procedure}
use Rattle.lapd_tei.specs.terminal.Saved.{MayWait}

-- If at most one passes a test, and the last does, no other does.
module _ {X : Type 0} (p : X → Bool) where
  none-counted : (xs : List X) → count_by p xs ≡ 0 → list_any p xs ≡ false
  none-counted [] none = refl
  none-counted (x ∷ xs) none =
      elim (p x) as (λ b. p x ≡ b → (b || list_any p xs) ≡ false) [
        | true ↦ λ e. let one : cond {A = ℕ} (p x) 1 0 ≡ 1 = ap (λ b. cond {A = ℕ} b 1 0) e in absurd (omega (arith, one, none, count-cons p x xs))
        | false ↦ λ e. none-counted xs (omega (arith, none, count-cons p x xs))
      ] refl

  alone-last : (xs : List X) (x : X) → count_by p (xs ++ x ∷ []) ≤ 1 → p x ≡ true → list_any p xs ≡ false
  alone-last xs x few passes =
      let one : cond {A = ℕ} (p x) 1 0 ≡ 1 = ap (λ b. cond {A = ℕ} b 1 0) passes in
      none-counted xs (omega (arith, one, few, sum_by_push (λ y. cond {A = ℕ} (p y) 1 0) xs x))

-- a message is read
pub one-read : Reads IsOfOctets (λ (x y : Message). x ≡ y) information_of
one-read a b r s octets also e = message-read information_of message_from message-spelled a b r s tt tt e

-- A message may follow those that wait.
pub record MayFollow (places : Places) (procedure : Option Procedure) (waiting : List Message) (message : Message) : Type 0 where
  pub due : is_due places procedure message ≡ true
  pub alone : list_any (has_slot (slot_of message)) waiting ≡ false
  pub octets : IsOfOctets message

module _ (places : Places) (procedure : Option Procedure) where
  pub none-waits : MayWait places procedure []
  none-waits = record {
    queue = record { due = All-nil (λ message. is_due places procedure message ≡ true); once = λ slot. omega arith };
    octets = All-nil IsOfOctets;
  }

  pub one-follows : (waiting : List Message) (message : Message) → MayWait places procedure waiting → MayFollow places procedure waiting message → MayWait places procedure (waiting ++ message ∷ [])
  one-follows waiting message may follows = record {
    queue = queue-more places procedure message waiting follows.due (count-none (has_slot (slot_of message)) waiting (none-passes (has_slot (slot_of message)) waiting follows.alone)) may.queue;
    octets = All-append IsOfOctets waiting (message ∷ []) may.octets (All-cons IsOfOctets message [] follows.octets (All-nil IsOfOctets));
  }

  -- those at the front may wait alone
  front-waits : (xs ys : List Message) → MayWait places procedure (xs ++ ys) → MayWait places procedure xs
  front-waits xs ys may = record {
    queue = record {
      due = All-front (λ message. is_due places procedure message ≡ true) xs ys may.queue.due;
      once = λ slot. omega (arith, may.queue.once slot, sum_by-append (λ message. cond {A = ℕ} (has_slot slot message) 1 0) xs ys);
    };
    octets = All-front IsOfOctets xs ys may.octets;
  }

  pub waiting-kept : IsKept IsOfOctets (MayWait places procedure)
  waiting-kept = record { each = λ all may. may.octets; front = front-waits }

  same_slot : (slot : ℕ) → (slot == slot) ≡ true
  same_slot slot = grind (arith, nat_tests)

  -- and the last may follow them
  pub last-follows : (waiting : List Message) (message : Message) → MayWait places procedure (waiting ++ message ∷ []) → MayFollow places procedure waiting message
  last-follows waiting message may = record {
    due = All-last (λ message. is_due places procedure message ≡ true) waiting message may.queue.due;
    alone = alone-last (has_slot (slot_of message)) waiting message (may.queue.once (slot_of message)) (same_slot (slot_of message));
    octets = All-last IsOfOctets waiting message may.octets;
  }

  pub few-wait : length places ≤ 8 → (waiting : List Message) → MayWait places procedure waiting → length waiting ≤ 9
  few-wait few waiting may = omega (arith, few, queue-length places procedure waiting may.queue)
