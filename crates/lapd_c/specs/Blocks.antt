-- A block of octets is so many calls, one after the other, in words of their own.
use Rattle.std.specs.Prelude.{◌≡◌, ◌<◌, ◌&&◌, ℕ, suc, ◌+◌, ◌*◌, nat_eq, nat_le, Bool, true, List, [], ◌∷◌, ◌++◌, length, get_or, set}
use Rattle.lapd_frame.specs.declared.timers.Order.{Order}
use Rattle.model_card.specs.ports.Card.{OctetCard, answer}
use Rattle.model_card.specs.ports.Event.{at}
use Rattle.model_card.specs.ports.Port.{Answer, octet, pull, pulled}
use Rattle.model_card.specs.ports.Run.{after_all}
use Rattle.lapd_c.specs.Answers.{octet_of}
use Rattle.lapd_c.specs.BlockMade.{BlocksAreMade, IsEmpty}
use Rattle.lapd_c.specs.Exchange.{AllQuiet, answer_after, card_after, given_after, is_exchange, step_event, steps_made, tells_nothing, with_step}

pub record BlocksAreCalls : Type 0 where
  -- Two blocks of one length are exchanged, from a step that they have, or from their end; and no others.
  pub served : (taken given : List ℕ) (from : ℕ) → is_exchange taken given from ≡ (nat_eq (length taken) (length given) && nat_le from (2 * length taken))
  -- Step 2i takes octet i, and step 2i + 1 is a pull, whose octet is written at place i. Nothing else is written.
  pub takes : (line i : ℕ) (taken : List ℕ) → step_event line taken (2 * i) ≡ at line (octet (get_or taken i 0))
  pub pulls : (line i : ℕ) (taken : List ℕ) → step_event line taken (2 * i + 1) ≡ at line pull
  pub given : (value : ℕ) (begun : Bool) (orders : List Order) → octet_of (pulled value begun orders) ≡ value
  pub writes : (i value : ℕ) (begun : Bool) (orders : List Order) (given : List ℕ) → with_step (2 * i + 1) (pulled value begun orders) given ≡ set given i value
  pub leaves : (i : ℕ) (a : Answer) (given : List ℕ) → with_step (2 * i) a given ≡ given
  -- The steps are made in turn, each of the card after those before it.
  pub none : (line from : ℕ) (taken : List ℕ) → steps_made line taken from 0 ≡ []
  pub more : (line from n : ℕ) (taken : List ℕ) → steps_made line taken from (suc n) ≡ steps_made line taken from n ++ step_event line taken (from + n) ∷ []
  pub card : (line from n : ℕ) (taken : List ℕ) (m : OctetCard) → card_after line taken from n m ≡ after_all m (steps_made line taken from n)
  pub answers : (line from n : ℕ) (taken : List ℕ) (m : OctetCard) → answer_after line taken from n m ≡ answer (step_event line taken (from + n)) (card_after line taken from n m)
  pub nothing_given : (line from : ℕ) (taken given : List ℕ) (m : OctetCard) → given_after line taken from 0 m given ≡ given
  pub all_given : (line from n : ℕ) (taken given : List ℕ) (m : OctetCard)
      → given_after line taken from (suc n) m given ≡ with_step (from + n) (answer_after line taken from n m) (given_after line taken from n m given)
  -- A block goes on only after steps that have nothing to tell.
  pub quiet : (line from n step : ℕ) (taken : List ℕ) (m : OctetCard) → AllQuiet line taken from n m → step < n → IsEmpty (answer_after line taken from step m)
  pub empty : (a : Answer) → tells_nothing a ≡ true → IsEmpty a
  -- So many steps are what a call of a block comes to.
  pub made : BlocksAreMade
