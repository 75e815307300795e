-- Requests are refused by the table.
use Rattle.model_card.proofs.Vocabulary.{arith, ◌≡◌, ℕ, Bool, true, false, not, ◌&&◌, List, [], ◌∷◌, ◌++◌, get_or, set, Option, Some, None, is_some, IsSome, refl, cond, set-get_or, Refusal, PoolFull, Config, Answer, request, Line, unless_refused, unless_refused_told, Effect, of_aim, Row, first_that_holds, pool_full, refusal, Request, Data, Unit, aim_of_request, carries_contents, at, Card, line_at}
use Rattle.model_card.proofs.Vocabulary.{is_full, RefusedByTheTable, after, answer}
use Rattle.model_line.specs.Machine as lines

-- A full pool refuses after all other rows, and contents alone.
abbrev pool_refusal : Bool → Option Refusal
pool_refusal full = cond full (Some PoolFull) None

abbrev with_pool : Bool → Bool → Option Refusal → Option Refusal
with_pool carries full (Some why) = Some why
with_pool carries full None = cond carries (pool_refusal full) None

-- the rows before the last one, for contents
last_row : (full : Bool) (rs : List Row)
    → first_that_holds (rs ++ pool_full full ∷ []) ≡ with_pool true full (first_that_holds (rs ++ pool_full false ∷ []))
last_row full [] = refl
last_row full (r ∷ rs) = grind (arith, (last_row full rs))

refusal_with_pool : (c : Config) (full : Bool) (r : Request) (l : Line) → refusal c full r l ≡ with_pool (carries_contents r) full (refusal c false r l)
refusal_with_pool c full (Data service tei contents) l = grind (arith, last_row)
refusal_with_pool c full (Unit service tei contents) l = grind (arith, last_row)
refusal_with_pool c full other l = grind arith

-- The answer to a request, by what refuses it.
abbrev answer_by : Option Refusal → Effect → Answer
answer_by o outcome = unless_refused_told o outcome

pub answer_is : (card : Card) (number : ℕ) (r : Request)
    → answer (at number (request r)) card
    ≡ answer_by (refusal card.config (is_full card) r (line_at number card)) (lines.of_request card.config r (line_at number card))
unfolding lines.answer lines.takes_slot
answer_is card number r = grind (arith, refusal_with_pool)

-- and then nothing changes
stays : (carries full : Bool) (o : Option Refusal) (c : Config) (r : Request) (l d : Line) (ls : List Line) (number : ℕ)
    → IsSome (with_pool carries full o) → get_or ls number d ≡ l
    → cond ((carries && not (is_some o)) && full) ls (set ls number (of_aim c (unless_refused o (aim_of_request r l)) l).line) ≡ ls
stays carries full o c r l d ls number some e = grind (arith, set-get_or)

unchanged : (card : Card) (number : ℕ) (r : Request)
    → IsSome (refusal card.config (is_full card) r (line_at number card)) → after (at number (request r)) card ≡ card
unfolding lines.after lines.takes_slot
unchanged card number r some = grind (arith, refusal_with_pool, stays)

pub refused_by_the_table : RefusedByTheTable
refused_by_the_table = record {
  refused_exactly = grind (arith, answer_is);
  unchanged = unchanged;
}
