-- With calls for the next frame alone the frames to go become fewer, until nothing waits.
use Rattle.laws_line.proofs.Vocabulary.{◌≡◌, ℕ, zero, suc, ◌+◌, ◌≤◌, ◌<◌, List, [], ◌∷◌, slice_get, Option, Some, None, is_some, refl, ap, ◌∙◌, ◌⊎◌, ⊎_elim, arith, IfSome, option_map_or, option_or, All-head, All-tail, nothing-to_send, Config, next, may_send, is_given, Line, link_count, Taken, link_taken, first_taken, taken, next_of, line_of, IsInRange, after_sound, next_falls, fresh_gives_nothing}
use Rattle.laws_line.proofs.Vocabulary.{round_below, option_map, All, one, after, answer, IsSound, HasNothing, after_takes, frames_to_go, IsIdling}
use Rattle.model_teis.specs.network.Events as teis
use Rattle.model_teis.specs.network.Messages as messages
use Rattle.model_teis.specs.terminal.Events as terminals
use Rattle.laws_line.proofs.Vocabulary.{Bool, true, false, cond, HasNoMessage, Message, OwnMessage, own_frame_of, message_taken, is_terminal, terminal_in, with_message, with_own_message}
use Rattle.laws_line.proofs.Serving.{none-waits}
use Rattle.laws_line.proofs.Silence.{sends-none}
use Rattle.laws_line.proofs.Going.{TakesOne, taken-falls}

-- where no message waits, none is taken
pub no-message-taken : (c : Config) (l : Line) → HasNoMessage l → message_taken c l ≡ None
no-message-taken c l none = go (is_terminal c)
  where
    go : (b : Bool) → cond b (option_map (with_own_message l) (terminals.offered (terminal_in l))) (option_map (with_message l) (teis.offered c.side l.management)) ≡ None
    go true = ap (λ (ms : List OwnMessage). option_map (with_own_message l) (option_map own_frame_of (slice_get ms 0))) none.own
    go false = ap (λ (ms : List Message). option_map (with_message l) (option_map (messages.frame_of c.side) (slice_get ms 0))) none.management

-- where nothing waits, nothing is taken
module _ (c : Config) (l : Line) (s : IsSound c l) (h : HasNothing c l) where
  none-of_link : (number : ℕ) → number < link_count c → link_taken c l number ≡ None
  none-of_link number few = grind (arith, fresh_gives_nothing, nothing-to_send, sends-none)

  none-first : (ns : List ℕ) → All (λ n. n < link_count c) ns → first_taken c l ns ≡ None
  none-first [] few = refl
  none-first (n ∷ ns) few =
      ap (λ o. option_or o (first_taken c l ns)) (none-of_link n (All-head (λ n. n < link_count c) n ns few))
      ∙ none-first ns (All-tail (λ n. n < link_count c) n ns few)

  pub nothing-taken : taken c l ≡ None
  nothing-taken = grind (arith, option_map, slice_get, none-first, round_below, no-message-taken, h.messages)

-- and so the line stays as it is
pub same-after : (c : Config) (l : Line) → taken c l ≡ None → after c next l ≡ l
unfolding after
same-after c l e = ap (λ o. option_map_or line_of o l) e

pub all-stay : (c : Config) (n : ℕ) (l : Line) → taken c l ≡ None → after_takes c n l ≡ l
unfolding after_takes
all-stay c zero l e = refl
all-stay c (suc n) l e = ap (after_takes c n) (same-after c l e) ∙ all-stay c n l e

pub nothing-stays : (c : Config) (l : Line) → IsSound c l → HasNothing c l → after c next l ≡ l
nothing-stays c l s h = same-after c l (nothing-taken c l s h)

-- A call takes one of the frames to go, or nothing waits.
abbrev Fewer : Config → Line → Line → Type 0
Fewer c l l' = 1 + frames_to_go c l' ≤ frames_to_go c l

pub take-fewer : (c : Config) (l : Line) → IsSound c l → Fewer c l (after c next l) ⊎ HasNothing c l
unfolding after
take-fewer c l s = go (taken c l) refl (taken-falls c l s)
  where
    go : (o : Option Taken) → taken c l ≡ o → IfSome o (TakesOne c l) → Fewer c l (option_map_or line_of o l) ⊎ HasNothing c l
    go o e x = grind (arith, none-waits)

pub drains : (c : Config) → IsInRange c → (n : ℕ) (l : Line) → IsSound c l → frames_to_go c l ≤ n → HasNothing c (after_takes c n l)
unfolding after_takes
drains c ranged zero l s few = ⊎_elim (λ less. absurd (omega (arith, few, less))) (λ h. h) (take-fewer c l s)
drains c ranged (suc n) l s few =
    grind (
      arith,
      take-fewer,
      next,
      after_sound,
      nothing-stays,
      all-stay,
      nothing-taken,
      (drains c ranged n (after c next l) (after_sound c ranged next l s)),
    )

-- Then no call takes a frame.
pub idles : (c : Config) (n : ℕ) (l : Line) → IsSound c l → HasNothing c l → IsIdling c n l
idles c n l s h = grind (arith, nothing-taken, all-stay)

-- What may be sent falls by each frame that is taken, so as many calls as that come to an end, too.
taken-given : (c : Config) (l : Line) (t : Taken) → taken c l ≡ Some t → one (is_given (answer c next l)) ≡ 1
unfolding answer
taken-given c l t e = ap (λ o. one (is_some (option_map next_of o))) e

pub ends : (c : Config) → IsInRange c → (n : ℕ) (l : Line) → IsSound c l → may_send c l ≤ n → taken c (after_takes c n l) ≡ None
unfolding after_takes
ends c ranged zero l s few = grind (arith, taken-given, next_falls)
ends c ranged (suc n) l s few = go (taken c l) refl (ends c ranged n (after c next l) (after_sound c ranged next l s))
  where
    go : (o : Option Taken) → taken c l ≡ o → (may_send c (after c next l) ≤ n → taken c (after_takes c n (after c next l)) ≡ None)
        → taken c (after_takes c n (after c next l)) ≡ None
    go None e more = ap (λ x. taken c (after_takes c n x)) (same-after c l e) ∙ ap (taken c) (all-stay c n l e) ∙ e
    go (Some t) e more = grind (arith, taken-given, next_falls)
