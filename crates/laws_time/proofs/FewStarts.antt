-- The answer to an event starts at most two timers.
use Rattle.laws_time.proofs.Vocabulary.{Aim, Call, Card, Config, IsSound, LineTold, LinkEvent, LinkTimer, List, None, Option, Packet, PoolFull, Refusal, Service, Some, TeiEvent, TerminalEvent, Terms, [], aim_of, aim_of_request, arith, at_link, at_management, at_terminal, cond, course, expiry, false, has_lines, length, line_answer as answer, line_at, line_sound, link_cleared, link_in, next}
use Rattle.laws_time.proofs.Vocabulary.{of_aim, of_change, of_link, orders_for, orders_in, refl, refusal, refused, request, starts, tei_down, terms, true, unless_refused, unless_refused_told, without_units, ℕ, ◌++◌, ◌<◌, ◌∷◌, ◌≡◌, ◌≤◌}
use Rattle.model_line.proofs.Vocabulary.{Order, Start, Stop, Change, Gained, Left, one-start, Event, hears, Line}
use Rattle.model_teis.specs.network.Laws as tei_laws
use Rattle.laws_line.proofs.Short.{answers_are_short}
use Rattle.model_line.proofs.Downs.{down-sound}
use Rattle.model_line.proofs.Managed.{IsOwnEvent, by-managed, by-own-event}
use Rattle.model_line.proofs.ProperAims.{event_aims}
use Rattle.model_card.specs.Event as cards
use Rattle.model_card.specs.Machine as card
use Rattle.model_card.specs.Sound as sound

-- orders start as many timers as they are, at most
none_starts : starts [] ≤ 2
unfolding starts
none_starts = omega arith

starts_few : (xs : List Order) → starts xs ≤ length xs
unfolding starts
starts_few [] = omega arith
starts_few (Start timer ∷ xs) = omega (arith, starts_few xs)
starts_few (Stop timer ∷ xs) = omega (arith, starts_few xs)

-- what starts nothing may stand before other orders
before_starts : (xs ys : List Order) → starts xs ≡ 0 → starts (xs ++ ys) ≡ starts ys
unfolding starts
before_starts [] ys none = refl
before_starts (Start timer ∷ xs) ys none = absurd (omega (arith, none))
before_starts (Stop timer ∷ xs) ys none = omega (arith, before_starts xs ys (omega (arith, none)))

-- as what a link that is cleared orders
cleared : (t : Terms) (before : Option LinkTimer) → starts (orders_for t before None None) ≡ 0
unfolding starts
cleared t before = grind arith

three : (xs ys zs : List Order) → starts xs ≡ 0 → starts ys ≡ 0 → length zs ≤ 1 → starts (xs ++ ys ++ zs) ≤ 2
three xs ys zs x y z = grind (arith, before_starts, starts_few)

module _ (c : Config) where
  -- TEI management orders T201 or T202, and what the links of a TEI that leaves order
  of-change : (o : Option Change) (t : LineTold) (l : Line) → length t.orders ≤ 1 → starts (of_change c o t l).told.orders ≤ 2
  of-change None t l h = omega (arith, starts_few t.orders, h)
  of-change (Some (Gained n place)) t l h = omega (arith, starts_few t.orders, h)
  of-change (Some (Left n place)) t l h =
      let call = of_link c Call n place link_cleared l in
      three call.told.orders (of_link c Packet n place link_cleared call.line).told.orders t.orders
      (cleared (terms c Call n) (link_in l Call place).running) (cleared (terms c Packet n) (link_in call.line Packet place).running) h

  -- a link starts one timer at most
  by-link : (l : Line) (service : Service) (tei place : ℕ) (e : LinkEvent) → starts (of_aim c (at_link service tei place e) l).told.orders ≤ 2
  by-link l service tei place e = let t = terms c service tei in let x = link_in l service place in omega (arith, one-start t x.running (course t e x).started (course t e x).link.running)

  managed : (l : Line) → IsSound c l → (e : TeiEvent) → tei_laws.IsInRange e → starts (of_aim c (at_management e) l).told.orders ≤ 2
  managed l s e fits = by-managed c l s (λ o f. starts f.told.orders ≤ 2) e fits (λ o told m own step. of-change o told (record l { management = m; own = own }) step.few_orders)

  owned : (l : Line) → IsSound c l → (e : TerminalEvent) → IsOwnEvent c e → starts (of_aim c (at_terminal e) l).told.orders ≤ 2
  owned l s e proper = by-own-event c l s (λ o f. starts f.told.orders ≤ 2) e proper (λ o told m own step. of-change o told (record l { management = m; own = own }) step.few_orders)

  -- whatever an event is to the parts of a line
  aimed : (l : Line) → IsSound c l → (e : Event) → starts (of_aim c (aim_of c e l) l).told.orders ≤ 2
  aimed l s =
      event_aims c l (λ takes aim. starts (of_aim c aim l).told.orders ≤ 2) (λ takes. none_starts) (λ cause. none_starts) (λ parts service to. none_starts)
      (λ service tei place e at. by-link l service tei place e) (λ e fits. managed l s e fits) (λ e proper. owned l s e proper)
      (λ unit is few. none_starts) (managed (without_units l) (down-sound c l s) tei_down tt)

  by-refusal : (l : Line) (o : Option Refusal) (aim : Aim) → starts (of_aim c (unless_refused o aim) l).told.orders ≤ 2 → starts (orders_in (unless_refused_told o (of_aim c (unless_refused o aim) l))) ≤ 2
  by-refusal l o aim h1z = grind arith

  -- any event of a line
  line_starts : (l : Line) → IsSound c l → (e : Event) → starts (orders_in (answer c e l)) ≤ 2
  unfolding answer
  line_starts l s (hears x) = aimed l s (hears x)
  line_starts l s (expiry timer) = aimed l s (expiry timer)
  line_starts l s (request r) = by-refusal l (refusal c false r l) (aim_of_request r l) (aimed l s (request r))
  line_starts l s next = omega (arith, starts_few (orders_in (answer c next l)), answers_are_short.takes c l)

-- and of a card
pub card_starts : (m : Card) (e : cards.Event) → sound.IsSound m → e.line < m.config.lines → starts (orders_in (card.answer e m)) ≤ 2
card_starts m e s here =
    (elim (card.wants_room e m) as (λ b. starts (orders_in (cond b (refused PoolFull) (answer m.config e.what (line_at e.line m)))) ≤ 2) [
      | true ↦ none_starts
      | false ↦ line_starts m.config (line_at e.line m) (line_sound m e.line (has_lines m s) here) e.what
    ])
