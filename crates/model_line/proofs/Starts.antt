-- An expiry starts at most one timer.
use Rattle.model_line.proofs.Vocabulary.{◌≡◌, ℕ, ◌≤◌, true, false, cond, List, [], ◌∷◌, ◌++◌, length, Option, Some, None, refl, arith, Service, Call, Packet, Order, Start, Stop, Timer, one-start, orders_for, starts, Terms, LinkTimer, told_brief, own_brief, Change, Gained, Left, Config, expiry, aim_of_expiry, orders_in, Line, link_in, terms, answer, told_of_management, of_link, of_change}
use Rattle.model_line.proofs.Vocabulary.{of_management, of_network, of_terminal, of_terminal_if, of_aim, is_terminal, terminal_in, with_terminal, LineTold, link_expired}
use Rattle.model_line.proofs.Vocabulary.{link_cleared, tei_told, tei_after, tei_expiry, terminal_told, terminal_after, terminal_expiry}
use Rattle.model_link.specs.Machine as links
use Rattle.model_line.proofs.ProperAims.{expiry_aims}

-- what starts nothing may stand before other orders
before_starts : (xs ys : List Order) → starts xs ≡ 0 → starts (xs ++ ys) ≡ starts ys
unfolding starts
before_starts [] ys none = refl
before_starts (Start timer ∷ xs) ys none = absurd (omega (arith, none))
before_starts (Stop timer ∷ xs) ys none = omega (arith, before_starts xs ys (omega (arith, none)))

starts_few : (xs : List Order) → starts xs ≤ length xs
unfolding starts
starts_few [] = omega arith
starts_few (Start timer ∷ xs) = omega (arith, starts_few xs)
starts_few (Stop timer ∷ xs) = omega (arith, starts_few xs)

none_starts : starts [] ≤ 1
unfolding starts
none_starts = omega arith

-- a link that is cleared starts nothing
cleared_orders : (t : Terms) (before : Option LinkTimer) → starts (orders_for t before None None) ≡ 0
unfolding starts
cleared_orders t before = grind arith

three : (xs ys zs : List Order) → starts xs ≡ 0 → starts ys ≡ 0 → length zs ≤ 1 → starts (xs ++ ys ++ zs) ≤ 1
three xs ys zs x y z = grind (arith, before_starts, starts_few)

module _ (c : Config) where
  change_starts : (o : Option Change) (t : LineTold) (l : Line) → length t.orders ≤ 1 → starts (of_change c o t l).told.orders ≤ 1
  change_starts None t l h = omega (arith, starts_few t.orders, h)
  change_starts (Some (Gained n place)) t l h = omega (arith, starts_few t.orders, h)
  change_starts (Some (Left n place)) t l h =
      let call = of_link c Call n place link_cleared l in
      three call.told.orders (of_link c Packet n place link_cleared call.line).told.orders t.orders
      (cleared_orders (terms c Call n) (link_in l Call place).running) (cleared_orders (terms c Packet n) (link_in call.line Packet place).running) h

  timer_starts : (l : Line) (service : Service) (n place : ℕ) (timer : LinkTimer) → starts (of_link c service n place (link_expired timer) l).told.orders ≤ 1
  timer_starts l service n place timer =
      let t = terms c service n in
      let x = link_in l service place in
      let course = links.course t (link_expired timer) x in
      one-start t x.running course.started course.link.running

  management_starts : (l : Line) → starts (of_management c tei_expiry l).told.orders ≤ 1
  management_starts l =
      elim (is_terminal c) as (λ b. starts (cond b (of_terminal_if c None l) (of_network c tei_expiry l)).told.orders ≤ 1) [
        | true ↦ none_starts
        | false ↦ change_starts (tei_told tei_expiry l.management).change (told_of_management (tei_told tei_expiry l.management))
            (record l { management = tei_after tei_expiry l.management }) (told_brief tei_expiry l.management).orders
      ]

  terminal_starts : (l : Line) → starts (of_terminal c terminal_expiry l).told.orders ≤ 1
  terminal_starts l =
      let t = terminal_told terminal_expiry (terminal_in l) in
      change_starts t.change (told_of_management t) (with_terminal (terminal_after terminal_expiry (terminal_in l)) l) (own_brief terminal_expiry (terminal_in l)).orders

  aim_starts : (timer : Timer) (l : Line) → starts (of_aim c (aim_of_expiry timer l) l).told.orders ≤ 1
  aim_starts timer l =
      expiry_aims l (λ aim. starts (of_aim c aim l).told.orders ≤ 1) none_starts (λ service n place timer at. timer_starts l service n place timer)
      (management_starts l) (terminal_starts l) timer

pub expiry_starts : (c : Config) (timer : Timer) (l : Line) → starts (orders_in (answer c (expiry timer) l)) ≤ 1
unfolding answer
expiry_starts c timer l = aim_starts c timer l
