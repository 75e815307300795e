-- An answer has at most four notes and four orders.
use Rattle.laws_line.proofs.Vocabulary.{ℕ, ◌≤◌, false, List, [], ◌∷◌, ◌++◌, length, Option, Some, None, IfSome, arith, length-append, Refusal, Service, Timer, T201, event-tells, cleared-tells, two-orders, cleared-orders, Change, Config, hears, request, next, LineTold, gave, aim_of_expiry, notes_in, orders_in, Line, terms_at, unless_refused_told, aim_of_heard, told_of_management, of_link}
use Rattle.laws_line.proofs.Vocabulary.{of_change, of_management, of_aim, Taken, first_taken, taken, next_of, Request, Establish, Release, Assign, Remove, SetBusy, ClearBusy, Deactivate, aim_of_request, told_brief, own_brief, heard_aims, expiry_starts, Down, without_units, option_map, T200, T203, Event, expiry, AnswersAreShort, answer, unless_refused, refusal, Data, Unit, Check, link_received}
use Rattle.laws_line.proofs.Vocabulary.{LinkEvent, StreamEvent, down, message, tei_told, check, disown, tei_after, remove, assigning, tei_expiry, TeiEvent, Disown}
use Rattle.laws_line.proofs.Vocabulary.{Bool, true, cond, T202, AskTei, VerifyTei, TerminalEvent, asking, verifying, terminal_expiry, terminal_told, terminal_after, terminal_in, with_terminal, is_terminal, at_a_terminal, of_network, of_terminal, of_terminal_if}

record IsShort (t : LineTold) : Type 0 where
  notes : length t.notes ≤ 4
  orders : length t.orders ≤ 4

module _ (c : Config) where
  link_short : (service : Service) (tei place : ℕ) (e : LinkEvent) (l : Line) → IsShort (of_link c service tei place e l).told
  link_short service tei place e l = grind (arith, event-tells, two-orders)

  -- three lists after one another
  three : {X : Type 0} (xs ys zs : List X) → length xs ≤ 1 → length ys ≤ 1 → length zs ≤ 1 → length (xs ++ ys ++ zs) ≤ 4
  three xs ys zs x y z = grind (arith, length-append)

  record OneAtMost (t : LineTold) : Type 0 where
    notes : length t.notes ≤ 1
    orders : length t.orders ≤ 1

  change_short : (o : Option Change) (t : LineTold) (l : Line) → OneAtMost t → IsShort (of_change c o t l).told
  change_short o t l h = grind (arith, three, cleared-tells, cleared-orders)

  network_short : (e : TeiEvent) (l : Line) → IsShort (of_network c e l).told
  network_short e l =
      let t = told_brief e l.management in
      change_short (tei_told e l.management).change (told_of_management (tei_told e l.management)) (record l { management = tei_after e l.management }) (record { notes = t.notes; orders = t.orders })

  terminal_short : (e : TerminalEvent) (l : Line) → IsShort (of_terminal c e l).told
  terminal_short e l =
      let x = terminal_in l in
      let t = own_brief e x in
      change_short (terminal_told e x).change (told_of_management (terminal_told e x)) (with_terminal (terminal_after e x) l) (record { notes = t.notes; orders = t.orders })

  if_short : (o : Option TerminalEvent) (l : Line) → IsShort (of_terminal_if c o l).told
  if_short None l = record { notes = omega arith; orders = omega arith }
  if_short (Some e) l = terminal_short e l

  management_short : (e : TeiEvent) (l : Line) → IsShort (of_management c e l).told
  management_short e l = go (is_terminal c)
    where
      go : (b : Bool) → IsShort (cond b (of_terminal_if c (at_a_terminal e) l) (of_network c e l)).told
      go true = if_short (at_a_terminal e) l
      go false = network_short e l

  heard_short : (l : Line) (e : StreamEvent) → IsShort (of_aim c (aim_of_heard c l e) l).told
  heard_short l =
      heard_aims c l (λ aim. IsShort (of_aim c aim l).told) (λ cause. record { notes = omega arith; orders = omega arith })
      (λ service n place what at. link_short service n place (link_received what) l) (λ info. management_short (message info) l)
      (λ parts service to. record { notes = omega arith; orders = omega arith })

  expiry_short : (l : Line) (timer : Timer) → IsShort (of_aim c (aim_of_expiry timer l) l).told
  expiry_short l (T200 service n) = grind (arith, link_short)
  expiry_short l (T203 service n) = grind (arith, link_short)
  expiry_short l T201 = management_short tei_expiry l
  expiry_short l T202 = terminal_short terminal_expiry l

  request_short : (l : Line) (r : Request) → IsShort (of_aim c (aim_of_request r l) l).told
  request_short l (Establish service n) = grind (arith, link_short)
  request_short l (Release service n) = grind (arith, link_short)
  request_short l (Data service n contents) = grind (arith, link_short)
  request_short l (Unit service n contents) = (record { notes = omega arith; orders = omega arith })
  request_short l (Assign n) = management_short (assigning n) l
  request_short l (Remove n) = management_short (remove n) l
  request_short l (Check n) = management_short (check n) l
  request_short l (Disown n) = management_short (disown n) l
  request_short l AskTei = terminal_short asking l
  request_short l (VerifyTei n) = terminal_short (verifying n) l
  request_short l (SetBusy service n) = grind (arith, link_short)
  request_short l (ClearBusy service n) = grind (arith, link_short)
  request_short l (Deactivate service n) = grind (arith, link_short)
  request_short l Down = management_short down (without_units l)

  -- A call for the next frame orders what the frame's timer wants.
  HasFewOrders : Taken → Type 0
  HasFewOrders t = length t.orders ≤ 2

  mapped : {X Y : Type 0} (f : X → Y) (P : Y → Type 0) (o : Option X) → IfSome o (λ x. P (f x)) → IfSome (option_map f o) P
  mapped f P o h = grind arith

  anything : {X : Type 0} (P : X → Type 0) (o : Option X) → ((x : X) → P x) → IfSome o P
  anything P o h = grind arith

  links_few : (l : Line) (ns : List ℕ) → IfSome (first_taken c l ns) HasFewOrders
  unfolding HasFewOrders
  links_few l [] = tt
  links_few l (n ∷ ns) = grind (arith, terms_at, mapped, two-orders, (links_few l ns))

  taken_few : (l : Line) → IfSome (taken c l) HasFewOrders
  unfolding HasFewOrders
  taken_few l = grind (arith, HasFewOrders, mapped, anything, links_few)

  next_few : (l : Line) → length (orders_in (gave (option_map next_of (taken c l)))) ≤ 2
  unfolding HasFewOrders
  next_few l = go (taken c l) (taken_few l)
    where
      go : (o : Option Taken) → IfSome o HasFewOrders → length (orders_in (gave (option_map next_of o))) ≤ 2
      go o h = grind arith

  -- any event
  request_orders : (r : Request) (l : Line) (o : Option Refusal) → length (orders_in (unless_refused_told o (of_aim c (unless_refused o (aim_of_request r l)) l))) ≤ 4
  request_orders r l None = (request_short l r).orders
  request_orders r l (Some why) = omega arith

  notes_few : (e : Event) (l : Line) → length (notes_in (answer c e l)) ≤ 4
  unfolding answer
  notes_few e l = grind (arith, heard_short, expiry_short, request_short)

  orders_few : (e : Event) (l : Line) → length (orders_in (answer c e l)) ≤ 4
  unfolding answer
  orders_few (hears e) l = (heard_short l e).orders
  orders_few (expiry timer) l = (expiry_short l timer).orders
  orders_few (request r) l = request_orders r l (refusal c false r l)
  orders_few next l = omega (arith, next_few l)

  next_orders : (l : Line) → length (orders_in (answer c next l)) ≤ 2
  unfolding answer
  next_orders l = next_few l

pub answers_are_short : AnswersAreShort
answers_are_short = record { notes = notes_few; orders = orders_few; takes = next_orders; expiries = expiry_starts }
