-- What orders do to a clock.
use Rattle.std.specs.Prelude.{◌^◌, IfSome, option_map, take, map, fold, get_or, nat_lt, Result, Err, if◌then◌else◌}
use Rattle.std.specs.Option.{option_or}
use Rattle.lapd_c.proofs.Vocabulary.{arith, ◌≡◌, ◌≤◌, ◌<◌, ◌&&◌, ◌∷◌, ◌++◌, ℕ, Bool, true, false, Option, None, Some, List, [], Ok, refl, sym, ap, subst, ◌∙◌, drop, false≢true, Timers, Service, after_orders, first_fault_in}
use Rattle.std.proofs.lemmas.Bool.{le-ltb}
use Rattle.lapd_frame.specs.declared.services.Service.TheVariants.{Call, Packet}
use Rattle.lapd_frame.specs.declared.timers.Order.{Order}
use Rattle.lapd_frame.specs.declared.timers.Order.TheVariants.{Start, Stop}
use Rattle.lapd_frame.specs.declared.timers.Timer.{Timer}
use Rattle.lapd_frame.specs.declared.timers.Timer.TheVariants.{T200, T203, T201, T202}
use Rattle.lapd_frame.specs.Services.{sapi_of}
use Rattle.lapd_clock.specs.Timers.{finds_place, with_order}
use Rattle.lapd_c.specs.CarriedOut.{AreLeft, IsLeft, IsNamed, IsOfTerminal, Names, NamesNone, OrdersAreCarriedOut, find_places, next_order}
use Rattle.lapd_c.specs.Clocks.{after_apply, apply_status, latest, order_status}
use Rattle.lapd_c.specs.Clocks as one
use Rattle.lapd_c.specs.Orders.{after_all, after_order, after_report, all_placed, fault_before, is_placed, orders_status, report_status, wrong_among}
use Rattle.lapd_c.specs.Statuses.{wrong_line, wrong_order, wrong_tei, wrong_time}
use Rattle.lapd_c.specs.Timers.{order_in, plain_order, plain_timer, timer_in, link_in, order_of_timer, timer_of_link}
use Rattle.lapd_c.specs.declared.plain.reports.PlainReport.{PlainReport}
use Rattle.lapd_c.specs.declared.plain.timers.PlainOrder.{PlainOrder}

-- one order
one_is : (c : Timers) (line now : ℕ) (order : Order) → line < c.lines → now ≤ 2 ^ 63 → after_apply c line (Ok order) now ≡ with_order c line order now
one_is c line now order within early = grind arith

answered_is : (c : Timers) (line now : ℕ) (order : Order) → line < c.lines → now ≤ 2 ^ 63 → apply_status c line (Ok order) now ≡ (if finds_place c line order then 0 else 24)
answered_is c line now order within early = grind arith

-- several
abbrev some_in : List (Result Order ℕ) → Bool
some_in [] = false
some_in (x ∷ xs) = true

abbrev first_of : Order → List (Result Order ℕ) → Result Order ℕ
first_of other xs = get_or xs 0 (Ok other)

module _ (line now : ℕ) where
  -- none of them is at fault, and each is carried out after those before it
  no_fault : (ps : List PlainOrder) (orders : List Order) → map order_in ps ≡ map Ok orders → first_fault_in ps ≡ None
  no_fault [] orders is = refl
  no_fault (p ∷ ps) [] is = absurd (false≢true (sym (ap some_in is)))
  no_fault (p ∷ ps) (o ∷ orders) is =
      ap (λ (r : Result Order ℕ). fault_before (first_fault_in ps) r) (ap (first_of o) is) ∙ no_fault ps orders (ap (λ (xs : List (Result Order ℕ)). drop 1 xs) is)

  in_turn : (c : Timers) (ps : List PlainOrder) (orders : List Order) → map order_in ps ≡ map Ok orders → after_orders c line ps now ≡ fold (next_order line now) c orders
  in_turn c [] [] is = refl
  in_turn c [] (o ∷ orders) is = absurd (false≢true (ap some_in is))
  in_turn c (p ∷ ps) [] is = absurd (false≢true (sym (ap some_in is)))
  in_turn c (p ∷ ps) (o ∷ orders) is =
      ap (λ (r : Result Order ℕ). after_orders (after_order c line r now) line ps now) (ap (first_of o) is)
      ∙ in_turn (with_order c line o now) ps orders (ap (λ (xs : List (Result Order ℕ)). drop 1 xs) is)

  none_wrong : (ps : List PlainOrder) (orders : List Order) → map order_in ps ≡ map Ok orders → now ≤ 2 ^ 63 → wrong_among ps now ≡ None
  none_wrong ps orders is early = grind (arith, no_fault)

all_is : (c : Timers) (line now : ℕ) (r : PlainReport) (orders : List Order) → Names r orders → r.order_count ≤ 4 → line < c.lines → now ≤ 2 ^ 63
    → after_report c line r now ≡ fold (next_order line now) c orders
all_is c line now r orders names few within early = grind (arith, none_wrong, in_turn)

-- whether each finds its place
module _ (line now : ℕ) where
  placed_in_turn : (c : Timers) (ps : List PlainOrder) (orders : List Order) → map order_in ps ≡ map Ok orders → all_placed c line ps now ≡ find_places c line now orders
  placed_in_turn c [] [] is = refl
  placed_in_turn c [] (o ∷ orders) is = absurd (false≢true (ap some_in is))
  placed_in_turn c (p ∷ ps) [] is = absurd (false≢true (sym (ap some_in is)))
  placed_in_turn c (p ∷ ps) (o ∷ orders) is =
      ap (λ (x : Result Order ℕ). is_placed c line x && all_placed (after_order c line x now) line ps now) (ap (first_of o) is)
      ∙ ap (λ (b : Bool). finds_place c line o && b) (placed_in_turn (with_order c line o now) ps orders (ap (λ (xs : List (Result Order ℕ)). drop 1 xs) is))

  -- what is answered for a line that the clock has, and what becomes of it
  answered_all : (c : Timers) (r : PlainReport) → line < c.lines → r.order_count ≤ 4 → report_status c line r now ≡ orders_status c line (take r.order_count r.orders) now
  answered_all c r within few = grind arith

  done_all : (c : Timers) (r : PlainReport) → line < c.lines → r.order_count ≤ 4 → after_report c line r now ≡ after_all c line (take r.order_count r.orders) now
  done_all c r within few = grind arith

  all_answered_is : (c : Timers) (r : PlainReport) (orders : List Order) → Names r orders → r.order_count ≤ 4 → line < c.lines → now ≤ 2 ^ 63
      → report_status c line r now ≡ (if find_places c line now orders then 0 else 24)
  all_answered_is c r orders names few within early = grind (arith, answered_all, none_wrong, placed_in_turn)

  -- where something is wrong, none is carried out
  all_left : (c : Timers) (r : PlainReport) (wrong : ℕ) → line < c.lines → r.order_count ≤ 4 → wrong_among (take r.order_count r.orders) now ≡ Some wrong → AreLeft c line r now wrong
  all_left c r wrong within few is = grind (arith, answered_all, done_all)

  first_wrong : (before : List PlainOrder) (orders : List Order) (none : PlainOrder) (rest : List PlainOrder) (wrong : ℕ) → map order_in before ≡ map Ok orders → order_in none ≡ Err wrong
      → first_fault_in (before ++ none ∷ rest) ≡ Some wrong
  first_wrong [] orders none rest wrong read is = ap (fault_before (first_fault_in rest)) is
  first_wrong (p ∷ ps) [] none rest wrong read is = absurd (false≢true (sym (ap some_in read)))
  first_wrong (p ∷ ps) (o ∷ orders) none rest wrong read is =
      ap (λ (x : Result Order ℕ). fault_before (first_fault_in (ps ++ none ∷ rest)) x) (ap (first_of o) read)
      ∙ first_wrong ps orders none rest wrong (ap (λ (xs : List (Result Order ℕ)). drop 1 xs) read) is

  one_wrong_is : (c : Timers) (wrong : ℕ) (r : PlainReport) → line < c.lines → r.order_count ≤ 4 → NamesNone r wrong → AreLeft c line r now wrong
  one_wrong_is c wrong r within few n =
      all_left c r wrong within few (ap (λ (o : Option ℕ). option_or o (if nat_lt latest now then Some wrong_time else None))
      (ap first_fault_in n.all ∙ first_wrong n.before n.orders n.none n.rest wrong n.read n.is_none))

  all_late_is : (c : Timers) (r : PlainReport) (orders : List Order) → line < c.lines → r.order_count ≤ 4 → Names r orders → 2 ^ 63 < now → AreLeft c line r now wrong_time
  all_late_is c r orders within few names past = grind (arith, all_left, no_fault)

  no_line_is : (c : Timers) (order : Result Order ℕ) → c.lines ≤ line → IsLeft c line order now wrong_line
  no_line_is c order past = grind arith

  within_is : (c : Timers) (order : Result Order ℕ) (wrong : ℕ) → line < c.lines → order_status c line order now ≡ wrong → one.after_order c line order now ≡ c → IsLeft c line order now wrong
  within_is c order wrong within is same = grind arith

  late_is : (c : Timers) (order : Order) → line < c.lines → 2 ^ 63 < now → IsLeft c line (Ok order) now wrong_time
  late_is c order within past = grind arith

  no_line_all : (c : Timers) (r : PlainReport) → c.lines ≤ line → AreLeft c line r now wrong_line
  no_line_all c r past = grind arith

  too_many_is : (c : Timers) (r : PlainReport) → line < c.lines → 4 < r.order_count → AreLeft c line r now wrong_order
  too_many_is c r within many = grind arith

-- an order as numbers
link_read : (service : Service) (tei : ℕ) → tei ≤ 126 → link_in (sapi_of service) tei ≡ Ok (service, tei)
link_read Call tei few = ap (λ (b : Bool). if b then Err wrong_tei else Ok (Call, tei)) (le-ltb 126 tei few)
link_read Packet tei few = ap (λ (b : Bool). if b then Err wrong_tei else Ok (Packet, tei)) (le-ltb 126 tei few)

timer_read : (timer : Timer) → IsOfTerminal timer → timer_in (plain_timer timer) ≡ Ok timer
timer_read (T200 service tei) few = ap (timer_of_link T200) (link_read service tei few)
timer_read (T203 service tei) few = ap (timer_of_link T203) (link_read service tei few)
timer_read T201 few = refl
timer_read T202 few = refl

order_read : (order : Order) → IsNamed order → order_in (plain_order order) ≡ Ok order
order_read (Start timer) few = ap (order_of_timer Start) (timer_read timer few)
order_read (Stop timer) few = ap (order_of_timer Stop) (timer_read timer few)

pub orders_are_carried_out_by : OrdersAreCarriedOut
orders_are_carried_out_by = record {
  one = λ c line now order within early. one_is c line now order within early;
  answered = λ c line now order within early. answered_is c line now order within early;
  all = λ c line now r orders names few within early. all_is c line now r orders names few within early;
  read = λ order few. order_read order few;
  all_answered = λ c line now r orders names few within early. all_answered_is line now c r orders names few within early;
  refused = λ c line now order. record {
    no_line = λ past. no_line_is line now c order past;
    wrong = λ status within is. within_is line now c order status within (ap (λ (x : Result Order ℕ). order_status c line x now) is) (ap (λ (x : Result Order ℕ). one.after_order c line x now) is);
    late = λ named within is past. subst (λ (x : Result Order ℕ). IsLeft c line x now wrong_time) (sym is) (late_is line now c named within past);
  };
  all_refused = λ c line now r. record {
    no_line = λ past. no_line_all line now c r past;
    too_many = λ within many. too_many_is line now c r within many;
    wrong = λ status within few names. one_wrong_is line now c status r within few names;
    late = λ orders within few names past. all_late_is line now c r orders within few names past;
  };
  call = λ tells leaves old new result c it is. (subst (λ (o : Option Timers). IfSome o (λ c. result ≡ tells c)) is it.told, it.after ∙ ap (option_map leaves) is);
  begun = λ config old new it. it.begun refl;
}
