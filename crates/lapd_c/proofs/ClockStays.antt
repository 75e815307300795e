-- A clock in C may be saved from its start on, whatever is called of it.
use Rattle.std.proofs.Common.{arith, ◌≡◌, ◌==◌, ℕ, ◌+◌, ◌*◌, ◌<◌, ◌≤◌, ◌&&◌, Bool, true, false, cond, not, nat_lt, nat_le, List, [], ◌∷◌, refl, sym, ◌∙◌}
use Rattle.std.specs.List.{AllByRecursion}
use Rattle.std.specs.Prelude.{IfOk, None, Some, Ok, Err, Option, Result, is_some, option_map}
use Rattle.std.specs.Option.{option_map_or, option_or}
use Rattle.std.proofs.lemmas.Bool.{and_parts, leb-true, ltb-false, ltb-true}
use Rattle.std.proofs.lemmas.List.Elements.{All-from_recursion, recursion_from_All}
use Rattle.lapd_clock.specs.Firsts.{never}
use Rattle.lapd_clock.specs.Image.{IsSaved}
use Rattle.lapd_clock.specs.InOrder.{put_in_order}
use Rattle.lapd_clock.specs.Sound.{IsSound}
use Rattle.lapd_clock.specs.Timer.{duration, first_out_of_range, standard, tei_rank, AreInRange, Lengths, Order, Service, Start, Stop, T200, T203, T201, T202, Timer}
use Rattle.lapd_clock.specs.Timers.{after_due, after_first_due, finds_place, idle, is_before, with_lengths, with_order, without, Expiry, Timers}
use Rattle.lapd_clock.proofs.Ordered.{All-filter, All-put_in_order}
use Rattle.lapd_clock.proofs.Running.{after_due_sound, none_sound, with_order_sound}
use Rattle.lapd_c.specs.declared.plain.reports.PlainReport.{PlainReport}
use Rattle.lapd_c.specs.declared.plain.timers.PlainOrder.{PlainOrder}
use Rattle.lapd_c.specs.declared.plain.timers.PlainTimer.{PlainTimer}
use Rattle.lapd_c.specs.Clocks as one
use Rattle.lapd_c.specs.Clocks.{after_apply, after_lengths, latest}
use Rattle.lapd_c.specs.Orders as many
use Rattle.lapd_c.specs.Orders.{after_all, after_orders, after_report, first_fault_in}
use Rattle.lapd_c.specs.Reports.{orders_of}
use Rattle.lapd_c.specs.Services.{service_in}
use Rattle.lapd_c.specs.Statuses.{field_status, wrong_order, wrong_tei, wrong_time, wrong_timer}
use Rattle.lapd_c.specs.Timers.{order_in, order_of_timer, timer_in, timer_of_link, with_tei}
use Rattle.lapd_c.specs.Config.{config_fault, config_in, reading_fault, side_fault}
use Rattle.lapd_c.specs.Reserved.{reserve_fault}
use Rattle.lapd_c.specs.declared.plain.config.PlainConfig.{PlainConfig}
use Rattle.lapd_clock.specs.declared.fault.LengthFault.{LengthFault}
use Rattle.model_line.specs.Config.{first_fault}
use Rattle.model_line.specs.declared.config.Field.{Field}
use Rattle.model_line.proofs.Ranges.{ranges_of}
use Rattle.std.proofs.lemmas.Option.{none-some}

-- ---- what is held

abbrev MayBe : Expiry → Type 0
MayBe e = (tei_rank e.timer ≤ 126) × (e.moment < never)

held : (c : Timers) → IsSaved c → AllByRecursion MayBe c.running
held c saved = recursion_from_All MayBe c.running (λ i d within. (saved.teis i d within, saved.moments i d within))

-- A clock with such timers, that is sound, may be saved.
saved_again : (c d : Timers) → IsSaved c → d.lines ≡ c.lines → d.places ≡ c.places → IsSound d → AllByRecursion MayBe d.running → IsSaved d
saved_again c d saved lines places sound all =
    let each = All-from_recursion MayBe d.running all in record {
      sound = sound;
      of_card = record {
        some_lines = (omega (arith, lines, saved.of_card.some_lines.0), omega (arith, lines, saved.of_card.some_lines.1));
        terminals = saved.of_card.terminals;
        some = saved.of_card.some;
        places_are = places ∙ saved.of_card.places_are;
      };
      teis = λ i d within. (each i d within).0;
      moments = λ i d within. (each i d within).1;
    }

-- ---- one order

-- of two, whichever it is
either : {X : Type 0} (P : X → Type 0) (b : Bool) (x y : X) → P x → P y → P (cond b x y)
either P true x y first second = first
either P false x y first second = second

abbrev IsOfTei : Order → Type 0
IsOfTei (Start timer) = tei_rank timer ≤ 126
IsOfTei (Stop timer) = Unit {0}

few_lengths : (l : Lengths) (timer : Timer) → AreInRange l → duration l timer ≤ 3600000
few_lengths l (T200 s tei) range = range.t200_most
few_lengths l (T203 s tei) range = range.t203_most
few_lengths l T201 range = range.t201_most
few_lengths l T202 range = range.t202_most

same_lines : (c : Timers) (line : ℕ) (order : Order) (now : ℕ) → ((with_order c line order now).lines ≡ c.lines) × ((with_order c line order now).places ≡ c.places)
unfolding with_order
same_lines c line (Stop timer) now = (refl, refl)
same_lines c line (Start timer) now =
    let e : Expiry = record { moment = now + duration c.lengths timer; line = line; timer = timer } in
    either (λ (d : Timers). (d.lines ≡ c.lines) × (d.places ≡ c.places)) (finds_place c line (Start timer))
    (record c { running = put_in_order is_before e (without line timer c.running) }) c (refl, refl) (refl, refl)

kept : (c : Timers) (line : ℕ) (order : Order) (now : ℕ) → IsOfTei order → AreInRange c.lengths → now ≤ latest → AllByRecursion MayBe c.running → AllByRecursion MayBe (with_order c line order now).running
unfolding with_order
kept c line (Stop timer) now tei range soon all = All-filter MayBe _ c.running all
kept c line (Start timer) now tei range soon all =
    let e : Expiry = record { moment = now + duration c.lengths timer; line = line; timer = timer } in
    let in_time : e.moment < never = omega (arith, soon, few_lengths c.lengths timer range) in
    either (λ (d : Timers). AllByRecursion MayBe d.running) (finds_place c line (Start timer))
    (record c { running = put_in_order is_before e (without line timer c.running) }) c
    (All-put_in_order is_before MayBe e (without line timer c.running) (tei, in_time) (All-filter MayBe _ c.running all)) all

ordered : (c : Timers) (line : ℕ) (order : Order) (now : ℕ) → line < c.lines → IsOfTei order → now ≤ latest → IsSaved c → IsSaved (with_order c line order now)
ordered c line order now within tei soon saved =
    let same = same_lines c line order now in
    saved_again c (with_order c line order now) saved same.0 same.1 (with_order_sound c line order now within saved.sound)
    (kept c line order now tei saved.sound.lengths soon (held c saved))

-- ---- what C gives is of a TEI

abbrev IsFew : Timer → Type 0
IsFew timer = tei_rank timer ≤ 126

module _ (which : Service → ℕ → Timer) (rank : (s : Service) (tei : ℕ) → tei_rank (which s tei) ≡ tei) where
  few_tei : (s : Service) (tei : ℕ) (b : Bool) → nat_lt 126 tei ≡ b → IfOk (timer_of_link which (cond b (Err wrong_tei) (Ok (s, tei)))) IsFew
  few_tei s tei true is = tt
  few_tei s tei false is = omega (arith, ltb-false 126 tei is, rank s tei)

  of_link : (tei : ℕ) (r : Result Service ℕ) → IfOk (timer_of_link which (with_tei tei r)) IsFew
  of_link tei (Err wrong) = tt
  of_link tei (Ok s) = few_tei s tei (nat_lt 126 tei) refl

few_timer : (p : PlainTimer) → IfOk (timer_in p) IsFew
few_timer p =
    either (λ r. IfOk r IsFew) (p.timer == 1) _ _ (of_link T200 (λ s tei. refl) p.tei (service_in p.service))
    (either (λ r. IfOk r IsFew) (p.timer == 2) _ _ (of_link T203 (λ s tei. refl) p.tei (service_in p.service))
    (either (λ r. IfOk r IsFew) (p.timer == 3) (Ok T201) _ (omega arith)
    (either (λ r. IfOk r IsFew) (p.timer == 4) (Ok T202) (Err wrong_timer) (omega arith) tt)))

started : (r : Result Timer ℕ) → IfOk r IsFew → IfOk (order_of_timer Start r) IsOfTei
started (Err wrong) few = tt
started (Ok timer) few = few

stopped : (r : Result Timer ℕ) → IfOk (order_of_timer Stop r) IsOfTei
stopped (Err wrong) = tt
stopped (Ok timer) = tt

few_order : (p : PlainOrder) → IfOk (order_in p) IsOfTei
few_order p =
    either (λ r. IfOk r IsOfTei) (p.order == 1) _ _ (started (timer_in p.timer) (few_timer p.timer))
    (either (λ r. IfOk r IsOfTei) (p.order == 2) _ (Err wrong_order) (stopped (timer_in p.timer)) tt)

-- ---- each call

module _ (c : Timers) (line now : ℕ) (within : line < c.lines) (saved : IsSaved c) where
  one_order : (r : Result Order ℕ) → IfOk r IsOfTei → IsSaved (one.after_order c line r now)
  one_order (Err wrong) few = saved
  one_order (Ok order) few = (elim (nat_lt latest now) as (λ b. nat_lt latest now ≡ b → IsSaved (cond b c (with_order c line order now))) [
    | true ↦ λ _. saved
    | false ↦ λ is. ordered c line order now within few (ltb-false latest now is) saved
  ]) refl

  next_order : (r : Result Order ℕ) → IfOk r IsOfTei → now ≤ latest → IsSaved (many.after_order c line r now)
  next_order (Err wrong) few soon = saved
  next_order (Ok order) few soon = ordered c line order now within few soon saved

next_lines : (c : Timers) (line now : ℕ) (r : Result Order ℕ) → (many.after_order c line r now).lines ≡ c.lines
next_lines c line now (Err wrong) = refl
next_lines c line now (Ok order) = (same_lines c line order now).0

pub applied : (c : Timers) (line now : ℕ) (p : PlainOrder) → IsSaved c → IsSaved (after_apply c line (order_in p) now)
applied c line now p saved = (elim (nat_lt line c.lines) as (λ b. nat_lt line c.lines ≡ b → IsSaved (cond b (one.after_order c line (order_in p) now) c)) [
  | true ↦ λ is. one_order c line now (ltb-true line c.lines is) saved (order_in p) (few_order p)
  | false ↦ λ _. saved
]) refl

orders_kept : (c : Timers) (line now : ℕ) (ps : List PlainOrder) → line < c.lines → now ≤ latest → IsSaved c → IsSaved (after_orders c line ps now)
orders_kept c line now [] within soon saved = saved
orders_kept c line now (p ∷ ps) within soon saved =
    orders_kept (many.after_order c line (order_in p) now) line now ps (omega (arith, within, next_lines c line now (order_in p))) soon
    (next_order c line now within saved (order_in p) (few_order p) soon)

module _ (c : Timers) (line now : ℕ) (within : line < c.lines) (saved : IsSaved c) (ps : List PlainOrder) where
  all_kept : (fault : Option ℕ) (late : Bool) → nat_lt latest now ≡ late
      → IsSaved (option_map_or (λ (wrong : ℕ). c) (option_or fault (cond late (Some wrong_time) None)) (after_orders c line ps now))
  all_kept (Some wrong) late is = saved
  all_kept None true is = saved
  all_kept None false is = orders_kept c line now ps within (ltb-false latest now is) saved

pub reported : (c : Timers) (line now : ℕ) (r : PlainReport) → IsSaved c → IsSaved (after_report c line r now)
reported c line now r saved =
    (elim (nat_lt line c.lines && not (nat_lt 4 r.order_count)) as (λ b. (nat_lt line c.lines && not (nat_lt 4 r.order_count)) ≡ b → IsSaved (cond b (after_all c line (orders_of r) now) c)) [
      | true ↦ λ is.
          let within = ltb-true line c.lines (and_parts (nat_lt line c.lines) (not (nat_lt 4 r.order_count)) is).0 in
          all_kept c line now within saved (orders_of r) (first_fault_in (orders_of r)) (nat_lt latest now) refl
      | false ↦ λ _. saved
    ]) refl

first_out : (es : List Expiry) (now : ℕ) → AllByRecursion MayBe es → AllByRecursion MayBe (after_first_due es now)
first_out [] now all = tt
first_out (e ∷ es) now all = either (AllByRecursion MayBe) (nat_le e.moment now) es (e ∷ es) all.1 all

pub fallen : (c : Timers) (now : ℕ) → IsSaved c → IsSaved (after_due c now)
fallen c now saved =
    saved_again c (after_due c now) saved refl refl (after_due_sound c.lengths c.lines c.places c.running now saved.sound) (first_out c.running now (held c saved))

-- Lengths of which none is out of range are in range.
passed : (b : Bool) (f : LengthFault) (o : Option LengthFault) → cond (not b) (Some f) o ≡ None → (b ≡ true) × (o ≡ None)
passed b f o h = grind arith

in_range : (l : Lengths) → first_out_of_range l ≡ None → AreInRange l
in_range l h = grind (arith, passed, and_parts, leb-true)

with_these : (l : Lengths) (c : Timers) → AreInRange l → IsSaved c → IsSaved (with_lengths l c)
with_these l c range saved =
    saved_again c (with_lengths l c) saved refl refl
    (record {
      in_order = saved.sound.in_order;
      one_each = saved.sound.one_each;
      on_lines = saved.sound.on_lines;
      in_places = saved.sound.in_places;
      lengths = range;
    }) (held c saved)

pub lengthened : (l : Lengths) (c : Timers) → IsSaved c → IsSaved (after_lengths l c)
lengthened l c saved = (elim (first_out_of_range l) as (λ o. first_out_of_range l ≡ o → IsSaved (cond (is_some o) c (with_lengths l c))) [
  | None ↦ λ is. with_these l c (in_range l is) saved
  | Some wrong ↦ λ _. saved
]) refl

-- ---- its start

no_fault : (o : Option Field) (others : Option ℕ) → option_or (option_map field_status o) others ≡ None → o ≡ None
no_fault None others is = refl
no_fault (Some field) others is = absurd (none-some (field_status field) (sym is))

pub begun : (config : PlainConfig) → config_fault config ≡ None → IsSaved (idle config.lines config.terminals)
begun config fits =
    let ranges = ranges_of (config_in config) (no_fault (first_fault (config_in config)) (option_or (side_fault config) (option_or (reading_fault config) (reserve_fault config.reserved))) fits) in
    let none = All-from_recursion MayBe [] tt in record {
      sound = none_sound standard config.lines (4 * config.terminals + 1) (in_range standard refl);
      of_card = record {
        some_lines = (ranges.lines.least, ranges.lines.most);
        terminals = config.terminals;
        some = (ranges.terminals.least, ranges.terminals.most);
        places_are = refl;
      };
      teis = λ i d within. (none i d within).0;
      moments = λ i d within. (none i d within).1;
    }
