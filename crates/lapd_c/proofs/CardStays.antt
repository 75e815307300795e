-- A card in C may be saved from its start on, whatever is called of it.
use Rattle.lapd_c.proofs.Vocabulary.{◌≡◌, ◌≤◌, ◌<◌, ◌-◌, ℕ, Bool, true, false, List, [], length, Option, None, Some, Ok, IfOk, IfSome, Result, inl, inr, refl, sym, ap, subst, ◌∙◌, arith, cases_lt, Card, Config, KeptCard, HeldCard, AnyCard, Frames, Octets, AnyStands, Machine, with_ports, alone, card_in, OctetCard, Refusal}
use Rattle.std.specs.List.{range_with_len}
use Rattle.std.specs.Prelude.{◌≢◌, ◌^◌, get_or, map, is_some, if◌then◌else◌, Err}
use Rattle.std.proofs.lemmas.Bool.{cases_eq}
use Rattle.std.proofs.lemmas.List.FromFn.{get_or-map-range_with_len, length-map-range_with_len}
use Rattle.lapd_card.specs.Image.{begun_as}
use Rattle.lapd_card.specs.Kinds as any
use Rattle.lapd_card.specs.Kinds.{counters_of, kind_of}
use Rattle.lapd_clock.specs.Timers.{Expiry}
use Rattle.lapd_frame.specs.declared.timers.Order.{Order}
use Rattle.lapd_timed.specs.Image.{is_octets, kind_in, marks_in, HasRows, MayBeSaved}
use Rattle.lapd_timed.specs.Marked.{moment_in}
use Rattle.lapd_timed.specs.Stands.{ChangesStand, TimersStand}
use Rattle.lapd_timed.specs.declared.card_timers.CardTimers.{CardTimers}
use Rattle.model_card.specs.Machine as machine
use Rattle.model_card.specs.declared.kinds.CardKind.{CardKind}
use Rattle.model_card.specs.declared.kinds.CardKind.TheVariants as kinds
use Rattle.model_card.specs.ports.Card as octets
use Rattle.model_card.specs.ports.Event as octet_event
use Rattle.model_card.specs.ports.Run as octets_run
use Rattle.model_image.specs.Images.{Saved}
use Rattle.model_line.specs.Line.{link_count}
use Rattle.model_timed.specs.Changes.{Marks, inside, marks_after, noted, unmarked}
use Rattle.model_timed.specs.Clock.{Clock, at_moment, due, obeyed, stopped, with_lengths, without_first}
use Rattle.model_timed.specs.Frames.{orders_at}
use Rattle.model_timed.specs.Octets as timed_octets
use Rattle.lapd_c.specs.declared.card.CardHandle.{CardHandle}
use Rattle.lapd_c.specs.declared.plain.config.PlainConfig.{PlainConfig}
use Rattle.lapd_c.specs.declared.plain.reports.PlainReport.{PlainReport}
use Rattle.lapd_c.specs.declared.plain.timers.PlainLengths.{PlainLengths}
use Rattle.lapd_c.specs.CalledBy.{Asked, Called, Happening, IsCallOf, Served, at_port, inside as happens_inside, why_refused}
use Rattle.lapd_c.specs.Calls.{IsCardStart, IsTimedStart, fresh}
use Rattle.lapd_c.specs.CallsServed.{IsAt, is_of}
use Rattle.lapd_c.specs.Cards.{HandleStands, StandsIn, card_of}
use Rattle.lapd_c.specs.Config.{config_in}
use Rattle.lapd_c.specs.Exchange.{Exchanges, is_exchange, steps_made}
use Rattle.lapd_c.specs.FallsDue.{FellDue, FindsNoneDue, IsMomentCall, IsTimersCall, LetsFallDue, RefusesMoment, expires, gone}
use Rattle.lapd_c.specs.Kept.{CarryOut, CarryOutAll, ChangesStandIn, TimersStandIn, happen, is_timed, timed_after, timers_held, timers_of}
use Rattle.lapd_c.specs.Saves.{HandleHolds, HandleReads, IsCardRestore, IsHeldAs}
use Rattle.lapd_c.specs.SavesServed.{CardMayBeSaved, CardStays}
use Rattle.lapd_c.specs.Statuses.{refusal_status}
use Rattle.lapd_c.specs.Timers.{lengths_fault, lengths_in}
use Rattle.lapd_c.specs.Waiting.{card_waits}
use Rattle.lapd_c.specs.Wanted.{of_octets, OctetsWithLine}
use Rattle.lapd_c.proofs.BlockMade.{blocks_are_made}
use Rattle.lapd_c.proofs.Calling.{none_there, same_held}
use Rattle.lapd_c.proofs.CallsServed.{begun_stands, card_after, each_card, is_not_ok, is_other, is_served, is_wrong}
use Rattle.lapd_c.proofs.Served.{frames_stand}
use Rattle.lapd_c.proofs.Timing.{led-card}
use Rattle.lapd_c.proofs.WrongStatuses.{refused_not_ok}

-- ---- what is noted of its links, as an image has it

abbrev row_of : Config → Marks → ℕ → List ℕ
row_of c marks line = map (moment_in marks line) (range_with_len 0 (link_count c))

abbrev rows_of : Config → Marks → List (List ℕ)
rows_of c marks = map (row_of c marks) (range_with_len 0 c.lines)

module _ (c : Config) (marks : Marks) where
  rows_count : length (rows_of c marks) ≡ c.lines
  rows_count = length-map-range_with_len (row_of c marks) 0 c.lines

  row_at : (line : ℕ) (d : List ℕ) → line < c.lines → get_or (rows_of c marks) line d ≡ row_of c marks line
  row_at line d within = get_or-map-range_with_len (row_of c marks) 0 c.lines line line d within (omega arith)

  moment_at : (line number : ℕ) → line < c.lines → number < link_count c → get_or (get_or (rows_of c marks) line []) number 0 ≡ moment_in marks line number
  moment_at line number there here =
      ap (λ (row : List ℕ). get_or row number 0) (row_at line [] there)
      ∙ get_or-map-range_with_len (moment_in marks line) 0 (link_count c) number number 0 here (omega arith)

  has_rows : HasRows c (rows_of c marks)
  has_rows = record {
    lines = rows_count;
    links = λ line d there.
        ap (λ (row : List ℕ). length row) (row_at line d (omega (arith, there, rows_count))) ∙ length-map-range_with_len (moment_in marks line) 0 (link_count c);
  }

noted_so : (t : CardTimers) (m : Card) (marks : Marks) → ChangesStand t m marks → ChangesStand t m (marks_in m (rows_of m.config marks))
noted_so t m marks stood = record {
  lines_are = stood.lines_are;
  terminals_are = stood.terminals_are;
  links_are = stood.links_are;
  count = stood.count;
  as_many = stood.as_many;
  up_to_date = λ line number there here. refl;
  held = λ line number there here.
      let at = moment_at m.config marks line number (omega (arith, there, stood.lines_are)) (omega (arith, here, stood.terminals_are)) in
      let state = stood.up_to_date line number there here in
      stood.held line number there here ∙ (λ i. record { state = state i; moment = sym at i });
}

-- ---- what stands beside a card

-- Its own timers stand for a clock, and what they have noted for marks; where it keeps none, nothing does.
record AreTimed (t : CardTimers) (m : Card) : Type 0 where
  clock : Clock
  marks : Marks
  stand : TimersStand t m clock
  noted : ChangesStand t m marks

abbrev Beside : Option CardTimers → Card → Type 0
Beside None m = Unit {0}
Beside (Some t) m = AreTimed t m

stand_in : (o : Option CardTimers) (m : Card) (c : Clock) (marks : Marks) → TimersStandIn o m c → ChangesStandIn o m marks → Beside o m
stand_in None m c marks s k = absurd s
stand_in (Some t) m c marks s k = record { clock = c; marks = marks; stand = s; noted = k }

-- So much is known where what is held may be saved.
timers_beside : (o : Option CardTimers) (clock : Option Clock) (s : Saved) → MayBeSaved o clock s → Beside o s.card
timers_beside None clock s may = tt
timers_beside (Some t) None s may = absurd may
timers_beside (Some t) (Some c) s may = record { clock = c; marks = marks_in s.card s.changed; stand = may.stand; noted = may.noted }

held_beside : (held : HeldCard) (s : Saved) → HandleHolds held s → Beside (timers_held held) s.card
held_beside None s holds = absurd holds
held_beside (Some kept) s holds = timers_beside kept.timed.timers s.clock s holds.timers

beside : (h : CardHandle) (may : CardMayBeSaved h) → Beside (timers_of h) (card_in may.machine)
beside h may = subst (Beside (timers_of h)) may.of_machine (held_beside (card_of h) may.saved may.holds)

-- And this is enough.
abbrev as_saved : KeptCard → Card → Option Clock → List (List ℕ) → Saved
as_saved kept m clock changed =
    record { of_octets = is_octets kept.timed.card; card = m; counted = counters_of kept.timed.card; waits = card_waits m kept.refused; clock = clock; changed = changed }

kind_is : (card : AnyCard) → kind_of card ≡ (if is_octets card then kinds.Octets else kinds.Frames)
kind_is (Octets c) = refl
kind_is (Frames c) = refl

held_as : (kept : KeptCard) (m : Machine) (clock : Option Clock) (changed : List (List ℕ)) → AnyStands kept.timed.card m
    → MayBeSaved kept.timed.timers clock (as_saved kept (card_in m) clock changed) → IsHeldAs kept (as_saved kept (card_in m) clock changed)
held_as kept m clock changed stands may = record { kind = kind_is kept.timed.card; lines = frames_stand kept.timed.card m stands; counted = refl; waits = refl; timers = may }

saved_by : (kept : KeptCard) (m : Machine) (o : Option CardTimers) → kept.timed.timers ≡ o → AnyStands kept.timed.card m → Beside o (card_in m)
    → (s : Saved) × (s.card ≡ card_in m) × IsHeldAs kept s
saved_by kept m None is stands b =
    let s : Saved = as_saved kept (card_in m) None [] in
    (s, refl, held_as kept m None [] stands (subst (λ o. MayBeSaved o None s) (sym is) refl))
saved_by kept m (Some t) is stands b =
    let rows = rows_of (card_in m).config b.marks in
    let s : Saved = as_saved kept (card_in m) (Some b.clock) rows in (
      s,
      refl,
      held_as kept m (Some b.clock) rows stands (subst (λ o. MayBeSaved o (Some b.clock) s) (sym is)
          (record { stand = b.stand; noted = noted_so t (card_in m) b.marks b.noted; rows = has_rows (card_in m).config b.marks })),
    )

made : (h : CardHandle) (m : Machine) → HandleStands h m → Beside (timers_of h) (card_in m) → CardMayBeSaved h
made h m stood known = go (card_of h) refl stood known
  where
    go : (held : HeldCard) → card_of h ≡ held → StandsIn held m → Beside (timers_held held) (card_in m) → CardMayBeSaved h
    go None is stands b = absurd stands
    go (Some kept) is stands b =
        let found = saved_by kept m kept.timed.timers refl stands b in record {
          machine = m;
          stands = subst (λ held. StandsIn held m) (sym is) stands;
          saved = found.0;
          of_machine = found.1;
          holds = subst (λ held. HandleHolds held found.0) (sym is) found.2;
        }

-- It stays so where the card does.
pub unchanged_stays : (old new : CardHandle) → CardMayBeSaved old → card_of new ≡ card_of old → CardMayBeSaved new
unchanged_stays old new may same = record {
  machine = may.machine;
  stands = subst (λ held. StandsIn held may.machine) (sym same) may.stands;
  saved = may.saved;
  of_machine = may.of_machine;
  holds = subst (λ held. HandleHolds held may.saved) (sym same) may.holds;
}

no_card : (held : HeldCard) (m : Machine) → StandsIn held m → held ≡ None → ⊥
no_card held m stands none = subst (λ held. StandsIn held m) none stands

-- ---- a call of a line

carried : (number : ℕ) (orders : List Order) (m m' : Card) (o n : Option CardTimers) → CarryOut number orders m m' o n → Beside o m → Beside n m'
carried number orders m m' None n h b = subst (λ n. Beside n m') (sym (none_there n h.there)) tt
carried number orders m m' (Some t) n h b =
    stand_in n m' (obeyed number orders b.clock) (noted (obeyed number orders b.clock).now m' b.marks) (h.timers b.clock b.stand) (h.noted b.clock b.marks b.stand b.noted)

served : (e : Happening) (m : Machine) (old new : CardHandle) (result : ℕ) (r : PlainReport) → Served e m old new result r → Beside (timers_of old) (card_in m) → CardMayBeSaved new
served (happens_inside e) m old new result r s b =
    made new (any.after e m) s.stands (subst (Beside (timers_of new)) (card_after e m)
    (carried e.line (orders_at e (card_in m)) (card_in m) (machine.after e (card_in m)) (timers_of old) (timers_of new) s.obeyed b))
served (at_port e) (with_ports m) old new result r s b =
    made new (with_ports (octets.after e m)) s.stands (carried e.line (timed_octets.orders_at e m) m.card (octets.after e m).card (timers_of old) (timers_of new) s.obeyed b)
served (at_port e) (alone m) old new result r s b = absurd s.obeyed

module _ (asked : Asked) (old new : CardHandle) (result : ℕ) (before r : PlainReport) (c : Called asked old new result before r) (may : CardMayBeSaved old) where
  refuses : (e : Happening) (why : Refusal) → IsAt asked old may.machine → asked.event (card_in may.machine) ≡ Ok e → why_refused e may.machine ≡ Some why → result ≡ refusal_status why
  refuses e why at is so =
      subst (λ o. IfSome o (λ why. result ≡ refusal_status why)) so
      (subst (λ (q : Result Happening ℕ). IfOk q (λ e. IfSome (why_refused e may.machine) (λ why. result ≡ refusal_status why))) is
      (each_card asked.cards old may.machine (λ m. asked.line < (card_in m).config.lines → IfOk (asked.event (card_in m)) (λ e. IfSome (why_refused e m) (λ why. result ≡ refusal_status why)))
      at.stands at.of_card c.refused at.has_line))

  granted : result ≡ 0 → (e : Happening) → IsAt asked old may.machine → asked.event (card_in may.machine) ≡ Ok e → (o : Option Refusal) → why_refused e may.machine ≡ o → CardMayBeSaved new
  granted ok e at is None so = served e may.machine old new result r (is_served asked old new result before r c may.machine e at is so) (beside old may)
  granted ok e at is (Some why) so = absurd (refused_not_ok why (sym (refuses e why at is so) ∙ ok))

  happened : result ≡ 0 → IsAt asked old may.machine → (q : Result Happening ℕ) → asked.event (card_in may.machine) ≡ q → CardMayBeSaved new
  happened ok at (Err wrong) is = absurd (is_not_ok asked old new result before r c may.machine wrong at is (sym (is_wrong asked old new result before r c may.machine wrong at is) ∙ ok))
  happened ok at (Ok e) is = granted ok e at is (why_refused e may.machine) refl

  done : result ≡ 0 → (of : Bool) → is_of asked.cards (is_timed old) may.machine ≡ of → CardMayBeSaved new
  done ok false is = absurd (omega (arith, ok, c.call.wrong_card (is_other asked.cards old may.machine may.stands is)))
  done ok true is = elim (cases_lt asked.line (card_in may.machine).config.lines) [
    | inl within ↦ happened ok (record { stands = may.stands; of_card = is; has_line = within }) (asked.event (card_in may.machine)) refl
    | inr past ↦ absurd (omega (arith, ok, each_card asked.cards old may.machine (λ m. (card_in m).config.lines ≤ asked.line → result ≡ 14) may.stands is c.call.wrong_line past))
  ]

  pub called_stays : CardMayBeSaved new
  called_stays = elim (cases_eq result 0) [
    | inl ok ↦ done ok (is_of asked.cards (is_timed old) may.machine) refl
    | inr bad ↦
        let same = c.unchanged bad in
        made new may.machine (same.stands may.machine may.stands) (subst (λ o. Beside o (card_in may.machine)) (sym same.timers) (beside old may))
  ]

-- ---- a block of octets

all_carried : (events : List octet_event.Event) (m : OctetCard) (o n : Option CardTimers) → CarryOutAll events m o n → Beside o m.card → Beside n (octets_run.after_all m events).card
all_carried events m None n h b = subst (λ n. Beside n (octets_run.after_all m events).card) (sym (none_there n h.there)) tt
all_carried events m (Some t) n h b =
    let there = timed_after events m b.clock in
    subst (λ (x : OctetCard). Beside n x.card) (led-card events m b.clock)
    (stand_in n there.card.card there.clock (marks_after timed_octets.octets inside (happen events) (record { card = m; clock = b.clock }) b.marks)
    (h.timers b.clock b.stand) (h.noted b.clock b.marks b.stand b.noted))

module _ (line from to result : ℕ) (taken given given' : List ℕ) (old new : CardHandle) (before r : PlainReport) (call : IsCallOf of_octets line None old new result before r)
    (kept : result ≢ 0 → card_of new ≡ card_of old) (short : OctetsWithLine line old (λ m. is_exchange taken given from ≡ false → result ≡ 19))
    (whole : OctetsWithLine line old (λ m. is_exchange taken given from ≡ true → Exchanges line taken from m old new result given given' to r)) where
  exchanged : (m : OctetCard) → HandleStands old (with_ports m) → Beside (timers_of old) m.card → Exchanges line taken from m old new result given given' to r → CardMayBeSaved new
  exchanged m stands b x =
      let steps = steps_made line taken from (to - from) in
      made new (with_ports (octets_run.after_all m steps)) (blocks_are_made line taken from to m old new result given given' r x).stands
      (all_carried steps m (timers_of old) (timers_of new) x.obeyed b)

  fits : result ≡ 0 → (m : OctetCard) → HandleStands old (with_ports m) → Beside (timers_of old) m.card → line < m.card.config.lines → (b : Bool) → is_exchange taken given from ≡ b → CardMayBeSaved new
  fits ok m stands b within false is = absurd (omega (arith, ok, short m stands within is))
  fits ok m stands b within true is = exchanged m stands b (whole m stands within is)

  block_done : result ≡ 0 → (m : Machine) → HandleStands old m → Beside (timers_of old) (card_in m) → CardMayBeSaved new
  block_done ok (alone m) stands b = absurd (omega (arith, ok, call.wrong_card (is_other of_octets old (alone m) stands refl)))
  block_done ok (with_ports m) stands b = elim (cases_lt line m.card.config.lines) [
    | inl within ↦ fits ok m stands b within (is_exchange taken given from) refl
    | inr past ↦ absurd (omega (arith, ok, call.wrong_line m stands past))
  ]

  pub block_stays : CardMayBeSaved old → CardMayBeSaved new
  block_stays may = elim (cases_eq result 0) [
    | inl ok ↦ block_done ok may.machine may.stands (beside old may)
    | inr bad ↦ unchanged_stays old new may (kept bad)
  ]

-- ---- a call with a moment

module _ (now result : ℕ) (old new : CardHandle) (before r : PlainReport) (call : IsMomentCall old new result before r) (wrong : RefusesMoment now old new result)
    (none : FindsNoneDue now old new result) (one : LetsFallDue now old new result r) (may : CardMayBeSaved old) where
  module _ (c : Clock) (marks : Marks) (s : TimersStandIn (timers_of old) (card_in may.machine) c) (k : ChangesStandIn (timers_of old) (card_in may.machine) marks) where
    fallen : c.now ≤ now → now < 2 ^ 63 → (o : Option Expiry) → due (at_moment now c) ≡ o → CardMayBeSaved new
    fallen after soon None is =
        let n = none may.machine c may.stands s after soon is in
        made new may.machine n.stands (stand_in (timers_of new) (card_in may.machine) (at_moment now c) (gone now may.machine (gone now may.machine marks)) n.timers (n.noted marks k))
    fallen after soon (Some x) is =
        let m = may.machine in
        let e = expires x.line x.timer in
        let f : FellDue now x.line x.timer m c old new result r = subst (λ o. IfSome o (λ x. FellDue now x.line x.timer m c old new result r)) is (one m c may.stands s after soon) in
        let there = obeyed x.line (orders_at e (card_in m)) (without_first (at_moment now c)) in
        made new (any.after e m) f.stands (stand_in (timers_of new) (card_in (any.after e m)) there (gone there.now (any.after e m) (gone now m marks)) f.timers (f.noted marks k))

    in_time : CardMayBeSaved new
    in_time = elim (cases_lt now c.now) [
      | inl early ↦ unchanged_stays old new may (wrong may.machine c may.stands s (inl early)).1
      | inr after ↦ elim (cases_lt now (2 ^ 63)) [
        | inl soon ↦ fallen after soon (due (at_moment now c)) refl
        | inr late ↦ unchanged_stays old new may (wrong may.machine c may.stands s (inr late)).1
      ]
    ]

  at_timers : (o : Option CardTimers) → timers_of old ≡ o → Beside o (card_in may.machine) → CardMayBeSaved new
  at_timers None is b = elim (call.wrong_card (ap (λ (o : Option CardTimers). is_some o) is)) [
    | inl gone ↦ absurd (no_card (card_of old) may.machine may.stands gone)
    | inr same ↦ unchanged_stays old new may same.1
  ]
  at_timers (Some t) is b =
      in_time b.clock b.marks (subst (λ o. TimersStandIn o (card_in may.machine) b.clock) (sym is) b.stand) (subst (λ o. ChangesStandIn o (card_in may.machine) b.marks) (sym is) b.noted)

  pub moment_stays : CardMayBeSaved new
  moment_stays = at_timers (timers_of old) refl (beside old may)

-- ---- other lengths

module _ (l : PlainLengths) (result : ℕ) (old new : CardHandle) (call : IsTimersCall old new result)
    (wrong : is_timed old ≡ true → IfSome (lengths_fault l) (λ wrong. (result ≡ wrong) × (card_of new ≡ card_of old)))
    (set : lengths_fault l ≡ None → (m : Card) (c : Clock) → TimersStandIn (timers_of old) m c → (result ≡ 0) × TimersStandIn (timers_of new) m (with_lengths (lengths_in l) c))
    (may : CardMayBeSaved old) where
  with_them : (t : CardTimers) → timers_of old ≡ Some t → AreTimed t (card_in may.machine) → (o : Option ℕ) → lengths_fault l ≡ o → CardMayBeSaved new
  with_them t is b (Some fault) out =
      unchanged_stays old new may (subst (λ (o : Option ℕ). IfSome o (λ wrong. (result ≡ wrong) × (card_of new ≡ card_of old))) out (wrong (ap (λ (o : Option CardTimers). is_some o) is))).1
  with_them t is b None out =
      let m = card_in may.machine in
      made new may.machine ((same_held (card_of old) (card_of new) call.card).0 may.machine may.stands)
      (stand_in (timers_of new) m (with_lengths (lengths_in l) b.clock) b.marks (set out m b.clock (subst (λ o. TimersStandIn o m b.clock) (sym is) b.stand)).1
      (call.noted m b.marks (subst (λ o. ChangesStandIn o m b.marks) (sym is) b.noted)))

  to_timers : (o : Option CardTimers) → timers_of old ≡ o → Beside o (card_in may.machine) → CardMayBeSaved new
  to_timers None is b = elim (call.wrong_card (ap (λ (o : Option CardTimers). is_some o) is)) [
    | inl gone ↦ absurd (no_card (card_of old) may.machine may.stands gone)
    | inr same ↦ unchanged_stays old new may same.1
  ]
  to_timers (Some t) is b = with_them t is b (lengths_fault l) refl

  pub lengths_stay : CardMayBeSaved new
  lengths_stay = to_timers (timers_of old) refl (beside old may)

-- ---- as it begins

pub card_begun : (kind : CardKind) (config : PlainConfig) (old new : CardHandle) → IsCardStart kind config old new 0 → CardMayBeSaved new
card_begun kind config old new s =
    let m = fresh kind (config_in config) in
    made new m (begun_stands m (card_of new) (s.begun refl)) (subst (λ o. Beside o (card_in m)) (sym (none_there (timers_of new) (s.timed refl))) tt)

pub timed_card_begun : (kind : CardKind) (config : PlainConfig) (lengths : PlainLengths) (old new : CardHandle) → IsTimedStart kind config lengths old new 0 → CardMayBeSaved new
timed_card_begun kind config lengths old new s =
    let m = fresh kind (config_in config) in
    made new m (begun_stands m (card_of new) (s.begun refl)) (stand_in (timers_of new) (card_in m) (stopped (lengths_in lengths)) unmarked (s.timed refl) (s.unmarked refl))

begun_card : (kind : CardKind) (c : Card) → c ≡ card_in (begun_as kind c)
begun_card kinds.Octets c = refl
begun_card kinds.Frames c = refl

restored_in : (image : List ℕ) (new : CardHandle) (held : HeldCard) → card_of new ≡ held → HandleReads image held → CardMayBeSaved new
restored_in image new None is read = absurd read
restored_in image new (Some kept) is read =
    let s = read.saved in record {
      machine = begun_as (kind_in s) s.card;
      stands = subst (λ held. StandsIn held (begun_as (kind_in s) s.card)) (sym is) read.begins;
      saved = s;
      of_machine = begun_card (kind_in s) s.card;
      holds = subst (λ held. HandleHolds held s) (sym is) read.held;
    }

pub card_restored : (image : List ℕ) (old new : CardHandle) → IsCardRestore image old new 0 → CardMayBeSaved new
card_restored image old new r = restored_in image new (card_of new) refl (r.restored refl)

-- ---- after each call

pub card_stays : (old : CardHandle) → CardMayBeSaved old → CardStays old
card_stays old may = record {
  called = λ asked new result before r c. called_stays asked old new result before r c may;
  block = λ line from to result taken given given' new before r call kept short whole. block_stays line from to result taken given given' old new before r call kept short whole may;
  moment = λ now result new before r call wrong none one. moment_stays now result old new before r call wrong none one may;
  lengths = λ l result new call wrong set. lengths_stay l result old new call wrong set may;
  unchanged = λ new same. unchanged_stays old new may same;
}
