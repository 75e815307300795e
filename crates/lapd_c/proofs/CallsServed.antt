-- What a call comes to at a card that stands for a machine, and what a report tells.
use Rattle.lapd_c.proofs.Vocabulary.{◌≡◌, ◌<◌, ◌&&◌, ◌∷◌, ℕ, Bool, true, false, not, List, [], length, Option, None, Some, Ok, refl, sym, ap, subst, ◌∙◌, arith, OctetCard, Machine, with_ports, alone, card_in, AnyCard, Frames, Octets, AnyStands, IfOk, IfSome, option_map, none-some}
use Rattle.std.specs.Prelude.{◌≢◌, ◌≤◌, ◌==◌, take, Err, Result, if◌then◌else◌}
use Rattle.std.specs.Result.{IfErr}
use Rattle.std.proofs.lemmas.Bool.{false≢true, lt-ltb}
use Rattle.std.proofs.lemmas.Option.{same_Some}
use Rattle.lapd_frame.specs.declared.refusals.Refusal.{Refusal}
use Rattle.lapd_frame.specs.declared.timers.Order.{Order}
use Rattle.lapd_frame.specs.declared.timers.Timer.{Timer}
use Rattle.model_line.specs.Counts.{is_given}
use Rattle.model_line.specs.Event as line
use Rattle.model_line.specs.Event.{LineTold, NextFrame, nothing}
use Rattle.model_line.specs.Laws.{orders_in}
use Rattle.model_card.specs.Card.{Card}
use Rattle.model_card.specs.Counted.{moment_of}
use Rattle.model_card.specs.Event.{Event, at}
use Rattle.model_card.specs.Machine as machine
use Rattle.model_card.specs.declared.kinds.CardKind.TheVariants as kinds
use Rattle.model_card.specs.ports.Card as octets
use Rattle.model_card.specs.ports.Codec.{meant_in}
use Rattle.model_card.specs.ports.Event as octet
use Rattle.model_card.specs.ports.Port as port
use Rattle.model_timed.specs.Changes.{noted}
use Rattle.model_timed.specs.Clock.{Clock, obeyed}
use Rattle.model_timed.specs.Octets as timed
use Rattle.lapd_card.specs.Kinds as any
use Rattle.lapd_card.specs.Waiting.{has_next}
use Rattle.lapd_c.specs.declared.card.CardHandle.{CardHandle}
use Rattle.lapd_c.specs.declared.plain.reports.PlainReport.{PlainReport}
use Rattle.lapd_c.specs.Answers.{ShowsAnswer, ShowsReply}
use Rattle.lapd_c.specs.CalledBy.{Asked, Called, Happening, Served, ShowsGiven, inside, at_port, why_in, why_refused}
use Rattle.lapd_c.specs.Calls.{HasBegun, fresh}
use Rattle.lapd_c.specs.CallsServed.{CallIsServed, CallsAreServed, FallIsServed, IsAt, IsDone, IsRefused, Tells, is_of}
use Rattle.lapd_c.specs.Slots.{HeldCard}
use Rattle.lapd_c.specs.Cards.{HandleStands, StandsIn, card_of, without_marks}
use Rattle.lapd_c.specs.Config.{config_in}
use Rattle.lapd_c.specs.FallsDue.{FellDue}
use Rattle.lapd_c.specs.Kept.{ChangesStandIn, TimersStandIn, is_timed, orders_by, reply_seen_by, seen_by, timers_of, without_orders}
use Rattle.lapd_c.specs.Reports.{Shows, ShowsPull, contents_in, contents_or_none, mark_of}
use Rattle.lapd_c.specs.Statuses.{refusal_status}
use Rattle.lapd_c.specs.Wanted.{IsOther, OfEach, Wanted, of_any, of_octets, of_frames, of_untimed}
use Rattle.lapd_c.proofs.BothKinds.{both_kinds_are_served_by}
use Rattle.lapd_c.proofs.CallsWrite.{calls_write_by}
use Rattle.lapd_c.proofs.CallEvents.{calls_are_events_by}
use Rattle.lapd_c.proofs.Calling.{octets_held}
use Rattle.lapd_c.proofs.HandlesLeft.{handles_are_left_by}
use Rattle.lapd_c.proofs.Served.{still_within}
use Rattle.lapd_c.proofs.WrongStatuses.{refused_not_ok}

-- of which cards a call is
not_true : (b : Bool) → not b ≡ true → b ≡ false
not_true true is = sym is
not_true false is = refl

not_false : (b : Bool) → not b ≡ false → b ≡ true
not_false true is = refl
not_false false is = sym is

frames_held : (held : HeldCard) (m : Card) → StandsIn held (alone m) → option_map any.kind_of (option_map without_marks held) ≡ Some kinds.Frames
frames_held None m s = absurd s
frames_held (Some kept) m s = of_card kept.timed.card s
  where
    of_card : (card : AnyCard) → AnyStands card (alone m) → Some (any.kind_of card) ≡ Some kinds.Frames
    of_card (Octets c) s = absurd s
    of_card (Frames c) s = refl

pub each_card : (cards : Wanted) (old : CardHandle) (m : Machine) (P : Machine → Type 0) → HandleStands old m → is_of cards (is_timed old) m ≡ true → OfEach cards old P → P m
each_card of_any old m P s is all = all m s
each_card of_octets old (with_ports m) P s is all = all m s
each_card of_octets old (alone m) P s is all = absurd (false≢true is)
each_card of_frames old (with_ports m) P s is all = absurd (false≢true is)
each_card of_frames old (alone m) P s is all = all m s
each_card of_untimed old m P s is all = all m (s, not_true (is_timed old) is)

pub is_other : (cards : Wanted) (old : CardHandle) (m : Machine) → HandleStands old m → is_of cards (is_timed old) m ≡ false → IsOther cards old
is_other of_any old m s is = absurd (false≢true (sym is))
is_other of_octets old (with_ports m) s is = absurd (false≢true (sym is))
is_other of_octets old (alone m) s is = frames_held (card_of old) m s
is_other of_frames old (with_ports m) s is = octets_held (card_of old) m s
is_other of_frames old (alone m) s is = absurd (false≢true (sym is))
is_other of_untimed old m s is = not_false (is_timed old) is

pub card_after : (e : Event) (m : Machine) → machine.after e (card_in m) ≡ card_in (any.after e m)
card_after e (with_ports m) = refl
card_after e (alone m) = refl

-- what a report shows, with or without orders
shown_told : (timed : Bool) (r : PlainReport) (t : LineTold) → ShowsAnswer r (seen_by timed (line.told t)) → Shows r (record t { orders = orders_by timed t.orders })
shown_told true r t s = s
shown_told false r t s = s

replied_told : (timed : Bool) (r : PlainReport) (t : LineTold) → ShowsReply r (reply_seen_by timed (port.told t)) → Shows r (record t { orders = orders_by timed t.orders })
replied_told true r t s = s
replied_told false r t s = s

replied_pulled : (timed : Bool) (r : PlainReport) (value : ℕ) (begun : Bool) (orders : List Order) → ShowsReply r (reply_seen_by timed (port.pulled value begun orders))
    → ShowsPull r begun false (orders_by timed orders)
replied_pulled true r value begun orders s = s
replied_pulled false r value begun orders s = s

module _ (asked : Asked) (old new : CardHandle) (result : ℕ) (before r : PlainReport) (c : Called asked old new result before r) where
  is_refused : (status : ℕ) (m : Machine) → HandleStands old m → result ≡ status → status ≢ 0 → IsRefused status m old new result before r
  is_refused status m s is not_ok =
      let bad : result ≢ 0 = λ ok. not_ok (sym is ∙ ok) in
      let same = c.unchanged bad in
      record { told = is; stands = same.stands m s; timers = same.timers; counters = same.counters m s; report = c.call.unwritten bad }

  pub is_wrong : (m : Machine) (status : ℕ) → IsAt asked old m → asked.event (card_in m) ≡ Err status → result ≡ status
  is_wrong m status a is =
      subst (λ e. IfErr e (λ wrong. result ≡ wrong)) is
      (each_card asked.cards old m (λ m. asked.line < (card_in m).config.lines → IfErr (asked.event (card_in m)) (λ wrong. result ≡ wrong)) a.stands a.of_card c.wrong a.has_line)

  pub is_not_ok : (m : Machine) (status : ℕ) → IsAt asked old m → asked.event (card_in m) ≡ Err status → status ≢ 0
  is_not_ok m status a is =
      subst (λ e. IfErr e (λ wrong. wrong ≢ 0)) is
      (each_card asked.cards old m (λ m. asked.line < (card_in m).config.lines → IfErr (asked.event (card_in m)) (λ wrong. wrong ≢ 0)) a.stands a.of_card c.not_ok a.has_line)

  why_is : (m : Machine) (e : Event) (why : Refusal) → IsAt asked old m → asked.event (card_in m) ≡ Ok (inside e) → machine.answer e (card_in m) ≡ line.refused why → result ≡ refusal_status why
  why_is m e why a is refuses =
      subst (λ a. IfSome (why_in a) (λ why. result ≡ refusal_status why)) refuses
      (subst (λ (q : Result Happening ℕ). IfOk q (λ e. IfSome (why_refused e m) (λ why. result ≡ refusal_status why))) is
      (each_card asked.cards old m (λ m. asked.line < (card_in m).config.lines → IfOk (asked.event (card_in m)) (λ e. IfSome (why_refused e m) (λ why. result ≡ refusal_status why)))
      a.stands a.of_card c.refused a.has_line))

  pub is_served : (m : Machine) (e : Happening) → IsAt asked old m → asked.event (card_in m) ≡ Ok e → why_refused e m ≡ None → Served e m old new result r
  is_served m e a is none =
      subst (λ (q : Result Happening ℕ). IfOk q (λ e. why_refused e m ≡ None → Served e m old new result r)) is
      (each_card asked.cards old m (λ m. asked.line < (card_in m).config.lines → IfOk (asked.event (card_in m)) (λ e. why_refused e m ≡ None → Served e m old new result r))
      a.stands a.of_card c.served a.has_line) none

  -- done inside, and at a port
  done : (m : Machine) (what : line.Event) (orders : List Order) → Served (inside (at asked.line what)) m old new result r → orders_in (machine.answer (at asked.line what) (card_in m)) ≡ orders
      → IsDone asked.line orders (moment_of (card_in m) (at asked.line what) ∷ []) m (any.after (at asked.line what) m) old new result
  done m what orders s is = record {
    told = s.ok;
    stands = s.stands;
    timers = λ clock stood. subst (λ (m' : Card). TimersStandIn (timers_of new) m' (obeyed asked.line orders clock)) (card_after (at asked.line what) m)
        (subst (λ (os : List Order). TimersStandIn (timers_of new) (machine.after (at asked.line what) (card_in m)) (obeyed asked.line os clock)) is
        (s.obeyed.timers clock stood));
    links = λ clock marks stood stood_marks. subst (λ (m' : Card). ChangesStandIn (timers_of new) m' (noted (obeyed asked.line orders clock).now m' marks)) (card_after (at asked.line what) m)
        (subst (λ (os : List Order). ChangesStandIn (timers_of new) (machine.after (at asked.line what) (card_in m)) (noted (obeyed asked.line os clock).now (machine.after (at asked.line what) (card_in m)) marks)) is
        (s.obeyed.noted clock marks stood stood_marks));
    counters = s.counted;
  }

  port_done : (m : OctetCard) (what : port.Event) (orders : List Order) → Served (at_port (octet.at asked.line what)) (with_ports m) old new result r
      → timed.orders_in (octets.answer (octet.at asked.line what) m) ≡ orders
      → IsDone asked.line orders (meant_in (record { card = m; event = octet.at asked.line what; answer = octets.answer (octet.at asked.line what) m })) (with_ports m) (with_ports (octets.after (octet.at asked.line what) m)) old new result
  port_done m what orders s is = record {
    told = s.ok;
    stands = s.stands;
    timers = λ clock stood. subst (λ (os : List Order). TimersStandIn (timers_of new) (octets.after (octet.at asked.line what) m).card (obeyed asked.line os clock)) is
        (s.obeyed.timers clock stood);
    links = λ clock marks stood stood_marks. subst (λ (os : List Order). ChangesStandIn (timers_of new) (octets.after (octet.at asked.line what) m).card (noted (obeyed asked.line os clock).now (octets.after (octet.at asked.line what) m).card marks)) is
        (s.obeyed.noted clock marks stood stood_marks);
    counters = s.counted;
  }

  shown_gave : (m : Machine) (what : line.Event) (next : NextFrame) → asked.line < (card_in m).config.lines → Served (inside (at asked.line what)) m old new result r
      → machine.answer (at asked.line what) (card_in m) ≡ line.gave (Some next)
      → ShowsPull r true (is_given (machine.answer (at asked.line line.next) (card_in (any.after (at asked.line what) m)))) (orders_by (is_timed old) next.orders)
  shown_gave m what next within s is =
      let m' = card_in (any.after (at asked.line what) m) in
      subst (λ (b : Bool). ShowsPull r true (b && is_given (machine.answer (at asked.line line.next) m')) (orders_by (is_timed old) next.orders))
      (lt-ltb asked.line m'.config.lines (still_within asked.line (at asked.line what) m within)) (subst (λ a. ShowsGiven (is_timed old) r (has_next asked.line m') a) is s.shown)

  call_is_served : CallIsServed asked old new result before r
  call_is_served = record {
    no_card = λ none. ((c.call.no_card none).0, (c.call.no_card none).1, c.call.unwritten (λ ok. omega (arith, ok, (c.call.no_card none).0)));
    other_card = λ m s is. is_refused 26 m s (c.call.wrong_card (is_other asked.cards old m s is)) (λ e. omega (arith, e));
    no_line = λ m s is past. is_refused 14 m s (each_card asked.cards old m (λ m. (card_in m).config.lines ≤ asked.line → result ≡ 14) s is c.call.wrong_line past) (λ e. omega (arith, e));
    wrong = λ m status a is. is_refused status m a.stands (is_wrong m status a is) (is_not_ok m status a is);
    refused = λ m what why a is refuses. is_refused (refusal_status why) m a.stands (why_is m (at asked.line what) why a is refuses) (refused_not_ok why);
    waits = λ bad. (c.unchanged bad).marks;
    reopened = λ m s within ok. c.call.reopened m s within ok;
    told = λ m what t a is answered.
        let s = is_served m (inside (at asked.line what)) a is (ap why_in answered) in
        (done m what t.orders s (ap orders_in answered), shown_told (is_timed old) r t (subst (λ a. ShowsGiven (is_timed old) r (has_next asked.line (card_in (any.after (at asked.line what) m))) a) answered s.shown));
    gave = λ m what next a is answered.
        let s = is_served m (inside (at asked.line what)) a is (ap why_in answered) in
        (done m what next.orders s (ap orders_in answered), shown_gave m what next a.has_line s answered);
    octet_told = λ m what t a is answered.
        let s = is_served (with_ports m) (at_port (octet.at asked.line what)) a is refl in
        (port_done m what t.orders s (ap timed.orders_in answered), replied_told (is_timed old) r t (subst (λ a. ShowsReply r (reply_seen_by (is_timed old) a)) answered s.shown));
    pulled = λ m what value begun orders a is answered.
        let s = is_served (with_ports m) (at_port (octet.at asked.line what)) a is refl in
        (port_done m what orders s (ap timed.orders_in answered), replied_pulled (is_timed old) r value begun orders (subst (λ a. ShowsReply r (reply_seen_by (is_timed old) a)) answered s.shown));
  }

-- what a report tells place by place
told_contents : (r : PlainReport) (contents : Option (List ℕ)) → r.delivered ≡ mark_of contents → r.length ≡ length (contents_or_none contents) → contents_in r ≡ contents
    → (octets : List ℕ) → contents ≡ Some octets → (r.delivered ≡ 1) × (r.length ≡ length octets) × (take r.length r.contents ≡ octets)
told_contents r contents marked long shown octets is = (one, long ∙ ap (λ o. length (contents_or_none o)) is, there r.delivered one (shown ∙ is))
  where
    one : r.delivered ≡ 1
    one = marked ∙ ap mark_of is

    there : (n : ℕ) → n ≡ 1 → (if n == 0 then None else Some (take r.length r.contents)) ≡ Some octets → take r.length r.contents ≡ octets
    there n is e = same_Some _ _ (subst (λ (k : ℕ). (if k == 0 then None else Some (take r.length r.contents)) ≡ Some octets) is e)

tells_shown : (r : PlainReport) (t : LineTold) → Shows r t → Tells t false false r
tells_shown r t s = record {
  notes = (s.note_count, s.notes);
  orders = (s.order_count, s.orders);
  contents = told_contents r t.contents s.delivered s.octet_count s.contents;
  no_contents = λ none. (s.delivered ∙ ap mark_of none, s.octet_count ∙ ap (λ o. length (contents_or_none o)) none);
  cause = s.cause;
  lost = s.lost;
  given_up = s.given_up;
  given_up_16 = s.given_up_16;
  begun = s.begun;
  more = s.more;
}

tells_pull : (r : PlainReport) (begun more : Bool) (orders : List Order) → ShowsPull r begun more orders → Tells (record nothing { orders = orders }) begun more r
tells_pull r begun more orders s = record {
  notes = (s.note_count, ap (λ n. take n r.notes) s.note_count);
  orders = (s.order_count, s.orders);
  contents = λ octets is. absurd (none-some octets is);
  no_contents = λ none. (s.delivered, s.octet_count);
  cause = s.cause;
  lost = s.lost;
  given_up = s.given_up;
  given_up_16 = s.given_up_16;
  begun = s.begun;
  more = s.more;
}

pub begun_stands : (m : Machine) (held : HeldCard) → HasBegun m held → StandsIn held m
begun_stands m None b = absurd b
begun_stands m (Some kept) b = b.stands

-- what falls due
fall_is_served : (now number : ℕ) (timer : Timer) (m : Machine) (c : Clock) (old new : CardHandle) (result : ℕ) (r : PlainReport) → FellDue now number timer m c old new result r
    → FallIsServed now number timer m c old new result r
fall_is_served now number timer m c old new result r fell = record {
  ok = fell.ok;
  stands = fell.stands;
  timers = fell.timers;
  links = fell.noted;
  counters = fell.counted;
  named = (fell.of_line, fell.expired);
  shown = λ t answered. subst (λ a. ShowsAnswer r (without_orders a)) answered fell.shown;
  reopened = fell.reopened;
}

pub calls_are_served_by : CallsAreServed
calls_are_served_by = record {
  events = calls_are_events_by;
  both_kinds = both_kinds_are_served_by;
  writes = calls_write_by;
  handles = handles_are_left_by;
  calls = λ asked old new result before r c. call_is_served asked old new result before r c;
  falls_due = fall_is_served;
  none_due = λ now m c old new result none. (none.none, none.stands, none.timers, none.marks, none.counters, none.noted);
  starts = λ kind config old new s. (begun_stands (fresh kind (config_in config)) (card_of new) (s.begun refl), s.timed refl);
  timed_starts = λ kind config lengths old new s. (begun_stands (fresh kind (config_in config)) (card_of new) (s.begun refl), s.timed refl, s.unmarked refl);
  shows = λ r t s. tells_shown r t s;
  shows_pull = λ r begun more orders s. tells_pull r begun more orders s;
  orders = λ orders. (refl, refl);
}
