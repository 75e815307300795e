-- What happens on a card of either kind.
use Rattle.std.proofs.Common.{◌*◌, cond, eq-eqb}
use Rattle.model_card.specs.Card.{line_at}
use Rattle.lapd_sim.proofs.Vocabulary.{◌≡◌, ◌<◌, ◌≤◌, ℕ, None, Option, Some, CardKind, refl, sym, ap, ◌∙◌, subst, arith, Store, Config, ranges_of, Reply, Event, What, at, of_octets, of_frames, reply, after, card_after, meant_by, reply_in, reply_of_octets, reply_of_frames, told, Setup, happened, orders_in, reply_text, with_event, Output, IsPut, IsStuck, Puts, Octets, Frames, shelf_of, kind_of}
use Rattle.lapd_sim.proofs.Vocabulary.{config_of, counters_of, OnBoard, Leads, [], scene, Tells, SetupStands, Each, Sends, Hears, AnyCard, AnyLeads, AnyStands, CardStands, FrameCardStands, Machine, alone, with_ports, card_in, frames_of, expiry, request, List, Result, Ok, Err, Card, Request, Counters, frame_moment, option_map_or, option_map, option_to_list}
use Rattle.lapd_sim.specs.declared.setup.Setup as rust
use Rattle.lapd_card.specs.Card as octets_card
use Rattle.lapd_card.specs.Stands as octets
use Rattle.lapd_card.specs.FrameCard as frames_card
use Rattle.lapd_card.specs.FrameStands as frames
use Rattle.lapd_card.specs.Kinds as kinds
use Rattle.lapd_card.proofs.OneOctet.{IsPassedOn, expiry_passes, request_passes, meant_is, passed_after, passed_answer}
use Rattle.lapd_frame.specs.declared.timers.Timer.{Timer}
use Rattle.model_card.specs.declared.kinds.CardKind.TheVariants as kind
use Rattle.model_card.specs.Counted as counts
use Rattle.model_card.specs.Event as frame_event
use Rattle.model_card.specs.Machine as frame_machine
use Rattle.model_line.specs.Event as line_event
use Rattle.model_card.specs.ports.Card as ports
use Rattle.model_card.specs.ports.Event as octet_event
use Rattle.model_card.specs.ports.Port as port
use Rattle.lapd_sim.specs.machine.Board as machine
unfoldable use Rattle.lapd_sim.specs.machine.Board.{counted}
use Rattle.lapd_sim.specs.machine.Steps.{held, held_in}
use Rattle.lapd_clock.specs.Timers.{Expiry}
use Rattle.lapd_timed.specs.Stands.{ChangesStandIn}
use Rattle.lapd_sim.specs.Stands.{ClockStands}
use Rattle.lapd_timed.specs.Kinds.{LedByFrames, LedByOctets, room_of}
use Rattle.lapd_timed.specs.TimedStands.{FramesMarked, FramesStand, OctetsMarked, OctetsStand, Steps}
use Rattle.lapd_timed.specs.declared.card_timers.CardTimers.{CardTimers}
use Rattle.lapd_timed.specs.declared.timed_card.TimedCard.{TimedCard}
use Rattle.model_line.specs.Laws as lines
use Rattle.model_timed.specs.Changes.{Marks, marked, noted, seen, standing}
use Rattle.model_timed.specs.Changes as changes
use Rattle.model_timed.specs.Clock.{Clock, at_moment, due, obeyed, without_first}
use Rattle.model_timed.specs.Frames as frames_timed
use Rattle.model_timed.specs.Octets as octets_timed
use Rattle.model_timed.specs.Timed.{falls_due, happens, time, with_expiry}

-- ---- what is said on a card of its kind

pub octets_say : (b : machine.Board) → b.kind ≡ kind.Octets → (line : ℕ) (w : What) (e : port.Event) → of_octets w ≡ Some e
    → reply (at line w) b ≡ reply_of_octets (ports.answer (octet_event.at line e) b.card)
unfolding reply
octets_say b is line w e means =
    ap (λ k. reply_in k (at line w) b.card) is
    ∙ ap (λ o. option_map_or (machine.octets_reply line b.card) o (told line_event.nothing)) means

pub frames_say : (b : machine.Board) → b.kind ≡ kind.Frames → (line : ℕ) (w : What) (e : line_event.Event) → of_frames w ≡ Some e
    → reply (at line w) b ≡ reply_of_frames (frame_machine.answer (frame_event.at line e) b.card.card)
unfolding reply
frames_say b is line w e means =
    ap (λ k. reply_in k (at line w) b.card) is
    ∙ ap (λ o. option_map_or (machine.frames_reply line b.card) o (told line_event.nothing)) means

-- ---- a card of either kind goes on

module _ (line : ℕ) (w : What) (e : port.Event) (means : of_octets w ≡ Some e) where
  octets_after : (b : machine.Board) → b.kind ≡ kind.Octets → ports.after (octet_event.at line e) b.card ≡ card_after b.kind (at line w) b.card
  octets_after b is =
      ap (λ o. option_map_or (machine.octets_after line b.card) o b.card) (sym means) ∙ ap (λ k. card_after k (at line w) b.card) (sym is)

  octets_counted : (all : List Counters) (b : machine.Board) → b.kind ≡ kind.Octets → octets.meaning_counted all b.card (octet_event.at line e) ≡ counted all (at line w) b
  unfolding counted
  octets_counted all b is =
      ap (λ o. counts.all_counted all (option_map_or (machine.octets_meant line b.card) o [])) (sym means)
      ∙ ap (λ k. counts.all_counted all (meant_by k (at line w) b.card)) (sym is)

  pub octets_lead : (old new : octets_card.Held Store) → octets.Leads shelf_of (octet_event.at line e) old new → Leads (at line w) (Octets old) (Octets new)
  octets_lead old new leads = record {
    kind = refl;
    config = leads.config;
    stands = λ b on. record {
      kind = on.kind;
      config = on.config ∙ sym leads.config;
      stands = subst (CardStands new) (octets_after b on.kind) (leads.stands b.card on.stands);
    };
    counted = λ b on. leads.counted b.card on.stands ∙ octets_counted (counters_of (Octets old)) b on.kind;
  }

module _ (line : ℕ) (w : What) (e : line_event.Event) (means : of_frames w ≡ Some e) where
  frames_after : (b : machine.Board) → b.kind ≡ kind.Frames → machine.frames_after line b.card e ≡ card_after b.kind (at line w) b.card
  frames_after b is =
      ap (λ o. option_map_or (machine.frames_after line b.card) o b.card) (sym means) ∙ ap (λ k. card_after k (at line w) b.card) (sym is)

  frames_counted : (all : List Counters) (b : machine.Board) → b.kind ≡ kind.Frames → counts.moment_counted all (counts.moment_of b.card.card (frame_event.at line e)) ≡ counted all (at line w) b
  unfolding counted
  frames_counted all b is =
      ap (λ o. counts.all_counted all (option_map_or (machine.frames_meant line b.card) o [])) (sym means)
      ∙ ap (λ k. counts.all_counted all (meant_by k (at line w) b.card)) (sym is)

  pub frames_lead : (old new : frames_card.Held Store) → frames.Leads shelf_of (frame_event.at line e) old new → Leads (at line w) (Frames old) (Frames new)
  frames_lead old new leads = record {
    kind = refl;
    config = leads.config;
    stands = λ b on. record {
      kind = on.kind;
      config = on.config ∙ sym leads.config;
      stands = subst (λ (c : ports.OctetCard). FrameCardStands new c.card) (frames_after b on.kind) (leads.stands b.card.card on.stands);
    };
    counted = λ b on. leads.counted b.card.card on.stands ∙ frames_counted (counters_of (Frames old)) b on.kind;
  }

-- ---- what happens alike at both kinds

pub record IsOfBoth (w : What) (e : port.Event) (f : line_event.Event) : Type 0 where
  pub octets : of_octets w ≡ Some e
  pub frames : of_frames w ≡ Some f
  pub passes : IsPassedOn e f

pub expiry_of_both : (timer : Timer) → IsOfBoth (expiry timer) (port.expiry timer) (line_event.expiry timer)
expiry_of_both timer = record { octets = refl; frames = refl; passes = expiry_passes timer }

pub request_of_both : (r : Request) → IsOfBoth (request r) (port.request r) (line_event.request r)
request_of_both r = record { octets = refl; frames = refl; passes = request_passes r }

module _ {w : What} {e : port.Event} {f : line_event.Event} (both : IsOfBoth w e f) (line : ℕ) where
  pub lead_on : (old new : AnyCard) → AnyLeads (frame_event.at line f) old new → Leads (at line w) old new
  lead_on (Octets old) (Octets new) leads = record {
    kind = refl;
    config = leads.config;
    stands = λ b on. record {
      kind = on.kind;
      config = on.config ∙ sym leads.config;
      stands = subst (CardStands new) (sym (passed_after both.passes line b.card) ∙ octets_after line w e both.octets b on.kind) (leads.stands (with_ports b.card) on.stands);
    };
    counted = λ b on.
        leads.counted (with_ports b.card) on.stands
        ∙ ap (λ o. counts.all_counted (counters_of (Octets old)) (option_to_list (option_map (frame_moment b.card) o))) (sym (meant_is both.passes line b.card))
        ∙ octets_counted line w e both.octets (counters_of (Octets old)) b on.kind;
  }
  lead_on (Octets old) (Frames new) leads = let is : kind.Frames ≡ kind.Octets = leads.kind in absurd (cc)
  lead_on (Frames old) (Octets new) leads = let is : kind.Octets ≡ kind.Frames = leads.kind in absurd (cc)
  lead_on (Frames old) (Frames new) leads = record {
    kind = refl;
    config = leads.config;
    stands = λ b on. record {
      kind = on.kind;
      config = on.config ∙ sym leads.config;
      stands = subst (λ (c : ports.OctetCard). FrameCardStands new c.card) (frames_after line w f both.frames b on.kind) (leads.stands (alone b.card.card) on.stands);
    };
    counted = λ b on. leads.counted (alone b.card.card) on.stands ∙ frames_counted line w f both.frames (counters_of (Frames old)) b on.kind;
  }

  -- it is answered alike
  pub says_on : (card : AnyCard) (b : machine.Board) → OnBoard card b → (a : line_event.Answer) → reply_of_octets (port.answer_of a) ≡ reply_of_frames a
      → ((m : Machine) → AnyStands card m → a ≡ frame_machine.answer (frame_event.at line f) (card_in m)) → reply_of_frames a ≡ reply (at line w) b
  says_on (Octets card) b on a same says =
      sym same ∙ ap (λ x. reply_of_octets (port.answer_of x)) (says (with_ports b.card) on.stands)
      ∙ ap reply_of_octets (sym (passed_answer both.passes line b.card)) ∙ sym (octets_say b on.kind line w e both.octets)
  says_on (Frames card) b on a same says =
      ap reply_of_frames (says (alone b.card.card) on.stands) ∙ sym (frames_say b on.kind line w f both.frames)

-- it is one of its kind
octets_on : (card : AnyCard) (b : machine.Board) → OnBoard card b → kind_of card ≡ kind.Octets → AnyStands card (with_ports b.card)
octets_on (Octets card) b on is = on.stands
octets_on (Frames card) b on is = absurd (cc)

frames_on : (card : AnyCard) (b : machine.Board) → OnBoard card b → kind_of card ≡ kind.Frames → AnyStands card (alone b.card.card)
frames_on (Frames card) b on is = on.stands
frames_on (Octets card) b on is = absurd (cc)

-- the card of frames stands for that of the board
pub inside : (card : AnyCard) (b : machine.Board) → OnBoard card b → FrameCardStands (frames_of card) b.card.card
inside (Octets card) b on = on.stands.frames
inside (Frames card) b on = on.stands

-- what is stored there is what the board holds
pub held_on : (card : AnyCard) (b : machine.Board) → OnBoard card b → (n : ℕ) → ((m : Machine) → AnyStands card m → n ≡ kinds.stored m) → n ≡ held b
held_on (Octets card) b on n is = is (with_ports b.card) on.stands ∙ ap (λ k. held_in k b.card) (sym on.kind)
held_on (Frames card) b on n is = is (alone b.card.card) on.stands ∙ ap (λ k. held_in k b.card) (sym on.kind)

-- What is noted after an event: its timers stand then, and the states of the links are seen.
abbrev pub Noted : TimedCard → Marks → Card → Clock → Type 0
Noted new marks card c = ClockStands new.timers card c (noted c.now card marks)

abbrev pub GoneOn : TimedCard → Event → machine.Board → Clock → Marks → Type 0
GoneOn new event b c marks = Noted new marks (after event b).card.card (obeyed event.line (orders_in (reply event b)) c)

-- Links that are seen again in the same states keep their marks.
seen_state : (now state : ℕ) (mark : changes.Mark) → mark.state ≡ state → seen now state mark ≡ mark
seen_state now state mark is = ap (λ b. cond b mark (record { state = state; moment = now })) (eq-eqb mark.state state is)

seen_again : (now : ℕ) (card : Card) (marks : Marks) (old new : Option CardTimers) → ChangesStandIn old card marks → ChangesStandIn new card (noted now card marks) → ChangesStandIn new card marks
seen_again now card marks old None before h = absurd h
seen_again now card marks None (Some new) before h = absurd before
seen_again now card marks (Some old) (Some new) before h =
    let state : (line number : ℕ) → line < new.lines → number < 2 * new.terminals → (marks line number).state ≡ standing number (line_at line card) = λ line number in_line in_links.
    before.up_to_date line number (subst (λ n. line < n) (sym h.lines_are ∙ before.lines_are) in_line) (subst (λ n. number < n) (sym h.terminals_are ∙ before.terminals_are) in_links) in
    record {
      lines_are = h.lines_are;
      terminals_are = h.terminals_are;
      links_are = h.links_are;
      count = h.count;
      as_many = h.as_many;
      up_to_date = state;
      held = λ line number in_line in_links. h.held line number in_line in_links ∙ seen_state now (standing number (line_at line card)) (marks line number) (state line number in_line in_links);
    }

-- ---- what a card of one kind says, and where it is led

module _ (line : ℕ) (w : What) (e : port.Event) (means : of_octets w ≡ Some e) where
  pub led_octets : (old new : AnyCard) → LedByOctets (octet_event.at line e) old new → Leads (at line w) old new
  led_octets (Octets old) (Octets new) leads = octets_lead line w e means old new leads
  led_octets (Octets old) (Frames new) leads = absurd leads
  led_octets (Frames old) new leads = absurd leads

  pub told_octets : (card : AnyCard) (b : machine.Board) → OnBoard card b → kind_of card ≡ kind.Octets → (a : port.Answer) → ((m : ports.OctetCard) → AnyStands card (with_ports m) → a ≡ ports.answer (octet_event.at line e) m)
      → reply_of_octets a ≡ reply (at line w) b
  told_octets (Octets card) b on is a says = ap reply_of_octets (says b.card on.stands) ∙ sym (octets_say b on.kind line w e means)
  told_octets (Frames card) b on is a says = absurd (cc)

  -- its timers, too
  orders_said : (a : port.Answer) → orders_in (reply_of_octets a) ≡ octets_timed.orders_in a
  orders_said (port.told t) = refl
  orders_said (port.refused why) = refl
  orders_said (port.pulled value begun orders) = refl

  pub on_octets : (b : machine.Board) → b.kind ≡ kind.Octets → (P : Card → Clock → Type 0) (c : Clock) → P (ports.after (octet_event.at line e) b.card).card (obeyed line (octets_timed.orders_at (octet_event.at line e) b.card) c)
      → P (after (at line w) b).card.card (obeyed line (orders_in (reply (at line w) b)) c)
  on_octets b is P c k =
      subst (λ os. P (after (at line w) b).card.card (obeyed line os c)) (sym (orders_said (ports.answer (octet_event.at line e) b.card)) ∙ ap orders_in (sym (octets_say b is line w e means)))
      (subst (λ (m : ports.OctetCard). P m.card (obeyed line (octets_timed.orders_at (octet_event.at line e) b.card) c)) (octets_after line w e means b is) k)

  pub timed_octets : (old new : TimedCard) → ((t : octets_timed.TimedOctetCard) → OctetsStand old t → OctetsStand new (octets_timed.after (happens (octet_event.at line e)) t)) → OctetsMarked (happens (octet_event.at line e)) old new
      → kind_of old.card ≡ kind.Octets → (b : machine.Board) → OnBoard old.card b → (c : Clock) (marks : Marks) → ClockStands old.timers b.card.card c marks → GoneOn new (at line w) b c marks
  timed_octets old new steps marks_go is b on c marks k =
      let t : octets_timed.TimedOctetCard = record { card = b.card; clock = c } in
      let stands : OctetsStand old t = record { card_stands = octets_on old.card b on is; timers_stand = k.timed } in
      on_octets b (on.kind ∙ is) (Noted new marks) c (record { timed = (steps t stands).timers_stand; noted = marks_go t marks stands k.noted })

module _ (line : ℕ) (w : What) (e : line_event.Event) (means : of_frames w ≡ Some e) where
  pub led_frames : (old new : AnyCard) → LedByFrames (frame_event.at line e) old new → Leads (at line w) old new
  led_frames (Frames old) (Frames new) leads = frames_lead line w e means old new leads
  led_frames (Frames old) (Octets new) leads = absurd leads
  led_frames (Octets old) new leads = absurd leads

  pub told_frames : (card : AnyCard) (b : machine.Board) → OnBoard card b → kind_of card ≡ kind.Frames → (a : line_event.Answer) → ((m : Card) → AnyStands card (alone m) → a ≡ frame_machine.answer (frame_event.at line e) m)
      → reply_of_frames a ≡ reply (at line w) b
  told_frames (Frames card) b on is a says = ap reply_of_frames (says b.card.card on.stands) ∙ sym (frames_say b on.kind line w e means)
  told_frames (Octets card) b on is a says = absurd (cc)

  frame_orders_said : (a : line_event.Answer) → orders_in (reply_of_frames a) ≡ lines.orders_in a
  frame_orders_said (line_event.told t) = refl
  frame_orders_said (line_event.refused why) = refl
  frame_orders_said (line_event.gave None) = refl
  frame_orders_said (line_event.gave (Some given)) = refl

  pub on_frames : (b : machine.Board) → b.kind ≡ kind.Frames → (P : Card → Clock → Type 0) (c : Clock) → P (frame_machine.after (frame_event.at line e) b.card.card) (obeyed line (frames_timed.orders_at (frame_event.at line e) b.card.card) c)
      → P (after (at line w) b).card.card (obeyed line (orders_in (reply (at line w) b)) c)
  on_frames b is P c k =
      subst (λ os. P (after (at line w) b).card.card (obeyed line os c)) (sym (frame_orders_said (frame_machine.answer (frame_event.at line e) b.card.card)) ∙ ap orders_in (sym (frames_say b is line w e means)))
      (subst (λ (m : ports.OctetCard). P m.card (obeyed line (frames_timed.orders_at (frame_event.at line e) b.card.card) c)) (frames_after line w e means b is) k)

  pub timed_frames : (old new : TimedCard) → ((t : frames_timed.TimedCard) → FramesStand old t → FramesStand new (frames_timed.after (happens (frame_event.at line e)) t)) → FramesMarked (happens (frame_event.at line e)) old new
      → kind_of old.card ≡ kind.Frames → (b : machine.Board) → OnBoard old.card b → (c : Clock) (marks : Marks) → ClockStands old.timers b.card.card c marks → GoneOn new (at line w) b c marks
  timed_frames old new steps marks_go is b on c marks k =
      let t : frames_timed.TimedCard = record { card = b.card.card; clock = c } in
      let stands : FramesStand old t = record { card_stands = frames_on old.card b on is; timers_stand = k.timed } in
      on_frames b (on.kind ∙ is) (Noted new marks) c (record { timed = (steps t stands).timers_stand; noted = marks_go t marks stands k.noted })

-- an event of both kinds
module _ {w : What} {e : port.Event} {f : line_event.Event} (both : IsOfBoth w e f) (line : ℕ) where
  pub timed_both : (old new : TimedCard) → Steps (happens (octet_event.at line e)) (happens (frame_event.at line f)) old new → (b : machine.Board) → OnBoard old.card b → (c : Clock) (marks : Marks) → ClockStands old.timers b.card.card c marks
      → GoneOn new (at line w) b c marks
  timed_both old new steps b on c marks k = go (kind_of old.card) refl
    where
      go : (k : CardKind) → kind_of old.card ≡ k → GoneOn new (at line w) b c marks
      go kind.Octets is = timed_octets line w e both.octets old new steps.octets steps.octets_marked is b on c marks k
      go kind.Frames is = timed_frames line w f both.frames old new steps.frames steps.frames_marked is b on c marks k

-- and what is due
pub timed_due : (old new : TimedCard) → Steps falls_due falls_due old new → (b : machine.Board) → OnBoard old.card b → (c : Clock) (marks : Marks) → ClockStands old.timers b.card.card c marks → (x : Expiry) → due c ≡ Some x
    → GoneOn new (at x.line (expiry x.timer)) b (without_first c) marks
timed_due old new steps b on c marks k x is = go (kind_of old.card) refl
  where
    go : (k : CardKind) → kind_of old.card ≡ k → GoneOn new (at x.line (expiry x.timer)) b (without_first c) marks
    go kind.Octets o =
        let t : octets_timed.TimedOctetCard = record { card = b.card; clock = c } in
        let stands : OctetsStand old t = record { card_stands = octets_on old.card b on o; timers_stand = k.timed } in
        let after_it = subst (λ d. OctetsStand new (option_map_or (with_expiry octets_timed.octets t) d t)) is (steps.octets t stands) in
        let noted_then = subst (λ d. let u = option_map_or (with_expiry octets_timed.octets t) d t in ChangesStandIn new.timers u.card.card (marked changes.inside u marks)) is (steps.octets_marked t marks stands k.noted) in
        on_octets x.line (expiry x.timer) (port.expiry x.timer) refl b (on.kind ∙ o) (Noted new marks) (without_first c) (record { timed = after_it.timers_stand; noted = noted_then })
    go kind.Frames o =
        let t : frames_timed.TimedCard = record { card = b.card.card; clock = c } in
        let stands : FramesStand old t = record { card_stands = frames_on old.card b on o; timers_stand = k.timed } in
        let after_it = subst (λ d. FramesStand new (option_map_or (with_expiry frames_timed.frames t) d t)) is (steps.frames t stands) in
        let noted_then = subst (λ d. let u = option_map_or (with_expiry frames_timed.frames t) d t in ChangesStandIn new.timers u.card (marked changes.itself u marks)) is (steps.frames_marked t marks stands k.noted) in
        on_frames x.line (expiry x.timer) (line_event.expiry x.timer) refl b (on.kind ∙ o) (Noted new marks) (without_first c) (record { timed = after_it.timers_stand; noted = noted_then })

-- the time
pub timed_time : (old new : TimedCard) (moment : ℕ) → Steps (time moment) (time moment) old new → (b : machine.Board) → OnBoard old.card b → (c : Clock) (marks : Marks) → ClockStands old.timers b.card.card c marks
    → ClockStands new.timers b.card.card (at_moment moment c) marks
timed_time old new moment steps b on c marks k = go (kind_of old.card) refl
  where
    go : (k : CardKind) → kind_of old.card ≡ k → ClockStands new.timers b.card.card (at_moment moment c) marks
    go kind.Octets o =
        let t : octets_timed.TimedOctetCard = record { card = b.card; clock = c } in
        let stands : OctetsStand old t = record { card_stands = octets_on old.card b on o; timers_stand = k.timed } in
        record { timed = (steps.octets t stands).timers_stand; noted = seen_again moment b.card.card marks old.timers new.timers k.noted (steps.octets_marked t marks stands k.noted) }
    go kind.Frames o =
        let t : frames_timed.TimedCard = record { card = b.card.card; clock = c } in
        let stands : FramesStand old t = record { card_stands = frames_on old.card b on o; timers_stand = k.timed } in
        record { timed = (steps.frames t stands).timers_stand; noted = seen_again moment b.card.card marks old.timers new.timers k.noted (steps.frames_marked t marks stands k.noted) }

-- ---- a setup goes on

-- its configuration stays with an event of a card of frames,
pub frames_config : (line : ℕ) (e : line_event.Event) (old new : AnyCard) → LedByFrames (frame_event.at line e) old new → config_of new ≡ config_of old
frames_config line e (Frames old) (Frames new) leads = leads.config
frames_config line e (Frames old) (Octets new) leads = absurd leads
frames_config line e (Octets old) new leads = absurd leads

-- its card of frames has room for its frames,
module _ (s : rust.Setup) where
  pub room_is : (room : ℕ) → 264 ≤ room → room < room_of s.timed.card → ⊥
  room_is room enough short = absurd (omega (arith, enough, short, (ranges_of s.config s.in_range).n201.most, ap (λ (c : Config). c.n201) s.same_config))

-- and what stands beside the timers.
pub record Else (s : rust.Setup) (m : Setup) : Type 0 where
  pub config : m.board.config ≡ s.config
  pub board : OnBoard s.timed.card m.board
  pub counters : counters_of s.timed.card ≡ m.counters
  pub terminals : Each Sends s.terminals.items m.terminals
  pub listeners : Each Hears s.listeners.items m.taken
  pub losses : m.losses ≡ s.losses

pub else_of : (s : rust.Setup) (m : Setup) → SetupStands s m → Else s m
else_of s m h = record { config = h.config; board = h.board; counters = h.counters; terminals = h.terminals; listeners = h.listeners; losses = h.losses }

-- All but the card, its counters and its timers stays.
module _ (event : Event) (old new : rust.Setup) (leads : Leads event old.timed.card new.timed.card) (config : new.config ≡ old.config)
    (terminals : new.terminals ≡ old.terminals) (listeners : new.listeners ≡ old.listeners) (losses : new.losses ≡ old.losses) (m : Setup) (stands : Else old m) where
  pub goes_on : GoneOn new.timed event m.board m.clock m.marks → SetupStands new (happened m event)
  goes_on timers = record {
    config = stands.config ∙ sym config;
    board = leads.stands m.board stands.board;
    counters = leads.counted m.board stands.board ∙ ap (λ all. counted all event m.board) stands.counters;
    timers = timers;
    terminals = subst (λ ts. Each Sends ts.items m.terminals) (sym terminals) stands.terminals;
    listeners = subst (λ ls. Each Hears ls.items m.taken) (sym listeners) stands.listeners;
    losses = stands.losses ∙ sym losses;
  }

  -- and it has been told
  pub told_on : {E : Type 0} (result : Result Unit E) (a b : Output) (r : Reply) → r ≡ reply event m.board
      → GoneOn new.timed event m.board m.clock m.marks
      → Puts result a b (reply_text old.losses event r) → Tells result a b (SetupStands new) (with_event (scene m) event)
  told_on (Ok x) a b r is timers put = (subst (λ z. IsPut a b (reply_text m.losses event z)) is (subst (λ b'. IsPut a b (reply_text b' event r)) (sym stands.losses) put), goes_on timers)
  told_on (Err x) a b r is timers put = subst (λ z. IsStuck a b (reply_text m.losses event z)) is (subst (λ b'. IsStuck a b (reply_text b' event r)) (sym stands.losses) put)

-- where nothing of it changes, it stands as it did
pub as_before : (s new : rust.Setup) → new.config ≡ s.config → new.timed ≡ s.timed → new.terminals ≡ s.terminals → new.listeners ≡ s.listeners → new.losses ≡ s.losses → (m : Setup) → SetupStands s m → SetupStands new m
as_before s new config timed terminals listeners losses m h = record {
  config = h.config ∙ sym config;
  board = subst (λ (t : TimedCard). OnBoard t.card m.board) (sym timed) h.board;
  counters = subst (λ (t : TimedCard). counters_of t.card ≡ m.counters) (sym timed) h.counters;
  timers = subst (λ (t : TimedCard). ClockStands t.timers m.board.card.card m.clock m.marks) (sym timed) h.timers;
  terminals = subst (λ ts. Each Sends ts.items m.terminals) (sym terminals) h.terminals;
  listeners = subst (λ ls. Each Hears ls.items m.taken) (sym listeners) h.listeners;
  losses = h.losses ∙ sym losses;
}
