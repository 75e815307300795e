-- What becomes of a card's own timers in a call.
use Rattle.lapd_c.proofs.Vocabulary.{◌≡◌, ℕ, ◌<◌, List, [], ◌++◌, ◌∷◌, Option, Some, None, refl, sym, ap, ◌∙◌, subst, OctetCard, AnyStands, Machine, alone, with_ports, card_in, HeldCard, KeptCard, none-some}
use Rattle.std.proofs.Common.{IfSome, Bool, true, false, true≢false, cond, nat_le, option_map}
use Rattle.std.specs.Prelude.{is_some}
use Rattle.std.proofs.lemmas.Bool.{leb-false}
use Rattle.lapd_card.proofs.OneOctet.{IsPassedOn, expiry_passes, meant_is}
use Rattle.lapd_card.specs.Kinds as any
use Rattle.lapd_clock.specs.Timer.{Timer}
use Rattle.lapd_clock.specs.Timers.{Expiry}
use Rattle.lapd_timed.specs.Called.{CalledOfBoth, CalledOfFrames, CalledOfOctets, Went}
use Rattle.lapd_timed.specs.Places.{named_by}
use Rattle.lapd_timed.specs.Stands.{ChangesStandIn, TimersStandIn}
use Rattle.lapd_timed.specs.TimedStands.{FramesStand, OctetsStand, Steps}
use Rattle.lapd_timed.specs.declared.card_timers.CardTimers.{CardTimers}
use Rattle.lapd_timed.specs.declared.timed_card.TimedCard.{TimedCard}
use Rattle.lapd_timed.proofs.Steps.{fell-is}
use Rattle.model_card.specs.Card.{Card}
use Rattle.model_card.specs.Event.{Event, at}
use Rattle.model_card.specs.Machine.{after}
use Rattle.model_card.specs.ports.Card as ports
use Rattle.model_card.specs.ports.Event as octet_event
use Rattle.model_card.specs.ports.Port as port
use Rattle.model_card.specs.ports.Run as octets_run
use Rattle.model_line.specs.Event as line_event
use Rattle.model_line.specs.Event.{expiry}
use Rattle.model_timed.specs.Changes.{Marks, inside, marked, noted}
unfoldable use Rattle.model_timed.specs.Changes.{marks_after}
use Rattle.model_timed.specs.Clock.{Clock, at_moment, due, first_due, first_moment, obeyed, without_first}
use Rattle.model_timed.specs.Frames.{frames, orders_at}
use Rattle.model_timed.specs.Octets as timed_octets
use Rattle.model_timed.specs.Octets.{TimedOctetCard, octets}
use Rattle.model_timed.specs.Timed.{falls_due, happens}
unfoldable use Rattle.model_timed.specs.Timed.{after_all}
use Rattle.model_timed.proofs.OctetsRun.{OctetsMean, octets-mean}
use Rattle.lapd_c.specs.Kept.{CarryOut, CarryOutAll, happen, timers_held}

-- An event that a card of octets passes on is one of the card of frames inside, also to the clock.
passed : {e : port.Event} {f : line_event.Event} → IsPassedOn e f → (line : ℕ) (m : OctetCard) (c : Clock) (P : Card → Clock → Type 0)
    → P (ports.after (octet_event.at line e) m).card (obeyed line (timed_octets.orders_at (octet_event.at line e) m) c) → P (after (at line f) m.card) (obeyed line (orders_at (at line f) m.card) c)
passed {e} {f} passes line m c P p =
    let means = subst (OctetsMean (octet_event.at line e) m) (meant_is passes line m) (octets-mean (octet_event.at line e) m) in
    subst (λ os. P (after (at line f) m.card) (obeyed line os c)) means.1 (subst (λ (x : Card). P x (obeyed line (timed_octets.orders_at (octet_event.at line e) m) c)) means.2 p)

-- A call that is an event of a card of frames, one of a card of octets, or one of either kind.
pub obeys-frames : {e : Event} {a : line_event.Answer} (old new : TimedCard) → CalledOfFrames e a old new → (m : Card) → AnyStands old.card (alone m) → CarryOut e.line (orders_at e m) m (after e m) old.timers new.timers
obeys-frames old new called m on = record {
  there = called.timed;
  timers = λ c stood. (called.after (record { card = m; clock = c }) (record { card_stands = on; timers_stand = stood })).timers_stand;
  noted = λ c marks stood before. called.marked (record { card = m; clock = c }) marks (record { card_stands = on; timers_stand = stood }) before;
}

pub obeys-octets : {e : octet_event.Event} {a : port.Answer} (old new : TimedCard) → CalledOfOctets e a old new → (m : OctetCard) → AnyStands old.card (with_ports m)
    → CarryOut e.line (timed_octets.orders_at e m) m.card (ports.after e m).card old.timers new.timers
obeys-octets old new called m on = record {
  there = called.timed;
  timers = λ c stood. (called.after (record { card = m; clock = c }) (record { card_stands = on; timers_stand = stood })).timers_stand;
  noted = λ c marks stood before. called.marked (record { card = m; clock = c }) marks (record { card_stands = on; timers_stand = stood }) before;
}

pub obeys-both : {e : port.Event} {f : line_event.Event} {a : line_event.Answer} → IsPassedOn e f → (line : ℕ) (old new : TimedCard) → CalledOfBoth (octet_event.at line e) (at line f) a old new → (m : Machine) → AnyStands old.card m
    → CarryOut line (orders_at (at line f) (card_in m)) (card_in m) (after (at line f) (card_in m)) old.timers new.timers
obeys-both passes line old new called (alone m) on = record {
  there = called.timed;
  timers = λ c stood. (called.after.frames (record { card = m; clock = c }) (record { card_stands = on; timers_stand = stood })).timers_stand;
  noted = λ c marks stood before. called.after.frames_marked (record { card = m; clock = c }) marks (record { card_stands = on; timers_stand = stood }) before;
}
obeys-both passes line old new called (with_ports m) on = record {
  there = called.timed;
  timers = λ c stood. passed passes line m c (TimersStandIn new.timers) (called.after.octets (record { card = m; clock = c }) (record { card_stands = on; timers_stand = stood })).timers_stand;
  noted = λ c marks stood before.
      passed passes line m c (λ x k. ChangesStandIn new.timers x (noted k.now x marks)) (called.after.octets_marked (record { card = m; clock = c }) marks (record { card_stands = on; timers_stand = stood }) before);
}

-- ---- octets in turn

abbrev beside : OctetCard → Clock → TimedOctetCard
beside m c = record { card = m; clock = c }

abbrev led_by : List octet_event.Event → TimedOctetCard → TimedOctetCard
led_by events t = timed_octets.after_all (happen events) t

abbrev marks_by : List octet_event.Event → TimedOctetCard → Marks → Marks
marks_by events t marks = marks_after octets inside (happen events) t marks

-- one event more
one-more : (events : List octet_event.Event) (e : octet_event.Event) (t : TimedOctetCard) → led_by (events ++ e ∷ []) t ≡ timed_octets.after (happens e) (led_by events t)
unfolding after_all
one-more [] e t = refl
one-more (x ∷ events) e t = one-more events e (timed_octets.after (happens x) t)

marks-more : (events : List octet_event.Event) (e : octet_event.Event) (t : TimedOctetCard) (marks : Marks)
    → marks_by (events ++ e ∷ []) t marks ≡ marked inside (timed_octets.after (happens e) (led_by events t)) (marks_by events t marks)
unfolding marks_after after_all
marks-more [] e t marks = refl
marks-more (x ∷ events) e t marks = marks-more events e (timed_octets.after (happens x) t) (marked inside (timed_octets.after (happens x) t) marks)

-- the machine is led as it is without a clock
pub led-card : (events : List octet_event.Event) (m : OctetCard) (c : Clock) → (led_by events (beside m c)).card ≡ octets_run.after_all m events
unfolding after_all octets_run.after_all
led-card [] m c = refl
led-card (e ∷ events) m c = led-card events (ports.after e m) (obeyed e.line (timed_octets.orders_at e m) c)

pub none-carried : (m : OctetCard) (timers : Option CardTimers) → CarryOutAll [] m timers timers
unfolding marks_after after_all
none-carried m timers = record { there = refl; timers = λ c stood. stood; noted = λ c marks stood before. before }

pub one-carried : (events : List octet_event.Event) (m : OctetCard) (old : Option CardTimers) (mid new : TimedCard) {e : octet_event.Event} {a : port.Answer} → CarryOutAll events m old mid.timers
    → AnyStands mid.card (with_ports (octets_run.after_all m events)) → CalledOfOctets e a mid new → CarryOutAll (events ++ e ∷ []) m old new.timers
one-carried events m old mid new {e} all on called = record {
  there = called.timed ∙ all.there;
  timers = λ c stood.
      let t = led_by events (beside m c) in
      let is : OctetsStand mid t = record { card_stands = subst (λ (x : OctetCard). AnyStands mid.card (with_ports x)) (sym (led-card events m c)) on; timers_stand = all.timers c stood } in
      subst (λ (u : TimedOctetCard). TimersStandIn new.timers u.card.card u.clock) (sym (one-more events e (beside m c))) (called.after t is).timers_stand;
  noted = λ c marks stood before.
      let t = led_by events (beside m c) in
      let is : OctetsStand mid t = record { card_stands = subst (λ (x : OctetCard). AnyStands mid.card (with_ports x)) (sym (led-card events m c)) on; timers_stand = all.timers c stood } in
      subst (λ (u : TimedOctetCard). ChangesStandIn new.timers u.card.card (marks_by (events ++ e ∷ []) (beside m c) marks)) (sym (one-more events e (beside m c)))
      (subst (λ its. ChangesStandIn new.timers (timed_octets.after (happens e) t).card.card its) (sym (marks-more events e (beside m c) marks)) (called.marked t (marks_by events (beside m c) marks) is (all.noted c marks stood before)));
}

-- the timers of the card that C holds, where it lies
pub all-there : {held : HeldCard} {kept : KeptCard} → held ≡ Some kept → (events : List octet_event.Event) (m : OctetCard) {mid : TimedCard} (new : TimedCard) → new ≡ mid → CarryOutAll events m kept.timed.timers mid.timers
    → CarryOutAll events m (timers_held held) new.timers
all-there {kept = kept} is events m new same h =
    subst (λ timers. CarryOutAll events m timers new.timers) (sym (ap timers_held is)) (subst (λ (t : TimedCard). CarryOutAll events m kept.timed.timers t.timers) (sym same) h)

-- ---- time

-- a card without timers of its own stands for no clock
pub untimed : {X : Type 0} (o : Option CardTimers) → is_some o ≡ false → (m : Card) (c : Clock) → TimersStandIn o m c → X
untimed None none m c stood = absurd stood
untimed (Some t) none m c stood = absurd (true≢false none)

-- the time goes on
pub went : (moment : ℕ) (old new : TimedCard) → Went moment old new → (m : Machine) (c : Clock) → AnyStands old.card m → TimersStandIn old.timers (card_in m) c
    → TimersStandIn new.timers (card_in m) (at_moment moment c) × ((marks : Marks) → ChangesStandIn old.timers (card_in m) marks → ChangesStandIn new.timers (card_in m) (noted moment (card_in m) marks))
went moment old new w (alone m) c on stood =
    let s : FramesStand old (record { card = m; clock = c }) = record { card_stands = on; timers_stand = stood } in
    ((w.after.frames (record { card = m; clock = c }) s).timers_stand, λ marks before. w.after.frames_marked (record { card = m; clock = c }) marks s before)
went moment old new w (with_ports m) c on stood =
    let s : OctetsStand old (beside m c) = record { card_stands = on; timers_stand = stood } in
    ((w.after.octets (beside m c) s).timers_stand, λ marks before. w.after.octets_marked (beside m c) marks s before)

-- and what is due first falls due
pub record Fallen (line : ℕ) (timer : Timer) (m : Machine) (c : Clock) (old new : Option CardTimers) : Type 0 where
  pub timers : TimersStandIn new (card_in (any.after (at line (expiry timer)) m)) (obeyed line (orders_at (at line (expiry timer)) (card_in m)) (without_first c))
  pub noted : (marks : Marks) → ChangesStandIn old (card_in m) marks → ChangesStandIn new (card_in (any.after (at line (expiry timer)) m))
      (noted (obeyed line (orders_at (at line (expiry timer)) (card_in m)) (without_first c)).now (card_in (any.after (at line (expiry timer)) m)) marks)

pub fallen : (line : ℕ) (timer : Timer) (old new : TimedCard) → Steps falls_due falls_due old new → (m : Machine) (c : Clock) → AnyStands old.card m → TimersStandIn old.timers (card_in m) c
    → Some (line, timer) ≡ option_map named_by (due c) → Fallen line timer m c old.timers new.timers
fallen line timer old new steps (alone m) c on stood is =
    let s : FramesStand old (record { card = m; clock = c }) = record { card_stands = on; timers_stand = stood } in
    let fell = fell-is frames (record { card = m; clock = c }) (line, timer) is in record {
      timers = subst (λ u. TimersStandIn new.timers u.card u.clock) fell (steps.frames (record { card = m; clock = c }) s).timers_stand;
      noted = λ marks before. subst (λ u. ChangesStandIn new.timers u.card (noted u.clock.now u.card marks)) fell (steps.frames_marked (record { card = m; clock = c }) marks s before);
    }
fallen line timer old new steps (with_ports m) c on stood is =
    let s : OctetsStand old (beside m c) = record { card_stands = on; timers_stand = stood } in
    let fell = fell-is octets (beside m c) (line, timer) is in record {
      timers = passed (expiry_passes timer) line m (without_first c) (TimersStandIn new.timers) (subst (λ (u : TimedOctetCard). TimersStandIn new.timers u.card.card u.clock) fell (steps.octets (beside m c) s).timers_stand);
      noted = λ marks before.
          passed (expiry_passes timer) line m (without_first c) (λ x k. ChangesStandIn new.timers x (noted k.now x marks))
          (subst (λ (u : TimedOctetCard). ChangesStandIn new.timers u.card.card (noted u.clock.now u.card.card marks)) fell (steps.octets_marked (beside m c) marks s before));
    }

-- where nothing is due, the first timer that runs falls due later
pub due-later : (es : List Expiry) (now : ℕ) → first_due es now ≡ None → IfSome (first_moment es) (λ first. now < first)
due-later [] now none = tt
due-later (e ∷ es) now none = go (nat_le e.moment now) refl none
  where
    go : (b : Bool) → nat_le e.moment now ≡ b → cond b (Some e) None ≡ None → now < e.moment
    go true is none = absurd (none-some e (sym none))
    go false is none = leb-false e.moment now is
