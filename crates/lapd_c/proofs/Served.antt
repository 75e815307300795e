-- What a report shows is what the machine answers, and a call is served.
use Rattle.lapd_c.proofs.Vocabulary.{◌≡◌, ◌≤◌, length, Option, IfSome, sym, ap, ◌∙◌, subst, arith, LineTold, told, IsInRange, ranges_of, Card, Event, answer, OctetCard, PlainReport, Shows, contents_or_none, ShowsAnswer, ShowsReply, contents_in, KeptCard, Octets, Frames, HeldCard, Machine, with_ports, alone, AnyStands, FrameCardStands, AnyCard, none-some, moment_counted, moment_of}
use Rattle.std.proofs.Common.{Some, Bool, true, false, List, ℕ, ◌<◌, refl, None, option_map}
use Rattle.std.specs.Option.{unwrap_or}
use Rattle.std.specs.Prelude.{is_some}
use Rattle.lapd_card.proofs.OneOctet.{IsPassedOn}
use Rattle.lapd_card.specs.Kinds.{after as any_after, card_in, counters_of, frames_of}
use Rattle.lapd_card.specs.Stands.{meaning_counted}
use Rattle.lapd_clock.specs.Timer.{Timer}
use Rattle.lapd_clock.specs.Timers.{Expiry}
use Rattle.lapd_frame.specs.declared.timers.Order.{Order}
use Rattle.lapd_timed.specs.Called.{keeps_timers, CalledOfBoth, CalledOfFrames, CalledOfOctets}
use Rattle.lapd_timed.specs.Places.{named_by}
use Rattle.lapd_timed.specs.declared.timed_card.TimedCard.{TimedCard}
use Rattle.lapd_timed.proofs.Led.{frames-led, octets-led}
use Rattle.model_card.specs.Event.{at}
use Rattle.model_card.specs.Machine.{after}
use Rattle.model_card.specs.ports.Card as octet_card
use Rattle.model_card.specs.ports.Event as octet_event
use Rattle.model_card.specs.ports.Port as port
use Rattle.model_line.specs.Event as line_event
use Rattle.model_timed.specs.Changes.{Marks}
use Rattle.model_timed.specs.Clock.{Clock}
use Rattle.model_timed.specs.Frames.{orders_at}
use Rattle.model_timed.specs.Octets as timed_octets
use Rattle.lapd_c.specs.declared.card.CardHandle.{CardHandle}
use Rattle.lapd_c.specs.CalledBy.{at_port, inside, Happening, Served, Shown}
use Rattle.lapd_c.specs.Cards.{card_of, HandleStands, StandsIn}
use Rattle.lapd_c.specs.Counted.{counters_at, counters_held}
use Rattle.lapd_c.specs.FallsDue.{FellDue}
use Rattle.lapd_c.specs.Kept.{CarryOut, ChangesStandIn, TimersStandIn, is_timed, reply_seen_by, timers_held, timers_of}
use Rattle.lapd_c.specs.Statuses as status
use Rattle.lapd_c.proofs.Contents.{contents_fit, contents_told, replies_fit}
use Rattle.lapd_c.proofs.Timing.{obeys-both, obeys-frames, obeys-octets}

-- the card that C holds, where it lies; and its timers
pub there : {held : HeldCard} {kept : KeptCard} → held ≡ Some kept → (m : Machine) → StandsIn held m → AnyStands kept.timed.card m
there is m s = subst (λ h. StandsIn h m) is s

pub timers_there : {held : HeldCard} {kept : KeptCard} → held ≡ Some kept → (m : Card) (c : Clock) → TimersStandIn (timers_held held) m c → TimersStandIn kept.timed.timers m c
timers_there is m c s = subst (λ timers. TimersStandIn timers m c) (ap timers_held is) s

pub marks_there : {held : HeldCard} {kept : KeptCard} → held ≡ Some kept → (m : Card) (marks : Marks) → ChangesStandIn (timers_held held) m marks → ChangesStandIn kept.timed.timers m marks
marks_there is m marks s = subst (λ timers. ChangesStandIn timers m marks) (ap timers_held is) s

-- of either kind, the card of frames
pub frames_stand : (card : AnyCard) (m : Machine) → AnyStands card m → FrameCardStands (frames_of card) (card_in m)
frames_stand (Octets c) (with_ports m) s = s.frames
frames_stand (Octets c) (alone m) s = absurd s
frames_stand (Frames c) (with_ports m) s = absurd s
frames_stand (Frames c) (alone m) s = s

-- its line is one of the card then
pub still_within : (line : ℕ) (e : Event) (m : Machine) → line < (card_in m).config.lines → line < (card_in (any_after e m)).config.lines
still_within line e (with_ports m) within = within
still_within line e (alone m) within = within

-- what is due first, by its name
if_due : (o : Option Expiry) (p : ℕ × Timer) → Some p ≡ option_map named_by o → (Q : ℕ → Timer → Type 0) → Q p.0 p.1 → IfSome o (λ x. Q x.line x.timer)
if_due None p e Q q = absurd (none-some p (sym e))
if_due (Some x) p e Q q = subst (λ (y : ℕ × Timer). Q y.0 y.1) (ap (λ o. unwrap_or o p) e) q

pub if_fell : (now : ℕ) (o : Option Expiry) (p : ℕ × Timer) → Some p ≡ option_map named_by o → (m : Machine) (c : Clock) (old new : CardHandle) (result : ℕ) (r : PlainReport)
    → FellDue now p.0 p.1 m c old new result r → IfSome o (λ x. FellDue now x.line x.timer m c old new result r)
if_fell now o p e m c old new result r fell = if_due o p e (λ l x. FellDue now l x m c old new result r) fell

pub none_due : (o : Option Expiry) → None ≡ option_map named_by o → o ≡ None
none_due None e = refl
none_due (Some x) e = absurd (none-some (named_by x) e)

-- What C holds after a call: a call is served that is an event of a card of frames, one of a card of octets, or one of either kind.
module _ (old new : CardHandle) {kept now : KeptCard} (is : card_of old ≡ Some kept) (be : card_of new ≡ Some now) (timed : TimedCard) (same : now.timed ≡ timed) (r : PlainReport) where
  stands_then : (m : Machine) → AnyStands timed.card m → HandleStands new m
  stands_then m on = subst (λ held. StandsIn held m) (sym be) (subst (λ (t : TimedCard). AnyStands t.card m) (sym same) on)

  counted_then : counters_at new ≡ counters_of timed.card
  counted_then = ap counters_held be ∙ ap (λ (t : TimedCard). counters_of t.card) same

  carried_then : (line : ℕ) (orders : List Order) (m m' : Card) → CarryOut line orders m m' kept.timed.timers timed.timers → CarryOut line orders m m' (timers_of old) (timers_of new)
  carried_then line orders m m' h =
      subst (λ timers. CarryOut line orders m m' timers (timers_of new)) (sym (ap timers_held is))
      (subst (λ timers. CarryOut line orders m m' kept.timed.timers timers) (sym (ap timers_held be ∙ ap (λ (t : TimedCard). t.timers) same)) h)

  shown_then : (e : Happening) (m : Machine) → keeps_timers timed ≡ keeps_timers kept.timed → Shown (keeps_timers timed) e m r → Shown (is_timed old) e m r
  shown_then e m alike shown = subst (λ own. Shown own e m r) (alike ∙ sym (ap (λ held. is_some (timers_held held)) is)) shown

  pub served_frames : {e : Event} {a : line_event.Answer} → CalledOfFrames e a kept.timed timed → (m : Card) → AnyStands kept.timed.card (alone m) → Shown (keeps_timers timed) (inside e) (alone m) r → Served (inside e) (alone m) old new status.ok r
  served_frames {e} called m on shown =
      let led = frames-led e kept.timed.card timed.card called.leads in record {
        ok = refl;
        stands = stands_then (alone (after e m)) (led.stands m on);
        shown = shown_then (inside e) (alone m) called.timed shown;
        obeyed = carried_then e.line (orders_at e m) m (after e m) (obeys-frames kept.timed timed called m on);
        counted = counted_then ∙ led.counted m on ∙ ap (λ all. moment_counted all (moment_of m e)) (sym (ap counters_held is));
      }

  pub served_octets : {e : octet_event.Event} {a : port.Answer} → CalledOfOctets e a kept.timed timed → (m : OctetCard) → AnyStands kept.timed.card (with_ports m) → Shown (keeps_timers timed) (at_port e) (with_ports m) r
      → Served (at_port e) (with_ports m) old new status.ok r
  served_octets {e} called m on shown =
      let led = octets-led e kept.timed.card timed.card called.leads in record {
        ok = refl;
        stands = stands_then (with_ports (octet_card.after e m)) (led.stands m on);
        shown = shown_then (at_port e) (with_ports m) called.timed shown;
        obeyed = carried_then e.line (timed_octets.orders_at e m) m.card (octet_card.after e m).card (obeys-octets kept.timed timed called m on);
        counted = counted_then ∙ led.counted m on ∙ ap (λ all. meaning_counted all m e) (sym (ap counters_held is));
      }

  pub served_both : {e : port.Event} {f : line_event.Event} {a : line_event.Answer} → IsPassedOn e f → (line : ℕ) → CalledOfBoth (octet_event.at line e) (at line f) a kept.timed timed → (m : Machine) → AnyStands kept.timed.card m
      → Shown (keeps_timers timed) (inside (at line f)) m r → Served (inside (at line f)) m old new status.ok r
  served_both {f = f} passes line called m on shown = record {
    ok = refl;
    stands = stands_then (any_after (at line f) m) (called.leads.stands m on);
    shown = shown_then (inside (at line f)) m called.timed shown;
    obeyed = carried_then line (orders_at (at line f) (card_in m)) (card_in m) (after (at line f) (card_in m)) (obeys-both passes line kept.timed timed called m on);
    counted = counted_then ∙ called.leads.counted m on ∙ ap (λ all. moment_counted all (moment_of (card_in m) (at line f))) (sym (ap counters_held is));
  }

-- nothing is shown, with orders or without
pub nothing_shown : (timed : Bool) (new : PlainReport) (a : port.Answer) → port.told line_event.nothing ≡ a → ShowsReply new (port.told line_event.nothing) → ShowsReply new (reply_seen_by timed a)
nothing_shown true new a is s = subst (λ a. ShowsReply new (reply_seen_by true a)) is s
nothing_shown false new a is s = subst (λ a. ShowsReply new (reply_seen_by false a)) is s

-- contents of an answer have room in a report
small : (m : Card) (e : Event) (t : LineTold) → IsInRange m.config → told t ≡ answer e m → length (contents_or_none t.contents) ≤ 260
small m e t ranges is =
    let fits : length (contents_or_none (contents_in (told t))) ≤ m.config.n201 = subst (λ a. length (contents_or_none (contents_in a)) ≤ m.config.n201) (sym is) (contents_fit m e) in
    let most : m.config.n201 ≤ 260 = (ranges_of m.config ranges).n201.most in
    omega arith

pub small_reply : (m : OctetCard) (e : octet_event.Event) (t : LineTold) → IsInRange m.card.config → port.told t ≡ octet_card.answer e m → length (contents_or_none t.contents) ≤ 260
small_reply m e t ranges is =
    let fits : length (contents_or_none (contents_told (port.told t))) ≤ m.card.config.n201 = subst (λ a. length (contents_or_none (contents_told a)) ≤ m.card.config.n201) (sym is) (replies_fit m e) in
    let most : m.card.config.n201 ≤ 260 = (ranges_of m.card.config ranges).n201.most in
    omega arith

-- so what the card tells is shown whole
pub shown_told : (m : Card) (e : Event) (t : LineTold) (p : PlainReport) → IsInRange m.config → told t ≡ answer e m
    → (length (contents_or_none t.contents) ≤ 260 → Shows p t) → ShowsAnswer p (answer e m)
shown_told m e t p ranges is h = subst (ShowsAnswer p) is (h (small m e t ranges is))

-- and what it tells of octets
pub shown_reply : (m : OctetCard) (e : octet_event.Event) (t : LineTold) (p : PlainReport) → IsInRange m.card.config → port.told t ≡ octet_card.answer e m
    → (length (contents_or_none t.contents) ≤ 260 → Shows p t) → ShowsReply p (octet_card.answer e m)
shown_reply m e t p ranges is h = subst (ShowsReply p) is (h (small_reply m e t ranges is))
