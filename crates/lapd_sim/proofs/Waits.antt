-- What has been written, and what a setup stands for, while it waits.
use Rattle.lapd_sim.proofs.Vocabulary.{◌≡◌, ℕ, Option, ◌+◌, ◌-◌, ◌^◌, ◌<◌, ◌≤◌, arith, none-some, orders_in, List, [], ◌∷◌, ◌++◌, Some, None, Ok, Err, refl, sym, ap, ◌∙◌, subst, at, expiry, reply, told_beside, told_text, AreInRange, Expiry, due_by, time_until, Setup, Scene, reply_text, at_expiry, happened, expired, until, scene, Tells, SetupStands, HasExpired, puts_nothing, puts_then}
use Rattle.lapd_sim.proofs.Vocabulary.{stuck_more}
use Rattle.lapd_sim.proofs.Vocabulary.{Output, IsPut}
use Rattle.lapd_sim.proofs.Vocabulary.{IsStuck, Puts, WriteFailed, expiry_lowers, until-expired, until-over, text_grows}
use Rattle.std.specs.List.{sum_by}
use Rattle.lapd_link_steps.specs.declared.report.BareReport.{BareReport}
use Rattle.lapd_clock.specs.OwnPlaces.{timers_in}
use Rattle.lapd_timed.specs.Stands.{TimersStandIn}
use Rattle.lapd_timed.specs.declared.card_timers.CardTimers.{CardTimers}
use Rattle.model_card.specs.Card.{Card}
use Rattle.model_timed.specs.Clock.{at_moment, Clock}
use Rattle.model_timed.proofs.Orders.{now-stays}
use Rattle.lapd_sim.proofs.OfMachine.Expiries.{first_is_due}
use Rattle.lapd_sim.specs.declared.setup.Setup as rust

-- From a setup, some timers have expired, and what they say has been written; what falls due until the end is the same.
pub record Waits (s : rust.Setup) (before after : Output) (end : ℕ) (m : Setup) : Type 0 where
  pub by_now : Scene
  pub written : IsPut before after by_now.text
  pub stands : SetupStands s by_now.setup
  pub same : until end (scene m) ≡ until end by_now

pub waits_begins : (s : rust.Setup) (t : Output) (end : ℕ) (m : Setup) → SetupStands s m → Waits s t t end m
waits_begins s t end m h = record {
  by_now = scene m;
  written = puts_nothing t;
  stands = h;
  same = refl;
}

-- its timers run a millisecond at least
in_range : (s : rust.Setup) (m : Setup) → SetupStands s m → AreInRange m.clock.lengths
in_range s m h = go s.timed.timers h.timers.timed
  where
    go : (kept : Option CardTimers) → TimersStandIn kept m.board.card.card m.clock → AreInRange m.clock.lengths
    go None stood = absurd stood
    go (Some timers) stood = stood.clock_is.within_hour.lengths

-- and its moment is one that may be told
pub in_time : (s : rust.Setup) (m : Setup) → SetupStands s m → m.clock.now < 2 ^ 63
in_time s m h = go s.timed.timers h.timers.timed
  where
    go : (kept : Option CardTimers) → TimersStandIn kept m.board.card.card m.clock → m.clock.now < 2 ^ 63
    go None stood = absurd stood
    go (Some timers) stood = subst (λ n. n < 2 ^ 63) (sym stood.clock_is.now) timers.in_time

module _ (s new : rust.Setup) (before after last : Output) (end line : ℕ) (report : BareReport) (m : Setup) (w : Waits s before after end m) (x : HasExpired end line report new w.by_now.setup) where
  abbrev said_then : List ℕ
  said_then = reply_text w.by_now.setup.losses (at line (expiry x.timer)) (reply (at line (expiry x.timer)) w.by_now.setup.board)

  -- so it is said where it is shown as the setup has it
  as_said : (P : List ℕ → Type 0) → P (told_text new.losses line None (told_beside None report)) → P said_then
  as_said P put =
      subst (λ r. P (reply_text w.by_now.setup.losses (at line (expiry x.timer)) r)) x.says
      (subst (λ b. P (told_text b line None (told_beside None report))) (sym x.stands.losses) put)

  range : AreInRange w.by_now.setup.clock.lengths
  range = in_range s w.by_now.setup w.stands

  pub waits_on : (u : Unit {0}) → Puts {E = WriteFailed} (Ok u) after last (told_text new.losses line None (told_beside None report)) → Waits new before last end m
  waits_on u put = record {
    by_now = expired line x.timer w.by_now;
    written = puts_then (Ok u) before after last w.by_now.text said_then w.written (as_said (IsPut after last) put);
    stands = x.stands;
    same = w.same ∙ until-expired end w.by_now (line, x.timer) range x.due;
  }

  pub waits_in_vain : (why : WriteFailed) → Puts {A = Unit {0}} (Err why) after last (told_text new.losses line None (told_beside None report)) → IsStuck before last (until end (scene m)).text
  waits_in_vain why stuck =
      let next = expired line x.timer w.by_now in
      let later = text_grows (time_until end next.setup.clock) end next (due_by end next.setup.clock) refl in
      let whole : (until end (scene m)).text ≡ next.text ++ later.0 = ap (λ (x : Scene). x.text) (w.same ∙ until-expired end w.by_now (line, x.timer) range x.due) ∙ later.1 in
      subst (IsStuck before last) (sym whole)
      (stuck_more before last next.text later.0 (puts_then (Err why) before after last w.by_now.text said_then w.written (as_said (IsStuck after last) stuck)))

-- at the end, the moment is the end
pub waits_over : (s new : rust.Setup) (before after : Output) (end : ℕ) (m : Setup) (w : Waits s before after end m) → due_by end w.by_now.setup.clock ≡ None
    → SetupStands new (record w.by_now.setup { clock = at_moment end w.by_now.setup.clock }) → Tells {E = WriteFailed} (Ok tt) before after (SetupStands new) (until end (scene m))
waits_over s new before after end m w none stands =
    subst (Tells {E = WriteFailed} (Ok tt) before after (SetupStands new)) (sym (w.same ∙ until-over end w.by_now none)) (w.written, stands)

-- with each expiry, the time that is left falls
abbrev pub time_left : ℕ → Option CardTimers → ℕ
time_left end None = 0
time_left end (Some timers) = sum_by (λ e. end + 1 - e.moment) (timers_in timers.moments)

left-is : (end : ℕ) (kept : Option CardTimers) (card : Card) (clock : Clock) → TimersStandIn kept card clock → time_until end clock ≡ time_left end kept
left-is end None card clock stood = absurd stood
left-is end (Some timers) card clock stood = ap (sum_by (λ (e : Expiry). end + 1 - e.moment)) stood.clock_is.running

pub falls : (s new : rust.Setup) (end line : ℕ) (report : BareReport) (m : Setup) → SetupStands s m → HasExpired end line report new m → time_left end new.timed.timers < time_left end s.timed.timers
falls s new end line report m h x =
    let next = happened (at_expiry m) (at line (expiry x.timer)) in
    subst (λ n. n < time_left end s.timed.timers) (left-is end new.timed.timers next.board.card.card next.clock x.stands.timers.timed)
    (subst (λ n. time_until end next.clock < n) (left-is end s.timed.timers m.board.card.card m.clock h.timers.timed)
    (expiry_lowers end line x.timer (line, x.timer) m (in_range s m h) x.due))

-- and the moment is no later than the end
pub still_before : (s new : rust.Setup) (end line : ℕ) (report : BareReport) (m : Setup) → m.clock.now ≤ end → (x : HasExpired end line report new m) → (happened (at_expiry m) (at line (expiry x.timer))).clock.now ≤ end
still_before s new end line report m before x =
    subst (λ n. n ≤ end) (sym (now-stays line (at_expiry m).clock (orders_in (reply (at line (expiry x.timer)) m.board)))) (go m.clock.running (x.due))
  where
    go : (running : List Expiry) → due_by end (record m.clock { running = running }) ≡ Some (line, x.timer) → (at_expiry (record m { clock = record m.clock { running = running } })).clock.now ≤ end
    go [] is = absurd (none-some (line, x.timer) is)
    go (e ∷ es) is = omega (arith, before, first_is_due e es end (line, x.timer) is)
