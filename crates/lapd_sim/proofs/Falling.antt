-- What falls due first.
use Rattle.lapd_sim.proofs.Vocabulary.{◌≡◌, ℕ, ◌<◌, ◌≤◌, [], ◌∷◌, List, Option, Some, None, option_map, refl, sym, ap, ◌∙◌, subst, arith, none-some, at, expiry, told_beside, Timer, Expiry, due_by, Setup, happened, at_expiry, SetupStands, HasExpired, AnyLeads, AnyStands, Machine}
use Rattle.std.specs.Prelude.{max, nat_le, cond, false, IfNone}
use Rattle.std.proofs.lemmas.Bool.{le-leb}
use Rattle.std.proofs.lemmas.Bool.Decides.{nat_tests}
use Rattle.std.proofs.lemmas.Option.{same_Some}
use Rattle.lapd_card.specs.Kinds as kinds
use Rattle.lapd_link_steps.specs.declared.report.BareReport.{BareReport}
use Rattle.lapd_timed.specs.Places.{named_by}
use Rattle.lapd_timed.specs.TimedStands.{Steps}
use Rattle.model_card.specs.Event as frame_event
use Rattle.model_line.specs.Event as line_event
use Rattle.model_timed.specs.Clock.{Clock, at_moment, due, next_moment, without_first}
use Rattle.model_timed.specs.Timed.{falls_due}
use Rattle.lapd_sim.specs.machine.Steps.{moment_from}
use Rattle.lapd_sim.proofs.Boards.{expiry_of_both, goes_on, lead_on, says_on, timed_due}
use Rattle.lapd_sim.specs.declared.setup.Setup as rust

-- what holds where there is none
pub none_if : {P : Type 0} (r : Option ℕ) → r ≡ None → P → IfNone r P
none_if None is p = p
none_if (Some x) is p = tt

-- none is due where none runs, or the first is later
pub none_runs : (end : ℕ) (c : Clock) → None ≡ next_moment c → due_by end c ≡ None
none_runs end c = go c.running
  where
    go : (running : List Expiry) → None ≡ next_moment (record c { running = running }) → due_by end (record c { running = running }) ≡ None
    go [] is = refl
    go (e ∷ es) is = absurd (none-some e.moment is)

pub first_later : (end moment : ℕ) (c : Clock) → Some moment ≡ next_moment c → end < moment → due_by end c ≡ None
first_later end moment c is later = go c.running is
  where
    go : (running : List Expiry) → Some moment ≡ next_moment (record c { running = running }) → due_by end (record c { running = running }) ≡ None
    go [] is = refl
    go (e ∷ es) is =
        let same = same_Some moment e.moment is in
        let test : nat_le e.moment end ≡ false = grind (arith, nat_tests) in
        ap (λ b. cond b (Some (e.line, e.timer)) None) test

-- else the first is due once its moment has come
pub record IsFirstDue (end moment : ℕ) (c : Clock) (x : Expiry) : Type 0 where
  pub due_then : due (at_moment (max c.now moment) c) ≡ Some x
  pub due_by_end : due_by end c ≡ Some (x.line, x.timer)

pub first_due : (end moment : ℕ) (c : Clock) → Some moment ≡ next_moment c → moment ≤ end → (x : Expiry) × IsFirstDue end moment c x
first_due end moment c is soon = go c.running is
  where
    go : (running : List Expiry) → Some moment ≡ next_moment (record c { running = running }) → (x : Expiry) × IsFirstDue end moment (record c { running = running }) x
    go [] is = absurd (none-some moment (sym is))
    go (e ∷ es) is =
        let same = same_Some moment e.moment is in (
          e,
          record {
            due_then = ap (λ b. cond b (Some e) None) (le-leb e.moment (max c.now moment) (omega (arith, same)));
            due_by_end = ap (λ b. cond b (Some (e.line, e.timer)) None) (le-leb e.moment end (omega (arith, same, soon)));
          },
        )

-- it does fall due then
pub falls_then : (end moment : ℕ) (c : Clock) → Some moment ≡ next_moment c → moment ≤ end → None ≡ option_map named_by (due (at_moment (max c.now moment) c)) → ⊥
falls_then end moment c is soon none =
    let x = first_due end moment c is soon in
    none-some (named_by x.0) (none ∙ ap (option_map named_by) x.1.due_then)

module _ (s then new : rust.Setup) (end moment line : ℕ) (timer : Timer) (report : BareReport) (m : Setup) (is : Some moment ≡ next_moment m.clock) (soon : moment ≤ end)
    (h : SetupStands then (record m { clock = at_moment (max m.clock.now moment) m.clock })) (due_is : Some (line, timer) ≡ option_map named_by (due (at_moment (max m.clock.now moment) m.clock)))
    (says : (n : Machine) → AnyStands then.timed.card n → line_event.told (told_beside None report) ≡ kinds.answer (frame_event.at line (line_event.expiry timer)) n)
    (leads : AnyLeads (frame_event.at line (line_event.expiry timer)) then.timed.card new.timed.card) (steps : Steps falls_due falls_due then.timed new.timed)
    (config : new.config ≡ then.config) (terminals : new.terminals ≡ then.terminals) (listeners : new.listeners ≡ then.listeners) (losses : new.losses ≡ then.losses) where
  x : (x : Expiry) × IsFirstDue end moment m.clock x
  x = first_due end moment m.clock is soon

  named : ◌≡◌ {A = ℕ × Timer} (x.0.line, x.0.timer) (line, timer)
  named = sym (same_Some (line, timer) (named_by x.0) (due_is ∙ ap (option_map named_by) x.1.due_then))

  abbrev at_it : Setup
  at_it = record m { clock = at_moment (max m.clock.now moment) m.clock }

  expired_is : at_expiry m ≡ record m { clock = without_first at_it.clock }
  expired_is = ap (λ (n : Option ℕ). record m { clock = without_first (at_moment (moment_from m.clock.now n) m.clock) }) (sym is)

  pub has_expired : HasExpired end line report new m
  has_expired = record {
    timer = timer;
    due = x.1.due_by_end ∙ ap Some named;
    says = says_on (expiry_of_both timer) line then.timed.card m.board h.board (line_event.told (told_beside None report)) refl says;
    stands =
        subst (λ (n : Setup). SetupStands new (happened n (at line (expiry timer)))) (sym expired_is)
        (goes_on (at line (expiry timer)) then new (lead_on (expiry_of_both timer) line then.timed.card new.timed.card leads) config terminals listeners losses
        (record m { clock = without_first at_it.clock })
        (record { config = h.config; board = h.board; counters = h.counters; terminals = h.terminals; listeners = h.listeners; losses = h.losses })
        (timed_due then.timed new.timed steps m.board h.board at_it.clock m.marks h.timers (record x.0 { line = line; timer = timer })
        (x.1.due_then ∙ ap (λ (p : ℕ × Timer). Some (record x.0 { line = p.0; timer = p.1 })) named)));
  }
