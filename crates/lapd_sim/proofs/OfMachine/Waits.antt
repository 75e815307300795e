-- A wait leaves nothing that is due.
use Rattle.lapd_sim.proofs.OfMachine.Vocabulary.{◌≡◌, ℕ, ◌+◌, ◌<◌, None, refl, arith, All-from_recursion, IsInOrder, AreInRange, is_before, due_by, time_until, Scene, after_wait, AllLater, WaitsLeaveNothingDue}
use Rattle.lapd_sim.proofs.OfMachine.Events.{script_ran}
use Rattle.lapd_sim.proofs.OfMachine.Expiries.{drained}
use Rattle.lapd_sim.proofs.OfMachine.Kept.{wait_sorts, none_later}

none_due : (milliseconds : ℕ) (s : Scene) → AreInRange s.setup.clock.lengths → due_by (s.setup.clock.now + milliseconds) (after_wait milliseconds s).setup.clock ≡ None
none_due milliseconds s range = drained (time_until (s.setup.clock.now + milliseconds) s.setup.clock) (s.setup.clock.now + milliseconds) s (due_by (s.setup.clock.now + milliseconds) s.setup.clock) range refl (omega arith)

all_later : (milliseconds : ℕ) (s : Scene) → AreInRange s.setup.clock.lengths → IsInOrder is_before s.setup.clock.running → AllLater (s.setup.clock.now + milliseconds) (after_wait milliseconds s).setup
all_later milliseconds s range order =
    let end = s.setup.clock.now + milliseconds in
    none_later _ end (wait_sorts (time_until end s.setup.clock) end s order) (none_due milliseconds s range)

pub waits_leave_nothing_due : WaitsLeaveNothingDue
waits_leave_nothing_due = record {
  ends = λ milliseconds s. refl;
  none_due = none_due;
  all_later = all_later;
  of_scripts = λ text setup there. All-from_recursion (λ held. setup.clock.now < held.moment) setup.clock.running (script_ran text setup there).kept.later;
}
