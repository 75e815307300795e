-- The invariants of the loops of `Entity::restore_waiting`.
use Rattle.std.proofs.Common.{◌≡◌, length}
use Rattle.std.specs.Prelude.{flat_map}
use Rattle.lapd_image.specs.Reads.{IsReadAs}
use Rattle.lapd_link_steps.specs.Image.{AreWaiting}
use Rattle.lapd_link_steps.proofs.entity.Entity.restore_waiting.Given as goal
use Rattle.model_link.specs.Image.{control_frame}

abbrev pub invariant-loop : goal.invariant-loop
invariant-loop l = record {
  count : length l.self.waiting.items ≡ l.counter;
  ring : l.self.waiting.capacity ≡ l.initial.self.waiting.capacity;
  kept : l.self ≡ record l.initial.self { waiting = l.self.waiting };
  read : IsReadAs (flat_map control_frame) (AreWaiting l.initial.self.waiting.capacity) l.self.waiting.items l.initial.reader l.reader;
}
