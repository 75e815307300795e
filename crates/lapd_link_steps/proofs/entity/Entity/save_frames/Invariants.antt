-- The invariants of the loops of `Entity::save_frames`.
use Rattle.std.proofs.Common.{take}
use Rattle.std.specs.Prelude.{flat_map}
use Rattle.lapd_image.specs.Puts.{Puts}
use Rattle.model_link.specs.Image.{control_frame}
use Rattle.lapd_link_steps.proofs.entity.Entity.save_frames.Given as goal

abbrev pub invariant-loop-place : goal.invariant-loop-place
invariant-loop-place l = Puts (flat_map control_frame (take l.place l.self.waiting.items)) l.fn.at l.fn.out l.end l.out
