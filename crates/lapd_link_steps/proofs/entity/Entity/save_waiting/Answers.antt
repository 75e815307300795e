-- How many frames wait, and then these.
use Rattle.std.proofs.Common.{◌∷◌, ap}
use Rattle.std.specs.Prelude.{flat_map}
use Rattle.lapd_image.proofs.Puts.{puts-same, puts-then}
use Rattle.lapd_link_steps.proofs.entity.Entity.save_waiting.Goals as goal
use Rattle.model_link.specs.Image.{control_frame}

pub returns : goal.returns
returns c = puts-same (ap (λ n. n ∷ flat_map control_frame c.args.self.now.waiting.items) c.len.ensures.len) (puts-then c.put_octet-at.ensures c.save_frames.ensures)
