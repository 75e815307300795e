-- Hand-written answers for `save_running`.
use Rattle.std.proofs.Common.{◌∷◌, Some, ap, sym, ◌∙◌}
use Rattle.lapd_image.specs.Numbers.{number}
use Rattle.lapd_image.proofs.Puts.{puts-same, puts-then}
use Rattle.model_teis.specs.terminal.Image.{procedure}
use Rattle.lapd_tei.proofs.terminal.procedure.saved.save_running.Goals as goal

pub returns-in-Asking : goal.returns-in-Asking
returns-in-Asking c =
    puts-same (ap (λ ri. 1 ∷ c.in-Asking.attempts ∷ number 2 ri) c.from.ensures ∙ sym (ap (λ own. procedure (Some own)) c.in-Asking.is))
    (puts-then c.put_octets-end.ensures c.put_number.ensures)
