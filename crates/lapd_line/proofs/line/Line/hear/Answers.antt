-- Hand-written answers for `Line::hear`.
use Rattle.lapd_line.proofs.Vocabulary.{sym, ◌∙◌}
use Rattle.lapd_line.proofs.OctetSteps.{octet_leads}
use Rattle.lapd_line.proofs.line.Line.hear.Goals as goal

pub returns-clause-after : goal.returns-clause-after
returns-clause-after g c =
    octet_leads _ (λ n201 p st. c.octet.ensures.gained n201 p st ∙ sym c.latest.ensures) c.octet.ensures.after c.heard.ensures.after
