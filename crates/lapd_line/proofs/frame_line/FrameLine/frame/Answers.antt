-- Hand-written answers for `FrameLine::frame`.
use Rattle.lapd_line.proofs.Vocabulary.{ap, sym, subst, ◌∙◌, told, told_in, LeadsIfHeard, answer_if_heard, config_of}
use Rattle.lapd_line.specs.Reports.{octets_of}
use Rattle.lapd_line.proofs.frame_line.FrameLine.frame.Goals as goal

pub returns-clause-told : goal.returns-clause-told
returns-clause-told g c = λ others m st.
    ap (λ h. told (told_in (octets_of h) c.heard-2.new.report)) (sym c.came-2.ensures)
    ∙ c.heard-2.ensures.told others m st
    ∙ ap (λ h. answer_if_heard (config_of c.args.self.now) h m) c.came-2.ensures

pub returns-clause-after : goal.returns-clause-after
returns-clause-after g c =
    subst (λ h. LeadsIfHeard h c.args.self.now (g.S.Shelf.store c.args.shelf.now) c.heard-2.new.self (g.S.Shelf.store c.heard-2.new.shelf)) c.came-2.ensures c.heard-2.ensures.after

pub heard-requires : goal.heard-requires
heard-requires g c = record { clear = c.requires.clear; stands = c.requires.stands }

pub heard-requires-2 : goal.heard-requires-2
heard-requires-2 g c = record { clear = c.requires.clear; stands = c.requires.stands }

pub returns-in-1-clause-told : goal.returns-in-1-clause-told
returns-in-1-clause-told g c = λ others m st.
    ap (λ h. told (told_in (octets_of h) c.heard.new.report)) (sym c.came.ensures)
    ∙ c.heard.ensures.told others m st
    ∙ ap (λ h. answer_if_heard (config_of c.args.self.now) h m) c.came.ensures

pub returns-in-1-clause-after : goal.returns-in-1-clause-after
returns-in-1-clause-after g c =
    subst (λ h. LeadsIfHeard h c.args.self.now (g.S.Shelf.store c.args.shelf.now) c.heard.new.self (g.S.Shelf.store c.heard.new.shelf)) c.came.ensures c.heard.ensures.after

pub returns-in-1-clause-quiet : goal.returns-in-1-clause-quiet
returns-in-1-clause-quiet g c = c.heard.ensures.quiet

pub returns-clause-quiet : goal.returns-clause-quiet
returns-clause-quiet g c = c.heard-2.ensures.quiet
