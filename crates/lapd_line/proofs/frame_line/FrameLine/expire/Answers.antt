-- Hand-written answers for `FrameLine::expire`.
use Rattle.lapd_line.proofs.Vocabulary.{None, told_beside, config_of}
use Rattle.lapd_line.proofs.AnswerLaws.{starts_one}
use Rattle.lapd_line.proofs.LineSteps.{expired, expiry_told}
use Rattle.lapd_line.proofs.frame_line.FrameLine.expire.Goals as goal

pub returns-clause-told : goal.returns-clause-told
returns-clause-told g c = λ others m st. expiry_told c.args.timer c.expire.ensures others m st.layer

pub returns-clause-starts : goal.returns-clause-starts
returns-clause-starts g c =
    let (others, m, st) = c.requires.stands in
    starts_one (config_of c.args.self.now) c.args.timer m (told_beside None c.expire.new.report) (expiry_told c.args.timer c.expire.ensures others m st.layer)

pub returns-clause-after : goal.returns-clause-after
returns-clause-after g c = expired c.args.timer c.expire.ensures c.count.ensures.counted
