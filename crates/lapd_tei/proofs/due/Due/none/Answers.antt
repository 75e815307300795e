-- Hand-written answers for `Due::none`.
use Rattle.lapd_tei.proofs.Vocabulary.{◌≡◌, rules, ◌∙◌, ap, take, replicate, false, take-replicate}
use Rattle.lapd_tei.proofs.due.Due.none.Goals as goal

pub returns : goal.returns
returns c =
    let all : c.from-all.result.items ≡ replicate 8 false = search rules in
    c.truncate.ensures.items ∙ ap (take c.args.places) all ∙ take-replicate c.args.places 8 false c.requires
