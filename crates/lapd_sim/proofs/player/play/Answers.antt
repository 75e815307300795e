-- Hand-written answers for `play`.
use Rattle.lapd_sim.proofs.Vocabulary.{ap, sym, subst, ◌∙◌, AreLeft, on, rules, Plays}
use Rattle.lapd_sim.proofs.Ending.{same_target}
use Rattle.lapd_sim.proofs.player.play.Goals as goal

pub returns-clause-played : goal.returns-clause-played
returns-clause-played g c = λ text left.
    let begun = subst (λ r. AreLeft c.in_ok-lines.lines r text) (sym left) (c.in_ok-lines.ensures.left text) in
    let ended = c.end.ensures.played (on g.T.Target.taken c.new-page.result) text (g.S.Source.remaining c.play-played.new.source) (ap (λ o. o.page) c.new-page.ensures.empty) c.play-played.ensures.put (c.play-played.ensures.played text begun) in
    let taken = ap (λ o. o.taken) c.new-page.ensures.empty in
    let told = subst (λ a. Plays c.end.result text (g.S.Source.remaining c.play-played.new.source) a (on g.T.Target.taken c.end.new.page).taken) taken ended in
    let same = c.end.ensures.same ∙ same_target c.play-played.result _ _ c.play-played.ensures.put ∙ ap (λ o. o.name) c.new-page.ensures.empty in
    let lent = c.target-1.given.1 (sym same) in
    search (rules, told, lent)
