-- Hand-written answers for `FrameLine::heard`.
use Rattle.lapd_line.proofs.Vocabulary.{◌≡◌, true, inl, inr, ap, ◌∙◌, is_some, config_of, bare_shown, heard_shown, with_all, heard_of}
use Rattle.lapd_line.proofs.LineSteps.{counted_twice, heard_told, heard_leads}
use Rattle.lapd_line.proofs.frame_line.FrameLine.heard.Goals as goal

pub returns-in-Dropped-clause-told : goal.returns-in-Dropped-clause-told
returns-in-Dropped-clause-told g c = heard_told c.args.self.now (heard_of c.args.heard) c.serve.ensures

pub returns-in-Dropped-clause-after : goal.returns-in-Dropped-clause-after
returns-in-Dropped-clause-after g c =
    let some : is_some (heard_of c.args.heard) ≡ true = elim c.in-Dropped.is [
      | inl e ↦ ap (λ h. is_some (heard_of h)) e.1
      | inr more ↦ elim more [
        | inl e ↦ ap (λ h. is_some (heard_of h)) e.1
        | inr e ↦ ap (λ h. is_some (heard_of h)) e.1
      ]
    ] in
    heard_leads c.args.self.now (heard_of c.args.heard) some c.serve.ensures
    (c.count.ensures.counted
    ∙ ap (λ k. record c.args.self.now { layer = c.serve.new.self; counters = with_all k (bare_shown c.serve.new.report) }) c.heard.ensures
    ∙ ap (λ k. record c.args.self.now { layer = c.serve.new.self; counters = with_all (with_all c.args.self.now.counters (heard_shown k.side (heard_of c.args.heard))) (bare_shown c.serve.new.report) }) c.serve.ensures.config
    ∙ ap (λ k. record c.args.self.now { layer = c.serve.new.self; counters = k }) (counted_twice c.args.self.now.counters (heard_shown (config_of c.args.self.now).side (heard_of c.args.heard)) (bare_shown c.serve.new.report)))
