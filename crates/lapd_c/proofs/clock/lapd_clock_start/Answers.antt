-- Hand-written answers for `lapd_clock_start`.
use Rattle.lapd_c.proofs.Vocabulary.{Config, Some, inl, inr, ap, sym, refl, ◌∙◌, arith}
use Rattle.lapd_clock.specs.Timers.{idle}
use Rattle.lapd_c.specs.Clocks.{clock_of}
use Rattle.lapd_c.specs.Config.{config_fault, config_in}
use Rattle.lapd_c.proofs.Starting.{read-is, read-starts}
use Rattle.lapd_c.proofs.clock.lapd_clock_start.Goals as goal

pub returns-in-None : goal.returns-in-None
returns-in-None c = record {
  handle = c.requires;
  start = read-starts clock_of c.args.config.now c.args.handle.now c.args.handle.now 22 c.read.result c.in-Ok.value (sym c.requires.said ∙ c.if-handle.false) c.read.ensures.fault c.in-Ok.is (inr refl) (λ _. refl);
  begun = λ e. absurd (omega (arith, e));
}

pub returns : goal.returns
returns c = record {
  handle = c.put.ensures.handle;
  start = read-starts clock_of c.args.config.now c.args.handle.now c.put.new.self 0 c.read.result c.in-Ok.value (sym c.requires.said ∙ c.if-handle.false) c.read.ensures.fault c.in-Ok.is (inl refl) (λ e. absurd (omega (arith, e)));
  begun = λ _. c.put.ensures.clock ∙ ap Some (c.in-Some.ensures.idle ∙ ap (λ (d : Config). idle d.lines d.terminals)
      (read-is (config_fault c.args.config.now) c.read.result (config_in c.args.config.now) c.in-Ok.value c.read.ensures.fault c.read.ensures.config c.in-Ok.is));
}
