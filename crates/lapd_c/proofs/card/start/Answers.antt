-- Hand-written answers for `start`: the configuration is the one that the caller gave.
use Rattle.lapd_c.proofs.Vocabulary.{inl, inr, ap, sym, subst, refl, ◌∙◌, arith}
use Rattle.std.specs.Prelude.{is_some}
use Rattle.lapd_c.specs.Kept.{timers_held}
use Rattle.lapd_c.specs.Calls.{Begins, fresh, HasBegun}
use Rattle.lapd_c.specs.Cards.{card_of}
use Rattle.lapd_c.specs.Config.{config_fault, config_in}
use Rattle.lapd_c.proofs.Starting.{read-is, read-starts}
use Rattle.lapd_c.proofs.card.start.Goals as goal

pub returns-in-None : goal.returns-in-None
returns-in-None c = record {
  handle = c.requires;
  start = read-starts card_of c.args.config.now c.args.handle.now c.args.handle.now 22 c.read.result c.in-Ok.value (sym c.requires ∙ c.if-handle.false) c.read.ensures.fault c.in-Ok.is (inr refl) (λ _. refl);
  begun = λ e. absurd (omega (arith, e));
  timed = λ e. absurd (omega (arith, e));
}

pub returns : goal.returns
returns c = record {
  handle = c.put.ensures.handle;
  start = read-starts card_of c.args.config.now c.args.handle.now c.put.new.self 0 c.read.result c.in-Ok.value (sym c.requires ∙ c.if-handle.false) c.read.ensures.fault c.in-Ok.is (inl refl) (λ e. absurd (omega (arith, e)));
  begun = λ _. subst (HasBegun (fresh c.args.kind (config_in c.args.config.now))) (sym c.put.ensures.card)
      (subst (λ config. Begins (fresh c.args.kind config) c.in-Some.value.value)
      (read-is (config_fault c.args.config.now) c.read.result (config_in c.args.config.now) c.in-Ok.value c.read.ensures.fault c.read.ensures.config c.in-Ok.is)
      c.in-Some.ensures.begins);
  timed = λ _. ap (λ held. is_some (timers_held held)) c.put.ensures.card ∙ ap is_some c.in-Some.ensures.timers;
}
