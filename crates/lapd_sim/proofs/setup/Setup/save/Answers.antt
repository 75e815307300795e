-- Hand-written answers for `Setup::save`.
use Rattle.lapd_sim.proofs.Vocabulary.{refl, sym, subst, arith, take, take_at}
use Rattle.lapd_sim.specs.Obeyed.{IsImageOf}
use Rattle.lapd_sim.proofs.Restoring.Saving.{is-image}
use Rattle.lapd_sim.proofs.setup.Setup.save.Goals as goal

pub returns-clause-after : goal.returns-clause-after
returns-clause-after c = λ m h. record {
  config = h.config;
  board = h.board;
  counters = h.counters;
  timers = h.timers;
  terminals = h.terminals;
  listeners = h.listeners;
  losses = h.losses;
}

pub returns-clause-image : goal.returns-clause-image
returns-clause-image c = λ m h.
    subst (λ items. IsImageOf m (take c.save.result items)) (sym (take_at c.save.new.out _ c.args.self.now.image.len (omega (arith, c.save.auto.out, c.as_mut_slice.ensures.len))))
    (is-image c.args.self.now m h _ _ _ c.save.result refl (omega (arith, c.args.self.now.image_room, c.as_mut_slice.ensures.len)) c.save.ensures.puts c.save.ensures.saved)
