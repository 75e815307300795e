-- Hand-written answers for `Setup::set_timers`.
use Rattle.lapd_sim.proofs.Vocabulary.{◌≡◌, Ok, refl, sym, subst, counters_of, scene, OnBoard, SetupStands, puts_nothing}
use Rattle.lapd_timed.specs.Stands.{TimersStandIn}
use Rattle.model_timed.specs.Clock.{with_lengths}
use Rattle.lapd_sim.specs.machine.Steps.{after_timers, lengths_of}
use Rattle.lapd_sim.proofs.Scenes.{obeyed, timers_set}
use Rattle.lapd_sim.proofs.setup.Setup.set_timers.Goals as goal

pub returns : goal.returns
returns c = λ before m h.
    let lengths = lengths_of c.args.durations in
    obeyed (Ok tt) (Ok tt) refl before before (SetupStands _) _ (after_timers lengths (scene m)) (timers_set lengths (scene m) c.in-Ok.ensures.in_range) (
      puts_nothing before,
      record {
        config = h.config;
        board = subst (λ k. OnBoard k m.board) (sym c.set_lengths.ensures.card) h.board;
        counters = subst (λ k. counters_of k ≡ m.counters) (sym c.set_lengths.ensures.card) h.counters;
        timers = record {
          timed = subst (λ l. TimersStandIn c.set_lengths.new.self.timers m.board.card.card (with_lengths l m.clock)) c.in-Ok.ensures.given (c.set_lengths.ensures.after m.board.card.card m.clock h.timers.timed);
          noted = c.set_lengths.ensures.noted m.board.card.card m.marks h.timers.noted;
        };
        terminals = h.terminals;
        listeners = h.listeners;
        losses = h.losses;
      },
    )
