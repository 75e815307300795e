-- Hand-written answers for `Setup::go_to`.
use Rattle.lapd_sim.proofs.Vocabulary.{◌≡◌, ◌∙◌, false≢true, sym, subst, arith, inr, OnBoard, counters_of}
use Rattle.std.proofs.Common.{inl}
use Rattle.lapd_timed.proofs.Steps.{moment-is}
use Rattle.lapd_sim.proofs.Boards.{timed_time}
use Rattle.lapd_sim.proofs.Scenes.{if_ok}
use Rattle.lapd_sim.proofs.setup.Setup.go_to.Goals as goal

pub unreachable-requires : goal.unreachable-requires
unreachable-requires c =
    let m = c.requires.stands in
    elim (c.go_to.ensures.refused.0 (sym c.if-is_err.ensures.value)) [
      | inl early ↦ omega (arith, early, moment-is _ m.0.board.card.card m.0.clock m.1.timers.timed, m.2)
      | inr late ↦ omega (arith, late, c.requires.end)
    ]

pub returns-clause-after : goal.returns-clause-after
returns-clause-after c = λ m h.
    let went = if_ok c.go_to.result (λ e. false≢true (c.if-is_err.ensures.value ∙ e)) c.go_to.ensures.went in
    record {
      config = h.config;
      board = subst (λ k. OnBoard k m.board) (sym went.card) h.board;
      counters = subst (λ k. counters_of k ≡ m.counters) (sym went.card) h.counters;
      timers = timed_time c.args.self.now.timed c.go_to.new.self c.args.moment went.after m.board h.board m.clock m.marks h.timers;
      terminals = h.terminals;
      listeners = h.listeners;
      losses = h.losses;
    }
