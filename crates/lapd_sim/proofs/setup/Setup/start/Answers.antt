-- Hand-written answers for `Setup::start`.
use Rattle.lapd_sim.proofs.Vocabulary.{[], ◌∙◌, refl, ap, sym, subst, replicate, counters_of, Each, Hears, OnBoard, Sends}
use Rattle.lapd_timed.specs.Stands.{TimersStand}
use Rattle.lapd_sim.specs.Stands.{ClockStands}
use Rattle.lapd_clock.specs.Timer.{standard}
use Rattle.model_card.specs.Card as cards
use Rattle.model_timed.specs.Changes.{unmarked}
use Rattle.model_timed.specs.Clock.{stopped}
use Rattle.lapd_sim.specs.machine.Board.{fresh}
use Rattle.lapd_sim.proofs.setup.Setup.start.Goals as goal

pub returns : goal.returns
returns c =
    let config = c.args.plan.config in
    let begun = c.in_ok-board.ensures.begun in (
      begun.0,
      record {
        config = refl;
        board = subst (λ k. OnBoard k (fresh c.args.plan.kind config)) (sym c.new.ensures.card) begun.1.0;
        counters = ap counters_of c.new.ensures.card ∙ begun.1.1;
        timers =
            subst (λ t. ClockStands t (cards.fresh config) (stopped standard) unmarked) (sym c.new.ensures.timers)
            (record {
              timed = subst (λ l. TimersStand c.in_ok-timers.timers (cards.fresh config) (stopped l)) c.standard.ensures
                  (c.in_ok-timers.ensures.stopped config (sym c.from-lines.ensures) (sym c.into.ensures) begun.0);
              noted = c.in_ok-timers.ensures.unmarked config (sym c.from-lines.ensures) (sym c.into.ensures);
            });
        terminals = subst (λ n. Each Sends c.in_ok-terminals.terminals.items (replicate n (record { items = []; given = 0 }))) c.from-lines.ensures c.in_ok-terminals.ensures.begun;
        listeners = subst (λ n. Each Hears c.in_ok-listeners.listeners.items (replicate n [])) c.from-lines.ensures c.in_ok-listeners.ensures.begun;
        losses = refl;
      },
    )
