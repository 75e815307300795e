-- Hand-written answers for `exchange`.
use Rattle.lapd_c.proofs.Vocabulary.{refl, suc, ◌+◌, ◌*◌, ◌<◌, ◌≤◌, not, length, sym, ap, subst, ◌∙◌, arith, inl, inr, and_parts, eqb-true, leb-true, Config, ShowsReply, card_after, step_event, tells_nothing}
use Rattle.lapd_timed.proofs.Led.{octets-led}
use Rattle.lapd_c.proofs.Exchanging.{made-none, made-more, made-to, quiet-none, quiet-made, tells-made, shown-made}
use Rattle.lapd_c.proofs.exchange.exchange.Goals as goal

pub loop-step-init : goal.loop-step-init
loop-step-init c =
    let from = c.args.steps.now in let taken = c.args.taken.now in
    let within : from ≤ 2 * length taken = leb-true from (2 * length taken) (and_parts _ _ c.requires.lengths).1 in
    record {
      kind = c.requires.kind;
      line = c.requires.line;
      timed = refl;
      bound = omega arith;
      lengths = sym (eqb-true (length taken) (length c.args.given.now) (and_parts _ _ c.requires.lengths).0);
      made = (0, omega arith, λ m s. (made-none c.args.line taken from m c.args.timed.now c.args.given.now s, quiet-none c.args.line taken from m));
    }

pub loop-step-preserved : goal.loop-step-preserved
loop-step-preserved c =
    let i = c.loop-step.invariant in let from = c.args.steps.now in let taken = c.args.taken.now in let line = c.args.line in
    let n = i.made.0 in let at = i.made.1 in let e = c.make_step.ensures in let step = c.loop-step.step in
    let led = octets-led (step_event line taken step) _ _ e.step.called.leads in
    record {
      kind = led.kind ∙ i.kind;
      line = subst (λ (config : Config). line < config.lines) (sym led.config) i.line;
      timed = e.step.called.timed ∙ i.timed;
      lengths = e.length ∙ i.lengths;
      bound = omega arith;
      made = (
        suc n,
        omega (arith, at),
        λ m s.
            let t = i.made.2 m s in let there = card_after line taken from n m in (
              made-more line taken from m c.args.timed.now n step _ _ _ _ _ at t.0 e.step.called (e.given there t.0.stands),
              quiet-made line taken from m n step at t.1 (sym c.if-make_step.false ∙ e.step.is ∙ ap (λ a. not (tells_nothing a)) (e.step.called.answers there t.0.stands)),
            ),
      );
    }

pub returns-then-make_step-clause-kind : goal.returns-then-make_step-clause-kind
returns-then-make_step-clause-kind c =
    (octets-led (step_event c.args.line c.args.taken.now c.loop-step.step) _ _ c.make_step.ensures.step.called.leads).kind ∙ c.loop-step.invariant.kind ∙ sym c.requires.kind

pub returns-then-make_step-clause-steps : goal.returns-then-make_step-clause-steps
returns-then-make_step-clause-steps c =
    let i = c.loop-step.invariant in let from = c.args.steps.now in let taken = c.args.taken.now in let line = c.args.line in
    let n = i.made.0 in let at = i.made.1 in let e = c.make_step.ensures in let step = c.loop-step.step in
    λ m s.
    let t = i.made.2 m s in let there = card_after line taken from n m in
    let answers = e.step.called.answers there t.0.stands in
    let made = made-more line taken from m c.args.timed.now n step _ _ _ _ _ at t.0 e.step.called (e.given there t.0.stands) in
    let all = made-to line taken from m c.args.timed.now (suc n) _ _ _ (step + 1) (omega (arith, at)) made in
    record {
      made = record {
        n = suc n;
        within = omega (arith, c.loop-step.near-step, c.loop-step.far-step);
        stands = made.stands;
        octets = made.octets;
        ended = inr (record {
          before = n;
          last = omega arith;
          made = omega (arith, at);
          quiet = t.1;
          tells = tells-made line taken from m n step at (sym c.if-make_step.true ∙ e.step.is ∙ ap (λ a. not (tells_nothing a)) answers);
          report = shown-made line taken from m n step _ at (subst (ShowsReply c.make_step.new.report) answers (e.step.shown there t.0.stands c.if-make_step.true));
        });
      };
      counted = all.counted;
      carried = all.carried;
    }

pub returns-clause-steps : goal.returns-clause-steps
returns-clause-steps c =
    let i = c.loop-step.invariant in let from = c.args.steps.now in let taken = c.args.taken.now in let at = i.made.1 in
    λ m s.
    let t = i.made.2 m s in
    let all = made-to c.args.line taken from m c.args.timed.now i.made.0 _ _ _ (2 * length taken) (omega (arith, at)) t.0 in
    record {
      made = record {
        n = i.made.0;
        within = omega arith;
        stands = t.0.stands;
        octets = t.0.octets;
        ended = inl (record { end = omega arith; made = omega (arith, at); quiet = t.1; report = c.show_nothing.ensures.told });
      };
      counted = all.counted;
      carried = all.carried;
    }
