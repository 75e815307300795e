-- Hand-written answers for `Entity::acknowledge`.
use Rattle.lapd_link_steps.proofs.Vocabulary.{◌≤◌, length, refl, sym, ap, subst, drop, ◌∙◌}
use Rattle.lapd_link_steps.proofs.Queue.{released_more, still_beyond}
use Rattle.lapd_link_steps.proofs.entity.Entity.acknowledge.Goals as goal

pub returns-clause-does : goal.returns-clause-does
returns-clause-does c = λ terms info.
    record {
      step = λ messages p n named fits.
          record {
            fits =
                record {
                  window = c.acknowledge.ensures.plain p.a p.s n fits.window named;
                  received = fits.received;
                  ring = fits.ring;
                  queue =
                      ap (λ n. drop n messages) c.min-told.ensures
                      ∙ released_more messages p.contents c.args.told.now.released c.acknowledged_by-count.result p.a n fits.few (c.acknowledged_by-count.ensures.plain p.a p.s n fits.window named) fits.queue;
                  few = fits.few;
                  cause = fits.cause;
                  given_up = fits.given_up;
                  whole = λ some.
                      subst (λ n. length messages ≤ n) (sym c.min-told.ensures)
                      (still_beyond messages c.args.told.now.given_up_from c.args.told.now.released c.acknowledged_by-count.result fits.few fits.whole some);
                };
            is = refl;
          };
    }
