-- Hand-written answers for `Entity::reset_numbers`.
use Rattle.lapd_link_steps.proofs.Vocabulary.{refl, ◌≤◌, length, sym, ap, subst, drop, ◌∙◌}
use Rattle.lapd_link_steps.proofs.Queue.{released_more, still_beyond}
use Rattle.lapd_link_steps.proofs.entity.Entity.reset_numbers.Goals as goal

pub returns-clause-does : goal.returns-clause-does
returns-clause-does c = λ terms info.
    record {
      step = λ messages p fits.
          record {
            fits =
                record {
                  window = c.new-self.ensures.numbers;
                  received = c.zero-self.ensures;
                  ring = fits.ring;
                  queue =
                      ap (λ n. drop n messages) c.min-told.ensures
                      ∙ released_more messages p.contents c.args.told.now.released c.outstanding.result p.a p.s fits.few (c.outstanding.ensures.plain p.a p.s fits.window) fits.queue;
                  few = fits.few;
                  cause = fits.cause;
                  given_up = fits.given_up;
                  whole = λ some.
                      subst (λ n. length messages ≤ n) (sym c.min-told.ensures)
                      (still_beyond messages c.args.told.now.given_up_from c.args.told.now.released c.outstanding.result fits.few fits.whole some);
                };
            is = refl;
          };
    }
