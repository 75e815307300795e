-- Hand-written answers for `Entity::discard`.
use Rattle.lapd_link_steps.proofs.Vocabulary.{◌-◌, ◌∙◌, length, refl, sym, ap, arith}
use Rattle.lapd_link_steps.proofs.Queue.{discarded, given_up_more}
use Rattle.lapd_link_steps.proofs.entity.Entity.discard.Goals as goal

pub returns-clause-does : goal.returns-clause-does
returns-clause-does c = λ terms info.
    record {
      step = λ messages p fits.
          record {
            fits =
                record {
                  window =
                      c.go_back.ensures.plain p.a p.s p.a fits.window
                      (record { from = omega arith; to = fits.window.ordered; remainder = c.va-va.ensures.plain p.a p.s fits.window });
                  received = fits.received;
                  ring = fits.ring;
                  queue = discarded messages p.contents p.a fits.few;
                  few = fits.few;
                  cause = fits.cause;
                  given_up =
                      given_up_more messages p.contents c.args.told.now.given_up_from c.args.told.now.released p.a p.given_up fits.whole fits.queue fits.given_up
                      ∙ ap (λ n. length messages - n) (sym c.min-told.ensures);
                  whole = λ _. fits.few;
                };
            is = refl;
          };
    }
