-- Hand-written answers for `Entity::clear`.
use Rattle.lapd_link_steps.proofs.Vocabulary.{[], None, ◌-◌, length, sym, ap, ◌∙◌, Does, Link, begin_anew, course_of}
use Rattle.lapd_link_steps.proofs.Queue.{discarded, given_up_more}
use Rattle.lapd_link_steps.proofs.Steps.{◌▹◌}
use Rattle.lapd_link_steps.proofs.entity.Entity.clear.Goals as goal

pub returns-clause-does : goal.returns-clause-does
returns-clause-does c = λ info.
    let anew : Does c.args.terms.now info begin_anew c.tell_clearing.new.self c.tell_clearing.new.told c.begin.new.self (record c.tell_clearing.new.told { started = None; given_up_from = c.min-told.result; released = 127; in_range = _ }) = record {
      step = λ messages p fits.
          record {
            fits =
                record {
                  window = c.begin.ensures.window;
                  received = c.begin.ensures.received;
                  ring = c.begin.ensures.ring ∙ fits.ring;
                  queue = discarded messages [] 0 fits.few;
                  few = fits.few;
                  cause = fits.cause;
                  given_up =
                      given_up_more messages p.contents c.tell_clearing.new.told.given_up_from c.tell_clearing.new.told.released p.a p.given_up fits.whole fits.queue fits.given_up
                      ∙ ap (λ n. length messages - n) (sym c.min-told.ensures);
                  whole = λ _. fits.few;
                };
            is = ap (λ (l : Link). record (begin_anew (course_of info c.tell_clearing.new.self c.tell_clearing.new.told p)) { link = l }) c.begin.ensures.link;
          };
    } in
    c.tell_clearing.ensures.does info ▹ anew
