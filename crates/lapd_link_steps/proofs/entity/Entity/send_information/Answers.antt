-- Hand-written answers for `Entity::send_information`.
use Rattle.lapd_link_steps.proofs.Vocabulary.{Some, sym, ◌∙◌, course_of}
use Rattle.model_link.specs.Offers as offers
use Rattle.lapd_link_steps.proofs.Steps.{◌▹◌, gives, one_sent, sent-information, pending_set}
use Rattle.lapd_link_steps.proofs.entity.Entity.send_information.Goals as goal

pub returns-clause-gives : goal.returns-clause-gives
returns-clause-gives c = λ terms queued.
    record {
      step = λ info messages p many none unsent fits.
          (gives (λ c. Some (record { frame = offers.next_information c.link; contents = offers.first_unsent c.link }))
          ▹ one_sent c.advance.ensures.plain c.saturating_sub-self.ensures c.information_sent.ensures ▹ pending_set ▹ c.await_acknowledgement.ensures terms info).step messages p fits;
      sent = λ info messages p many none unsent fits.
          sent-information (course_of info c.args.self.now c.args.told.now p) ∙ sym (c.next_information-given.ensures.given terms messages c.args.told.now p none fits);
    }
