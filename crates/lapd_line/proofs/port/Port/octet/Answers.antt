-- Hand-written answers for `Port::octet`.
use Rattle.lapd_line.proofs.Vocabulary.{sym, ap, ◌∙◌, or_latest, latest_of}
use Rattle.lapd_line.proofs.PortSteps.{ended_is, gained_is, latest_more, latest_left}
use Rattle.lapd_line.proofs.port.Port.octet.Goals as goal

pub returns-in-Nothing-clause-after : goal.returns-in-Nothing-clause-after
returns-in-Nothing-clause-after c = λ n201 p st.
    let heard = c.step-ended.ensures.heard n201 p.received st.received in
    record {
      received = c.step-ended.ensures.after n201 p.received st.received;
      sent = st.sent;
      room = st.room;
      latest = st.latest ∙ sym (latest_more n201 c.args.octet p.received _ heard ∙ latest_left n201 _ _ c.step-ended.result c.step-ended.ensures.told c.in-Nothing.is);
      limit = st.limit;
      ended = ended_is n201 c.args.octet p.received _ heard;
    }

pub returns-in-Nothing-clause-gained : goal.returns-in-Nothing-clause-gained
returns-in-Nothing-clause-gained c = λ n201 p st. gained_is n201 c.args.octet p.received _ (c.step-ended.ensures.heard n201 p.received st.received)

pub returns-in-Frame-clause-gained : goal.returns-in-Frame-clause-gained
returns-in-Frame-clause-gained c = λ n201 p st. gained_is n201 c.args.octet p.received _ (c.step-ended.ensures.heard n201 p.received st.received)

pub returns-in-Frame-clause-after : goal.returns-in-Frame-clause-after
returns-in-Frame-clause-after c = λ n201 p st.
    let heard = c.step-ended.ensures.heard n201 p.received st.received in
    record {
      received = c.step-ended.ensures.after n201 p.received st.received;
      sent = st.sent;
      room = st.room;
      latest = c.latest_head-self.ensures n201 st.limit ∙ ap (λ h. or_latest n201 h (latest_of c.step-ended.new.self)) st.latest
          ∙ sym (latest_more n201 c.args.octet p.received _ heard);
      limit = st.limit;
      ended = ended_is n201 c.args.octet p.received _ heard;
    }
