-- Hand-written answers for `Line::pull`.
use Rattle.lapd_line.proofs.Vocabulary.{refl, sym, octets_config}
use Rattle.lapd_line.proofs.OctetSteps.{more_told, more_leads, next_told, next_leads_on}
use Rattle.lapd_line.proofs.line.Line.pull.Goals as goal

pub returns-then-not-is_due-clause-told : goal.returns-then-not-is_due-clause-told
returns-then-not-is_due-clause-told g c = more_told c.give.ensures (λ others l st. sym (c.if-not-is_due.ensures.due (octets_config c.args.self.now).n201 l.port st.port))

pub returns-then-not-is_due-clause-after : goal.returns-then-not-is_due-clause-after
returns-then-not-is_due-clause-after g c = more_leads c.give.ensures (λ others l st. sym (c.if-not-is_due.ensures.due (octets_config c.args.self.now).n201 l.port st.port))

pub load_next-taken-requires : goal.load_next-taken-requires
load_next-taken-requires g c =
    let (others, l, st) = c.requires in
    record { stands = (others, l.line, st.frames); few = c.if-not-is_due.ensures.few refl; room = st.port.room }

pub returns-clause-told : goal.returns-clause-told
returns-clause-told g c = next_told c.load_next-taken.result (c.if-not-is_due.ensures.few refl) c.load_next-taken.ensures.loaded c.give-2.ensures

pub returns-clause-after : goal.returns-clause-after
returns-clause-after g c = next_leads_on c.load_next-taken.result (c.if-not-is_due.ensures.few refl) c.load_next-taken.ensures.loaded c.give-2.ensures c.load_next-taken.ensures.after
