-- The two links of the TEI are noted, where it is on the line.
use Rattle.std.proofs.Common.{arith, ◌+◌, ◌*◌, ◌≤◌, ◌∙◌, ap, sym, subst}
use Rattle.std.specs.Prelude.{All, length}
use Rattle.std.specs.Option.{unwrap_or}
use Rattle.model_line.specs.declared.config.Config.{Config}
use Rattle.lapd_timed.specs.Marked.{slot_in, marked_at, AreMarks}
use Rattle.model_timed.specs.Changes.{noted}
use Rattle.lapd_timed.proofs.Marked.{slot-of, links-stay, past-stay, states-stay}
use Rattle.lapd_timed.proofs.TeisMarked.{both-noted, none-noted, call-is, packet-is, within}
use Rattle.lapd_timed.proofs.card_timers.CardTimers.note_tei.Goals as goal

pub returns-in_default-clause-noted : goal.returns-in_default-clause-noted
returns-in_default-clause-noted g c = λ old new marks stands but stood.
    none-noted c.args.self.now.lines (2 * c.args.self.now.terminals) c.args.line c.args.tei c.args.self.now.moment c.args.self.now.changes old new marks stands.reached but stood c.requires.line
    (sym (c.in_default.ensures.is new stands))

pub note-requires : goal.note-requires
note-requires g c = slot-of c.args.self.now.lines (2 * c.args.self.now.terminals) c.args.line (2 * c.in-Some.place) c.args.self.now.changes c.args.self.now.links c.args.self.now.marks c.requires.line (omega (arith, c.if-place-self.true))

pub note-requires-then-place-self : goal.note-requires-then-place-self
note-requires-then-place-self g c =
    let i = slot_in c.args.self.now.changes c.args.line (2 * c.in-Some.place) in
    slot-of c.args.self.now.lines (2 * c.args.self.now.terminals) c.args.line (2 * c.in-Some.place + 1) c.note.new.self
    (ap (λ h. h.links) c.note.ensures ∙ links-stay i c.unwrap_or-call.result c.args.self.now.moment c.args.self.now.changes ∙ c.args.self.now.links)
    (ap (λ h. length h.states) c.note.ensures ∙ states-stay i c.unwrap_or-call.result c.args.self.now.moment c.args.self.now.changes ∙ c.args.self.now.marks)
    c.requires.line (omega (arith, c.if-place-self.true))

pub returns-then-place-self-clause-noted : goal.returns-then-place-self-clause-noted
returns-then-place-self-clause-noted g c = λ old new marks stands but stood.
    let lines = c.args.self.now.lines in
    let links = 2 * c.args.self.now.terminals in
    let h = c.args.self.now.changes in
    let there = within lines links c.args.line c.args.tei c.args.self.now.moment h old new marks stands.reached but stood c.requires.line in
    let is = sym (c.in-Some.ensures.is new stands) in
    subst (λ k. AreMarks lines links k new (noted c.args.self.now.moment new marks))
    (sym (c.note-then-place-self.ensures ∙ ap (λ k. marked_at (slot_in k c.args.line (2 * c.in-Some.place + 1)) c.unwrap_or-packet.result c.args.self.now.moment k) c.note.ensures))
    (both-noted lines links c.args.line c.args.tei c.args.self.now.moment h old new marks stands.reached but stood c.requires.line c.in-Some.place c.unwrap_or-call.result c.unwrap_or-packet.result
    (omega (arith, c.if-place-self.true)) is
    (c.unwrap_or-call.ensures ∙ ap (λ o. unwrap_or o 0) (c.state.ensures new stands) ∙ call-is new stands.reached c.args.line there c.args.tei c.in-Some.place is)
    (c.unwrap_or-packet.ensures ∙ ap (λ o. unwrap_or o 0) (c.state-then-place-self.ensures new stands) ∙ packet-is new stands.reached c.args.line there c.args.tei c.in-Some.place is))

pub returns-else-place-self-clause-noted : goal.returns-else-place-self-clause-noted
returns-else-place-self-clause-noted g c = λ old new marks stands but stood.
    let few = c.in-Some.ensures.few in
    absurd (omega (arith, few, c.if-place-self.false, ap (λ (d : Config). d.terminals) stands.config, ap (λ (d : Config). d.terminals) but.config, stood.terminals_are))

pub invariant_of-self : goal.invariant_of-self
invariant_of-self g c =
    let t = c.args.self.now in
    let i = slot_in t.changes c.args.line (2 * c.in-Some.place) in
    let j = slot_in c.note.new.self c.args.line (2 * c.in-Some.place + 1) in
    let call = c.unwrap_or-call.result in
    let packet = c.unwrap_or-packet.result in
    let once = subst (λ h. All (λ changed. changed ≤ t.moment) h.moments) (sym c.note.ensures) (past-stay i call t.moment t.changes t.moment (omega arith) t.past) in
    record {
      few_lines = t.few_lines;
      few_terminals = t.few_terminals;
      in_time = t.in_time;
      size = t.size;
      of_lines = t.of_lines;
      links = ap (λ h. h.links) c.note-then-place-self.ensures ∙ links-stay j packet t.moment c.note.new.self ∙ ap (λ h. h.links) c.note.ensures ∙ links-stay i call t.moment t.changes ∙ t.links;
      marks = ap (λ h. length h.states) c.note-then-place-self.ensures ∙ states-stay j packet t.moment c.note.new.self ∙ ap (λ h. length h.states) c.note.ensures ∙ states-stay i call t.moment t.changes ∙ t.marks;
      past = subst (λ h. All (λ changed. changed ≤ t.moment) h.moments) (sym c.note-then-place-self.ensures) (past-stay j packet t.moment c.note.new.self t.moment (omega arith) once);
    }
