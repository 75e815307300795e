-- An octet is heard, and what it orders is carried out.
use Rattle.std.proofs.Common.{◌∙◌, ◌<◌, [], Some, refl, sym, subst}
use Rattle.lapd_card.specs.Kinds.{frames_of, line_count}
use Rattle.lapd_card.specs.{told_if_at}
use Rattle.model_card.specs.ports.Card.{after}
use Rattle.model_card.specs.ports.Event.{at}
use Rattle.model_card.specs.ports.Port.{octet, told}
use Rattle.lapd_timed.specs.Called.{CalledOfOctets}
use Rattle.lapd_timed.specs.Carried.{AreNoted}
use Rattle.lapd_timed.specs.Kinds.{ports_of}
use Rattle.lapd_timed.specs.Stands.{TimersStandIn}
use Rattle.lapd_timed.proofs.Events.{carried-too, nothing-ordered}
use Rattle.lapd_timed.proofs.HeardTouches.{heard-touches, ports-there}
use Rattle.lapd_timed.proofs.Steps.{octets-called-noted, octets-called-still, orders-told}
use Rattle.std.proofs.lemmas.Option.{none-some}
use Rattle.lapd_timed.proofs.timed_card.TimedCard.hear.Goals as goal

pub returns-in-Some : goal.returns-in-Some
returns-in-Some c =
    let e = at c.args.line (octet c.args.octet) in
    let are_noted = subst (λ k. AreNoted (frames_of k) c.args.line c.tei_of_heard-tei.result c.carry_out.new.self.timers c.note.new.self.timers) c.carry_out.ensures.card c.note.ensures.noted in
    let within = subst (λ k. c.args.line < line_count k) c.in-Octets.is c.requires.within in
    record {
      called = subst (λ k. CalledOfOctets e (told (told_if_at (ports_of k) c.args.line (Some c.in-Some.report))) c.args.self.now c.note.new.self) (sym (c.note.ensures.card ∙ c.carry_out.ensures.card))
          (octets-called-noted c.args.line e refl tt c.args.self.now c.note.new.self c.in-Octets.card c.hear.new.self c.in-Octets.is (c.note.ensures.card ∙ c.carry_out.ensures.card) c.in-Some.ensures.called
          c.requires.within c.orders.result.now (carried-too _ _ _ _ _ _ _ _ c.carry_out.ensures.carried are_noted)
          (λ is m k stood. are_noted.stand m k (subst (λ ts. TimersStandIn ts m k) (sym (c.carry_out.ensures.none is)) stood))
          (λ m s. c.orders.ensures ∙ sym (orders-told e c.in-Octets.card c.hear.new.self c.args.line c.in-Some.report c.in-Some.ensures.called.leads within m s)) c.carry_out.new.self.timers c.carry_out.ensures.still c.tei_of_heard-tei.result are_noted
          (λ m on f meant. heard-touches c.args.line c.args.octet m f (ports-there c.in-Octets.card m c.args.line on within) meant c.ended.result c.tei_of_heard-tei.result
          (c.ended.ensures (after e m) (c.in-Some.ensures.called.leads.stands m on)) c.tei_of_heard-tei.ensures));
    }

pub returns-in-None : goal.returns-in-None
returns-in-None c = record {
  called = octets-called-still c.args.line (at c.args.line (octet c.args.octet)) refl tt c.args.self.now _ c.in-Octets.card c.hear.new.self c.in-Octets.is refl c.in-None.ensures.called
      c.requires.within [] (nothing-ordered c.hear.new.self.frames c.args.line c.args.self.now.timers) (λ is m k stood. stood) (λ m s. refl) (λ m marks stood. stood)
      (λ m on f meant reached here number. absurd (none-some f (sym (c.in-None.ensures.silent m on) ∙ meant)));
}
