-- An octet that ends nothing, one of an idle line, or one that may end something.
use Rattle.lapd_bits.proofs.Vocabulary.{refl, sym, subst, Takes}
use Rattle.lapd_bits.proofs.Lent.{Stands-takes, takes-content}
use Rattle.lapd_bits.proofs.deframer.Deframer.step.Goals as goal
use Rattle.lapd_bits.proofs.deframer.Deframer.step.Goals.{in-Some, in_default+then-is_idle, in_default+else-is_idle}

pub returns-clause-after : goal.returns-clause-after
returns-clause-after c n201 past h =
    let old = c.args.self.now in
    let new = c.match-at_once.self in
    let octet = c.args.octet in
    let takes : Takes octet old new new.ended = elim c.match-at_once.branch [
      | in-Some w ↦
          let s = w.take_content.ensures in
          subst (λ d. Takes octet old d d.ended) (sym w.self-is)
          (takes-content octet _ _ _ old _ w.in-Some.ensures s.room s.ones (s.stands octet))
      | in_default+then-is_idle w ↦
          let t = w.if-is_idle.ensures.stays refl in
          subst (λ d. Takes octet old d d.ended) (sym w.self-is) (record { room = t.room; stands = t.stands; told = t.told })
      | in_default+else-is_idle w ↦ subst (λ d. Takes octet old d d.ended) (sym w.self-is) w.take_ending.ensures.takes
    ] in
    Stands-takes n201 octet past old new h takes

pub returns-clause-heard : goal.returns-clause-heard
returns-clause-heard c n201 past h = (returns-clause-after c n201 past h).latest past c.args.octet refl
