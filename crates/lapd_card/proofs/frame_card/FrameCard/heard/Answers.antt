-- Hand-written answers for `FrameCard::heard`.
use Rattle.lapd_card.proofs.Vocabulary.{IsSome, sym, subst}
use Rattle.model_bits.specs.Heard.{heard_of}
use Rattle.lapd_card.proofs.OneLine.{few_line, line-there, one_serves}
use Rattle.lapd_card.proofs.OneEvent.{heard_called, heard_past}
use Rattle.lapd_card.proofs.frame_card.FrameCard.heard.Goals as goal

pub index_mut-frame_line-requires : goal.index_mut-frame_line-requires
index_mut-frame_line-requires g c = line-there g.S.Shelf.store _ c.args.self.now c.args.line _ c.self.invariant c.self.view_is c.requires.within c.self.inside.lines.ok.0

pub heard-requires : goal.heard-requires
heard-requires g c = record { clear = c.requires.clear; stands = one_serves g.S.Shelf.store (record { past = c.self.invariant; same = c.self.view_is; within = c.requires.within; is = c.index_mut-frame_line.ensures.value }) }

pub invariant_of-self : goal.invariant_of-self
invariant_of-self g c = heard_past g.S.Shelf.store (record { past = c.self.invariant; same = c.self.view_is; within = c.requires.within; is = c.index_mut-frame_line.ensures.value }) (heard_of c.latest.result) _ _ _ (subst (λ h. IsSome h) (sym c.latest.ensures) c.requires.something) c.heard.ensures.after (record { told = c.has_next.result; says = c.has_next.ensures; sets = c.set.ensures })

pub returns : goal.returns
returns g c = heard_called g.S.Shelf.store (record { past = c.self.invariant; same = c.self.view_is; within = c.requires.within; is = c.index_mut-frame_line.ensures.value }) c.heard.new.report c.latest.ensures c.heard.ensures.told c.heard.new.self c.heard.new.shelf c.set.new.self c.heard.ensures.after (record { told = c.has_next.result; says = c.has_next.ensures; sets = c.set.ensures })

pub set-requires : goal.set-requires
set-requires g c = few_line g.S.Shelf.store c.self.invariant c.self.view_is c.requires.within
