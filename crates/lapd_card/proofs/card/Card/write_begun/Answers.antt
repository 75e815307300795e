-- Hand-written answers for `Card::write_begun`.
use Rattle.std.proofs.lemmas.Option.{IfSome_then}
use Rattle.std.specs.Prelude.{IfNone}
use Rattle.lapd_card.proofs.Vocabulary.{◌<◌, Option, None, Some, sym, subst}
use Rattle.lapd_card.specs.Card.{line_count}
use Rattle.lapd_card.proofs.OnePort.{port-there, port_holds, stood}
use Rattle.lapd_card.proofs.card.Card.write_begun.Goals as goal

pub index-requires : goal.index-requires
index-requires g c = port-there g.S.Shelf.store _ c.args.self.now c.args.line _ c.self.invariant c.self.view_is c.requires c.self.inside.ports.ok.0

if_none : {A : Type 0} {P Q : Type 0} (o : Option A) → (P → Q) → IfNone o P → IfNone o Q
if_none None so is = so is
if_none (Some x) so is = tt

pub returns-clause-whole : goal.returns-clause-whole
returns-clause-whole g c = λ m s.
    let stands = port_holds g.S.Shelf.store (record { past = c.self.invariant; within = (subst (λ d. c.args.line < line_count d) (sym c.self.view_is) c.requires); is = c.index.ensures }) m (stood g.S.Shelf.store c.self.view_is m s) in
    record {
      short = if_none c.write_begun.result (λ short. short _ _ stands) c.write_begun.ensures.short;
      written = IfSome_then c.write_begun.result c.write_begun.ensures.written (λ count written. written _ _ stands);
    }
