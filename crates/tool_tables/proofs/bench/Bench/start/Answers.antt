-- Hand-written answers for `Bench::start`.
use Rattle.std.proofs.Common.{◌≡◌, [], refl, sym, ap, subst, arith}
use Rattle.lapd_store.specs.Store.{Store, empty_store}
use Rattle.lapd_store.proofs.Ownership.{Holds-empty}
use Rattle.model_link.specs.Link.{fresh}
use Rattle.lapd_link.specs.Stands.{LinkStands}
use Rattle.tool_tables.proofs.bench.Bench.start.Goals as goal

pub with_terms-requires-clause-down : goal.with_terms-requires-clause-down
with_terms-requires-clause-down c =
    (empty_store 2 8, [], fresh, c.in-Ok.ensures.fresh (empty_store 2 8) [] (omega arith) (Holds-empty 2 8), refl)

pub returns : goal.returns
returns c =
    let shelf : c.in-Ok-start.shelf ≡ empty_store 2 8 = c.in-Ok-start.ensures in (
      fresh,
      subst (λ (s : Store). LinkStands c.with_terms.new.self s [] fresh) (sym shelf)
          (c.with_terms.ensures.fresh (empty_store 2 8) [] fresh (omega arith)
          (c.in-Ok.ensures.fresh (empty_store 2 8) [] (omega arith) (Holds-empty 2 8))),
      ap (λ (s : Store). s.slots) shelf,
    )
