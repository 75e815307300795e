-- Hand-written answers for `Due::restored`.
use Rattle.std.proofs.Common.{ap, length, sym, ◌∙◌}
use Rattle.lapd_tei.proofs.Vocabulary.{false≢true}
use Rattle.model_bits.specs.Bits.{low_bits}
use Rattle.model_bits.proofs.BitLemmas.{length-low_bits}
use Rattle.lapd_tei.proofs.DueBits.{due-refused}
use Rattle.lapd_tei.proofs.due.Due.restored.Goals as goal
use Rattle.lapd_tei.proofs.due.Due.restored.Goals.{then-octet-via-then-octet, then-octet-via-else-octet+then-not-may_be}

pub may_be-requires : goal.may_be-requires
may_be-requires c = ap length c.of_octet-all.ensures ∙ length-low_bits c.len.result c.in_ok-octet.octet ∙ c.len.ensures.len

pub returns-then-octet-clause-none : goal.returns-then-octet-clause-none
returns-then-octet-clause-none c =
    let refused = due-refused c.args.reading c.args.table.now c.args.check c.of_octet-all.result c.in_ok-octet.ensures.read
    (c.of_octet-all.ensures ∙ ap (λ n. low_bits n c.in_ok-octet.octet) c.len.ensures.len) in
    elim c.then-octet.branch [
      | then-octet-via-then-octet w ↦ refused (λ is good. w.if-octet.true (c.octet-2.ensures ∙ is))
      | then-octet-via-else-octet+then-not-may_be w ↦ refused (λ is good. false≢true (sym w.if-not-may_be.true ∙ w.may_be.ensures.no good))
    ]
