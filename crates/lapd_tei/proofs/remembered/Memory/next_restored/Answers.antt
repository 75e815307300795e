-- Hand-written answers for `Memory::next_restored`.
use Rattle.std.proofs.Common.{sym, ◌∙◌}
use Rattle.lapd_tei.proofs.Vocabulary.{false≢true}
use Rattle.lapd_tei.proofs.MemoryRead.{memory-pushed, next-refused}
use Rattle.lapd_tei.proofs.remembered.Memory.next_restored.Goals as goal
use Rattle.lapd_tei.proofs.remembered.Memory.next_restored.Goals.{then-not-is_on-via-then-not-is_on, then-not-is_on-via-else-not-is_on+then-shares}

pub returns-then-not-is_on-clause-none : goal.returns-then-not-is_on-clause-none
returns-then-not-is_on-clause-none c =
    let refused = next-refused c.args.table.now c.args.self.now c.in_ok-one.one c.in_ok-one.ensures.read in
    elim c.then-not-is_on.branch [
      | then-not-is_on-via-then-not-is_on w ↦ refused (λ next. false≢true (w.if-not-is_on.ensures ∙ next.on))
      | then-not-is_on-via-else-not-is_on+then-shares w ↦ refused (λ next. false≢true (sym (w.if-shares.ensures ∙ next.alone)))
    ]

pub returns-clause-read : goal.returns-clause-read
returns-clause-read c = record {
  saved =
      memory-pushed c.args.table.now c.args.self.now c.in_ok-one.one c.requires.few c.requires.memory
      (record { on = sym c.if-not-is_on.ensures; number = c.in_ok-one.ensures.read.saved; alone = sym c.if-shares.ensures });
  octets = c.in_ok-one.ensures.read.octets;
}
