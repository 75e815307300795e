-- Hand-written answers for `Table::next_restored`.
use Rattle.std.proofs.Common.{Some, arith, subst, sym}
use Rattle.std.proofs.lemmas.Option.{same_Some}
use Rattle.lapd_tei.proofs.Vocabulary.{false, is_on, ◌≡◌, ◌≤◌}
use Rattle.lapd_tei.proofs.TableRead.{no_tei, table-pushed, tei_twice}
use Rattle.lapd_tei.proofs.table.Table.next_restored.Goals as goal
use Rattle.lapd_tei.proofs.table.Table.next_restored.Goals.{then-octet-ge-GROUP-via-then-octet-ge-GROUP, then-octet-ge-GROUP-via-else-octet-ge-GROUP+then-is_on}

pub returns-then-octet-ge-GROUP-clause-none : goal.returns-then-octet-ge-GROUP-clause-none
returns-then-octet-ge-GROUP-clause-none c =
    elim c.then-octet-ge-GROUP.branch [
      | then-octet-ge-GROUP-via-then-octet-ge-GROUP w ↦ no_tei c.args.self.now c.in_ok-octet.ensures.read c.if-octet.false w.if-octet-ge-GROUP.true
      | then-octet-ge-GROUP-via-else-octet-ge-GROUP+then-is_on w ↦ tei_twice c.args.self.now c.in_ok-octet.ensures.read c.if-octet.false (sym w.if-is_on.ensures)
    ]

pub returns-clause-read : goal.returns-clause-read
returns-clause-read c = record {
  saved =
      table-pushed c.args.self.now (Some c.in_ok-octet.octet) c.requires
      (λ tei e. subst (λ n. (is_on n c.args.self.now ≡ false) × (n ≤ 126)) (same_Some _ tei e) (sym c.if-is_on.ensures, omega (arith, c.if-octet-ge-GROUP.false)));
  octets = c.in_ok-octet.ensures.read;
}
