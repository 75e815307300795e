-- Hand-written answers for `Marks::set`.
use Rattle.lapd_line.proofs.Vocabulary.{◌∙◌, sym, ap, digit, w64, bit_at_set_same, bit_at_set_other, bit_at_clear_same, bit_at_clear_other}
use Rattle.lapd_line.proofs.marks.Marks.set.Goals as goal

pub returns-then-marked : goal.returns-then-marked
returns-then-marked c = record {
  here = bit_at_set_same w64 c.args.self.now.bits c.args.number c.requires ∙ ap digit (sym c.if-marked.true);
  others = λ other low apart. bit_at_set_other w64 c.args.self.now.bits c.args.number c.requires other apart;
}

pub returns-else-marked : goal.returns-else-marked
returns-else-marked c = record {
  here = bit_at_clear_same w64 c.args.self.now.bits c.args.number c.requires ∙ ap digit (sym c.if-marked.false);
  others = bit_at_clear_other w64 c.args.self.now.bits c.args.number c.requires;
}
