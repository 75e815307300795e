-- Hand-written answers for `Units::save_one`.
use Rattle.lapd_line.proofs.Vocabulary.{◌≤◌, slice_get_within, sym, subst, ◌∙◌}
use Rattle.std.proofs.lemmas.Option.{get_or_from_slice_get}
use Rattle.lapd_image.specs.Puts.{Puts}
use Rattle.model_bits.specs.StuffingLaws.{AreOctets}
use Rattle.model_line.specs.Image.{unit as image}
use Rattle.lapd_line.proofs.SavedSteps.{unit_at, unit_found}
use Rattle.lapd_line.proofs.units.Units.save_one.Goals as goal

pub get-requires : goal.get-requires
get-requires g c =
    let (others, units, st) = c.requires.stands in
    (unit_at c.args.self.now.waiting units c.args.index c.in-Some.unit (sym c.at.ensures ∙ c.in-Some.is) st).used

pub put_unit-requires-clause-tei : goal.put_unit-requires-clause-tei
put_unit-requires-clause-tei g c =
    let is = sym c.at.ensures ∙ c.in-Some.is in
    subst (λ u. u.tei ≤ 127) (get_or_from_slice_get c.args.self.now.waiting c.args.index c.in-Some.unit c.in-Some.unit is)
    (c.requires.teis c.args.index c.in-Some.unit (slice_get_within c.args.self.now.waiting c.args.index c.in-Some.unit is))

pub returns-in-Some-clause-puts : goal.returns-in-Some-clause-puts
returns-in-Some-clause-puts g c = λ others units u st found.
    subst (λ d. Puts (image d) c.args.at c.args.out.now c.put_unit.result c.put_unit.new.out)
    (unit_found c.args.index c.in-Some.unit u c.get.result.now (sym c.at.ensures ∙ c.in-Some.is) st found c.get.ensures.octets) c.put_unit.ensures.puts

pub returns-in-Some-clause-saved : goal.returns-in-Some-clause-saved
returns-in-Some-clause-saved g c = λ others units u st found.
    subst (λ d. AreOctets d.contents) (unit_found c.args.index c.in-Some.unit u c.get.result.now (sym c.at.ensures ∙ c.in-Some.is) st found c.get.ensures.octets) c.put_unit.ensures.saved
