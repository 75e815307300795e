-- Hand-written answers for `RawShelfShelf::put`.
use Rattle.lapd_store.proofs.Vocabulary.{◌+◌, ◌*◌, ◌≤◌, length, refl, sym, subst, arith, with_item, Holds, link, IsFree}
use Rattle.lapd_store.proofs.RawSound.{first_slot, first_within, first_free, slot_within, full_at_end, octets_fit, put_stored, put_sound}
use Rattle.lapd_store.proofs.StoreLemmas.{contents_of-with_contents}
use Rattle.lapd_store.proofs.raw_shelf.RawShelfShelf.put.Goals as goal

pub returns-then-self-clause-full : goal.returns-then-self-clause-full
returns-then-self-clause-full c = grind (arith, full_at_end)

pub read_link-self-inside-requires-clause-within : goal.read_link-self-inside-requires-clause-within
read_link-self-inside-requires-clause-within c = grind (arith, slot_within, first_within)

pub read_link-self-inside-requires-clause-linked : goal.read_link-self-inside-requires-clause-linked
read_link-self-inside-requires-clause-linked c =
    let t = first_slot c.self.inside c.self.invariant c.if-self.false c.from-number.result c.from-number.ensures in
    (t.next, subst (λ w. Holds c.self.inside.region (c.from-number.result * w) (link t.next)) (sym c.from.ensures) t.holds)

pub write-requires : goal.write-requires
write-requires c = grind (arith, slot_within, first_within)

pub index_mut-requires : goal.index_mut-requires
index_mut-requires c = omega (arith, first_within c.self.inside c.self.invariant c.if-self.false c.from-number.result c.from-number.ensures, c.self.inside.lengths.ok.0)

pub overflow_add-self : goal.overflow_add-self
overflow_add-self c = record { fits = octets_fit c.self.inside c.self.invariant (length c.args.octets.now) (subst (λ s. length c.args.octets.now ≤ s.width) (sym c.self.view_is) c.requires) }

pub invariant_of-self : goal.invariant_of-self
invariant_of-self c =
    let a = c.self.inside in
    let fits = subst (λ s. length c.args.octets.now ≤ s.width) (sym c.self.view_is) c.requires in
    put_sound a _ c.self.invariant c.from-number.result c.from.result c.from.ensures refl c.if-self.false c.from-number.ensures
    c.args.octets.now c.write.ensures.others c.write.ensures.written fits refl refl refl c.read_link-self-inside.ensures

pub returns-clause-free : goal.returns-clause-free
returns-clause-free c = subst (λ s. IsFree s c.from-number.result) c.self.view_is (first_free c.self.inside c.self.invariant c.if-self.false c.from-number.result c.from-number.ensures)

pub returns-clause-stored : goal.returns-clause-stored
returns-clause-stored c =
    let a = c.self.inside in
    let fits = subst (λ s. length c.args.octets.now ≤ s.width) (sym c.self.view_is) c.requires in
    rw (← c.self.view_is)
    (put_stored a (record { region = c.write.new.self; lengths = with_item a.lengths c.from-number.result (length c.args.octets.now); octets = a.octets + length c.args.octets.now; used = a.used + 1; first = c.read_link-self-inside.result; width = a.width })
    c.self.invariant c.from-number.result c.from.result c.from.ensures refl c.if-self.false c.from-number.ensures
    c.args.octets.now c.write.ensures.others c.write.ensures.written fits refl)

pub returns-clause-held : goal.returns-clause-held
returns-clause-held c = grind (arith, returns-clause-stored, contents_of-with_contents)

pub returns-clause-within : goal.returns-clause-within
returns-clause-within c = (invariant_of-self c).within
