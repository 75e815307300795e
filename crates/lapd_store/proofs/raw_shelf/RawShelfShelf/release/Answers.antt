-- Hand-written answers for `RawShelfShelf::release`.
use Rattle.lapd_store.proofs.Vocabulary.{◌-◌, refl, arith, with_item}
use Rattle.lapd_store.proofs.RawLemmas.{read_length}
use Rattle.lapd_store.proofs.RawSound.{used_slot, release_stored, release_sound}
use Rattle.lapd_store.proofs.raw_shelf.RawShelfShelf.release.Goals as goal

pub index-requires : goal.index-requires
index-requires c = let u = used_slot c.self.invariant c.self.view_is c.slot.view_is c.requires in omega (arith, u.there, c.self.inside.lengths.ok.0)

pub overflow_sub-self : goal.overflow_sub-self
overflow_sub-self c = grind (arith, used_slot, read_length)

pub overflow_sub-self-2 : goal.overflow_sub-self-2
overflow_sub-self-2 c = let u = used_slot c.self.invariant c.self.view_is c.slot.view_is c.requires in u.one

pub index_mut-requires : goal.index_mut-requires
index_mut-requires c = let u = used_slot c.self.invariant c.self.view_is c.slot.view_is c.requires in omega (arith, u.there, c.self.inside.lengths.ok.0)

pub overflow_mul-number : goal.overflow_mul-number
overflow_mul-number c = grind (arith, used_slot)

pub write_link-requires : goal.write_link-requires
write_link-requires c = grind (arith, used_slot)

pub overflow_cast-self : goal.overflow_cast-self
overflow_cast-self c = let u = used_slot c.self.invariant c.self.view_is c.slot.view_is c.requires in omega (arith, u.there, c.self.invariant.few)

pub invariant_of-self : goal.invariant_of-self
invariant_of-self c = grind (arith, used_slot, read_length, release_sound)

pub returns-clause-released : goal.returns-clause-released
returns-clause-released c =
    let a = c.self.inside in
    let n = c.slot.inside.number in
    let u = used_slot c.self.invariant c.self.view_is c.slot.view_is c.requires in
    rw (← c.self.view_is, ← c.slot.view_is)
    (release_stored a (record { region = c.write_link.new.region; lengths = with_item a.lengths n 65535; octets = a.octets - c.from.result; used = a.used - 1; first = n; width = a.width })
    c.self.invariant n c.from-2.result c.from-2.ensures refl u c.write_link.ensures.others c.write_link.ensures.linked refl)

pub returns-clause-within : goal.returns-clause-within
returns-clause-within c = (invariant_of-self c).within
