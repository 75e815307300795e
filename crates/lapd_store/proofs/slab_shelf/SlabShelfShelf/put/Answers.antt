-- Hand-written answers for `SlabShelfShelf::put`.
use Rattle.lapd_store.proofs.Vocabulary.{◌≡◌, ◌+◌, ◌≤◌, ◌<◌, length, sym, subst, arith, slab_store, IsSoundSlab, used_slots, with_contents}
use Rattle.lapd_store.proofs.SlabLemmas.{octets_fit, IsFree-slab, IsSoundSlab-put, slab_store-put}
use Rattle.lapd_store.proofs.StoreLemmas.{contents_of-with_contents}
use Rattle.lapd_store.proofs.slab_shelf.SlabShelfShelf.put.Goals as goal

pub overflow_add-self : goal.overflow_add-self
overflow_add-self c =
    let fits = subst (λ s. length c.args.octets.now ≤ s.width) (sym c.self.view_is) c.requires in
    omega (arith, octets_fit c.self.inside c.self.invariant (length c.args.octets.now) (omega (arith, fits, c.self.invariant.narrow)))

-- the fields after the put are sound
sound : (c : goal.After-self-1) → IsSoundSlab (record { contents = c.insert_copy-number.new.contents; octets = c.self.inside.octets + length c.args.octets.now; slots = c.self.inside.slots; width = c.self.inside.width })
sound c =
    let count = subst (λ s. c.used.result ≡ used_slots s) (sym c.self.view_is) c.used.ensures.count in
    let room : used_slots (slab_store c.self.inside) < c.self.inside.slots = omega (arith, count, c.self.invariant.within.count, c.if-used-self.false) in
    let fits = subst (λ s. length c.args.octets.now ≤ s.width) (sym c.self.view_is) c.requires in
    let says = c.insert_copy-number.ensures in
    IsSoundSlab-put c.self.inside c.self.invariant c.insert_copy-number.new.contents c.insert_copy-number.result c.args.octets.now room fits says.was_vacant says.updates says.len says.capacity

pub invariant_of-self : goal.invariant_of-self
invariant_of-self c = sound c

pub returns-clause-free : goal.returns-clause-free
returns-clause-free c = grind (arith, IsFree-slab)

-- the store after the put is that before it with the new contents
stored : (c : goal.After-self-1) → slab_store (record { contents = c.insert_copy-number.new.contents; octets = c.self.inside.octets + length c.args.octets.now; slots = c.self.inside.slots; width = c.self.inside.width }) ≡ with_contents (slab_store c.self.inside) c.insert_copy-number.result c.args.octets.now
stored c = slab_store-put c.self.inside c.self.invariant c.insert_copy-number.new.contents c.insert_copy-number.result c.args.octets.now c.insert_copy-number.ensures.updates

pub returns-clause-held : goal.returns-clause-held
returns-clause-held c = grind (arith, stored, contents_of-with_contents)

pub returns-clause-stored : goal.returns-clause-stored
returns-clause-stored c = rw (← c.self.view_is) (stored c)

pub returns-clause-within : goal.returns-clause-within
returns-clause-within c = (sound c).within
