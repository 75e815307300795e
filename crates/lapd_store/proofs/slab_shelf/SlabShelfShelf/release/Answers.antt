-- Hand-written answers for `SlabShelfShelf::release`.
use Rattle.lapd_store.proofs.Vocabulary.{◌-◌, ap, ◌∙◌, arith, option_map, slab_store, IsSoundSlab}
use Rattle.lapd_store.proofs.SlabLemmas.{contents_of-slab, ContainsKey-slab, IsSoundSlab-release, slab_store-release}
use Rattle.lapd_store.proofs.StoreLemmas.{stored_octets-without}
use Rattle.lapd_store.proofs.slab_shelf.SlabShelfShelf.release.Goals as goal

pub remove-contents-requires : goal.remove-contents-requires
remove-contents-requires c = grind (arith, ContainsKey-slab)

pub overflow_sub-self : goal.overflow_sub-self
overflow_sub-self c =
    let held = contents_of-slab c.self.inside c.self.invariant c.slot.inside.number ∙ ap (option_map (λ v. v.items)) c.remove-contents.ensures.value in
    let less = stored_octets-without (slab_store c.self.inside) c.slot.inside.number c.remove-contents.result.items held in
    omega (arith, less, c.len.ensures.value, c.self.invariant.measured)

-- the fields after the release are sound
sound : (c : goal.After-self-1) → IsSoundSlab (record { contents = c.remove-contents.new.self; octets = c.self.inside.octets - c.len.result; slots = c.self.inside.slots; width = c.self.inside.width })
sound c =
    let says = c.remove-contents.ensures in
    let held = contents_of-slab c.self.inside c.self.invariant c.slot.inside.number ∙ ap (option_map (λ v. v.items)) says.value in
    rw c.len.ensures.value
    (IsSoundSlab-release c.self.inside c.self.invariant c.remove-contents.new.self c.slot.inside.number c.remove-contents.result.items held says.updates says.len says.capacity)

pub invariant_of-self : goal.invariant_of-self
invariant_of-self c = sound c

pub returns-clause-released : goal.returns-clause-released
returns-clause-released c =
    rw (← c.self.view_is, ← c.slot.view_is)
    (slab_store-release c.self.inside c.self.invariant c.remove-contents.new.self c.slot.inside.number c.remove-contents.result.items c.remove-contents.ensures.updates)

pub returns-clause-within : goal.returns-clause-within
returns-clause-within c = (sound c).within
