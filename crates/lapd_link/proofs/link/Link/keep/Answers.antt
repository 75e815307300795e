-- Hand-written answers for `Link::keep`.
use Rattle.lapd_link.proofs.Vocabulary.{ℕ, List, [], ◌∷◌, ◌++◌, sym, ap, subst, Keeps, SlotRing, Keeps-put}
use Rattle.lapd_link.proofs.link.Link.keep.Goals as goal

pub returns-in-Some-clause-kept : goal.returns-in-Some-clause-kept
returns-in-Some-clause-kept g c = λ messages others kept.
    subst (λ (slots : List ℕ). Keeps (g.S.Shelf.store c.put.new.self) slots (messages ++ c.args.octets.now ∷ []) others)
    (sym (ap (λ (q : SlotRing). q.slots) c.push.ensures))
    (Keeps-put c.args.self.now.queue.slots messages others c.in-Some.slot c.args.octets.now c.in-Some.ensures.free c.in-Some.ensures.stored kept)
