-- Laws of ownership for a queue of slots: it owns each of its slots with the message in it, and others own the rest. As
-- in `Ownership`, each law takes the clauses of the calls that it is about as its premises.
use Rattle.lapd_store.proofs.Vocabulary.{◌≡◌, ℕ, ◌+◌, zero, suc, Some, IsSome, List, [], ◌∷◌, ◌++◌, length, drop, set, refl, sym, ap, subst, ◌∙◌, arith, length-append, length-drop, drop-drop, none-some, same_Some, length-zip, seconds-zip, sum_by, zip, Owned, Keeps, owned_octets, pairs_of, SlotRing, without_oldest_ones, Store, contents_of, IsUsed, IsFree, with_contents, without}
use Rattle.std.specs.List.{slice_get}
use Rattle.lapd_store.specs.Ownership.{Holds}
use Rattle.lapd_store.proofs.Ownership.{values_octets, Holds-put_newest, Holds-release, contents_of-at}

-- one message more, the newest
pub pairs_of-push : (slots : List ℕ) (messages : List (List ℕ)) (slot : ℕ) (octets : List ℕ) → length slots ≡ length messages → pairs_of (slots ++ slot ∷ []) (messages ++ octets ∷ []) ≡ pairs_of slots messages ++ (slot, octets) ∷ []
pairs_of-push [] [] slot octets same = refl
pairs_of-push [] (m ∷ ms) slot octets same = absurd (omega arith)
pairs_of-push (s ∷ ss) [] slot octets same = absurd (omega arith)
pairs_of-push (s ∷ ss) (m ∷ ms) slot octets same = ap (λ l. (s, m) ∷ l) (pairs_of-push ss ms slot octets (omega arith))

-- two lists in pairs, with a new pair at a place
pub zip-set : {X Y : Type 0} (xs : List X) (ys : List Y) (i : ℕ) (x : X) (y : Y) → zip (set xs i x) (set ys i y) ≡ set (zip xs ys) i (x, y)
zip-set [] ys i x y = refl
zip-set (u ∷ us) [] zero x y = refl
zip-set (u ∷ us) [] (suc i) x y = refl
zip-set (u ∷ us) (v ∷ vs) zero x y = refl
zip-set (u ∷ us) (v ∷ vs) (suc i) x y = ap (λ l. (u, v) ∷ l) (zip-set us vs i x y)

-- the pair at a place
pub slice_get-pairs_of : (slots : List ℕ) (messages : List (List ℕ)) (i slot : ℕ) → length slots ≡ length messages → slice_get slots i ≡ Some slot → (octets : List ℕ) × (slice_get messages i ≡ Some octets) × (slice_get (pairs_of slots messages) i ≡ Some (slot, octets))
slice_get-pairs_of [] messages i slot same is = absurd (none-some slot is)
slice_get-pairs_of (s ∷ ss) [] i slot same is = absurd (omega arith)
slice_get-pairs_of (s ∷ ss) (m ∷ ms) zero slot same is = (m, refl, ap (λ n. Some (n, m)) (same_Some s slot is))
slice_get-pairs_of (s ∷ ss) (m ∷ ms) (suc i) slot same is = slice_get-pairs_of ss ms i slot (omega arith) is

pub length-pairs_of : (slots : List ℕ) (messages : List (List ℕ)) → length slots ≡ length messages → length (pairs_of slots messages) ≡ length slots
length-pairs_of slots messages same = omega (arith, length-zip slots messages)

-- the octets of a queue are those of its messages
pub owned_octets-pairs_of : (slots : List ℕ) (messages : List (List ℕ)) → length slots ≡ length messages → owned_octets (pairs_of slots messages) ≡ sum_by length messages
owned_octets-pairs_of slots messages same = sym (values_octets 0 (pairs_of slots messages)) ∙ ap (sum_by length) (seconds-zip slots messages (sym same))

-- a slot of the queue has the message at its place
pub contents_of-queue : {s : Store} (slots : List ℕ) (messages : List (List ℕ)) (others : List Owned) (i slot : ℕ) → length slots ≡ length messages → slice_get slots i ≡ Some slot → Holds s (pairs_of slots messages ++ others) → contents_of s slot ≡ slice_get messages i
contents_of-queue slots messages others i slot same is held =
    let (octets, message, pair) = slice_get-pairs_of slots messages i slot same is in
    contents_of-at (pairs_of slots messages) others i slot octets pair held ∙ sym message

-- and is in use
pub IsUsed-queue : {s : Store} (slots : List ℕ) (messages : List (List ℕ)) (others : List Owned) (i slot : ℕ) → length slots ≡ length messages → slice_get slots i ≡ Some slot → Holds s (pairs_of slots messages ++ others) → IsUsed s slot
IsUsed-queue slots messages others i slot same is held =
    let (octets, message, pair) = slice_get-pairs_of slots messages i slot same is in
    subst IsSome (sym (contents_of-at (pairs_of slots messages) others i slot octets pair held)) refl

-- after a `put` whose slot is pushed, the queue has one message more
pub Holds-queue_put : {old new : Store} (slots : List ℕ) (messages : List (List ℕ)) (others : List Owned) (slot : ℕ) (octets : List ℕ) → length slots ≡ length messages → IsFree old slot → new ≡ with_contents old slot octets → Holds old (pairs_of slots messages ++ others) → Holds new (pairs_of (slots ++ slot ∷ []) (messages ++ octets ∷ []) ++ others)
Holds-queue_put {new = new} slots messages others slot octets same free stored held =
    subst (λ l. Holds new (l ++ others)) (sym (pairs_of-push slots messages slot octets same))
    (Holds-put_newest slot octets (pairs_of slots messages) others free stored held)

-- after a `release` of the slot that was popped, the queue is without its oldest message
pub Holds-queue_release : {old new : Store} (slots : List ℕ) (messages : List (List ℕ)) (others : List Owned) (slot : ℕ) → length slots ≡ length messages → slice_get slots 0 ≡ Some slot → new ≡ without old slot → Holds old (pairs_of slots messages ++ others) → Holds new (pairs_of (drop 1 slots) (drop 1 messages) ++ others)
Holds-queue_release [] messages others slot same is released held = absurd (none-some slot is)
Holds-queue_release (s ∷ ss) [] others slot same is released held = absurd (omega arith)
Holds-queue_release {old} (s ∷ ss) (m ∷ ms) others slot same is released held = grind (arith, Holds-release, same_Some)

-- The same of a queue whose messages a store keeps.

-- a slot of the queue is in use
pub Keeps-used : {s : Store} (slots : List ℕ) (messages : List (List ℕ)) (others : List Owned) (i slot : ℕ) → slice_get slots i ≡ Some slot → Keeps s slots messages others → IsUsed s slot
Keeps-used slots messages others i slot is kept = IsUsed-queue slots messages others i slot kept.lengths is kept.held

-- and has the message at its place
pub Keeps-at : {s : Store} (slots : List ℕ) (messages : List (List ℕ)) (others : List Owned) (i slot : ℕ) → slice_get slots i ≡ Some slot → Keeps s slots messages others → contents_of s slot ≡ slice_get messages i
Keeps-at slots messages others i slot is kept = contents_of-queue slots messages others i slot kept.lengths is kept.held

-- after a `put` whose slot is pushed, one message more is kept
pub Keeps-put : {old new : Store} (slots : List ℕ) (messages : List (List ℕ)) (others : List Owned) (slot : ℕ) (octets : List ℕ) → IsFree old slot → new ≡ with_contents old slot octets → Keeps old slots messages others → Keeps new (slots ++ slot ∷ []) (messages ++ octets ∷ []) others
Keeps-put slots messages others slot octets free stored kept = grind (arith, length-append, Holds-queue_put)

-- after a `release` of the slot that was popped, the messages but the oldest are kept
pub Keeps-release : {old new : Store} (slots : List ℕ) (messages : List (List ℕ)) (others : List Owned) (slot : ℕ) → slice_get slots 0 ≡ Some slot → new ≡ without old slot → Keeps old slots messages others → Keeps new (drop 1 slots) (drop 1 messages) others
Keeps-release slots messages others slot is released kept = grind (arith, length-drop, Holds-queue_release)

-- so many are gone, and one more
pub Keeps-one_less : {s : Store} (slots : List ℕ) (messages : List (List ℕ)) (others : List Owned) (n : ℕ) → Keeps s slots (drop 1 (drop n messages)) others → Keeps s slots (drop (n + 1) messages) others
Keeps-one_less {s} slots messages others n = subst (λ l. Keeps s slots l others) (drop-drop 1 n messages)

pub without-one_less : (old mid new : SlotRing) (n : ℕ) → mid ≡ without_oldest_ones n old → new ≡ without_oldest_ones 1 mid → new ≡ without_oldest_ones (n + 1) old
without-one_less old mid new n first second = second ∙ ap (without_oldest_ones 1) first ∙ ap (λ l. record old { slots = l }) (drop-drop 1 n old.slots)
