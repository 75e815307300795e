-- Requests of layer 3.
use Rattle.lapd_link.proofs.Vocabulary.{◌≡◌, ℕ, ◌<◌, ◌≤◌, Bool, Bor, true, List, [], ◌∷◌, ◌++◌, length, drop, Option, Some, None, sym, ap, subst, ◌∙◌, arith, length-append, if◌then◌else◌, drop-append-le, Store, Owned, Keeps, Refusal, WrongState, Terms, Request, requested, Course, begun, data_in_7_8, serves, refusal, refusal_for_room, granted, course, Entity, BareReport, Agrees, IsClear, Took}
use Rattle.lapd_link.proofs.Vocabulary.{begun-resting, few_gone, Link, LinkRequest, Data, request_of, LinkStands, Stays, terms_of}
use Rattle.model_link.specs.Link as machine
use Rattle.lapd_link.proofs.Ending.{reached}

-- a request that the state serves
pub served : (t : Terms) (m : machine.Link) (pool_is_full : Bool) (r : Request) → serves t.reading m.state m.owed r ≡ true → refusal t m pool_is_full r ≡ refusal_for_room t m pool_is_full r
served t m pool_is_full r does = ap (λ (b : Bool). if b then refusal_for_room t m pool_is_full r else Some WrongState) does

-- a request that is not refused
pub granted-course : (t : Terms) (r : Request) (pool_is_full : Bool) (m : machine.Link) → refusal t m pool_is_full r ≡ None → granted t r (begun m) ≡ course t (requested r pool_is_full) m
granted-course t r pool_is_full m none =
    ap (λ (o : Option Refusal). elim o as (λ _. Course) [ None ↦ granted t r (begun m) | Some _ ↦ begun m ]) (sym none)

-- contents that were put on the shelf and at the end of the queue
pub transferred : {link : Link} {store : Store} {others : List Owned} {m : machine.Link} {none : BareReport} (octets : List ℕ) → LinkStands link store others m → length link.queue.slots < link.queue.capacity → IsClear none → Agrees (terms_of link) [] (machine.queue_of m ++ octets ∷ []) (data_in_7_8 octets (begun m)) link.entity none
transferred {m = m} octets s place nothing =
    let few : length (machine.queue_of m ++ octets ∷ []) ≤ 127 =
    omega (arith, length-append (machine.queue_of m) (octets ∷ []), s.kept.lengths, place, s.fits.capacity, s.fits.range.queue_high) in
    record {
      fits =
          record {
            window = s.fits.rests.window;
            received = s.fits.rests.received;
            ring = s.fits.rests.ring;
            queue =
                ap (λ (n : ℕ). drop n (machine.queue_of m ++ octets ∷ [])) nothing.released
                ∙ sym (drop-append-le m.a m.contents (octets ∷ []) (omega (arith, s.fits.sound.ordered, s.fits.sound.accepted)));
            few = few;
            cause = nothing.cause;
            given_up = sym (few_gone few nothing.whole);
            whole = λ some. absurd (omega (arith, some, few, nothing.whole));
          };
      is = ap (λ (c : Course). data_in_7_8 octets c) (begun-resting [] s.fits.rests nothing);
    }

-- what was done of a request that is granted, before it settles
pub record Granted (r : LinkRequest) (old link : Link) (store : Store) (t : BareReport) (others : List Owned) (m : machine.Link) : Type 0 where
  pub messages : List (List ℕ)
  pub kept : Keeps store link.queue.slots messages others
  pub agrees : Agrees (terms_of link) [] messages (granted (terms_of old) (request_of r) (begun m)) link.entity t

pub granted_as : {r r' : LinkRequest} {old link link' : Link} {store store' : Store} {t t' : BareReport} {others : List Owned} {m : machine.Link} → r ≡ r' → link ≡ link' → store ≡ store' → t ≡ t' → Granted r' old link' store' t' others m → Granted r old link store t others m
granted_as {r} {r'} {old} {link} {link'} {store} {store'} {t} {t'} {others} {m} asked is stored told h =
    subst (λ x. Granted x old link store t others m) (sym asked)
    (subst (λ x. Granted r' old x store t others m) (sym is)
    (subst (λ x. Granted r' old link' x t others m) (sym stored)
    (subst (λ x. Granted r' old link' store' x others m) (sym told) h)))

-- the rows of the entity did it,
pub by_rows : {link : Link} {store : Store} {others : List Owned} {m : machine.Link} {e : Entity} {t : BareReport} (r : LinkRequest) → Took (terms_of link) [] (granted (terms_of link) (request_of r)) link.entity e t → LinkStands link store others m → Granted r link (record link { entity = e }) store t others m
by_rows {m = m} r took s = record { messages = machine.queue_of m; kept = s.kept; agrees = reached took s }

-- or contents went to the end of the queue
pub by_contents : {old link : Link} {store new : Store} {others : List Owned} {m : machine.Link} {none : BareReport} (octets : Bor (List ℕ)) → LinkStands old store others m → length old.queue.slots < old.queue.capacity → IsClear none
    → ((messages : List (List ℕ)) (others : List Owned) → Keeps store old.queue.slots messages others → Keeps new link.queue.slots (messages ++ octets.now ∷ []) others)
    → link.entity ≡ old.entity → Stays old link → Granted (Data octets) old link new none others m
by_contents {old} {link} {others = others} {m} {none} octets s place nothing kept entity stays = record {
  messages = machine.queue_of m ++ octets.now ∷ [];
  kept = kept (machine.queue_of m) others s.kept;
  agrees =
      subst (λ (t : Terms). Agrees t [] (machine.queue_of m ++ octets.now ∷ []) (data_in_7_8 octets.now (begun m)) link.entity none) (sym stays.terms)
      (subst (λ (e : Entity). Agrees (terms_of old) [] (machine.queue_of m ++ octets.now ∷ []) (data_in_7_8 octets.now (begun m)) e none) (sym entity)
      (transferred octets.now s place nothing));
}
