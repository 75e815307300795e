-- A line begins: what its parts are, and that they stand for an empty past.
use Rattle.lapd_line.proofs.Vocabulary.{◌≡◌, ℕ, ◌<◌, ◌≤◌, List, [], ◌∷◌, ◌++◌, length, replicate, Some, None, refl, sym, ap, subst, ◌∙◌, arith, get_or-replicate, All-nil, All-cons, All-head, All-tail, All, zip, Owned, Holds, pairs_of, Store, empty_store, Holds-empty, Managing, Link, terms_of, fresh, queue_of, Config, place_at, link_count, fresh_line, IsInRange, fresh_sound, place_within}
use Rattle.lapd_line.proofs.Vocabulary.{ranges_of, Marks, AreMarked, false, LayerStands, LinkFits, links_pairs, IsBegun, AreBegun, UnitRing, AreFor, empty_ring, unit_pairs}
use Rattle.std.proofs.Common.{Vec, Global}
use Rattle.lapd_line.specs.Managing.{IsBegunBy}
use Rattle.lapd_link.specs.Stands as link
use Rattle.lapd_link.specs.Stands.{slots_of}
use Rattle.lapd_line.proofs.AwakeSteps.{awake_first}

-- a link that was just started
pub begun : (c : Config) (x : Link) → IsInRange c
    → ((store : Store) (others : List Owned) → 8 ≤ store.width → Holds store others → link.LinkStands x store others fresh)
    → (terms_of x).queue ≡ c.queue → (terms_of x).control ≡ c.control → IsBegun c x
begun c x ranged h queue control =
    let st = h (empty_store 0 8) [] (omega arith) (Holds-empty 0 8) in
    record { fits = st.fits; lengths = st.kept.lengths; narrow = omega (arith, st.wide, (ranges_of c ranged).n201.least); queue = queue; control = control }

-- it can be started
pub may_start : (c : Config) → IsInRange c → (1 ≤ c.queue) × (c.queue ≤ 127) × (2 ≤ c.control) × (c.control ≤ 16)
may_start c ranged =
    let r = ranges_of c ranged in
    (omega (arith, r.k.least, r.queue.least), r.queue.most, r.control.least, r.control.most)

-- and there is room for it
pub room_left : {len capacity index count : ℕ} → len ≡ index → capacity ≡ count → index < count → len < capacity
room_left {len} {capacity} {index} {count} here all h = omega arith

links_fit : (c : Config) (links : List Link) → All (IsBegun c) links → All (LinkFits c) (zip links (replicate (length links) fresh))
links_fit c [] h = All-nil (LinkFits c)
links_fit c (x ∷ links) h =
    All-cons (LinkFits c) (x, fresh) (zip links (replicate (length links) fresh)) (All-head (IsBegun c) x links h) (links_fit c links (All-tail (IsBegun c) x links h))

-- no slots are owned
no_slots : (slots : List ℕ) (messages : List (List ℕ)) → messages ≡ [] → length slots ≡ length messages → pairs_of slots messages ≡ []
no_slots [] messages none same = refl
no_slots (x ∷ slots) [] none same = cc
no_slots (x ∷ slots) (m ∷ messages) none same = cc

no_pairs : (c : Config) (links : List Link) → All (IsBegun c) links → links_pairs links (replicate (length links) fresh) ≡ []
no_pairs c [] h = refl
no_pairs c (x ∷ links) h =
    ap (λ l. l ++ links_pairs links (replicate (length links) fresh)) (no_slots (slots_of x) (queue_of fresh) refl (All-head (IsBegun c) x links h).lengths)
    ∙ no_pairs c links (All-tail (IsBegun c) x links h)

absurd_none : {A : Type 0} {x : ℕ} → None ≡ Some x → A
absurd_none h = cc

-- the entities, of parts that were just started
pub layer_fresh : (c : Config) (teis : Managing) (links : Vec Link Global) (units : UnitRing) (has_frame : Marks) → IsInRange c → IsBegunBy c teis → AreBegun c links.items → units ≡ empty_ring c.unit_queue → AreMarked has_frame (λ number. false)
    → (store : Store) (others : List Owned) → c.n201 ≤ store.width → Holds store others
    → LayerStands (record { config = c; teis = teis; links = links; units = units; turn = 0; has_frame = has_frame }) store others (fresh_line c)
layer_fresh c teis links units has_frame ranged is_teis b is_units none store others wide held = record {
  range = ranged;
  wide = wide;
  sound = fresh_sound c ranged;
  management = sym is_teis.management;
  own = sym is_teis.own;
  kind = is_teis.kind;
  count = b.count;
  links = subst (λ n. All (LinkFits c) (zip links.items (replicate n fresh))) b.count (links_fit c links.items b.begun);
  terms = λ number tei within at.
      let free = get_or-replicate c.terminals (place_at number) None None (place_within number c.terminals within) in
      absurd_none (sym free ∙ at);
  addressed = subst (λ u. AreFor u.waiting []) (sym is_units) tt;
  capacity = ap (λ u. u.capacity) is_units;
  turn = refl;
  has_frame = awake_first has_frame links.items (link_count c) none;
  held = subst (λ ps. Holds store ((ps ++ unit_pairs units.waiting []) ++ others)) (sym (subst (λ n. links_pairs links.items (replicate n fresh) ≡ []) b.count (no_pairs c links.items b.begun)))
      (subst (λ u. Holds store (unit_pairs u.waiting [] ++ others)) (sym is_units) held);
}
