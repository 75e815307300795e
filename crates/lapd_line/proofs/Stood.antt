-- What a line owns on the shelf: that it is held there, that the line may stand on another shelf that holds it, and how
-- many slots and octets it is.
use Rattle.lapd_line.proofs.Vocabulary.{◌≡◌, ℕ, ◌+◌, ◌≤◌, zero, suc, List, ◌++◌, length, take, get_or, refl, sym, ap, ◌∙◌, arith, length-append, length-map, take_all, fold-map, sum_by_more, sum_by, range_with_len, Owned, Holds, owned_octets, Store, slots-machines, octets-machines, owned_octets-append, length-pairs_of, owned_octets-pairs_of, Link, queue_of, Config, UnitData, slots_of, octets_of}
use Rattle.lapd_line.proofs.Vocabulary.{sum_of_links, slots_by_link, octets_by_link, total_length, unit_contents, unit_length, LinkLayer, QueuedUnit, FrameLine, LinkFits, link_pairs, links_pairs, config_of, line_pairs, AreFor, unit_pairs, messages_of, LayerStands, LineStands}
use Rattle.lapd_link.specs.Stands as link
use Rattle.model_link.specs.Link as machine
use Rattle.model_line.specs.Line as machine_line
use Rattle.lapd_line.specs.Units as units
use Rattle.lapd_line.proofs.HeldSteps.{sum_next}
use Rattle.lapd_line.proofs.LayerSteps.{stands_as}
use Rattle.lapd_line.proofs.PullTakesUnits.{as_many}

-- what a line owns is held beside what others own
pub held_of : (x : FrameLine) (s : Store) (others : List Owned) (m : machine_line.Line) → LineStands x s others m → Holds s (line_pairs x m ++ others)
held_of x s others m st = st.layer.held

-- and where another shelf holds it, the entities stand there too,
pub on_shelf : {e : LinkLayer} {s t : Store} {others rest : List Owned} {m : machine_line.Line} → LayerStands e s others m → e.config.n201 ≤ t.width
    → Holds t ((links_pairs e.links.items m.links ++ unit_pairs e.units.waiting m.units) ++ rest) → LayerStands e t rest m
on_shelf {e} {t = t} {rest = rest} {m} st wide held = stands_as st e.teis e.units t rest m (refl, refl, refl, refl) wide st.sound (st.management, st.own, st.kind) st.addressed held

-- and so does the line
pub stands_on : (x : FrameLine) (s : Store) (others : List Owned) (m : machine_line.Line) → LineStands x s others m → (t : Store) (rest : List Owned) → (config_of x).n201 ≤ t.width → Holds t (line_pairs x m ++ rest)
    → LineStands x t rest m
stands_on x s others m st t rest wide held = record { layer = on_shelf st.layer wide held }

-- a sum over the places of a list is the sum over its elements
sum_taken : {X : Type 0} (f : X → ℕ) (xs : List X) (d : X) (n : ℕ) → n ≤ length xs → sum_by (λ i. f (get_or xs i d)) (range_with_len 0 n) ≡ sum_by f (take n xs)
sum_taken f xs d zero few = refl
sum_taken f xs d (suc n) few =
    let next : suc n ≡ n + 1 = omega arith in
    let there : 0 + n ≡ n = omega arith in
    ap (λ k. sum_by (λ i. f (get_or xs i d)) (range_with_len 0 k)) next
    ∙ sum_next (λ i. f (get_or xs i d)) 0 n
    ∙ ap (λ i. sum_by (λ i. f (get_or xs i d)) (range_with_len 0 n) + f (get_or xs i d)) there
    ∙ ap (λ k. k + f (get_or xs n d)) (sum_taken f xs d n (omega (arith, few)))
    ∙ sym (sum_by_more f xs n d (omega (arith, few)))
    ∙ ap (λ k. sum_by f (take k xs)) (sym next)

sum_places : {X : Type 0} (f : X → ℕ) (xs : List X) (d : X) (n : ℕ) → length xs ≡ n → sum_by (λ i. f (get_or xs i d)) (range_with_len 0 n) ≡ sum_by f xs
sum_places f xs d n same = sum_taken f xs d n (omega (arith, same)) ∙ ap (λ k. sum_by f (take k xs)) (sym same) ∙ ap (sum_by f) (take_all (length xs) xs (omega arith))

-- what a link owns
slots_fit : (c : Config) (p : Link × machine.Link) → LinkFits c p → length (link_pairs p) ≡ length (queue_of p.1)
slots_fit c p fit = length-pairs_of (link.slots_of p.0) (queue_of p.1) fit.lengths ∙ fit.lengths

octets_fit : (c : Config) (p : Link × machine.Link) → LinkFits c p → owned_octets (link_pairs p) ≡ total_length (queue_of p.1)
octets_fit c p fit = owned_octets-pairs_of (link.slots_of p.0) (queue_of p.1) fit.lengths

-- and all links
pub slots_of_links : (e : LinkLayer) (s : Store) (others : List Owned) (m : machine_line.Line) → LayerStands e s others m → length (links_pairs e.links.items m.links) ≡ sum_of_links e.config (slots_by_link m)
slots_of_links e s others m st =
    slots-machines link_pairs (λ l. length (queue_of l)) e.links.items m.links (st.count ∙ sym st.sound.count) (λ k d within. slots_fit e.config _ (st.links k d within))
    ∙ sym (sum_places (λ l. length (queue_of l)) m.links machine.fresh (machine_line.link_count e.config) st.sound.count)

pub octets_of_links : (e : LinkLayer) (s : Store) (others : List Owned) (m : machine_line.Line) → LayerStands e s others m → owned_octets (links_pairs e.links.items m.links) ≡ sum_of_links e.config (octets_by_link m)
octets_of_links e s others m st =
    octets-machines link_pairs (λ l. total_length (queue_of l)) e.links.items m.links (st.count ∙ sym st.sound.count) (λ k d within. octets_fit e.config _ (st.links k d within))
    ∙ sym (sum_places (λ l. total_length (queue_of l)) m.links machine.fresh (machine_line.link_count e.config) st.sound.count)

-- and the unit data that waits
pub slots_of_units : (us : List QueuedUnit) (ds : List UnitData) → AreFor us ds → length (unit_pairs us ds) ≡ length ds
slots_of_units us ds same = length-pairs_of (units.slots_of us) (messages_of ds) (as_many us ds same) ∙ as_many us ds same ∙ length-map ds unit_contents

pub octets_of_units : (us : List QueuedUnit) (ds : List UnitData) → AreFor us ds → owned_octets (unit_pairs us ds) ≡ sum_by unit_length ds
octets_of_units us ds same = owned_octets-pairs_of (units.slots_of us) (messages_of ds) (as_many us ds same) ∙ fold-map (λ a octets. a + length octets) unit_contents 0 ds

-- the entities own as many slots as the machine keeps contents, and as many octets as are in them
pub slots_owned : {e : LinkLayer} {s : Store} {others : List Owned} {m : machine_line.Line} → LayerStands e s others m
    → length (links_pairs e.links.items m.links ++ unit_pairs e.units.waiting m.units) ≡ slots_of e.config m
slots_owned {e} {s} {others} {m} st =
    omega (arith, slots_of_links e s others m st, slots_of_units e.units.waiting m.units st.addressed, length-append (links_pairs e.links.items m.links) (unit_pairs e.units.waiting m.units))

pub octets_owned : {e : LinkLayer} {s : Store} {others : List Owned} {m : machine_line.Line} → LayerStands e s others m
    → owned_octets (links_pairs e.links.items m.links ++ unit_pairs e.units.waiting m.units) ≡ octets_of e.config m
octets_owned {e} {s} {others} {m} st =
    omega (arith, octets_of_links e s others m st, octets_of_units e.units.waiting m.units st.addressed, owned_octets-append (links_pairs e.links.items m.links) (unit_pairs e.units.waiting m.units))

-- and so does a line
pub slots-pairs : (x : FrameLine) (s : Store) (others : List Owned) (m : machine_line.Line) → LineStands x s others m → length (line_pairs x m) ≡ slots_of (config_of x) m
slots-pairs x s others m st = slots_owned st.layer

pub octets-pairs : (x : FrameLine) (s : Store) (others : List Owned) (m : machine_line.Line) → LineStands x s others m → owned_octets (line_pairs x m) ≡ octets_of (config_of x) m
octets-pairs x s others m st = octets_owned st.layer
