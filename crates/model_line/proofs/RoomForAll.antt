-- A line uses no more slots than its queues have places, and fewer where contents are accepted.
use Rattle.model_line.proofs.Vocabulary.{◌≡◌, ℕ, zero, suc, ◌+◌, ◌*◌, ◌≤◌, ◌<◌, true, false, not, List, [], ◌∷◌, length, Option, Some, None, is_some, refl, ap, sym, ⊎_elim, arith, and_parts, true≢false, sum_by, range_with_len, option_map_or, leb-false, cases_eq, sum_by-cons, Service, fresh, queue_of, serves, is_queue_full, place_of-is, at-within, Config, Event, Line, link_number, link_count}
use Rattle.model_line.proofs.Vocabulary.{place_in, link_in, terms, takes_slot, Row, first_that_holds, bad_tei, no_link, bad_tei_or_group, no_link_nor_group, wrong_state, too_long, queue_full, unit_queue_full, pool_full, refusal, Request, Data, Unit, carries_contents, IsSound, slots_by_link, slots_of, LinkData}
use Rattle.model_line.proofs.Numbers.{number_within, sum_bounded}
use Rattle.model_line.proofs.ProperAims.{skipped}
use Rattle.model_line.proofs.SoundParts.{any_link}

-- All places of a line's queues.
abbrev pub places_of : Config → ℕ
places_of c = 2 * c.terminals * c.queue + c.unit_queue

link_slots : (c : Config) (l : Line) → IsSound c l → (n : ℕ) → n < link_count c → slots_by_link l n ≤ c.queue
link_slots c l s n few = any_link c l s n few (λ t x. length (queue_of x) ≤ c.queue) (omega arith) (λ tei at sound. sound.queue)

pub slots_few : (c : Config) (l : Line) → IsSound c l → slots_of c l ≤ places_of c
slots_few c l s = omega (arith, (sum_bounded (slots_by_link l) 0 (link_count c) c.queue (λ n few. link_slots c l s n (omega (arith, few)))), s.few_units)

-- a sum of which one term is below the bound
sum_below : (f : ℕ → ℕ) (a n i m : ℕ) → a ≤ i → i < a + n → ((j : ℕ) → j < a + n → f j ≤ m) → f i < m → sum_by f (range_with_len a n) + 1 ≤ n * m
sum_below f a zero i m from to below less = absurd (omega (arith, from, to))
sum_below f a (suc n) i m from to below less =
    ⊎_elim
    (λ at.
    let here : f a ≡ f i = ap f (sym at) in
    let rest = sum_bounded f (a + 1) n m (λ j h. below j (omega (arith, h))) in
    omega (arith, here, less, rest, sum_by-cons f a (range_with_len (a + 1) n)))
    (λ other.
    let rest = sum_below f (a + 1) n i m (omega (arith, from, other)) (omega (arith, to)) (λ j h. below j (omega (arith, h))) less in
    omega (arith, (below a (omega arith)), rest, sum_by-cons f a (range_with_len (a + 1) n)))
    (cases_eq i a)

-- a row that does not hold is passed over
pub passed : (row : Row) (rest : List Row) → first_that_holds (row ∷ rest) ≡ None → (row.holds ≡ false) × (first_that_holds rest ≡ None)
passed row rest e = skipped row.holds row.why (first_that_holds rest) e

-- data for a link whose queue has a place
data_finds : (c : Config) (l : Line) (service : Service) (tei : ℕ) (contents : List ℕ) (o : Option ℕ) → IsSound c l → place_in l tei ≡ o
    → let x = option_map_or (link_in l service) o fresh in
    not (serves c.reading x.state x.owed (LinkData contents)) ≡ false → is_queue_full (terms c service tei) x ≡ false → slots_of c l + 1 ≤ places_of c
data_finds c l service tei contents None s e serving room = absurd (true≢false serving)
data_finds c l service tei contents (Some place) s e serving room =
    let within : place < c.terminals = omega (arith, s.places, at-within l.management.places place tei ((place_of-is l.management.places tei place e).1)) in
    let number = link_number place service in
    let less : slots_by_link l number < c.queue = leb-false c.queue (length (queue_of (link_in l service place))) room in
    let queues =
    sum_below (slots_by_link l) 0 (link_count c) number c.queue (omega arith) (omega (arith, number_within place c.terminals service within))
    (λ n few. link_slots c l s n (omega (arith, few))) less in
    omega (arith, queues, s.few_units)

accepted_finds : (c : Config) (r : Request) (l : Line) → IsSound c l → carries_contents r ≡ true → refusal c false r l ≡ None → slots_of c l + 1 ≤ places_of c
accepted_finds c (Data service tei contents) l s carries e =
    let last = pool_full false ∷ [] in
    let fourth = too_long c contents ∷ queue_full c service tei l ∷ last in
    let third = wrong_state c service tei (LinkData contents) l ∷ fourth in
    let serving = passed (wrong_state c service tei (LinkData contents) l) fourth (passed (no_link tei l) third (passed (bad_tei tei) (no_link tei l ∷ third) e).1).1 in
    let room = passed (queue_full c service tei l) last (passed (too_long c contents) (queue_full c service tei l ∷ last) serving.1).1 in
    data_finds c l service tei contents (place_in l tei) s refl serving.0 room.0
accepted_finds c (Unit service tei contents) l s carries e =
    let last = pool_full false ∷ [] in
    let third = too_long c contents ∷ unit_queue_full c l ∷ last in
    let known = passed (no_link_nor_group tei l) third (passed (bad_tei_or_group c tei) (no_link_nor_group tei l ∷ third) e).1 in
    let room = passed (unit_queue_full c l) last (passed (too_long c contents) (unit_queue_full c l ∷ last) known.1).1 in
    let less : length l.units < c.unit_queue = leb-false c.unit_queue (length l.units) room.0 in
    let queues = sum_bounded (slots_by_link l) 0 (link_count c) c.queue (λ n few. link_slots c l s n (omega (arith, few))) in
    omega (arith, queues, less)
accepted_finds c other l s carries e = cc

pub taker_finds : (c : Config) (e : Event) (l : Line) → IsSound c l → takes_slot c e l ≡ true → slots_of c l + 1 ≤ places_of c
unfolding takes_slot
taker_finds c e l s h = grind (arith, is_some, accepted_finds, and_parts)
