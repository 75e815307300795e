-- What a take takes of the links: going round from the turn.
use Rattle.lapd_line.proofs.Vocabulary.{◌≡◌, ℕ, ◌<◌, IfSome, IsMark, same_Some, ranges_of, true, Option, Some, None, is_some, length, refl, subst, sym, arith, false≢true, first_taken, round, link_taken, link_count, Order, ShortList, listed, Store, LinkLayer, Standing, Loading, Takes, orders_taken, IsFirstAround}
use Rattle.lapd_line.proofs.NextLooks.{there}
use Rattle.lapd_line.proofs.PullTakesLinks.{passed, found_first, turn_within, round_found, round_ends}

-- The first of all marks, going round from the turn, is the first of the links: no other has one.
pub first_of_links : (e : LinkLayer) (s : Store) (first : Option ℕ) → Standing e s → IsFirstAround e.has_frame e.turn 64 first → IsFirstAround e.has_frame e.turn (length e.links.items) first
first_of_links e s first (others, m, st) (None, (_, after), before) =
    (None, (_, λ number low below. after number low (omega (arith, below, st.count, (ranges_of e.config st.range).terminals.most))), before)
first_of_links e s first (others, m, st) (Some number, ((low, below, has_frame), after), found) =
    (Some number, ((low, omega (arith, there e s others m st number below has_frame, st.count), has_frame), after), found)

-- it is there,
pub first_within : (e : LinkLayer) (s : Store) (first : Option ℕ) → Standing e s → IsFirstAround e.has_frame e.turn 64 first → IfSome first (λ number. number < link_count e.config)
first_within e s None stands around = _
first_within e s (Some number) stands (None, _, ((low, below, has_frame), others)) = let (turn, count) = turn_within stands in omega (arith, below, turn)
first_within e s (Some number) (others, m, st) (Some k, ((low, below, has_frame), after), found) =
    subst (λ n. n < link_count e.config) (same_Some k number (sym found)) (there e s others m st k below has_frame)

-- and has one
pub first_marked : (e : LinkLayer) (first : Option ℕ) → IsFirstAround e.has_frame e.turn 64 first → IfSome first (λ number. IsMark e.has_frame number true)
first_marked e first around = grind (arith, same_Some)

-- Where no link has a frame, nothing is taken.
pub round_none : (e : LinkLayer) (s : Store) (f : Loading) → Standing e s → IsFirstAround e.has_frame e.turn (length e.links.items) None
    → Takes (λ c m. first_taken c m (round c m)) e s f e s f None
round_none e s f stands (None, (_, after), (_, before)) =
    let (turn, count) = turn_within stands in
    round_ends e (length e.links.items) refl
    (passed e.turn (length e.links.items) (omega (arith, count)) after (omega (arith, turn, count)))
    (passed 0 e.turn turn before (omega arith))
round_none e s f stands (Some n, _, found) = absurd (cc)

-- Else the frame of the first is.
pub round_some : (e : LinkLayer) (s : Store) (number : ℕ) {c : LinkLayer} {u : Store} {f h : Loading} (orders : Option (ShortList Order)) → Standing e s → is_some orders ≡ true
    → IsFirstAround e.has_frame e.turn (length e.links.items) (Some number) → Takes (λ c m. link_taken c m number) e s f c u h (orders_taken orders)
    → Takes (λ c m. first_taken c m (round c m)) e s f c u h (orders_taken orders)
round_some e s number None stands some around taken = absurd (false≢true some)
round_some e s number (Some orders) stands some (None, (_, after), ((low, below, has_frame), before)) taken =
    let (turn, count) = turn_within stands in
    round_ends e (length e.links.items) refl
    (passed e.turn (length e.links.items) (omega (arith, count)) after (omega (arith, turn, count)))
    (found_first 0 number e.turn (Some orders) some low below turn before taken)
round_some e s number {c} {u} {f} {h} (Some orders) stands some (Some n, ((low, below, has_frame), after), found) taken =
    let (turn, count) = turn_within stands in
    let same : number ≡ n = cc in
    round_found e (length e.links.items) refl
    (found_first e.turn n (length e.links.items) (Some orders) some low below (omega (arith, count)) after
    (subst (λ k. Takes (λ c m. link_taken c m k) e s f c u h (Some (listed orders))) same taken))
