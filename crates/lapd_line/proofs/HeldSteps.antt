-- The octets that a line holds: their sums, and that there are few.
use Rattle.lapd_line.proofs.Vocabulary.{◌≡◌, ℕ, ◌+◌, ◌*◌, ◌/◌, ◌<◌, ◌≤◌, Bool, List, [], ◌∷◌, length, reverse, nat_lt, cond, Option, Some, ap, zero, suc, ◌∙◌, arith, ltb-false, All-head, All-tail, sum_by-cons, same_Some, All, sum_by, range_with_len, option_map_or, unwrap_or, bits, octets_held, kept_count, open_gap, unstuffed, room_for, Network, Owned, Store, Link, Fits, terms_of}
use Rattle.lapd_line.proofs.Vocabulary.{Terms, frame_of, held, IsWaitingFrame, Config, Line, link_count, service_at, terms, IsSoundAt, held_by_link, LinkLayer, LayerStands, HasTerms, machine_at}
use Rattle.lapd_frame.specs.Grammar.{spelling}
use Rattle.model_teis.specs.network.Machine as tei
use Rattle.model_teis.specs.terminal.Machine as terminals
use Rattle.model_line.proofs.Checks.{nothing-held, unused-none}
use Rattle.model_line.proofs.StoredBounds.{managed_few}
use Rattle.model_line.specs.Stored.{held_most}
use Rattle.lapd_line.proofs.Vocabulary.{true, false, sym, subst, IsInRange, IsOfSide, Managing, Own, held_by, is_terminal, is_terminals, management_of, own_of, ranges_of, terminal_in}
use Rattle.lapd_line.specs.declared.managing.Managing.TheVariants as kind
use Rattle.model_link.specs.Link as machine
use Rattle.lapd_line.proofs.LayerSteps.{beside_links, links_part}
use Rattle.lapd_line.proofs.LinkSteps.{part}
use Rattle.lapd_line.proofs.Vocabulary.{LinkStands, get_or, option_map, slice_get-map, slice_get-get_or}

-- a sum of so many, each of them small
sum_few : {X : Type 0} (f : X → ℕ) (P : X → Type 0) (most : ℕ) → ((x : X) → P x → f x ≤ most) → (xs : List X) → All P xs → sum_by f xs ≤ most * length xs
sum_few f P most h [] all = omega arith
sum_few f P most h (x ∷ xs) all =
    let head = h x (All-head P x xs all) in
    let rest = sum_few f P most h xs (All-tail P x xs all) in
    omega (arith, head, rest, sum_by-cons f x xs)

-- a link holds at most 16 control frames, of at most four octets each
pub link_few : (x : Link) (m : machine.Link) → Fits x m → held (terms_of x) m ≤ 64
link_few x m fits =
    let most = sum_few (λ f. length (spelling Network (frame_of (terms_of x) f))) (IsWaitingFrame (terms_of x)) 4 (λ f w. w.octets) m.waiting fits.sound.frames in
    omega (arith, most, fits.sound.ring, fits.range.control_high)

pub few_at : {x : Link} {store : Store} {others : List Owned} {m : machine.Link} {result : ℕ} → LinkStands x store others m → result ≡ held (terms_of x) m → result ≤ 64
few_at {x} {m = m} st is = omega (arith, is, link_few x m st.fits)

-- the sum over one more
pub sum_next : (f : ℕ → ℕ) (a n : ℕ) → sum_by f (range_with_len a (n + 1)) ≡ sum_by f (range_with_len a n) + f (a + n)
sum_next f a zero =
    let same : f (a + 0) ≡ f a = ap f (omega arith) in
    omega (arith, same, sum_by-cons f a [])
sum_next f a (suc n) =
    let rest = sum_next f (a + 1) n in
    let same : f (a + 1 + n) ≡ f (a + suc n) = ap f (omega arith) in
    let next : suc n + 1 ≡ suc (n + 1) = omega arith in
    let first : sum_by f (range_with_len a (suc n + 1)) ≡ f a + sum_by f (range_with_len (a + 1) (n + 1)) =
    ap (λ k. sum_by f (range_with_len a k)) next ∙ sum_by-cons f a (range_with_len (a + 1) (n + 1)) in
    omega (arith, rest, same, first, sum_by-cons f a (range_with_len (a + 1) n))

-- the link at a place has the parameters of its TEI, or begins
held_at : (c : Config) (number : ℕ) (ts : Terms) (l : machine.Link) (o : Option ℕ) → ((t : ℕ) → o ≡ Some t → ts ≡ terms c (service_at number) t) → IsSoundAt c number l o
    → held ts l ≡ held (terms c (service_at number) (unwrap_or o 0)) l
held_at c number ts l o same is = grind arith

pub held_there : (e : LinkLayer) (store : Store) (others : List Owned) (m : Line) (number : ℕ) (ts : Terms) → LayerStands e store others m → number < link_count e.config → HasTerms e.links.items number ts
    → held ts (machine_at m.links number) ≡ held_by_link e.config m number
held_there e store others m number ts st within has = grind (arith, held_at, same_Some)

-- so what is held for the link at a place is what the machine says
pub held_place : (e : LinkLayer) (store : Store) (others : List Owned) (m : Line) (number : ℕ) (x : Link) (result : ℕ) → LayerStands e store others m → number < link_count e.config → x ≡ get_or e.links.items number x
    → ((others : List Owned) (l : machine.Link) → LinkStands x store others l → result ≡ held (terms_of x) l)
    → result ≡ held_by_link e.config m number
held_place e store others m number x result st few is h =
    let within : number < length e.links.items = omega (arith, st.count, few) in
    let f = part within is e.config (beside_links e m others) m.links (links_part e store others m st) in
    let has : HasTerms e.links.items number (terms_of x) = slice_get-map terms_of e.links.items number ∙ ap (option_map terms_of) (slice_get-get_or e.links.items number x within ∙ ap Some (sym is)) in
    h f.rest (machine_at m.links number) f.stands ∙ held_there e store others m number (terms_of x) st few has

pub held_more : (f : ℕ → ℕ) (number octets result : ℕ) → octets ≡ sum_by f (range_with_len 0 number) → result ≡ f number → octets + result ≡ sum_by f (range_with_len 0 (number + 1))
held_more f number octets result so_far here = grind (arith, sum_next)

pub both : {x y r s : ℕ} → x ≡ r → y ≡ s → x + y ≡ r + s
both a b = omega (arith, a, b)

-- a frame that is received is kept as far as there is room
kept_few : (room n : ℕ) (b : Bool) → 4 ≤ room → nat_lt room n ≡ b → cond b 4 n ≤ room
kept_few room n b four e = grind (arith, ltb-false)

gap_few : {G : Type 0} (room : ℕ) (size : G → ℕ) (o : Option G) → 4 ≤ room → option_map_or (λ g. kept_count room (size g)) o 0 ≤ room
gap_few room size o four = grind (arith, kept_few, nat_lt)

pub received_few : (n201 : ℕ) (octets : List ℕ) → octets_held n201 octets ≤ n201 + 6
received_few n201 octets = gap_few (room_for n201) (λ g. length (unstuffed (reverse g)) / 8) (open_gap (reverse (bits octets))) (omega arith)

-- what TEI management holds, of either kind
pub managed_is : (e : LinkLayer) (store : Store) (others : List Owned) (m : Line) → LayerStands e store others m → held_by e.teis ≡ tei.held m.management + terminals.held (terminal_in m)
managed_is e store others m st = go e.teis st.management st.own st.kind
  where
    go : (x : Managing) → m.management ≡ management_of e.config x → m.own ≡ own_of x → is_terminals x ≡ is_terminal e.config
        → held_by x ≡ tei.held m.management + terminals.held (terminal_in m)
    go (kind.Network b) management own side = omega (arith, ap tei.held management, ap (λ (o : Own). length o.waiting) own)
    go (kind.Terminal b) management own side =
        let unused = (subst (λ x. IsOfSide x m.management m.own) (sym side) st.sound.own).1 in
        omega (arith, ap length unused.remembered, ap length unused.waiting, nothing-held m.management (unused-none m.management unused), ap (λ (o : Own). length o.waiting) own)

pub most_few : (c : Config) → IsInRange c → held_most c ≤ 72
most_few c ranged =
    elim (is_terminal c) as (λ b. cond b (8 * (c.terminals + 1)) (32 + 12) ≤ 72) [
      | true ↦ omega (arith, (ranges_of c ranged).terminals.most)
      | false ↦ omega arith
    ]

pub few_managed : (e : LinkLayer) (store : Store) (others : List Owned) (m : Line) → LayerStands e store others m → held_by e.teis ≤ held_most e.config
few_managed e store others m st = omega (arith, managed_is e store others m st, managed_few e.config m st.sound)
