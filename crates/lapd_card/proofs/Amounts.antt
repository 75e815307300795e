-- How many octets a card stores, line by line and port by port, and that they are few.
use Rattle.lapd_card.proofs.Vocabulary.{◌≡◌, ℕ, ◌+◌, ◌*◌, ◌≤◌, ◌<◌, List, [], ◌∷◌, length, take, get_or, refl, sym, ap, subst, ◌∙◌, arith, Fits, w32, w64, mul-le-mul_left, sum_by_more, sum_by-cons, sum_by, take_all, Config, IsInRange, held_in, octets_of, stored_in, ranges_of, FrameLine, Card, stored, limit, IsReached, reached-sound, stored_within_limit, Store, stored_octets, Held, line_count}
use Rattle.lapd_card.proofs.Vocabulary.{FrameStands, HasPast}
use Rattle.std.specs.Prelude.{true, false, cond}
use Rattle.model_line.specs.Line as line
use Rattle.model_line.specs.Line.{is_terminal}
use Rattle.model_line.specs.Stored.{held_most}
use Rattle.model_card.specs.ports.Stored as octets
use Rattle.lapd_card.proofs.OneLine.{Found, lines-all, few-lines}
use Rattle.lapd_card.proofs.OneEvent.{octets_is}

-- one line more
pub held_more : (c : Config) (ms : List line.Line) (i held one : ℕ) → i < length ms → held ≡ sum_by (held_in c) (take i ms) → one ≡ held_in c (get_or ms i (line.fresh_line c)) → held + one ≡ sum_by (held_in c) (take (i + 1) ms)
held_more c ms i held one within so_far more = omega (arith, so_far, more, sum_by_more (held_in c) ms i (line.fresh_line c) within)

-- what is stored is what the lines hold and what lies on the shelf
sums : (c : Config) (ms : List line.Line) → sum_by (held_in c) ms + sum_by (octets_of c) ms ≡ sum_by (stored_in c) ms
sums c [] = refl
sums c (m ∷ ms) = joined (held_in c m) (octets_of c m) _ _ _ _ _ (sum_by-cons (held_in c) m ms) (sum_by-cons (octets_of c) m ms) (sum_by-cons (stored_in c) m ms) (sums c ms)
  where
    joined : (h o hs os ss h' o' : ℕ) → h' ≡ h + hs → o' ≡ o + os → {s' : ℕ} → s' ≡ h + o + ss → hs + os ≡ ss → h' + o' ≡ s'
    joined h o hs os ss h' o' first second {s'} third rest = omega (arith, first, second, third, rest)

-- the limits are small numbers
limit_most : (lines terminals control slots n201 held : ℕ) → lines ≤ 64 → terminals ≤ 8 → control ≤ 16 → slots ≤ 8192 → n201 ≤ 260 → held ≤ 72 → lines * (8 * control * terminals + held) + slots * n201 + lines * (2 * n201 + 10) ≤ 2233984
limit_most lines terminals control slots n201 held few_lines few_terminals few_control few_slots narrow few = grind (arith, mul-le-mul_left)

held_small : (c : Config) → IsInRange c → held_most c ≤ 72
held_small c range =
    elim (is_terminal c) as (λ b. cond b (8 * (c.terminals + 1)) (32 + 12) ≤ 72) [
      | true ↦ omega (arith, (ranges_of c range).terminals.most)
      | false ↦ omega arith
    ]

pub octets_small : (c : Config) → IsInRange c → octets.limit c ≤ 2233984
octets_small c range =
    let r = ranges_of c range in
    limit_most c.lines c.terminals c.control c.slots c.n201 (held_most c) r.lines.most r.terminals.most r.control.most r.slots.most r.n201.most (held_small c range)

pub limit_small : (c : Config) → IsInRange c → limit c ≤ 2233984
limit_small c range = omega (arith, octets_small c range)

stored_small : (m : Card) → IsReached m → stored m ≤ 2233984
stored_small m reached = omega (arith, stored_within_limit.now m (reached-sound m reached), limit_small m.config reached.config)

pub fits_32 : (n : ℕ) → n ≤ 2233984 → Fits w32 n
fits_32 n small = grind (arith, small)

pub fits_64 : (n : ℕ) → n ≤ 2233984 → Fits w64 n
fits_64 n small = grind (arith, small)

-- what a card stores
module _ {S : Type 0} (store : S → Store) {card self : Held S} (same : card ≡ self) (past : HasPast store card) where
  pub stored_is : {held lying : ℕ} → ((m : Card) → FrameStands store self m → held ≡ sum_by (held_in m.config) m.lines) → lying ≡ stored_octets (store card.shelf)
      → (m : Card) → FrameStands store self m → held + lying ≡ stored m
  stored_is is lie m s =
      let shelf = lie ∙ octets_is store card m (subst (λ c. FrameStands store c m) (sym same) s) in
      omega (arith, is m s, shelf, sums m.config m.lines)

  -- which is few
  pub stored_few : {held lying : ℕ} → ((m : Card) → FrameStands store self m → held ≡ sum_by (held_in m.config) m.lines) → lying ≡ stored_octets (store card.shelf)
      → held + lying ≤ 2233984
  stored_few is lie =
      let (m, s) = subst (HasPast store) same past in
      omega (arith, stored_is is lie m s, stored_small m s.reached)

  pub stored_within : {held lying : ℕ} → ((m : Card) → FrameStands store self m → held ≡ sum_by (held_in m.config) m.lines) → lying ≡ stored_octets (store card.shelf)
      → held + lying ≤ limit self.config
  stored_within {held} {lying} is lie =
      let (m, s) = subst (HasPast store) same past in
      subst (λ c. held + lying ≤ limit c) s.config (omega (arith, stored_is is lie m s, stored_within_limit.now m (reached-sound m s.reached)))

  pub of_machine : {items : List FrameLine} → items ≡ card.lines → (m : Card) → FrameStands store self m → length items ≡ length m.lines
  of_machine is m s = ap length (is ∙ ap (λ c. c.lines) same) ∙ s.lines.count

  -- the lines so far, in a loop over them
  module _ {items : List FrameLine} {i : ℕ} (is : items ≡ card.lines) where
    pub call_of : {x : FrameLine} → i < length items → x ≡ get_or items i x → Found store card self i x
    call_of {x} here is_x = record {
      past = past;
      same = same;
      within = subst (λ c. i < line_count c) same (subst (λ n. i < n) (ap length is ∙ lines-all store card past) here);
      is = is_x ∙ ap (λ ls. get_or ls i x) is;
    }

    pub few_held : {held one : ℕ} → held ≤ i * 4294967295 → one < 4294967296 → i < length items → Fits w64 (held + one)
    few_held so_far few here =
        let most = few-lines store card past in
        let place : i < 64 = omega (arith, here, most, ap length is) in
        grind (arith, so_far, few, place)

    pub all_held : length items ≤ i → (m : Card) → FrameStands store self m → sum_by (held_in m.config) (take i m.lines) ≡ sum_by (held_in m.config) m.lines
    all_held all m s = ap (sum_by (held_in m.config)) (take_all i m.lines (omega (arith, all, of_machine is m s)))
