-- The lines of a card are put into an image, one after the other, and then their counters.
use Rattle.lapd_card.proofs.Vocabulary.{◌≡◌, ℕ, suc, ◌+◌, ◌≤◌, ◌<◌, List, length, length-map, get_or, get_or-map, take, take_all, sym, ap, subst, ◌∙◌, arith, flat_map, fresh_line, none_counted, Owned, Store, FrameLine, config_of, Card, counters_in, counters_of, Held, FrameStands, HasPast}
use Rattle.lapd_count.specs.Image.{counters}
use Rattle.lapd_image.proofs.Puts.{puts-next, puts-same}
use Rattle.lapd_image.specs.Puts.{Puts}
use Rattle.lapd_line.specs.Stands.{LineStands}
use Rattle.model_line.specs.Image.{line}
use Rattle.model_line.specs.Line.{Line}
use Rattle.lapd_card.specs.Image.{image_of_lines}
use Rattle.lapd_card.proofs.Amounts.{call_of, of_machine}
use Rattle.lapd_card.proofs.OneLine.{one_holds}

-- the member after those before it, counted up
puts_one : {X : Type 0} (f : X → List ℕ) (xs : List X) (i : ℕ) (d : X) {old mid new : List ℕ} {at between end : ℕ} → i < length xs
    → Puts (flat_map f (take i xs)) at old between mid → Puts (f (get_or xs i d)) between mid end new → Puts (flat_map f (take (i + 1) xs)) at old end new
puts_one f xs i d within before one =
    let next : suc i ≡ i + 1 = omega arith in
    puts-same (ap (λ n. flat_map f (take n xs)) next) (puts-next f xs i d within before one)

module _ {S : Type 0} (store : S → Store) {card self : Held S} (same : card ≡ self) (past : HasPast store card) {items : List FrameLine} {i : ℕ} (is : items ≡ card.lines) {old mid : List ℕ} {at between : ℕ}
    (before : (m : Card) → FrameStands store self m → Puts (image_of_lines m.config (take i m.lines)) at old between mid) where
  -- one line more
  pub line_put : {x : FrameLine} → i < length items → x ≡ get_or items i x → {end : ℕ} {new : List ℕ}
      → ((others : List Owned) (l : Line) → LineStands x (store card.shelf) others l → Puts (line (config_of x) l) between mid end new)
      → (m : Card) → FrameStands store self m → Puts (image_of_lines m.config (take (i + 1) m.lines)) at old end new
  line_put {x} here is_x {end} {new} one m s =
      puts_one (line m.config) m.lines i (fresh_line m.config) (omega (arith, here, of_machine store same past is m s)) (before m s)
      (one_holds store (call_of store same past is here is_x) (λ d l. Puts (line d l) between mid end new) one m s)

  -- all of them
  pub lines_put : length items ≤ i → (m : Card) → FrameStands store self m → Puts (image_of_lines m.config m.lines) at old between mid
  lines_put all m s = puts-same (ap (image_of_lines m.config) (take_all i m.lines (omega (arith, all, of_machine store same past is m s)))) (before m s)

-- where the room ends
pub puts_within : {S : Type 0} (store : S → Store) {card self : Held S} → card ≡ self → HasPast store card → (octets : Card → List ℕ) {old new : List ℕ} {at end : ℕ}
    → ((m : Card) → FrameStands store self m → Puts (octets m) at old end new) → end ≤ length new
puts_within store same past octets puts = let (m, s) = past in (puts m (subst (λ c. FrameStands store c m) same s)).within

-- the counters of one line more, and of all
pub counters_put : (lines : List FrameLine) {items : List FrameLine} {i : ℕ} {x : FrameLine} {old mid new : List ℕ} {at between end : ℕ} → items ≡ lines → i < length items → x ≡ get_or items i x
    → Puts (flat_map counters (take i (counters_in lines))) at old between mid → Puts (counters x.counters) between mid end new → Puts (flat_map counters (take (i + 1) (counters_in lines))) at old end new
counters_put lines {i = i} {x = x} same within is before one =
    let here : i < length lines = subst (λ l. i < length l) same within in
    puts_one counters (counters_in lines) i none_counted (omega (arith, here, length-map lines counters_of)) before
    (puts-same (ap (λ l. counters (counters_of l)) (is ∙ ap (λ l. get_or l i x) same) ∙ ap counters (sym (get_or-map counters_of lines i x none_counted here))) one)

pub all_counters_put : (lines : List FrameLine) {items : List FrameLine} {i : ℕ} {old new : List ℕ} {at end : ℕ} → items ≡ lines → length items ≤ i → Puts (flat_map counters (take i (counters_in lines))) at old end new
    → Puts (flat_map counters (counters_in lines)) at old end new
all_counters_put lines {i = i} same all before = puts-same (ap (flat_map counters) (take_all i (counters_in lines) (omega (arith, all, ap length same, length-map lines counters_of)))) before
