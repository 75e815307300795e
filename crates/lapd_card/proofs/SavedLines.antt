-- The lines of a card, and their counters, may be saved.
use Rattle.lapd_card.proofs.Vocabulary.{◌≡◌, ℕ, ◌+◌, ◌≤◌, ◌<◌, List, [], length, length-map, get_or, get_or-map, take, take_all, sym, ap, subst, ◌∙◌, arith, All, All-nil, All-push, Config, fresh_line, none_counted as no_counts, Owned, Store, FrameLine, config_of, Card, counters_in, counters_of, reached-sound, Held, FrameStands, HasPast}
use Rattle.std.proofs.lemmas.List.{take_more}
use Rattle.lapd_count.specs.Image.{IsCounted}
use Rattle.lapd_line.specs.Stands.{LineStands}
use Rattle.model_line.specs.Image.{IsSavedLine, IsWhole}
use Rattle.model_line.specs.Line.{Line, link_at}
use Rattle.model_link.specs.Timed.{IsTimed}
use Rattle.model_timed.proofs.Running.{timed-reached}
use Rattle.lapd_card.specs.Image.{Lines, IsSavedOf, StandsFor}
use Rattle.lapd_card.proofs.Amounts.{call_of, of_machine}
use Rattle.lapd_card.proofs.OneLine.{one_holds}

pub none_saved : (c : Config) → All (IsWhole c) []
none_saved c = All-nil (IsWhole c)

pub none_counted : All IsCounted []
none_counted = All-nil IsCounted

-- what holds of those before a member, and of it
all_one : {X : Type 0} (P : X → Type 0) (xs : List X) (i : ℕ) (d : X) → i < length xs → All P (take i xs) → P (get_or xs i d) → All P (take (i + 1) xs)
all_one P xs i d within before one = subst (All P) (sym (take_more xs i d within)) (All-push P (take i xs) (get_or xs i d) before one)

module _ {S : Type 0} (store : S → Store) {card self : Held S} (same : card ≡ self) (past : HasPast store card) {items : List FrameLine} {i : ℕ} (is : items ≡ card.lines)
    (before : (m : Card) → FrameStands store self m → All (IsWhole m.config) (take i m.lines)) where
  -- one line more, whose timers are those of its states
  pub line_saved : {x : FrameLine} → i < length items → x ≡ get_or items i x
      → ((others : List Owned) (l : Line) → LineStands x (store card.shelf) others l → ((number : ℕ) → IsTimed (link_at number l)) → IsWhole (config_of x) l)
      → (m : Card) → FrameStands store self m → All (IsWhole m.config) (take (i + 1) m.lines)
  line_saved here is_x one m s =
      let many = of_machine store same past is m s in
      let sound = reached-sound m s.reached in
      let within : i < m.config.lines = omega (arith, here, many, sound.count) in
      all_one (IsWhole m.config) m.lines i (fresh_line m.config) (omega (arith, here, many)) (before m s)
      (one_holds store (call_of store same past is here is_x) (λ d l. ((number : ℕ) → IsTimed (link_at number l)) → IsWhole d l) one m s (timed-reached m s.reached i within))

  pub lines_saved : length items ≤ i → (m : Card) → FrameStands store self m → All (IsWhole m.config) m.lines
  lines_saved all m s = subst (All (IsWhole m.config)) (take_all i m.lines (omega (arith, all, of_machine store same past is m s))) (before m s)

-- the counters of one line more, and of all
pub counters_saved : (lines : List FrameLine) {items : List FrameLine} {i : ℕ} {x : FrameLine} → items ≡ lines → i < length items → x ≡ get_or items i x → All IsCounted (take i (counters_in lines)) → IsCounted x.counters
    → All IsCounted (take (i + 1) (counters_in lines))
counters_saved lines {i = i} {x = x} same within is before one =
    let here : i < length lines = subst (λ l. i < length l) same within in
    all_one IsCounted (counters_in lines) i no_counts (omega (arith, here, length-map lines counters_of)) before
    (subst IsCounted (ap counters_of (is ∙ ap (λ l. get_or l i x) same) ∙ sym (get_or-map counters_of lines i x no_counts here)) one)

pub all_counters_saved : (lines : List FrameLine) {items : List FrameLine} {i : ℕ} → items ≡ lines → length items ≤ i → All IsCounted (take i (counters_in lines)) → All IsCounted (counters_in lines)
all_counters_saved lines {i = i} same all before = subst (All IsCounted) (take_all i (counters_in lines) (omega (arith, all, ap length same, length-map lines counters_of))) before

-- so the card may be
pub card_saved : {S : Type 0} (store : S → Store) {card : Held S} {l : Lines} → StandsFor store card l → All (IsWhole l.card.config) l.card.lines → All IsCounted (counters_in card.lines) → IsSavedOf card.config l
card_saved store {card} {l} s whole counted =
    let m = l.card in
    let sound = reached-sound m s.stands.reached in
    record {
      config = s.stands.config;
      begins = record { sound = sound; timed = timed-reached m s.stands.reached };
      lines = subst (λ c. All (IsSavedLine c) m.lines) s.stands.config (λ k d h. (whole k d h).saved);
      each_counted = ap length (sym s.counted) ∙ length-map card.lines counters_of ∙ s.stands.lines.count ∙ sound.count ∙ ap (λ c. c.lines) s.stands.config;
      counted = subst (All IsCounted) s.counted counted;
    }
