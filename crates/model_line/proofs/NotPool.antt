-- A line by itself never finds the pool full: the pool is the card's.
use Rattle.model_line.proofs.Vocabulary.{arith, ◌≡◌, ℕ, Bool, false, ◌&&◌, List, [], ◌∷◌, Option, Some, None, refl, list_any, ◌||◌, cond, Refusal, Config, Event, is_pool, is_pool_full, Line, answer, Row, first_that_holds}

-- The refusal is for another reason.
abbrev IsOther : Option Refusal → Type 0
IsOther None = ℕ
IsOther (Some why) = is_pool why ≡ false

abbrev pools : Row → Bool
pools row = is_pool row.why && row.holds

others : (all : List Row) → list_any pools all ≡ false → IsOther (first_that_holds all)
others [] none = 0
others (row ∷ more) none = go (is_pool row.why) row.holds refl none (others more)
  where
    go : (pool holds : Bool) → is_pool row.why ≡ pool → ((pool && holds) || list_any pools more) ≡ false
        → (list_any pools more ≡ false → IsOther (first_that_holds more)) → IsOther (cond holds (Some row.why) (first_that_holds more))
    go pool holds is e rest = grind arith

pub line_not_pool : (c : Config) (e : Event) (l : Line) → is_pool_full (answer c e l) ≡ false
unfolding answer
line_not_pool c e l = grind (arith, others)
