-- What a timer of a line is in the set of those that run, and which set a list of them stands for.
use Rattle.std.specs.Prelude.{◌≡◌, ℕ, ◌+◌, ◌*◌, ◌≤◌, List, [], ◌∷◌}
use Rattle.lapd_clock.specs.Timers.{Expiry, with_expiry}
use Rattle.lapd_clock.specs.declared.held.Held.{Held}

abbrev pub expiry_on : ℕ → Held → Expiry
expiry_on line h = record { moment = h.moment; line = line; timer = h.timer }

unfoldable pub on_line : ℕ → List Held → List Expiry
on_line line [] = []
on_line line (h ∷ hs) = expiry_on line h ∷ on_line line hs

unfoldable pub in_order : List Expiry → List Expiry
in_order [] = []
in_order (e ∷ es) = with_expiry e (in_order es)

-- The clock is that of a card: it has 1 to 64 lines, and of each the places for 1 to 8 terminals.
pub record IsOfCard (places lines : ℕ) : Type 0 where
  pub some_lines : (1 ≤ lines) × (lines ≤ 64)
  pub terminals : ℕ
  pub some : (1 ≤ terminals) × (terminals ≤ 8)
  pub places_are : places ≡ 4 * terminals + 1
