-- An idle line: a flag begins on it, and 1s after a flag make it idle again.
use Rattle.model_card.proofs.OfPorts.Vocabulary.{◌≡◌, ℕ, zero, suc, ◌+◌, ◌-◌, ◌≤◌, Bool, true, List, [], ◌∷◌, ◌++◌, replicate, None, refl, ◌∙◌, arith, append-nil, flag, heard_until, run_of, open_gap, heard_at-one, heard_at-abort, open_gap-one, open_gap-zero, open_gap-abort, after_flag, heard_until-onto, hears, reverse_aux}

-- a place at which the line is idle
pub record IdleAt (past : List Bool) : Type 0 where
  pub ones : run_of past ≡ 7
  pub no_gap : open_gap past ≡ None

-- where no gap is open, up to six 1s open none and bring nothing
ones_pass : (room n : ℕ) (past rest : List Bool) → run_of past + n ≤ 6 → open_gap past ≡ None
    → (hears room past (replicate n true ++ rest) ≡ hears room (reverse_aux (replicate n true) past) rest) × (open_gap (reverse_aux (replicate n true) past) ≡ None)
ones_pass room zero past rest few none = (refl, none)
ones_pass room (suc n) past rest few none =
    grind (arith, open_gap-one, hears, heard_at-one, (ones_pass room n (true ∷ past) rest (omega (arith, few))))

-- a flag on an idle line brings nothing
pub hears_first_flag : (room : ℕ) (past : List Bool) → IdleAt past → hears room past flag ≡ []
hears_first_flag room past idle = grind (arith, ones_pass, open_gap-zero)

-- seven 1s or more after a flag bring nothing, and the line is idle behind them
pub record IdleAgain (room : ℕ) (before after : List Bool) : Type 0 where
  pub idle : IdleAt after
  pub heard : heard_until room after ≡ heard_until room before

seven : (room : ℕ) (past : List Bool) → heard_until room (reverse_aux (replicate 7 true) (after_flag past)) ≡ heard_until room (after_flag past)
seven room past = heard_until-onto room (replicate 7 true) (after_flag past) ∙ append-nil (heard_until room (after_flag past))

-- and so do more of them
ones_go_on : (room n : ℕ) (past : List Bool) → IdleAt past → IdleAgain room past (reverse_aux (replicate n true) past)
ones_go_on room zero past idle = record { idle = idle; heard = refl }
ones_go_on room (suc n) past idle = grind (arith, heard_at-abort, open_gap-abort, append-nil, (ones_go_on room n (true ∷ past)))

pub idle_again : (room n : ℕ) (past : List Bool) → 7 ≤ n → IdleAgain room (after_flag past) (reverse_aux (replicate n true) (after_flag past))
idle_again room n past h =
    let at_seven = reverse_aux (replicate 7 true) (after_flag past) in
    let on = ones_go_on room (n - 7) at_seven (record { ones = refl; no_gap = refl }) in
    let all : suc (suc (suc (suc (suc (suc (suc (n - 7))))))) ≡ n = omega (arith, h) in
    grind (arith, seven)
