-- What comes of it that a line is down.
use Rattle.model_line.proofs.Vocabulary.{◌≡◌, Bool, true, false, cond, length, List, [], ◌++◌, None, replicate, sym, subst, arith, All-nil, Config, nothing, Effect, Order, at_no_link, of_aim, of_network, of_terminal, without_units, Line, Own, is_terminal, Management, stop_of, down_gives_up, IsOfSide, IsSound, IsUnitData, tei_down}
use Rattle.model_line.proofs.Vocabulary.{terminal_down}
use Rattle.model_teis.specs.terminal.Words.{stop_of as stop_202}
use Rattle.model_teis.proofs.OfTerminal.GivenUp.{given_up as terminal_given_up}
use Rattle.model_line.proofs.Checks.{still-unused}
use Rattle.model_line.proofs.SoundParts.{with_units}

-- The effect: no unit data, no message, no check, none that is due, and no procedure are left, and T201 or T202 stops.
abbrev pub given_up : Line → Effect
given_up l = record {
  line = record l {
    management = record l.management { check = None; to_check = replicate (length l.management.to_check) false; waiting = [] };
    own = record l.own { procedure = None; waiting = [] };
    units = [];
  };
  told = record nothing { orders = stop_of l.management.check ++ stop_202 l.own.procedure };
}

-- An effect, by its parts.
abbrev effect_of : Line → List Order → Management → Own → Effect
effect_of l orders m own = record { line = record l { management = m; own = own; units = [] }; told = record nothing { orders = orders } }

module _ (c : Config) (l : Line) (s : IsSound c l) where
  none_was_due : IsOfSide true l.management l.own → replicate (length l.management.to_check) false ≡ l.management.to_check
  none_was_due own = still-unused l.management own.1

  at_network : IsOfSide false l.management l.own → of_network c tei_down (without_units l) ≡ given_up l
  at_network own = grind (arith, down_gives_up)

  at_terminal_side : IsOfSide true l.management l.own → of_terminal c terminal_down (without_units l) ≡ given_up l
  at_terminal_side own = grind (arith, terminal_given_up, none_was_due)

  pub down-is : of_aim c at_no_link l ≡ given_up l
  down-is = go (is_terminal c) s.own
    where
      go : (b : Bool) → IsOfSide b l.management l.own → cond b (of_terminal c terminal_down (without_units l)) (of_network c tei_down (without_units l)) ≡ given_up l
      go true own = at_terminal_side own
      go false own = at_network own

  -- What holds of that holds of what comes of it.
  pub by-down : (P : Effect → Type 0) → P (given_up l) → P (of_aim c at_no_link l)
  by-down P h = subst P (sym down-is) h

  -- A line without its units is as sound.
  pub down-sound : IsSound c (without_units l)
  down-sound = with_units c l s [] (All-nil (IsUnitData c)) (omega arith)
