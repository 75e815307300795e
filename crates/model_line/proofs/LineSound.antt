-- A line is sound as it begins, and each event keeps it so.
use Rattle.model_line.proofs.Vocabulary.{None, Bool, ap, sym, replicate, true, false, cond, ◌<◌, ◌%◌, refl, unwrap_or, IsOfSide, is_terminal, length-replicate, get_or-replicate, All-nil, arith, fresh, sound-empty, Config, Event, Line, link_count, fresh_line, after, taken, line_of, option_map_or, IsInRange, IsSound, IsUnitData, aim_of}
use Rattle.model_line.proofs.AimsSound.{aim_sound}
use Rattle.std.proofs.Math.Nat.{mod-lt}
use Rattle.model_teis.proofs.OfTerminal.SoundWords.{sound_fresh as terminal_fresh}
use Rattle.model_line.specs.Line.{seed_of}
use Rattle.model_line.proofs.Numbers.{place_within}
use Rattle.model_line.proofs.Ranges.{ranges_of}
use Rattle.model_line.proofs.EventWalk.{by_part}
use Rattle.model_line.proofs.ProperAims.{event_proper}
use Rattle.model_line.proofs.TakenSound.{TakesSoundly, taken_sound}
use Rattle.model_line.proofs.TakenWalk.{next_walk}

pub next_sound : (c : Config) → IsInRange c → (l : Line) → IsSound c l → IsSound c (option_map_or line_of (taken c l) l)
next_sound c ranged l s = next_walk c l (TakesSoundly c l) (λ o m. IsSound c m) (taken_sound c ranged l s) s (λ t h. h.line)

pub after_sound : (c : Config) → IsInRange c → (e : Event) (l : Line) → IsSound c l → IsSound c (after c e l)
after_sound c ranged e l s =
    by_part c l (λ what m. IsSound c m) (λ what. aim_sound c ranged l (aim_of c what l) s (event_proper c l what)) (next_sound c ranged l s) e

pub fresh_sound : (c : Config) → IsInRange c → IsSound c (fresh_line c)
fresh_sound c ranged = record {
  management = sound-empty c.reading c.terminals;
  reading = refl;
  own = begins (is_terminal c);
  places = length-replicate c.terminals None;
  count = length-replicate (link_count c) fresh;
  links = grind (arith, get_or-replicate, place_within);
  units = All-nil (IsUnitData c);
  few_units = omega arith;
  turn = omega arith;
}
  where
    seed_low : (b : Bool) → cond b (unwrap_or c.seed 0 % 65536) 0 < 65536
    seed_low true = mod-lt (unwrap_or c.seed 0) (omega arith)
    seed_low false = omega arith

    begins : (b : Bool) → IsOfSide b (fresh_line c).management (fresh_line c).own
    begins true = (terminal_fresh c.reading c.terminals (seed_of c) (ranges_of c ranged).terminals.most (seed_low (is_terminal c)), record { remembered = refl; check = refl; to_check = ap (λ n. replicate n false) (sym (length-replicate c.terminals None)); waiting = refl })
    begins false = (refl, refl)
