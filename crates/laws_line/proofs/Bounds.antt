-- What a configuration gives: the most frames that are to go.
use Rattle.laws_line.proofs.Vocabulary.{◌≤◌, arith, Config, Line, sum_bounded, IsSound, frames_to_go, most_frames}
use Rattle.laws_line.proofs.Vocabulary.{Bool, true, false, cond, ◌+◌, length, ap, is_terminal, terminal_in, IsOfSide, most_messages}
use Rattle.model_teis.proofs.OfTerminal.SoundWords.{room}
use Rattle.model_line.proofs.LineRises.{window_most}

-- Of messages that wait.
pub messages-few : (c : Config) (l : Line) → IsSound c l → length l.management.waiting + length l.own.waiting ≤ most_messages c
messages-few c l s = go (is_terminal c) s.own
  where
    go : (b : Bool) → IsOfSide b l.management l.own → length l.management.waiting + length l.own.waiting ≤ cond b (c.terminals + 1) 4
    go true own = omega (arith, ap length own.1.waiting, room (terminal_in l) own.0, s.places)
    go false own = omega (arith, ap length own.1, s.management.queue.few)

pub to-go-few : (c : Config) (l : Line) → IsSound c l → frames_to_go c l ≤ most_frames c
to-go-few c l s = grind (arith, sum_bounded, window_most, messages-few)
