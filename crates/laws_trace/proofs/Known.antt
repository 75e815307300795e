-- What an observer knows of TEI management, by the side.
use Rattle.laws_trace.proofs.Vocabulary.{◌≡◌, ℕ, ◌<◌, true, false, List, [], Config, CardEvent as Event, AreAtLines, IsInRange, Line, Managed, managed_after, nothing_due, fresh, after_all, line_at}
use Rattle.model_line.specs.Line.{is_terminal, terminal_in}
use Rattle.laws_trace.specs.Managing.{own_of}
use Rattle.laws_trace.proofs.CheckEnds.{as_seen}
use Rattle.laws_trace.proofs.FollowsTerminal.{known}
use Rattle.laws_trace.proofs.ManagingTables.{AreOn}
use Rattle.laws_trace.proofs.TeisAreManaged.{follows-now}
use Rattle.laws_trace.proofs.Tracked.{Tracks}
use Rattle.laws_trace.proofs.Vocabulary.{arith}

pub record Knows (c : Config) (w : Managed) (l : Line) : Type 0 where
  pub network : is_terminal c ≡ false → nothing_due w ≡ as_seen w.on w.places w.later l.management
  pub on : AreOn w.on l.management.places
  pub terminal : is_terminal c ≡ true → own_of c w ≡ known (terminal_in l)
  pub none_owed : is_terminal c ≡ true → w.owed ≡ []

pub knows : (c : Config) (w : Managed) (l : Line) → Tracks c w l.management l.own → Knows c w l
knows c w l h = grind arith

pub knows-now : (c : Config) (events : List Event) (number : ℕ) → IsInRange c → AreAtLines (fresh c) events → number < c.lines
    → Knows c (managed_after c number events) (line_at number (after_all (fresh c) events))
knows-now c events number ranged all within = knows c (managed_after c number events) (line_at number (after_all (fresh c) events)) (follows-now c events number ranged all within)
