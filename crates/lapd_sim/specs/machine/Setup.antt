-- What a script is played on: a board, the counters of its lines, the clock of its timers, since when its links are in their
-- states, and for octets, at each line, a terminal and a listener; and whether it is shown what is given up.
use Rattle.std.specs.Prelude.{ℕ, Bool, false, List, [], ◌++◌, set, get_or, replicate}
use Rattle.lapd_clock.specs.Timer.{standard}
use Rattle.lapd_count.specs.declared.counters.Counters.{Counters}
use Rattle.lapd_count.specs.Counters.{none_counted}
use Rattle.model_card.specs.declared.kinds.CardKind.{CardKind}
use Rattle.lapd_transcript.specs.Terminal.{Terminal}
use Rattle.model_line.specs.declared.config.Config.{Config}
use Rattle.model_timed.specs.Changes.{Marks, Seen, marked, unmarked}
use Rattle.model_timed.specs.Clock.{Clock, stopped}
use Rattle.model_timed.specs.Timed.{Timed, Step, happens, after}
use Rattle.lapd_sim.specs.machine.Board.{Board, Event, boards, fresh, counted}

-- The clock has the moment, in milliseconds; the octets of a line are all that it has taken.
pub record Setup : Type 0 where
  pub board : Board
  pub counters : List Counters
  pub clock : Clock
  pub marks : Marks
  pub terminals : List Terminal
  pub taken : List (List ℕ)
  pub losses : Bool

-- As a card line sets it up.
abbrev pub begun : CardKind → Config → Setup
begun kind c = record {
  board = fresh kind c;
  counters = replicate c.lines none_counted;
  clock = stopped standard;
  marks = unmarked;
  terminals = replicate c.lines (record { items = []; given = 0 });
  taken = replicate c.lines [];
  losses = false;
}

abbrev pub terminal_at : ℕ → Setup → Terminal
terminal_at line b = get_or b.terminals line (record { items = []; given = 0 })

abbrev pub counters_at : ℕ → Setup → Counters
counters_at line b = get_or b.counters line none_counted

abbrev pub taken_at : ℕ → Setup → List ℕ
taken_at line b = get_or b.taken line []

-- The board and the clock are a timed card, whose links are those of the card inside; a step of it.
abbrev pub inside : Seen Board
inside b = b.card.card

abbrev pub timed : Setup → Timed Board
timed b = record { card = b.board; clock = b.clock }

abbrev pub stepped : Step Event → Setup → Setup
stepped step b =
    let t = after boards step (timed b) in
    record b { board = t.card; clock = t.clock; marks = marked inside t b.marks }

-- An event: it happens at the board that keeps its own timers, and is counted.
abbrev pub happened : Setup → Event → Setup
happened b e = record (stepped (happens e) b) { counters = counted b.counters e b.board }

abbrev pub with_terminal : ℕ → Terminal → Setup → Setup
with_terminal line t b = record b { terminals = set b.terminals line t }

abbrev pub with_taken : ℕ → List ℕ → Setup → Setup
with_taken line octets b = record b { taken = set b.taken line (taken_at line b ++ octets) }
