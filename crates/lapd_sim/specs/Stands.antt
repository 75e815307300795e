-- What a setup of the simulator stands for: the setup of the machine that a script is played on.
use Rattle.std.specs.Prelude.{◌≡◌, List, [], ◌∷◌, Option, None, Some}
use Rattle.lapd_transcript.specs.Listened.{Hears}
use Rattle.lapd_transcript.specs.Terminal.{Sends}
use Rattle.lapd_sim.specs.machine.Setup as machine
use Rattle.lapd_card.specs.Kinds.{counters_of}
use Rattle.lapd_timed.specs.Stands.{ChangesStandIn, TimersStandIn}
use Rattle.lapd_timed.specs.declared.card_timers.CardTimers.{CardTimers}
use Rattle.model_card.specs.Card.{Card}
use Rattle.model_timed.specs.Changes.{Marks}
use Rattle.model_timed.specs.Clock.{Clock}
use Rattle.lapd_sim.specs.Boards.{OnBoard}
use Rattle.lapd_sim.specs.declared.setup.Setup.{Setup}

-- One by one.
abbrev pub Each : {A B : Type 0} → (A → B → Type 0) → List A → List B → Type 0
Each R [] [] = Unit {0}
Each R (x ∷ xs) (y ∷ ys) = R x y × Each R xs ys
Each R _ _ = ⊥

-- The timers of a card stand for its clock, and what they have noted of its links for these marks.
pub record ClockStands (timers : Option CardTimers) (card : Card) (clock : Clock) (marks : Marks) : Type 0 where
  pub timed : TimersStandIn timers card clock
  pub noted : ChangesStandIn timers card marks

-- The card, its counters, its timers; each terminal, and what each listener has heard.
pub record SetupStands (b : Setup) (m : machine.Setup) : Type 0 where
  pub config : m.board.config ≡ b.config
  pub board : OnBoard b.timed.card m.board
  pub counters : counters_of b.timed.card ≡ m.counters
  pub timers : ClockStands b.timed.timers m.board.card.card m.clock m.marks
  pub terminals : Each Sends b.terminals.items m.terminals
  pub listeners : Each Hears b.listeners.items m.taken
  pub losses : m.losses ≡ b.losses

-- Before the card line there is no setup.
abbrev pub Has : Option Setup → Option machine.Setup → Type 0
Has None None = Unit {0}
Has (Some b) (Some m) = SetupStands b m
Has _ _ = ⊥
