-- Whole scripts: one fold over their lines, up to the first fault.
use Rattle.std.specs.Prelude.{ℕ, ◌+◌, ◌^◌, nat_lt, Bool, ◌||◌, if◌then◌else◌, List, [], ◌++◌, length, fold, Option, None, Some, Result, Ok, Err}
use Rattle.lapd_script.specs.declared.kind.FaultKind.{FaultKind}
use Rattle.lapd_script.specs.declared.kind.FaultKind.TheVariants.{TooLong}
use Rattle.lapd_script.specs.Meaning.{Meaning}
use Rattle.lapd_script.specs.Read.{read}
use Rattle.lapd_script.specs.Pieces.{pieces_of, line_in}
use Rattle.lapd_sim.specs.machine.Setup.{Setup}
use Rattle.lapd_sim.specs.machine.Steps.{Scene, with_card, without_card}

-- The first faulty line, counted from 1, and what is wrong with it.
pub record Fault : Type 0 where
  pub line : ℕ
  pub kind : FaultKind

-- How far a script has been played: the setup, where there is a card; how many lines and octets have been played; what
-- has been written; and the fault, after which nothing more is played.
pub record Played : Type 0 where
  pub setup : Option Setup
  pub lines : ℕ
  pub octets : ℕ
  pub written : List ℕ
  pub fault : Option Fault

abbrev pub not_begun : Played
not_begun = record { setup = None; lines = 0; octets = 0; written = []; fault = None }

-- A line, or the script up to and with it, is too long (profile).
abbrev pub is_too_long : List ℕ → Played → Bool
is_too_long piece p = nat_lt 4096 (length (line_in piece)) || nat_lt (2 ^ 63) (p.octets + length piece)

abbrev pub faulty : FaultKind → Played → Played
faulty kind p = record p { fault = Some (record { line = p.lines + 1; kind = kind }) }

abbrev pub counted : List ℕ → Played → Played
counted piece p = record p { lines = p.lines + 1; octets = p.octets + length piece }

abbrev pub after_scene : List ℕ → Result Scene FaultKind → Played → Played
after_scene piece (Err kind) p = faulty kind p
after_scene piece (Ok s) p = record (counted piece p) { setup = Some s.setup; written = p.written ++ s.text }

abbrev pub after_bench : List ℕ → Result (Option Setup) FaultKind → Played → Played
after_bench piece (Err kind) p = faulty kind p
after_bench piece (Ok setup) p = record (counted piece p) { setup = setup }

abbrev pub after_meaning : List ℕ → Meaning → Option Setup → Played → Played
after_meaning piece m None p = after_bench piece (without_card m) p
after_meaning piece m (Some setup) p = after_scene piece (with_card m (record { setup = setup; text = [] })) p

abbrev pub after_reading : List ℕ → Result Meaning FaultKind → Played → Played
after_reading piece (Err kind) p = faulty kind p
after_reading piece (Ok m) p = after_meaning piece m p.setup p

abbrev pub after_piece : List ℕ → Played → Played
after_piece piece p = if is_too_long piece p then faulty TooLong p else after_reading piece (read (line_in piece)) p

abbrev pub unless_faulty : List ℕ → Option Fault → Played → Played
unless_faulty piece None p = after_piece piece p
unless_faulty piece (Some fault) p = p

abbrev pub one_more : Played → List ℕ → Played
one_more p piece = unless_faulty piece p.fault p

abbrev pub played : List (List ℕ) → Played
played pieces = fold one_more not_begun pieces

-- What is written, and the first fault, where there is one.
abbrev pub transcript : List ℕ → List ℕ
transcript text = (played (pieces_of text)).written

abbrev pub first_fault : List ℕ → Option Fault
first_fault text = (played (pieces_of text)).fault
