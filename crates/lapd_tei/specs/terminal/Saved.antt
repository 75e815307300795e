-- What may be saved of the parts of a terminal's TEI management.
use Rattle.std.specs.Prelude.{◌≡◌, ◌≤◌, ℕ, List, [], ◌∷◌, All, Option, IfSome}
use Rattle.lapd_image.specs.Numbers.{number}
use Rattle.model_teis.specs.Table.{Places}
use Rattle.model_teis.specs.terminal.Image.{IsOfOctets}
use Rattle.model_teis.specs.terminal.Sound.{IsSoundProcedure, IsSoundQueue}
use Rattle.model_teis.specs.declared.terminal.messages.Message.{Message}
use Rattle.model_teis.specs.declared.terminal.procedure.Procedure.{Procedure}
use Rattle.model_teis.specs.declared.terminal.procedure.Procedure.TheVariants.{Asking, Verifying}

-- Which procedure it is, and the octets after that.
abbrev pub kind_of : Procedure → ℕ
kind_of (Asking ri attempts) = 1
kind_of (Verifying tei attempts) = 2

abbrev pub details : Procedure → List ℕ
details (Asking ri attempts) = attempts ∷ number 2 ri
details (Verifying tei attempts) = attempts ∷ tei ∷ []

-- A procedure of this kind may run on a line with these TEIs.
pub record MayRunAs (number : ℕ) (places : Places) (procedure : Procedure) : Type 0 where
  pub kind : kind_of procedure ≡ number
  pub sound : IsSoundProcedure places procedure

-- One or none may run there.
abbrev pub MayRun : Places → Option Procedure → Type 0
MayRun places procedure = IfSome procedure (IsSoundProcedure places)

-- So many attempts were made, at most so many.
pub record AreAttempts (limit attempts : ℕ) : Type 0 where
  pub least : 1 ≤ attempts
  pub most : attempts ≤ limit

-- These messages may wait there if this procedure runs.
pub record MayWait (places : Places) (procedure : Option Procedure) (waiting : List Message) : Type 0 where
  pub queue : IsSoundQueue places procedure waiting
  pub octets : All IsOfOctets waiting
