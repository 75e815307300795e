-- What holds of TEI management of a terminal at all times, from a fresh line on.
use Rattle.std.specs.Prelude.{◌≡◌, ℕ, ◌≤◌, ◌<◌, ◌==◌, Bool, true, false, List, length, All, Option, Some, None, IfSome}
use Rattle.std.specs.List.{count_by}
use Rattle.model_teis.specs.Table.{Places, is_on, IsSoundTable}
use Rattle.model_teis.specs.terminal.Messages.{Message, IdentityRequest, IdentityCheckResponse, IdentityVerify}
use Rattle.model_teis.specs.terminal.Machine.{Terminal, Procedure, Asking, Verifying, most_requests, most_verifies}
use Rattle.model_teis.specs.terminal.Words.{is_verified}

-- A procedure has made as many attempts as it may, at most, and verifies a TEI that is on the line.
abbrev pub IsSoundProcedure : Places → Procedure → Type 0
IsSoundProcedure places (Asking ri attempts) = (ri < 65536) × (1 ≤ attempts) × (attempts ≤ most_requests)
IsSoundProcedure places (Verifying tei attempts) = (is_on tei places ≡ true) × (1 ≤ attempts) × (attempts ≤ most_verifies)

-- What waits is the request that is outstanding, the verify of the TEI that is verified, or a response for a TEI that
-- is on the line.
abbrev pub is_asked : ℕ → Option Procedure → Bool
is_asked ri None = false
is_asked ri (Some (Asking own attempts)) = own == ri
is_asked ri (Some (Verifying tei attempts)) = false

abbrev pub is_due : Places → Option Procedure → Message → Bool
is_due places procedure (IdentityRequest ri) = is_asked ri procedure
is_due places procedure (IdentityCheckResponse ri tei) = is_on tei places
is_due places procedure (IdentityVerify tei) = is_verified tei procedure

-- Which procedure may go on by asking for a TEI, and which by verifying this one.
abbrev pub may_ask : Option Procedure → Bool
may_ask None = true
may_ask (Some (Asking ri attempts)) = true
may_ask (Some (Verifying tei attempts)) = false

abbrev pub may_verify : ℕ → Option Procedure → Bool
may_verify tei None = true
may_verify tei (Some procedure) = is_verified tei (Some procedure)

-- Each message has a slot, and no two have the same: that of a procedure is 127, and that of a response is its TEI.
abbrev pub slot_of : Message → ℕ
slot_of (IdentityRequest ri) = 127
slot_of (IdentityCheckResponse ri tei) = tei
slot_of (IdentityVerify tei) = 127

abbrev pub has_slot : ℕ → Message → Bool
has_slot slot message = slot_of message == slot

pub record IsSoundQueue (places : Places) (procedure : Option Procedure) (waiting : List Message) : Type 0 where
  pub due : All (λ message. is_due places procedure message ≡ true) waiting
  pub once : (slot : ℕ) → count_by (has_slot slot) waiting ≤ 1

pub record IsSound (m : Terminal) : Type 0 where
  pub few : length m.places ≤ 8
  pub table : IsSoundTable m.places
  pub number : m.number < 65536
  pub runs : IfSome m.procedure (IsSoundProcedure m.places)
  pub queue : IsSoundQueue m.places m.procedure m.waiting
