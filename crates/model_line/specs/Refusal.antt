-- Why a request is refused (profile): the first row that applies to the request and holds.
use Rattle.std.specs.Prelude.{ℕ, ◌==◌, Bool, not, ◌&&◌, nat_lt, nat_le, length, List, [], ◌∷◌, Option, Some, None, is_some, if◌then◌else◌}
use Rattle.lapd_frame.specs.declared.services.Service.{Service}
use Rattle.lapd_frame.specs.declared.refusals.Refusal.{Refusal}
use Rattle.lapd_frame.specs.declared.refusals.Refusal.TheVariants.{BadTei, NoLink, WrongState, TooLong, QueueFull, PoolFull, TeiTaken, TableFull, CheckRunning, ControlFull, WrongSide}
use Rattle.model_link.specs.Events as link
use Rattle.model_link.specs.Requests.{serves, is_queue_full}
use Rattle.model_teis.specs.network.Machine.{messages_limit}
use Rattle.model_teis.specs.Table.{free_place, is_in_use}
use Rattle.model_line.specs.declared.config.Config.{Config}
use Rattle.model_line.specs.Request.{Request, Establish, Release, Data, Unit, Assign, Remove, Check, Disown, AskTei, VerifyTei, SetBusy, ClearBusy, Deactivate, Down}
use Rattle.model_line.specs.Sides.{last_unit_tei, has_management, is_network}
use Rattle.model_line.specs.Line.{Line, is_terminal, terms, has_tei, link_of}

-- A row: why, and whether it holds.
pub record Row : Type 0 where
  pub why : Refusal
  pub holds : Bool

abbrev pub first_that_holds : List Row → Option Refusal
first_that_holds [] = None
first_that_holds (row ∷ rows) = if row.holds then Some row.why else first_that_holds rows

-- TEI 127 is the group, and no TEI of a terminal.
abbrev pub bad_tei : ℕ → Row
bad_tei tei = record { why = BadTei; holds = nat_lt 126 tei }

abbrev pub no_link : ℕ → Line → Row
no_link tei l = record { why = NoLink; holds = not (has_tei tei l) }

-- Unit data may go to the group, from the network's side.
abbrev pub bad_tei_or_group : Config → ℕ → Row
bad_tei_or_group c tei = record { why = BadTei; holds = nat_lt (last_unit_tei c.side) tei }

abbrev pub no_link_nor_group : ℕ → Line → Row
no_link_nor_group tei l = record { why = NoLink; holds = not (tei == 127) && not (has_tei tei l) }

abbrev pub wrong_state : Config → Service → ℕ → link.Request → Line → Row
wrong_state c service tei request l =
    let x = link_of service tei l in record { why = WrongState; holds = not (serves c.reading x.state x.owed request) }

abbrev pub too_long : Config → List ℕ → Row
too_long c contents = record { why = TooLong; holds = nat_lt c.n201 (length contents) }

-- The link keeps as many contents as it may, or as many units wait on the line.
abbrev pub queue_full : Config → Service → ℕ → Line → Row
queue_full c service tei l = record { why = QueueFull; holds = is_queue_full (terms c service tei) (link_of service tei l) }

abbrev pub unit_queue_full : Config → Line → Row
unit_queue_full c l = record { why = QueueFull; holds = nat_le c.unit_queue (length l.units) }

-- The card holds as many contents as it has slots.
abbrev pub pool_full : Bool → Row
pool_full is_full = record { why = PoolFull; holds = is_full }

abbrev pub tei_taken : ℕ → Line → Row
tei_taken tei l = record { why = TeiTaken; holds = has_tei tei l }

-- A TEI that is disowned may be 127, which means all TEIs, and is on no line: where any is on this one, all are not disowned.
abbrev pub bad_tei_or_all : ℕ → Row
bad_tei_or_all tei = record { why = BadTei; holds = nat_lt 127 tei }

abbrev pub tei_in_use : ℕ → Line → Row
tei_in_use tei l = record { why = TeiTaken; holds = is_in_use tei l.management.places }

abbrev pub table_full : Line → Row
table_full l = record { why = TableFull; holds = not (is_some (free_place l.management.places)) }

abbrev pub check_running : Line → Row
check_running l = record { why = CheckRunning; holds = is_some l.management.check }

abbrev pub control_full : Line → Row
control_full l = record { why = ControlFull; holds = nat_le messages_limit (length l.management.waiting) }

-- A procedure of a terminal runs.
abbrev pub procedure_running : Line → Row
procedure_running l = record { why = CheckRunning; holds = is_some l.own.procedure }

-- A trunk's end has no TEI management, and takes no TEI off the line. Only the network's side checks or disowns one, and only a terminal
-- asks for one and has it verified.
abbrev pub wrong_side : Config → Row
wrong_side c = record { why = WrongSide; holds = not (has_management c) }

abbrev pub not_network : Config → Row
not_network c = record { why = WrongSide; holds = not (is_network c.side) }

abbrev pub not_terminal : Config → Row
not_terminal c = record { why = WrongSide; holds = not (is_terminal c) }

-- The rows that apply to a request, in order, while the card's pool is full or not.
abbrev pub rows : Config → Bool → Request → Line → List Row
rows c full (Establish service tei) l = bad_tei tei ∷ no_link tei l ∷ wrong_state c service tei link.Establish l ∷ []
rows c full (Release service tei) l = bad_tei tei ∷ no_link tei l ∷ wrong_state c service tei link.Release l ∷ []
rows c full (Data service tei contents) l =
    bad_tei tei ∷ no_link tei l ∷ wrong_state c service tei (link.Data contents) l
    ∷ too_long c contents ∷ queue_full c service tei l ∷ pool_full full ∷ []
rows c full (Unit service tei contents) l =
    bad_tei_or_group c tei ∷ no_link_nor_group tei l ∷ too_long c contents ∷ unit_queue_full c l ∷ pool_full full ∷ []
rows c full (Assign tei) l = bad_tei tei ∷ tei_taken tei l ∷ table_full l ∷ []
rows c full (Remove tei) l = wrong_side c ∷ bad_tei tei ∷ no_link tei l ∷ control_full l ∷ []
rows c full AskTei l = not_terminal c ∷ table_full l ∷ procedure_running l ∷ []
rows c full (VerifyTei tei) l = not_terminal c ∷ bad_tei tei ∷ no_link tei l ∷ procedure_running l ∷ []
rows c full (Check tei) l = not_network c ∷ bad_tei tei ∷ no_link tei l ∷ check_running l ∷ control_full l ∷ []
rows c full (Disown tei) l = not_network c ∷ bad_tei_or_all tei ∷ tei_in_use tei l ∷ control_full l ∷ []
rows c full (SetBusy service tei) l = bad_tei tei ∷ no_link tei l ∷ wrong_state c service tei link.SetBusy l ∷ []
rows c full (ClearBusy service tei) l = bad_tei tei ∷ no_link tei l ∷ wrong_state c service tei link.ClearBusy l ∷ []
rows c full (Deactivate service tei) l = bad_tei tei ∷ no_link tei l ∷ []
rows c full Down l = []

abbrev pub refusal : Config → Bool → Request → Line → Option Refusal
refusal c full request l = first_that_holds (rows c full request l)
