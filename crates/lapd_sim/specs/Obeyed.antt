-- What a line of a script was answered with: what has been written, and what the setup stands for after it.
use Rattle.std.specs.Prelude.{◌≡◌, ℕ, List, [], Option, None, Some, Result, Ok, Err}
use Rattle.model_card.specs.declared.kinds.CardKind.{CardKind}
use Rattle.lapd_script.specs.declared.kind.FaultKind.{FaultKind}
use Rattle.lapd_script.specs.Meaning.{Meaning, restore}
use Rattle.lapd_script.specs.Read.{read}
use Rattle.model_line.specs.declared.config.Config.{Config}
use Rattle.model_line.specs.Config.{first_fault}
use Rattle.lapd_transcript.specs.declared.streams.WriteFailed.{WriteFailed}
use Rattle.lapd_transcript.specs.Streams.{Output, IsPut, IsStuck}
use Rattle.lapd_sim.specs.machine.Images.{image, saved}
use Rattle.lapd_sim.specs.machine.Setup.{Setup, begun, happened}
use Rattle.model_image.specs.Sound.{IsSaved}
use Rattle.lapd_sim.specs.machine.Steps.{Scene, at_expiry, begun_with, due_by, with_card, without_card}
use Rattle.lapd_sim.specs.machine.Board.{at, expiry, reply, told}
use Rattle.lapd_clock.specs.Timer.{Timer}
use Rattle.lapd_line.specs.Reports.{told_beside}
use Rattle.lapd_link_steps.specs.declared.report.BareReport.{BareReport}
use Rattle.lapd_sim.specs.declared.setup.Setup as rust
use Rattle.lapd_script.specs.declared.faults.LineFault.{LineFault}
use Rattle.lapd_script.specs.declared.faults.LineFault.TheVariants.{Faulty, Write, OutOfMemory}
use Rattle.lapd_sim.specs.Stands.{Has, SetupStands}

-- The scene in which nothing has been said yet.
abbrev pub scene : Setup → Scene
scene m = record { setup = m; text = [] }

-- What happens at a setup can fail in a write alone: then a beginning has been written of what it says.
abbrev pub Tells : {E : Type 0} → Result Unit E → Output → Output → (Setup → Type 0) → Scene → Type 0
Tells (Ok _) old new stands s = IsPut old new s.text × stands s.setup
Tells (Err _) old new stands s = IsStuck old new s.text

abbrev pub Breaks : Output → Output → Result Scene FaultKind → Type 0
Breaks old new (Ok s) = IsStuck old new s.text
Breaks old new (Err kind) = ⊥

-- A line that needs the card can be faulty too: then nothing has been written. Memory is never refused.
abbrev pub Obeys : Result Unit LineFault → Output → Output → (Setup → Type 0) → Result Scene FaultKind → Type 0
Obeys (Ok _) old new stands (Ok s) = IsPut old new s.text × stands s.setup
Obeys (Ok _) old new stands (Err kind) = ⊥
Obeys (Err (Faulty kind)) old new stands said = (new ≡ old) × (said ≡ Err kind)
Obeys (Err Write) old new stands said = Breaks old new said
Obeys (Err OutOfMemory) old new stands said = ⊥

-- Of the lines at which there is a card, `restore` alone takes memory. If it is refused, nothing has changed.
abbrev pub ObeysLine : Meaning → Setup → Result Unit LineFault → Output → Output → (Setup → Type 0) → Result Scene FaultKind → Type 0
ObeysLine meaning m (Ok u) old new stands said = Obeys (Ok u) old new stands said
ObeysLine meaning m (Err (Faulty kind)) old new stands said = Obeys (Err (Faulty kind)) old new stands said
ObeysLine meaning m (Err Write) old new stands said = Obeys (Err Write) old new stands said
ObeysLine meaning m (Err OutOfMemory) old new stands said = (new ≡ old) × (meaning ≡ restore) × (said ≡ Ok (scene m))

-- So it is from each setup that one stands for: of what happens, and of a line.
abbrev pub SetupSays : {E : Type 0} → Result Unit E → (old new : rust.Setup) → (before after : Output) → (Scene → Scene) → Type 0
SetupSays result old new before after happens = (m : Setup) → SetupStands old m → Tells result before after (SetupStands new) (happens (scene m))

abbrev pub Answers : Result Unit LineFault → (old new : rust.Setup) → (before after : Output) → Meaning → Type 0
Answers result old new before after meaning = (m : Setup) → SetupStands old m → Obeys result before after (SetupStands new) (with_card meaning (scene m))

abbrev pub AnswersLine : Result Unit LineFault → (old new : rust.Setup) → (before after : Output) → Meaning → Type 0
AnswersLine result old new before after meaning = (m : Setup) → SetupStands old m → ObeysLine meaning m result before after (SetupStands new) (with_card meaning (scene m))

-- What fell due first, by a moment, has expired at a line: the time is its moment, and the report tells what this led to.
pub record HasExpired (end line : ℕ) (report : BareReport) (new : rust.Setup) (m : Setup) : Type 0 where
  pub timer : Timer
  pub due : due_by end m.clock ≡ Some (line, timer)
  pub says : told (told_beside None report) ≡ reply (at line (expiry timer)) m.board
  pub stands : SetupStands new (happened (at_expiry m) (at line (expiry timer)))

-- What a line comes to at which only a write can fail.
abbrev pub written : Result Unit WriteFailed → Result Unit LineFault
written (Ok u) = Ok u
written (Err e) = Err Write

-- What is begun at a card line: for want of memory alone it may not begin where the configuration is in range.
abbrev pub Begins : {X : Type 0} → Result X LineFault → CardKind → Config → (X → Setup → Type 0) → Type 0
Begins (Ok x) kind c stands = (first_fault c ≡ None) × stands x (begun kind c)
Begins (Err (Faulty fault)) kind c stands = begun_with kind c ≡ Err fault
Begins (Err Write) kind c stands = ⊥
Begins (Err OutOfMemory) kind c stands = first_fault c ≡ None

-- The same of any line where there is no card yet: memory is taken, and can be refused, at a card line alone.
abbrev pub StartsBy : Result (Option rust.Setup) LineFault → Result (Option Setup) FaultKind → Type 0
StartsBy (Ok setup) (Ok m) = Has setup m
StartsBy (Ok setup) (Err kind) = ⊥
StartsBy (Err (Faulty kind)) said = said ≡ Err kind
StartsBy (Err Write) said = ⊥
StartsBy (Err OutOfMemory) said = (m : Setup) × (said ≡ Ok (Some m))

-- What a line says, whatever stands before it: the setup after it, where there is one, and its text.
pub record Said : Type 0 where
  pub setup : Option Setup
  pub text : List ℕ

abbrev pub said_with : Result Scene FaultKind → Result Said FaultKind
said_with (Ok s) = Ok (record { setup = Some s.setup; text = s.text })
said_with (Err kind) = Err kind

abbrev pub said_without : Result (Option Setup) FaultKind → Result Said FaultKind
said_without (Ok setup) = Ok (record { setup = setup; text = [] })
said_without (Err kind) = Err kind

abbrev pub said_of : Meaning → Option Setup → Result Said FaultKind
said_of meaning None = said_without (without_card meaning)
said_of meaning (Some m) = said_with (with_card meaning (scene m))

abbrev pub said_by : Result Meaning FaultKind → Option Setup → Result Said FaultKind
said_by (Err kind) setup = Err kind
said_by (Ok meaning) setup = said_of meaning setup

abbrev pub said : List ℕ → Option Setup → Result Said FaultKind
said line setup = said_by (read line) setup

-- A line that starts the card: where there was none, or anew from its image, and then it is the same.
abbrev pub WasBefore : List ℕ → Setup → Option Setup → Type 0
WasBefore line card None = Unit {0}
WasBefore line card (Some before) = (read line ≡ Ok restore) × (before ≡ card)

pub record IsStart (line : List ℕ) (before : Option Setup) (said : Result Said FaultKind) : Type 0 where
  pub card : Setup
  pub was : WasBefore line card before
  pub begins : said ≡ Ok (record { setup = Some card; text = [] })

-- A line can start the card: memory can be refused then, and nothing has been written.
abbrev pub Does : Result Unit LineFault → Output → Output → List ℕ → Option Setup → (Option Setup → Type 0) → Result Said FaultKind → Type 0
Does (Ok _) old new line before has (Ok s) = IsPut old new s.text × has s.setup
Does (Ok _) old new line before has (Err kind) = ⊥
Does (Err (Faulty kind)) old new line before has said = (new ≡ old) × (said ≡ Err kind)
Does (Err Write) old new line before has (Ok s) = IsStuck old new s.text
Does (Err Write) old new line before has (Err kind) = ⊥
Does (Err OutOfMemory) old new line before has said = (new ≡ old) × IsStart line before said

-- These octets are the image of the card of a setup; and it may be restored.
pub record IsImageOf (m : Setup) (octets : List ℕ) : Type 0 where
  pub octets_are : octets ≡ image m
  pub is_saved : IsSaved (saved m)
