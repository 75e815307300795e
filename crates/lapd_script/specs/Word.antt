-- The first words of the lines.
use Rattle.std.specs.Prelude.{ℕ, Bool, true, false, if◌then◌else◌, List, [], ◌∷◌, codes, bytes_eq, Option, Some, None}
use Rattle.std.specs.Borrow.{Bor}
use Rattle.lapd_frame.specs.declared.services.Service.TheVariants.{Call, Packet}
use Rattle.lapd_script.specs.declared.command.Asked.{Asked}
use Rattle.lapd_script.specs.declared.command.Asked.TheVariants.{Assign, Remove, Check, Disown, Verify, Establish, Release, SetBusy, ClearBusy, Deactivate, Data, Unit}
use Rattle.model_card.specs.declared.kinds.CardKind.TheVariants.{Octets, Frames}
use Rattle.lapd_transcript.specs.declared.counters.CounterGroup.TheVariants.{Line, Messages}
use Rattle.lapd_script.specs.declared.word.Word.{Word}
use Rattle.lapd_script.specs.declared.word.Word.TheVariants.{Card, Rx, In, Failed, Next, Down, AskTei, Pull, Wait, Timers, Stored, Losses, Save, Restore, Counters, Ask}

-- The words with their names: of a card and of what happens on its lines,
abbrev pub word_rows : List (List ℕ × Word)
word_rows =
    (codes "card", Card Octets) ∷ (codes "frames", Card Frames) ∷
    (codes "rx", Rx) ∷ (codes "in", In) ∷ (codes "failed", Failed) ∷ (codes "next", Next) ∷ (codes "down", Down) ∷ (codes "ask", AskTei) ∷
    -- of what passes and what is shown,
    (codes "pull", Pull) ∷ (codes "wait", Wait) ∷ (codes "timers", Timers) ∷ (codes "stored", Stored) ∷
    (codes "losses", Losses) ∷ (codes "save", Save) ∷ (codes "restore", Restore) ∷ (codes "counters", Counters Line) ∷ (codes "messages", Counters Messages) ∷
    -- of what is asked for a TEI,
    (codes "assign", Ask Assign) ∷ (codes "remove", Ask Remove) ∷ (codes "check", Ask Check) ∷ (codes "disown", Ask Disown) ∷ (codes "verify", Ask Verify) ∷
    -- for its link, and for packet links (SAPI 16) with 16 after the word,
    (codes "establish", Ask (Establish Call)) ∷ (codes "establish16", Ask (Establish Packet)) ∷
    (codes "release", Ask (Release Call)) ∷ (codes "release16", Ask (Release Packet)) ∷
    (codes "busy", Ask (SetBusy Call)) ∷ (codes "busy16", Ask (SetBusy Packet)) ∷
    (codes "ready", Ask (ClearBusy Call)) ∷ (codes "ready16", Ask (ClearBusy Packet)) ∷
    (codes "deactivate", Ask (Deactivate Call)) ∷ (codes "deactivate16", Ask (Deactivate Packet)) ∷
    -- and that octets are sent
    (codes "data", Ask («Data» Call)) ∷ (codes "data16", Ask («Data» Packet)) ∷
    (codes "unit", Ask (Unit Call)) ∷ (codes "unit16", Ask (Unit Packet)) ∷
    []

-- the word of the first row with this name
abbrev pub named_in : List ℕ → List (List ℕ × Word) → Option Word
named_in name [] = None
named_in name (r ∷ rows) = if bytes_eq name r.0 then Some r.1 else named_in name rows

abbrev pub word_named : List ℕ → Option Word
word_named name = named_in name word_rows

-- a row, with the name that it refers to
abbrev pub row : Bor (List ℕ) × Word → List ℕ × Word
row r = (r.0.now, r.1)

-- whether octets follow the TEI
abbrev pub carries_octets : Asked → Bool
carries_octets (Data service) = true
carries_octets (Unit service) = true
carries_octets _ = false
