-- TEIs are managed as the procedures of Q.921 clause 5.3 say: what an answer shows of it is what is due.
use Rattle.std.specs.Prelude.{◌≡◌, ℕ, ◌==◌, Bool, true, false, List, filter, map, Some}
use Rattle.lapd_frame.specs.declared.notes.Note.{Note}
use Rattle.lapd_frame.specs.declared.notes.Note.TheVariants.{Assigned, Removed, Doubled, Denied, Unassigned, RemoveAll}
use Rattle.lapd_frame.specs.declared.timers.Order.{Order}
use Rattle.lapd_frame.specs.declared.timers.Order.TheVariants.{Start, Stop}
use Rattle.lapd_frame.specs.declared.timers.Timer.TheVariants.{T201, T202}
use Rattle.lapd_frame.specs.declared.controls.Control.TheVariants.{Ui}
use Rattle.lapd_frame.specs.Grammar.{Parts}
use Rattle.lapd_frame.specs.Senders.{spelling}
use Rattle.model_line.specs.declared.config.Config.{Config}
use Rattle.model_line.specs.Event as line_event
use Rattle.model_line.specs.Event.{Answer}
use Rattle.model_line.specs.Laws.{orders_in}
use Rattle.model_line.specs.Taken.{own_side}
use Rattle.laws_line.specs.Heard.{notes_of}
use Rattle.laws_line.specs.Share.{is_granted}
use Rattle.model_card.specs.Event.{Event}
use Rattle.laws_trace.specs.LinkFrames.{reads}
use Rattle.laws_trace.specs.Managing.{Managed, due, managed_after}
use Rattle.laws_trace.specs.Observer.{moment_of}
use Rattle.laws_trace.specs.Trace.{frame_in}

-- What an answer shows of TEI management: notes of TEIs, orders of T201 and T202, frames with SAPI 63, and whether what management
-- asks for is granted (clauses 5.3.1 to 5.3.6).
abbrev pub is_of_teis : Note → Bool
is_of_teis (Assigned tei) = true
is_of_teis (Removed tei) = true
is_of_teis (Doubled tei) = true
is_of_teis Denied = true
is_of_teis Unassigned = true
is_of_teis RemoveAll = true
is_of_teis other = false

abbrev pub is_of_line : Order → Bool
is_of_line (Start T201) = true
is_of_line (Stop T201) = true
is_of_line (Start T202) = true
is_of_line (Stop T202) = true
is_of_line other = false

-- A message goes to the group, TEI 127, in a UI command of the side with SAPI 63 and P=0 (clause 5.3.6).
abbrev pub message_text : Config → List ℕ → List ℕ
message_text c octets =
    spelling (own_side c) (record { address = record { sapi = 63; command = true; tei = 127 }; control = Ui false; info = octets })

pub record IsAsDue (c : Config) (due : Managed) (a : Answer) : Type 0 where
  pub notes : filter is_of_teis (notes_of a) ≡ due.notes
  pub orders : filter is_of_line (orders_in a) ≡ due.orders
  pub begins : filter (reads (own_side c) (λ (f : Parts). f.address.sapi == 63)) (frame_in a) ≡ map (message_text c) due.begins
  pub granted : (so : Bool) → due.granted ≡ Some so → is_granted a ≡ so

-- So it is of each event of the line, after whatever happened to the card.
abbrev pub TeisAreManaged : Config → List Event → ℕ → Type 0
TeisAreManaged c events number = (what : line_event.Event) → IsAsDue c (due c what (managed_after c number events)) (moment_of c events number what).answer
