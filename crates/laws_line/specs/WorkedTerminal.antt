-- Worked values: a terminal that asks for a TEI, establishes a link, answers a check, and loses its TEI.
use Rattle.std.specs.Prelude.{◌≡◌, ℕ, true, List, [], ◌∷◌, Option, Some, None, refl}
use Rattle.lapd_frame.specs.declared.addresses.Side.TheVariants.{User}
use Rattle.lapd_frame.specs.declared.notes.Note.{Note}
use Rattle.lapd_frame.specs.declared.notes.Note.TheVariants.{Assigned, Removed, Unassigned, ReleaseIndication}
use Rattle.lapd_frame.specs.declared.refusals.Refusal.TheVariants.{WrongSide, CheckRunning}
use Rattle.lapd_frame.specs.declared.services.Service.TheVariants.{Call}
use Rattle.lapd_frame.specs.declared.timers.Order.{Order}
use Rattle.lapd_frame.specs.declared.timers.Order.TheVariants.{Start}
use Rattle.lapd_frame.specs.declared.timers.Timer.TheVariants.{T202}
use Rattle.model_bits.specs.Stream as stream
unfoldable use Rattle.lapd_frame.specs.Reading.{reading, header_of, control_of, unnumbered_of}
unfoldable use Rattle.lapd_frame.specs.Senders.{exchanged, reading as read_by}
use Rattle.model_teis.specs.network.Events as teis
use Rattle.model_teis.specs.terminal.Events as terminals
use Rattle.model_line.specs.declared.config.Config.{Config}
use Rattle.model_line.specs.Event.{Event, hears, expiry, request, next, Answer, told, refused, gave}
use Rattle.model_line.specs.Request.{AskTei, Check, Establish}
use Rattle.model_line.specs.Line.{Line, fresh_line, has_tei}
unfoldable use Rattle.model_line.specs.Machine.{after, answer}
use Rattle.model_line.specs.Usual.{usual}

abbrev terminal : Config
terminal = record usual { side = User; seed = Some 4660 }

abbrev trunk : Config
trunk = record terminal { seed = None }

-- what an answer gives, notes and orders
abbrev frame_in : Answer → Option (List ℕ)
frame_in (told t) = None
frame_in (refused why) = None
frame_in (gave None) = None
frame_in (gave (Some frame)) = Some frame.octets

abbrev notes_in : Answer → List Note
notes_in (told t) = t.notes
notes_in (refused why) = []
notes_in (gave frame) = []

abbrev orders_in : Answer → List Order
orders_in (told t) = t.orders
orders_in (refused why) = []
orders_in (gave frame) = []

-- a message of the network
abbrev message : ℕ → ℕ → ℕ → ℕ → Event
message high low type last = hears (stream.frame (0xFE ∷ 0xFF ∷ 0x03 ∷ 0x0F ∷ high ∷ low ∷ type ∷ last ∷ []))

abbrev asked : Line
asked = after terminal (request AskTei) (fresh_line terminal)

asks : answer terminal next asked ≡ gave (Some (record { octets = 0xFC ∷ 0xFF ∷ 0x03 ∷ 0x0F ∷ 0x12 ∷ 0x34 ∷ 0x01 ∷ 0xFF ∷ []; orders = [] }))
unfolding after answer teis.course teis.refusal terminals.course
asks = refl

starts_t202 : orders_in (answer terminal (request AskTei) (fresh_line terminal)) ≡ Start T202 ∷ []
unfolding answer teis.course teis.refusal terminals.course
starts_t202 = refl

abbrev sent : Line
sent = after terminal next asked

takes : notes_in (answer terminal (message 0x12 0x34 2 0x81) sent) ≡ Assigned 64 ∷ []
unfolding after answer teis.course teis.refusal terminals.course exchanged read_by reading header_of control_of unnumbered_of
takes = refl

abbrev has : Line
has = after terminal (message 0x12 0x34 2 0x81) sent

on_line : has_tei 64 has ≡ true
unfolding after teis.course teis.refusal terminals.course exchanged read_by reading header_of control_of unnumbered_of
on_line = refl

abbrev established : Line
established = after terminal next (after terminal (request (Establish Call 64)) has)

answers : frame_in (answer terminal next (after terminal (message 0 0 4 0x81) established)) ≡ Some (0xFC ∷ 0xFF ∷ 0x03 ∷ 0x0F ∷ 0x29 ∷ 0x5D ∷ 0x05 ∷ 0x81 ∷ [])
unfolding after answer teis.course teis.refusal terminals.course exchanged read_by reading header_of control_of unnumbered_of
answers = refl

leaves : notes_in (answer terminal (message 0 0 6 0x81) established) ≡ Removed 64 ∷ ReleaseIndication Call 64 ∷ []
unfolding after answer teis.course teis.refusal terminals.course exchanged read_by reading header_of control_of unnumbered_of
leaves = refl

gives_up : notes_in (answer terminal (expiry T202) (after terminal (expiry T202) (after terminal (expiry T202) asked))) ≡ Unassigned ∷ []
unfolding after answer teis.course teis.refusal terminals.course
gives_up = refl

-- who may ask for what
not_at_a_trunk : answer trunk (request AskTei) (fresh_line trunk) ≡ refused WrongSide
unfolding answer
not_at_a_trunk = refl

no_check : answer terminal (request (Check 64)) has ≡ refused WrongSide
unfolding after answer teis.course teis.refusal terminals.course exchanged read_by reading header_of control_of unnumbered_of
no_check = refl

one_at_a_time : answer terminal (request AskTei) asked ≡ refused CheckRunning
unfolding after answer teis.course teis.refusal terminals.course
one_at_a_time = refl
