-- Worked values: unit data that is told, of the group and of a terminal; and one to another TEI, which is told of none.
use Rattle.std.specs.Prelude.{◌≡◌, ℕ, false, List, [], ◌∷◌, None, Some, refl}
use Rattle.lapd_frame.specs.declared.addresses.Side.TheVariants.{User}
use Rattle.lapd_frame.specs.declared.notes.Note.TheVariants.{Unit}
use Rattle.lapd_frame.specs.declared.services.Service.TheVariants.{Call}
use Rattle.lapd_frame.specs.Reading.{reading, header_of, control_of, unnumbered_of}
use Rattle.lapd_frame.specs.Senders.{exchanged, reading as read_by}
use Rattle.model_teis.specs.network.Events as teis
use Rattle.model_line.specs.declared.config.Config.{Config}
use Rattle.model_line.specs.Machine as lines
use Rattle.model_line.specs.Request.{Assign}
use Rattle.model_card.specs.Card.{fresh}
use Rattle.model_card.specs.Machine.{answer}
use Rattle.model_card.specs.Run.{moments, after_all}
use Rattle.laws_line.specs.Heard.{notes_of, contents_in}
use Rattle.laws_line.specs.card.Worked.{usual, on_0}
use Rattle.laws_trace.specs.Managing.{is_on}
use Rattle.laws_trace.specs.Observer.{view_of}
use Rattle.laws_trace.specs.Trace.{is_up}
use Rattle.laws_trace.specs.WorkedUnits.{frame_comes}

abbrev user : Config
user = record usual { side = User }

-- The network's UI to the group, with AB, is unit data of TEI 127.
to_group : notes_of (answer (frame_comes (0x02 ∷ 0xFF ∷ 0x03 ∷ 0xAB ∷ [])) (fresh user)) ≡ Unit Call 127 ∷ []
unfolding lines.answer lines.takes_slot exchanged read_by reading header_of control_of unnumbered_of
to_group = refl

-- That of a terminal whose TEI is on the line is told, and of one whose is not is none.
abbrev heard_from_64 : List ℕ
heard_from_64 = 0x00 ∷ 0x81 ∷ 0x03 ∷ 0xCD ∷ []

on_line : contents_in (answer (frame_comes heard_from_64) (after_all (fresh usual) (on_0 (Assign 64) ∷ []))) ≡ Some (0xCD ∷ [])
unfolding after_all lines.after lines.answer lines.takes_slot teis.course teis.refusal exchanged read_by reading header_of control_of unnumbered_of
on_line = refl

off_line : contents_in (answer (frame_comes heard_from_64) (fresh usual)) ≡ None
unfolding lines.answer lines.takes_slot exchanged read_by reading header_of control_of unnumbered_of
off_line = refl

-- Data of a link in state 4, or, at a card of the network's side, unit data of a TEI that is not on the line would break the law.
not_up : is_up (view_of usual Call 64 0 (on_0 (Assign 64) ∷ [])).link.state ≡ false
unfolding moments lines.after lines.answer lines.takes_slot teis.course teis.refusal
not_up = refl

not_there : is_on 64 (view_of usual Call 64 0 []).teis ≡ false
unfolding moments
not_there = refl

not_users : usual.side ≡ User → ⊥
not_users e = cc e
