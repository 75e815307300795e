-- Worked values: a terminal that asks for a TEI, and what breaks the law.
use Rattle.std.specs.Prelude.{◌≡◌, Bool, true, false, List, [], ◌∷◌, refl, map}
use Rattle.std.proofs.lemmas.Bool.{le-leb, leb-true}
use Rattle.lapd_frame.specs.declared.notes.Note.{Note}
use Rattle.lapd_frame.specs.declared.notes.Note.TheVariants.{Assigned, Unassigned}
use Rattle.lapd_frame.specs.Reading.{reading, header_of, control_of, unnumbered_of}
use Rattle.lapd_frame.specs.Senders.{exchanged, reading as read_by}
use Rattle.model_teis.specs.network.Events as teis
use Rattle.model_teis.specs.terminal.Events as terminals
use Rattle.model_line.specs.Event.{request}
use Rattle.model_line.specs.Machine as lines
use Rattle.model_line.specs.Request.{AskTei, Down}
use Rattle.model_card.specs.Card.{fresh}
use Rattle.model_card.specs.Event.{Event}
use Rattle.model_card.specs.Run.{moments, after_all}
use Rattle.laws_line.specs.Share.{is_granted}
use Rattle.laws_line.specs.card.Worked.{on_0}
use Rattle.laws_trace.specs.AskingEnds.{results, expiries, goes_on, HasResult}
use Rattle.laws_trace.specs.Observer.{moment_of}
use Rattle.laws_trace.specs.WorkedManaging.{terminal, gets_64, t202, says}

-- A request is granted. Then the results that are told, and which moments go on with it.
abbrev asking : List Event
asking = on_0 AskTei ∷ []

abbrev told_after : List Event → List Note
told_after later = results 0 (moments (after_all (fresh terminal) asking) later)

abbrev going_on : List Event → List Bool
going_on later = map (goes_on 0) (moments (after_all (fresh terminal) asking) later)

is_asked : is_granted (moment_of terminal [] 0 (request AskTei)).answer ≡ true
unfolding moments after_all lines.after lines.answer lines.takes_slot teis.course teis.refusal terminals.course
is_asked = refl

-- T202 expires three times, and a second request is refused meanwhile: none was assigned. Then a further one is granted.
abbrev gives_up : List Event
gives_up = t202 ∷ on_0 AskTei ∷ t202 ∷ t202 ∷ []

expires_thrice : expiries 0 gives_up ≡ 3
expires_thrice = refl

none_told : told_after gives_up ≡ Unassigned ∷ []
unfolding moments after_all lines.after lines.answer lines.takes_slot teis.course teis.refusal terminals.course
none_told = refl

goes_on_so : going_on gives_up ≡ true ∷ true ∷ true ∷ true ∷ []
unfolding moments after_all lines.after lines.answer lines.takes_slot teis.course teis.refusal terminals.course
goes_on_so = refl

asks_again : is_granted (moment_of terminal (on_0 AskTei ∷ gives_up) 0 (request AskTei)).answer ≡ true
unfolding moments after_all lines.after lines.answer lines.takes_slot teis.course teis.refusal terminals.course
asks_again = refl

-- It is denied one, and then assigned one.
abbrev gets_one : List Event
gets_one = says 3 0x12 0x34 0xFF ∷ gets_64 ∷ t202 ∷ []

one_told : told_after gets_one ≡ Assigned 64 ∷ []
unfolding moments after_all lines.after lines.answer lines.takes_slot teis.course teis.refusal terminals.course exchanged read_by reading header_of control_of unnumbered_of
one_told = refl

-- The line is down: asking is over without a result.
broken_off : going_on (on_0 Down ∷ t202 ∷ t202 ∷ t202 ∷ []) ≡ false ∷ true ∷ true ∷ true ∷ []
unfolding moments after_all lines.after lines.answer lines.takes_slot teis.course teis.refusal terminals.course
broken_off = refl

nothing_told : told_after (on_0 Down ∷ t202 ∷ t202 ∷ t202 ∷ []) ≡ []
unfolding moments after_all lines.after lines.answer lines.takes_slot teis.course teis.refusal terminals.course
nothing_told = refl

-- If no result comes with the third expiry, if two come, or if it asks again before one came, the law is broken.
never : HasResult 3 false [] → ⊥
never h = cc (h.ends (leb-true 3 3 refl))

twice : HasResult 2 false (Assigned 64 ∷ Unassigned ∷ []) → ⊥
twice h = cc (le-leb 2 1 h.once)

too_early : HasResult 1 true [] → ⊥
too_early h = cc (h.first refl)
