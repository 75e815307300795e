-- Worked values: which timers a caller runs that obeys the orders.
use Rattle.std.specs.Prelude.{◌≡◌, Bool, true, false, List, [], ◌∷◌, ◌++◌, refl}
use Rattle.laws_line.specs.WorkedWords.{Call, T200, T203, T201, exchanged, read_by, reading, header_of, control_of, unnumbered_of, expiry, Assign, Establish, Remove, Check, fresh, Event, at, moments, runs_at_callers}
use Rattle.model_teis.specs.network.Events as teis
use Rattle.model_line.specs.Machine as lines
use Rattle.laws_line.specs.card.Worked.{usual, on_0, up}

-- T200, T203 of the call control link of TEI 64, and T201, after these events
abbrev runs_after : List Event → List Bool
runs_after events =
    runs_at_callers 0 (T200 Call 64) false (moments (fresh usual) events)
    ∷ runs_at_callers 0 (T203 Call 64) false (moments (fresh usual) events)
    ∷ runs_at_callers 0 T201 false (moments (fresh usual) events) ∷ []

-- An establishment of layer 3: T200; it expires, and is started anew; the TEI leaves, and none runs.
t200_while_establishing : runs_after (on_0 (Assign 64) ∷ on_0 (Establish Call 64) ∷ []) ≡ true ∷ false ∷ false ∷ []
unfolding moments lines.after lines.answer lines.takes_slot exchanged read_by reading header_of control_of unnumbered_of teis.course teis.refusal
t200_while_establishing = refl

t200_anew : runs_after (on_0 (Assign 64) ∷ on_0 (Establish Call 64) ∷ at 0 (expiry (T200 Call 64)) ∷ []) ≡ true ∷ false ∷ false ∷ []
unfolding moments lines.after lines.answer lines.takes_slot exchanged read_by reading header_of control_of unnumbered_of teis.course teis.refusal
t200_anew = refl

none_without_the_tei : runs_after (on_0 (Assign 64) ∷ on_0 (Establish Call 64) ∷ on_0 (Remove 64) ∷ []) ≡ false ∷ false ∷ false ∷ []
unfolding moments lines.after lines.answer lines.takes_slot exchanged read_by reading header_of control_of unnumbered_of teis.course teis.refusal
none_without_the_tei = refl

-- The terminal establishes the link: T203; it expires, and the enquiry is awaited by T200.
t203_while_idle : runs_after up ≡ false ∷ true ∷ false ∷ []
unfolding moments lines.after lines.answer lines.takes_slot exchanged read_by reading header_of control_of unnumbered_of teis.course teis.refusal
t203_while_idle = refl

t200_for_an_enquiry : runs_after (up ++ at 0 (expiry (T203 Call 64)) ∷ []) ≡ true ∷ false ∷ false ∷ []
unfolding moments lines.after lines.answer lines.takes_slot exchanged read_by reading header_of control_of unnumbered_of teis.course teis.refusal
t200_for_an_enquiry = refl

-- A check of the TEI: T201.
t201_while_checked : runs_after (on_0 (Assign 64) ∷ on_0 (Check 64) ∷ []) ≡ false ∷ false ∷ true ∷ []
unfolding moments lines.after lines.answer lines.takes_slot exchanged read_by reading header_of control_of unnumbered_of teis.course teis.refusal
t201_while_checked = refl
