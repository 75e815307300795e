-- Worked values: what layer 3 would be told where the laws of a call were broken.
use Rattle.std.specs.Prelude.{◌≡◌, ◌+◌, ◌*◌, ◌≤◌, List, [], ◌∷◌}
use Rattle.std.proofs.Common.{ap, arith}
use Rattle.lapd_frame.specs.declared.notes.Note.{Note}
use Rattle.lapd_frame.specs.declared.notes.Note.TheVariants as notes
use Rattle.lapd_frame.specs.declared.services.Service.TheVariants.{Call}
use Rattle.model_line.specs.Event.{LineTold}
use Rattle.laws_wire.specs.Call.{IsBeginningOf, confirmed, data_told}

abbrev first_notes : List LineTold → List Note
first_notes [] = []
first_notes (t ∷ ts) = t.notes

-- Data before the confirm, data a second time, and data that was never granted.
before_it : IsBeginningOf (confirmed Call 0 ∷ data_told Call 0 (0xAB ∷ []) ∷ []) (data_told Call 0 (0xAB ∷ []) ∷ []) → ⊥
before_it x = let same : notes.Data Call 0 ∷ [] ≡ notes.EstablishConfirm Call 0 ∷ [] = ap first_notes x.1 in cc same

a_second_time : IsBeginningOf (confirmed Call 0 ∷ data_told Call 0 (0xAB ∷ []) ∷ []) (confirmed Call 0 ∷ data_told Call 0 (0xAB ∷ []) ∷ data_told Call 0 (0xAB ∷ []) ∷ []) → ⊥
a_second_time x = cc x.1

never_granted : IsBeginningOf (confirmed Call 0 ∷ []) (confirmed Call 0 ∷ data_told Call 0 (0xAB ∷ []) ∷ []) → ⊥
never_granted x = cc x.1

-- Five turns, where nothing was granted.
too_many : 5 ≤ 4 + 4 * (0 + 0) → ⊥
too_many less = omega (arith, less)
