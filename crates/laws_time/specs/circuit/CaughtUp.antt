-- What an answer brings: an end that enquired catches up with what the other end had been told.
use Rattle.std.specs.Prelude.{◌≡◌, ◌≤◌, ℕ, ◌+◌, false, List, [], ◌∷◌, ◌++◌, length, All, Some, Ok}
use Rattle.std.specs.List.{list_any}
use Rattle.model_link.specs.declared.rooms.Room.{Room}
use Rattle.model_card.specs.Room.{room}
use Rattle.laws_time.specs.circuit.Answered.{IsUndisturbed, begun, state_at}
use Rattle.laws_time.specs.circuit.Arriving.{IsIdle, AreAsked, HasAllPlaces, calls, errors_at, is_used_up}
use Rattle.laws_time.specs.circuit.Clocked.{TimedEndpoint, Clocked, Beat, beat, after, contents_at}
use Rattle.laws_time.specs.circuit.InCall.{IsUp}
use Rattle.laws_time.specs.circuit.LongEnough.{Line, IsFit, AreClear, answered_in, begins}

-- So many of the contents that were granted at an end are acknowledged: the queue of the link (`Card::room`) keeps the others.
abbrev pub AreAcknowledged : Line → ℕ → TimedEndpoint → Type 0
AreAcknowledged l n s =
    (left : Room) × (room s.at.line l.service l.tei s.at.card.card ≡ Ok left) × (left.queue + length s.at.granted ≡ s.at.card.card.config.queue + n)

-- These are as many as the other end had been told at a time, or more, and no more than it has been told by now.
abbrev pub HasCaughtUp : Line → TimedEndpoint → TimedEndpoint → TimedEndpoint → Type 0
HasCaughtUp l then now s = (n : ℕ) × AreAcknowledged l n s × (length (contents_at then) ≤ n) × (n ≤ length (contents_at now))

-- If the other end had been told all that is granted by now, each place of the queue is free.
abbrev pub AllPlacesAreFree : Type 0
AllPlacesAreFree = (l : Line) (then now s : TimedEndpoint) → HasCaughtUp l then now s → contents_at then ≡ s.at.granted → HasAllPlaces l s

-- A call through any noise that makes no frame, in which N200 is not used up, and no UA was lost (error F).
abbrev pub in_call : Line → List Beat → Beat → List Beat → Clocked
in_call l before b bs = after l.rate (before ++ calls l b ∷ bs) (begins l)

pub record GoesWell (l : Line) (before : List Beat) (b : Beat) (bs : List Beat) : Type 0 where
  pub fit : IsFit l
  pub idle : All IsIdle before
  pub asked : All (AreAsked l) (b ∷ bs)
  pub clear : AreClear l (before ++ calls l b ∷ bs) (begins l)
  pub used : let w = in_call l before b bs in list_any is_used_up (errors_at w.near ++ errors_at w.far) ≡ false
  pub heard : errors_at (in_call l before b bs).far ≡ []

-- An end is in state 8 at a time, and in state 7 later. So the answer has told it what the other end had received. (The end that was called
-- may be in state 8 before its UA is heard.)
abbrev pub AnswersTellWhatCame : Type 0
AnswersTellWhatCame =
    (l : Line) (before bs more : List Beat) (b : Beat) → GoesWell l before b (bs ++ more) →
    let w = in_call l before b bs in let u = after l.rate more w in
    (state_at l w.near ≡ Some 8 → state_at l u.near ≡ Some 7 → HasCaughtUp l w.far u.far u.near)
    × (IsUp l w.near → state_at l w.far ≡ Some 8 → state_at l u.far ≡ Some 7 → HasCaughtUp l w.near u.near u.far)

-- In beats without noise an end comes from state 7 to state 8, and noise does not come again for as long as an answer takes at most. Then
-- it has caught up, in whatever state it is.
abbrev pub AnEnquiryCatchesUp : Type 0
AnEnquiryCatchesUp =
    (l : Line) (before noisy clean : List Beat) (b c d : Beat) → GoesWell l before b (noisy ++ c ∷ d ∷ clean) →
    IsUndisturbed l (before ++ calls l b ∷ noisy) c (d ∷ clean) → answered_in l.near l.far l.way ≤ length (d ∷ clean) →
    let v = begun l (before ++ calls l b ∷ noisy) c in let w = beat l.rate v d in let u = after l.rate clean w in
    (state_at l v.near ≡ Some 7 → state_at l w.near ≡ Some 8 → HasCaughtUp l w.far u.far u.near)
    × (IsUp l w.near → state_at l v.far ≡ Some 7 → state_at l w.far ≡ Some 8 → HasCaughtUp l w.near u.near u.far)
