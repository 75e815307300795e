-- A call between two cards: what layer 3 of each asks for, and what it is told.
use Rattle.std.specs.Prelude.{◌≡◌, ◌≤◌, ◌<◌, ℕ, ◌+◌, ◌*◌, Bool, false, ◌||◌, List, [], ◌∷◌, ◌++◌, length, map, All, Some, if◌then◌else◌}
use Rattle.lapd_frame.specs.declared.notes.Note.TheVariants as notes
use Rattle.lapd_frame.specs.declared.services.Service.{Service}
use Rattle.model_line.specs.declared.config.Config.{Config}
use Rattle.model_line.specs.Event.{request, LineTold, nothing}
use Rattle.model_line.specs.Heard.{heard_side}
use Rattle.model_line.specs.Taken.{own_side}
use Rattle.model_line.specs.Request.{Request, Establish, Data, Assign}
use Rattle.model_line.specs.Sound.{IsInRange}
use Rattle.model_card.specs.Card.{fresh}
use Rattle.laws_line.specs.Share.{is_granted}
use Rattle.laws_wire.specs.Wire.{Endpoint, Wire, happens, answered, Step, requests, sends, receives, StepAt, at_near, at_far, doing, doing_all, turns, IsStill}

-- A card that has just begun, at one of its lines; it has the TEI assigned; and two such, of which one is asked to establish.
abbrev pub endpoint : Config → ℕ → Endpoint
endpoint c line = record { card = fresh c; line = line; way = []; granted = []; told = [] }

abbrev pub assigned : Config → ℕ → ℕ → Endpoint
assigned c line tei = happens (request (Assign tei)) (endpoint c line)

abbrev pub calling : Service → ℕ → Config → ℕ → Config → ℕ → Wire
calling service tei c line d other =
    record { near = happens (request (Establish service tei)) (assigned c line tei); far = assigned d other tei }

-- A line of a card with a configuration in range; and two configurations of the two sides, so that each hears what the other
-- sends, with the same SAPI of the second service and the same N201.
abbrev pub IsLineOf : Config → ℕ → Type 0
IsLineOf c line = IsInRange c × (line < c.lines)

abbrev pub AreOpposite : Config → Config → Type 0
AreOpposite c d = (own_side d ≡ heard_side c) × (c.n201 ≡ d.n201)

-- Two such cards, a line of each, and a TEI that a terminal can have.
pub record CanCall (c : Config) (line : ℕ) (d : Config) (other tei : ℕ) : Type 0 where
  pub near : IsLineOf c line
  pub far : IsLineOf d other
  pub opposite : AreOpposite c d
  pub terminal : tei ≤ 126

-- What is done in a call: either layer 3 asks to establish the link, or to send data, and is granted or refused; and turns.
abbrev pub IsCallOf : Service → ℕ → Step → Type 0
IsCallOf service tei (requests (Establish s t)) = (s ≡ service) × (t ≡ tei)
IsCallOf service tei (requests (Data s t contents)) = (s ≡ service) × (t ≡ tei)
IsCallOf service tei sends = Unit {0}
IsCallOf service tei receives = Unit {0}
IsCallOf service tei other = ⊥

abbrev pub IsCall : Service → ℕ → StepAt → Type 0
IsCall service tei (at_near act) = IsCallOf service tei act
IsCall service tei (at_far act) = IsCallOf service tei act

-- Whether layer 3 of the far end was granted an establishment, too: then both ends call. Once SABME has come it is refused.
abbrev pub calls_back : StepAt → Wire → Bool
calls_back (at_far (requests (Establish s t))) w = is_granted (answered (request (Establish s t)) w.far)
calls_back other w = false

unfoldable pub both_call : List StepAt → Wire → Bool
both_call [] w = false
both_call (d ∷ ds) w = calls_back d w || both_call ds (doing d w)

-- Data alone is asked for, once the link is established; and turns.
abbrev pub IsData : Service → ℕ → Request → Type 0
IsData service tei (Data s t contents) = (s ≡ service) × (t ≡ tei)
IsData service tei other = ⊥

abbrev pub IsTalkOf : Service → ℕ → Step → Type 0
IsTalkOf service tei (requests r) = IsData service tei r
IsTalkOf service tei sends = Unit {0}
IsTalkOf service tei receives = Unit {0}
IsTalkOf service tei other = ⊥

abbrev pub IsTalk : Service → ℕ → StepAt → Type 0
IsTalk service tei (at_near act) = IsTalkOf service tei act
IsTalk service tei (at_far act) = IsTalkOf service tei act

-- What layer 3 is told: that the link which it asked for is established, that the other has established it, and data.
abbrev pub confirmed : Service → ℕ → LineTold
confirmed service tei = record nothing { notes = notes.EstablishConfirm service tei ∷ [] }

abbrev pub indicated : Service → ℕ → LineTold
indicated service tei = record nothing { notes = notes.EstablishIndication service tei ∷ [] }

abbrev pub data_told : Service → ℕ → List ℕ → LineTold
data_told service tei contents = record nothing { notes = notes.Data service tei ∷ []; contents = Some contents }

-- One establishment, and then the data that the other was granted to send, in order, and nothing else.
abbrev pub all_told : Service → ℕ → LineTold → Endpoint → List LineTold
all_told service tei first other = first ∷ map (data_told service tei) other.granted

abbrev pub IsBeginningOf : List LineTold → List LineTold → Type 0
IsBeginningOf all told = (rest : List LineTold) × (told ++ rest ≡ all)

-- At any time a beginning of all is told, and in the end, where this comes, all of it.
abbrev pub ToldInOrder : Type 0 → List LineTold → List LineTold → Type 0
ToldInOrder in_the_end all told = IsBeginningOf all told × (in_the_end → told ≡ all)

-- What the far end is told first: that the link is established which it asked for, too, or that the other has established it.
abbrev pub told_first : Service → ℕ → Bool → LineTold
told_first service tei both = if both then confirmed service tei else indicated service tei

-- So it is told, all of it where no turn is left; and there are at most four turns for each end that calls, and four for each
-- request for data that was granted.
pub record ComesThrough (service : Service) (tei : ℕ) (taken : ℕ) (both : Bool) (w : Wire) : Type 0 where
  pub turns : taken ≤ (if both then 8 else 4) + 4 * (length w.near.granted + length w.far.granted)
  pub near : ToldInOrder (IsStill w) (all_told service tei (confirmed service tei) w.far) w.near.told
  pub far : ToldInOrder (IsStill w) (all_told service tei (told_first service tei both) w.near) w.far.told

abbrev pub CallsComeThrough : Type 0
CallsComeThrough =
    (service : Service) (c d : Config) (line other tei : ℕ) (ds : List StepAt) → CanCall c line d other tei → All (IsCall service tei) ds →
    let w = calling service tei c line d other in ComesThrough service tei (turns ds w) (both_call ds w) (doing_all ds w)
