-- What is told in a call through noise, between two cards with their clocks: which errors at most, and which data.
use Rattle.std.specs.Prelude.{◌≡◌, Bool, true, false, List, [], ◌∷◌, ◌++◌, map, flat_map, All, Ok}
use Rattle.std.specs.List.{list_any}
use Rattle.lapd_frame.specs.declared.notes.ErrorCode.{ErrorCode}
use Rattle.lapd_frame.specs.declared.notes.ErrorCode.TheVariants.{F, G, H, I}
use Rattle.lapd_frame.specs.declared.notes.Note.{Note}
use Rattle.lapd_frame.specs.declared.notes.Note.TheVariants.{Error}
use Rattle.model_bits.specs.StuffingLaws.{AreOctets}
use Rattle.model_line.specs.Event.{LineTold}
use Rattle.model_line.specs.Request.{Request, Establish, SetBusy, ClearBusy, Data}
use Rattle.model_link.specs.declared.rooms.Room.{Room}
use Rattle.model_card.specs.Room.{room}
use Rattle.laws_wire.specs.Call.{confirmed, indicated, data_told, IsBeginningOf}
use Rattle.laws_wire.specs.Losing.{for_layer_3}
use Rattle.laws_time.specs.circuit.Clocked.{TimedEndpoint, Beat, after, notes_at, contents_at}
use Rattle.laws_time.specs.circuit.LongEnough.{Line, IsFit, AreClear, begins}

-- At first nothing is asked for. Then layer 3 of the near end asks for the establishment; and after that either end asks to send
-- octets, or says that it is busy, or ready again.
abbrev pub IsIdle : Beat → Type 0
IsIdle b = (b.near_asks ≡ []) × (b.far_asks ≡ [])

abbrev pub calls : Line → Beat → Beat
calls l b = record b { near_asks = Establish l.service l.tei ∷ b.near_asks }

abbrev pub IsAsked : Line → Request → Type 0
IsAsked l (Data s t contents) = (s ≡ l.service) × (t ≡ l.tei) × AreOctets contents
IsAsked l (SetBusy s t) = (s ≡ l.service) × (t ≡ l.tei)
IsAsked l (ClearBusy s t) = (s ≡ l.service) × (t ≡ l.tei)
IsAsked l other = ⊥

abbrev pub AreAsked : Line → Beat → Type 0
AreAsked l b = All (IsAsked l) b.near_asks × All (IsAsked l) b.far_asks

-- The errors that an end told. Of these codes are those that N200 is used up (Q.921 clauses 5.5.1.3, 5.5.3.3 and 5.6.7).
abbrev pub error_in : Note → List ErrorCode
error_in (Error service tei code) = code ∷ []
error_in other = []

abbrev pub errors_at : TimedEndpoint → List ErrorCode
errors_at s = flat_map error_in (notes_at s)

abbrev pub is_used_up : ErrorCode → Bool
is_used_up G = true
is_used_up H = true
is_used_up I = true
is_used_up other = false

-- The queue of the link at an end has each of its places (`Card::room`), as all that was granted there is acknowledged.
abbrev pub HasAllPlaces : Line → TimedEndpoint → Type 0
HasAllPlaces l s = (left : Room) × (room s.at.line l.service l.tei s.at.card.card ≡ Ok left) × (left.queue ≡ s.at.card.card.config.queue)

-- An end was told one establishment, and then data that the other was granted to send: a beginning of that, in order, each once, and
-- nothing else, except what was dropped; and all data, where the other's queue has each of its places.
pub record IsTold (l : Line) (first : LineTold) (other s : TimedEndpoint) : Type 0 where
  pub in_order : IsBeginningOf (first ∷ map (data_told l.service l.tei) other.at.granted) (flat_map for_layer_3 s.at.told)
  pub all : HasAllPlaces l other → contents_at s ≡ other.at.granted

-- As long as N200 is not used up, the end that calls tells no error, and the other none but F, of a UA that was lost. As long as there
-- is none, each end was told so.
abbrev pub CallsBearNoise : Type 0
CallsBearNoise =
    (l : Line) (before bs : List Beat) (b : Beat) → IsFit l → All IsIdle before → All (AreAsked l) (b ∷ bs) →
    AreClear l (before ++ calls l b ∷ bs) (begins l) → let w = after l.rate (before ++ calls l b ∷ bs) (begins l) in list_any is_used_up (errors_at w.near ++ errors_at w.far) ≡ false →
    (errors_at w.near ≡ []) × All (λ code. code ≡ F) (errors_at w.far) × (errors_at w.far ≡ [] →
    IsTold l (confirmed l.service l.tei) w.far w.near × IsTold l (indicated l.service l.tei) w.near w.far)
