-- The laws of the table, from what each of its rows keeps.
use Rattle.model_teis.proofs.OfTerminal.Vocabulary.{◌≡◌, List, [], ◌∷◌, length, length-set, Option, Some, None, refl, ◌∙◌, ap, arith, Places, Terminal, fresh, IsSound}
use Rattle.model_teis.specs.Changes.{Moves}
use Rattle.model_teis.specs.declared.changes.Change.{Change}
use Rattle.model_teis.specs.declared.changes.Change.TheVariants.{Gained, Left}
use Rattle.model_teis.specs.terminal.Events.{after, after_offer, told}
use Rattle.model_teis.specs.terminal.Laws.{Act, event, pull, AreInRange, after_acts, IsSoundThroughout, RoomIsEnough, ChangesAreTold}
use Rattle.model_teis.proofs.OfTerminal.SoundWords.{sound_fresh, sound_rest, room, empty_length}
use Rattle.model_teis.proofs.OfTerminal.Served.{leads}

sound_acts : (acts : List Act) (m : Terminal) → AreInRange acts → IsSound m → IsSound (after_acts acts m)
sound_acts [] m range sound = sound
sound_acts (event e ∷ acts) m range sound = sound_acts acts (after e m) range.1 (leads e m range.0 sound).sound
sound_acts (pull ∷ acts) m range sound = sound_acts acts (after_offer m) range.1 (sound_rest m sound)

pub sound_throughout : IsSoundThroughout
sound_throughout r terminals seed acts few low range = sound_acts acts (fresh r terminals seed) range (sound_fresh r terminals seed few low)

pub changes_are_told : ChangesAreTold
changes_are_told e m range sound = (leads e m range sound).moves

-- a line has as many places as it began with
same_length : (o : Option Change) (old new : Places) → Moves old o new → length new ≡ length old
same_length None old new moves = ap length moves
same_length (Some (Gained tei place)) old new moves = ap length moves.is_there ∙ length-set old place (Some tei)
same_length (Some (Left tei place)) old new moves = ap length moves.is_free ∙ length-set old place None

places_acts : (acts : List Act) (m : Terminal) → AreInRange acts → IsSound m → length (after_acts acts m).places ≡ length m.places
places_acts [] m range sound = refl
places_acts (event e ∷ acts) m range sound =
    let led = leads e m range.0 sound in
    places_acts acts (after e m) range.1 led.sound ∙ same_length (told e m).change m.places (after e m).places led.moves
places_acts (pull ∷ acts) m range sound = places_acts acts (after_offer m) range.1 (sound_rest m sound)

pub room_is_enough : RoomIsEnough
room_is_enough r terminals seed acts few low range =
    let begins = sound_fresh r terminals seed few low in
    omega (arith, room (after_acts acts (fresh r terminals seed)) (sound_acts acts (fresh r terminals seed) range begins), places_acts acts (fresh r terminals seed) range begins, empty_length terminals)
