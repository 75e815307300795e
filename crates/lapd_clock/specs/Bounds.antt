-- What is kept beside the places, so that a look is short: the least moment of each line, and a moment before which no timer falls due.
use Rattle.std.specs.Prelude.{◌≡◌, ℕ, ◌+◌, ◌*◌, ◌/◌, ◌<◌, ◌≤◌, false, List, length, get_or, slice_index}
use Rattle.lapd_clock.specs.Firsts.{never}
use Rattle.lapd_clock.specs.OwnPlaces.{expiries_of, place_before, AreNotBefore}
use Rattle.lapd_clock.specs.declared.moments.lead.Lead.{Lead}
use Rattle.lapd_clock.specs.declared.moments.place.Place.{Place}

-- No place of so many has a lesser moment than this one, and no other has a lesser one than that.
pub record IsEarliest (count place others : ℕ) (ps : List Place) : Type 0 where
  pub within : place < count
  pub least : (i : ℕ) (d e : Place) → i < count → (get_or ps place e).moment ≤ (get_or ps i d).moment
  pub others_late : (i : ℕ) (d : Place) → i < count → (i ≡ place → ⊥) → others ≤ (get_or ps i d).moment

-- Of so many places from one on, the place that leads has the bound as its moment, and no place has a lesser one, and no other one before
-- that of the others. Of the places that have not been used none runs.
pub record IsLead (begin count bound : ℕ) (lead : Lead) (ps : List Place) : Type 0 where
  pub low : begin ≤ lead.place
  pub high : lead.place < begin + count
  pub is : (d : Place) → (get_or ps lead.place d).moment ≡ bound
  pub least : (i : ℕ) (d : Place) → begin ≤ i → i < begin + count → bound ≤ (get_or ps i d).moment
  pub others_late : (i : ℕ) (d : Place) → begin ≤ i → i < begin + count → (i ≡ lead.place → ⊥) → lead.others ≤ (get_or ps i d).moment
  pub fit : lead.used ≤ count
  pub rest : (i : ℕ) (d : Place) → begin + lead.used ≤ i → i < begin + count → (get_or ps i d).moment ≡ never

-- Each line has so many places, one after the other, and one of these leads.
pub record AreBounded (each : ℕ) (bounds : List ℕ) (leads : List Lead) (ps : List Place) : Type 0 where
  pub few_lines : length bounds ≤ 64
  pub some : 1 ≤ each
  pub few : each ≤ 34
  pub count : length ps ≡ length bounds * each
  pub of_line : (i : ℕ) (d : Place) → i < length ps → (get_or ps i d).line ≡ i / each
  pub same : length leads ≡ length bounds
  pub led : (line : ℕ) (d : Lead) → line < length bounds → IsLead (line * each) each (slice_index bounds line) (get_or leads line d) ps

-- And no timer falls due before the moment that is kept of all. The lines before the one that was found last have later bounds.
pub record AreKept (not_before found each : ℕ) (bounds : List ℕ) (leads : List Lead) (ps : List Place) : Type 0 where
  pub bounded : AreBounded each bounds leads ps
  pub none_before : AreNotBefore not_before (expiries_of ps)
  pub later : (line : ℕ) → line < found → line < length bounds → not_before < slice_index bounds line

-- No line has an earlier bound than a moment, and those before this line have later ones.
pub record AreNoEarlier (moment found : ℕ) (bounds : List ℕ) : Type 0 where
  pub none_before : (line : ℕ) → line < length bounds → moment ≤ slice_index bounds line
  pub later : (line : ℕ) → line < found → line < length bounds → moment < slice_index bounds line

-- What is kept of all once a timer of a line falls due at a moment.
pub record IsSooner (not_before found line moment after now : ℕ) : Type 0 where
  pub less : after ≤ not_before
  pub own : after ≤ moment
  pub its_line : line < now → after < moment
  pub other_line : found < now → after < not_before

-- No place is before this one.
pub record IsFoundFirst (place : ℕ) (ps : List Place) : Type 0 where
  pub within : place < length ps
  pub none_before : (k : ℕ) (d : Place) → k < length ps → place_before (get_or ps k d) (get_or ps place d) ≡ false

-- And it falls due at this moment, which is not after the end.
pub record IsFoundAt (place moment end : ℕ) (ps : List Place) : Type 0 where
  pub first : IsFoundFirst place ps
  pub is : (d : Place) → (get_or ps place d).moment ≡ moment
  pub soon : moment ≤ end

-- No place of its line is before this one.
pub record IsFirstOfLine (place each line : ℕ) (ps : List Place) : Type 0 where
  pub low : line * each ≤ place
  pub high : place < line * each + each
  pub none_before : (k : ℕ) (d : Place) → line * each ≤ k → k < line * each + each → place_before (get_or ps k d) (get_or ps place d) ≡ false
