-- Unit data goes out: the laws.
use Rattle.model_teis.specs.terminal.Messages.{information_of as own_information_of}
use Rattle.laws_trace.proofs.Vocabulary.{◌≡◌, ℕ, ◌<◌, ◌≤◌, List, [], ◌++◌, map, sym, ap, ◌∙◌, subst, get_or-replicate, Config, Line, fresh_line, unit_frame, most_frames, line_at, fresh_is_sound, AreTakesAt, takes_at, refl, arith, true, false, ◌||◌, Option, Some, None, option_map, list_any, inl, inr, sapi_of, next, next_of, gave, Taken, taken, IsIdle, IsOwed, contents_of_link, served, at}
use Rattle.laws_trace.proofs.Vocabulary.{config-stays, Bool, filter, Parts, fresh, CardEvent as Event, after_all, AreAtLines, trace_frame_in as frame_in, trace_of, IsFront, Always, reads, is_ui, is_unit, units_of, UnitsGoOut, AllUnitsGoOut, information_of, IsInRange, IsSound, card_answer as answer, sapi-small, moments, own_side}
use Rattle.laws_trace.proofs.Runs.{run-shows}
use Rattle.laws_trace.proofs.LineAtEnd.{line-at-end}
use Rattle.laws_trace.proofs.Turns.{ui-frame}
use Rattle.laws_trace.proofs.LinkNames.{is_of_a_link}
use Rattle.model_line.specs.Machine as lines
use Rattle.laws_trace.proofs.Drained.{drained}
use Rattle.laws_trace.proofs.Units.{NoneWaits, first-of, fresh-none, Goes, Passes, rests, joins, steps, next-passes-on, left-is-waiting, same-units, begun-first}
use Rattle.laws_trace.proofs.ReadAgain.{message-text, own-text}

-- What waits at the end.
abbrev pub left-waiting : Config → List Event → ℕ → List (List ℕ)
left-waiting c events number = map (unit_frame c) (line_at number (after_all (fresh c) events)).units

abbrev gives-ui : Config → List ℕ → Bool
gives-ui c = reads (own_side c) (λ (f : Parts). is_ui f.control)

-- A call that gives no UI finds no unit data that waits.
units-gone : (c : Config) (l : Line) → IsSound c l → list_any (gives-ui c) (frame_in (lines.answer c next l)) ≡ false → l.units ≡ []
unfolding lines.answer
units-gone c l s = go (taken c l) (served c l s)
  where
    ui : (frame : List ℕ) → is_of_a_link (own_side c) frame ≡ false → (gives-ui c frame || false) ≡ false → l.units ≡ []
    ui frame is none = grind arith

    go : (o : Option Taken) → elim o as (λ o. Type 0) [ None ↦ IsIdle c l (lines.after c next l) | Some t ↦ IsOwed c (contents_of_link l) l (lines.after c next l) t.frame ]
        → list_any (gives-ui c) (frame_in (gave (option_map next_of o))) ≡ false → l.units ≡ []
    go None x none = x.nothing.units
    go (Some t) (inl x) none =
        ui t.frame
        (ap (is_of_a_link (own_side c)) (x.spelled ∙ message-text c x.message) ∙ ui-frame (own_side c) (record { sapi = 63; command = true; tei = 127 }) (information_of x.message) (omega arith) (omega arith) refl) none
    go (Some t) (inr (inl x)) none =
        ui t.frame
        (ap (is_of_a_link (own_side c)) (x.spelled ∙ own-text c x.message x.terminal) ∙ ui-frame (own_side c) (record { sapi = 63; command = true; tei = 127 }) (own_information_of x.message) (omega arith) (omega arith) refl) none
    go (Some t) (inr (inr (inl x))) none =
        let small = first-of c l.units x.unit x.oldest s.units in
        ui t.frame
        (ap (is_of_a_link (own_side c)) x.spelled
        ∙ ui-frame (own_side c) (record { sapi = sapi_of x.unit.service; command = true; tei = x.unit.tei }) x.unit.contents (sapi-small x.unit.service) (omega (arith, small)) refl) none
    go (Some t) (inr (inr (inr x))) none = x.its_turn.no_unit

module _ (c : Config) (events : List Event) (number : ℕ) (ranged : IsInRange c) (all : AreAtLines (fresh c) events) (within : number < c.lines) where
  start : line_at number (fresh c) ≡ fresh_line c
  start = get_or-replicate c.lines number (fresh_line c) (fresh_line c) within

  abbrev end : Line
  end = line_at number (after_all (fresh c) events)

  passed : Passes c (line_at number (fresh c)) (trace_of c events number) end × NoneWaits c end
  passed =
      run-shows NoneWaits Passes rests joins steps (fresh c) events number (fresh_is_sound c ranged) all
      (subst (λ (l : Line). NoneWaits c l) (sym start) (fresh-none c))

  pub goes : Goes c [] (trace_of c events number) (map (unit_frame c) end.units)
  goes = subst (λ (l : Line). Goes c (map (unit_frame c) l.units) (trace_of c events number) (map (unit_frame c) end.units)) start passed.0

  pub waiting-is : units_of c events number ≡ map (unit_frame c) end.units
  waiting-is = same-units c number (moments (fresh c) events) [] ∙ left-is-waiting c (trace_of c events number) [] (map (unit_frame c) end.units) goes

  pub front : UnitsGoOut c events number
  unfolding lines.takes_slot
  front =
      subst (IsFront (filter (is_unit (own_side c)) (frame_in (answer (at number next) (after_all (fresh c) events))))) (sym waiting-is)
      (subst (λ (d : Config). IsFront (filter (is_unit (own_side c)) (frame_in (lines.answer d next end))) (map (unit_frame c) end.units)) (sym (config-stays (fresh c) events))
      (begun-first c (frame_in (lines.answer c next end)) (map (unit_frame c) end.units) (map (unit_frame c) (lines.after c next end).units)
      (next-passes-on c end (line-at-end c events number ranged all within) passed.1)))

  pub nothing-left : (before calls : List Event) → events ≡ before ++ calls → AreTakesAt number calls → most_frames c ≤ takes_at number calls → end.units ≡ []
  nothing-left before calls split only enough = (drained c events number ranged all within before calls split only enough).units

  none-left : list_any (gives-ui c) (frame_in (answer (at number next) (after_all (fresh c) events))) ≡ false → end.units ≡ []
  unfolding lines.takes_slot
  none-left none =
      units-gone c end (line-at-end c events number ranged all within)
      (subst (λ (d : Config). list_any (gives-ui c) (frame_in (lines.answer d next end)) ≡ false) (config-stays (fresh c) events) none)

  pub whole : AllUnitsGoOut c events number
  whole none = waiting-is ∙ ap (map (unit_frame c)) (none-left none)

pub units-go-out : Always UnitsGoOut
units-go-out c events number ranged all within = front c events number ranged all within

pub all-units-go-out : Always AllUnitsGoOut
all-units-go-out c events number ranged all within = whole c events number ranged all within
