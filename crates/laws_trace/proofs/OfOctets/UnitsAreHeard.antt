-- What a receiver hears of unit data: the laws.
use Rattle.laws_trace.proofs.Vocabulary.{◌≡◌, ℕ, ◌<◌, List, [], ◌∷◌, ◌++◌, map, refl, sym, ap, ◌∙◌, arith, filter, flat_map, flat_map-append, map-append, filter-append, Config, IsInRange, most_frames, takes_at, as_octets, octets_given, frames_to_hear, OfEachLine, given_frames_are_heard, append-nil, fold, unit_frame, subst, is_unit, ports_fresh as fresh, PortsEvent as Event}
use Rattle.laws_trace.proofs.Vocabulary.{PortsAreAtLines as AreAtLines, Asked, none_asked, with_request, units_to_hear, AreFronts, whole_frame, whole_frames, UnitsAreHeard, AllUnitsAreHeard, stream_heard_in, stream_frame, own_side}
use Rattle.laws_trace.proofs.Units.{units_begun}
use Rattle.laws_trace.proofs.UnitsGoOut.{left-waiting, goes, nothing-left}
use Rattle.laws_trace.proofs.OfOctets.AsOctets.{same_units}
use Rattle.laws_trace.proofs.OfOctets.Emptied as emptied
use Rattle.laws_trace.proofs.OfOctets.FramesGoOut.{meaning, t, lines, begun, spelled, all-frames-go-out}
use Rattle.laws_trace.proofs.OfOctets.Seen.{requests_seen, requests_are}
use Rattle.laws_trace.proofs.OfOctets.Spans.{Spans, spans, more_fronts, mapped}

-- frames as they are heard
heard_again : (frames : List (List ℕ)) → flat_map whole_frame (map stream_frame frames) ≡ frames
heard_again [] = refl
heard_again (frame ∷ frames) = ap (λ fs. frame ∷ fs) (heard_again frames)

module _ (c : Config) (events : List Event) (number : ℕ) (ranged : IsInRange c) (all : AreAtLines (fresh c) events) (within : number < c.lines) where
  abbrev given : List (List ℕ)
  given = frames_to_hear c events number

  abbrev heard : List (List ℕ)
  heard = whole_frames c.n201 (octets_given c events number)

  abbrev asks : Asked
  asks = units_to_hear c events number

  abbrev waiting : List (List ℕ)
  waiting = left-waiting c (meaning c events number ranged all within) number

  asked : fold (with_request c) none_asked (requests_seen (t c events number ranged all within)) ≡ asks
  asked = ap (fold (with_request c) none_asked) (requests_are number (fresh c) events)

  parts : Spans (units_begun c (t c events number ranged all within)) waiting asks
  parts =
      subst (Spans (units_begun c (t c events number ranged all within)) waiting) asked
      (spans c (t c events number ranged all within) [] [] waiting none_asked
      (goes c (meaning c events number ranged all within) number ranged (lines c events number ranged all within) within)
      (record { before = []; since = []; begun_is = refl; fronts = refl; waits = refl }))

  -- what begins are the fronts
  went : AreFronts (map as_octets (units_begun c (t c events number ranged all within))) (map (map as_octets) (asks.earlier ++ asks.since ∷ []))
  went =
      mapped (units_begun c (t c events number ranged all within)) (asks.earlier ++ asks.since ∷ [])
      (subst (λ xs. AreFronts xs (asks.earlier ++ asks.since ∷ [])) (sym parts.begun_is)
      (more_fronts parts.before parts.since asks.earlier asks.since parts.fronts (record { rest = waiting; whole_is = sym parts.waits })))

  pub front : UnitsAreHeard c events number
  front =
      let out = given_frames_are_heard.so_far c events number ranged all within in
      let frames : map as_octets given ≡ heard ++ out.on_its_way =
      sym (heard_again (map as_octets given)) ∙ ap (flat_map whole_frame) out.heard
      ∙ flat_map-append whole_frame (stream_heard_in c.n201 (octets_given c events number)) (map stream_frame out.on_its_way)
      ∙ ap (λ fs. heard ++ fs) (heard_again out.on_its_way) in
      record {
        went = map as_octets (units_begun c (t c events number ranged all within));
        heard_are = grind (arith, same_units, spelled, begun, filter-append);
        fronts = went;
      }

  pub whole : AllUnitsAreHeard c events number
  whole h =
      let most : most_frames c < takes_at number (emptied.calls c events number ranged all within h) = emptied.many c events number ranged all within h in
      let none : waiting ≡ [] =
      ap (map (unit_frame c))
      (nothing-left c (meaning c events number ranged all within) number ranged (lines c events number ranged all within) within
      (emptied.first c events number ranged all within h) (emptied.calls c events number ranged all within h)
      (emptied.meaning c events number ranged all within h) (emptied.only c events number ranged all within h) (omega (arith, most))) in
      record {
        before = map as_octets parts.before;
        fronts = mapped parts.before asks.earlier parts.fronts;
        all =
            ap (λ es. filter (is_unit (own_side c)) (flat_map whole_frame es)) (sym (all-frames-go-out c events number ranged all within h))
            ∙ ap (filter (is_unit (own_side c))) (heard_again (map as_octets given)) ∙ (grind (arith, same_units, spelled, begun))
            ∙ ap (map as_octets) parts.begun_is ∙ map-append as_octets parts.before parts.since
            ∙ ap (λ xs. map as_octets parts.before ++ map as_octets xs) (sym (append-nil parts.since) ∙ ap (λ ws. parts.since ++ ws) (sym none) ∙ parts.waits);
      }

pub units-are-heard : OfEachLine UnitsAreHeard
units-are-heard c events number ranged all within = front c events number ranged all within

pub all-units-are-heard : OfEachLine AllUnitsAreHeard
all-units-are-heard c events number ranged all within h = whole c events number ranged all within h
