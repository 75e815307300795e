-- All that waits on a link are control frames: neither I-frames nor UI.
use Rattle.laws_trace.proofs.Vocabulary.{◌≡◌, ℕ, ◌<◌, List, [], ◌∷◌, Some, sym, ap, subst, arith, All, option_map_or, get_or-replicate, All-nil, All-tail, Service, place_of-is, at-within, ControlFrame, Link, Config, Line, fresh_line, link_in, link_number, link_of, place_in, terms, number_within, IsInRange, line_at, fresh_is_sound, fresh_link, fresh, CardEvent as Event, after_all, AreAtLines}
use Rattle.laws_trace.proofs.Vocabulary.{IsWaitingFrame}
use Rattle.laws_trace.proofs.LineAtEnd.{link-at-end, line-at-end}
use Rattle.laws_trace.proofs.ControlsAtLine.{waits}
use Rattle.laws_trace.proofs.ControlsDue.{IsControl, all-controls}
use Rattle.laws_trace.proofs.NoUi.{IsPlain}
use Rattle.laws_trace.proofs.Runs.{run-shows}
use Rattle.laws_trace.proofs.Units.{NoneWaits, fresh-none, Passes, rests, joins, steps}
use Rattle.laws_trace.proofs.Facts.{never}

module _ (c : Config) (events : List Event) (number : ℕ) (ranged : IsInRange c) (all : AreAtLines (fresh c) events) (within : number < c.lines) (service : Service) (tei place : ℕ)
    (on : place_in (line_at number (after_all (fresh c) events)) tei ≡ Some place) where
  abbrev line : Line
  line = line_at number (after_all (fresh c) events)

  abbrev own : Link
  own = link_of service tei line

  none-waits : NoneWaits c line
  none-waits =
      (run-shows NoneWaits Passes rests joins steps (fresh c) events number (fresh_is_sound c ranged) all
      (subst (λ (l : Line). NoneWaits c l) (sym (get_or-replicate c.lines number (fresh_line c) (fresh_line c) within)) (fresh-none c))).1

  pub own-plain : All IsPlain own.waiting
  own-plain =
      let s = line-at-end c events number ranged all within in
      let at = (place_of-is line.management.places tei place on).1 in
      subst (λ (k : Link). All IsPlain k.waiting) (sym (ap (λ o. option_map_or (link_in line service) o fresh_link) on))
      (none-waits (link_number place service) (number_within place c.terminals service (omega (arith, s.places, at-within line.management.places place tei at))))

  both : (ws : List ControlFrame) → All IsPlain ws → All (IsWaitingFrame (terms c service tei)) ws → All IsControl ws
  both [] plain bare = All-nil IsControl
  both (f ∷ fs) plain bare = grind (arith, both fs (All-tail IsPlain f fs plain), IsControl, never, IsPlain)

  -- So what an observer has of those is all that waits.
  pub all-wait : waits service tei line ≡ own.waiting
  all-wait =
      all-controls own.waiting
      (both own.waiting own-plain (link-at-end c line ranged (line-at-end c events number ranged all within) service tei place on).frames)
