-- By how much each event raises what may be sent.
use Rattle.model_card.proofs.Vocabulary.{◌≡◌, ◌+◌, ◌*◌, ◌≤◌, [], ◌∷◌, nat_le, arith, All-cons, All-nil, hears, expiry, request, next, next_falls, IsPriced, Card, may_send, Event, at, after, FramesByEvent, IsSound, Moment, moments, IsAtLine, AreAtLines, heard, long_heard, rejected, sent}
use Rattle.model_line.specs.Machine as lines
use Rattle.model_card.proofs.Amortised.{amortised, rejects_are_long}
use Rattle.model_card.proofs.EachMoment.{moment_of, each_moment}
use Rattle.model_card.proofs.Steps.{has_lines, by_room, line_sound, one_line, count_cons}

module _ (card : Card) (e : Event) (s : IsSound card) (within : IsAtLine card e) where
  abbrev m : Moment
  m = moment_of card e

  alone : AreAtLines card (e ∷ [])
  alone = All-cons (IsAtLine card) e [] within (All-nil (IsAtLine card))

  rejects : rejected (m ∷ []) ≤ heard (m ∷ [])
  unfolding moments
  rejects =
      let long : rejected (m ∷ []) ≤ long_heard (m ∷ []) = rejects_are_long card (e ∷ []) in
      grind (arith, count_cons, nat_le)

  -- a call for the next frame finds room, and is one of its line
  falls : e.what ≡ next → may_send card ≤ may_send (after e card) + 2 * sent (m ∷ [])
  unfolding lines.takes_slot
  falls is = grind (arith, count_cons, by_room, next_falls, line_sound, has_lines, one_line)

  priced : IsPriced m
  unfolding moments
  priced = record { rises = amortised card (e ∷ []) (has_lines card s) alone; reject = rejects; falls = falls }

pub frames_by_event : FramesByEvent
frames_by_event = record {
  heard = λ card number e. priced card (at number (hears e));
  expiries = λ card number timer. priced card (at number (expiry timer));
  requests = λ card number r. priced card (at number (request r));
  calls = λ card number. priced card (at number next);
  in_runs = each_moment IsPriced priced;
}
