-- A run as one fold is its moments.
use Rattle.model_card.proofs.OfPorts.Vocabulary.{arith, ◌≡◌, List, [], ◌∷◌, ◌++◌, refl, sym, append_assoc, append-nil, fold, map, Event, reply_of, RunIsMoments, Run, moments, after_all}
use Rattle.model_card.specs.ports.Run.{one_more}

folded_card : (events : List Event) (r : Run) → (fold one_more r events).card ≡ after_all r.card events
unfolding after_all
folded_card [] r = refl
folded_card (e ∷ events) r = folded_card events (one_more r e)

folded_replies : (events : List Event) (r : Run) → (fold one_more r events).replies ≡ r.replies ++ map reply_of (moments r.card events)
unfolding moments
folded_replies [] r = sym (append-nil r.replies)
folded_replies (e ∷ events) r = grind (arith, append_assoc, (folded_replies events (one_more r e)))

pub run_is_moments : RunIsMoments
run_is_moments = grind (arith, folded_card, folded_replies)
