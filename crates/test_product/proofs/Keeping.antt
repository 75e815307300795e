-- A sink that takes one reply after the other, each at the end of what it keeps, keeps them all in order.
use Rattle.std.proofs.Common.{◌≡◌, ℕ, List, [], ◌∷◌, ◌++◌, map, sym, ap, ◌∙◌, append_assoc, append-nil}
use Rattle.model_card.specs.ports.Card.{OctetCard}
use Rattle.model_card.specs.ports.Event.{Event}
use Rattle.model_card.specs.ports.Laws.{reply_of, RunIsMoments}
use Rattle.model_card.specs.ports.Port.{Answer}
use Rattle.model_card.specs.ports.Run.{run, moments}
use Rattle.lapd_card.specs.Kept.{replies_in, Keeps, Misses}
use Rattle.lapd_card.specs.Sink.{MissesNext, Taken}
use Rattle.lapd_card.specs.declared.kept.Kept.{Kept}

keeps_replies : (old new : Kept) (replies : List (ℕ × Answer)) → Taken Keeps old replies new → replies_in new ≡ replies_in old ++ replies
keeps_replies old new [] taken = ap replies_in taken ∙ sym (append-nil (replies_in old))
keeps_replies old new ((line, reply) ∷ replies) (next, took, rest) =
    keeps_replies next new replies rest ∙ (ap (λ l. l ++ replies) took.appended ∙ append_assoc (replies_in old) ((line, reply) ∷ []) replies)

-- which are the answers of the moments of the run
pub keeps_moments : RunIsMoments → (old new : Kept) (m : OctetCard) (events : List Event) → Taken Keeps old (run m events).replies new
    → replies_in new ≡ replies_in old ++ map reply_of (moments m events)
keeps_moments law old new m events taken = keeps_replies old new (run m events).replies taken ∙ ap (λ l. replies_in old ++ l) (law.replies m events)

-- and where one is missed, those before it
pub keeps_before : RunIsMoments → (old new : Kept) (m : OctetCard) (events : List Event) (all : List (ℕ × Answer))
    → MissesNext Keeps Misses (run m events).replies all old new → replies_in new ≡ replies_in old ++ map reply_of (moments m events)
keeps_before law old new m events all missed = missed.missed.same ∙ keeps_moments law old missed.before m events missed.taken
