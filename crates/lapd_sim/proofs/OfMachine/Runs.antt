-- Runs of a card: no event, one, and one list of events after another.
use Rattle.lapd_sim.proofs.OfMachine.Vocabulary.{◌≡◌, List, [], ◌∷◌, ◌++◌, refl, Event, Board, after, after_all}

pub after_all-append : (card : Board) (xs ys : List Event) → after_all card (xs ++ ys) ≡ after_all (after_all card xs) ys
unfolding after_all
after_all-append card [] ys = refl
after_all-append card (x ∷ xs) ys = after_all-append (after x card) xs ys

pub config_stays : (card : Board) (events : List Event) → (after_all card events).config ≡ card.config
unfolding after_all
config_stays card [] = refl
config_stays card (e ∷ events) = config_stays (after e card) events

pub kind_stays : (card : Board) (events : List Event) → (after_all card events).kind ≡ card.kind
unfolding after_all
kind_stays card [] = refl
kind_stays card (e ∷ events) = kind_stays (after e card) events

pub one_event : (card : Board) (e : Event) → after e card ≡ after_all card (e ∷ [])
unfolding after_all
one_event card e = refl

pub no_event : (card : Board) → card ≡ after_all card []
unfolding after_all
no_event card = refl

pub event_before : (card : Board) (e : Event) (events : List Event) → after_all (after e card) events ≡ after_all card (e ∷ events)
unfolding after_all
event_before card e events = refl
