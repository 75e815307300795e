-- The laws of a line's takes wherever they come in a list of events.
use Rattle.laws_line.proofs.Vocabulary.{AreAmong, ControlFrame, link_at, map, control_text, refl, ◌≡◌, ◌∙◌, ◌<◌, List, [], ◌∷◌, ◌++◌, length, sym, ap, subst, arith, All-nil, All-head, All-tail, Config, gave, next_of, Card, line_at, IsAtLine, AreAtLines, after_all, after_is_sound, always_sound, option_map, HasNothing, CardEvent as Event, card_after as after, CardIsSound as IsSound, Wherever}
use Rattle.laws_line.proofs.Vocabulary.{WaitingIsTaken, CallsComeToAnEnd, answer, line_takes_slot}
use Rattle.model_card.specs.Run.{moments}
use Rattle.model_card.specs.Takes.{frames_given}
use Rattle.laws_line.proofs.Bounds.{to-go-few}
use Rattle.laws_line.proofs.Soon.{few-before, others-fit}
use Rattle.laws_line.proofs.OfCard.Amid.{on-first, taken-amid}
use Rattle.laws_line.proofs.OfCard.InOrder.{has-end}
use Rattle.laws_line.proofs.OfCard.Meanwhile.{IsServed, line-sound, card-drains, card-idles}
pub use Rattle.laws_line.proofs.OfCard.Meanwhile.{all-left, all-right}
pub use Rattle.model_card.proofs.Runs.{config_stays as config-stays}

-- A law of sound cards holds behind every front.
Law : (Card → List Event → Type 0) → Type 0
Law P = (card : Card) (events : List Event) → IsSound card → AreAtLines card events → P card events

behind : (P : Card → List Event → Type 0) → Law P → (card : Card) (front rest : List Event) → IsSound card → AreAtLines card (front ++ rest) → P (after_all card front) rest
unfolding after_all Law
behind P law card [] rest s all = law card rest s all
behind P law card (e ∷ front) rest s all =
    behind P law (after e card) front rest (after_is_sound card e s (All-head (IsAtLine card) e (front ++ rest) all)) (All-tail (IsAtLine card) e (front ++ rest) all)

wherever : (P : Card → List Event → Type 0) → Law P → (m : Card) (events : List Event) → IsSound m → AreAtLines m events → Wherever P m events
wherever P law m events s all front rest split = behind P law m front rest s (subst (AreAtLines m) split all)

-- What waits is taken.
waiting : Law WaitingIsTaken
unfolding Law
waiting card events s all number link tei few some on up less = by-last (link_at link (line_at number card)).waiting refl
  where
    AreGiven : List ControlFrame → Type 0
    AreGiven fs = AreAmong (map (control_text card.config link tei) fs) (frames_given number (moments card events))

    by-last : (fs : List ControlFrame) → (link_at link (line_at number card)).waiting ≡ fs → AreGiven (link_at link (line_at number card)).waiting
    by-last [] none = subst AreGiven (sym none) tt
    by-last (w ∷ ws) e =
        let x = has-end [] w ws in
        let waits = e ∙ x.are in
        let at = on-first number link tei x.last card events on in
        let sound = line-sound card number s few in
        let first = few-before card.config (line_at number card) sound link (length x.front) some (others-fit card.config s.config (line_at number card) sound link tei some at x.front x.last [] waits) in
        subst AreGiven (sym waits) (taken-amid number link tei x.last events card s few some all on up x.front [] waits (omega (arith, first, less)))

pub waiting-taken : (m : Card) (events : List Event) → IsSound m → AreAtLines m events → Wherever WaitingIsTaken m events
unfolding Law
waiting-taken = wherever WaitingIsTaken waiting

-- Calls come to an end.
ends : Law CallsComeToAnEnd
unfolding Law answer line_takes_slot after_all
ends card events s all number few only enough =
    let nothing = card-drains card number events s few all only (omega (arith, (to-go-few card.config (line_at number card) (line-sound card number s few)), enough)) in
    let end = after_all card events in
    let kept = config-stays card events in
    let idle = card-idles end number [] (always_sound card events s all) (subst (λ (c : Config). number < c.lines) (sym kept) few)
    (All-nil (IsAtLine end)) (All-nil (IsServed number)) (subst (λ c. HasNothing c (line_at number end)) (sym kept) nothing) in
    ap (λ o. gave (option_map next_of o)) idle.none

pub come-to-an-end : (m : Card) (events : List Event) → IsSound m → AreAtLines m events → Wherever CallsComeToAnEnd m events
unfolding Law
come-to-an-end = wherever CallsComeToAnEnd ends
