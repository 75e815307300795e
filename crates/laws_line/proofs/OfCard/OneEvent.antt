-- In a moment of a run one part of one line has one event, and all else is as it was.
use Rattle.laws_line.proofs.Vocabulary.{◌≡◌, ℕ, true, List, get_or, sym, ap, ◌∙◌, subst, arith, true≢false, and_parts, get_or-set_same, PoolFull, Service, Config, refused, Line, fresh_line, Card, line_at, is_full, IsAtLine, AreAtLines, moment_of, each_moment, has_lines, by_room, line_sound, Down, IsOneEvent, IsOf, CardEvent as Event, card_after as after, card_answer as answer}
use Rattle.laws_line.proofs.Vocabulary.{CardIsSound as IsSound, IsOneEventIn, HasOneEvent}
use Rattle.model_bits.specs.Stream as stream
use Rattle.model_link.specs.Events as link
use Rattle.model_line.specs.Event as line_event
use Rattle.model_line.specs.Machine as lines
use Rattle.laws_line.proofs.Parts.{one-event}
use Rattle.laws_line.proofs.OfCard.Meanwhile.{at-another}

-- A request that finds the pool full changes nothing, and is an event of no part; and nothing else takes a slot.
module _ (c : Config) (l : Line) (e : line_event.Event) (takes : lines.takes_slot c e l ≡ true) where
  no-heard : (x : stream.Event) → e ≡ line_event.hears x → ⊥
  unfolding lines.takes_slot
  no-heard x is = true≢false (sym takes ∙ ap (λ e. lines.takes_slot c e l) is)

  no-expiry : (timer : _) → e ≡ line_event.expiry timer → ⊥
  unfolding lines.takes_slot
  no-expiry timer is = true≢false (sym takes ∙ ap (λ e. lines.takes_slot c e l) is)

  no-take : e ≡ line_event.next → ⊥
  unfolding lines.takes_slot
  no-take is = true≢false (sym takes ∙ ap (λ e. lines.takes_slot c e l) is)

  no-down : e ≡ line_event.request Down → ⊥
  unfolding lines.takes_slot
  no-down is = true≢false (sym takes ∙ ap (λ e. lines.takes_slot c e l) is)

  no-link : (service : Service) (tei : ℕ) (event : link.Event) → IsOf c e (refused PoolFull) service tei event → ⊥
  no-link service tei event by = grind (arith, no-heard, no-expiry, no-take)

  pub no-event : IsOneEvent c e l l (refused PoolFull)
  no-event = grind (arith, no-link, no-heard, no-expiry, no-down, no-take)

module _ (card : Card) (e : Event) (s : IsSound card) (here : IsAtLine card e) where
  abbrev l : Line
  l = line_at e.line card

  at-line : IsOneEvent card.config e.what l (line_at e.line (after e card)) (answer e card)
  at-line =
      by_room (λ ls a. IsOneEvent card.config e.what l (get_or ls e.line (fresh_line card.config)) a) e card
      (λ full. no-event card.config l e.what (and_parts (lines.takes_slot card.config e.what l) (is_full card) full).0)
      (λ room.
      subst (λ (x : Line). IsOneEvent card.config e.what l x (lines.answer card.config e.what l))
      (sym (get_or-set_same card.lines e.line (lines.after card.config e.what l) (fresh_line card.config) (omega (arith, s.count, here))))
      (one-event card.config e.what l (line_sound card e.line (has_lines card s) here)))

  pub one-in : IsOneEventIn (moment_of card e)
  one-in = record { own = at-line; others = λ other away. at-another card other e away }

pub one-all : (card : Card) (events : List Event) → IsSound card → AreAtLines card events → HasOneEvent card events
one-all card events s all = each_moment IsOneEventIn one-in card events s all
