-- What is heard, in a moment of a run.
use Rattle.laws_line.proofs.Vocabulary.{◌≡◌, ℕ, false, List, Ok, refl, sym, subst, arith, and_parts, get_or-set_same, Cause, Unserved, Service, Parts, reading, Config, heard_side, group_told, IsToGroup, Answer, hears, Line, Card, line_at, IsAtLine, moment_of, has_lines, by_room, line_sound, dropped, HearsFrame, OnlyTells, IsToManagement, CardEvent as Event, card_after as after}
use Rattle.laws_line.proofs.Vocabulary.{◌∙◌, ap, get_or, true≢false, fresh_line, is_full, card_answer as answer, CardIsSound as IsSound, TellsCause}
use Rattle.model_bits.specs.Stream as stream
use Rattle.model_line.specs.Machine as lines
use Rattle.model_line.specs.Sound as line
use Rattle.laws_line.proofs.Hearing.{dropped-stretch}
use Rattle.laws_line.proofs.Grouping.{group-read, managed-read}

-- What is heard makes this of its line, and is answered so.
record HeardServed (c : Config) (before after : Line) (a : Answer) (e : stream.Event) : Type 0 where
  group : (parts : Parts) (octets : List ℕ) (service : Service) → e ≡ stream.frame octets → reading (heard_side c) octets ≡ Ok parts → IsToGroup c parts service
      → OnlyTells (group_told service parts.info) before after a
  management : (parts : Parts) (octets : List ℕ) → e ≡ stream.frame octets → reading (heard_side c) octets ≡ Ok parts → IsToManagement c parts
      → OnlyTells (dropped Unserved) before after a
  dropped : (cause : Cause) → e ≡ stream.dropped cause → OnlyTells (dropped cause) before after a

abbrev Serves : Config → Line → stream.Event → Type 0
Serves c l e = HeardServed c l (lines.after c (hears e) l) (lines.answer c (hears e) l) e

heard-served : (c : Config) (l : Line) (e : stream.Event) → line.IsInRange c → line.IsSound c l → Serves c l e
heard-served c l e ranged s = record {
  dropped = λ cause is. subst (λ x. OnlyTells (dropped cause) l (lines.after c (hears x) l) (lines.answer c (hears x) l)) (sym is) (dropped-stretch c l cause);
  group = λ parts octets service is read to.
      subst (λ x. OnlyTells (group_told service parts.info) l (lines.after c (hears x) l) (lines.answer c (hears x) l)) (sym is) (group-read c l parts octets service s read to);
  management = λ parts octets is read to.
      subst (λ x. OnlyTells (dropped Unserved) l (lines.after c (hears x) l) (lines.answer c (hears x) l)) (sym is) (managed-read c l parts octets read to);
}

module _ (card : Card) (e : Event) (s : IsSound card) (here : IsAtLine card e) where
  abbrev l : Line
  l = line_at e.line card

  takes-none : (x : stream.Event) → lines.takes_slot card.config (hears x) l ≡ false
  unfolding lines.takes_slot
  takes-none x = refl

  served : (x : stream.Event) → e.what ≡ hears x → HeardServed card.config l (line_at e.line (after e card)) (answer e card) x
  served x is =
      by_room (λ ls a. HeardServed card.config l (get_or ls e.line (fresh_line card.config)) a x) e card
      (λ full. absurd (true≢false (sym (and_parts (lines.takes_slot card.config e.what l) (is_full card) full).0 ∙ ap (λ w. lines.takes_slot card.config w l) is ∙ takes-none x)))
      (λ room.
      subst (λ (y : Line). HeardServed card.config l y (lines.answer card.config e.what l) x)
      (sym (get_or-set_same card.lines e.line (lines.after card.config e.what l) (fresh_line card.config) (omega (arith, s.count, here))))
      (subst (λ w. HeardServed card.config l (lines.after card.config w l) (lines.answer card.config w l) x) (sym is)
      (heard-served card.config l x s.config (line_sound card e.line (has_lines card s) here))))

  pub heard-group : (parts : Parts) (service : Service) → HearsFrame card.config e.what parts → IsToGroup card.config parts service
      → OnlyTells (group_told service parts.info) l (line_at e.line (after e card)) (answer e card)
  heard-group parts service h to = (served (stream.frame h.octets) h.by).group parts h.octets service refl h.read to

  pub tells-cause : TellsCause (moment_of card e)
  tells-cause = record {
    no_frame = λ cause is. ((served (stream.dropped cause) is).dropped cause refl).answer_is;
    management = λ octets frame is read side unserved sapi tei.
        ((served (stream.frame octets) is).management frame octets refl read (record { side = side; unserved = unserved; sapi = sapi; group = tei })).answer_is;
  }
