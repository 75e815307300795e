-- What is asked of the card of frames, and of what the answers are made.
use Rattle.model_card.proofs.OfPorts.Vocabulary.{arith, ◌≡◌, ℕ, Bool, true, false, List, [], ◌∷◌, flat_map, Option, None, Some, option_map, option_to_list, refl, subst, cond, flat_map-append, All, Card, Event, OctetCard, Port, port_at, meant, answer, after, answer_to, is_due, next_octet, with_item, meant_all, moments, IsAnswered, Says, SaysSo, asked_among, asked_with}
use Rattle.model_bits.specs.Stream as stream
use Rattle.model_line.specs.Event as line
unfoldable use Rattle.model_line.specs.Machine.{answer as line_answer, takes_slot}
use Rattle.model_card.specs.Event as frames
use Rattle.model_card.specs.Machine as machine
use Rattle.model_card.specs.ports.Port as port
use Rattle.model_card.proofs.OfPorts.Drops.{every_moment}

-- ---- what is asked

pub all_asked : (m : OctetCard) (events : List Event) → flat_map asked_among (meant_all m events) ≡ flat_map asked_with events
unfolding meant_all meant
all_asked m [] = refl
all_asked m (e ∷ events) = grind (arith, flat_map-append, flat_map, option_to_list, option_map, (all_asked (after e m) events))

-- ---- what is answered

-- a line gives a frame, or none, where it is called for the next one, and nowhere else
abbrev GivesNothing : line.Answer → Type 0
GivesNothing (line.told t) = Unit {0}
GivesNothing (line.refused why) = Unit {0}
GivesNothing (line.gave next) = ⊥

abbrev IsGiving : line.Answer → Type 0
IsGiving (line.told t) = ⊥
IsGiving (line.refused why) = ⊥
IsGiving (line.gave next) = Unit {0}

record AnswersRightly (ask : line.Event → line.Answer) : Type 0 where
  hears : (e : stream.Event) → GivesNothing (ask (line.hears e))
  expiry : (timer : _) → GivesNothing (ask (line.expiry timer))
  request : (r : _) → GivesNothing (ask (line.request r))
  next : IsGiving (ask line.next)

answers_rightly : (card : Card) (number : ℕ) → AnswersRightly (λ f. machine.answer (frames.at number f) card)
unfolding line_answer takes_slot
answers_rightly card number = grind arith

says_given : (p : Port) (a : line.Answer) → IsGiving a → Says port.pull (port.answer port.pull (Some a) p) a
says_given p (line.told t) h = absurd h
says_given p (line.refused why) h = absurd h
says_given p (line.gave None) h = (refl, next_octet (with_item (Some (line.gave None)) p), refl)
says_given p (line.gave (Some next)) h = (refl, next_octet (with_item (Some (line.gave (Some next))) p), refl)

says_so : (n201 : ℕ) (e : port.Event) (p : Port) (ask : line.Event → line.Answer) → AnswersRightly ask
    → let s = option_map ask (port.meant n201 e p) in SaysSo e (port.answer e s p) s
says_so n201 (port.octet value) p ask h = grind arith
says_so n201 (port.expiry timer) p ask h = grind arith
says_so n201 (port.request r) p ask h = grind arith
says_so n201 port.pull p ask h = go (is_due p)
  where
    go : (due : Bool) → let s = option_map ask (cond due (Some line.next) None) in SaysSo port.pull (port.answer port.pull s p) s
    go true = says_given p (ask line.next) h.next
    go false = (next_octet p, refl)

-- what the line says to what an event means
said_of : (card : Card) (n : ℕ) (o : Option line.Event) → option_map (λ f. machine.answer (frames.at n f) card) o ≡ option_map (answer_to card) (option_map (frames.at n) o)
said_of card n o = grind arith

one_answered : (m : OctetCard) (e : Event) → IsAnswered (record { card = m; event = e; answer = answer e m })
unfolding answer meant
one_answered m e =
    let p = port_at e.line m in
    let o = port.meant m.card.config.n201 e.what p in
    subst (λ s. SaysSo e.what (port.answer e.what s p) s) (said_of m.card e.line o)
    (says_so m.card.config.n201 e.what p (λ f. machine.answer (frames.at e.line f) m.card) (answers_rightly m.card e.line))

pub all_answered : (m : OctetCard) (events : List Event) → All IsAnswered (moments m events)
all_answered = every_moment IsAnswered one_answered
