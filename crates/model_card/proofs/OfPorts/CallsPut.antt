-- The items that are put on a line are what the calls for its next frame are answered with.
use Rattle.model_card.proofs.OfPorts.Vocabulary.{◌≡◌, ◌==◌, ℕ, ◌<◌, List, [], ◌∷◌, ◌++◌, length, map, flat_map, Option, option_map, option_to_list, sym, ap, ◌∙◌, cond, arith, append-nil, map-append, flat_map-append, Card, Event, Item, OctetCard, Port, after, after_all, given_in, item_of, meant, meant_all, port_at, said, NextFrame, answer_of_call, call_answered, calls_answered}
use Rattle.model_bits.specs.Stream as stream
use Rattle.model_line.specs.Event as line
unfoldable use Rattle.model_line.specs.Machine.{answer as line_answer, takes_slot}
use Rattle.model_card.specs.Event as frames
use Rattle.model_card.specs.Run as runs
unfoldable use Rattle.model_card.specs.Run.{moments as frame_moments}
use Rattle.model_card.specs.ports.Port as port
use Rattle.model_card.proofs.OfPorts.Codec.{asked_at, neither, said_is, stepped}
use Rattle.model_card.proofs.OfPorts.PortGoesOn.{onward}
use Rattle.model_card.proofs.OfPorts.Steps.{by_port, moments-append, ports_after}

-- A line answers calls for the next frame with one, or with none, and no other event.
record AnswersCalls (ask : line.Event → line.Answer) : Type 0 where
  hears : (e : stream.Event) → answer_of_call (ask (line.hears e)) ≡ []
  expiry : (timer : _) → answer_of_call (ask (line.expiry timer)) ≡ []
  request : (r : _) → answer_of_call (ask (line.request r)) ≡ []
  next : answer_of_call (ask line.next) ≡ given_in (ask line.next) ∷ []

answers_calls : (card : Card) (number : ℕ) → AnswersCalls (asked_at card number)
unfolding line_answer takes_slot
answers_calls card number = grind arith

-- ---- one event

abbrev answers_of : (line.Event → line.Answer) → line.Event → List (Option NextFrame)
answers_of ask f = answer_of_call (ask f)

abbrev answers_in_meaning : (line.Event → line.Answer) → Option line.Event → List (Option NextFrame)
answers_in_meaning ask o = flat_map (answers_of ask) (option_to_list o)

-- where nothing is answered, no item is put
nothing_put : (items : List Item) (answers : List (Option NextFrame)) → answers ≡ [] → items ≡ items ++ map item_of answers
nothing_put items answers none = sym (append-nil items) ∙ ap (λ l. items ++ map item_of l) (sym none)

port_puts : (n201 : ℕ) (e : port.Event) (p : Port) (ask : line.Event → line.Answer) → AnswersCalls ask → let o = port.meant n201 e p in
    (port.after e (option_map ask o) p).items ≡ p.items ++ map item_of (answers_in_meaning ask o)
port_puts n201 e p ask h = grind (arith, nothing_put, option_map)

-- ---- a card

calls_where : (card : Card) (number n : ℕ) (o : Option line.Event)
    → calls_answered number (runs.moments card (option_to_list (option_map (frames.at n) o))) ≡ cond (n == number) (answers_in_meaning (asked_at card n) o) []
unfolding frame_moments
calls_where card number n o = grind (arith, neither, asked_at)

own_puts : (m : OctetCard) (e : Event) → let p = port_at e.line m in
    (port.after e.what (said e m) p).items ≡ p.items ++ map item_of (answers_in_meaning (asked_at m.card e.line) (port.meant m.card.config.n201 e.what p))
unfolding meant
own_puts m e = grind (arith, said_is, port_puts, asked_at, answers_calls)

event_puts : (m : OctetCard) (e : Event) (number : ℕ) → number < length m.ports
    → (port_at number (after e m)).items ≡ (port_at number m).items ++ map item_of (calls_answered number (runs.moments m.card (option_to_list (meant e m))))
unfolding meant
event_puts m e number within =
    let o = port.meant m.card.config.n201 e.what (port_at e.line m) in
    by_port m e number within (λ b old new. new.items ≡ old.items ++ map item_of (cond b (answers_in_meaning (asked_at m.card e.line) o) []))
    (sym (append-nil (port_at number m).items)) (λ is. own_puts m e)
    ∙ ap (λ l. (port_at number m).items ++ map item_of l) (sym (calls_where m.card number e.line o))

pub run_puts : (m : OctetCard) (events : List Event) (number : ℕ) → number < length m.ports
    → (port_at number (after_all m events)).items ≡ (port_at number m).items ++ map item_of (calls_answered number (runs.moments m.card (meant_all m events)))
unfolding after_all meant_all frame_moments
run_puts m [] number within = sym (append-nil (port_at number m).items)
run_puts m (e ∷ events) number within =
    let one = option_to_list (meant e m) in
    let rest = meant_all (after e m) events in
    let now = calls_answered number (runs.moments m.card one) in
    let later = calls_answered number (runs.moments (after e m).card rest) in
    let all : calls_answered number (runs.moments m.card (one ++ rest)) ≡ now ++ later =
    ap (calls_answered number) (moments-append m.card one rest)
    ∙ flat_map-append (call_answered number) (runs.moments m.card one) (runs.moments (runs.after_all m.card one) rest)
    ∙ ap (λ card. now ++ calls_answered number (runs.moments card rest)) (sym (stepped m e)) in
    onward (port_at number m).items (port_at number (after e m)).items (port_at number (after_all (after e m) events)).items (map item_of now) (map item_of later)
    (event_puts m e number within) (run_puts (after e m) events number (omega (arith, within, ports_after m e)))
    ∙ ap (λ l. (port_at number m).items ++ l) (sym (map-append item_of now later) ∙ ap (map item_of) (sym all))
