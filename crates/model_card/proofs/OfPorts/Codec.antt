-- The law of the codec.
use Rattle.model_card.proofs.OfPorts.Vocabulary.{◌≡◌, ◌==◌, ℕ, ◌<◌, Bool, List, [], ◌∷◌, ◌++◌, length, flat_map, Option, option_map, option_to_list, refl, ap, sym, ◌∙◌, subst, cond, arith, flat_map-append, All, All-nil, All-head, All-tail, All-append, Config, Card, Event, OctetCard, Port, port_at, meant, said, answer, after, answer_to, after_all, meant_all, moments, GoesOn, PortGoesOn, Refines}
use Rattle.model_card.proofs.OfPorts.Vocabulary.{OctetsAreACodec, come_of, frames_given, given_of, heard_of, meant_in, octet_come, octet_pulled, octets_come, octets_pulled, pulled_of, AreAtLines}
use Rattle.model_line.specs.Event as line
unfoldable use Rattle.model_line.specs.Machine.{answer as line_answer}
use Rattle.model_card.specs.Event as frames
use Rattle.model_card.specs.Machine as machine
use Rattle.model_card.specs.Run as runs
unfoldable use Rattle.model_card.specs.Run.{after_all as frames_after, moments as frame_moments}
use Rattle.model_card.proofs.Runs.{after_all-append}
use Rattle.model_card.specs.ports.Codec as codec
use Rattle.model_card.specs.ports.Port as port
use Rattle.model_card.proofs.OfPorts.Answered.{all_asked, all_answered}
use Rattle.model_card.proofs.OfPorts.Steps.{card_step, config_after, moments-append, ports_after, by_port}
use Rattle.model_card.proofs.OfPorts.PortGoesOn.{GivesAtNext, heard_in_meaning, frame_given, given_in_meaning, stays, port_goes_on, both_go_on}

-- ---- the run of what events mean

pub stepped : (m : OctetCard) (e : Event) → (after e m).card ≡ runs.after_all m.card (option_to_list (meant e m))
unfolding after
stepped m e = card_step m.card (meant e m)

pub refined_card : (m : OctetCard) (events : List Event) → (after_all m events).card ≡ runs.after_all m.card (meant_all m events)
unfolding after after_all meant_all frames_after
refined_card m [] = refl
refined_card m (e ∷ events) = grind (arith, card_step, after_all-append, (refined_card (after e m) events))

refined_moments : (m : OctetCard) (events : List Event) → flat_map meant_in (moments m events) ≡ runs.moments m.card (meant_all m events)
unfolding after moments meant_all frame_moments
refined_moments m [] = refl
refined_moments m (e ∷ events) = grind (arith, card_step, moments-append, (refined_moments (after e m) events))

-- lines below a number
abbrev IsBelow : ℕ → frames.Event → Type 0
IsBelow n f = f.line < n

meant_below : (n number : ℕ) (o : Option line.Event) → number < n → All (IsBelow n) (option_to_list (option_map (frames.at number) o))
meant_below n number o few = grind arith

pub all_below : (n : ℕ) (m : OctetCard) (events : List Event) → All (λ (e : Event). e.line < n) events → All (IsBelow n) (meant_all m events)
unfolding meant meant_all
all_below n m [] all = All-nil (IsBelow n)
all_below n m (e ∷ events) all =
    All-append (IsBelow n) (option_to_list (meant e m)) (meant_all (after e m) events)
    (meant_below n e.line (port.meant m.card.config.n201 e.what (port_at e.line m)) (All-head (λ (x : Event). x.line < n) e events all))
    (all_below n (after e m) events (All-tail (λ (x : Event). x.line < n) e events all))

pub meant_at_lines : (m : OctetCard) (events : List Event) → AreAtLines m events → runs.AreAtLines m.card (meant_all m events)
meant_at_lines m events all = all_below m.card.config.lines m events all

pub refines : (m : OctetCard) (events : List Event) → Refines m events
refines m events = grind (arith, refined_card, refined_moments, meant_at_lines, all_asked, all_answered)

-- ---- the ports

-- a line of a card gives a frame only where it is called for the next one
abbrev pub asked_at : Card → ℕ → line.Event → line.Answer
asked_at card number f = machine.answer (frames.at number f) card

pub gives_at_next : (card : Card) (number : ℕ) → GivesAtNext (asked_at card number)
unfolding line_answer
gives_at_next card number = grind arith

pub neither : {X : Type 0} (b : Bool) → [] ≡ cond {A = List X} b [] []
neither b = grind arith

-- what is heard and given at a line, where one event means this
heard_where : (number n : ℕ) (o : Option line.Event)
    → codec.heard_at number (option_to_list (option_map (frames.at n) o)) ≡ cond (n == number) (heard_in_meaning o) []
heard_where number n o = grind (arith, neither)

given_where : (card : Card) (number n : ℕ) (o : Option line.Event)
    → frames_given number (runs.moments card (option_to_list (option_map (frames.at n) o))) ≡ cond (n == number) (given_in_meaning (asked_at card n) o) []
unfolding frame_moments
given_where card number n o = grind (arith, neither, frame_given)

-- the same with lists that are equal
with_lists : {n201 : ℕ} {a b : Port} {os rs : List ℕ} {hs is : List _} {fs gs : List (List ℕ)} → hs ≡ is → fs ≡ gs
    → GoesOn n201 a b os hs rs fs → GoesOn n201 a b os is rs gs
with_lists {n201} {a} {b} {os} {rs} {hs} {is} {fs} {gs} h g x = grind arith

-- what the line says to what an event means
pub said_is : (card : Card) (n : ℕ) (o : Option line.Event) → option_map (answer_to card) (option_map (frames.at n) o) ≡ option_map (asked_at card n) o
said_is card n o = grind arith

pub own_port : (m : OctetCard) (e : Event) → let p = port_at e.line m in let o = port.meant m.card.config.n201 e.what p in
    GoesOn m.card.config.n201 p (port.after e.what (said e m) p) (octet_come e.what) (heard_in_meaning o) (octet_pulled (answer e m)) (given_in_meaning (asked_at m.card e.line) o)
unfolding meant answer
own_port m e =
    let n201 = m.card.config.n201 in
    let p = port_at e.line m in
    let o = port.meant n201 e.what p in
    subst (λ s. GoesOn n201 p (port.after e.what s p) (octet_come e.what) (heard_in_meaning o) (octet_pulled (port.answer e.what s p)) (given_in_meaning (asked_at m.card e.line) o))
    (sym (said_is m.card e.line o))
    (port_goes_on n201 e.what p (asked_at m.card e.line) (gives_at_next m.card e.line))

event_goes_on : (m : OctetCard) (e : Event) (number : ℕ) → number < length m.ports
    → GoesOn m.card.config.n201 (port_at number m) (port_at number (after e m)) (come_of number e) (codec.heard_at number (option_to_list (meant e m)))
    (pulled_of number (record { card = m; event = e; answer = answer e m })) (frames_given number (runs.moments m.card (option_to_list (meant e m))))
unfolding meant
event_goes_on m e number within =
    let n201 = m.card.config.n201 in
    let o = port.meant n201 e.what (port_at e.line m) in
    with_lists (sym (heard_where number e.line o)) (sym (given_where m.card number e.line o))
    (by_port m e number within
    (λ b old new. GoesOn n201 old new (cond b (octet_come e.what) []) (cond b (heard_in_meaning o) []) (cond b (octet_pulled (answer e m)) []) (cond b (given_in_meaning (asked_at m.card e.line) o) []))
    (stays n201 (port_at number m)) (λ is. own_port m e))

pub run_goes_on : (m : OctetCard) (events : List Event) (number : ℕ) → number < length m.ports → PortGoesOn m events number
unfolding after_all meant_all moments frame_moments
run_goes_on m [] number within = stays m.card.config.n201 (port_at number m)
run_goes_on m (e ∷ events) number within =
    let o = meant e m in
    let m' = after e m in
    let n201 = m.card.config.n201 in
    let rest = meant_all m' events in
    let same : m'.card.config.n201 ≡ n201 = ap (λ (c : Config). c.n201) (config_after m e) in
    let later = run_goes_on m' events number (omega (arith, within, ports_after m e)) in
    let heard = flat_map-append (heard_of number) (option_to_list o) rest in
    let given : frames_given number (runs.moments m.card (option_to_list o ++ rest)) ≡ frames_given number (runs.moments m.card (option_to_list o)) ++ frames_given number (runs.moments m'.card rest) =
    ap (frames_given number) (moments-append m.card (option_to_list o) rest)
    ∙ flat_map-append (given_of number) (runs.moments m.card (option_to_list o)) (runs.moments (runs.after_all m.card (option_to_list o)) rest)
    ∙ ap (λ card. frames_given number (runs.moments m.card (option_to_list o)) ++ frames_given number (runs.moments card rest)) (sym (stepped m e)) in
    with_lists (sym heard) (sym given)
    (both_go_on (event_goes_on m e number within)
    (subst (λ n. GoesOn n (port_at number m') (port_at number (after_all m' events)) (octets_come number events) (codec.heard_at number rest)
    (octets_pulled number (moments m' events)) (frames_given number (runs.moments m'.card rest))) same later))

pub octets_are_a_codec : OctetsAreACodec
octets_are_a_codec m events count = record {
  run = refines m events;
  ports = λ number few. run_goes_on m events number (omega (arith, few, count));
}
