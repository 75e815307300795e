-- What a card of octets does at one line, beside what happens at the others.
use Rattle.model_card.proofs.OfPorts.Vocabulary.{◌≡◌, ◌==◌, ℕ, ◌<◌, Bool, true, false, not, ◌&&◌, List, [], ◌∷◌, length, get_or, set, Option, None, Some, option_map, option_map_or, refl, ap, sym, ◌∙◌, subst, cond, arith, eqb-true, eq-eqb, length-set, length-replicate, get_or-set_same, get_or-set_other, filter, map, All-head, All-tail, Card, Answer, AreAtLines, Event, IsAtLine, LinesIsolated}
use Rattle.model_card.proofs.OfPorts.Vocabulary.{Moment, OctetCard, Port, after, answer, answer_to, card_after, fresh, fresh_port, meant, moments, port_at, said, Line, line_at}
use Rattle.model_bits.specs.Stream as stream
use Rattle.model_line.specs.Counts as line_counts
use Rattle.model_line.specs.Event as line
unfoldable use Rattle.model_line.specs.Machine.{answer as line_answer, takes_slot}
use Rattle.model_card.specs.Event as frames
use Rattle.model_card.specs.Machine as machine
use Rattle.model_card.proofs.Isolated as cards
use Rattle.model_card.proofs.Isolated.{Alone, with_lines}
use Rattle.model_card.proofs.Steps.{HasLines, after_lines, fresh_lines}
use Rattle.model_card.specs.ports.Isolation.{is_pool_full, is_served_at, events_at, answers_at}
use Rattle.model_card.specs.ports.Port as port
use Rattle.model_card.proofs.OfPorts.Codec.{asked_at}
use Rattle.model_card.proofs.OfPorts.Sound.{at_lines_after}
use Rattle.model_card.proofs.OfPorts.Steps.{config_after, ports_after}

-- ---- which answers tell a full pool

-- A line does not find the pool full at what it hears, nor at a call for the next frame.
record IsNeverFull (ask : line.Event → line.Answer) : Type 0 where
  hears : (e : stream.Event) → line_counts.is_pool_full (ask (line.hears e)) ≡ false
  next : line_counts.is_pool_full (ask line.next) ≡ false

never_full : (card : Card) (number : ℕ) → IsNeverFull (asked_at card number)
unfolding line_answer takes_slot
never_full card number = record { hears = λ e. refl; next = refl }

none_full : (e : port.Event) (p : Port) → is_pool_full (port.answer e None p) ≡ false
none_full e p = grind arith

-- What an event means: nothing; or something that finds the pool full where the answer says so, and then leaves the port.
by_meaning : (n201 : ℕ) (e : port.Event) (p : Port) (ask : line.Event → line.Answer) → IsNeverFull ask → (P : Option line.Event → Type 0) → P None
    → ((f : line.Event) → is_pool_full (port.answer e (Some (ask f)) p) ≡ line_counts.is_pool_full (ask f)
    → (line_counts.is_pool_full (ask f) ≡ true → port.after e (Some (ask f)) p ≡ p) → P (Some f))
    → P (port.meant n201 e p)
by_meaning n201 e p ask h P none some = grind (arith, option_map)

-- ---- a card on which only the events at one line happened

abbrev lone : OctetCard → List Line → List Port → OctetCard
lone m ls ps = record { card = with_lines m.card ls; ports = ps }

-- The line and its port are the same there.
record IsAloneAt (number : ℕ) (m : OctetCard) (ls : List Line) (ps : List Port) : Type 0 where
  line : Alone number m.card.config (line_at number m.card) ls
  inside : number < length ps
  port : get_or ps number fresh_port ≡ port_at number m

-- the card of frames after what is meant, and what the line says
abbrev next_card : Card → ℕ → Option line.Event → Card
next_card card number o = option_map_or (card_after card) (option_map (frames.at number) o) card

abbrev said_to : Card → ℕ → Option line.Event → Option line.Answer
said_to card number o = option_map (answer_to card) (option_map (frames.at number) o)

-- what is meant is served on both cards alike
record AreServedAlike (card : Card) (number : ℕ) (ls : List Line) (o : Option line.Event) : Type 0 where
  next : List Line
  moves : next_card (with_lines card ls) number o ≡ with_lines (next_card card number o) next
  says : said_to card number o ≡ said_to (with_lines card ls) number o
  alone : Alone number (next_card card number o).config (line_at number (next_card card number o)) next

-- or it finds the pool full, and changes nothing
abbrev MeaningGoes : Card → Event → Port → List Line → Option line.Event → Bool → Type 0
MeaningGoes card e p ls o true = AreServedAlike card e.line ls o
MeaningGoes card e p ls o false =
    Alone e.line (next_card card e.line o).config (line_at e.line (next_card card e.line o)) ls
    × (port.after e.what (said_to card e.line o) p ≡ p)

module _ (card : Card) (e : Event) (p : Port) (ls : List Line) (h : HasLines card) (within : e.line < card.config.lines) (a : Alone e.line card.config (line_at e.line card) ls) where
  something_goes : (f : line.Event) → let answered = asked_at card e.line f in (line_counts.is_pool_full answered ≡ true → port.after e.what (Some answered) p ≡ p)
      → MeaningGoes card e p ls (Some f) (not (line_counts.is_pool_full answered))
  something_goes f rests =
      let x = frames.at e.line f in
      let answered = asked_at card e.line f in
      let full = line_counts.is_pool_full answered in
      let here : (e.line == e.line) ≡ true = eq-eqb e.line e.line refl in
      let goes = cards.moment_goes e.line card ls x h within a in
      go full rests (subst (λ b. cards.Goes e.line x card ls (line_at e.line (machine.after x card)) answered (b && not full)) here goes)
    where
      go : (full : Bool) → (full ≡ true → port.after e.what (Some (asked_at card e.line f)) p ≡ p)
          → cards.Goes e.line (frames.at e.line f) card ls (line_at e.line (machine.after (frames.at e.line f) card)) (asked_at card e.line f) (true && not full)
          → MeaningGoes card e p ls (Some f) (not full)
      go true rests g = (g, rests refl)
      go false rests g = record { next = g.next; moves = g.moves; says = ap (λ x. Some x) g.answers; alone = g.alone }

  meaning_goes : (n201 : ℕ) → let o = port.meant n201 e.what p in MeaningGoes card e p ls o (not (is_pool_full (port.answer e.what (said_to card e.line o) p)))
  meaning_goes n201 =
      by_meaning n201 e.what p (asked_at card e.line) (never_full card e.line)
      (λ o. MeaningGoes card e p ls o (not (is_pool_full (port.answer e.what (said_to card e.line o) p))))
      (subst (λ b. MeaningGoes card e p ls None (not b)) (sym (none_full e.what p)) (record { next = ls; moves = refl; says = refl; alone = a }))
      (λ f full rests. subst (λ b. MeaningGoes card e p ls (Some f) (not b)) (sym full) (something_goes f rests))

-- ---- one event

record AreAlike (e : Event) (m : OctetCard) (ls : List Line) (ps : List Port) (later : OctetCard) (a : Answer) : Type 0 where
  next : List Line
  ports : List Port
  moves : after e (lone m ls ps) ≡ lone later next ports
  answers : a ≡ answer e (lone m ls ps)
  alone : IsAloneAt e.line later next ports

-- a moment that is not served at the line leaves it and its port as they were; one that is served is served on both cards
abbrev Goes : ℕ → Event → OctetCard → List Line → List Port → OctetCard → Answer → Bool → Type 0
Goes number e m ls ps later a true = AreAlike (record e { line = number }) m ls ps later a
Goes number e m ls ps later a false = IsAloneAt number later ls ps

own_goes : (m : OctetCard) (e : Event) (ls : List Line) (ps : List Port) → HasLines m.card → IsAtLine m e → e.line < length m.ports → IsAloneAt e.line m ls ps
    → Goes e.line e m ls ps (after e m) (answer e m) (not (is_pool_full (answer e m)))
unfolding after answer meant
own_goes m e ls ps h within few a = go (not (is_pool_full (answer e m))) (meaning_goes m.card e (port_at e.line m) ls h within a.line m.card.config.n201)
  where
    p : Port
    p = port_at e.line m

    n201 : ℕ
    n201 = m.card.config.n201

    other : Card
    other = with_lines m.card ls

    meaning : Port → Option line.Event
    meaning q = port.meant n201 e.what q

    x : Port
    x = port.after e.what (said e m) p

    own : port_at e.line (after e m) ≡ x
    own = get_or-set_same m.ports e.line x fresh_port few

    go : (b : Bool) → MeaningGoes m.card e p ls (meaning p) b → Goes e.line e m ls ps (after e m) (answer e m) b
    go false g = record { line = g.0; inside = a.inside; port = a.port ∙ sym g.1 ∙ sym own }
    go true g = record {
      next = g.next;
      ports = set ps e.line x;
      moves =
          ap (λ (q : Port). record { card = next_card other e.line (meaning q); ports = set ps e.line (port.after e.what (said_to other e.line (meaning q)) q) }) a.port
          ∙ ap (λ (card : Card). record { card = card; ports = set ps e.line (port.after e.what (said_to other e.line (meaning p)) p) }) g.moves
          ∙ ap (λ s. lone (after e m) g.next (set ps e.line (port.after e.what s p))) (sym g.says);
      answers =
          ap (λ s. port.answer e.what s p) g.says
          ∙ ap (λ q. port.answer e.what (said_to other e.line (meaning q)) q) (sym a.port);
      alone = record {
        line = g.alone;
        inside = omega (arith, a.inside, length-set ps e.line x);
        port = get_or-set_same ps e.line x fresh_port a.inside ∙ sym own;
      };
    }

-- an event elsewhere
line_elsewhere : (card : Card) (number n : ℕ) (o : Option line.Event) (ls : List Line) → HasLines card → n < card.config.lines → (n == number) ≡ false
    → Alone number card.config (line_at number card) ls → Alone number (next_card card n o).config (line_at number (next_card card n o)) ls
line_elsewhere card number n None ls h within other a = a
line_elsewhere card number n (Some f) ls h within other a =
    let x = frames.at n f in
    subst (λ b. cards.Goes number x card ls (line_at number (machine.after x card)) (machine.answer x card) (b && not (line_counts.is_pool_full (machine.answer x card)))) other
    (cards.moment_goes number card ls x h within a)

elsewhere_goes : (number : ℕ) (m : OctetCard) (e : Event) (ls : List Line) (ps : List Port) → HasLines m.card → IsAtLine m e → (e.line == number) ≡ false
    → IsAloneAt number m ls ps → IsAloneAt number (after e m) ls ps
unfolding after meant
elsewhere_goes number m e ls ps h within other a = grind (arith, eq-eqb, line_elsewhere, get_or-set_other)

moment_goes : (number : ℕ) (m : OctetCard) (e : Event) (ls : List Line) (ps : List Port) → HasLines m.card → IsAtLine m e → number < length m.ports → IsAloneAt number m ls ps
    → Goes number e m ls ps (after e m) (answer e m) ((e.line == number) && not (is_pool_full (answer e m)))
moment_goes number m e ls ps h within few a = grind (arith, elsewhere_goes, eqb-true, own_goes)

-- ---- lists of events

abbrev event_in : Moment → Event
event_in m = m.event

abbrev answer_in : Moment → Answer
answer_in m = m.answer

lines_step : (card : Card) (n : ℕ) (o : Option line.Event) → HasLines card → n < card.config.lines → HasLines (next_card card n o)
lines_step card n None h within = h
lines_step card n (Some f) h within = after_lines (frames.at n f) card h within

lines_after : (m : OctetCard) (e : Event) → HasLines m.card → IsAtLine m e → HasLines (after e m).card
unfolding after meant
lines_after m e h within = lines_step m.card e.line (port.meant m.card.config.n201 e.what (port_at e.line m)) h within

isolated : (number : ℕ) (events : List Event) (m : OctetCard) (ls : List Line) (ps : List Port) → HasLines m.card → AreAtLines m events
    → number < length m.ports → IsAloneAt number m ls ps
    → answers_at number (moments m events) ≡ map answer_in (moments (lone m ls ps) (events_at number (moments m events)))
unfolding moments
isolated number [] m ls ps h all few a = refl
isolated number (e ∷ events) m ls ps h all few a =
    let here = All-head (IsAtLine m) e events all in
    go (e.line == number) (is_pool_full (answer e m)) refl (moment_goes number m e ls ps h here few a)
    (λ next ports b. isolated number events (after e m) next ports (lines_after m e h here) (at_lines_after m e events (All-tail (IsAtLine m) e events all))
    (omega (arith, few, ports_after m e)) b)
  where
    rest : List Moment
    rest = filter (is_served_at number) (moments (after e m) events)

    now : Moment
    now = record { card = m; event = e; answer = answer e m }

    stays : map answer_in (moments (lone (after e m) ls ps) (map event_in rest)) ≡ map answer_in (moments (lone m ls ps) (map event_in rest))
    stays = grind (arith, rest, config_after)

    go : (at full : Bool) → (e.line == number) ≡ at → Goes number e m ls ps (after e m) (answer e m) (at && not full)
        → ((next : List Line) (ports : List Port) → IsAloneAt number (after e m) next ports
        → map answer_in rest ≡ map answer_in (moments (lone (after e m) next ports) (map event_in rest)))
        → map answer_in (cond (at && not full) (now ∷ rest) rest) ≡ map answer_in (moments (lone m ls ps) (map event_in (cond (at && not full) (now ∷ rest) rest)))
    go false full is a later = later ls ps a ∙ stays
    go true true is a later = later ls ps a ∙ stays
    go true false is like later =
        let here : e ≡ record e { line = number } = ap (λ n. record e { line = n }) (eqb-true e.line number is) in
        ap (λ (x : Answer). x ∷ map answer_in rest) like.answers
        ∙ ap (λ (xs : List Answer). answer (record e { line = number }) (lone m ls ps) ∷ xs)
        (later like.next like.ports like.alone ∙ ap (λ (k : OctetCard). map answer_in (moments k (map event_in rest))) (sym like.moves))
        ∙ ap (λ x. answer x (lone m ls ps) ∷ map answer_in (moments (after x (lone m ls ps)) (map event_in rest))) (sym here)

pub lines_isolated : LinesIsolated
lines_isolated c events ranged within number few =
    let h = fresh_lines c ranged in
    let inside : number < length (fresh c).ports = omega (arith, few, length-replicate c.lines fresh_port) in
    isolated number events (fresh c) (fresh c).card.lines (fresh c).ports h within inside
    (record { line = cards.fresh_alone c number h few; inside = inside; port = refl })
