-- What a card does at one line, beside what happens at the others.
use Rattle.model_card.proofs.Vocabulary.{Moment, IsAtLine, AreAtLines, All-head, All-tail, Config, ◌≡◌, ℕ, ◌≤◌, ◌<◌, ◌==◌, Bool, true, false, not, ◌&&◌, List, [], ◌∷◌, length, get_or, set, nat_le, refl, ap, sym, ◌∙◌, subst, cond, arith, length-set, sum_by, filter, map, leb-false, lt-leb, get_or-set_same, get_or-replicate, get_or-le-sum_by, sum_by-set, Answer, is_pool_full, Line, fresh_line}
use Rattle.model_card.proofs.Vocabulary.{slots_of, line_not_pool, fresh_slots, Card, fresh, line_at, used, Event, is_served_at, event_in, answers_at, LinesIsolated, wants_room, after, answer, moments, answer_in, events_at}
use Rattle.std.proofs.lemmas.Bool.{eqb-true}
use Rattle.model_line.specs.Machine as lines
use Rattle.model_card.proofs.CardSound.{fresh_used}
use Rattle.model_card.proofs.Steps.{HasLines, by_line, after_lines, fresh_lines}

-- A card of the same configuration on which only the events at one line happened: the line is the same, and all slots
-- in use are the line's.
abbrev pub with_lines : Card → List Line → Card
with_lines card ls = record { config = card.config; lines = ls }

pub record Alone (number : ℕ) (c : Config) (l : Line) (ls : List Line) : Type 0 where
  pub inside : number < length ls
  pub same : get_or ls number (fresh_line c) ≡ l
  pub own : sum_by (slots_of c) ls ≡ slots_of c l

-- an event that is served on a card is served there too
room_alone : (takes : Bool) (slots in_use own : ℕ) → (takes && nat_le slots in_use) ≡ false → own ≤ in_use → (takes && nat_le slots own) ≡ false
room_alone takes slots in_use own e h = grind (arith, leb-false, lt-leb)

pub record Alike (e : Event) (card : Card) (ls : List Line) (l : Line) (a : Answer) : Type 0 where
  pub next : List Line
  pub moves : after e (with_lines card ls) ≡ with_lines card next
  pub answers : a ≡ answer e (with_lines card ls)
  pub alone : Alone e.line card.config l next

served_alike : (card : Card) (ls : List Line) (e : Event) → HasLines card → IsAtLine card e → wants_room e card ≡ false
    → Alone e.line card.config (line_at e.line card) ls
    → Alike e card ls (lines.after card.config e.what (line_at e.line card)) (lines.answer card.config e.what (line_at e.line card))
served_alike card ls e h within served a =
    let c = card.config in
    let d = fresh_line c in
    let l = line_at e.line card in
    let x = lines.after c e.what l in
    let fewer : slots_of c l ≤ used card = get_or-le-sum_by (slots_of c) card.lines e.line d (omega (arith, h.count, within)) in
    let few : sum_by (slots_of c) ls ≤ used card = omega (arith, a.own, fewer) in
    let wants : wants_room e (with_lines card ls) ≡ false =
    ap (λ y. lines.takes_slot c e.what y && nat_le c.slots (sum_by (slots_of c) ls)) a.same
    ∙ room_alone (lines.takes_slot c e.what l) c.slots (used card) (sum_by (slots_of c) ls) served few in
    let next = set ls e.line x in
    let sums = sum_by-set (slots_of c) ls e.line x d a.inside in
    grind (arith, length-set, get_or-set_same)

-- ---- lists of events

-- a moment that is not served at the line leaves the line as it was, and one that is served is served there
abbrev pub Goes : ℕ → Event → Card → List Line → Line → Answer → Bool → Type 0
Goes number e card ls l a true = Alike (record e { line = number }) card ls l a
Goes number e card ls l a false = Alone number card.config l ls

pub moment_goes : (number : ℕ) (card : Card) (ls : List Line) (e : Event) → HasLines card → IsAtLine card e → Alone number card.config (line_at number card) ls
    → Goes number e card ls (line_at number (after e card)) (answer e card) ((e.line == number) && not (is_pool_full (answer e card)))
moment_goes number card ls e h within a =
    by_line card e number h within (λ at l answered. Goes number e card ls l answered (at && not (is_pool_full answered))) (λ answered. a) (λ takes. a)
    (λ is served.
    let l = line_at number card in
    let x = lines.after card.config e.what l in
    let answered = lines.answer card.config e.what l in
    let like = subst (λ n. Alone n card.config (line_at n card) ls
    → Alike (record e { line = n }) card ls (lines.after card.config e.what (line_at n card)) (lines.answer card.config e.what (line_at n card))) is
    (served_alike card ls e h within served) a in
    subst (λ b. Goes number e card ls x answered (not b)) (sym (line_not_pool card.config e.what l)) like)

isolated : (number : ℕ) (events : List Event) (card : Card) (ls : List Line) → HasLines card → AreAtLines card events
    → Alone number card.config (line_at number card) ls
    → answers_at number (moments card events) ≡ map answer_in (moments (with_lines card ls) (events_at number (moments card events)))
unfolding moments
isolated number [] card ls h all a = refl
isolated number (e ∷ events) card ls h all a =
    let here = All-head (IsAtLine card) e events all in
    go (e.line == number) (is_pool_full (answer e card)) refl (moment_goes number card ls e h here a)
    (λ next b. isolated number events (after e card) next (after_lines e card h here) (All-tail (IsAtLine card) e events all) b)
  where
    rest : List Moment
    rest = filter (is_served_at number) (moments (after e card) events)

    m : Moment
    m = record { card = card; event = e; answer = answer e card }

    go : (at full : Bool) → (e.line == number) ≡ at → Goes number e card ls (line_at number (after e card)) (answer e card) (at && not full)
        → ((next : List Line) → Alone number card.config (line_at number (after e card)) next
        → map answer_in rest ≡ map answer_in (moments (with_lines card next) (map event_in rest)))
        → map answer_in (cond (at && not full) (m ∷ rest) rest) ≡ map answer_in (moments (with_lines card ls) (map event_in (cond (at && not full) (m ∷ rest) rest)))
    go at full is a later = grind (arith, eqb-true, rest)

pub fresh_alone : (c : Config) (number : ℕ) → HasLines (fresh c) → number < c.lines → Alone number c (line_at number (fresh c)) (fresh c).lines
fresh_alone c number h few = grind (arith, get_or-replicate, fresh_used, fresh_slots)

pub lines_isolated : LinesIsolated
lines_isolated c events ranged within number few =
    let h = fresh_lines c ranged in
    isolated number events (fresh c) (fresh c).lines h within (fresh_alone c number h few)
