-- Numbered deliveries, over whole runs.
use Rattle.model_card.proofs.Vocabulary.{◌≡◌, ℕ, ◌+◌, ◌<◌, ◌&&◌, Bool, false, List, [], ◌∷◌, length, All, Option, None, refl, ap, ◌∙◌, cond, arith, fold, option_to_list, get_or-replicate, All-nil, All-cons, All-head, All-tail, PoolFull, Arrived, counted_on, refused, link_at, link_count, Part, brings_none, none_at, event_parts, slot_brings_nothing, Event, Card, line_at, DeliveriesNumbered, after}
use Rattle.model_card.proofs.Vocabulary.{LinkName, arrived, delivered, restarts, received_by, contents_numbered, IsNext, one_more, HasLink, moments, after_all, IsAtLine, AreAtLines}
use Rattle.model_line.specs.Deliveries as line
use Rattle.model_card.proofs.EachMoment.{moment_of}
use Rattle.model_card.proofs.Steps.{HasLines, has_lines, by_line, line_sound, after_lines, fresh_lines}

-- what an event is to a link, by V(R) before and after it
SeenBy : (name : LinkName) (card : Card) (e : Event) → Type 0
SeenBy name card e =
    let m = moment_of card e in
    Part (received_by name card) (arrived name m) (received_by name (after e card)) (delivered name m) (restarts name m)

-- every event is seen
event-seen : (name : LinkName) (card : Card) (e : Event) → HasLines card → IsAtLine card e → name.line < card.config.lines
    → name.number < link_count card.config → SeenBy name card e
unfolding SeenBy
event-seen name card e h here within few =
    let l = line_at name.line card in
    let brought = line.arrived card.config name.number e.what l in
    let anew = line.restarts card.config name.number e.what l in
    by_line card e name.line h here (λ at m a.
    Part (received_by name card) (cond at brought None) (link_at name.number m).r (cond at (line.delivered name.number l a) None) (at && anew))
    (λ a. brings_none (received_by name card) (received_by name card) None None false refl refl refl refl)
    (λ takes.
    let nothing = slot_brings_nothing card.config name.number l e.what takes in
    brings_none (received_by name card) (received_by name card) brought (line.delivered name.number l (refused PoolFull)) anew nothing.arrives refl
    (none_at name.number l (refused PoolFull) (λ service tei. refl)) nothing.goes_on)
    (λ is w. event_parts card.config e.what l name.number (line_sound card name.line h within) few)

part-next : (r r' : ℕ) (a : Option Arrived) (d : Option (List ℕ)) (b : Bool) → Part r a r' d b → d ≡ cond b None (contents_numbered r a)
part-next r r' a d b o = grind arith

part-counts : (r r' : ℕ) (a : Option Arrived) (d : Option (List ℕ)) (b : Bool) → Part r a r' d b → r' ≡ cond b 0 (r + length (option_to_list d))
part-counts r r' a d b o = grind (arith, counted_on)

-- a run
module _ (name : LinkName) where
  each-next : (card : Card) (events : List Event) → HasLines card → AreAtLines card events → HasLink card name → All (IsNext name) (moments card events)
  unfolding moments SeenBy
  each-next card [] has all named = All-nil (IsNext name)
  each-next card (e ∷ events) has all named =
      let here = All-head (IsAtLine card) e events all in
      let m = moment_of card e in
      All-cons (IsNext name) m (moments (after e card) events)
      (part-next (received_by name card) (received_by name (after e card)) (arrived name m) (delivered name m) (restarts name m) (event-seen name card e has here named.0 named.1))
      (each-next (after e card) events (after_lines e card has here) (All-tail (IsAtLine card) e events all) named)

  run-counts : (card : Card) (events : List Event) (i : ℕ) → HasLines card → AreAtLines card events → HasLink card name → received_by name card ≡ i
      → received_by name (after_all card events) ≡ fold (one_more name) i (moments card events)
  unfolding moments after_all SeenBy
  run-counts card [] i has all named is = is
  run-counts card (e ∷ events) i has all named is =
      let here = All-head (IsAtLine card) e events all in
      let m = moment_of card e in
      run-counts (after e card) events (one_more name i m) (after_lines e card has here) (All-tail (IsAtLine card) e events all) named
      (part-counts (received_by name card) (received_by name (after e card)) (arrived name m) (delivered name m) (restarts name m) (event-seen name card e has here named.0 named.1)
      ∙ ap (λ n. one_more name n m) is)

pub deliveries_numbered : DeliveriesNumbered
deliveries_numbered = grind (arith, each-next, has_lines, run-counts, fresh_lines, get_or-replicate)
