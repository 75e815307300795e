-- Two cards that have just begun: each has the TEI assigned, and one is asked to establish.
use Rattle.laws_wire.proofs.Vocabulary.{◌≡◌, ℕ, zero, suc, ◌<◌, ◌≤◌, true, false, not, List, [], ◌∷◌, length, get_or, set, replicate, Some, None, is_some, refl, sym, ap, subst, ◌∙◌, append-nil, arith, nat_lt, option_map_or, le-ltb, lt-ltb, get_or-set_same, length-replicate, All-nil, TeiTaken, TableFull, Service, Call, Packet, empty, Places, is_on, free_place, join_at, put_on, join, is_on-at}
use Rattle.laws_wire.proofs.Vocabulary.{place_of-is, table-put, table-empty, Link, fresh, LinkEndpoint, with_link, Config, Effect, of_change, told_of_management, request, Line, fresh_line, link_number, terms, terms_at, link_at, link_of, link_in, link_count, has_tei, Assign, fresh_gives_nothing, ranges_of, Card, line_at, wants_room, after_is_sound, fresh_is_sound, by-two, has-place, Event, nothing}
use Rattle.laws_wire.proofs.Vocabulary.{told, Establish, Endpoint, answered, happens, told_by, endpoint, assigned, requested, LinkEstablish, line_answer, line_takes_slot, line_after, tei_unless_refused, tei_assign, tei_refusal, tei_course, given}
use Rattle.std.specs.Prelude.{Bool, cond}
use Rattle.lapd_frame.specs.declared.readings.Reading.{Reading}
use Rattle.model_teis.specs.network.Words.{Course, begun as tei_begun}
use Rattle.model_teis.specs.terminal.Events as terminals
unfoldable use Rattle.model_teis.specs.terminal.Events.{course as terminal_course}
use Rattle.model_teis.specs.terminal.Rows as terminal_rows
use Rattle.model_teis.specs.terminal.Words as terminal_words
use Rattle.model_line.specs.Effect.{at_a_terminal, at_management, of_aim, of_network, of_terminal, of_terminal_if}
use Rattle.model_line.specs.Line.{is_terminal, terminal_in, with_terminal}
use Rattle.model_line.specs.Machine.{unless_refused, unless_refused_told}
use Rattle.model_line.specs.Refusal.{refusal}
use Rattle.model_line.specs.Sound as line_sound
use Rattle.model_card.specs.Card as cards
use Rattle.model_card.specs.Event.{at as event_at}
use Rattle.laws_wire.proofs.Answered.{asks-way, same-granted}
use Rattle.laws_wire.proofs.Calling.{asked, asks-establish, end}
use Rattle.laws_wire.proofs.LineSpeaks.{Speaks}
use Rattle.laws_wire.proofs.Standing.{IsCarried, StationStands, asks-granted, link-ranges}
use Rattle.laws_wire.proofs.Talking.{unheard, Holds, none-told}
use Rattle.laws_wire.proofs.Speaking.{said_by}

-- tables and lists of nothing
pub none-on : (tei n : ℕ) → is_on tei (replicate n None) ≡ false
none-on tei zero = refl
none-on tei (suc n) = none-on tei n

pub all-fresh : (n i : ℕ) → get_or (replicate n fresh) i fresh ≡ fresh
all-fresh (suc n) (suc i) = all-fresh n i
all-fresh other any = refl

pub set-fresh : (xs : List Link) (i j : ℕ) → ((k : ℕ) → get_or xs k fresh ≡ fresh) → get_or (set xs i fresh) j fresh ≡ fresh
set-fresh (x ∷ xs) zero (suc j) h = h (suc j)
set-fresh (x ∷ xs) (suc i) zero h = h 0
set-fresh (x ∷ xs) (suc i) (suc j) h = set-fresh xs i j (λ k. h (suc k))
set-fresh other any rest h = refl

pub all-fresh_lines : (c : Config) (n i : ℕ) → get_or (replicate n (fresh_line c)) i (fresh_line c) ≡ fresh_line c
all-fresh_lines c (suc n) (suc i) = all-fresh_lines c n i
all-fresh_lines c other any = refl

-- A TEI comes to a table of free places: it is at the first.
abbrev pub frees : ℕ → Places
frees n = replicate n None

pub free-is : (n : ℕ) → 1 ≤ n → free_place (frees n) ≡ Some 0
free-is n some = grind (arith, lt-ltb)

module _ (reading : Reading) (tei n : ℕ) (some : 1 ≤ n) where
  joined : tei_course (tei_assign tei) (empty reading n) ≡ join tei 0 (tei_begun (empty reading n))
  unfolding tei_course tei_refusal
  joined =
      ap (λ o. tei_unless_refused o (put_on tei) (empty reading n))
      (by-two (is_on tei (replicate n None)) (not (is_some (free_place (replicate n None)))) TeiTaken TableFull (none-on tei n) (ap (λ o. not (is_some o)) (free-is n some)))
      ∙ ap (λ o. join_at tei o (tei_begun (empty reading n))) (free-is n some)

module _ (service : Service) (tei : ℕ) (c : Config) (ranged : line_sound.IsInRange c) (few : tei ≤ 126) where
  abbrev l : Line
  l = fresh_line c

  none : refusal c false (Assign tei) l ≡ None
  none = rw ((le-ltb 126 tei few), (none-on tei c.terminals), (ap (λ o. not (is_some o)) (free-is c.terminals ((ranges_of c ranged).terminals.least)))) refl

  abbrev with_course : Course → Effect
  with_course x = of_change c x.told.change (told_of_management x.told) (record l { management = x.now })

  abbrev on_line : Effect
  on_line = with_course (join tei 0 (tei_begun (empty c.reading c.terminals)))

  some : 1 ≤ c.terminals
  some = (ranges_of c ranged).terminals.least

  -- of whatever side
  joined-there : terminal_course (terminals.assign tei) (terminal_in l) ≡ terminal_words.join tei 0 (terminal_words.begun (terminal_in l))
  unfolding terminal_course
  joined-there =
      ap (λ o. terminals.unless_refused o (terminal_rows.put_on tei) (terminal_in l))
      (by-two (is_on tei (frees c.terminals)) (not (is_some (free_place (frees c.terminals)))) TeiTaken TableFull (none-on tei c.terminals) (ap (λ o. not (is_some o)) (free-is c.terminals some)))
      ∙ ap (λ o. terminal_rows.join_at tei o (terminal_words.begun (terminal_in l))) (free-is c.terminals some)

  there : of_terminal c (terminals.assign tei) l ≡ on_line
  there = ap (λ (x : terminal_words.Course). of_change c x.told.change (told_of_management x.told) (with_terminal x.now l)) joined-there

  here : of_network c (tei_assign tei) l ≡ on_line
  here = ap with_course (joined c.reading tei c.terminals some)

  is-assigned : of_aim c (at_management (tei_assign tei)) l ≡ on_line
  is-assigned = go (is_terminal c)
    where
      go : (b : Bool) → cond b (of_terminal_if c (at_a_terminal (tei_assign tei)) l) (of_network c (tei_assign tei) l) ≡ on_line
      go true = there
      go false = here

  after-is : line_after c (request (Assign tei)) l ≡ on_line.line
  unfolding line_after
  after-is = ap (λ o. (of_aim c (unless_refused o (at_management (tei_assign tei))) l).line) none ∙ ap (λ (f : Effect). f.line) is-assigned

  answer-is : line_answer c (request (Assign tei)) l ≡ told nothing
  unfolding line_answer
  answer-is =
      ap (λ o. unless_refused_told o (of_aim c (unless_refused o (at_management (tei_assign tei))) l)) none
      ∙ ap (λ (f : Effect). told f.told) is-assigned

  links-fresh : (number : ℕ) → link_at number on_line.line ≡ fresh
  links-fresh number = set-fresh (set l.links (link_number 0 Call) fresh) (link_number 0 Packet) number (λ k. set-fresh l.links (link_number 0 Call) k (all-fresh (link_count c)))

  speaks : Speaks c service tei 0 fresh on_line.line
  speaks =
      let places = frees c.terminals in
      let within : 0 < length places = (let many : length places ≡ c.terminals = length-replicate c.terminals None in let some = ((ranges_of c ranged).terminals.least) in omega (arith, many, some)) in
      record {
        placed =
            has-place (set places 0 (Some tei)) tei 0 (table-put places 0 tei (table-empty c.terminals) (none-on tei c.terminals) (free-is c.terminals ((ranges_of c ranged).terminals.least)) few)
            (get_or-set_same places 0 (Some tei) None within);
        messages = record { management = refl; own = refl };
        units = refl;
        silent = λ number low other. ap (given (terms_at c number on_line.line)) (links-fresh number) ∙ fresh_gives_nothing (terms_at c number on_line.line);
        link = links-fresh (link_number 0 service);
      }

  module _ (line : ℕ) (within : line < c.lines) where
    abbrev m : Card
    m = cards.fresh c

    abbrev its : Event
    its = request (Assign tei)

    abbrev first : Endpoint
    first = endpoint c line

    same-line : line_at line m ≡ l
    same-line = all-fresh_lines c c.lines line

    next-line : line_at line (assigned c line tei).card ≡ on_line.line
    unfolding line_takes_slot
    next-line = grind (arith, get_or-set_same, length-replicate, same-line, after-is)

    told-nothing : answered its first ≡ told nothing
    unfolding line_takes_slot
    told-nothing = ap (line_answer c its) same-line ∙ answer-is

    begins : Holds c service tei 0 unheard (assigned c line tei) (end (terms c service tei) fresh [])
    begins = record {
      stands = record {
        config = refl;
        sound = after_is_sound m (event_at line its) (fresh_is_sound c ranged) within;
        within = within;
        speaks = subst (Speaks c service tei 0 fresh) (sym next-line) speaks;
        terms = refl;
        way = asks-way (Assign tei) first;
        carried = All-nil (IsCarried c service tei);
      };
      granted = same-granted its first refl;
      since = [];
      told = ap told_by told-nothing;
      delivered = refl;
    }

    -- and is asked to establish
    abbrev s : Endpoint
    s = assigned c line tei

    abbrev start : LinkEndpoint
    start = end (terms c service tei) fresh []

    own : StationStands s.card.config service tei 0 s start
    own = subst (λ k. StationStands k service tei 0 s start) (sym begins.stands.config) begins.stands

    abbrev its_line : Line
    its_line = line_at line s.card

    not-refused : refusal s.card.config false (Establish service tei) its_line ≡ None
    not-refused =
        let at = (place_of-is its_line.management.places tei 0 own.speaks.placed).1 in
        let on : has_tei tei its_line ≡ true = is_on-at its_line.management.places 0 tei at in
        let link-is : link_of service tei its_line ≡ fresh = ap (λ o. option_map_or (link_in its_line service) o fresh) own.speaks.placed ∙ own.speaks.link in
        grind (arith, nat_lt, le-ltb)

    room : wants_room (event_at line (request (Establish service tei))) s.card ≡ false
    unfolding line_takes_slot
    room = refl

    pub calls : Holds c service tei 0 unheard (happens (request (Establish service tei)) s) (end (terms c service tei) asked [])
    calls =
        let t = terms c service tei in
        let s' = happens (request (Establish service tei)) s in
        let ranges = link-ranges service tei 0 s start own in
        let x = asks-granted service tei 0 s start own (Establish service tei) LinkEstablish (λ l. refl) room not-refused in
        let is : with_link (requested LinkEstablish false) start ≡ end t asked [] = ap (λ y. end t y []) (asks-establish t ranges) in
        grind (arith, end, asked, said_by, room, append-nil, none-told, begins)

    pub answers : Holds c service tei 0 unheard s start
    answers = begins
