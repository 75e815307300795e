-- The lines of a terminal and of the network while a TEI is asked for, as values, and what each event leaves and tells there.
use Rattle.laws_wire.proofs.Vocabulary.{◌≡◌, ℕ, ◌+◌, ◌*◌, ◌%◌, ◌≤◌, ◌&&◌, ◌==◌, true, false, cond, not, List, [], ◌∷◌, set, slice_get, Option, Some, None, is_some, option_map, option_map_or, option_or, refl, sym, ap, ◌∙◌, arith, eq-eqb, false≢true, Ok, TableFull, Parts, Sender, Side, reading, spelling, own_side, heard_side, empty, Places, free_place, fresh, Config, Line, fresh_line, link_at}
use Rattle.laws_wire.proofs.Vocabulary.{link_count, link_number}
use Rattle.laws_wire.proofs.Vocabulary.{Effect, of_aim, of_change, told_of_management, hears, next, request, told, gave, nothing, came, Call, Packet, line_after, line_answer, tei_course, tei_refusal, given, terms_at, with_given_frame, first_taken, taken, next_of, ranges_of, of_heard, aim_of_reading}
use Rattle.std.specs.List.{find}
use Rattle.std.proofs.lemmas.Bool.{le-leb}
use Rattle.std.specs.Prelude.{◌/◌, drop}
use Rattle.model_bits.specs.Stream.{frame}
use Rattle.lapd_frame.specs.declared.addresses.Side.TheVariants.{User, Network}
use Rattle.lapd_frame.specs.declared.controls.Control.TheVariants.{Ui}
use Rattle.lapd_frame.specs.declared.notes.Note.TheVariants as notes
use Rattle.lapd_frame.specs.declared.timers.Order.TheVariants as orders
use Rattle.lapd_frame.specs.declared.timers.Timer.TheVariants.{T202}
use Rattle.lapd_frame.specs.Grammar as grammar
use Rattle.lapd_frame.specs.declared.readings.Reading.{Reading}
use Rattle.lapd_frame.specs.declared.readings.Reading.TheVariants.{Profile, AnnexB}
use Rattle.lapd_frame.specs.Readings.{by_reading}
use Rattle.lapd_frame.proofs.Naming.{management-spelled}
use Rattle.model_teis.specs.Refused.{refusal_if}
use Rattle.model_teis.specs.network.Events as teis
use Rattle.model_teis.specs.declared.network.messages.Message.TheVariants as sent
use Rattle.model_teis.specs.declared.changes.Change.TheVariants.{Gained}
use Rattle.model_teis.specs.network.Machine.{Management}
use Rattle.model_teis.specs.Information.{heard_by, information, looked_at}
use Rattle.model_teis.specs.network.Messages as messages
use Rattle.model_teis.specs.network.Rows as tei_rows
use Rattle.model_teis.specs.Table.{automatic, is_off, is_on, free_tei}
use Rattle.model_teis.specs.network.Words as tei_words
use Rattle.model_teis.specs.terminal.Events as terminals
unfoldable use Rattle.model_teis.specs.terminal.Events.{course as terminal_course}
use Rattle.model_teis.specs.declared.terminal.messages.Message.TheVariants as own_sent
use Rattle.model_teis.specs.declared.terminal.procedure.Procedure.TheVariants.{Asking}
use Rattle.model_teis.specs.terminal.Machine as terminals_machine
use Rattle.model_teis.specs.terminal.Messages as own_messages
use Rattle.model_teis.specs.terminal.Numbers.{next_number}
use Rattle.model_teis.specs.terminal.Rows as terminal_rows
use Rattle.model_teis.specs.terminal.Words as terminal_words
use Rattle.laws_line.specs.Served.{HasNoMessage}
use Rattle.laws_line.proofs.Draining.{no-message-taken, same-after}
use Rattle.model_bits.specs.declared.heard.Cause.TheVariants.{Unserved}
use Rattle.model_line.specs.Event.{dropped}
use Rattle.model_line.specs.Effect.{at_management, at_none, at_terminal, of_management, of_network, of_terminal, of_terminal_if, at_a_terminal, with_opened}
use Rattle.model_line.specs.Line.{is_at, is_terminal, seed_of, terminal_in, with_terminal}
use Rattle.model_line.specs.Machine.{unless_refused, unless_refused_told}
use Rattle.model_line.specs.Refusal.{refusal}
use Rattle.model_line.specs.Request.{AskTei}
use Rattle.model_line.specs.Sides.{managed_at}
use Rattle.model_line.specs.Sound.{IsInRange}
use Rattle.model_line.specs.Taken.{line_of, unit_taken, with_unit, with_message, with_own_message, round}
use Rattle.laws_wire.proofs.Beginning.{none-on, all-fresh, set-fresh, frees, free-is}
use Rattle.laws_wire.proofs.Spelled.{Carries, carries}

-- ---- the sides

user-is : (s : Side) (o : Option ℕ) → is_at s o ≡ true → s ≡ User
user-is Network o e = absurd (false≢true e)
user-is User o e = refl

pub terminal-side : (c : Config) → is_terminal c ≡ true → c.side ≡ User
terminal-side c own = user-is c.side c.seed own

-- ---- the frames

abbrev pub parts : ℕ → ℕ → ℕ → Parts
parts ri type action = record { address = record { sapi = 63; command = true; tei = 127 }; control = Ui false; info = information ri type action }

abbrev pub requested : ℕ → Parts
requested ri = parts ri 1 127

abbrev pub answered : ℕ → Parts
answered ri = parts ri 2 64

pub carried : (sender : Sender) (n201 ri type action : ℕ) → 8 ≤ n201 → Carries sender n201 (parts ri type action) (spelling sender (parts ri type action))
carried sender n201 ri type action long =
    carries sender n201 (parts ri type action) (record { sapi = omega arith; tei = omega arith; kind = refl; size = refl }) (omega (arith, long))

-- the Ri goes in two octets, and is read from them again
same-ri : (ri : ℕ) → 256 * (ri / 256) + ri % 256 ≡ ri
same-ri ri = omega arith

-- ---- both readings look at all five octets

looks : (r : Reading) (ri type action : ℕ) → looked_at r (information ri type action) ≡ information ri type action
looks Profile ri type action = refl
looks AnnexB ri type action = refl

-- ---- the lines

-- The terminal's: it has asked, its request has gone, and it has the TEI.
abbrev pub asked : Config → Line
asked c = record (fresh_line c) {
  own = record { number = next_number (seed_of c); procedure = Some (Asking (seed_of c) 1); waiting = own_sent.IdentityRequest (seed_of c) ∷ [] };
}

abbrev pub waits : Config → Line
waits c = record (asked c) { own = record (asked c).own { waiting = [] } }

abbrev pub first : ℕ → Places
first n = set (frees n) 0 (Some 64)

abbrev pub has_it : Config → Line
has_it c = with_opened 0 (record (fresh_line c) {
  management = record (empty c.reading c.terminals) { places = first c.terminals };
  own = record { number = next_number (seed_of c); procedure = None; waiting = [] };
})

-- The network's: it has assigned the TEI by this Ri, which it remembers in the profile, and its message has gone.
abbrev pub granting : Reading → ℕ → ℕ → Management
granting reading ri n = record (empty reading n) {
  places = first n;
  remembered = by_reading reading (record { ri = ri; tei = 64 } ∷ []) [];
  waiting = sent.IdentityAssigned ri 64 ∷ [];
}

abbrev pub assigning : ℕ → Config → Line
assigning ri d = with_opened 0 (record (fresh_line d) { management = granting d.reading ri d.terminals })

abbrev pub gave_it : ℕ → Config → Line
gave_it ri d = record (assigning ri d) { management = record (assigning ri d).management { waiting = [] } }

-- ---- the terminal asks

abbrev by_course : Config → terminal_words.Course → Line → Effect
by_course c x l = of_change c x.told.change (told_of_management x.told) (with_terminal x.now l)

module _ (c : Config) (own : is_terminal c ≡ true) (ranged : IsInRange c) where
  some : 1 ≤ c.terminals
  some = (ranges_of c ranged).terminals.least

  not-refused : refusal c false AskTei (fresh_line c) ≡ None
  not-refused = rw (own, (ap (λ o. not (is_some o)) (free-is c.terminals some))) refl

  asked-course : terminal_course terminals.ask (terminal_in (fresh_line c)) ≡ terminal_words.ask 1 (terminal_words.begun (terminal_in (fresh_line c)))
  unfolding terminal_course
  asked-course = ap (λ o. terminals.unless_refused (refusal_if (not (is_some o)) TableFull None) (terminal_words.ask 1) (terminal_in (fresh_line c))) (free-is c.terminals some)

  asks-effect : of_aim c (at_terminal terminals.ask) (fresh_line c) ≡ record { line = asked c; told = record nothing { orders = orders.Start T202 ∷ [] } }
  asks-effect = ap (λ x. by_course c x (fresh_line c)) asked-course

  pub asks-after : line_after c (request AskTei) (fresh_line c) ≡ asked c
  unfolding line_after
  asks-after = ap (λ o. (of_aim c (unless_refused o (at_terminal terminals.ask)) (fresh_line c)).line) not-refused ∙ ap (λ (f : Effect). f.line) asks-effect

  pub asks-answer : line_answer c (request AskTei) (fresh_line c) ≡ told (record nothing { orders = orders.Start T202 ∷ [] })
  unfolding line_answer
  asks-answer =
      ap (λ o. unless_refused_told o (of_aim c (unless_refused o (at_terminal terminals.ask)) (fresh_line c))) not-refused
      ∙ ap (λ (f : Effect). told f.told) asks-effect

  -- its request goes
  asks-taken : taken c (asked c) ≡ Some (with_own_message (asked c) (own_messages.frame_of (own_sent.IdentityRequest (seed_of c))))
  asks-taken =
      let l = asked c in
      ap (λ b. option_or (cond b (option_map (with_own_message l) (terminals.offered (terminal_in l))) (option_map (with_message l) (teis.offered c.side l.management)))
      (option_or (unit_taken c l) (first_taken c l (round c l)))) own

  request-spelled : own_messages.frame_of (own_sent.IdentityRequest (seed_of c)) ≡ spelling (own_side c) (requested (seed_of c))
  request-spelled =
      ap (λ side. grammar.spelling side (requested (seed_of c))) (sym (terminal-side c own))
      ∙ management-spelled (own_side c) true 127 (Ui false) (information (seed_of c) 1 127)

  pub goes-after : line_after c next (asked c) ≡ waits c
  unfolding line_after
  goes-after = ap (λ o. option_map_or line_of o (asked c)) asks-taken

  pub goes-answer : line_answer c next (asked c) ≡ gave (Some (record { octets = spelling (own_side c) (requested (seed_of c)); orders = [] }))
  unfolding line_answer
  goes-answer = ap (λ o. gave (option_map next_of o)) asks-taken ∙ ap (λ octets. gave (Some (record { octets = octets; orders = [] }))) request-spelled

-- ---- the network serves the request

module _ (reading : Reading) (ri n : ℕ) (some : 1 ≤ n) where
  -- the lowest TEI that it assigns
  lowest : free_tei (frees n) ≡ Some 64
  lowest = ap (λ b. cond (not b) (Some 64) (find (is_off (frees n)) (drop 1 automatic))) (none-on 64 n)

  abbrev served_course : tei_words.Course
  served_course = record {
    now = granting reading ri n;
    told = record { notes = notes.Assigned 64 ∷ []; change = Some (Gained 64 0); orders = []; lost = 0; unserved = false };
  }

  abbrev its_start : tei_words.Course
  its_start = tei_words.begun (empty reading n)

  -- of whatever reading, as nothing is remembered and nothing waits
  granted : (r : Reading) → reading ≡ r → tei_rows.assign_new ri (Some 0) (Some 64) its_start ≡ served_course
  granted Profile is = rw is refl
  granted AnnexB is = rw is refl

  serves : (x : ℕ) → x ≡ ri → tei_rows.assign_new x (free_place (frees n)) (free_tei (frees n)) its_start ≡ served_course
  serves x is =
      ap (λ x. tei_rows.assign_new x (free_place (frees n)) (free_tei (frees n)) its_start) is
      ∙ ap (λ o. tei_rows.assign_new ri o (free_tei (frees n)) its_start) (free-is n some)
      ∙ ap (λ o. tei_rows.assign_new ri (Some 0) o its_start) lowest
      ∙ granted reading refl

  anew : (r : Reading) → reading ≡ r → (x : ℕ) → tei_rows.request x its_start ≡ tei_rows.assign_new x (free_place (frees n)) (free_tei (frees n)) its_start
  anew Profile is x = rw is refl
  anew AnnexB is x = rw is refl

  served : tei_course (teis.message (information ri 1 127)) (empty reading n) ≡ served_course
  unfolding tei_course tei_refusal
  served =
      ap (λ octets. tei_rows.serve (heard_by messages.heard_of_type octets) (messages.responses_in (information ri 1 127)) its_start) (looks reading ri 1 127)
      ∙ anew reading refl (256 * (ri / 256) + ri % 256) ∙ serves (256 * (ri / 256) + ri % 256) (same-ri ri)

  -- ---- the terminal takes the TEI

  module _ (number : ℕ) where
    abbrev asking : terminals_machine.Terminal
    asking = record { reading = reading; places = frees n; number = number; procedure = Some (Asking ri 1); waiting = [] }

    abbrev taken_course : terminal_words.Course
    taken_course = record {
      now = record { reading = reading; places = first n; number = number; procedure = None; waiting = [] };
      told = record { notes = notes.Assigned 64 ∷ []; change = Some (Gained 64 0); orders = orders.Stop T202 ∷ []; lost = 0; unserved = false };
    }

    -- TEI 64 is one that it takes by either
    may-take : (r : Reading)
        → cond (terminal_rows.is_assignable r 64 (frees n)) (terminal_rows.take_at 64 (free_place (frees n))) terminal_words.unserved (terminal_words.begun asking)
        ≡ cond (not (is_on 64 (frees n))) (terminal_rows.take_at 64 (free_place (frees n))) terminal_words.unserved (terminal_words.begun asking)
    may-take Profile = refl
    may-take AnnexB = refl

    takes : (x : ℕ) → x ≡ ri → cond (ri == x) (terminal_rows.take_tei 64) terminal_words.unserved (terminal_words.begun asking) ≡ taken_course
    takes x is =
        ap (λ b. cond b (terminal_rows.take_tei 64) terminal_words.unserved (terminal_words.begun asking)) (eq-eqb ri x (sym is))
        ∙ may-take reading
        ∙ ap (λ b. cond (not b) (terminal_rows.take_at 64 (free_place (frees n))) terminal_words.unserved (terminal_words.begun asking)) (none-on 64 n)
        ∙ ap (λ o. terminal_rows.take_at 64 o (terminal_words.begun asking)) (free-is n some)

    took : terminal_course (terminals.message (information ri 2 64)) asking ≡ taken_course
    unfolding terminal_course
    took =
        ap (λ octets. terminal_rows.serve (heard_by own_messages.heard_of_type octets) (terminal_words.begun asking)) (looks reading ri 2 64)
        ∙ takes (256 * (ri / 256) + ri % 256) (same-ri ri)

-- ---- a message comes to a line

module _ (c : Config) (l : Line) (long : 8 ≤ c.n201) (ri type action : ℕ) (octets : List ℕ) (whole : came c.n201 octets ≡ frame octets)
    (read : reading (heard_side c) octets ≡ Ok (parts ri type action)) where
  abbrev its_event : teis.Event
  its_event = teis.message (information ri type action)

  comes-to : managed_at c (parts ri type action) c.side its_event ≡ at_management its_event → of_heard c (came c.n201 octets) l ≡ of_management c its_event l
  comes-to managed =
      ap (λ e. of_heard c e l) whole ∙ ap (λ r. of_aim c (aim_of_reading c l r) l) read
      ∙ ap (λ b. of_aim c (cond b (managed_at c (parts ri type action) c.side its_event) (at_none (dropped Unserved))) l) (le-leb 5 c.n201 (omega (arith, long)))
      ∙ ap (λ aim. of_aim c aim l) managed

  to-network : c.side ≡ Network → of_heard c (came c.n201 octets) l ≡ of_network c its_event l
  to-network side =
      comes-to (ap (λ s. managed_at c (parts ri type action) s its_event) side)
      ∙ ap (λ s. cond (is_at s c.seed) (of_terminal_if c (at_a_terminal its_event) l) (of_network c its_event l)) side

  to-terminal : is_terminal c ≡ true → of_heard c (came c.n201 octets) l ≡ of_terminal c (terminals.message (information ri type action)) l
  to-terminal own =
      comes-to (ap (λ s. managed_at c (parts ri type action) s its_event) (terminal-side c own)
      ∙ ap (λ b. cond (b && true) (at_management its_event) (at_none (dropped Unserved))) own)
      ∙ ap (λ b. cond b (of_terminal_if c (at_a_terminal its_event) l) (of_network c its_event l)) own

-- the request comes to the network's side
module _ (d : Config) (side : d.side ≡ Network) (long : 8 ≤ d.n201) (some : 1 ≤ d.terminals) (ri : ℕ) (octets : List ℕ) (whole : came d.n201 octets ≡ frame octets)
    (read : reading (heard_side d) octets ≡ Ok (requested ri)) where
  abbrev served_effect : tei_words.Course → Effect
  served_effect x = of_change d x.told.change (told_of_management x.told) (record (fresh_line d) { management = x.now })

  request-served : of_heard d (came d.n201 octets) (fresh_line d) ≡ record { line = assigning ri d; told = record nothing { notes = notes.Assigned 64 ∷ [] } }
  request-served = to-network d (fresh_line d) long ri 1 127 octets whole read side ∙ ap served_effect (served d.reading ri d.terminals some)

  pub assigns-after : line_after d (hears (came d.n201 octets)) (fresh_line d) ≡ assigning ri d
  unfolding line_after
  assigns-after = ap (λ (f : Effect). f.line) request-served

  pub assigns-answer : line_answer d (hears (came d.n201 octets)) (fresh_line d) ≡ told (record nothing { notes = notes.Assigned 64 ∷ [] })
  unfolding line_answer
  assigns-answer = ap (λ (f : Effect). told f.told) request-served

-- and the answer to the terminal
module _ (c : Config) (own : is_terminal c ≡ true) (long : 8 ≤ c.n201) (some : 1 ≤ c.terminals) (octets : List ℕ) (whole : came c.n201 octets ≡ frame octets)
    (read : reading (heard_side c) octets ≡ Ok (answered (seed_of c))) where
  answer-taken : of_heard c (came c.n201 octets) (waits c)
      ≡ record { line = has_it c; told = record nothing { notes = notes.Assigned 64 ∷ []; orders = orders.Stop T202 ∷ [] } }
  answer-taken =
      to-terminal c (waits c) long (seed_of c) 2 64 octets whole read own
      ∙ ap (λ x. by_course c x (waits c)) (took c.reading (seed_of c) c.terminals some (next_number (seed_of c)))

  pub gets-after : line_after c (hears (came c.n201 octets)) (waits c) ≡ has_it c
  unfolding line_after
  gets-after = ap (λ (f : Effect). f.line) answer-taken

  pub gets-answer : line_answer c (hears (came c.n201 octets)) (waits c) ≡ told (record nothing { notes = notes.Assigned 64 ∷ []; orders = orders.Stop T202 ∷ [] })
  unfolding line_answer
  gets-answer = ap (λ (f : Effect). told f.told) answer-taken

-- ---- the network's message goes

module _ (d : Config) (side : d.side ≡ Network) (ri : ℕ) where
  abbrev l : Line
  l = assigning ri d

  gives-taken : taken d l ≡ Some (with_message l (messages.frame_of d.side (sent.IdentityAssigned ri 64)))
  gives-taken =
      ap (λ s. option_or (cond (is_at s d.seed) (option_map (with_own_message l) (terminals.offered (terminal_in l))) (option_map (with_message l) (teis.offered d.side l.management)))
      (option_or (unit_taken d l) (first_taken d l (round d l)))) side

  answer-spelled : messages.frame_of d.side (sent.IdentityAssigned ri 64) ≡ spelling (own_side d) (answered ri)
  answer-spelled = management-spelled (own_side d) true 127 (Ui false) (information ri 2 64)

  pub gives-after : line_after d next l ≡ gave_it ri d
  unfolding line_after
  gives-after = ap (λ o. option_map_or line_of o l) gives-taken

  pub gives-answer : line_answer d next l ≡ gave (Some (record { octets = spelling (own_side d) (answered ri); orders = [] }))
  unfolding line_answer
  gives-answer = ap (λ o. gave (option_map next_of o)) gives-taken ∙ ap (λ octets. gave (Some (record { octets = octets; orders = [] }))) answer-spelled

-- ---- at all other times nothing is to go

pub record HasNone (c : Config) (l : Line) : Type 0 where
  pub messages : HasNoMessage l
  pub units : l.units ≡ []
  pub links : (number : ℕ) → link_at number l ≡ fresh

module _ (c : Config) (l : Line) (h : HasNone c l) where
  none-of_links : (ns : List ℕ) → first_taken c l ns ≡ None
  none-of_links [] = refl
  none-of_links (n ∷ ns) =
      ap (λ x. option_or (option_map (with_given_frame c l n (terms_at c n l)) (given (terms_at c n l) x)) (first_taken c l ns)) (h.links n)
      ∙ none-of_links ns

  none-taken : taken c l ≡ None
  none-taken =
      ap (λ o. option_or o (option_or (unit_taken c l) (first_taken c l (round c l)))) (no-message-taken c l h.messages)
      ∙ ap (λ us. option_or (option_map (with_unit c l) (slice_get us 0)) (first_taken c l (round c l))) h.units
      ∙ none-of_links (round c l)

  pub idle-after : line_after c next l ≡ l
  idle-after = same-after c l none-taken

  pub idle-answer : line_answer c next l ≡ gave None
  unfolding line_answer
  idle-answer = ap (λ o. gave (option_map next_of o)) none-taken

-- links that begin, also where two of them are opened
fresh-links : (c : Config) (number : ℕ) → link_at number (fresh_line c) ≡ fresh
fresh-links c number = all-fresh (link_count c) number

opened-links : (l : Line) → ((number : ℕ) → link_at number l ≡ fresh) → (number : ℕ) → link_at number (with_opened 0 l) ≡ fresh
opened-links l all number = set-fresh (set l.links (link_number 0 Call) fresh) (link_number 0 Packet) number (λ k. set-fresh l.links (link_number 0 Call) k all)

pub none-first : (c : Config) → HasNone c (fresh_line c)
none-first c = record { messages = record { management = refl; own = refl }; units = refl; links = fresh-links c }

pub none-waits : (c : Config) → HasNone c (waits c)
none-waits c = record { messages = record { management = refl; own = refl }; units = refl; links = fresh-links c }

pub none-has : (c : Config) → HasNone c (has_it c)
none-has c = record { messages = record { management = refl; own = refl }; units = refl; links = opened-links (fresh_line c) (fresh-links c) }

pub none-gave : (ri : ℕ) (d : Config) → HasNone d (gave_it ri d)
none-gave ri d = record { messages = record { management = refl; own = refl }; units = refl; links = opened-links (fresh_line d) (fresh-links d) }
