-- Which causes TEI management of the side names: those that its observer has it name.
use Rattle.laws_trace.proofs.Vocabulary.{◌≡◌, ℕ, ◌+◌, ◌*◌, ◌/◌, ◌≤◌, ◌==◌, ◌&&◌, Bool, true, false, cond, cond_both, List, [], ◌∷◌, Option, Some, None, refl, sym, ap, ◌∙◌, arith, is_some, option_map_or}
use Rattle.laws_trace.proofs.Vocabulary.{Config, Line, at_management, at_no_link, of_aim}
use Rattle.laws_trace.proofs.Vocabulary.{Aim, IsSound as IsSoundLine, at}
use Rattle.laws_trace.proofs.Vocabulary.{Managed, Management, Change, of_change, not, tei_begun, tei_told, tei_message, TeiEvent}
use Rattle.laws_trace.proofs.Vocabulary.{true≢false, tei_step, tei_unless_refused, heard_of_type, Check, Checked, Doubled, Places, list_any, length, nat_le, nat_lt, take, eq-eqb, subst, owes, TeiCourse as Course}
use Rattle.laws_trace.proofs.Vocabulary.{tei_course, tei_refusal, no_room, lose_one}
use Rattle.model_teis.specs.network.Rows as rows
use Rattle.lapd_frame.specs.declared.refusals.Refusal.{Refusal}
use Rattle.model_teis.specs.network.Events.{down as tei_down}
use Rattle.model_teis.specs.terminal.Events as terminals
use Rattle.model_teis.specs.terminal.Events.{Event as TerminalEvent, after as terminal_after, told as terminal_told}
use Rattle.model_bits.specs.declared.heard.Cause.{Cause}
use Rattle.model_line.specs.Event as line_event
use Rattle.model_line.specs.Effect.{at_a_terminal, at_terminal, of_network, of_terminal_if, told_of_management, unserved_cause, without_units}
use Rattle.model_line.specs.Line.{is_terminal, terminal_in, with_terminal}
use Rattle.laws_trace.specs.CausesAreTold.{serves_information, unless}
use Rattle.lapd_frame.specs.declared.notes.Note.{Note}
use Rattle.lapd_frame.specs.declared.timers.Order.{Order}
use Rattle.lapd_frame.specs.Readings.{by_reading}
use Rattle.model_teis.specs.declared.network.messages.Message.TheVariants.{IdentityDenied, IdentityRemove}
use Rattle.model_teis.specs.network.Machine.{next_checked}
use Rattle.model_teis.specs.declared.network.heard.Heard.TheVariants.{IdentityCheckResponse, IdentityVerify}
use Rattle.model_teis.specs.network.Messages.{heard_in, is_last, responses_in, up_to}
use Rattle.model_teis.specs.network.Words.{check_is, end_check, note, send, unserved}
use Rattle.laws_trace.specs.Managing.{asks, by_type, is_given, is_one, named_by, own_of, several, verified}
use Rattle.laws_trace.specs.ManagingTerminal as seen
use Rattle.laws_trace.proofs.CheckEnds.{as_seen, seen_check}
use Rattle.laws_trace.proofs.ManagingReads.{by-both, few-heard, few-named, given-same, heard-is, in-both, one-by-one}
use Rattle.laws_trace.proofs.Known.{Knows}
use Rattle.laws_trace.proofs.ManagingTables.{AreOn}
use Rattle.laws_trace.proofs.TerminalTables.{IsOnce}
use Rattle.laws_trace.proofs.ServedByTerminal.{own-serves, others-served, is_message as is_own_message}
use Rattle.std.specs.List.{position}
use Rattle.std.specs.Option.{option_and_then}
use Rattle.laws_trace.proofs.Vocabulary.{message_served, responded, checks, option_map}

-- What an end of a check, and what begins then, leaves served stays so.
ends-serve : (x : Course) → (end_check x).told.unserved ≡ x.told.unserved
ends-serve x = grind (arith, next_checked)

-- What TEI management serves.
module _ (on : List ℕ) (places : Places) (later : List ℕ) (m : Management) (h : AreOn on m.places) (ns : List Note) (os : List Order) (lost : ℕ) (bs : List (List ℕ)) (so : Option Bool) where
  -- whatever the latest event made due
  abbrev w : Managed
  w = record (as_seen on places later m) { notes = ns; orders = os; lost = lost; begins = bs; granted = so }

  -- of what comes to something nothing is left unserved
  abbrev Serving : Option Managed → Course → Type 0
  Serving d x = x.told.unserved ≡ not (is_some d)

  assigns-new : (ri : ℕ) (p t : Option ℕ) → (rows.assign_new ri p t (tei_begun m)).told.unserved ≡ false
  assigns-new ri p t = grind arith

  assigns : (ri : ℕ) (o : Option ℕ) → (rows.assign ri o (tei_begun m)).told.unserved ≡ false
  assigns ri o = grind (arith, assigns-new)

  requests : (ri : ℕ) → (rows.answer_request ri (tei_begun m)).told.unserved ≡ false
  requests ri = go (no_room m.waiting)
    where
      go : (b : Bool) → ((cond b lose_one (rows.assign ri (rows.remembered_in ri m.remembered))) (tei_begun m)).told.unserved ≡ false
      go true = refl
      go false = assigns ri (rows.remembered_in ri m.remembered)

  counts : (tei : ℕ) (check : Check) → (rows.count tei check (tei_begun m)).told.unserved ≡ false
  counts tei check = go (nat_le 2 (rows.responses check))
    where
      go : (b : Bool) → ((cond b (rows.doubled tei) (check_is (Some check))) (tei_begun m)).told.unserved ≡ false
      go true = ends-serve (send (IdentityRemove tei) (note (Doubled tei) (tei_begun m)))
      go false = refl

  some-responded : (tei : ℕ) (check : Checked) → is_some (responded tei w check) ≡ (check.tei == tei)
  some-responded tei check = grind arith

  responds : (tei : ℕ) (o : Option Check) → Serving (option_and_then (responded tei w) (option_map seen_check o)) (rows.respond tei o (tei_begun m))
  responds tei None = refl
  responds tei (Some check) = go (check.tei == tei) ∙ sym (ap not (some-responded tei (seen_check check)))
    where
      go : (b : Bool) → ((cond b (rows.count tei (rows.counted check)) unserved) (tei_begun m)).told.unserved ≡ not b
      go true = counts tei (rows.counted check)
      go false = refl

  -- by its type
  module _ (c : Config) (read : m.reading ≡ c.reading) where
    asks-any : (ri : ℕ) → Serving (by_reading c.reading (Some (asks c ri w)) (cond (list_any (is_given ri) m.waiting) None (Some (asks c ri w)))) (rows.request ri (tei_begun m))
    asks-any ri = grind (arith, in-both, asks, is_given, requests, given-same, by-both, unserved)

    asks-own : (ri tei : ℕ) → Serving (by_reading c.reading None (Some (owes (IdentityDenied ri tei) w))) (rows.request_of ri tei (tei_begun m))
    asks-own ri tei = in-both Serving m.reading c.reading read None (Some (owes (IdentityDenied ri tei) w)) (unserved (tei_begun m)) (send (IdentityDenied ri tei) (tei_begun m)) refl refl

    verifies : (tei : ℕ) → Serving (verified c tei w) (rows.verify tei (tei_begun m))
    verifies tei = grind (arith, checks, send, option_map, by-both, unserved, in-both)

    none-among : (o : Option Check) → (rows.respond_among None o (tei_begun m)).told.unserved ≡ true
    none-among o = grind arith

    not-several : Serving None (by_reading m.reading (unserved (tei_begun m)) (rows.respond_among None m.check (tei_begun m)))
    not-several = grind (arith, unserved, none-among)

    for-several : (octets : List ℕ) (o : Option Check)
        → Serving (option_and_then (λ (check : Checked). cond (list_any (λ octet. octet / 2 == check.tei) octets) (responded check.tei w check) None) (option_map seen_check o)) (rows.respond_among (Some octets) o (tei_begun m))
    for-several octets None = refl
    for-several octets (Some check) =
        by-both (λ d f. Serving d (f (tei_begun m))) (list_any (λ octet. octet / 2 == check.tei) octets) (responded check.tei w (seen_check check)) None (rows.count check.tei (rows.counted check)) unserved
        (counts check.tei (rows.counted check) ∙ sym (ap not (some-responded check.tei (seen_check check) ∙ eq-eqb check.tei check.tei refl))) refl

    severals : (octets : List ℕ) (b : Bool)
        → Serving (cond b (by_reading c.reading None (several w octets)) None)
        (by_reading m.reading (unserved (tei_begun m)) (rows.respond_among (cond b (up_to octets (position is_last octets)) None) m.check (tei_begun m)))
    severals octets false = not-several
    severals octets true =
        in-both Serving m.reading c.reading read None (several w octets) (unserved (tei_begun m)) (rows.respond_among (up_to octets (position is_last octets)) m.check (tei_begun m)) refl
        (up-to (position is_last octets))
      where
        up-to : (o : Option ℕ)
            → Serving (option_and_then (λ place. cond (nat_lt place 64) (named_by w (take (place + 1) octets)) None) o) (rows.respond_among (up_to octets o) m.check (tei_begun m))
        up-to None = none-among m.check
        up-to (Some place) =
            by-both (λ d teis. Serving d (rows.respond_among teis m.check (tei_begun m))) (nat_lt place 64) _ _ _ _ (for-several (take (place + 1) octets) m.check) (none-among m.check)

    -- Of a check response the list of Ai is not looked at then.
    by-type : (type ri action : ℕ) (teis : Option (List ℕ)) → (type == 5 ≡ false → teis ≡ None) → Serving (by_type c w type ri action) (rows.serve (heard_of_type type ri action) teis (tei_begun m))
    by-type type ri action teis none =
        subst (λ d. Serving d (rows.serve (heard_of_type type ri action) teis (tei_begun m))) (sym (one-by-one c type ri action w))
        (by-both (λ d o. Serving d (rows.serve o teis (tei_begun m))) (type == 1 && action == 127) _ _ _ _ (asks-any ri)
        (by-both (λ d o. Serving d (rows.serve o teis (tei_begun m))) (type == 1 && nat_le 64 action && nat_le action 126) _ _ _ _ (asks-own ri action) (go (type == 5) refl)))
      where
        go : (b : Bool) → (type == 5) ≡ b
            → Serving (cond b (option_and_then (responded action w) w.check) (cond (type == 7) (verified c action w) None))
            (rows.serve (cond b (Some (IdentityCheckResponse action)) (cond (type == 7) (Some (IdentityVerify action)) None)) teis (tei_begun m))
        go true is = responds action m.check
        go false is =
            by-both (λ d o. Serving d (rows.serve o teis (tei_begun m))) (type == 7) _ _ _ _ (verifies action)
            (subst (λ teis. Serving None (rows.serve None teis (tei_begun m))) (sym (none is)) not-several)

    few-serves : (info : List ℕ) → length info ≤ 4 → Serving None (rows.hear info (tei_begun m))
    few-serves info few =
        subst (λ o. Serving None (rows.serve o (responses_in info) (tei_begun m))) (sym (few-heard m.reading info few))
        (subst (λ teis. Serving None (rows.serve None teis (tei_begun m))) (sym (few-named info few)) not-several)

    message-serves : (info : List ℕ) → Serving (message_served c w info) (rows.hear info (tei_begun m))
    message-serves (a ∷ high ∷ low ∷ type ∷ action ∷ more) =
        subst (λ o. Serving (message_served c w info) (rows.serve o (responses_in info) (tei_begun m))) (sym (ap (λ r. heard_in r info) read ∙ heard-is c a high low type action more))
        (go (a == 0x0F) (is_one c action more))
      where
        info : List ℕ
        info = a ∷ high ∷ low ∷ type ∷ action ∷ more

        teis : Option (List ℕ)
        teis = up_to (action ∷ more) (position is_last (action ∷ more))

        go : (x y : Bool)
            → Serving (cond (not x) None (cond y (by_type c w type (256 * high + low) (action / 2)) (cond (type == 5) (by_reading c.reading None (several w (action ∷ more))) None)))
            (rows.serve (cond (x && y) (heard_of_type type (256 * high + low) (action / 2)) None) (cond (x && type == 5) teis None) (tei_begun m))
        go false y = not-several
        go true true = by-type type (256 * high + low) (action / 2) (cond (type == 5) teis None) (λ other. ap (λ b. cond b teis None) other)
        go true false = severals (action ∷ more) (type == 5)
    message-serves (a ∷ high ∷ low ∷ type ∷ []) = few-serves (a ∷ high ∷ low ∷ type ∷ []) (omega arith)
    message-serves (a ∷ high ∷ low ∷ []) = few-serves (a ∷ high ∷ low ∷ []) (omega arith)
    message-serves (a ∷ high ∷ []) = few-serves (a ∷ high ∷ []) (omega arith)
    message-serves (a ∷ []) = few-serves (a ∷ []) (omega arith)
    message-serves [] = few-serves [] (omega arith)

-- A request of management, the expiry of T201, and that the line is down, are served.
abbrev is_message : TeiEvent → Bool
is_message (tei_message info) = true
is_message other = false

module _ (m : Management) where
  removes-serve : (tei : ℕ) → (rows.removed tei (tei_begun m)).told.unserved ≡ false
  removes-serve tei = grind (arith, ends-serve)

  expire-serves : (rows.expire (tei_begun m)).told.unserved ≡ false
  expire-serves = grind (arith, ends-serve, removes-serve)

  take-serves : (tei : ℕ) → (rows.take_off tei (tei_begun m)).told.unserved ≡ false
  take-serves tei = grind (arith, ends-serve)

  put-serves : (tei : ℕ) → (rows.put_on tei (tei_begun m)).told.unserved ≡ false
  put-serves tei = grind arith

  down-serves : (rows.give_up (tei_begun m)).told.unserved ≡ false
  down-serves = grind arith

  unless-serves : (o : Option Refusal) (e : TeiEvent) → (tei_step e (tei_begun m)).told.unserved ≡ false → (tei_unless_refused o (tei_step e) m).told.unserved ≡ false
  unless-serves o e h = grind arith

managed-serve : (e : TeiEvent) (m : Management) → is_message e ≡ false → (tei_told e m).unserved ≡ false
unfolding tei_course
managed-serve e m none = grind (arith, true≢false, unless-serves, expire-serves, put-serves, take-serves, down-serves)

-- The cause that an aim comes to. What TEI management tells stays, whatever its links tell then.
abbrev pub named : Config → Line → Aim → Option Cause
named c l aim = (of_aim c aim l).told.cause

change-keeps : (c : Config) (o : Option Change) (t : line_event.LineTold) (l : Line) → (of_change c o t l).told.cause ≡ t.cause
change-keeps c o t l = grind arith

-- Whether the TEI management of the side leaves an event unserved.
abbrev unserved_there : Option TerminalEvent → Line → Bool
unserved_there None l = false
unserved_there (Some e) l = (terminal_told e (terminal_in l)).unserved

abbrev unserved_by : Config → TeiEvent → Line → Bool
unserved_by c e l = cond (is_terminal c) (unserved_there (at_a_terminal e) l) (tei_told e l.management).unserved

own-named : (c : Config) (e : TerminalEvent) (l : Line) → named c l (at_terminal e) ≡ unserved_cause (terminal_told e (terminal_in l)).unserved
own-named c e l = let t = terminal_told e (terminal_in l) in change-keeps c t.change (told_of_management t) (with_terminal (terminal_after e (terminal_in l)) l)

own-named-if : (c : Config) (o : Option TerminalEvent) (l : Line) → (of_terminal_if c o l).told.cause ≡ unserved_cause (unserved_there o l)
own-named-if c o l = grind (arith, own-named)

pub managed-named : (c : Config) (e : TeiEvent) (l : Line) → named c l (at_management e) ≡ unserved_cause (unserved_by c e l)
managed-named c e l = grind (arith, of_network, own-named-if, change-keeps)

pub unserved-named : (served unserved : Bool) → unserved ≡ not served → unserved_cause unserved ≡ unless served
unserved-named served unserved is = grind arith

-- It serves of messages what the observer has it serve.
abbrev pub Serves : Config → Line → Managed → Type 0
Serves c l w = (info : List ℕ) → named c l (at_management (tei_message info)) ≡ unless (serves_information c w info)

pub serves-known : (c : Config) (l : Line) (w : Managed) → IsSoundLine c l → Knows c w l → Serves c l w
unfolding tei_course tei_refusal
serves-known c l w s knows info =
    managed-named c (tei_message info) l ∙ unserved-named (serves_information c w info) (unserved_by c (tei_message info) l) (go (is_terminal c) refl)
  where
    once : (tei : ℕ) → IsOnce tei l.management.places
    once tei i j at there = s.management.table.once i j tei at there

    go : (b : Bool) → is_terminal c ≡ b
        → cond b (terminal_told (terminals.message info) (terminal_in l)).unserved (tei_told (tei_message info) l.management).unserved
        ≡ not (cond b (is_some (seen.by_message c info (own_of c w))) (is_some (message_served c w info)))
    go true is = own-serves c (terminal_in l) s.reading once info ∙ ap (λ t. not (is_some (seen.by_message c info t))) (sym (knows.terminal is))
    go false net =
        message-serves w.on w.places w.later l.management knows.on w.notes w.orders w.lost w.begins w.granted c s.reading info
        ∙ sym (ap (λ (v : Managed). not (is_some (message_served c (record v { notes = w.notes; orders = w.orders; lost = w.lost; begins = w.begins; granted = w.granted }) info))) (knows.network net))

-- What management asks for, and an expiry, name none.
module _ (c : Config) (l : Line) where
  pub own-quiet : (e : TerminalEvent) → is_own_message e ≡ false → named c l (at_terminal e) ≡ None
  own-quiet e none = own-named c e l ∙ ap unserved_cause (others-served e (terminal_in l) none)

  serves-quietly : (e : TeiEvent) (l : Line) → is_message e ≡ false → option_map_or is_own_message (at_a_terminal e) false ≡ false → unserved_by c e l ≡ false
  serves-quietly e l none none-there = grind (arith, cond_both, managed-serve, others-served)

  pub managed-quiet : (e : TeiEvent) → is_message e ≡ false → option_map_or is_own_message (at_a_terminal e) false ≡ false → named c l (at_management e) ≡ None
  managed-quiet e none none-there = managed-named c e l ∙ ap unserved_cause (serves-quietly e l none none-there)

  pub down-quiet : named c l at_no_link ≡ None
  down-quiet = managed-named c tei_down (without_units l) ∙ ap unserved_cause (serves-quietly tei_down (without_units l) refl refl)
