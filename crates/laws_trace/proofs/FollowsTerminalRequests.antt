-- What is due of TEI management by a request, and by any event of a terminal's line, is what its answer shows.
use Rattle.laws_trace.proofs.Vocabulary.{◌≡◌, ℕ, ◌≤◌, ◌&&◌, ◌||◌, Bool, true, false, cond, not, [], ◌∷◌, ◌++◌, ◌∙◌, length, replicate, filter, Option, Some, None, is_some, refl, sym, ap, subst, inl, arith, leb-true, leb-false, ltb-true, ltb-false, nat_le, nat_lt, list_any, true≢false, false_from_ne_true, Refusal, free_place, on-range, Config, at_management, of_aim, hears, expiry, request, next}
use Rattle.laws_trace.proofs.Vocabulary.{Line, has_tei, unless_refused}
use Rattle.laws_trace.proofs.Vocabulary.{unless_refused_told, bad_tei, no_link, tei_taken, bad_tei_or_all, tei_in_use, table_full, check_running, control_full, Assign, Remove, Disown, Deactivate, aim_of_request, passed, Down, at_no_link, Stop, Event, told, line_after as after, answer, Establish, Release, refusal, Request, Checking, SetBusy, ClearBusy, IsSound, Managed, by-down, stop_of}
use Rattle.laws_trace.proofs.Vocabulary.{is_of_line, LinkSetBusy, LinkClearBusy, tei_assign, tei_remove, TeiEvent}
use Rattle.lapd_frame.specs.declared.addresses.Side.{Side}
use Rattle.lapd_frame.specs.declared.refusals.Refusal.TheVariants.{BadTei, NoLink, TeiTaken, TableFull, CheckRunning, WrongSide}
use Rattle.lapd_frame.specs.declared.timers.Timer.TheVariants.{T202}
use Rattle.model_teis.specs.Refused.{refusal_if}
use Rattle.model_teis.specs.declared.terminal.procedure.Procedure.{Procedure}
use Rattle.model_teis.specs.terminal.Events as terminals
use Rattle.model_teis.specs.terminal.Events.{Event as TerminalEvent}
use Rattle.model_teis.specs.terminal.Laws as terminal_laws
use Rattle.model_teis.specs.terminal.Machine.{Terminal}
use Rattle.model_teis.specs.terminal.Words.{begun, ask as ask_first, verify as verify_first}
use Rattle.model_teis.specs.terminal.Rows as rows
use Rattle.model_line.specs.Effect.{at_a_terminal, of_network, of_terminal, of_terminal_if}
use Rattle.model_line.specs.Line.{is_at, is_terminal, terminal_in}
use Rattle.model_line.specs.Refusal.{first_that_holds, wrong_side, not_network, not_terminal, procedure_running}
use Rattle.model_line.specs.Request.{AskTei, VerifyTei, Data, Unit}
use Rattle.model_line.specs.Sides.{is_network}
use Rattle.model_teis.specs.terminal.Words.{stop_of as stop_202}
use Rattle.model_link.specs.Events.{Establish as LinkEstablish, Release as LinkRelease, Data as LinkData}
use Rattle.laws_trace.specs.Managing.{of_terminal as seen_there}
use Rattle.laws_trace.specs.ManagingTerminal as seen
use Rattle.laws_trace.specs.ManagingTerminal.{OfTerminal}
use Rattle.laws_trace.proofs.FollowsTerminal.{known, shown, asks-is, verifies-is, leaves-is}
use Rattle.laws_trace.proofs.FollowsTerminalLine.{both, once, tracked, here, terminal-shows, hears-shows, expiry-shows, next-shown, due_by}
use Rattle.laws_trace.proofs.TerminalTables.{on-same, free-same, comes-same}
use Rattle.laws_trace.proofs.Tracked.{IsKnown, Tracks, Shows, IsQuiet}
use Rattle.laws_trace.proofs.TrackedRequests.{asked-shows, deactivated-shows, units-shows}

-- Rows that refuse a request, and whether it is granted.
if_not : (x y : Bool) (p q : Refusal) → is_some (cond (not x) (Some p) (cond y (Some q) None)) ≡ not (x && not y)
if_not x y p q = grind arith

if_on : (high on y : Bool) (o p q : Refusal) → (on ≡ true → high ≡ false) → is_some (cond high (Some o) (cond (not on) (Some p) (cond y (Some q) None))) ≡ not (on && not y)
if_on high on y o p q low = grind (arith, true≢false)

if_off : (high on free : Bool) (o p q : Refusal) → is_some (cond high (Some o) (cond on (Some p) (cond (not free) (Some q) None))) ≡ not (not high && not on && free)
if_off high on free o p q = grind arith

is-low : (tei : ℕ) → nat_le tei 126 ≡ not (nat_lt 126 tei)
is-low tei = grind (arith, nat_le, leb-true, leb-false, ltb-true, ltb-false)

user-alone : (side : Side) (seed : Option ℕ) → is_at side seed ≡ true → is_network side ≡ false
user-alone side seed is = grind (arith, true≢false)

two : (a b : Bool) (x y : Refusal) → a ≡ false → b ≡ false → refusal_if a x (refusal_if b y None) ≡ None
two a b x y e f = rw (e, f) refl

is-there : (o : Option ℕ) → not (is_some o) ≡ false → (place : ℕ) × (o ≡ Some place)
is-there o e = grind (arith, true≢false)

stopped : (o : Option Procedure) → filter is_of_line (stop_202 o) ≡ cond (is_some o) (Stop T202 ∷ []) []
stopped o = grind arith

module _ (c : Config) (l : Line) (s : IsSound c l) (is : is_terminal c ≡ true) (v : Managed) (quiet : IsQuiet v) (known-so : IsKnown c v l.management l.own) where
  abbrev t : Terminal
  t = terminal_in l

  abbrev k : OfTerminal
  k = known t

  abbrev Answers : Request → Managed → Option Refusal → Type 0
  Answers r d o = let x = of_aim c (unless_refused o (aim_of_request r l)) l in Shows c l (request r) d (unless_refused_told o x) x.line

  abbrev so_granted : OfTerminal → Bool → Managed
  so_granted after so = seen_there v (record after { granted = Some so })

  is-refused : (r : Request) (why : Refusal) → Answers r (so_granted k false) (Some why)
  is-refused r why = record {
    as_due = record { notes = refl; orders = refl; begins = refl; granted = λ so is. cc is };
    lost = inl (sym quiet.lost);
    follows = tracked c l s is v quiet known-so (so_granted k false) l.management l.own s.management.table (record { own_is = refl; on_is = refl; owed = known-so.owed });
  }

  by-grant : (r : Request) (after : OfTerminal) (may : Bool) → is_some (refusal c false r l) ≡ not may → (refusal c false r l ≡ None → Answers r (so_granted after true) None)
      → Answers r (so_granted (cond may after k) may) (refusal c false r l)
  by-grant r after may same granted = go (refusal c false r l) may same granted
    where
      go : (o : Option Refusal) (may : Bool) → is_some o ≡ not may → (o ≡ None → Answers r (so_granted after true) None) → Answers r (so_granted (cond may after k) may) o
      go None true same granted = granted refl
      go None false same granted = absurd (true≢false (sym same))
      go (Some why) true same granted = absurd (true≢false same)
      go (Some why) false same granted = is-refused r why

  -- One that is granted is an event of the terminal.
  granted-shows : (r : Request) (after : OfTerminal) (te : TerminalEvent) → terminal_laws.IsInRange te → of_aim c (aim_of_request r l) l ≡ of_terminal c te l → after ≡ shown (terminals.course te t)
      → Answers r (so_granted after true) None
  granted-shows r after te range aim same =
      subst (λ x. Shows c l (request r) (so_granted after true) (told x.told) x.line) (sym aim)
      (subst (λ after. let x = of_terminal c te l in Shows c l (request r) (so_granted after true) (told x.told) x.line) (sym same)
      (terminal-shows c l s is v quiet known-so te range (request r) (Some true) (λ so is. cc is)))

  management-is : (me : TeiEvent) (te : TerminalEvent) → at_a_terminal me ≡ Some te → of_aim c (at_management me) l ≡ of_terminal c te l
  management-is me te own = ap (λ b. cond b (of_terminal_if c (at_a_terminal me) l) (of_network c me l)) is ∙ ap (λ o. of_terminal_if c o l) own

  on-low : (tei : ℕ) → has_tei tei l ≡ true → nat_lt 126 tei ≡ false
  on-low tei there =
      false_from_ne_true (nat_lt 126 tei) (λ high. let x = ltb-true 126 tei high in let y = on-range t.places tei s.management.table there in omega (arith, x, y))

  ask-shows : Answers AskTei (due_by c l s is v quiet known-so (request AskTei)) (refusal c false AskTei l)
  unfolding terminals.course
  ask-shows =
      by-grant AskTei (seen.asks 1 k) (list_any seen.is_free t.places && not (is_some t.procedure))
      (ap (λ b. is_some (cond (not b) (Some WrongSide) (cond (not (is_some (free_place t.places))) (Some TableFull) (cond (is_some t.procedure) (Some CheckRunning) None)))) is
      ∙ if_not (is_some (free_place t.places)) (is_some t.procedure) TableFull CheckRunning ∙ sym (ap (λ b. not (b && not (is_some t.procedure))) (free-same t.places)))
      (λ none.
      let full = passed (table_full l) (procedure_running l ∷ []) (passed (not_terminal c) (table_full l ∷ procedure_running l ∷ []) none).1 in
      let runs = passed (procedure_running l) [] full.1 in
      granted-shows AskTei (seen.asks 1 k) terminals.ask tt refl
      (asks-is 1 (begun t) ∙ sym (ap (λ o. shown (terminals.unless_refused o (ask_first 1) t)) (two _ _ TableFull CheckRunning full.0 runs.0))))

  verify-shows : (tei : ℕ) → Answers (VerifyTei tei) (due_by c l s is v quiet known-so (request (VerifyTei tei))) (refusal c false (VerifyTei tei) l)
  unfolding terminals.course
  verify-shows tei =
      by-grant (VerifyTei tei) (seen.verifies tei 1 k) (seen.is_on tei k && not (is_some t.procedure))
      (ap (λ b. is_some (cond (not b) (Some WrongSide) (cond (nat_lt 126 tei) (Some BadTei) (cond (not (has_tei tei l)) (Some NoLink) (cond (is_some t.procedure) (Some CheckRunning) None))))) is
      ∙ if_on (nat_lt 126 tei) (has_tei tei l) (is_some t.procedure) BadTei NoLink CheckRunning (on-low tei) ∙ sym (ap (λ b. not (b && not (is_some t.procedure))) (on-same tei t.places)))
      (λ none.
      let bad = passed (bad_tei tei) (no_link tei l ∷ procedure_running l ∷ []) (passed (not_terminal c) (bad_tei tei ∷ no_link tei l ∷ procedure_running l ∷ []) none).1 in
      let unknown = passed (no_link tei l) (procedure_running l ∷ []) bad.1 in
      let runs = passed (procedure_running l) [] unknown.1 in
      granted-shows (VerifyTei tei) (seen.verifies tei 1 k) (terminals.verify tei) tt refl
      (verifies-is tei 1 (begun t) ∙ sym (ap (λ o. shown (terminals.unless_refused o (verify_first tei 1) t)) (two _ _ NoLink CheckRunning unknown.0 runs.0))))

  assign-shows : (tei : ℕ) → Answers (Assign tei) (due_by c l s is v quiet known-so (request (Assign tei))) (refusal c false (Assign tei) l)
  unfolding terminals.course
  assign-shows tei =
      by-grant (Assign tei) (record k { places = seen.with_tei tei t.places }) (nat_le tei 126 && not (seen.is_on tei k) && list_any seen.is_free t.places)
      (if_off (nat_lt 126 tei) (has_tei tei l) (is_some (free_place t.places)) BadTei TeiTaken TableFull
      ∙ sym (ap (λ b. not (b && not (seen.is_on tei k) && list_any seen.is_free t.places)) (is-low tei)
      ∙ ap (λ b. not (not (nat_lt 126 tei) && not b && list_any seen.is_free t.places)) (on-same tei t.places)
      ∙ ap (λ b. not (not (nat_lt 126 tei) && not (has_tei tei l) && b)) (free-same t.places)))
      (λ none.
      let bad = passed (bad_tei tei) (tei_taken tei l ∷ table_full l ∷ []) none in
      let taken = passed (tei_taken tei l) (table_full l ∷ []) bad.1 in
      let full = passed (table_full l) [] taken.1 in
      let free = is-there (free_place t.places) full.0 in
      let low : tei ≤ 126 = let x = ltb-false 126 tei bad.0 in omega (arith, x) in
      granted-shows (Assign tei) (record k { places = seen.with_tei tei t.places }) (terminals.assign tei) low (management-is (tei_assign tei) (terminals.assign tei) refl)
      (ap (λ places. record k { places = places }) (comes-same tei free.0 t.places free.1)
      ∙ sym (ap (λ o. shown (rows.join_at tei o (begun t))) free.1)
      ∙ sym (ap (λ o. shown (terminals.unless_refused o (rows.put_on tei) t)) (two _ _ TeiTaken TableFull taken.0 full.0))))

  none-waits : nat_le 4 (length l.management.waiting) ≡ false
  none-waits = ap (λ ms. nat_le 4 (length ms)) (both c l s is v quiet known-so).1.waiting

  or-true : (b : Bool) → (b || true) ≡ true
  or-true b = grind arith

  remove-shows : (tei : ℕ) → Answers (Remove tei) (due_by c l s is v quiet known-so (request (Remove tei))) (refusal c false (Remove tei) l)
  unfolding terminals.course
  remove-shows tei =
      by-grant (Remove tei) (seen.leaves tei k) (seen.is_on tei k)
      (ap (λ b. is_some (cond (not (is_network c.side || b)) (Some WrongSide) others)) is ∙ ap (λ b. is_some (cond (not b) (Some WrongSide) others)) (or-true (is_network c.side))
      ∙ ap (λ b. is_some (cond (nat_lt 126 tei) (Some BadTei) (cond (not (has_tei tei l)) (Some NoLink) (cond b (Some (control_full l).why) None)))) none-waits
      ∙ if_on (nat_lt 126 tei) (has_tei tei l) false BadTei NoLink CheckRunning (on-low tei) ∙ ap not (and-true (has_tei tei l)) ∙ sym (ap not (on-same tei t.places)))
      (λ none.
      let bad = passed (bad_tei tei) (no_link tei l ∷ control_full l ∷ []) (passed (wrong_side c) (bad_tei tei ∷ no_link tei l ∷ control_full l ∷ []) none).1 in
      let unknown = passed (no_link tei l) (control_full l ∷ []) bad.1 in
      granted-shows (Remove tei) (seen.leaves tei k) (terminals.remove tei) tt (management-is (tei_remove tei) (terminals.remove tei) refl)
      (leaves-is tei (begun t) (once c l s is v quiet known-so tei) ∙ sym (ap (λ o. shown (terminals.unless_refused o (rows.take_off tei) t)) (ap (λ b. refusal_if b NoLink None) unknown.0))))
    where
      others : Option Refusal
      others = cond (nat_lt 126 tei) (Some BadTei) (cond (not (has_tei tei l)) (Some NoLink) (cond (nat_le 4 (length l.management.waiting)) (Some (control_full l).why) None))

      and-true : (b : Bool) → (b && true) ≡ b
      and-true true = refl
      and-true false = refl

  -- It neither checks nor disowns a TEI.
  no-network : (not_network c).holds ≡ true
  no-network = ap not (user-alone c.side c.seed is)

  check-shows : (tei : ℕ) → Answers (Checking tei) (due_by c l s is v quiet known-so (request (Checking tei))) (refusal c false (Checking tei) l)
  check-shows tei =
      by-grant (Checking tei) k false (ap (λ b. is_some (cond b (Some WrongSide) others)) no-network)
      (λ none. absurd (true≢false (sym no-network ∙ (passed (not_network c) (bad_tei tei ∷ no_link tei l ∷ check_running l ∷ control_full l ∷ []) none).0)))
    where
      others : Option Refusal
      others = first_that_holds (bad_tei tei ∷ no_link tei l ∷ check_running l ∷ control_full l ∷ [])

  disown-shows : (tei : ℕ) → Answers (Disown tei) (due_by c l s is v quiet known-so (request (Disown tei))) (refusal c false (Disown tei) l)
  disown-shows tei =
      by-grant (Disown tei) k false (ap (λ b. is_some (cond b (Some WrongSide) others)) no-network)
      (λ none. absurd (true≢false (sym no-network ∙ (passed (not_network c) (bad_tei_or_all tei ∷ tei_in_use tei l ∷ control_full l ∷ []) none).0)))
    where
      others : Option Refusal
      others = first_that_holds (bad_tei_or_all tei ∷ tei_in_use tei l ∷ control_full l ∷ [])

  -- That the line is down.
  abbrev down : Managed
  down = due_by c l s is v quiet known-so (request Down)

  down-shows : let y = of_aim c at_no_link l in Shows c l (request Down) down (told y.told) y.line
  down-shows =
      by-down c l s (λ y. Shows c l (request Down) down (told y.told) y.line)
      (record {
        as_due = record {
          notes = refl;
          orders = ap (λ o. filter is_of_line (stop_of o ++ stop_202 l.own.procedure)) (both c l s is v quiet known-so).1.check ∙ stopped l.own.procedure;
          begins = refl;
          granted = λ so is. cc is;
        };
        lost = inl (sym quiet.lost);
        follows =
            tracked c l s is v quiet known-so down (record l.management { check = None; to_check = replicate (length l.management.to_check) false; waiting = [] }) (record l.own { procedure = None; waiting = [] }) s.management.table
            (record { own_is = refl; on_is = refl; owed = known-so.owed });
      })

  abbrev now : Tracks c v l.management l.own
  now = here c l s is v quiet known-so

  request-shows : (r : Request) → Shows c l (request r) (due_by c l s is v quiet known-so (request r)) (answer c (request r) l) (after c (request r) l)
  unfolding after answer
  request-shows (Establish service tei) = asked-shows c l v quiet now (Establish service tei) service tei LinkEstablish refl
  request-shows (Release service tei) = asked-shows c l v quiet now (Release service tei) service tei LinkRelease refl
  request-shows (Data service tei contents) = asked-shows c l v quiet now (Data service tei contents) service tei (LinkData contents) refl
  request-shows (Unit service tei contents) = units-shows c l v quiet now service tei contents
  request-shows (SetBusy service tei) = asked-shows c l v quiet now (SetBusy service tei) service tei LinkSetBusy refl
  request-shows (ClearBusy service tei) = asked-shows c l v quiet now (ClearBusy service tei) service tei LinkClearBusy refl
  request-shows (Deactivate service tei) = deactivated-shows c l v quiet now service tei
  request-shows (Assign tei) = assign-shows tei
  request-shows (Remove tei) = remove-shows tei
  request-shows (Checking tei) = check-shows tei
  request-shows (Disown tei) = disown-shows tei
  request-shows AskTei = ask-shows
  request-shows (VerifyTei tei) = verify-shows tei
  request-shows Down = down-shows

  pub terminal-event-shows : (e : Event) → Shows c l e (due_by c l s is v quiet known-so e) (answer c e l) (after c e l)
  terminal-event-shows (hears e) = hears-shows c l s is v quiet known-so e
  terminal-event-shows (expiry timer) = expiry-shows c l s is v quiet known-so timer
  terminal-event-shows (request r) = request-shows r
  terminal-event-shows next = next-shown c l s is v quiet known-so
