-- What is due of TEI management by a request, and by any event of a line of the network's side or of a trunk's end, is what its
-- answer shows.
use Rattle.laws_trace.proofs.Vocabulary.{IdentityRemove, Places, replicate, ◌≡◌, ℕ, ◌==◌, ◌&&◌, ◌||◌, Bool, true, false, cond, not, List, [], ◌∷◌, ◌∙◌, length, Option, Some, None, IfSome, is_some, refl, sym, ap, subst, inl, arith, leb-true, leb-false, nat_le, nat_lt, list_any, Refusal, Management, free_place, on-range, Config, at_management, of_aim, hears, expiry, request, next, Line, has_tei}
use Rattle.laws_trace.proofs.Vocabulary.{unless_refused}
use Rattle.laws_trace.proofs.Vocabulary.{unless_refused_told, bad_tei, no_link, tei_taken, bad_tei_or_all, tei_in_use, table_full, check_running, control_full, Assign, Remove, Disown, tei_disown, Deactivate, aim_of_request, passed, Down, at_no_link, filter, option_map, Stop, T201, ltb-true, ltb-false, tei_begun as begun, Event, told, line_after as after, answer, Establish, Release, true≢false}
use Rattle.laws_trace.proofs.Vocabulary.{refusal, Request, Checking, SetBusy, ClearBusy, IsSound, Managed, owes, checks, may_check, grants, manages, managing_by_event as by_event, is_of_line, by-down, stop_of, Check, false_from_ne_true, LinkSetBusy, LinkClearBusy, tei_check, tei_unless_refused, tei_course, tei_remove, tei_refusal_if, TeiEvent, tei_refusal, tei_assign, tei_step}
use Rattle.lapd_frame.specs.declared.addresses.Side.{Side}
use Rattle.model_line.specs.Line.{is_terminal}
use Rattle.model_line.specs.Line.{Own}
use Rattle.model_line.specs.Refusal.{wrong_side, not_network, not_terminal, procedure_running}
use Rattle.model_line.specs.Sound.{IsOfSide}
use Rattle.model_teis.specs.terminal.Words.{stop_of as stop_202}
use Rattle.model_link.specs.Events.{Establish as LinkEstablish, Release as LinkRelease, Data as LinkData}
use Rattle.laws_trace.proofs.Vocabulary.{◌++◌, append-nil, nothing_due}
use Rattle.model_line.specs.Request.{AskTei, VerifyTei, Data, Unit}
use Rattle.model_line.specs.Sides.{has_management, is_network}
use Rattle.laws_trace.proofs.CheckEnds.{Follows, Leads, InOrder, seen_check, as_seen}
use Rattle.laws_trace.proofs.Follows.{plain, assign-leads, remove-leads, begins-check, fewer-on, all-on}
use Rattle.laws_trace.proofs.ManagingPlaces.{ArePlaced, given-up}
use Rattle.laws_trace.proofs.ManagingTables.{AreOn, used-same}
use Rattle.laws_trace.specs.Managing.{comes, removes}
use Rattle.laws_trace.proofs.FollowsLine.{tracked, managed-shows, here, none-due, hears-shows, expiry-shows, next-shown}
use Rattle.laws_trace.proofs.Tracked.{OfSide, Tracks, Shows}
use Rattle.laws_trace.proofs.TrackedRequests.{asked-shows, deactivated-shows, units-shows}

network-is : (side : Side) → is_network side ≡ manages side
network-is side = grind arith

-- The rows that refuse a request of management.
module _ (c : Config) (l : Line) (s : IsSound c l) (net : is_terminal c ≡ false) (on : List ℕ) (seen : Places) (dues : List ℕ) (h : AreOn on l.management.places) (p : ArePlaced seen dues l.management.places l.management.to_check) (order : IfSome l.management.check InOrder) where
  abbrev m : Management
  m = l.management

  abbrev w : Managed
  w = as_seen on seen dues m

  alone : has_management c ≡ manages c.side
  alone = grind (arith, network-is)

  -- A request.
  abbrev Answers : Request → Managed → Option Refusal → Type 0
  Answers r d o = let x = of_aim c (unless_refused o (aim_of_request r l)) l in Shows c l (request r) d (unless_refused_told o x) x.line

  granted-so : (so : Bool) → Some true ≡ Some so → true ≡ so
  granted-so so is = cc is

  refused-so : (so : Bool) → Some false ≡ Some so → false ≡ so
  refused-so so is = cc is

  is-refused : (r : Request) (why : Refusal) → Answers r (record w { granted = Some false }) (Some why)
  is-refused r why = record {
    as_due = record { notes = refl; orders = refl; begins = refl; granted = refused-so };
    lost = inl refl;
    follows = tracked c l s net on seen dues h p order (record w { granted = Some false }) m l.own (record { is = refl; on = h; placed = p; order = order });
  }

  by-grant : (r : Request) (after : Managed) (may : Bool) → is_some (refusal c false r l) ≡ not may → (refusal c false r l ≡ None → Answers r (grants true after w) None) → Answers r (grants may after w) (refusal c false r l)
  by-grant r after may same granted = go (refusal c false r l) may same granted
    where
      go : (o : Option Refusal) (may : Bool) → is_some o ≡ not may → (o ≡ None → Answers r (grants true after w) None) → Answers r (grants may after w) o
      go None true same granted = granted refl
      go None false same granted = absurd (true≢false (sym same))
      go (Some why) true same granted = absurd (true≢false same)
      go (Some why) false same granted = is-refused r why

  course-is : (e : TeiEvent) → tei_refusal e m ≡ None → tei_course e m ≡ tei_step e (begun m)
  unfolding tei_course
  course-is e none = ap (λ o. tei_unless_refused o (tei_step e) m) none

  granted-shows : (r : Request) (d : Managed) (e : TeiEvent) → aim_of_request r l ≡ at_management e → tei_refusal e m ≡ None → Leads d (tei_step e (begun m)) → Answers r (grants true d w) None
  granted-shows r d e aim none leads =
      subst (λ aim. let y = of_aim c aim l in Shows c l (request r) (grants true d w) (told y.told) y.line) (sym aim)
      (let x = managed-shows c l s net on seen dues h p order (request r) d e (subst (Leads d) (sym (course-is e none)) leads) in
      let y = of_aim c (at_management e) l in
      record {
        as_due = record { notes = x.as_due.notes; orders = x.as_due.orders; begins = x.as_due.begins; granted = granted-so };
        lost = x.lost;
        follows = tracked c l s net on seen dues h p order (grants true d w) y.line.management y.line.own (its-follows d y.line.management y.line.own x.follows);
      })
    where
      its-follows : (d : Managed) (m : Management) (own : Own) → Tracks c d m own → Follows (grants true d w) m
      its-follows d m own x = let f = subst (λ b. OfSide c b d m own) net x.side in record { is = f.is; on = f.on; placed = f.placed; order = f.order }

  two : (a b : Bool) (x y : Refusal) → a ≡ false → b ≡ false → tei_refusal_if a x (tei_refusal_if b y None) ≡ None
  two a b x y e f = rw (e, f) refl

  three : (a b d : Bool) (x y z : Refusal) → a ≡ false → b ≡ false → d ≡ false → tei_refusal_if a x (tei_refusal_if b y (tei_refusal_if d z None)) ≡ None
  three a b d x y z e f g = rw (e, f, g) refl

  is-there : (o : Option ℕ) → not (is_some o) ≡ false → (place : ℕ) × (o ≡ Some place)
  is-there o e = grind arith

  on-low : (tei : ℕ) → has_tei tei l ≡ true → nat_lt 126 tei ≡ false
  on-low tei there =
      false_from_ne_true (nat_lt 126 tei) (λ high. let x = ltb-true 126 tei high in let y = on-range m.places tei s.management.table there in omega (arith, x, y))

  assign-shows : (tei : ℕ) → Answers (Assign tei) (by_event c (request (Assign tei)) w) (refusal c false (Assign tei) l)
  unfolding tei_refusal
  assign-shows tei = by-grant (Assign tei) (comes tei w) (nat_le tei 126 && not (list_any (λ y. y == tei) on) && nat_lt (length on) c.terminals) same granted
    where
      same : is_some (refusal c false (Assign tei) l) ≡ not (nat_le tei 126 && not (list_any (λ y. y == tei) on) && nat_lt (length on) c.terminals)
      same = grind (arith, is_some, nat_le, leb-true, ltb-true, leb-false, ltb-false, all-on, fewer-on)

      granted : refusal c false (Assign tei) l ≡ None → Answers (Assign tei) (grants true (comes tei w) w) None
      granted none =
          let taken = passed (tei_taken tei l) (table_full l ∷ []) (passed (bad_tei tei) (tei_taken tei l ∷ table_full l ∷ []) none).1 in
          let full = passed (table_full l) [] taken.1 in
          let free = is-there (free_place m.places) full.0 in
          granted-shows (Assign tei) (comes tei w) (tei_assign tei) refl (two _ _ _ _ taken.0 full.0) (assign-leads on seen dues m h p order s.management tei free.0 free.1 taken.0)

  remove-shows : (tei : ℕ) → Answers (Remove tei) (by_event c (request (Remove tei)) w) (refusal c false (Remove tei) l)
  unfolding tei_refusal
  remove-shows tei = by-grant (Remove tei) (removes tei w) (manages c.side && list_any (λ y. y == tei) on && not (nat_le 4 (length m.waiting))) same granted
    where
      same : is_some (refusal c false (Remove tei) l) ≡ not (manages c.side && list_any (λ y. y == tei) on && not (nat_le 4 (length m.waiting)))
      same = rw alone (grind (arith, nat_le, on-low))

      granted : refusal c false (Remove tei) l ≡ None → Answers (Remove tei) (grants true (removes tei w) w) None
      granted none =
          let bad = passed (bad_tei tei) (no_link tei l ∷ control_full l ∷ []) (passed (wrong_side c) (bad_tei tei ∷ no_link tei l ∷ control_full l ∷ []) none).1 in
          let unknown = passed (no_link tei l) (control_full l ∷ []) bad.1 in
          let full = passed (control_full l) [] unknown.1 in
          granted-shows (Remove tei) (removes tei w) (tei_remove tei) refl (two _ _ _ _ unknown.0 full.0) (remove-leads on seen dues m h p order s.management tei)

  check-shows : (tei : ℕ) → Answers (Checking tei) (by_event c (request (Checking tei)) w) (refusal c false (Checking tei) l)
  unfolding tei_refusal
  check-shows tei = by-grant (Checking tei) (checks tei None w) (manages c.side && may_check tei w && not (nat_le 4 (length m.waiting))) same granted
    where
      same : is_some (refusal c false (Checking tei) l) ≡ not (manages c.side && may_check tei w && not (nat_le 4 (length m.waiting)))
      same = rw (network-is c.side) (grind (arith, is_some, nat_le, on-low))

      granted : refusal c false (Checking tei) l ≡ None → Answers (Checking tei) (grants true (checks tei None w) w) None
      granted none =
          let bad = passed (bad_tei tei) (no_link tei l ∷ check_running l ∷ control_full l ∷ []) (passed (not_network c) (bad_tei tei ∷ no_link tei l ∷ check_running l ∷ control_full l ∷ []) none).1 in
          let unknown = passed (no_link tei l) (check_running l ∷ control_full l ∷ []) bad.1 in
          let running = passed (check_running l) (control_full l ∷ []) unknown.1 in
          let full = passed (control_full l) [] running.1 in
          granted-shows (Checking tei) (checks tei None w) (tei_check tei) refl (three _ _ _ _ _ _ unknown.0 running.0 full.0) (begins-check on seen dues m h p order s.management tei)

  disown-shows : (tei : ℕ) → Answers (Disown tei) (by_event c (request (Disown tei)) w) (refusal c false (Disown tei) l)
  unfolding tei_refusal
  disown-shows tei = by-grant (Disown tei) (owes (IdentityRemove tei) w) (manages c.side && nat_le tei 127 && not (list_any (λ y. tei == 127 || y == tei) on) && not (nat_le 4 (length m.waiting))) same granted
    where
      same : is_some (refusal c false (Disown tei) l) ≡ not (manages c.side && nat_le tei 127 && not (list_any (λ y. tei == 127 || y == tei) on) && not (nat_le 4 (length m.waiting)))
      same = rw (used-same on m.places h tei, network-is c.side) (grind (arith, is_some, nat_le, leb-true, ltb-true, leb-false, ltb-false))

      granted : refusal c false (Disown tei) l ≡ None → Answers (Disown tei) (grants true (owes (IdentityRemove tei) w) w) None
      granted none =
          let bad = passed (bad_tei_or_all tei) (tei_in_use tei l ∷ control_full l ∷ []) (passed (not_network c) (bad_tei_or_all tei ∷ tei_in_use tei l ∷ control_full l ∷ []) none).1 in
          let used = passed (tei_in_use tei l) (control_full l ∷ []) bad.1 in
          let full = passed (control_full l) [] used.1 in
          granted-shows (Disown tei) (owes (IdentityRemove tei) w) (tei_disown tei) refl (two _ _ _ _ used.0 full.0) (plain on seen dues m h p order s.management (IdentityRemove tei))

  -- A terminal alone asks for a TEI, or has it verified.
  not-here : (b : Bool) → b ≡ false → not b ≡ true
  not-here b is = ap not is

  ask-shows : Answers AskTei (by_event c (request AskTei) w) (refusal c false AskTei l)
  ask-shows = by-grant AskTei w false (grind (arith, not-here)) (λ none. absurd (true≢false (sym (not-here (is_terminal c) net) ∙ (passed (not_terminal c) (table_full l ∷ procedure_running l ∷ []) none).0)))

  verify-shows : (tei : ℕ) → Answers (VerifyTei tei) (by_event c (request (VerifyTei tei)) w) (refusal c false (VerifyTei tei) l)
  verify-shows tei = grind (arith, by-grant, not-here, true≢false, passed, no_link)

  -- That the line is down.
  stopped : (o : Option Check) → filter is_of_line (stop_of o) ≡ cond (is_some (option_map seen_check o)) (Stop T201 ∷ []) []
  stopped o = grind arith

  abbrev down : Managed
  down = by_event c (request Down) w

  none-stops : l.own.procedure ≡ None → stop_202 l.own.procedure ≡ []
  none-stops none = ap stop_202 none

  down-shows : let y = of_aim c at_no_link l in Shows c l (request Down) down (told y.told) y.line
  down-shows =
      let idle = subst (λ b. IsOfSide b l.management l.own) net s.own in
      by-down c l s (λ y. Shows c l (request Down) down (told y.told) y.line)
      (record {
        as_due = record {
          notes = refl;
          orders = ap (λ orders. filter is_of_line (stop_of m.check ++ orders)) (none-stops idle.0) ∙ ap (filter is_of_line) (append-nil (stop_of m.check)) ∙ stopped m.check;
          begins = refl;
          granted = granted-so;
        };
        lost = inl refl;
        follows = tracked c l s net on seen dues h p order down (record m { check = None; to_check = replicate (length m.to_check) false; waiting = [] }) (record l.own { procedure = None; waiting = [] }) (record { is = refl; on = h; placed = given-up seen dues m.places m.to_check p; order = tt });
      })

  abbrev Requested : Request → Type 0
  Requested r = Shows c l (request r) (by_event c (request r) w) (answer c (request r) l) (after c (request r) l)

  request-shows : (r : Request) → Requested r
  unfolding after answer
  request-shows (Establish service tei) = asked-shows c l w (none-due c l s net on seen dues h p order) (here c l s net on seen dues h p order) (Establish service tei) service tei LinkEstablish refl
  request-shows (Release service tei) = asked-shows c l w (none-due c l s net on seen dues h p order) (here c l s net on seen dues h p order) (Release service tei) service tei LinkRelease refl
  request-shows (Data service tei contents) = asked-shows c l w (none-due c l s net on seen dues h p order) (here c l s net on seen dues h p order) (Data service tei contents) service tei (LinkData contents) refl
  request-shows (Unit service tei contents) = units-shows c l w (none-due c l s net on seen dues h p order) (here c l s net on seen dues h p order) service tei contents
  request-shows (SetBusy service tei) = asked-shows c l w (none-due c l s net on seen dues h p order) (here c l s net on seen dues h p order) (SetBusy service tei) service tei LinkSetBusy refl
  request-shows (ClearBusy service tei) = asked-shows c l w (none-due c l s net on seen dues h p order) (here c l s net on seen dues h p order) (ClearBusy service tei) service tei LinkClearBusy refl
  request-shows (Deactivate service tei) = deactivated-shows c l w (none-due c l s net on seen dues h p order) (here c l s net on seen dues h p order) service tei
  request-shows (Assign tei) = assign-shows tei
  request-shows (Remove tei) = remove-shows tei
  request-shows (Checking tei) = check-shows tei
  request-shows (Disown tei) = disown-shows tei
  request-shows AskTei = ask-shows
  request-shows (VerifyTei tei) = verify-shows tei
  request-shows Down = down-shows

  seen-shows : (e : Event) → Shows c l e (by_event c e w) (answer c e l) (after c e l)
  seen-shows (hears e) = hears-shows c l s net on seen dues h p order e
  seen-shows (expiry timer) = expiry-shows c l s net on seen dues h p order timer
  seen-shows (request r) = request-shows r
  seen-shows next = next-shown c l s net on seen dues h p order

pub network-event-shows : (c : Config) (l : Line) → IsSound c l → is_terminal c ≡ false → (w : Managed) → Follows w l.management → (e : Event) → Shows c l e (by_event c e (nothing_due w)) (answer c e l) (after c e l)
network-event-shows c l s net w h e = subst (λ w. Shows c l e (by_event c e w) (answer c e l) (after c e l)) (sym h.is) (seen-shows c l s net w.on w.places w.later h.on h.placed h.order e)
