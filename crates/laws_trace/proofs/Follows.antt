-- What the observer of a line knows of its TEIs is what TEI management has, and what is due by an event is what that tells.
use Rattle.laws_trace.proofs.Vocabulary.{◌≡◌, ℕ, zero, suc, ◌≤◌, ◌+◌, ◌-◌, ◌*◌, ◌/◌, ◌==◌, ◌&&◌, ◌||◌, Bool, true, false, true≢false, cond, not, List, [], ◌∷◌, length, take, drop}
use Rattle.laws_trace.proofs.Vocabulary.{list_any, nat_le, ◌++◌, length-append, Option, Some, None, IfSome, option_map, option_map_or, refl, sym, ap, ◌∙◌, subst, arith, eq-eqb, nat_lt, find, range_with_len, Note, Places, place_of, Management, Remembered, Period}
use Rattle.laws_trace.proofs.Vocabulary.{First, Second, Settling, Message}
use Rattle.laws_trace.proofs.Vocabulary.{IdentityAssigned}
use Rattle.laws_trace.proofs.Vocabulary.{IdentityDenied, IdentityRemove, heard_of_type, IsSoundCheck, free_place, free_tei-is, Config, eqb-true, ltb-true, ltb-false, Removed, Doubled, Check, TeiCourse as Course, tei_begun as begun, Checked, Managed, owes, gives, leaves, over, checks, responded, ran_out, managing_is_on as is_on}
use Rattle.laws_trace.proofs.Vocabulary.{begin_check, end_check, leave, lose_one, no_room, send, unserved, false_from_ne_true}
use Rattle.model_teis.specs.network.Rows as rows
use Rattle.lapd_frame.specs.Readings.{by_reading}
use Rattle.model_teis.specs.declared.network.messages.Message.TheVariants.{IdentityCheckRequest}
use Rattle.model_teis.specs.declared.network.heard.Heard.TheVariants.{IdentityCheckResponse, IdentityVerify}
use Rattle.model_teis.specs.network.Messages.{heard_in, is_last, responses_in, up_to}
use Rattle.model_teis.specs.network.Sound.{IsSound}
use Rattle.model_teis.specs.Steps.{nothing_happens}
use Rattle.model_teis.specs.network.Words.{check_is, check_is_due, join, note, due_at}
use Rattle.model_teis.specs.Table as table
use Rattle.laws_trace.specs.Managing.{asks, by_type, comes, defers, is_asked, is_given, is_one, named_by, removes, several, verified}
use Rattle.laws_trace.specs.ManagingTerminal.{with_tei}
use Rattle.laws_trace.proofs.ManagingNotes.{by_message}
use Rattle.laws_trace.proofs.ManagingPlaces.{ArePlaced, came-placed, later-placed}
use Rattle.laws_trace.proofs.ManagingTables.{AreOn, free-fewer, none-free, comes-on}
use Rattle.std.specs.List.{position}
use Rattle.std.specs.Option.{option_and_then, unwrap_or}
use Rattle.laws_trace.proofs.ManagingReads.{any-same, by-both, few-heard, few-named, heard-is, in-both, one-by-one}
use Rattle.laws_trace.proofs.CheckEnds.{Follows, InOrder, Known, Leads, as_seen, earlier, is_second, is_settling, known-leads, leaves-noted, leaving-led, leaving-own, led, noted, over-leads, seen_check}

find-same : (f g : ℕ → Bool) → ((x : ℕ) → f x ≡ g x) → (xs : List ℕ) → find f xs ≡ find g xs
find-same f g h [] = refl
find-same f g h (x ∷ xs) = ap (λ b. cond b (Some x) (find f xs)) (h x) ∙ ap (λ o. cond (g x) (Some x) o) (find-same f g h xs)

-- A place is free exactly while fewer TEIs are on the line than there are places.
module _ (on : List ℕ) (places : Places) (h : AreOn on places) (n : ℕ) (size : length places ≡ n) where
  pub fewer-on : (place : ℕ) → free_place places ≡ Some place → nat_lt (length on) n ≡ true
  fewer-on place free = grind (arith, ltb-false, free-fewer)

  pub all-on : free_place places ≡ None → nat_lt (length on) n ≡ false
  all-on none = grind (arith, false_from_ne_true, ltb-true, none-free)

module _ (on : List ℕ) (places : Places) (later : List ℕ) (m : Management) (h : AreOn on m.places) (p : ArePlaced places later m.places m.to_check) (order : IfSome m.check InOrder) (s : IsSound m) where
  abbrev w : Managed
  w = as_seen on places later m

  pub here : Follows w m
  here = record { is = refl; on = h; placed = p; order = order }

  pub plain : (message : Message) → Leads (owes message w) (send message (begun m))
  plain message = known-leads on places later (send message (begun m)) (record { on_is = h; placed = p; order = order })

  pub none-due : Leads w (unserved (begun m))
  none-due = known-leads on places later (unserved (begun m)) (record { on_is = h; placed = p; order = order })

  -- A check begins.
  pub begins-check : (tei : ℕ) → Leads (checks tei None w) (begin_check tei (begun m))
  begins-check tei = known-leads on places later (begin_check tei (begun m)) (record { on_is = h; placed = p; order = λ first. refl })

  pub there : (check : Check) → m.check ≡ Some check → IsSoundCheck m.reading m.places check
  there check is = subst (λ o. IfSome o (IsSoundCheck m.reading m.places)) is s.checked

  -- What is told and sent before the check ends, and the TEI leaves.
  abbrev removal : ℕ → Course → Course
  removal tei x = send (IdentityRemove tei) x

  module _ (check : Check) (is : m.check ≡ Some check) where
    own : rows.is_checked check.tei m.check ≡ true
    own = ap (rows.is_checked check.tei) is ∙ eq-eqb check.tei check.tei refl

    abbrev told_of : Note → Course
    told_of n = note n (begun m)

    -- A response to a check: the second one of a period has the TEI leave.
    doubles : Leads (record (removes check.tei w) { notes = Doubled check.tei ∷ [] }) (rows.doubled check.tei (begun m))
    doubles =
        subst (λ d. Leads d (rows.doubled check.tei (begun m))) (sym (leaves-noted (Doubled check.tei ∷ []) check.tei (owes (IdentityRemove check.tei) w)))
        (leaving-own on places later (removal check.tei (told_of (Doubled check.tei))) (record { on_is = h; placed = p; order = order }) s.table s.read refl check.tei own)

    counts : (now : Check) → InOrder now → Leads (record w { check = Some (seen_check now) }) (check_is (Some now) (begun m))
    counts now order = known-leads on places later (check_is (Some now) (begun m)) (record { on_is = h; placed = p; order = order })

    -- T201 runs out.
    module _ (c : Config) (read : m.reading ≡ c.reading) where
      unanswered : Leads (record (by_reading c.reading (leaves check.tei w) (removes check.tei w)) { notes = Removed check.tei ∷ [] }) (rows.removed check.tei (begun m))
      unanswered =
          in-both (λ d x. Leads (noted (Removed check.tei ∷ []) d) (leave check.tei (end_check x))) m.reading c.reading read
          (leaves check.tei w) (removes check.tei w) (told_of (Removed check.tei)) (removal check.tei (told_of (Removed check.tei)))
          (subst (λ d. Leads d (leave check.tei (end_check (told_of (Removed check.tei))))) (sym (leaves-noted (Removed check.tei ∷ []) check.tei w))
          (leaving-own on places later (told_of (Removed check.tei)) (record { on_is = h; placed = p; order = order }) s.table s.read refl check.tei own))
          (subst (λ d. Leads d (leave check.tei (end_check (removal check.tei (told_of (Removed check.tei)))))) (sym (leaves-noted (Removed check.tei ∷ []) check.tei (owes (IdentityRemove check.tei) w)))
          (leaving-own on places later (removal check.tei (told_of (Removed check.tei))) (record { on_is = h; placed = p; order = order }) s.table s.read refl check.tei own))

  -- The check that runs, as it is counted.
  pub responds-so : (tei : ℕ) (check : Check) → m.check ≡ Some check → Leads (unwrap_or (responded tei w (seen_check check)) w) (rows.respond tei (Some check) (begun m))
  responds-so tei check is = go (check.tei == tei) refl
    where
      told_twice : Managed
      told_twice = record (removes check.tei w) { notes = Doubled check.tei ∷ [] }

      once : Bool → Option Bool → Managed
      once settles before = record w { check = Some (record { tei = check.tei; settles = settles; answered = true; before = before }) }

      in-first : (n : ℕ) → n ≤ 1 → check.period ≡ First
          → Leads (cond (not (n == 0)) told_twice (once false None)) ((cond (nat_le 2 (n + 1)) (rows.doubled check.tei) (check_is (Some (record check { period = First; first = n + 1 })))) (begun m))
      in-first zero few at = counts check is (record check { period = First; first = 1 }) (λ first. subst (λ o. IfSome o InOrder) is order (ap is_second at))
      in-first (suc zero) few at = doubles check is
      in-first (suc (suc n)) few at = absurd (omega (arith, few))

      in-second : (n : ℕ) → n ≤ 1
          → Leads (cond (not (n == 0)) told_twice (once false (earlier Second check.first))) ((cond (nat_le 2 (n + 1)) (rows.doubled check.tei) (check_is (Some (record check { period = Second; second = n + 1 })))) (begun m))
      in-second zero few = counts check is (record check { period = Second; second = 1 }) (λ first. absurd (true≢false first))
      in-second (suc zero) few = doubles check is
      in-second (suc (suc n)) few = absurd (omega (arith, few))

      one-of : (b : Bool) (u v : Managed) (x : Course) → Leads (cond b u v) x → Leads (unwrap_or (cond b (Some u) (Some v)) w) x
      one-of true u v x l = l
      one-of false u v x l = l

      -- while it settles it stays as it is
      stands : check.period ≡ Settling → Leads w (check_is (Some check) (begun m))
      stands at = subst (λ o. Leads (record w { check = option_map seen_check o }) (check_is (Some check) (begun m))) (sym is) (counts check is check (subst (λ o. IfSome o InOrder) is order))

      by-count : (q : Period) → check.period ≡ q
          → Leads (unwrap_or (cond (is_settling q) (Some w) (cond (not (rows.responses (record check { period = q }) == 0)) (Some told_twice) (Some (once (is_settling q) (earlier q check.first))))) w)
          (rows.count check.tei (rows.counted (record check { period = q })) (begun m))
      by-count First at = one-of (not (check.first == 0)) told_twice (once false None) _ (in-first check.first (there check is).first at)
      by-count Second at = one-of (not (check.second == 0)) told_twice (once false (earlier Second check.first)) _ (in-second check.second (there check is).second)
      by-count Settling at = subst (λ q. Leads w (check_is (Some (record check { period = q })) (begun m))) at (stands at)

      go : (b : Bool) → (check.tei == tei) ≡ b
          → Leads (unwrap_or (cond (not b) None (cond (seen_check check).settles (Some w) (cond (seen_check check).answered (Some (record (removes tei w) { notes = Doubled tei ∷ [] })) (Some (record w { check = Some (record (seen_check check) { answered = true }) }))))) w)
          ((cond b (rows.count tei (rows.counted check)) unserved) (begun m))
      go false other = none-due
      go true same =
          subst (λ n. Leads (unwrap_or (cond (seen_check check).settles (Some w) (cond (seen_check check).answered (Some (record (removes n w) { notes = Doubled n ∷ [] })) (Some (record w { check = Some (record (seen_check check) { answered = true }) })))) w) (rows.count n (rows.counted check) (begun m)))
          (eqb-true check.tei tei same) (by-count check.period refl)

  module _ (c : Config) (read : m.reading ≡ c.reading) where
    by-period : (check : Check) → m.check ≡ Some check → (q : Period) → check.period ≡ q
        → Leads (ran_out c w (record { tei = check.tei; settles = is_settling q; answered = not (rows.responses (record check { period = q }) == 0); before = earlier q check.first })) (rows.expire_period check q (begun m))
    by-period check is First at =
        let none : check.second ≡ 0 = subst (λ o. IfSome o InOrder) is order (ap is_second at) in
        subst (λ n. Leads (checks check.tei (Some (not (check.first == 0))) w) (rows.expire_period (record check { second = n }) First (begun m))) (sym none)
        (known-leads on places later (rows.expire_period (record check { second = 0 }) First (begun m)) (record { on_is = h; placed = p; order = λ e. absurd (true≢false e) }))
    by-period check is Settling at = begins-check check.tei
    by-period check is Second at = by-answers (check.first == 0) (check.second == 0)
      where
        by-answers : (a b : Bool)
            → Leads (cond (not a || not b) (over w) (record (by_reading c.reading (leaves check.tei w) (removes check.tei w)) { notes = Removed check.tei ∷ [] }))
            ((cond (a && b) (rows.removed check.tei) end_check) (begun m))
        by-answers true true = unanswered check is c read
        by-answers true false = over-leads on places later (begun m) (record { on_is = h; placed = p; order = order }) s.table s.read refl
        by-answers false b = over-leads on places later (begun m) (record { on_is = h; placed = p; order = order }) s.table s.read refl

    pub expire-leads : Leads (option_map_or (ran_out c w) w.check w) (rows.expire (begun m))
    expire-leads = go m.check refl
      where
        go : (o : Option Check) → m.check ≡ o → Leads (option_map_or (ran_out c w) (option_map seen_check o) w) (rows.expire_check o (begun m))
        go None is = known-leads on places later (begun m) (record { on_is = h; placed = p; order = order })
        go (Some check) is = by-period check is check.period refl

  -- Management asks.
  pub assign-leads : (tei place : ℕ) → free_place m.places ≡ Some place → table.is_on tei m.places ≡ false → Leads (comes tei w) (rows.put_on tei (begun m))
  assign-leads tei place free off =
      subst (λ o. Leads (comes tei w) (rows.join_at tei o (begun m))) (sym free)
      (known-leads (tei ∷ on) (with_tei tei (places ++ None ∷ [])) later (join tei place (begun m))
      (record { on_is = comes-on on m.places h place tei free off; placed = came-placed places later m.places m.to_check p place tei free off; order = order }))

  pub remove-leads : (tei : ℕ) → Leads (removes tei w) (rows.take_off tei (begun m))
  remove-leads tei = leaving-led on places later (removal tei (begun m)) (record { on_is = h; placed = p; order = order }) s.table s.read refl tei

  -- A terminal asks for a TEI.
  module _ (c : Config) (size : length m.places ≡ c.terminals) (read : m.reading ≡ c.reading) where
    abbrev lowest : Option ℕ
    lowest = find (λ tei. not (is_on tei w)) (range_with_len 64 63)

    lowest-is : lowest ≡ table.free_tei m.places
    lowest-is = find-same (λ tei. not (is_on tei w)) (table.is_off m.places) (λ tei. ap not (h.same tei)) (range_with_len 64 63)

    module _ (ri : ℕ) where
      abbrev longer : ℕ → List Remembered
      longer tei = m.remembered ++ record { ri = ri; tei = tei } ∷ []

      held-is : (tei : ℕ) → by_reading m.reading (drop (length (longer tei) - 4) (longer tei)) m.remembered ≡ by_reading c.reading (drop (length m.remembered - 3) (longer tei)) m.remembered
      held-is tei = grind (arith, length-append)

      comes-new : (place tei : ℕ) → free_place m.places ≡ Some place → table.free_tei m.places ≡ Some tei → Leads (gives c ri None (Some tei) w) (rows.assign_new ri (Some place) (Some tei) (begun m))
      comes-new place tei free is =
          subst (λ held. Leads (record (led (tei ∷ on) (with_tei tei (places ++ None ∷ [])) later (rows.assign_new ri (Some place) (Some tei) (begun m))) { held = held }) (rows.assign_new ri (Some place) (Some tei) (begun m))) (held-is tei)
          (known-leads (tei ∷ on) (with_tei tei (places ++ None ∷ [])) later (rows.assign_new ri (Some place) (Some tei) (begun m))
          (record { on_is = comes-on on m.places h place tei free (free_tei-is m.places tei is).off; placed = came-placed places later m.places m.to_check p place tei free (free_tei-is m.places tei is).off; order = order }))

      -- where there is room for the answer
      new : (o t : Option ℕ) → free_place m.places ≡ o → table.free_tei m.places ≡ t → Leads (gives c ri None (cond (nat_lt (length on) c.terminals && true) lowest None) w) (rows.assign_new ri o t (begun m))
      new None t free is = subst (λ b. Leads (gives c ri None (cond (b && true) lowest None) w) (rows.assign_new ri None t (begun m))) (sym (all-on on m.places h c.terminals size free)) (plain (IdentityDenied ri 127))
      new (Some place) t free is =
          subst (λ b. Leads (gives c ri None (cond (b && true) lowest None) w) (rows.assign_new ri (Some place) t (begun m))) (sym (fewer-on on m.places h c.terminals size place free))
          (subst (λ o. Leads (gives c ri None o w) (rows.assign_new ri (Some place) t (begun m))) (sym (lowest-is ∙ is)) (go t is))
        where
          go : (t : Option ℕ) → table.free_tei m.places ≡ t → Leads (gives c ri None t w) (rows.assign_new ri (Some place) t (begun m))
          go None is = plain (IdentityDenied ri 127)
          go (Some tei) is = comes-new place tei free is

      by-held : (o : Option Remembered) → Leads (gives c ri o (cond (nat_lt (length on) c.terminals && true) lowest None) w) (rows.assign ri (option_map rows.tei_in o) (begun m))
      by-held (Some r) = plain (IdentityAssigned ri r.tei)
      by-held None = new (free_place m.places) (table.free_tei m.places) refl refl

      -- and where there is none
      lose : (message : Message) → no_room m.waiting ≡ true → Leads (owes message w) (lose_one (begun m))
      lose message full = grind (arith, known-leads)

      loses : (o : Option Remembered) (b : Bool) → no_room m.waiting ≡ true → Leads (gives c ri o (cond (b && false) lowest None) w) (lose_one (begun m))
      loses o b full = grind (arith, lose)

      answers-request : Leads (asks c ri w) (rows.answer_request ri (begun m))
      answers-request = go (no_room m.waiting) refl
        where
          go : (b : Bool) → no_room m.waiting ≡ b → Leads (gives c ri (find (rows.is_for ri) m.remembered) (cond (nat_lt (length on) c.terminals && not b) lowest None) w)
              ((cond b lose_one (rows.assign ri (rows.remembered_in ri m.remembered))) (begun m))
          go true full = loses (find (rows.is_for ri) m.remembered) (nat_lt (length on) c.terminals) full
          go false room = by-held (find (rows.is_for ri) m.remembered)

      abbrev Answers : Option Managed → Course → Type 0
      Answers d x = Leads (unwrap_or d w) x

      request-leads : Answers (by_reading c.reading (Some (asks c ri w)) (cond (list_any (is_given ri) m.waiting) None (Some (asks c ri w)))) (rows.request ri (begun m))
      request-leads =
          in-both Answers m.reading c.reading read (Some (asks c ri w)) (cond (list_any (is_given ri) m.waiting) None (Some (asks c ri w))) (rows.answer_request ri (begun m)) (rows.request_anew ri (begun m))
          answers-request
          (subst (λ b. Answers (cond b None (Some (asks c ri w))) (rows.request_anew ri (begun m))) (sym (any-same (is_given ri) (rows.assigns_for ri) (λ message. same-given message) m.waiting))
          (by-both (λ d f. Answers d (f (begun m))) (list_any (rows.assigns_for ri) m.waiting) None (Some (asks c ri w)) unserved (rows.answer_request ri) none-due answers-request))
        where
          same-given : (message : Message) → is_given ri message ≡ rows.assigns_for ri message
          same-given message = grind arith

      denied-leads : (tei : ℕ) → Answers (by_reading c.reading None (Some (owes (IdentityDenied ri tei) w))) (rows.request_of ri tei (begun m))
      denied-leads tei = grind (arith, in-both, owes, unserved, send, none-due, plain)

    -- It asks for a check.
    defers-leads : (tei : ℕ) → table.is_on tei m.places ≡ true → Leads (defers tei w) (check_is_due tei (rows.ask_once tei (begun m)))
    defers-leads tei there =
        subst (λ b. Leads (record (cond b w (owes (IdentityCheckRequest tei) w)) { later = tei ∷ later }) (check_is_due tei (rows.ask_once tei (begun m)))) (sym (any-same (is_asked tei) (rows.asks_for tei) (λ message. same-asked message) m.waiting))
        (go (list_any (rows.asks_for tei) m.waiting))
      where
        same-asked : (message : Message) → is_asked tei message ≡ rows.asks_for tei message
        same-asked message = grind arith

        known-later : Known on places (tei ∷ later) (record m { to_check = due_at (place_of tei m.places) true m.to_check })
        known-later = record { on_is = h; placed = later-placed places later m.places m.to_check p s.table tei there; order = order }

        go : (b : Bool) → Leads (record (cond b w (owes (IdentityCheckRequest tei) w)) { later = tei ∷ later }) (check_is_due tei ((cond b nothing_happens (send (IdentityCheckRequest tei))) (begun m)))
        go true = known-leads on places (tei ∷ later) (check_is_due tei (begun m)) known-later
        go false = known-leads on places (tei ∷ later) (check_is_due tei (send (IdentityCheckRequest tei) (begun m))) (record { on_is = h; placed = known-later.placed; order = order })

    abbrev Serves : Option Managed → Course → Type 0
    Serves d x = Leads (unwrap_or d w) x

    verify-leads : (tei : ℕ) → Serves (verified c tei w) (rows.verify tei (begun m))
    verify-leads tei = grind (arith, checks, option_map, there, begins-check, by-both, unserved, none-due, in-both, defers-leads)

    responds-leads : (tei : ℕ) → Serves (option_and_then (responded tei w) w.check) (rows.respond tei m.check (begun m))
    responds-leads tei = grind (arith, responded, option_map, none-due, responds-so)

    -- One may answer for several.
    none-several : (teis : Option (List ℕ)) (o : Option Check) → teis ≡ None → rows.respond_among teis o (begun m) ≡ unserved (begun m)
    none-several teis o none = grind (arith, rows.count, rows.counted, unserved)

    not-several : Serves None (by_reading m.reading (unserved (begun m)) (rows.respond_among None m.check (begun m)))
    not-several = grind (arith, unserved, none-due, none-several)

    by-several : (octets : List ℕ) (o : Option Check) → m.check ≡ o
        → Serves (option_and_then (λ (check : Checked). cond (list_any (λ octet. octet / 2 == check.tei) octets) (responded check.tei w check) None) (option_map seen_check o)) (rows.respond_among (Some octets) o (begun m))
    by-several octets None is = none-due
    by-several octets (Some own) is =
        by-both (λ d f. Serves d (f (begun m))) (list_any (λ octet. octet / 2 == own.tei) octets) (responded own.tei w (seen_check own)) None (rows.count own.tei (rows.counted own)) unserved
        (subst (λ b. Serves (responded own.tei w (seen_check own)) ((cond b (rows.count own.tei (rows.counted own)) unserved) (begun m))) (eq-eqb own.tei own.tei refl) (responds-so own.tei own is))
        none-due

    none-among : Serves None (rows.respond_among None m.check (begun m))
    none-among = subst (λ x. Serves None x) (sym (none-several None m.check refl)) none-due

    several-leads : (octets : List ℕ) (b : Bool)
        → Serves (cond b (by_reading c.reading None (several w octets)) None)
        (by_reading m.reading (unserved (begun m)) (rows.respond_among (cond b (up_to octets (position is_last octets)) None) m.check (begun m)))
    several-leads octets false = not-several
    several-leads octets true =
        in-both Serves m.reading c.reading read None (several w octets) (unserved (begun m)) (rows.respond_among (up_to octets (position is_last octets)) m.check (begun m)) none-due
        (up-to (position is_last octets))
      where
        up-to : (o : Option ℕ)
            → Serves (option_and_then (λ place. cond (nat_lt place 64) (named_by w (take (place + 1) octets)) None) o) (rows.respond_among (up_to octets o) m.check (begun m))
        up-to None = none-among
        up-to (Some place) =
            by-both (λ d teis. Serves d (rows.respond_among teis m.check (begun m))) (nat_lt place 64) _ _ _ _ (by-several (take (place + 1) octets) m.check refl) none-among

    -- What a terminal says with one Ai. Of a check response the list of Ai is not looked at then.
    by-type-leads : (type ri action : ℕ) (teis : Option (List ℕ)) → (type == 5 ≡ false → teis ≡ None) → Serves (by_type c w type ri action) (rows.serve (heard_of_type type ri action) teis (begun m))
    by-type-leads type ri action teis none =
        subst (λ d. Serves d (rows.serve (heard_of_type type ri action) teis (begun m))) (sym (one-by-one c type ri action w))
        (by-both (λ d o. Serves d (rows.serve o teis (begun m))) (type == 1 && action == 127) _ _ _ _ (request-leads ri)
        (by-both (λ d o. Serves d (rows.serve o teis (begun m))) (type == 1 && nat_le 64 action && nat_le action 126) _ _ _ _ (denied-leads ri action) (go (type == 5) refl)))
      where
        go : (b : Bool) → (type == 5) ≡ b
            → Serves (cond b (option_and_then (responded action w) w.check) (cond (type == 7) (verified c action w) None))
            (rows.serve (cond b (Some (IdentityCheckResponse action)) (cond (type == 7) (Some (IdentityVerify action)) None)) teis (begun m))
        go true is = responds-leads action
        go false is =
            by-both (λ d o. Serves d (rows.serve o teis (begun m))) (type == 7) _ _ _ _ (verify-leads action)
            (subst (λ teis. Serves None (rows.serve None teis (begun m))) (sym (none is)) not-several)

    -- What it says.
    few-leads : (info : List ℕ) → length info ≤ 4 → Serves None (rows.hear info (begun m))
    few-leads info few =
        subst (λ o. Serves None (rows.serve o (responses_in info) (begun m))) (sym (few-heard m.reading info few))
        (subst (λ teis. Serves None (rows.serve None teis (begun m))) (sym (few-named info few)) not-several)

    pub serve-leads : (info : List ℕ) → Leads (by_message c w info) (rows.hear info (begun m))
    serve-leads (a ∷ high ∷ low ∷ type ∷ action ∷ more) =
        subst (λ o. Leads (by_message c w info) (rows.serve o (responses_in info) (begun m))) (sym (ap (λ r. heard_in r info) read ∙ heard-is c a high low type action more))
        (go (a == 0x0F) (is_one c action more))
      where
        info : List ℕ
        info = a ∷ high ∷ low ∷ type ∷ action ∷ more

        teis : Option (List ℕ)
        teis = up_to (action ∷ more) (position is_last (action ∷ more))

        go : (x y : Bool)
            → Serves (cond (not x) None (cond y (by_type c w type (256 * high + low) (action / 2)) (cond (type == 5) (by_reading c.reading None (several w (action ∷ more))) None)))
            (rows.serve (cond (x && y) (heard_of_type type (256 * high + low) (action / 2)) None) (cond (x && type == 5) teis None) (begun m))
        go false y = not-several
        go true true = by-type-leads type (256 * high + low) (action / 2) (cond (type == 5) teis None) (λ other. ap (λ b. cond b teis None) other)
        go true false = several-leads (action ∷ more) (type == 5)
    serve-leads (a ∷ high ∷ low ∷ type ∷ []) = few-leads (a ∷ high ∷ low ∷ type ∷ []) (omega arith)
    serve-leads (a ∷ high ∷ low ∷ []) = few-leads (a ∷ high ∷ low ∷ []) (omega arith)
    serve-leads (a ∷ high ∷ []) = few-leads (a ∷ high ∷ []) (omega arith)
    serve-leads (a ∷ []) = few-leads (a ∷ []) (omega arith)
    serve-leads [] = few-leads [] (omega arith)
