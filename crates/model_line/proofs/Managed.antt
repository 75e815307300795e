-- What every step of TEI management is, of whatever side: the walk over both tables is made once here.
use Rattle.model_line.proofs.Vocabulary.{◌≡◌, ℕ, ◌+◌, ◌≤◌, Bool, true, false, cond, is_some, List, length, max, Option, Some, None, IfSome, refl, sym, subst, ap, ◌∙◌, arith, none-some, length-set, replicate, Places, Gained, Left, Reading, Service, Order, T201, T202, LinkTimer, obeyed, Follows, Moves, most_heard, Change, Management, tei_may_send, Cause, Unserved, IsSoundTable}
use Rattle.model_line.proofs.Vocabulary.{told_brief, own_brief, t201_follows, expired_t201_follows}
use Rattle.model_line.proofs.Vocabulary.{Config, Line, LineTold, Own, Effect, nothing, is_terminal, terminal_in, of_change, of_management, of_network, of_terminal, of_terminal_if, at_a_terminal, change_at_terminal, change_if, change_of, with_terminal, told_of_management, unserved_cause, IsSound, IsOfSide, IsUnused, TeiEvent, tei_told, tei_after}
use Rattle.model_line.proofs.Vocabulary.{Terminal, TerminalEvent, TeiTold, terminal_told, terminal_after, terminal_course}
use Rattle.lapd_frame.specs.Readings.{by_reading}
use Rattle.model_teis.specs.network.Laws as tei_laws
use Rattle.model_teis.specs.network.Sound as tei
use Rattle.model_teis.proofs.OfNetwork.LawLemmas as tei_lemmas
use Rattle.model_teis.proofs.OfNetwork.SoundWords.{memory-empty, queue-empty}
use Rattle.model_teis.specs.network.Events as teis
use Rattle.model_teis.specs.terminal.Events as terminals
use Rattle.model_teis.specs.terminal.Laws as terminal_laws
use Rattle.model_teis.specs.terminal.Sound as terminal
use Rattle.model_teis.specs.terminal.Words.{Course, begun}
use Rattle.model_teis.specs.terminal.Rows.{expire_procedure}
use Rattle.model_teis.proofs.OfTerminal.Read.{reading_stays}
use Rattle.model_teis.proofs.OfTerminal.Rising.{few_more_wait}
use Rattle.model_teis.proofs.OfTerminal.Served.{leads}
use Rattle.model_teis.proofs.OfTerminal.Told.{t202_follows, expired_t202_follows, unserved_changes_nothing}
use Rattle.model_line.specs.Event.{dropped}
use Rattle.model_line.specs.Runs.{ArePlaced}
use Rattle.model_line.proofs.Checks.{unused-due, unused-read}
use Rattle.model_line.proofs.Obeyed.{timer_of}

-- A step: how the table changes, what is told, and what is left of TEI management. T201 and T202 run at the caller's as is
-- said, and so many messages more wait at most.
pub record Step (c : Config) (l : Line) (t201 t202 : Bool) (more : ℕ) (change : Option Change) (told : LineTold) (m : Management) (own : Own) : Type 0 where
  pub moves : Moves l.management.places change m.places
  pub sound : tei.IsSound m
  pub reading : m.reading ≡ c.reading
  pub owned : IsOfSide (is_terminal c) m own
  pub contents : told.contents ≡ None
  pub few_notes : length told.notes ≤ 1
  pub few_orders : length told.orders ≤ 1
  pub rises : tei_may_send m + length own.waiting ≤ tei_may_send l.management + length l.own.waiting + more
  pub check : obeyed T201 t201 told.orders ≡ is_some m.check
  pub procedure : obeyed T202 t202 told.orders ≡ is_some own.procedure
  pub links : (k : LinkTimer) (service : Service) (tei : ℕ) (b : Bool) → obeyed (timer_of k service tei) b told.orders ≡ b
  pub placed : (now : Line) → ArePlaced now told.orders
  pub drops : (cause : Cause) → told.cause ≡ Some cause → (told ≡ dropped cause) × (change ≡ None) × (m ≡ l.management) × (own ≡ l.own)

-- So many messages more wait at most after an event of TEI management.
abbrev pub more_of : Config → TeiEvent → ℕ
more_of c (teis.message octets) = cond (is_terminal c) (max 1 c.terminals) 2
more_of c other = 1

-- An event for which only a terminal has a row. (An expiry of T202 has none if it does not run.)
abbrev pub IsOwnEvent : Config → TerminalEvent → Type 0
IsOwnEvent c (terminals.message octets) = ⊥
IsOwnEvent c terminals.expiry = Unit {0}
IsOwnEvent c terminals.ask = is_terminal c ≡ true
IsOwnEvent c (terminals.verify tei) = is_terminal c ≡ true
IsOwnEvent c (terminals.assign tei) = ⊥
IsOwnEvent c (terminals.remove tei) = ⊥
IsOwnEvent c terminals.down = ⊥

-- What management asks for, or an expiry, and no message.
abbrev pub IsAsked : TeiEvent → Type 0
IsAsked (teis.message octets) = ⊥
IsAsked other = Unit {0}

-- What obeying the orders of T201 comes to.
obeyed-201 : (before after : Bool) (orders : List Order) → Follows before orders after → obeyed T201 before orders ≡ after
obeyed-201 before after orders follows = grind arith

spared-202 : (before after b : Bool) (orders : List Order) → Follows before orders after → obeyed T202 b orders ≡ b
spared-202 before after b orders follows = grind arith

spared-201 : (before after : Bool) (orders : List Order) → Follows before orders after → (k : LinkTimer) (service : Service) (tei : ℕ) (b : Bool) → obeyed (timer_of k service tei) b orders ≡ b
spared-201 before after orders follows k service tei b = grind arith

placed-201 : (before after : Bool) (orders : List Order) → Follows before orders after → (l : Line) → ArePlaced l orders
placed-201 before after orders follows l = grind arith

-- And of T202.
obeyed-202 : (before after : Bool) (orders : List Order) → terminal_laws.Follows before orders after → obeyed T202 before orders ≡ after
obeyed-202 before after orders follows = grind arith

kept-201 : (before after b : Bool) (orders : List Order) → terminal_laws.Follows before orders after → obeyed T201 b orders ≡ b
kept-201 before after b orders follows = grind arith

kept-links : (before after : Bool) (orders : List Order) → terminal_laws.Follows before orders after → (k : LinkTimer) (service : Service) (tei : ℕ) (b : Bool) → obeyed (timer_of k service tei) b orders ≡ b
kept-links before after orders follows k service tei b = grind arith

placed-202 : (before after : Bool) (orders : List Order) → terminal_laws.Follows before orders after → (l : Line) → ArePlaced l orders
placed-202 before after orders follows l = grind arith

-- A cause is named where an event is not served.
not_served : (b : Bool) (cause : Cause) → unserved_cause b ≡ Some cause → (b ≡ true) × (Unserved ≡ cause)
not_served b cause e = grind (arith, none-some)

-- By either reading no more wait than these.
read_most : (r : Reading) (e : TeiEvent) → by_reading r 1 (most_heard e) ≤ most_heard e
read_most r e = grind arith

-- A change leaves as many places.
as_many : (old : Places) (change : Option Change) (new : Places) → Moves old change new → length new ≡ length old
as_many old None new same = ap length same
as_many old (Some (Gained tei place)) new joined = ap length joined.is_there ∙ length-set old place (Some tei)
as_many old (Some (Left tei place)) new left = ap length left.is_free ∙ length-set old place None

-- What the network's side has beside its table is sound while it is unused.
sound_unused : (m : Management) → IsSoundTable m.places → IsUnused m → tei.IsSound m
sound_unused m table unused =
    record {
      table = table;
      memory = subst (tei.IsSoundMemory m.places) (sym unused.remembered) (memory-empty m.places);
      checked = subst (λ o. IfSome o (tei.IsSoundCheck m.reading m.places)) (sym unused.check) tt;
      due = unused-due m unused;
      read = unused-read m.reading m unused;
      queue = subst tei.IsSoundQueue (sym unused.waiting) queue-empty;
    }

module _ (c : Config) (l : Line) (s : IsSound c l) where
  -- Nothing happens.
  idle : (t201 t202 : Bool) (more : ℕ) → t201 ≡ is_some l.management.check → t202 ≡ is_some l.own.procedure → Step c l t201 t202 more None nothing l.management l.own
  idle t201 t202 more check procedure = record {
    moves = refl;
    sound = s.management;
    reading = s.reading;
    owned = s.own;
    contents = refl;
    few_notes = omega arith;
    few_orders = omega arith;
    rises = omega arith;
    check = check;
    procedure = procedure;
    links = λ k service tei b. refl;
    placed = λ now. tt;
    drops = λ cause e. absurd (none-some cause e);
  }

  -- An event of the network's side, also at a trunk's end.
  at_network : is_terminal c ≡ false → IsOfSide false l.management l.own
  at_network net = subst (λ b. IsOfSide b l.management l.own) net s.own

  network-drops : (e : TeiEvent) (cause : Cause) → (told_of_management (tei_told e l.management)).cause ≡ Some cause
      → (told_of_management (tei_told e l.management) ≡ dropped cause) × ((tei_told e l.management).change ≡ None) × (tei_after e l.management ≡ l.management) × (l.own ≡ l.own)
  network-drops e cause h =
      let is = not_served (tei_told e l.management).unserved cause h in
      let same = tei_lemmas.unserved_changes_nothing e l.management is.0 in
      (ap told_of_management same.1 ∙ ap dropped is.1, ap (λ t. t.change) same.1, same.0, refl)

  network_step : is_terminal c ≡ false → (e : TeiEvent) → tei_laws.IsInRange e → (t201 : Bool) → Follows t201 (tei_told e l.management).orders (is_some (tei_after e l.management).check)
      → (more : ℕ) → most_heard e ≤ more
      → Step c l t201 (is_some l.own.procedure) more (tei_told e l.management).change (told_of_management (tei_told e l.management)) (tei_after e l.management) l.own
  network_step net e range t201 follows more least =
      let after = is_some (tei_after e l.management).check in
      let orders = (tei_told e l.management).orders in
      record {
        moves = tei_lemmas.changes_are_told e l.management range s.management;
        sound = tei_lemmas.sound-after e l.management range s.management;
        reading = tei_lemmas.reading_stays e l.management ∙ s.reading;
        owned = subst (λ b. IsOfSide b (tei_after e l.management) l.own) (sym net) (at_network net);
        contents = refl;
        few_notes = (told_brief e l.management).notes;
        few_orders = (told_brief e l.management).orders;
        rises = omega (arith, tei_lemmas.few_more_wait e l.management, read_most l.management.reading e, least);
        check = obeyed-201 t201 after orders follows;
        procedure = spared-202 t201 after (is_some l.own.procedure) orders follows;
        links = spared-201 t201 after orders follows;
        placed = placed-201 t201 after orders follows;
        drops = network-drops e;
      }

  -- An event of a terminal.
  abbrev t : Terminal
  t = terminal_in l

  at_terminal_line : is_terminal c ≡ true → terminal.IsSound t × IsUnused l.management
  at_terminal_line is = subst (λ b. IsOfSide b l.management l.own) is s.own

  abbrev management_after : TerminalEvent → Management
  management_after e = let after = terminal_after e t in record l.management { reading = after.reading; places = after.places }

  abbrev own_after : TerminalEvent → Own
  own_after e = let after = terminal_after e t in record { number = after.number; procedure = after.procedure; waiting = after.waiting }

  terminal-drops : (e : TerminalEvent) (cause : Cause) → (told_of_management (terminal_told e t)).cause ≡ Some cause
      → (told_of_management (terminal_told e t) ≡ dropped cause) × ((terminal_told e t).change ≡ None) × (management_after e ≡ l.management) × (own_after e ≡ l.own)
  terminal-drops e cause h =
      let is = not_served (terminal_told e t).unserved cause h in
      let same = unserved_changes_nothing e t is.0 in (
        ap told_of_management same.1 ∙ ap dropped is.1,
        ap (λ (told : TeiTold). told.change) same.1,
        ap (λ (now : Terminal). record l.management { reading = now.reading; places = now.places }) same.0,
        ap (λ (now : Terminal). record { number = now.number; procedure = now.procedure; waiting = now.waiting }) same.0,
      )

  terminal_step : is_terminal c ≡ true → (e : TerminalEvent) → terminal_laws.IsInRange e → (t201 t202 : Bool) → t201 ≡ is_some l.management.check
      → terminal_laws.Follows t202 (terminal_told e t).orders (is_some (terminal_after e t).procedure) → (more : ℕ) → terminal_laws.more_most e t ≤ more
      → Step c l t201 t202 more (terminal_told e t).change (told_of_management (terminal_told e t)) (management_after e) (own_after e)
  terminal_step is e range t201 t202 check follows more enough =
      let both = at_terminal_line is in
      let led = leads e t range both.0 in
      let unused : IsUnused (management_after e) = record { remembered = both.1.remembered; check = both.1.check; to_check = both.1.to_check ∙ ap (λ n. replicate n false) (sym (as_many l.management.places (terminal_told e t).change (terminal_after e t).places led.moves)); waiting = both.1.waiting } in
      let now = is_some (terminal_after e t).procedure in
      let orders = (terminal_told e t).orders in
      record {
        moves = led.moves;
        sound = sound_unused (management_after e) led.sound.table unused;
        reading = reading_stays e t ∙ s.reading;
        owned = subst (λ b. IsOfSide b (management_after e) (own_after e)) (sym is) (led.sound, unused);
        contents = refl;
        few_notes = (own_brief e t).notes;
        few_orders = (own_brief e t).orders;
        rises = omega (arith, few_more_wait e t, enough);
        check = kept-201 t202 now t201 orders follows ∙ check;
        procedure = obeyed-202 t202 now orders follows;
        links = kept-links t202 now orders follows;
        placed = placed-202 t202 now orders follows;
        drops = terminal-drops e;
      }

  pub idle_course : t.procedure ≡ None → terminal_course terminals.expiry t ≡ begun t
  unfolding terminal_course
  idle_course e = ap (λ o. expire_procedure o (begun t)) e

  -- So what holds of each step of an event of TEI management holds of the event,
  module _ (P : Option Change → Effect → Type 0) where
    abbrev pub Of : Bool → Bool → ℕ → Type 0
    Of t201 t202 more =
        (change : Option Change) (told : LineTold) (m : Management) (own : Own) → Step c l t201 t202 more change told m own
        → P change (of_change c change told (record l { management = m; own = own }))

    -- which a terminal has, or not,
    by-own : (o : Option TerminalEvent) (t201 : Bool) (more : ℕ) → is_terminal c ≡ true → IfSome o (λ e. terminal_laws.IsInRange e × (terminal_laws.more_most e t ≤ more)) → t201 ≡ is_some l.management.check
        → Of t201 (is_some l.own.procedure) more → P (change_if o l) (of_terminal_if c o l)
    by-own None t201 more is range check h = h None nothing l.management l.own (idle t201 (is_some l.own.procedure) more check refl)
    by-own (Some e) t201 more is range check h =
        h (terminal_told e t).change (told_of_management (terminal_told e t)) (management_after e) (own_after e)
        (terminal_step is e range.0 t201 (is_some l.own.procedure) check (t202_follows e t) more range.1)

    -- a terminal has as many places as the configuration says
    in_range : (e : TeiEvent) → is_terminal c ≡ true → tei_laws.IsInRange e → IfSome (at_a_terminal e) (λ own. terminal_laws.IsInRange own × (terminal_laws.more_most own t ≤ more_of c e))
    in_range (teis.message octets) is range = (tt, subst (λ b. max 1 (length l.management.places) ≤ cond b (max 1 c.terminals) 2) (sym is) (omega (arith, s.places)))
    in_range teis.expiry is range = tt
    in_range (teis.assign tei) is range = (range, omega arith)
    in_range (teis.remove tei) is range = (tt, omega arith)
    in_range (teis.check tei) is range = tt
    in_range (teis.disown tei) is range = tt
    in_range teis.down is range = (tt, omega arith)

    most_at_least : (e : TeiEvent) → is_terminal c ≡ false → most_heard e ≤ more_of c e
    most_at_least (teis.message octets) net = subst (λ b. 2 ≤ cond b (max 1 c.terminals) 2) (sym net) (omega arith)
    most_at_least teis.expiry net = omega arith
    most_at_least (teis.assign tei) net = omega arith
    most_at_least (teis.remove tei) net = omega arith
    most_at_least (teis.check tei) net = omega arith
    most_at_least (teis.disown tei) net = omega arith
    most_at_least teis.down net = omega arith

    by-side : (e : TeiEvent) (t201 : Bool) → tei_laws.IsInRange e → Follows t201 (tei_told e l.management).orders (is_some (tei_after e l.management).check)
        → (is_terminal c ≡ true → t201 ≡ is_some l.management.check) → Of t201 (is_some l.own.procedure) (more_of c e) → P (change_of c e l) (of_management c e l)
    by-side e t201 range follows check h = go (is_terminal c) refl
      where
        go : (b : Bool) → is_terminal c ≡ b → P (cond b (change_if (at_a_terminal e) l) (tei_told e l.management).change) (cond b (of_terminal_if c (at_a_terminal e) l) (of_network c e l))
        go true is = by-own (at_a_terminal e) t201 (more_of c e) is (in_range e is range) (check is) h
        go false net =
            h (tei_told e l.management).change (told_of_management (tei_told e l.management)) (tei_after e l.management) l.own
            (network_step net e range t201 follows (more_of c e) (most_at_least e net))

    pub by-managed : (e : TeiEvent) → tei_laws.IsInRange e → Of (is_some l.management.check) (is_some l.own.procedure) (more_of c e) → P (change_of c e l) (of_management c e l)
    by-managed e range h = by-side e (is_some l.management.check) range (t201_follows e l.management) (λ is. refl) h

    -- and where T201 has expired, which runs no more at the caller's.
    pub by-expired-201 : Of false (is_some l.own.procedure) 1 → P (change_of c teis.expiry l) (of_management c teis.expiry l)
    by-expired-201 h =
        by-side teis.expiry false tt (expired_t201_follows l.management) (λ is. sym (ap is_some (at_terminal_line is).1.check)) h

    -- An event of a terminal's own, and its expiry.
    not_running : is_terminal c ≡ false → (t202 : Bool) → t202 ≡ is_some l.own.procedure → Of (is_some l.management.check) t202 1 → P (change_at_terminal terminals.expiry l) (of_terminal c terminals.expiry l)
    not_running net t202 procedure h =
        subst (λ (course : Course). P course.told.change (of_change c course.told.change (told_of_management course.told) (with_terminal course.now l))) (sym (idle_course (at_network net).0))
        (h None nothing l.management l.own (idle (is_some l.management.check) t202 1 refl procedure))

    running : (e : TerminalEvent) → is_terminal c ≡ true → terminal_laws.IsInRange e → terminal_laws.more_most e t ≤ 1 → (t202 : Bool)
        → terminal_laws.Follows t202 (terminal_told e t).orders (is_some (terminal_after e t).procedure) → Of (is_some l.management.check) t202 1 → P (change_at_terminal e l) (of_terminal c e l)
    running e is range more t202 follows h =
        h (terminal_told e t).change (told_of_management (terminal_told e t)) (management_after e) (own_after e)
        (terminal_step is e range (is_some l.management.check) t202 refl follows 1 more)

    t202-by-side : (t202 : Bool) → terminal_laws.Follows t202 (terminal_told terminals.expiry t).orders (is_some (terminal_after terminals.expiry t).procedure)
        → (is_terminal c ≡ false → t202 ≡ is_some l.own.procedure) → Of (is_some l.management.check) t202 1 → P (change_at_terminal terminals.expiry l) (of_terminal c terminals.expiry l)
    t202-by-side t202 follows procedure h = go (is_terminal c) refl
      where
        go : (b : Bool) → is_terminal c ≡ b → P (change_at_terminal terminals.expiry l) (of_terminal c terminals.expiry l)
        go true is = running terminals.expiry is tt (omega arith) t202 follows h
        go false net = not_running net t202 (procedure net) h

    pub by-own-event : (e : TerminalEvent) → IsOwnEvent c e → Of (is_some l.management.check) (is_some l.own.procedure) 1 → P (change_at_terminal e l) (of_terminal c e l)
    by-own-event terminals.expiry proper h = t202-by-side (is_some l.own.procedure) (t202_follows terminals.expiry t) (λ net. refl) h
    by-own-event terminals.ask proper h = running terminals.ask proper tt (omega arith) (is_some l.own.procedure) (t202_follows terminals.ask t) h
    by-own-event (terminals.verify tei) proper h = running (terminals.verify tei) proper tt (omega arith) (is_some l.own.procedure) (t202_follows (terminals.verify tei) t) h
    by-own-event (terminals.message octets) proper h = elim proper [ ]
    by-own-event (terminals.assign tei) proper h = elim proper [ ]
    by-own-event (terminals.remove tei) proper h = elim proper [ ]
    by-own-event terminals.down proper h = elim proper [ ]

    pub by-expired-202 : Of (is_some l.management.check) false 1 → P (change_at_terminal terminals.expiry l) (of_terminal c terminals.expiry l)
    by-expired-202 h = t202-by-side false (expired_t202_follows t) (λ net. sym (ap is_some (at_network net).0)) h
