-- Each event of a line is one of one of its parts, or nothing changes.
use Rattle.laws_line.proofs.Vocabulary.{◌≡◌, ◌≢◌, ◌⊎◌, inl, inr, ℕ, ◌<◌, true, false, ◌==◌, List, [], ◌∷◌, ◌++◌, length, get_or, set, Option, Some, None, refl, sym, ap, subst, arith, append-nil, append_assoc, eq-eqb, get_or-set_other, Refusal, Service, Call, Packet, Timer, T201, Change, LinkTimer, Config, is_change_at, Aim, at_link, at_management, told_of_management, of_change, of_aim, hears}
use Rattle.laws_line.proofs.Vocabulary.{request, next, told, nothing, at_timer, aim_of_expiry, Line, UnitData, link_number, link_count, place_at, tei_at, place_in, link_at, unless_refused_told, aim_of_heard, Request, Establish, Release, Assign, Remove, SetBusy, ClearBusy, Deactivate, at_requested, at_deactivated, aim_of_request, IsProper, heard_proper, expiry_proper, request_proper, Down}
use Rattle.laws_line.proofs.Vocabulary.{eqb-true, T200, T203, fresh, Event, expiry, after, answer, unless_refused, refusal, Data, Check, IsSound, noted_behind, IsManaged, IsGranted, IsOfPart, line_of_link as of_link, line_of_management as of_management, of_units, of_group, of_down, of_next, SaysNothing, IsOneEvent, is_granted, BringsMessage, IsOfManagement, GivesUp, link_received, LinkEstablish}
use Rattle.laws_line.proofs.Vocabulary.{LinkRelease, link_expired, LinkClearBusy, link_requested, LinkRequest, LinkData, link_cleared, LinkSetBusy, LinkEvent, StreamEvent, begin_here, begin_away, Disown}
use Rattle.model_teis.specs.network.Events as teis
use Rattle.model_teis.specs.Changes.{Moves}
use Rattle.model_teis.specs.network.Laws as tei_laws
use Rattle.model_teis.proofs.OfNetwork.LawLemmas as tei_lemmas
use Rattle.model_teis.specs.terminal.Events as terminals
use Rattle.model_teis.specs.terminal.Laws as terminal_laws
use Rattle.model_teis.specs.terminal.Words.{Course}
use Rattle.model_teis.proofs.OfTerminal.Brief.{none_lost}
use Rattle.model_teis.proofs.OfTerminal.Served.{leads}
use Rattle.laws_line.proofs.Vocabulary.{Bool, cond, le-leb, ◌&&◌, ◌∙◌, Ok, Unserved, User, Network, Side, Control, Parts, reading, heard_side, addressed, message_of, aim_of_reading, at_side, link_frame, stream_frame, dropped, at_none, at_terminal, at_a_terminal, of_network, of_terminal as effect_of_terminal, of_terminal_if, Effect, LineTold, Own, Management, is_terminal}
use Rattle.laws_line.proofs.Vocabulary.{terminal_in}
use Rattle.laws_line.proofs.Vocabulary.{with_terminal, IsOfSide, ServesMessages, IsOfTerminal, IsManagedThere, line_of_terminal as of_terminal, T202, AskTei, VerifyTei}
use Rattle.model_line.specs.Sides.{managed_at}
use Rattle.model_line.proofs.Managed.{idle_course}
use Rattle.laws_line.proofs.Alone.{is-alone}
use Rattle.laws_line.proofs.Granting.{not-refused}
use Rattle.laws_line.proofs.GroupAims.{heard-aims-at}
use Rattle.model_line.proofs.Places.{has-place}
use Rattle.laws_line.proofs.Tied.{Ties, heard-ties, expiry-ties, request-ties}
use Rattle.laws_line.proofs.Told.{moved}
use Rattle.model_line.proofs.Downs.{by-down}
use Rattle.laws_line.specs.Frames.{given_up_in}
use Rattle.laws_line.specs.OneEvent.{given_up_behind}
use Rattle.model_teis.specs.declared.changes.Change.TheVariants.{Gained, Left}

-- A step of TEI management, of whatever side.
module _ (c : Config) (l : Line) (s : IsSound c l) (own_told : LineTold) (m : Management) (own : Own) where
  abbrev there : Option Change → Line
  there o = (of_change c o own_told (record l { management = m; own = own })).line

  abbrev places : List (Option ℕ)
  places = m.places

  abbrev Links : Option Change → Type 0
  Links o = (number : ℕ) → number < link_count c
      → (get_or places (place_at number) None ≡ tei_at (place_at number) l → link_at number (there o) ≡ link_at number l)
      × ((get_or places (place_at number) None ≢ tei_at (place_at number) l) → link_at number (there o) ≡ fresh)

  -- at the place of a TEI that comes or leaves, and elsewhere
  module _ (o : Option Change) (place : ℕ) (x : Option ℕ) (at : (number : ℕ) → is_change_at (place_at number) o ≡ (place == place_at number))
      (moves : Moves l.management.places o places) (within : place < length l.management.places) (is : places ≡ set l.management.places place x)
      (links-are : (there o).links ≡ set (set l.links (link_number place Call) fresh) (link_number place Packet) fresh) where
    of-places : Links o
    of-places number few = grind (arith, moved, begin_here, eqb-true, eq-eqb, begin_away, get_or-set_other)

  pub of-links : (o : Option Change) → Moves l.management.places o places → Links o
  of-links o moves = grind (arith, of-places)

  pub line-is : (o : Option Change) → there o ≡ record l { management = m; own = own; links = (there o).links }
  line-is o = grind arith

  pub noted-is : (o : Option Change) → (of_change c o own_told (record l { management = m; own = own })).told.notes ≡ own_told.notes ++ noted_behind c l o
  noted-is o = grind (arith, get_or-set_other, append_assoc, append-nil)

  pub lost-is : (o : Option Change) → (of_change c o own_told (record l { management = m; own = own })).told.lost ≡ own_told.lost
  lost-is o = grind arith

  pub given-is : own_told.given_up ≡ 0 → own_told.given_up_16 ≡ 0 → (o : Option Change) (service : Service)
      → given_up_in service (told (of_change c o own_told (record l { management = m; own = own })).told) ≡ given_up_behind c l service o
  given-is none none_16 None Call = none
  given-is none none_16 None Packet = none_16
  given-is none none_16 (Some (Gained tei place)) Call = none
  given-is none none_16 (Some (Gained tei place)) Packet = none_16
  given-is none none_16 (Some (Left tei place)) Call = refl
  given-is none none_16 (Some (Left tei place)) Packet = grind (arith, get_or-set_other)

-- Of the network's side, and of a terminal.
module _ (c : Config) (l : Line) (s : IsSound c l) where
  abbrev IsOne : Effect → teis.Event → Type 0
  IsOne f me = IsManaged c l f.line (told f.told) me

  abbrev IsOneThere : Effect → terminals.Event → Type 0
  IsOneThere f te = IsManagedThere c l f.line (told f.told) te

  of-network : (me : teis.Event) → tei_laws.IsInRange me → IsOne (of_network c me l) me
  of-network me fits =
      let t = told_of_management (teis.told me l.management) in
      let m = teis.after me l.management in
      let o = (teis.told me l.management).change in
      let links = of-links c l s t m l.own o (tei_lemmas.changes_are_told me l.management fits s.management) in
      record {
        line = line-is c l s t m l.own o;
        stay = λ number few same. (links number few).0 (same-place o t m l.own number ∙ same);
        begin = λ number few other. (links number few).1 (λ same. other (sym (same-place o t m l.own number) ∙ same));
        notes = noted-is c l s t m l.own o;
        lost = lost-is c l s t m l.own o;
        given_up = given-is c l s t m l.own refl refl o;
      }
    where
      same-place : (o : Option Change) (t : LineTold) (m : Management) (own : Own) (number : ℕ)
          → get_or m.places (place_at number) None ≡ tei_at (place_at number) (of_change c o t (record l { management = m; own = own })).line
      same-place o t m own number = grind arith

  of-terminal : is_terminal c ≡ true → (te : terminals.Event) → terminal_laws.IsInRange te → IsOneThere (effect_of_terminal c te l) te
  of-terminal is te fits =
      let x = terminal_in l in
      let after_it = terminals.after te x in
      let t = told_of_management (terminals.told te x) in
      let m : Management = record l.management { reading = after_it.reading; places = after_it.places } in
      let own : Own = record { number = after_it.number; procedure = after_it.procedure; waiting = after_it.waiting } in
      let o = (terminals.told te x).change in
      let links = of-links c l s t m own o (leads te x fits (subst (λ b. IsOfSide b l.management l.own) is s.own).0).moves in
      record {
        line = line-is c l s t m own o;
        stay = λ number few same. (links number few).0 (same-place o t m own number ∙ same);
        begin = λ number few other. (links number few).1 (λ same. other (sym (same-place o t m own number) ∙ same));
        notes = noted-is c l s t m own o;
        lost = lost-is c l s t m own o ∙ none_lost te x;
        given_up = given-is c l s t m own refl refl o;
      }
    where
      same-place : (o : Option Change) (t : LineTold) (m : Management) (own : Own) (number : ℕ)
          → get_or m.places (place_at number) None ≡ tei_at (place_at number) (of_change c o t (record l { management = m; own = own })).line
      same-place o t m own number = grind arith

  -- an event of TEI management is of the one or of the other
  at-network : (me : teis.Event) → is_terminal c ≡ false → tei_laws.IsInRange me → IsOne (of_aim c (at_management me) l) me
  at-network me net fits =
      subst (λ b. IsOne (cond b (of_terminal_if c (at_a_terminal me) l) (of_network c me l)) me) (sym net) (of-network me fits)

  at-the-terminal : (me : teis.Event) (te : terminals.Event) → is_terminal c ≡ true → at_a_terminal me ≡ Some te → terminal_laws.IsInRange te → IsOneThere (of_aim c (at_management me) l) te
  at-the-terminal me te is same fits =
      subst (λ b. IsOneThere (cond b (of_terminal_if c (at_a_terminal me) l) (of_network c me l)) te) (sym is)
      (subst (λ o. IsOneThere (of_terminal_if c o l) te) (sym same) (of-terminal is te fits))

-- What a message that is brought is to the line.
both : (a b : Bool) → a ≡ true → b ≡ true → (a && b) ≡ true
both a b x y = grind arith

module _ (c : Config) (l : Line) (parts : Parts) where
  by-its-side : (c.side ≡ Network) ⊎ ((is_terminal c ≡ true) × (parts.address.command ≡ true)) → (me : teis.Event) → managed_at c parts c.side me ≡ at_management me
  by-its-side (inl net) me = ap (λ side. managed_at c parts side me) net
  by-its-side (inr x) me = go c.side
    where
      go : (side : Side) → managed_at c parts side me ≡ at_management me
      go Network = refl
      go User = ap (λ b. cond b (at_management me) (at_none (dropped Unserved))) (both (is_terminal c) parts.address.command x.0 x.1)

  serves-it : ServesMessages c parts → (me : teis.Event) → at_side c parts (at_management me) ≡ at_management me
  serves-it x me =
      ap (λ b. cond b (managed_at c parts c.side me) (at_none (dropped Unserved))) (le-leb (length parts.info) c.n201 x.1)
      ∙ by-its-side x.0 me

  its-aim : (m : Aim) → parts.address.sapi ≡ 63 → parts.address.tei ≡ 127 → addressed l parts.address (link_frame parts) m ≡ m
  its-aim m sapi group = grind arith

  aimed : (octets info : List ℕ) → reading (heard_side c) octets ≡ Ok parts → parts.address.sapi ≡ 63 → parts.address.tei ≡ 127 → (poll : Bool) → parts.control ≡ Control.Ui poll → parts.info ≡ info
      → ServesMessages c parts → aim_of_heard c l (stream_frame octets) ≡ at_management (teis.message info)
  aimed octets info read sapi group poll control is serves =
      ap (aim_of_reading c l) read ∙ ap (at_side c parts) (its-aim (message_of parts.control parts.info) sapi group ∙ ap (λ k. message_of k parts.info) control ∙ ap (λ i. at_management (teis.message i)) is)
      ∙ serves-it serves (teis.message info)

-- A message that is brought, an expiry, and a request of management that is granted.
module _ (c : Config) (l : Line) (s : IsSound c l) where
  abbrev Managed : Event → teis.Event → Type 0
  Managed e me = IsManaged c l (after c e l) (answer c e l) me

  abbrev ManagedThere : Event → terminals.Event → Type 0
  ManagedThere e te = IsManagedThere c l (after c e l) (answer c e l) te

  message-aim : (e : Event) (info : List ℕ) → BringsMessage c e info → (octets : List ℕ) × ((e ≡ hears (stream_frame octets)) × (aim_of_heard c l (stream_frame octets) ≡ at_management (teis.message info)))
  message-aim e info b = (b.heard.octets, (b.heard.by, aimed c l b.parts b.heard.octets info b.heard.read b.sapi b.group b.poll b.control b.info_is b.serves))

  by-message : (e : Event) (info : List ℕ) → is_terminal c ≡ false → BringsMessage c e info → Managed e (teis.message info)
  unfolding after answer
  by-message e info net b =
      let x = message-aim e info b in
      subst (λ e. Managed e (teis.message info)) (sym x.1.0)
      (subst (λ aim. IsManaged c l (of_aim c aim l).line (told (of_aim c aim l).told) (teis.message info)) (sym x.1.1) (at-network c l s (teis.message info) net tt))

  by-message-there : (e : Event) (info : List ℕ) → is_terminal c ≡ true → BringsMessage c e info → ManagedThere e (terminals.message info)
  unfolding after answer
  by-message-there e info is b =
      let x = message-aim e info b in
      subst (λ e. ManagedThere e (terminals.message info)) (sym x.1.0)
      (subst (λ aim. IsManagedThere c l (of_aim c aim l).line (told (of_aim c aim l).told) (terminals.message info)) (sym x.1.1)
      (at-the-terminal c l s (teis.message info) (terminals.message info) is refl tt))

  -- a request that is granted is of a TEI in range
  abbrev Granted : Request → Aim → Type 0
  Granted r aim = (aim_of_request r l ≡ aim) × (refusal c false r l ≡ None)

  proper : (r : Request) (aim : Aim) → Granted r aim → IsProper c l aim
  proper r aim g = subst (IsProper c l) (ap (λ o. unless_refused o (aim_of_request r l)) g.1 ∙ g.0) (request_proper c l r)

  by-aim : (r : Request) (aim : Aim) (me : teis.Event) → Granted r aim → IsManaged c l (of_aim c aim l).line (told (of_aim c aim l).told) me → Managed (request r) me
  unfolding after answer
  by-aim r aim me g h =
      subst (λ o. IsManaged c l (of_aim c (unless_refused o (aim_of_request r l)) l).line (unless_refused_told o (of_aim c (unless_refused o (aim_of_request r l)) l)) me) (sym g.1)
      (subst (λ aim. IsManaged c l (of_aim c aim l).line (told (of_aim c aim l).told) me) (sym g.0) h)

  by-aim-there : (r : Request) (aim : Aim) (te : terminals.Event) → Granted r aim → IsManagedThere c l (of_aim c aim l).line (told (of_aim c aim l).told) te → ManagedThere (request r) te
  unfolding after answer
  by-aim-there r aim te g h =
      subst (λ o. IsManagedThere c l (of_aim c (unless_refused o (aim_of_request r l)) l).line (unless_refused_told o (of_aim c (unless_refused o (aim_of_request r l)) l)) te) (sym g.1)
      (subst (λ aim. IsManagedThere c l (of_aim c aim l).line (told (of_aim c aim l).told) te) (sym g.0) h)

  granted : (e : Event) (r : Request) → (e ≡ request r) × (is_granted (answer c e l) ≡ true) → refusal c false r l ≡ None
  granted e r by = not-refused c r l (subst (λ e. is_granted (answer c e l) ≡ true) by.0 by.1)

  asked : (e : Event) (r : Request) (me : teis.Event) → is_terminal c ≡ false → aim_of_request r l ≡ at_management me → (e ≡ request r) × (is_granted (answer c e l) ≡ true) → Managed e me
  asked e r me net aim by =
      let g : Granted r (at_management me) = (aim, granted e r by) in
      subst (λ e. Managed e me) (sym by.0) (by-aim r (at_management me) me g (at-network c l s me net (proper r (at_management me) g)))

  asked-there : (e : Event) (r : Request) (me : teis.Event) (te : terminals.Event) → is_terminal c ≡ true → aim_of_request r l ≡ at_management me → at_a_terminal me ≡ Some te
      → (tei_laws.IsInRange me → terminal_laws.IsInRange te) → (e ≡ request r) × (is_granted (answer c e l) ≡ true) → ManagedThere e te
  asked-there e r me te is aim same range by =
      let g : Granted r (at_management me) = (aim, granted e r by) in
      subst (λ e. ManagedThere e te) (sym by.0) (by-aim-there r (at_management me) te g (at-the-terminal c l s me te is same (range (proper r (at_management me) g))))

  own-asked : (e : Event) (r : Request) (te : terminals.Event) → is_terminal c ≡ true → terminal_laws.IsInRange te → aim_of_request r l ≡ at_terminal te → (e ≡ request r) × (is_granted (answer c e l) ≡ true)
      → ManagedThere e te
  own-asked e r te is range aim by =
      subst (λ e. ManagedThere e te) (sym by.0) (by-aim-there r (at_terminal te) te (aim, granted e r by) (of-terminal c l s is te range))

  by-timer : is_terminal c ≡ false → Managed (expiry T201) teis.expiry
  unfolding after answer
  by-timer net = at-network c l s teis.expiry net tt

  by-timer-there : is_terminal c ≡ true → ManagedThere (expiry T202) terminals.expiry
  unfolding after answer
  by-timer-there is = of-terminal c l s is terminals.expiry tt

  pub is-managed-there : (e : Event) (te : terminals.Event) → is_terminal c ≡ true → IsOfTerminal c e (answer c e l) te → ManagedThere e te
  is-managed-there e (terminals.message info) is by = by-message-there e info is by
  is-managed-there e terminals.expiry is by = subst (λ e. ManagedThere e terminals.expiry) (sym by) (by-timer-there is)
  is-managed-there e terminals.ask is by = own-asked e AskTei terminals.ask is tt refl by
  is-managed-there e (terminals.verify tei) is by = own-asked e (VerifyTei tei) (terminals.verify tei) is tt refl by
  is-managed-there e (terminals.assign tei) is by = asked-there e (Assign tei) (teis.assign tei) (terminals.assign tei) is refl refl (λ range. range) by
  is-managed-there e (terminals.remove tei) is by = asked-there e (Remove tei) (teis.remove tei) (terminals.remove tei) is refl refl (λ range. tt) by
  is-managed-there e terminals.down is by = absurd by

  pub is-managed : (e : Event) (me : teis.Event) → is_terminal c ≡ false → IsOfManagement c e (answer c e l) me → Managed e me
  is-managed e (teis.message info) net by = by-message e info net by
  is-managed e teis.expiry net by = subst (λ e. Managed e teis.expiry) (sym by) (by-timer net)
  is-managed e (teis.assign tei) net by = asked e (Assign tei) (teis.assign tei) net refl by
  is-managed e (teis.remove tei) net by = asked e (Remove tei) (teis.remove tei) net refl by
  is-managed e (teis.check tei) net by = asked e (Check tei) (teis.check tei) net refl by
  is-managed e (teis.disown tei) net by = asked e (Disown tei) (teis.disown tei) net refl by
  is-managed e teis.down net by = absurd by

  -- Unit data that is granted.
  abbrev Waits : Event → UnitData → Type 0
  Waits e unit = (after c e l ≡ record l { units = l.units ++ unit ∷ [] }) × (answer c e l ≡ told nothing)

  waits : (unit : UnitData) → refusal c false (Request.Unit unit.service unit.tei unit.contents) l ≡ None → Waits (request (Request.Unit unit.service unit.tei unit.contents)) unit
  unfolding after answer
  waits unit none = grind arith

  pub is-unit : (e : Event) (unit : UnitData) → IsGranted e (answer c e l) unit → Waits e unit
  is-unit e unit g =
      subst (λ e. is_granted (answer c e l) ≡ true → Waits e unit) (sym g.by)
      (λ granted. waits unit (not-refused c (Request.Unit unit.service unit.tei unit.contents) l granted)) g.granted

-- Which part has the event, by what it aims at; or nothing changes.
module _ (c : Config) (l : Line) (s : IsSound c l) (e : Event) where
  abbrev Falls : Aim → Type 0
  Falls aim =
      let f = of_aim c aim l in
      IsProper c l aim → Ties c e (told f.told) aim → IsOfPart c l e (told f.told) ⊎ ((f.line ≡ l) × SaysNothing (told f.told))

  at-its-link : (service : Service) (tei place : ℕ) (event : LinkEvent) → Falls (at_link service tei place event)
  at-its-link service tei place event proper by = inl (of_link service tei place event (has-place l.management.places tei place s.management.table proper) by)

  timer-falls : (service : Service) (tei : ℕ) (timer : LinkTimer) (o : Option ℕ) → Falls (at_timer service tei timer o)
  timer-falls service tei timer None proper by = inr (refl, refl)
  timer-falls service tei timer (Some place) proper by = at-its-link service tei place (link_expired timer) proper by

  asked-falls : (service : Service) (tei : ℕ) (what : LinkRequest) (o : Option ℕ) → Falls (at_requested service tei what o)
  asked-falls service tei what None proper by = inr (refl, refl)
  asked-falls service tei what (Some place) proper by = at-its-link service tei place (link_requested what false) proper by

  deactivated-falls : (service : Service) (tei : ℕ) (o : Option ℕ) → Falls (at_deactivated service tei o)
  deactivated-falls service tei None proper by = inr (refl, refl)
  deactivated-falls service tei (Some place) proper by = at-its-link service tei place link_cleared proper by

-- What TEI management has, the network's has, or a terminal's.
module _ (c : Config) (l : Line) (s : IsSound c l) (e : Event) where
  abbrev Is : Effect → Type 0
  Is f = IsOfPart c l e (told f.told) ⊎ ((f.line ≡ l) × SaysNothing (told f.told))

  by-side : (me : teis.Event) → (is_terminal c ≡ false → Is (of_network c me l)) → (is_terminal c ≡ true → Is (of_terminal_if c (at_a_terminal me) l)) → Is (of_aim c (at_management me) l)
  by-side me here there = go (is_terminal c) refl
    where
      go : (b : Bool) → is_terminal c ≡ b → Is (cond b (of_terminal_if c (at_a_terminal me) l) (of_network c me l))
      go true is = there is
      go false net = here net

  message-falls : (info : List ℕ) → BringsMessage c e info → Is (of_aim c (at_management (teis.message info)) l)
  message-falls info b = by-side (teis.message info) (λ net. inl (of_management (teis.message info) net b)) (λ is. inl (of_terminal (terminals.message info) is b))

  own-expiry-falls : e ≡ expiry T202 → (b : Bool) → is_terminal c ≡ b → Is (effect_of_terminal c terminals.expiry l)
  own-expiry-falls by true is = inl (of_terminal terminals.expiry is by)
  own-expiry-falls by false net =
      subst (λ (course : Course). Is (of_change c course.told.change (told_of_management course.told) (with_terminal course.now l)))
      (sym (idle_course c l s (subst (λ b. IsOfSide b l.management l.own) net s.own).0)) (inr (refl, refl))

heard-falls : (c : Config) (l : Line) (s : IsSound c l) (e : StreamEvent) → Falls c l s (hears e) (aim_of_heard c l e)
heard-falls c l s e =
    heard-aims-at c l e (Falls c l s (hears e)) (λ cause proper by. inr (refl, refl))
    (λ service tei place what. at-its-link c l s (hears e) service tei place (link_received what))
    (λ parts ui proper by. message-falls c l s (hears e) parts.info (record {
      serves = ui.serves;
      parts = parts;
      heard = record { octets = ui.octets; by = ap hears ui.by; read = ui.read };
      sapi = ui.sapi;
      group = ui.group;
      poll = ui.poll;
      control = ui.control;
      info_is = refl;
    }))
    (λ parts octets is read service to proper by.
    inl (of_group parts service (record { octets = octets; by = ap hears is; read = read }) to))

module _ (c : Config) (l : Line) (s : IsSound c l) where
  expiry-falls : (timer : Timer) → Falls c l s (expiry timer) (aim_of_expiry timer l)
  expiry-falls (T200 service tei) = timer-falls c l s (expiry (T200 service tei)) service tei LinkTimer.T200 (place_in l tei)
  expiry-falls (T203 service tei) = timer-falls c l s (expiry (T203 service tei)) service tei LinkTimer.T203 (place_in l tei)
  expiry-falls T201 = λ proper by. by-side c l s (expiry T201) teis.expiry (λ net. inl (of_management teis.expiry net refl)) (λ is. inr (refl, refl))
  expiry-falls T202 = λ proper by. own-expiry-falls c l s (expiry T202) refl (is_terminal c) refl

  request-falls : (r : Request) → Falls c l s (request r) (aim_of_request r l)
  request-falls (Establish service tei) = asked-falls c l s (request (Establish service tei)) service tei LinkEstablish (place_in l tei)
  request-falls (Release service tei) = asked-falls c l s (request (Release service tei)) service tei LinkRelease (place_in l tei)
  request-falls (Data service tei contents) = asked-falls c l s (request (Data service tei contents)) service tei (LinkData contents) (place_in l tei)
  request-falls (SetBusy service tei) = asked-falls c l s (request (SetBusy service tei)) service tei LinkSetBusy (place_in l tei)
  request-falls (ClearBusy service tei) = asked-falls c l s (request (ClearBusy service tei)) service tei LinkClearBusy (place_in l tei)
  request-falls (Deactivate service tei) = deactivated-falls c l s (request (Deactivate service tei)) service tei (place_in l tei)
  request-falls (Request.Unit service tei contents) = λ proper by.
      inl (of_units (record { service = service; tei = tei; contents = contents }) (record { by = refl; granted = refl }))
  request-falls (Assign tei) = λ proper by.
      by-side c l s (request (Assign tei)) (teis.assign tei) (λ net. inl (of_management (teis.assign tei) net (refl, refl))) (λ is. inl (of_terminal (terminals.assign tei) is (refl, refl)))
  request-falls (Remove tei) = λ proper by.
      by-side c l s (request (Remove tei)) (teis.remove tei) (λ net. inl (of_management (teis.remove tei) net (refl, refl))) (λ is. inl (of_terminal (terminals.remove tei) is (refl, refl)))
  request-falls (Check tei) = λ proper by. by-side c l s (request (Check tei)) (teis.check tei) (λ net. inl (of_management (teis.check tei) net (refl, refl))) (λ is. inr (refl, refl))
  request-falls (Disown tei) = λ proper by. by-side c l s (request (Disown tei)) (teis.disown tei) (λ net. inl (of_management (teis.disown tei) net (refl, refl))) (λ is. inr (refl, refl))
  request-falls AskTei = λ proper by. inl (of_terminal terminals.ask proper (refl, refl))
  request-falls (VerifyTei tei) = λ proper by. inl (of_terminal (terminals.verify tei) proper (refl, refl))
  request-falls Down = λ proper by. inl (of_down refl)

  pub falls : (e : Event) → IsOfPart c l e (answer c e l) ⊎ ((after c e l ≡ l) × SaysNothing (answer c e l))
  unfolding after answer
  falls (hears e) = heard-falls c l s e (heard_proper c l e) (heard-ties c l e (told (of_aim c (aim_of_heard c l e) l).told))
  falls (expiry timer) = expiry-falls timer (expiry_proper c l timer) (expiry-ties c l timer (told (of_aim c (aim_of_expiry timer l) l).told))
  falls (request r) = go (refusal c false r l) refl
    where
      go : (o : Option Refusal) → refusal c false r l ≡ o
          → IsOfPart c l (request r) (unless_refused_told o (of_aim c (unless_refused o (aim_of_request r l)) l))
          ⊎ (((of_aim c (unless_refused o (aim_of_request r l)) l).line ≡ l) × SaysNothing (unless_refused_told o (of_aim c (unless_refused o (aim_of_request r l)) l)))
      go None none =
          request-falls r (subst (λ o. IsProper c l (unless_refused o (aim_of_request r l))) none (request_proper c l r))
          (request-ties c l (told (of_aim c (aim_of_request r l) l).told) refl r)
      go (Some why) some = inr (refl, tt)
  falls next = inl (of_next refl)

-- What is of no link is given up.
pub gives-up : (c : Config) (l : Line) → IsSound c l → GivesUp l (after c (request Down) l) (answer c (request Down) l)
unfolding after answer
gives-up c l s = by-down c l s (λ f. GivesUp l f.line (told f.told)) (record { line = refl; answer_is = refl })

is-down : (c : Config) (l : Line) (e : Event) → IsSound c l → e ≡ request Down → GivesUp l (after c e l) (answer c e l)
is-down c l e s is = subst (λ e. GivesUp l (after c e l) (answer c e l)) (sym is) (gives-up c l s)

pub one-event : (c : Config) (e : Event) (l : Line) → IsSound c l → IsOneEvent c e l (after c e l) (answer c e l)
one-event c e l s = record {
  link = λ service tei place event other on by. is-alone c l service tei place on e event other by;
  management = λ event net by. is-managed c l s e event net by;
  terminal = λ event is by. is-managed-there c l s e event is by;
  units = λ unit granted. is-unit c l s e unit granted;
  down = λ is. is-down c l e s is;
  takes = λ is. (ap (λ e. after c e l) is, ap (λ e. answer c e l) is);
  none = falls c l s e;
}
