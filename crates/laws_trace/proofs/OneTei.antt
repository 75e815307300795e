-- All that an event of a line gives up is of one TEI.
use Rattle.laws_trace.proofs.Vocabulary.{◌≡◌, ℕ, ◌<◌, ◌==◌, ◌&&◌, ◌||◌, Bool, true, false, cond, not, get_or, set, Option, Some, None, refl, sym, ap, ◌∙◌, ◌⊎◌, inl, inr, ⊎_elim, arith, true≢false, and_parts, eq-eqb, eqb-true, none-some, some-same, get_or-set_other, get_or-set_same}
use Rattle.laws_trace.proofs.Vocabulary.{Service, Config, Answer, PoolFull, refused, Line, has_tei, place_in, aim_of, aim_of_heard, aim_of_expiry, aim_of_request, unless_refused, refusal, IsProper, heard_proper, expiry_proper, request_proper, IsAt, Management, Change, Gained, Left, HasLeft, IsSoundTable, Moves, place_of-is, is_on-at, is-off}
use Rattle.laws_trace.proofs.Vocabulary.{Aim, at_none, at_link, at_management, at_units, at_no_link, of_aim, of_change, LineTold, IsSound, IsInRange, by-down, hears, expiry, request, next, Event, seen, Card, line_at, at, has_lines, by_room, line_sound, after, card_answer as answer, CardIsSound}
use Rattle.model_line.specs.Effect.{at_terminal, of_network, of_terminal, told_of_management}
use Rattle.model_line.specs.Line.{Own}
use Rattle.model_line.specs.Machine as lines
use Rattle.model_card.specs.Event as card_event
use Rattle.model_teis.specs.Table.{is_on, place_of, freed}
use Rattle.model_teis.specs.network.Rows as rows
use Rattle.model_teis.specs.network.Events as teis
use Rattle.model_teis.specs.terminal.Machine.{Terminal}
use Rattle.model_teis.specs.terminal.Rows as terminal_rows
use Rattle.model_teis.specs.terminal.Events as terminals
use Rattle.lapd_frame.specs.declared.refusals.Refusal.{Refusal}
use Rattle.model_link.specs.Events as link
use Rattle.model_line.specs.Line.{is_terminal, terminal_in, with_terminal}
use Rattle.model_line.specs.Request.{Request}
use Rattle.model_line.specs.Requested.{at_requested, at_deactivated}
use Rattle.laws_trace.specs.GivenUpIsTold.{named_by}
use Rattle.laws_trace.proofs.ManagingTables.{on-leaving}
use Rattle.laws_line.proofs.Changes.{Turn, turned, turned-there}
use Rattle.laws_trace.proofs.Addressed.{at-some-place}
use Rattle.laws_trace.proofs.KeptOfLine.{none-lost}
use Rattle.laws_trace.proofs.LinkLed.{on-line}
use Rattle.laws_trace.proofs.NewsOfLeaving.{next-keeps}
use Rattle.laws_trace.proofs.OneLink.{is_at_link}
use Rattle.laws_trace.proofs.PlacesSeen.{lost_in}
use Rattle.laws_trace.proofs.Runs.{nothing-seen}

module _ (c : Config) (l : Line) (s : IsSound c l) where
  -- A TEI leaves the line,
  abbrev pub Leaves : ℕ → Line → Type 0
  Leaves tei new = (has_tei tei l ≡ true) × (has_tei tei new ≡ false)

  -- and no other one does.
  abbrev One : ℕ → ℕ → Line → Type 0
  One tei by new = Leaves tei new → Leaves by new → tei ≡ by

  still : (tei : ℕ) → is_on tei l.management.places ≡ true → (m : Management) (q : ℕ) (x : Option ℕ) → m.places ≡ set l.management.places q x
      → ((p : ℕ) → IsAt l.management.places p tei → p ≡ q → ⊥) → is_on tei m.places ≡ true
  still tei on m q x is apart =
      let p = at-some-place l tei on in
      let at = (place_of-is l.management.places tei p.0 p.1).1 in
      is_on-at m.places p.0 tei (ap (λ xs. get_or xs p.0 None) is ∙ get_or-set_other l.management.places q p.0 x None (apart p.0 at) ∙ at)

  -- It is the one that the change names,
  left-is : (tei by place : ℕ) (m : Management) → HasLeft l.management.places m.places by place → is_on tei l.management.places ≡ true → is_on tei m.places ≡ false → by ≡ tei
  left-is tei by place m gone on off = go (by == tei) refl
    where
      go : (b : Bool) → (by == tei) ≡ b → by ≡ tei
      go true same = eqb-true by tei same
      go false other =
          absurd (true≢false (sym (still tei on m place None gone.is_free
          (λ p at same. true≢false (sym (eq-eqb by tei (some-same by tei (sym gone.was_there ∙ ap (λ n. get_or l.management.places n None) (sym same) ∙ at))) ∙ other))) ∙ off))

  pub left-by : (tei : ℕ) (o : Option Change) (m : Management) → Moves l.management.places o m.places → has_tei tei l ≡ true → is_on tei m.places ≡ false → (place : ℕ) × (o ≡ Some (Left tei place))
  left-by tei None m same on off = absurd (true≢false (sym on ∙ ap (is_on tei) (sym same) ∙ off))
  left-by tei (Some (Gained its place)) m joined on off =
      absurd (true≢false (sym (still tei on m place (Some its) joined.is_there
      (λ p at same. none-some tei (sym joined.was_free ∙ ap (λ n. get_or l.management.places n None) (sym same) ∙ at))) ∙ off))
  left-by tei (Some (Left its place)) m gone on off = (place, ap (λ n. Some (Left n place)) (left-is tei its place m gone on off))

  pub change-stays : (tei : ℕ) (o : Option Change) (t : LineTold) (k : Line) → has_tei tei (of_change c o t k).line ≡ has_tei tei k
  change-stays tei o t k = grind arith

  -- and so there is one at most,
  same-left : (tei by p q : ℕ) (o : Option Change) → o ≡ Some (Left tei p) → o ≡ Some (Left by q) → tei ≡ by
  same-left tei by p q o x y = grind arith

  each-one : (tei by : ℕ) (o : Option Change) (t : LineTold) (m : Management) (own : Own) → Turn l o t m → One tei by (of_change c o t (record l { management = m; own = own })).line
  each-one tei by o t m own turn x y =
      let new = record l { management = m; own = own } in
      let p = left-by tei o m turn.moves x.0 (sym (change-stays tei o t new) ∙ x.1) in
      let q = left-by by o m turn.moves y.0 (sym (change-stays by o t new) ∙ y.1) in
      same-left tei by p.0 q.0 o p.1 q.1

  -- by what the event aims at.
  aim-one : (tei by : ℕ) (aim : Aim) → IsProper c l aim → One tei by (of_aim c aim l).line
  aim-one tei by (at_management me) proper = turned c l s (λ f. One tei by f.line) (each-one tei by) me proper
  aim-one tei by (at_terminal te) proper = turned-there c l s (λ f. One tei by f.line) (each-one tei by) te proper
  aim-one tei by at_no_link proper = by-down c l s (λ f. One tei by f.line) (λ x y. absurd (true≢false (sym x.0 ∙ x.1)))
  aim-one tei by (at_none what) proper = λ x y. absurd (true≢false (sym x.0 ∙ x.1))
  aim-one tei by (at_units unit) proper = λ x y. absurd (true≢false (sym x.0 ∙ x.1))
  aim-one tei by (at_link its n place event) proper = λ x y. absurd (true≢false (sym x.0 ∙ x.1))

  one-leaves : (tei by : ℕ) (e : Event) → One tei by (lines.after c e l)
  unfolding lines.after
  one-leaves tei by (hears what) = aim-one tei by (aim_of_heard c l what) (heard_proper c l what)
  one-leaves tei by (expiry timer) = aim-one tei by (aim_of_expiry timer l) (expiry_proper c l timer)
  one-leaves tei by (request r) = aim-one tei by (unless_refused (refusal c false r l) (aim_of_request r l)) (request_proper c l r)
  one-leaves tei by next = λ x y. absurd (true≢false (sym (next-keeps tei c l s x.0) ∙ x.1))

  -- As an event is one of a link, no TEI leaves.
  aim-stays : (service : Service) (tei by : ℕ) (aim : Aim) → is_at_link service tei aim ≡ true → Leaves by (of_aim c aim l).line → ⊥
  aim-stays service tei by aim its-own x = grind (arith, true≢false)

  pub link-stays : (service : Service) (tei by : ℕ) (e : Event) → is_at_link service tei (aim_of c e l) ≡ true → Leaves by (lines.after c e l) → ⊥
  unfolding lines.after
  link-stays service tei by e h h' = grind (arith, aim-stays, true≢false)

  -- and it is of one TEI.
  one-link : (service other : Service) (tei by : ℕ) (aim : Aim) → is_at_link service tei aim ≡ true → is_at_link other by aim ≡ true → tei ≡ by
  one-link service other tei by aim x y = grind (arith, eqb-true, and_parts, true≢false)

-- Whether the link of a TEI gives up what it keeps.
abbrev pub ending : Service → ℕ → Event → Line → Line → Answer → Bool
ending service tei what before new a = has_tei tei before && (lost_in service tei (seen what a) || not (has_tei tei new))

module _ (c : Config) (ranged : IsInRange c) (l : Line) (s : IsSound c l) (e : Event) where
  abbrev new : Line
  new = lines.after c e l

  abbrev a : Answer
  a = lines.answer c e l

  -- The event is one of this link, or its TEI leaves by it.
  abbrev pub IsOf : Service → ℕ → Type 0
  IsOf service tei = (is_at_link service tei (aim_of c e l) ≡ true) ⊎ Leaves c l s tei new

  pub of-tei : (service : Service) (tei : ℕ) → (ending service tei e l new a ≡ false) ⊎ IsOf service tei
  of-tei service tei = by-place (place_in l tei) refl
    where
      by-place : (p : Option ℕ) → place_in l tei ≡ p → (ending service tei e l new a ≡ false) ⊎ IsOf service tei
      by-place None off = inl (ap (λ b. b && (lost_in service tei (seen e a) || not (has_tei tei new))) (is-off l.management.places tei off))
      by-place (Some place) on = at-link (is_at_link service tei (aim_of c e l)) refl
        where
          by-tei : (b : Bool) → is_at_link service tei (aim_of c e l) ≡ false → has_tei tei new ≡ b → (ending service tei e l new a ≡ false) ⊎ IsOf service tei
          by-tei true other stays =
              inl (ap (λ b. b && (lost_in service tei (seen e a) || not (has_tei tei new))) (on-line l tei place on)
              ∙ ap (λ b. b || not (has_tei tei new)) (none-lost c ranged l s service tei place on e other stays) ∙ ap not stays)
          by-tei false other left = inr (inr (on-line l tei place on, left))

          at-link : (b : Bool) → is_at_link service tei (aim_of c e l) ≡ b → (ending service tei e l new a ≡ false) ⊎ IsOf service tei
          at-link true own = inr (inl own)
          at-link false other = by-tei (has_tei tei new) other refl

  same-tei : (service other : Service) (tei by : ℕ) → IsOf service tei → IsOf other by → tei ≡ by
  same-tei service other tei by (inl x) (inl y) = one-link c l s service other tei by (aim_of c e l) x y
  same-tei service other tei by (inl x) (inr y) = absurd (link-stays c l s service tei by e x y)
  same-tei service other tei by (inr x) (inl y) = absurd (link-stays c l s other by tei e y x)
  same-tei service other tei by (inr x) (inr y) = one-leaves c l s tei by e x y

-- A TEI that is removed leaves, and no other one does.
module _ (m : Management) (by x : ℕ) where
  off-places : (teis.unless_refused None (rows.take_off by) m).now.places ≡ freed m.places (place_of by m.places)
  off-places = grind arith

  removed : IsSoundTable m.places → (is_on x (teis.after (teis.remove by) m).places ≡ is_on x m.places) ⊎ (is_on x (teis.after (teis.remove by) m).places ≡ (not (x == by) && is_on x m.places))
  unfolding teis.course
  removed sound = grind (arith, off-places, on-leaving)

module _ (t : Terminal) (by x : ℕ) where
  off-there : (terminals.unless_refused None (terminal_rows.take_off by) t).now.places ≡ freed t.places (place_of by t.places)
  off-there = grind arith

  removed-there : IsSoundTable t.places → (is_on x (terminals.after (terminals.remove by) t).places ≡ is_on x t.places) ⊎ (is_on x (terminals.after (terminals.remove by) t).places ≡ (not (x == by) && is_on x t.places))
  unfolding terminals.course
  removed-there sound = grind (arith, off-there, on-leaving)

-- What a request that names a TEI gives up is of this TEI.
module _ (c : Config) (l : Line) (s : IsSound c l) (service : Service) (tei by : ℕ) where
  at-requested : (its : Service) (n : ℕ) (q : link.Request) (p : Option ℕ) → is_at_link service tei (at_requested its n q p) ≡ true → tei ≡ n
  at-requested its n q p x = grind (arith, eqb-true, and_parts, true≢false)

  at-deactivated : (its : Service) (n : ℕ) (p : Option ℕ) → is_at_link service tei (at_deactivated its n p) ≡ true → tei ≡ n
  at-deactivated its n p x = grind (arith, eqb-true, and_parts, true≢false)

  at-named : (r : Request) (o : Option Refusal) → named_by r ≡ Some by → is_at_link service tei (unless_refused o (aim_of_request r l)) ≡ true → tei ≡ by
  at-named r o named x = grind (arith, true≢false, at-requested, some-same, at-deactivated, none-some)

  abbrev Goes : Aim → Type 0
  Goes aim = Leaves c l s tei (of_aim c aim l).line

  stays-requested : (its : Service) (n : ℕ) (q : link.Request) (p : Option ℕ) → Goes (at_requested its n q p) → ⊥
  stays-requested its n q p x = grind (arith, true≢false)

  stays-deactivated : (its : Service) (n : ℕ) (p : Option ℕ) → Goes (at_deactivated its n p) → ⊥
  stays-deactivated its n p x = grind (arith, true≢false)

  -- The one that is removed is it.
  it-is : (n : ℕ) (now : Bool) → has_tei tei l ≡ true → now ≡ false → (now ≡ has_tei tei l) ⊎ (now ≡ (not (tei == n) && has_tei tei l)) → tei ≡ n
  it-is n now on off h = grind (arith, true≢false, eqb-true)

  removed-is : (n : ℕ) → Goes (at_management (teis.remove n)) → tei ≡ n
  removed-is n x = go (is_terminal c) x.1
    where
      go : (b : Bool) → has_tei tei (cond b (of_terminal c (terminals.remove n) l) (of_network c (teis.remove n) l)).line ≡ false → tei ≡ n
      go true off =
          let new = with_terminal (terminals.after (terminals.remove n) (terminal_in l)) l in
          it-is n (has_tei tei new) x.0 (sym (change-stays c l s tei (terminals.told (terminals.remove n) (terminal_in l)).change (told_of_management (terminals.told (terminals.remove n) (terminal_in l))) new) ∙ off)
          (removed-there (terminal_in l) n tei s.management.table)
      go false off =
          let new = record l { management = teis.after (teis.remove n) l.management } in
          it-is n (has_tei tei new) x.0 (sym (change-stays c l s tei (teis.told (teis.remove n) l.management).change (told_of_management (teis.told (teis.remove n) l.management)) new) ∙ off)
          (removed l.management n tei s.management.table)

  left-named : (r : Request) (o : Option Refusal) → named_by r ≡ Some by → Goes (unless_refused o (aim_of_request r l)) → tei ≡ by
  left-named r o named x = grind (arith, true≢false, stays-requested, stays-deactivated, removed-is, some-same, none-some)

  asked-named : (r : Request) → named_by r ≡ Some by → (is_at_link service tei (aim_of c (request r) l) ≡ true) ⊎ Leaves c l s tei (lines.after c (request r) l) → tei ≡ by
  unfolding lines.after
  asked-named r named h = grind (arith, at-named, left-named)

-- What holds of an event of a line, and of one that is refused as the pool is full, holds at a card.
module _ (card : Card) (number : ℕ) (what : Event) (s : CardIsSound card) (here : number < card.config.lines) (P : Line → Answer → Type 0) where
  abbrev its : Line
  its = line_at number card

  pub at-card : (lines.takes_slot card.config what its ≡ true → P its (refused PoolFull))
      → (IsSound card.config its → P (lines.after card.config what its) (lines.answer card.config what its))
      → P (line_at number (after (card_event.at number what) card)) (answer (card_event.at number what) card)
  at-card full room = grind (arith, by_room, card_event.at, and_parts, lines.answer, get_or-set_same, lines.after, line_sound, has_lines)

-- A full pool gives up nothing.
stays-so : (b : Bool) → (b && (false || not b)) ≡ false
stays-so b = grind arith

pub full-ends : (service : Service) (tei : ℕ) (card : Card) (number : ℕ) (what : Event) → lines.takes_slot card.config what (line_at number card) ≡ true
    → ending service tei what (line_at number card) (line_at number card) (refused PoolFull) ≡ false
full-ends service tei card number what takes = grind (arith, lost_in, nothing-seen, stays-so)

-- Two links that give up what they keep are of one TEI: at a line, and at a card.
module _ (service other : Service) (tei by : ℕ) where
  abbrev pub IsOne : Event → Line → Line → Answer → Type 0
  IsOne e before new a = (ending service tei e before new a ≡ false) ⊎ (ending other by e before new a ≡ false) ⊎ (tei ≡ by)

  one-line : (c : Config) → IsInRange c → (l : Line) → IsSound c l → (e : Event) → IsOne e l (lines.after c e l) (lines.answer c e l)
  one-line c ranged l s e =
      ⊎_elim (λ none. inl none)
      (λ x. ⊎_elim (λ none. inr (inl none)) (λ y. inr (inr (same-tei c ranged l s e service other tei by x y))) (of-tei c ranged l s e other by))
      (of-tei c ranged l s e service tei)

  pub one-tei : (card : Card) (number : ℕ) (what : Event) → CardIsSound card → number < card.config.lines
      → IsOne what (line_at number card) (line_at number (after (card_event.at number what) card)) (answer (card_event.at number what) card)
  one-tei card number what s here =
      at-card card number what s here (IsOne what (line_at number card)) (λ takes. inl (full-ends service tei card number what takes))
      (λ safe. one-line card.config s.config (line_at number card) safe what)

-- So is one that gives up what it keeps by a request that names a TEI.
module _ (service : Service) (tei by : ℕ) (r : Request) (named : named_by r ≡ Some by) where
  abbrev pub IsNamed : Line → Line → Answer → Type 0
  IsNamed before new a = (ending service tei (request r) before new a ≡ false) ⊎ (tei ≡ by)

  named-line : (c : Config) → IsInRange c → (l : Line) → IsSound c l → IsNamed l (lines.after c (request r) l) (lines.answer c (request r) l)
  named-line c ranged l s = ⊎_elim (λ none. inl none) (λ x. inr (asked-named c l s service tei by r named x)) (of-tei c ranged l s (request r) service tei)

  pub named-tei : (card : Card) (number : ℕ) → CardIsSound card → number < card.config.lines
      → IsNamed (line_at number card) (line_at number (after (card_event.at number (request r)) card)) (answer (card_event.at number (request r)) card)
  named-tei card number s here =
      at-card card number (request r) s here (IsNamed (line_at number card)) (λ takes. inl (full-ends service tei card number (request r) takes))
      (λ safe. named-line card.config s.config (line_at number card) safe)
