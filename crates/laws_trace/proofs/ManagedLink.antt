-- What an event of TEI management is to the link of a service with a TEI: it stays as it is, or its TEI comes or
-- leaves; and it orders what stops the timer of a link whose TEI leaves.
use Rattle.laws_trace.proofs.Vocabulary.{◌≡◌, ℕ, ◌==◌, Bool, true, false, List, ◌++◌, Option, Some, None, refl, sym, ap, ◌∙◌, eq-eqb, true≢false, ◌⊎◌, inl, inr, none-some, Service, Order, Call, Packet, Management, IsSoundTable, Change, Gained, Left, Link, Config, of_change, Line, has_tei, link_in, link_of, terms, some-same, is-off, has-no-place, []}
use Rattle.laws_trace.proofs.Vocabulary.{append-nil, arith, get_or, set, get_or-set_other, option_map_or, filter-append, is_on-at, place_of-is, has-place, place_in, link_number, orders_for, Terms, eqb-true, fresh_link as fresh, line_after as after, IsSound, HasJoined, HasLeft, TeiIsInRange as IsInRange, Moves, elsewhere, emptied, emptied-read, filled-read, same-read}
use Rattle.laws_trace.proofs.Vocabulary.{and-false, TeiEvent, none-ordered}
use Rattle.laws_trace.proofs.OrdersOfLink.{its_orders, of-event, management-orders-none}
use Rattle.laws_trace.proofs.Facts.{its-own}
use Rattle.laws_trace.proofs.Addressed.{at-some-place}
use Rattle.laws_trace.proofs.ToldGivenUp.{none-in}
use Rattle.laws_trace.proofs.Vocabulary.{IsAt, subst, given_up_in, given_up_of, link_told}
use Rattle.model_line.specs.Event as line_event
use Rattle.model_link.specs.Events as link_event
use Rattle.model_teis.specs.Table.{is_on}
use Rattle.laws_line.proofs.Changes.{AreOfLine, Turn, turned, turned-there}
use Rattle.laws_trace.proofs.Vocabulary.{LineTold, at_management, of_aim}
use Rattle.model_teis.specs.terminal.Events.{Event as TerminalEvent}
use Rattle.model_line.proofs.Managed.{IsOwnEvent}
use Rattle.model_line.specs.Effect.{Effect, at_terminal}
use Rattle.model_line.specs.Line.{Own}

module _ (c : Config) (l : Line) (s : IsSound c l) (service : Service) (tei : ℕ) where
  abbrev itself : Link → Link
  itself x = x

  -- the same table, and the same links
  pub alike : (before after : Line) → after.management.places ≡ before.management.places → after.links ≡ before.links → link_of service tei after ≡ link_of service tei before
  alike before after places links = same-read fresh itself service tei before after places links

  -- It stays as it is, or its TEI comes or leaves.
  abbrev pub Remains : Line → Type 0
  Remains next =
      (link_of service tei next ≡ link_of service tei l)
      ⊎ ((link_of service tei next ≡ fresh) × (has_tei tei l ≡ true → has_tei tei next ≡ true → ⊥))

  -- A step of TEI management: a TEI comes, or leaves, or none does.
  module _ (told : LineTold) (m : Management) (own_part : Own) (table : IsSoundTable m.places) (ordered : AreOfLine told.orders) where
    abbrev next : Option Change → Line
    next o = (of_change c o told (record l { management = m; own = own_part })).line

    abbrev Stays : Option Change → Type 0
    Stays o = Remains (next o)

    gained-elsewhere : (by place : ℕ) → HasJoined l.management.places m.places by place → (by == tei) ≡ false → link_of service tei (next (Some (Gained by place))) ≡ link_of service tei l
    gained-elsewhere by place joined other =
        elsewhere fresh itself refl c l s m table place (Some by) joined.is_there joined.within service tei
        (λ same. true≢false (sym (eq-eqb by tei (some-same by tei same)) ∙ other)) (λ at. none-some tei (sym joined.was_free ∙ at))

    left-elsewhere : (by place : ℕ) → HasLeft l.management.places m.places by place → (by == tei) ≡ false → link_of service tei (next (Some (Left by place))) ≡ link_of service tei l
    left-elsewhere by place gone other =
        elsewhere fresh itself refl c l s m table place None gone.is_free gone.within service tei (λ same. none-some tei same)
        (λ at. true≢false (sym (eq-eqb by tei (some-same by tei (sym gone.was_there ∙ at))) ∙ other))

    left-fresh : (by place : ℕ) → HasLeft l.management.places m.places by place → (by == tei) ≡ true → link_of service tei (next (Some (Left by place))) ≡ fresh
    left-fresh by place gone same =
        emptied-read fresh itself refl c l s m table place None gone.is_free gone.within service tei refl (gone.was_there ∙ ap Some (eqb-true by tei same))

    comes : (by place : ℕ) → HasJoined l.management.places m.places by place → (b : Bool) → (by == tei) ≡ b → Stays (Some (Gained by place))
    comes by place joined true same =
        inr (
          filled-read fresh itself refl c l s m table place (Some by) joined.is_there joined.within service tei (ap Some (eqb-true by tei same)),
          λ was there. true≢false (sym was ∙ ap (λ n. has_tei n l) (sym (eqb-true by tei same)) ∙ joined.was_off),
        )
    comes by place joined false other = inl (gained-elsewhere by place joined other)

    leaves : (by place : ℕ) → HasLeft l.management.places m.places by place → (b : Bool) → (by == tei) ≡ b → Stays (Some (Left by place))
    leaves by place gone true same =
        let was-there = gone.was_there ∙ ap Some (eqb-true by tei same) in
        inr (
          left-fresh by place gone same,
          λ was there. true≢false (sym there
              ∙ is-off m.places tei (has-no-place m.places tei (emptied fresh itself refl c l s m table place None gone.is_free gone.within tei refl was-there))),
        )
    leaves by place gone false other = inl (left-elsewhere by place gone other)

    by-change : (o : Option Change) → Moves l.management.places o m.places → Stays o
    by-change None moves = inl (alike l (next None) moves refl)
    by-change (Some (Gained by place)) joined = comes by place joined (by == tei) refl
    by-change (Some (Left by place)) gone = leaves by place gone (by == tei) refl

    abbrev own_orders : List Order
    own_orders = told.orders

    own-orders-none : its_orders service tei own_orders ≡ []
    own-orders-none = management-orders-none service tei own_orders ordered

    abbrev its : Terms
    its = terms c service tei

    abbrev Ordered : Option Change → Type 0
    Ordered o =
        its_orders service tei (of_change c o told (record l { management = m; own = own_part })).told.orders
        ≡ orders_for its (link_of service tei l).running None (link_of service tei (next o)).running

    -- of a link that stays as it is none,
    as-before : (o : Option Change) → link_of service tei (next o) ≡ link_of service tei l → [] ≡ orders_for its (link_of service tei l).running None (link_of service tei (next o)).running
    as-before o same = sym (ap (λ (x : Link). orders_for its (link_of service tei l).running None x.running) same ∙ none-ordered its (link_of service tei l).running)

    -- and of one that comes none, as it had none,
    fresh-off : has_tei tei l ≡ false → link_of service tei l ≡ fresh
    fresh-off off = go (place_in l tei) refl
      where
        go : (p : Option ℕ) → place_in l tei ≡ p → link_of service tei l ≡ fresh
        go None none = ap (λ o. option_map_or (link_in l service) o fresh) none
        go (Some place) on = absurd (true≢false (sym (is_on-at l.management.places place tei (place_of-is l.management.places tei place on).1) ∙ off))

    -- but where the TEI leaves, that its timer stops.
    module _ (place : ℕ) where
      abbrev second_link : Link
      second_link = get_or (set l.links (link_number place Call) fresh) (link_number place Packet) fresh

      abbrev of_both : ℕ → List Order
      of_both n =
          (orders_for (terms c Call n) (link_in l Call place).running None None ++ orders_for (terms c Packet n) second_link.running None None) ++ own_orders

      split : (n : ℕ) → its_orders service tei (of_both n)
          ≡ its_orders service tei (orders_for (terms c Call n) (link_in l Call place).running None None)
          ++ its_orders service tei (orders_for (terms c Packet n) second_link.running None None)
      split n = grind (arith, filter-append, its_orders, own-orders-none, append-nil)

      its-left : (z : Service) → service ≡ z → its_orders service tei (of_both tei) ≡ orders_for its (link_in l service place).running None None
      its-left z is = grind (arith, split, its_orders, of-event, its-own, append-nil, get_or-set_other)

    leaves-ordered : (by place : ℕ) → HasLeft l.management.places m.places by place → (b : Bool) → (by == tei) ≡ b → Ordered (Some (Left by place))
    leaves-ordered by place gone false other = (grind (arith, split, its_orders, of-event, and-false)) ∙ as-before (Some (Left by place)) (left-elsewhere by place gone other)
    leaves-ordered by place gone true same = grind (arith, its_orders, eqb-true, its-left, left-fresh, has-place)

    step-ordered : (o : Option Change) → Moves l.management.places o m.places → Ordered o
    step-ordered o moves = grind (arith, own-orders-none, as-before, alike, gained-elsewhere, comes, eqb-true, fresh-off, leaves-ordered)

    -- A TEI is on the line until it leaves; as it does, its link gives up what it keeps.
    abbrev GivesUp : Option Change → Type 0
    GivesUp o =
        has_tei tei l ≡ true → has_tei tei (next o) ≡ false
        → given_up_in service (line_event.told (of_change c o told (record l { management = m; own = own_part })).told) ≡ given_up_of service (link_told its link_event.cleared (link_of service tei l))

    still-on : (p q : ℕ) (x : Option ℕ) → IsAt l.management.places p tei → m.places ≡ set l.management.places q x → (p ≡ q → ⊥) → is_on tei m.places ≡ true
    still-on p q x at is apart = is_on-at m.places p tei (ap (λ xs. get_or xs p None) is ∙ get_or-set_other l.management.places q p x None apart ∙ at)

    left-given : (by place : ℕ) (z : Service)
        → given_up_in z (line_event.told (of_change c (Some (Left by place)) told (record l { management = m; own = own_part })).told) ≡ given_up_of z (link_told (terms c z by) link_event.cleared (link_in l z place))
    left-given by place z = grind (arith, link_told, link_event.cleared, get_or-set_other, fresh)

    own-there : (place : ℕ) → IsAt l.management.places place tei → link_in l service place ≡ link_of service tei l
    own-there place at = sym (ap (λ o. option_map_or (link_in l service) o fresh) (has-place l.management.places tei place s.management.table at))

    gives-up : (o : Option Change) → Moves l.management.places o m.places → GivesUp o
    gives-up None moves on off = absurd (true≢false (sym on ∙ ap (is_on tei) (sym moves) ∙ off))
    gives-up (Some (Gained by place)) joined on off =
        let p = at-some-place l tei on in
        let at = (place_of-is l.management.places tei p.0 p.1).1 in
        absurd (true≢false (sym (still-on p.0 place (Some by) at joined.is_there (λ same. none-some tei (sym joined.was_free ∙ ap (λ n. get_or l.management.places n None) (sym same) ∙ at))) ∙ off))
    gives-up (Some (Left by place)) gone on off = go (by == tei) refl
      where
        go : (b : Bool) → (by == tei) ≡ b
            → given_up_in service (line_event.told (of_change c (Some (Left by place)) told (record l { management = m; own = own_part })).told) ≡ given_up_of service (link_told its link_event.cleared (link_of service tei l))
        go true same =
            let by-is = eqb-true by tei same in
            left-given by place service ∙ ap (λ n. given_up_of service (link_told (terms c service n) link_event.cleared (link_in l service place))) by-is
            ∙ ap (λ x. given_up_of service (link_told its link_event.cleared x)) (own-there place (subst (λ n. IsAt l.management.places place n) by-is gone.was_there))
        go false other =
            let p = at-some-place l tei on in
            let at = (place_of-is l.management.places tei p.0 p.1).1 in
            absurd (true≢false (sym (still-on p.0 place None at gone.is_free
            (λ same. true≢false (sym (eq-eqb by tei (some-same by tei (sym gone.was_there ∙ ap (λ n. get_or l.management.places n None) (sym same) ∙ at))) ∙ other))) ∙ off))

  -- So of each event of it, of whatever side.
  abbrev OrdersIts : Effect → Type 0
  OrdersIts f = its_orders service tei f.told.orders ≡ orders_for (terms c service tei) (link_of service tei l).running None (link_of service tei f.line).running

  each-ordered : (o : Option Change) (t : LineTold) (m : Management) (own_part : Own) → Turn l o t m → OrdersIts (of_change c o t (record l { management = m; own = own_part }))
  each-ordered o t m own_part turn = step-ordered t m own_part turn.table turn.ordered o turn.moves

  each-remains : (o : Option Change) (t : LineTold) (m : Management) (own_part : Own) → Turn l o t m → Remains (of_change c o t (record l { management = m; own = own_part })).line
  each-remains o t m own_part turn = by-change t m own_part turn.table turn.ordered o turn.moves

  pub management-ordered : (me : TeiEvent) → IsInRange me → OrdersIts (of_aim c (at_management me) l)
  management-ordered me fits = turned c l s OrdersIts each-ordered me fits

  pub managed : (me : TeiEvent) → IsInRange me → Remains (of_aim c (at_management me) l).line
  managed me fits = turned c l s (λ f. Remains f.line) each-remains me fits

  pub own-ordered : (te : TerminalEvent) → IsOwnEvent c te → OrdersIts (of_aim c (at_terminal te) l)
  own-ordered te proper = turned-there c l s OrdersIts each-ordered te proper

  pub own-managed : (te : TerminalEvent) → IsOwnEvent c te → Remains (of_aim c (at_terminal te) l).line
  own-managed te proper = turned-there c l s (λ f. Remains f.line) each-remains te proper

  abbrev GivesUpIts : Effect → Type 0
  GivesUpIts f =
      has_tei tei l ≡ true → has_tei tei f.line ≡ false
      → given_up_in service (line_event.told f.told) ≡ given_up_of service (link_told (terms c service tei) link_event.cleared (link_of service tei l))

  each-gives-up : (o : Option Change) (t : LineTold) (m : Management) (own_part : Own) → Turn l o t m → GivesUpIts (of_change c o t (record l { management = m; own = own_part }))
  each-gives-up o t m own_part turn = gives-up t m own_part turn.table turn.ordered o turn.moves

  pub management-gives-up : (me : TeiEvent) → IsInRange me → GivesUpIts (of_aim c (at_management me) l)
  management-gives-up me fits = turned c l s GivesUpIts each-gives-up me fits

  pub own-gives-up : (te : TerminalEvent) → IsOwnEvent c te → GivesUpIts (of_aim c (at_terminal te) l)
  own-gives-up te proper = turned-there c l s GivesUpIts each-gives-up te proper

  -- and nothing else does: what is told as given up is of a TEI that leaves.
  abbrev pub OfLeaving : Effect → Type 0
  OfLeaving f = (given_up_in service (line_event.told f.told) ≡ 0) ⊎ ((by : ℕ) × (has_tei by l ≡ true) × (has_tei by f.line ≡ false))

  each-leaving : (o : Option Change) (t : LineTold) (m : Management) (own_part : Own) → Turn l o t m → OfLeaving (of_change c o t (record l { management = m; own = own_part }))
  each-leaving None t m own_part turn = inl (none-in t turn.keeps.0 turn.keeps.1 service)
  each-leaving (Some (Gained by place)) t m own_part turn = inl (none-in t turn.keeps.0 turn.keeps.1 service)
  each-leaving (Some (Left by place)) t m own_part turn = inr (by, is_on-at l.management.places place by turn.moves.was_there, gone-off by place m turn.table turn.moves)
    where
      gone-off : (by place : ℕ) (m : Management) → IsSoundTable m.places → HasLeft l.management.places m.places by place → is_on by m.places ≡ false
      gone-off by place m table gone = is-off m.places by (has-no-place m.places by (emptied fresh itself refl c l s m table place None gone.is_free gone.within by refl gone.was_there))

  pub management-leaving : (me : TeiEvent) → IsInRange me → OfLeaving (of_aim c (at_management me) l)
  management-leaving me fits = turned c l s OfLeaving each-leaving me fits

  pub own-leaving : (te : TerminalEvent) → IsOwnEvent c te → OfLeaving (of_aim c (at_terminal te) l)
  own-leaving te proper = turned-there c l s OfLeaving each-leaving te proper
