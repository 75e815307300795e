-- A caller that obeys the orders of a line's answers runs the timers that the line runs.
use Rattle.model_line.proofs.Vocabulary.{◌≡◌, ◌≢◌, ℕ, ◌+◌, ◌*◌, ◌<◌, ◌==◌, ◌&&◌, Bool, true, false, is_some, List, ◌++◌, length, get_or, set, Option, Some, None, refl, ap, sym, ◌∙◌, subst, arith, length-set, eq-eqb, true≢false, cases_eq, get_or-set_same, get_or-set_other, none-some, Service, Call, Packet, same_service, is_same, Order, Terms, Timer, T201, T202, LinkTimer, Link, obeyed, runs}
use Rattle.model_line.proofs.Vocabulary.{timer_at}
use Rattle.model_line.proofs.Vocabulary.{Management, IsAt, IsSoundTable, place_of, at-off, at-within, place_of-is, Config, runs_at, is_running, Line, Own, link_number, link_in, terms, with_link, eqb-true, T200, T203, fresh, IsSound, link_cleared, link_told}
use Rattle.model_line.proofs.Numbers.{place_at-number, service_at-number, number_within}
use Rattle.model_teis.specs.Changes.{HasJoined, HasLeft}
use Rattle.model_teis.specs.network.Laws as tei_laws
use Rattle.model_line.proofs.Obeyed.{Steers, timer_of, as_it_was, steers-event, obeyed-append, service-same, services-equal, both-true}
use Rattle.model_line.proofs.Places.{has-no-place, has-place, stays-placed}

-- What holds of T201, of T202 and of both kinds holds of each timer.
pub each-timer : (P : Timer → Type 0) → P T201 → P T202 → ((k : LinkTimer) (service : Service) (tei : ℕ) → P (timer_of k service tei)) → (timer : Timer) → P timer
each-timer P x z y T201 = x
each-timer P x z y T202 = z
each-timer P x z y (T200 service tei) = y LinkTimer.T200 service tei
each-timer P x z y (T203 service tei) = y LinkTimer.T203 service tei

pub running-of : (k : LinkTimer) (service : Service) (tei : ℕ) (l : Line) → is_running (timer_of k service tei) l ≡ runs_at service k (place_of tei l.management.places) l
running-of k service tei l = grind arith

-- lines with the same table, check, procedure and links run the same timers
alike : (before after : Line) → after.links ≡ before.links → (k : LinkTimer) (service : Service) (o : Option ℕ) → runs_at service k o after ≡ runs_at service k o before
alike before after same k service o = grind arith

pub same-running : (before after : Line) → after.management.places ≡ before.management.places → is_some after.management.check ≡ is_some before.management.check
    → is_some after.own.procedure ≡ is_some before.own.procedure → after.links ≡ before.links
    → (timer : Timer) → is_running timer after ≡ is_running timer before
same-running before after places check procedure links timer = grind (arith, alike)

its-timer : (c : Config) (k : LinkTimer) (s : Service) (n : ℕ) → timer_at (terms c s n) k ≡ timer_of k s n
its-timer c k s n = grind arith

-- a number is that of one service and one place
pub same-number : (s s' : Service) (p p' : ℕ) → link_number p s ≡ link_number p' s' → (s ≡ s') × (p ≡ p')
same-number s s' p p' e = grind (arith, service_at-number, place_at-number)

pub some-same : (a b : ℕ) → Some a ≡ Some b → a ≡ b
some-same a b e = cc

-- An event of one link.
module _ (c : Config) (l : Line) (s : IsSound c l) (service : Service) (tei place : ℕ) (at : IsAt l.management.places place tei)
    (left : Timer → Bool → Bool) (orders : List Order) (y : Link) (steers : Steers (terms c service tei) left orders (link_in l service place) y) where
  abbrev pub x : Link
  x = link_in l service place

  abbrev pub n : ℕ
  n = link_number place service

  here : place_of tei l.management.places ≡ Some place
  here = has-place l.management.places tei place s.management.table at

  there : get_or (set l.links n y) n fresh ≡ y
  there = get_or-set_same l.links n y fresh (omega (arith, s.count, s.places, at-within l.management.places place tei at, number_within place c.terminals service (omega (arith, s.places, at-within l.management.places place tei at))))

  abbrev pub Steered : Timer → Type 0
  Steered timer = obeyed timer (left timer (is_running timer l)) orders ≡ is_running timer (with_link n y l)

  -- another link's is left, and runs where it ran
  apart : (s' : Service) (n' : ℕ) → (same_service service s' && (tei == n')) ≡ false → (p' : ℕ) → place_of n' l.management.places ≡ Some p' → link_number p' s' ≢ n
  apart s' n' other p' e same =
      let is = same-number s' service p' place same in
      let holds : IsAt l.management.places place n' = subst (λ p. IsAt l.management.places p n') is.1 (place_of-is l.management.places n' p' e).1 in
      grind (arith, some-same, true≢false, service-same, eq-eqb)

  same-place : (k : LinkTimer) (s' : Service) (n' : ℕ) → (same_service service s' && (tei == n')) ≡ false → (o : Option ℕ) → place_of n' l.management.places ≡ o
      → runs_at s' k o l ≡ runs_at s' k o (with_link n y l)
  same-place k s' n' other o e = grind (arith, get_or-set_other, apart)

  other-timer : (k : LinkTimer) (s' : Service) (n' : ℕ) → (same_service service s' && (tei == n')) ≡ false → Steered (timer_of k s' n')
  other-timer k s' n' other = grind (arith, running-of, same-place)

  link-timer : (k : LinkTimer) (s' : Service) (n' : ℕ) → Steered (timer_of k s' n')
  link-timer k s' n' = grind (arith, other-timer, both-true, services-equal, eqb-true, running-of, here, its-timer, there)

  pub one-steered : (timer : Timer) → Steered timer
  one-steered = each-timer Steered (steers.others T201 (is_running T201 l) refl refl) (steers.others T202 (is_running T202 l) refl refl) link-timer

pub and-false : (b : Bool) → (b && false) ≡ false
and-false b = grind arith

-- three lists of orders, one after the other
chain : (timer : Timer) (b b1 b2 b3 : Bool) (xs ys zs : List Order) → obeyed timer b xs ≡ b1 → obeyed timer b1 ys ≡ b2 → obeyed timer b2 zs ≡ b3
    → obeyed timer b (xs ++ ys ++ zs) ≡ b3
chain timer b b1 b2 b3 xs ys zs one two three = grind (arith, obeyed-append)

-- An event of TEI management.
module _ (c : Config) (l : Line) (s : IsSound c l) (m : Management) (own : Own) (sound : IsSoundTable m.places) (orders : List Order)
    (leaves : (k : LinkTimer) (s' : Service) (n' : ℕ) (b : Bool) → obeyed (timer_of k s' n') b orders ≡ b) where
  abbrev pub now : Line
  now = record l { management = m; own = own }

  -- the table stays
  pub management-stays : m.places ≡ l.management.places → (k : LinkTimer) (s' : Service) (n' : ℕ)
      → obeyed (timer_of k s' n') (is_running (timer_of k s' n') l) orders ≡ is_running (timer_of k s' n') now
  management-stays same k s' n' = grind (arith, leaves, running-of, alike)

  -- both links of a place begin anew
  module _ (place : ℕ) (o : Option ℕ) (is : m.places ≡ set l.management.places place o) (within : place < length l.management.places) where
    abbrev pub both : List Link
    both = set (set l.links (link_number place Call) fresh) (link_number place Packet) fresh

    abbrev pub anew : Line
    anew = record l { management = m; own = own; links = both }

    away : (p : ℕ) (s' : Service) → p ≢ place → get_or both (link_number p s') fresh ≡ get_or l.links (link_number p s') fresh
    away p s' other = grind (arith, get_or-set_other, same-number)

    -- each other TEI's timers run where they ran
    elsewhere : (k : LinkTimer) (s' : Service) (n' : ℕ) → (o ≡ Some n' → ⊥) → (IsAt l.management.places place n' → ⊥)
        → is_running (timer_of k s' n') l ≡ is_running (timer_of k s' n') anew
    elsewhere k s' n' comes was =
        running-of k s' n' l ∙ go (place_of n' l.management.places) refl
        ∙ ap (λ p. runs_at s' k p (record l { management = m; own = own; links = both })) (sym (stays-placed l.management.places m.places place o sound is within n' comes was))
        ∙ sym (running-of k s' n' (record l { management = m; own = own; links = both }))
      where
        go : (p : Option ℕ) → place_of n' l.management.places ≡ p → runs_at s' k p l ≡ runs_at s' k p (record l { management = m; own = own; links = both })
        go None e = refl
        go (Some p) e =
            ap (λ (z : Link). runs k z.running) (sym (away p s' (λ same. was (subst (λ i. IsAt l.management.places i n') same (place_of-is l.management.places n' p e).1))))

    long : 2 * place + 1 < length l.links
    long = omega (arith, within, s.count, s.places)

    begins : (s' : Service) → get_or both (link_number place s') fresh ≡ fresh
    begins s' = grind (arith, get_or-set_other, get_or-set_same, long, length-set)

    filled : get_or m.places place None ≡ o
    filled = ap (λ ps. get_or ps place None) is ∙ get_or-set_same l.management.places place o None within

  -- a TEI comes: none of its timers ran, and none runs
  module _ (tei place : ℕ) (joined : HasJoined l.management.places m.places tei place) where
    abbrev pub opened : Line
    opened = anew place (Some tei) joined.is_there joined.within

    its-own : (k : LinkTimer) (s' : Service) → is_running (timer_of k s' tei) l ≡ is_running (timer_of k s' tei) opened
    its-own k s' =
        running-of k s' tei l ∙ ap (λ p. runs_at s' k p l) (has-no-place l.management.places tei (λ i at. at-off l.management.places i tei joined.was_off at))
        ∙ ap (λ (z : Link). runs k z.running) (sym (begins place (Some tei) joined.is_there joined.within s'))
        ∙ ap (λ p. runs_at s' k p (anew place (Some tei) joined.is_there joined.within)) (sym (has-place m.places tei place sound (filled place (Some tei) joined.is_there joined.within)))
        ∙ sym (running-of k s' tei (anew place (Some tei) joined.is_there joined.within))

    pub comes : (k : LinkTimer) (s' : Service) (n' : ℕ) → obeyed (timer_of k s' n') (is_running (timer_of k s' n') l) orders ≡ is_running (timer_of k s' n') opened
    comes k s' n' = grind (arith, eqb-true, its-own, elsewhere, eq-eqb, some-same, none-some)

  -- a TEI leaves: its timers are stopped
  module _ (tei place : ℕ) (gone : HasLeft l.management.places m.places tei place) where
    abbrev pub closed : Line
    closed = anew place None gone.is_free gone.within

    abbrev pub first : Link
    first = link_in l Call place

    abbrev pub second : Link
    second = get_or (set l.links (link_number place Call) fresh) (link_number place Packet) fresh

    second-is : second ≡ link_in l Packet place
    second-is = get_or-set_other l.links (link_number place Call) (link_number place Packet) fresh fresh (λ e. omega (arith, e))

    abbrev pub call : List Order
    call = (link_told (terms c Call tei) link_cleared first).orders

    abbrev pub packet : List Order
    packet = (link_told (terms c Packet tei) link_cleared second).orders

    by-call : Steers (terms c Call tei) as_it_was call first fresh
    by-call = steers-event (terms c Call tei) link_cleared first

    placed : place_of tei l.management.places ≡ Some place
    placed = has-place l.management.places tei place s.management.table gone.was_there

    stopped : (k : LinkTimer) (s' : Service) → is_running (timer_of k s' tei) closed ≡ false
    stopped k s' =
        running-of k s' tei (anew place None gone.is_free gone.within)
        ∙ ap (λ p. runs_at s' k p (anew place None gone.is_free gone.within)) (has-no-place m.places tei nowhere)
      where
        nowhere : (i : ℕ) → IsAt m.places i tei → ⊥
        nowhere i at = grind (arith, none-some, filled, cases_eq, apart, get_or-set_other)

    ran : (k : LinkTimer) (s' : Service) → is_running (timer_of k s' tei) l ≡ runs k (link_in l s' place).running
    ran k s' = running-of k s' tei l ∙ ap (λ p. runs_at s' k p l) placed

    its-own-left : (k : LinkTimer) (s' : Service) → obeyed (timer_of k s' tei) (is_running (timer_of k s' tei) l) (call ++ packet ++ orders) ≡ false
    its-own-left k s' = grind (arith, chain, call, packet, obeyed, ran, runs, first, its-timer, by-call, steers-event, second-is)

    pub goes : (k : LinkTimer) (s' : Service) (n' : ℕ) → obeyed (timer_of k s' n') (is_running (timer_of k s' n') l) (call ++ packet ++ orders) ≡ is_running (timer_of k s' n') closed
    goes k s' n' = go (tei == n') refl
      where
        go : (b : Bool) → (tei == n') ≡ b → obeyed (timer_of k s' n') (is_running (timer_of k s' n') l) (call ++ packet ++ orders) ≡ is_running (timer_of k s' n') closed
        go true e = grind (arith, eqb-true, its-own-left, stopped)
        go false e = grind (arith, apart, and-false, chain, leaves, elsewhere, none-some, eq-eqb, some-same)

    -- a timer that is no link's
    pub own-goes : (timer : Timer) → ((t : Terms) (k : LinkTimer) → is_same (timer_at t k) timer ≡ false) → (before after : Bool) → obeyed timer before orders ≡ after
        → obeyed timer before (call ++ packet ++ orders) ≡ after
    own-goes timer other before after follows =
        chain timer before before before after call packet orders
        (by-call.others timer before (other (terms c Call tei) LinkTimer.T200) (other (terms c Call tei) LinkTimer.T203))
        ((steers-event (terms c Packet tei) link_cleared second).others timer before (other (terms c Packet tei) LinkTimer.T200) (other (terms c Packet tei) LinkTimer.T203))
        follows
