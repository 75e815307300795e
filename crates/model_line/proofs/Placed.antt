-- What an event of a line starts is of TEIs on the line, and a TEI that is on it before and after is at one place.
use Rattle.model_line.proofs.Vocabulary.{◌≡◌, ℕ, ◌<◌, Bool, true, false, cond, not, ◌&&◌, List, [], ◌∷◌, ◌++◌, length, get_or, set, is_some, Option, Some, None, IsSome, option_map, refl, ap, sym, ◌∙◌, subst, arith, inl, inr, cases_eq, get_or-set_same, get_or-set_other, none-some, Service, Call, Packet, Order, LinkTimer, Terms, Link, Given, runs, orders_for, timer_at, Management, IsAt, Places}
use Rattle.model_line.proofs.Vocabulary.{Change, Gained, Left, at-off, place_of-is, TeiEvent, TerminalEvent, tei_down, Refusal, refusal, unless_refused, unless_refused_told, aim_of, aim_of_request, Config, Event, hears, expiry, request, next, gave, orders_in, Line, fresh, with_link, link_number, link_in, place_in, place_at, service_at, terms, link_at, Aim}
use Rattle.model_line.proofs.Vocabulary.{at_link, at_management, at_terminal, at_no_link, of_aim, of_change, LineTold, Own, without_units, Effect, Taken, with_unit, with_given_frame, next_of, after, answer, IsSound, link_cleared, link_given, link_told, link_offer, LinkEvent, course}
use Rattle.std.proofs.lemmas.Bool.{false≢true}
use Rattle.lapd_frame.specs.declared.timers.Order.TheVariants.{Start, Stop}
use Rattle.model_teis.specs.network.Laws as tei_laws
use Rattle.model_link.specs.Told.{order_for}
use Rattle.model_line.proofs.Downs.{down-sound}
use Rattle.model_line.proofs.Following.{some-same}
use Rattle.model_line.proofs.Managed.{IsOwnEvent, Step, by-managed, by-own-event, more_of}
use Rattle.model_line.proofs.Outgoing.{without_message}
use Rattle.model_line.proofs.LinkMoves.{IsOne, taken-one}
use Rattle.model_line.proofs.Places.{has-place}
use Rattle.model_line.proofs.ProperAims.{event_aims}
use Rattle.model_line.proofs.TakenWalk.{next_walk}
use Rattle.model_line.specs.Runs.{IsPlaced, ArePlaced}

-- what holds of two lists of orders holds of both, one after the other
pub both-placed : (l : Line) (xs ys : List Order) → ArePlaced l xs → ArePlaced l ys → ArePlaced l (xs ++ ys)
both-placed l [] ys a b = b
both-placed l (x ∷ xs) ys a b = (a.0, both-placed l xs ys a.1 b)

-- a link orders its own timers
some-place : (o : Option ℕ) (place : ℕ) → o ≡ Some place → IsSome o
some-place (Some p) place e = refl
some-place None place e = absurd (none-some place e)

module _ (t : Terms) (l : Line) where
  its-start : IsSome (place_in l t.tei) → (k : LinkTimer) → IsPlaced l (Start (timer_at t k))
  its-start there LinkTimer.T200 = there
  its-start there LinkTimer.T203 = there

  its-stop : (k : LinkTimer) → IsPlaced l (Stop (timer_at t k))
  its-stop LinkTimer.T200 = tt
  its-stop LinkTimer.T203 = tt

  by-order : (k : LinkTimer) (starts stops : Bool) → (starts ≡ true → IsPlaced l (Start (timer_at t k)))
      → ArePlaced l (cond starts (Start (timer_at t k) ∷ []) (cond stops (Stop (timer_at t k) ∷ []) []))
  by-order k true stops h = (h refl, tt)
  by-order k false true h = (its-stop k, tt)
  by-order k false false h = tt

  pub link-placed : IsSome (place_in l t.tei) → (before started now : Option LinkTimer) → ArePlaced l (orders_for t before started now)
  link-placed there before started now =
      both-placed l (order_for t LinkTimer.T200 before started now) (order_for t LinkTimer.T203 before started now)
      (by-order LinkTimer.T200 (runs LinkTimer.T200 started && runs LinkTimer.T200 now) (runs LinkTimer.T200 before && not (runs LinkTimer.T200 now)) (λ _. its-start there LinkTimer.T200))
      (by-order LinkTimer.T203 (runs LinkTimer.T203 started && runs LinkTimer.T203 now) (runs LinkTimer.T203 before && not (runs LinkTimer.T203 now)) (λ _. its-start there LinkTimer.T203))

  -- one that is cleared starts none
  pub cleared-placed : (x : Link) → ArePlaced l (link_told t link_cleared x).orders
  cleared-placed x =
      both-placed l (order_for t LinkTimer.T200 x.running None None) (order_for t LinkTimer.T203 x.running None None)
      (by-order LinkTimer.T200 false (runs LinkTimer.T200 x.running && true) (λ e. absurd (false≢true e)))
      (by-order LinkTimer.T203 false (runs LinkTimer.T203 x.running && true) (λ e. absurd (false≢true e)))

-- the places of a line
pub place-few : (c : Config) (l : Line) (tei place : ℕ) → IsSound c l → place_in l tei ≡ Some place → place < c.terminals
place-few c l tei place s e = omega (arith, (place_of-is l.management.places tei place e).0, s.places)

-- What an event leaves of the TEIs of a line, and what it starts: no TEI is at another place than it was, and no place has another
-- TEI than it had.
pub record IsInPlace (l : Line) (orders : List Order) (now : Line) : Type 0 where
  pub placed : ArePlaced now orders
  pub once : (i j tei : ℕ) → IsAt l.management.places i tei → IsAt now.management.places j tei → i ≡ j
  pub alone : (i tei other : ℕ) → IsAt l.management.places i tei → IsAt now.management.places i other → tei ≡ other

abbrev pub DoesInPlace : Line → Effect → Type 0
DoesInPlace l f = IsInPlace l f.told.orders f.line

module _ (c : Config) (l : Line) (s : IsSound c l) where
  stays : (orders : List Order) (now : Line) → now.management.places ≡ l.management.places → ArePlaced now orders → IsInPlace l orders now
  stays orders now same placed = record {
    placed = placed;
    once = λ i j tei a b. s.management.table.once i j tei a (subst (λ ps. IsAt ps j tei) same b);
    alone = λ i tei other a b. some-same tei other (sym a ∙ subst (λ ps. IsAt ps i other) same b);
  }

  -- one place of the table is another
  changed : (new : Places) (place : ℕ) (o : Option ℕ) → new ≡ set l.management.places place o → place < length l.management.places
      → ((tei : ℕ) → o ≡ Some tei → (i : ℕ) → IsAt l.management.places i tei → ⊥) → (i j tei : ℕ) → IsAt l.management.places i tei → IsAt new j tei → i ≡ j
  changed new place o is within comes i j tei a b = elim (cases_eq j place) [
    | inl same ↦ absurd (comes tei
        (sym (ap (λ ps. get_or ps place None) is ∙ get_or-set_same l.management.places place o None within) ∙ subst (λ n. IsAt new n tei) same b) i a)
    | inr apart ↦ s.management.table.once i j tei a
        (sym (ap (λ ps. get_or ps j None) is ∙ get_or-set_other l.management.places place j o None apart) ∙ b)
  ]

  changed-alone : (new : Places) (place : ℕ) (o : Option ℕ) → new ≡ set l.management.places place o → place < length l.management.places
      → ((tei other : ℕ) → o ≡ Some other → IsAt l.management.places place tei → ⊥) → (i tei other : ℕ) → IsAt l.management.places i tei → IsAt new i other → tei ≡ other
  changed-alone new place o is within comes i tei other a b = elim (cases_eq i place) [
    | inl same ↦ absurd (comes tei other
        (sym (ap (λ ps. get_or ps place None) is ∙ get_or-set_same l.management.places place o None within) ∙ subst (λ n. IsAt new n other) same b)
        (subst (λ n. IsAt l.management.places n tei) same a))
    | inr apart ↦ some-same tei other (sym a ∙ sym (ap (λ ps. get_or ps i None) is ∙ get_or-set_other l.management.places place i o None apart) ∙ b)
  ]

  -- an event of a link
  of-link : (service : Service) (tei place : ℕ) (e : LinkEvent) → IsAt l.management.places place tei → DoesInPlace l (of_aim c (at_link service tei place e) l)
  of-link service tei place e at =
      let t = terms c service tei in
      let f = of_aim c (at_link service tei place e) l in
      let x = link_in l service place in
      stays f.told.orders f.line refl
      (link-placed t f.line (some-place (place_in f.line tei) place (has-place l.management.places tei place s.management.table at)) x.running (course t e x).started (course t e x).link.running)

  -- a step of TEI management
  module _ (t201 t202 : Bool) (more : ℕ) where
    pub by-step : (o : Option Change) (told : LineTold) (m : Management) (own : Own) → Step c l t201 t202 more o told m own → DoesInPlace l (of_change c o told (record l { management = m; own = own }))
    by-step None told m own step = stays told.orders (record l { management = m; own = own }) step.moves (step.placed (record l { management = m; own = own }))
    by-step (Some (Gained tei place)) told m own step =
        let joined = step.moves in
        let now = (of_change c (Some (Gained tei place)) told (record l { management = m; own = own })).line in
        record {
          placed = step.placed now;
          once = changed m.places place (Some tei) joined.is_there joined.within
              (λ other is i at. at-off l.management.places i tei joined.was_off (subst (IsAt l.management.places i) (sym (some-same tei other is)) at));
          alone = changed-alone m.places place (Some tei) joined.is_there joined.within (λ other more is at. none-some other (sym joined.was_free ∙ at));
        }
    by-step (Some (Left tei place)) told m own step =
        let gone = step.moves in
        let now = (of_change c (Some (Left tei place)) told (record l { management = m; own = own })).line in
        let first = link_in (record l { management = m; own = own }) Call place in
        let second = link_in (with_link (link_number place Call) fresh (record l { management = m; own = own })) Packet place in
        let call = (link_told (terms c Call tei) link_cleared first).orders in
        let packet = (link_told (terms c Packet tei) link_cleared second).orders in
        record {
          placed = both-placed now (call ++ packet) told.orders
              (both-placed now call packet (cleared-placed (terms c Call tei) now first) (cleared-placed (terms c Packet tei) now second)) (step.placed now);
          once = changed m.places place None gone.is_free gone.within (λ other is i at. none-some other is);
          alone = changed-alone m.places place None gone.is_free gone.within (λ other more is at. none-some more is);
        }

  pub managed : (e : TeiEvent) → tei_laws.IsInRange e → DoesInPlace l (of_aim c (at_management e) l)
  managed e fits = by-managed c l s (λ o f. DoesInPlace l f) e fits (by-step (is_some l.management.check) (is_some l.own.procedure) (more_of c e))

  pub owned : (e : TerminalEvent) → IsOwnEvent c e → DoesInPlace l (of_aim c (at_terminal e) l)
  owned e proper = by-own-event c l s (λ o f. DoesInPlace l f) e proper (by-step (is_some l.management.check) (is_some l.own.procedure) 1)

-- what an event is to the parts of a line
module _ (c : Config) (l : Line) (s : IsSound c l) where
  given-up : DoesInPlace l (of_aim c at_no_link l)
  given-up = let x = managed c (without_units l) (down-sound c l s) tei_down tt in record { placed = x.placed; once = x.once; alone = x.alone }

  aimed : (e : Event) → DoesInPlace l (of_aim c (aim_of c e l) l)
  aimed = event_aims c l (λ takes aim. DoesInPlace l (of_aim c aim l))
      (λ takes. stays c l s [] l refl tt) (λ cause. stays c l s [] l refl tt) (λ parts service to. stays c l s [] l refl tt)
      (λ service tei place e at. of-link c l s service tei place e at) (λ e fits. managed c l s e fits) (λ e proper. owned c l s e proper)
      (λ unit is few. stays c l s [] (record l { units = l.units ++ unit ∷ [] }) refl tt) given-up

  by-refusal : (o : Option Refusal) (aim : Aim) → DoesInPlace l (of_aim c (unless_refused o aim) l)
      → IsInPlace l (orders_in (unless_refused_told o (of_aim c (unless_refused o aim) l))) (of_aim c (unless_refused o aim) l).line
  by-refusal None aim h = h
  by-refusal (Some why) aim h = h

  -- a call for the next frame: what a link gives, it orders as well
  given-orders : (t : Terms) (x : Link) (g : Given) → link_given t x ≡ Some g → g.orders ≡ (link_told t link_offer x).orders
  given-orders t x g = grind (arith, none-some)

  took : (t : Taken) → IsOne c l t → IsInPlace l t.orders t.line
  took t (inl x) = subst (λ (u : Taken). IsInPlace l u.orders u.line) (sym x.is) (stays c l s [] (without_message l x.octets x.m x.own).line x.out.places tt)
  took t (inr (inl x)) = subst (λ (u : Taken). IsInPlace l u.orders u.line) (sym x.1) (stays c l s [] (with_unit c l x.0).line refl tt)
  took t (inr (inr x)) =
      let terms_of = terms c (service_at x.number) x.tei in
      let y = link_at x.number l in
      let now = (with_given_frame c l x.number terms_of x.what).line in
      subst (λ (u : Taken). IsInPlace l u.orders u.line) (sym x.is)
      (stays c l s x.what.orders now refl
      (subst (ArePlaced now) (sym (given-orders terms_of y x.what x.given))
      (link-placed terms_of now (some-place (place_in now x.tei) (place_at x.number) (has-place l.management.places x.tei (place_at x.number) s.management.table x.on_line))
      y.running (course terms_of link_offer y).started (course terms_of link_offer y).link.running)))

-- Any event.
pub in-place : (c : Config) (e : Event) (l : Line) → IsSound c l → IsInPlace l (orders_in (answer c e l)) (after c e l)
unfolding after answer
in-place c (hears e) l s = aimed c l s (hears e)
in-place c (expiry timer) l s = aimed c l s (expiry timer)
in-place c (request r) l s = by-refusal c l s (refusal c false r l) (aim_of_request r l) (aimed c l s (request r))
in-place c next l s =
    next_walk c l (IsOne c l) (λ o m. IsInPlace l (orders_in (gave (option_map next_of o))) m) (taken-one c l s) (stays c l s [] l refl tt) (took c l s)
