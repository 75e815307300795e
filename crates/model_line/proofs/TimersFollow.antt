-- A caller that obeys the orders runs the timers that a line runs: each event of the line.
use Rattle.model_line.proofs.Vocabulary.{◌≡◌, ℕ, zero, suc, Bool, false, arith, eq-eqb, is_some, List, get_or, replicate, Option, Some, None, refl, ap, sym, ◌∙◌, subst, inl, inr, option_map_or, none-some, Service, Order, Timer, T201, T202, LinkTimer, Link, obeyed, IsTimed, Given, timer_at, Terms, is_same, Management, Change, Gained, Left}
use Rattle.model_line.proofs.Vocabulary.{place_of-is, Config, request, gave, hears, next, at_link, at_management, at_terminal, Effect, LineTold, Own, of_change, of_aim, at_timer, is_running, orders_in, Line, link_number, service_at, place_at, place_in, link_at, link_in, terms, with_link, fresh_line, aim_of_heard, Taken, with_unit, taken, next_of, line_of, Request, at_requested, at_deactivated}
use Rattle.model_line.proofs.Vocabulary.{aim_of_request}
use Rattle.model_line.proofs.Vocabulary.{Down, without_units, at_no_link, option_map, eqb-true, T200, T203, Event, expiry, after, answer, IsSound, runs_then, link_offer, link_received, link_expired, link_requested, LinkRequest, link_cleared, LinkEvent, link_given, link_told, link_after, StreamEvent, tei_down, tei_message, tei_expiry, TeiEvent, TerminalEvent, terminal_expiry, runs_at}
use Rattle.model_line.proofs.AimsSound.{IsProper}
use Rattle.model_line.proofs.ProperAims.{heard_aims, request_proper}
use Rattle.model_line.proofs.TakenWalk.{next_walk}
use Rattle.model_teis.specs.network.Laws as tei_laws
use Rattle.model_line.proofs.Managed.{IsOwnEvent, Step, by-expired-201, by-expired-202, by-managed, by-own-event, more_of}
use Rattle.model_line.proofs.Outgoing.{without_message}
use Rattle.model_line.proofs.Following.{each-timer, running-of, same-running, one-steered, management-stays, comes, goes, own-goes}
use Rattle.model_line.proofs.LinkMoves.{IsOne, taken-one}
use Rattle.model_line.proofs.Places.{has-no-place}
use Rattle.model_line.proofs.Obeyed.{Steers, timer_of, as_it_was, without, steers-event, steers-expiry, both-true}
use Rattle.model_line.proofs.Downs.{down-sound}

-- a number is that of its place and its service
pub number-is : (number : ℕ) → link_number (place_at number) (service_at number) ≡ number
number-is number = grind (arith, eqb-true, eq-eqb)

-- what a caller that left its timers so runs by the orders is what a line runs
abbrev Follow : (Timer → Bool → Bool) → Line → List Order → Line → Type 0
Follow left before orders after = (timer : Timer) → obeyed timer (left timer (is_running timer before)) orders ≡ is_running timer after

-- T201 and T202 are left as `left` says, and the others as they were.
not-202 : (t : Terms) (k : LinkTimer) → is_same (timer_at t k) T202 ≡ false
not-202 t k = grind arith

not-201 : (t : Terms) (k : LinkTimer) → is_same (timer_at t k) T201 ≡ false
not-201 t k = grind arith

module _ (c : Config) (l : Line) (s : IsSound c l) (left : Timer → Bool → Bool) (ours : (k : LinkTimer) (service : Service) (tei : ℕ) (b : Bool) → left (timer_of k service tei) b ≡ b) (more : ℕ) where
  abbrev t201 : Bool
  t201 = left T201 (is_some l.management.check)

  abbrev t202 : Bool
  t202 = left T202 (is_some l.own.procedure)

  was : (k : LinkTimer) (service : Service) (tei : ℕ) (os : List Order)
      → obeyed (timer_of k service tei) (left (timer_of k service tei) (is_running (timer_of k service tei) l)) os ≡ obeyed (timer_of k service tei) (is_running (timer_of k service tei) l) os
  was k service tei os = ap (λ b. obeyed (timer_of k service tei) b os) (ours k service tei (is_running (timer_of k service tei) l))

  abbrev Follows : Effect → Type 0
  Follows f = Follow left l f.told.orders f.line

  pub by-step : (o : Option Change) (told : LineTold) (m : Management) (own : Own) → Step c l t201 t202 more o told m own → Follows (of_change c o told (record l { management = m; own = own }))
  by-step None told m own step =
      let f = of_change c None told (record l { management = m; own = own }) in
      each-timer (λ timer. obeyed timer (left timer (is_running timer l)) f.told.orders ≡ is_running timer f.line) step.check step.procedure
      (λ k service tei. was k service tei told.orders ∙ management-stays c l s m own step.sound.table told.orders step.links step.moves k service tei)
  by-step (Some (Gained tei place)) told m own step =
      let f = of_change c (Some (Gained tei place)) told (record l { management = m; own = own }) in
      each-timer (λ timer. obeyed timer (left timer (is_running timer l)) f.told.orders ≡ is_running timer f.line) step.check step.procedure
      (λ k service other. was k service other told.orders ∙ comes c l s m own step.sound.table told.orders step.links tei place step.moves k service other)
  by-step (Some (Left tei place)) told m own step =
      let f = of_change c (Some (Left tei place)) told (record l { management = m; own = own }) in
      each-timer (λ timer. obeyed timer (left timer (is_running timer l)) f.told.orders ≡ is_running timer f.line)
      (own-goes c l s m own step.sound.table told.orders step.links tei place step.moves T201 not-201 t201 (is_some m.check) step.check)
      (own-goes c l s m own step.sound.table told.orders step.links tei place step.moves T202 not-202 t202 (is_some own.procedure) step.procedure)
      (λ k service other. was k service other f.told.orders ∙ goes c l s m own step.sound.table told.orders step.links tei place step.moves k service other)

-- An event that no part is concerned with, and one of a link.
module _ (c : Config) (l : Line) (s : IsSound c l) where
  pub link-followed : (left : Timer → Bool → Bool) (service : Service) (tei place : ℕ) (e : LinkEvent) → place_in l tei ≡ Some place
      → Steers (terms c service tei) left (link_told (terms c service tei) e (link_in l service place)).orders (link_in l service place) (link_after (terms c service tei) e (link_in l service place))
      → Follow left l (of_aim c (at_link service tei place e) l).told.orders (of_aim c (at_link service tei place e) l).line
  link-followed left service tei place e at steers timer =
      one-steered c l s service tei place (place_of-is l.management.places tei place at).1 left _ (link_after (terms c service tei) e (link_in l service place)) steers timer

  pub aimed : (service : Service) (tei place : ℕ) (e : LinkEvent) → place_in l tei ≡ Some place
      → Follow as_it_was l (of_aim c (at_link service tei place e) l).told.orders (of_aim c (at_link service tei place e) l).line
  aimed service tei place e at = link-followed as_it_was service tei place e at (steers-event (terms c service tei) e (link_in l service place))

  pub managed : (e : TeiEvent) → tei_laws.IsInRange e → Follow as_it_was l (of_aim c (at_management e) l).told.orders (of_aim c (at_management e) l).line
  managed e fits =
      by-managed c l s (λ o f. Follow as_it_was l f.told.orders f.line) e fits (by-step c l s as_it_was (λ k service tei b. refl) (more_of c e))

  pub owned : (e : TerminalEvent) → IsOwnEvent c e → Follow as_it_was l (of_aim c (at_terminal e) l).told.orders (of_aim c (at_terminal e) l).line
  owned e proper =
      by-own-event c l s (λ o f. Follow as_it_was l f.told.orders f.line) e proper (by-step c l s as_it_was (λ k service tei b. refl) 1)

  -- what is heard
  pub heard-followed : (e : StreamEvent) → Follow as_it_was l (of_aim c (aim_of_heard c l e) l).told.orders (of_aim c (aim_of_heard c l e) l).line
  heard-followed =
      heard_aims c l (λ aim. Follow as_it_was l (of_aim c aim l).told.orders (of_aim c aim l).line) (λ cause. λ timer. refl)
      (λ service tei place what at. aimed service tei place (link_received what) at) (λ info. managed (tei_message info) tt) (λ parts service to timer. refl)

  -- what is asked for
  asked : (service : Service) (tei : ℕ) (what : LinkRequest) (o : Option ℕ) → place_in l tei ≡ o
      → Follow as_it_was l (of_aim c (at_requested service tei what o) l).told.orders (of_aim c (at_requested service tei what o) l).line
  asked service tei what None e = λ timer. refl
  asked service tei what (Some place) e = aimed service tei place (link_requested what false) e

  deactivated : (service : Service) (tei : ℕ) (o : Option ℕ) → place_in l tei ≡ o
      → Follow as_it_was l (of_aim c (at_deactivated service tei o) l).told.orders (of_aim c (at_deactivated service tei o) l).line
  deactivated service tei None e = λ timer. refl
  deactivated service tei (Some place) e = aimed service tei place link_cleared e

  down-followed : Follow as_it_was (without_units l) (of_aim c at_no_link l).told.orders (of_aim c at_no_link l).line
  down-followed =
      by-managed c (without_units l) (down-sound c l s) (λ o f. Follow as_it_was (without_units l) f.told.orders f.line) tei_down tt
      (by-step c (without_units l) (down-sound c l s) as_it_was (λ k service tei b. refl) 1)

  pub request-followed : (r : Request) → IsProper c l (aim_of_request r l) → Follow as_it_was l (of_aim c (aim_of_request r l) l).told.orders (of_aim c (aim_of_request r l) l).line
  request-followed Down proper = λ timer.
      ap (λ b. obeyed timer b (of_aim c at_no_link l).told.orders) (sym (same-running l (without_units l) refl refl refl refl timer)) ∙ down-followed timer
  request-followed r proper = grind (arith, asked, same-running, managed, owned, deactivated)

  pub expired : (k : LinkTimer) (service : Service) (tei : ℕ) → ((number : ℕ) → IsTimed (link_at number l)) → (o : Option ℕ) → place_in l tei ≡ o
      → Follow (without (timer_of k service tei)) l (of_aim c (at_timer service tei k o) l).told.orders (of_aim c (at_timer service tei k o) l).line
  expired k service tei timed None e = grind (arith, each-timer, timer_of, without, eqb-true, both-true, running-of)
  expired k service tei timed (Some place) e =
      link-followed (without (timer_of k service tei)) service tei place (link_expired k) e
      (subst (λ timer. Steers (terms c service tei) (without timer) (link_told (terms c service tei) (link_expired k) (link_in l service place)).orders (link_in l service place) (link_after (terms c service tei) (link_expired k) (link_in l service place)))
      (same k) (steers-expiry (terms c service tei) k (link_in l service place) (timed (link_number place service))))
    where
      same : (k : LinkTimer) → timer_at (terms c service tei) k ≡ timer_of k service tei
      same k = grind arith

  -- and of T201
  pub t201-expired : Follow (without T201) l (of_aim c (at_management tei_expiry) l).told.orders (of_aim c (at_management tei_expiry) l).line
  t201-expired = by-expired-201 c l s (λ o f. Follow (without T201) l f.told.orders f.line) (by-step c l s (without T201) (λ k service tei b. ours k service tei b) 1)
    where
      ours : (k : LinkTimer) (service : Service) (tei : ℕ) (b : Bool) → without T201 (timer_of k service tei) b ≡ b
      ours k service tei b = grind arith

  -- and of T202
  pub t202-expired : Follow (without T202) l (of_aim c (at_terminal terminal_expiry) l).told.orders (of_aim c (at_terminal terminal_expiry) l).line
  t202-expired = by-expired-202 c l s (λ o f. Follow (without T202) l f.told.orders f.line) (by-step c l s (without T202) (λ k service tei b. ours k service tei b) 1)
    where
      ours : (k : LinkTimer) (service : Service) (tei : ℕ) (b : Bool) → without T202 (timer_of k service tei) b ≡ b
      ours k service tei b = grind arith

  -- A call for the next frame: what a link gives, it orders as well.
  given-orders : (t : Terms) (x : Link) (g : Given) → link_given t x ≡ Some g → g.orders ≡ (link_told t link_offer x).orders
  given-orders t x g = grind (arith, none-some)

  took : (t : Taken) → IsOne c l t → Follow as_it_was l t.orders t.line
  took t (inl x) =
      subst (λ (u : Taken). Follow as_it_was l u.orders u.line) (sym x.is)
      (λ timer. sym (same-running l (without_message l x.octets x.m x.own).line x.out.places (ap is_some x.out.check) (ap is_some x.out.procedure) refl timer))
  took t (inr (inl x)) = subst (λ (u : Taken). Follow as_it_was l u.orders u.line) (sym x.1) (λ timer. sym (same-running l (with_unit c l x.0).line refl refl refl refl timer))
  took t (inr (inr x)) = grind (arith, as_it_was, steered, same-running)
    where
      steers : Steers (terms c (service_at x.number) x.tei) as_it_was x.what.orders (link_at x.number l) (link_after (terms c (service_at x.number) x.tei) link_offer (link_at x.number l))
      steers = subst (λ os. Steers (terms c (service_at x.number) x.tei) as_it_was os (link_at x.number l) (link_after (terms c (service_at x.number) x.tei) link_offer (link_at x.number l)))
          (sym (given-orders (terms c (service_at x.number) x.tei) (link_at x.number l) x.what x.given)) (steers-event (terms c (service_at x.number) x.tei) link_offer (link_at x.number l))

      steered : (timer : Timer) → obeyed timer (is_running timer l) x.what.orders ≡ is_running timer (with_link x.number (link_after (terms c (service_at x.number) x.tei) link_offer (link_at x.number l)) l)
      steered timer =
          subst (λ n. obeyed timer (is_running timer l) x.what.orders ≡ is_running timer (with_link n (link_after (terms c (service_at x.number) x.tei) link_offer (link_at x.number l)) l)) (number-is x.number)
          (one-steered c l s (service_at x.number) x.tei (place_at x.number) x.on_line as_it_was x.what.orders (link_after (terms c (service_at x.number) x.tei) link_offer (link_at x.number l))
          (subst (λ y. Steers (terms c (service_at x.number) x.tei) as_it_was x.what.orders y (link_after (terms c (service_at x.number) x.tei) link_offer (link_at x.number l))) (ap (λ n. link_at n l) (sym (number-is x.number))) steers) timer)

  pub next-followed : Follow as_it_was l (orders_in (gave (option_map next_of (taken c l)))) (option_map_or line_of (taken c l) l)
  next-followed = next_walk c l (IsOne c l) (λ o m. Follow as_it_was l (orders_in (gave (option_map next_of o))) m) (taken-one c l s) (λ timer. refl) took

-- Any event, of the timers that the line runs.
abbrev Runs : Config → Event → Line → Timer → Type 0
Runs c e l timer = runs_then timer (is_running timer l) e (answer c e l) ≡ is_running timer (after c e l)

pub runs-follow : (c : Config) (e : Event) (l : Line) (timer : Timer) → IsSound c l → ((number : ℕ) → IsTimed (link_at number l)) → Runs c e l timer
unfolding after answer
runs-follow c (hears e) l timer s timed = heard-followed c l s e timer
runs-follow c (expiry (T200 service tei)) l timer s timed = expired c l s LinkTimer.T200 service tei timed (place_in l tei) refl timer
runs-follow c (expiry (T203 service tei)) l timer s timed = expired c l s LinkTimer.T203 service tei timed (place_in l tei) refl timer
runs-follow c (expiry T201) l timer s timed = t201-expired c l s timer
runs-follow c (expiry T202) l timer s timed = t202-expired c l s timer
runs-follow c (request r) l timer s timed = grind (arith, request_proper, request-followed)
runs-follow c next l timer s timed = next-followed c l s timer

-- the links of a line that begins begin, and no TEI is on it
pub all-same : {X : Type 0} (x : X) (count i : ℕ) → get_or (replicate count x) i x ≡ x
all-same x zero i = refl
all-same x (suc count) zero = refl
all-same x (suc count) (suc i) = all-same x count i

pub nowhere : (c : Config) (tei : ℕ) → place_in (fresh_line c) tei ≡ None
nowhere c tei = has-no-place (replicate c.terminals None) tei (λ i at. none-some tei (sym (all-same None c.terminals i) ∙ at))

-- so no timer runs on it
pub none-run : (c : Config) (timer : Timer) → is_running timer (fresh_line c) ≡ false
none-run c T201 = refl
none-run c T202 = refl
none-run c (T200 service tei) = ap (λ o. runs_at service LinkTimer.T200 o (fresh_line c)) (nowhere c tei)
none-run c (T203 service tei) = ap (λ o. runs_at service LinkTimer.T203 o (fresh_line c)) (nowhere c tei)
