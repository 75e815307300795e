-- By how much an event raises what a line sends and may still send.
use Rattle.model_line.proofs.Vocabulary.{◌≡◌, ℕ, ◌+◌, ◌*◌, ◌≤◌, Bool, true, false, max, Option, Some, None, is_some, refl, sym, subst, ap, cond, arith, Service, Refusal, T200, T203, LinkTimer, Management, expire_check, Config, Event, hears, expiry, request, one, may_send, rejects_aimed, is_accepted, is_given, at_timer, aim_of_expiry, runs_at, Rises, Line, place_in, link_in, terms, after, answer}
use Rattle.model_line.proofs.Vocabulary.{unless_refused}
use Rattle.model_line.proofs.Vocabulary.{unless_refused_told, aim_of_heard, at_management, at_terminal, is_terminal, of_change, of_management, of_network, of_terminal, of_terminal_if, told_of_management, with_terminal, of_aim, refusal, Request, aim_of_request, IsInRange, IsSound, TeiEvent, Procedure, terminal_expiry, tei_refusal, tei_course, tei_expiry}
use Rattle.model_link.specs.Requests as requests
use Rattle.model_link.specs.declared.timers.LinkTimer.TheVariants as link_timer
use Rattle.model_teis.specs.network.Words.{begun}
use Rattle.model_teis.specs.declared.network.check.Check as checks
use Rattle.model_teis.specs.terminal.Words.{Course}
use Rattle.model_line.proofs.AimsRise.{sends}
use Rattle.model_line.proofs.AimsSound.{IsProper}
use Rattle.model_line.proofs.LineRises.{event_costs, window_most}
use Rattle.model_line.proofs.Managed.{IsAsked, idle_course, more_of}
use Rattle.model_line.proofs.ProperAims.{heard_proper, expiry_proper, request_proper, request_aims}
use Rattle.model_line.proofs.NextRises.{next_falls}
use Rattle.model_line.proofs.Sums.{price_at, aim_rises}

-- T201 that does not run has no effect
idle_t201 : (m : Management) → m.check ≡ None → tei_course tei_expiry m ≡ begun m
unfolding tei_course tei_refusal
idle_t201 m e = ap (λ o. expire_check o (begun m)) e

module _ (c : Config) (ranged : IsInRange c) (l : Line) (s : IsSound c l) where
  -- an expiry
  timer_costs : (service : Service) (tei : ℕ) (timer : LinkTimer) (o : Option ℕ)
      → price_at true (sends c ranged) l (at_timer service tei timer o) ≤ (max c.k c.k16 + 1) * one (runs_at service timer o l)
  timer_costs service tei timer o = grind (arith, window_most)

  t201_rises : may_send c (of_management c tei_expiry l).line ≤ may_send c l + (max c.k c.k16 + 1) * one (is_some l.management.check)
  t201_rises = go l.management.check refl
    where
      go : (o : Option checks.Check) → l.management.check ≡ o
          → may_send c (of_management c tei_expiry l).line ≤ may_send c l + (max c.k c.k16 + 1) * one (is_some o)
      go None e =
          elim (is_terminal c) as (λ b. may_send c (cond b (of_terminal_if c None l) (of_network c tei_expiry l)).line ≤ may_send c l + (max c.k c.k16 + 1) * 0) [
            | true ↦ omega arith
            | false ↦ grind (arith, idle_t201)
          ]
      go (Some check) e = omega (arith, aim_rises true (sends c ranged) l (at_management tei_expiry) ranged s tt)

  t202_rises : may_send c (of_terminal c terminal_expiry l).line ≤ may_send c l + (max c.k c.k16 + 1) * one (is_some l.own.procedure)
  t202_rises = go l.own.procedure refl
    where
      go : (o : Option Procedure) → l.own.procedure ≡ o → may_send c (of_terminal c terminal_expiry l).line ≤ may_send c l + (max c.k c.k16 + 1) * one (is_some o)
      go None e =
          subst (λ (course : Course). may_send c (of_change c course.told.change (told_of_management course.told) (with_terminal course.now l)).line ≤ may_send c l + (max c.k c.k16 + 1) * 0)
          (sym (idle_course c l s e)) (omega arith)
      go (Some procedure) e = omega (arith, aim_rises true (sends c ranged) l (at_terminal terminal_expiry) ranged s tt)

  -- a request
  request_costs : (r : Request) → price_at true (sends c ranged) l (unless_refused (refusal c false r l) (aim_of_request r l)) ≤ 1
  request_costs =
      request_aims c l (λ takes aim. price_at true (sends c ranged) l aim ≤ 1) (λ takes. omega arith)
      (λ service tei place what at. at_most_one (is_some (requests.refusal (terms c service tei) (link_in l service place) false what)))
      (λ service tei place at. omega arith) (λ e range asked. asked_costs e asked) (λ e proper. omega arith) (λ unit is few. omega arith) (omega arith)
    where
      at_most_one : (b : Bool) → cond {A = ℕ} b 0 1 ≤ 1
      at_most_one b = grind arith

      asked_costs : (e : TeiEvent) → IsAsked e → more_of c e ≤ 1
      asked_costs e asked = grind arith

  request_rises : (r : Request) (o : Option Refusal) → IsProper c l (unless_refused o (aim_of_request r l))
      → price_at true (sends c ranged) l (unless_refused o (aim_of_request r l)) ≤ 1
      → let out = of_aim c (unless_refused o (aim_of_request r l)) l in
      let a = unless_refused_told o out in
      one (is_given a) + may_send c out.line ≤ may_send c l + one (is_accepted (request r) a) + max c.k c.k16 * one (rejects_aimed l (unless_refused o (aim_of_request r l)))
  request_rises r None proper costs = omega (arith, aim_rises true (sends c ranged) l (aim_of_request r l) ranged s proper, costs)
  request_rises r (Some why) proper costs = omega arith

  pub event_rises : (e : Event) → Rises c e l
  unfolding after answer
  event_rises (hears e) =
      omega (arith, aim_rises true (sends c ranged) l (aim_of_heard c l e) ranged s (heard_proper c l e), event_costs c ranged l e)
  event_rises (expiry (T200 service tei)) =
      let aim = aim_of_expiry (T200 service tei) l in
      omega (arith, aim_rises true (sends c ranged) l aim ranged s (expiry_proper c l (T200 service tei)), timer_costs service tei link_timer.T200 (place_in l tei))
  event_rises (expiry (T203 service tei)) =
      let aim = aim_of_expiry (T203 service tei) l in
      omega (arith, aim_rises true (sends c ranged) l aim ranged s (expiry_proper c l (T203 service tei)), timer_costs service tei link_timer.T203 (place_in l tei))
  event_rises e = grind (arith, t201_rises, t202_rises, request_rises, request_proper, request_costs, next_falls)
