-- An expiry and a request deliver nothing.
use Rattle.lapd_line.proofs.Vocabulary.{arith, ◌≡◌, ℕ, true, false, cond, List, [], Option, Some, None, refl, ap, ◌∙◌, sym, option_or, Service, Timer, Config, Line, LineTold, of_aim, of_change, Aim, at_link, at_management, at_no_link, at_terminal, at_a_terminal, is_terminal, of_network, of_terminal_if, without_units, at_timer, aim_of_expiry, at_requested, at_deactivated, aim_of_request, Request}
use Rattle.lapd_line.proofs.Vocabulary.{Terms, Course, link_in, terms, BareReport, told_in, told_beside, Change, LinkTimer, event_row}
use Rattle.model_teis.specs.network.Events as teis
use Rattle.model_teis.specs.terminal.Events as terminals
use Rattle.model_link.specs.Events as link
use Rattle.model_link.specs.Steps.{begun}
use Rattle.model_link.specs.Words
use Rattle.model_link.proofs.Kept.{Kept, FitsEvent, Purse}

-- nothing is delivered so far: of the words of the tables, only those of I-frames and of unit data deliver
abbrev IsSilent : Course → Type 0
IsSilent c = (c.delivered ≡ None) × (c.unit ≡ None)

none_taken : (t : Terms) → ⊥ → (p q : Purse) (octets : List ℕ) (c : Course) → IsSilent c → IsSilent (Words.deliver t octets (Words.rejecting_is false (Words.count_received c)))
none_taken t never p q octets c h = absurd never

no_unit : (t : Terms) → ⊥ → (octets : List ℕ) (c : Course) → IsSilent c → IsSilent (Words.deliver_unit t octets c)
no_unit t never octets c h = absurd never

words : (t : Terms) → Kept t ⊥ (Unit {0}) ⊥ IsSilent (λ p q. IsSilent) IsSilent
words t = search (none_taken, no_unit) depth 12 fits 4000

module _ (c : Config) (m : Line) where
  abbrev Silent : Aim → Type 0
  Silent aim = (of_aim c aim m).told.contents ≡ None

  link_silent : (service : Service) (tei place : ℕ) (e : link.Event) → FitsEvent ⊥ (Unit {0}) ⊥ e → Silent (at_link service tei place e)
  link_silent service tei place e may =
      let h = (event_row (words (terms c service tei)) e may).leads (begun (link_in m service place)) (refl, refl) in
      λ i. option_or (h.0 i) (h.1 i)

  -- nor does TEI management, whatever it changes
  change_silent : (l : Line) (o : Option Change) (t : LineTold) → t.contents ≡ None → (of_change c o t l).told.contents ≡ None
  change_silent l o t e = grind arith

  terminal_silent : (e : terminals.Event) → Silent (at_terminal e)
  terminal_silent e = change_silent _ _ _ refl

  terminal_if_silent : (o : Option terminals.Event) → (of_terminal_if c o m).told.contents ≡ None
  terminal_if_silent None = refl
  terminal_if_silent (Some e) = terminal_silent e

  management_silent : (e : teis.Event) → Silent (at_management e)
  management_silent e =
      elim (is_terminal c) as (λ b. (cond b (of_terminal_if c (at_a_terminal e) m) (of_network c e m)).told.contents ≡ None) [
        | true ↦ terminal_if_silent (at_a_terminal e)
        | false ↦ change_silent _ _ _ refl
      ]

  down_silent : Silent at_no_link
  down_silent =
      elim (is_terminal c) as (λ b. (cond b (of_terminal_if c (at_a_terminal teis.down) (without_units m)) (of_network c teis.down (without_units m))).told.contents ≡ None) [
        | true ↦ change_silent _ _ _ refl
        | false ↦ change_silent _ _ _ refl
      ]

  timer_silent : (service : Service) (tei : ℕ) (timer : LinkTimer) (o : Option ℕ) → Silent (at_timer service tei timer o)
  timer_silent service tei timer None = refl
  timer_silent service tei timer (Some place) = link_silent service tei place (link.expired timer) tt

  requested_silent : (service : Service) (tei : ℕ) (r : link.Request) (o : Option ℕ) → Silent (at_requested service tei r o)
  requested_silent service tei r None = refl
  requested_silent service tei r (Some place) = link_silent service tei place (link.requested r false) tt

  deactivated_silent : (service : Service) (tei : ℕ) (o : Option ℕ) → Silent (at_deactivated service tei o)
  deactivated_silent service tei None = refl
  deactivated_silent service tei (Some place) = link_silent service tei place link.cleared tt

  pub expiry_silent : (timer : Timer) → (of_aim c (aim_of_expiry timer m) m).told.contents ≡ None
  expiry_silent timer = grind (arith, timer_silent, management_silent, terminal_silent)

  pub request_silent : (r : Request) → (of_aim c (aim_of_request r m) m).told.contents ≡ None
  request_silent r = grind (arith, requested_silent, deactivated_silent, management_silent, terminal_silent, down_silent)

-- so a report of it tells the same with no contents beside it
pub silent_told : (o : BareReport) {t : LineTold} → told_in [] o ≡ t → t.contents ≡ None → told_beside None o ≡ t
silent_told o {t} is none = ap (λ (x : LineTold). record x { contents = None }) is ∙ ap (λ x. record t { contents = x }) (sym none)
