-- What is heard, and what it costs.
use Rattle.model_line.proofs.Vocabulary.{ℕ, ◌+◌, ◌*◌, ◌≤◌, max, cond, true, arith, Service, Config, brought, is_terminal, hears, hears_frame, one, rejects, rejects_aimed, Line, window, aim_of_heard, Aim, IsInRange, StreamEvent}
use Rattle.model_line.proofs.AimsRise.{sends}
use Rattle.model_line.proofs.ProperAims.{heard_aims}
use Rattle.model_line.proofs.Sums.{price_at}

pub window_most : (c : Config) (service : Service) → window c service ≤ max c.k c.k16
window_most c service = grind arith

-- A frame brings two at least, and as many as a check of all TEIs has answers.
brings_two : (c : Config) → 2 ≤ brought c
brings_two c = grind arith

module _ (c : Config) (ranged : IsInRange c) (l : Line) where
  abbrev price : Aim → ℕ
  price aim = price_at true (sends c ranged) l aim

  -- A frame costs what it may bring, and the window more where it is an REJ with a valid N(R).
  abbrev CostsAsFrame : Aim → Type 0
  CostsAsFrame aim = price aim ≤ brought c + max c.k c.k16 * one (rejects_aimed l aim)

  brings_each : cond (is_terminal c) (max 1 c.terminals) 2 ≤ brought c + max c.k c.k16 * 0
  brings_each = grind arith

  heard_costs : (e : StreamEvent) → CostsAsFrame (aim_of_heard c l e)
  heard_costs e =
      heard_aims c l CostsAsFrame (λ what. omega arith) (λ service tei place what at. grind (arith, window_most, brings_two))
      (λ info. brings_each) (λ parts service to. omega arith) e

  pub event_costs : (e : StreamEvent) → price (aim_of_heard c l e) ≤ brought c * one (hears_frame (hears e)) + max c.k c.k16 * one (rejects c (hears e) l)
  event_costs e = grind (arith, heard_costs)
