-- Orders keep a caller's timers in step with the link's.
use Rattle.model_link.proofs.Vocabulary.{◌≡◌, true, Option, None, Some, sym, ◌⊎◌, inr, true≢false, LinkTimer, Terms, Course, runs, Event, step}
use Rattle.model_link.proofs.Kept.{Kept}
use Rattle.model_link.proofs.Rows.{every_event}

-- The timer that runs ran before the event, or the event started it.
pub record Comes (before : Option LinkTimer) (running started : Option LinkTimer) : Type 0 where
  pub from : (timer : LinkTimer) → runs timer running ≡ true → (runs timer before ≡ true) ⊎ (runs timer started ≡ true)

pub none-runs : (timer : LinkTimer) → runs timer None ≡ true → ⊥
none-runs timer e = true≢false (sym e)

abbrev pub Coming : Option LinkTimer → Course → Type 0
Coming before c = Comes before c.link.running c.started

by-start : (before : Option LinkTimer) (timer : LinkTimer) → Comes before (Some timer) (Some timer)
by-start before timer = record { from = λ other e. inr e }

by-stop : (before started : Option LinkTimer) → Comes before None started
by-stop before started = record { from = λ other e. absurd (none-runs other e) }

words : (before : Option LinkTimer) (t : Terms) → Kept t (Unit {0}) (Unit {0}) (Unit {0}) (Coming before) (λ p q c. Coming before c) (Coming before)
words before t = search (by-start, by-stop) depth 12 fits 4000

pub comes-step : (before : Option LinkTimer) (t : Terms) (e : Event) (c : Course) → Coming before c → Coming before (step t e c)
comes-step before t e c h = (every_event (words before t) e).leads c h
