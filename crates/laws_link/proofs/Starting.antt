-- An offer leaves the timers that run.
use Rattle.laws_link.proofs.Vocabulary.{[], arith, ◌≡◌, Option, None, LinkTimer, Terms, orders_for}

-- no order where no timer was started, and the same runs
pub none-ordered : (t : Terms) (running : Option LinkTimer) → orders_for t running None running ≡ []
none-ordered t running = grind arith
