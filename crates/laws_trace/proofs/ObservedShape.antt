-- What an observer knows of a link in a state, and what of it moves.
use Rattle.laws_trace.proofs.Vocabulary.{◌≡◌, ℕ, ◌+◌, ◌==◌, ◌||◌, not, Bool, true, false, cond, Option, unwrap_or, option_map_or, State, Established, TimerRecovery, Observed}
use Rattle.laws_trace.proofs.NewsWatched.{none_left}
use Rattle.laws_trace.proofs.TimersWatched.{Known, nothing_yet}

-- What is only said where it is asked.
abbrev pub When : Bool → Type 0 → Type 0
When true P = P
When false P = Unit {0}

abbrev pub known_of : Observed → Known
known_of o = record { acknowledged = o.acknowledged; next = o.next; busy = o.busy }

-- What is known, in a state, with these numbers.
abbrev pub at_state : ℕ → Known → Observed → Observed
at_state s k o = record o { state = s; acknowledged = k.acknowledged; next = k.next; busy = k.busy }

abbrev pub Shape : State → Known → Type 0
Shape Established k = Unit {0}
Shape TimerRecovery k = Unit {0}
Shape other k = k ≡ nothing_yet

-- From one state to another, with numbers, whether the establishment was asked for, what layer 3 decides in state 5, what an expiry
-- that moves it counts, and what another adds.
pub record Moved (s to : ℕ) (k : Known) (new : Bool) (wish : Option Bool) (first : ℕ) (more : ℕ → ℕ) (o p : Observed) : Type 0 where
  pub state_is : p.state ≡ to
  pub known_is : known_of p ≡ k
  pub asks : When (to == 5) (p.asked ≡ cond (s == 5) (unwrap_or wish o.asked) new)
  pub wants : When (to == 5) (p.owed ≡ cond (s == 5) (option_map_or not wish o.owed) false)
  pub owes : When (to == 5) (p.outstanding ≡ cond (s == 5) (option_map_or none_left wish o.outstanding) (not (o.next == o.acknowledged)))
  pub counts : When (to == 5 || (to == 6 || to == 8)) (p.expiries ≡ cond (s == to) (more o.expiries) first)

abbrev pub none_more : ℕ → ℕ
none_more n = n

abbrev pub one_more : ℕ → ℕ
one_more n = n + 1
