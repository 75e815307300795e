-- A list of events that is run at a card of either kind, with the replies handed to a sink.
use Rattle.std.specs.Prelude.{◌≡◌, ℕ, ◌+◌, ◌<◌, List, length, take, Result, IfOk, IfErr, OnOk, OnErr}
use Rattle.lapd_card.specs.Sink.{Taken, MissesNext, one_failure_more}
use Rattle.lapd_card.specs.declared.sink.SinkFault.{SinkFault}

-- What the clauses of such a call say. `takes`, `misses` and `failures` are the sink's. The card stood for the machines that
-- are `stood`, and stands for those that `stands` has; a list of events takes such a machine to `led`, with these replies,
-- each with its line, and is `counted` by the card's counters. How many events there were is answered, or which was the last.
pub record Runs {M E R K : Type 0} (takes misses : K → ℕ → R → K → Type 0) (failures : K → ℕ) (stood stands : M → Type 0)
    (led : M → List E → M) (replies : M → List E → List (ℕ × R)) (counted : M → List E → Type 0)
    (events : List E) (old new : K) (result : Result ℕ SinkFault) : Type 0 where
  pub ok : IfOk result (λ n. n ≡ length events)
  pub at : IfErr result (λ fault. fault.at < length events)
  pub failed : OnErr result (failures new ≡ one_failure_more (failures old))
  pub not_failed : OnOk result (failures new ≡ failures old)
  -- all of them, where the sink took every reply,
  pub ran : OnOk result ((m : M) → stood m → stands (led m events))
  pub taken : OnOk result ((m : M) → stood m → Taken takes old (replies m events) new)
  pub counters : OnOk result ((m : M) → stood m → counted m events)
  -- or those up to the one whose reply it did not take
  pub stopped : IfErr result (λ fault. (m : M) → stood m → stands (led m (take (fault.at + 1) events)))
  pub taken_before : IfErr result (λ fault. (m : M) → stood m → MissesNext takes misses (replies m (take fault.at events)) (replies m (take (fault.at + 1) events)) old new)
  pub counters_before : IfErr result (λ fault. (m : M) → stood m → counted m (take (fault.at + 1) events))
