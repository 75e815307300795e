-- Orders, by the timer that an event started.
use Rattle.lapd_link.proofs.Vocabulary.{◌≡◌, true, false, Option, Some, None, refl}
use Rattle.model_link.specs.declared.terms.Terms.{Terms}
use Rattle.model_link.specs.declared.timers.LinkTimer.{LinkTimer}
use Rattle.model_link.specs.declared.timers.LinkTimer.TheVariants.{T200, T203}
use Rattle.model_link.specs.Told.{runs, orders_for}

-- one that does not run in the end counts as not started
pub unstarted : (t : Terms) (before after : Option LinkTimer) (timer : LinkTimer) → runs timer after ≡ false
    → orders_for t before None after ≡ orders_for t before (Some timer) after
unstarted t before None T200 e = refl
unstarted t before None T203 e = refl
unstarted t before (Some T200) T200 e = absurd (cc)
unstarted t before (Some T203) T200 e = refl
unstarted t before (Some T200) T203 e = refl
unstarted t before (Some T203) T203 e = absurd (cc)

-- one that does is the one that runs
pub still_runs : (t : Terms) (before after : Option LinkTimer) (timer : LinkTimer) → runs timer after ≡ true
    → orders_for t before (Some timer) (Some timer) ≡ orders_for t before (Some timer) after
still_runs t before None timer e = absurd (cc)
still_runs t before (Some T200) T200 e = refl
still_runs t before (Some T203) T200 e = absurd (cc)
still_runs t before (Some T200) T203 e = absurd (cc)
still_runs t before (Some T203) T203 e = refl
