-- The rows of the table of refusals, beside those of an observer.
use Rattle.lapd_frame.specs.declared.readings.Reading.{Reading}
use Rattle.lapd_frame.specs.Readings.{by_reading}
use Rattle.laws_trace.proofs.Vocabulary.{◌≡◌, ◌⊎◌, ℕ, ◌==◌, ◌&&◌, ◌||◌, Bool, true, false, eqb-true, not, cond, Some, None, Ok, Err, Result, arith, Refusal, is_up, State, state_number, result_err, LinkEstablish, LinkRelease, BadTei, NoLink, WrongState, TooLong, QueueFull, PoolFull}
use Rattle.model_link.specs.Requests.{serves}
use Rattle.laws_trace.specs.RequestsTakeEffect.{Effect, effect}

abbrev pub if_serves : Bool → Effect → Result Effect Refusal
if_serves serves effect = cond serves (Ok effect) (Err WrongState)

-- The rows of the table of refusals.
pub same-ok : (x e : Effect) → ◌≡◌ {A = Result Effect Refusal} (Ok x) (Ok e) → x ≡ e
same-ok x e is = grind arith

pub served : (serves : Bool) (x e : Effect) → if_serves serves x ≡ Ok e → (serves ≡ true) × (x ≡ e)
served serves x e is = grind arith

pub either-served : (down up : Bool) (x y e : Effect) → cond up (Ok y) (if_serves down x) ≡ Ok e → ((up ≡ false) × (down ≡ true) × (x ≡ e)) ⊎ ((up ≡ true) × (y ≡ e))
either-served down up x y e is = grind (arith, same-ok, served)

pub room-served : (up long many none : Bool) (x e : Effect) → cond (not up) (Err WrongState) (cond long (Err TooLong) (cond many (Err QueueFull) (cond none (Err PoolFull) (Ok x)))) ≡ Ok e → (up ≡ true) × (x ≡ e)
room-served up long many none x e is = grind arith

pub there : (bad on : Bool) (x : Result Effect Refusal) (e : Effect) → cond bad (Err BadTei) (cond (not on) (Err NoLink) x) ≡ Ok e → (on ≡ true) × (x ≡ Ok e)
there bad on x e is = grind arith

pub by-state : (bad on on_line serves so : Bool) (x : Effect) → on_line ≡ on → (on ≡ true → so ≡ serves)
    → cond bad (Some BadTei) (cond (not on) (Some NoLink) (cond (not serves) (Some WrongState) None)) ≡ result_err (cond bad (Err BadTei) (cond (not on_line) (Err NoLink) (if_serves so x)))
by-state bad on on_line serves so x is same = grind arith

pub by-either : (bad on on_line serves down up : Bool) (x y : Effect) → on_line ≡ on → (on ≡ true → (up || down) ≡ serves)
    → cond bad (Some BadTei) (cond (not on) (Some NoLink) (cond (not serves) (Some WrongState) None)) ≡ result_err (cond bad (Err BadTei) (cond (not on_line) (Err NoLink) (cond up (Ok y) (if_serves down x))))
by-either bad on on_line serves down up x y is same = grind arith

pub by-room : (bad on on_line serves up long many most full none : Bool) (x : Effect) → on_line ≡ on → (on ≡ true → up ≡ serves) → (on ≡ true → most ≡ many) → none ≡ full
    → cond bad (Some BadTei) (cond (not on) (Some NoLink) (cond (not serves) (Some WrongState) (cond long (Some TooLong) (cond many (Some QueueFull) (cond full (Some PoolFull) None)))))
    ≡ result_err (cond bad (Err BadTei) (cond (not on_line) (Err NoLink) (cond (not up) (Err WrongState) (cond long (Err TooLong) (cond most (Err QueueFull) (cond none (Err PoolFull) (Ok x)))))))
by-room bad on on_line serves up long many most full none x is same so room = grind arith

pub by-tei : (bad on on_line : Bool) (x : Effect) → on_line ≡ on → cond bad (Some BadTei) (cond (not on) (Some NoLink) None) ≡ result_err (cond bad (Err BadTei) (cond (not on_line) (Err NoLink) (Ok x)))
by-tei bad on on_line x is = grind arith

-- the same of three
pub third-served : (third down up : Bool) (x y z e : Effect) → cond up (Ok y) (cond down (Ok x) (if_serves third z)) ≡ Ok e
    → ((up ≡ true) × (y ≡ e)) ⊎ ((down ≡ true) × (x ≡ e)) ⊎ ((up ≡ false) × (down ≡ false) × (third ≡ true) × (z ≡ e))
third-served third down up x y z e is = grind (arith, same-ok, served)

pub by-third : (bad on on_line serves third down up : Bool) (x y z : Effect) → on_line ≡ on → (on ≡ true → (up || (down || third)) ≡ serves)
    → cond bad (Some BadTei) (cond (not on) (Some NoLink) (cond (not serves) (Some WrongState) None))
    ≡ result_err (cond bad (Err BadTei) (cond (not on_line) (Err NoLink) (cond up (Ok y) (cond down (Ok x) (if_serves third z)))))
by-third bad on on_line serves third down up x y z is same = grind arith

-- Which states serve them, by the reading; w is whether a release is owed, to an observer.
abbrev pub opens_in : Reading → ℕ → Bool
opens_in r n = n == 4 || (n == 5 && by_reading r false true)

abbrev pub ends_in : Reading → ℕ → Bool → Bool
ends_in r n w = is_up n || n == 4 || (n == 5 && by_reading r false (not w))

pub serves-establish : (r : Reading) (s : State) (owed : Bool) → let n = state_number s in (n == 4 || opens_in r n) ≡ serves r s owed LinkEstablish
serves-establish r s owed = grind arith

pub serves-release : (r : Reading) (s : State) (owed w : Bool) → ((state_number s == 5) ≡ true → w ≡ owed) → let n = state_number s in (is_up n || (n == 4 || ends_in r n w)) ≡ serves r s owed LinkRelease
serves-release r s owed w same = grind arith

pub opens-is : (r : Reading) (s : State) (owed : Bool) → opens_in r (state_number s) ≡ serves r s owed LinkEstablish
opens-is r s owed = grind arith

pub ends-is : (r : Reading) (s : State) (owed w : Bool) → ((state_number s == 5) ≡ true → w ≡ owed) → ends_in r (state_number s) w ≡ serves r s owed LinkRelease
ends-is r s owed w same = grind arith

-- where they decide
pub opens-at : (r : Reading) (n : ℕ) → (n == 4) ≡ false → opens_in r n ≡ true → n ≡ 5
opens-at r n other is = grind (arith, eqb-true)

pub ends-at : (r : Reading) (n : ℕ) (w : Bool) → is_up n ≡ false → (n == 4) ≡ false → ends_in r n w ≡ true → n ≡ 5
ends-at r n w down other is = grind (arith, eqb-true)
