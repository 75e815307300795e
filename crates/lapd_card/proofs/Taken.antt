-- A list of events, one by one, and what a sink has taken of it.
use Rattle.lapd_card.proofs.Vocabulary.{◌≡◌, ℕ, ◌+◌, zero, suc, List, [], ◌∷◌, ◌++◌, map, take, refl, sym, ap, subst, ◌∙◌, Some, slice_get, arith, none-some, same_Some, is_err, OnOk, fold-append, Card, Event, one_more, run, moments, moment_of, moment_counted, all_counted, run_is_moments, after_all, Counters, Taken}
use Rattle.std.specs.Prelude.{Result, Err, OnErr, ◌<◌, length, true, false}
use Rattle.lapd_card.specs.Runs.{Runs}
use Rattle.lapd_card.specs.Sink.{MissesNext, one_failure_more}
use Rattle.lapd_card.specs.declared.sink.SinkFault.{SinkFault}
use Rattle.lapd_card.proofs.Counting.{moments-more}

-- one reply more
pub Taken-more : {R K : Type 0} (takes : K → ℕ → R → K → Type 0) (old mid new : K) (replies : List (ℕ × R)) (line : ℕ) (reply : R) → Taken takes old replies mid → takes mid line reply new → Taken takes old (replies ++ (line, reply) ∷ []) new
Taken-more takes old mid new [] line reply taken took = (new, subst (λ k. takes k line reply new) taken took, refl)
Taken-more takes old mid new ((l, r) ∷ replies) line reply (next, first, rest) took = (next, first, Taken-more takes next mid new replies line reply rest took)

-- one is the next of a list, as each of it is seen
next-one : {X Y : Type 0} (f : X → Y) (xs : List X) (at : ℕ) (x : X) → slice_get xs at ≡ Some x → take (suc at) (map f xs) ≡ take at (map f xs) ++ f x ∷ []
next-one f [] at x is = absurd (none-some x is)
next-one f (y ∷ ys) zero x is = ap (λ z. f z ∷ []) (same_Some y x is)
next-one f (y ∷ ys) (suc at) x is = ap (λ l. f y ∷ l) (next-one f ys at x is)

pub one-more : {X Y : Type 0} (f : X → Y) (xs : List X) (at : ℕ) (x : X) → slice_get xs at ≡ Some x → take (at + 1) (map f xs) ≡ take at (map f xs) ++ f x ∷ []
one-more f xs at x is = grind (arith, next-one)

-- so what is said of a list goes one further
pub one-further : {X Y Z : Type 0} (of : X → Y) (f : List Y → Z) (step : List Y → Y → Z) → ((ys : List Y) (y : Y) → f (ys ++ y ∷ []) ≡ step ys y)
    → (xs : List X) (at : ℕ) (x : X) → slice_get xs at ≡ Some x → f (take (at + 1) (map of xs)) ≡ step (take at (map of xs)) (of x)
one-further of f step more xs at x is = ap f (one-more of xs at x is) ∙ more (take at (map of xs)) (of x)

-- a run with one event more, and what it counts
pub run-more : (m : Card) (es : List Event) (e : Event) → run m (es ++ e ∷ []) ≡ one_more (run m es) e
run-more m es e = fold-append one_more (record { card = m; replies = [] }) es (e ∷ [])

pub moments-count : (all : List Counters) (m : Card) (es : List Event) (e : Event) → all_counted all (moments m (es ++ e ∷ [])) ≡ moment_counted (all_counted all (moments m es)) (moment_of (run m es).card e)
moments-count all m es e =
    ap (all_counted all) (moments-more m es e)
    ∙ fold-append moment_counted all (moments m es) (moment_of (after_all m es) e ∷ [])
    ∙ ap (λ card. moment_counted (all_counted all (moments m es)) (moment_of card e)) (sym (run_is_moments.card m es))

-- what holds where a reply was taken, and where it was not
pub at_ok : {T E : Type 0} (r : Result T E) (P : Type 0) → is_err r ≡ false → OnOk r P → P
at_ok r P is p = grind arith

pub at_err : {T E : Type 0} (r : Result T E) (P : Type 0) → is_err r ≡ true → OnErr r P → P
at_err r P is p = grind arith

-- a run that ends with a reply that was missed
pub missed_one : {M E R K : Type 0} {takes misses : K → ℕ → R → K → Type 0} {failures : K → ℕ} {stood stands : M → Type 0} {led : M → List E → M} {replies : M → List E → List (ℕ × R)} {counted : M → List E → Type 0}
    {events : List E} {old new : K} (fault : SinkFault) → fault.at < length events → failures new ≡ one_failure_more (failures old)
    → ((m : M) → stood m → stands (led m (take (fault.at + 1) events)))
    → ((m : M) → stood m → MissesNext takes misses (replies m (take fault.at events)) (replies m (take (fault.at + 1) events)) old new)
    → ((m : M) → stood m → counted m (take (fault.at + 1) events))
    → Runs takes misses failures stood stands led replies counted events old new (Err fault)
missed_one fault before failed stopped missed counted = record {
  ok = _;
  at = before;
  failed = failed;
  not_failed = _;
  ran = _;
  taken = _;
  counters = _;
  stopped = stopped;
  taken_before = missed;
  counters_before = counted;
}
