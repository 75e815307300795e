-- The order in which timers fall due is total, and only equal ones tie.
use Rattle.lapd_clock.proofs.Vocabulary.{◌≡◌, false, arith, Ordering, Equal, IsTotalOrder, IsStrictWeakOrder, ordering_then, ordering_reverse, is_lt, nat_cmp_total, on_total, then_total, eq_by_cmp_equiv, ranks_by, exact_unsigned, Timer, kind_rank, tei_rank, service_rank, timer_cmp, is_same, Expiry, expiry_cmp, is_before}

-- the orders are total,
pub timer_total : IsTotalOrder timer_cmp
timer_total = then_total (on_total kind_rank nat_cmp_total) (then_total (on_total tei_rank nat_cmp_total) (on_total service_rank nat_cmp_total))

pub expiry_total : IsTotalOrder expiry_cmp
expiry_total = then_total (on_total (λ (e : Expiry). e.moment) nat_cmp_total) (then_total (on_total (λ (e : Expiry). e.line) nat_cmp_total) (on_total (λ (e : Expiry). e.timer) timer_total))

-- so that going first is a strict weak order
pub before_order : IsStrictWeakOrder is_before
before_order = ranks_by expiry_total (λ (e : Expiry). e)

-- only equal ranks tie, and only equal timers have equal ranks
then_equal : (r s : Ordering) → ordering_then r s ≡ Equal → (r ≡ Equal) × (s ≡ Equal)
then_equal r s e = grind arith

pub same_timer : (a b : Timer) → timer_cmp a b ≡ Equal → a ≡ b
same_timer a b e = grind (arith, then_equal, exact_unsigned)

not_less : (r : Ordering) → is_lt r ≡ false → is_lt (ordering_reverse r) ≡ false → r ≡ Equal
not_less r a b = grind arith

-- of two expiries one goes before the other, unless they are equal
pub same_expiry : (a b : Expiry) → is_before a b ≡ false → is_before b a ≡ false → a ≡ b
same_expiry a b ab ba = grind (arith, then_equal, not_less, expiry_total, exact_unsigned, same_timer)

-- being the same timer goes both ways
pub is_same_both_ways : (a b : Timer) → is_same a b ≡ is_same b a
is_same_both_ways = (eq_by_cmp_equiv timer_total).symm
