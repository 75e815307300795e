-- What goes before what, and what holds of each timer of a set.
use Rattle.lapd_clock.proofs.Vocabulary.{◌≡◌, ◌≤◌, false, List, [], ◌∷◌, ap, arith, AllByRecursion, nat_lt, is_lt, nat_tests, tied_itself, Expiry, is_before, in_order}
use Rattle.lapd_clock.proofs.Ordered.{All-put_in_order}
use Rattle.lapd_clock.proofs.TimerOrder.{expiry_total}

-- nothing goes before itself
pub before_itself : (e : Expiry) → is_before e e ≡ false
before_itself e = ap is_lt (tied_itself expiry_total e)

-- what does not go first is no earlier
pub no_earlier : (a b : Expiry) → is_before a b ≡ false → b.moment ≤ a.moment
no_earlier a b = grind (arith, nat_lt, nat_tests)

pub none_earlier : (e : Expiry) (xs : List Expiry) → AllByRecursion (λ x. is_before x e ≡ false) xs → AllByRecursion (λ x. e.moment ≤ x.moment) xs
none_earlier e [] h = tt
none_earlier e (x ∷ xs) h = (no_earlier x e h.0, none_earlier e xs h.1)

-- what holds of each of a list holds of each of the set
pub All-in_order : (P : Expiry → Type 0) (es : List Expiry) → AllByRecursion P es → AllByRecursion P (in_order es)
unfolding in_order
All-in_order P [] h = tt
All-in_order P (e ∷ es) h = All-put_in_order is_before P e (in_order es) h.0 (All-in_order P es h.1)
