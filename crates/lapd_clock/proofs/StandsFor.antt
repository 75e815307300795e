-- The set that a list of timers stands for.
use Rattle.lapd_clock.proofs.Vocabulary.{◌≡◌, Bool, List, [], ◌∷◌, ◌++◌, count_by, refl, ap, ◌∙◌, arith, put_in_order, IsInOrder, Expiry, is_before, in_order}
use Rattle.lapd_clock.proofs.Ordered.{put_in_order-swap, IsInOrder-put_in_order, count_by-put_in_order, count_by-cons}
use Rattle.lapd_clock.proofs.TimerOrder.{before_order, same_expiry}

pub swap : (x y : Expiry) (zs : List Expiry) → put_in_order is_before x (put_in_order is_before y zs) ≡ put_in_order is_before y (put_in_order is_before x zs)
swap = put_in_order-swap is_before before_order same_expiry

-- one more timer somewhere in the list is one more in the set
pub in_order-inserted : (e : Expiry) (xs ys zs : List Expiry) → in_order ((xs ++ e ∷ ys) ++ zs) ≡ put_in_order is_before e (in_order ((xs ++ ys) ++ zs))
unfolding in_order
in_order-inserted e [] ys zs = refl
in_order-inserted e (x ∷ xs) ys zs = ap (put_in_order is_before x) (in_order-inserted e xs ys zs) ∙ swap x e (in_order ((xs ++ ys) ++ zs))

pub IsInOrder-in_order : (es : List Expiry) → IsInOrder is_before (in_order es)
unfolding in_order
IsInOrder-in_order [] = tt
IsInOrder-in_order (e ∷ es) = IsInOrder-put_in_order is_before before_order e (in_order es) (IsInOrder-in_order es)

pub count_by-in_order : (p : Expiry → Bool) (es : List Expiry) → count_by p (in_order es) ≡ count_by p es
unfolding in_order
count_by-in_order p [] = refl
count_by-in_order p (e ∷ es) = grind (arith, count_by-put_in_order, count_by-cons, (count_by-in_order p es))
