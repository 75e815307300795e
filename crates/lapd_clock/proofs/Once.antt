-- No timer runs twice in the set, and so none does in the list that it is made of.
use Rattle.lapd_clock.proofs.Vocabulary.{◌≡◌, false, List, [], ◌∷◌, AllByRecursion, put_in_order, Expiry, is_before, is_of, IsOneEach, in_order}
use Rattle.lapd_clock.proofs.Ordered.{by_place, All-own, All-from_put_in_order}
use Rattle.lapd_clock.proofs.Running.{other_way}

-- what holds of the set holds of the list that it is made of,
pub All-from_in_order : (P : Expiry → Type 0) (es : List Expiry) → AllByRecursion P (in_order es) → AllByRecursion P es
unfolding in_order
All-from_in_order P [] h = tt
All-from_in_order P (e ∷ es) h = (All-own is_before P e (in_order es) h, All-from_in_order P es (All-from_put_in_order is_before P e (in_order es) h))

-- also that no timer runs twice,
pub from_put : (e : Expiry) (es : List Expiry) → IsOneEach (put_in_order is_before e es) → AllByRecursion (λ other. is_of e.line e.timer other ≡ false) es × IsOneEach es
from_put e [] = λ _. (tt, tt)
from_put e (x ∷ xs) =
    by_place is_before e x xs (λ zs. IsOneEach zs → AllByRecursion (λ other. is_of e.line e.timer other ≡ false) (x ∷ xs) × IsOneEach (x ∷ xs))
    (λ _ h. let rest = from_put e xs h.1 in (
      (other_way x e (All-own is_before (λ other. is_of x.line x.timer other ≡ false) e xs h.0), rest.0),
      (All-from_put_in_order is_before (λ other. is_of x.line x.timer other ≡ false) e xs h.0, rest.1),
    ))
    (λ _ h. h)

pub from_in_order : (es : List Expiry) → IsOneEach (in_order es) → IsOneEach es
unfolding in_order
from_in_order [] h = tt
from_in_order (e ∷ es) h =
    let rest = from_put e (in_order es) h in
    (All-from_in_order (λ other. is_of e.line e.timer other ≡ false) es rest.0, from_in_order es rest.1)
