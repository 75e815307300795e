-- Links by their numbers, and sums over them.
use Rattle.std.proofs.lemmas.List.FromFn.{get_or-range_with_len, length-range_with_len}
use Rattle.model_line.proofs.Vocabulary.{◌≡◌, ◌≢◌, ℕ, zero, suc, ◌+◌, ◌*◌, ◌≤◌, ◌<◌, ◌⊎◌, refl, ap, sym, ◌∙◌, subst, arith, get_or, length, ⊎_elim, sum_by, range_with_len, sum_by-cons, cases_eq, Service, Call, Packet, link_number, service_at, place_at}

-- a number has its service and its place
pub place_at-number : (place : ℕ) (service : Service) → place_at (link_number place service) ≡ place
place_at-number place service = grind arith

pub service_at-number : (place : ℕ) (service : Service) → service_at (link_number place service) ≡ service
service_at-number place service = grind arith

pub number_within : (place count : ℕ) (service : Service) → place < count → link_number place service < 2 * count
number_within place count service h = grind arith

pub place_within : (number count : ℕ) → number < 2 * count → place_at number < count
place_within number count h = omega (arith, h)

-- the links of one place are two
pub other_place : (number place : ℕ) (service : Service) → place_at number ≢ place → number ≢ link_number place service
other_place number place service h e = h (ap place_at e ∙ place_at-number place service)

pub at_place : (number place : ℕ) → place_at number ≡ place → (number ≡ link_number place Call) ⊎ (number ≡ link_number place Packet)
at_place number place e = grind (arith, cases_eq)

-- so many numbers, from 0 on
pub at : (count number : ℕ) → number < count → get_or (range_with_len 0 count) number 0 ≡ number
at count number h =
    let none_before : 0 + number ≡ number = omega arith in
    get_or-range_with_len 0 count number 0 h ∙ none_before

pub below : (count k : ℕ) → k < length (range_with_len 0 count) → get_or (range_with_len 0 count) k 0 < count
below count k h =
    let less : k < count = subst (λ (n : ℕ). k < n) (length-range_with_len 0 count) h in
    subst (λ (n : ℕ). n < count) (sym (at count k less)) less

pub within-range : (count number : ℕ) → number < count → number < length (range_with_len 0 count)
within-range count number h = subst (λ (n : ℕ). number < n) (sym (length-range_with_len 0 count)) h

-- a sum of which one term changes
sum_elsewhere : (f g : ℕ → ℕ) (a n i : ℕ) → i < a → ((j : ℕ) → j ≢ i → g j ≡ f j) → sum_by g (range_with_len a n) ≡ sum_by f (range_with_len a n)
sum_elsewhere f g a zero i past same = refl
sum_elsewhere f g a (suc n) i past same =
    let head : g a ≡ f a = same a (λ e. omega (arith, past, e)) in
    sum_by-cons g a (range_with_len (a + 1) n) ∙ omega (arith, head, (sum_elsewhere f g (a + 1) n i (omega (arith, past)) same)) ∙ sym (sum_by-cons f a (range_with_len (a + 1) n))

pub sum_changed : (f g : ℕ → ℕ) (a n i : ℕ) → a ≤ i → i < a + n → ((j : ℕ) → j ≢ i → g j ≡ f j)
    → sum_by g (range_with_len a n) + f i ≡ sum_by f (range_with_len a n) + g i
sum_changed f g a zero i from to same = absurd (omega (arith, from, to))
sum_changed f g a (suc n) i from to same =
    ⊎_elim
    (λ at.
    let here : g a ≡ g i = ap g (sym at) in
    let there : f a ≡ f i = ap f (sym at) in
    let rest = sum_elsewhere f g (a + 1) n i (omega (arith, at)) same in
    omega (arith, here, there, rest, sum_by-cons g a (range_with_len (a + 1) n), sum_by-cons f a (range_with_len (a + 1) n)))
    (λ other.
    let head : g a ≡ f a = same a (λ e. other (sym e)) in
    omega (arith, head, (sum_changed f g (a + 1) n i (omega (arith, from, other)) (omega (arith, to)) same), sum_by-cons g a (range_with_len (a + 1) n), sum_by-cons f a (range_with_len (a + 1) n)))
    (cases_eq i a)

pub sum_bounded : (f : ℕ → ℕ) (a n m : ℕ) → ((j : ℕ) → j < a + n → f j ≤ m) → sum_by f (range_with_len a n) ≤ n * m
sum_bounded f a zero m below = omega arith
sum_bounded f a (suc n) m below =
    let rest = sum_bounded f (a + 1) n m (λ j h. below j (omega (arith, h))) in
    omega (arith, (below a (omega arith)), rest, sum_by-cons f a (range_with_len (a + 1) n))
