-- Unit data between times at which a line is down: what begins are fronts of what is granted, one behind the other.
use Rattle.laws_trace.proofs.Vocabulary.{arith, ◌≡◌, ℕ, List, [], ◌∷◌, ◌++◌, map, refl, sym, ap, ◌∙◌, subst, append_assoc, append-nil, filter-append, flat_map-append, map-append, fold, Config, as_octets, Seen, IsFront, Asked, with_request, AreFronts}
use Rattle.laws_trace.proofs.OfOctets.Seen.{requests_seen}
use Rattle.laws_trace.proofs.Units.{units_begun, Step, Goes}

pub more_fronts : (xs ys : List (List ℕ)) (wholes : List (List (List ℕ))) (whole : List (List ℕ)) → AreFronts xs wholes → IsFront ys whole → AreFronts (xs ++ ys) (wholes ++ whole ∷ [])
more_fronts xs ys [] whole none is = subst (λ xs. AreFronts (xs ++ ys) (whole ∷ [])) (sym none) ((ys, [], sym (append-nil ys), is, refl))
more_fronts xs ys (first ∷ wholes) whole (front, rest, split, its, others) is =
    (front, rest ++ ys, ap (λ xs. xs ++ ys) split ∙ append_assoc front rest ys, its, more_fronts rest ys wholes whole others is)

front-mapped : (front whole : List (List ℕ)) → IsFront front whole → IsFront (map as_octets front) (map as_octets whole)
front-mapped front whole is = record { rest = map as_octets is.rest; whole_is = ap (map as_octets) is.whole_is ∙ map-append as_octets front is.rest }

pub mapped : (xs : List (List ℕ)) (wholes : List (List (List ℕ))) → AreFronts xs wholes → AreFronts (map as_octets xs) (map (map as_octets) wholes)
mapped xs [] none = ap (map as_octets) none
mapped xs (whole ∷ wholes) (front, rest, split, its, others) =
    (map as_octets front, map as_octets rest, ap (map as_octets) split ∙ map-append as_octets front rest, front-mapped front whole its, mapped rest wholes others)

-- What has begun, before the line was down last and since, of what is asked for; and what waits.
pub record Spans (begun : List (List ℕ)) (waiting : List (List ℕ)) (asked : Asked) : Type 0 where
  pub before : List (List ℕ)
  pub since : List (List ℕ)
  pub begun_is : begun ≡ before ++ since
  pub fronts : AreFronts before asked.earlier
  pub waits : since ++ waiting ≡ asked.since

module _ (c : Config) where
  abbrev asked_by : Asked → List Seen → Asked
  asked_by asked t = fold (with_request c) asked (requests_seen t)

  same : (begun waiting left : List (List ℕ)) (asked : Asked) → left ≡ waiting → Spans begun waiting asked → Spans (begun ++ []) left asked
  same begun waiting left asked is x = grind (arith, append-nil)

  step : (begun waiting left : List (List ℕ)) (asked : Asked) (s : Seen) → Step c waiting s left → Spans begun waiting asked
      → Spans (begun ++ units_begun c (s ∷ [])) left (asked_by asked (s ∷ []))
  step begun waiting left asked s is x = grind (arith, same, append_assoc, append-nil, more_fronts)

  pub spans : (t : List Seen) (begun waiting left : List (List ℕ)) (asked : Asked) → Goes c waiting t left → Spans begun waiting asked
      → Spans (begun ++ units_begun c t) left (asked_by asked t)
  unfolding Goes
  spans [] begun waiting left asked is x = same begun waiting left asked is x
  spans (s ∷ t) begun waiting left asked (then, does, goes) x =
      let all = spans t (begun ++ units_begun c (s ∷ [])) then left (asked_by asked (s ∷ [])) goes (step begun waiting then asked s does x) in
      grind (arith, units_begun, append_assoc, flat_map-append, filter-append)
