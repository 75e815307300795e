-- The entries of a finite map whose keys are numbers, as a list in any order.
use Rattle.lapd_store.proofs.Vocabulary.{zero, suc, ◌+◌, option_map, entries_from, ◌≡◌, ◌≢◌, ℕ, ◌<◌, Bool, true, false, cond, T, Option, Some, None, List, [], ◌∷◌, map, refl, sym, ap, subst, ◌∙◌, inl, inr, arith, eqb, get_or, eqb-false, ne_eqb, eq-eqb, cases_eq, and_parts, cond-true, cond-false, nat_tests, nil_from_length, All-nil, All-cons, All-contains, All-map, recursion_from_All}
use Rattle.lapd_store.proofs.Vocabulary.{Contains-append_right, IsPermutation-refl, IsPermutation-sym, IsPermutation-cons, IsPermutation-trans, IsPermutation-middle, IsPermutation-map, All-permutation, IsDistinct-head, IsDistinct-tail, IsDistinct-cons, IsDistinct-from_apart, IsDistinct-IsPermutation, none-some, same_Some, nat_cmp_total, unsigned_tied, Less, Equal, Greater, by_order, below_all}
use Rattle.lapd_store.proofs.Vocabulary.{find, put, is_sorted, All, AllByRecursion, Contains, IsDistinct, IsPermutation, nat_cmp, is_lt, is_eq, eq_by_cmp}
use Rattle.std.specs.FinMap as finmap

holds : (b : Bool) → T b → b ≡ true
holds b t = grind arith

tied : (x y : ℕ) → x ≡ y → eq_by_cmp nat_cmp x y ≡ true
tied x y e = unsigned_tied x y ∙ eq-eqb x y e

untied : (x y : ℕ) → x ≢ y → eq_by_cmp nat_cmp x y ≡ false
untied x y ne = unsigned_tied x y ∙ ne_eqb x y ne

lower : (x y : ℕ) → is_lt (nat_cmp x y) ≡ true → x < y
lower x y is = grind (arith, nat_tests)

eqb-flips : (x y : ℕ) → eqb x y ≡ eqb y x
eqb-flips x y = grind (arith, nat_tests)

-- what holds at one key and at every other holds at each
pub each_key : (P : ℕ → Type 0) (k : ℕ) → P k → ((q : ℕ) → q ≢ k → P q) → (q : ℕ) → P q
each_key P k here other q = elim (cases_eq q k) [ inl e ↦ subst P (sym e) here | inr ne ↦ other q ne ]

module _ {X : Type 0} where
  pub get-insert_same : (m : finmap.FinMap nat_cmp X) (k : ℕ) (v : X) → finmap.get (finmap.insert m k v) k ≡ Some v
  get-insert_same m k v = finmap.get-insert nat_cmp_total m k v k ∙ cond-true _ _ _ (tied k k refl)

  pub get-insert_other : (m : finmap.FinMap nat_cmp X) (k : ℕ) (v : X) (q : ℕ) → q ≢ k → finmap.get (finmap.insert m k v) q ≡ finmap.get m q
  get-insert_other m k v q ne = finmap.get-insert nat_cmp_total m k v q ∙ cond-false _ _ _ (untied q k ne)

  pub get-remove_same : (m : finmap.FinMap nat_cmp X) (k : ℕ) → finmap.get (finmap.remove m k) k ≡ None
  get-remove_same m k = finmap.get-remove nat_cmp_total m k k ∙ cond-true _ _ _ (tied k k refl)

  pub get-remove_other : (m : finmap.FinMap nat_cmp X) (k q : ℕ) → q ≢ k → finmap.get (finmap.remove m k) q ≡ finmap.get m q
  get-remove_other m k q ne = finmap.get-remove nat_cmp_total m k q ∙ cond-false _ _ _ (untied q k ne)

  pub same_entries : (m n : finmap.FinMap nat_cmp X) → ((q : ℕ) → finmap.get m q ≡ finmap.get n q) → m ≡ n
  same_entries m n = finmap.same_map nat_cmp_total finmap.nat_cmp-IsAntisymmetric m n

  -- a value taken out and put back
  pub insert-remove_same : (m : finmap.FinMap nat_cmp X) (k : ℕ) (v : X) → finmap.get m k ≡ Some v → finmap.insert (finmap.remove m k) k v ≡ m
  insert-remove_same m k v is = grind (arith, same_entries, each_key, get-insert_same, get-insert_other, get-remove_other)

  -- a new value taken out again
  pub remove-insert_same : (m : finmap.FinMap nat_cmp X) (k : ℕ) (v : X) → finmap.get m k ≡ None → finmap.remove (finmap.insert m k v) k ≡ m
  remove-insert_same m k v free = grind (arith, same_entries, each_key, get-remove_same, get-remove_other, get-insert_other)

  -- an entry at a new key goes somewhere among the others
  put_permutes : (k : ℕ) (v : X) (es : List (ℕ × X)) → find nat_cmp k es ≡ None → IsPermutation ((k, v) ∷ es) (put nat_cmp k v es)
  put_permutes k v [] none = IsPermutation-refl _
  put_permutes k v (e ∷ es) none =
      elim (nat_cmp k e.0) as (λ o. cond (is_eq o) (Some e.1) (find nat_cmp k es) ≡ None → IsPermutation ((k, v) ∷ e ∷ es) (by_order o ((k, v) ∷ e ∷ es) ((e.0, v) ∷ es) (e ∷ put nat_cmp k v es))) [
        | Less ↦ λ is. IsPermutation-refl _
        | Equal ↦ λ is. absurd (none-some e.1 (sym is))
        | Greater ↦ λ is. IsPermutation-trans _ _ _ (IsPermutation-middle ((k, v) ∷ []) e es) (IsPermutation-cons e _ _ (put_permutes k v es is))
      ] none

  -- the entries after an insert at a free key
  pub entries-insert_free : (m : finmap.FinMap nat_cmp X) (k : ℕ) (v : X) → finmap.get m k ≡ None → IsPermutation ((k, v) ∷ finmap.entries m) (finmap.entries (finmap.insert m k v))
  entries-insert_free m k v free =
      subst (λ es. IsPermutation ((k, v) ∷ finmap.entries m) es)
      (sym (finmap.entries-insert nat_cmp_total m k v))
      (put_permutes k v (finmap.entries m) (sym (finmap.get-entries m k) ∙ free))

  pub entries-empty : finmap.entries (finmap.empty {X = X} {R = nat_cmp}) ≡ []
  entries-empty = nil_from_length _ (sym (finmap.len-entries finmap.empty) ∙ finmap.len-empty nat_cmp X)

  -- a key is found where an entry has it
  pub find-head : (q : ℕ) (e : ℕ × X) (es : List (ℕ × X)) → q ≡ e.0 → find nat_cmp q (e ∷ es) ≡ Some e.1
  find-head q e es is = cond-true _ _ _ (tied q e.0 is)

  pub find-tail : (q : ℕ) (e : ℕ × X) (es : List (ℕ × X)) → q ≢ e.0 → find nat_cmp q (e ∷ es) ≡ find nat_cmp q es
  find-tail q e es ne = cond-false _ _ _ (untied q e.0 ne)

  above : (x : ℕ) (es : List (ℕ × X)) → below_all nat_cmp x es ≡ true → All (λ p. x < p.0) es
  above x [] b = All-nil _
  above x (e ∷ es) b = grind (arith, and_parts, All-cons, lower, (above x es))

  -- each entry of a list in order is found under its key
  each_found : (es : List (ℕ × X)) → is_sorted nat_cmp es ≡ true → All (λ p. find nat_cmp p.0 es ≡ Some p.1) es
  each_found [] s = All-nil _
  each_found (e ∷ es) s = grind (arith, and_parts, above, All-cons, find-head, find-tail, (each_found es))

  -- each entry of a map is what its key has
  pub entries_found : (m : finmap.FinMap nat_cmp X) → All (λ p. finmap.get m p.0 ≡ Some p.1) (finmap.entries m)
  entries_found m i d h = finmap.get-entries m _ ∙ each_found (finmap.entries m) (holds _ (finmap.entries_sorted m)) i d h

  distinct_from_sorted : (es : List (ℕ × X)) → is_sorted nat_cmp es ≡ true → IsDistinct eqb (map (λ p. p.0) es)
  distinct_from_sorted [] s = IsDistinct-from_apart eqb [] (λ i j d low high. absurd (omega arith))
  distinct_from_sorted (e ∷ es) s =
      let parts = and_parts (below_all nat_cmp e.0 es) (is_sorted nat_cmp es) s in
      IsDistinct-cons eqb e.0 _
      (recursion_from_All (λ y. eqb e.0 y ≡ false) _ (All-map (λ y. eqb e.0 y ≡ false) (λ p. p.0) es (λ i d h. let higher : e.0 < (get_or es i d).0 = above e.0 es parts.0 i d h in ne_eqb e.0 (get_or es i d).0 (omega arith))))
      (distinct_from_sorted es parts.1)

  -- no key stands twice among the entries of a map
  pub entries_distinct : (m : finmap.FinMap nat_cmp X) → IsDistinct eqb (map (λ p. p.0) (finmap.entries m))
  entries_distinct m = distinct_from_sorted (finmap.entries m) (holds _ (finmap.entries_sorted m))

  -- nor among them in any order
  pub keys_distinct : (m : finmap.FinMap nat_cmp X) (es : List (ℕ × X)) → IsPermutation es (finmap.entries m) → IsDistinct eqb (map (λ p. p.0) es)
  keys_distinct m es order =
      IsDistinct-IsPermutation eqb eqb-flips _ _
      (IsPermutation-map (λ p. p.0) _ _ (IsPermutation-sym _ _ order))
      (entries_distinct m)

  found_contained : (q : ℕ) (v : X) (es : List (ℕ × X)) → find nat_cmp q es ≡ Some v → Contains es (q, v)
  found_contained q v [] is = absurd (none-some v is)
  found_contained q v (e ∷ es) is =
      elim (cases_eq q e.0) [
        | inl same ↦ (0, omega arith, λ i. (sym same i, same_Some _ _ (sym (find-head q e es same) ∙ is) i))
        | inr ne ↦ Contains-append_right (e ∷ []) es (q, v) (found_contained q v es (sym (find-tail q e es ne) ∙ is))
      ]

  -- what a key has is among the entries
  pub get_contained : (m : finmap.FinMap nat_cmp X) (q : ℕ) (v : X) → finmap.get m q ≡ Some v → Contains (finmap.entries m) (q, v)
  get_contained m q v is = found_contained q v (finmap.entries m) (sym (finmap.get-entries m q) ∙ is)

  apart_unfound : (q : ℕ) (es : List (ℕ × X)) → AllByRecursion (λ y. eqb q y ≡ false) (map (λ p. p.0) es) → find nat_cmp q es ≡ None
  apart_unfound q [] apart = refl
  apart_unfound q (e ∷ es) apart = find-tail q e es (eqb-false q e.0 apart.0) ∙ apart_unfound q es apart.1

  -- entries of different keys are those of their map
  pub entries-from_entries : (es : List (ℕ × X)) → IsDistinct eqb (map (λ p. p.0) es) → IsPermutation es (finmap.entries (finmap.from_entries {R = nat_cmp} es))
  entries-from_entries [] distinct = subst (IsPermutation []) (sym entries-empty) (IsPermutation-refl [])
  entries-from_entries (e ∷ es) distinct =
      let free = finmap.get-from_entries nat_cmp_total es e.0 ∙ apart_unfound e.0 es (IsDistinct-head eqb e.0 _ distinct) in
      let rest = entries-from_entries es (IsDistinct-tail eqb e.0 _ distinct) in
      IsPermutation-trans _ _ _ (IsPermutation-cons e _ _ rest) (entries-insert_free (finmap.from_entries es) e.0 e.1 free)

  -- maps of the same entries, in any order, are the same
  found_there : (m n : finmap.FinMap nat_cmp X) → IsPermutation (finmap.entries m) (finmap.entries n)
      → (q : ℕ) (v : X) → finmap.get n q ≡ Some v → finmap.get m q ≡ Some v
  found_there m n order q v is =
      All-contains (λ p. finmap.get m p.0 ≡ Some p.1) _ (q, v)
      (All-permutation (λ p. finmap.get m p.0 ≡ Some p.1) _ _ order (entries_found m)) (get_contained n q v is)

  same_from_permuted : (m n : finmap.FinMap nat_cmp X) → IsPermutation (finmap.entries m) (finmap.entries n) → m ≡ n
  same_from_permuted m n order =
      same_entries m n (λ q. agree (finmap.get m q) (finmap.get n q) (found_there m n order q) (found_there n m (IsPermutation-sym _ _ order) q))
    where
      agree : (o p : Option X) → ((v : X) → p ≡ Some v → o ≡ Some v) → ((v : X) → o ≡ Some v → p ≡ Some v) → o ≡ p
      agree o p back there = grind arith

  -- what is left of the entries after a removal
  pub entries-remove : (m : finmap.FinMap nat_cmp X) (k : ℕ) (v : X) (es : List (ℕ × X)) → IsPermutation ((k, v) ∷ es) (finmap.entries m) → IsPermutation es (finmap.entries (finmap.remove m k))
  entries-remove m k v es order =
      let distinct = keys_distinct m ((k, v) ∷ es) order in
      let free = finmap.get-from_entries nat_cmp_total es k ∙ apart_unfound k es (IsDistinct-head eqb k _ distinct) in
      let whole = same_from_permuted (finmap.from_entries ((k, v) ∷ es)) m (IsPermutation-trans _ _ _ (IsPermutation-sym _ _ (entries-from_entries ((k, v) ∷ es) distinct)) order) in
      let is = ap (λ n. finmap.remove n k) (sym whole) ∙ remove-insert_same (finmap.from_entries es) k v free in
      subst (λ n. IsPermutation es (finmap.entries n)) (sym is) (entries-from_entries es (IsDistinct-tail eqb k _ distinct))

-- the entries of a list of places, found by their number
find_before : {X : Type 0} (key q : ℕ) (places : List (Option X)) → q < key → find nat_cmp q (entries_from key places) ≡ None
find_before key q [] low = refl
find_before key q (None ∷ rest) low = find_before (key + 1) q rest (omega arith)
find_before key q (Some v ∷ rest) low = grind (arith, find-tail, (find_before (key + 1) q rest (omega arith)))

pub find_from : {X : Type 0} (key i q : ℕ) (places : List (Option X)) → q ≡ key + i → find nat_cmp q (entries_from key places) ≡ get_or places i None
find_from key i q [] is = refl
find_from key zero q (None ∷ rest) is = find_before (key + 1) q rest (omega arith)
find_from key (suc i) q (None ∷ rest) is = find_from (key + 1) i q rest (omega arith)
find_from key zero q (Some v ∷ rest) is = find-head q (key, v) (entries_from (key + 1) rest) (omega arith)
find_from key (suc i) q (Some v ∷ rest) is = grind (arith, find-tail, (find_from (key + 1) i q rest (omega arith)))

-- each value of a list of entries changed
pub find_changed : {X Y : Type 0} (f : X → Y) (q : ℕ) (es : List (ℕ × X)) → find nat_cmp q (map (λ e. (e.0, f e.1)) es) ≡ option_map f (find nat_cmp q es)
find_changed f q [] = refl
find_changed f q (e ∷ es) = grind (arith, (find_changed f q es))
