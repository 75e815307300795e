-- The lists of a terminal, as an observer has them and as they are: its TEIs at their places, and its messages.
use Rattle.laws_trace.proofs.Vocabulary.{◌≡◌, ℕ, suc, ◌+◌, ◌≤◌, ◌==◌, ◌||◌, Bool, true, false, cond, List, [], ◌∷◌, ◌++◌, length, set, Option, Some, None, refl, sym, ap, ◌∙◌, arith, eqb-true, true≢false, filter, list_any, is_some, nat_lt, option_map, IsAt, IsSoundTable, Places, is_free, has, free_place, place_of, freed}
use Rattle.std.specs.List.{position}
use Rattle.model_teis.specs.declared.terminal.messages.Message.{Message}
use Rattle.model_teis.specs.declared.terminal.messages.Message.TheVariants.{IdentityRequest, IdentityCheckResponse, IdentityVerify}
use Rattle.model_teis.specs.declared.terminal.procedure.Procedure.{Procedure}
use Rattle.model_teis.specs.Table as table
use Rattle.model_teis.specs.terminal.Words as words
use Rattle.laws_trace.specs.ManagingTerminal as seen
use Rattle.laws_trace.proofs.ManagingTables.{AreOn, taken, times, none-else, none-times}

-- Tests that agree choose the same.
pub filter-same : {X : Type 0} (p q : X → Bool) → ((x : X) → p x ≡ q x) → (xs : List X) → filter p xs ≡ filter q xs
filter-same p q h [] = refl
filter-same p q h (x ∷ xs) = ap (λ b. cond b (x ∷ filter p xs) (filter p xs)) (h x) ∙ ap (λ ys. cond (q x) (x ∷ ys) ys) (filter-same p q h xs)

pub any-same : {X : Type 0} (p q : X → Bool) → ((x : X) → p x ≡ q x) → (xs : List X) → list_any p xs ≡ list_any q xs
any-same p q h [] = refl
any-same p q h (x ∷ xs) = ap (λ b. b || list_any p xs) (h x) ∙ ap (λ b. q x || b) (any-same p q h xs)

-- The first place at which a test passes is that of the first element, or one more than in the rest.
abbrev one-on : Option ℕ → Option ℕ
one-on o = option_map suc o

rest-first : (n len : ℕ) → cond (nat_lt (suc n) (suc len)) (Some (suc n)) None ≡ one-on (cond (nat_lt n len) (Some n) None)
rest-first n len = grind arith

pub first-of : {X : Type 0} (p : X → Bool) (x : X) (xs : List X) (b : Bool) → p x ≡ b → position p (x ∷ xs) ≡ cond b (Some 0) (one-on (position p xs))
first-of p x xs b is = grind (arith, rest-first)

-- What a terminal's messages are.
pub response-same : (m : Message) → seen.is_response m ≡ words.is_response m
response-same m = grind arith

pub response-for-same : (tei : ℕ) (m : Message) → seen.is_response_for tei m ≡ words.is_response_of tei m
response-for-same tei m = grind arith

pub verified-same : (tei : ℕ) (o : Option Procedure) → seen.is_verified tei o ≡ words.is_verified tei o
verified-same tei o = grind arith

-- A request takes the place of an older one, and a verify goes to the end, if none waits.
put-after : (m x : Message) (ms : List Message) (o : Option ℕ) → words.put_at m (x ∷ ms) (one-on o) ≡ x ∷ words.put_at m ms o
put-after m x ms o = grind arith

pub request-same : (ri : ℕ) (ms : List Message) → seen.with_request ri ms ≡ words.with_request ri ms
request-same ri [] = refl
request-same ri (IdentityRequest old ∷ ms) = sym (ap (words.put_at (IdentityRequest ri) (IdentityRequest old ∷ ms)) (first-of words.is_request (IdentityRequest old) ms true refl))
request-same ri (IdentityCheckResponse old tei ∷ ms) =
    ap (λ ms. IdentityCheckResponse old tei ∷ ms) (request-same ri ms)
    ∙ sym (put-after (IdentityRequest ri) (IdentityCheckResponse old tei) ms (position words.is_request ms))
    ∙ sym (ap (words.put_at (IdentityRequest ri) (IdentityCheckResponse old tei ∷ ms)) (first-of words.is_request (IdentityCheckResponse old tei) ms false refl))
request-same ri (IdentityVerify tei ∷ ms) =
    ap (λ ms. IdentityVerify tei ∷ ms) (request-same ri ms)
    ∙ sym (put-after (IdentityRequest ri) (IdentityVerify tei) ms (position words.is_request ms))
    ∙ sym (ap (words.put_at (IdentityRequest ri) (IdentityVerify tei ∷ ms)) (first-of words.is_request (IdentityVerify tei) ms false refl))

behind : (b : Bool) (x v : Message) (ms : List Message) → x ∷ cond b ms (ms ++ v ∷ []) ≡ cond b (x ∷ ms) (x ∷ ms ++ v ∷ [])
behind b x v ms = grind arith

pub verify-same : (tei : ℕ) (ms : List Message) → seen.with_verify tei ms ≡ words.with_verify tei ms
verify-same tei [] = refl
verify-same tei (IdentityRequest ri ∷ ms) = ap (λ ms. IdentityRequest ri ∷ ms) (verify-same tei ms) ∙ behind (list_any words.is_verify ms) (IdentityRequest ri) (IdentityVerify tei) ms
verify-same tei (IdentityCheckResponse ri on ∷ ms) =
    ap (λ ms. IdentityCheckResponse ri on ∷ ms) (verify-same tei ms) ∙ behind (list_any words.is_verify ms) (IdentityCheckResponse ri on) (IdentityVerify tei) ms
verify-same tei (IdentityVerify on ∷ ms) = refl

-- Which TEIs are on the line, and whether a place is free.
pub on-same : (tei : ℕ) (places : Places) → list_any (λ on. on == tei) (seen.teis_of places) ≡ table.is_on tei places
on-same tei [] = refl
on-same tei (None ∷ places) = on-same tei places
on-same tei (Some on ∷ places) = ap (λ b. (on == tei) || b) (on-same tei places)

or-some : (o : Option ℕ) → is_some o ≡ is_some (one-on o)
or-some o = grind arith

pub free-same : (places : Places) → list_any seen.is_free places ≡ is_some (free_place places)
free-same [] = refl
free-same (None ∷ places) = sym (ap is_some (first-of is_free None places true refl))
free-same (Some on ∷ places) = free-same places ∙ or-some (free_place places) ∙ sym (ap is_some (first-of is_free (Some on) places false refl))

-- A TEI that comes takes the first place that is free.
abbrev put-on : ℕ → Places → Option ℕ → Places
put-on tei places None = places
put-on tei places (Some place) = set places place (Some tei)

put-later : (tei on : ℕ) (places : Places) (o : Option ℕ) → put-on tei (Some on ∷ places) (one-on o) ≡ Some on ∷ put-on tei places o
put-later tei on places o = grind arith

comes-first : (tei : ℕ) (places : Places) → seen.with_tei tei places ≡ put-on tei places (free_place places)
comes-first tei [] = refl
comes-first tei (None ∷ places) = sym (ap (put-on tei (None ∷ places)) (first-of is_free None places true refl))
comes-first tei (Some on ∷ places) =
    ap (λ places. Some on ∷ places) (comes-first tei places) ∙ sym (put-later tei on places (free_place places))
    ∙ sym (ap (put-on tei (Some on ∷ places)) (first-of is_free (Some on) places false refl))

pub comes-same : (tei place : ℕ) (places : Places) → free_place places ≡ Some place → seen.with_tei tei places ≡ set places place (Some tei)
comes-same tei place places free = comes-first tei places ∙ ap (put-on tei places) free

-- One that leaves leaves its place free; no other place has it.
abbrev pub IsOnce : ℕ → Places → Type 0
IsOnce tei places = (i j : ℕ) → IsAt places i tei → IsAt places j tei → i ≡ j

once-later : (tei : ℕ) (o : Option ℕ) (places : Places) → IsOnce tei (o ∷ places) → IsOnce tei places
once-later tei o places once i j at there = let e : suc i ≡ suc j = once (suc i) (suc j) at there in omega (arith, e)

none-later : (tei on : ℕ) (places : Places) → (on == tei) ≡ true → IsOnce tei (Some on ∷ places) → table.is_on tei places ≡ false
none-later tei on places same once =
    none-else tei places (λ j at. let e : suc j ≡ 0 = once (suc j) 0 at (ap Some (eqb-true on tei same)) in absurd (omega (arith, e)))

stays-all : (tei : ℕ) (places : Places) → table.is_on tei places ≡ false → seen.without_tei tei places ≡ places
stays-all tei [] off = refl
stays-all tei (None ∷ places) off = ap (λ places. None ∷ places) (stays-all tei places off)
stays-all tei (Some on ∷ places) off = go (on == tei) off (λ off. stays-all tei places off)
  where
    go : (b : Bool) → (b || table.is_on tei places) ≡ false → (table.is_on tei places ≡ false → seen.without_tei tei places ≡ places) → cond b None (Some on) ∷ seen.without_tei tei places ≡ Some on ∷ places
    go true off rest = absurd (true≢false off)
    go false off rest = ap (λ places. Some on ∷ places) (rest off)

free-later : (o : Option ℕ) (places : Places) (p : Option ℕ) → freed (o ∷ places) (one-on p) ≡ o ∷ freed places p
free-later o places p = grind arith

pub leaves-same : (tei : ℕ) (places : Places) → IsOnce tei places → seen.without_tei tei places ≡ freed places (place_of tei places)
leaves-same tei [] once = refl
leaves-same tei (None ∷ places) once =
    ap (λ places. None ∷ places) (leaves-same tei places (once-later tei None places once)) ∙ sym (free-later None places (place_of tei places))
    ∙ sym (ap (freed (None ∷ places)) (first-of (has tei) None places false refl))
leaves-same tei (Some on ∷ places) once = go (on == tei) refl (leaves-same tei places (once-later tei (Some on) places once))
  where
    go : (b : Bool) → (on == tei) ≡ b → seen.without_tei tei places ≡ freed places (place_of tei places) → cond b None (Some on) ∷ seen.without_tei tei places ≡ freed (Some on ∷ places) (place_of tei (Some on ∷ places))
    go true same rest =
        ap (λ places. None ∷ places) (stays-all tei places (none-later tei on places same once)) ∙ sym (ap (freed (Some on ∷ places)) (first-of (has tei) (Some on) places true same))
    go false other rest =
        ap (λ places. Some on ∷ places) rest ∙ sym (free-later (Some on) places (place_of tei places))
        ∙ sym (ap (freed (Some on ∷ places)) (first-of (has tei) (Some on) places false other))

-- So the TEIs that an observer has by place are those on the line.
size-is : (places : Places) → length (seen.teis_of places) ≡ taken places
size-is [] = refl
size-is (None ∷ places) = size-is places
size-is (Some on ∷ places) = let rest = size-is places in omega (arith, rest)

each-once : (tei : ℕ) (places : Places) → IsOnce tei places → times tei (seen.teis_of places) ≤ 1
each-once tei [] once = omega arith
each-once tei (None ∷ places) once = each-once tei places (once-later tei None places once)
each-once tei (Some on ∷ places) once = go (on == tei) refl (each-once tei places (once-later tei (Some on) places once))
  where
    go : (b : Bool) → (on == tei) ≡ b → times tei (seen.teis_of places) ≤ 1 → cond b (times tei (seen.teis_of places) + 1) (times tei (seen.teis_of places)) ≤ 1
    go true same rest = let none = none-times tei (seen.teis_of places) (on-same tei places ∙ none-later tei on places same once) in omega (arith, none)
    go false other rest = rest

pub teis-are-on : (places : Places) → IsSoundTable places → AreOn (seen.teis_of places) places
teis-are-on places s = record { same = λ x. on-same x places; size = size-is places; once = λ x. each-once x places (λ i j at there. s.once i j x at there) }
