-- Octets that are written one after the other, and what stands in the room then.
use Rattle.std.proofs.Common.{arith, ℕ, zero, suc, ◌≡◌, ◌+◌, ◌-◌, ◌<◌, ◌≤◌, List, [], ◌∷◌, ◌++◌, length, take, drop, map, get_or, min, refl, sym, ap, ◌∙◌, subst, append_assoc, append-nil, length-append, length-take, take_all}
use Rattle.std.specs.Prelude.{flat_map}
use Rattle.std.proofs.Math.Seq.{take-suc}
use Rattle.std.proofs.lemmas.List.{drop-drop}
use Rattle.std.proofs.lemmas.List.Concat.{flat_map_single}
use Rattle.std.proofs.lemmas.Grind.{flat_map-append}
use Rattle.lapd_image.specs.Puts.{Puts}

-- what is cut, and cut again further on, is cut once
take-before : {X : Type 0} (n : ℕ) (xs ys : List X) → take n (take n xs ++ ys) ≡ take n (xs ++ ys)
take-before zero xs ys = refl
take-before (suc n) [] ys = refl
take-before (suc n) (x ∷ xs) ys = ap (λ (l : List _). x ∷ l) (take-before n xs ys)

-- what stands after a place stands after a later one
further : {X : Type 0} (m n : ℕ) (xs ys : List X) → m ≤ n → drop m xs ≡ drop m ys → drop n xs ≡ drop n ys
further m n xs ys more same =
    let sum : m + (n - m) ≡ n = omega (arith, more) in
    let on : (l : List _) → drop (n - m) (drop m l) ≡ drop n l = λ l. drop-drop (n - m) m l ∙ ap (λ k. drop k l) sum in
    sym (on xs) ∙ ap (drop (n - m)) same ∙ on ys

-- where putting ends
pub puts-end : {a old new : List ℕ} {at end : ℕ} → at ≤ length old → Puts a at old end new → end ≡ min (length old) (at + length a)
puts-end {a} {old} {new} {at} {end} within puts =
    let front = ap (λ (l : List ℕ). length l) puts.front in
    let all : length (take (length old) (take at old ++ a)) ≡ min (length old) (length (take at old) + length a) =
    length-take (length old) (take at old ++ a) ∙ ap (min (length old)) (length-append (take at old) a) in
    omega (arith, front, all, length-take end new, length-take at old, within, puts.within)

-- Octets are put, and then others.
pub puts-then : {a b old mid new : List ℕ} {at between end : ℕ} → Puts a at old between mid → Puts b between mid end new → Puts (a ++ b) at old end new
puts-then {a} {b} {old} {mid} {new} {at} {between} {end} first then = record {
  room = then.room ∙ first.room;
  within = then.within;
  front =
      then.front
      ∙ (λ i. take (first.room i) (first.front i ++ b))
      ∙ take-before (length old) (take at old ++ a) b
      ∙ ap (take (length old)) (append_assoc (take at old) a b);
  after = then.after ∙ further between end mid old (omega (arith, puts-end first.within then, first.within, then.within, then.room)) first.after;
}

-- Nothing is put.
pub puts-none : {old : List ℕ} {at : ℕ} → at ≤ length old → Puts [] at old at old
puts-none {old} {at} within = record {
  room = refl;
  within = within;
  front = sym (ap (take (length old)) (append-nil (take at old)) ∙ take_all (length old) (take at old) (omega (arith, length-take at old)));
  after = refl;
}

-- Equal octets are put.
pub puts-same : {a b old new : List ℕ} {at end : ℕ} → a ≡ b → Puts a at old end new → Puts b at old end new
puts-same {a} {b} {old} {new} {at} {end} same puts = subst (λ octets. Puts octets at old end new) same puts

-- Members are put one after the other: those before one, and then it.
pub puts-next : {X : Type 0} (f : X → List ℕ) (xs : List X) (i : ℕ) (d : X) {old mid new : List ℕ} {at between end : ℕ} → i < length xs
    → Puts (flat_map f (take i xs)) at old between mid → Puts (f (get_or xs i d)) between mid end new → Puts (flat_map f (take (suc i) xs)) at old end new
puts-next f xs i d within before one =
    puts-same
    (ap (λ octets. flat_map f (take i xs) ++ octets) (sym (append-nil (f (get_or xs i d))))
    ∙ sym (ap (flat_map f) (take-suc xs i d within) ∙ flat_map-append f (take i xs) (get_or xs i d ∷ [])))
    (puts-then before one)

-- The same of members that are an octet each.
pub puts-next_octet : {X : Type 0} (f : X → ℕ) (xs : List X) (i : ℕ) (d : X) {old mid new : List ℕ} {at between end : ℕ} → i < length xs
    → Puts (map f (take i xs)) at old between mid → Puts (f (get_or xs i d) ∷ []) between mid end new → Puts (map f (take (suc i) xs)) at old end new
puts-next_octet f xs i d within before one =
    puts-same (flat_map_single f (take (suc i) xs))
    (puts-next (λ x. f x ∷ []) xs i d within (puts-same (sym (flat_map_single f (take i xs))) before) one)

-- If there is room for all, all are there.
pub record AreAllPut (octets : List ℕ) (at : ℕ) (old : List ℕ) (end : ℕ) (new : List ℕ) : Type 0 where
  pub room : length new ≡ length old
  pub place : end ≡ at + length octets
  pub front : take end new ≡ take at old ++ octets

pub puts-whole : {a old new : List ℕ} {at end : ℕ} → at + length a ≤ length old → Puts a at old end new → AreAllPut a at old end new
puts-whole {a} {old} {new} {at} {end} room puts =
    let size = length-append (take at old) a in
    record {
      room = puts.room;
      place = omega (arith, puts-end (omega (arith, room)) puts, room);
      front = puts.front ∙ take_all (length old) (take at old ++ a) (omega (arith, size, length-take at old, room));
    }
