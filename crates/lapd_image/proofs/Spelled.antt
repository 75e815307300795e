-- A number is read from its last octet on: an octet more makes a number of one octet more.
use Rattle.std.proofs.Common.{arith, ◌≡◌, ℕ, suc, ◌+◌, ◌-◌, ◌*◌, ◌/◌, ◌%◌, ◌^◌, ◌<◌, ◌≤◌, List, ◌∷◌, length, get_or, drop, sym, ap, ◌∙◌, subst, lit<}
use Rattle.std.proofs.Math.Nat.{pow-suc, pow-le-pow_right}
use Rattle.std.proofs.Math.Seq.{drop-cons, drop-length}
use Rattle.lapd_image.specs.Numbers.{number}

-- the octets from the place on are those of the number
pub record IsRead (octets : List ℕ) (place n : ℕ) : Type 0 where
  pub spelled : drop place octets ≡ number (length octets - place) n
  pub small : n < 256 ^ (length octets - place)

pub none_read : (octets : List ℕ) → IsRead octets (length octets) 0
unfolding number
none_read octets =
    let size : 0 ≡ length octets - length octets = omega arith in
    record { spelled = drop-length octets ∙ ap (λ count. number count 0) size; small = subst (λ count. 0 < 256 ^ count) size (lit< tt) }

pub one_more : (octets : List ℕ) (place before n octet : ℕ) → suc before ≡ place → place ≤ length octets → octet < 256 → octet ≡ get_or octets before 0
    → IsRead octets place n → IsRead octets before (256 * n + octet)
unfolding number
one_more octets place before n octet next within small is read =
    let size : suc (length octets - place) ≡ length octets - before = omega (arith, next, within) in
    let low : (256 * n + octet) % 256 ≡ octet = omega (arith, small) in
    let high : (256 * n + octet) / 256 ≡ n = omega (arith, small) in
    let power = pow-suc 256 (length octets - place) in
    let few = read.small in
    record {
      spelled =
          drop-cons octets before 0 (omega (arith, next, within))
          ∙ (λ i. sym is i ∷ drop (next i) octets)
          ∙ (λ i. sym low i ∷ read.spelled i)
          ∙ (λ i. (256 * n + octet) % 256 ∷ number (length octets - place) (sym high i))
          ∙ ap (λ count. number count (256 * n + octet)) size;
      small = subst (λ count. 256 * n + octet < 256 ^ count) size (omega (arith, power, few, small));
    }

-- one of eight octets more
pub fits_more : (octets : List ℕ) (place n : ℕ) → 1 ≤ place → place ≤ length octets → length octets ≤ 8 → IsRead octets place n → n < 256 ^ 7
fits_more octets place n some within few read =
    let seven : length octets - place ≤ 7 = omega (arith, some, within, few) in
    let power : 256 ^ (length octets - place) ≤ 256 ^ 7 = pow-le-pow_right (lit< tt) seven in
    let small = read.small in
    omega (arith, power, small)
