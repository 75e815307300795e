-- Four lengths are read.
use Rattle.std.proofs.Common.{arith, lit<, ◌≡◌, ℕ, ◌+◌, ◌^◌, ◌<◌, List, ◌++◌, length, sym, ap, ◌∙◌, subst, append_assoc, length-append}
use Rattle.lapd_clock.specs.Timer.{Lengths, AreInRange}
use Rattle.lapd_image.specs.Numbers.{number}
use Rattle.lapd_image.specs.Reads.{HasNone}
use Rattle.lapd_image.proofs.Reading.{length-number, number-read, too_few}
use Rattle.model_image.specs.Clocks.{lengths}
use Rattle.lapd_timed.specs.Image.{these_lengths}

pub four : (a b c d : ℕ) (rest : List ℕ) → lengths (these_lengths a b c d) ++ rest ≡ number 4 a ++ (number 4 b ++ (number 4 c ++ (number 4 d ++ rest)))
four a b c d rest =
    append_assoc (number 4 a) (number 4 b ++ (number 4 c ++ number 4 d)) rest
    ∙ ap (λ x. number 4 a ++ x) (append_assoc (number 4 b) (number 4 c ++ number 4 d) rest ∙ ap (λ x. number 4 b ++ x) (append_assoc (number 4 c) (number 4 d) rest))

-- one more number
pub grown : {front : List ℕ} (mid : List ℕ) (n : ℕ) → front ≡ number 4 n ++ mid → length front ≡ 4 + length mid
grown {front} mid n e = ap (λ (l : List ℕ). length l) e ∙ length-append (number 4 n) mid ∙ ap (λ k. k + length mid) (length-number 4 n)

pub sixteen : (l : Lengths) → length (lengths l) ≡ 16
sixteen l =
    let a = length-append (number 4 l.t200) (number 4 l.t203 ++ (number 4 l.t201 ++ number 4 l.t202)) in
    let b = length-append (number 4 l.t203) (number 4 l.t201 ++ number 4 l.t202) in
    let c = length-append (number 4 l.t201) (number 4 l.t202) in
    omega (arith, a, b, c, length-number 4 l.t200, length-number 4 l.t203, length-number 4 l.t201, length-number 4 l.t202)

pub none-short : (front : List ℕ) → length front < 16 → HasNone lengths AreInRange front
none-short front short l rest fits e = let size = sixteen l in too_few (lengths l) rest short (omega (arith, size)) e

pub none-so : (a b c d : ℕ) (front rest : List ℕ) → a < 256 ^ 4 → b < 256 ^ 4 → c < 256 ^ 4 → d < 256 ^ 4 → front ≡ number 4 a ++ (number 4 b ++ (number 4 c ++ (number 4 d ++ rest)))
    → (AreInRange (these_lengths a b c d) → ⊥) → HasNone lengths AreInRange front
none-so a b c d front rest fa fb fc fd read none l more fits e =
    let most : 3600000 < 256 ^ 4 = lit< tt in
    let r = number-read 4 a l.t200 _ _ fa (omega (arith, fits.t200_most, most)) (sym read ∙ e ∙ four l.t200 l.t203 l.t201 l.t202 more) in
    let s = number-read 4 b l.t203 _ _ fb (omega (arith, fits.t203_most, most)) r.1 in
    let t = number-read 4 c l.t201 _ _ fc (omega (arith, fits.t201_most, most)) s.1 in
    let u = number-read 4 d l.t202 _ _ fd (omega (arith, fits.t202_most, most)) t.1 in
    none (subst AreInRange (λ i. these_lengths (sym r.0 i) (sym s.0 i) (sym t.0 i) (sym u.0 i)) fits)
