-- Moments in an image.
use Rattle.std.proofs.Common.{arith, lit<, ◌≡◌, ℕ, ◌^◌, ◌<◌, ◌≤◌, List, ◌++◌, length, sym, ◌∙◌}
use Rattle.lapd_clock.specs.Firsts.{never}
use Rattle.lapd_image.specs.Numbers.{number}
use Rattle.lapd_image.specs.Reads.{HasNone}
use Rattle.lapd_image.proofs.Reading.{no_number, number-read}

-- Fewer than eight octets are no moment,
pub none-short : {latest : ℕ} (front : List ℕ) → length front < 8 → HasNone (number 8) (λ moment. moment ≤ latest) front
none-short {latest} front short value rest fits e = no_number 8 value rest short e

-- and one that is too late is none.
pub none-late : {latest : ℕ} (front new : List ℕ) (n : ℕ) → latest < never → n < 256 ^ 8 → latest < n → front ≡ number 8 n ++ new → HasNone (number 8) (λ moment. moment ≤ latest) front
none-late {latest} front new n some small late read value rest fits e =
    let most : never < 256 ^ 8 = lit< tt in
    let same = number-read 8 n value new rest small (omega (arith, fits, some, most)) (sym read ∙ e) in
    absurd (omega (arith, late, fits, same.0))
