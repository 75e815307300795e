-- Hand-written answers for `Reader::contents`.
use Rattle.std.proofs.Common.{arith, ◌≡◌, ℕ, ◌<◌, List, ◌++◌, length, sym, ◌∙◌, append_assoc}
use Rattle.std.proofs.lemmas.Result.{on_err_weaker}
use Rattle.lapd_image.specs.Numbers.{number}
use Rattle.lapd_image.specs.Reads.{HasNoContents}
use Rattle.lapd_image.proofs.Reading.{number-read, on_err, no_number, too_few}
use Rattle.lapd_image.proofs.reader.Reader.contents.Goals as goal

-- contents begin with their count
counted : {front : List ℕ} → length front < 2 → HasNoContents front
counted few octets rest small e =
    no_number 2 (length octets) (octets ++ rest) few (e ∙ append_assoc (number 2 (length octets)) octets rest)

-- and have as many octets
there : (front left : List ℕ) (count : ℕ) → front ≡ number 2 count ++ left → count < 65536 → length left < count → HasNoContents front
there front left count read fits few octets rest small e =
    let size : (count ≡ length octets) × (left ≡ octets ++ rest) =
    number-read 2 count (length octets) left (octets ++ rest) fits small (sym read ∙ e ∙ append_assoc (number 2 (length octets)) octets rest) in
    too_few octets rest few (omega (arith, size.0)) size.1

pub returns-in_err-count-clause-none : goal.returns-in_err-count-clause-none
returns-in_err-count-clause-none c = on_err c.from_residual.result (counted c.in_err-count.ensures.short)

pub returns-clause-none : goal.returns-clause-none
returns-clause-none c =
    on_err_weaker c.octets.result (there _ _ _ c.in_ok-count.ensures.read c.in_ok-count.ensures.small) c.octets.ensures.short
