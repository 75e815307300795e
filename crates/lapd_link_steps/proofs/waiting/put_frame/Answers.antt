-- A command or a response, and then its control field, which follows the two octets of the address.
use Rattle.std.proofs.Common.{◌≡◌, ℕ, ◌+◌, ◌-◌, List, [], ◌∷◌, ◌++◌, append-nil, arith, drop, length, take, ap, ◌∙◌}
use Rattle.std.proofs.Math.Seq.{take-append-add}
use Rattle.lapd_frame.specs.Grammar.{row}
use Rattle.lapd_image.proofs.Puts.{puts-same, puts-then}
use Rattle.lapd_link_steps.proofs.waiting.put_frame.Goals as goal

field-of : (a b n : ℕ) (field rest whole : List ℕ) → n ≡ length ((a ∷ b ∷ field) ++ []) → whole ≡ ((a ∷ b ∷ field) ++ []) ++ rest → take (n - 2) (drop 2 whole) ≡ field
field-of a b n field rest whole size is =
    let many : n - 2 ≡ length field + 0 = omega (arith, size, ap (λ (l : List ℕ). length l) (append-nil field)) in
    let left : drop 2 whole ≡ field ++ rest = ap (drop 2) is ∙ ap (λ l. l ++ rest) (append-nil field) in
    (λ i. take (many i) (left i)) ∙ take-append-add field rest 0 ∙ append-nil field

pub returns : goal.returns
returns c =
    let field = field-of _ _ c.write-end.result (row c.args.frame.control).field _ c.write-end.new.out c.write-end.ensures.len c.write-end.ensures.whole in
    puts-same (λ i. c.from.ensures i ∷ field i) (puts-then c.put_octet-at.ensures c.put_octets.ensures)
