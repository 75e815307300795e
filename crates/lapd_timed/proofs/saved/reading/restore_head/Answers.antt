-- Another word is at the front.
use Rattle.std.proofs.Common.{◌≡◌, Bool, true, false, not, [], ◌∷◌, refl, sym, ◌∙◌}
use Rattle.std.specs.Cmp.Lexicographic.{other_text}
use Rattle.lapd_image.proofs.Reading.{front-read}
use Rattle.lapd_timed.proofs.saved.reading.restore_head.Goals as goal

pub returns-then-ne-clause-none : goal.returns-then-ne-clause-none
returns-then-ne-clause-none c of_octets timed rest e =
    let front = c.in_ok-front.front.now in
    let word = 76 ∷ 65 ∷ 80 ∷ 68 ∷ 1 ∷ [] in
    let same : (front ≡ word) × _ = front-read front word c.octets.new.self (_ ∷ rest) c.in_ok-front.ensures.count (sym c.in_ok-front.ensures.read ∙ e) in
    other_text front c.as_slice.result.now (go _ c.if-ne.ensures) (same.0 ∙ sym c.as_slice.ensures)
  where
    go : (b : Bool) → true ≡ not b → false ≡ b
    go true h = absurd (cc)
    go false h = refl
