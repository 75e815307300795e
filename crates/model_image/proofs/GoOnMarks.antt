-- Two cards that are the same have each link in the same state.
use Rattle.std.proofs.Common.{◌≡◌, ℕ, zero, suc, cond, List, [], ◌∷◌, get_or, None, is_some, refl, sym, ap, ◌∙◌, subst}
use Rattle.std.specs.List.{AllZip}
use Rattle.std.specs.Prelude.{All}
use Rattle.std.proofs.lemmas.List.Elements.{All-head, All-tail}
use Rattle.model_teis.specs.network.Machine.{Management}
use Rattle.model_link.specs.Link.{state_number}
use Rattle.model_line.specs.Line.{Line, fresh_line, place_at, tei_at}
use Rattle.model_line.specs.Sound as line_sound
use Rattle.model_line.specs.declared.config.Config.{Config}
use Rattle.model_card.specs.Card.{Card}
use Rattle.model_card.specs.Sound.{IsSound}
use Rattle.model_timed.specs.Changes.{standing, standing_in}
use Rattle.model_image.specs.Laws.{AreSameCards}
use Rattle.model_line.specs.Same.{IsSameLine}
use Rattle.model_image.proofs.GoOnCards.{to-alike}

-- of a line
line-standing : (c : Config) (l m : Line) (number : ℕ) → line_sound.IsSound c l → line_sound.IsSound c m → IsSameLine c l m → standing number l ≡ standing number m
line-standing c l m number sound also same =
    let each = (to-alike c l m sound also same).links.each number in
    let tei : tei_at (place_at number) l ≡ tei_at (place_at number) m = ap (λ (x : Management). get_or x.places (place_at number) None) same.management in
    λ i. cond {A = ℕ} (is_some (tei i)) (state_number (each.same.state i)) 0

-- of any line of some
lines-standing : (c : Config) (xs ys : List Line) (d : Line) (n number : ℕ) → All (line_sound.IsSound c) xs → All (line_sound.IsSound c) ys → AllZip (IsSameLine c) xs ys
    → standing number (get_or xs n d) ≡ standing number (get_or ys n d)
lines-standing c [] [] d n number sound also same = refl
lines-standing c [] (y ∷ ys) d n number sound also same = absurd same
lines-standing c (x ∷ xs) [] d n number sound also same = absurd same
lines-standing c (x ∷ xs) (y ∷ ys) d zero number sound also same =
    line-standing c x y number (All-head (line_sound.IsSound c) x xs sound) (All-head (line_sound.IsSound c) y ys also) same.0
lines-standing c (x ∷ xs) (y ∷ ys) d (suc n) number sound also same =
    lines-standing c xs ys d n number (All-tail (line_sound.IsSound c) x xs sound) (All-tail (line_sound.IsSound c) y ys also) same.1

pub standing-same : (line number : ℕ) (a b : Card) → IsSound a → IsSound b → AreSameCards a b → standing_in a line number ≡ standing_in b line number
standing-same line number a b sound also same =
    lines-standing a.config a.lines b.lines (fresh_line a.config) line number sound.lines
    (subst (λ (x : Config). All (line_sound.IsSound x) b.lines) (sym same.config) also.lines) same.lines
    ∙ ap (λ (x : Config). standing number (get_or b.lines line (fresh_line x))) same.config
