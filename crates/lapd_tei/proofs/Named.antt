-- The TEIs on a line are collected by their places.
use Rattle.std.proofs.Common.{◌≡◌, ℕ, ◌+◌, ◌<◌, ◌≤◌, List, [], ◌∷◌, ◌++◌, length, length-take, get_or, take, Option, subst, sym, ap, ◌∙◌, arith}
use Rattle.std.proofs.lemmas.List.{take_more}
use Rattle.std.proofs.lemmas.List.Elements.{filter_map-append}
use Rattle.model_teis.specs.Table.{Places, itself, teis_on}
use Rattle.model_teis.proofs.Named.{teis_few}

-- each place more adds the TEI that it has
pub teis_more : (places : Places) (i : ℕ) (d : Option ℕ) → i < length places → teis_on (take (i + 1) places) ≡ teis_on (take i places) ++ teis_on (get_or places i d ∷ [])
teis_more places i d within = ap teis_on (take_more places i d within) ∙ filter_map-append itself (take i places) (get_or places i d ∷ [])

-- the TEIs of the first places have room
pub teis_room : (places : Places) (teis : List ℕ) (i : ℕ) → teis ≡ teis_on (take i places) → i < length places → length places ≤ 8 → length teis < 8
teis_room places teis i e within few =
    let none_more : length (take i places) ≤ i = omega (arith, length-take i places) in
    let fits : length teis ≤ length (take i places) = subst (λ all. length all ≤ length (take i places)) (sym e) (teis_few (take i places)) in
    omega arith
