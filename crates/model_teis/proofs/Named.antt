-- The TEIs on a line, as they are collected by their places.
use Rattle.model_teis.proofs.Vocabulary.{◌≤◌, [], ◌∷◌, length, Some, None, arith, Places, teis_on}

pub teis_few : (places : Places) → length (teis_on places) ≤ length places
teis_few [] = omega arith
teis_few (None ∷ places) = omega (arith, teis_few places)
teis_few (Some tei ∷ places) = omega (arith, teis_few places)
