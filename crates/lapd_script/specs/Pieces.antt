-- The lines of a script.
use Rattle.std.specs.Prelude.{ℕ, ◌==◌, if◌then◌else◌, List, [], ◌∷◌}

-- Pieces, one for each line: up to and with its line feed (octet 10), which the last may lack. Joined, they are the
-- text.
abbrev pub with_octet : ℕ → List (List ℕ) → List (List ℕ)
with_octet octet [] = (octet ∷ []) ∷ []
with_octet octet (piece ∷ pieces) = (octet ∷ piece) ∷ pieces

abbrev pub pieces_of : List ℕ → List (List ℕ)
pieces_of [] = []
pieces_of (octet ∷ more) = if octet == 10 then (octet ∷ []) ∷ pieces_of more else with_octet octet (pieces_of more)

-- a line without its line feed
abbrev pub line_in : List ℕ → List ℕ
line_in [] = []
line_in (octet ∷ more) = if octet == 10 then [] else octet ∷ line_in more
