-- Which links wait for room, as an image has them: by the numbers of links, where a card in C has them by their TEIs.
use Rattle.std.specs.Int.{bit_at}
use Rattle.std.specs.List.{range_with_len}
use Rattle.std.specs.Prelude.{◌≡◌, ℕ, ◌+◌, ◌*◌, ◌/◌, ◌%◌, ◌<◌, ◌==◌, Bool, false, List, length, get_or, map, Option, None, Some}
use Rattle.model_card.specs.Card.{Card, line_at}
use Rattle.model_line.specs.Line.{Line, link_count, place_at, place_in, tei_at}
use Rattle.model_line.specs.declared.config.Config.{Config}
use Rattle.lapd_c.specs.LinkMarks.{is_marked, marks_of, AreMarked}
use Rattle.lapd_c.specs.declared.link_marks.LinkMarks.{LinkMarks}

-- The link of a number waits if the one of its TEI is marked. Where no TEI is at its place, it does not.
abbrev pub waits_at : LinkMarks → ℕ → Option ℕ → Bool
waits_at links odd None = false
waits_at links odd (Some tei) = is_marked links (2 * tei + odd)

abbrev pub is_waiting : Line → LinkMarks → ℕ → Bool
is_waiting l links number = waits_at links (number % 2) (tei_at (place_at number) l)

-- Those of a line by their numbers, and line by line of a card.
abbrev pub line_waits : Config → Line → LinkMarks → List Bool
line_waits c l links = map (is_waiting l links) (range_with_len 0 (link_count c))

abbrev pub waits_of_line : Card → List LinkMarks → ℕ → List Bool
waits_of_line m marks line = line_waits m.config (line_at line m) (marks_of marks line)

abbrev pub card_waits : Card → List LinkMarks → List (List Bool)
card_waits m marks = map (waits_of_line m marks) (range_with_len 0 m.config.lines)

-- And back: the bits of a number say which links of a line wait, and so whether the link of a TEI does.
abbrev pub bit_of : ℕ → ℕ → Option ℕ → Bool
bit_of waits odd None = false
bit_of waits odd (Some place) = bit_at waits (2 * place + odd) == 1

abbrev pub waits_by : Line → ℕ → ℕ → Bool
waits_by l waits place = bit_of waits (place % 2) (place_in l (place / 2))

-- All links of a card are marked so.
pub record AreAllMarked (m : Card) (waits : List ℕ) (marks : List LinkMarks) : Type 0 where
  pub count : length marks ≡ m.config.lines
  pub links : (line : ℕ) → line < m.config.lines → AreMarked (marks_of marks line) (waits_by (line_at line m) (get_or waits line 0))
