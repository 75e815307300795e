-- Of which lines links are marked.
use Rattle.std.specs.Prelude.{ℕ, ◌≤◌, ◌<◌, false, List, length}
use Rattle.lapd_line.specs.declared.marks.Marks.{Marks}
use Rattle.lapd_line.specs.Marks.{IsMark}
use Rattle.lapd_c.specs.declared.link_marks.LinkMarks.{LinkMarks}
use Rattle.lapd_c.specs.LinkMarks.{marks_of, AreMarked}

-- A card has at most 64 lines; of one that is not marked no link is.
pub record AreOfLines (lines : Marks) (links : List LinkMarks) : Type 0 where
  pub few : length links ≤ 64
  pub none : (line : ℕ) → line < length links → IsMark lines line false → AreMarked (marks_of links line) (λ place. false)
