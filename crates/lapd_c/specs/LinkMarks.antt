-- Which links are marked, by their places: of a line, and line by line of a card.
use Rattle.std.specs.Prelude.{◌≡◌, ◌≢◌, ℕ, ◌/◌, ◌%◌, ◌<◌, ◌==◌, Bool, false, List, [], length, get_or, set}
use Rattle.std.specs.Int.{bit_at}
use Rattle.lapd_line.specs.declared.marks.Marks.{Marks}
use Rattle.lapd_c.specs.declared.link_marks.LinkMarks.{LinkMarks}

-- Each 64 places have a word, and each of them a bit in it, which is 1 where its link is marked.
abbrev pub no_marks : Marks
no_marks = record { bits = 0 }

abbrev pub is_marked : LinkMarks → ℕ → Bool
is_marked m place = bit_at (get_or m.words (place / 64) no_marks).bits (place % 64) == 1

-- Those of a line are marked for which a test holds.
abbrev pub AreMarked : LinkMarks → (ℕ → Bool) → Type 0
AreMarked m test = (place : ℕ) → place < 254 → is_marked m place ≡ test place

-- One is marked, or its mark is taken away; all others stay as they were.
pub record SetsLink (place : ℕ) (marked : Bool) (old new : LinkMarks) : Type 0 where
  pub here : is_marked new place ≡ marked
  pub others : (other : ℕ) → other ≢ place → is_marked new other ≡ is_marked old other

-- The links of a line of a card; behind its last line there are none.
abbrev pub marks_of : List LinkMarks → ℕ → LinkMarks
marks_of all line = get_or all line (record { words = [] })

-- A card begins without marks.
pub record AreUnmarked (lines : ℕ) (all : List LinkMarks) : Type 0 where
  pub count : length all ≡ lines
  pub none : (line : ℕ) → AreMarked (marks_of all line) (λ place. false)

-- Of one line, if the card has it, those become marked for which a test holds; those of the other lines stay as they were.
pub record MarksBecome (line : ℕ) (test : ℕ → Bool) (old new : List LinkMarks) : Type 0 where
  pub links : LinkMarks
  pub all : new ≡ set old line links
  pub marks : line < length old → AreMarked links test
