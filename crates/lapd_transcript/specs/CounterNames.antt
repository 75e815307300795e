-- Tables of counters with their names, and the line of a row.
use Rattle.std.specs.Prelude.{ℕ, ◌==◌, if◌then◌else◌, List, [], ◌++◌, codes, decimal}
use Rattle.std.specs.Borrow.{Bor}
use Rattle.lapd_count.specs.declared.counter.Counter.{Counter}
use Rattle.lapd_count.specs.declared.counters.Counters.{Counters}
use Rattle.lapd_count.specs.Counters.{value_in}
use Rattle.lapd_transcript.specs.Counted.{group_name, own_name}
use Rattle.lapd_transcript.specs.Text.{line_text}

abbrev pub with_name : Counter → Counter × List ℕ
with_name counter = (counter, group_name counter ++ own_name counter)

-- A row, with the name that it refers to.
abbrev pub row : Counter × Bor (List ℕ) → Counter × List ℕ
row r = (r.0, r.1.now)

-- A line for a counter of this name that is not 0, with its value.
abbrev pub value_text : ℕ → List ℕ → ℕ → List ℕ
value_text line name value = if value == 0 then [] else line_text line (codes "counter " ++ name ++ codes " " ++ decimal value)

abbrev pub row_text : ℕ → Counters → Counter × List ℕ → List ℕ
row_text line counters r = value_text line r.1 (value_in counters r.0)
