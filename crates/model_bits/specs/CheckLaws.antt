-- What is promised of the frame check sequence (Q.921 clause 2.7) beyond its value.
use Rattle.std.specs.Prelude.{◌≡◌, ◌↔◌, Bool, IsTrue, List, ◌++◌, length}
use Rattle.model_bits.specs.Check.{check, is_good}

-- The check of a text is the only 16 bits that may follow the text without an error being seen.
abbrev pub OnlyCheck : Type 0
OnlyCheck = (text fcs : List Bool) → length fcs ≡ 16 → IsTrue (is_good (text ++ fcs)) ↔ (fcs ≡ check text)
