-- What one frame says, and octets of a line, each in a line of text (profile).
use Rattle.std.specs.Prelude.{ℕ, List, ◌++◌, codes}
pub use Rattle.lapd_text.specs.Shown.{octets_text, shown_text}

abbrev pub on_line_text : List ℕ → List ℕ
on_line_text octets = codes "line " ++ octets_text octets ++ codes "\n"
