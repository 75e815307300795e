-- Which TEI what is heard names.
use Rattle.std.specs.Prelude.{◌≡◌, ℕ, ◌/◌, slice_index}
use Rattle.model_bits.specs.Stream as stream

-- The octets of a frame that is heard name its TEI, in the second (Q.921 clause 3.2).
abbrev pub Names : ℕ → stream.Event → Type 0
Names tei (stream.frame octets) = slice_index octets 1 / 2 ≡ tei
Names tei (stream.overlong head) = slice_index head 1 / 2 ≡ tei
Names tei (stream.dropped cause) = Unit {0}
