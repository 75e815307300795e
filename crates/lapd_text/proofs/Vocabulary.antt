-- The words with which the proofs of this crate speak, from where they are defined.
pub use Rattle.std.proofs.Common.{Bool, Bor, List, None, Option, Some, Result, Ok, Err, [], ap, append_assoc, arith, codes, decimal, drop, false, get_or, if◌then◌else◌, is_some, length, length-append, lit<, option_map, refl, subst, suc, sym, take, true, zero, ℕ, ◌%◌, ◌*◌, ◌++◌, ◌+◌, ◌-◌, ◌/◌, ◌<◌, ◌==◌, ◌^◌, ◌∙◌, ◌∷◌, ◌≡◌, ◌≤◌}
pub use Rattle.std.proofs.Math.Seq.{drop-append_seam, take-append_seam}
pub use Rattle.std.proofs.lemmas.Bool.{false≢true}
pub use Rattle.std.proofs.lemmas.Fmt.{decimal_digit, decimal_step, length-decimal-le}
pub use Rattle.std.proofs.lemmas.Grind.{flat_map-append}
pub use Rattle.std.proofs.lemmas.List.{append-nil, drop-drop, length-take-le, take-append-drop, take_more}
pub use Rattle.std.proofs.lemmas.List.Folds.{length-flat_map-take}
pub use Rattle.std.specs.Char.{to_ascii_uppercase}
pub use Rattle.std.specs.List.{flat_map}
pub use Rattle.std.specs.Prelude.{IsOk, OnOk, slice_index}
pub use Rattle.hex.specs.Hex.{encode_lower, encode_upper, lower_digits, upper_digits}
unfoldable pub use Rattle.hex.specs.Hex.{encode_with}
pub use Rattle.hex.proofs.HexLemmas.{length-encode_with}
pub use Rattle.lapd_frame.specs.Grammar.{parts_of}
pub use Rattle.lapd_seq.specs.declared.numbers.Seq.{Seq}
pub use Rattle.lapd_text.specs.Shown.{fields, joined, number_text, octets_text}
pub use Rattle.lapd_text.specs.Told.{IsPutIn, digit_count}
