-- The words with which the proofs of this crate speak, from where they are defined.
pub use Rattle.std.proofs.Common.{Bool, Bor, Err, List, None, Ok, Option, Result, Some, [], ap, append_assoc, arith, bytes_eq, codes, cond, drop, eqb, false, get_or, if◌then◌else◌, inl, inr, is_some, length, length-append, length-drop, ltb, nat_eq, refl, subst, suc, sym, take, take_all, true, zero, ℕ, ◌%◌, ◌&&◌, ◌*◌, ◌++◌, ◌+◌, ◌-◌, ◌/◌, ◌<◌, ◌==◌, ◌^◌, ◌∙◌, ◌∷◌, ◌≡◌, ◌≢◌, ◌≤◌}
pub use Rattle.std.proofs.Math.Seq.{take-append-add, take-append_seam}
pub use Rattle.std.proofs.lemmas.Bool.{cases_lt, eqb-false, eqb-true, false≢true, ne_eqb}
pub use Rattle.std.proofs.lemmas.Bool.Decides.{eqb_tells, nat_tests}
pub use Rattle.std.proofs.lemmas.Grind.{common_steps}
pub use Rattle.std.proofs.lemmas.List.{append-nil, drop-append-le, drop-drop, drop_all, drop_more, get_or-drop, get_or-take, length-map, length-take, map-append, take-append-drop, take-append-le, take-take, take_at, with_items_is}
pub use Rattle.std.proofs.lemmas.List.Edits.{length-paste, take-paste}
pub use Rattle.std.proofs.lemmas.List.Elements.{All-push, All-tail}
pub use Rattle.std.proofs.lemmas.List.Quantifiers.{position-Some}
pub use Rattle.std.proofs.lemmas.List.Splits.{slice_split_first, slice_split_none}
pub use Rattle.std.proofs.lemmas.List.Sums.{AllPass-from_list_all, fails_before_first, list_all-from_AllPass, position_or_len_is}
pub use Rattle.std.proofs.lemmas.Slice.{between_is}
pub use Rattle.std.proofs.lemmas.Str.{IsUtf8-from_ascii}
pub use Rattle.std.proofs.lemmas.Str.Ascii.{IsAscii-cons, IsAscii-nil}
pub use Rattle.std.proofs.lemmas.Str.Parse.{IsNumeralModel, numerals_by_value, parse_digits, tells_all_ascii_digits}
pub use Rattle.std.specs.Char.{is_ascii_digit, is_ascii_hexdigit}
pub use Rattle.std.specs.Int.{is_in_range}
pub use Rattle.std.specs.Io.KnownBytes.{Consumes, IsAtEnd, Keeps}
pub use Rattle.std.specs.List.{AllPass, AllWithin, HoldsAt, copy_within, list_all, list_any, position, position_or_len}
pub use Rattle.std.specs.Prelude.{All, IfOk, IsErr, IsErrAnd, Vec, not}
pub use Rattle.std.specs.Result.{result_ok}
pub use Rattle.std.specs.Str.{IsAscii, IsUtf8, all_ascii_digits}
pub use Rattle.std.specs.Str.Parse.{ParsesUnsigned, digits_value}
pub use Rattle.std.specs.Vec.{with_items}
pub use Rattle.hex.proofs.HexLemmas.{decode_of-digits, decode_of-ok}
pub use Rattle.hex.specs.Hex.{decode_of, is_hex_digit}
pub use Rattle.lapd_frame.specs.Grammar.{Parts, Spells, parts_of}
pub use Rattle.lapd_frame.specs.declared.addresses.Side.{Side}
pub use Rattle.lapd_script.specs.FaultLines.{play_line}
pub use Rattle.lapd_script.specs.Job.{Job, frame, job, job_or_none, limits_of, seen}
pub use Rattle.lapd_script.specs.Number.{number, within}
pub use Rattle.lapd_script.specs.Octets.{octets, or_bad}
pub use Rattle.lapd_script.specs.Pieces.{line_in, pieces_of, with_octet}
pub use Rattle.lapd_script.specs.ScriptLines.{Advances, AreLeft, IsReady, Takes, held, left_to_read, too_long_after}
pub use Rattle.lapd_script.specs.Shown.{IsShown, IsUnshown, ShowsFrame}
pub use Rattle.lapd_script.specs.Word.{carries_octets, word_named}
pub use Rattle.lapd_script.specs.Words.{texts, words_of}
pub use Rattle.lapd_script.specs.declared.faults.PlayFault.{PlayFault}
pub use Rattle.lapd_script.specs.declared.faults.PlayFault.TheVariants.{Read}
pub use Rattle.lapd_script.specs.declared.kind.FaultKind.{FaultKind}
pub use Rattle.lapd_script.specs.declared.kind.FaultKind.TheVariants.{BadNumberOfWords, BadOctets}
pub use Rattle.lapd_script.specs.declared.lines.ScriptLines.{ScriptLines}
pub use Rattle.lapd_script.specs.declared.shown.FrameFault.{FrameFault}
pub use Rattle.lapd_script.specs.declared.word.Word.{Word}
pub use Rattle.lapd_script.specs.declared.word.Word.TheVariants.{Ask}
pub use Rattle.lapd_transcript.proofs.Known.{broken_more, writes_then}
pub use Rattle.lapd_transcript.specs.OnLine.{on_line}
pub use Rattle.lapd_transcript.specs.Shown.{on_line_text, shown_text}
pub use Rattle.lapd_transcript.specs.Streams.{IsBroken, IsWritten, Taken, Writes}
pub use Rattle.lapd_transcript.specs.declared.streams.WriteFailed.{WriteFailed}
pub use Rattle.model_line.specs.declared.config.Config.{Config}
