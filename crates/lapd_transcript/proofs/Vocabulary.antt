-- The words with which the proofs of this crate speak, from where they are defined.
pub use Rattle.std.proofs.Common.{Bool, Bor, Err, List, None, Ok, Option, Result, Some, [], ap, append_assoc, arith, codes, decimal, drop, false, filter_map, get_or, if◌then◌else◌, length, length-append, length-drop, map, option_to_list, refl, subst, suc, sym, take, take_all, true, zero, ℕ, ◌%◌, ◌*◌, ◌++◌, ◌+◌, ◌-◌, ◌<◌, ◌==◌, ◌∙◌, ◌∷◌, ◌≡◌, ◌≤◌}
pub use Rattle.std.proofs.Math.Seq.{drop-append_seam, take-append-add, take-append_seam}
pub use Rattle.std.proofs.lemmas.Bool.{false≢true, le-ltb, lt-ltb, ne_eqb}
pub use Rattle.std.proofs.lemmas.Grind.{flat_map-append}
pub use Rattle.std.proofs.lemmas.List.{append-nil, drop_at, take-append-drop, take_more}
pub use Rattle.std.proofs.lemmas.List.Elements.{All-append, All-head, All-tail, filter_map-append}
pub use Rattle.std.specs.Io.KnownBytes.{Appends, Keeps}
pub use Rattle.std.specs.List.{flat_map, list_all}
pub use Rattle.std.specs.Prelude.{IsErr, IsOk, OnErr, OnOk, is_ok}
pub use Rattle.hex.specs.Hex.{encode_upper}
pub use Rattle.lapd_bits.specs.Deframer.{latest_of}
pub use Rattle.lapd_bits.specs.declared.deframer.Deframer.{Deframer}
pub use Rattle.lapd_count.specs.declared.counter.Counter.{Counter}
pub use Rattle.lapd_count.specs.declared.counters.Counters.{Counters}
pub use Rattle.lapd_frame.specs.Grammar.{parts_of}
pub use Rattle.lapd_frame.specs.declared.notes.Note.{Note}
pub use Rattle.lapd_transcript.specs.CounterNames.{row, row_text, value_text, with_name}
pub use Rattle.lapd_transcript.specs.Counted.{counter_text, group_name, is_zero, names_of, own_name}
pub use Rattle.lapd_transcript.specs.Listened.{Hears, found, frame_in}
pub use Rattle.lapd_transcript.specs.Pages.{on}
pub use Rattle.lapd_transcript.specs.Put.{HasPut}
pub use Rattle.lapd_text.proofs.OctetDigits.{encoded_singly}
pub use Rattle.lapd_text.specs.Shown.{head_text, joined, octets_text}
pub use Rattle.lapd_transcript.specs.Streams.{IsBroken, IsPut, IsStuck, IsWritten, Output, Puts, Taken, Writes, one_failure_more}
pub use Rattle.lapd_transcript.specs.Terminal.{Sends, sending, with_frame}
pub use Rattle.lapd_transcript.specs.Text.{dropped_text, frame_text, lost_text, note_text, nothing_text}
pub use Rattle.lapd_transcript.specs.declared.streams.WriteFailed.{WriteFailed}
pub use Rattle.model_bits.proofs.BitLemmas.{bits-append, length-bits, length-low_bits, number_of-low_bits}
pub use Rattle.model_bits.proofs.Division.Unique.{length-check}
pub use Rattle.model_bits.proofs.OneEvent.{one_event_an_octet}
pub use Rattle.model_bits.specs.Bits.{bits, flag, octets_of}
unfoldable pub use Rattle.model_bits.specs.Bits.{low_bits}
pub use Rattle.model_bits.specs.Framer.{Framing, refilled, with_idle}
pub use Rattle.model_bits.specs.Heard.{heard_of}
pub use Rattle.model_bits.specs.Sent.{Item, frame, idle, item_text, line_text}
pub use Rattle.model_bits.specs.Stream.{heard_in}
pub use Rattle.model_bits.specs.Stuffing.{stuffed}
pub use Rattle.model_bits.specs.StuffingLaws.{AreOctets}
pub use Rattle.model_bits.specs.declared.heard.Heard.{Heard}
pub use Rattle.model_bits.specs.declared.heard.Heard.TheVariants.{Frame}
