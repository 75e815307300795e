-- The words with which the proofs of this crate speak, from where they are defined.
pub use Rattle.std.proofs.Common.{Bool, IfSome, IsTrue, List, None, Option, Some, [], ap, append-nil, append_assoc, arith, bit_and, cond, drop, drop-cons, false, get_or, get_or-drop, get_or-take, if◌then◌else◌, inl, inr, is_some, length, length-append, length-take, map, min, mul-add, mul-one, nat_eq, nat_le, nat_lt, not, option_and_then, option_map, option_to_list, refl, replicate, reverse, rules}
pub use Rattle.std.proofs.Common.{subst, suc, sym, take, take-add, true, vec_len, zero, ℕ, ⊎_elim, ◌%◌, ◌&&◌, ◌*◌, ◌++◌, ◌+◌, ◌-◌, ◌/◌, ◌<◌, ◌^◌, ◌||◌, ◌↔◌, ◌∙◌, ◌∷◌, ◌≡◌, ◌≢◌, ◌≤◌, ◌⊎◌}
pub use Rattle.std.proofs.Math.Nat.{add-mul-mod_self_right, div-add-mod, div-le_self, div-mul-le_self, div-one, mod-eq_of_lt, mod-le, mod-lt, mul-le-mul_left, one-mul, pow-suc}
pub use Rattle.std.proofs.Math.Pow.{pow_mono, shr_lt}
pub use Rattle.std.proofs.Math.Seq.{take-length}
pub use Rattle.std.proofs.lemmas.Bool.{and_parts, cases_Bool, cases_lt, eq-eqb, eqb-true, false_from_ne_true, false≢true, le-ltb, leb-true, lt-ltb, ltb-false, ltb-true, ne_eqb}
pub use Rattle.std.proofs.lemmas.Grind.{take-set_at}
pub use Rattle.std.proofs.lemmas.List.{append_cancel_left, append_cancel_right, drop-drop, drop_all, drop_at, get_or-replicate, length-drop, length-replicate, length-take-le, replicate-append-replicate, reverse-append, reverse-reverse, same_from_push, take-append-drop, take-append-le, take-take, take_all, take_more}
pub use Rattle.std.proofs.lemmas.List.Elements.{All-append, All-cons, All-nil}
pub use Rattle.std.proofs.lemmas.List.FromFn.{get_or-map-range_with_len}
pub use Rattle.std.proofs.lemmas.List.Sums.{fold-append}
pub use Rattle.std.proofs.lemmas.Nat.{and_le_r, and_mask, and_shr, div-mul-add, mod-mul-add, mul-add-lt, pow-add, pow_below, pow_pos, shr-shr, xor_mod, xor_shr}
pub use Rattle.std.proofs.lemmas.Nat.Bits.{bit_at-suc, bit_at-trailing_zeros, bit_at_lowest}
pub use Rattle.std.specs.Bool.{beq}
pub use Rattle.std.specs.Int.{bit_at, from_le_bytes, w32, w64}
pub use Rattle.std.specs.List.{fold, range_with_len}
pub use Rattle.std.specs.Prelude.{bit_xor, slice_set}
pub use Rattle.std.specs.Simd.{first_chunks}
pub use Rattle.lapd_bits.specs.Deframer.{Assembles, AssemblesIn, HoldsGap, HoldsPast, Keeps, KeepsIn}
pub use Rattle.lapd_bits.specs.Ended.{FitsIn, closing_event, event_in, flag_front}
pub use Rattle.lapd_bits.specs.FlagEnd.{IsFlagEnd}
pub use Rattle.lapd_bits.specs.FramerFields.{begun_of}
pub use Rattle.lapd_bits.specs.FramerText.{fifths, made, to_give, waits}
pub use Rattle.lapd_bits.specs.Register.{HoldsDivision}
pub use Rattle.lapd_bits.specs.Steps.{EndsFlag, Hears, IsJoined, IsYoung, Takes, onto, with_bits}
pub use Rattle.lapd_bits.specs.Stuffer.{Goes, first_ones, fives, last_ones, text_after}
pub use Rattle.lapd_bits.specs.Unstuffer.{IsContent, ends_nothing}
pub use Rattle.lapd_bits.specs.declared.check.TheConstants.{LEFT}
pub use Rattle.lapd_bits.specs.declared.deframer.TheConstants.{IDLE}
pub use Rattle.lapd_bits.specs.declared.ended.Ended.{Ended}
pub use Rattle.lapd_bits.specs.declared.gap.Gap.{Gap}
pub use Rattle.lapd_bits.specs.declared.stuffed_text.StuffedText.{StuffedText}
pub use Rattle.lapd_bits.specs.declared.unstuffer.TheConstants.{TABLES}
pub use Rattle.lapd_bits.specs.declared.waiting.Waiting.{Waiting}
pub use Rattle.model_bits.proofs.BitLemmas.{bits-append, bits-push, length-bits, length-low_bits, low_bits-add, low_bits-mod, low_bits-number_of_n, low_bits-two_octets, number_of-octet, reverse-bits_push, same_bits-low_bits, same_bits_self, same_from_low_bits, same_from_test}
pub use Rattle.model_bits.proofs.Division.Linear.{brought_down-plus, divided_zeros, length-remainder, remainder-plus}
pub use Rattle.model_bits.proofs.Division.Register.{length-with_bit, remainder-dividend-append, remainder-text_below, with_bit}
pub use Rattle.model_bits.proofs.Division.Sums.{differ_self, length-plus, plus-append, plus-comm, plus-swap, plus-zeros, plus_twice, plus_zeros_of}
pub use Rattle.model_bits.proofs.Hearing.{heard_at-abort, heard_at-flag, open_gap-abort, open_gap-flag}
pub use Rattle.model_bits.proofs.Items.{last_octets-push, latest-push, line_text-push}
pub use Rattle.model_bits.proofs.Places.{NoFlag, NoSix-reverse, front_of_flag, gap_has_no_flag, latest_ones, latest_ones-below, ones_after-reverse, run_of-gap}
pub use Rattle.model_bits.proofs.Quiet.{EndsNothing, IsFlag, IsQuiet, flag_ends, one_bit, quiet}
pub use Rattle.model_bits.proofs.StuffingCounted.{NoSix, ones_after, ones_after-append, ones_after-unstuffed_after, ones_left, stuffed_after, stuffed_alike, stuffed_after_fifth, stuffed_zero, unstuffed-counted, unstuffed_after, unstuffed_after-append}
pub use Rattle.model_bits.proofs.StuffingLengths.{ones_sent, stuffed_after-at_least, stuffed_after-pays}
pub use Rattle.model_bits.proofs.StuffingOctets.{none_where_none_sent, octets_are_those_sent}
pub use Rattle.model_bits.proofs.RoundTripPlaces.{reverse_aux-append, reverse_aux-onto}
pub use Rattle.model_bits.proofs.StuffingShape.{ones_after-stuffed, stuffed-unstuffed, unstuffed-stuffed}
pub use Rattle.model_bits.specs.Bits.{bits, flag, number_of, same_bits}
unfoldable pub use Rattle.model_bits.specs.Bits.{low_bits}
pub use Rattle.model_bits.specs.Check.{brought_down, check, dividend, is_good, plus, remainder, residue}
pub use Rattle.model_bits.specs.Framer.{Framing, FramerStands, last_octets, refilled, still_held, with_idle}
pub use Rattle.model_bits.specs.Heads.{first_four, head_of}
pub use Rattle.model_bits.specs.OpenGap.{closed_event, kept_count, octets_held, open_gap, run_of}
pub use Rattle.model_bits.specs.Sent.{Item, frame, frame_text, idle, item_text}
pub use Rattle.model_bits.specs.Stream.{Event, dropped, gap_event, has_abort, heard_at, heard_in, heard_until, is_short, judged, overlong, room_for, since_flag}
pub use Rattle.model_bits.specs.Stuffing.{octets_sent, stuffed, unstuffed}
pub use Rattle.model_bits.specs.StuffingLaws.{AreOctets}
pub use Rattle.model_bits.specs.declared.heard.Cause.TheVariants.{Fcs, Ragged, Short}
