-- The words with which the proofs of this crate speak, from where they are defined.
pub use Rattle.std.proofs.Common.{Bool, IfSome, List, None, Option, Some, [], add-one, ap, append-nil, append_assoc, arith, cond, drop, false, flat_map, if◌then◌else◌, inl, inr, length, length-append, length-drop, map, min, nat_eq, nat_le, nat_lt, not, option_and_then, option_map, option_to_list, refl, replicate, reverse, slice_index, subst, suc, sym, take, true, zero, ℕ, ⊎_elim, ◌%◌, ◌&&◌, ◌*◌}
pub use Rattle.std.proofs.Common.{◌++◌, ◌+◌, ◌-◌, ◌/◌, ◌<◌, ◌^◌, ◌||◌, ◌∙◌, ◌∷◌, ◌≡◌, ◌≢◌, ◌≤◌, ◌⊎◌}
pub use Rattle.std.proofs.Math.ListN.{length-replicate}
pub use Rattle.std.proofs.Math.Nat.{div-div-eq-div-mul, div-one, mod-eq_of_lt, pow-suc, pow-succ', pow-zero, suc-add, zero-add}
pub use Rattle.std.proofs.lemmas.Bool.{and_left, and_right, cases_Bool, cases_eq, cases_lt, eq-eqb, eqb-false, eqb-true, false≢true, le-leb, le-ltb, leb-false, lt-leb, lt-ltb, ltb-false, ltb-true, ne_eqb, or_from, or_parts}
pub use Rattle.std.proofs.lemmas.List.{flat_map_more, get_or_append_left, length-map, length-reverse, length-take-le, replicate-append-replicate, reverse-append, reverse-reverse, same_from_push, take_at}
pub use Rattle.std.proofs.lemmas.List.Elements.{All-append, All-cons, All-head, All-nil, All-tail}
pub use Rattle.std.proofs.lemmas.List.Sums.{fold-append, sum_by-append}
pub use Rattle.std.proofs.lemmas.Nat.{mod-pow-add}
pub use Rattle.std.specs.Bool.{beq}
pub use Rattle.std.specs.List.{fold}
pub use Rattle.std.specs.Prelude.{All, sum_by}
pub use Rattle.model_bits.specs.Bits.{bit_value, bits, flag, number_of, octets_of, same_bits}
unfoldable pub use Rattle.model_bits.specs.Bits.{low_bits}
pub use Rattle.model_bits.specs.Check.{brought_down, check, dividend, generator, is_good, plus, remainder, residue}
pub use Rattle.model_bits.specs.CheckLaws.{OnlyCheck}
pub use Rattle.model_bits.specs.FlagLaws.{FirstAbortAfterFlag, GapBetweenFlags, HasNoFlag, abort_brings, gap_brings, seven_ones}
pub use Rattle.model_bits.specs.Framer.{item_octets, last_octets}
pub use Rattle.model_bits.specs.Heads.{latest_frame, or_later}
pub use Rattle.model_bits.specs.OpenGap.{closed_event, given_up_event, one_more, open_gap, run_of}
pub use Rattle.model_bits.specs.RoundTrip.{AreHeardWhole, FramesRoundTrip, IsHeardWhole, frames_of}
pub use Rattle.model_bits.specs.Sent.{Item, frame, frame_text, idle, item_text, line_text}
pub use Rattle.model_bits.specs.Stream.{Event, closed_by_flag, dropped, ends_abort, ends_flag, gap_event, given_up, has_abort, heard_at, heard_in, heard_until, is_short, judged, overlong, room_for, since_flag, text_event}
pub use Rattle.model_bits.specs.StreamLaws.{HeardWithinStream, IsWhole, OneEventAnOctet, octets_taken}
pub use Rattle.model_bits.specs.Stuffing.{octets_sent, stuffed, unstuffed}
pub use Rattle.model_bits.specs.StuffingLaws.{AreOctets, EndsInFiveOnes, HasSixOnes, NoneWhereNoneSent, OctetsAreThoseSent, OneTextEach, StuffedBitsComeBack, StuffedTexts}
pub use Rattle.model_bits.specs.declared.heard.Cause.{Cause}
pub use Rattle.model_bits.specs.declared.heard.Cause.TheVariants.{Ragged}
