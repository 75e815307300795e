-- The words with which the proofs of this crate speak, from where they are defined.
pub use Rattle.std.proofs.Common.{Bool, IfSome, List, None, Option, Some, [], ap, append-nil, append_assoc, arith, cond, drop, eq-eqb, eqb-true, false, flat_map, get_or, inl, inr, length, length-append, length-drop, length-set, map, nat_le, nat_lt, not, option_and_then, option_map, option_to_list, refl, replicate, reverse, set, slice_get, slice_index, subst, suc, sym, take, true, zero, ℕ, ◌%◌}
pub use Rattle.std.proofs.Common.{◌&&◌, ◌*◌, ◌++◌, ◌+◌, ◌-◌, ◌/◌, ◌<◌, ◌==◌, ◌∙◌, ◌∷◌, ◌≡◌, ◌≤◌, ◌⊎◌}
pub use Rattle.std.proofs.Math.Nat.{mul-le-mul_left, mul-le-mul_right}
pub use Rattle.std.proofs.Math.Seq.{drop-append_seam}
pub use Rattle.std.proofs.lemmas.Bool.{cases_lt, le-ltb, leb-true, lt-ltb, ltb-false, ltb-true, ne_eqb}
pub use Rattle.std.proofs.lemmas.Grind.{flat_map-append}
pub use Rattle.std.proofs.lemmas.List.{append_cancel_left, get_or-replicate, get_or-set_other, get_or-set_same, length-replicate, length-take-le, map-append, take-append-drop, take_at}
pub use Rattle.std.proofs.lemmas.List.Elements.{All-append, All-cons, All-get_or, All-head, All-nil, All-push, All-replicate, All-set, All-tail, All-take}
pub use Rattle.std.proofs.lemmas.List.Folds.{sum_by-replicate}
pub use Rattle.std.proofs.lemmas.List.Sums.{sum_by-append, sum_by-cons, sum_by-set}
pub use Rattle.std.proofs.lemmas.Option.{none-some}
pub use Rattle.std.specs.Option.{option_map_or}
pub use Rattle.std.specs.Prelude.{All, count_by, filter, fold, map, sum_by}
pub use Rattle.model_bits.proofs.BitLemmas.{bits-append, bits-push, length-bits, low_bits-mod, low_bits-number_of_n}
pub use Rattle.model_bits.proofs.Division.Unique.{is_good-check, length-check}
pub use Rattle.model_bits.proofs.Hearing.{heard_at-abort, heard_at-one, open_gap-abort, open_gap-one, open_gap-zero}
pub use Rattle.model_bits.proofs.Items.{line_text-push}
pub use Rattle.model_bits.proofs.OneEvent.{one_event_an_octet}
pub use Rattle.model_bits.proofs.RoundTripFrame.{AreOctets-checked, bits-checked, checked, gap_event_sent, hears_items, some_text}
pub use Rattle.model_bits.proofs.RoundTripPlaces.{after_flag, after_text, heard_until-onto, hears, hears-append, hears_text, reverse_aux-append}
pub use Rattle.model_bits.proofs.StreamLengths.{IsWeight, judged_as, weight_of_heard}
pub use Rattle.model_bits.proofs.StuffingOctets.{octets_are_those_sent, octets_sent-stuffed}
pub use Rattle.model_bits.proofs.StuffingShape.{NoSix-stuffed}
pub use Rattle.model_bits.specs.Bits.{bits, flag, number_of}
unfoldable pub use Rattle.model_bits.specs.Bits.{low_bits}
pub use Rattle.model_bits.specs.Check.{check, is_good}
pub use Rattle.model_bits.specs.Framer.{item_octets, last_octets}
pub use Rattle.model_bits.specs.OpenGap.{kept_count, open_gap, run_of}
pub use Rattle.model_bits.specs.Sent.{Item, frame, frame_text, idle, item_text, line_text}
pub use Rattle.model_bits.specs.Stream.{closed_by_flag, ends_flag, gap_event, given_up, heard_at, heard_in, heard_until, judged, room_for, since_flag, text_event}
pub use Rattle.model_bits.specs.Stuffing.{octets_sent, stuffed}
pub use Rattle.model_bits.specs.StuffingLaws.{AreOctets}
pub use Rattle.model_bits.specs.declared.heard.Cause.{Cause}
pub use Rattle.model_bits.specs.RoundTrip.{AreHeardWhole, frames_of}
pub use Rattle.model_card.specs.Card.{Card, line_at}
pub use Rattle.model_line.specs.Came.{came, cause_of}
pub use Rattle.model_line.specs.Counts.{hears_frame, hears_long_frame, is_frame, is_long_frame}
pub use Rattle.model_line.specs.Sound.{IsInRange}
pub use Rattle.model_line.specs.declared.config.Config.{Config}
pub use Rattle.model_line.specs.declared.faults.Fault.{Fault}
pub use Rattle.model_line.proofs.NotShort.{IsNotShort, taken_not_short}
pub use Rattle.model_line.specs.Event.{NextFrame, nothing, given_in}
pub use Rattle.model_line.specs.Line.{Line}
pub use Rattle.model_line.specs.Taken.{Taken, next_of, taken}
pub use Rattle.model_card.specs.ports.Card.{OctetCard, answer_to, card_after, fresh, port_at, said, with_fresh_ports}
unfoldable pub use Rattle.model_card.specs.ports.Card.{after, answer, meant}
pub use Rattle.model_card.specs.ports.Codec.{GoesOn, IsAnswered, IsTextOf, PortGoesOn, Refines, Says, SaysSo, asked_among, asked_with, come_of, frames_among, heard_by, heard_of, meant_in, octet_come, octet_pulled, octets_come, octets_pulled, pulled_of}
pub use Rattle.model_card.specs.Takes.{frames_given, given_of, octets_of}
pub use Rattle.model_card.specs.ports.Event.{Event}
pub use Rattle.model_card.specs.ports.Laws.{CardsStaySound, DropsAreWithoutEffect, FramesLinear, LinesIsolated, OctetsAreACodec, RunIsMoments, StoredWithinLimit, reply_of}
pub use Rattle.model_card.specs.ports.Port.{Answer, Port, answer_of, fresh_port, gained, is_due, item_of, left_of, next_octet, octet, pull, told, with_item, with_octet}
pub use Rattle.model_card.specs.ports.Run.{AreAtLines, IsAtLine, Moment, Run}
unfoldable pub use Rattle.model_card.specs.ports.Run.{after_all, meant_all, moments}
pub use Rattle.model_card.specs.ports.Sound.{IsSoundOctetCard, IsSoundPort}
pub use Rattle.model_card.specs.ports.Stored.{held_at, held_received, held_sent, limit, limit_of_port, stored}
pub use Rattle.model_card.specs.ports.Whole.{IsIdle, fault_octets, line_octets}
pub use Rattle.model_card.specs.ports.WholeLaws.{AreHeardAs, FramesAreHeard}
pub use Rattle.model_card.specs.Counts.{accepted, expired, heard, may_send, rejected, sent, window}
pub use Rattle.model_card.specs.ports.GoingOut.{AllGivenAreHeard, GivenFramesAreHeard, GivenGoOut, GoOut, answer_of_call, as_octets, call_answered, calls_answered, frames_to_hear, octets_given}
pub use Rattle.model_card.specs.ports.Promises.{HasSevenOctetsAReject, HasSixOctetsAFrame, IsLinear, moments_meant}
pub use Rattle.model_card.specs.ports.Reached.{IsReached}
pub use mathlib.Core.List.{reverse_aux}
