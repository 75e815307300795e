-- The words with which the proofs of this crate speak, from where they are defined.
pub use Rattle.std.proofs.Common.{Bool, Err, List, None, Ok, Option, Result, Some, [], ap, append-nil, append_assoc, arith, cond, drop, false, filter_map, get_or, if◌then◌else◌, inl, inr, length, length-append, map, nat_le, nat_lt, not, option_to_list, refl, replicate, subst, suc, sym, take, true, zero, ℕ, ◌%◌, ◌&&◌, ◌*◌, ◌++◌, ◌+◌, ◌-◌, ◌<◌, ◌==◌, ◌^◌, ◌∙◌, ◌∷◌, ◌≡◌, ◌≤◌, ◌⊎◌}
pub use Rattle.std.proofs.Math.Seq.{drop-append_seam, take-append_seam}
pub use Rattle.std.proofs.lemmas.Bool.{eq-eqb, eqb-true, le-leb, leb-false, lt-ltb, ltb-true, true≢false}
pub use Rattle.std.proofs.lemmas.Bool.Decides.{nat_tests}
pub use Rattle.std.proofs.lemmas.Fmt.{decimal_nonempty, digits_decimal, digits_value-decimal}
pub use Rattle.std.proofs.lemmas.List.{drop_at}
pub use Rattle.std.proofs.lemmas.List.Elements.{All-append, All-cons, All-from_recursion, All-head, All-map, All-nil, All-replicate, All-tail, All-take, filter_map-append, recursion_from_All}
pub use Rattle.std.proofs.lemmas.Option.{none-some}
pub use Rattle.std.proofs.lemmas.Str.Parse.{IsNumeralModel, numerals_by_value, tells_all_ascii_digits}
pub use Rattle.std.specs.Char.{is_ascii_digit}
pub use Rattle.std.specs.List.{AllByRecursion, list_all}
pub use Rattle.std.specs.Prelude.{All, bytes_eq, codes, decimal, fold}
pub use Rattle.std.specs.Str.{all_ascii_digits}
pub use Rattle.std.specs.Str.Parse.{digits_value}
pub use Rattle.lapd_clock.proofs.Calls.{all_later}
pub use Rattle.lapd_clock.proofs.Ordered.{sum_by-put_in_order}
pub use Rattle.lapd_clock.proofs.TimeUntil.{time_until-stop}
pub use Rattle.lapd_clock.specs.InOrder.{IsInOrder}
pub use Rattle.lapd_clock.specs.Timer.{AreInRange, Lengths, Order, Start, Stop, T200, T201, T203, duration, first_out_of_range, is_length, standard}
pub use Rattle.lapd_clock.specs.Timers.{Expiry, Timers, first_due, is_before, without}
unfoldable pub use Rattle.lapd_clock.specs.Timers.{with_order}
pub use Rattle.lapd_clock.specs.declared.fault.LengthFault.{LengthFault}
pub use Rattle.lapd_script.specs.Job.{Job, frame, job, job_or_none, limits, limits_of, run}
pub use Rattle.lapd_script.specs.Number.{number}
pub use Rattle.lapd_script.specs.Pieces.{line_in, pieces_of}
pub use Rattle.lapd_script.specs.Read.{read, ◌>>=◌}
pub use Rattle.model_card.specs.declared.kinds.CardKind.{CardKind}
pub use Rattle.model_card.specs.declared.kinds.CardKind.TheVariants.{Frames, Octets}
pub use Rattle.lapd_script.specs.declared.kind.FaultKind.{FaultKind}
pub use Rattle.lapd_script.specs.declared.kind.FaultKind.TheVariants.{BadCard, BadFrame, BadLine, BadNumber, TimeOver, TooLong}
pub use Rattle.lapd_transcript.specs.Listened.{found, frame_in, pulled_text}
pub use Rattle.lapd_transcript.specs.Terminal.{Terminal, after_sending, octets_sent, sending, with_frame}
pub use Rattle.model_bits.proofs.BitLemmas.{bits-append, length-bits, low_bits-number_of_n}
pub use Rattle.model_bits.proofs.Items.{line_text-push}
pub use Rattle.model_bits.proofs.OneEvent.{one_event_an_octet}
pub use Rattle.model_bits.proofs.RoundTripFrame.{frames_round_trip_lem}
pub use Rattle.model_bits.specs.Bits.{bits, flag, octets_of}
pub use Rattle.model_bits.specs.RoundTrip.{AreHeardWhole, IsHeardWhole, frames_of}
pub use Rattle.model_bits.specs.Sent.{Item, idle, item_text, line_text}
pub use Rattle.model_bits.specs.Stream.{dropped, heard_in}
pub use Rattle.model_line.proofs.Ranges.{Within, ranges_of}
pub use Rattle.model_line.specs.Config.{is_within}
pub use Rattle.model_line.specs.Sound.{IsInRange}
pub use Rattle.model_line.specs.declared.config.Config.{Config}
pub use Rattle.model_line.specs.declared.config.Field.{Field}
pub use Rattle.model_line.specs.declared.config.Field.TheVariants.{Control, Lines, N201, Slots, Terminals}
unfoldable pub use Rattle.model_link.specs.Told.{starts}
pub use Rattle.lapd_sim.specs.machine.Asked.{LimitsAreOfCards, limits_of_card, limits_words}
pub use Rattle.lapd_sim.specs.machine.Board.{AreAtLines, Board, Event, IsAtLine, What, after, at, expiry, frame_event, frames_after, fresh, hears, next, octet, octet_event, octets_after, of_frames, of_octets, orders_in, pull, reply_of_frames, reply_of_octets, request}
unfoldable pub use Rattle.lapd_sim.specs.machine.Board.{after_all, moments, reply}
pub use Rattle.lapd_sim.specs.machine.Events.{AreEventsOf, HasRun, RunsOnBoards, ScriptsAreRuns, board_meant, board_of_frames, board_of_octets, coming_events, events_from, events_until, expiry_events, first_board, line_events, meant_events, moment_of_frames, moment_of_octets, read_events, script_events, unless_fault}
pub use Rattle.lapd_sim.specs.machine.Heard.{FramesAreHeard, all_sent}
pub use Rattle.lapd_sim.specs.machine.Replies.{TranscriptsAreReplies, line_moments, meant_moments, moments_from, octet_given, read_moments, read_text, replies_text, said, text_from}
pub use Rattle.lapd_sim.specs.machine.Script.{Fault, Played, after_bench, after_reading, after_scene, faulty, is_too_long, not_begun, one_more, played, unless_faulty}
pub use Rattle.lapd_sim.specs.machine.Setup.{Setup, begun, happened, taken_at, terminal_at, with_terminal}
pub use Rattle.lapd_sim.specs.machine.Steps.{Pulls, Scene, after_coming, after_in, after_pull, after_rx, after_timers, after_wait, at_expiry, at_line, can_come, downs, due_by, expired, expiries, for_frames, for_octets, held, last_moment, moment_from, octet_in, octets_at, is_heard_as, one_pull, pulls, reply_text, request_for, teis_on, time_until, until, with_card, with_event, with_events}
pub use Rattle.lapd_sim.specs.machine.Steps.{lengths_of, with_timers, without_card}
pub use Rattle.lapd_sim.specs.machine.Waits.{AllLater, WaitsLeaveNothingDue}
pub use Rattle.lapd_sim.specs.machine.Within.{ScriptsStayWithin, bound_of, terminal_bound}
pub use Rattle.lapd_frame.specs.declared.services.Service.TheVariants.{Call, Packet}
pub use Rattle.model_timed.proofs.Orders.{all-run, in-order, lengths-stay}
pub use Rattle.model_timed.specs.Clock.{Clock, at_moment, next_moment, obey, obeyed, without_first}
pub use Rattle.model_card.proofs.CardSound.{after_is_sound}
pub use Rattle.model_card.proofs.OfPorts.Steps.{config_after}
pub use Rattle.model_card.specs.Card.{Card}
pub use Rattle.model_card.specs.ports.Card.{OctetCard}
pub use Rattle.model_card.specs.ports.Sound.{IsSoundOctetCard}
pub use Rattle.model_line.specs.Came.{came, cause_of}
pub use Rattle.model_line.specs.Line.{is_terminal}
pub use Rattle.model_line.specs.Request.{AskTei, Deactivate, Down, Request}
pub use Rattle.std.specs.Option.{option_map_or}
