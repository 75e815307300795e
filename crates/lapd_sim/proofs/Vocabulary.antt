-- The words with which the proofs of this crate speak, from where they are defined.
pub use Rattle.std.proofs.Common.{Bool, Err, List, None, Ok, OnOk, Option, Result, Some, [], ap, append_assoc, arith, cond, drop, false, fold, get_or, if◌then◌else◌, inr, length, nat_lt, refl, replicate, rules, set, subst, suc, sym, take, take_all, true, vec_len, zero, ℕ, ◌++◌, ◌+◌, ◌-◌, ◌<◌, ◌^◌, ◌∙◌, ◌∷◌, ◌≡◌, ◌≢◌, ◌≤◌}
pub use Rattle.std.proofs.Math.Numerals.{suc-eq-add-one}
pub use Rattle.std.proofs.lemmas.Bool.{false≢true, le-leb, le-ltb, lt-ltb, ltb-false, ne_eqb, true≢false}
pub use Rattle.std.proofs.lemmas.Grind.{flat_map-append, fold-append}
pub use Rattle.std.proofs.lemmas.List.{append-nil, length-set, length-take, map-append, map-id, take-append-drop, take_at, take_more, take_more_set}
pub use Rattle.std.proofs.lemmas.List.Elements.{All-weaker}
pub use Rattle.std.proofs.lemmas.List.Folds.{list_any_none}
pub use Rattle.std.proofs.lemmas.Option.{none-some}
pub use Rattle.std.specs.Io.KnownBytes.{Appends}
pub use Rattle.std.specs.List.{flat_map, range_with_len}
pub use Rattle.std.specs.Prelude.{All, IfErr, IfOk, IsErr, IsTrue, filter, is_some, option_copied, option_map, option_to_list, ◌==◌, ◌||◌}
pub use Rattle.lapd_clock.specs.Timer.{AreInRange, Timer}
pub use Rattle.lapd_clock.specs.Timers.{Expiry}
pub use Rattle.lapd_count.specs.Counters.{none_counted}
pub use Rattle.lapd_line.specs.Reports.{delivered_in, gave_in, octets_of, pulled_of, told_beside}
pub use Rattle.lapd_script.specs.Faults.{fault_at, reads_failed, reads_failed_by, writes_failed, writes_failed_by}
pub use Rattle.lapd_script.specs.Meaning.{Meaning, meant}
pub use Rattle.lapd_script.specs.Pieces.{line_in, pieces_of, with_octet}
pub use Rattle.lapd_script.specs.Read.{read}
pub use Rattle.lapd_script.specs.ScriptLines.{Advances, AreLeft, IsNext, IsReady, IsTooLong, held}
pub use Rattle.model_card.specs.declared.kinds.CardKind.{CardKind}
pub use Rattle.lapd_script.specs.declared.faults.LineFault.{LineFault}
pub use Rattle.lapd_script.specs.declared.faults.LineFault.TheVariants.{Faulty}
pub use Rattle.lapd_script.specs.declared.faults.PlayFault.{PlayFault}
pub use Rattle.lapd_script.specs.declared.faults.PlayFault.TheVariants.{OutOfMemory, Read, Script, Write}
pub use Rattle.lapd_script.specs.declared.kind.FaultKind.{FaultKind}
pub use Rattle.lapd_script.specs.declared.kind.FaultKind.TheVariants.{BadFrame, BadLine, TooLong}
pub use Rattle.lapd_script.specs.declared.lines.ScriptLines.{ScriptLines}
pub use Rattle.lapd_card.specs.Kinds.{AnyLeads, AnyStands, CardStands, FrameCardStands, Machine, alone, card_in, config_of, counters_of, frames_of, kind_of, shelf_of, with_ports}
pub use Rattle.lapd_card.specs.declared.kinds.AnyCard.{AnyCard}
pub use Rattle.lapd_card.specs.declared.kinds.AnyCard.TheVariants.{Frames, Octets}
pub use Rattle.lapd_sim.specs.Boards.{Leads, OnBoard}
pub use Rattle.lapd_sim.specs.Obeyed.{Does, HasExpired, Obeys, ObeysLine, Said, SetupSays, StartsBy, Tells, said, said_by, said_of, said_with, said_without, scene, written}
pub use Rattle.lapd_sim.specs.Pages.{PutsNone, PutsSome, Reaches, is_cut}
pub use Rattle.lapd_sim.specs.Plays.{AreAnswered, Plays, PlaysOctets, PlaysOn, is_whole, whole_lines}
pub use Rattle.lapd_sim.specs.Stands.{Each, Has, SetupStands}
pub use Rattle.lapd_store.specs.Store.{Store}
pub use Rattle.lapd_transcript.proofs.Known.{appends_nothing, broken_more, puts_nothing, puts_then, puts_unwritten, puts_written, stuck_more, writes_then}
pub use Rattle.lapd_transcript.specs.Counted.{counters_text}
pub use Rattle.lapd_transcript.specs.Listened.{Hears, pulled_text}
pub use Rattle.lapd_transcript.specs.Pages.{on}
pub use Rattle.lapd_transcript.specs.Streams.{IsBroken, IsPut, IsSent, IsStuck, IsWritten, Output, Puts, Taken, Writes, one_failure_more}
pub use Rattle.lapd_transcript.specs.Terminal.{Sends, after_sending}
pub use Rattle.lapd_transcript.specs.declared.streams.WriteFailed.{WriteFailed}
pub use Rattle.model_bits.specs.Stream.{dropped}
pub use Rattle.model_line.proofs.Ranges.{ranges_of}
pub use Rattle.model_line.specs.Came.{came, cause_of}
pub use Rattle.model_line.specs.Request.{Deactivate, Down, Request, request_of}
pub use Rattle.model_line.specs.declared.config.Config.{Config}
pub use Rattle.lapd_sim.proofs.OfMachine.Expiries.{expiry_lowers, text_grows, until-expired, until-over}
pub use Rattle.lapd_sim.specs.machine.Board.{Event, Reply, What, after, at, card_after, expiry, hears, meant_by, next, octet, of_frames, of_octets, orders_in, pull, refused, reply_in, reply_of_frames, reply_of_octets, request, told}
unfoldable pub use Rattle.lapd_sim.specs.machine.Board.{reply}
pub use Rattle.lapd_sim.specs.machine.Script.{Fault, Played, after_bench, after_meaning, after_piece, after_reading, after_scene, counted, faulty, first_fault, is_too_long, not_begun, one_more, played, transcript, unless_faulty}
pub use Rattle.lapd_sim.specs.machine.Setup.{Setup, happened, taken_at, terminal_at, with_terminal}
pub use Rattle.lapd_sim.specs.machine.Steps.{Pulls, Scene, after_coming, after_counters, after_down, after_failed, after_next, after_pull, after_rx, after_wait, at_expiry, at_line, can_come, deactivations, downs, due_by, expired, for_frames, for_octets, is_on_line, last_moment, octet_in, octets_at, one_pull, pulls, reply_text, teis_on, time_until, until, with_card, with_event, with_events}
pub use Rattle.lapd_sim.specs.machine.Steps.{shown_losses, told_text, without_card}
pub use Rattle.lapd_card.specs.Counted.{counters_in}
pub use Rattle.lapd_card.specs.FrameCard.{Held}
pub use Rattle.lapd_count.specs.declared.counters.Counters.{Counters}
pub use Rattle.lapd_frame.specs.declared.services.Service.TheVariants.{Call, Packet}
pub use Rattle.lapd_script.proofs.Pieces.{piece_last}
pub use Rattle.lapd_transcript.specs.Text.{frame_text, nothing_text, stored_text}
pub use Rattle.model_card.specs.Card.{Card}
pub use Rattle.model_card.specs.ports.Codec.{frame_moment}
pub use Rattle.model_card.specs.ports.Stored.{limit}
pub use Rattle.model_line.specs.Event.{nothing}
pub use Rattle.std.proofs.lemmas.List.FromFn.{filter_of_map_range_with_len_more}
pub use Rattle.std.specs.Option.{option_map_or}
