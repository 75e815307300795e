-- What a line answers and stands for.
--
-- Read after those of `model_line` and `model_card::ports`, in this order: Waiting; Reports; Units and Links, what waits and in
-- which slots; Marks and Awake, which links have something to give; Managing, TEI management of either kind; LinkLayer;
-- Counted; Stands, of a line, and Image; Ports, of its port; Octets, of a line with a port. The other files are named by private
-- functions alone.
pub mod Waiting
pub mod Reports
pub mod Units
pub mod Links
pub mod Marks
pub mod Rounds
pub mod Awake
pub mod Starts
pub mod Managing
pub mod LinkLayer
pub mod Addressing
pub mod TeiChanges
pub mod Counted
pub mod Stands
pub mod Running
pub mod ImageParts
pub mod Image
pub mod Requests
pub mod Loading
pub mod Pulls
pub mod Ports
pub mod Octets
-- the words of the contracts, from where they are defined
pub use Rattle.lapd_bits.specs.Ended.{without_octets}
pub use Rattle.lapd_count.specs.Counters.{none_counted, with_all}
pub use Rattle.lapd_count.specs.Shown.{told_shown}
pub use Rattle.lapd_frame.specs.Grammar.{IsFrame, parts_of}
pub use Rattle.lapd_frame.specs.Reading.{start_of}
pub use Rattle.lapd_frame.specs.Senders.{long_reading, spelling}
pub use Rattle.lapd_frame.specs.ShortLists.{listed}
pub use Rattle.lapd_frame.specs.declared.services.Service.{Service}
pub use Rattle.lapd_link.specs.Events.{info_of, received_of}
pub use Rattle.lapd_link_steps.specs.Quiet.{IsQuiet}
pub use Rattle.lapd_store.specs.Ownership.{Holds, Owned}
pub use Rattle.lapd_store.specs.Store.{SameLimits, Store, used_slots}
pub use Rattle.model_teis.specs.network.Machine.{Management}
pub use Rattle.lapd_tei.specs.Outcome.{IsShort, told_of}
pub use Rattle.model_teis.specs.Table.{IsAt, is_on}
pub use Rattle.model_teis.specs.declared.changes.Change.TheVariants.{Gained, Left}
pub use Rattle.model_bits.specs.Heads.{head_of}
pub use Rattle.model_bits.specs.Heard.{heard_of}
pub use Rattle.model_bits.specs.declared.heard.Cause.TheVariants.{Unserved}
pub use Rattle.model_card.specs.ports.Begun.{head_begun}
pub use Rattle.model_card.specs.ports.HeadHeard.{head_heard}
pub use Rattle.model_card.specs.ports.Line.{OctetLine, after, fresh_octet_line}
pub use Rattle.model_card.specs.ports.Port.{fresh_port, gained, is_due}
pub use Rattle.model_card.specs.ports.Stored.{held_at}
pub use Rattle.model_line.specs.Came.{came, cause_of}
pub use Rattle.model_line.specs.Counts.{may_send}
pub use Rattle.model_line.specs.Effect.{at_link, at_management, at_no_link, at_terminal, at_units, told_of_link, told_of_management, with_cleared, without_units}
pub use Rattle.model_line.specs.Event.{Answer, dropped, hears, nothing, told}
pub use Rattle.model_line.specs.Expiry.{aim_of_expiry, at_timer}
pub use Rattle.model_line.specs.Heard.{addressed, aim_of_long, aim_of_reading, aim_of_unnumbered, drop_for, heard_side, unless_at_link}
pub use Rattle.model_line.specs.Line.{Line, is_terminal, link_count, state_of, terms, window}
pub use Rattle.model_line.specs.Machine.{answer}
pub use Rattle.model_line.specs.Refusal.{refusal}
pub use Rattle.model_line.specs.Request.{request_of}
pub use Rattle.model_line.specs.Requested.{aim_of_request, at_deactivated, at_requested}
pub use Rattle.model_line.specs.Sides.{has_management, is_network, last_unit_tei, told_at}
pub use Rattle.model_line.specs.Sound.{IsInRange}
pub use Rattle.model_line.specs.Stored.{held_by_link, held_in, sum_of_links}
pub use Rattle.model_line.specs.Taken.{first_taken, link_taken, message_taken, own_side, round, taken, unit_taken}
pub use Rattle.model_line.specs.declared.config.Config.{Config}
pub use Rattle.model_link.specs.Link.{address_at, frame_of}
pub use Rattle.model_link.specs.Rises.{held}
pub use Rattle.model_link.specs.Room.{room_of}
pub use Rattle.model_link.specs.Told.{starts}
pub use Rattle.model_link.specs.declared.terms.Terms.{Terms}
pub use Rattle.lapd_line.specs.Addressing.{IsAtPlace, addressee, group_service, is_ui, message_at, reaches_link, serves_group, serves_messages}
pub use Rattle.lapd_line.specs.Awake.{TellsOf}
pub use Rattle.lapd_line.specs.Counted.{bare_shown, with_counted}
pub use Rattle.lapd_line.specs.LinkLayer.{Serves, Standing, aim_of_event, always}
pub use Rattle.lapd_line.specs.Links.{HasTerms, LinksStand, machine_at, terms_in}
pub use Rattle.lapd_line.specs.Loading.{IsFree, Loads, in_octets, reference_in, room_in}
pub use Rattle.lapd_line.specs.Marks.{AreMarked, IsLowestFrom, IsMark, IsMarkedAmong, NoneFrom, Sets}
pub use Rattle.lapd_line.specs.Octets.{OctetsLead, OctetsStand, octets_config}
pub use Rattle.lapd_line.specs.Ports.{IsLoaded, IsSaid, PortStands, latest_frame, latest_in, or_latest, with_frame}
pub use Rattle.lapd_line.specs.Pulls.{Takes, TakesNext, orders_taken}
pub use Rattle.lapd_line.specs.Reports.{IsClear, answer_of_request, delivered_in, gave_in, octets_of, pulled_of, report_told, told_in, told_beside, without_contents, written}
pub use Rattle.lapd_line.specs.Managing.{Gives, IsBegunBy, first_type, held_by, is_terminals, management_of, offered_by, own_of, places_of}
pub use Rattle.lapd_line.specs.Requests.{asked_aim, is_bad, link_refusal, management_refusal, may_ask, network_refusal, refusal_at, request_asked, terminal_refusal}
pub use Rattle.lapd_line.specs.Rounds.{IsFirstAround}
pub use Rattle.lapd_line.specs.Stands.{Leads, LeadsIfHeard, answer_if_heard, config_of}
pub use Rattle.lapd_line.specs.Starts.{AreBegun}
pub use Rattle.lapd_line.specs.TeiChanges.{Answers, Changing, IsAnswerTo, with_management}
pub use Rattle.lapd_line.specs.Waiting.{has_next}
