-- What the library for C says; first, what the numbers of C mean.
pub mod Statuses
pub mod Reserved
pub mod Services
pub mod Config
pub mod Starts
pub mod Timers
pub mod LinkPlaces
pub mod Rooms
pub mod Fields
pub mod Heads
pub mod Notes
pub mod Faults
pub mod Requests
pub mod Reports
pub mod Answers
pub mod Counters
pub mod CountersPlaced
pub mod Slots
pub mod Clocks
pub mod LinkMarks
pub mod RefusedLines
pub mod Reopened
pub mod WorkedReopened
pub mod Cards
pub mod SlotLends
pub mod Kept
pub mod Laws
pub mod Links
pub mod Orders
pub mod Frames
pub mod Counted
pub mod Exchange
pub mod Calls
pub mod Wanted
pub mod CalledBy
pub mod Asked
pub mod QuestionWords
pub mod Questions
pub mod Waiting
pub mod Saves
pub mod ClockImages
pub mod FallsDue
pub mod Changed
pub mod Texts
pub mod AsBefore
pub mod Said
pub mod Waits
pub mod BlockMade
pub mod Blocks
pub mod CarriedOut
pub mod LinksTold
pub mod BothKinds
pub mod Numbers
pub mod CallsWrite
pub mod HandlesLeft
pub mod SavesServed
pub mod CallsServed
pub mod CallEvents
pub mod QuestionsServed
pub mod ChangesAnswered
pub mod QuestionsAnswered
-- the words of the contracts, from where they are defined
pub use Rattle.lapd_card.specs.Counted.{counters_in}
pub use Rattle.lapd_card.specs.Kinds.{alone, card_in, CardStands, FrameCardStands, Machine, shelf_of, with_ports}
pub use Rattle.lapd_card.specs.Ports.{told_at}
pub use Rattle.lapd_card.specs.Stands.{Leads}
pub use Rattle.lapd_card.specs.Waiting.{IsFirstWaiting, has_next, next_waiting}
pub use Rattle.lapd_clock.specs.Timer.{first_out_of_range}
pub use Rattle.lapd_clock.specs.Timers.{after_due, due_at, idle, next_moment, with_lengths}
pub use Rattle.lapd_count.specs.Counters.{none_counted}
pub use Rattle.lapd_frame.specs.ShortLists.{listed}
pub use Rattle.lapd_line.specs.Reports.{told_beside}
pub use Rattle.lapd_text.specs.Told.{IsPutIn}
pub use Rattle.model_card.specs.Counted.{all_counted}
pub use Rattle.model_card.specs.Run.{moments}
pub use Rattle.model_card.specs.ports.Run.{meant_all}
pub use Rattle.model_card.specs.ports.Stored.{limit}
pub use Rattle.model_line.specs.Config.{first_fault}
pub use Rattle.model_line.specs.Event.{nothing}
pub use Rattle.lapd_c.specs.Answers.{octet_of, ShowsReply}
pub use Rattle.lapd_c.specs.Wanted.{FramesWithLine, FramesWithRoom, of_any, of_frames, of_octets, of_untimed, OctetsWithLine, OfEach, WithLine}
pub use Rattle.lapd_c.specs.Calls.{Begins, fresh, IsCardStart, IsTimedStart, refusal_at}
pub use Rattle.lapd_c.specs.Asked.{expire_asked, expiry_at, failed_asked, frame_asked, named_in, next_frame_asked, octet_asked, pull_asked, request_asked, request_at}
pub use Rattle.lapd_c.specs.CalledBy.{at_port, Called, inside, IsCallOf, Served}
pub use Rattle.lapd_c.specs.Questions.{begun_frame_of, begun_of, heard_frame_of, heard_of, in_front, IsQuestion, limit_of, lines_of, link_counters_of, Questioned, room_of, state_of, stored_of, waiting_from}
pub use Rattle.lapd_c.specs.Changed.{TellsWord, WithMarks, changed_of}
pub use Rattle.lapd_c.specs.FallsDue.{FellDue, FindsNoneDue, IsMomentCall, IsTimersCall, LetsFallDue, NoneDue, RefusesMoment, TellsMoment}
pub use Rattle.lapd_c.specs.Starts.{IsFreed}
pub use Rattle.lapd_c.specs.Cards.{card_of, FramesStand, IsHandle, kind_in, marks_at, served_card}
pub use Rattle.lapd_c.specs.Config.{config_fault, config_in, reading_in, sapi_in, seed_in, side_in}
pub use Rattle.lapd_c.specs.Counted.{counters_at, Counts}
pub use Rattle.lapd_c.specs.Counters.{plain_counters, plain_link_counters}
pub use Rattle.lapd_c.specs.Exchange.{Exchanged, Exchanges, is_exchange, tells_nothing, step_event, steps_made, with_step}
pub use Rattle.lapd_c.specs.Frames.{frame_comes, fails, goes, IsGiven, next_at}
pub use Rattle.lapd_c.specs.Fields.{fields_of, plain_fields}
pub use Rattle.lapd_c.specs.Heads.{plain_head}
pub use Rattle.lapd_c.specs.Kept.{ChangesStandIn, is_timed, Obeys, orders_seen, timers_of, TimersStandIn}
pub use Rattle.lapd_c.specs.LinkMarks.{AreMarked, AreUnmarked, marks_of, MarksBecome}
pub use Rattle.lapd_c.specs.Links.{FirstFrom, IsNext, NoneFrom}
pub use Rattle.lapd_c.specs.Notes.{plain_note}
pub use Rattle.lapd_c.specs.Reserved.{is_unused, unused}
pub use Rattle.lapd_c.specs.Reopened.{is_open, is_there, IsFirstOpen, refused_place, ShowsReopened, TellsReopened, waits_on, waits_there, WaitsFor, with_reopened}
pub use Rattle.lapd_c.specs.Reports.{contents_in, contents_or_none, given_up_tei, mark_of, orders_of, SameButContents, Shows, ShowsPull}
pub use Rattle.lapd_c.specs.Requests.{request_in}
pub use Rattle.lapd_c.specs.Rooms.{plain_room}
pub use Rattle.lapd_c.specs.Services.{service_in}
pub use Rattle.lapd_c.specs.Statuses.{fault_status, field_status, refusal_status}
pub use Rattle.lapd_c.specs.Texts.{text_of}
pub use Rattle.lapd_c.specs.Timers.{link_in, no_timer, order_in, plain_order, plain_timer, timer_in}
