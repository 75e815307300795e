-- Counters of a link of a line count what the events of this link show, as an observer of the line has them.
use Rattle.std.specs.Prelude.{◌≡◌, ℕ, ◌==◌, ◌&&◌, not, Bool, false, List, [], ◌++◌, fold, Option, Some, None, is_some, option_map, option_to_list, if◌then◌else◌}
use Rattle.std.specs.List.{list_any}
use Rattle.std.specs.Option.{option_or}
use Rattle.model_bits.specs.Stream as stream
use Rattle.lapd_frame.specs.declared.notes.ErrorCode.{ErrorCode}
use Rattle.lapd_frame.specs.declared.notes.ErrorCode.TheVariants.{L, N}
use Rattle.lapd_frame.specs.declared.services.Service.{Service}
use Rattle.lapd_frame.specs.declared.timers.Timer.{Timer}
use Rattle.lapd_frame.specs.declared.timers.Timer.TheVariants as timers
use Rattle.lapd_frame.specs.Grammar.{Parts}
use Rattle.model_link.specs.declared.counts.LinkCounts.{LinkCounts}
use Rattle.model_link.specs.declared.timers.LinkTimer.TheVariants.{T200, T203}
use Rattle.model_link.specs.Events as link
use Rattle.model_link.specs.Link as links
use Rattle.model_line.specs.declared.config.Config.{Config}
use Rattle.model_line.specs.Event as line_event
use Rattle.model_line.specs.Event.{hears, expiry, request, next, Answer}
use Rattle.model_line.specs.Line.{place_in, terms}
use Rattle.model_line.specs.Request.{Request, Establish, Release, Data, SetBusy, ClearBusy, Deactivate}
use Rattle.laws_link.specs.Counting.{at_most, nothing_yet, tally}
use Rattle.laws_line.specs.Share.{is_granted}
use Rattle.model_card.specs.Card.{Card, counts, fresh, line_at}
use Rattle.model_card.specs.Event.{Event}
use Rattle.model_card.specs.Machine.{after}
use Rattle.model_card.specs.Run.{Moment, moments, after_all}
use Rattle.laws_trace.specs.LinkFrames.{frame_of, is_frame_of, its_frame, malformed}
use Rattle.laws_trace.specs.Trace.{is_own, frame_in}

-- What the link hears: a frame with its address, or a malformed one, by the letter of its error (Q.921 clause 5.8.5).
abbrev pub by_letter : ErrorCode → link.Received
by_letter L = link.undefined
by_letter N = link.wrong_size
by_letter other = link.overlong

abbrev pub received_in : Config → Service → ℕ → stream.Event → Option link.Event
received_in c service tei e =
    option_or (option_map (λ (f : Parts). link.received (link.frame f)) (its_frame service tei (frame_of c e)))
    (option_map (λ letter. link.received (by_letter letter)) (malformed c service tei e))

-- A timer of it expires (clauses 5.9.1 and 5.9.8).
abbrev pub if_own : Service → ℕ → Service → ℕ → link.Event → Option link.Event
if_own service tei of by event = if is_own service tei of by then Some event else None

abbrev pub expired_in : Service → ℕ → Timer → Option link.Event
expired_in service tei (timers.T200 of by) = if_own service tei of by (link.expired T200)
expired_in service tei (timers.T203 of by) = if_own service tei of by (link.expired T203)
expired_in service tei other = None

-- A request of it is granted. Where it is deactivated, it begins anew (annex B, and profile).
abbrev pub requested_in : Service → ℕ → Request → Option link.Event
requested_in service tei (Establish of by) = if_own service tei of by (link.requested link.Establish false)
requested_in service tei (Release of by) = if_own service tei of by (link.requested link.Release false)
requested_in service tei (Data of by contents) = if_own service tei of by (link.requested (link.Data contents) false)
requested_in service tei (SetBusy of by) = if_own service tei of by (link.requested link.SetBusy false)
requested_in service tei (ClearBusy of by) = if_own service tei of by (link.requested link.ClearBusy false)
requested_in service tei (Deactivate of by) = if_own service tei of by link.cleared
requested_in service tei other = None

-- Or a frame of it begins. (A UI frame is of no link.) All else is no event of it.
abbrev pub event_in : Config → Service → ℕ → line_event.Event → Answer → Option link.Event
event_in c service tei (hears e) a = received_in c service tei e
event_in c service tei (expiry timer) a = expired_in service tei timer
event_in c service tei (request r) a = if is_granted a then requested_in service tei r else None
event_in c service tei next a = if list_any (is_frame_of c service tei) (frame_in a) then Some link.offer else None

-- Its events in order, since its TEI came to the line.
abbrev pub is_on_line : ℕ → ℕ → Card → Bool
is_on_line number tei card = is_some (place_in (line_at number card) tei)

abbrev pub joins : Config → Service → ℕ → ℕ → List link.Event → Moment → List link.Event
joins c service tei number es m =
    if not (m.event.line == number) then es
    else if is_on_line number tei m.card && is_on_line number tei (after m.event m.card) then es ++ option_to_list (event_in c service tei m.event.what m.answer)
    else []

abbrev pub events_of_link : Config → Service → ℕ → ℕ → List Event → List link.Event
events_of_link c service tei number events = fold (joins c service tei number) [] (moments (fresh c) events)

-- What they show of a link that begins, each number at most 65535.
abbrev pub counted_in : Config → Service → ℕ → List link.Event → LinkCounts
counted_in c service tei es = at_most (tally (terms c service tei) es links.fresh nothing_yet)

-- After every list of events this is what is told of a link, and nothing if its TEI is not on the line.
abbrev pub LinkCountersCount : Config → List Event → ℕ → Type 0
LinkCountersCount c events number =
    (service : Service) (tei : ℕ) → let card = after_all (fresh c) events in
    counts number service tei card ≡ (if is_on_line number tei card then Some (counted_in c service tei (events_of_link c service tei number events)) else None)
