-- What the answers of a line say, without references.
--
-- An answer has room for four notes and four orders, by value. No clause needs to speak of that room: an answer
-- equals what the machine tells, so a list that was cut would break the clause. That four suffice is
-- `answers_are_short` of `laws_line`.
use Rattle.std.specs.Prelude.{ℕ, List, [], take, Option, Some, None, option_map, Result, Ok, Err}
use Rattle.std.specs.Option.{option_copied}
use Rattle.model_bits.specs.Stream as stream
use Rattle.lapd_frame.specs.ShortLists.{listed}
use Rattle.lapd_frame.specs.declared.refusals.Refusal.{Refusal}
use Rattle.model_line.specs.Event.{LineTold, Answer, told, refused, gave, nothing}
use Rattle.model_line.specs.Event as line
use Rattle.model_card.specs.ports.Port as port
use Rattle.lapd_link_steps.specs.declared.report.BareReport.{BareReport}
pub use Rattle.lapd_link_steps.specs.Reports.{IsClear, cause_in, delivered_in, has_contents}
use Rattle.lapd_line.specs.declared.next_frame.NextFrame.{NextFrame}
use Rattle.lapd_line.specs.declared.reports.Report.{Report}
use Rattle.lapd_line.specs.declared.pulled.Pulled.{Pulled}

abbrev pub report_told : Report → LineTold
report_told r =
    record { notes = listed r.notes; contents = option_copied r.delivered; cause = r.cause; orders = listed r.orders; lost = r.lost; given_up = r.given_up; given_up_16 = r.given_up_16 }

-- What is left of it without the contents.
abbrev pub without_contents : LineTold → LineTold
without_contents t = record t { contents = None }

-- What a report without references tells, with these contents beside it,
abbrev pub told_beside : Option (List ℕ) → BareReport → LineTold
told_beside contents o =
    record { notes = listed o.notes; contents = contents; cause = cause_in o; orders = listed o.orders; lost = o.lost; given_up = o.given_up; given_up_16 = o.given_up_16 }

-- or with those that it names in these octets.
abbrev pub told_in : List ℕ → BareReport → LineTold
told_in octets o = told_beside (delivered_in octets o) o

-- What a request is answered with: where it is accepted, what its report tells, and else why it is refused.
abbrev pub answer_of_request : Result Unit Refusal → BareReport → Answer
answer_of_request (Ok done) o = told (told_beside None o)
answer_of_request (Err why) o = refused why

-- The same where there is an outcome, and nothing where there is none.
abbrev pub told_if : List ℕ → Option BareReport → LineTold
told_if octets None = nothing
told_if octets (Some o) = told_in octets o

-- The octets of a frame that is heard, and none of anything else.
abbrev pub octets_of : Option stream.Event → List ℕ
octets_of (Some (stream.frame octets)) = octets
octets_of other = []

-- The next frame, which lies in front of these octets, with its orders; and how many octets it has.
abbrev pub next_in : List ℕ → NextFrame → line.NextFrame
next_in out next = record { octets = take next.length out; orders = listed next.orders }

abbrev pub gave_in : List ℕ → Option NextFrame → Answer
gave_in out next = gave (option_map (next_in out) next)

abbrev pub written : Option NextFrame → ℕ
written None = 0
written (Some next) = next.length

abbrev pub pulled_of : Pulled → port.Answer
pulled_of p = port.pulled p.octet p.begun (listed p.orders)
