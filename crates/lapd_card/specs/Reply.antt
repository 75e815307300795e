-- What the answers of a card of octets say, without references.
use Rattle.std.specs.Prelude.{Result, Ok, Err}
use Rattle.lapd_frame.specs.declared.refusals.Refusal.{Refusal}
use Rattle.lapd_line.specs.declared.reports.Report.{Report}
use Rattle.lapd_line.specs.Reports.{report_told, pulled_of}
use Rattle.model_card.specs.ports.Port.{Answer, told, refused}
use Rattle.lapd_card.specs.declared.replies.Reply as reply

abbrev pub answer_of : reply.Reply → Answer
answer_of (reply.TheVariants.Report r) = told (report_told r)
answer_of (reply.TheVariants.Refused why) = refused why
answer_of (reply.TheVariants.Pulled p) = pulled_of p

-- The same of what a request answers.
abbrev pub answer_of_result : Result Report Refusal → Answer
answer_of_result (Ok report) = told (report_told report)
answer_of_result (Err why) = refused why
