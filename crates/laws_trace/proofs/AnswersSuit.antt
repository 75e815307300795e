-- Each event is answered as it is due: the law.
use Rattle.laws_trace.proofs.Vocabulary.{◌≡◌, Bool, false, Option, Result, Ok, Err, Refusal, fresh, of_request, unless_refused_told, answer_is, config-stays, Always, Effect}
use Rattle.std.specs.Option.{option_map_or}
use Rattle.model_line.specs.Machine as lines
use Rattle.laws_trace.specs.AnswersSuit.{kind_of, AnswersSuit}
use Rattle.laws_trace.proofs.Reasons.{refusal-same}
use Rattle.laws_trace.proofs.Vocabulary.{arith}

abbrev kind_by : Bool → Option Refusal → Result Bool Refusal
kind_by taken why = option_map_or (λ why. Err why) why (Ok taken)

of-request : (o : Option Refusal) (x : Effect) → kind_of (unless_refused_told o x) ≡ kind_by false o
of-request o x = grind arith

pub answers-suit : Always AnswersSuit
unfolding lines.answer lines.takes_slot
answers-suit c events number ranged all within h = grind (arith, fresh, kind_of, answer_is, of-request, of_request, config-stays, refusal-same)
