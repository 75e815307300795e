-- What TEI management of a terminal serves: of messages, what an observer of the line has it serve, and all else.
use Rattle.laws_trace.proofs.Vocabulary.{◌≡◌, ℕ, Bool, true, false, cond, not, List, Option, ap, ◌∙◌, true≢false, is_some, nat_lt, Refusal, Config}
use Rattle.model_teis.specs.terminal.Events.{Event, message, step, told, unless_refused}
unfoldable use Rattle.model_teis.specs.terminal.Events.{course}
use Rattle.model_teis.specs.terminal.Machine.{Terminal}
use Rattle.model_teis.specs.terminal.Rows as rows
use Rattle.model_teis.specs.Steps.{nothing_happens}
use Rattle.model_teis.specs.terminal.Words.{Course, Step, begun, leave, end_procedure}
use Rattle.model_teis.specs.declared.terminal.procedure.Procedure.{Procedure}
use Rattle.laws_trace.specs.ManagingTerminal.{by_message}
use Rattle.laws_trace.proofs.FollowsTerminal.{known, message-is, served, shown}
use Rattle.laws_trace.proofs.TerminalTables.{IsOnce}
use Rattle.laws_trace.proofs.Vocabulary.{arith}

-- A message.
some-served : (x : Course) → is_some (served x) ≡ not x.told.unserved
some-served x = grind (arith, is_some, shown)

not-twice : (b d : Bool) → d ≡ not b → b ≡ not d
not-twice b d is = grind arith

pub own-serves : (c : Config) (m : Terminal) → m.reading ≡ c.reading → ((tei : ℕ) → IsOnce tei m.places) → (info : List ℕ)
    → (told (message info) m).unserved ≡ not (is_some (by_message c info (known m)))
unfolding course
own-serves c m read once info =
    not-twice (rows.hear info (begun m)).told.unserved (is_some (by_message c info (known m)))
    (ap is_some (message-is m once c read info) ∙ some-served (rows.hear info (begun m)))

-- A TEI leaves, after verifying of it ended or not.
ends-quiet : (tei : ℕ) (b : Bool) (m : Terminal) → (leave tei ((cond b end_procedure nothing_happens) (begun m))).told.unserved ≡ false
ends-quiet tei b m = grind arith

-- Any other event is served.
abbrev pub is_message : Event → Bool
is_message (message info) = true
is_message other = false

unless-refused : (o : Option Refusal) (does : Step) (m : Terminal) → (does (begun m)).told.unserved ≡ false → (unless_refused o does m).told.unserved ≡ false
unless-refused o does m is = grind arith

expires : (o : Option Procedure) (m : Terminal) → (rows.expire_procedure o (begun m)).told.unserved ≡ false
expires o m = grind (arith, nat_lt, begun, rows.removed, ends-quiet)

joins : (tei : ℕ) (o : Option ℕ) (m : Terminal) → (rows.join_at tei o (begun m)).told.unserved ≡ false
joins tei o m = grind arith

ends : (o : Option Procedure) (m : Terminal) → (rows.withdraw_all (rows.end_if_any o (begun m))).told.unserved ≡ false
ends o m = grind arith

pub others-served : (e : Event) (m : Terminal) → is_message e ≡ false → (told e m).unserved ≡ false
unfolding course
others-served e m none = grind (arith, true≢false, expires, unless-refused, step, joins, ends-quiet, ends)
