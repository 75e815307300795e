-- The Ri of each message of a terminal that waits on a line has two octets, and so has the number that comes next.
use Rattle.laws_trace.proofs.Vocabulary.{ℕ, ◌+◌, ◌<◌, ◌==◌, Bool, true, false, cond, List, [], ◌∷◌, ◌++◌, Option, Some, None, arith, All, All-nil, All-cons, All-append, cond_both, fold, nat_lt, is_on, free_place, Refusal}
use Rattle.std.proofs.lemmas.List.Elements.{All-filter, All-set}
use Rattle.std.specs.List.{position}
use Rattle.model_teis.specs.terminal.Events.{Event, after, message, expiry, assign, remove, down, refusal, unless_refused}
use Rattle.model_teis.specs.terminal.Events.{ask as asking, verify as verifying}
unfoldable use Rattle.model_teis.specs.terminal.Events.{course}
use Rattle.model_teis.specs.terminal.Machine.{Terminal}
use Rattle.model_teis.specs.Information.{heard_by, looked_at}
use Rattle.model_teis.specs.terminal.Messages.{heard_of_type}
use Rattle.model_teis.specs.Table.{named}
use Rattle.model_teis.specs.terminal.Rows as rows
use Rattle.model_teis.specs.terminal.Rows.{answered, take_off, end_if_any, withdraw_all}
use Rattle.model_teis.specs.Steps.{◌then◌, nothing_happens}
use Rattle.model_teis.specs.terminal.Words.{Course, Step, begun, put_at, with_request, with_verify, is_request, is_response, is_other, is_verified, end_procedure, send_response, leave, ask, verify, join, unserved}
use Rattle.model_teis.specs.declared.terminal.messages.Message.{Message}
use Rattle.model_teis.specs.declared.terminal.messages.Message.TheVariants.{IdentityRequest, IdentityCheckResponse, IdentityVerify}
use Rattle.model_teis.specs.declared.terminal.procedure.Procedure.{Procedure}
use Rattle.model_teis.specs.declared.terminal.procedure.Procedure.TheVariants.{Asking, Verifying}
use Rattle.model_teis.proofs.OfTerminal.SoundWords.{number_low}

abbrev pub ri_of : Message → ℕ
ri_of (IdentityRequest ri) = ri
ri_of (IdentityCheckResponse ri tei) = ri
ri_of (IdentityVerify tei) = 0

abbrev pub IsSmall : Message → Type 0
IsSmall m = ri_of m < 65536

pub record AreSmall (number : ℕ) (waiting : List Message) : Type 0 where
  pub low : number < 65536
  pub all : All IsSmall waiting

abbrev Small : Course → Type 0
Small c = AreSmall c.now.number c.now.waiting

-- A message comes to wait.
at-end : (m : Message) (waiting : List Message) → IsSmall m → All IsSmall waiting → All IsSmall (waiting ++ m ∷ [])
at-end m waiting small h = All-append IsSmall waiting (m ∷ []) h (All-cons IsSmall m [] small (All-nil IsSmall))

put : (m : Message) (waiting : List Message) (o : Option ℕ) → IsSmall m → All IsSmall waiting → All IsSmall (put_at m waiting o)
put m waiting None small h = at-end m waiting small h
put m waiting (Some place) small h = All-set IsSmall waiting place m small h

requested : (number : ℕ) (waiting : List Message) → number < 65536 → All IsSmall waiting → All IsSmall (with_request number waiting)
requested number waiting low h = put (IdentityRequest number) waiting (position is_request waiting) low h

verified : (tei : ℕ) (waiting : List Message) → All IsSmall waiting → All IsSmall (with_verify tei waiting)
verified tei waiting h = grind (arith, cond_both, at-end)

-- A procedure ends, or none does.
ended : (b : Bool) (c : Course) → Small c → Small ((cond b end_procedure nothing_happens) c)
ended true c h = record { low = h.low; all = All-filter is_response IsSmall c.now.waiting h.all }
ended false c h = h

-- A check is answered, unless it was.
sent : (tei : ℕ) (b : Bool) (c : Course) → Small c → Small ((cond b nothing_happens (send_response tei)) c)
sent tei b c h = grind (arith, number_low, at-end)

answers-one : (tei : ℕ) (c : Course) → Small c → Small (answered c tei)
answers-one tei c h = grind (arith, sent, ended)

answers-all : (teis : List ℕ) (c : Course) → Small c → Small (fold answered c teis)
answers-all [] c h = h
answers-all (tei ∷ teis) c h = answers-all teis (answered c tei) (answers-one tei c h)

-- A TEI leaves.
left : (tei : ℕ) (c : Course) → Small c → Small (leave tei c)
left tei c h = record { low = h.low; all = All-filter (is_other tei) IsSmall c.now.waiting h.all }

taken-off : (tei : ℕ) (m : Terminal) → Small (begun m) → Small (take_off tei (begun m))
taken-off tei m h =
    let b = is_verified tei m.procedure in
    left tei ((cond b end_procedure nothing_happens) (begun m)) (ended b (begun m) h)

-- The line is down.
down-small : (m : Terminal) (o : Option Procedure) → Small (begun m) → Small ((end_if_any o then withdraw_all) (begun m))
down-small m o h = grind (arith, All-nil)

-- Each row, by what it tests.
either : (b : Bool) (f g : Step) (c : Course) → Small (f c) → Small (g c) → Small ((cond b f g) c)
either b f g c x y = grind arith

asked : (attempts : ℕ) (c : Course) → Small c → Small (ask attempts c)
asked attempts c h = record { low = number_low c.now.number; all = requested c.now.number c.now.waiting h.low h.all }

verifies : (tei attempts : ℕ) (c : Course) → Small c → Small (verify tei attempts c)
verifies tei attempts c h = record { low = h.low; all = verified tei c.now.waiting h.all }

taken : (tei : ℕ) (o : Option ℕ) (c : Course) → Small c → Small (rows.take_at tei o c)
taken tei None c h = h
taken tei (Some place) c h = ended true (join tei place c) h

assigned : (ri tei : ℕ) (o : Option Procedure) (c : Course) → Small c → Small (rows.assigned ri tei o c)
assigned ri tei None c h = either (is_on tei c.now.places) (verify tei 1) unserved c (verifies tei 1 c h) h
assigned ri tei (Some (Asking own attempts)) c h =
    either (own == ri) (rows.take_tei tei) unserved c
    (either (rows.is_assignable c.now.reading tei c.now.places) (rows.take_at tei (free_place c.now.places)) unserved c (taken tei (free_place c.now.places) c h) h) h
assigned ri tei (Some (Verifying own attempts)) c h = h

denied : (ri : ℕ) (o : Option Procedure) (c : Course) → Small c → Small (rows.denied ri o c)
denied ri o c h = grind (arith, either, unserved)

checked : (teis : List ℕ) (c : Course) → Small c → Small (rows.checked teis c)
checked [] c h = h
checked (tei ∷ teis) c h = answers-all (tei ∷ teis) c h

removed : (teis : List ℕ) (m : Terminal) → Small (begun m) → Small (rows.removed_each teis (begun m))
removed teis m h = grind (arith, taken-off)

either-of : {X : Type 0} (f : X → Course) (b : Bool) (u v : X) → Small (f u) → Small (f v) → Small (f (cond b u v))
either-of f b u v x y = grind arith

of-type : (type ri action : ℕ) (m : Terminal) → Small (begun m) → Small (rows.serve (heard_of_type type ri action) (begun m))
of-type type ri action m h = grind (arith, either-of, begun, assigned, denied, checked, named, removed)

serves : (octets : List ℕ) (m : Terminal) → Small (begun m) → Small (rows.serve (heard_by heard_of_type octets) (begun m))
serves octets m h = grind (arith, either-of, begun, of-type)

expires : (o : Option Procedure) (m : Terminal) → Small (begun m) → Small (rows.expire_procedure o (begun m))
expires None m h = h
expires (Some (Asking ri attempts)) m h = either (nat_lt attempts 3) (ask (attempts + 1)) rows.give_up_asking (begun m) (asked (attempts + 1) (begun m) h) (ended true (begun m) h)
expires (Some (Verifying tei attempts)) m h = either (nat_lt attempts 2) (verify tei (attempts + 1)) (rows.removed tei) (begun m) (verifies tei (attempts + 1) (begun m) h) (taken-off tei m h)

joins : (tei : ℕ) (o : Option ℕ) (m : Terminal) → Small (begun m) → Small (rows.join_at tei o (begun m))
joins tei o m h = grind arith

unless : (o : Option Refusal) (does : Step) (m : Terminal) → Small (begun m) → Small (does (begun m)) → Small (unless_refused o does m)
unless o does m h x = grind arith

leads : (e : Event) (m : Terminal) → Small (begun m) → Small (course e m)
unfolding course
leads (message octets) m h = serves (looked_at m.reading octets) m h
leads expiry m h = expires m.procedure m h
leads asking m h = unless (refusal asking m) (ask 1) m h (asked 1 (begun m) h)
leads (verifying tei) m h = unless (refusal (verifying tei) m) (verify tei 1) m h (verifies tei 1 (begun m) h)
leads (assign tei) m h = unless (refusal (assign tei) m) (rows.put_on tei) m h (joins tei (free_place m.places) m h)
leads (remove tei) m h = unless (refusal (remove tei) m) (rows.take_off tei) m h (taken-off tei m h)
leads down m h = down-small m m.procedure h

pub own-after : (e : Event) (m : Terminal) → AreSmall m.number m.waiting → AreSmall (after e m).number (after e m).waiting
own-after e m h = leads e m h
