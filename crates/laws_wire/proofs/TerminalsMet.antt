-- The premises of the law that a terminal comes through are met by the worked run, in which the network calls.
use Rattle.laws_wire.proofs.Vocabulary.{◌≡◌, ◌+◌, ◌*◌, false, if◌then◌else◌, subst, refl, arith, All, [], ◌∷◌, Call, exchanged, reading, side_reading, header_of, control_of, unnumbered_of, supervisory_of, IsCall, CanCall, doing_all, turns, IsStill, network, confirmed, told_first, all_told, granted_of, line_answer, line_takes_slot, line_after, tei_refusal, tei_course}
use Rattle.model_line.specs.Config.{sapi_fault}
unfoldable use Rattle.model_teis.specs.terminal.Events.{course as terminal_course}
use Rattle.laws_wire.specs.Arriving.{SendsOrReceives}
use Rattle.laws_wire.specs.Terminals.{assigned_told, AreToldWithin}
use Rattle.laws_wire.specs.WorkedTerminals.{terminal, asks, gets_tei, has_tei, near_has, talks, called, one_calls}
use Rattle.laws_wire.proofs.PremisesMet.{all-of}
use Rattle.laws_wire.proofs.TerminalCalls.{terminals-come-through}

can : CanCall terminal 0 network 0 64
unfolding sapi_fault
can = record { near = (refl, omega arith); far = (refl, omega arith); opposite = (refl, refl); terminal = omega arith }

turning : All SendsOrReceives gets_tei
turning = all-of SendsOrReceives gets_tei (tt, (tt, (tt, (tt, (tt, (tt, tt))))))

-- each is told of the TEI once
pub told : AreToldWithin (turns gets_tei asks) 4 (assigned_told ∷ []) (assigned_told ∷ []) has_tei
told = (terminals-come-through terminal network 0 0 gets_tei can refl turning).0

still : IsStill has_tei
unfolding line_after line_answer line_takes_slot exchanged reading side_reading header_of control_of unnumbered_of supervisory_of tei_course tei_refusal terminal_course doing_all
still = record { near = refl; far = refl; near_way = refl; far_way = refl }

pub told_terminal : has_tei.near.told ≡ assigned_told ∷ []
told_terminal = told.near.1 still

-- and then the network calls
talk : All (IsCall Call 64) talks
talk = grind (arith, all-of)

pub comes : AreToldWithin (turns gets_tei asks + turns talks called) (8 + 4 * granted_of (doing_all talks called))
    (assigned_told ∷ all_told Call 64 (confirmed Call 64) (doing_all talks called).far)
    (assigned_told ∷ all_told Call 64 (told_first Call 64 false) (doing_all talks called).near) (doing_all talks called)
comes =
    let last = doing_all talks called in
    subst (λ both. AreToldWithin (turns gets_tei asks + turns talks called) ((if both then 12 else 8) + 4 * granted_of last)
    (assigned_told ∷ all_told Call 64 (confirmed Call 64) last.far) (assigned_told ∷ all_told Call 64 (told_first Call 64 both) last.near) last)
    one_calls (((terminals-come-through terminal network 0 0 gets_tei can refl turning).1 near_has).1 Call talks talk)
