-- TEI management of a terminal tells of an event one note of TEIs and one order at most, and loses no message.
use Rattle.model_teis.proofs.OfTerminal.Vocabulary.{◌≡◌, ℕ, ◌≤◌, true, false, cond, List, [], ◌∷◌, length, Option, Some, None, refl, sym, subst, ap, arith, fold, Terminal, Procedure, is_verified}
use Rattle.lapd_frame.specs.declared.notes.Note.{Note}
use Rattle.lapd_frame.specs.declared.notes.Note.TheVariants.{Assigned, Removed, Denied, Unassigned, RemoveAll}
use Rattle.model_teis.specs.Steps.{◌then◌, nothing_happens}
use Rattle.model_teis.specs.terminal.Words.{Course, begun, end_procedure, leave}
use Rattle.model_teis.specs.terminal.Rows.{answered, end_if_any, removed, take_off, withdraw_all}
use Rattle.model_teis.specs.terminal.Events.{Event, told}
use Rattle.model_teis.proofs.OfNetwork.Brief.{IsBrief}
use Rattle.model_teis.proofs.OfTerminal.Answered.{answers_each}
use Rattle.model_teis.proofs.OfTerminal.Walk.{of_event}
unfoldable use Rattle.model_teis.specs.terminal.Events.{course}

abbrev pub AreOfTeis : List Note → Type 0
AreOfTeis [] = Unit {0}
AreOfTeis (Assigned tei ∷ []) = Unit {0}
AreOfTeis (Removed tei ∷ []) = Unit {0}
AreOfTeis (Denied ∷ []) = Unit {0}
AreOfTeis (Unassigned ∷ []) = Unit {0}
AreOfTeis (RemoveAll ∷ []) = Unit {0}
AreOfTeis others = ⊥

record IsLittle (c : Course) : Type 0 where
  pub notes : AreOfTeis c.told.notes
  pub few : length c.told.notes ≤ 1
  pub orders : length c.told.orders ≤ 1
  pub lost : c.told.lost ≡ 0

leaves_by : (m : Terminal) (tei : ℕ) → IsLittle (take_off tei (begun m))
leaves_by m tei =
    elim (is_verified tei m.procedure) as (λ b. IsLittle (leave tei ((cond b end_procedure nothing_happens) (begun m)))) [
      | true ↦ record { notes = tt; few = omega arith; orders = omega arith; lost = refl }
      | false ↦ record { notes = tt; few = omega arith; orders = omega arith; lost = refl }
    ]

removed_by : (m : Terminal) (tei : ℕ) → IsLittle (removed tei (begun m))
removed_by m tei = let left = leaves_by m tei in record { notes = tt; few = omega arith; orders = left.orders; lost = left.lost }

down_by : (m : Terminal) (o : Option Procedure) → IsLittle ((end_if_any o then withdraw_all) (begun m))
down_by m None = record { notes = tt; few = omega arith; orders = omega arith; lost = refl }
down_by m (Some procedure) = record { notes = tt; few = omega arith; orders = omega arith; lost = refl }

answers_by : (m : Terminal) (teis : List ℕ) → IsLittle (fold answered (begun m) teis)
answers_by m teis = let all = answers_each m teis in
    record { notes = subst AreOfTeis (sym all.notes) tt; few = omega (arith, ap (λ (l : List Note). length l) all.notes); orders = all.orders; lost = all.lost }

little : (e : Event) (m : Terminal) → IsLittle (course e m)
little e m = of_event e m IsLittle (record {
  is_unserved = record { notes = tt; few = omega arith; orders = omega arith; lost = refl };
  is_idle = record { notes = tt; few = omega arith; orders = omega arith; lost = refl };
  asks = λ attempts may least most. record { notes = tt; few = omega arith; orders = omega arith; lost = refl };
  verifies = λ tei on may. record { notes = tt; few = omega arith; orders = omega arith; lost = refl };
  verifies_again = λ tei made runs few. record { notes = tt; few = omega arith; orders = omega arith; lost = refl };
  takes = λ octets ri tei attempts place is heard runs off low at. record { notes = tt; few = omega arith; orders = omega arith; lost = refl };
  is_denied = record { notes = tt; few = omega arith; orders = omega arith; lost = refl };
  answers = λ octets teis is all short. answers_by m teis;
  is_removed = λ tei. removed_by m tei;
  is_told = record { notes = tt; few = omega arith; orders = omega arith; lost = refl };
  gives_up_asking = record { notes = tt; few = omega arith; orders = omega arith; lost = refl };
  joins = λ tei place is off at. record { notes = tt; few = omega arith; orders = omega arith; lost = refl };
  leaves = λ tei. leaves_by m tei;
  is_down = down_by m m.procedure;
})

pub noted : (e : Event) (m : Terminal) → AreOfTeis (told e m).notes
noted e m = (little e m).notes

pub told_brief : (e : Event) (m : Terminal) → IsBrief (told e m)
told_brief e m = let all = little e m in record { notes = all.few; orders = all.orders }

pub none_lost : (e : Event) (m : Terminal) → (told e m).lost ≡ 0
none_lost e m = (little e m).lost
