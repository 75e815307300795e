-- What each row of the table tells: orders follow the procedure, and no TEI comes by itself.
use Rattle.model_teis.proofs.OfTerminal.Vocabulary.{◌≡◌, ℕ, true, false, cond, is_some, List, Option, Some, None, refl, sym, subst, ap, ◌∙◌, false≢true, fold, inl, inr, option_map, place_of, left, Terminal, Procedure, Asking, Verifying, is_verified, nat_lt, ◌+◌}
use Rattle.model_teis.proofs.OfTerminal.SoundWords.{same_itself}
use Rattle.model_teis.specs.Steps.{◌then◌, nothing_happens}
use Rattle.model_teis.specs.terminal.Words.{Course, begun, end_procedure, unserved, leave, note, ask, verify}
use Rattle.model_teis.specs.terminal.Rows.{answered, end_if_any, expire_procedure, give_up_asking, withdraw_all, removed, take_off}
use Rattle.model_teis.specs.terminal.Events.{Event}
use Rattle.lapd_frame.specs.declared.notes.Note.TheVariants.{Removed}
use Rattle.model_teis.specs.terminal.Laws.{Follows, IsGiven, T202Follows, ExpiredT202Follows, UnservedChangesNothing, NoneIsTaken}
use Rattle.model_teis.proofs.OfTerminal.Walk.{OfEvents, of_event}
use Rattle.model_teis.proofs.OfTerminal.Answered.{answers_each}
unfoldable use Rattle.model_teis.specs.terminal.Events.{course}

pub record Tells (e : Event) (m : Terminal) (c : Course) : Type 0 where
  pub follows : Follows (is_some m.procedure) c.told.orders (is_some c.now.procedure)
  pub given : IsGiven e m c.told.change
  pub idle : c.told.unserved ≡ true → c ≡ unserved (begun m)

-- a TEI that leaves is given by nobody
given_left : (e : Event) (m : Terminal) (tei : ℕ) (o : Option ℕ) → IsGiven e m (option_map (left tei) o)
given_left e m tei None = tt
given_left e m tei (Some place) = tt

leaves_by : (e : Event) (m : Terminal) (tei : ℕ) → Tells e m (take_off tei (begun m))
leaves_by e m tei =
    elim (is_verified tei m.procedure) as (λ b. Tells e m (leave tei ((cond b end_procedure nothing_happens) (begun m)))) [
      | true ↦ record { follows = refl; given = given_left e m tei (place_of tei m.places); idle = λ is. absurd (false≢true is) }
      | false ↦ record { follows = refl; given = given_left e m tei (place_of tei m.places); idle = λ is. absurd (false≢true is) }
    ]

removed_by : (e : Event) (m : Terminal) (tei : ℕ) → Tells e m (removed tei (begun m))
removed_by e m tei =
    elim (is_verified tei m.procedure) as (λ b. Tells e m (note (Removed tei) (leave tei ((cond b end_procedure nothing_happens) (begun m))))) [
      | true ↦ record { follows = refl; given = given_left e m tei (place_of tei m.places); idle = λ is. absurd (false≢true is) }
      | false ↦ record { follows = refl; given = given_left e m tei (place_of tei m.places); idle = λ is. absurd (false≢true is) }
    ]

-- verifying ends if the TEI that is verified is removed
removed_follows : (m : Terminal) (tei attempts : ℕ) → m.procedure ≡ Some (Verifying tei attempts) → Follows false (removed tei (begun m)).told.orders (is_some (removed tei (begun m)).now.procedure)
removed_follows m tei attempts is =
    let ends : is_verified tei m.procedure ≡ true = ap (is_verified tei) is ∙ same_itself tei in
    subst (λ b. Follows false (note (Removed tei) (leave tei ((cond b end_procedure nothing_happens) (begun m)))).told.orders (is_some (note (Removed tei) (leave tei ((cond b end_procedure nothing_happens) (begun m)))).now.procedure)) (sym ends) refl

down_by : (e : Event) (m : Terminal) (o : Option Procedure) → m.procedure ≡ o → Tells e m ((end_if_any o then withdraw_all) (begun m))
down_by e m None is = record { follows = refl; given = tt; idle = λ is. absurd (false≢true is) }
down_by e m (Some procedure) is = record { follows = refl; given = tt; idle = λ is. absurd (false≢true is) }

answers_by : (e : Event) (m : Terminal) (teis : List ℕ) → Tells e m (fold answered (begun m) teis)
answers_by e m teis =
    let all = answers_each m teis in
    record {
      follows = all.follows;
      given = subst (λ change. IsGiven e m change) (sym all.change) tt;
      idle = λ is. absurd (false≢true (sym all.served ∙ is));
    }

ways : (e : Event) (m : Terminal) → OfEvents e m (Tells e m)
ways e m = record {
  is_unserved = record { follows = refl; given = tt; idle = λ is. refl };
  is_idle = record { follows = refl; given = tt; idle = λ is. absurd (false≢true is) };
  asks = λ attempts may least most. record { follows = refl; given = tt; idle = λ is. absurd (false≢true is) };
  verifies = λ tei on may. record { follows = refl; given = tt; idle = λ is. absurd (false≢true is) };
  verifies_again = λ tei made runs few. record { follows = refl; given = tt; idle = λ is. absurd (false≢true is) };
  takes = λ octets ri tei attempts place is heard runs off low at.
      record { follows = refl; given = inr (octets, ri, attempts, is, heard, runs); idle = λ is. absurd (false≢true is) };
  is_denied = record { follows = refl; given = tt; idle = λ is. absurd (false≢true is) };
  answers = λ octets teis is all short. answers_by e m teis;
  is_removed = λ tei. removed_by e m tei;
  is_told = record { follows = refl; given = tt; idle = λ is. absurd (false≢true is) };
  gives_up_asking = record { follows = refl; given = tt; idle = λ is. absurd (false≢true is) };
  joins = λ tei place is off at. record { follows = refl; given = inl is; idle = λ is. absurd (false≢true is) };
  leaves = λ tei. leaves_by e m tei;
  is_down = down_by e m m.procedure refl;
}

pub tells : (e : Event) (m : Terminal) → Tells e m (course e m)
tells e m = of_event e m (Tells e m) (ways e m)

-- T202 has expired: whether it ran before says nothing if a procedure runs
expired : (m : Terminal) (o : Option Procedure) → m.procedure ≡ o → Follows false (expire_procedure o (begun m)).told.orders (is_some (expire_procedure o (begun m)).now.procedure)
expired m None is = ap is_some is
expired m (Some (Asking ri attempts)) is =
    elim (nat_lt attempts 3) as (λ b. Follows false ((cond b (ask (attempts + 1)) give_up_asking) (begun m)).told.orders (is_some ((cond b (ask (attempts + 1)) give_up_asking) (begun m)).now.procedure)) [
      | true ↦ refl
      | false ↦ refl
    ]
expired m (Some (Verifying tei attempts)) is =
    elim (nat_lt attempts 2) as (λ b. Follows false ((cond b (verify tei (attempts + 1)) (removed tei)) (begun m)).told.orders (is_some ((cond b (verify tei (attempts + 1)) (removed tei)) (begun m)).now.procedure)) [
      | true ↦ refl
      | false ↦ removed_follows m tei attempts is
    ]

pub t202_follows : T202Follows
t202_follows e m = (tells e m).follows

pub none_is_taken : NoneIsTaken
none_is_taken e m = (tells e m).given

pub unserved_changes_nothing : UnservedChangesNothing
unserved_changes_nothing e m is =
    let idle = (tells e m).idle is in
    (ap (λ c. c.now) idle, ap (λ c. c.told) idle)

-- after its own expiry
pub expired_t202_follows : ExpiredT202Follows
unfolding course
expired_t202_follows m = expired m m.procedure refl
