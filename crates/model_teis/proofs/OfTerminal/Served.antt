-- What each row of the table keeps.
use Rattle.model_teis.proofs.OfTerminal.Vocabulary.{◌≡◌, ℕ, ◌+◌, ◌≤◌, true, false, cond, [], Option, Some, None, refl, sym, subst, arith, option_map, Places, is_on, place_of, free_place, set, freed, left, fold, Terminal, Procedure, IsSound, is_verified}
use Rattle.model_teis.proofs.Tables.{free_place-is, place_of-is}
use Rattle.model_teis.specs.Changes.{Moves}
use Rattle.model_teis.specs.declared.changes.Change.TheVariants.{Gained}
use Rattle.model_teis.specs.Steps.{◌then◌, nothing_happens}
use Rattle.model_teis.specs.terminal.Words.{Course, begun, end_procedure, leave}
use Rattle.model_teis.specs.terminal.Rows.{answered, end_if_any, withdraw_all, removed, take_off}
use Rattle.model_teis.specs.terminal.Events.{Event}
use Rattle.model_teis.specs.terminal.Laws.{IsInRange}
use Rattle.model_teis.proofs.OfTerminal.SoundWords.{sound_asked, sound_verified, sound_ended, sound_joined, sound_left, sound_down, verified_on}
use Rattle.model_teis.proofs.OfTerminal.Answered.{answers_each, answers_stay}
use Rattle.model_teis.proofs.OfTerminal.Walk.{OfEvents, of_event}
unfoldable use Rattle.model_teis.specs.terminal.Events.{course}

-- Where an event has led, from m on.
pub record Leads (m : Terminal) (c : Course) : Type 0 where
  pub sound : IsSound c.now
  pub moves : Moves m.places c.told.change c.now.places

-- the table after a TEI left, and after one came
moved_out : (places : Places) (tei : ℕ) → Moves places (option_map (left tei) (place_of tei places)) (freed places (place_of tei places))
moved_out places tei =
    elim (place_of tei places) as (λ o. place_of tei places ≡ o → Moves places (option_map (left tei) o) (freed places o)) [
      | None ↦ λ e. refl
      | Some place ↦ λ e. record { within = (place_of-is places tei place e).0; was_there = (place_of-is places tei place e).1; is_free = refl }
    ] refl

moved_in : (places : Places) (tei place : ℕ) → is_on tei places ≡ false → free_place places ≡ Some place → tei ≤ 126 → Moves places (Some (Gained tei place)) (set places place (Some tei))
moved_in places tei place off at low =
    let there = free_place-is places place at in
    record { lowest = at; within = there.0; was_free = there.1; was_off = off; range = low; is_there = refl }

leads_off : (m : Terminal) (tei : ℕ) → IsSound m → Leads m (take_off tei (begun m))
leads_off m tei sound =
    elim (is_verified tei m.procedure) as (λ b. is_verified tei m.procedure ≡ b → Leads m (leave tei ((cond b end_procedure nothing_happens) (begun m)))) [
      | true ↦ λ e. record { sound = sound_left _ tei refl (sound_ended m sound); moves = moved_out m.places tei }
      | false ↦ λ e. record { sound = sound_left m tei e sound; moves = moved_out m.places tei }
    ] refl

leads_removed : (m : Terminal) (tei : ℕ) → IsSound m → Leads m (removed tei (begun m))
leads_removed m tei sound = let off = leads_off m tei sound in record { sound = off.sound; moves = off.moves }

leads_down : (m : Terminal) (o : Option Procedure) → m.procedure ≡ o → IsSound m → Leads m ((end_if_any o then withdraw_all) (begun m))
leads_down m None is sound = record { sound = subst (λ o. IsSound (record m { procedure = o; waiting = [] })) (sym is) (sound_down m sound); moves = refl }
leads_down m (Some procedure) is sound = record { sound = sound_down m sound; moves = refl }

leads_answers : (m : Terminal) (c : Course) → IsSound c.now → c.now.places ≡ m.places → c.told.change ≡ None → Leads m c
leads_answers m c sound places change = record { sound = sound; moves = subst (λ o. Moves m.places o c.now.places) (sym change) places }

ways : (e : Event) (m : Terminal) → IsInRange e → IsSound m → OfEvents e m (Leads m)
ways e m range sound = record {
  is_unserved = record { sound = sound; moves = refl };
  is_idle = record { sound = sound; moves = refl };
  asks = λ attempts may least most. record { sound = sound_asked m attempts may least most sound; moves = refl };
  verifies = λ tei on may. record { sound = sound_verified m tei 1 on may (omega arith) (omega arith) sound; moves = refl };
  verifies_again = λ tei made runs few.
      let may = verified_on m tei made runs sound in
      record { sound = sound_verified m tei (made + 1) may.0 may.1 (omega arith) few sound; moves = refl };
  takes = λ octets ri tei attempts place is heard runs off low at.
      record { sound = sound_ended _ (sound_joined m tei place off at low sound); moves = moved_in m.places tei place off at low };
  is_denied = record { sound = sound; moves = refl };
  answers = λ octets teis is all short.
      let stays = answers_stay m teis all sound in
      leads_answers m (fold answered (begun m) teis) stays.sound stays.places (answers_each m teis).change;
  is_removed = λ tei. leads_removed m tei sound;
  is_told = record { sound = sound; moves = refl };
  gives_up_asking = record { sound = sound_ended m sound; moves = refl };
  joins = λ tei place is off at.
      let low : tei ≤ 126 = subst IsInRange is range in
      record { sound = sound_joined m tei place off at low sound; moves = moved_in m.places tei place off at low };
  leaves = λ tei. leads_off m tei sound;
  is_down = leads_down m m.procedure refl sound;
}

pub leads : (e : Event) (m : Terminal) → IsInRange e → IsSound m → Leads m (course e m)
leads e m range sound = of_event e m (Leads m) (ways e m range sound)
