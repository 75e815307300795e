-- Each TEI at a place of a line was given in the run that led there.
use Rattle.model_teis.proofs.OfTerminal.Vocabulary.{◌≡◌, ℕ, ◌<◌, ◌==◌, ◌⊎◌, inl, inr, true, false, List, [], ◌∷◌, length, set, Option, Some, None, refl, sym, subst, ◌∙◌, arith, nat_tests, none-some, same_Some, same_number, get_or-set_same, get_or-set_other, replicate, zero, suc, Places, Terminal, IsAt, IsSound, fresh}
use Rattle.model_teis.specs.Changes.{Moves}
use Rattle.model_teis.specs.declared.changes.Change.{Change}
use Rattle.model_teis.specs.declared.changes.Change.TheVariants.{Gained, Left}
use Rattle.model_teis.specs.terminal.Events.{Event, after, after_offer, told}
use Rattle.model_teis.specs.terminal.Laws.{IsGiven, Act, event, pull, AreInRange, after_acts, WasGiven, EachWasGiven}
use Rattle.model_teis.proofs.OfTerminal.SoundWords.{sound_fresh, sound_rest}
use Rattle.model_teis.proofs.OfTerminal.Served.{leads}
use Rattle.model_teis.proofs.OfTerminal.Told.{none_is_taken}

-- At a place that was set stands what was put there, at another what stood there before.
abbrev Before : Places → ℕ → ℕ → Option ℕ → ℕ → Type 0
Before places place tei o at = IsAt places place tei ⊎ ((place ≡ at) × (o ≡ Some tei))

set_before : (places : Places) (at place tei : ℕ) (o : Option ℕ) → at < length places → IsAt (set places at o) place tei → Before places place tei o at
set_before places at place tei o within there =
    elim (place == at) as (λ b. (place == at) ≡ b → Before places place tei o at) [
      | true ↦ λ e.
          let same = same_number place at e in
          inr (same, sym (get_or-set_same places at o None within) ∙ subst (λ k. IsAt (set places at o) k tei) same there)
      | false ↦ λ e.
          let apart : (place ≡ at → ⊥) = λ same. grind (arith, nat_tests) in
          inl (sym (get_or-set_other places at place o None apart) ∙ there)
    ] refl

-- a TEI that is at a place after an event was there before, or is given by it
stood : (e : Event) (m : Terminal) (change : Option Change) (new : Places) (tei place : ℕ) → Moves m.places change new → IsGiven e m change → IsAt new place tei
    → IsAt m.places place tei ⊎ IsGiven e m (Some (Gained tei place))
stood e m None new tei place moves given there = inl (subst (λ places. IsAt places place tei) moves there)
stood e m (Some (Gained own at)) new tei place moves given there =
    elim (set_before m.places at place tei (Some own) moves.within (subst (λ places. IsAt places place tei) moves.is_there there)) [
      | inl before ↦ inl before
      | inr put ↦
          let same : own ≡ tei = same_Some own tei put.1 in
          inr (subst (λ k. IsGiven e m (Some (Gained tei k))) (sym put.0) (subst (λ n. IsGiven e m (Some (Gained n at))) same given))
    ]
stood e m (Some (Left own at)) new tei place moves given there =
    elim (set_before m.places at place tei None moves.within (subst (λ places. IsAt places place tei) moves.is_free there)) [
      | inl before ↦ inl before
      | inr put ↦ absurd (none-some tei put.1)
    ]

given_by : (acts : List Act) (m : Terminal) (tei place : ℕ) → AreInRange acts → IsSound m → IsAt (after_acts acts m).places place tei → IsAt m.places place tei ⊎ WasGiven acts m tei place
given_by [] m tei place range sound there = inl there
given_by (event e ∷ acts) m tei place range sound there =
    let led = leads e m range.0 sound in
    elim (given_by acts (after e m) tei place range.1 led.sound there) [
      | inl stands ↦ elim (stood e m (told e m).change (after e m).places tei place led.moves (none_is_taken e m) stands) [
        | inl before ↦ inl before
        | inr given ↦ inr (inl given)
      ]
      | inr given ↦ inr (inr given)
    ]
given_by (pull ∷ acts) m tei place range sound there =
    elim (given_by acts (after_offer m) tei place range.1 (sound_rest m sound) there) [
      | inl before ↦ inl before
      | inr given ↦ inr (inr given)
    ]

nobody : (places place tei : ℕ) → IsAt (replicate places None) place tei → ⊥
nobody zero place tei there = none-some tei there
nobody (suc places) zero tei there = none-some tei there
nobody (suc places) (suc place) tei there = nobody places place tei there

pub each_was_given : EachWasGiven
each_was_given r terminals seed acts tei place few low range there =
    elim (given_by acts (fresh r terminals seed) tei place range (sound_fresh r terminals seed few low) there) [
      | inl before ↦ absurd (nobody terminals place tei before)
      | inr given ↦ given
    ]
