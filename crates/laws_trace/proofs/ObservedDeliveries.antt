-- What layer 3 is told of what is heard, by what the observer knows of the link.
use Rattle.laws_trace.proofs.Vocabulary.{arith, List, nat_le, ◌≡◌, ℕ, ◌<◌, ◌||◌, Bool, true, false, Option, Some, None, option_map, refl, sym, ap, ◌∙◌, subst, true≢false, inl, inr, fold, count_by, length, option_to_list, list_any, option_map_or, and_parts, none-some, PoolFull, Service, Parts, state_number, Config, Answer, refused, Line, link_of, place_in, state_of, IsInRange, notes_of}
use Rattle.laws_trace.proofs.Vocabulary.{contents_in, is_data_of, is_unit_of, tells_contents, line_at, is_full, at, has_lines, by_room, line_sound, IsSound, fresh, card_answer as answer, after_all, AreAtLines, is_unit_taken, WhatIsToldWasHeard, brought, is_for, Observed, in_state, view_of, is_up, trace_of, Always, is_ui, Managed, Note, Event}
use Rattle.model_line.specs.Machine as lines
use Rattle.laws_trace.specs.Deliveries.{is_of_contents}
use Rattle.laws_trace.proofs.Deliveries.{frame_by}
use Rattle.laws_trace.proofs.DeliveriesKept.{run-stands}
use Rattle.laws_trace.proofs.DeliveriesRun.{IsCount, IsSmall, no-data, event-small, event-told}
use Rattle.laws_trace.proofs.DeliveriesWatched.{at_first, stand, IsHeard}
use Rattle.laws_trace.proofs.NewsWatched.{Wanted}
use Rattle.laws_trace.proofs.ObservedAcknowledged.{agrees-now}
use Rattle.laws_trace.proofs.ObservedCount.{Same}
use Rattle.laws_trace.proofs.ObservedFacts.{Facts}
use Rattle.laws_trace.proofs.ObservedLaws.{known-now}
use Rattle.laws_trace.proofs.ObservedStanding.{taken_by}
use Rattle.laws_trace.proofs.ObservedTold.{data-so}
use Rattle.laws_trace.proofs.OneLink.{HasNone, Goes, event-goes}
use Rattle.laws_trace.proofs.StandingOfLink.{IsStanding}
use Rattle.laws_trace.proofs.TimersAreTimely.{sound-now, config-now, front-at}
use Rattle.laws_trace.proofs.TimersOfEvent.{state-on, off-state}
use Rattle.laws_trace.proofs.TimersWatched.{Known}
use Rattle.laws_trace.proofs.UnitsAreFor.{is_unit_for, unit-is, units-are}
use Rattle.laws_trace.proofs.Facts.{number-up}

-- All but to whom unit data is told.
record Told (c : Config) (service : Service) (tei : ℕ) (o : Observed) (frame : Option Parts) (a : Answer) : Type 0 where
  data_is : list_any (is_data_of service tei) (notes_of a) ≡ taken_by c service tei o frame
  unit_is : list_any (is_unit_of service tei) (notes_of a) ≡ true → option_map_or (λ (f : Parts). is_ui f.control) frame false ≡ true
  contents_are : (list_any (is_data_of service tei) (notes_of a) || list_any (is_unit_of service tei) (notes_of a)) ≡ true
      → contents_in a ≡ option_map (λ (f : Parts). f.info) frame
  once : count_by tells_contents (notes_of a) ≡ length (option_to_list (contents_in a))
  small : list_any (is_unit_of service tei) (notes_of a) ≡ true → IsSmall c.n201 (contents_in a)

-- One event of a line.
module _ (service : Service) (tei : ℕ) (c : Config) (ranged : IsInRange c) (l : Line) (s : IsSound c l) (e : Event) (n : ℕ) (count : IsCount (link_of service tei l) n)
    (busy rejected : Bool) (stands : IsStanding (link_of service tei l) busy rejected) (o : Observed) (agree : is_up o.state ≡ true → Same o n busy rejected) where
  abbrev a : Answer
  a = lines.answer c e l

  brought-is : (e : Event) (f : Parts) → frame_by c e ≡ Some f → is_for service tei f.address ≡ true → brought c service tei e ≡ Some f
  brought-is e f is for = grind (arith, none-some)

  heard : IsHeard service tei (record { frame = frame_by c e; count = n }) (notes_of a) (contents_in a)
  heard = (event-told c ranged l s e service tei n count).0

  told-by : (d : Bool) → list_any (is_data_of service tei) (notes_of a) ≡ d → (u : Bool) → list_any (is_unit_of service tei) (notes_of a) ≡ u → (d || u) ≡ true
      → contents_in a ≡ option_map (λ (f : Parts). f.info) (brought c service tei e)
  told-by d is u unit some = grind (arith, heard, option_map, brought-is, true≢false)

  with-data : list_any (is_data_of service tei) (notes_of a) ≡ taken_by c service tei o (brought c service tei e) → Told c service tei o (brought c service tei e) a
  with-data is = record {
    data_is = is;
    unit_is = λ some. let x = heard.unit_is some in ap (λ f. option_map_or (λ (f : Parts). is_ui f.control) f false) (brought-is e x.frame x.heard x.whose) ∙ x.control;
    contents_are = told-by (list_any (is_data_of service tei) (notes_of a)) refl (list_any (is_unit_of service tei) (notes_of a)) refl;
    once = heard.once;
    small = event-small c ranged l s e service tei n count;
  }

  none-taken : (f : Option Parts) → taken_by c service tei (in_state 1) f ≡ false
  none-taken f = grind arith

  off-told : place_in l tei ≡ None → o ≡ in_state 1 → Told c service tei o (brought c service tei e) a
  off-told off is = with-data (go (event-goes c e l service tei s) ∙ sym (ap (λ o. taken_by c service tei o (brought c service tei e)) is ∙ none-taken (brought c service tei e)))
    where
      untold : HasNone c service tei e l (lines.after c e l) a → (b : Bool) → list_any (is_data_of service tei) (notes_of a) ≡ b → list_any (is_data_of service tei) (notes_of a) ≡ false
      untold x false none = none
      untold x true some = absurd (no-data c ranged l s e service tei n count x some)

      go : Goes c service tei e l (lines.after c e l) a → list_any (is_data_of service tei) (notes_of a) ≡ false
      go (inl x) = untold x (list_any (is_data_of service tei) (notes_of a)) refl
      go (inr (inl x)) = absurd (none-some x.place (sym off ∙ x.placed))
      go (inr (inr x)) = absurd (none-some x.place (sym off ∙ x.placed))

  on-told : (place : ℕ) → place_in l tei ≡ Some place → o.state ≡ state_number (link_of service tei l).state → Told c service tei o (brought c service tei e) a
  on-told place on is =
      let own = link_of service tei l in
      with-data (data-so c ranged l s e service tei place on o n count is
      (λ up. count up ∙ sym (agree (ap is_up is ∙ number-up own.state ∙ up)).count_is) (λ up. stands.busy_is up ∙ sym (agree (ap is_up is ∙ number-up own.state ∙ up)).busy_is))

  told-so : (k : Known) (asked : Wanted) (owed : Bool) (m : ℕ) → Facts (state_of service tei l) k asked owed m o → Told c service tei o (brought c service tei e) a
  told-so k asked owed m facts = go (place_in l tei) refl facts
    where
      go : (p : Option ℕ) → place_in l tei ≡ p → Facts (state_of service tei l) k asked owed m o → Told c service tei o (brought c service tei e) a
      go None off (inl y) = off-told off y.2
      go None off (inr y) = absurd (none-some (state_number y.0) (sym (off-state service tei l off) ∙ y.1))
      go (Some place) on (inl y) = let x = link_of service tei l in absurd (none-some (state_number x.state) (sym y.0 ∙ state-on service tei l place on))
      go (Some place) on (inr y) = grind (arith, state-on, on-told)

-- A request that finds the pool full tells nothing.
none-told : (c : Config) (service : Service) (tei : ℕ) (o : Observed) (e : Event) (l : Line) → lines.takes_slot c e l ≡ true → Told c service tei o (brought c service tei e) (refused PoolFull)
unfolding lines.takes_slot
none-told c service tei o e l takes = grind arith

-- A UI of which unit data is told, with its contents, is taken.
taken-so : (c : Config) (tei : ℕ) (w : Managed) (frame : Option Parts) (contents : Option (List ℕ)) → option_map_or (is_unit_for c tei w) frame false ≡ true
    → contents ≡ option_map (λ (f : Parts). f.info) frame → IsSmall c.n201 contents → option_map_or (is_unit_taken c tei w) frame false ≡ true
taken-so c tei w frame contents comes is small = grind (arith, nat_le, IsSmall)

-- Contents are noted by notes of data and of unit data.
same-note : (n : Note) → tells_contents n ≡ is_of_contents n
same-note n = grind arith

-- Two truths that follow from each other are equal.
same-truth : (a b : Bool) → (a ≡ true → b ≡ true) → (b ≡ true → a ≡ true) → a ≡ b
same-truth a b there back = grind arith

pub deliveries-so : Always WhatIsToldWasHeard
deliveries-so c events number ranged all within service tei before what behind is =
    let first = front-at (fresh c) before (at number what) behind (subst (AreAtLines (fresh c)) is all) in
    let card = after_all (fresh c) before in
    let kept = config-now c before number ranged first within service tei in
    let s = sound-now c before number ranged first within service tei in
    let here : number < card.config.lines = subst (λ (c : Config). number < c.lines) (sym kept) within in
    let o = (view_of c service tei number before).link in
    let x = run-stands c before number ranged first within service tei in
    let w = fold (stand c service tei) at_first (trace_of c before number) in
    let told = subst (λ (d : Config). Told d service tei o (brought d service tei what) (answer (at number what) card)) kept
    (by_room (λ ls a. Told card.config service tei o (brought card.config service tei what) a) (at number what) card
    (λ full. none-told card.config service tei o what (line_at number card) (and_parts (lines.takes_slot card.config what (line_at number card)) (is_full card) full).0)
    (λ room.
    told-so service tei card.config s.config (line_at number card) (line_sound card number (has_lines card s) here) what w.told.count x.1 w.busy w.rejected x.2 o
    (agrees-now c before number ranged first within service tei) _ _ _ _ (known-now c before number ranged first within service tei))) in
    record {
      data_told = told.data_is;
      unit_told = same-truth _ _
          (λ some.
          taken-so c tei (view_of c service tei number before).teis (brought c service tei what) _
          (unit-is c before number ranged first within service tei what (brought c service tei what) told.unit_is some)
          (told.contents_are (grind arith)) (told.small some))
          (units-are c events number ranged all within service tei before what behind is);
      contents = told.contents_are;
      once = sym (λ i. count_by (λ n. same-note n i) (notes_of (answer (at number what) card))) ∙ told.once;
    }
