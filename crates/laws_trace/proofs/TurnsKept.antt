-- A TEI that is on a line before an event and behind it keeps its place.
use Rattle.laws_trace.proofs.Vocabulary.{Bool, refl, ◌==◌}
use Rattle.laws_trace.proofs.Vocabulary.{false}
use Rattle.model_line.specs.Heard.{aim_of_heard}
use Rattle.model_line.specs.Expiry.{aim_of_expiry}
use Rattle.model_line.specs.Requested.{aim_of_request}
use Rattle.model_line.specs.Machine.{unless_refused}
use Rattle.model_line.specs.Refusal.{refusal}
use Rattle.laws_line.proofs.Changes.{Turn, turned, turned-there}
use Rattle.model_teis.specs.network.Machine.{Management}
use Rattle.model_line.specs.Effect.{at_terminal}
use Rattle.model_line.specs.Event.{LineTold}
use Rattle.model_line.specs.Line.{Own}
use Rattle.laws_trace.proofs.Vocabulary.{◌≡◌, ℕ, true, get_or, Option, Some, None, sym, ap, ◌∙◌, subst, arith, eq-eqb, true≢false, none-some, get_or-set_same, get_or-set_other, Places, is_on, Change, Left, Config, IsInRange, ranges_of, Aim, at_management, at_no_link, of_aim, of_change, IsProper, heard_proper, expiry_proper, request_proper, next, Line, fresh_line, next-moves}
use Rattle.laws_trace.proofs.Vocabulary.{Card, line_at, by_room, has_lines, eqb-true, IsSound, CardEvent as Event, after, IsAtLine, line_sound, by-down, Moves, line_after}
use Rattle.model_line.specs.Event as line_event
use Rattle.model_card.specs.Sound as card_sound
use Rattle.laws_trace.proofs.ManagingTables.{clear-same}
use Rattle.laws_trace.proofs.Runs.{apart}

module _ (c : Config) (ranged : IsInRange c) (l : Line) (s : IsSound c l) (p tei : ℕ) (at : get_or l.management.places p None ≡ Some tei) where
  abbrev pub Keeps : Line → Type 0
  Keeps m = is_on tei m.management.places ≡ true → get_or m.management.places p None ≡ Some tei

  by-change : (o : Option Change) (new : Places) → Moves l.management.places o new → is_on tei new ≡ true → get_or new p None ≡ Some tei
  by-change (Some (Left by place)) new gone on = grind (arith, left, get_or-set_other)
    where
      left : get_or l.management.places place None ≡ Some tei → ⊥
      left there =
          true≢false (sym on ∙ ap (is_on tei) gone.is_free
          ∙ clear-same tei l.management.places place gone.within (λ j also. s.management.table.once j place tei also there))
  by-change o new same on = grind (arith, none-some, get_or-set_other)

  each-step : (o : Option Change) (t : LineTold) (m : Management) (own : Own) → Turn l o t m → Keeps (of_change c o t (record l { management = m; own = own })).line
  each-step o t m own turn on = grind (arith, by-change, turn.moves)

  by-aim : (aim : Aim) → IsProper c l aim → Keeps (of_aim c aim l).line
  by-aim (at_management me) fits on = turned c l s (λ f. Keeps f.line) each-step me fits on
  by-aim (at_terminal te) proper on = turned-there c l s (λ f. Keeps f.line) each-step te proper on
  by-aim at_no_link proper on = by-down c l s (λ y. Keeps y.line) (λ on. at) on
  by-aim other proper on = at

  pub keeps : (e : line_event.Event) → Keeps (line_after c e l)
  unfolding line_after
  keeps next = λ on. subst (λ ps. get_or ps p None ≡ Some tei) (sym (next-moves c 0 l s (omega (arith, (ranges_of c ranged).terminals.least))).places) at
  keeps (line_event.hears what) = by-aim (aim_of_heard c l what) (heard_proper c l what)
  keeps (line_event.expiry timer) = by-aim (aim_of_expiry timer l) (expiry_proper c l timer)
  keeps (line_event.request r) = by-aim (unless_refused (refusal c false r l) (aim_of_request r l)) (request_proper c l r)

-- So it does on a card.
abbrev Stays : ℕ → ℕ → Line → Type 0
Stays p tei m = is_on tei m.management.places ≡ true → get_or m.management.places p None ≡ Some tei

pub keeps-there : (card : Card) (e : Event) (number p tei : ℕ) → card_sound.IsSound card → IsAtLine card e → get_or (line_at number card).management.places p None ≡ Some tei
    → Stays p tei (line_at number (after e card))
keeps-there card e number p tei s here at = go (e.line == number) refl
  where
    own : get_or (line_at e.line card).management.places p None ≡ Some tei → Stays p tei (line_at e.line (after e card))
    own at =
        let c = card.config in
        let l = line_at e.line card in
        by_room (λ ls a. Stays p tei (get_or ls e.line (fresh_line c))) e card (λ full on. at)
        (λ room. subst (Stays p tei) (sym (get_or-set_same card.lines e.line (line_after c e.what l) (fresh_line c) (omega (arith, s.count, here)))) (keeps c s.config l (line_sound card e.line (has_lines card s) here) p tei at e.what))

    go : (b : Bool) → (e.line == number) ≡ b → Stays p tei (line_at number (after e card))
    go true is =
        subst (λ n. Stays p tei (line_at n (after e card))) (eqb-true e.line number is)
        (own (subst (λ n. get_or (line_at n card).management.places p None ≡ Some tei) (sym (eqb-true e.line number is)) at))
    go false other = subst (Stays p tei) (sym (apart card e number (λ same. true≢false (sym (eq-eqb e.line number (sym same)) ∙ other)))) (λ on. at)
