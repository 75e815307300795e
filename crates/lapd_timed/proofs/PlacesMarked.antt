-- Where the places of a line are taken as they were, the states of its links need not be noted anew.
use Rattle.std.proofs.Common.{arith, ◌≡◌, ℕ, ◌+◌, ◌*◌, ◌/◌, ◌<◌, ◌==◌, Bool, true, false, cond, not, get_or, refl, sym, ap, ◌∙◌}
use Rattle.std.specs.Prelude.{is_some}
use Rattle.lapd_frame.specs.declared.services.Service.TheVariants.{Call}
use Rattle.model_link.specs.Link.{state_number}
use Rattle.model_link.specs.declared.states.State.{State}
use Rattle.model_line.specs.Line.{tei_at, place_at, link_at}
use Rattle.model_line.proofs.Numbers.{place_at-number}
use Rattle.model_card.specs.Card.{Card, line_at}
use Rattle.model_timed.specs.Changes.{Marks, standing, noted}
use Rattle.lapd_timed.specs.Marked.{HeldMarks, slot_in, has_state, is_placed, AreMarks, IsSameBut, IsTouched}
use Rattle.lapd_timed.proofs.Marked.{nothing-noted}

-- a state that is noted is none but 0
shown : (b : Bool) (s : State) → not (cond {A = ℕ} b (state_number s) 0 == 0) ≡ b
shown b s = grind arith

module _ (lines terminals at : ℕ) (h : HeldMarks) (old : Card) (marks : Marks) (stood : AreMarks lines (2 * terminals) h old marks) (there : at < lines) where
  -- a TEI was at a place where a state was noted
  was-placed : (place : ℕ) → place < terminals → has_state h at (2 * place) ≡ is_some (tei_at place (line_at at old))
  was-placed place few =
      let less : 2 * place < 2 * terminals = omega (arith, few) in
      ap (λ n. not (n == 0)) (ap (λ k. k.state) (stood.held at (2 * place) there less) ∙ stood.up_to_date at (2 * place) there less)
      ∙ shown (is_placed (2 * place) (line_at at old)) (link_at (2 * place) (line_at at old)).state
      ∙ ap (λ p. is_some (tei_at p (line_at at old))) (place_at-number place Call)

  half : (number : ℕ) → number < 2 * terminals → number / 2 < terminals
  half number less = omega (arith, less)

  pub places-kept : (new : Card) → ((place : ℕ) → place < terminals → is_some (tei_at place (line_at at new)) ≡ has_state h at (2 * place)) → (number : ℕ) → number < 2 * terminals
      → is_placed number (line_at at old) ≡ is_placed number (line_at at new)
  places-kept new as_noted number less = sym (as_noted (place_at number) (half number less) ∙ was-placed (place_at number) (half number less))

pub places-same : (lines terminals at tei now : ℕ) (h : HeldMarks) (old new : Card) (marks : Marks) → tei ≡ 127
    → ((place : ℕ) → place < terminals → is_some (tei_at place (line_at at new)) ≡ has_state h at (2 * place)) → IsSameBut lines (2 * terminals) at (IsTouched at tei old new) old new
    → AreMarks lines (2 * terminals) h old marks → at < lines → AreMarks lines (2 * terminals) h new (noted now new marks)
places-same lines terminals at tei now h old new marks group as_noted but stood there =
    nothing-noted lines (2 * terminals) now h old new marks but.config
    (λ other more line_there less. but.others other more line_there less (λ same touched. touched.1 group (places-kept lines terminals at h old marks stood there new as_noted more less))) stood
