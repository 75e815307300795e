-- What the states of the links of a line are, by the TEIs on it.
use Rattle.std.proofs.Common.{arith, ◌≡◌, ◌≢◌, ℕ, ◌+◌, ◌*◌, ◌/◌, ◌<◌, ◌≤◌, inl, inr, true, cond, nat_lt, length, Option, Some, None, option_map, sym, ap, ◌∙◌, subst}
use Rattle.std.proofs.lemmas.Bool.{cases_eq}
use Rattle.std.proofs.lemmas.Option.{same_Some}
use Rattle.std.specs.Option.{unwrap_or}
use Rattle.std.specs.Prelude.{is_some}
use Rattle.lapd_frame.specs.declared.services.Service.{Service}
use Rattle.lapd_frame.specs.declared.services.Service.TheVariants.{Call, Packet}
use Rattle.model_teis.proofs.Tables.{place_of-is}
use Rattle.model_link.specs.Link.{state_number}
use Rattle.model_line.specs.Line.{Line, place_in, place_at, tei_at, link_at, link_number, state_of}
use Rattle.model_line.specs.Sound as line
use Rattle.model_line.proofs.Numbers.{place_at-number}
use Rattle.model_line.proofs.Places.{at-no-place, has-place}
use Rattle.model_card.specs.Card.{Card, line_at, state}
use Rattle.model_card.specs.Reached.{IsReached}
use Rattle.model_card.proofs.Reaching.{reached-sound}
use Rattle.model_card.proofs.Steps.{has_lines, line_sound}
use Rattle.model_timed.specs.Changes.{Marks, standing, seen, noted}
use Rattle.lapd_timed.specs.Marked.{HeldMarks, slot_in, marked_at, mark_in, AreMarks, IsSameBut, IsOfTei}
use Rattle.lapd_timed.proofs.Marked.{IsNoted, all-noted, links-stay, states-stay, moments-stay, noted-here, noted-there, nothing-noted}

-- a number below another, as a test
below-true : (a b : ℕ) → a < b → nat_lt a b ≡ true
below-true a b less = grind arith

is-there : (o : Option ℕ) (tei n : ℕ) → o ≡ Some tei → cond {A = ℕ} (is_some o) n 0 ≡ n
is-there o tei n is = ap (λ (p : Option ℕ). cond {A = ℕ} (is_some p) n 0) is

pub half-even : (n place : ℕ) → n / 2 ≡ place → (n ≢ 2 * place) → (n ≢ 2 * place + 1) → ⊥
half-even n place is even odd = elim (cases_eq n (2 * place)) [
  | inl same ↦ even same
  | inr other ↦ odd (omega (arith, is, other))
]

module _ (m : Card) (reached : IsReached m) (at : ℕ) (there : at < m.config.lines) where
  abbrev l : Line
  l = line_at at m

  sound : line.IsSound m.config l
  sound = line_sound m at (has_lines m (reached-sound m reached)) there

  -- the state of a link of a TEI on the line
  pub state-is : (service : Service) (tei place : ℕ) → place_in l tei ≡ Some place → unwrap_or (state at service tei m) 0 ≡ standing (link_number place service) l
  state-is service tei place is =
      ap (λ b. unwrap_or (cond b (state_of service tei l) None) 0) (below-true at m.config.lines there)
      ∙ ap (λ o. unwrap_or (option_map (λ p. state_number (link_at (link_number p service) l).state) o) 0) is
      ∙ sym (is-there (tei_at (place_at (link_number place service)) l) tei (state_number (link_at (link_number place service) l).state)
      (ap (λ p. tei_at p l) (place_at-number place service) ∙ (place_of-is l.management.places tei place is).1))

  pub call-is : (tei place : ℕ) → place_in l tei ≡ Some place → unwrap_or (state at Call tei m) 0 ≡ standing (2 * place) l
  call-is tei place is = state-is Call tei place is

  pub packet-is : (tei place : ℕ) → place_in l tei ≡ Some place → unwrap_or (state at Packet tei m) 0 ≡ standing (2 * place + 1) l
  packet-is tei place is = state-is Packet tei place is

  -- the links of a TEI
  pub its-place : (tei place number : ℕ) → place_in l tei ≡ Some place → IsOfTei at tei m number → number / 2 ≡ place
  its-place tei place number is of = same_Some (number / 2) place (sym (has-place l.management.places tei (number / 2) sound.management.table of) ∙ is)

  pub of-none : (tei number : ℕ) → place_in l tei ≡ None → IsOfTei at tei m number → ⊥
  of-none tei number is of = at-no-place l.management.places tei is (number / 2) of

  pub tei-most : (tei number : ℕ) → IsOfTei at tei m number → tei ≤ 126
  tei-most tei number of = sound.management.table.range (number / 2) tei of

-- The two links of a TEI are noted.
module _ (lines links at tei now : ℕ) (h : HeldMarks) (old new : Card) (marks : Marks) (reached : IsReached new) (but : IsSameBut lines links at (IsOfTei at tei new) old new) (stood : AreMarks lines links h old marks)
    (there : at < lines) where
  lines-are : new.config.lines ≡ lines
  lines-are = ap (λ c. c.lines) but.config ∙ stood.lines_are

  pub within : at < new.config.lines
  within = subst (λ n. at < n) (sym lines-are) there

  module _ (place call packet : ℕ) (few : 2 * place + 1 < links) (is : place_in (line_at at new) tei ≡ Some place) (call_is : call ≡ standing (2 * place) (line_at at new)) (packet_is : packet ≡ standing (2 * place + 1) (line_at at new)) where
    abbrev one : HeldMarks
    one = marked_at (slot_in h at (2 * place)) call now h

    abbrev two : HeldMarks
    two = marked_at (slot_in one at (2 * place + 1)) packet now one

    one-links : one.links ≡ links
    one-links = links-stay (slot_in h at (2 * place)) call now h ∙ stood.links_are

    one-count : length one.states ≡ lines * links
    one-count = states-stay (slot_in h at (2 * place)) call now h ∙ stood.count

    one-as-many : length one.moments ≡ length one.states
    one-as-many = moments-stay (slot_in h at (2 * place)) call now h ∙ stood.as_many ∙ sym (states-stay (slot_in h at (2 * place)) call now h)

    first-few : 2 * place < links
    first-few = omega (arith, few)

    first-here : mark_in one at (2 * place) ≡ seen now call (mark_in h at (2 * place))
    first-here = noted-here lines links at (2 * place) call now h stood.links_are stood.count stood.as_many there first-few

    first-there : (other more : ℕ) → more < links → ((other ≡ at) → (more ≡ 2 * place) → ⊥) → mark_in one other more ≡ mark_in h other more
    first-there other more less apart = noted-there lines links at (2 * place) call now h stood.links_are stood.count stood.as_many there first-few other more less apart

    then-here : mark_in two at (2 * place + 1) ≡ seen now packet (mark_in one at (2 * place + 1))
    then-here = noted-here lines links at (2 * place + 1) packet now one one-links one-count one-as-many there few

    then-there : (other more : ℕ) → more < links → ((other ≡ at) → (more ≡ 2 * place + 1) → ⊥) → mark_in two other more ≡ mark_in one other more
    then-there other more less apart = noted-there lines links at (2 * place + 1) packet now one one-links one-count one-as-many there few other more less apart

    stays : (other more : ℕ) → other < lines → more < links → ((other ≡ at) → (more ≡ 2 * place) → ⊥) → ((other ≡ at) → (more ≡ 2 * place + 1) → ⊥) → (other ≡ at → IsOfTei at tei new more → ⊥) → IsNoted now h two old new other more
    stays other more line_there less even odd not = record { is = inr (then-there other more less odd ∙ first-there other more less even, but.others other more line_there less not) }

    at-line : (more : ℕ) → more < links → IsNoted now h two old new at more
    at-line more less = elim (cases_eq more (2 * place)) [
      | inl even ↦ subst (λ n. IsNoted now h two old new at n) (sym even)
          (record { is = inl (then-there at (2 * place) first-few (λ _ e. omega (arith, e)) ∙ first-here ∙ ap (λ s. seen now s (mark_in h at (2 * place))) call_is) })
      | inr uneven ↦ elim (cases_eq more (2 * place + 1)) [
        | inl odd ↦ subst (λ n. IsNoted now h two old new at n) (sym odd)
            (record { is = inl (then-here ∙ ap (seen now packet) (first-there at (2 * place + 1) few (λ _ e. omega (arith, e))) ∙ ap (λ s. seen now s (mark_in h at (2 * place + 1))) packet_is) })
        | inr neither ↦ stays at more there less (λ _ e. uneven e) (λ _ e. neither e) (λ _ of. half-even more place (its-place new reached at within tei place more is of) uneven neither)
      ]
    ]

    pub both-noted : AreMarks lines links two new (noted now new marks)
    both-noted = all-noted lines links now h two old new marks but.config
        (links-stay (slot_in one at (2 * place + 1)) packet now one ∙ links-stay (slot_in h at (2 * place)) call now h)
        (states-stay (slot_in one at (2 * place + 1)) packet now one ∙ states-stay (slot_in h at (2 * place)) call now h)
        (moments-stay (slot_in one at (2 * place + 1)) packet now one ∙ moments-stay (slot_in h at (2 * place)) call now h) stood
        (λ other more line_there less. elim (cases_eq other at) [
          | inl same ↦ subst (λ n. IsNoted now h two old new n more) (sym same) (at-line more less)
          | inr apart ↦ stays other more line_there less (λ e _. apart e) (λ e _. apart e) (λ e _. apart e)
        ])

  -- where the TEI is not on the line, nothing is
  pub none-noted : place_in (line_at at new) tei ≡ None → AreMarks lines links h new (noted now new marks)
  none-noted is = nothing-noted lines links now h old new marks but.config
      (λ other more line_there less. but.others other more line_there less (λ _ of. of-none new reached at within tei more is of)) stood
