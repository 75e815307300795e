-- TEI management changes the state of a link only where a TEI comes to its place, or leaves it.
use Rattle.std.proofs.Common.{arith, ◌≡◌, ◌≢◌, ℕ, ◌<◌, inl, inr, Bool, true, false, cond, List, get_or, set, length, Option, Some, None, refl, sym, ap, ◌∙◌, subst}
use Rattle.std.specs.Prelude.{is_some}
use Rattle.std.proofs.lemmas.Bool.{cases_eq}
use Rattle.std.proofs.lemmas.List.{get_or-set_other, get_or-set_same}
use Rattle.lapd_frame.specs.declared.services.Service.TheVariants.{Call, Packet}
use Rattle.model_link.specs.Link.{Link, state_number, fresh}
use Rattle.model_teis.specs.Table.{Places}
use Rattle.model_teis.specs.network.Events as teis
use Rattle.model_teis.specs.network.Laws as tei_laws
use Rattle.model_teis.specs.network.Machine.{Management}
use Rattle.model_teis.specs.terminal.Events as terminals
use Rattle.model_teis.specs.declared.changes.Change.{Change}
use Rattle.model_teis.specs.declared.changes.Change.TheVariants.{Gained, Left}
use Rattle.model_line.specs.Effect.{at_management, at_terminal, at_no_link, of_aim, of_change}
use Rattle.model_line.specs.Event.{LineTold}
use Rattle.model_line.specs.Line.{Line, Own, place_at, tei_at, link_at, link_number}
use Rattle.model_line.specs.Effect.{without_units}
use Rattle.model_line.specs.Sound as line
use Rattle.model_line.specs.declared.config.Config.{Config}
use Rattle.model_line.proofs.Downs.{down-sound}
use Rattle.model_line.proofs.Managed.{IsOwnEvent, Step, by-managed, by-own-event}
use Rattle.model_line.proofs.Numbers.{place_at-number}
use Rattle.model_timed.specs.Changes.{standing}
use Rattle.lapd_timed.specs.Marked.{is_placed}

abbrev pub KeepsPlaces : Line → Line → Type 0
KeepsPlaces l now = (number : ℕ) → is_placed number l ≡ is_placed number now → standing number now ≡ standing number l

abbrev stands_as : Bool → Link → ℕ
stands_as b x = cond {A = ℕ} b (state_number x.state) 0

-- a place is that of its links
away : (place number : ℕ) → (place_at number ≢ place) → (number ≢ link_number place Call) × (number ≢ link_number place Packet)
away place number apart = (
  (λ e. apart (ap place_at e ∙ place_at-number place Call)),
  (λ e. apart (ap place_at e ∙ place_at-number place Packet)),
)

-- the links of one place become others, and a TEI comes there or leaves
module _ (l : Line) (places : Places) (place : ℕ) (o : Option ℕ) (call packet : Link) where
  abbrev both : List Link
  both = set (set l.links (link_number place Call) call) (link_number place Packet) packet

  elsewhere : (number : ℕ) → (place_at number ≢ place) → places ≡ set l.management.places place o
      → stands_as (is_some (get_or places (place_at number) None)) (get_or both number fresh) ≡ standing number l
  elsewhere number apart is =
      ap (λ (ps : Places). stands_as (is_some (get_or ps (place_at number) None)) (get_or both number fresh)) is
      ∙ ap (λ (p : Option ℕ). stands_as (is_some p) (get_or both number fresh)) (get_or-set_other l.management.places place (place_at number) o None apart)
      ∙ ap (stands_as (is_placed number l)) (get_or-set_other (set l.links (link_number place Call) call) (link_number place Packet) number packet fresh (away place number apart).1
      ∙ get_or-set_other l.links (link_number place Call) number call fresh (away place number apart).0)

  there : place < length l.management.places → places ≡ set l.management.places place o → (number : ℕ) → place_at number ≡ place → is_some (get_or places (place_at number) None) ≡ is_some o
  there within is number same =
      ap (λ (ps : Places). is_some (get_or ps (place_at number) None)) is ∙ ap (λ p. is_some (get_or (set l.management.places place o) p None)) same
      ∙ ap (λ (p : Option ℕ). is_some p) (get_or-set_same l.management.places place o None within)

module _ (c : Config) (l : Line) (t201 t202 : Bool) (more : ℕ) where
  pub by-step : (o : Option Change) (told : LineTold) (m : Management) (own : Own) → Step c l t201 t202 more o told m own → KeepsPlaces l (of_change c o told (record l { management = m; own = own })).line
  by-step None told m own step number same = ap (λ (ps : Places). stands_as (is_some (get_or ps (place_at number) None)) (link_at number l)) step.moves
  by-step (Some (Gained tei place)) told m own step number same = elim (cases_eq (place_at number) place) [
    | inl here ↦
        let was : is_placed number l ≡ false = ap (λ p. is_some (tei_at p l)) here ∙ ap (λ (p : Option ℕ). is_some p) step.moves.was_free in
        let is : is_some (get_or m.places (place_at number) None) ≡ true = there l m.places place (Some tei) fresh fresh step.moves.within step.moves.is_there number here in
        absurd (apart-bools (sym was ∙ same ∙ is))
    | inr apart ↦ elsewhere l m.places place (Some tei) fresh fresh number apart step.moves.is_there
  ]
    where
      apart-bools : false ≡ true → ⊥
      apart-bools e = absurd (cc)
  by-step (Some (Left tei place)) told m own step number same = elim (cases_eq (place_at number) place) [
    | inl here ↦
        let was : is_placed number l ≡ true = ap (λ p. is_some (tei_at p l)) here ∙ ap (λ (p : Option ℕ). is_some p) step.moves.was_there in
        let is : is_some (get_or m.places (place_at number) None) ≡ false = there l m.places place None fresh fresh step.moves.within step.moves.is_free number here in
        absurd (apart-bools (sym was ∙ same ∙ is))
    | inr apart ↦ elsewhere l m.places place None _ _ number apart step.moves.is_free
  ]
    where
      apart-bools : true ≡ false → ⊥
      apart-bools e = absurd (cc)

pub managed-keeps : (c : Config) (l : Line) → line.IsSound c l → (e : teis.Event) → tei_laws.IsInRange e → KeepsPlaces l (of_aim c (at_management e) l).line
managed-keeps c l s e range = by-managed c l s (λ o f. KeepsPlaces l f.line) e range (by-step c l _ _ _)

pub owned-keeps : (c : Config) (l : Line) → line.IsSound c l → (e : terminals.Event) → IsOwnEvent c e → KeepsPlaces l (of_aim c (at_terminal e) l).line
owned-keeps c l s e proper = by-own-event c l s (λ o f. KeepsPlaces l f.line) e proper (by-step c l _ _ _)

pub down-keeps : (c : Config) (l : Line) → line.IsSound c l → KeepsPlaces l (of_aim c at_no_link l).line
down-keeps c l s = by-managed c (without_units l) (down-sound c l s) (λ o f. KeepsPlaces (without_units l) f.line) teis.down tt (by-step c (without_units l) _ _ _)
