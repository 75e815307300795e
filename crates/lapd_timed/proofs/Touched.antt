-- What an event of a card leaves of the states of its links.
use Rattle.std.proofs.Common.{arith, ◌≡◌, ◌≢◌, ℕ, ◌<◌, inl, inr, cond, List, length, get_or, set, Option, Some, None, refl, sym, ap, ◌∙◌, subst}
use Rattle.std.specs.Prelude.{is_some}
use Rattle.std.proofs.lemmas.Bool.{cases_eq}
use Rattle.std.proofs.lemmas.List.{get_or-set_other, get_or-set_same}
use Rattle.model_teis.specs.Table.{Places}
use Rattle.model_link.specs.declared.frames.ControlFrame.{ControlFrame}
use Rattle.model_link.specs.declared.terms.Terms.{Terms}
use Rattle.model_link.specs.Events as link
use Rattle.model_link.specs.Link.{Link, state_number, fresh}
use Rattle.model_link.specs.Machine as links
use Rattle.model_link.specs.Offers.{offer_among}
use Rattle.model_link.specs.Steps.{begun}
use Rattle.model_line.specs.Event.{next}
use Rattle.model_line.specs.Line.{Line, tei_at, place_at, service_at, link_at, terms}
use Rattle.model_line.specs.Machine as lines
use Rattle.model_line.specs.Sound as line
use Rattle.model_line.specs.Taken.{Taken}
use Rattle.model_line.specs.declared.config.Config.{Config}
use Rattle.model_line.proofs.LinkMoves.{IsOne, taken-one}
use Rattle.model_line.proofs.TakenWalk.{next_walk}
use Rattle.model_card.specs.Card.{Card, line_at}
use Rattle.model_card.specs.Event.{Event}
use Rattle.model_card.specs.Machine.{after}
use Rattle.model_card.specs.Sound.{IsSound}
use Rattle.model_card.specs.Reached.{IsReached}
use Rattle.model_card.proofs.Reaching.{reached-sound}
use Rattle.model_card.proofs.Steps.{has_lines, by_line, line_sound}
use Rattle.model_timed.specs.Changes.{standing}
use Rattle.lapd_timed.specs.Marked.{IsSameBut, IsTouched}
use Rattle.lapd_timed.proofs.Touching.{KeepsOthers, Touches}

-- A call for the next frame changes the state of no link.
offered : (t : Terms) (x : Link) (fs : List ControlFrame) → (offer_among t fs (begun x)).link.state ≡ x.state
offered t x fs = grind arith

offer-keeps : (t : Terms) (x : Link) → (links.after t link.offer x).state ≡ x.state
offer-keeps t x = offered t x x.waiting

abbrev stands_as : Option ℕ → Link → ℕ
stands_as o x = cond {A = ℕ} (is_some o) (state_number x.state) 0

one-set : (xs : List Link) (n number : ℕ) (y : Link) (o : Option ℕ) → n < length xs → y.state ≡ (get_or xs n fresh).state → stands_as o (get_or (set xs n y) number fresh) ≡ stands_as o (get_or xs number fresh)
one-set xs n number y o within same =
    elim (cases_eq number n) [
      | inl is ↦ ap (λ k. stands_as o (get_or (set xs n y) k fresh)) is ∙ ap (stands_as o) (get_or-set_same xs n y fresh within)
          ∙ ap (λ s. cond {A = ℕ} (is_some o) (state_number s) 0) same ∙ ap (λ k. stands_as o (get_or xs k fresh)) (sym is)
      | inr apart ↦ ap (stands_as o) (get_or-set_other xs n number y fresh apart)
    ]

module _ (c : Config) (l : Line) (s : line.IsSound c l) (number : ℕ) where
  took : (t : Taken) → IsOne c l t → standing number t.line ≡ standing number l
  took t (inl x) =
      subst (λ (u : Taken). standing number u.line ≡ standing number l) (sym x.is)
      (ap (λ (ps : Places). stands_as (get_or ps (place_at number) None) (link_at number l)) x.out.places)
  took t (inr (inl x)) = subst (λ (u : Taken). standing number u.line ≡ standing number l) (sym x.1) refl
  took t (inr (inr x)) =
      subst (λ (u : Taken). standing number u.line ≡ standing number l) (sym x.is)
      (one-set l.links x.number number _ (tei_at (place_at number) l) (subst (λ n. x.number < n) (sym s.count) x.few) (offer-keeps (terms c (service_at x.number) x.tei) (link_at x.number l)))

  pub next-keeps : standing number (lines.after c next l) ≡ standing number l
  unfolding lines.after
  next-keeps = next_walk c l (IsOne c l) (λ o m. standing number m ≡ standing number l) (taken-one c l s) refl took

pub next-stays : (m : Card) (reached : IsReached m) (at : ℕ) → at < m.config.lines → (number : ℕ) → standing number (lines.after m.config next (line_at at m)) ≡ standing number (line_at at m)
next-stays m reached at here number = next-keeps m.config (line_at at m) (line_sound m at (has_lines m (reached-sound m reached)) here) number

-- Of a card: the links of the TEI at that line may have changed, and no others.
module _ (m : Card) (sound : IsSound m) (e : Event) (here : e.line < m.config.lines) (lines_are links : ℕ) where
  module _ (tei : ℕ) (keeps : KeepsOthers tei m.config (line_at e.line m) (lines.after m.config e.what (line_at e.line m))) where
    module _ (other number : ℕ) where
      abbrev Left : Line → Type 0
      Left l = (other ≡ e.line → Touches tei (line_at other m) l number → ⊥) → standing number l ≡ standing number (line_at other m)

      served : e.line ≡ other → Left (lines.after m.config e.what (line_at other m))
      served same not =
          subst (λ n. KeepsOthers tei m.config (line_at n m) (lines.after m.config e.what (line_at n m))) same keeps
          (subst (λ n. line.IsSound m.config (line_at n m)) same (line_sound m e.line (has_lines m sound) here)) number (λ touches. not (sym same) touches)

      left : Left (line_at other (after e m))
      left = by_line m e other (has_lines m sound) here (λ b l a. Left l) (λ a _. refl) (λ full _. refl) (λ same room. served same)

    pub touched : IsSameBut lines_are links e.line (IsTouched e.line tei m (after e m)) m (after e m)
    touched = record {
      config = refl;
      others = λ other number there less not. left other number (λ same of. not same (subst (λ n. Touches tei (line_at n m) (line_at n (after e m)) number) same of));
    }

  -- and where none of the line has, none has
  pub untouched : ((number : ℕ) → standing number (lines.after m.config e.what (line_at e.line m)) ≡ standing number (line_at e.line m))
      → (other number : ℕ) → standing number (line_at other (after e m)) ≡ standing number (line_at other m)
  untouched same other number =
      by_line m e other (has_lines m sound) here (λ b l a. standing number l ≡ standing number (line_at other m)) (λ a. refl) (λ full. refl)
      (λ is room. subst (λ n. standing number (lines.after m.config e.what (line_at n m)) ≡ standing number (line_at n m)) is (same number))
