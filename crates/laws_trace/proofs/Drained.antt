-- Where a line is only called for its next frame, as often as the configuration says, nothing that may go is left; and runs behind runs.
use Rattle.laws_trace.proofs.Vocabulary.{◌≡◌, ℕ, ◌<◌, ◌≤◌, List, ◌++◌, sym, subst, arith, All, Config, frames_to_go, most_frames, HasNothing, to-go-few, Card, line_at, fresh_is_sound, AreTakesAt, takes_at, line-sound, card-drains, all-left, all-right, config-stays, fresh, CardEvent as Event, after_all, IsAtLine, AreAtLines, CardIsSound as IsSound, always_sound, IsInRange}
pub use Rattle.model_card.proofs.OfPorts.Steps.{moments-append as moments-both}
pub use Rattle.model_card.proofs.Runs.{after_all-append as after-both}

module _ (c : Config) (events : List Event) (number : ℕ) (ranged : IsInRange c) (all : AreAtLines (fresh c) events) (within : number < c.lines)
    (before calls : List Event) (split : events ≡ before ++ calls) (only : AreTakesAt number calls) (enough : most_frames c ≤ takes_at number calls) where
  abbrev card : Card
  card = after_all (fresh c) before

  these : AreAtLines (fresh c) (before ++ calls)
  these = subst (AreAtLines (fresh c)) split all

  pub kept : card.config ≡ c
  kept = config-stays (fresh c) before

  pub sound : IsSound card
  sound = always_sound (fresh c) before (fresh_is_sound c ranged) (all-left (IsAtLine (fresh c)) before calls these)

  pub few : number < card.config.lines
  few = subst (λ (c : Config). number < c.lines) (sym kept) within

  pub later : AreAtLines card calls
  later = subst (λ (c : Config). All (λ (e : Event). e.line < c.lines) calls) (sym kept) (all-right (IsAtLine (fresh c)) before calls these)

  pub short : frames_to_go card.config (line_at number card) ≤ takes_at number calls
  short = grind (arith, to-go-few, line-sound, sound, few, kept)

  -- nothing that may go is left
  pub drained : HasNothing c (line_at number (after_all (fresh c) events))
  drained = grind (arith, after-both, card-drains, sound, few, later, short, kept)
