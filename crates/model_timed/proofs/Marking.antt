-- What is noted of a link after any steps.
use Rattle.std.proofs.Common.{arith, ◌≡◌, ℕ, ◌==◌, Bool, true, false, cond, List, [], ◌∷◌, Option, Some, None, refl, sym, ap, ◌∙◌, subst}
use Rattle.std.specs.Prelude.{is_some}
use Rattle.std.specs.Option.{option_or, unwrap_or}
use Rattle.lapd_clock.proofs.Vocabulary.{nat_tests}
use Rattle.model_line.proofs.TimersFollow.{all-same}
use Rattle.model_line.specs.Line.{fresh_line, place_at, link_at}
use Rattle.model_link.specs.Link.{state_number}
use Rattle.model_line.specs.declared.config.Config.{Config}
use Rattle.model_card.specs.Card as cards
use Rattle.model_timed.specs.Timed.{Kind, Timed, Step, after, after_all}
use Rattle.model_timed.specs.Frames as frames
use Rattle.model_timed.specs.Octets as octets
use Rattle.model_timed.specs.Changes.{Mark, Marks, Seen, standing, standing_in, seen, marked, marks_after, changed_by, last_change, ChangesAreTold, itself, inside}

-- a link that is seen has the state noted then, and the moment of the change if there is one
same-number : (a b : ℕ) → (a == b) ≡ true → a ≡ b
same-number a b e = grind (arith, nat_tests)

pub seen-state : (now state : ℕ) (m : Mark) → (seen now state m).state ≡ state
seen-state now state m = go (m.state == state) refl
  where
    go : (b : Bool) → (m.state == state) ≡ b → (cond b m (record { state = state; moment = now })).state ≡ state
    go true e = same-number m.state state e
    go false e = refl

-- one that is in the state noted stays as it is
pub seen-same : (now state : ℕ) (m : Mark) → m.state ≡ state → seen now state m ≡ m
seen-same now state m e = ap (λ b. cond b m (record { state = state; moment = now })) (go state m.state e)
  where
    go : (a b : ℕ) → b ≡ a → (b == a) ≡ true
    go a b e = grind (arith, nat_tests)

module _ {Card Event : Type 0} (k : Kind Card Event) (of : Seen Card) (line number : ℕ) where
  abbrev in_ : Timed Card → ℕ
  in_ t = standing_in (of t.card) line number

  pub states-are : (steps : List (Step Event)) (t : Timed Card) (marks : Marks) → (marks line number).state ≡ in_ t → (marks_after k of steps t marks line number).state ≡ in_ (after_all k steps t)
  unfolding marks_after after_all
  states-are [] t marks is = is
  states-are (s ∷ steps) t marks is = states-are steps (after k s t) (marked of (after k s t) marks) (seen-state (after k s t).clock.now (in_ (after k s t)) (marks line number))

  one-more : (t u : Timed Card) (m : Mark) (last : Option ℕ) → m.state ≡ in_ t
      → unwrap_or last (seen u.clock.now (in_ u) m).moment ≡ unwrap_or (option_or last (changed_by of t u line number)) m.moment
  one-more t u m (Some moment) is = refl
  one-more t u m None is =
      subst (λ n. (seen u.clock.now (in_ u) m).moment ≡ unwrap_or (cond (n == in_ u) None (Some u.clock.now)) m.moment) is (go (m.state == in_ u))
    where
      go : (b : Bool) → (cond b m (record { state = in_ u; moment = u.clock.now })).moment ≡ unwrap_or (cond b None (Some u.clock.now)) m.moment
      go true = refl
      go false = refl

  pub moments-are : (steps : List (Step Event)) (t : Timed Card) (marks : Marks) → (marks line number).state ≡ in_ t
      → (marks_after k of steps t marks line number).moment ≡ unwrap_or (last_change k of steps t line number) (marks line number).moment
  unfolding marks_after last_change
  moments-are [] t marks is = refl
  moments-are (s ∷ steps) t marks is =
      moments-are steps (after k s t) (marked of (after k s t) marks) (seen-state (after k s t).clock.now (in_ (after k s t)) (marks line number))
      ∙ one-more t (after k s t) (marks line number) (last_change k of steps (after k s t) line number) is

-- no TEI is on a line as it begins
none-there : (c : Config) (number : ℕ) → standing number (fresh_line c) ≡ 0
none-there c number = ap (λ (o : Option ℕ). cond {A = ℕ} (is_some o) (state_number (link_at number (fresh_line c)).state) 0) (all-same None c.terminals (place_at number))

pub none-yet : (c : Config) (line number : ℕ) → 0 ≡ standing_in (cards.fresh c) line number
none-yet c line number = sym (ap (standing number) (all-same (fresh_line c) c.lines line) ∙ none-there c number)

pub changes_are_told : ChangesAreTold frames.frames itself frames.fresh
changes_are_told = record {
  fresh_is = λ c lengths line number. none-yet c line number;
  state = λ t marks steps are line number. states-are frames.frames itself line number steps t marks (are line number);
  moment = λ t marks steps line number are. moments-are frames.frames itself line number steps t marks (are line number);
  lengths = λ t marks lengths are. are;
}

pub octet_changes_are_told : ChangesAreTold octets.octets inside octets.fresh
octet_changes_are_told = record {
  fresh_is = λ c lengths line number. none-yet c line number;
  state = λ t marks steps are line number. states-are octets.octets inside line number steps t marks (are line number);
  moment = λ t marks steps line number are. moments-are octets.octets inside line number steps t marks (are line number);
  lengths = λ t marks lengths are. are;
}
