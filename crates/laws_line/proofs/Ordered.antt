-- A control frame that waits is taken in its turn: after the messages, the unit data, and at most one frame of each other
-- link for each of its own that goes before it.
use Rattle.laws_line.proofs.Vocabulary.{◌≡◌, ◌≢◌, ℕ, ◌+◌, ◌<◌, ◌≤◌, List, [], ◌∷◌, ◌++◌, length, drop, slice_get, Option, Some, None, refl, sym, ap, subst, ◌∙◌, ◌⊎◌, inl, inr, ⊎_elim, arith, option_map_or, option_or, cases_eq, get_or-set_same, get_or-set_other, ControlFrame, Given, GoesWhole, Config, next, Line, UnitData, link_count, place_at, tei_at, terms_at, link_at, Taken, with_unit}
use Rattle.laws_line.proofs.Vocabulary.{with_given_frame, link_taken, first_taken, round, taken, line_of, IsInRange, option_map, after, IsSound, IsInTurn, way_round, frames_before, control_text, link_given, nat_le, leb-true}
use Rattle.std.proofs.lemmas.Option.{same_Some}
use Rattle.laws_line.proofs.Vocabulary.{IfSome, Management, Own, GoesOut, HasNothing, message_taken, message_walk, without_message}
use Rattle.laws_line.proofs.InTurn.{links_take_turns}
use Rattle.laws_line.proofs.Serving.{none-waits}
use Rattle.laws_line.proofs.InRounds.{comes-first}
use Rattle.laws_line.proofs.Leaving.{first-goes, others-wait, not-empty, text-is}

-- What is taken is the frame, or it comes nearer.
abbrev pub Nearer : Config → ℕ → Line → List ControlFrame → ControlFrame → List ControlFrame → ℕ → Line → Type 0
Nearer c number l before f behind others l' =
    (before' : List ControlFrame) × ((link_at number l').waiting ≡ before' ++ f ∷ behind) × (frames_before c l' number (length before') + 1 ≤ others)

module _ (c : Config) (ranged : IsInRange c) (number tei : ℕ) (few : number < link_count c) (l : Line) (s : IsSound c l) (at : tei_at (place_at number) l ≡ Some tei)
    (f : ControlFrame) (behind : List ControlFrame) where
  abbrev Step : List ControlFrame → Taken → Type 0
  Step before t = ((t.frame ≡ control_text c number tei f) × (before ≡ [])) ⊎ Nearer c number l before f behind (frames_before c l number (length before)) t.line

  one-less : {X : Type 0} (xs ys : List X) (x : X) → xs ≡ x ∷ ys → length (drop 1 xs) + 1 ≡ length xs
  one-less xs ys x e = ap (λ zs. length (drop 1 zs) + 1) e ∙ (let n : length ys + 1 ≡ length (x ∷ ys) = omega arith in n) ∙ sym (ap length e)

  by-unit : (before : List ControlFrame) → (link_at number l).waiting ≡ before ++ f ∷ behind → (u : UnitData) (us : List UnitData) → l.units ≡ u ∷ us → Step before (with_unit c l u)
  by-unit before e u us e' = let n = one-less l.units us u e' in inr (before, e, omega (arith, n))

  -- its own link gives
  own-gives : (before : List ControlFrame) → (link_at number l).waiting ≡ before ++ f ∷ behind → (g : Given) → link_given (terms_at c number l) (link_at number l) ≡ Some g
      → Step before (with_given_frame c l number (terms_at c number l) g)
  own-gives [] e g given = inl (text-is c ranged number tei few l f g at (subst (GoesWhole f) given (first-goes (terms_at c number l) (link_at number l) f behind e)), refl)
  own-gives (b ∷ bs) e g given = grind (arith, get_or-set_same, nat_le, leb-true, others-wait)

  gives-some : (before : List ControlFrame) → (link_at number l).waiting ≡ before ++ f ∷ behind → link_given (terms_at c number l) (link_at number l) ≡ None → ⊥
  gives-some [] e none = subst (GoesWhole f) none (first-goes (terms_at c number l) (link_at number l) f behind e)
  gives-some (b ∷ bs) e none = subst (GoesWhole b) none (first-goes (terms_at c number l) (link_at number l) b (bs ++ f ∷ behind) e)

  none-taken : (o : Option Given) → option_map (with_given_frame c l number (terms_at c number l)) o ≡ None → o ≡ None
  none-taken o e = grind arith

  by-given : (before : List ControlFrame) → (link_at number l).waiting ≡ before ++ f ∷ behind → (other : ℕ) (t : Taken)
      → (other ≡ number) ⊎ ((number ≢ other) × (way_round (link_count c) (other + 1) number + 1 ≤ way_round (link_count c) l.turn number))
      → (o : Option Given) → link_given (terms_at c other l) (link_at other l) ≡ o → option_map (with_given_frame c l other (terms_at c other l)) o ≡ Some t → Step before t
  by-given before e other t which None given is = absurd (cc)
  by-given before e other t (inl same) (Some g) given is =
      let made : with_given_frame c l other (terms_at c other l) g ≡ t = cc in
      subst (Step before) (ap (λ n. with_given_frame c l n (terms_at c n l) g) (sym same) ∙ made)
      (own-gives before e g (subst (λ n. link_given (terms_at c n l) (link_at n l) ≡ Some g) same given))
  by-given before e other t (inr x) (Some g) given is = grind (arith, get_or-set_other)

  by-turn : (before : List ControlFrame) → (link_at number l).waiting ≡ before ++ f ∷ behind → (t : Taken) (other : ℕ) → IsInTurn c l other t → Step before t
  by-turn before e t other x =
      by-given before e other t
      (⊎_elim (λ same. inl (sym same))
      (λ apart. ⊎_elim (λ same. inl same) (λ nearer. inr (apart, nearer))
      (comes-first (link_count c) l.turn s.turn (λ n. link_taken c l n ≡ None) number other x.before x.behind few x.place x.passed
      (λ none. gives-some before e (none-taken (link_given (terms_at c number l) (link_at number l)) none))))
      (cases_eq number other))
      (link_given (terms_at c other l) (link_at other l)) refl x.given

  by-all : (before : List ControlFrame) → (link_at number l).waiting ≡ before ++ f ∷ behind → (t : Taken) → taken c l ≡ Some t
      → (m : Option Taken) → message_taken c l ≡ m → IfSome m (Step before) → (us : List UnitData) → l.units ≡ us
      → option_or m (option_or (option_map (with_unit c l) (slice_get us 0)) (first_taken c l (round c l))) ≡ Some t
      → Step before t
  by-all before e t some (Some u) em own us eu is = subst (Step before) (same_Some u t is) own
  by-all before e t some None em own [] eu is =
      let turn =
      links_take_turns c l t em (ap (λ us. option_map (with_unit c l) (slice_get us 0)) eu) some in
      by-turn before e t turn.0 turn.1
  by-all before e t some None em own (u ∷ us) eu is = subst (Step before) (same_Some (with_unit c l u) t is) (by-unit before e u us eu)

  by-message : (before : List ControlFrame) → (link_at number l).waiting ≡ before ++ f ∷ behind → (octets : List ℕ) (m : Management) (own : Own) → GoesOut c l octets m own → Step before (without_message l octets m own)
  by-message before e octets m own out = inr (before, e, omega (arith, out.fewer))

  -- so a call takes it, or it comes nearer
  abbrev Goes : List ControlFrame → Line → Type 0
  Goes before l' =
      ((t : Taken) × (taken c l ≡ Some t) × (t.frame ≡ control_text c number tei f) × (before ≡ [])) ⊎ Nearer c number l before f behind (frames_before c l number (length before)) l'

  by-taken : (before : List ControlFrame) → (link_at number l).waiting ≡ before ++ f ∷ behind → (o : Option Taken) → taken c l ≡ o → Goes before (option_map_or line_of o l)
  by-taken before e None some = absurd (not-empty before f behind (sym e ∙ no-frames (none-waits c l s some)))
    where
      no-frames : HasNothing c l → (link_at number l).waiting ≡ []
      no-frames nothing = (nothing.links number few tei at).waiting
  by-taken before e (Some t) some = ⊎_elim (λ x. inl (t, some, x.0, x.1)) (λ x. inr x)
      (by-all before e t some (message_taken c l) refl (message_walk c l s (Step before) (by-message before e)) l.units refl some)

  pub next-goes : (before : List ControlFrame) → (link_at number l).waiting ≡ before ++ f ∷ behind → Goes before (after c next l)
  unfolding after
  next-goes before e = by-taken before e (taken c l) refl
