-- What waits on a link stays in its order, until it is taken.
use Rattle.laws_line.proofs.Vocabulary.{◌≡◌, ℕ, ◌<◌, List, [], ◌∷◌, ◌++◌, slice_get, Option, Some, refl, ap, ◌∙◌, ◌⊎◌, inl, inr, ⊎_elim, arith, IfSome, option_or, unwrap_or, cases_eq, get_or-set_same, get_or-set_other, spelling, ControlFrame, Terms, Link, Given, Goes, GoesWhole, after_offers, in-turn, Config, next, Line, UnitData, link_count, service_at, place_at, tei_at, terms, terms_at, link_at}
use Rattle.laws_line.proofs.Vocabulary.{Taken, with_unit, with_given_frame, link_taken, first_taken, taken, IsInRange, next_walk, option_map, link_frame_of as frame_of, begun as course_begun, after, IsSound, control_text, link_offer, link_given, link_after, own_side}
use Rattle.model_link.specs.Offers
use Rattle.model_line.specs.Taken as taking

-- the first that waits is what an offer gives, and the others stay
pub first-goes : (t : Terms) (l : Link) (f : ControlFrame) (fs : List ControlFrame) → l.waiting ≡ f ∷ fs → GoesWhole f (link_given t l)
unfolding after_offers
first-goes t l f fs e = in-turn t [] f fs l e

pub others-wait : (t : Terms) (l : Link) (f : ControlFrame) (fs : List ControlFrame) → l.waiting ≡ f ∷ fs → (link_after t link_offer l).waiting ≡ fs
others-wait t l f fs e = ap (λ ws. (Offers.offer_among t ws (course_begun l)).link.waiting) e

-- What becomes of a link where something is taken: it stays, or it gave what is taken.
pub record Gave (c : Config) (number : ℕ) (l : Line) (t : Taken) : Type 0 where
  pub given : Given
  pub is : link_given (terms_at c number l) (link_at number l) ≡ Some given
  pub frame : t.frame ≡ taking.frame_of c (terms_at c number l) given
  pub link : link_at number t.line ≡ link_after (terms_at c number l) link_offer (link_at number l)

pub record Moved (c : Config) (number : ℕ) (l : Line) (t : Taken) : Type 0 where
  pub places : t.line.management.places ≡ l.management.places
  pub fate : (link_at number t.line ≡ link_at number l) ⊎ Gave c number l t

module _ (c : Config) (number : ℕ) (l : Line) (s : IsSound c l) (few : number < link_count c) where
  by-unit : (o : Option UnitData) → IfSome (option_map (with_unit c l) o) (Moved c number l)
  by-unit o = grind arith

  gave : (n : ℕ) (g : Given) → link_given (terms_at c n l) (link_at n l) ≡ Some g → Moved c number l (with_given_frame c l n (terms_at c n l) g)
  gave n g e = grind (arith, get_or-set_same, get_or-set_other, cases_eq)

  by-link : (n : ℕ) (o : Option Given) → link_given (terms_at c n l) (link_at n l) ≡ o → IfSome (option_map (with_given_frame c l n (terms_at c n l)) o) (Moved c number l)
  by-link n o e = grind (arith, gave)

  either : (o o' : Option Taken) → IfSome o (Moved c number l) → IfSome o' (Moved c number l) → IfSome (option_or o o') (Moved c number l)
  either o o' x y = grind arith

  by-round : (ns : List ℕ) → IfSome (first_taken c l ns) (Moved c number l)
  by-round [] = tt
  by-round (n ∷ ns) = either (link_taken c l n) (first_taken c l ns) (by-link n (link_given (terms_at c n l) (link_at n l)) refl) (by-round ns)

-- A call for the next frame leaves a link as it is, or takes what it gave.
pub record Moves (c : Config) (number : ℕ) (l : Line) (o : Option Taken) (l' : Line) : Type 0 where
  pub places : l'.management.places ≡ l.management.places
  pub fate : (link_at number l' ≡ link_at number l)
      ⊎ ((t : Taken) × (g : Given) × (o ≡ Some t) × (link_given (terms_at c number l) (link_at number l) ≡ Some g)
      × (t.frame ≡ taking.frame_of c (terms_at c number l) g) × (link_at number l' ≡ link_after (terms_at c number l) link_offer (link_at number l)))

pub next-moves : (c : Config) (number : ℕ) (l : Line) → IsSound c l → number < link_count c → Moves c number l (taken c l) (after c next l)
unfolding after
next-moves c number l s few =
    next_walk c l (Moved c number l) (Moves c number l) (grind (arith, either, option_map, slice_get, by-unit, by-round)) (record { places = refl; fate = inl refl })
    (λ t x. record { places = x.places; fate = ⊎_elim (λ same. inl same) (λ (y : Gave c number l t). inr (t, y.given, refl, y.is, y.frame, y.link)) x.fate })

pub not-empty : (before : List ControlFrame) (f : ControlFrame) (behind : List ControlFrame) → before ++ f ∷ behind ≡ [] → ⊥
not-empty [] f behind e = cc
not-empty (b ∷ bs) f behind e = cc

module _ (c : Config) (ranged : IsInRange c) (number tei : ℕ) (few : number < link_count c) where
  pub text-is : (l : Line) (f : ControlFrame) (g : Given) → tei_at (place_at number) l ≡ Some tei → Goes f g → taking.frame_of c (terms_at c number l) g ≡ control_text c number tei f
  text-is l f g at h = (grind arith) ∙ ap (λ t. spelling (own_side c) (frame_of t f)) (ap (λ o. terms c (service_at number) (unwrap_or o 0)) at)
