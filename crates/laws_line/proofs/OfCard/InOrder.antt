-- The control frames that wait on a link of a card are taken in order, each by a call of its own, whatever else happens meanwhile.
use Rattle.laws_line.proofs.Vocabulary.{◌≡◌, ℕ, ◌+◌, ◌<◌, ◌≤◌, List, [], ◌∷◌, ◌++◌, length, Some, refl, sym, ap, subst, ◌∙◌, ◌⊎◌, inl, inr, ControlFrame, Config, next, Line, link_count, place_at, tei_at, link_at, Taken, taken, frames_before, control_text, IsInRange, IsSound, Given, GoesWhole, AreAmong, append_assoc, map, Link, link_after, link_given, link_offer, terms_at}
use Rattle.std.proofs.lemmas.List.{append_cancel_right, map-append}
unfoldable use Rattle.model_line.specs.Machine.{after}
use Rattle.model_line.specs.Taken as taking
use Rattle.laws_line.proofs.Leaving.{first-goes, next-moves, others-wait, text-is}
use Rattle.laws_line.proofs.Ordered.{next-goes}

-- ---- a call

module _ (c : Config) (ranged : IsInRange c) (number tei : ℕ) (few : number < link_count c) (l : Line) (s : IsSound c l) (at : tei_at (place_at number) l ≡ Some tei)
    (f : ControlFrame) (behind : List ControlFrame) where
  abbrev Gives : ControlFrame → Type 0
  Gives b = (t : Taken) × (taken c l ≡ Some t) × (t.frame ≡ control_text c number tei b)

  abbrev Waits : List ControlFrame → Line → Type 0
  Waits before l = (link_at number l).waiting ≡ before ++ f ∷ behind

  abbrev IsNearer : List ControlFrame → List ControlFrame → Line → Type 0
  IsNearer before before' l' = Waits before' l' × (frames_before c l' number (length before') + 1 ≤ frames_before c l number (length before))

  -- it takes the frame; or the first of those before it; or of another link, and the frame comes nearer, too
  abbrev pub InOrder : List ControlFrame → Line → Type 0
  InOrder before l' =
      ((before ≡ []) × Gives f)
      ⊎ ((b : ControlFrame) × (before' : List ControlFrame) × (before ≡ b ∷ before') × Gives b × IsNearer before before' l')
      ⊎ IsNearer before before l'

  same-before : (before before' : List ControlFrame) (l' : Line) → Waits before l' → Waits before' l' → before' ≡ before
  same-before before before' l' e e' = append_cancel_right before' before (f ∷ behind) (sym e' ∙ e)

  by-own : (before : List ControlFrame) → Waits before l → (t : Taken) → taken c l ≡ Some t → (g : Given) → link_given (terms_at c number l) (link_at number l) ≡ Some g
      → t.frame ≡ taking.frame_of c (terms_at c number l) g → link_at number (after c next l) ≡ link_after (terms_at c number l) link_offer (link_at number l)
      → (before' : List ControlFrame) → IsNearer before before' (after c next l) → InOrder before (after c next l)
  by-own [] e t some g given frame is before' nearer =
      inl (refl, (t, some, frame ∙ text-is c ranged number tei few l f g at (subst (GoesWhole f) given (first-goes (terms_at c number l) (link_at number l) f behind e))))
  by-own (b ∷ bs) e t some g given frame is before' (e', nearer) =
      let same = same-before bs before' (after c next l) (ap (λ x. x.waiting) is ∙ others-wait (terms_at c number l) (link_at number l) b (bs ++ f ∷ behind) e) e' in
      inr (inl (
        b,
        before',
        ap (λ fs. b ∷ fs) (sym same),
        (t, some, frame ∙ text-is c ranged number tei few l b g at (subst (GoesWhole b) given (first-goes (terms_at c number l) (link_at number l) b (bs ++ f ∷ behind) e))),
        (e', nearer),
      ))

  pub in-order : (before : List ControlFrame) → Waits before l → InOrder before (after c next l)
  in-order before e = go (next-goes c ranged number tei few l s at f behind before e) (next-moves c number l s few).fate
    where
      go : ((t : Taken) × (taken c l ≡ Some t) × (t.frame ≡ control_text c number tei f) × (before ≡ []))
          ⊎ ((before' : List ControlFrame) × Waits before' (after c next l) × (frames_before c (after c next l) number (length before') + 1 ≤ frames_before c l number (length before)))
          → (link_at number (after c next l) ≡ link_at number l)
          ⊎ ((t : Taken) × (g : Given) × (taken c l ≡ Some t) × (link_given (terms_at c number l) (link_at number l) ≡ Some g)
          × (t.frame ≡ taking.frame_of c (terms_at c number l) g) × (link_at number (after c next l) ≡ link_after (terms_at c number l) link_offer (link_at number l)))
          → InOrder before (after c next l)
      go (inl (t, some, is, none)) fate = inl (none, (t, some, is))
      go (inr (before', e', nearer)) (inl same) =
          let stays = same-before before before' (after c next l) (ap (λ (x : Link). x.waiting) same ∙ e) e' in
          inr (inr (ap (λ (x : Link). x.waiting) same ∙ e, subst (λ fs. frames_before c (after c next l) number (length fs) + 1 ≤ frames_before c l number (length before)) stays nearer))
      go (inr (before', e', nearer)) (inr (t, g, some, given, frame, is)) = by-own before e t some g given frame is before' (e', nearer)

-- ---- what is given

pub among-behind : {X : Type 0} (xs front ys : List X) → AreAmong xs ys → AreAmong xs (front ++ ys)
among-behind [] front ys h = tt
among-behind (x ∷ xs) front ys (before, back, split, rest) = (front ++ before, back, ap (λ l. front ++ l) split ∙ sym (append_assoc front before (x ∷ back)), rest)

pub among-before : {X : Type 0} (xs ys back : List X) → AreAmong xs ys → AreAmong xs (ys ++ back)
among-before [] ys back h = tt
among-before (x ∷ xs) ys back (before, rest, split, h) = (before, rest ++ back, ap (λ l. l ++ back) split ∙ append_assoc before (x ∷ rest) back, among-before xs rest back h)

pub among-mapped : {X Y : Type 0} (f : X → Y) (xs ys : List X) → AreAmong xs ys → AreAmong (map f xs) (map f ys)
among-mapped f [] ys h = tt
among-mapped f (x ∷ xs) ys (before, rest, split, h) = (map f before, map f rest, ap (map f) split ∙ map-append f before (x ∷ rest), among-mapped f xs rest h)

-- A list that has a thing has a last one.
pub record HasEnd {X : Type 0} (xs : List X) : Type 0 where
  pub front : List X
  pub last : X
  pub are : xs ≡ front ++ last ∷ []

pub has-end : {X : Type 0} (xs : List X) (x : X) (ys : List X) → HasEnd (xs ++ x ∷ ys)
has-end [] x [] = record { front = []; last = x; are = refl }
has-end [] x (y ∷ ys) = let e = has-end [] y ys in record { front = x ∷ e.front; last = e.last; are = ap (λ l. x ∷ l) e.are }
has-end (z ∷ xs) x ys = let e = has-end xs x ys in record { front = z ∷ e.front; last = e.last; are = ap (λ l. z ∷ l) e.are }
