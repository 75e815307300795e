-- What layer 3 was told is a beginning of what it is to be told in the end.
use Rattle.laws_wire.proofs.Vocabulary.{◌≡◌, ℕ, List, [], ◌∷◌, ◌++◌, map, take, drop, sym, ap, ◌∙◌, map-append, take-append-drop, Service, LineTold, data_told, IsBeginningOf}

module _ (service : Service) (tei : ℕ) (first : LineTold) where
  -- nothing yet
  pub at-first : (granted : List (List ℕ)) (told : List LineTold) → told ≡ [] → IsBeginningOf (first ∷ map (data_told service tei) granted) told
  at-first granted told none = (first ∷ map (data_told service tei) granted, ap (λ ts. ts ++ first ∷ map (data_told service tei) granted) none)

  -- an establishment, and so many contents
  pub then-data : (r : ℕ) (granted : List (List ℕ)) (told : List LineTold) → told ≡ first ∷ map (data_told service tei) (take r granted)
      → IsBeginningOf (first ∷ map (data_told service tei) granted) told
  then-data r granted told is = (
    map (data_told service tei) (drop r granted),
    ap (λ ts. ts ++ map (data_told service tei) (drop r granted)) is
        ∙ ap (λ ts. first ∷ ts) (sym (map-append (data_told service tei) (take r granted) (drop r granted)) ∙ ap (map (data_told service tei)) (take-append-drop r granted)),
  )
