-- Frames of a link, and their names.
use Rattle.laws_trace.proofs.Vocabulary.{arith, ◌≡◌, ℕ, ◌||◌, Bool, true, false, cond, List, [], ◌∷◌, ◌++◌, map, filter, list_any, refl, ap, ◌∙◌, eq-eqb, and_parts, map-append, filter-append, All, All-head, All-tail, Service, reading-again, sapi_of, Config, eqb-true, IsSpelled, is_frame_of, or-true, own_side}
use Rattle.laws_trace.proofs.LinkNames.{LinkName, named_in, is_of_a_link}
use Rattle.laws_trace.proofs.Turns.{name-is}
use Rattle.laws_trace.proofs.Vocabulary.{not, Parts, Result, Ok, ReadFault, reading, result_ok, its_frame, option_map_or, is_ui}

module _ (c : Config) where
  abbrev pub names : List (List ℕ) → List LinkName
  names fs = map (named_in c.sapi) (filter (is_of_a_link (own_side c)) fs)

  pub names-append : (front behind : List (List ℕ)) → names (front ++ behind) ≡ names front ++ names behind
  names-append front behind = grind (arith, named_in, filter-append, is_of_a_link, map-append)

  module _ (service : Service) (tei : ℕ) where
    abbrev pub name : LinkName
    name = record { sapi = sapi_of service; tei = tei }

    -- A frame of the link by its address and control field.
    abbrev is_its : Result Parts ReadFault → Bool
    is_its r = option_map_or (λ (f : Parts). not (is_ui f.control)) (its_frame service tei (result_ok r)) false

    record Own (p : Parts) : Type 0 where
      plain : not (is_ui p.control) ≡ true
      sapi : p.address.sapi ≡ sapi_of service
      by : p.address.tei ≡ tei

    parted : (p : Parts) → is_its (Ok p) ≡ true → Own p
    parted p is = grind (arith, and_parts, eqb-true)

    joined : (p : Parts) → Own p → is_its (Ok p) ≡ true
    joined p x = grind (arith, eq-eqb)

    -- A frame is read as what it spells.
    module _ (f : List ℕ) (h : IsSpelled c f) where
      read : reading (own_side c) f ≡ Ok h.0
      read = reading-again (own_side c) h.0 f h.1

      its : named_in c.sapi f ≡ record { sapi = h.0.address.sapi; tei = h.0.address.tei }
      its = ap (named_in c.sapi) h.1.octets_are ∙ name-is (own_side c) h.0.address h.0.control h.0.info

      pub own-name : is_frame_of c service tei f ≡ true → (is_of_a_link (own_side c) f ≡ true) × (named_in c.sapi f ≡ name)
      own-name is = grind (arith, parted, read, its)

      pub name-own : is_of_a_link (own_side c) f ≡ true → named_in c.sapi f ≡ name → is_frame_of c service tei f ≡ true
      name-own is named = grind (arith, its, read, joined)

    -- A frame of the link among others has its name among theirs, and so the other way round.
    pub its-name : (a : List ℕ) (behind : List (List ℕ)) → IsSpelled c a → is_frame_of c service tei a ≡ true → names (a ∷ behind) ≡ name ∷ names behind
    its-name a behind h is = grind (arith, own-name, named_in, is_of_a_link)

    none-there : (front back : List LinkName) → [] ≡ front ++ name ∷ back → ⊥
    none-there [] back e = cc e
    none-there (y ∷ front) back e = cc e

    pub among-frames : (fs : List (List ℕ)) → All (IsSpelled c) fs → (front back : List LinkName) → names fs ≡ front ++ name ∷ back → list_any (is_frame_of c service tei) fs ≡ true
    among-frames [] all front back e = absurd (none-there front back e)
    among-frames (f ∷ fs) all front back e =
        go (λ front e. ap (λ b. is_frame_of c service tei f || b) (among-frames fs (All-tail (IsSpelled c) f fs all) front back e) ∙ or-true (is_frame_of c service tei f))
        (is_of_a_link (own_side c) f) refl front e
      where
        go : ((front : List LinkName) → names fs ≡ front ++ name ∷ back → (is_frame_of c service tei f || list_any (is_frame_of c service tei) fs) ≡ true)
            → (b : Bool) → is_of_a_link (own_side c) f ≡ b → (front : List LinkName) → map (named_in c.sapi) (cond b (f ∷ filter (is_of_a_link (own_side c)) fs) (filter (is_of_a_link (own_side c)) fs)) ≡ front ++ name ∷ back
            → (is_frame_of c service tei f || list_any (is_frame_of c service tei) fs) ≡ true
        go more false is front e = more front e
        go more true is [] e = let its : named_in c.sapi f ≡ name = cc e in ap (λ b. b || list_any (is_frame_of c service tei) fs) (name-own f (All-head (IsSpelled c) f fs all) is its)
        go more true is (x ∷ front) e = let rest : names fs ≡ front ++ name ∷ back = cc e in more front rest
