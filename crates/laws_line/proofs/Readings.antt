-- What is read of the links of a line, by service and TEI, and else where the TEI is not on it: through an event of one
-- link, and where a TEI comes or leaves.
use Rattle.laws_line.proofs.Vocabulary.{◌≡◌, ◌≢◌, ℕ, ◌+◌, ◌*◌, ◌<◌, ◌==◌, ◌&&◌, false, List, length, get_or, set, Option, Some, None, refl, ap, ◌∙◌, subst, arith, length-set, eq-eqb, true≢false, option_map_or, cases_eq, get_or-set_same, get_or-set_other, none-some, Service, Call, Packet, same_service, Link, Management, IsAt, IsSoundTable, place_of, at-within, place_of-is, Config, Line}
use Rattle.laws_line.proofs.Vocabulary.{link_number, link_in, place_in, with_link, number_within, fresh, IsSound}
use Rattle.model_line.proofs.Following.{same-number, some-same}
use Rattle.model_line.proofs.Obeyed.{service-same}
use Rattle.model_line.proofs.Places.{has-no-place, has-place, stays-placed}

module _ {X : Type 0} (off : X) (R : Link → X) where
  abbrev pub in_line : Service → Line → ℕ → X
  in_line service l place = R (link_in l service place)

  abbrev pub read_at : Service → Option ℕ → Line → X
  read_at service o l = option_map_or (in_line service l) o off

  abbrev pub read_of : Service → ℕ → Line → X
  read_of service tei l = read_at service (place_in l tei) l

  -- the same table, and the same links
  alike : (service : Service) (before after : Line) → after.links ≡ before.links → (o : Option ℕ) → read_at service o after ≡ read_at service o before
  alike service before after same o = grind arith

  pub same-read : (service : Service) (tei : ℕ) (before after : Line) → after.management.places ≡ before.management.places → after.links ≡ before.links
      → read_of service tei after ≡ read_of service tei before
  same-read service tei before after places links = ap (λ ps. read_at service (place_of tei ps) after) places ∙ alike service before after links (place_of tei before.management.places)

  -- an event of one link
  module _ (c : Config) (l : Line) (s : IsSound c l) (service : Service) (tei place : ℕ) (at : IsAt l.management.places place tei) (y : Link) where
    here : place_in l tei ≡ Some place
    here = has-place l.management.places tei place s.management.table at

    there : get_or (set l.links (link_number place service) y) (link_number place service) fresh ≡ y
    there = grind (arith, get_or-set_same, number_within, at-within)

    pub own-before : read_of service tei l ≡ R (link_in l service place)
    own-before = ap (λ o. read_at service o l) here

    pub own-after : read_of service tei (with_link (link_number place service) y l) ≡ R y
    own-after = ap (λ o. read_at service o (with_link (link_number place service) y l)) here ∙ ap R there

    apart : (s' : Service) (n' : ℕ) → (same_service service s' && (tei == n')) ≡ false → (p' : ℕ) → place_of n' l.management.places ≡ Some p'
        → link_number p' s' ≢ link_number place service
    apart s' n' other p' e same =
        let is = same-number s' service p' place same in
        let holds : IsAt l.management.places place n' = subst (λ p. IsAt l.management.places p n') is.1 (place_of-is l.management.places n' p' e).1 in
        grind (arith, some-same, true≢false, service-same, eq-eqb)

    pub other-read : (s' : Service) (n' : ℕ) → (same_service service s' && (tei == n')) ≡ false
        → read_of s' n' (with_link (link_number place service) y l) ≡ read_of s' n' l
    other-read s' n' other = grind (arith, get_or-set_other, apart)

  -- both links of a place begin anew
  module _ (begins : R fresh ≡ off) (c : Config) (l : Line) (s : IsSound c l) (m : Management) (sound : IsSoundTable m.places)
      (place : ℕ) (o : Option ℕ) (is : m.places ≡ set l.management.places place o) (within : place < length l.management.places) where
    abbrev pub both : List Link
    both = set (set l.links (link_number place Call) fresh) (link_number place Packet) fresh

    abbrev pub anew : Line
    anew = record l { management = m; links = both }

    away : (p : ℕ) (s' : Service) → p ≢ place → get_or both (link_number p s') fresh ≡ get_or l.links (link_number p s') fresh
    away p s' other = grind (arith, get_or-set_other, same-number)

    pub elsewhere : (s' : Service) (n' : ℕ) → (o ≡ Some n' → ⊥) → (IsAt l.management.places place n' → ⊥) → read_of s' n' anew ≡ read_of s' n' l
    elsewhere s' n' comes was =
        ap (λ p. read_at s' p anew) (stays-placed l.management.places m.places place o sound is within n' comes was) ∙ go (place_of n' l.management.places) refl
      where
        go : (p : Option ℕ) → place_of n' l.management.places ≡ p → read_at s' p anew ≡ read_at s' p l
        go None e = refl
        go (Some p) e = ap R (away p s' (λ same. was (subst (λ i. IsAt l.management.places i n') same (place_of-is l.management.places n' p e).1)))

    long : 2 * place + 1 < length l.links
    long = omega (arith, within, s.count, s.places)

    new : (s' : Service) → get_or both (link_number place s') fresh ≡ fresh
    new s' = grind (arith, get_or-set_other, get_or-set_same, long, length-set)

    -- what comes there begins
    pub filled-read : (s' : Service) (n' : ℕ) → o ≡ Some n' → read_of s' n' anew ≡ off
    filled-read s' n' e =
        ap (λ p. read_at s' p anew) (has-place m.places n' place sound (ap (λ ps. get_or ps place None) is ∙ get_or-set_same l.management.places place o None within ∙ e))
        ∙ ap R (new s') ∙ begins

    -- and what was there is no more
    pub emptied : (n' : ℕ) → o ≡ None → IsAt l.management.places place n' → (i : ℕ) → IsAt m.places i n' → ⊥
    emptied n' none was i at = grind (arith, cases_eq, none-some, get_or-set_same, apart, get_or-set_other)

    pub emptied-read : (s' : Service) (n' : ℕ) → o ≡ None → IsAt l.management.places place n' → read_of s' n' anew ≡ off
    emptied-read s' n' none was = ap (λ p. read_at s' p anew) (has-no-place m.places n' (emptied n' none was))

    pub off-read : (s' : Service) (n' : ℕ) → ((i : ℕ) → IsAt l.management.places i n' → ⊥) → read_of s' n' l ≡ off
    off-read s' n' off = ap (λ p. read_at s' p l) (has-no-place l.management.places n' off)
