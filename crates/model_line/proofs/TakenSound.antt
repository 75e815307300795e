-- What is taken leaves a line sound, and is a frame of at most the longest length.
pub use Rattle.model_line.proofs.TakenWalk.{round_below}
use Rattle.model_line.proofs.Vocabulary.{◌≡◌, ℕ, ◌+◌, ◌≤◌, ◌<◌, List, ◌∷◌, length, set, drop, Some, IfSome, sym, ◌∙◌, subst, arith, length-set, length-drop, All-drop, Given, sound-after, Management, None, get_or, ap, IsAt, Config, Line, Own, UnitData, link_count, service_at, place_at, tei_at, terms, link_at, Taken, with_unit, with_given_frame, link_taken, taken, IsInRange}
use Rattle.model_line.proofs.Vocabulary.{IsSoundAt, IsSound, IsUnitData, offer, given, link_after}
use Rattle.model_link.specs.Sound as link_sounds
use Rattle.model_line.specs.Taken as taking
use Rattle.model_line.proofs.LinksSound.{with_one}
use Rattle.model_line.proofs.Offered.{given_short}
use Rattle.model_line.proofs.Outgoing.{GoesOut, without_message}
use Rattle.model_line.proofs.TakenWalk.{link_walk, taken_walk}
use Rattle.model_line.proofs.Ranges.{ranges_of, terms_in_range}
use Rattle.model_line.proofs.SoundParts.{with_links, with_units}

-- A frame that is taken, and the line without it.
pub record TakesSoundly (c : Config) (l : Line) (t : Taken) : Type 0 where
  pub line : IsSound c t.line
  pub size : length t.frame ≤ c.n201 + 4

module _ (c : Config) (ranged : IsInRange c) (l : Line) (s : IsSound c l) where
  message_sound : (octets : List ℕ) (m : Management) (own : Own) → GoesOut c l octets m own → TakesSoundly c l (without_message l octets m own)
  message_sound octets m own out =
      record {
        line =
            with_links c l s m own l.links l.turn out.sound out.reading out.owned (ap length out.places ∙ s.places) s.count s.turn
            (λ n few. subst (λ places. IsSoundAt c n (link_at n l) (get_or places (place_at n) None)) (sym out.places) (s.links n few));
        size = omega (arith, out.size, (ranges_of c ranged).n201.least);
      }

  unit_sound : (u : UnitData) (us : List UnitData) → l.units ≡ u ∷ us → TakesSoundly c l (with_unit c l u)
  unit_sound u us e = grind (arith, with_units c l s (drop 1 l.units) (All-drop (IsUnitData c) 1 l.units s.units) (omega (arith, length-drop 1 l.units, s.few_units)))

  given_sound : (n tei : ℕ) → n < link_count c → IsAt l.management.places (place_at n) tei → link_sounds.IsSound (terms c (service_at n) tei) (link_at n l)
      → (g : Given) → given (terms c (service_at n) tei) (link_at n l) ≡ Some g → TakesSoundly c l (with_given_frame c l n (terms c (service_at n) tei) g)
  given_sound n tei few at sound g e =
      let t = terms c (service_at n) tei in
      let x = link_after t offer (link_at n l) in
      let range = terms_in_range c ranged (service_at n) tei (s.management.table.range (place_at n) tei at) in
      let here : IsSoundAt c n x (tei_at (place_at n) l) = subst (IsSoundAt c n x) (sym at) (sound-after t range offer (link_at n l) sound) in
      let short : length (taking.frame_of c t g) ≤ t.n201 + 4 = subst (λ o. IfSome o (λ g. length (taking.frame_of c t g) ≤ t.n201 + 4)) e (given_short c t (link_at n l) sound) in
      record {
        line =
            with_links c l s l.management l.own (set l.links n x) (n + 1) s.management s.reading s.own s.places (length-set l.links n x ∙ s.count) (omega (arith, few))
            (with_one c ranged l.links l.management.places n x (omega (arith, s.count, few)) here s.links);
        size = omega (arith, short);
      }

pub link_sound : (c : Config) → IsInRange c → (l : Line) → IsSound c l → (n : ℕ) → n < link_count c → IfSome (link_taken c l n) (TakesSoundly c l)
link_sound c ranged l s n few =
    link_walk c l s (TakesSoundly c l) (message_sound c ranged l s) (unit_sound c ranged l s) (given_sound c ranged l s) n few

pub taken_sound : (c : Config) → IsInRange c → (l : Line) → IsSound c l → IfSome (taken c l) (TakesSoundly c l)
taken_sound c ranged l s =
    taken_walk c l s (TakesSoundly c l) (message_sound c ranged l s) (unit_sound c ranged l s) (given_sound c ranged l s)
