-- A frame that is taken is no longer among those that may be sent.
use Rattle.model_line.proofs.Vocabulary.{◌≡◌, ℕ, ◌+◌, ◌*◌, ◌≤◌, ◌<◌, List, ◌∷◌, Option, Some, is_some, arith, Link, Given, Terms, event-rises, offer-falls, Management, IsAt, Config, one, may_send, Line, Own, UnitData, link_count, service_at, place_at, terms, link_at, Taken, with_unit, with_given_frame, taken, next_of, option_map, after, answer, FallsByNext, IsInRange, IsSound}
use Rattle.model_line.proofs.Vocabulary.{offer, given, link_after, rises_sent}
use Rattle.model_link.specs.Sound as link_sounds
use Rattle.model_line.proofs.AimsRise.{may_send_of}
use Rattle.model_line.proofs.Outgoing.{GoesOut, without_message}
use Rattle.model_line.proofs.TakenWalk.{taken_walk, next_walk}
use Rattle.model_line.proofs.Ranges.{terms_in_range}
use Rattle.model_line.proofs.Sums.{one_changed}

-- One frame fewer may be sent, or two: a link's frame makes an acknowledgement that it owes needless.
abbrev pub TakesOne : Config → Line → Taken → Type 0
TakesOne c l t = (1 + may_send c t.line ≤ may_send c l) × (may_send c l ≤ may_send c t.line + 2)

-- what a link gives is sent
gives : (t : Terms) (l : Link) (g : Given) → given t l ≡ Some g → rises_sent t offer l ≡ 1
gives t l g e = grind (arith, is_some)

module _ (c : Config) (ranged : IsInRange c) (l : Line) (s : IsSound c l) where
  message_falls : (octets : List ℕ) (m : Management) (own : Own) → GoesOut c l octets m own → TakesOne c l (without_message l octets m own)
  message_falls octets m own out = (omega (arith, out.fewer, out.due), omega (arith, out.fewer, out.due))

  unit_falls : (u : UnitData) (us : List UnitData) → l.units ≡ u ∷ us → TakesOne c l (with_unit c l u)
  unit_falls u us e = grind arith

  given_falls : (n tei : ℕ) → n < link_count c → IsAt l.management.places (place_at n) tei → link_sounds.IsSound (terms c (service_at n) tei) (link_at n l)
      → (g : Given) → given (terms c (service_at n) tei) (link_at n l) ≡ Some g → TakesOne c l (with_given_frame c l n (terms c (service_at n) tei) g)
  given_falls n tei few at sound g e =
      let t = terms c (service_at n) tei in
      let range = terms_in_range c ranged (service_at n) tei (s.management.table.range (place_at n) tei at) in
      let least = offer-falls t range (link_at n l) sound in
      let sums = one_changed c (may_send_of c) l.links n (link_after t offer (link_at n l)) s.count few in
      let sent = gives t (link_at n l) g e in
      (omega (arith, (event-rises t range (link_at n l) sound offer), sums, sent), omega (arith, least, sums, sent))

-- and so it is with a call that gives a frame; any other leaves what may be sent
abbrev Falls : Config → Line → Option Taken → Line → Type 0
Falls c l o m = (one (is_some o) + may_send c m ≤ may_send c l) × (may_send c l ≤ may_send c m + 2 * one (is_some o))

given_same : (o : Option Taken) → one (is_some (option_map next_of o)) ≡ one (is_some o)
given_same o = grind arith

pub next_falls : (c : Config) → IsInRange c → (l : Line) → IsSound c l → FallsByNext c l
unfolding after answer
next_falls c ranged l s =
    let falls = next_walk c l (TakesOne c l) (Falls c l)
    (taken_walk c l s (TakesOne c l) (message_falls c ranged l s) (unit_falls c ranged l s) (given_falls c ranged l s))
    (omega arith, omega arith) (λ t h. (omega (arith, h.0), omega (arith, h.1))) in
    let same = given_same (taken c l) in
    (omega (arith, falls.0, same), omega (arith, falls.1, same))
