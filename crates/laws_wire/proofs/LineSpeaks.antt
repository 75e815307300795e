-- A line on which one link alone has anything to say.
use Rattle.laws_wire.proofs.Vocabulary.{◌≡◌, ◌≢◌, ℕ, false, ◌<◌, List, [], ◌∷◌, slice_get, Option, Some, None, option_map, Ok, refl, ap, subst, ◌∙◌, ◌⊎◌, inl, arith, ⊎_elim, All, option_or, cases_eq, get_or-set_same, get_or-set_other, All-head, All-tail, Service, Timer, Parts, reading, sapi_of, IsAt, place_of-is, Terms, LinkTimer, Link, Config, Aim, at_link, told_of_link, of_aim, hears, expiry}
use Rattle.laws_wire.proofs.Vocabulary.{request, next, at_timer, aim_of_expiry, Line, link_number, service_at, tei_at, terms, terms_at, link_at, link_in, link_count, place_in, unless_refused, of_heard, addressed, message_of, aim_of_heard, aim_of_reading, heard_side, at_side, Taken, with_given_frame, link_taken, first_taken, taken, Request, at_requested, aim_of_request, IsSoundAt, came}
use Rattle.laws_wire.proofs.Vocabulary.{place_at-number, service_at-number, number_within, round_below, IsSilent, none-waits, sends-none, nothing-given, nothing-to_send, silent-stays, told, line_answer, line_after, after, link_told, given}
use Rattle.model_bits.specs.Stream as stream
use Rattle.model_link.specs.Events as link
use Rattle.model_link.specs.Sound as link_sound
use Rattle.laws_line.specs.Served.{HasNoMessage}
use Rattle.laws_line.proofs.Draining.{no-message-taken}
use Rattle.model_line.specs.Refusal.{refusal}
use Rattle.model_line.specs.Sound.{IsSound}

-- The TEI is on the line, neither a message nor unit data waits, and no other link has anything to give.
pub record Speaks (c : Config) (service : Service) (tei place : ℕ) (x : Link) (l : Line) : Type 0 where
  pub placed : place_in l tei ≡ Some place
  pub messages : HasNoMessage l
  pub units : l.units ≡ []
  pub silent : (number : ℕ) → number < link_count c → number ≢ link_number place service → given (terms_at c number l) (link_at number l) ≡ None
  pub link : link_in l service place ≡ x

module _ (c : Config) (service : Service) (tei place : ℕ) (l : Line) (s : IsSound c l) (x : Link) (h : Speaks c service tei place x l) where
  abbrev t : Terms
  t = terms c service tei

  abbrev number : ℕ
  number = link_number place service

  pub at : IsAt l.management.places place tei
  at = (place_of-is l.management.places tei place h.placed).1

  few : number < link_count c
  few = let within = (place_of-is l.management.places tei place h.placed).0 in number_within place c.terminals service (omega (arith, within, s.places))

  -- the number leads to the link and its terms
  own : (P : Terms → Link → Type 0) → P (terms c (service_at number) tei) (link_at number l) → P t x
  own P p = subst (P t) h.link (subst (λ y. P (terms c y tei) (link_at number l)) (service_at-number place service) p)

  none-given : taken c l ≡ None → given t x ≡ None
  none-given none =
      let sound = own link_sound.IsSound (subst (IsSoundAt c number (link_at number l)) (ap (λ p. tei_at p l) (place_at-number place service) ∙ at) (s.links number few)) in
      nothing-to_send t x (sends-none t x sound (own IsSilent ((none-waits c l s none).links number few tei (ap (λ p. tei_at p l) (place_at-number place service) ∙ at))))

  first-is : (ns : List ℕ) → All (λ n. n < link_count c) ns → (o : Option Taken) → link_taken c l number ≡ o → (first_taken c l ns ≡ None) ⊎ (first_taken c l ns ≡ o)
  first-is [] all o is = inl refl
  first-is (n ∷ ns) all o is =
      let rest = first-is ns (All-tail (λ n. n < link_count c) n ns all) o is in
      ⊎_elim
      (λ same. by-own o (ap (link_taken c l) same ∙ is) rest)
      (λ other. passed n (ap (λ o. option_map (with_given_frame c l n (terms_at c n l)) o) (h.silent n (All-head (λ n. n < link_count c) n ns all) other)) o rest)
      (cases_eq n number)
    where
      passed : (n : ℕ) → link_taken c l n ≡ None → (o : Option Taken) → (first_taken c l ns ≡ None) ⊎ (first_taken c l ns ≡ o)
          → (option_or (link_taken c l n) (first_taken c l ns) ≡ None) ⊎ (option_or (link_taken c l n) (first_taken c l ns) ≡ o)
      passed n none o x = grind arith

      by-own : (o : Option Taken) → link_taken c l n ≡ o → (first_taken c l ns ≡ None) ⊎ (first_taken c l ns ≡ o)
          → (option_or (link_taken c l n) (first_taken c l ns) ≡ None) ⊎ (option_or (link_taken c l n) (first_taken c l ns) ≡ o)
      by-own o own rest = grind (arith, passed)

  -- so what is taken is what it gives
  pub takes-own : taken c l ≡ option_map (with_given_frame c l number t) (given t x)
  takes-own = grind (arith, no-message-taken, h.messages, slice_get, option_map, none-given, service_at-number, place_at-number, at, first-is, round_below)

  -- the next frame is called for
  pub goes-on : Speaks c service tei place (after t link.offer x) (line_after c next l)
  unfolding line_after
  goes-on = grind (arith, takes-own, silent-stays, nothing-given, get_or-set_other, get_or-set_same, few)

  -- a frame comes that is for it
  module _ (parts : Parts) (octets : List ℕ) (whole : came c.n201 octets ≡ stream.frame octets) (read : reading (heard_side c) octets ≡ Ok parts)
      (sapi : parts.address.sapi ≡ sapi_of service) (by : parts.address.tei ≡ tei) where
    abbrev event : link.Event
    event = link.received (link.frame parts)

    its-address : (mm : Aim) → addressed l parts.address (link.frame parts) mm ≡ at_link service tei place event
    its-address mm = grind arith

    aim-is : aim_of_heard c l (stream.frame octets) ≡ at_link service tei place event
    aim-is = ap (aim_of_reading c l) read ∙ ap (at_side c parts) (its-address (message_of parts.control parts.info))

    pub comes-on : Speaks c service tei place (after t event x) (line_after c (hears (came c.n201 octets)) l)
    unfolding line_after
    comes-on = grind (arith, aim-is, get_or-set_other, get_or-set_same, few)

    pub comes-told : line_answer c (hears (came c.n201 octets)) l ≡ told (told_of_link (link_told t event x))
    unfolding line_answer
    comes-told = ap (λ e. told e.told) (ap (λ e. of_heard c e l) whole ∙ ap (λ aim. of_aim c aim l) aim-is) ∙ ap (λ y. told (told_of_link (link_told t event y))) h.link

  -- a request for it is granted
  module _ (r : Request) (asked : link.Request) (aims : aim_of_request r l ≡ at_requested service tei asked (place_in l tei)) (granted : refusal c false r l ≡ None) where
    abbrev asks : link.Event
    asks = link.requested asked false

    aims-at : unless_refused (refusal c false r l) (aim_of_request r l) ≡ at_link service tei place asks
    aims-at = ap (λ o. unless_refused o (aim_of_request r l)) granted ∙ aims ∙ ap (at_requested service tei asked) h.placed

    pub asks-on : Speaks c service tei place (after t asks x) (line_after c (request r) l)
    unfolding line_after
    asks-on = grind (arith, aims-at, get_or-set_other, get_or-set_same, few)

    pub asks-told : line_answer c (request r) l ≡ told (told_of_link (link_told t asks x))
    unfolding line_answer
    asks-told = grind (arith, aims-at)

  -- a timer of it expires
  module _ (timer : Timer) (its : LinkTimer) (aims : aim_of_expiry timer l ≡ at_timer service tei its (place_in l tei)) where
    abbrev expires : link.Event
    expires = link.expired its

    pub expires-on : Speaks c service tei place (after t expires x) (line_after c (expiry timer) l)
    unfolding line_after
    expires-on = grind (arith, get_or-set_other, get_or-set_same, few)

    pub expires-told : line_answer c (expiry timer) l ≡ told (told_of_link (link_told t expires x))
    unfolding line_answer
    expires-told = ap (λ aim. told (of_aim c aim l).told) (aims ∙ ap (at_timer service tei its) h.placed) ∙ ap (λ y. told (told_of_link (link_told t expires y))) h.link
