-- How what an event aims at is tied to the event.
use Rattle.laws_line.proofs.Vocabulary.{arith, ◌≡◌, ℕ, true, List, Option, Some, Result, Ok, refl, inl, inr, Bool, false, AnnexB, Profile, Reading, Address, ReadFault, Service, Timer, Parts, reading, service_of, Config, hears, request, Answer, Aim, at_link, aim_of_expiry, Line, addressed, aim_of_reading, heard_side, aim_of_heard, side_aims, Request, aim_of_request, Event, expiry, at_place}
use Rattle.laws_line.proofs.Vocabulary.{is_granted, IsTooLong, BringsMalformed, IsBy, IsOf}
use Rattle.laws_line.proofs.Vocabulary.{LinkReceived, link_received, stream_overlong, bits_dropped, stream_frame, StreamEvent}
use Rattle.laws_line.proofs.Vocabulary.{Err, BadExtension, Undefined, WrongSize, Short, Unserved, long_reading, begins_unit, aim_of_long, aim_of_unnumbered, unless_at_link, drop_for, link_undefined, link_wrong_size}
use Rattle.lapd_frame.specs.declared.overlong.Long.{Long}
use Rattle.lapd_frame.specs.declared.overlong.Long.TheVariants as long
use Rattle.model_link.specs.Events.{overlong as link_overlong}

abbrev pub Ties : Config → Event → Answer → Aim → Type 0
Ties c e answer (at_link service tei place event) = IsOf c e answer service tei event
Ties c e answer other = Unit {0}

module _ (c : Config) (l : Line) (e : Event) (answer : Answer) where
  abbrev Tied : Aim → Type 0
  Tied aim = Ties c e answer aim

  placed : (service : Service) (tei : ℕ) (what : LinkReceived) → IsBy c e answer service tei (link_received what) → (o : Option ℕ) → Tied (at_place service tei what o)
  placed service tei what by o = grind arith

  by-address : (address : Address) (what : LinkReceived) (m : Aim) → Tied m
      → ((service : Service) → service_of address.sapi ≡ Some service → IsBy c e answer service address.tei (link_received what)) → Tied (addressed l address what m)
  by-address address what m ties by = grind (arith, placed)

-- What is heard.
module _ (c : Config) (l : Line) (answer : Answer) where
  read-ties : (octets : List ℕ) (r : Result Parts ReadFault) → reading (heard_side c) octets ≡ r → Ties c (hears (stream_frame octets)) answer (aim_of_reading c l r)
  read-ties octets (Ok parts) read = grind (arith, side_aims, by-address)
  read-ties octets r read = grind (arith, by-address)

  -- one that was too long to keep
  too-long : (head : List ℕ) (address : Address) (what : LinkReceived) → IsTooLong c address head what
      → (service : Service) → service_of address.sapi ≡ Some service → BringsMalformed c (hears (stream_overlong head)) service address.tei what
  too-long head address what is service sapi = record { octets = head; address = address; by = inr (refl, is); sapi = sapi; tei_is = refl }

  long-ties : (head : List ℕ) (r : Result Long ReadFault) → long_reading (heard_side c) head ≡ r → Ties c (hears (stream_overlong head)) answer (aim_of_long c.reading (begins_unit head) l r)
  long-ties head (Ok (long.Information address)) read =
      by-address c l (hears (stream_overlong head)) answer address link_overlong (drop_for Unserved) tt (too-long head address link_overlong (inl read))
  long-ties head (Ok (long.Unnumbered address)) read = go c.reading refl (begins_unit head) refl
    where
      no-link : (aim : Aim) → Ties c (hears (stream_overlong head)) answer (unless_at_link aim)
      no-link aim = grind arith

      go : (r : Reading) → c.reading ≡ r → (unit : Bool) → begins_unit head ≡ unit
          → Ties c (hears (stream_overlong head)) answer (aim_of_unnumbered r unit (addressed l address link_overlong (drop_for Unserved)))
      go AnnexB is true unit =
          by-address c l (hears (stream_overlong head)) answer address link_overlong (drop_for Unserved) tt
          (too-long head address link_overlong (inr (record { annex_b = is; unit = unit; read = read })))
      go AnnexB is false unit = no-link (addressed l address link_overlong (drop_for Unserved))
      go Profile is true unit = no-link (addressed l address link_overlong (drop_for Unserved))
      go Profile is false unit = no-link (addressed l address link_overlong (drop_for Unserved))
  long-ties head (Err BadExtension) read = tt
  long-ties head (Err (Undefined address)) read =
      by-address c l (hears (stream_overlong head)) answer address link_undefined (drop_for Unserved) tt (too-long head address link_undefined read)
  long-ties head (Err (WrongSize address)) read =
      by-address c l (hears (stream_overlong head)) answer address link_wrong_size (drop_for Unserved) tt (too-long head address link_wrong_size read)
  long-ties head (Err Short) read = tt

pub heard-ties : (c : Config) (l : Line) (e : StreamEvent) (answer : Answer) → Ties c (hears e) answer (aim_of_heard c l e)
heard-ties c l (stream_frame octets) answer = read-ties c l answer octets (reading (heard_side c) octets) refl
heard-ties c l (stream_overlong head) answer = long-ties c l answer head (long_reading (heard_side c) head) refl
heard-ties c l (bits_dropped cause) answer = tt

-- An expiry.
pub expiry-ties : (c : Config) (l : Line) (timer : Timer) (answer : Answer) → Ties c (expiry timer) answer (aim_of_expiry timer l)
expiry-ties c l timer answer = grind arith

-- A request that is granted.
module _ (c : Config) (l : Line) (answer : Answer) (granted : is_granted answer ≡ true) where
  pub request-ties : (r : Request) → Ties c (request r) answer (aim_of_request r l)
  request-ties r = grind arith
