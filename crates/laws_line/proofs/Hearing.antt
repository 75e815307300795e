-- What is heard brings to a link.
use Rattle.laws_line.proofs.Vocabulary.{arith, ◌≡◌, ℕ, ◌==◌, List, Some, Ok, refl, ◌∙◌, none-some, Cause, Unserved, Address, Service, Parts, reading, long_reading, service_of, sapi_of, same_service, Config, LineTold, hears, Aim, at_none, at_link, Line, place_in, drop_for, addressed, aim_of_reading, aim_of_long, aim_of_unnumbered, begins_unit, ap, inl, inr, true, link_undefined, link_overlong}
use Rattle.laws_line.proofs.Vocabulary.{link_wrong_size, heard_side, aim_of_heard, eqb-true, dropped, after, answer, IsTo, IsMalformed}
use Rattle.laws_line.proofs.Vocabulary.{IsTooLong, IsOneHeard as IsOneEvent, OnlyTells, link_received, link_frame, LinkReceived, stream_overlong, bits_dropped, stream_frame, StreamEvent}

-- The SAPI of a service.
pub same-sapi : (a b : Service) → (sapi_of a == sapi_of b) ≡ same_service a b
same-sapi a b = grind arith

pub sapi-is : (sapi : ℕ) (service : Service) → service_of sapi ≡ Some service → sapi ≡ sapi_of service
sapi-is sapi service e = grind (arith, eqb-true, none-some)

-- A frame for a link is an event of this link.
pub addressed-is : (l : Line) (address : Address) (service : Service) (tei place : ℕ) (what : LinkReceived) (m : Aim)
    → address.sapi ≡ sapi_of service → address.tei ≡ tei → place_in l tei ≡ Some place
    → addressed l address what m ≡ at_link service tei place (link_received what)
addressed-is l address service tei place what m sapi tei-is on = grind arith

-- what is heard that is aimed at a link comes to
pub by-aim : (c : Config) (l : Line) (e : StreamEvent) (service : Service) (tei place : ℕ) (what : LinkReceived)
    → aim_of_heard c l e ≡ at_link service tei place (link_received what)
    → IsOneEvent c l (after c (hears e) l) (answer c (hears e) l) service tei place (link_received what)
unfolding after answer
by-aim c l e service tei place what aim = grind arith

-- what is aimed at none
pub by-none : (c : Config) (l : Line) (e : StreamEvent) (t : LineTold) → aim_of_heard c l e ≡ at_none t
    → OnlyTells t l (after c (hears e) l) (answer c (hears e) l)
unfolding after answer
by-none c l e t aim = grind arith

-- as a frame is that the grammar reads, for this link
pub read-aim : (c : Config) (l : Line) (service : Service) (tei place : ℕ) (parts : Parts) (octets : List ℕ) → reading (heard_side c) octets ≡ Ok parts
    → IsTo l service tei place parts.address → aim_of_heard c l (stream_frame octets) ≡ at_link service tei place (link_received (link_frame parts))
read-aim c l service tei place parts octets read f = grind (arith, addressed-is)

pub read-event : (c : Config) (l : Line) (service : Service) (tei place : ℕ) (parts : Parts) (octets : List ℕ) → reading (heard_side c) octets ≡ Ok parts
    → IsTo l service tei place parts.address
    → IsOneEvent c l (after c (hears (stream_frame octets)) l) (answer c (hears (stream_frame octets)) l) service tei place (link_received (link_frame parts))
read-event c l service tei place parts octets read f =
    by-aim c l (stream_frame octets) service tei place (link_frame parts) (read-aim c l service tei place parts octets read f)

-- A frame that the grammar does not have.
pub malformed-event : (c : Config) (l : Line) (service : Service) (tei place : ℕ) (address : Address) (octets : List ℕ) (what : LinkReceived)
    → IsTo l service tei place address → IsMalformed c address octets what
    → IsOneEvent c l (after c (hears (stream_frame octets)) l) (answer c (hears (stream_frame octets)) l) service tei place (link_received what)
malformed-event c l service tei place address octets what f is =
    by-aim c l (stream_frame octets) service tei place what
    (by-fault what is ∙ addressed-is l address service tei place what (drop_for Unserved) f.sapi f.tei_is f.on_line)
  where
    by-fault : (what : LinkReceived) → IsMalformed c address octets what → aim_of_reading c l (reading (heard_side c) octets) ≡ addressed l address what (drop_for Unserved)
    by-fault what is = grind arith

-- A frame that was too long to keep.
pub overlong-event : (c : Config) (l : Line) (service : Service) (tei place : ℕ) (address : Address) (head : List ℕ) (what : LinkReceived)
    → IsTo l service tei place address → IsTooLong c address head what
    → IsOneEvent c l (after c (hears (stream_overlong head)) l) (answer c (hears (stream_overlong head)) l) service tei place (link_received what)
overlong-event c l service tei place address head what f is =
    by-aim c l (stream_overlong head) service tei place what
    (by-head what is ∙ addressed-is l address service tei place what (drop_for Unserved) f.sapi f.tei_is f.on_line)
  where
    by-head : (what : LinkReceived) → IsTooLong c address head what
        → aim_of_long c.reading (begins_unit head) l (long_reading (heard_side c) head) ≡ addressed l address what (drop_for Unserved)
    by-head link_undefined is = ap (aim_of_long c.reading (begins_unit head) l) is
    by-head link_wrong_size is = ap (aim_of_long c.reading (begins_unit head) l) is
    by-head link_overlong (inl is) = ap (aim_of_long c.reading (begins_unit head) l) is
    by-head link_overlong (inr is) =
        let aim = addressed l address link_overlong (drop_for Unserved) in
        ap (aim_of_long c.reading (begins_unit head) l) is.read
        ∙ ap (λ unit. aim_of_unnumbered c.reading unit aim) is.unit ∙ ap (λ r. aim_of_unnumbered r true aim) is.annex_b
    by-head (link_frame parts) is = elim is [ ]

-- What was dropped in place of a frame.
pub dropped-stretch : (c : Config) (l : Line) (cause : Cause)
    → OnlyTells (dropped cause) l (after c (hears (bits_dropped cause)) l) (answer c (hears (bits_dropped cause)) l)
dropped-stretch c l cause = by-none c l (bits_dropped cause) (dropped cause) refl
