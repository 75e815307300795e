-- What is heard is to TEI management: nothing, or what a UI to the group brings.
use Rattle.laws_line.proofs.Vocabulary.{arith, ◌≡◌, ℕ, Bool, List, Option, Result, Ok, refl, Cause, Address, Network, Control, ReadFault, Long, Service, Parts, reading, Config, Aim, at_none, at_link, at_management, Line, drop_for, to_service, addressed, message_of, aim_of_reading, unless_at_link, aim_of_long, aim_of_unnumbered, Reading, heard_side, aim_of_heard, group_told, IsToGroup}
use Rattle.laws_line.proofs.Vocabulary.{ServesMessages, eqb-true, leb-true, cond, true, length, nat_le, ◌≤◌}
use Rattle.laws_line.proofs.Vocabulary.{false, inl, inr, User, Side, is_terminal, at_side, dropped, at_terminal, at_units, at_no_link, Unserved, TeiEvent, ◌&&◌, side_aims}
use Rattle.laws_line.proofs.Vocabulary.{link_received, LinkReceived, link_frame, stream_frame, StreamEvent, message}
use Rattle.model_line.specs.Sides.{managed_at}

-- What holds of an aim where it is served: of one at TEI management, on a side that serves such a message.
abbrev WhereServed : Config → Parts → (Aim → Type 0) → Aim → Type 0
WhereServed c parts P (at_none told) = P (at_none told)
WhereServed c parts P (at_link service tei place event) = P (at_link service tei place event)
WhereServed c parts P (at_management event) = ServesMessages c parts → P (at_management event)
WhereServed c parts P (at_terminal event) = P (at_terminal event)
WhereServed c parts P (at_units unit) = P (at_units unit)
WhereServed c parts P at_no_link = P at_no_link

module _ (c : Config) (parts : Parts) (P : Aim → Type 0) (none : (cause : Cause) → P (drop_for cause)) where
  managed : (event : TeiEvent) → (ServesMessages c parts → P (at_management event)) → length parts.info ≤ c.n201 → (side : Side) → c.side ≡ side → P (managed_at c parts side event)
  managed event p size Network is = p (inl is, size)
  managed event p size User is = by-both (is_terminal c) parts.address.command refl refl
    where
      by-both : (b command : Bool) → is_terminal c ≡ b → parts.address.command ≡ command → P (cond (b && command) (at_management event) (at_none (dropped Unserved)))
      by-both true true one other = p (inr (one, other), size)
      by-both true false one other = none Unserved
      by-both false command one other = none Unserved

  -- and none is too long
  sized : (event : TeiEvent) → (ServesMessages c parts → P (at_management event)) → (b : Bool) → nat_le (length parts.info) c.n201 ≡ b
      → P (cond b (managed_at c parts c.side event) (at_none (dropped Unserved)))
  sized event p true is = managed event p (leb-true (length parts.info) c.n201 is) c.side refl
  sized event p false is = none Unserved

-- So it holds of what a frame is on the side of the card, if it holds of what is not served and of the group's unit data.
module _ (c : Config) (parts : Parts) (P : Aim → Type 0) (none : (cause : Cause) → P (drop_for cause))
    (to_group : (service : Service) → IsToGroup c parts service → P (at_none (group_told service parts.info))) where
  side_where : (aim : Aim) → WhereServed c parts P aim → P (at_side c parts aim)
  side_where (at_none told) p = side_aims c parts P (none Unserved) to_group (at_none told) p
  side_where (at_link service tei place event) p = p
  side_where (at_management event) p = sized c parts P none event p (nat_le (length parts.info) c.n201) refl
  side_where (at_terminal event) p = p
  side_where (at_units unit) p = p
  side_where at_no_link p = p

-- A UI to the group with SAPI 63 is heard.
pub record IsUi (c : Config) (e : StreamEvent) (parts : Parts) : Type 0 where
  pub serves : ServesMessages c parts
  pub octets : List ℕ
  pub by : e ≡ stream_frame octets
  pub read : reading (heard_side c) octets ≡ Ok parts
  pub sapi : parts.address.sapi ≡ 63
  pub group : parts.address.tei ≡ 127
  pub poll : Bool
  pub control : parts.control ≡ Control.Ui poll

module _ (c : Config) (l : Line) (e : StreamEvent) (P : Aim → Type 0) (none : (cause : Cause) → P (drop_for cause))
    (to_link : (service : Service) (tei place : ℕ) (what : LinkReceived) → P (at_link service tei place (link_received what)))
    (to_management : (parts : Parts) → IsUi c e parts → P (at_management (message parts.info)))
    (to_the_group : (parts : Parts) (octets : List ℕ) → e ≡ stream_frame octets → reading (heard_side c) octets ≡ Ok parts → (service : Service)
    → IsToGroup c parts service → P (at_none (group_told service parts.info))) where
  to-links : (tei : ℕ) (what : LinkReceived) (o : Option Service) → P (to_service l tei what o)
  to-links tei what o = grind arith

  to : (parts : Parts) (address : Address) (what : LinkReceived) (m : Aim) → (address.sapi ≡ 63 → address.tei ≡ 127 → WhereServed c parts P m) → WhereServed c parts P (addressed l address what m)
  to parts address what m h = grind (arith, eqb-true, to-links)

  at-all : (address : Address) (what : LinkReceived) (m : Aim) → P m → P (addressed l address what m)
  at-all address what m p = grind (arith, to-links)

  unless : (aim : Aim) → P aim → P (unless_at_link aim)
  unless aim h = grind arith

  unnumbered : (r : Reading) (unit : Bool) (aim : Aim) → P aim → P (aim_of_unnumbered r unit aim)
  unnumbered r unit aim h = grind (arith, unless)

  too-long : (unit : Bool) (r : Result Long ReadFault) → P (aim_of_long c.reading unit l r)
  too-long unit r = grind (arith, to-links, unnumbered)

  module _ (octets : List ℕ) (by : e ≡ stream_frame octets) (parts : Parts) (read : reading (heard_side c) octets ≡ Ok parts) (sapi : parts.address.sapi ≡ 63) (group : parts.address.tei ≡ 127) where
    by-control : (k : Control) → parts.control ≡ k → WhereServed c parts P (message_of k parts.info)
    by-control (Control.Ui poll) is = λ serves.
        to_management parts
        (record { serves = serves; octets = octets; by = by; read = read; sapi = sapi; group = group; poll = poll; control = is })
    by-control k is = grind arith

  by-reading : (octets : List ℕ) → e ≡ stream_frame octets → (r : Result Parts ReadFault) → reading (heard_side c) octets ≡ r → P (aim_of_reading c l r)
  by-reading octets by (Ok parts) read =
      side_where c parts P none (λ service to. to_the_group parts octets by read service to)
      (addressed l parts.address (link_frame parts) (message_of parts.control parts.info))
      (to parts parts.address (link_frame parts) (message_of parts.control parts.info)
      (λ sapi group. by-control octets by parts read sapi group parts.control refl))
  by-reading octets by r read = grind (arith, to-links)

  by-event : (x : StreamEvent) → e ≡ x → P (aim_of_heard c l x)
  by-event x by = grind (arith, by-reading, too-long)

  pub heard-aims-at : P (aim_of_heard c l e)
  heard-aims-at = by-event e refl
