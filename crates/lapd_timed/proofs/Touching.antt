-- Which links an event may change: those of one TEI, unless it is one of TEI management.
use Rattle.std.proofs.Common.{arith, ◌≡◌, ◌≢◌, ℕ, ◌+◌, ◌/◌, ◌==◌, nat_lt, inl, inr, Bool, true, false, cond, List, [], ◌∷◌, length, take, Option, Some, None, refl, sym, ap, ◌∙◌, subst}
use Rattle.std.specs.Prelude.{is_some, slice_index, Result, Ok, Err}
use Rattle.std.proofs.lemmas.Bool.{cases_eq, eqb-true}
use Rattle.std.proofs.lemmas.List.{get_or-set_other}
use Rattle.lapd_frame.specs.declared.addresses.Address.{Address}
use Rattle.lapd_frame.specs.declared.addresses.Side.{Side}
use Rattle.lapd_frame.specs.declared.faults.ReadFault.{ReadFault}
use Rattle.lapd_frame.specs.declared.faults.ReadFault.TheVariants.{BadExtension, Undefined, WrongSize, Short}
use Rattle.lapd_frame.specs.declared.overlong.Long.{Long}
use Rattle.lapd_frame.specs.declared.overlong.Long.TheVariants as long
use Rattle.lapd_frame.specs.declared.services.Service.{Service}
use Rattle.lapd_frame.specs.Grammar.{Parts}
use Rattle.lapd_frame.specs.Reading as backwards
use Rattle.lapd_frame.specs.Senders.{reading, long_reading, named, long_named}
use Rattle.lapd_frame.specs.Faults.{is_short}
use Rattle.lapd_frame.specs.Services.{service_of}
use Rattle.lapd_frame.specs.Overlong.{is_unit}
use Rattle.lapd_frame.specs.declared.readings.Reading.{Reading}
use Rattle.lapd_frame.specs.declared.refusals.Refusal.{Refusal}
use Rattle.lapd_frame.specs.declared.senders.Sender.{Sender}
use Rattle.lapd_frame.specs.declared.controls.Control.{Control}
use Rattle.model_teis.proofs.Tables.{place_of-is}
use Rattle.model_bits.specs.declared.heard.Cause.{Cause}
use Rattle.model_bits.specs.declared.heard.Cause.TheVariants as cause
use Rattle.model_bits.specs.declared.heard.Cause.TheVariants.{Tei, Unserved}
use Rattle.model_line.specs.Came.{came}
use Rattle.model_line.specs.Requested.{at_requested, at_deactivated}
use Rattle.model_line.specs.Sides.{at_side, managed_at}
use Rattle.model_teis.specs.network.Events as teis
use Rattle.model_bits.specs.Stream as stream
use Rattle.model_link.specs.Events as link
use Rattle.model_link.specs.Link.{Link, state_number}
use Rattle.model_link.specs.declared.timers.LinkTimer.{LinkTimer}
use Rattle.model_line.specs.Effect.{Aim, at_none, at_link, at_management, at_terminal, at_units, at_no_link, of_aim}
use Rattle.model_line.specs.Expiry.{at_timer}
use Rattle.model_line.specs.Heard.{aim_of_heard, aim_of_reading, aim_of_long, addressed, to_service, at_place, message_of, drop_for, management_sapi, group_tei, unless_at_link, aim_of_unnumbered, heard_side}
use Rattle.model_line.specs.Line.{Line, tei_at, place_at, place_in, link_number, with_link}
use Rattle.model_line.specs.Machine as machine
use Rattle.model_line.specs.declared.config.Config.{Config}
use Rattle.model_timed.specs.Changes.{standing}
use Rattle.lapd_timed.specs.Named.{Names}
use Rattle.lapd_timed.specs.Marked.{is_placed}
use Rattle.lapd_timed.proofs.PlacesKept.{managed-keeps, owned-keeps, down-keeps}
use Rattle.model_line.proofs.AimsSound.{IsProper}
use Rattle.model_line.specs.Sound as line

-- What an event is to a line concerns no TEI but one, and changes no table.
abbrev pub IsFor : ℕ → Line → Aim → Type 0
IsFor tei l (at_none told) = Unit {0}
IsFor tei l (at_units unit) = Unit {0}
IsFor tei l (at_link service its place e) = (its ≡ tei) × (tei_at place l ≡ Some tei)
IsFor tei l other = tei ≡ group_tei

-- Then the links of other TEIs stand as before; or where it is the group's, those to whose places no TEI came, and which none left.
abbrev pub Touches : ℕ → Line → Line → ℕ → Type 0
Touches tei l now number = (tei ≢ 127 → tei_at (place_at number) now ≡ Some tei) × (tei ≡ 127 → is_placed number l ≢ is_placed number now)

abbrev pub KeepsOthers : ℕ → Config → Line → Line → Type 0
KeepsOthers tei c l now = line.IsSound c l → (number : ℕ) → (Touches tei l now number → ⊥) → standing number now ≡ standing number l

place-is : (place : ℕ) (service : Service) → place_at (link_number place service) ≡ place
place-is place service = grind arith

keeps-link : (tei place : ℕ) (service : Service) (x : Link) (l : Line) → tei ≢ 127 → tei_at place l ≡ Some tei → (number : ℕ) → (Touches tei l (with_link (link_number place service) x l) number → ⊥)
    → standing number (with_link (link_number place service) x l) ≡ standing number l
keeps-link tei place service x l own at number off =
    elim (cases_eq number (link_number place service)) [
      | inl same ↦ absurd (off ((λ _. ap (λ n. tei_at n l) (ap place_at same ∙ place-is place service) ∙ at), (λ group. absurd (own group))))
      | inr apart ↦ ap (λ (y : Link). cond {A = ℕ} (is_some (tei_at (place_at number) l)) (state_number y.state) 0) (get_or-set_other l.links (link_number place service) number x _ apart)
    ]

-- a TEI of a terminal is at a place
small : (c : Config) (l : Line) (tei place : ℕ) → line.IsSound c l → tei_at place l ≡ Some tei → tei ≢ 127
small c l tei place s at group = omega (arith, s.management.table.range place tei at, group)

-- what is not told apart is the same
as-before : (a b : Bool) → (a ≢ b → ⊥) → a ≡ b
as-before true true off = refl
as-before false false off = refl
as-before true false off = absurd (off (λ e. absurd (cc)))
as-before false true off = absurd (off (λ e. absurd (cc)))

kept-place : (tei : ℕ) (l now : Line) (number : ℕ) → tei ≡ 127 → (Touches tei l now number → ⊥) → is_placed number l ≡ is_placed number now
kept-place tei l now number group off = as-before (is_placed number l) (is_placed number now) (λ differs. off ((λ own. absurd (own group)), (λ _. differs)))

pub keeps-others : (c : Config) (tei : ℕ) (l : Line) (aim : Aim) → IsProper c l aim → IsFor tei l aim → KeepsOthers tei c l (of_aim c aim l).line
keeps-others c tei l (at_none told) proper is = λ s number off. refl
keeps-others c tei l (at_units unit) proper is = λ s number off. refl
keeps-others c tei l (at_link service its place e) proper is = λ s number off. keeps-link tei place service _ l (small c l tei place s is.1) is.1 number off
keeps-others c tei l (at_management e) proper is = λ s number off. managed-keeps c l s e proper number (kept-place tei l (of_aim c (at_management e) l).line number is off)
keeps-others c tei l (at_terminal e) proper is = λ s number off. owned-keeps c l s e proper number (kept-place tei l (of_aim c (at_terminal e) l).line number is off)
keeps-others c tei l at_no_link proper is = λ s number off. down-keeps c l s number (kept-place tei l (of_aim c at_no_link l).line number is off)

-- The TEI of a frame is in its second octet.
abbrev HeaderTei : ℕ → Result (Address × Control) ReadFault → Type 0
HeaderTei tei (Ok header) = header.0.tei ≡ tei
HeaderTei tei (Err (Undefined address)) = address.tei ≡ tei
HeaderTei tei (Err (WrongSize address)) = address.tei ≡ tei
HeaderTei tei (Err other) = Unit {0}

abbrev HasTei : ℕ → Result Parts ReadFault → Type 0
HasTei tei (Ok parts) = parts.address.tei ≡ tei
HasTei tei (Err (Undefined address)) = address.tei ≡ tei
HasTei tei (Err (WrongSize address)) = address.tei ≡ tei
HasTei tei (Err other) = Unit {0}

abbrev LongTei : ℕ → Result Long ReadFault → Type 0
LongTei tei (Ok (long.Information address)) = address.tei ≡ tei
LongTei tei (Ok (long.Unnumbered address)) = address.tei ≡ tei
LongTei tei (Err (Undefined address)) = address.tei ≡ tei
LongTei tei (Err (WrongSize address)) = address.tei ≡ tei
LongTei tei (Err other) = Unit {0}

checked-tei : (address : Address) (o : Option Control) → HeaderTei address.tei (backwards.checked address o)
checked-tei address o = grind arith

header-tei : (side : Side) (first second third fourth : ℕ) → HeaderTei (second / 2) (backwards.header_of side first second third fourth)
unfolding backwards.header_of
header-tei side first second third fourth = grind (arith, checked-tei)

completed-tei : (tei : ℕ) (octets : List ℕ) (r : Result (Address × Control) ReadFault) → HeaderTei tei r → HasTei tei (backwards.completed octets r)
completed-tei tei octets r h = grind arith

named-tei : (own tei : ℕ) (r : Result Parts ReadFault) → HasTei tei r → HasTei tei (named own r)
named-tei own tei r h = grind arith

long-header-tei : (tei : ℕ) (r : Result (Address × Control) ReadFault) → HeaderTei tei r → LongTei tei (backwards.long_of_header r)
long-header-tei tei r h = grind arith

long-named-tei : (own tei : ℕ) (r : Result Long ReadFault) → LongTei tei r → LongTei tei (long_named own r)
long-named-tei own tei r h = grind arith

shortness : (b : Bool) (tei : ℕ) (r : Result Parts ReadFault) → HasTei tei r → HasTei tei (cond b (Err Short) r)
shortness b tei r h = grind arith

pub reading-tei : (sender : Sender) (octets : List ℕ) → HasTei (slice_index octets 1 / 2) (reading sender octets)
unfolding reading backwards.reading
reading-tei sender octets =
    named-tei sender.sapi (slice_index octets 1 / 2) (backwards.reading sender.side octets)
    (shortness (is_short octets) (slice_index octets 1 / 2) _
    (completed-tei (slice_index octets 1 / 2) octets _ (header-tei sender.side (slice_index octets 0) (slice_index octets 1) (slice_index octets 2) (slice_index octets 3))))

pub long-tei : (sender : Sender) (head : List ℕ) → LongTei (slice_index head 1 / 2) (long_reading sender head)
long-tei sender head =
    long-named-tei sender.sapi (slice_index head 1 / 2) (backwards.long_reading sender.side head)
    (long-header-tei (slice_index head 1 / 2) _ (header-tei sender.side (slice_index head 0) (slice_index head 1) (slice_index head 2) (slice_index head 3)))

-- What is heard concerns no TEI but that of its address; and TEI management only if that is the group's.
module _ (c : Config) (l : Line) (tei : ℕ) where
  placed : (service : Service) (what : link.Received) (o : Option ℕ) → place_in l tei ≡ o → IsFor tei l (at_place service tei what o)
  placed service what None e = tt
  placed service what (Some place) e = (refl, (place_of-is l.management.places tei place e).1)

  served : (what : link.Received) (o : Option Service) → IsFor tei l (to_service l tei what o)
  served what None = tt
  served what (Some service) = placed service what (place_in l tei) refl

  by-group : (b : Bool) (aim : Aim) → (tei == group_tei) ≡ b → (tei ≡ group_tei → IsFor tei l aim) → IsFor tei l (cond b aim (drop_for Tei))
  by-group true aim e to_all = to_all (eqb-true tei group_tei e)
  by-group false aim e to_all = tt

  by-sapi : (b : Bool) (what : link.Received) (aim : Aim) (o : Option Service) → (tei ≡ group_tei → IsFor tei l aim) → IsFor tei l (cond b (cond (tei == group_tei) aim (drop_for Tei)) (to_service l tei what o))
  by-sapi true what aim o to_all = by-group (tei == group_tei) aim refl to_all
  by-sapi false what aim o to_all = served what o

  to-address : (address : Address) (what : link.Received) (aim : Aim) → (tei ≡ group_tei → IsFor tei l aim) → address.tei ≡ tei → IsFor tei l (addressed l address what aim)
  to-address address what aim to_all is =
      subst (λ t. IsFor tei l (cond (address.sapi == management_sapi) (cond (t == group_tei) aim (drop_for Tei)) (to_service l t what (service_of address.sapi)))) (sym is)
      (by-sapi (address.sapi == management_sapi) what aim (service_of address.sapi) to_all)

  dropped : (cause : Cause) → tei ≡ group_tei → IsFor tei l (drop_for cause)
  dropped cause group = tt

  a-message : (control : Control) (info : List ℕ) → tei ≡ group_tei → IsFor tei l (message_of control info)
  a-message control info group = grind arith

  at-management : (parts : Parts) (e : teis.Event) (side : Side) → tei ≡ group_tei → IsFor tei l (managed_at c parts side e)
  at-management parts e side group = grind arith

  on-side : (parts : Parts) (aim : Aim) → IsFor tei l aim → IsFor tei l (at_side c parts aim)
  on-side parts (at_none told) is = tt
  on-side parts (at_units unit) is = tt
  on-side parts (at_link service its place e) is = is
  on-side parts (at_management e) is = grind (arith, at-management)
  on-side parts (at_terminal e) is = is
  on-side parts at_no_link is = is

  read : (r : Result Parts ReadFault) → HasTei tei r → IsFor tei l (aim_of_reading c l r)
  read (Ok parts) is = on-side parts (addressed l parts.address (link.frame parts) (message_of parts.control parts.info)) (to-address parts.address (link.frame parts) (message_of parts.control parts.info) (a-message parts.control parts.info) is)
  read (Err BadExtension) is = tt
  read (Err (Undefined address)) is = to-address address link.undefined (drop_for Unserved) (dropped Unserved) is
  read (Err (WrongSize address)) is = to-address address link.wrong_size (drop_for Unserved) (dropped Unserved) is
  read (Err Short) is = tt

  unless : (aim : Aim) → IsFor tei l aim → IsFor tei l (unless_at_link aim)
  unless aim is = grind arith

  unnumbered : (r : Reading) (unit : Bool) (aim : Aim) → IsFor tei l aim → IsFor tei l (aim_of_unnumbered r unit aim)
  unnumbered r unit aim is = grind (arith, unless)

  long-read : (unit : Bool) (r : Result Long ReadFault) → LongTei tei r → IsFor tei l (aim_of_long c.reading unit l r)
  long-read unit (Ok (long.Information address)) is = to-address address link.overlong (drop_for Unserved) (dropped Unserved) is
  long-read unit (Ok (long.Unnumbered address)) is = unnumbered c.reading unit (addressed l address link.overlong (drop_for Unserved)) (to-address address link.overlong (drop_for Unserved) (dropped Unserved) is)
  long-read unit (Err BadExtension) is = tt
  long-read unit (Err (Undefined address)) is = to-address address link.undefined (drop_for Unserved) (dropped Unserved) is
  long-read unit (Err (WrongSize address)) is = to-address address link.wrong_size (drop_for Unserved) (dropped Unserved) is
  long-read unit (Err Short) is = tt

pub heard-for : (c : Config) (l : Line) (tei : ℕ) (e : stream.Event) → Names tei e → IsFor tei l (aim_of_heard c l e)
heard-for c l tei (stream.frame octets) is = read c l tei (reading (heard_side c) octets) (subst (λ t. HasTei t (reading (heard_side c) octets)) is (reading-tei (heard_side c) octets))
heard-for c l tei (stream.overlong head) is =
    long-read c l tei (is_unit head) (long_reading (heard_side c) head) (subst (λ t. LongTei t (long_reading (heard_side c) head)) is (long-tei (heard_side c) head))
heard-for c l tei (stream.dropped cause) is = tt

-- A frame that comes is heard as one with its octets, or with its first four, or not at all.
second : (octets : List ℕ) → slice_index (take 4 octets) 1 ≡ slice_index octets 1
second [] = refl
second (a ∷ []) = refl
second (a ∷ b ∷ octets) = refl

pub came-names : (n201 : ℕ) (octets : List ℕ) → Names (slice_index octets 1 / 2) (came n201 octets)
came-names n201 octets = go (is_short octets) (nat_lt (n201 + 4) (length octets))
  where
    go : (short long : Bool) → Names (slice_index octets 1 / 2) (cond short (stream.dropped cause.Short) (cond long (stream.overlong (take 4 octets)) (stream.frame octets)))
    go true long = tt
    go false true = ap (λ n. n / 2) (second octets)
    go false false = refl

-- An expiry of a link's timer, and a request of a link.
pub timer-for : (l : Line) (service : Service) (tei : ℕ) (timer : LinkTimer) (o : Option ℕ) → place_in l tei ≡ o → IsFor tei l (at_timer service tei timer o)
timer-for l service tei timer None e = tt
timer-for l service tei timer (Some place) e = (refl, (place_of-is l.management.places tei place e).1)

pub request-for : (l : Line) (service : Service) (tei : ℕ) (what : link.Request) (o : Option ℕ) → place_in l tei ≡ o → IsFor tei l (at_requested service tei what o)
request-for l service tei what None e = tt
request-for l service tei what (Some place) e = (refl, (place_of-is l.management.places tei place e).1)

pub deactivated-for : (l : Line) (service : Service) (tei : ℕ) (o : Option ℕ) → place_in l tei ≡ o → IsFor tei l (at_deactivated service tei o)
deactivated-for l service tei None e = tt
deactivated-for l service tei (Some place) e = (refl, (place_of-is l.management.places tei place e).1)

pub granted-for : (tei : ℕ) (l : Line) (o : Option Refusal) (aim : Aim) → IsFor tei l aim → IsFor tei l (machine.unless_refused o aim)
granted-for tei l None aim is = is
granted-for tei l (Some why) aim is = tt
