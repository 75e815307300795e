-- What is handed on of what is heard.
use Rattle.laws_line.proofs.Vocabulary.{arith, ◌≡◌, ℕ, Bool, true, false, cond, ◌==◌, List, [], ◌∷◌, Option, Some, None, Result, Ok, Err, is_some, refl, sym, ap, ◌∙◌, ◌⊎◌, inl, inr, list_any, option_or, All-head, All-tail, none-some, Cause, Extension, Sapi, Tei, Unserved, Address, ReadFault, BadExtension, Undefined, WrongSize, Short, Long, Note, Refusal, Service, Timer, T201, Parts, reading}
use Rattle.laws_line.proofs.Vocabulary.{long_reading, service_of, reading-found, Terms, LinkTimer, IsOwn, Link, is_data, is_unit, notes-own, event-tells, contents_heard, unit_heard, delivered-was-heard, event-unit, within-is, place_of-is, Config, hears, request, next, nothing, Aim, at_none, at_link, at_management, of_aim, at_timer, aim_of_expiry, Line, place_in, link_in, terms}
use Rattle.laws_line.proofs.Vocabulary.{unless_refused_told, drop_for, management_sapi, to_service, addressed, message_of, aim_of_reading, aim_of_long, aim_of_unnumbered, begins_unit, unless_at_link, AnnexB, Profile, Reading, heard_side, aim_of_heard, group_told, IsToGroup, side_aims, Request, Establish, at_requested, at_deactivated, aim_of_request, IsInRange, sound_in, All, T200, T203, Event}
use Rattle.laws_line.proofs.Vocabulary.{expiry, answer, unless_refused, group_tei, at_place, refusal, IsSound, IsTo}
use Rattle.laws_line.proofs.Vocabulary.{contents_in, is_data_of, is_unit_of, IsHeard, link_undefined, link_overlong, LinkReceived, link_received, LinkEstablish, link_expired, link_frame, link_requested, LinkRequest, link_wrong_size, LinkEvent, link_told, stream_overlong, bits_dropped, stream_frame, StreamEvent, tei_expiry, TeiEvent}
use Rattle.laws_line.proofs.Vocabulary.{Release, Data, Unit, SetBusy, ClearBusy, Deactivate, Assign, Remove, Check, Disown, AskTei, VerifyTei, Down, LinkRelease, LinkData, LinkSetBusy, LinkClearBusy, assigning, remove, check, disown, asking, verifying, message, at_units, Control, T202, LineTold, Change, TerminalEvent, terminal_told, terminal_after, terminal_expiry, terminal_in, with_terminal}
use Rattle.laws_line.proofs.Vocabulary.{without_units, is_terminal, at_a_terminal, at_no_link, at_terminal, of_change, of_management, of_network, of_terminal, of_terminal_if, told_of_management, tei_told, tei_after, down as line_down}
use Rattle.model_link.specs.Sound as link_sound
use Rattle.laws_line.proofs.Told.{its-own}
use Rattle.laws_line.proofs.Hearing.{sapi-is}

-- Notes of data, and of unit data, are the link's own.
own-data : (t : Terms) (n : Note) → IsOwn t n → (is_data_of t.service t.tei n ≡ is_data n) × (is_unit_of t.service t.tei n ≡ is_unit n)
own-data t n own = grind (arith, its-own)

pub own-all : (t : Terms) (ns : List Note) → All (IsOwn t) ns
    → (list_any (is_data_of t.service t.tei) ns ≡ list_any is_data ns) × (list_any (is_unit_of t.service t.tei) ns ≡ list_any is_unit ns)
own-all t [] all = (refl, refl)
own-all t (n ∷ ns) all =
    let here = own-data t n (All-head (IsOwn t) n ns all) in
    let rest = own-all t ns (All-tail (IsOwn t) n ns all) in
    ((rw (here.0, rest.0) refl), (rw (here.1, rest.1) refl))

-- What a link hands on was heard, and is noted.
pub record FromFrame (t : Terms) (e : LinkEvent) (ns : List Note) (contents : List ℕ) : Type 0 where
  pub is : ((contents_heard e ≡ Some contents) × (list_any (is_data_of t.service t.tei) ns ≡ true))
      ⊎ ((unit_heard e ≡ Some contents) × (list_any (is_unit_of t.service t.tei) ns ≡ true))

handed-on : (t : Terms) (l : Link) → link_sound.IsSound t l → (e : LinkEvent) (contents : List ℕ)
    → option_or (link_told t e l).delivered (link_told t e l).unit ≡ Some contents → FromFrame t e (link_told t e l).notes contents
handed-on t l s e contents h = go (link_told t e l).delivered refl h
  where
    ns : List Note
    ns = (link_told t e l).notes

    own : (list_any (is_data_of t.service t.tei) (link_told t e l).notes ≡ list_any is_data (link_told t e l).notes) × (list_any (is_unit_of t.service t.tei) (link_told t e l).notes ≡ list_any is_unit (link_told t e l).notes)
    own = own-all t (link_told t e l).notes (notes-own t e l)

    go : (d : Option (List ℕ)) → (link_told t e l).delivered ≡ d → option_or d (link_told t e l).unit ≡ Some contents → FromFrame t e (link_told t e l).notes contents
    go (Some x) is e' = record { is = inl ((delivered-was-heard t l e x is) ∙ e', own.0 ∙ (event-tells t e l).1 ∙ ap (λ o. is_some o) is) }
    go None is e' = grind (arith, event-unit, within-is, event-tells, is_some)

unit-noted : (service : Service) → list_any (is_unit_of service group_tei) (Note.Unit service group_tei ∷ []) ≡ true
unit-noted service = grind arith

-- Contents that are handed on.
module _ (c : Config) (ranged : IsInRange c) (l : Line) (s : IsSound c l) where
  abbrev HandsOn : List ℕ → Aim → Type 0
  HandsOn contents aim = (of_aim c aim l).told.contents ≡ Some contents

  from-link : (service : Service) (tei place : ℕ) (e : LinkEvent) → place_in l tei ≡ Some place → (contents : List ℕ)
      → HandsOn contents (at_link service tei place e)
      → FromFrame (terms c service tei) e (link_told (terms c service tei) e (link_in l service place)).notes contents
  from-link service tei place e on contents h =
      handed-on (terms c service tei) (link_in l service place)
      (sound_in c ranged l s service tei place (place_of-is l.management.places tei place on).1) e contents h

  -- no contents by what is no frame of a link
  none-by-link : (service : Service) (tei place : ℕ) (e : LinkEvent) → place_in l tei ≡ Some place → contents_heard e ≡ None → unit_heard e ≡ None
      → (contents : List ℕ) → HandsOn contents (at_link service tei place e) → ⊥
  none-by-link service tei place e on no-contents no-unit contents h =
      by-case (from-link service tei place e on contents h).is
    where
      by-case : ((contents_heard e ≡ Some contents) × (list_any (is_data_of service tei) (link_told (terms c service tei) e (link_in l service place)).notes ≡ true))
          ⊎ ((unit_heard e ≡ Some contents) × (list_any (is_unit_of service tei) (link_told (terms c service tei) e (link_in l service place)).notes ≡ true)) → ⊥
      by-case o = grind (arith, none-some)

  abbrev Silent : Aim → Type 0
  Silent aim = (contents : List ℕ) → HandsOn contents aim → ⊥

  dropped : (aim : Aim) → (of_aim c aim l).told.contents ≡ None → Silent aim
  dropped aim none contents h = none-some contents (sym none ∙ h)

  drops : (why : Cause) → Silent (drop_for why)
  drops why = dropped (drop_for why) refl

  -- TEI management hands on nothing
  none-told : (o : Option Change) (t : LineTold) (m : Line) → t.contents ≡ None → (of_change c o t m).told.contents ≡ None
  none-told o t m none = grind arith

  none-there : (e : TerminalEvent) (m : Line) → (of_terminal c e m).told.contents ≡ None
  none-there e m = none-told (terminal_told e (terminal_in m)).change (told_of_management (terminal_told e (terminal_in m))) (with_terminal (terminal_after e (terminal_in m)) m) refl

  none-if : (o : Option TerminalEvent) (m : Line) → (of_terminal_if c o m).told.contents ≡ None
  none-if None m = refl
  none-if (Some e) m = none-there e m

  none-managed : (e : TeiEvent) (m : Line) → (of_management c e m).told.contents ≡ None
  none-managed e m = go (is_terminal c)
    where
      go : (b : Bool) → (cond b (of_terminal_if c (at_a_terminal e) m) (of_network c e m)).told.contents ≡ None
      go true = none-if (at_a_terminal e) m
      go false = none-told (tei_told e m.management).change (told_of_management (tei_told e m.management)) (record m { management = tei_after e m.management }) refl

  managed : (e : TeiEvent) → Silent (at_management e)
  managed e = dropped (at_management e) (none-managed e l)

  owned : (e : TerminalEvent) → Silent (at_terminal e)
  owned e = dropped (at_terminal e) (none-there e l)

  ended : Silent at_no_link
  ended = dropped at_no_link (none-managed line_down (without_units l))

  placed : (service : Service) (tei : ℕ) (what : LinkReceived) → contents_heard (link_received what) ≡ None → unit_heard (link_received what) ≡ None
      → (o : Option ℕ) → place_in l tei ≡ o → Silent (at_place service tei what o)
  placed service tei what no-contents no-unit None e = drops Tei
  placed service tei what no-contents no-unit (Some place) e = none-by-link service tei place (link_received what) e no-contents no-unit

  sent-to : (tei : ℕ) (what : LinkReceived) → contents_heard (link_received what) ≡ None → unit_heard (link_received what) ≡ None
      → (o : Option Service) → Silent (to_service l tei what o)
  sent-to tei what no-contents no-unit None = drops Sapi
  sent-to tei what no-contents no-unit (Some service) = placed service tei what no-contents no-unit (place_in l tei) refl

  not-read : (address : Address) (what : LinkReceived) (m : Aim) → Silent m → contents_heard (link_received what) ≡ None → unit_heard (link_received what) ≡ None
      → Silent (addressed l address what m)
  not-read address what m silent no-contents no-unit = go (address.sapi == management_sapi) (address.tei == group_tei)
    where
      go : (known group : Bool) → Silent (cond known (cond group m (drop_for Tei)) (to_service l address.tei what (service_of address.sapi)))
      go true true = silent
      go true false = drops Tei
      go false group = sent-to address.tei what no-contents no-unit (service_of address.sapi)

  unless : (aim : Aim) → Silent aim → Silent (unless_at_link aim)
  unless (at_link service tei place e) silent = drops Unserved
  unless (at_none t) silent = silent
  unless (at_management e) silent = silent
  unless (at_terminal e) silent = silent
  unless (at_units unit) silent = silent
  unless at_no_link silent = silent

  unnumbered : (r : Reading) (unit : Bool) (aim : Aim) → Silent aim → Silent (aim_of_unnumbered r unit aim)
  unnumbered AnnexB true aim silent = silent
  unnumbered AnnexB false aim silent = unless aim silent
  unnumbered Profile true aim silent = unless aim silent
  unnumbered Profile false aim silent = unless aim silent

  too-long : (unit : Bool) (r : Result Long ReadFault) → Silent (aim_of_long c.reading unit l r)
  too-long unit (Ok (Long.Information address)) = not-read address link_overlong (drop_for Unserved) (drops Unserved) refl refl
  too-long unit (Ok (Long.Unnumbered address)) =
      let aim = addressed l address link_overlong (drop_for Unserved) in
      unnumbered c.reading unit aim (not-read address link_overlong (drop_for Unserved) (drops Unserved) refl refl)
  too-long unit (Err BadExtension) = drops Extension
  too-long unit (Err (Undefined address)) = not-read address link_undefined (drop_for Unserved) (drops Unserved) refl refl
  too-long unit (Err (WrongSize address)) = not-read address link_wrong_size (drop_for Unserved) (drops Unserved) refl refl
  too-long unit (Err Short) = drops Unserved

  -- no contents by what is not heard
  timer-silent : (service : Service) (tei : ℕ) (timer : LinkTimer) (o : Option ℕ) → place_in l tei ≡ o → Silent (at_timer service tei timer o)
  timer-silent service tei timer None e = dropped (at_none nothing) refl
  timer-silent service tei timer (Some place) e = none-by-link service tei place (link_expired timer) e refl refl

  pub expiry-silent : (timer : Timer) → Silent (aim_of_expiry timer l)
  expiry-silent (T200 service tei) = timer-silent service tei LinkTimer.T200 (place_in l tei) refl
  expiry-silent (T203 service tei) = timer-silent service tei LinkTimer.T203 (place_in l tei) refl
  expiry-silent T201 = managed tei_expiry
  expiry-silent T202 = owned terminal_expiry

  asked-silent : (service : Service) (tei : ℕ) (what : LinkRequest) (o : Option ℕ) → place_in l tei ≡ o → Silent (at_requested service tei what o)
  asked-silent service tei what None e = dropped (at_none nothing) refl
  asked-silent service tei what (Some place) e = none-by-link service tei place (link_requested what false) e refl refl

  deactivated-silent : (service : Service) (tei : ℕ) (o : Option ℕ) → place_in l tei ≡ o → Silent (at_deactivated service tei o)
  deactivated-silent service tei o e = grind (arith, dropped, none-by-link)

  pub request-silent : (r : Request) → Silent (aim_of_request r l)
  request-silent (Establish service tei) = asked-silent service tei LinkEstablish (place_in l tei) refl
  request-silent (Release service tei) = asked-silent service tei LinkRelease (place_in l tei) refl
  request-silent (Data service tei contents) = asked-silent service tei (LinkData contents) (place_in l tei) refl
  request-silent (SetBusy service tei) = asked-silent service tei LinkSetBusy (place_in l tei) refl
  request-silent (ClearBusy service tei) = asked-silent service tei LinkClearBusy (place_in l tei) refl
  request-silent (Deactivate service tei) = deactivated-silent service tei (place_in l tei) refl
  request-silent (Unit service tei contents) = dropped (at_units (record { service = service; tei = tei; contents = contents })) refl
  request-silent (Assign tei) = managed (assigning tei)
  request-silent (Remove tei) = managed (remove tei)
  request-silent (Check tei) = managed (check tei)
  request-silent (Disown tei) = managed (disown tei)
  request-silent AskTei = owned asking
  request-silent (VerifyTei tei) = owned (verifying tei)
  request-silent Down = ended

  message-silent : (k : Control) (info : List ℕ) → Silent (message_of k info)
  message-silent (Control.Ui p) info = managed (message info)
  message-silent other info = drops Unserved

  -- contents by a frame that was heard
  pub record Heard (octets contents : List ℕ) (ns : List Note) : Type 0 where
    pub parts : Parts
    pub service : Service
    pub tei : ℕ
    pub place : ℕ
    pub read : reading (heard_side c) octets ≡ Ok parts
    pub whose : IsTo l service tei place parts.address
    pub is : FromFrame (terms c service tei) (link_received (link_frame parts)) ns contents

  -- or by one to the group
  pub record FromGroup (octets contents : List ℕ) (ns : List Note) : Type 0 where
    pub parts : Parts
    pub read : reading (heard_side c) octets ≡ Ok parts
    pub service : Service
    pub whose : IsToGroup c parts service
    pub contents_are : parts.info ≡ contents
    pub told : list_any (is_unit_of service group_tei) ns ≡ true

  abbrev Hears : List ℕ → Aim → Type 0
  Hears octets aim =
      (contents : List ℕ) → HandsOn contents aim
      → Heard octets contents (of_aim c aim l).told.notes
      ⊎ FromGroup octets contents (of_aim c aim l).told.notes

  silently : (octets : List ℕ) (aim : Aim) → Silent aim → Hears octets aim
  silently octets aim x contents h = absurd (x contents h)

  by-reading : (octets : List ℕ) (r : Result Parts ReadFault) → reading (heard_side c) octets ≡ r → Hears octets (aim_of_reading c l r)
  by-reading octets (Ok parts) read =
      side_aims c parts (Hears octets) (silently octets (drop_for Unserved) (drops Unserved)) to-group
      (addressed l parts.address (link_frame parts) (message_of parts.control parts.info))
      (go (parts.address.sapi == management_sapi) (parts.address.tei == group_tei))
    where
      to-group : (service : Service) → IsToGroup c parts service → Hears octets (at_none (group_told service parts.info))
      to-group service to contents h = grind (arith, unit-noted)

      at-its-place : (service : Service) → service_of parts.address.sapi ≡ Some service → (o : Option ℕ) → place_in l parts.address.tei ≡ o
          → Hears octets (at_place service parts.address.tei (link_frame parts) o)
      at-its-place service sapi None e = silently octets (drop_for Tei) (drops Tei)
      at-its-place service sapi (Some place) e = λ contents h. inl (record {
        parts = parts;
        service = service;
        tei = parts.address.tei;
        place = place;
        read = read;
        whose = record { sapi = sapi-is parts.address.sapi service sapi; tei_is = refl; on_line = e };
        is = from-link service parts.address.tei place (link_received (link_frame parts)) e contents h;
      })

      of-service : (o : Option Service) → service_of parts.address.sapi ≡ o → Hears octets (to_service l parts.address.tei (link_frame parts) o)
      of-service None e = silently octets (drop_for Sapi) (drops Sapi)
      of-service (Some service) e = at-its-place service e (place_in l parts.address.tei) refl

      go : (known group : Bool) → Hears octets (cond known (cond group (message_of parts.control parts.info) (drop_for Tei)) (to_service l parts.address.tei (link_frame parts) (service_of parts.address.sapi)))
      go true true = silently octets (message_of parts.control parts.info) (message-silent parts.control parts.info)
      go true false = silently octets (drop_for Tei) (drops Tei)
      go false group = of-service (service_of parts.address.sapi) refl
  by-reading octets (Err BadExtension) read = silently octets (drop_for Extension) (drops Extension)
  by-reading octets (Err (Undefined address)) read = silently octets (addressed l address link_undefined (drop_for Unserved)) (not-read address link_undefined (drop_for Unserved) (drops Unserved) refl refl)
  by-reading octets (Err (WrongSize address)) read = silently octets (addressed l address link_wrong_size (drop_for Unserved)) (not-read address link_wrong_size (drop_for Unserved) (drops Unserved) refl refl)
  by-reading octets (Err Short) read = silently octets (drop_for Unserved) (drops Unserved)

  pub heard-by : (e : StreamEvent) (contents : List ℕ) → HandsOn contents (aim_of_heard c l e)
      → let ns = (of_aim c (aim_of_heard c l e) l).told.notes in
      (octets : List ℕ) × (e ≡ stream_frame octets) × (Heard octets contents ns ⊎ FromGroup octets contents ns)
  heard-by (stream_frame octets) contents h = (octets, refl, by-reading octets (reading (heard_side c) octets) refl contents h)
  heard-by (stream_overlong head) contents h = absurd (too-long (begins_unit head) (long_reading (heard_side c) head) contents h)
  heard-by (bits_dropped cause) contents h = absurd (dropped (drop_for cause) refl contents h)

heard-as : (c : Config) (l : Line) (e : StreamEvent) (contents : List ℕ) (ranged : IsInRange c) (s : IsSound c l) (octets : List ℕ) → e ≡ stream_frame octets
    → let noted = (of_aim c (aim_of_heard c l e) l).told.notes in
    Heard c ranged l s octets contents noted ⊎ FromGroup c ranged l s octets contents noted → IsHeard c l (hears e) (answer c (hears e) l) contents
unfolding answer
heard-as c l e contents ranged s octets by (inl x) = inl (record {
  octets = octets;
  by = ap hears by;
  parts = x.parts;
  read = x.read;
  spelled = λ are. reading-found (heard_side c) octets x.parts are x.read;
  service = x.service;
  tei = x.tei;
  place = x.place;
  whose = x.whose;
  told = x.is.is;
})
heard-as c l e contents ranged s octets by (inr x) = inr (record {
  octets = octets;
  by = ap hears by;
  parts = x.parts;
  read = x.read;
  spelled = λ are. reading-found (heard_side c) octets x.parts are x.read;
  service = x.service;
  whose = x.whose;
  contents_are = x.contents_are;
  told = x.told;
})

pub contents-heard : (c : Config) (e : Event) (l : Line) (contents : List ℕ) → IsInRange c → IsSound c l
    → contents_in (answer c e l) ≡ Some contents → IsHeard c l e (answer c e l) contents
unfolding answer
contents-heard c (hears e) l contents ranged s h =
    let x = heard-by c ranged l s e contents h in
    heard-as c l e contents ranged s x.0 x.1 x.2
contents-heard c (expiry timer) l contents ranged s h = absurd (expiry-silent c ranged l s timer contents h)
contents-heard c (request r) l contents ranged s h = go (refusal c false r l) h
  where
    go : (o : Option Refusal) → contents_in (unless_refused_told o (of_aim c (unless_refused o (aim_of_request r l)) l)) ≡ Some contents
        → IsHeard c l (request r) (unless_refused_told o (of_aim c (unless_refused o (aim_of_request r l)) l)) contents
    go None h = absurd (request-silent c ranged l s r contents h)
    go (Some why) h = absurd (none-some contents h)
contents-heard c next l contents ranged s h = absurd (none-some contents h)
