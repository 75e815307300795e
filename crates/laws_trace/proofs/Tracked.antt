-- What an observer of a line knows of its TEI management, of whatever side, and what an answer shows of it.
use Rattle.laws_trace.proofs.Vocabulary.{◌≡◌, ℕ, ◌==◌, Bool, true, false, cond, List, [], ◌∷◌, map, take, slice_get, filter, Option, Some, None, IfSome, option_map, refl, sym, ap, ◌∙◌, ◌⊎◌, inl, inr, arith, option_map_or, none-some, Ui, Service, Parts, reading, Result, ReadFault, sapi_of, Management, Config, Aim}
use Rattle.laws_trace.proofs.Vocabulary.{at_none, at_link, of_aim, next, Answer, LineTold, gave, orders_in, Line, link_at, terms, service_at, aim_of, management_sapi, Taken, taken, next_of, line_of, at_requested, at_deactivated, lost_in, IsOne, taken-one, unwrap_or, Event, told, line_after as after, answer, IsSound, result_ok, Managed, is_of_teis, is_of_line, IsAsDue}
use Rattle.laws_trace.proofs.Vocabulary.{trace_frame_in as frame_in, offer, LinkEvent, LinkRequest, link_told, own_side, reading-again}
use Rattle.laws_trace.proofs.Vocabulary.{Timer, expiry, place_in}
use Rattle.model_line.specs.Event.{nothing}
use Rattle.model_line.specs.Expiry.{at_timer}
use Rattle.model_line.specs.Line.{Own, is_terminal, terminal_with}
use Rattle.model_link.specs.Events.{expired}
use Rattle.model_link.specs.declared.timers.LinkTimer.{LinkTimer}
use Rattle.laws_trace.specs.Managing.{own_of}
use Rattle.laws_trace.specs.ManagingTerminal.{teis_of}
use Rattle.laws_trace.specs.TeisAreManaged.{message_text}
use Rattle.laws_trace.proofs.CheckEnds.{Follows}
use Rattle.laws_trace.proofs.FollowsTerminal.{known}
use Rattle.laws_trace.proofs.ManagingTables.{AreOn}
use Rattle.laws_trace.proofs.ManagingNotes.{none-of-teis, link-others, told-orders, is_management}
use Rattle.laws_trace.proofs.OneLink.{given-orders}
use Rattle.laws_trace.proofs.ReadAgain.{read-again}
use Rattle.laws_line.specs.Served.{IsUnit, IsOfLink}

-- What is known of a terminal's line is its part, and no message is owed to terminals.
pub record IsKnown (c : Config) (w : Managed) (m : Management) (own : Own) : Type 0 where
  pub own_is : own_of c w ≡ known (terminal_with m own)
  pub on_is : w.on ≡ teis_of m.places
  pub owed : w.owed ≡ []

abbrev pub OfSide : Config → Bool → Managed → Management → Own → Type 0
OfSide c true w m own = IsKnown c w m own
OfSide c false w m own = Follows w m

pub record Tracks (c : Config) (w : Managed) (m : Management) (own : Own) : Type 0 where
  pub on : AreOn w.on m.places
  pub side : OfSide c (is_terminal c) w m own

abbrev pub TracksLine : Config → Managed → Line → Type 0
TracksLine c w l = Tracks c w l.management l.own

-- What an answer shows, and what is known behind it. What is lost is so many messages, or is none of them, if the event is
-- one of a link.
pub record Shows (c : Config) (l : Line) (e : Event) (d : Managed) (a : Answer) (new : Line) : Type 0 where
  pub as_due : IsAsDue c d a
  pub lost : (lost_in a ≡ d.lost) ⊎ ((d.lost ≡ 0) × (is_management (aim_of c e l) ≡ false))
  pub follows : Tracks c d new.management new.own

-- If no request of management is granted or refused, nothing is said of it.
pub none-granted : (d : Managed) → d.granted ≡ None → (its so : Bool) → d.granted ≡ Some so → its ≡ so
none-granted d none its so is = absurd (none-some so (sym none ∙ is))

-- Nothing is due.
pub record IsQuiet (d : Managed) : Type 0 where
  pub notes : d.notes ≡ []
  pub orders : d.orders ≡ []
  pub lost : d.lost ≡ 0
  pub begins : d.begins ≡ []
  pub granted : d.granted ≡ None

module _ (c : Config) (l : Line) where
  -- No event of TEI management.
  pub record IsUnmanaged (aim : Aim) : Type 0 where
    pub stays : (of_aim c aim l).line.management ≡ l.management
    pub own : (of_aim c aim l).line.own ≡ l.own
    pub others : filter is_of_teis (of_aim c aim l).told.notes ≡ []
    pub orders : filter is_of_line (of_aim c aim l).told.orders ≡ []

  pub none-aims : (t : LineTold) → filter is_of_teis t.notes ≡ [] → t.orders ≡ [] → IsUnmanaged (at_none t)
  none-aims t notes orders = record { stays = refl; own = refl; others = notes; orders = ap (filter is_of_line) orders }

  pub link-aims : (service : Service) (tei place : ℕ) (event : LinkEvent) → IsUnmanaged (at_link service tei place event)
  link-aims service tei place event = grind (arith, none-of-teis, link_told, link-others, told-orders)

  pub asked-aims : (service : Service) (tei : ℕ) (asked : LinkRequest) (o : Option ℕ) → IsUnmanaged (at_requested service tei asked o)
  asked-aims service tei asked o = grind (arith, none-aims, link-aims)

  pub deactivated-aims : (service : Service) (tei : ℕ) (o : Option ℕ) → IsUnmanaged (at_deactivated service tei o)
  deactivated-aims service tei o = grind (arith, none-aims, link-aims)

  pub unmanaged-shows : (e : Event) (d : Managed) (aim : Aim) → IsQuiet d → Tracks c d l.management l.own → is_management (aim_of c e l) ≡ false → IsUnmanaged aim
      → let y = of_aim c aim l in Shows c l e d (told y.told) y.line
  unmanaged-shows e d aim quiet tracks none x = grind (arith, none-granted)

  -- An expiry of a link's timer.
  pub timer-shows : (d : Managed) → IsQuiet d → Tracks c d l.management l.own → (timer : Timer) (service : Service) (tei : ℕ) (its : LinkTimer)
      → aim_of c (expiry timer) l ≡ at_timer service tei its (place_in l tei) → let y = of_aim c (at_timer service tei its (place_in l tei)) l in Shows c l (expiry timer) d (told y.told) y.line
  timer-shows d quiet tracks timer service tei its is = grind (arith, told, unmanaged-shows, nothing, is_management, none-aims, expired, link-aims)

-- Frames with SAPI 63.
abbrev of_management : Result Parts ReadFault → Bool
of_management r = option_map_or (λ (f : Parts). f.address.sapi == management_sapi) (result_ok r) false

abbrev pub is_managed : Config → List ℕ → Bool
is_managed c octets = of_management (reading (own_side c) octets)

abbrev pub managed_of : Config → Option Taken → List (List ℕ)
managed_of c o = filter (is_managed c) (frame_in (gave (option_map next_of o)))

pub one-or-none : (c : Config) (t : Taken) (b : Bool) → is_managed c t.frame ≡ b → managed_of c (Some t) ≡ cond b (t.frame ∷ []) []
one-or-none c t b is = ap (λ b. cond b (t.frame ∷ []) []) is

pub first-goes : {M : Type 0} (ms : List M) (m : M) → slice_get ms 0 ≡ Some m → take 1 ms ≡ m ∷ []
first-goes ms m is = grind arith

pub message-is : (c : Config) (info : List ℕ) → is_managed c (message_text c info) ≡ true
message-is c info =
    let parts : Parts = record { address = record { sapi = 63; command = true; tei = 127 }; control = Ui false; info = info } in
    ap of_management (reading-again (own_side c) parts (message_text c info) (record { is_frame = record { sapi = omega arith; tei = omega arith; kind = refl; size = refl }; octets_are = refl }))

module _ (c : Config) (l new : Line) (t : Taken) where
  pub unit-is : (x : IsUnit c l new t.frame) → is_managed c t.frame ≡ false
  unit-is x =
      ap (is_managed c) x.spelled
      ∙ read-again (own_side c) (λ r. of_management r ≡ false) (record { sapi = sapi_of x.unit.service; command = true; tei = x.unit.tei }) (Ui false) (λ info. grind arith) (λ fault. refl) x.unit.contents

  pub link-is : (contents : ℕ → List (List ℕ)) (x : IsOfLink c contents l new t.frame) → is_managed c t.frame ≡ false
  link-is contents x =
      ap (is_managed c) x.spelled
      ∙ read-again (own_side c) (λ r. of_management r ≡ false) (record { sapi = sapi_of (service_at x.number); command = x.command; tei = x.tei }) x.control (λ info. grind arith) (λ fault. refl)
      (unwrap_or x.information [])

-- A call for the next frame orders nothing of the line's own timers.
module _ (c : Config) (l : Line) (s : IsSound c l) where
  next-orders : (o : Option Taken) → IfSome o (IsOne c l) → filter is_of_line (orders_in (gave (option_map next_of o))) ≡ []
  next-orders None x = refl
  next-orders (Some t) (inl x) = ap (λ (t : Taken). filter is_of_line t.orders) x.is
  next-orders (Some t) (inr (inl x)) = ap (λ (t : Taken). filter is_of_line t.orders) x.1
  next-orders (Some t) (inr (inr x)) =
      let t = terms c (service_at x.number) x.tei in
      ap (λ (t : Taken). filter is_of_line t.orders) x.is ∙ ap (filter is_of_line) (given-orders c l s (service_at x.number) x.tei t (link_at x.number l) x.what x.given)
      ∙ told-orders t offer (link_at x.number l)

  pub next-shows : (d : Managed) → d.notes ≡ [] → d.orders ≡ [] → d.lost ≡ 0 → d.granted ≡ None
      → let new = option_map_or line_of (taken c l) l in managed_of c (taken c l) ≡ map (message_text c) d.begins → Tracks c d new.management new.own
      → Shows c l next d (answer c next l) (after c next l)
  unfolding after answer
  next-shows d notes orders lost granted begins tracks = grind (arith, next-orders, taken, taken-one, none-granted)
