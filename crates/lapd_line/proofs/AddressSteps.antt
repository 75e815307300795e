-- What is heard, by whom it is for.
use Rattle.lapd_line.proofs.Vocabulary.{Result, Sender, ReadFault, heard_side, reading}
use Rattle.lapd_line.proofs.Vocabulary.{places_of, arith, ◌≡◌, ℕ, Bool, true, false, not, ◌&&◌, nat_le, ◌==◌, ◌≤◌, List, [], ◌∷◌, Option, Some, None, Err, length, drop, sym, ap, ◌∙◌, cond, subst, eqb-true, drop_of_length-le, Address, Side, Note, Service, ShortList, Parts, service_of, listed, Unserved, Control, Owned, Store, Config, LineTold, Line, addressed, at_place}
use Rattle.lapd_line.proofs.Vocabulary.{to_service}
use Rattle.lapd_line.proofs.Vocabulary.{group_tei, drop_for, message_of, aim_of_long, aim_of_reading, aim_of_unnumbered, reaches_link, unless_at_link, Aim, at_none, at_management, of_aim, group_told, told_of_ui, told_of_group, told_at, managed_at, at_side, is_network, is_terminal, serves_messages, dropped, Network, User, Call, refl, ◌||◌, Addressee, LinkLayer, BareReport, addressee, of_service}
use Rattle.lapd_line.proofs.Vocabulary.{aim_at, is_ui, message_at, group_service}
use Rattle.lapd_line.proofs.Vocabulary.{LayerStands, Serves, always, told_in, IsClear}
use Rattle.lapd_frame.specs.declared.readings.Reading.{Reading}
use Rattle.lapd_frame.specs.declared.notes.Note.TheVariants as notes
use Rattle.model_teis.specs.Table.{Places}
use Rattle.model_link.specs.Events as link
use Rattle.model_teis.specs.network.Events as teis
use Rattle.lapd_line.specs.declared.addressing.Addressee.TheVariants as to
use Rattle.lapd_line.specs.Addressing as aims
use Rattle.lapd_line.proofs.ReportSteps.{clear_tells_nothing}

-- one aim is the other, for every past that stands
pub serves_as : {aim' aim : Line → Aim} {octets : List ℕ} {e new : LinkLayer} {s t : Store} {o : BareReport} → ((others : List Owned) (m : Line) → LayerStands e s others m → aim m ≡ aim' m)
    → Serves aim' octets e s new t o → Serves aim octets e s new t o
serves_as {aim'} {aim} {octets} {e} {new} {s} {t} {o} same h = record {
  config = h.config;
  limits = h.limits;
  stands = λ others m st. subst (λ a. LayerStands new t others (of_aim e.config a m).line) (sym (same others m st)) (h.stands others m st);
  told = λ others m st. h.told others m st ∙ ap (λ a. (of_aim e.config a m).told) (sym (same others m st));
}

-- octets are read so
pub read_as : {aim : Line → Aim} {e new : LinkLayer} {s t : Store} {o : BareReport} (octets : List ℕ) (side : Sender) (is : Result Parts ReadFault) → side ≡ heard_side e.config → is ≡ reading side octets
    → ((others : List Owned) (m : Line) → LayerStands e s others m → aim_of_reading e.config m is ≡ aim m)
    → Serves aim octets e s new t o → Serves (λ m. aim_of_reading e.config m (reading (heard_side e.config) octets)) octets e s new t o
read_as {e = e} octets side is from read same served =
    serves_as (λ others m st. ap (λ x. aim_of_reading e.config m (reading x octets)) (sym from) ∙ ap (aim_of_reading e.config m) (sym read) ∙ same others m st) served

-- nothing changes, and something is told
pub serves_none : (e : LinkLayer) (s : Store) (octets : List ℕ) (o : BareReport) (told : LineTold) → told_in octets o ≡ told → Serves (always (at_none told)) octets e s e s o
serves_none e s octets o told is = grind arith

-- a frame by its address is one by its addressee
module _ (l : Line) (what : link.Received) (to_management : Aim) where
  at_place-aimed : (service : Service) (tei : ℕ) (o : Option ℕ) → at_place service tei what o ≡ aim_at (aims.at_place service tei o) what to_management
  at_place-aimed service tei o = grind arith

  to_service-aimed : (tei : ℕ) (o : Option Service) → to_service l tei what o ≡ aim_at (of_service l.management.places tei o) what to_management
  to_service-aimed tei o = grind (arith, at_place-aimed)

  addressed-aimed : (address : Address) → addressed l address what to_management ≡ aim_at (addressee l.management.places address) what to_management
  addressed-aimed address = grind (arith, to_service-aimed)

pub aimed : (e : LinkLayer) (s : Store) (others : List Owned) (m : Line) (address : Address) (what : link.Received) (to_management : Aim) (whom : Addressee)
    → whom ≡ addressee (places_of e.teis) address → LayerStands e s others m → addressed m address what to_management ≡ aim_at whom what to_management
aimed e s others m address what to_management whom is st = grind (arith, addressed-aimed)

-- octets that are no more than so many have nothing after them
pub nothing_after : (octets : List ℕ) (n : ℕ) → length octets ≤ n → [] ≡ drop n octets
nothing_after octets n h = sym (drop_of_length-le octets h)

-- a fault is the same of a frame that was too long
pub long_fault : (c : Config) (unit : Bool) (m : Line) (fault : ReadFault) → aim_of_long c.reading unit m (Err fault) ≡ aim_of_reading c m (Err fault)
long_fault c unit m fault = grind arith

-- UI or XID that was too long
pub unnumbered_reaches : (reading : Reading) (unit : Bool) (aim : Aim) → reaches_link reading unit ≡ true → aim_of_unnumbered reading unit aim ≡ aim
unnumbered_reaches reading unit aim is = grind arith

pub unnumbered_unserved : (reading : Reading) (unit : Bool) (aim : Aim) → reaches_link reading unit ≡ false → aim_of_unnumbered reading unit aim ≡ unless_at_link aim
unnumbered_unserved reading unit aim is = grind arith

-- a frame of layer 2 management
pub message_of_ui : (c : Config) (parts : Parts) → is_ui parts.control ≡ true → serves_messages c parts ≡ true → message_at c parts ≡ at_management (teis.message parts.info)
message_of_ui c parts is ours =
    ap (λ b. cond b (cond (serves_messages c parts) (at_management (teis.message parts.info)) (drop_for Unserved)) (drop_for Unserved)) is
    ∙ ap (λ b. cond b (at_management (teis.message parts.info)) (drop_for Unserved)) ours

-- and one that is not served
pub no_ui : (c : Config) (parts : Parts) → is_ui parts.control ≡ false → message_at c parts ≡ drop_for Unserved
no_ui c parts is = ap (λ b. cond b (cond (serves_messages c parts) (at_management (teis.message parts.info)) (drop_for Unserved)) (drop_for Unserved)) is

pub not_ours : (c : Config) (parts : Parts) → serves_messages c parts ≡ false → message_at c parts ≡ drop_for Unserved
not_ours c parts other =
    ap (λ b. cond (is_ui parts.control) (cond b (at_management (teis.message parts.info)) (drop_for Unserved)) (drop_for Unserved)) other ∙ either (is_ui parts.control)
  where
    either : (b : Bool) → cond b (drop_for Unserved) (drop_for Unserved) ≡ drop_for Unserved
    either true = refl
    either false = refl

-- its SAPI is that of no service
pub managed_sapi : (places : Places) (address : Address) → to.Management ≡ addressee places address → service_of address.sapi ≡ None
managed_sapi places address is = grind (arith, eqb-true)

-- what a frame is, and what is told of one to the group, by whether it is a UI
ui_rows : (c : Config) (service : Service) (k : Control) (info : List ℕ) (told : LineTold)
    → (message_of k info ≡ cond (is_ui k) (at_management (teis.message info)) (drop_for Unserved))
    × (told_of_ui c service k info told ≡ cond (is_ui k) (cond (nat_le (length info) c.n201) (group_told service info) told) told)
ui_rows c service k info told = grind arith

-- so it is the same on each side, whatever is told
module _ (c : Config) (parts : Parts) where
  no_group : (side : Side) (told : LineTold) → service_of parts.address.sapi ≡ None → told_at c side parts told ≡ told
  no_group side told none = grind arith

  managed_as : (side : Side) → c.side ≡ side → managed_at c parts side (teis.message parts.info)
      ≡ cond (is_network c.side || (is_terminal c && parts.address.command)) (at_management (teis.message parts.info)) (drop_for Unserved)
  managed_as Network is = ap (λ s. cond (is_network s || (is_terminal c && parts.address.command)) (at_management (teis.message parts.info)) (drop_for Unserved)) (sym is)
  managed_as User is = ap (λ s. cond (is_network s || (is_terminal c && parts.address.command)) (at_management (teis.message parts.info)) (drop_for Unserved)) (sym is)

  -- and none is too long
  sized : (b : Bool) → cond b (managed_at c parts c.side (teis.message parts.info)) (drop_for Unserved)
      ≡ cond (b && (is_network c.side || (is_terminal c && parts.address.command))) (at_management (teis.message parts.info)) (drop_for Unserved)
  sized true = managed_as c.side refl
  sized false = refl

  sided : (b : Bool) → service_of parts.address.sapi ≡ None → at_side c parts (cond b (at_management (teis.message parts.info)) (drop_for Unserved))
      ≡ cond b (cond (nat_le (length parts.info) c.n201) (managed_at c parts c.side (teis.message parts.info)) (drop_for Unserved)) (drop_for Unserved)
  sided true none = refl
  sided false none = ap at_none (no_group c.side (dropped Unserved) none)

  pub message_sided : service_of parts.address.sapi ≡ None → at_side c parts (message_of parts.control parts.info) ≡ message_at c parts
  message_sided none =
      ap (at_side c parts) (ui_rows c Call parts.control parts.info (dropped Unserved)).0 ∙ sided (is_ui parts.control) none
      ∙ ap (λ x. cond (is_ui parts.control) x (drop_for Unserved)) (sized (nat_le (length parts.info) c.n201))

-- What is told of a frame for nobody, by the service whose unit data it brings.
abbrev pub told_by_service : Option Service → List ℕ → LineTold → LineTold
told_by_service None info told = told
told_by_service (Some service) info told = group_told service info

module _ (c : Config) (parts : Parts) (told : LineTold) where
  by_control : (k : Control) (service : Service)
      → told_of_ui c service k parts.info told ≡ told_by_service (cond (is_ui k && nat_le (length parts.info) c.n201) (Some service) None) parts.info told
  by_control k service = grind (arith, ui_rows, nat_le)

  abbrev is_served : Bool
  is_served = is_ui parts.control && nat_le (length parts.info) c.n201

  by_group : (b : Bool) (service : Service)
      → cond b (told_of_ui c service parts.control parts.info told) told ≡ told_by_service (cond (b && is_served) (Some service) None) parts.info told
  by_group b service = grind (arith, by_control)

  none_either : (b : Bool) → told ≡ told_by_service (cond b None None) parts.info told
  none_either b = grind arith

  by_service : (o : Option Service) → told_of_group c parts o told ≡ told_by_service (cond ((parts.address.tei == group_tei) && is_served) o None) parts.info told
  by_service o = grind (arith, none_either, by_group)

  by_side : (side : Side) → told_at c side parts told
      ≡ told_by_service (cond (not (is_network side) && ((parts.address.tei == group_tei) && is_served)) (service_of parts.address.sapi) None) parts.info told
  by_side side = grind (arith, by_service)

  pub told_is : (o : Option Service) → o ≡ group_service c parts → told_at c c.side parts told ≡ told_by_service o parts.info told
  told_is o is = by_side c.side ∙ ap (λ x. told_by_service x parts.info told) (sym is)

-- and so it is reported
pub group_reported : (octets : List ℕ) (one : ShortList Note) (rest : BareReport) (start : ℕ) (service : Service) (info : List ℕ)
    → listed one ≡ notes.Unit service group_tei ∷ [] → IsClear rest → drop start octets ≡ info
    → told_in octets (record rest { notes = one; unit = true; start = start }) ≡ group_told service info
group_reported octets one rest start service info noted none contents = grind (arith, clear_tells_nothing)
