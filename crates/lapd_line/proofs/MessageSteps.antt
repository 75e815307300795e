-- Which message of TEI management a frame has that is taken.
use Rattle.lapd_line.proofs.Vocabulary.{◌≡◌, ℕ, Bool, true, false, List, [], ◌∷◌, ◌++◌, get_or, Option, Some, None, option_map, option_map_or, option_or, slice_get, refl, sym, ap, ◌∙◌, subst, cond, head_of, head_shown, begun_shown, message_shown, type_shown, has_message, type_of, Side, Network, User, Service, Control, Ui, unwrap_or, spelling, sapi_of, Config, Taken, taken, none-some}
use Rattle.lapd_line.proofs.Vocabulary.{same_Some, More, Begun, Head, Message, IdentityAssigned, IdentityDenied, IdentityCheckRequest, IdentityRemove, Line, UnitData, terms_at, link_at, unit_taken, link_taken, first_taken, with_unit, with_given_frame, round, Given}
use Rattle.std.proofs.Common.{arith, ◌+◌, ◌*◌, ◌/◌, ◌≤◌, ◌==◌}
use Rattle.std.proofs.lemmas.Bool.{ne_eqb}
use Rattle.lapd_frame.specs.Grammar.{cr_bit}
use Rattle.lapd_frame.specs.Senders.{exchanged}
use Rattle.lapd_frame.proofs.AddressField.{cr_bit-small}
use Rattle.lapd_frame.proofs.Naming.{service-below}
use Rattle.model_teis.specs.network.Messages.{frame_of}
use Rattle.model_teis.specs.terminal.Messages as own_messages
use Rattle.model_teis.specs.declared.terminal.messages.Message.{Message as OwnMessage}
use Rattle.model_teis.specs.declared.terminal.messages.Message.TheVariants.{IdentityRequest, IdentityCheckResponse, IdentityVerify}
use Rattle.lapd_line.proofs.ManagingSteps.{message_of_kind}
use Rattle.lapd_line.proofs.Vocabulary.{Managing, first_type, is_terminal, is_terminals, management_of, offered_by, own_of}
use Rattle.lapd_line.specs.Managing.{without_message}
use Rattle.lapd_line.specs.declared.managing.Managing.TheVariants as kind
use Rattle.lapd_line.proofs.Vocabulary.{Sender, own_side}
use Rattle.model_link.specs.Machine as links

-- What a message shows, if there is one.
abbrev pub type_counted : Option ℕ → List More
type_counted type = option_map_or (type_shown Begun) type []

-- a frame of TEI management has its message
of_message : (side : Side) (message : Message) → message_shown Begun (frame_of side message) ≡ type_shown Begun (type_of message)
of_message Network (IdentityAssigned ri tei) = refl
of_message Network (IdentityDenied ri tei) = refl
of_message Network (IdentityCheckRequest tei) = refl
of_message Network (IdentityRemove tei) = refl
of_message User (IdentityAssigned ri tei) = refl
of_message User (IdentityDenied ri tei) = refl
of_message User (IdentityCheckRequest tei) = refl
of_message User (IdentityRemove tei) = refl

-- one of a link has none, nor has unit data: it has the SAPI of a service
no_message : (octets : List ℕ) → (get_or octets 0 0 / 4 == 63) ≡ false → has_message octets ≡ false
no_message octets none = rw none refl

not_management : (sapi bit : ℕ) → sapi ≤ 62 → bit ≤ 1 → ((4 * sapi + 2 * bit) / 4 == 63) ≡ false
not_management sapi bit low small = ne_eqb _ _ (λ h. omega (arith, h, low, small))

of_service : (sender : Sender) (service : Service) (command : Bool) (tei : ℕ) (control : Control) (info : List ℕ)
    → has_message (spelling sender (record { address = record { sapi = sapi_of service; command = command; tei = tei }; control = control; info = info })) ≡ false
of_service sender service command tei control info =
    no_message (spelling sender (record { address = record { sapi = sapi_of service; command = command; tei = tei }; control = control; info = info }))
    (not_management (exchanged sender.sapi (sapi_of service)) (cr_bit sender.side command) (service-below sender.sapi service) (cr_bit-small sender.side command))

abbrev IsOfService : Taken → Type 0
IsOfService k = has_message k.frame ≡ false

abbrev none_shown : (octets : List ℕ) → has_message octets ≡ false → message_shown Begun octets ≡ []
none_shown octets none = ap (λ b. cond b (type_shown Begun (get_or octets 6 0)) []) none

of_unit : (c : Config) (m : Line) {k : Taken} → unit_taken c m ≡ Some k → IsOfService k
of_unit c m {k} is = go (slice_get m.units 0) is
  where
    go : (o : Option UnitData) → option_map (with_unit c m) o ≡ Some k → IsOfService k
    go None is = absurd (none-some _ is)
    go (Some u) is = subst IsOfService (same_Some _ _ is) (of_service (own_side c) u.service true u.tei (Ui false) u.contents)

of_link : (c : Config) (m : Line) (number : ℕ) {k : Taken} → link_taken c m number ≡ Some k → IsOfService k
of_link c m number {k} is = go (links.given (terms_at c number m) (link_at number m)) is
  where
    go : (o : Option Given) → option_map (with_given_frame c m number (terms_at c number m)) o ≡ Some k → IsOfService k
    go None is = absurd (none-some _ is)
    go (Some g) is = subst IsOfService (same_Some _ _ is) (of_service (own_side c) (terms_at c number m).service g.frame.command (terms_at c number m).tei g.frame.control (unwrap_or g.contents []))

of_links : (c : Config) (m : Line) (numbers : List ℕ) {k : Taken} → first_taken c m numbers ≡ Some k → IsOfService k
of_links c m [] is = absurd (none-some _ is)
of_links c m (number ∷ numbers) {k} is = go (of_links c m numbers) (link_taken c m number) refl is
  where
    go : (first_taken c m numbers ≡ Some k → IsOfService k) → (o : Option Taken) → link_taken c m number ≡ o → option_or o (first_taken c m numbers) ≡ Some k → IsOfService k
    go others None none is = others is
    go others (Some x) some is = of_link c m number (some ∙ is)

-- a terminal's frame, too
of_own_message : (message : OwnMessage) → message_shown Begun (own_messages.frame_of message) ≡ type_shown Begun (own_messages.type_of message)
of_own_message (IdentityRequest ri) = refl
of_own_message (IdentityCheckResponse ri tei) = refl
of_own_message (IdentityVerify tei) = refl

-- so what is taken shows the message that waits first
pub message_is : (c : Config) (x : Managing) (m : Line) → is_terminals x ≡ is_terminal c → m.management ≡ management_of c x → m.own ≡ own_of x → {k : Taken} → taken c m ≡ Some k
    → message_shown Begun k.frame ≡ type_counted (first_type x)
message_is c x m same management own {k} is = by_kind x (sym (ap (λ o. option_or o rest) (message_of_kind c x m same management own)) ∙ is)
  where
    rest : Option Taken
    rest = option_or (unit_taken c m) (first_taken c m (round c m))

    others : (o : Option Taken) → unit_taken c m ≡ o → option_or o (first_taken c m (round c m)) ≡ Some k → IsOfService k
    others None none is = of_links c m (round c m) is
    others (Some x) some is = of_unit c m (some ∙ is)

    to_taken : Managing → List ℕ → Taken
    to_taken x octets = record { frame = octets; orders = []; line = record m { management = management_of c (without_message x); own = own_of (without_message x) } }

    of_network : (x : Managing) (o : Option Message) → option_or (option_map (to_taken x) (option_map (frame_of c.side) o)) rest ≡ Some k → message_shown Begun k.frame ≡ type_counted (option_map type_of o)
    of_network x None is = none_shown k.frame (others (unit_taken c m) refl is)
    of_network x (Some message) is = ap (λ (t : Taken). message_shown Begun t.frame) (sym (same_Some _ _ is)) ∙ of_message c.side message

    of_terminal : (x : Managing) (o : Option OwnMessage) → option_or (option_map (to_taken x) (option_map own_messages.frame_of o)) rest ≡ Some k
        → message_shown Begun k.frame ≡ type_counted (option_map own_messages.type_of o)
    of_terminal x None is = none_shown k.frame (others (unit_taken c m) refl is)
    of_terminal x (Some message) is = ap (λ (t : Taken). message_shown Begun t.frame) (sym (same_Some _ _ is)) ∙ of_own_message message

    by_kind : (x : Managing) → option_or (option_map (to_taken x) (offered_by c.side x)) rest ≡ Some k → message_shown Begun k.frame ≡ type_counted (first_type x)
    by_kind (kind.Network b) is = of_network (kind.Network b) (slice_get b.waiting 0) is
    by_kind (kind.Terminal b) is = of_terminal (kind.Terminal b) (slice_get b.waiting 0) is

-- and a frame that begins shows its head and its message
pub head_and_message : (side : Side) (octets : List ℕ) (head : Option Head) (type : Option ℕ) → head ≡ head_of octets → message_shown Begun octets ≡ type_counted type
    → begun_shown side octets ≡ option_map_or (λ h. head_shown side h ++ type_counted type) head []
head_and_message side [] head type is shown = ap (λ o. option_map_or (λ h. head_shown side h ++ type_counted type) o []) (sym is)
head_and_message side (x ∷ xs) head type is shown =
    ap (λ l. option_map_or (head_shown side) (head_of (x ∷ xs)) [] ++ l) shown
    ∙ ap (λ o. option_map_or (λ h. head_shown side h ++ type_counted type) o []) (sym is)
