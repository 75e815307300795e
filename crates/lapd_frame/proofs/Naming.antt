-- Frames by the services that they name: what a sender spells it reads again.
use Rattle.lapd_frame.proofs.Vocabulary.{◌≡◌, ℕ, ◌<◌, ◌≤◌, ◌==◌, Bool, cond, refl, ap, sym, ◌∙◌, subst, List, Result, Ok, Err, arith, eqb_tells, Address, Control, ReadFault, BadExtension, Undefined, WrongSize, Short, Parts, IsFrame, AreOctets, Side}
use Rattle.lapd_frame.specs.Grammar as grammar
use Rattle.lapd_frame.specs.Reading as backwards
use Rattle.lapd_frame.specs.declared.senders.Sender.{Sender}
use Rattle.lapd_frame.specs.declared.services.Service.{Service}
use Rattle.lapd_frame.specs.Services.{sapi_of}
use Rattle.lapd_frame.specs.Senders.{packet_sapi, exchanged, renamed, parts_named, fault_named, named, reading, spelling, Spells}
use Rattle.lapd_frame.proofs.Spelling as by_side

-- a SAPI of a second service is in range
pub packet-range : (own : ℕ) → (1 ≤ packet_sapi own) × (packet_sapi own ≤ 62)
packet-range own = grind arith

-- two numbers that change places
abbrev swapped : ℕ → ℕ → ℕ
swapped p x = cond (x == p) 16 (cond (x == 16) p x)

swapped-back : (p x : ℕ) → swapped p (swapped p x) ≡ x
swapped-back p x = grind (arith, eqb_tells)

swapped-small : (p x : ℕ) → p ≤ 62 → x < 64 → swapped p x < 64
swapped-small p x few small = grind (arith, eqb_tells)

-- what changed places does so again
pub exchanged-back : (own sapi : ℕ) → exchanged own (exchanged own sapi) ≡ sapi
unfolding exchanged
exchanged-back own sapi = swapped-back (packet_sapi own) sapi

pub exchanged-small : (own sapi : ℕ) → sapi < 64 → exchanged own sapi < 64
unfolding exchanged
exchanged-small own sapi small = swapped-small (packet_sapi own) sapi (packet-range own).1 small

-- TEI management has one SAPI on every line
swapped-others : (p : ℕ) → p ≤ 62 → swapped p 63 ≡ 63
swapped-others p few = grind (arith, eqb_tells)

pub management-stays : (own : ℕ) → exchanged own 63 ≡ 63
unfolding exchanged
management-stays own = swapped-others (packet_sapi own) (packet-range own).1

-- and so has a service, below it
swapped-service : (p : ℕ) (service : Service) → 1 ≤ p → p ≤ 62 → swapped p (sapi_of service) ≤ 62
swapped-service p service least most = grind (arith, eqb_tells)

pub service-below : (own : ℕ) (service : Service) → exchanged own (sapi_of service) ≤ 62
unfolding exchanged
service-below own service = swapped-service (packet_sapi own) service (packet-range own).0 (packet-range own).1

-- so have addresses and frames
pub renamed-back : (own : ℕ) (a : Address) → renamed own (renamed own a) ≡ a
renamed-back own a = ap (λ sapi. record { sapi = sapi; command = a.command; tei = a.tei }) (exchanged-back own a.sapi)

pub parts-back : (own : ℕ) (f : Parts) → parts_named own (parts_named own f) ≡ f
parts-back own f = ap (λ a. record { address = a; control = f.control; info = f.info }) (renamed-back own f.address)

pub is-frame-named : (own : ℕ) (f : Parts) → IsFrame f → IsFrame (parts_named own f)
is-frame-named own f is = record { sapi = exchanged-small own f.address.sapi is.sapi; tei = is.tei; kind = is.kind; size = is.size }

-- frames of TEI management are those of the side
pub management-spelled : (s : Sender) (command : Bool) (tei : ℕ) (control : Control) (info : List ℕ)
    → grammar.spelling s.side (record { address = record { sapi = 63; command = command; tei = tei }; control = control; info = info })
    ≡ spelling s (record { address = record { sapi = 63; command = command; tei = tei }; control = control; info = info })
management-spelled s command tei control info =
    ap (λ sapi. grammar.spelling s.side (record { address = record { sapi = sapi; command = command; tei = tei }; control = control; info = info })) (sym (management-stays s.sapi))

-- what a sender spells is what its side spells
pub by-side : (s : Sender) (f : Parts) (octets : List ℕ) → Spells s f octets → grammar.Spells s.side (parts_named s.sapi f) octets
by-side s f octets h = record { is_frame = is-frame-named s.sapi f h.is_frame; octets_are = h.octets_are }

-- it is read again,
pub reading-again : (s : Sender) (f : Parts) (octets : List ℕ) → Spells s f octets → reading s octets ≡ Ok f
unfolding reading
reading-again s f octets h =
    ap (named s.sapi) (by_side.reading-again s.side (parts_named s.sapi f) octets (by-side s f octets h)) ∙ ap Ok (parts-back s.sapi f)

-- and what is read is spelled
pub named-ok : (own : ℕ) (r : Result Parts ReadFault) (f : Parts) → named own r ≡ Ok f → r ≡ Ok (parts_named own f)
named-ok own (Ok g) f e = let same : parts_named own g ≡ f = cc in ap Ok (sym (parts-back own g) ∙ ap (parts_named own) same)
named-ok own (Err fault) f e = absurd (cc)

pub reading-found : (s : Sender) (octets : List ℕ) (f : Parts) → AreOctets octets → reading s octets ≡ Ok f → Spells s f octets
unfolding reading
reading-found s octets f small e =
    let found = by_side.reading-found s.side octets (parts_named s.sapi f) small (named-ok s.sapi _ f e) in
    record {
      is_frame = subst IsFrame (parts-back s.sapi f) (is-frame-named s.sapi (parts_named s.sapi f) found.is_frame);
      octets_are = found.octets_are;
    }

pub one-spelling : (s : Sender) (f g : Parts) (octets : List ℕ) → Spells s f octets → Spells s g octets → f ≡ g
one-spelling s f g octets h i = let again : Ok f ≡ Ok g = sym (reading-again s f octets h) ∙ reading-again s g octets i in cc

-- where the second service has SAPI 16 they are those of the grammar
swapped-none : (x : ℕ) → swapped 16 x ≡ x
swapped-none x = grind (arith, eqb_tells)

usual-address : (a : Address) → renamed 16 a ≡ a
unfolding exchanged
usual-address a = ap (λ sapi. record { sapi = sapi; command = a.command; tei = a.tei }) (swapped-none a.sapi)

usual-fault : (fault : ReadFault) → fault_named 16 fault ≡ fault
usual-fault BadExtension = refl
usual-fault (Undefined a) = ap Undefined (usual-address a)
usual-fault (WrongSize a) = ap WrongSize (usual-address a)
usual-fault Short = refl

usual-named : (r : Result Parts ReadFault) → named 16 r ≡ r
usual-named (Ok f) = ap (λ a. Ok (record { address = a; control = f.control; info = f.info })) (usual-address f.address)
usual-named (Err fault) = ap Err (usual-fault fault)

pub usual-reading : (side : Side) (octets : List ℕ) → reading (record { side = side; sapi = 16 }) octets ≡ backwards.reading side octets
unfolding reading
usual-reading side octets = usual-named (backwards.reading side octets)
