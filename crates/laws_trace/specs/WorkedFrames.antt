-- Worked values: frames that begin, which the grammar reads, and ones that break the laws.
use Rattle.std.specs.Prelude.{◌≡◌, ℕ, ◌<◌, List, [], ◌∷◌, None, All, true, false, refl}
use Rattle.std.proofs.Common.{arith, lit<}
use Rattle.std.proofs.lemmas.List.Elements.{All-nil, All-cons, All-head, All-tail}
use Rattle.model_bits.specs.Stream.{frame}
use Rattle.model_bits.specs.StuffingLaws.{AreOctets}
use Rattle.lapd_frame.specs.declared.controls.Control.{Control}
use Rattle.lapd_frame.specs.declared.controls.Control.TheVariants as control
use Rattle.lapd_frame.specs.declared.controls.Control.TheVariants.{Ui}
use Rattle.lapd_frame.specs.Grammar.{Parts}
use Rattle.lapd_frame.specs.Reading.{reading, header_of, control_of, unnumbered_of}
use Rattle.lapd_frame.specs.Senders.{exchanged, reading as read_by, spelling}
use Rattle.model_teis.specs.network.Events as teis
use Rattle.model_line.specs.Machine as lines
use Rattle.model_card.specs.Card.{fresh}
use Rattle.model_card.specs.Event.{Event}
use Rattle.model_card.specs.Run.{moments}
use Rattle.model_card.specs.Takes.{frames_given}
use Rattle.laws_line.specs.card.Worked.{usual, on_0}
use Rattle.laws_trace.specs.FramesAreRead.{GivesOctets, IsSpelled}
use Rattle.laws_trace.specs.Trace.{Seen, heard, begun, noted, granted, lost, trace_of, frames_begun}
use Rattle.laws_trace.specs.WorkedUnits.{unit, calls, frame_comes, spelled}
use Rattle.model_line.specs.Taken.{own_side}

-- Two UI frames begin.
two_begun : frames_given 0 (moments (fresh usual) (on_0 (unit 1) ∷ on_0 (unit 2) ∷ calls 2)) ≡ spelled 1 ∷ spelled 2 ∷ []
unfolding exchanged moments lines.after lines.answer lines.takes_slot
two_begun = refl

-- Each of the two is one of the grammar, and of octets.
unit_parts : ℕ → Parts
unit_parts n = record { address = record { sapi = 0; command = true; tei = 127 }; control = Ui false; info = n ∷ [] }

is_spelled : (n : ℕ) → IsSpelled usual (spelled n)
unfolding exchanged unit_parts
is_spelled n = (unit_parts n, record { is_frame = record { sapi = lit< tt; tei = lit< tt; kind = refl; size = refl }; octets_are = refl }, refl)

-- So it is where all that is granted and heard consists of octets.
abbrev IsOctet : ℕ → Type 0
IsOctet octet = octet < 256

abbrev sabme : List ℕ
sabme = 0x00 ∷ 0x81 ∷ 0x7F ∷ []

abbrev of_octets : List Event
of_octets = frame_comes sabme ∷ on_0 (unit 0xAB) ∷ calls 1

abbrev quiet : List Seen → List Seen
quiet more = noted [] None ∷ lost 0 ∷ more

abbrev last : List Seen
last = begun (spelled 0xAB) ∷ []

octets_seen : trace_of usual of_octets 0 ≡ heard (frame sabme) ∷ quiet (granted (unit 0xAB) ∷ quiet last)
unfolding moments lines.after lines.answer lines.takes_slot teis.course teis.refusal exchanged read_by reading header_of control_of unnumbered_of
octets_seen = refl

sabme_octets : AreOctets sabme
sabme_octets = All-cons IsOctet 0x00 (0x81 ∷ 0x7F ∷ []) (lit< tt) (All-cons IsOctet 0x81 (0x7F ∷ []) (lit< tt) (All-cons IsOctet 0x7F [] (lit< tt) (All-nil IsOctet)))

quiet_octets : (more : List Seen) → All GivesOctets more → All GivesOctets (quiet more)
quiet_octets more all = All-cons GivesOctets (noted [] None) (lost 0 ∷ more) tt (All-cons GivesOctets (lost 0) more tt all)

all_octets : All GivesOctets (heard (frame sabme) ∷ quiet (granted (unit 0xAB) ∷ quiet last))
all_octets =
    All-cons GivesOctets (heard (frame sabme)) (quiet (granted (unit 0xAB) ∷ quiet last)) sabme_octets
    (quiet_octets (granted (unit 0xAB) ∷ quiet last)
    (All-cons GivesOctets (granted (unit 0xAB)) (quiet last) (All-cons IsOctet 0xAB [] (lit< tt) (All-nil IsOctet))
    (quiet_octets last (All-cons GivesOctets (begun (spelled 0xAB)) [] tt (All-nil GivesOctets)))))

octets_begin : AreOctets (spelled 0xAB)
octets_begin =
    All-cons IsOctet 0x02 (0xFF ∷ 0x03 ∷ 0xAB ∷ []) (lit< tt) (All-cons IsOctet 0xFF (0x03 ∷ 0xAB ∷ []) (lit< tt)
    (All-cons IsOctet 0x03 (0xAB ∷ []) (lit< tt) (All-cons IsOctet 0xAB [] (lit< tt) (All-nil IsOctet))))

-- Where a number is heard that is no octet, as that of a terminal that asks for a TEI, one may begin.
one_begins : frames_begun (trace_of usual (frame_comes (0xFC ∷ 0xFF ∷ 0x03 ∷ 0x0F ∷ 300 ∷ 0x34 ∷ 0x01 ∷ 0xFF ∷ []) ∷ calls 1) 0)
    ≡ (0xFE ∷ 0xFF ∷ 0x03 ∷ 0x0F ∷ 300 ∷ 0x34 ∷ 0x02 ∷ 0x81 ∷ []) ∷ []
unfolding moments lines.after lines.answer lines.takes_slot teis.course teis.refusal exchanged read_by reading header_of control_of unnumbered_of
one_begins = refl

-- Where two octets begin as a frame, or a number that is no octet, the laws are broken.
no_frame : IsSpelled usual (0x02 ∷ 0xFF ∷ []) → ⊥
no_frame (f, h, served) = none f.control h.octets_are
  where
    none : (k : Control) → (0x02 ∷ 0xFF ∷ []) ≡ spelling (own_side usual) (record { address = f.address; control = k; info = f.info }) → ⊥
    none (control.Information ns nr p) e = cc e
    none (control.ReceiveReady nr pf) e = cc e
    none (control.ReceiveNotReady nr pf) e = cc e
    none (control.Reject nr pf) e = cc e
    none (control.Sabme p) e = cc e
    none (control.Disc p) e = cc e
    none (control.Ui p) e = cc e
    none (control.Ua f) e = cc e
    none (control.Dm f) e = cc e
    none (control.Frmr f) e = cc e
    none (control.Xid pf) e = cc e

no_octet : All AreOctets (spelled 300 ∷ []) → ⊥
no_octet h = let behind = All-head AreOctets (spelled 300) [] h in
    let last : 300 < 256 = All-head (λ octet. octet < 256) 300 [] (All-tail (λ octet. octet < 256) 0x03 (300 ∷ []) (All-tail (λ octet. octet < 256) 0xFF (0x03 ∷ 300 ∷ []) (All-tail (λ octet. octet < 256) 0x02 (0xFF ∷ 0x03 ∷ 300 ∷ []) behind))) in
    omega (arith, last)
