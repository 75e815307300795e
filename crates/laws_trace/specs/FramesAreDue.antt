-- What is given of a link is due.
use Rattle.std.specs.Prelude.{◌≡◌, ◌==◌, ◌&&◌, ℕ, not, nat_lt, Bool, true, false, List, [], ◌∷◌, ◌++◌, map, take, drop, filter, if◌then◌else◌}
use Rattle.lapd_seq.specs.Numbers.{seq}
use Rattle.lapd_frame.specs.declared.controls.Control.{Control}
use Rattle.lapd_frame.specs.declared.controls.Control.TheVariants.{Information, ReceiveReady}
use Rattle.lapd_frame.specs.declared.services.Service.{Service}
use Rattle.lapd_frame.specs.declared.services.Service.TheVariants.{Call, Packet}
use Rattle.lapd_frame.specs.Senders.{spelling}
use Rattle.lapd_frame.specs.Services.{sapi_of}
use Rattle.model_link.specs.declared.frames.ControlFrame.{ControlFrame}
use Rattle.model_line.specs.declared.config.Config.{Config}
use Rattle.model_line.specs.Event.{next}
use Rattle.model_line.specs.Taken.{own_side}
use Rattle.model_card.specs.Event.{Event}
use Rattle.laws_trace.specs.LinkFrames.{is_frame_of}
use Rattle.laws_trace.specs.Managing.{is_on}
use Rattle.laws_trace.specs.Observer.{Observed, steps, moment_of}
use Rattle.laws_trace.specs.Outgoing.{Outgoing, outgoing_of}
use Rattle.laws_trace.specs.Trace.{frame_in, IsFront}

-- A frame of the link, with its SAPI and TEI (Q.921 clause 3.3).
abbrev pub text : Config → Service → ℕ → Bool → Control → List ℕ → List ℕ
text c service tei command control info =
    spelling (own_side c) (record { address = record { sapi = sapi_of service; command = command; tei = tei }; control = control; info = info })

-- I-frames may go in state 7, while the terminal is not busy, and fewer than k are outstanding (clauses 5.6.1 and 5.6.5). Each
-- service has its own k.
abbrev pub window : Config → Service → ℕ
window c Call = c.k
window c Packet = c.k16

abbrev pub may_go : Config → Service → Observed → Bool
may_go c service o = o.state == 7 && (not o.busy && nat_lt (steps o.acknowledged o.next) (window c service))

-- What a link offers next is the first of these: the control frames that wait, the oldest first; where I-frames may go, one
-- with N(S) = V(S), which acknowledges all that was told, with the first contents that have not gone, or are to go again: those
-- kept from V(S) on; and, where it is owed, an acknowledgement by itself, RR (clauses 3.5.2.1 to 3.5.2.6, 5.6.1 and 5.6.3.1).
abbrev pub offers : Config → Service → ℕ → Outgoing → List (List ℕ)
offers c service tei o =
    let l = o.view.link in
    let unsent = if may_go c service l then drop (steps l.acknowledged l.next) o.kept else [] in
    take 1 (map (λ (f : ControlFrame). text c service tei f.command f.control []) o.waiting
    ++ map (text c service tei true (Information (seq l.next) (seq l.count) false)) unsent
    ++ (if o.owes then text c service tei false (ReceiveReady (seq l.count) false) [] ∷ [] else []))

-- A call for the next frame, after whatever happened before, gives no frame of a link but what it offers;
abbrev pub GivenIsDue : Config → List Event → ℕ → Type 0
GivenIsDue c events number =
    (service : Service) (tei : ℕ) →
    IsFront (filter (is_frame_of c service tei) (frame_in (moment_of c events number next).answer)) (offers c service tei (outgoing_of c service tei number events))

-- and it gives none only where no link of a TEI on the line offers any.
abbrev pub DueIsGiven : Config → List Event → ℕ → Type 0
DueIsGiven c events number =
    (service : Service) (tei : ℕ) → let o = outgoing_of c service tei number events in
    frame_in (moment_of c events number next).answer ≡ [] → is_on tei o.view.teis ≡ true → offers c service tei o ≡ []
