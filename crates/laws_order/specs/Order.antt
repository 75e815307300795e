-- What is told at each of two cards is in order, whatever else happens.
use Rattle.std.specs.Prelude.{◌≡◌, ◌≤◌, ◌<◌, ℕ, ◌+◌, ◌-◌, ◌==◌, ◌&&◌, not, Bool, true, false, List, [], ◌∷◌, ◌++◌, length, map, take, drop, fold, flat_map, slice_get, Option, Some, All, option_to_list, if◌then◌else◌}
use Rattle.std.specs.List.{list_any}
use Rattle.std.specs.Option.{option_map_or}
use Rattle.lapd_frame.specs.declared.controls.Control.{Control}
use Rattle.lapd_frame.specs.declared.controls.Control.TheVariants.{Information, ReceiveReady, ReceiveNotReady, Reject}
use Rattle.lapd_frame.specs.declared.notes.Note.{Note}
use Rattle.lapd_frame.specs.declared.notes.Note.TheVariants.{EstablishIndication, EstablishConfirm, ReleaseIndication, ReleaseConfirm, Error}
use Rattle.lapd_frame.specs.declared.senders.Sender.{Sender}
use Rattle.lapd_frame.specs.declared.services.Service.{Service}
use Rattle.lapd_frame.specs.Grammar.{Parts}
use Rattle.lapd_seq.specs.Numbers.{seq}
use Rattle.lapd_seq.specs.declared.numbers.Seq.{Seq}
use Rattle.model_link.specs.declared.frames.ControlFrame.{ControlFrame}
use Rattle.model_link.specs.Link.{frame_of}
use Rattle.model_line.specs.declared.config.Config.{Config}
use Rattle.model_line.specs.Heard.{heard_side}
use Rattle.model_line.specs.Line.{state_of, terms, window}
use Rattle.model_line.specs.Request.{Request, Release}
use Rattle.model_line.specs.Taken.{own_side}
use Rattle.model_card.specs.Card.{fresh}
use Rattle.model_card.specs.Event as card
use Rattle.model_card.specs.Run.{Moment, moments, after_all, AreAtLines}
use Rattle.laws_line.specs.Heard.{is_data_of}
use Rattle.laws_link.specs.Steady.{is_anew}
use Rattle.laws_trace.specs.News.{brings, is_sabme}
use Rattle.laws_trace.specs.Observer.{View, at_first, steps, views}
use Rattle.laws_trace.specs.Outgoing.{outgoing_of}
use Rattle.laws_trace.specs.Trace.{is_own, is_up, data_asked, Seen, noted, granted, IsFront}
use Rattle.laws_wire.specs.Call.{IsLineOf}
use Rattle.laws_wire.specs.Facing.{line_of}
use Rattle.laws_wire.specs.Wire.{Endpoint, Wire}
use Rattle.laws_order.specs.AnySteps.{AnyStepAt, IsPossible, of_link_at, seen_near, seen_far}

-- The contents that layer 3 of an end was granted to send by the link of a service with a TEI, and those that it was told of,
-- in what is seen there.
abbrev pub granted_in : Service → ℕ → Seen → List (List ℕ)
granted_in service tei (granted r) = data_asked service tei r
granted_in service tei other = []

abbrev pub data_granted : Service → ℕ → List Seen → List (List ℕ)
data_granted service tei t = flat_map (granted_in service tei) t

abbrev pub noted_in : Service → ℕ → Seen → List (List ℕ)
noted_in service tei (noted ns contents) = if list_any (is_data_of service tei) ns then option_to_list contents else []
noted_in service tei other = []

abbrev pub data_noted : Service → ℕ → List Seen → List (List ℕ)
data_noted service tei t = flat_map (noted_in service tei) t

-- What ends an establishment, or renews it: its release is granted; layer 3 is told of an establishment or a release; or layer
-- management is told of an error other than A, C, D, G and H, as the link is then established anew (Q.921 clauses 4.1.1.1, 4.1.1.2,
-- 5.7.1 and 5.8.2 to 5.8.7, appendix II). Error B, of DM with F=1, tallies in state 7, too, though it renews the link in state 8 alone.
abbrev pub ends_by_note : Service → ℕ → Note → Bool
ends_by_note service tei (EstablishIndication of by) = is_own service tei of by
ends_by_note service tei (EstablishConfirm of by) = is_own service tei of by
ends_by_note service tei (ReleaseIndication of by) = is_own service tei of by
ends_by_note service tei (ReleaseConfirm of by) = is_own service tei of by
ends_by_note service tei (Error of by why) = is_own service tei of by && is_anew why
ends_by_note service tei other = false

abbrev pub ends_by_request : Service → ℕ → Request → Bool
ends_by_request service tei (Release of by) = is_own service tei of by
ends_by_request service tei other = false

abbrev pub ends_by : Service → ℕ → Seen → Bool
ends_by service tei (noted ns contents) = list_any (ends_by_note service tei) ns
ends_by service tei (granted r) = ends_by_request service tei r
ends_by service tei other = false

abbrev pub StaysEstablished : Service → ℕ → List Seen → Type 0
StaysEstablished service tei t = list_any (ends_by service tei) t ≡ false

-- An end is known by its past: its card has come about by events from its start, as every card has.
pub record Past (s : Endpoint) : Type 0 where
  pub events : List card.Event
  pub at_lines : AreAtLines (fresh s.card.config) events
  pub is : s.card ≡ after_all (fresh s.card.config) events
  pub line : IsLineOf s.card.config s.line

-- How many contents of a link the other end has acknowledged since the numbers began: V(A), counted on beyond 127. They begin
-- anew by SABME, and where the link leaves states 7 and 8 (Q.921 clauses 3.5.2.3, 5.5.1.2 and 5.7).
pub record Tally : Type 0 where
  pub view : View
  pub acknowledged : ℕ

abbrev pub no_tally : Tally
no_tally = record { view = at_first; acknowledged = 0 }

abbrev pub tallies : Config → Service → ℕ → ℕ → Tally → Moment → Tally
tallies c service tei number o m =
    let was = o.view.link in let now = views c service tei number o.view m in
    let anew = m.event.line == number && brings is_sabme c service tei m.event.what in
    record {
      view = now;
      acknowledged =
          if is_up was.state && is_up now.link.state && not anew then o.acknowledged + steps was.acknowledged now.link.acknowledged else 0;
    }

abbrev pub tally_of : Config → Service → ℕ → ℕ → List card.Event → Tally
tally_of c service tei number events = fold (tallies c service tei number) no_tally (moments (fresh c) events)

-- What whoever watches the line of an end knows of a link there, from the card's start on (`Observer` and `Outgoing` of laws_trace): how
-- many contents were told since the numbers began, and how many acknowledged; those that it keeps, which are not; and the control frames
-- that wait.
pub record Known : Type 0 where
  pub told : ℕ
  pub acknowledged : ℕ
  pub kept : List (List ℕ)
  pub waiting : List ControlFrame

abbrev pub known_by : Config → Service → ℕ → ℕ → List card.Event → Known
known_by c service tei number events =
    let o = outgoing_of c service tei number events in
    record { told = o.view.link.count; acknowledged = (tally_of c service tei number events).acknowledged; kept = o.kept; waiting = o.waiting }

abbrev pub known : Service → ℕ → (s : Endpoint) → Past s → Known
known service tei s p = known_by s.card.config service tei s.line p.events

-- What is on its way of a link, and, behind it, what waits.
abbrev pub of_link_on : Service → ℕ → Sender → List (List ℕ) → List Parts
of_link_on service tei sender way = flat_map (of_link_at service tei sender) way

abbrev pub said_by : Service → ℕ → Endpoint → Known → List Parts
said_by service tei s n = of_link_on service tei (own_side s.card.config) s.way ++ map (frame_of (terms s.card.config service tei)) n.waiting

-- A frame is in step: N(R) means r, and an I-frame carries contents that are kept, of the number that N(S) means, within the window.
abbrev pub IsKept : ℕ → Known → Seq → List ℕ → Type 0
IsKept k n ns contents =
    (place : ℕ) × (ns ≡ seq (n.acknowledged + place)) × (place < k) × (slice_get n.kept place ≡ Some contents)

abbrev pub IsOfStep : ℕ → Known → ℕ → List ℕ → Control → Type 0
IsOfStep k n r contents (Information ns nr p) = IsKept k n ns contents × (nr ≡ seq r)
IsOfStep k n r contents (ReceiveReady nr pf) = nr ≡ seq r
IsOfStep k n r contents (ReceiveNotReady nr pf) = nr ≡ seq r
IsOfStep k n r contents (Reject nr pf) = nr ≡ seq r
IsOfStep k n r contents other = ⊥

-- And what the N(R) of one frame after another mean rises from what the other end has of it to what was told.
abbrev pub AreOfStep : ℕ → Known → ℕ → List Parts → Type 0
AreOfStep k n low [] = low ≤ n.told
AreOfStep k n low (f ∷ fs) = (r : ℕ) × (low ≤ r) × IsOfStep k n r f.info f.control × AreOfStep k n r fs

-- At an end `Card::state` tells 7 or 8; all that is on its way or waits is in step; and the other end was told of no more than what it has
-- acknowledged and what of those that are kept here is within the window.
abbrev pub state_here : Service → ℕ → Endpoint → Option ℕ
state_here service tei s = state_of service tei (line_of s)

pub record IsInStep (service : Service) (tei : ℕ) (s : Endpoint) (n m : Known) : Type 0 where
  pub up : option_map_or is_up (state_here service tei s) false ≡ true
  pub said : AreOfStep (window s.card.config service) n m.acknowledged (said_by service tei s n)
  pub kept : m.told ≤ n.acknowledged + length (take (window s.card.config service) n.kept)

-- Two cards of the two sides face each other so: as an establishment leaves them, with V(S) and V(R) zero, whatever of it is on its way
-- already, and whatever waits; or later, also in the midst of data.
abbrev pub FaceInStep : Service → ℕ → Wire → Known → Known → Type 0
FaceInStep service tei w n m =
    IsInStep service tei w.near n m × IsInStep service tei w.far m n × (own_side w.far.card.config ≡ heard_side w.near.card.config)

-- The contents that the link at the first end keeps, sent or not, and that the other was not told of.
abbrev pub kept_by : Known → Known → List (List ℕ)
kept_by n m = drop (m.told - n.acknowledged) n.kept

-- As long as the establishment neither ends nor is renewed at an end, the contents that this end is told of are a beginning of those
-- that the other kept for it then, and of those that it was granted to send since, in order, each once.
abbrev pub IsToldInOrder : Service → ℕ → List (List ℕ) → List Seen → List Seen → Type 0
IsToldInOrder service tei kept there here =
    StaysEstablished service tei here → IsFront (data_noted service tei here) (kept ++ data_granted service tei there)

-- So it is at either end, whatever becomes of the establishment at the other. Where layer 3 of one is granted the release, with anything
-- waiting or on its way, the other is told so up to its own end.
abbrev pub DeliveredInOrder : Type 0
DeliveredInOrder =
    (service : Service) (tei : ℕ) (w : Wire) (p : Past w.near) (q : Past w.far) (hs : List AnyStepAt) →
    let n = known service tei w.near p in let m = known service tei w.far q in
    FaceInStep service tei w n m → All (IsPossible service tei w) hs → let near = seen_near hs w in let far = seen_far hs w in
    IsToldInOrder service tei (kept_by m n) far near × IsToldInOrder service tei (kept_by n m) near far
