-- The I-frames that may be delivered, and what is delivered, since the numbers of an establishment began.
use Rattle.std.specs.Prelude.{◌≡◌, ◌⊎◌, ℕ, ◌&&◌, not, nat_le, Bool, true, List, length, Option, None, Some, if◌then◌else◌}
use Rattle.lapd_seq.specs.declared.numbers.Seq.{Seq}
use Rattle.lapd_frame.specs.declared.controls.Control.{Control}
use Rattle.lapd_frame.specs.declared.controls.Control.TheVariants.{Information, Sabme, Ua}
use Rattle.model_link.specs.declared.states.State.TheVariants.{Established, AwaitingRelease}
use Rattle.model_link.specs.declared.terms.Terms.{Terms}
use Rattle.model_link.specs.Link.{Link, fresh, is_multiple_frame}
use Rattle.model_link.specs.Events.{frame, Event, received, cleared}
use Rattle.model_link.specs.Machine.{course}

-- An I-frame that came: its N(S) and its contents.
pub record Arrived : Type 0 where
  pub ns : Seq
  pub contents : List ℕ

abbrev pub information_of : Control → List ℕ → Option Arrived
information_of (Information ns nr p) octets = Some (record { ns = ns; contents = octets })
information_of other octets = None

abbrev pub information_in : Event → Option Arrived
information_in (received (frame f)) = information_of f.control f.info
information_in other = None

-- It is eligible where it has at most N201 octets and meets state 7 or 8 with own busy off.
abbrev pub is_eligible : Terms → Link → Arrived → Bool
is_eligible t l i = nat_le (length i.contents) t.n201 && is_multiple_frame l.state && not l.own_busy

abbrev pub eligible_of : Terms → Link → Option Arrived → Option Arrived
eligible_of t l None = None
eligible_of t l (Some i) = if is_eligible t l i then Some i else None

abbrev pub eligible : Terms → Event → Link → Option Arrived
eligible t e l = eligible_of t l (information_in e)

-- Whether the event is an establishment: the numbers begin anew.
abbrev pub restarts : Terms → Event → Link → Bool
restarts t e l = (course t e l).zeroed

-- The frames by which a link is established (clause 5.5.1.2): SABME, and UA with F=1, which answers one.
abbrev pub MayEstablish : Control → Type 0
MayEstablish (Sabme p) = Unit {0}
MayEstablish (Ua true) = Unit {0}
MayEstablish other = ⊥

-- After an establishment the link is in state 7 with its numbers zero, or in state 6 if a release was owed; after the end of its
-- TEI it is as one that begins.
pub record IsEstablished (control : Control) (l : Link) : Type 0 where
  pub by : MayEstablish control
  pub state : (l.state ≡ Established) ⊎ (l.state ≡ AwaitingRelease)
  pub a : l.a ≡ 0
  pub s : l.s ≡ 0
  pub r : l.r ≡ 0

abbrev pub Establishes : Event → Link → Type 0
Establishes (received (frame f)) l = IsEstablished f.control l
Establishes cleared l = l ≡ fresh
Establishes other l = ⊥
