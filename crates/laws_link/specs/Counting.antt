-- What the counts of a link are to say, counted from its events (profile).
use Rattle.std.specs.Prelude.{ℕ, ◌+◌, ◌==◌, min, Bool, true, false, not, ◌&&◌, List, [], ◌∷◌, if◌then◌else◌}
use Rattle.std.specs.List.{list_any}
use Rattle.std.specs.Option.{option_map_or}
use Rattle.lapd_frame.specs.declared.controls.Control.{Control}
use Rattle.lapd_frame.specs.declared.controls.Control.TheVariants.{Reject, Sabme, Ua}
use Rattle.model_link.specs.declared.counts.LinkCounts.{LinkCounts}
use Rattle.model_link.specs.declared.states.State.{State}
use Rattle.model_link.specs.declared.states.State.TheVariants.{TeiAssigned, AwaitingEstablishment, Established, TimerRecovery}
use Rattle.model_link.specs.declared.terms.Terms.{Terms}
use Rattle.model_link.specs.declared.timers.LinkTimer.TheVariants.{T200}
use Rattle.model_link.specs.Events.{frame, Event, received, expired, offer, cleared}
use Rattle.model_link.specs.Link.{Link, is_multiple_frame}
use Rattle.model_link.specs.Machine.{after, given}
use Rattle.model_link.specs.Sound.{is_information}
use Rattle.model_link.specs.Told.{runs}

abbrev pub is_rej : Control → Bool
is_rej (Reject nr pf) = true
is_rej other = false

-- A frame that establishes the link in this state: SABME, and in state 5 the UA that answers one (clauses 5.5.1.2 and 5.7),
-- unless a release is owed (annex B, which the bit says).
abbrev pub establishes_in : State → Bool → Control → Bool
establishes_in TeiAssigned owed (Sabme p) = true
establishes_in AwaitingEstablishment owed (Ua true) = not owed
establishes_in Established owed (Sabme p) = true
establishes_in TimerRecovery owed (Sabme p) = true
establishes_in here owed other = false

-- An event is the expiry of T200, which runs; a REJ frame that is received in state 7 or 8; an establishment.
abbrev pub is_t200 : Event → Link → Bool
is_t200 (expired T200) l = runs T200 l.running
is_t200 other l = false

abbrev pub receives_rej : Event → Link → Bool
receives_rej (received (frame f)) l = is_rej f.control && is_multiple_frame l.state
receives_rej other l = false

abbrev pub establishes : Event → Link → Bool
establishes (received (frame f)) l = establishes_in l.state l.owed f.control
establishes other l = false

-- A REJ frame is sent; an I-frame is sent, whose number is V(S).
abbrev pub sends_rej : Terms → Event → Link → Bool
sends_rej t offer l = option_map_or (λ g. is_rej g.frame.control) (given t l) false
sends_rej t other l = false

abbrev pub sends_information : Terms → Event → Link → Bool
sends_information t offer l = option_map_or (λ g. is_information g.frame.control) (given t l) false
sends_information t other l = false

-- What happened since the link began, and the numbers of the I-frames that were sent since it was established last.
pub record Tally : Type 0 where
  pub sent_again : ℕ
  pub t200_expired : ℕ
  pub rejects_sent : ℕ
  pub rejects_received : ℕ
  pub established : ℕ
  pub numbers : List ℕ

abbrev pub nothing_yet : Tally
nothing_yet = record { sent_again = 0; t200_expired = 0; rejects_sent = 0; rejects_received = 0; established = 0; numbers = [] }

abbrev pub one_if : Bool → ℕ → ℕ
one_if b n = if b then n + 1 else n

-- An I-frame is sent again where its number is among those that were sent.
abbrev pub with_event : Terms → Event → Link → Tally → Tally
with_event t cleared l n = nothing_yet
with_event t e l n = record {
  sent_again = one_if (sends_information t e l && list_any (λ i. i == l.s) n.numbers) n.sent_again;
  t200_expired = one_if (is_t200 e l) n.t200_expired;
  rejects_sent = one_if (sends_rej t e l) n.rejects_sent;
  rejects_received = one_if (receives_rej e l) n.rejects_received;
  established = one_if (establishes e l) n.established;
  numbers = if establishes e l then [] else if sends_information t e l then l.s ∷ n.numbers else n.numbers;
}

unfoldable pub tally : Terms → List Event → Link → Tally → Tally
tally t [] l n = n
tally t (e ∷ es) l n = tally t es (after t e l) (with_event t e l n)

-- Each number, but 65535 at most.
abbrev pub at_most : Tally → LinkCounts
at_most n = record {
  sent_again = min n.sent_again 65535;
  t200_expired = min n.t200_expired 65535;
  rejects_sent = min n.rejects_sent 65535;
  rejects_received = min n.rejects_received 65535;
  established = min n.established 65535;
}
