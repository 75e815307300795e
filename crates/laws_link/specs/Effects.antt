-- What comes of a request that is granted.
use Rattle.std.specs.Prelude.{◌≡◌, ◌⊎◌, ℕ, ◌≤◌, Bool, true, false, not, List, [], ◌∷◌, ◌++◌, length, Some}
use Rattle.lapd_seq.specs.Numbers.{seq}
use Rattle.lapd_frame.specs.declared.controls.Control.TheVariants.{ReceiveReady, ReceiveNotReady, Sabme, Disc}
use Rattle.lapd_frame.specs.declared.notes.Note.{Note}
use Rattle.lapd_frame.specs.declared.notes.Note.TheVariants as notes
use Rattle.lapd_frame.specs.declared.readings.Reading.{Reading}
use Rattle.lapd_frame.specs.declared.readings.Reading.TheVariants.{Profile, AnnexB}
use Rattle.model_link.specs.declared.states.State.{State}
use Rattle.model_link.specs.declared.states.State.TheVariants.{TeiAssigned, AwaitingEstablishment, AwaitingRelease, Established, TimerRecovery}
use Rattle.model_link.specs.declared.frames.ControlFrame.{ControlFrame}
use Rattle.model_link.specs.declared.timers.LinkTimer.TheVariants.{T200}
use Rattle.model_link.specs.declared.terms.Terms.{Terms}
use Rattle.model_link.specs.Link.{Link, queue_of}
use Rattle.model_link.specs.Events.{Request, Establish, Release, Data, SetBusy, ClearBusy}

-- One frame more waits, the last; or as many waited as may, and it is told as lost.
abbrev pub Puts : Terms → ControlFrame → Link → Link → ℕ → Type 0
Puts t f before after lost = (after.waiting ≡ before.waiting ++ f ∷ []) ⊎ ((t.control ≤ length before.waiting) × (1 ≤ lost))

-- The link awaits the answer to a command: T200 runs, and the command was not repeated yet.
pub record Awaits (t : Terms) (state : State) (f : ControlFrame) (before after : Link) (lost : ℕ) : Type 0 where
  pub state_is : after.state ≡ state
  pub waits : Puts t f before after lost
  pub timed : after.running ≡ Some T200
  pub repeats : after.repeats ≡ 0

-- By annex B layer 3 may ask in state 5, too: for the establishment, or for the release, which is owed then. The link stays
-- there, nothing is kept, put or told, and T200 runs on.
pub record IsDecided (establish : Bool) (before after : Link) (ns : List Note) (lost : ℕ) : Type 0 where
  pub state_is : after.state ≡ AwaitingEstablishment
  pub asked : after.asked ≡ establish
  pub owed : after.owed ≡ not establish
  pub emptied : queue_of after ≡ []
  pub waiting : after.waiting ≡ before.waiting
  pub running : after.running ≡ before.running
  pub repeats : after.repeats ≡ before.repeats
  pub no_note : ns ≡ []
  pub none_lost : lost ≡ 0

abbrev pub Decides : Reading → Bool → Link → Link → List Note → ℕ → Type 0
Decides Profile establish before after ns lost = ⊥
Decides AnnexB establish before after ns lost = IsDecided establish before after ns lost

-- DL-ESTABLISH: SABME with P=1 (Q.921 clause 5.5.1.1).
pub record IsAsked (t : Terms) (before after : Link) (lost : ℕ) : Type 0 where
  pub awaits : Awaits t AwaitingEstablishment (record { command = true; control = Sabme true }) before after lost
  pub asked : after.asked ≡ true

abbrev pub IsAskedIn : State → Terms → Link → Link → List Note → ℕ → Type 0
IsAskedIn TeiAssigned t before after ns lost = IsAsked t before after lost
IsAskedIn AwaitingEstablishment t before after ns lost = Decides t.reading true before after ns lost
IsAskedIn other t before after ns lost = ⊥

-- DL-RELEASE: in state 4 it is confirmed at once; in states 7 and 8 DISC with P=1, and nothing is kept (clause 5.5.3.2).
abbrev pub IsReleasedIn : State → Terms → Link → Link → List Note → ℕ → Type 0
IsReleasedIn TeiAssigned t before after ns lost =
    (after.state ≡ TeiAssigned) × (ns ≡ notes.ReleaseConfirm t.service t.tei ∷ [])
IsReleasedIn AwaitingEstablishment t before after ns lost = Decides t.reading false before after ns lost
IsReleasedIn AwaitingRelease t before after ns lost = ⊥
IsReleasedIn Established t before after ns lost =
    Awaits t AwaitingRelease (record { command = true; control = Disc true }) before after lost × (queue_of after ≡ [])
IsReleasedIn TimerRecovery t before after ns lost =
    Awaits t AwaitingRelease (record { command = true; control = Disc true }) before after lost × (queue_of after ≡ [])

-- Own busy begins, with RNR, or ends, with RR, where it did not before: responses with F=0 and N(R) = V(R) (clause 5.6.6).
pub record IsBusy (t : Terms) (before after : Link) (lost : ℕ) : Type 0 where
  pub busy : after.own_busy ≡ true
  pub told : before.own_busy ≡ false → Puts t (record { command = false; control = ReceiveNotReady (seq before.r) false }) before after lost

pub record IsFree (t : Terms) (before after : Link) (lost : ℕ) : Type 0 where
  pub free : after.own_busy ≡ false
  pub told : before.own_busy ≡ true → Puts t (record { command = false; control = ReceiveReady (seq before.r) false }) before after lost

-- DL-DATA: the contents are kept, behind what was kept, and nothing is told (clause 5.6.1).
pub record IsQueued (octets : List ℕ) (before after : Link) (ns : List Note) : Type 0 where
  pub kept : queue_of after ≡ queue_of before ++ octets ∷ []
  pub no_note : ns ≡ []

abbrev pub TakesEffect : Terms → Request → Link → Link → List Note → ℕ → Type 0
TakesEffect t Establish before after ns lost = IsAskedIn before.state t before after ns lost
TakesEffect t Release before after ns lost = IsReleasedIn before.state t before after ns lost
TakesEffect t (Data octets) before after ns lost = IsQueued octets before after ns
TakesEffect t SetBusy before after ns lost = IsBusy t before after lost
TakesEffect t ClearBusy before after ns lost = IsFree t before after lost
