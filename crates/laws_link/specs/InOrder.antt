-- Which frame a link gives, of what waits.
use Rattle.std.specs.Prelude.{◌≡◌, ◌⊎◌, true, false, [], ◌∷◌}
use Rattle.lapd_seq.specs.Numbers.{seq}
use Rattle.lapd_frame.specs.declared.controls.Control.TheVariants.{Information, ReceiveReady}
use Rattle.model_link.specs.declared.frames.ControlFrame.{ControlFrame}
use Rattle.model_link.specs.declared.terms.Terms.{Terms}
use Rattle.model_link.specs.Link.{Link}
use Rattle.model_link.specs.Sound.{is_information}
use Rattle.laws_link.specs.Sending.{MayGo}

-- The control frame that has waited longest, which waits no more, and is no I-frame;
pub record IsOldest (before after : Link) (frame : ControlFrame) : Type 0 where
  pub waited : before.waiting ≡ frame ∷ after.waiting
  pub bare : is_information frame.control ≡ false
  pub owed : after.pending ≡ before.pending

-- where none waits and one may go, an I-frame: a command with N(S) = V(S), N(R) = V(R) and P=0, which acknowledges what
-- was received (Q.921 clauses 5.6.1 and 5.6.2);
pub record IsInformation (t : Terms) (before after : Link) (frame : ControlFrame) : Type 0 where
  pub none : before.waiting ≡ []
  pub may : MayGo t before
  pub is : frame ≡ record { command = true; control = Information (seq before.s) (seq before.r) false }
  pub rest : after.waiting ≡ []
  pub owed : after.pending ≡ false

-- where none waits and none may go, the acknowledgement that is owed: RR with N(R) = V(R) and F=0 (clause 5.6.3.1).
pub record IsAcknowledgement (t : Terms) (before after : Link) (frame : ControlFrame) : Type 0 where
  pub none : before.waiting ≡ []
  pub may_not : MayGo t before → ⊥
  pub was_owed : before.pending ≡ true
  pub is : frame ≡ record { command = false; control = ReceiveReady (seq before.r) false }
  pub rest : after.waiting ≡ []
  pub owed : after.pending ≡ false

abbrev pub IsInOrder : Terms → Link → Link → ControlFrame → Type 0
IsInOrder t before after frame = IsOldest before after frame ⊎ IsInformation t before after frame ⊎ IsAcknowledgement t before after frame
