-- Worked values: links and TEI management in an image. Each computes.
use Rattle.std.specs.Prelude.{◌≡◌, ◌+◌, [], ◌∷◌, ◌++◌, replicate, Some, true, false, refl}
use Rattle.lapd_seq.specs.Numbers.{seq}
use Rattle.lapd_frame.specs.declared.controls.Control.TheVariants.{ReceiveReady}
use Rattle.lapd_frame.specs.declared.readings.Reading.TheVariants.{Profile}
use Rattle.model_teis.specs.network.Machine.{Management}
use Rattle.model_teis.specs.declared.network.check.Period.TheVariants.{Second}
use Rattle.model_teis.specs.declared.network.messages.Message.TheVariants.{IdentityAssigned}
use Rattle.model_teis.specs.declared.terminal.messages.Message.TheVariants as terminals
use Rattle.model_teis.specs.declared.terminal.procedure.Procedure.TheVariants.{Asking}
use Rattle.model_link.specs.declared.states.State.TheVariants.{AwaitingEstablishment, Established}
use Rattle.model_link.specs.declared.timers.LinkTimer.TheVariants.{T200}
use Rattle.model_link.specs.Link.{Link, fresh}
use Rattle.model_line.specs.Line.{Own}
use Rattle.lapd_image.specs.Numbers.{number}
use Rattle.model_link.specs.Image.{link}
use Rattle.model_teis.specs.network.Image.{management}
use Rattle.model_line.specs.Image.{own}

-- The link of a TEI that has just come to the line: state 4, and all else 0.
fresh_link : link fresh ≡ 4 ∷ replicate 18 0
unfolding number
fresh_link = refl

-- A link in state 7, whose T200 runs: 130 contents were sent, of which the last is outstanding, and one more goes again.
-- It was established once, has received REJ once, and T200 has expired 300 times. It has received 257 I-frames and owes an
-- acknowledgement; and an RR that was asked for waits.
abbrev busy_link : Link
busy_link = record fresh {
  state = Established;
  contents = replicate 129 [] ++ (0x0A ∷ 0x0B ∷ []) ∷ (0x0C ∷ []) ∷ [];
  a = 129;
  s = 130;
  r = 257;
  again = 1;
  pending = true;
  running = Some T200;
  waiting = record { command = false; control = ReceiveReady (seq 257) true } ∷ [];
  counts = record { sent_again = 0; t200_expired = 300; rejects_sent = 0; rejects_received = 1; established = 1 };
}

busy_image : link busy_link
    ≡ 7 ∷ 40 ∷ 0 ∷ 1 ∷ 1 ∷ 1 ∷ 1
    ∷ 0 ∷ 0 ∷ 0x2C ∷ 0x01 ∷ 0 ∷ 0 ∷ 1 ∷ 0 ∷ 1 ∷ 0  -- what was counted
    ∷ 2 ∷ 2 ∷ 0 ∷ 0x0A ∷ 0x0B ∷ 1 ∷ 0 ∷ 0x0C ∷ 1 ∷ 0 ∷ 0x01 ∷ 0x03 ∷ []
unfolding number seq
busy_image = refl

-- A release is owed in state 5, while T200 runs.
owing_image : link (record fresh { state = AwaitingEstablishment; owed = true; running = Some T200 }) ≡ (5 + 64) ∷ 32 ∷ replicate 17 0
unfolding number
owing_image = refl

-- The network's side: the TEI 64 was assigned for Ri 1,000, and its answer waits; TEI 65 is in the second period of a check,
-- with a response in the first.
abbrev checking : Management
checking = record {
  reading = Profile;
  places = Some 64 ∷ Some 65 ∷ [];
  remembered = record { ri = 1000; tei = 64 } ∷ [];
  check = Some (record { tei = 65; period = Second; first = 1; second = 0 });
  to_check = false ∷ false ∷ [];
  waiting = IdentityAssigned 1000 64 ∷ [];
}

checking_image : management checking ≡ 1 ∷ 0xE8 ∷ 0x03 ∷ 64 ∷ 2 ∷ 65 ∷ 1 ∷ 0 ∷ 0 ∷ 1 ∷ 0x0F ∷ 0x03 ∷ 0xE8 ∷ 2 ∷ 129 ∷ []
unfolding number
checking_image = refl

-- A terminal that asks for a TEI the second time.
abbrev asking : Own
asking = record { number = 513; procedure = Some (Asking 65535 2); waiting = terminals.IdentityRequest 65535 ∷ [] }

asking_image : own asking ≡ 1 ∷ 2 ∷ 1 ∷ 2 ∷ 255 ∷ 255 ∷ 1 ∷ 0x0F ∷ 255 ∷ 255 ∷ 1 ∷ 255 ∷ []
unfolding number
asking_image = refl
