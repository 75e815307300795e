-- Where all has gone in a call its two links are at rest, so that `Damaged` holds from there on.
use Rattle.std.specs.Prelude.{◌≡◌, ℕ, List, [], All}
use Rattle.lapd_frame.specs.declared.services.Service.{Service}
use Rattle.model_line.specs.declared.config.Config.{Config}
use Rattle.laws_wire.specs.Call.{CanCall}
use Rattle.laws_wire.specs.Wire.{Wire}
use Rattle.laws_order.specs.Order.{Past, Known, known, said_by, FaceInStep}
use Rattle.laws_order.specs.circuit.Circuit.{Endpoint, port_of, Circuit, StepAt, doing_all}
use Rattle.laws_order.specs.circuit.Damaged.{Endpoint as NoisyEndpoint, Noisy, HasReceived, as_wire}
use Rattle.laws_order.specs.circuit.Through.{calling, IsTalk, HasAllGone}

-- The two ends, as ends between which octets may be damaged from then on. What came is what the ports have received.
abbrev pub as_noisy_endpoint : Endpoint → NoisyEndpoint
as_noisy_endpoint s = record { card = s.card; line = s.line; way = []; came = (port_of s).received }

abbrev pub from_then_on : Circuit → Noisy
from_then_on w = record { near = as_noisy_endpoint w.near; far = as_noisy_endpoint w.far }

-- In step, and nothing of the link is on its way or waits.
abbrev pub AreSilent : Service → ℕ → Wire → Known → Known → Type 0
AreSilent service tei w n m = (said_by service tei w.near n ≡ []) × (said_by service tei w.far m ≡ [])

abbrev pub FaceAtRest : Service → ℕ → Wire → Type 0
FaceAtRest service tei w =
    (p : Past w.near) × (q : Past w.far) × (let n = known service tei w.near p in let m = known service tei w.far q in
    FaceInStep service tei w n m × AreSilent service tei w n m)

abbrev pub CallsComeToRest : Type 0
CallsComeToRest =
    (service : Service) (c d : Config) (line other tei : ℕ) (ds : List StepAt) → CanCall c line d other tei → All (IsTalk service tei) ds →
    let w = doing_all ds (calling service tei c line d other) in HasAllGone w → let v = from_then_on w in
    FaceAtRest service tei (as_wire v) × HasReceived v.near × HasReceived v.far
