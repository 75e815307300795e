-- How many octets a call takes: each end's line runs at the same rate, an octet a beat.
use Rattle.std.specs.Prelude.{◌≡◌, ◌≤◌, ℕ, zero, suc, ◌+◌, ◌*◌, ◌/◌, Bool, List, [], ◌∷◌, length, All, if◌then◌else◌}
use Rattle.lapd_frame.specs.declared.services.Service.{Service}
use Rattle.model_line.specs.declared.config.Config.{Config}
use Rattle.model_card.specs.ports.Pulls.{longest_text}
use Rattle.laws_wire.specs.Call.{CanCall, confirmed, told_first}
use Rattle.laws_order.specs.circuit.Circuit.{Circuit, sends, receives, StepAt, at_near, at_far, doing_all}
use Rattle.laws_order.specs.circuit.Through.{calling, IsTalk, both_call, all_told}

-- A beat: each end's next octet is pulled, and then the first octet on the way to each end is heard.
abbrev pub beat : List StepAt
beat = at_near sends ∷ at_far sends ∷ at_near receives ∷ at_far receives ∷ []

unfoldable pub beats : ℕ → Circuit → Circuit
beats zero w = w
beats (suc n) w = beats n (doing_all beat w)

-- The octets in which the longest frame of a configuration goes, wherever it begins: with its check, a 0 stuffed after every
-- fifth bit, a closing flag, and an octet cut at either end (Q.921 clauses 2.2, 2.6, 2.7 and 5.9.3).
abbrev pub longest : ℕ → ℕ
longest n201 = longest_text n201 / 8 + 1

-- So many beats are enough behind the last request, where at most so many octets are on their way as it is made, one end calls or
-- both, and so much data was granted: for each frame that is given and heard, of which there are two for each end that calls and
-- two for each request, the longest frame before it, the frame itself, and the way.
abbrev pub enough_beats : ℕ → ℕ → Bool → ℕ → ℕ
enough_beats n201 way both granted = ((if both then 4 else 2) + 2 * granted) * (longest n201 + (longest n201 + way))

-- What was granted in the whole call.
abbrev pub granted_of : Circuit → ℕ
granted_of w = length w.near.granted + length w.far.granted

-- Then each layer 3 was told all.
pub record IsToldAll (service : Service) (tei : ℕ) (both : Bool) (w : Circuit) : Type 0 where
  pub near : w.near.told ≡ all_told service tei (confirmed service tei) w.far
  pub far : w.far.told ≡ all_told service tei (told_first service tei both) w.near

abbrev pub AllIsToldInBeats : Type 0
AllIsToldInBeats =
    (service : Service) (c d : Config) (line other tei way n : ℕ) (ds : List StepAt) → CanCall c line d other tei →
    All (IsTalk service tei) ds → let begun = calling service tei c line d other in let w = doing_all ds begun in
    length w.near.way ≤ way → length w.far.way ≤ way → enough_beats c.n201 way (both_call ds begun) (granted_of w) ≤ n →
    IsToldAll service tei (both_call ds begun) (beats n w)
