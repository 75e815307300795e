-- Lines that meet what the laws of what waits ask, and what those give.
use Rattle.laws_line.proofs.Vocabulary.{◌≡◌, None, ◌+◌, ◌≤◌, length, refl, arith, hears, request, fresh_line, Assign, after_sound, fresh_sound, IsSound, small, sabme_octets, poll_octets, before_poll, call_link, one_waits, asked, before_sabme, stream_frame}
use Rattle.model_line.specs.Config.{first_fault, sapi_fault}

pub in-range : first_fault small ≡ None
unfolding sapi_fault
in-range = refl

pub before-sound : IsSound small before_poll
before-sound =
    after_sound small in-range (hears (stream_frame sabme_octets)) before_sabme
    (after_sound small in-range (request (Assign 64)) (fresh_line small) (fresh_sound small in-range))

pub room : length (call_link before_poll).waiting + 1 ≤ 2
room = omega (arith, one_waits)

-- Behind the poll two frames wait: the second is taken within the calls that are enough for whatever waits,
pub asked-sound : IsSound small asked
asked-sound = after_sound small in-range (hears (stream_frame poll_octets)) before_poll before-sound
