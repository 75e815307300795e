-- Worked values: whole images. Each computes.
use Rattle.std.specs.Prelude.{◌≡◌, nat_le, [], ◌∷◌, ◌++◌, replicate, None, Some, true, false, refl}
use Rattle.lapd_clock.specs.Timer.{T203, Call}
use Rattle.lapd_count.specs.Counters.{none_counted}
use Rattle.model_link.specs.Counts.{none_counted as none_of_link}
use Rattle.model_link.specs.declared.states.State.TheVariants.{Established}
use Rattle.model_link.specs.declared.timers.LinkTimer.TheVariants as running
use Rattle.model_link.specs.Link as links
use Rattle.model_line.specs.Line.{Line, fresh_line, with_link}
use Rattle.model_line.specs.Usual.{usual, least}
use Rattle.lapd_image.specs.Numbers.{number}
use Rattle.model_image.specs.Images.{Saved, begun, image_of}
use Rattle.model_line.specs.Most.{most_octets}

-- A fresh card of frames, of one line with room for one TEI.
abbrev least_card : Saved
least_card = begun false least None

least_image : image_of least_card
    ≡ 76 ∷ 65 ∷ 80 ∷ 68 ∷ 1 ∷ 0  -- "LAPD", version 1, a card of frames
    ∷ 0 ∷ 1 ∷ 1 ∷ 1 ∷ 1 ∷ 1 ∷ 1 ∷ 2 ∷ 0 ∷ 16 ∷ 1 ∷ 0 ∷ 8 ∷ 0  -- the configuration
    ∷ 255 ∷ 0 ∷ 0 ∷ 0 ∷ 0 ∷ 0 ∷ 0  -- a free place; nothing else
    ∷ (replicate 632 0 ++ 0 ∷ 0 ∷ [])  -- the counters; no link waits
unfolding number
least_image = refl

-- One of octets that keeps its own timers: TEI 64 came at moment 200. Its call control link came up at moment 500, and T203
-- is due at 10,500.
abbrev up : Line
up =
    let l = fresh_line least in
    with_link 0 (record links.fresh { state = Established; running = Some running.T203; counts = record none_of_link { established = 1 } })
    (record l { management = record l.management { places = Some 64 ∷ [] }; turn = 1 })

abbrev timed_card : Saved
timed_card = record {
  of_octets = true;
  card = record { config = least; lines = up ∷ [] };
  counted = none_counted ∷ [];
  waits = (false ∷ true ∷ []) ∷ [];
  clock = Some (record {
    lengths = record { t200 = 1000; t203 = 10000; t201 = 1000; t202 = 2000 };
    running = record { moment = 10500; line = 0; timer = T203 Call 64 } ∷ [];
    now = 500;
  });
  changed = (500 ∷ 200 ∷ []) ∷ [];
}

timed_image : image_of timed_card
    ≡ 76 ∷ 65 ∷ 80 ∷ 68 ∷ 1 ∷ 3
    ∷ 0 ∷ 1 ∷ 1 ∷ 1 ∷ 1 ∷ 1 ∷ 1 ∷ 2 ∷ 0 ∷ 16 ∷ 1 ∷ 0 ∷ 8 ∷ 0
    ∷ 64 ∷ 0 ∷ 0 ∷ 0 ∷ 0 ∷ 0 ∷ 1  -- TEI 64; the packet link is next
    ∷ 7 ∷ 64 ∷ 0 ∷ 0 ∷ 0 ∷ 0 ∷ 0 ∷ 0 ∷ 0 ∷ 0 ∷ 0 ∷ 0 ∷ 0 ∷ 0 ∷ 0 ∷ 1 ∷ 0 ∷ 0 ∷ 0  -- its call control link: state 7, T203 runs
    ∷ 4 ∷ 0 ∷ 0 ∷ 0 ∷ 0 ∷ 0 ∷ 0 ∷ 0 ∷ 0 ∷ 0 ∷ 0 ∷ 0 ∷ 0 ∷ 0 ∷ 0 ∷ 0 ∷ 0 ∷ 0 ∷ 0  -- and its packet link
    ∷ (replicate 632 0 ++ 2 ∷ 0  -- the packet link waits for room
    ∷ 0xE8 ∷ 0x03 ∷ 0 ∷ 0 ∷ 0x10 ∷ 0x27 ∷ 0 ∷ 0 ∷ 0xE8 ∷ 0x03 ∷ 0 ∷ 0 ∷ 0xD0 ∷ 0x07 ∷ 0 ∷ 0
    ∷ 0xF4 ∷ 0x01 ∷ 0 ∷ 0 ∷ 0 ∷ 0 ∷ 0 ∷ 0 ∷ 0x04 ∷ 0x29 ∷ 0 ∷ 0 ∷ 0 ∷ 0 ∷ 0 ∷ 0
    ∷ 0xF4 ∷ 0x01 ∷ 0 ∷ 0 ∷ 0 ∷ 0 ∷ 0 ∷ 0 ∷ 0xC8 ∷ 0 ∷ 0 ∷ 0 ∷ 0 ∷ 0 ∷ 0 ∷ 0 ∷ [])
unfolding number
timed_image = refl

-- So many octets at most has a card of one usual line, of eight terminals, without contents: with timers of its own, and
-- without. Where no control frame waits, it has at most 1,200 without them.
usual_line : most_octets (record usual { slots = 0 }) true ≡ 1493
usual_line = refl

untimed_line : most_octets (record usual { slots = 0 }) false ≡ 1205
untimed_line = refl

quiet_line : nat_le (most_octets (record usual { slots = 0; control = 0 }) false) 1200 ≡ true
quiet_line = refl
