-- What each call asks of a card, by its arguments.
use Rattle.std.specs.Prelude.{ℕ, ◌+◌, ◌==◌, nat_lt, List, [], ◌∷◌, Option, Some, None, is_none, Result, Ok, Err, if◌then◌else◌}
use Rattle.std.specs.List.{list_any}
use Rattle.lapd_frame.specs.declared.timers.Timer.{Timer}
use Rattle.model_card.specs.Card.{Card}
use Rattle.model_card.specs.Event.{at}
use Rattle.model_card.specs.ports.Event as octets
use Rattle.model_card.specs.ports.Port as port
use Rattle.model_line.specs.Event.{expiry, request}
use Rattle.model_line.specs.Request.{Request}
use Rattle.lapd_c.specs.declared.plain.timers.PlainTimer.{PlainTimer}
use Rattle.lapd_c.specs.CalledBy.{Asked, Happening, inside, at_port}
use Rattle.lapd_c.specs.Faults.{fault_in}
use Rattle.lapd_c.specs.Frames.{frame_comes, fails, goes, next_at}
use Rattle.lapd_c.specs.Reopened.{refused_place}
use Rattle.lapd_c.specs.Requests.{request_in}
use Rattle.lapd_c.specs.Statuses.{no_frame, wrong_length}
use Rattle.lapd_c.specs.Timers.{timer_in}
pub use Rattle.lapd_c.specs.Services.{if_ok}
use Rattle.lapd_c.specs.Wanted.{of_any, of_octets, of_frames, of_untimed}

-- After it no link waits for room that did not before.
abbrev pub none_waits : ℕ → Option ℕ
none_waits status = None

-- At a card of octets: an octet comes; the next one is called for.
abbrev pub octet_asked : ℕ → ℕ → Asked
octet_asked line octet = record {
  cards = of_octets;
  line = line;
  names = None;
  event = λ card. Ok (at_port (octets.at line (port.octet octet)));
  waits = none_waits;
}

abbrev pub pull_asked : ℕ → Asked
pull_asked line = record { cards = of_octets; line = line; names = None; event = λ card. Ok (at_port (octets.at line port.pull)); waits = none_waits }

-- At a card of frames: a frame comes; the controller tells a fault in place of one. And the next frame is called for, with room for
-- the longest.
abbrev pub frame_asked : ℕ → List ℕ → Asked
frame_asked line octets = record {
  cards = of_frames;
  line = line;
  names = None;
  event = λ card. Ok (inside (frame_comes line octets card));
  waits = none_waits;
}

abbrev pub failed_asked : ℕ → ℕ → Asked
failed_asked line cause = record {
  cards = of_frames;
  line = line;
  names = None;
  event = λ card. if_ok (λ fault. inside (fails line fault)) (fault_in cause);
  waits = none_waits;
}

abbrev pub next_with_room : ℕ → ℕ → Card → Result Happening ℕ
next_with_room line room card =
    if nat_lt room (card.config.n201 + 4) then Err wrong_length
    else if is_none (next_at line card) then Err no_frame
    else Ok (inside (goes line))

abbrev pub next_frame_asked : ℕ → ℕ → Asked
next_frame_asked line room = record { cards = of_frames; line = line; names = None; event = next_with_room line room; waits = none_waits }

-- At a card of either kind a timer expires, if its timers are the caller's. Layer 3 or management asks for something there. A link
-- that has no place for its contents waits for room.
abbrev pub expiry_at : ℕ → Timer → Happening
expiry_at line timer = inside (at line (expiry timer))

abbrev pub expire_asked : ℕ → PlainTimer → Asked
expire_asked line timer = record {
  cards = of_untimed;
  line = line;
  names = None;
  event = λ card. if_ok (expiry_at line) (timer_in timer);
  waits = none_waits;
}

-- The TEI of a request of a link, or of one to remove a TEI: those are 1 to 3, 6, and 8 to 10.
abbrev pub named_in : ℕ → ℕ → Option ℕ
named_in number tei =
    if list_any (λ other. number == other) (1 ∷ 2 ∷ 3 ∷ 6 ∷ 8 ∷ 9 ∷ 10 ∷ []) then Some tei else None

abbrev pub request_at : ℕ → Request → Happening
request_at line asked = inside (at line (request asked))

abbrev pub request_asked : ℕ → ℕ → ℕ → ℕ → List ℕ → Asked
request_asked line number service tei contents = record {
  cards = of_any;
  line = line;
  names = named_in number tei;
  event = λ card. if_ok (request_at line) (request_in number service tei contents);
  waits = λ status. refused_place status number service tei;
}
