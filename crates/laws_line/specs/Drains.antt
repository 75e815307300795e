-- What calls for the next frame alone come to.
use Rattle.std.specs.Prelude.{◌≡◌, ℕ, zero, suc, ◌+◌, ◌-◌, ◌*◌, ◌&&◌, not, max, min, List, length, None, nat_le, if◌then◌else◌}
use Rattle.lapd_frame.specs.Senders.{spelling}
use Rattle.model_link.specs.declared.frames.ControlFrame.{ControlFrame}
use Rattle.model_link.specs.declared.terms.Terms.{Terms}
use Rattle.model_link.specs.Link.{Link, frame_of, outstanding, unsent}
use Rattle.model_link.specs.Offers.{is_established}
use Rattle.model_line.specs.declared.config.Config.{Config}
use Rattle.model_line.specs.Event.{next}
use Rattle.model_line.specs.Line.{Line, is_terminal, link_count, service_at, link_at, terms, terms_at}
use Rattle.model_line.specs.Machine.{after}
use Rattle.model_line.specs.Taken.{taken, own_side}
use Rattle.model_line.specs.Stored.{sum_of_links}
use Rattle.laws_line.specs.Served.{HasNothing}

-- A line after so many calls for the next frame, with no other event between them.
unfoldable pub after_takes : Config → ℕ → Line → Line
after_takes c zero l = l
after_takes c (suc n) l = after_takes c n (after c next l)

-- The I-frames that such calls alone bring of a link: in state 7, while the terminal is not busy, of those that are
-- unsent as many as the window has room for (Q.921 clauses 5.6.1 and 5.6.5); else none.
abbrev pub information_to_go : Terms → Link → ℕ
information_to_go t l = if is_established l.state && not l.peer_busy then min (t.k - outstanding l) (unsent l) else 0

-- The frames to go of a link: the control frames that wait, those I-frames, and the acknowledgement that is owed.
abbrev pub link_to_go : Terms → Link → ℕ
link_to_go t l = length l.waiting + information_to_go t l + (if l.pending then 1 else 0)

abbrev pub to_go_at_link : Config → Line → ℕ → ℕ
to_go_at_link c l number = link_to_go (terms_at c number l) (link_at number l)

-- The frames to go of a line: the messages of TEI management, of whatever side, the unit data, and those of its links.
abbrev pub frames_to_go : Config → Line → ℕ
frames_to_go c l = length l.management.waiting + length l.own.waiting + length l.units + sum_of_links c (to_go_at_link c l)

-- How many links come before one in the round that begins at a turn.
abbrev pub way_round : ℕ → ℕ → ℕ → ℕ
way_round count turn number = if nat_le turn number then number - turn else count - turn + number

-- The frames that go before a control frame of a link which has so many others of its link before it: the messages of TEI
-- management, the unit data, for each of those others at most one frame of every link, and at most one of each link that
-- comes before this one in the round.
abbrev pub frames_before : Config → Line → ℕ → ℕ → ℕ
frames_before c l number others =
    length l.management.waiting + length l.own.waiting + length l.units + others * link_count c + way_round (link_count c) l.turn number

-- A control frame of a link as it goes, with the SAPI of its service and its TEI.
abbrev pub control_text : Config → ℕ → ℕ → ControlFrame → List ℕ
control_text c number tei f = spelling (own_side c) (frame_of (terms c (service_at number) tei) f)

-- After n calls nothing waits that may go, the next one takes no frame, and the line is as it was.
pub record IsIdling (c : Config) (n : ℕ) (l : Line) : Type 0 where
  pub nothing : HasNothing c (after_takes c n l)
  pub none : taken c (after_takes c n l) ≡ None
  pub same : after_takes c n l ≡ l

-- The most messages of TEI management that wait: four; at a terminal one more than its line may have TEIs.
abbrev pub most_messages : Config → ℕ
most_messages c = if is_terminal c then c.terminals + 1 else 4

-- The most frames to go that a configuration allows: messages of TEI management, unit data, and for each link its
-- control frames, a window of I-frames and an acknowledgement.
abbrev pub most_frames : Config → ℕ
most_frames c = most_messages c + c.unit_queue + link_count c * (c.control + max c.k c.k16 + 1)

-- The most frames that a configuration lets go before a control frame that waits: messages of TEI management, unit data,
-- one frame of every link for each other control frame that its link has room for, and one of each other link.
abbrev pub most_frames_before : Config → ℕ
most_frames_before c = most_messages c + c.unit_queue + (c.control - 1) * link_count c + (link_count c - 1)
