-- What an entity stands for: a link of the machine, of which the entity holds all but its past.
use Rattle.std.specs.Prelude.{◌≡◌, ℕ, ◌-◌, ◌<◌, ◌≤◌, Bool, List, Option, Some, None, length, drop, if◌then◌else◌}
use Rattle.lapd_seq.specs.Numbers.{seq}
use Rattle.lapd_seq.specs.Windows as window
use Rattle.lapd_frame.specs.ShortLists.{listed}
use Rattle.model_link.specs.declared.terms.Terms.{Terms}
use Rattle.model_link.specs.Link.{Link}
use Rattle.model_link.specs.Steps.{Course, Sent}
use Rattle.lapd_link_steps.specs.declared.entity.Entity.{Entity}
use Rattle.lapd_link_steps.specs.declared.report.BareReport.{BareReport}

-- The past: the contents that have numbers since V(S) was last set to zero (`contents` of a link), and the plain numbers
-- of those acknowledged, sent and received; and of the event under way, what it sent, whether it set the numbers to zero, and
-- how many contents it gave up.
pub record Past : Type 0 where
  pub contents : List (List ℕ)
  pub a : ℕ
  pub s : ℕ
  pub r : ℕ
  pub sent : Option Sent
  pub zeroed : Bool
  pub given_up : ℕ

abbrev pub past_of : Course → Past
past_of c = record {
  contents = c.link.contents;
  a = c.link.a;
  s = c.link.s;
  r = c.link.r;
  sent = c.sent;
  zeroed = c.zeroed;
  given_up = c.given_up;
}

-- The link of an entity with this past.
abbrev pub link_of : Entity → Past → Link
link_of e p = record {
  state = e.state;
  contents = p.contents;
  a = p.a;
  s = p.s;
  r = p.r;
  again = e.again;
  peer_busy = e.peer_busy;
  own_busy = e.own_busy;
  rejecting = e.rejecting;
  pending = e.pending;
  asked = e.asked;
  owed = e.owed;
  repeats = e.repeats;
  running = e.running;
  waiting = e.waiting.items;
  counts = e.counts;
}

-- The event under way, of which the information came with the frame.
abbrev pub if_told : Bool → List ℕ → Option (List ℕ)
if_told b info = if b then Some info else None

abbrev pub course_of : List ℕ → Entity → BareReport → Past → Course
course_of info e t p = record {
  link = link_of e p;
  notes = listed t.notes;
  delivered = if_told t.delivered info;
  unit = if_told t.unit info;
  sent = p.sent;
  started = t.started;
  lost = t.lost;
  given_up = p.given_up;
  unserved = t.unserved;
  zeroed = p.zeroed;
}

-- The past is one of this entity in the course of an event, at whose beginning these messages were queued: the window
-- and V(R) are the remainders of its numbers, and the messages without those that are to be released are the contents
-- from the first that is not acknowledged on. Those from one place of the queue on are given up, and then all are to be released.
-- A link tells of no octets why they were dropped: that is its line's to say.
pub record Fits (terms : Terms) (messages : List (List ℕ)) (e : Entity) (t : BareReport) (p : Past) : Type 0 where
  pub window : window.WindowStands e.window p.a p.s
  pub received : e.vr ≡ seq p.r
  pub ring : e.waiting.capacity ≡ terms.control
  pub queue : drop t.released messages ≡ drop p.a p.contents
  pub few : length messages ≤ 127
  pub given_up : p.given_up ≡ length messages - t.given_up_from
  pub whole : t.given_up_from < length messages → length messages ≤ t.released
  pub cause : t.cause ≡ None
