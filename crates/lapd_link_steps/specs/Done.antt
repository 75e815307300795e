-- What calls are told to begin with, and what an offer gives.
use Rattle.std.specs.Prelude.{◌≡◌, ℕ, List, [], length, Option, Some, None, false, slice_get}
use Rattle.lapd_seq.specs.Numbers.{seq}
use Rattle.lapd_seq.specs.Windows as window
use Rattle.model_link.specs.declared.terms.Terms.{Terms}
use Rattle.model_link.specs.Link.{Link, fresh}
use Rattle.model_link.specs.Steps.{Sent, Step}
use Rattle.lapd_link_steps.specs.declared.entity.Entity.{Entity}
use Rattle.lapd_link_steps.specs.Past.{Past, link_of, course_of, Fits}
use Rattle.lapd_link_steps.specs.Does.{Agrees, Does}
use Rattle.lapd_link_steps.specs.declared.report.BareReport.{BareReport}
use Rattle.lapd_link_steps.specs.Reports.{IsClear}
use Rattle.lapd_link_steps.specs.declared.offers.Given.{Given}

-- the contents at a place of the queue
abbrev pub contents_at : List (List ℕ) → Option ℕ → Option (List ℕ)
contents_at messages None = None
contents_at messages (Some place) = slice_get messages place

-- what is given, out of these messages
abbrev pub given_of : List (List ℕ) → Option Given → Option Sent
given_of messages None = None
given_of messages (Some given) = Some (record { frame = given.frame; contents = contents_at messages given.place })

-- a link as it begins
abbrev pub fresh_past : Past
fresh_past = record { contents = []; a = 0; s = 0; r = 0; sent = None; zeroed = false; given_up = 0 }

pub record IsFresh (control : ℕ) (e : Entity) : Type 0 where
  pub link : link_of e fresh_past ≡ fresh
  pub window : window.WindowStands e.window 0 0
  pub received : e.vr ≡ seq 0
  pub ring : e.waiting.capacity ≡ control

-- what an offer gives is this step: for every past that fits an event that begins, with these messages queued
pub record Gives (terms : Terms) (f : Step) (queued : ℕ) (e : Entity) (t : BareReport) (e' : Entity) (t' : BareReport) (given : Option Given) : Type 0 where
  pub step : (info : List ℕ) (messages : List (List ℕ)) (p : Past) → length messages ≡ queued → t.released ≡ 0 → p.sent ≡ None → Fits terms messages e t p → Agrees terms info messages (f (course_of info e t p)) e' t'
  pub sent : (info : List ℕ) (messages : List (List ℕ)) (p : Past) → length messages ≡ queued → t.released ≡ 0 → p.sent ≡ None → Fits terms messages e t p → (f (course_of info e t p)).sent ≡ given_of messages given

-- A link as it is between two events, and the entity that holds all of it but its past.
abbrev pub past_at : Link → Past
past_at m = record { contents = m.contents; a = m.a; s = m.s; r = m.r; sent = None; zeroed = false; given_up = 0 }

pub record Rests (terms : Terms) (e : Entity) (m : Link) : Type 0 where
  pub window : window.WindowStands e.window m.a m.s
  pub received : e.vr ≡ seq m.r
  pub ring : e.waiting.capacity ≡ terms.control
  pub is : link_of e (past_at m) ≡ m

-- A call that began with nothing told did this step.
pub record Took (terms : Terms) (info : List ℕ) (f : Step) (e : Entity) (e' : Entity) (t : BareReport) : Type 0 where
  pub none : BareReport
  pub nothing : IsClear none
  pub does : Does terms info f e none e' t
