-- What it means that a call does a step of the machine.
--
-- A method is one row of the tables, or one word of it, and its clause `Does` says that it is the row's own equation
-- of the machine. So words compose to rows as they do in the definitions, and rows to the machine's step of an
-- event, by state and by frame.
use Rattle.std.specs.Prelude.{◌≡◌, ℕ, ◌+◌, ◌≤◌, List, length}
use Rattle.lapd_seq.specs.declared.numbers.Seq.{Seq}
use Rattle.lapd_seq.specs.Circle.{IsNamed}
use Rattle.lapd_frame.specs.ShortLists.{listed}
use Rattle.model_link.specs.declared.terms.Terms.{Terms}
use Rattle.model_link.specs.Steps.{Course, Step}
use Rattle.lapd_link_steps.specs.declared.entity.Entity.{Entity}
use Rattle.lapd_link_steps.specs.declared.report.BareReport.{BareReport}
use Rattle.lapd_link_steps.specs.Past.{Past, past_of, course_of, Fits}

-- An entity and what it told so far stand for the event under way.
pub record Agrees (terms : Terms) (info : List ℕ) (messages : List (List ℕ)) (c : Course) (e : Entity) (t : BareReport) : Type 0 where
  pub fits : Fits terms messages e t (past_of c)
  pub is : course_of info e t (past_of c) ≡ c

-- What was done is this step: for every past that fits before, entity and told stand for the course after the step.
pub record Does (terms : Terms) (info : List ℕ) (f : Step) (e : Entity) (t : BareReport) (e' : Entity) (t' : BareReport) : Type 0 where
  pub step : (messages : List (List ℕ)) (p : Past) → Fits terms messages e t p → Agrees terms info messages (f (course_of info e t p)) e' t'

-- The same of a step by the plain number that an N(R) names.
pub record DoesBy (terms : Terms) (info : List ℕ) (nr : Seq) (f : ℕ → Step) (e : Entity) (t : BareReport) (e' : Entity) (t' : BareReport) : Type 0 where
  pub step : (messages : List (List ℕ)) (p : Past) (n : ℕ) → IsNamed p.a p.s nr n → Fits terms messages e t p → Agrees terms info messages (f n (course_of info e t p)) e' t'

-- A step that changes the entity alone, and one that only tells something.
abbrev pub Changes : Step → Entity → Entity → Type 0
Changes f e e' = (terms : Terms) (info : List ℕ) (t : BareReport) → Does terms info f e t e' t

abbrev pub Adds : Step → BareReport → BareReport → Type 0
Adds f t t' = (terms : Terms) (info : List ℕ) (e : Entity) → Does terms info f e t e t'

-- There is room for so many more notes, and so many more lost frames can be counted.
pub record HasRoom (notes_more lost_more : ℕ) (t : BareReport) : Type 0 where
  pub notes : length (listed t.notes) + notes_more ≤ 4
  pub lost : t.lost + lost_more ≤ 255

-- At most so many notes and lost frames were added.
pub record Tells (notes_more lost_more : ℕ) (old new : BareReport) : Type 0 where
  pub notes : length (listed new.notes) ≤ length (listed old.notes) + notes_more
  pub lost : new.lost ≤ old.lost + lost_more
