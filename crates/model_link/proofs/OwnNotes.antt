-- The notes that an event tells are of its own link.
pub use Rattle.model_link.specs.Notes.{IsOwn}
use Rattle.model_link.proofs.Vocabulary.{arith, ◌≡◌, ℕ, Bool, false, List, All, All-nil, All-push, Terms, Link, Course, begun, after, course, Data, Event, offer, requested}
use Rattle.model_link.proofs.Kept.{Kept}
use Rattle.model_link.proofs.Rows.{every_event}

-- All notes so far are.
abbrev pub Own : Terms → Course → Type 0
Own t c = All (IsOwn t) c.notes

words : (t : Terms) → Kept t (Unit {0}) (Unit {0}) (Unit {0}) (Own t) (λ p q c. Own t c) (Own t)
words t = search (All-push) depth 12 fits 4000

pub notes-own : (t : Terms) (e : Event) (l : Link) → Own t (course t e l)
notes-own t e l = (every_event (words t) e).leads (begun l) (All-nil (IsOwn t))

-- An offer leaves V(R).
pub offer-keeps-r : (t : Terms) (l : Link) → (after t offer l).r ≡ l.r
offer-keeps-r t l = grind arith

-- Contents that are to be sent begin no numbers anew.
pub transfer-goes-on : (t : Terms) (octets : List ℕ) (full : Bool) (l : Link) → (course t (requested (Data octets) full) l).zeroed ≡ false
transfer-goes-on t octets full l = grind arith
