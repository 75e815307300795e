-- What comes of a request that is granted.
use Rattle.laws_link.proofs.Vocabulary.{◌≡◌, ℕ, ◌+◌, ◌≤◌, Bool, true, false, not, cond, List, [], ◌∷◌, ◌++◌, length, take, drop, length-take-le, Option, None, Some, arith, ◌⊎◌, nat_lt, cases_lt, lt-ltb, le-ltb, drop_all, drop-append-le, Refusal, WrongState, State, ControlFrame, Terms, Link, IsSound, Course, begun, ◌then◌, IsAskedIn, IsReleasedIn, TakesEffect, ClearBusy, Establish, Release}
use Rattle.laws_link.proofs.Vocabulary.{Request, requested, course}
use Rattle.laws_link.proofs.Vocabulary.{own_busy_is, report_receiver_status}
use Rattle.model_link.specs.Requests

-- A frame that is put behind those that wait.
pub put : (t : Terms) (f : ControlFrame) (ws : List ControlFrame)
    → (cond (nat_lt (length ws) t.control) (ws ++ f ∷ []) ws ≡ ws ++ f ∷ []) ⊎ ((t.control ≤ length ws) × (1 ≤ cond {A = ℕ} (nat_lt (length ws) t.control) 0 (0 + 1)))
put t f ws = grind (arith, lt-ltb, le-ltb, cases_lt)

module _ (t : Terms) (l : Link) where
  abbrev Takes : Request → Course → Type 0
  Takes request c = TakesEffect t request l c.link c.notes c.lost

  emptied : l.a ≤ length l.contents → drop l.a (take l.a l.contents) ≡ []
  emptied most = drop_all l.a (take l.a l.contents) (omega (arith, length-take-le l.a l.contents most))

  established : (here : State) → Requests.serves t.reading here l.owed Establish ≡ true → l.a ≤ length l.contents
      → let c = Requests.establish_in here t (begun l) in (l.state ≡ here → IsAskedIn here t l c.link c.notes c.lost)
  established here s most = grind (arith, put, emptied)

  released : (here : State) → Requests.serves t.reading here l.owed Release ≡ true → l.a ≤ length l.contents
      → let c = Requests.release_in here t (begun l) in (l.state ≡ here → IsReleasedIn here t l c.link c.notes c.lost)
  released here s most = grind (arith, put, emptied)

  ends-busy : (b : Bool) → l.own_busy ≡ b → Takes ClearBusy (cond b ((own_busy_is false then report_receiver_status t) (begun l)) (begun l))
  ends-busy b e = grind (arith, put)

  granted : (request : Request) → Requests.serves t.reading l.state l.owed request ≡ true → l.a ≤ length l.contents → Takes request (Requests.granted t request (begun l))
  granted request s most = grind (arith, put, established, released, drop-append-le, ends-busy)

  served : (b : Bool) (o : Option Refusal) → cond b o (Some WrongState) ≡ None → b ≡ true
  served b o e = grind arith

  pub takes-effect : IsSound t l → (request : Request) (full : Bool) → Requests.refusal t l full request ≡ None
      → Takes request (course t (requested request full) l)
  takes-effect h request full e = grind (arith, granted, served)
