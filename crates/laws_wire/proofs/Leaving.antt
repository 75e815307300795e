-- A link that is released, and the one that is told of it: what each event makes of them.
use Rattle.laws_wire.proofs.Vocabulary.{arith, ◌≡◌, ℕ, Bool, true, false, cond, List, [], ◌∷◌, take, None, Some, sym, ap, ◌∙◌, nat_lt, Disc, Ua, Parts, TeiAssigned, AwaitingRelease, Established, ControlFrame, Terms, received, expired, requested, Link, may_repeat, frame_of, course, begun, ◌then◌, command, response, T200, after, Course, release_indicated, code_H}
use Rattle.model_link.specs.Counts.{with_expiry}
use Rattle.model_link.specs.Events.{frame, Release}
use Rattle.model_link.specs.Words
use Rattle.laws_wire.proofs.Ringing.{Tries, once_more}
use Rattle.laws_wire.proofs.Speaking.{said_by}

abbrev pub its_disc : ControlFrame
its_disc = command (Disc true)

abbrev pub disc : Terms → Parts
disc t = frame_of t its_disc

-- DISC was not repeated
abbrev pub untried : Link → Tries
untried l = record { repeats = 0; counts = l.counts }

-- state 6, as often as DISC was repeated and whatever waits
abbrev pub leaving : Link → Tries → List ControlFrame → Link
leaving l k ws =
    record l { state = AwaitingRelease; contents = take l.a l.contents; s = l.a; again = 0; pending = false; repeats = k.repeats; running = Some T200; waiting = ws; counts = k.counts }

-- state 4, behind that, and of the other end
abbrev pub left : Link → Tries → Link
left l k = record (leaving l k []) { state = TeiAssigned; running = None }

abbrev pub gone : Link → List ControlFrame → Link
gone l ws = record l { state = TeiAssigned; contents = take l.a l.contents; s = l.a; again = 0; pending = false; running = None; waiting = ws }

module _ (t : Terms) (room : nat_lt 0 t.control ≡ true) (l : Link) where
  -- up, and nothing waits
  module _ (state : l.state ≡ Established) (none : l.waiting ≡ []) where
    same : record l { state = Established; waiting = [] } ≡ l
    same = λ i. record l { state = sym state i; waiting = sym none i }

    pub releases : after t (requested Release false) l ≡ leaving l (untried l) (its_disc ∷ [])
    releases = grind (arith, same)

    pub releases-untold : said_by (course t (requested Release false) l) ≡ []
    releases-untold = grind (arith, said_by, same)

    pub hears-disc : (u : Terms) → after t (received (frame (disc u))) l ≡ gone l (response (Ua true) ∷ [])
    hears-disc u = grind (arith, same)

    pub told-disc : (u : Terms) → said_by (course t (received (frame (disc u))) l) ≡ release_indicated t.service t.tei ∷ []
    told-disc u = grind (arith, said_by, same)

  -- DISC again
  module _ (k : Tries) where
    abbrev again : Bool → Course
    again b = record (begun (leaving l (once_more k) (cond b (its_disc ∷ []) []))) { started = Some T200; lost = cond {A = ℕ} b 0 1 }

    abbrev over : Course
    over = (Words.count (with_expiry T200) then Words.error t code_H then Words.release_confirm t then Words.no_timer then Words.enter TeiAssigned) (begun (leaving l k []))

    repeats : may_repeat t (leaving l k []) ≡ true → course t (expired T200) (leaving l k []) ≡ again true
    repeats few = ap (λ b. cond b (again (nat_lt 0 t.control)) over) few ∙ ap again room

    pub repeats-disc : may_repeat t (leaving l k []) ≡ true → after t (expired T200) (leaving l k []) ≡ leaving l (once_more k) (its_disc ∷ [])
    repeats-disc few = ap (λ (c : Course). c.link) (repeats few)

    pub repeats-untold : may_repeat t (leaving l k []) ≡ true → said_by (course t (expired T200) (leaving l k [])) ≡ []
    repeats-untold few = ap said_by (repeats few)

  -- DISC where it is down already
  pub told-again : (u : Terms) → said_by (course t (received (frame (disc u))) (gone l [])) ≡ []
  told-again u = ap (λ b. said_by (record (begun (gone l [])) { lost = cond {A = ℕ} b 0 1 })) room
