-- What any event leaves of a link.
use Rattle.laws_link.proofs.Vocabulary.{Bool, List, Option, arith, Control, Parts, State, LinkTimer, ControlFrame, Terms, Link, Event, Request, expired, frame, offer, overlong, received, requested, undefined, wrong_size}
use Rattle.lapd_frame.specs.declared.readings.Reading.{Reading}
use Rattle.lapd_frame.specs.declared.readings.Reading.TheVariants.{Profile, AnnexB}
use Rattle.laws_link.proofs.Columns.{at-busy, at-owed, at-running, at-waiting, hears, reads, Row}

module _ (t : Terms) where
  by-a-frame : (r : Reading) (here : State) (owed : Bool) (l : Link) (f : Parts) (b : Bool) (control : Control) → Row (reads r t) (hears f b control) (at-owed here owed l)
  by-a-frame h h' owed l f b control = grind arith

  malformed : (here : State) (owed : Bool) (l : Link)
      → Row t (received undefined) (at-owed here owed l) × Row t (received wrong_size) (at-owed here owed l) × Row t (received overlong) (at-owed here owed l)
  malformed here owed l = (grind arith, grind arith, grind arith)

  by-timer : (r : Reading) (timer : LinkTimer) (here : State) (owed : Bool) (l : Link) (o : Option LinkTimer) → Row (reads r t) (expired timer) (at-running here owed o l)
  by-timer Profile timer here owed l o = grind arith
  by-timer AnnexB timer here owed l o = grind arith

  by-request : (r : Reading) (request : Request) (full : Bool) (here : State) (l : Link) (owed own rej : Bool) → Row (reads r t) (requested request full) (at-busy here owed own rej l)
  by-request r request full here l owed own rej = grind arith

  by-offer : (here : State) (l : Link) (ws : List ControlFrame) (owed : Bool) → Row t offer (at-waiting here ws owed l)
  by-offer here l ws owed = grind arith

  pub each-row : (e : Event) (l : Link) → Row t e l
  each-row (received (frame f)) l = by-a-frame t.reading l.state l.owed l f f.address.command f.control
  each-row (expired timer) l = by-timer t.reading timer l.state l.owed l l.running
  each-row (requested request full) l = by-request t.reading request full l.state l l.owed l.own_busy l.rejecting
  each-row e l = grind (arith, malformed, by-offer)
