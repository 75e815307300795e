-- Hand-written answers for `FrameLine::room`.
use Rattle.lapd_line.proofs.Vocabulary.{◌-◌, sym, ap, arith, length, places_of, used_slots}
use Rattle.lapd_line.proofs.LayerSteps.{at_found, number_there}
use Rattle.lapd_line.proofs.LinkSteps.{at_place}
use Rattle.lapd_line.proofs.RoomSteps.{room_none, room_there}
use Rattle.lapd_line.proofs.frame_line.FrameLine.room.Goals as goal

pub returns-in_default : goal.returns-in_default
returns-in_default g c = λ others m st.
    room_none c.args.self.now.layer (g.S.Shelf.store c.args.shelf.now) others m st.layer c.args.service c.args.tei (c.args.slots - used_slots (g.S.Shelf.store c.args.shelf.now)) (grind arith) (sym c.in_default.ensures.place)

pub returns-in-Some-get : goal.returns-in-Some-get
returns-in-Some-get g c = λ others m st.
    room_there c.args.self.now.layer (g.S.Shelf.store c.args.shelf.now) others m st.layer c.args.service c.args.tei (c.args.slots - used_slots (g.S.Shelf.store c.args.shelf.now))
    c.in-Some.place c.link_number.result _ c.room.result (grind arith) (sym c.in-Some.ensures.place) c.link_number.ensures (at_place _ c.deref.ensures.value c.in-Some-get.ensures.lookup.1) c.room.ensures

pub returns-in-None : goal.returns-in-None
returns-in-None g c = λ others m st.
    let within = number_there c.args.service (others, m, st.layer) (at_found (places_of c.args.self.now.layer.teis) c.in-Some.ensures.place) c.link_number.ensures in
    absurd (omega (arith, within, c.in-None.ensures.lookup.3, ap (λ l. length l) c.deref.ensures.value))
