-- What is told of the room of a link: the law.
use Rattle.laws_trace.proofs.Vocabulary.{◌≡◌, ℕ, ◌≤◌, Bool, true, false, not, cond, length, Some, None, Ok, refl, sym, ap, ◌∙◌, arith, nat_lt, le-ltb, BadTei, NoLink, place_of-is, is_on-at, Room, queue_of, is_multiple_frame, room_of, Config, Line, link_of, place_in, terms, has_tei, unless, Card, line_at, free, fresh, after_all, managing_is_on as is_on, View, view_of, Outgoing}
use Rattle.laws_trace.proofs.Vocabulary.{outgoing_of, Always}
use Rattle.laws_trace.proofs.Vocabulary.{is_up, always_sound, fresh_is_sound, used}
use Rattle.model_card.specs.Room.{room}
use Rattle.std.specs.Prelude.{Err}
use Rattle.laws_trace.specs.RoomsAreTold.{IsRoom, NoRoomIsTold, RoomsAreTold}
use Rattle.laws_trace.proofs.LineAtEnd.{line-at-end, link-at-end}
use Rattle.laws_trace.proofs.Outgoing.{view-is, kept-now}
use Rattle.laws_trace.proofs.SlotsTaken.{on-place, taken-is}
use Rattle.laws_trace.proofs.SeenAs.{seen-before, tei-seen}
use Rattle.laws_trace.proofs.TimersAreTimely.{config-now}
use Rattle.laws_trace.proofs.Facts.{number-up}

-- A TEI that is on the line has a link.
has-room : (tei : ℕ) (on : Bool) (x : Room) → nat_lt 126 tei ≡ false → on ≡ true → unless (cond (nat_lt 126 tei) (Some BadTei) (cond (not on) (Some NoLink) None)) x ≡ Ok x
has-room tei on x low is = grind arith

pub rooms-are-told : Always RoomsAreTold
rooms-are-told c events number ranged all within service tei is_on_line = told placed.0 placed.1
  where
    card : Card
    card = after_all (fresh c) events

    l : Line
    l = line_at number (after_all (fresh c) events)

    o : Outgoing
    o = outgoing_of c service tei number events

    view : (outgoing_of c service tei number events).view ≡ view_of c service tei number events
    view = view-is c number ranged within service tei events

    placed : (place : ℕ) × (place_in l tei ≡ Some place)
    placed =
        on-place l tei (sym (tei-seen c events number ranged all within service tei) ∙ sym (ap (λ (v : View). is_on tei v.teis) view) ∙ is_on_line) (place_in l tei) refl

    told : (place : ℕ) → place_in l tei ≡ Some place → IsRoom c events number service tei (outgoing_of c service tei number events)
    told place on =
        let own = link_of service tei l in
        let found = (place_of-is l.management.places tei place on).1 in
        let sound = line-at-end c events number ranged all within in
        let s = link-at-end c l ranged sound service tei place on in
        let seen = seen-before c events number ranged all within service tei place on in
        let same : card.config ≡ c = config-now c events number ranged all within service tei in
        let tei_low : tei ≤ 126 = sound.management.table.range place tei found in
        let left = room_of (terms card.config service tei) (free card) own in
        let is : room number service tei card ≡ Ok left = has-room tei (has_tei tei l) left (le-ltb 126 tei tei_low) (is_on-at l.management.places place tei found) in
        let few : length (queue_of own) ≤ c.queue = s.queue in
        let places : card.config.queue ≡ c.queue = ap (λ (d : Config). d.queue) same in
        let slots : used card ≤ card.config.slots = (always_sound (fresh c) events (fresh_is_sound c ranged) all).slots in
        let kept : length o.kept ≡ length (queue_of own) = ap length (kept-now c number ranged within service tei events all place on) in
        let state : is_up o.view.link.state ≡ is_multiple_frame own.state =
        ap (λ (v : View). is_up v.link.state) view ∙ ap is_up seen.state_is ∙ number-up own.state in
        record {
          left = left;
          is = is;
          queue = omega (arith, few, places, kept);
          pool = omega (arith, taken-is c events ranged all, slots, ap (λ (d : Config). d.slots) same);
          va = λ up. sym (ap (λ (v : View). v.link.acknowledged) view ∙ seen.acknowledged_is (sym state ∙ up));
        }

-- One that is not on the line has none.
no-room : (tei : ℕ) (on : Bool) (x : Room) → on ≡ false
    → unless (cond (nat_lt 126 tei) (Some BadTei) (cond (not on) (Some NoLink) None)) x ≡ Err (cond (nat_lt 126 tei) BadTei NoLink)
no-room tei on x is = grind arith

pub no-room-is-told : Always NoRoomIsTold
no-room-is-told c events number ranged all within service tei off = grind (arith, fresh, no-room, free, tei-seen)
