-- How the observer's link stands behind a frame that is answered in states 7 and 8, whatever state it leads to.
use Rattle.laws_trace.proofs.Vocabulary.{arith, ◌≡◌, ℕ, ◌+◌, ◌&&◌, ◌||◌, not, Bool, true, false, cond, length, Some, None, sym, ap, ◌∙◌, subst, true≢false, nat_lt, is_some, Ok, Err, list_any, and_parts, none-some, Information, ReceiveReady, ReceiveNotReady, Reject, Service, Parts, State, state_number, Config, hears, Answer}
use Rattle.laws_trace.proofs.Vocabulary.{Line, link_of}
use Rattle.laws_trace.proofs.Vocabulary.{place_in, IsInRange, notes_of, is_data_of, Card, line_at, is_full, at, has_lines, by_room, line_sound, Control, IsSound, card_answer as answer, IsAtLine, frame_of, its_frame, malformed, Observed, anew, while_up}
use Rattle.laws_trace.proofs.Vocabulary.{by_heard, brings_next, is_up, seen, and-false, StreamEvent}
use Rattle.model_line.specs.Machine as lines
use Rattle.model_card.specs.Sound as card_sound
use Rattle.laws_trace.specs.LinkFrames.{is_too_long}
use Rattle.laws_trace.specs.Units.{is_ui}
use Rattle.laws_trace.proofs.Counting.{begins}
use Rattle.laws_trace.proofs.Deliveries.{frame_by}
use Rattle.laws_trace.proofs.DeliveriesRun.{IsCount}
use Rattle.laws_trace.proofs.DeliveriesWatched.{brings_information}
use Rattle.model_link.specs.Sound.{is_information}
use Rattle.laws_trace.proofs.ObservedCount.{Same}
use Rattle.laws_trace.proofs.ObservedStanding.{begun_by, begins_by, taken_by, informs}
use Rattle.laws_trace.proofs.ObservedTold.{begins-so, informs-so, data-so}
use Rattle.laws_trace.proofs.Standing.{behind, standing, stand-is}
use Rattle.laws_trace.proofs.StandingOfLink.{calm, IsStanding}

-- The frames that are answered in states 7 and 8, but for SABME and DISC: the first bit says that the information is too long.
abbrev pub is_answered : Bool → Control → Bool
is_answered long (Information ns nr p) = not long
is_answered long (ReceiveReady nr p) = true
is_answered long (ReceiveNotReady nr p) = true
is_answered long (Reject nr p) = true
is_answered long other = false

-- Behind one, by whether it is taken, and whether it is an I-frame.
record Stays (taken information : Bool) (o q : Observed) : Type 0 where
  count_is : q.count ≡ cond taken (o.count + 1) o.count
  busy_is : q.own_busy ≡ o.own_busy
  rejected_is : q.rejected ≡ cond taken false (cond (information && not o.own_busy) true o.rejected)

received : (long again busy final : Bool) (o : Observed) (invalid ends : Bool) (ack next : ℕ)
    → Stays (not long && false) false o (cond invalid (anew o) (cond ends (record o { state = 7; acknowledged = ack; next = ack; busy = busy }) (record o { acknowledged = ack; next = next; busy = busy })))
received long again busy final o invalid ends ack next = grind arith

informed : (taken invalid : Bool) (ack : ℕ) (o r : Observed) → Stays taken true o r → Stays taken true o (cond invalid (anew r) (record r { acknowledged = ack }))
informed taken invalid ack o r h = grind arith

frame-stays : (long command : Bool) (control : Control) (o : Observed) → is_answered long control ≡ true
    → Stays (not long && brings_next o control) (is_information control) o (while_up long command control o)
frame-stays long command other o is = grind (arith, informed, received, true≢false)

-- By annex B a UI may be too long, too, which is none of them.
same-answered : (b n : Bool) (control : Control) → is_answered ((not (is_ui control) || b) && n) control ≡ is_answered n control
same-answered b n control = grind arith

same-taken : (b n : Bool) (o : Observed) (control : Control) → (not ((not (is_ui control) || b) && n) && brings_next o control) ≡ (not n && brings_next o control)
same-taken b n o control = grind (arith, and-false)

-- By none of them the numbers begin.
goes-on : (s : ℕ) (long : Bool) (control : Control) → is_answered long control ≡ true → begun_by s control ≡ false
goes-on s long other is = grind (arith, true≢false)

module _ (c : Config) (service : Service) (tei : ℕ) where
  -- a frame of the link is not malformed
  clean : (e : StreamEvent) (f : Parts) → its_frame service tei (frame_of c e) ≡ Some f → malformed c service tei e ≡ None
  clean other f is = grind (arith, Ok, Err, none-some)

  heard-so : (e : StreamEvent) (f : Parts) (o : Observed) → its_frame service tei (frame_of c e) ≡ Some f → is_up o.state ≡ true
      → by_heard c service tei e o ≡ while_up (is_too_long c f) f.address.command f.control o
  heard-so e f o is up = grind (arith, is_up, is_some, anew, clean, and-false, while_up)

  -- One event of a line.
  module _ (ranged : IsInRange c) (l : Line) (s : IsSound c l) (e : StreamEvent) (place : ℕ) (on : place_in l tei ≡ Some place) (n : ℕ) (count : IsCount (link_of service tei l) n)
      (busy rejected : Bool) (stands : IsStanding (link_of service tei l) busy rejected) (o : Observed) (is : o.state ≡ state_number (link_of service tei l).state)
      (up : is_up o.state ≡ true) (same : Same o n busy rejected) (f : Parts) (its : its_frame service tei (frame_of c e) ≡ Some f)
      (answered : is_answered (nat_lt c.n201 (length f.info)) f.control ≡ true) where
    abbrev a : Answer
    a = lines.answer c (hears e) l

    abbrev own : State
    own = (link_of service tei l).state

    abbrev taken : Bool
    taken = not (nat_lt c.n201 (length f.info)) && brings_next o f.control

    abbrev B : Bool
    B = begins service tei (frame_by c (hears e)) (notes_of a)

    abbrev D : Bool
    D = list_any (is_data_of service tei) (notes_of a)

    abbrev I : Bool
    I = brings_information service tei (frame_by c (hears e))

    none-begin : B ≡ false
    none-begin =
        begins-so c ranged l s (hears e) service tei place on ∙ ap (begins_by c service tei own) its
        ∙ goes-on (state_number own) (nat_lt c.n201 (length f.info)) f.control answered

    taken-so : D ≡ taken
    taken-so =
        data-so c ranged l s (hears e) service tei place on o n count is
        (λ m. count m ∙ sym same.count_is) (λ m. stands.busy_is m ∙ sym same.busy_is)
        ∙ ap (taken_by c service tei o) its ∙ ap (λ b. b && taken) up

    information-so : I ≡ is_information f.control
    information-so = informs-so c ranged l s (hears e) service tei place on ∙ ap (informs c service tei) its

    pub answered-behind : let u = behind service tei c (hears e) l a n busy rejected in Same (by_heard c service tei e o) u.told.count u.busy u.rejected
    answered-behind = grind (arith, frame-stays, same-answered, nat_lt, is_information, heard-so, while_up, same-taken, taken-so, none-begin, information-so)

-- The same at a card.
pub card-answered : (card : Card) → card_sound.IsSound card → (number : ℕ) (e : StreamEvent) → let what = at number (hears e) in IsAtLine card what
    → (service : Service) (tei place : ℕ) → let l = line_at number card in place_in l tei ≡ Some place → (n : ℕ) → IsCount (link_of service tei l) n
    → (busy rejected : Bool) → IsStanding (link_of service tei l) busy rejected → (o : Observed) → o.state ≡ state_number (link_of service tei l).state
    → is_up o.state ≡ true → Same o n busy rejected → (f : Parts) → its_frame service tei (frame_of card.config e) ≡ Some f
    → is_answered (nat_lt card.config.n201 (length f.info)) f.control ≡ true
    → let u = standing service tei card.config (calm n busy rejected) (seen (hears e) (answer what card)) in Same (by_heard card.config service tei e o) u.told.count u.busy u.rejected
unfolding lines.takes_slot
card-answered card s number e here service tei place on n count busy rejected stands o is up same f its answered =
    let c = card.config in
    let l = line_at number card in
    let what = at number (hears e) in
    by_room (λ ls a. let u = standing service tei c (calm n busy rejected) (seen (hears e) a) in Same (by_heard c service tei e o) u.told.count u.busy u.rejected) what card
    (λ full. absurd (true≢false (sym (and_parts (lines.takes_slot c (hears e) l) (is_full card) full).0)))
    (λ room.
    subst (λ u. Same (by_heard c service tei e o) u.told.count u.busy u.rejected) (sym (stand-is service tei c (hears e) l n busy rejected))
    (answered-behind c service tei s.config l (line_sound card number (has_lines card s) here) e place on n count busy rejected stands o is up same f its answered))
