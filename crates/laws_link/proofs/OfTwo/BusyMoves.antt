-- An end that is busy itself, and the other, in state 7: one gives its next frame, and the other receives it.
use Rattle.laws_link.proofs.Vocabulary.{◌≡◌, ℕ, ◌+◌, ◌≤◌, Bool, true, false, ◌==◌, List, [], ◌∷◌, ◌++◌, length, Some, refl, ap, ◌∙◌, ◌⊎◌, append-nil, eq-eqb, arith, nat_lt, slice_get, unwrap_or, option_to_list, ltb-true, le-ltb, seq, named, Terms, Link, frame, received, Course, begun, Endpoint, with_link, with_sent, IsTaken, IsBusyItself, IsUpAndIdle, IsDropped, State, by_number}
use Rattle.laws_link.proofs.Vocabulary.{acknowledged_by_information_in_7, acknowledged_in_7, may_send_information}
use Rattle.model_link.specs.MultipleFrame
use Rattle.laws_link.proofs.OfTwo.Plain.{plain, plain_with, plain_end_with, with_information_with, with_acknowledgement_with, information_frame, acknowledgement_frame, gives-information, gives-acknowledgement, gives-nothing}
use Rattle.laws_link.proofs.OfTwo.Halves.{named-number, fits-at, One, Nothing, giver_of, taker_of}
use Rattle.laws_link.proofs.OfTwo.Acknowledging.{Acknowledges, by-rr, by-information}

-- What becomes of the end that gives and of the one that receives: of numbers and contents that stay,
pub record Same (n n' : Endpoint) : Type 0 where
  pub terms : n'.terms ≡ n.terms
  pub contents : n'.link.contents ≡ n.link.contents

-- and of the flags.
pub record Flags (own busy : Bool) (n : Endpoint) : Type 0 where
  pub state : n.link.state ≡ State.Established
  pub own_busy : n.link.own_busy ≡ own
  pub peer_busy : n.link.peer_busy ≡ busy
  pub waiting : n.link.waiting ≡ []
  pub way : n.way ≡ []

flags : (own busy : Bool) (n : Endpoint) → Flags own busy n → n ≡ plain_end_with own busy n
flags own busy n h = grind arith

-- an I-frame at the open end, and at the busy end, and an acknowledgement there
module _ (m : Endpoint) where
  abbrev having : Course → Endpoint
  having c = record m { link = c.link; way = []; delivered = m.delivered ++ option_to_list c.delivered }

  module _ (busy : Bool) (t : Terms) (l : Link) (x : ℕ) (fits : nat_lt m.terms.n201 (length (unwrap_or (slice_get l.contents l.s) [])) ≡ false)
      (names : named m.link.a m.link.s (seq l.r) ≡ Some x) (low : m.link.a ≤ x) where
    abbrev octets : List ℕ
    octets = unwrap_or (slice_get l.contents l.s) []

    abbrev number : Course → Course
    number c = by_number m.terms (seq l.r) acknowledged_by_information_in_7 c

    -- taken
    abbrev here : Course
    here = begun (plain_with false busy m.link)

    abbrev added : Course
    added = MultipleFrame.in_sequence m.terms false octets here

    pub acked : Acknowledges x added (number added)
    acked = by-information m.terms (seq l.r) x added names low

    pub takes-one : ((seq l.s).value == (seq m.link.r).value) ≡ true
        → with_link (received (frame (information_frame t l))) (plain_end_with false busy m)
        ≡ record m { link = record (plain_with false busy m.link) { r = m.link.r + 1; rejecting = false; pending = true; a = x; running = acked.running }; way = []; delivered = m.delivered ++ octets ∷ [] }
    takes-one next = grind (arith, acked)

    -- dropped
    abbrev there : Course
    there = begun (plain_with true false m.link)

    heeded : Acknowledges x there (number there)
    heeded = by-information m.terms (seq l.r) x there names low

    drops-one : with_link (received (frame (information_frame t l))) (plain_end_with true false m)
        ≡ record m { link = record (plain_with true false m.link) { a = x; running = heeded.running }; way = []; delivered = m.delivered ++ [] }
    drops-one = grind (arith, heeded)

  module _ (own : Bool) (t : Terms) (l : Link) (x : ℕ) (names : named m.link.a m.link.s (seq l.r) ≡ Some x) (low : m.link.a ≤ x) where
    abbrev told : Course
    told = begun (plain_with own false m.link)

    pub noted : Acknowledges x told (by_number m.terms (seq l.r) acknowledged_in_7 told)
    noted = by-rr m.terms (seq l.r) x told names low

    pub takes-note : with_link (received (frame (acknowledgement_frame t l))) (plain_end_with own false m)
        ≡ record m { link = record (plain_with own false m.link) { a = x; running = noted.running }; way = []; delivered = m.delivered ++ [] }
    takes-note = ap having noted.is

-- The busy end's turn.
pub record BusyMoved (n m n' m' : Endpoint) : Type 0 where
  pub giver : Same n n'
  pub giver_flags : Flags true false n'
  pub taker : Same m m'
  pub taker_flags : Flags false m.link.peer_busy m'
  pub received : n'.link.r ≡ n.link.r
  pub delivered : n'.delivered ≡ n.delivered
  pub a : n'.link.a ≡ n.link.a
  pub low : m'.link.a ≤ n.link.r
  pub s : m'.link.s ≡ m.link.s
  pub moved : One n m n' m' ⊎ Nothing n m n' m'

-- The other end's.
pub record OpenMoved (n m n' m' : Endpoint) : Type 0 where
  pub giver : Same m m'
  pub giver_flags : Flags false m.link.peer_busy m'
  pub taker : Same n n'
  pub taker_flags : Flags true false n'
  pub received : n'.link.r ≡ n.link.r
  pub delivered : n'.delivered ≡ n.delivered
  pub a : n'.link.a ≡ n.link.s
  pub s : n'.link.s ≡ n.link.s
  pub other_received : m'.link.r ≡ m.link.r
  pub other_delivered : m'.delivered ≡ m.delivered
  pub other_a : m'.link.a ≡ m.link.a
  pub other_s : m.link.s ≤ m'.link.s
  pub quiet : m'.link.pending ≡ false

module _ (n m : Endpoint) (hn : IsBusyItself n) (hm : IsUpAndIdle m) (there : IsTaken n m) (back : IsDropped n m) where
  quiet : n.link.pending ≡ false
  quiet = hn.sound.owes_nothing hn.own_busy

  is-n : n ≡ plain_end_with true false n
  is-n = flags true false n (record { state = hn.state; own_busy = hn.own_busy; peer_busy = hn.peer_busy; waiting = hn.waiting; way = hn.way })

  is-m : m ≡ plain_end_with false m.link.peer_busy m
  is-m = flags false m.link.peer_busy m (record { state = hm.state; own_busy = hm.own_busy; peer_busy = refl; waiting = hm.waiting; way = hm.way })

  -- the busy end gives an I-frame
  busy-one : may_send_information n.terms (plain n.link) ≡ true → BusyMoved n m (giver_of n) (taker_of n m)
  busy-one may =
      let gives : with_sent n ≡ record n { link = with_information_with true false n.link; way = information_frame n.terms n.link ∷ [] } = ap with_sent is-n ∙ gives-information true false n may in
      let fits = le-ltb m.terms.n201 (length (unwrap_or (slice_get n.link.contents n.link.s) [])) (fits-at m.terms.n201 n.link.contents n.link.s there.sizes) in
      grind (arith, information_frame, is-m, takes-one, named-number, eq-eqb, with_information_with, ltb-true)

  busy-by : (may : Bool) → may_send_information n.terms (plain n.link) ≡ may → BusyMoved n m (giver_of n) (taker_of n m)
  busy-by true e = busy-one e
  busy-by false e = grind (arith, with_acknowledgement_with, is-n, gives-nothing, quiet)

  pub busy-moves : BusyMoved n m (giver_of n) (taker_of n m)
  busy-moves = busy-by (may_send_information n.terms (plain n.link)) refl

  grows : (k : ℕ) → k ≤ k + 1
  grows k = omega arith

  -- the other end gives an I-frame, which is dropped,
  open-one : may_send_information m.terms (plain_with false m.link.peer_busy m.link) ≡ true → OpenMoved n m (taker_of m n) (giver_of m)
  open-one may =
      let gives : with_sent m ≡ record m { link = with_information_with false m.link.peer_busy m.link; way = information_frame m.terms m.link ∷ [] } = ap with_sent is-m ∙ gives-information false m.link.peer_busy m may in
      let fits = le-ltb n.terms.n201 (length (unwrap_or (slice_get m.link.contents m.link.s) [])) (fits-at n.terms.n201 m.link.contents m.link.s back.sizes) in
      let takes =
      ap (with_link (received (frame (information_frame m.terms m.link)))) is-n ∙ drops-one n false m.terms m.link n.link.s fits (grind (arith, named-number)) hn.sound.ordered in
      grind (arith, append-nil, grows)

  -- or an acknowledgement,
  open-note : may_send_information m.terms (plain_with false m.link.peer_busy m.link) ≡ false → m.link.pending ≡ true → OpenMoved n m (taker_of m n) (giver_of m)
  open-note may owed =
      let gives : with_sent m ≡ record m { link = with_acknowledgement_with false m.link.peer_busy m.link; way = acknowledgement_frame m.terms m.link ∷ [] } = ap with_sent is-m ∙ gives-acknowledgement false m.link.peer_busy m may owed in
      grind (arith, acknowledgement_frame, is-n, takes-note, named-number, with_acknowledgement_with, append-nil)

  -- or nothing: then nothing of the busy end's is outstanding
  open-none : may_send_information m.terms (plain_with false m.link.peer_busy m.link) ≡ false → m.link.pending ≡ false → OpenMoved n m (taker_of m n) (giver_of m)
  open-none may owed = grind (arith, with_acknowledgement_with, is-m, gives-nothing, ltb-true, nat_lt, grows)

  open-by : (may owed : Bool) → may_send_information m.terms (plain_with false m.link.peer_busy m.link) ≡ may → m.link.pending ≡ owed → OpenMoved n m (taker_of m n) (giver_of m)
  open-by true owed e p = open-one e
  open-by false true e p = open-note e p
  open-by false false e p = open-none e p

  pub open-moves : OpenMoved n m (taker_of m n) (giver_of m)
  open-moves = open-by (may_send_information m.terms (plain_with false m.link.peer_busy m.link)) m.link.pending refl refl
