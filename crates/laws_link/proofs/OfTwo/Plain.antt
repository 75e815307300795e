-- An end in state 7 with nothing waiting: what it gives, and, with neither side busy, what it makes of what it receives.
use Rattle.laws_link.proofs.Vocabulary.{arith, ◌≡◌, ◌+◌, Bool, true, false, cond, ◌==◌, [], ◌∷◌, ◌++◌, length, Some, ap, nat_lt, slice_get, unwrap_or, option_to_list, Seq, seq, named, Information, ReceiveReady, Parts, T200, T203, Terms, Link, frame_of, address_at, runs, frame, received, Course, begun, ◌then◌, changed, given_of, Endpoint, with_link, with_sent, frame_given, IsReady, State}
use Rattle.laws_link.proofs.Vocabulary.{acknowledge, by_number, pending_is, response, start, acknowledged_by_information_in_7, acknowledged_in_7, give_information, may_send_information, send_acknowledgement, with_one_sent}

-- with own busy, and the other end taken for busy, as the bits say
abbrev pub plain_with : Bool → Bool → Link → Link
plain_with own busy l = record l { state = State.Established; peer_busy = busy; own_busy = own; waiting = [] }

abbrev pub plain : Link → Link
plain l = plain_with false false l

abbrev pub plain_end_with : Bool → Bool → Endpoint → Endpoint
plain_end_with own busy n = record n { link = plain_with own busy n.link; way = [] }

abbrev pub plain_end : Endpoint → Endpoint
plain_end n = plain_end_with false false n

pub is_plain : (n : Endpoint) → IsReady n → n ≡ plain_end n
is_plain n h = grind arith

-- An I-frame, as a sender's end gives it; and the acknowledgement.
abbrev pub information_frame : Terms → Link → Parts
information_frame t l = record { address = address_at t true; control = Information (seq l.s) (seq l.r) false; info = unwrap_or (slice_get l.contents l.s) [] }

abbrev pub acknowledgement_frame : Terms → Link → Parts
acknowledgement_frame t l = frame_of t (response (ReceiveReady (seq l.r) false))

-- What the end is after each offer.
abbrev pub with_information_with : Bool → Bool → Link → Link
with_information_with own busy l = record (with_one_sent (plain_with own busy l)) { pending = false; running = cond (runs T200 l.running) l.running (Some T200) }

abbrev pub with_information : Link → Link
with_information l = with_information_with false false l

abbrev pub with_acknowledgement_with : Bool → Bool → Link → Link
with_acknowledgement_with own busy l = record (plain_with own busy l) { pending = false }

abbrev pub with_acknowledgement : Link → Link
with_acknowledgement l = with_acknowledgement_with false false l

module _ (own busy : Bool) (n : Endpoint) where
  abbrev first : Course
  first = begun (plain_with own busy n.link)

  -- the end that has given to its way what its link gave
  abbrev giving : Course → Endpoint
  giving c = record n { link = c.link; way = [] ++ frame_given n.terms (given_of n.terms (plain_with own busy n.link) c c.sent) }

  abbrev informing : Course
  informing = (give_information then changed with_one_sent then pending_is false) first

  abbrev otherwise : Course
  otherwise = cond n.link.pending (send_acknowledgement first) first

  timed : (a : Bool) → runs T200 n.link.running ≡ a
      → giving (cond a informing (start T200 informing)) ≡ record n { link = record (with_one_sent (plain_with own busy n.link)) { pending = false; running = cond a n.link.running (Some T200) }; way = information_frame n.terms n.link ∷ [] }
  timed a e = grind arith

  pub gives-information : may_send_information n.terms (plain_with own busy n.link) ≡ true
      → with_sent (plain_end_with own busy n) ≡ record n { link = with_information_with own busy n.link; way = information_frame n.terms n.link ∷ [] }
  gives-information may = grind (arith, timed)

  pub gives-acknowledgement : may_send_information n.terms (plain_with own busy n.link) ≡ false → n.link.pending ≡ true
      → with_sent (plain_end_with own busy n) ≡ record n { link = with_acknowledgement_with own busy n.link; way = acknowledgement_frame n.terms n.link ∷ [] }
  gives-acknowledgement may owed = grind arith

  pub gives-nothing : may_send_information n.terms (plain_with own busy n.link) ≡ false → n.link.pending ≡ false
      → with_sent (plain_end_with own busy n) ≡ record n { link = with_acknowledgement_with own busy n.link; way = [] }
  gives-nothing may owed = grind arith

-- What it is after each frame that acknowledges all.
abbrev pub with_taken : Link → Link
with_taken l = record (plain l) { r = l.r + 1; rejecting = false; pending = true; a = l.s; running = Some T203 }

abbrev pub with_all_acknowledged : Link → Link
with_all_acknowledged l = record (plain l) { a = l.s; running = Some T203 }

module _ (m : Endpoint) (same : (m.link.s == m.link.s) ≡ true) where
  abbrev here : Course
  here = begun (plain m.link)

  abbrev having : Course → Endpoint
  having c = record m { link = c.link; way = []; delivered = m.delivered ++ option_to_list c.delivered }

  -- the effect of an N(R)
  acknowledged : (nr : Seq) (c : Course) → named c.link.a c.link.s nr ≡ Some c.link.s → (c.link.s == c.link.s) ≡ true
      → by_number m.terms nr acknowledged_in_7 c ≡ (acknowledge c.link.s then start T203) c
  acknowledged nr c all test = grind (arith, nat_lt)

  by-information : (nr : Seq) (c : Course) → c.link.peer_busy ≡ false → named c.link.a c.link.s nr ≡ Some c.link.s → (c.link.s == c.link.s) ≡ true
      → by_number m.terms nr acknowledged_by_information_in_7 c ≡ (acknowledge c.link.s then start T203) c
  by-information nr c free all test = grind (arith, nat_lt)

  pub takes-information : (t : Terms) (l : Link) → nat_lt m.terms.n201 (length (unwrap_or (slice_get l.contents l.s) [])) ≡ false
      → ((seq l.s).value == (seq m.link.r).value) ≡ true → named m.link.a m.link.s (seq l.r) ≡ Some m.link.s
      → with_link (received (frame (information_frame t l))) (plain_end m)
      ≡ record m { link = with_taken m.link; way = []; delivered = m.delivered ++ unwrap_or (slice_get l.contents l.s) [] ∷ [] }
  takes-information t l o next all = grind (arith, slice_get, by-information)

  pub takes-acknowledgement : (t : Terms) (l : Link) → named m.link.a m.link.s (seq l.r) ≡ Some m.link.s
      → with_link (received (frame (acknowledgement_frame t l))) (plain_end m)
      ≡ record m { link = with_all_acknowledged m.link; way = []; delivered = m.delivered ++ [] }
  takes-acknowledgement t l all = ap having (acknowledged (seq l.r) here all same)
