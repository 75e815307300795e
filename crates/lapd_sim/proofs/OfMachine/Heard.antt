-- What a terminal sends is heard, and what is found in pulls is what is heard in all of them.
use Rattle.lapd_sim.proofs.OfMachine.Vocabulary.{◌≡◌, ℕ, zero, suc, ◌+◌, ◌-◌, ◌*◌, ◌%◌, ◌==◌, ◌<◌, Bool, true, false, if◌then◌else◌, List, [], ◌∷◌, ◌++◌, length, take, drop, map, filter_map, Option, option_to_list, refl, sym, ap, ◌∙◌, arith, append_assoc, append-nil, length-append, All, drop-append_seam, take-append_seam, eqb-true, true≢false, eq-eqb, drop_at, All-head, All-tail}
use Rattle.lapd_sim.proofs.OfMachine.Vocabulary.{filter_map-append, bits, flag, octets_of, Item, idle, item_text, line_text, heard_in, IsHeardWhole, AreHeardWhole, frames_of, bits-append, length-bits, low_bits-number_of_n, line_text-push, one_event_an_octet, frames_round_trip_lem, Terminal, with_frame, sending, octets_sent, after_sending, frame_in, found, all_sent, FramesAreHeard}
use Rattle.model_bits.specs.Sent.{frame}
use Rattle.model_bits.specs.Stream as stream
use Rattle.model_bits.specs.Stream.{Event}

-- ---- bits, cut into octets

-- bits are those of their whole octets, and fewer than eight more
cut : (text : List Bool) → (rest : List Bool) × (text ≡ bits (octets_of text) ++ rest) × (length rest < 8)
cut (a ∷ b ∷ c ∷ d ∷ e ∷ f ∷ g ∷ h ∷ text) =
    let eight = a ∷ b ∷ c ∷ d ∷ e ∷ f ∷ g ∷ h ∷ [] in
    let more = cut text in (
      more.0,
      ap (λ l. eight ++ l) more.1 ∙ sym (append_assoc eight (bits (octets_of text)) more.0)
          ∙ ap (λ l. (l ++ bits (octets_of text)) ++ more.0) (sym (low_bits-number_of_n 8 eight refl)),
      more.2,
    )
cut [] = ([], refl, omega arith)
cut (a ∷ []) = (a ∷ [], refl, omega arith)
cut (a ∷ b ∷ []) = (a ∷ b ∷ [], refl, omega arith)
cut (a ∷ b ∷ c ∷ []) = (a ∷ b ∷ c ∷ [], refl, omega arith)
cut (a ∷ b ∷ c ∷ d ∷ []) = (a ∷ b ∷ c ∷ d ∷ [], refl, omega arith)
cut (a ∷ b ∷ c ∷ d ∷ e ∷ []) = (a ∷ b ∷ c ∷ d ∷ e ∷ [], refl, omega arith)
cut (a ∷ b ∷ c ∷ d ∷ e ∷ f ∷ []) = (a ∷ b ∷ c ∷ d ∷ e ∷ f ∷ [], refl, omega arith)
cut (a ∷ b ∷ c ∷ d ∷ e ∷ f ∷ g ∷ []) = (a ∷ b ∷ c ∷ d ∷ e ∷ f ∷ g ∷ [], refl, omega arith)

take_past : (front back : List Bool) (n : ℕ) → take (length front + n) (front ++ back) ≡ front ++ take n back
take_past [] back n = ap (λ (k : ℕ). take k back) (omega arith)
take_past (b ∷ front) back n =
    let size : length (b ∷ front) + n ≡ suc (length front + n) = omega arith in
    ap (λ (k : ℕ). take k (b ∷ (front ++ back))) size ∙ ap (λ l. b ∷ l) (take_past front back n)

none_left : (left : List Bool) → length left ≡ 0 → left ≡ []
none_left [] e = refl
none_left (b ∷ left) e = absurd (omega (arith, e))

-- ---- the items of a terminal

frames_push : (items : List Item) (octets : List ℕ) → frames_of (items ++ frame octets ∷ []) ≡ frames_of items ++ stream.frame octets ∷ []
frames_push [] octets = refl
frames_push (idle ∷ items) octets = frames_push items octets
frames_push (frame first ∷ items) octets = ap (λ l. stream.frame first ∷ l) (frames_push items octets)

frames_idle : (items : List Item) → frames_of (items ++ idle ∷ []) ≡ frames_of items
frames_idle [] = refl
frames_idle (idle ∷ items) = frames_idle items
frames_idle (frame first ∷ items) = ap (λ l. stream.frame first ∷ l) (frames_idle items)

whole_push : (n201 : ℕ) (items : List Item) (octets : List ℕ) → AreHeardWhole n201 items → IsHeardWhole n201 octets → AreHeardWhole n201 (items ++ frame octets ∷ [])
whole_push n201 [] octets all one = (one, tt)
whole_push n201 (idle ∷ items) octets all one = whole_push n201 items octets all one
whole_push n201 (frame first ∷ items) octets all one = (all.0, whole_push n201 items octets all.1 one)

whole_idle : (n201 : ℕ) (items : List Item) → AreHeardWhole n201 items → AreHeardWhole n201 (items ++ idle ∷ [])
whole_idle n201 [] all = tt
whole_idle n201 (idle ∷ items) all = whole_idle n201 items all
whole_idle n201 (frame first ∷ items) all = (all.0, whole_idle n201 items all.1)

frames_of_whole : (b : Bool) (items : List Item) → frames_of (if b then items else items ++ idle ∷ []) ≡ frames_of items
frames_of_whole true items = refl
frames_of_whole false items = frames_idle items

stays_whole : (b : Bool) (n201 : ℕ) (items : List Item) → AreHeardWhole n201 items → AreHeardWhole n201 (if b then items else items ++ idle ∷ [])
stays_whole true n201 items all = all
stays_whole false n201 items all = whole_idle n201 items all

whole_tail : (b : Bool) (items : List Item) → (tail : List Bool) × (line_text (if b then items else items ++ idle ∷ []) ≡ line_text items ++ tail)
whole_tail true items = ([], sym (append-nil (line_text items)))
whole_tail false items = (flag, line_text-push items idle)

-- ---- what is heard once the last octet of a closing flag is out

heard_where : (b : Bool) (n201 : ℕ) (items : List Item) (given : List ℕ) (left : List Bool) → (length (line_text items) % 8 == 0) ≡ b → AreHeardWhole n201 items
    → line_text (if b then items else items ++ idle ∷ []) ≡ bits given ++ left → length left < 8 → heard_in n201 given ≡ frames_of items
heard_where true n201 items given left e all text few =
    let even : length (line_text items) % 8 ≡ 0 = eqb-true (length (line_text items) % 8) 0 e in
    let size : length (line_text items) ≡ 8 * length given + length left = ap length text ∙ length-append (bits given) left ∙ ap (λ n. n + length left) (length-bits given) in
    let none : left ≡ [] = none_left left (omega (arith, even, size, few)) in
    frames_round_trip_lem n201 items given 0 (omega arith) all
    (sym (text ∙ ap (λ l. bits given ++ l) none ∙ append-nil (bits given)) ∙ sym (append-nil (line_text items)))
heard_where false n201 items given left e all text few =
    let odd : length (line_text items) % 8 ≡ 0 → ⊥ = λ h. true≢false (sym (eq-eqb (length (line_text items) % 8) 0 h) ∙ e) in
    let whole : line_text items ++ flag ≡ bits given ++ left = sym (line_text-push items idle) ∙ text in
    let size : length (line_text items) + 8 ≡ 8 * length given + length left =
    sym (length-append (line_text items) flag) ∙ ap length whole ∙ length-append (bits given) left ∙ ap (λ n. n + length left) (length-bits given) in
    let some : length left ≡ 0 → ⊥ = λ h. odd (omega (arith, size, h)) in
    let some_left : 0 < length left = positive (length left) some in
    let more = 8 - length left in
    let places : length (bits given) ≡ length (line_text items) + more = length-bits given ∙ omega (arith, size, few) in
    frames_round_trip_lem n201 items given more (omega (arith, some_left)) all
    (sym (take-append_seam (bits given) left) ∙ ap (λ n. take n (bits given ++ left)) places ∙ ap (take (length (line_text items) + more)) (sym whole)
    ∙ take_past (line_text items) flag more)
  where
    positive : (n : ℕ) → (n ≡ 0 → ⊥) → 0 < n
    positive zero h = absurd (h refl)
    positive (suc n) h = omega arith

-- ---- frame by frame

heard_from : (n201 : ℕ) (frames : List (List ℕ)) (t : Terminal) (given : List ℕ) (left : List Bool) → line_text t.items ≡ bits given ++ left → t.given ≡ length given
    → AreHeardWhole n201 t.items → heard_in n201 given ≡ frames_of t.items → All (IsHeardWhole n201) frames
    → heard_in n201 (given ++ all_sent frames t) ≡ frames_of t.items ++ map stream.frame frames
heard_from n201 [] t given left text count all heard each =
    ap (heard_in n201) (append-nil given) ∙ heard ∙ sym (append-nil (frames_of t.items))
heard_from n201 (octets ∷ frames) t given left text count all heard each =
    let items = with_frame octets t.items in
    let test = length (line_text items) % 8 == 0 in
    let tail = whole_tail test items in
    let longer : line_text (sending octets t) ≡ bits given ++ (left ++ (item_text (frame octets) ++ tail.0)) =
    tail.1 ∙ ap (λ l. l ++ tail.0) (line_text-push t.items (frame octets)) ∙ append_assoc (line_text t.items) (item_text (frame octets)) tail.0
    ∙ ap (λ l. l ++ (item_text (frame octets) ++ tail.0)) text ∙ append_assoc (bits given) left (item_text (frame octets) ++ tail.0) in
    let new = left ++ (item_text (frame octets) ++ tail.0) in
    let fresh : drop (8 * t.given) (line_text (sending octets t)) ≡ new =
    ap (drop (8 * t.given)) longer ∙ drop_at (bits given) new (8 * t.given) (length-bits given ∙ ap (λ n. 8 * n) (sym count)) in
    let parts = cut (drop (8 * t.given) (line_text (sending octets t))) in
    let put = octets_sent octets t in
    let now : line_text (sending octets t) ≡ bits (given ++ put) ++ parts.0 =
    longer ∙ ap (λ l. bits given ++ l) (sym fresh ∙ parts.1) ∙ sym (append_assoc (bits given) (bits put) parts.0) ∙ ap (λ l. l ++ parts.0) (sym (bits-append given put)) in
    let one = All-head (IsHeardWhole n201) octets frames each in
    let whole : AreHeardWhole n201 items = whole_push n201 t.items octets all one in
    let told : heard_in n201 (given ++ put) ≡ frames_of items = heard_where test n201 items (given ++ put) parts.0 refl whole now parts.2 in
    let later = heard_from n201 frames (after_sending octets t) (given ++ put) parts.0 now (ap (λ n. n + length put) count ∙ sym (length-append given put))
    (stays_whole test n201 items whole) (told ∙ sym (frames_of_whole test items)) (All-tail (IsHeardWhole n201) octets frames each) in
    ap (heard_in n201) (sym (append_assoc given put (all_sent frames (after_sending octets t)))) ∙ later
    ∙ ap (λ l. l ++ map stream.frame frames) (frames_of_whole test items ∙ frames_push t.items octets)
    ∙ append_assoc (frames_of t.items) (stream.frame octets ∷ []) (map stream.frame frames)

-- ---- pulls

heard_grows : (past octets : List ℕ) → (more : List Event) × (heard_in 1024 (past ++ octets) ≡ heard_in 1024 past ++ more)
heard_grows past [] = ([], ap (heard_in 1024) (append-nil past) ∙ sym (append-nil (heard_in 1024 past)))
heard_grows past (octet ∷ octets) =
    let one : (event : Option Event) × (heard_in 1024 (past ++ octet ∷ []) ≡ heard_in 1024 past ++ option_to_list event) = one_event_an_octet 1024 past octet in
    let later : (more : List Event) × (heard_in 1024 ((past ++ octet ∷ []) ++ octets) ≡ heard_in 1024 (past ++ octet ∷ []) ++ more) = heard_grows (past ++ octet ∷ []) octets in (
      option_to_list one.0 ++ later.0,
      ap (heard_in 1024) (sym (append_assoc past (octet ∷ []) octets)) ∙ later.1 ∙ ap (λ events. events ++ later.0) one.1
          ∙ append_assoc (heard_in 1024 past) (option_to_list one.0) later.0,
    )

-- what is found is what is gained
gained : (past octets : List ℕ) (more : List Event) → heard_in 1024 (past ++ octets) ≡ heard_in 1024 past ++ more → found past octets ≡ filter_map frame_in more
gained past octets more heard = ap (filter_map frame_in) (ap (drop (length (heard_in 1024 past))) heard ∙ drop-append_seam (heard_in 1024 past) more)

found_on : (past first more : List ℕ) → found past (first ++ more) ≡ found past first ++ found (past ++ first) more
found_on past first more =
    let a = heard_grows past first in
    let b = heard_grows (past ++ first) more in
    gained past (first ++ more) (a.0 ++ b.0)
    (ap (heard_in 1024) (sym (append_assoc past first more)) ∙ b.1 ∙ ap (λ l. l ++ b.0) a.1 ∙ append_assoc (heard_in 1024 past) a.0 b.0)
    ∙ filter_map-append frame_in a.0 b.0
    ∙ sym (ap (λ l. l ++ found (past ++ first) more) (gained past first a.0 a.1) ∙ ap (λ l. filter_map frame_in a.0 ++ l) (gained (past ++ first) more b.0 b.1))

pub frames_are_heard : FramesAreHeard
frames_are_heard = record {
  sent = λ n201 frames each. heard_from n201 frames (record { items = []; given = 0 }) [] flag refl refl tt refl each;
  found_all = λ octets. refl;
  found_on = found_on;
}
