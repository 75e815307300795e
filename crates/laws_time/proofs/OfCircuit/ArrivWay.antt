-- One direction of the clocked circuit, where what comes may be noise. What came before a flag does not matter, and flags before a text are not heard.
use Rattle.laws_time.proofs.Vocabulary.{All, AreHeardWhole, AreOctets, Bool, Carries, Config, IsFrame, IsInRange, IsSoundPort, List, NextFrame, None, OctetEndpoint, Option, Port, Ran, Some, [], after_flag, answer, answer_to, ap, append-nil, append_assoc, append_cancel_left, append_cancel_right, arith, as_endpoint, bits, bits-append, came, cases_lt, cond, ends_flag, false, flag}
use Rattle.laws_time.proofs.Vocabulary.{flags, flat_map, frames_among, frames_of, frames_round_trip_lem, gained, given_in, gives-octets, heard_at, heard_in, heard_until, heard_until-onto, heard_with, idle, if_meant, inl, inr, is_due, item_of, item_text, length, length-append, length-bits, length-replicate, line_answer, low_bits, meant, min, next_octet, none-heard, on-line, one-heard, one-put}
use Rattle.laws_time.proofs.Vocabulary.{option_map, option_to_list, port-after, port_of, refl, replicate, reverse_aux, reverse_aux-append, room_for, since_flag, sound-port, subst, suc, sym, takes_slot, true, with_item, with_octet, within-ports, zero, ℕ, ◌++◌, ◌+◌, ◌<◌, ◌∙◌, ◌∷◌, ◌≡◌, ◌≤◌, ◌⊎◌, All-nil, none-some, same_Some, framed, by-either, by-option, some-in, IsOnItsWay, fresh_port, left_of}
use Rattle.model_bits.specs.Stream as stream
use Rattle.model_line.specs.Event as line
use Rattle.model_card.specs.Event as frames
use Rattle.model_card.specs.Machine as machine
use Rattle.model_card.specs.ports.Port as port
use Rattle.laws_wire.specs.Wire as wire
use Rattle.model_bits.specs.OpenGap.{run_of}
use Rattle.model_bits.proofs.Places.{ends_flag-run}
use Rattle.model_bits.proofs.RoundTripPlaces.{hears}
use Rattle.laws_order.specs.circuit.Circuit.{happens}
use Rattle.laws_time.proofs.OfCircuit.AnsweredBits.{longer-begins}

-- After a flag, what came before it does not matter.
run-same : (w P Q : List Bool) → run_of (w ++ after_flag P) ≡ run_of (w ++ after_flag Q)
run-same [] P Q = refl
run-same (false ∷ w) P Q = refl
run-same (true ∷ w) P Q = ap (λ n. min 7 (n + 1)) (run-same w P Q)

flag-same : (b : Bool) (w P Q : List Bool) → ends_flag (b ∷ (w ++ after_flag P)) ≡ ends_flag (b ∷ (w ++ after_flag Q))
flag-same b w P Q = grind (arith, ends_flag-run, run-same)

since-same : (w P Q : List Bool) → since_flag (w ++ after_flag P) ≡ since_flag (w ++ after_flag Q)
since-same [] P Q = refl
since-same (b ∷ w) P Q =
    ap (λ t. cond t (Some []) (option_map (λ g. b ∷ g) (since_flag (w ++ after_flag P)))) (flag-same b w P Q)
    ∙ ap (λ o. cond (ends_flag (b ∷ (w ++ after_flag Q))) (Some []) (option_map (λ g. b ∷ g) o)) (since-same w P Q)

heard-same : (room : ℕ) (b : Bool) (w P Q : List Bool) → heard_at room (b ∷ (w ++ after_flag P)) ≡ heard_at room (b ∷ (w ++ after_flag Q))
heard-same room b w P Q = grind (arith, flag-same, since-same)

pub hears-same : (room : ℕ) (y w P Q : List Bool) → hears room (w ++ after_flag P) y ≡ hears room (w ++ after_flag Q) y
hears-same room [] w P Q = refl
hears-same room (b ∷ y) w P Q =
    ap (λ o. option_to_list o ++ hears room (b ∷ (w ++ after_flag P)) y) (heard-same room b w P Q)
    ∙ ap (λ l. option_to_list (heard_at room (b ∷ (w ++ after_flag Q))) ++ l) (hears-same room y (b ∷ w) P Q)

-- Flags before a text are not heard.
pub bits-flags : (n : ℕ) → bits (replicate n 0x7E) ≡ flat_map item_text (replicate n idle)
unfolding low_bits
bits-flags zero = refl
bits-flags (suc n) = ap (λ b. flag ++ b) (bits-flags n)

whole-idle : (n201 n : ℕ) → AreHeardWhole n201 (replicate n idle)
whole-idle n201 zero = tt
whole-idle n201 (suc n) = whole-idle n201 n

none-of : (n : ℕ) → frames_of (replicate n idle) ≡ []
none-of zero = refl
none-of (suc n) = none-of n

flag-last : (n : ℕ) → flags n ++ 0x7E ∷ [] ≡ flags (suc n)
flag-last zero = refl
flag-last (suc n) = ap (λ os. 0x7E ∷ os) (flag-last n)

pub part-of : (n : ℕ) (x m : List ℕ) → replicate n 0x7E ≡ x ++ m → x ≡ replicate (length x) 0x7E
part-of n [] m is = refl
part-of zero (a ∷ x) m is = cc is
part-of (suc n) (a ∷ x) m is = go (cc is) (part-of n x m (cc is))
  where
    go : 0x7E ≡ a → x ≡ replicate (length x) 0x7E → a ∷ x ≡ 0x7E ∷ replicate (length x) 0x7E
    go same rest = λ i. sym same i ∷ rest i

pub one-of-two : {A : Type 0} (o e : Option A) → option_to_list o ≡ option_to_list e → o ≡ e
one-of-two o e h1z = grind arith

module _ (n201 : ℕ) where
  pub flags-silent : (n : ℕ) → heard_in n201 (replicate n 0x7E) ≡ []
  flags-silent zero = refl
  flags-silent (suc n) =
      frames_round_trip_lem n201 (replicate n idle) (replicate (suc n) 0x7E) 0 (omega arith) (whole-idle n201 n) (bits-flags (suc n) ∙ sym (append-nil (flag ++ flat_map item_text (replicate n idle))))
      ∙ none-of n

  text-heard : (n : ℕ) (x : List ℕ) (y : List Bool) → bits x ≡ flag ++ y
      → heard_in n201 (replicate n 0x7E ++ x) ≡ heard_until (room_for n201) (after_flag (reverse_aux (bits (replicate n 0x7E)) [])) ++ hears (room_for n201) (after_flag (reverse_aux (bits (replicate n 0x7E)) [])) y
  text-heard n x y is = grind (arith, bits-append, reverse_aux-append, heard_until-onto)

  silent-place : (n : ℕ) → heard_until (room_for n201) (after_flag (reverse_aux (bits (replicate n 0x7E)) [])) ≡ []
  silent-place n =
      sym (append-nil (heard_until (room_for n201) (after_flag (reverse_aux (bits (replicate n 0x7E)) [])))) ∙ sym (text-heard n (0x7E ∷ []) [] (bits-flags 1))
      ∙ ap (heard_in n201) (flag-last n) ∙ flags-silent (suc n)

  pub heard-after : (x : List ℕ) (y : List Bool) → bits x ≡ flag ++ y → heard_in n201 x ≡ hears (room_for n201) (after_flag []) y
  heard-after x y is = text-heard 0 x y is ∙ ap (λ l. l ++ hears (room_for n201) (after_flag []) y) (silent-place 0)

  abbrev pub Begins : List ℕ → Type 0
  Begins x = (x ≡ []) ⊎ ((y : List Bool) × (bits x ≡ flag ++ y))

  pub flags-before : (n : ℕ) (x : List ℕ) → Begins x → heard_in n201 (replicate n 0x7E ++ x) ≡ heard_in n201 x
  flags-before n x (inl none) = grind (arith, heard_in, replicate, append-nil, flags-silent)
  flags-before n x (inr y) =
      let P = reverse_aux (bits (replicate n 0x7E)) [] in
      text-heard n x y.0 y.1 ∙ ap (λ l. l ++ hears (room_for n201) (after_flag P) y.0) (silent-place n) ∙ hears-same (room_for n201) y.0 [] P [] ∙ sym (heard-after x y.0 y.1)

  -- Of what was given, first a flag.
  pub begins-so : (g x more : List ℕ) (left t : List Bool) → bits g ++ left ≡ flag ++ t → g ≡ x ++ more → Begins x
  begins-so g [] more left t text is = inl refl
  begins-so g (a ∷ x) more left t text is =
      let all : bits (a ∷ x) ++ (bits more ++ left) ≡ flag ++ t = grind (arith, append_assoc, bits, bits-append) in let long = length-bits (a ∷ x) in
      let r = longer-begins flag t (bits (a ∷ x)) (bits more ++ left) (sym all) (omega (arith, long)) in inr (r.0, r.1)

  -- So an octet brings the same behind flags.
  pub flags-gained : (k : ℕ) (g x : List ℕ) (value : ℕ) (more : List ℕ) (left t : List Bool) → bits g ++ left ≡ flag ++ t → g ≡ x ++ value ∷ more
      → gained n201 (replicate k 0x7E ++ x) value ≡ gained n201 x value
  flags-gained k g x value more left t text is =
      let F : List ℕ = replicate k 0x7E in let behind = option_to_list (gained n201 (F ++ x) value) in
      one-of-two (gained n201 (F ++ x) value) (gained n201 x value) (append_cancel_left (heard_in n201 x) behind (option_to_list (gained n201 x value))
      (ap (λ h. h ++ behind) (sym (flags-before k x (begins-so g x (value ∷ more) left t text is))) ∙ sym (heard_with n201 (F ++ x) value) ∙ ap (heard_in n201) (append_assoc F x (value ∷ []))
      ∙ flags-before k (x ++ value ∷ []) (begins-so g (x ++ value ∷ []) more left t text (is ∙ sym (append_assoc x (value ∷ []) more))) ∙ heard_with n201 x value))

  -- What is heard after the flags of the beginning stood in what was given.
  pub gained-there : (way : ℕ) (g x : List ℕ) (value : ℕ) (more : List ℕ) (left t : List Bool) (e : stream.Event) → bits g ++ left ≡ flag ++ t → replicate way 0x7E ++ g ≡ x ++ (value ∷ more)
      → gained n201 x value ≡ Some e → (before : List ℕ) × (g ≡ before ++ value ∷ more) × (gained n201 before value ≡ Some e)
  gained-there way g x value more left t e text is gains = go (cases_lt (length x) way)
    where
      go : (length x < way) ⊎ (way ≤ length x) → (before : List ℕ) × (g ≡ before ++ value ∷ more) × (gained n201 before value ≡ Some e)
      go (inl few) =
          let long = length-append x (value ∷ []) in let all : length (flags way) ≡ way = length-replicate {A = ℕ} way 0x7E in
          let r = longer-begins (x ++ value ∷ []) more (replicate way 0x7E) g (append_assoc x (value ∷ []) more ∙ sym is) (omega (arith, few, long, all)) in
          let silent = ap (heard_in n201) (part-of way (x ++ value ∷ []) r.0 r.1) ∙ flags-silent (length (x ++ value ∷ [])) in absurd (some-in (heard_in n201 x) e [] (sym silent ∙ (heard_with n201 x value ∙ ap (λ o. heard_in n201 x ++ option_to_list o) gains)))
      go (inr many) =
          let all : length (flags way) ≡ way = length-replicate {A = ℕ} way 0x7E in let r = longer-begins (replicate way 0x7E) g x (value ∷ more) is (omega (arith, many, all)) in
          (r.0, r.2, sym (flags-gained way g r.0 value more left t text r.2) ∙ ap (λ x. gained n201 x value) (sym r.1) ∙ gains)

-- ---- one direction of the clocked circuit

-- So many flags of the beginning, and then what was given: some of it was received, and the rest is in transit.
abbrev pub flagged : ℕ → Port → Port
flagged k p = record p { given = replicate k 0x7E ++ p.given }

abbrev pub Flow : ℕ → ℕ → Port → List ℕ → List ℕ → List (List ℕ) → Type 0
Flow n201 k p way received frames = Carries n201 (flagged k p) way received frames

-- As it begins flags are in transit.
pub first-flow : (n201 k : ℕ) (p : Port) (way received : List ℕ) → p ≡ fresh_port → received ≡ [] → way ≡ replicate k 0x7E → Flow n201 k p way received []
first-flow n201 k p way received here none is =
    subst (λ p. Flow n201 k p way received []) (sym here) (subst (λ received. Flow n201 k fresh_port way received []) (sym none)
    (subst (λ way. Flow n201 k fresh_port way [] []) (sym is) (record { given = append-nil (replicate k 0x7E); are = refl; octets = All-nil AreOctets })))

-- Of the frames on its way an end heard none whose octets received with noise.
pub record Going (n201 : ℕ) (p : Port) (way : List ℕ) (there : List (List ℕ)) : Type 0 where
  pub many : ℕ
  pub before : List ℕ
  pub flow : Flow n201 many p way before there

-- What does not change the port and the way leaves it.
pub going-with : (n201 : ℕ) (p q : Port) (way way' : List ℕ) (there : List (List ℕ)) → q.items ≡ p.items → q.given ≡ p.given → way' ≡ way → Going n201 p way there → Going n201 q way' there
going-with n201 p q way way' there items given same h = record {
  many = h.many;
  before = h.before;
  flow = record {
    given = ap (λ g. replicate h.many 0x7E ++ g) given ∙ h.flow.given ∙ ap (λ w. h.before ++ w) (sym same);
    are = ap (λ is. framed (frames_among is)) items ∙ h.flow.are;
    octets = subst (λ is. All AreOctets (frames_among is)) (sym items) h.flow.octets;
  };
}

-- So much of what was given has come, or had to come.
pub before-long : (n201 : ℕ) (p : Port) (way : List ℕ) (there : List (List ℕ)) (g : Going n201 p way there) (n transit : ℕ) → length p.given ≡ n → length way ≡ transit
    → g.many + n ≤ length g.before + transit
before-long n201 p way there g n transit given long =
    let all = ap length g.flow.given in let a = length-append (replicate g.many 0x7E) p.given in let b = length-append g.before way in
    let f : length {A = ℕ} (replicate g.many 0x7E) ≡ g.many = length-replicate {A = ℕ} g.many 0x7E in omega (arith, all, a, b, f, given, long)

-- ---- a pull

frame-put : (g : Option NextFrame) → frames_among (item_of g ∷ []) ≡ wire.frames_by (line.gave g)
frame-put g = grind arith

octets-put : (g : Option NextFrame) → ((f : NextFrame) → g ≡ Some f → AreOctets f.octets) → All AreOctets (frames_among (item_of g ∷ []))
octets-put g h = grind arith

octet-flows : (n201 k : ℕ) (p : Port) (way received : List ℕ) (frames : List (List ℕ)) → Flow n201 k p way received frames → Flow n201 k (with_octet p) (way ++ next_octet p ∷ []) received frames
octet-flows n201 k p way received frames h = record {
  given = sym (append_assoc (replicate k 0x7E) p.given (next_octet p ∷ [])) ∙ ap (λ os. os ++ next_octet p ∷ []) h.given ∙ append_assoc received way (next_octet p ∷ []);
  are = h.are;
  octets = h.octets;
}

module _ (c : Config) (ranged : IsInRange c) (s : OctetEndpoint) (ran : Ran c s) (there : List (List ℕ)) where
  pub pulled-goes : (n201 k : ℕ) (way received : List ℕ) → Flow n201 k (port_of s) way received there → (due : Bool) → let o : Option line.Event = cond due (Some line.next) None in
      let q = with_item (option_map (answer_to s.card.card) (option_map (frames.at s.line) o)) (port_of s) in
      Flow n201 k (with_octet q) (way ++ next_octet q ∷ []) received (if_meant o (as_endpoint there s)).way
  unfolding line_answer takes_slot
  pulled-goes n201 k way received flow true =
      let g = given_in (machine.answer (frames.at s.line line.next) s.card.card) in let q : Port = record (port_of s) { items = (port_of s).items ++ item_of g ∷ [] } in
      subst (λ frames. Flow n201 k (with_octet q) (way ++ next_octet q ∷ []) received (there ++ frames)) (frame-put g) (octet-flows n201 k q way received (there ++ frames_among (item_of g ∷ []))
      (one-put n201 (flagged k (port_of s)) way received there flow (item_of g) (octets-put g (λ f is. gives-octets c ranged s ran f (ap line.gave is)))))
  pulled-goes n201 k way received flow false = octet-flows n201 k (port_of s) way received there flow

  pub pulled-flow : (n201 k : ℕ) (received : List ℕ) → Flow n201 k (port_of s) s.way received there → (due : Bool) → is_due (port_of s) ≡ due
      → Flow n201 k (port_of (happens port.pull s)) (happens port.pull s).way received (if_meant (cond due (Some line.next) None) (as_endpoint there s)).way
  unfolding answer meant
  pulled-flow n201 k received h due is =
      let Now : Port → Bool → Type 0 = λ p due. Flow n201 k p (happens port.pull s).way received (if_meant (cond due (Some line.next) None) (as_endpoint there s)).way in
      subst (Now (port_of (happens port.pull s))) is (subst (λ p. Now p (is_due (port_of s))) (sym (port-after s port.pull (within-ports c ranged s ran))) (pulled-goes n201 k s.way received h (is_due (port_of s))))

  pub pulled-way : (h : Going c.n201 (port_of s) s.way there) (due : Bool) → is_due (port_of s) ≡ due
      → Going c.n201 (port_of (happens port.pull s)) (happens port.pull s).way (if_meant (cond due (Some line.next) None) (as_endpoint there s)).way
  pulled-way h due is = record { many = h.many; before = h.before; flow = pulled-flow c.n201 h.many h.before h.flow due is }

-- ---- an octet goes off the way, and a frame ends there, or none

-- Behind the flags of the beginning what was given comes.
pub unflagged : (n201 k : ℕ) (p : Port) (way received x : List ℕ) (frames : List (List ℕ)) → IsSoundPort n201 p → received ≡ replicate k 0x7E ++ x → p.given ≡ x ++ way → Flow n201 k p way received frames → Carries n201 p way x frames
unflagged n201 k p way received x frames sound is given h = record {
  given = given;
  are = h.are ∙ ap (λ es. es ++ framed frames) (ap (heard_in n201) is ∙ flags-before n201 k x (begins-so n201 p.given x way (left_of p) (flat_map item_text p.items) (sym sound.text.text) given));
  octets = h.octets;
}

-- So it does once more than the flags has come.
pub past-flags : (n201 : ℕ) (p : Port) (way : List ℕ) (there : List (List ℕ)) (g : Going n201 p way there) → IsSoundPort n201 p → (most : ℕ) → g.many + most < length g.before
    → (x : List ℕ) × Carries n201 p way x there × (most < length x)
past-flags n201 p way there g sound most late =
    let F : List ℕ = replicate g.many 0x7E in let f : length {A = ℕ} (replicate g.many 0x7E) ≡ g.many = length-replicate {A = ℕ} g.many 0x7E in let x = longer-begins F p.given g.before way g.flow.given (omega (arith, late, f)) in
    let long = ap length x.1 ∙ length-append F x.0 in (x.0, unflagged n201 g.many p way g.before x.0 there sound x.1 x.2 g.flow, omega (arith, long, f, late))

-- A frame ends with the octet that comes as it was given: the first on the way.
module _ (n201 k : ℕ) (p : Port) (value : ℕ) (more received : List ℕ) (frames : List (List ℕ)) (h : Flow n201 k p (value ∷ more) received frames) (sound : IsSoundPort n201 p) (on : IsOnItsWay p) where
  -- What is in transit with it stands behind the flags.
  behind-flags : (x : List ℕ) → p.given ≡ x ++ value ∷ more → received ≡ replicate k 0x7E ++ x
  behind-flags x is =
      append_cancel_right received (replicate k 0x7E ++ x) (value ∷ more) (sym h.given ∙ ap (λ g. replicate k 0x7E ++ g) is ∙ sym (append_assoc (replicate k 0x7E) x (value ∷ more)))

  pub as-given : (x : List ℕ) → p.given ≡ x ++ value ∷ more → gained n201 received value ≡ gained n201 x value
  as-given x is =
      ap (λ os. gained n201 os value) (behind-flags x is)
      ∙ flags-gained n201 k p.given x value more (left_of p) (flat_map item_text p.items) (sym sound.text.text) is

  pub record Brings (e : stream.Event) : Type 0 where
    pub first : List ℕ
    pub rest : List (List ℕ)
    pub are : frames ≡ first ∷ rest
    pub event : e ≡ stream.frame first
    pub whole : came n201 first ≡ stream.frame first
    pub flow : Flow n201 k p more (received ++ value ∷ []) rest

  pub brings : (e : stream.Event) → gained n201 received value ≡ Some e → Brings e
  brings e gains =
      let H = heard_in n201 received in let x = gained-there n201 k p.given received value more (left_of p) (flat_map item_text p.items) e (sym sound.text.text) h.given gains in
      let y = one-heard n201 p (value ∷ more) x.0 frames (unflagged n201 k p (value ∷ more) received x.0 frames sound (behind-flags x.0 x.1) x.1 h) sound on value more e refl x.2 in
      record {
        first = y.first;
        rest = y.rest;
        are = y.frames_are;
        event = y.event;
        whole = y.whole;
        flow = record {
          given = h.given ∙ sym (append_assoc received (value ∷ []) more);
          are = h.are ∙ ap (λ fs. H ++ framed fs) y.frames_are ∙ sym (append_assoc H (stream.frame y.first ∷ []) (framed y.rest))
              ∙ ap (λ es. es ++ framed y.rest) (sym (heard_with n201 received value ∙ ap (λ o. H ++ option_to_list o) (gains ∙ ap (λ e. Some e) y.event)));
          octets = h.octets;
        };
      }

-- The other end gains a frame, or none; then it may be that one is lost.
abbrev pub IsNoFrame : Option stream.Event → Type 0
IsNoFrame o = (e : stream.Event) → o ≡ Some e → IsFrame e → ⊥

is-frame : (o : Option stream.Event) → ((e : stream.Event) × (o ≡ Some e) × IsFrame e) ⊎ IsNoFrame o
is-frame None = inr (λ e is so. none-some e is)
is-frame (Some (stream.dropped cause)) = inr (λ e is so. subst IsFrame (sym (same_Some (stream.dropped cause) e is)) so)
is-frame (Some (stream.frame octets)) = inl (stream.frame octets, refl, tt)
is-frame (Some (stream.overlong head)) = inl (stream.overlong head, refl, tt)

module _ (n201 : ℕ) (c : Config) (ranged : IsInRange c) (size : c.n201 ≡ n201) (s : OctetEndpoint) (ran : Ran c s) (there : List (List ℕ)) (value : ℕ) (more : List ℕ)
    (h : Going n201 (port_of s) (value ∷ more) there) (o : Option stream.Event)
    (clear : (e : stream.Event) → o ≡ Some e → IsFrame e → (before : List ℕ) × ((port_of s).given ≡ before ++ value ∷ more) × (gained n201 before value ≡ Some e)) where
  -- Nothing ends there, or the first frame on the way: it is lost, or gained.
  abbrev pub Comes : Type 0
  Comes =
      (IsNoFrame o × Going n201 (port_of s) more there) ⊎ ((first : List ℕ) × (left : List (List ℕ)) × (there ≡ first ∷ left) × Going n201 (port_of s) more left
      × (IsNoFrame o ⊎ ((o ≡ Some (stream.frame first)) × (came n201 first ≡ stream.frame first))))

  sound : IsSoundPort n201 (port_of s)
  sound = subst (λ n. IsSoundPort n (port_of s)) size (sound-port c ranged s ran)

  -- A frame that is gained ends there.
  its : (e : stream.Event) → o ≡ Some e → IsFrame e → gained n201 h.before value ≡ Some e
  its e gains so = let x = clear e gains so in as-given n201 h.many (port_of s) value more h.before there h.flow sound (on-line c ranged s ran) x.0 x.1 ∙ x.2

  then : (left : List (List ℕ)) → Flow n201 h.many (port_of s) more (h.before ++ value ∷ []) left → Going n201 (port_of s) more left
  then left flow = record { many = h.many; before = h.before ++ value ∷ []; flow = flow }

  pub comes : Comes
  comes = by-option (gained n201 h.before value)
      (λ none. inl ((λ e gains so. none-some e (sym none ∙ its e gains so)), then there (none-heard n201 (flagged h.many (port_of s)) (value ∷ more) h.before there h.flow value more refl none)))
      (λ e some.
      let x = brings n201 h.many (port_of s) value more h.before there h.flow sound (on-line c ranged s ran) e some in
      inr (x.first, x.rest, x.are, then x.rest x.flow, by-either (is-frame o) (λ f. inr (f.1 ∙ (sym (its f.0 f.1 f.2) ∙ some) ∙ ap (λ e. Some e) x.event, x.whole)) (λ none. inl none)))
