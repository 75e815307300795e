-- Without noise each frame that was put on the line is received so many beats later.
use Rattle.laws_time.proofs.Vocabulary.{All, All-head, All-tail, All-weaker, AreHeardWhole, AreShort, Assign, Beat, Bool, CanCall, Clocked, Config, Establish, FrameEndpoint, FramesComeInBeats, HasReceived, IsClean, IsInRange, IsStill, IsTalk, Item, Line, LineTold, List, OctetEndpoint, Port, Request, Service, Wire, [], after, after_flag, all-left, ap, append-nil, append_assoc, arith, begins, bits}
use Rattle.laws_time.proofs.Vocabulary.{bits-append, both_call, calls-come-through, confirmed, data_told, false, flag, flat_map, flat_map-append, framed, frames_among, frames_among-append, heard_in, hears-append, indicated, item_text, left_of, length, length-append, length-bits, length-replicate, line_text, longest, longest_text, map, nil_from_length, port_of, refl, replicate, reverse_aux}
use Rattle.laws_time.proofs.Vocabulary.{room_for, subst, sym, wire_doing_all, wire_turns, ℕ, ◌*◌, ◌++◌, ◌+◌, ◌<◌, ◌||◌, ◌∙◌, ◌∷◌, ◌≡◌, ◌≤◌}
use Rattle.model_bits.specs.Stream as stream
use Rattle.model_line.specs.Event as line
use Rattle.laws_wire.specs.Call as call
use Rattle.laws_wire.specs.Wire as wire
use Rattle.model_bits.proofs.RoundTripPlaces.{hears}
use Rattle.laws_time.proofs.OfCircuit.AgainLaw.{Since, since-first, since-all, noisy-long}
use Rattle.laws_time.proofs.OfCircuit.AgainRan.{EndAt, fine-at, Both, both-begin, both-all, Grown, grown-all, beats-then}
use Rattle.laws_time.proofs.OfCircuit.AgainText.{all-whole, whole-left, items-heard}
use Rattle.laws_time.proofs.OfCircuit.AnsweredBits.{longer-begins, Comes as Comes_here}
use Rattle.laws_time.proofs.OfCircuit.ArrivWay.{heard-after, flags-before, begins-so}
use Rattle.laws_time.proofs.OfCircuit.AgainExact.{all-small, frames-small, left-few}
use Rattle.laws_time.proofs.OfCircuit.Joined.{Joined, put_at}
use Rattle.laws_time.proofs.OfCircuit.Sender.{Fine}

-- ---- of one port, which puts and gives more, so much is received

module _ (n201 m n : ℕ) (p q : Port) (fine_p : Fine n201 p) (fine : Fine n201 q) (g : Grown n p q) where
  -- Something is put if fewer bits were left than were given since.
  pub put-more : length (left_of p) < 8 * n → length p.items < length q.items
  put-more few = go g.new g.items
    where
      go : (new : List Item) → q.items ≡ p.items ++ new → length p.items < length q.items
      go [] is =
          let same = ap length (sym fine_p.sound.text.text ∙ ap line_text (sym (is ∙ append-nil p.items)) ∙ fine.sound.text.text) in
          let a = length-append (bits p.given) (left_of p) in let b = length-append (bits q.given) (left_of q) in let c = length-bits p.given in let d = length-bits q.given in
          let e = ap length g.given ∙ length-append p.given g.more in let f = g.long in absurd (omega (arith, same, a, b, c, d, e, f, few))
      go (i ∷ is) more = let longer = ap length more ∙ length-append p.items (i ∷ is) in omega (arith, longer)

  -- All that was put by then is heard in what was given, once it is given.
  module _ (received transit : List ℕ) (given : q.given ≡ received ++ transit) (few : length (left_of p) ≤ longest_text m) (enough : length p.given + longest m ≤ length received) where
    whole : line_text p.items ++ (flat_map item_text g.new) ≡ bits received ++ (bits transit ++ left_of q)
    whole = grind (arith, line_text, flag, flat_map-append, item_text, bits, left_of, bits-append, append_assoc)

    part : (part : List Bool) × (bits received ≡ line_text p.items ++ part) × ((flat_map item_text g.new) ≡ part ++ (bits transit ++ left_of q))
    part =
        let a = ap length fine_p.sound.text.text ∙ length-append (bits p.given) (left_of p) in let b = length-bits p.given in let c = length-bits received in
        longer-begins (line_text p.items) (flat_map item_text g.new) (bits received) (bits transit ++ left_of q) whole (omega (arith, a, b, c, few, enough))

    pub heard-in-time : (more : List stream.Event) × (heard_in n201 received ≡ framed (frames_among p.items) ++ more)
    heard-in-time =
        let room = room_for n201 in let N = flat_map item_text p.items in
        let rest = hears room (reverse_aux N (after_flag [])) part.0 in (
          rest,
          heard-after n201 received (N ++ part.0) part.1 ∙ hears-append room N part.0 (after_flag [])
              ∙ ap (λ l. l ++ rest) (items-heard n201 [] p.items (whole-left n201 p.items g.new (subst (AreHeardWhole n201) g.items (all-whole n201 q fine)))),
        )

-- ---- from one end of the clocked circuit to the other, if there was no noise from the start on

module _ (c d : Config) (ranged : IsInRange c) (way e : ℕ) (u ru : OctetEndpoint) (hu : EndAt c way e u) (gu : EndAt d way e ru) (x : Comes_here way 0 (port_of u) u.way (port_of ru)) where
  -- What was sent was received, or is in transit.
  pub all-sent : replicate way 0x7E ++ (port_of u).given ≡ (port_of ru).received ++ u.way
  all-sent =
      let few = x.few in let same = noisy-long c d way e 0 u ru hu gu x in
      x.sent ∙ (λ i. (nil_from_length x.before (omega (arith, few)) i ++ x.as_sent) ++ u.way)
      ∙ ap (λ os. os ++ u.way) (sym (x.received ∙ ap (λ b. b ++ x.as_sent) (nil_from_length x.noisy (omega (arith, few, same)))))

  fine : Fine c.n201 (port_of u)
  fine = fine-at c ranged way e u hu

  flags-long : length {A = ℕ} (replicate way 0x7E) ≡ way
  flags-long = length-replicate {A = ℕ} way 0x7E

  -- After the flags of the beginning what was given comes.
  given : way ≤ length (port_of ru).received → (given : List ℕ) × ((port_of ru).received ≡ replicate way 0x7E ++ given) × ((port_of u).given ≡ given ++ u.way)
  given enough = let flags = flags-long in longer-begins (replicate way 0x7E) (port_of u).given (port_of ru).received u.way all-sent (omega (arith, enough, flags))

  -- All that was put so long ago is heard.
  module _ (m n j : ℕ) (w : OctetEndpoint) (hw : EndAt c way n w) (g : Grown j (port_of w) (port_of u)) (enough : way + (n + longest m) ≤ e) (small : All (λ octets. length octets ≤ m + 4) (frames_among (port_of w).items)) where
    pub received-whole : (more : List stream.Event) × (heard_in c.n201 (port_of ru).received ≡ framed (frames_among (port_of w).items) ++ more)
    received-whole =
        let fine_w = fine-at c ranged way n w hw in let all = gu.received in let x = given (omega (arith, all, enough)) in
        let flags = flags-long in let long = ap length x.1 ∙ length-append (replicate way 0x7E) x.0 in let given_w = hw.given in
        let h = heard-in-time c.n201 m j (port_of w) (port_of u) fine_w fine g x.0 u.way x.2 (left-few m (port_of w) fine_w.on.cut (all-small m (port_of w).items small))
        (omega (arith, all, flags, long, given_w, enough)) in
        (h.0, ap (heard_in c.n201) x.1 ∙ (flags-before c.n201 way x.0 (begins-so c.n201 (port_of u).given x.0 u.way (left_of (port_of u)) (flat_map item_text (port_of u).items) (sym fine.sound.text.text) x.2)) ∙ h.1)

module _ (l : Line) (can : CanCall l.near l.near_line l.far l.far_line l.tei) where
  -- From any time on.
  pub come-from : (m : ℕ) (bs : List Beat) → All (IsTalk l) bs → All IsClean bs → (w : Clocked) → Since l can 0 w → longest m + l.way ≤ length bs → AreShort m w.near → AreShort m w.far
      → let u = after l.rate bs w in HasReceived l w.near u.far × HasReceived l w.far u.near
  come-from m bs talk is_clean w at_w enough small small_far =
      let u = after l.rate bs w in let at_u = since-all l can 0 bs talk is_clean w at_w in let g = grown-all l can bs talk w at_w.both in
      let e = beats-then l.rate bs w in let long : l.way + (w.beats + longest m) ≤ u.beats = omega (arith, e, enough) in
      let there = received-whole l.near l.far can.near.0 l.way u.beats u.near.at u.far.at at_u.both.near at_u.both.far at_u.there m w.beats (length bs) w.near.at at_w.both.near g.near long small in
      let back = received-whole l.far l.near can.far.0 l.way u.beats u.far.at u.near.at at_u.both.far at_u.both.near at_u.back m w.beats (length bs) w.far.at at_w.both.far g.far long small_far in
      (there, (back.0, ap (λ n. heard_in n (port_of u.near.at).received) (sym (sym can.opposite.1)) ∙ back.1))

  -- Frames have as many octets as N201 says at most.
  pub short-always : (w : Clocked) → Both l can w → AreShort l.near.n201 w.near × AreShort l.near.n201 w.far
  short-always w h = (
    frames-small l.near.n201 (port_of w.near.at).items (fine-at l.near can.near.0 l.way w.beats w.near.at h.near).sound.sizes,
    subst (λ n. AreShort n w.far) (sym can.opposite.1) (frames-small l.far.n201 (port_of w.far.at).items (fine-at l.far can.far.0 l.way w.beats w.far.at h.far).sound.sizes),
  )

  -- Those that were put by some time are as short as those that were put later.
  pub short-before : (m : ℕ) (bs : List Beat) → All (IsTalk l) bs → (w : Clocked) → Both l can w → let u = after l.rate bs w in AreShort m u.near → AreShort m u.far → AreShort m w.near × AreShort m w.far
  short-before m bs talk w h small small_far =
      let g = grown-all l can bs talk w h in (front (port_of w.near.at).items g.near.new (port_of (after l.rate bs w).near.at).items g.near.items small, front (port_of w.far.at).items g.far.new (port_of (after l.rate bs w).far.at).items g.far.items small_far)
    where
      front : (xs ys zs : List Item) → zs ≡ xs ++ ys → All (λ (octets : List ℕ). length octets ≤ m + 4) (frames_among zs) → All (λ (octets : List ℕ). length octets ≤ m + 4) (frames_among xs)
      front xs ys zs is all = all-left (λ (octets : List ℕ). length octets ≤ m + 4) (frames_among xs) (frames_among ys) (subst (All (λ (octets : List ℕ). length octets ≤ m + 4)) (ap frames_among is ∙ frames_among-append xs ys) all)

  -- Few bits are left then.
  pub few-left : (m : ℕ) (w : Clocked) → Both l can w → AreShort m w.near → AreShort m w.far → (length (left_of (port_of w.near.at)) ≤ longest_text m) × (length (left_of (port_of w.far.at)) ≤ longest_text m)
  few-left m w h small small_far = (
    left-few m (port_of w.near.at) (fine-at l.near can.near.0 l.way w.beats w.near.at h.near).on.cut (all-small m (port_of w.near.at).items small),
    left-few m (port_of w.far.at) (fine-at l.far can.far.0 l.way w.beats w.far.at h.far).on.cut (all-small m (port_of w.far.at).items small_far),
  )

  -- So each end puts something soon.
  module _ (bs : List Beat) (talk : All (IsTalk l) bs) (w : Clocked) (h : Both l can w) where
    pub near-puts : length (left_of (port_of w.near.at)) < 8 * length bs → put_at w.near.at < put_at (after l.rate bs w).near.at
    near-puts few =
        let u = after l.rate bs w in let k = both-all l can bs talk w h in
        put-more l.near.n201 0 (length bs) (port_of w.near.at) (port_of u.near.at) (fine-at l.near can.near.0 l.way w.beats w.near.at h.near) (fine-at l.near can.near.0 l.way u.beats u.near.at k.near) (grown-all l can bs talk w h).near few

    pub far-puts : length (left_of (port_of w.far.at)) < 8 * length bs → put_at w.far.at < put_at (after l.rate bs w).far.at
    far-puts few =
        let u = after l.rate bs w in let k = both-all l can bs talk w h in
        put-more l.far.n201 0 (length bs) (port_of w.far.at) (port_of u.far.at) (fine-at l.far can.far.0 l.way w.beats w.far.at h.far) (fine-at l.far can.far.0 l.way u.beats u.far.at k.far) (grown-all l can bs talk w h).far few

  -- What is received and in transit, if no frame is.
  pub none-left : (w : Clocked) → Since l can 0 w → framed (frames_among (port_of w.near.at).items) ≡ heard_in l.near.n201 (port_of w.far.at).received → framed (frames_among (port_of w.far.at).items) ≡ heard_in l.near.n201 (port_of w.near.at).received
      → Joined l.near.n201 l.way l.near l.far w.near.at w.far.at w.near.at.way w.far.at.way [] []
  none-left w h near far = record {
    near = h.both.near.ran;
    far = h.both.far.ran;
    goes = record {
      given = all-sent l.near l.far can.near.0 l.way w.beats w.near.at w.far.at h.both.near h.both.far h.there;
      are = near ∙ sym (append-nil (heard_in l.near.n201 (port_of w.far.at).received));
      octets = h.both.near.octets;
    };
    comes = record {
      given = all-sent l.far l.near can.far.0 l.way w.beats w.far.at w.near.at h.both.far h.both.near h.back;
      are = far ∙ sym (append-nil (heard_in l.near.n201 (port_of w.near.at).received));
      octets = h.both.far.octets;
    };
  }

  pub since-begun : (bs : List Beat) → All (IsTalk l) bs → All IsClean bs → Since l can 0 (after l.rate bs (begins l))
  since-begun bs talk is_clean = since-all l can 0 bs talk is_clean (begins l) (since-first l can (begins l) (both-begin l can))

pub frames-come-in-beats : FramesComeInBeats
frames-come-in-beats l b before bs m fit talk talk_bs clean_before is_clean enough small small_far =
    come-from l fit.call m bs talk_bs is_clean (after l.rate (b ∷ before) (begins l)) (since-begun l fit.call (b ∷ before) talk clean_before) enough small small_far

-- ---- a call of frames, in which data alone is asked for once one end has asked for the establishment

module _ (service : Service) (tei : ℕ) where
  -- Once so many frames are to be sent and received, and two for each content more, all is told: to the near end this of what the far end
  -- was granted, and so to the far end.
  pub record Comes (most : ℕ) (near_due far_due : List (List ℕ) → List LineTold) (first : Wire) (es : List wire.StepAt) : Type 0 where
    pub turns : wire_turns es first + 4 * (length first.near.granted + length first.far.granted)
        ≤ 2 * most + 4 * (length (wire_doing_all es first).near.granted + length (wire_doing_all es first).far.granted)
    pub near_all : IsStill (wire_doing_all es first) → (wire_doing_all es first).near.told ≡ near_due (wire_doing_all es first).far.granted
    pub far_all : IsStill (wire_doing_all es first) → (wire_doing_all es first).far.told ≡ far_due (wire_doing_all es first).near.granted

  abbrev pub Due : LineTold → List (List ℕ) → List LineTold
  Due first granted = first ∷ map (data_told service tei) granted

  abbrev Talks : wire.StepAt → Type 0
  Talks x = call.IsTalk service tei x

  one-call : (x : wire.StepAt) → Talks x → call.IsCall service tei x
  one-call other is = grind arith

  pub are-calls : (es : List wire.StepAt) → All Talks es → All (call.IsCall service tei) es
  are-calls = All-weaker Talks (call.IsCall service tei) one-call

  one-none : (x : wire.StepAt) → Talks x → (w : wire.Wire) → call.calls_back x w ≡ false
  one-none x h1z w = grind arith

  pub none-call : (es : List wire.StepAt) → All Talks es → (w : wire.Wire) → call.both_call es w ≡ false
  unfolding both_call
  none-call [] all w = refl
  none-call (e ∷ es) all w = let first = one-none e (All-head Talks e es all) w in let rest = none-call es (All-tail Talks e es all) (wire.doing e w) in (λ i. first i || rest i)

  none-given : (a : line.Answer) → wire.unless_refused a [] ≡ []
  none-given a = grind arith

  grants-none : (r : Request) → wire.contents_requested r ≡ [] → (s : FrameEndpoint) → (wire.happens (line.request r) s).granted ≡ s.granted
  grants-none r none s = grind (arith, none-given, append-nil)

  module _ (c d : Config) (line other : ℕ) (can : CanCall c line d other tei) where
    abbrev starts : wire.Wire
    starts = call.calling service tei c line d other

    pub near-none : (call.calling service tei c line d other).near.granted ≡ []
    near-none = grants-none (Establish service tei) refl (call.assigned c line tei) ∙ grants-none (Assign tei) refl (call.endpoint c line)

    pub far-none : (call.calling service tei c line d other).far.granted ≡ []
    far-none = grants-none (Assign tei) refl (call.endpoint d other)

    pub call-comes : (es : List wire.StepAt) → All Talks es → Comes 2 (Due (confirmed service tei)) (Due (indicated service tei)) (call.calling service tei c line d other) es
    call-comes es all =
        let came : call.ComesThrough service tei (wire_turns es starts) false (wire_doing_all es starts) =
        subst (λ b. call.ComesThrough service tei (wire_turns es starts) b (wire_doing_all es starts)) (none-call es all starts) (calls-come-through service c d line other tei es can (are-calls es all)) in
        let turns = came.turns in let none = ap length near-none in let none_far = ap length far-none in
        record { turns = omega (arith, turns, none, none_far); near_all = came.near.1; far_all = came.far.1 }
