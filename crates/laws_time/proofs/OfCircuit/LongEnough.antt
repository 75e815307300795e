-- T200 is long enough, from the start of the circuit on, and from either side.
use Rattle.laws_time.proofs.Vocabulary.{All-map, All-weaker, length-map, All, All-head, All-nil, All-tail, AllByRecursion, AnswersComeInTime, AreClear, AreInRange, AreOctets, Assign, Beat, Begins, Bool, Card, Clocked, Config, Control, Expiry, GivesOctets, IsClean, IsClearAt, IsFit, IsInRange, IsTalk, Lengths, Line, List, OctetEndpoint, Parts, Port, Ran, RunsLong, Service, Some, StationStands}
use Rattle.laws_time.proofs.Vocabulary.{TimedEndpoint, [], after}
use Rattle.laws_time.proofs.Vocabulary.{all-left, all-right, answered, answered_in, ap, arith, as_endpoint, asked, asked-as, asked-way, at, beat, begins, cond, drop, endpoint, eq-eqb, fall_due, false, first, first_due, flags, frames_among, fresh, fresh_at, fresh_link, fresh_port, gained, goes-on, gone, is_final, is_poll, is_terminal, is_waiting, leb-true, length, length-drop, length-replicate}
use Rattle.laws_time.proofs.Vocabulary.{line_answer, longest, longest_text, map, meant_all, moment_of, moments as frame_moments, mul-div-le, mul-le, octet_at, octet_endpoint, octet_orders, of_aim, of_network, of_terminal, orders_in, port-after, port_of, ports_fresh, pulling, refl, refusal, same_Some, sides-turned, some-in, state_number, stopped, subst, suc, sym, tei_assign, tei_course}
use Rattle.laws_time.proofs.Vocabulary.{tei_refusal, terminal_course, true, true≢false, unless_refused, unless_refused_told, within-ports, zero, ℕ, ◌*◌, ◌++◌, ◌+◌, ◌/◌, ◌<◌, ◌∙◌, ◌∷◌, ◌≡◌, ◌≤◌}
use Rattle.lapd_frame.specs.declared.timers.Timer.TheVariants as timers
use Rattle.model_bits.specs.Stream as stream
use Rattle.model_card.specs.ports.Port as port
use Rattle.laws_order.specs.circuit.Circuit as circuit
use Rattle.model_teis.specs.terminal.Events as terminals
use Rattle.model_line.specs.Event as line
use Rattle.model_card.specs.Machine as machine
use Rattle.laws_wire.specs.Call as call
use Rattle.model_card.specs.ports.Run.{IsAtLine, after_all}
use Rattle.laws_wire.proofs.Beginning.{answers}
use Rattle.model_line.specs.Line.{Line as Line_first}
use Rattle.laws_time.proofs.OfCircuit.Under.{Goes, EndOk, state-here}
use Rattle.laws_time.proofs.OfCircuit.Beats.{Counts, comes-on, Gone, gone-on, HasHeard, heard-on, soon-now}
use Rattle.laws_time.proofs.OfCircuit.Ends.{Both, at_time, next-moment, one-beat, stands-on, both-begin}
use Rattle.laws_time.proofs.OfCircuit.Sender.{asks as asks_frame, Sends, asks, none-wait, text_length}
use Rattle.laws_time.proofs.OfCircuit.Open.{ring, half, pulled-on}
use Rattle.laws_time.proofs.OfCircuit.Standing.{Ends, pulls, IsOwn, bare}
use Rattle.laws_time.specs.circuit.LongEnough.{IsLongEnough, is_of}
use Rattle.laws_time.proofs.OctetsMean.{orders-are}
use Rattle.laws_time.proofs.Moments.{lengths-stay}
use Rattle.laws_time.proofs.OfCircuit.Orders.{AreOurs, ours-obeyed}

abbrev pub turned_line : Line → Line
turned_line l =
    record { near = l.far; far = l.near; near_line = l.far_line; far_line = l.near_line; tei = l.tei; service = l.service; lengths = l.far_lengths; far_lengths = l.lengths; rate = l.rate; way = l.way }

abbrev pub turned_beat : Beat → Beat
turned_beat b = record { near_asks = b.far_asks; far_asks = b.near_asks; near_noise = b.far_noise; far_noise = b.near_noise }

abbrev pub turned_world : Clocked → Clocked
turned_world w = record { near = w.far; far = w.near; beats = w.beats }

pub after-turned : (rate : ℕ) (bs : List Beat) (w : Clocked) → after rate (map turned_beat bs) (turned_world w) ≡ turned_world (after rate bs w)
after-turned rate [] w = refl
after-turned rate (b ∷ bs) w = after-turned rate bs (beat rate w b)

-- A line that is fit begins; and so does it from the other side.
abbrev pub begins_of : {l : Line} → IsFit l → Begins l
begins_of fit = record { call = fit.call; some = fit.some; lengths = fit.lengths }

abbrev pub begins-turned : (l : Line) → Begins l → Begins (turned_line l)
begins-turned l fit = record {
  call = record { near = fit.call.far; far = fit.call.near; opposite = (sides-turned l.near l.far fit.call.opposite.0, sym fit.call.opposite.1); terminal = fit.call.terminal };
  some = fit.some;
  lengths = (fit.lengths.1, fit.lengths.0);
}

module _ (l : Line) (fit : IsFit l) where
  pub longest-same : longest l.near.n201 ≡ longest l.far.n201
  longest-same = ap longest fit.call.opposite.1

  pub answered-same : answered_in l.far l.near l.way ≡ answered_in l.near l.far l.way
  answered-same = let same = longest-same in omega (arith, same)

  abbrev pub fit-turned : IsFit (turned_line l)
  fit-turned =
      let same = longest-same in let near = fit.t200.0 in let far = fit.t200.1 in let b = begins-turned l (begins_of fit) in
      record { call = b.call; some = fit.some; lengths = b.lengths; t200 = (omega (arith, same, far), omega (arith, same, near)) }

  pub talk-turned : (bs : List Beat) → All (IsTalk l) bs → All (IsTalk (turned_line l)) (map turned_beat bs)
  talk-turned bs all = All-map (IsTalk (turned_line l)) turned_beat bs (All-weaker (IsTalk l) (λ b. IsTalk (turned_line l) (turned_beat b)) (λ b is. (is.1, is.0)) bs all)

  pub clear-turned : (bs : List Beat) (w : Clocked) → AreClear l bs w → AreClear (turned_line l) (map turned_beat bs) (turned_world w)
  unfolding AreClear
  clear-turned [] w clear = tt
  clear-turned (b ∷ bs) w clear =
      let v = gone l.rate b w in (
        subst (λ n. IsClearAt n b.far_noise v.far v.near) fit.call.opposite.1 clear.1,
        subst (λ n. IsClearAt n b.near_noise v.near v.far) fit.call.opposite.1 clear.0,
        clear-turned bs (beat l.rate w b) clear.2,
      )

pub clean-turned : (bs : List Beat) → All IsClean bs → All IsClean (map turned_beat bs)
clean-turned bs all = All-map IsClean turned_beat bs (All-weaker IsClean (λ b. IsClean (turned_beat b)) (λ b is. (is.1, is.0)) bs all)

pub length-turned : (bs : List Beat) → length (map turned_beat bs) ≡ length bs
length-turned bs = length-map bs turned_beat

-- ---- T200 is long enough: as it falls due in a state that awaits an answer, none is under way

-- A command with P=1 asks for an answer.
of-asks : (c : Config) (octets : List ℕ) → is_of is_poll c octets ≡ true → is_of asks_frame c octets ≡ true
of-asks c octets is = grind arith

-- The moment of a timer that falls due.
pub due-is : (line now : ℕ) (its : Rattle.lapd_frame.specs.declared.timers.Timer.Timer) (xs : List Expiry) (x : Expiry) → AllByRecursion (λ x. x.line ≡ line) xs → first_due xs now ≡ Some x → x.timer ≡ its
    → (moment_of line its xs ≡ Some x.moment) × (x.moment ≤ now)
due-is line now its xs x h1z h2z h3z = grind (arith, eq-eqb, leb-true)

-- What each beat keeps in which noise makes no frame, beats keep.
pub clear-keeps : (l : Line) (Q : Beat → Type 0) (P : Clocked → Type 0) → ((b : Beat) (w : Clocked) → Q b → IsClearAt l.near.n201 b.near_noise (gone l.rate b w).near (gone l.rate b w).far
    → IsClearAt l.near.n201 b.far_noise (gone l.rate b w).far (gone l.rate b w).near → P w → P (beat l.rate w b)) → (bs : List Beat) → All Q bs → (w : Clocked) → AreClear l bs w → P w → P (after l.rate bs w)
unfolding AreClear
clear-keeps l Q P keep [] all w clear h = h
clear-keeps l Q P keep (b ∷ bs) all w clear h = clear-keeps l Q P keep bs (All-tail Q b bs all) (beat l.rate w b) clear.2 (keep b w (All-head Q b bs all) clear.0 clear.1 h)

-- What is given by an octet at most is given by it, too, if an end is only pulled.
-- Where no noise makes a frame in some beats, none does in the first of them, nor in the others.
pub clear-parts : (l : Line) (bs more : List Beat) (w : Clocked) → AreClear l (bs ++ more) w → AreClear l bs w × AreClear l more (after l.rate bs w)
unfolding AreClear
clear-parts l [] more w clear = (tt, clear)
clear-parts l (b ∷ bs) more w clear = let rest = clear-parts l bs more (beat l.rate w b) clear.2 in ((clear.0, clear.1, rest.0), rest.1)

module _ (c : Config) (service : Service) (tei : ℕ) (ranged : IsInRange c) (kind : Bool → Control → Bool)
    (plain : (p : Parts) → (asks_frame p.address.command p.control ≡ false) × (is_final p.address.command p.control ≡ false) → kind p.address.command p.control ≡ false) (most : ℕ) where
  pub pulling-on : (n : ℕ) (s : OctetEndpoint) (h : Ends c service tei 0 ranged s) → Sends c.n201 (is_of kind c) most (port_of s) (ring c service tei 0 ranged h.its)
      → (before : List ℕ) (value : ℕ) (more octets : List ℕ) → (port_of (pulling n s)).given ≡ before ++ value ∷ more → gained c.n201 before value ≡ Some (stream.frame octets)
      → is_of kind c octets ≡ true → length before ≤ most
  unfolding pulling
  pulling-on zero s h ok before value more octets given is its = ok.done before value more octets given is its
  pulling-on (suc n) s h ok before value more octets given is its =
      pulling-on n (circuit.happens port.pull s) (pulls c service tei 0 ranged s h).ends (pulled-on c service tei 0 ranged kind plain s h most ok) before value more octets given is its

module _ (l : Line) (fit : Begins l) where
  -- By this octet of an end all answers to what the other asked by then are given.
  abbrev pub by_now : ℕ → ℕ
  by_now S = l.way + S + (half l.near l.service l.tei 0 fit.call.near.0 + half l.far l.service l.tei 0 fit.call.far.0) + 1

  -- T200 that falls due runs at least as long as the answer takes.
  pub long-ago : (lengths : Lengths) → RunsLong l lengths → (S beats m : ℕ) → S + lengths.t200 * l.rate ≤ (m + 1) * l.rate → m ≤ beats / l.rate → S + answered_in l.near l.far l.way ≤ beats
  long-ago lengths runs S beats m started low =
      let whole = mul-div-le beats l.rate in let up = mul-le (m + 1) l.rate (beats / l.rate + 1) l.rate (omega (arith, low)) (omega arith) in
      let is : (beats / l.rate + 1) * l.rate ≡ l.rate * (beats / l.rate) + l.rate = grind arith in omega (arith, started, whole, up, is, runs)

  pub near-in-all : (S : ℕ) → l.way + (S + half l.near l.service l.tei 0 fit.call.near.0) < S + answered_in l.near l.far l.way
  near-in-all S = omega arith

  pub in-all : (S : ℕ) → l.way + by_now S < S + answered_in l.near l.far l.way
  in-all S = let same : longest_text l.near.n201 / 8 ≡ longest_text l.far.n201 / 8 = ap (λ n. longest_text n / 8) fit.call.opposite.1 in omega (arith, same)

  pub record Pair (w : Clocked) : Type 0 where
    pub both : Both l.rate (fresh l.near l.lengths) (fresh l.far l.far_lengths) w
    pub S : ℕ
    pub S2 : ℕ
    pub M : ℕ
    pub M2 : ℕ
    pub near_ok : EndOk l.near l.service l.tei 0 fit.call.near.0 l.lengths l.rate S M w.near
    pub far_ok : EndOk l.far l.service l.tei 0 fit.call.far.0 l.far_lengths l.rate S2 M2 w.far
    pub near_most : M ≤ by_now S2
    pub far_most : M2 ≤ by_now S
    pub near_counts : Counts l.service l.tei l.way l.lengths l.rate l.near fit.call.near.0 w.beats w.near
    pub far_counts : Counts l.service l.tei l.way l.far_lengths l.rate l.far fit.call.far.0 w.beats w.far

  pub soon : (w : Clocked) → w.beats + 1 ≤ (w.beats / l.rate + 1) * l.rate
  soon w = soon-now w.beats l.rate fit.some

  module _ (w : Clocked) (p : Pair w) where
    pub near-low : w.near.clock.now ≤ w.beats / l.rate
    near-low = subst (λ n. n ≤ w.beats / l.rate) (sym p.both.near_now) (next-moment l.rate w.beats fit.some).0

    pub near-high : w.beats / l.rate ≤ w.near.clock.now + 1
    near-high = subst (λ n. w.beats / l.rate ≤ n + 1) (sym p.both.near_now) (next-moment l.rate w.beats fit.some).1

    module _ (b : Beat) (talk : IsTalk l b) where
      -- As timers fall due,
      pub near-comes : (k : ℕ) → Goes l.near l.service l.tei 0 fit.call.near.0 l.lengths l.rate p.S p.M (at_time (w.beats / l.rate) w.near) (fall_due k (asked (w.beats / l.rate) b.near_asks w.near))
      near-comes k =
          comes-on l.service l.tei l.way l.lengths l.rate l.near fit.call.near.0 (w.beats / l.rate) w.beats p.S p.M b.near_asks w.near p.near_ok p.both.near near-low near-high p.near_counts (soon w) talk.0 k

      -- and an octet is pulled.
      pub near-gone : Gone l.service l.tei l.way l.lengths l.rate l.near fit.call.near.0 (w.beats / l.rate) w.beats p.S p.M (gone l.rate b w).near
      near-gone =
          gone-on l.service l.tei l.way l.lengths l.rate l.near fit.call.near.0 (w.beats / l.rate) w.beats p.S p.M b.near_asks w.near p.near_ok p.both.near near-low near-high p.near_counts (soon w) talk.0

module _ (l : Line) (fit : Begins l) (w : Clocked) (p : Pair l fit w) where
  -- From the other side.
  abbrev pub pair-turned : Pair (turned_line l) (begins-turned l fit) (turned_world w)
  pair-turned =
      let near = p.near_most in let far = p.far_most in
      record {
        both = record { near = p.both.far; far = p.both.near; near_now = p.both.far_now; far_now = p.both.near_now; near_leads = p.both.far_leads; far_leads = p.both.near_leads };
        S = p.S2;
        S2 = p.S;
        M = p.M2;
        M2 = p.M;
        near_ok = p.far_ok;
        far_ok = p.near_ok;
        near_most = omega (arith, far);
        far_most = omega (arith, near);
        near_counts = p.far_counts;
        far_counts = p.near_counts;
      }

  pub far-low : w.far.clock.now ≤ w.beats / l.rate
  far-low = near-low (turned_line l) (begins-turned l fit) (turned_world w) pair-turned

  pub far-high : w.beats / l.rate ≤ w.far.clock.now + 1
  far-high = near-high (turned_line l) (begins-turned l fit) (turned_world w) pair-turned

  module _ (b : Beat) (talk : IsTalk l b) where
    pub far-comes : (k : ℕ) → Goes l.far l.service l.tei 0 fit.call.far.0 l.far_lengths l.rate p.S2 p.M2 (at_time (w.beats / l.rate) w.far) (fall_due k (asked (w.beats / l.rate) b.far_asks w.far))
    far-comes = near-comes (turned_line l) (begins-turned l fit) (turned_world w) pair-turned (turned_beat b) (talk.1, talk.0)

    pub far-gone : Gone l.service l.tei l.way l.far_lengths l.rate l.far fit.call.far.0 (w.beats / l.rate) w.beats p.S2 p.M2 (gone l.rate b w).far
    far-gone = near-gone (turned_line l) (begins-turned l fit) (turned_world w) pair-turned (turned_beat b) (talk.1, talk.0)

    -- What comes is heard.
    near-heard : IsClearAt l.near.n201 b.near_noise (gone l.rate b w).near (gone l.rate b w).far
        → HasHeard l.service l.tei l.way l.lengths l.rate l.near fit.call.near.0 w.beats (near-gone l fit w p b talk).S' (by_now l fit far-gone.S') (gone l.rate b w).near (beat l.rate w b).near
    near-heard clear =
        let g = near-gone l fit w p b talk in let k = far-gone in let more = k.later in let most = p.near_most in let so_soon = soon l fit w in let given = g.given in
        heard-on l.service l.tei l.way l.lengths l.rate l.near fit.call.near.0 l.far fit.call.far.0 l.far_lengths l.near.n201 refl (sym fit.call.opposite.1) (sym fit.call.opposite.0)
        w.beats g.S' p.M (by_now l fit k.S') k.S' p.M2 (gone l.rate b w).near (gone l.rate b w).far g.ok k.ok (omega (arith, more, most)) (omega arith) b.near_noise clear g.given k.given k.way
        (subst (λ n. length (port_of (gone l.rate b w).near.at).given ≤ (n + 1) * l.rate) (sym g.now) (omega (arith, given, so_soon)))

    short : (a u : TimedEndpoint) → u.at.way ≡ drop 1 a.at.way → length a.at.way ≡ l.way + 1 → length u.at.way ≡ l.way
    short a u is long = let less = length-drop 1 a.at.way in ap length is ∙ omega (arith, less, long)

module _ (l : Line) (fit : Begins l) (w : Clocked) (p : Pair l fit w) (b : Beat) (talk : IsTalk l b) (clear_near : IsClearAt l.near.n201 b.near_noise (gone l.rate b w).near (gone l.rate b w).far)
    (clear_far : IsClearAt l.near.n201 b.far_noise (gone l.rate b w).far (gone l.rate b w).near) where
  -- After the beat.
  pub pair-then : Pair l fit (beat l.rate w b)
  unfolding near-gone far-gone near-low near-high soon
  pair-then =
      let g = near-gone l fit w p b talk in let k = far-gone l fit w p b talk in let x = near-heard l fit w p b talk clear_near in
      let y = near-heard (turned_line l) (begins-turned l fit) (turned_world w) (pair-turned l fit w p) (turned_beat b) (talk.1, talk.0)
      (subst (λ n. IsClearAt n b.far_noise (gone l.rate b w).far (gone l.rate b w).near) fit.call.opposite.1 clear_far) in
      let x_later = x.later in let y_later = y.later in let near_received = x.received in let far_received = y.received in let near_before = g.received in let far_before = k.received in
      record {
        both = one-beat l.rate fit.some (fresh l.near l.lengths) (fresh l.far l.far_lengths) b w p.both;
        S = x.S';
        S2 = y.S';
        M = by_now l fit k.S';
        M2 = by_now (turned_line l) (begins-turned l fit) g.S';
        near_ok = x.ok;
        far_ok = y.ok;
        near_most = omega (arith, y_later);
        far_most = omega (arith, x_later);
        near_counts = record { given = x.given; received = omega (arith, near_received, near_before); way = short l fit w p b talk (gone l.rate b w).near (beat l.rate w b).near x.way g.way };
        far_counts = record { given = y.given; received = omega (arith, far_received, far_before); way = short l fit w p b talk (gone l.rate b w).far (beat l.rate w b).far y.way k.way };
      }

  pub pair-later : p.S ≤ pair-then.S
  unfolding pair-then
  pair-later = let gone_later = (near-gone l fit w p b talk).later in let heard_later = (near-heard l fit w p b talk clear_near).later in omega (arith, gone_later, heard_later)

pub all-pairs : (l : Line) (fit : Begins l) (bs : List Beat) → All (IsTalk l) bs → (w : Clocked) → AreClear l bs w → Pair l fit w → Pair l fit (after l.rate bs w)
all-pairs l fit bs talk w clear p = clear-keeps l (IsTalk l) (Pair l fit) (λ b w t near far p. pair-then l fit w p b t near far) bs talk w clear p

pub near-long : (l : Line) (fit : IsFit l) (w : Clocked) → Pair l (begins_of fit) w → (b : Beat) → IsTalk l b → (n : ℕ) → IsLongEnough l l.near l.far (fall_due n (asked (w.beats / l.rate) b.near_asks w.near)) w.far
near-long l fit w p b talk n x state_now falls timer is waits =
    let a = fall_due n (asked (w.beats / l.rate) b.near_asks w.near) in let g = near-comes l (begins_of fit) w p b talk n in
    let at_due = due-is a.at.line a.clock.now (timers.T200 l.service l.tei) a.clock.running x g.ok.but.clock.here falls timer in
    let number = same_Some (state_number g.ok.but.ends.its.state) state_now (sym (state-here l.near l.service l.tei 0 fit.call.near.0 l.lengths l.rate a.at g.ok.but.ends) ∙ is) in
    let started = g.ok.timer x.moment (ap is_waiting number ∙ waits) at_due.0 in
    let ago = long-ago l (begins_of fit) l.lengths fit.t200.0 g.S' w.beats x.moment started (subst (λ k. x.moment ≤ k) g.now at_due.1) in
    let later = g.later in let far_received = p.far_counts.received in let most = p.far_most in
    let near_received = ap (λ (p : Port). length p.received) g.port ∙ p.near_counts.received in (
      (λ k before value more octets given gains poll.
          let early = pulling-on l.near l.service l.tei fit.call.near.0 asks_frame (λ q z. z.0) (g.S' + half l.near l.service l.tei 0 fit.call.near.0) k a.at g.ok.but.ends g.ok.but.polls before value more octets given gains
          (of-asks l.near octets poll) in
          let all = near-in-all l (begins_of fit) g.S' in omega (arith, early, ago, far_received, all)),
      (λ k before value more octets given gains final.
          let early = pulling-on l.far l.service l.tei fit.call.far.0 is_final (λ q z. z.1) p.M2 k w.far.at p.far_ok.but.ends p.far_ok.but.finals before value more octets given gains final in
          let all = in-all l (begins_of fit) g.S' in omega (arith, early, ago, near_received, later, all, most)),
    )

pub far-long : (l : Line) (fit : IsFit l) (w : Clocked) → Pair l (begins_of fit) w → (b : Beat) → IsTalk l b → (n : ℕ) → IsLongEnough l l.far l.near (fall_due n (asked (w.beats / l.rate) b.far_asks w.far)) w.near
far-long l fit w p b talk = near-long (turned_line l) (fit-turned l fit) (turned_world w) (pair-turned l (begins_of fit) w p) (turned_beat b) (talk.1, talk.0)

-- ---- two ends of the clocked circuit as they begin: nothing is under way, and no timer runs

-- An assignment orders nothing, whatever the side.
module _ (c : Config) (tei : ℕ) (l : Line_first) where
  here : (of_network c (tei_assign tei) l).told.orders ≡ []
  unfolding tei_course tei_refusal
  here = grind arith

  there : (of_terminal c (terminals.assign tei) l).told.orders ≡ []
  unfolding terminal_course
  there = grind arith

  assigned-none : orders_in (line_answer c (line.request (Assign tei)) l) ≡ []
  unfolding line_answer
  assigned-none = grind (arith, refusal, cond, of_terminal, of_network, there, here, orders_in, unless_refused_told, of_aim, unless_refused, is_terminal)

assign-orders : (number tei : ℕ) (card : Card) → orders_in (machine.answer (at number (line.request (Assign tei))) card) ≡ []
assign-orders number tei card = grind (arith, assigned-none)

-- A port that gave nothing, and has nothing to give.
pub sends-none : (n201 : ℕ) (kind : List ℕ → Bool) (most : ℕ) (p : Port) → p ≡ fresh_port → Sends n201 kind most p []
sends-none n201 kind most p is = grind (arith, some-in, none-wait, text_length, fresh_port)

module _ (c : Config) (ranged : IsInRange c) (number tei way : ℕ) (within : number < c.lines) where
  abbrev start : OctetEndpoint
  start = record (octet_endpoint c number) { way = flags way }

  ran-start : Ran c (record (octet_endpoint c number) { way = flags way })
  unfolding after_all meant_all frame_moments
  ran-start = record { within = within; events = []; at_lines = All-nil (IsAtLine (ports_fresh c)); is = refl; exact = All-nil GivesOctets }

  pub ran-begun : Ran c (circuit.happens (port.request (Assign tei)) (record (octet_endpoint c number) { way = flags way }))
  ran-begun = goes-on c start (port.request (Assign tei)) (All-nil (λ octet. octet < 256)) ran-start

  pub port-is : port_of (circuit.happens (port.request (Assign tei)) (record (octet_endpoint c number) { way = flags way })) ≡ fresh_port
  port-is = port-after start (port.request (Assign tei)) (within-ports c ranged start ran-start) ∙ fresh_at c number within

  pub way-is : (circuit.happens (port.request (Assign tei)) (record (octet_endpoint c number) { way = flags way })).way ≡ flags way
  way-is = asked-way (Assign tei) start

  pub station-is : as_endpoint [] (circuit.happens (port.request (Assign tei)) (record (octet_endpoint c number) { way = flags way })) ≡ call.assigned c number tei
  station-is = asked-as (Assign tei) start []

  pub none-ordered : octet_orders (answered (port.request (Assign tei)) start) ≡ []
  none-ordered = orders-are (octet_at number (port.request (Assign tei))) start.card (Some (line.request (Assign tei))) refl ∙ assign-orders number tei start.card.card

module _ (c : Config) (service : Service) (tei number way : ℕ) (ranged : IsInRange c) (within : number < c.lines) (few : tei ≤ 126) (lengths : Lengths) (in_range : AreInRange lengths) (rate : ℕ) where
  abbrev first_at : OctetEndpoint
  first_at = record (octet_endpoint c number) { way = flags way }

  abbrev its : OctetEndpoint
  its = circuit.happens (port.request (Assign tei)) (record (octet_endpoint c number) { way = flags way })

  abbrev ends : Ends c service tei 0 ranged (circuit.happens (port.request (Assign tei)) (record (octet_endpoint c number) { way = flags way }))
  ends = record {
    ran = ran-begun c ranged number tei way within;
    its = fresh_link;
    stands = subst (λ s. StationStands c service tei 0 s (bare c service tei 0 ranged fresh_link)) (sym (asked-as (Assign tei) first_at [])) (answers service tei c ranged few number within).stands;
    frames = subst (λ (p : Port). All (IsOwn c service tei 0 ranged) (frames_among p.items)) (sym (port-is c ranged number tei way within)) (All-nil (IsOwn c service tei 0 ranged));
    octets = subst (λ (p : Port). All AreOctets (frames_among p.items)) (sym (port-is c ranged number tei way within)) (All-nil AreOctets);
  }

  pub end-begins : (M : ℕ) → EndOk c service tei 0 ranged lengths rate 0 M (endpoint c number lengths way tei)
  end-begins M = record {
    but = record {
      ends = ends;
      clock = stands-on (port.request (Assign tei)) (first c number lengths way) (record { within = within; ranged = in_range; in_order = tt; here = tt; timely = tt });
      ours = ours-obeyed service tei number (stopped lengths) (octet_orders (answered (port.request (Assign tei)) first_at)) (subst (AreOurs service tei) (sym (none-ordered c ranged number tei way within)) tt) tt;
      lengths_are = lengths-stay number (stopped lengths) (octet_orders (answered (port.request (Assign tei)) first_at));
      early = omega arith;
      polls = sends-none c.n201 (is_of asks c) (0 + half c service tei 0 ranged) (port_of its) (port-is c ranged number tei way within);
      finals = sends-none c.n201 (is_of is_final c) M (port_of its) (port-is c ranged number tei way within);
    };
    timer = λ m waits at_m. absurd (true≢false (sym waits));
  }

  pub counts-begin : Counts service tei way lengths rate c ranged 0 (endpoint c number lengths way tei)
  counts-begin = record {
    given = ap (λ (p : Port). length p.given) (port-is c ranged number tei way within);
    received = ap (λ (p : Port). length p.received) (port-is c ranged number tei way within);
    way = ap length (way-is c ranged number tei way within) ∙ length-replicate way 0x7E;
  }

-- ---- answers come in time, from the start on

pub pair-begins : (l : Line) (fit : Begins l) → Pair l fit (begins l)
pair-begins l fit =
    let call = fit.call in
    record {
      both = both-begin l.near l.far l.near_line l.far_line l.tei l.way l.rate l.lengths l.far_lengths call.near.1 call.far.1 fit.lengths.0 fit.lengths.1;
      S = 0;
      S2 = 0;
      M = 0;
      M2 = 0;
      near_ok = end-begins l.near l.service l.tei l.near_line l.way call.near.0 call.near.1 call.terminal l.lengths fit.lengths.0 l.rate 0;
      far_ok = end-begins l.far l.service l.tei l.far_line l.way call.far.0 call.far.1 call.terminal l.far_lengths fit.lengths.1 l.rate 0;
      near_most = omega arith;
      far_most = omega arith;
      near_counts = counts-begin l.near l.service l.tei l.near_line l.way call.near.0 call.near.1 call.terminal l.lengths fit.lengths.0 l.rate;
      far_counts = counts-begin l.far l.service l.tei l.far_line l.way call.far.0 call.far.1 call.terminal l.far_lengths fit.lengths.1 l.rate;
    }

pub answers-come-in-time : AnswersComeInTime
answers-come-in-time l bs b n fit talk clear =
    let w = after l.rate bs (begins l) in let pair = all-pairs l (begins_of fit) bs (all-left (IsTalk l) bs (b ∷ []) talk) (begins l) clear (pair-begins l (begins_of fit)) in
    let last = All-head (IsTalk l) b [] (all-right (IsTalk l) bs (b ∷ []) talk) in (near-long l fit w pair b last n, far-long l fit w pair b last n)
