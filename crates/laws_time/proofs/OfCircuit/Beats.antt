-- An octet comes to an end of the clocked circuit, and one is pulled there.
use Rattle.laws_time.proofs.Vocabulary.{All, Bool, Config, IsClearAt, IsInRange, IsOfLink, Lengths, LinkEvent, List, None, OctetEndpoint, Ok, Option, Parts, Port, Request, Service, Some, TimedCard, TimedEndpoint, [], answer as ports_answer, answered, ap, arith, asked, asks as asks_at_end, came, card_of, comes_to, cond, drop, fall_due, fold, gained, Link, inl, inr, by-bool}
use Rattle.laws_time.proofs.Vocabulary.{happens, heard-way, heard_side, hears, is_due, is_final, is_time, is_waiting, length, length-append, list_any, lt-div-mul-add, moment_of, obeyed, octet_at, octet_orders, octet_pulled, option_map, option_map_or, or-none, own_side, parts_of, port-after, port_of, reading, refl, state_number}
use Rattle.laws_time.proofs.Vocabulary.{subst, sym, true, true≢false, unwrap_or, with_item, with_octet, within-ports, without_first_octet, ℕ, ◌*◌, ◌++◌, ◌+◌, ◌/◌, ◌∙◌, ◌∷◌, ◌≡◌, ◌≤◌}
use Rattle.model_bits.specs.Stream as stream
use Rattle.model_link.specs.Events as link
use Rattle.model_link.specs.Machine as links
use Rattle.model_line.specs.Event as line
use Rattle.model_card.specs.ports.Port as port
use Rattle.laws_order.specs.circuit.Circuit as circuit
use Rattle.laws_time.proofs.Moments.{lengths-stay, now-stays}
use Rattle.laws_time.proofs.OctetsMean.{meant_at, orders-are, event-inside}
use Rattle.laws_time.proofs.OfCircuit.Ends.{stands-on, Rests, at_time, time-comes}
use Rattle.laws_time.proofs.OfCircuit.Sender.{asks, is_asked, Sends, sends-with, sends-later, its-frame, own-frame}
use Rattle.laws_time.proofs.OfCircuit.Orders.{AreOurs, ours-obeyed, dropped-heard, frame-heard, pull-ours}
use Rattle.laws_time.proofs.OfCircuit.Open.{IsOrdinary, ring, half, pulled-on}
use Rattle.laws_time.proofs.OfCircuit.Standing.{Ends, IsOwn, Moved, Pulled, heard-none, heard-dropped, heard-frame, pulls, bare, fine}
use Rattle.laws_time.proofs.OfCircuit.Under.{EndOk, IsLong, Then, state-here, moved-on, IsSoon, Goes, goes-both, soon-then, all-asked, all-fall, still-runs}
use Rattle.laws_time.specs.circuit.LongEnough.{is_of}
use Rattle.laws_time.proofs.OfCircuit.AnsweredRows.{offer-stays}

module _ (c : Config) (service : Service) (tei place : ℕ) (ranged : IsInRange c) (lengths : Lengths) (rate : ℕ) where
  abbrev EndHere : ℕ → ℕ → TimedEndpoint → Type 0
  EndHere S M a = EndOk c service tei place ranged lengths rate S M a

  -- An event that means nothing at the card of frames.
  module _ (a : TimedEndpoint) (ev : port.Event) (means : meant_at (octet_at a.at.line ev) a.at.card ≡ None) where
    same-clock : obeyed a.at.line (octet_orders (answered ev a.at)) a.clock ≡ a.clock
    same-clock = ap (λ os. obeyed a.at.line os a.clock) (orders-are (octet_at a.at.line ev) a.at.card None means)

    same-card : (circuit.happens ev a.at).card.card ≡ a.at.card.card
    same-card = ap (λ (t : TimedCard). t.card) (event-inside (octet_at a.at.line ev) (card_of a) None means)

    none-ours : AreOurs service tei (octet_orders (answered ev a.at))
    none-ours = subst (AreOurs service tei) (sym (orders-are (octet_at a.at.line ev) a.at.card None means)) tt

    same-state : (h : Ends c service tei place ranged a.at) (k : Ends c service tei place ranged (circuit.happens ev a.at)) → state_number k.its.state ≡ state_number h.its.state
    same-state h k = grind (arith, state-here, same-card)

    -- T200 runs on.
    still-long : (S : ℕ) (h : Ends c service tei place ranged a.at) (k : Ends c service tei place ranged (circuit.happens ev a.at))
        → IsLong c service tei place ranged lengths rate S h.its a.at.line a.clock → IsLong c service tei place ranged lengths rate S k.its a.at.line (happens ev a).clock
    still-long h h' k long m waits at_m = grind (arith, is_waiting, same-state, moment_of, same-clock)

    still-end : (S M M' : ℕ) → M ≤ M' → (h : EndHere S M a) → Moved c service tei place ranged a.at (circuit.happens ev a.at) h.but.ends (λ e. ⊥) → EndHere S M' (happens ev a)
    still-end S M M' less h mv = record {
      but = record {
        ends = mv.ends;
        clock = stands-on ev a h.but.clock;
        ours = ours-obeyed service tei a.at.line a.clock (octet_orders (answered ev a.at)) none-ours h.but.ours;
        lengths_are = lengths-stay a.at.line a.clock (octet_orders (answered ev a.at)) ∙ h.but.lengths_are;
        early = let same = ap length mv.given in let e = h.but.early in omega (arith, same, e);
        polls = still-sends (is_of asks c) (S + half c service tei place ranged) h.but.polls;
        finals = still-sends (is_of is_final c) M' (sends-later c.n201 (is_of is_final c) M M' less (port_of a.at) (ring c service tei place ranged h.but.ends.its) h.but.finals);
      };
      timer = still-long S h.but.ends mv.ends h.timer;
    }
      where
        its-is : (v : Option LinkEvent) → mv.event ≡ v → mv.ends.its ≡ h.but.ends.its
        its-is None e = mv.link_is ∙ ap (λ v. option_map_or (λ e. links.after (Rattle.model_line.specs.Line.terms c service tei) e h.but.ends.its) v h.but.ends.its) e
        its-is (Some x) e = absurd (mv.by x e)

        still-sends : (kind : List ℕ → Bool) (most : ℕ) → Sends c.n201 kind most (port_of a.at) (ring c service tei place ranged h.but.ends.its)
            → Sends c.n201 kind most (port_of (circuit.happens ev a.at)) (ring c service tei place ranged mv.ends.its)
        still-sends kind most s =
            subst (λ l. Sends c.n201 kind most (port_of (circuit.happens ev a.at)) (ring c service tei place ranged l)) (sym (its-is mv.event refl))
            (sends-with c.n201 kind most (port_of a.at) (port_of (circuit.happens ev a.at)) (ring c service tei place ranged h.but.ends.its) (ring c service tei place ranged h.but.ends.its)
            mv.items mv.given s.wait s)

  -- An octet comes.
  module _ (a : TimedEndpoint) (S M M' : ℕ) (h : EndHere S M a) (less : M ≤ M') (value : ℕ) (soon : IsSoon c service tei place ranged lengths rate a) where
    here : (o : Option stream.Event) → gained c.n201 (port_of a.at).received value ≡ o → gained a.at.card.card.config.n201 (port_of a.at).received value ≡ o
    here o is = ap (λ (k : Config). gained k.n201 (port_of a.at).received value) h.but.ends.stands.config ∙ is

    still-then : EndHere S M' (happens (port.octet value) a) → Then c service tei place ranged lengths rate S M' (happens (port.octet value) a)
    still-then ok = record { S' = S; later = omega arith; ok = ok }

    pub none-comes : gained c.n201 (port_of a.at).received value ≡ None → Then c service tei place ranged lengths rate S M' (happens (port.octet value) a)
    none-comes is = still-then (still-end a (port.octet value) (ap (option_map line.hears) (here None is)) S M M' less h (heard-none c service tei place ranged a.at h.but.ends value (here None is)))

    pub dropped-comes : (cause : _) → gained c.n201 (port_of a.at).received value ≡ Some (stream.dropped cause) → Then c service tei place ranged lengths rate S M' (happens (port.octet value) a)
    dropped-comes cause is =
        let means : meant_at (octet_at a.at.line (port.octet value)) a.at.card ≡ Some (line.hears (stream.dropped cause)) = ap (option_map line.hears) (here (Some (stream.dropped cause)) is) in
        let mv = heard-dropped c service tei place ranged a.at h.but.ends value cause (here (Some (stream.dropped cause)) is) in
        moved-on c service tei place ranged lengths rate a (port.octet value) S M M' h.but (line.hears (stream.dropped cause)) means (λ e. ⊥) mv
        (λ e is. absurd (mv.by e is)) (λ e is asks_it. absurd (mv.by e is)) less
        (dropped-heard service tei c a.at [] place (bare c service tei place ranged h.but.ends.its) h.but.ends.stands value cause (here (Some (stream.dropped cause)) is))
        soon (λ e is time. absurd (mv.by e is)) (λ none. h.timer)

    -- A frame of the other end comes: if it asks for an answer, so much was given by now.
    module _ (d : Config) (ranged_far : IsInRange d) (side : heard_side c ≡ own_side d) (size : d.n201 ≡ c.n201) (octets : List ℕ) (soon_asked : is_of asks d octets ≡ true → length (port_of a.at).given + half c service tei place ranged ≤ M') where
      pub frame-comes : IsOwn d service tei place ranged_far octets → gained c.n201 (port_of a.at).received value ≡ Some (stream.frame octets) → Then c service tei place ranged lengths rate S M' (happens (port.octet value) a)
      frame-comes own is =
          let f = own.0 in let k = a.at.card.card.config in let e : LinkEvent = link.received (link.frame f) in
          let means : meant_at (octet_at a.at.line (port.octet value)) a.at.card ≡ Some (line.hears (stream.frame octets)) = ap (option_map line.hears) (here (Some (stream.frame octets)) is) in
          let whole : came k.n201 octets ≡ stream.frame octets = grind (arith, came) in
          let read : reading (heard_side k) octets ≡ Ok f = ap (λ (k : Config). reading (heard_side k) octets) h.but.ends.stands.config
          ∙ ap (λ side. reading side octets) side ∙ ap (reading (own_side d)) own.1 ∙ own.2.carried.read in
          let mv = heard-frame c service tei place ranged a.at h.but.ends value d octets f own.1 own.2 side size (here (Some (stream.frame octets)) is) in
          let read_there : reading (own_side d) octets ≡ Ok f = ap (reading (own_side d)) own.1 ∙ own.2.carried.read in
          moved-on c service tei place ranged lengths rate a (port.octet value) S M M' h.but (line.hears (stream.frame octets)) means (λ x. x ≡ e) mv (λ x is. subst IsOrdinary (sym (mv.by x is)) tt)
          (λ x is asks_it. soon_asked
          (ap (λ r. list_any (λ (f : Parts). asks f.address.command f.control) (parts_of r)) read_there ∙ or-none (asks f.address.command f.control) ∙ sym (ap is_asked (mv.by x is)) ∙ asks_it))
          less
          (frame-heard service tei c a.at [] place (bare c service tei place ranged h.but.ends.its) h.but.ends.stands value octets (here (Some (stream.frame octets)) is) f whole read own.2.sapi own.2.by)
          soon (λ x is time. absurd (true≢false (sym time ∙ ap (λ x. is_time x h.but.ends.its) (mv.by x is)))) (λ none. h.timer)

  -- An octet is pulled.
  module _ (a : TimedEndpoint) (S M : ℕ) (h : EndHere S M a) where
    abbrev x : Pulled c service tei place ranged a.at h.but.ends
    x = pulls c service tei place ranged a.at h.but.ends

    abbrev IsLongThen : Type 0
    IsLongThen = IsLong c service tei place ranged lengths rate S (pulls c service tei place ranged a.at h.but.ends).ends.its a.at.line (happens port.pull a).clock

    pulled-with : AreOurs service tei (octet_orders (answered port.pull a.at)) → IsLongThen → EndHere S M (happens port.pull a)
    pulled-with own long = record {
      but = record {
        ends = x.ends;
        clock = stands-on port.pull a h.but.clock;
        ours = ours-obeyed service tei a.at.line a.clock (octet_orders (answered port.pull a.at)) own h.but.ours;
        lengths_are = lengths-stay a.at.line a.clock (octet_orders (answered port.pull a.at)) ∙ h.but.lengths_are;
        early = let more = ap length x.gave.given ∙ length-append (port_of a.at).given (x.value ∷ []) in let e = h.but.early in omega (arith, more, e);
        polls = pulled-on c service tei place ranged asks (λ p z. z.0) a.at h.but.ends (S + half c service tei place ranged) h.but.polls;
        finals = pulled-on c service tei place ranged is_final (λ p z. z.1) a.at h.but.ends M h.but.finals;
      };
      timer = long;
    }

    due-long : meant_at (octet_at a.at.line port.pull) a.at.card ≡ Some line.next → IsLongThen
    due-long means m waits at_m =
        let same : state_number x.ends.its.state ≡ state_number h.but.ends.its.state = elim x.its_is [ inl same ↦ ap (λ (l : Link). state_number l.state) same | inr same ↦ ap (λ (l : Link). state_number l.state) same ∙ ap state_number (offer-stays (Rattle.model_line.specs.Line.terms c service tei) h.but.ends.its) ] in
        let waiting = ap is_waiting (sym same) ∙ waits in
        h.timer m waiting (sym (still-runs c service tei place ranged lengths rate a port.pull S M M h.but line.next means x.ends refl same waiting) ∙ at_m)

    pub pulled-end : EndHere S M (happens port.pull a)
    pulled-end = by-bool (is_due (port_of a.at)) (λ e.
        let means : meant_at (octet_at a.at.line port.pull) a.at.card ≡ Some line.next = ap (λ b. cond b (Some line.next) None) e in
        pulled-with (pull-ours service tei c a.at [] place (bare c service tei place ranged h.but.ends.its) h.but.ends.stands) (due-long means))
        (λ e.
        let means : meant_at (octet_at a.at.line port.pull) a.at.card ≡ None = ap (λ b. cond b (Some line.next) None) e in
        pulled-with (none-ours a port.pull means) (still-long a port.pull means S h.but.ends x.ends h.timer))

-- ---- two ends of the clocked circuit, from beat to beat: what is under way from each, and until when T200 runs there

-- The next moment comes after so many beats.
pub soon-now : (n rate : ℕ) → 1 ≤ rate → n + 1 ≤ (n / rate + 1) * rate
soon-now n rate some = let x = lt-div-mul-add {a = n} {b = rate} some in grind (arith, x)

-- A pull gives an octet, and receives none.
pub same-received : (o : Option line.Answer) (p : Port) → (with_octet (with_item o p)).received ≡ p.received
same-received o p = grind arith

pulled-way : (s : OctetEndpoint) → length (circuit.happens port.pull s).way ≡ length s.way + 1
unfolding ports_answer
pulled-way s = length-append s.way (octet_pulled (answered port.pull s))

module _ (service : Service) (tei transit : ℕ) (lengths : Lengths) (rate : ℕ) (c : Config) (ranged : IsInRange c) where
  abbrev pub End : ℕ → ℕ → TimedEndpoint → Type 0
  End S M a = EndOk c service tei 0 ranged lengths rate S M a

  without-end : (S M : ℕ) (a : TimedEndpoint) → End S M a → End S M (without_first_octet a)
  without-end S M a h = record {
    but = record {
      ends = record {
        ran = record { within = h.but.ends.ran.within; events = h.but.ends.ran.events; at_lines = h.but.ends.ran.at_lines; is = h.but.ends.ran.is; exact = h.but.ends.ran.exact };
        its = h.but.ends.its;
        stands = h.but.ends.stands;
        frames = h.but.ends.frames;
        octets = h.but.ends.octets;
      };
      clock = record { within = h.but.clock.within; ranged = h.but.clock.ranged; in_order = h.but.clock.in_order; here = h.but.clock.here; timely = h.but.clock.timely };
      ours = h.but.ours;
      lengths_are = h.but.lengths_are;
      early = h.but.early;
      polls = h.but.polls;
      finals = h.but.finals;
    };
    timer = h.timer;
  }

  -- So many octets were given and received, and so many are in transit.
  pub record Counts (n : ℕ) (a : TimedEndpoint) : Type 0 where
    pub given : length (port_of a.at).given ≡ n
    pub received : length (port_of a.at).received ≡ n
    pub way : length a.at.way ≡ transit

  -- After a beat's requests, expiries and pull; and after the octet that comes.
  pub record Gone (moment n S M : ℕ) (v : TimedEndpoint) : Type 0 where
    pub S' : ℕ
    pub later : S ≤ S'
    pub ok : End S' M v
    pub given : length (port_of v.at).given ≡ n + 1
    pub received : length (port_of v.at).received ≡ n
    pub way : length v.at.way ≡ transit + 1
    pub now : v.clock.now ≡ moment

  pub record HasHeard (n S M' : ℕ) (a u : TimedEndpoint) : Type 0 where
    pub S' : ℕ
    pub later : S ≤ S'
    pub ok : End S' M' u
    pub given : length (port_of u.at).given ≡ n + 1
    pub received : length (port_of u.at).received ≡ length (port_of a.at).received + 1
    pub way : u.at.way ≡ drop 1 a.at.way

  -- The moment comes.
  module _ (moment n S M : ℕ) (rs : List Request) (a : TimedEndpoint) (h : End S M a) (rests : Rests a) (low : a.clock.now ≤ moment) (high : moment ≤ a.clock.now + 1)
      (counts : Counts n a) (soon : n + 1 ≤ (moment + 1) * rate) (all : All (IsOfLink service tei) rs) where
    pub at-moment : End S M (at_time moment a)
    at-moment = record {
      but = record {
        ends = h.but.ends;
        clock = (time-comes moment a rests low high).0;
        ours = h.but.ours;
        lengths_are = h.but.lengths_are;
        early = h.but.early;
        polls = h.but.polls;
        finals = h.but.finals;
      };
      timer = h.timer;
    }

    soon-given : length (port_of a.at).given ≤ (moment + 1) * rate
    soon-given = let so_many = counts.given in omega (arith, so_many, soon)

    pub comes-on : (k : ℕ) → Goes c service tei 0 ranged lengths rate S M (at_time moment a) (fall_due k (asked moment rs a))
    comes-on k =
        let t = at_time moment a in let u = fold asks_at_end t rs in let first = all-asked c service tei 0 ranged lengths rate S M rs t at-moment soon-given all in
        goes-both c service tei 0 ranged lengths rate S M t u (fall_due k u) first
        (all-fall c service tei 0 ranged lengths rate k first.S' M u first.ok (soon-then c service tei 0 ranged lengths rate S M t u first soon-given))

    -- And an octet is pulled.
    pub gone-on : Gone moment n S M (happens port.pull (comes_to moment rs a))
    gone-on =
        let u = comes_to moment rs a in let g = comes-on (length (asked moment rs a).clock.running) in let x = pulls c service tei 0 ranged u.at g.ok.but.ends in
        let more = ap length x.gave.given ∙ length-append (port_of u.at).given (x.value ∷ []) in let given = ap (λ (p : Port). length p.given) g.port ∙ counts.given in
        record {
          S' = g.S';
          later = g.later;
          ok = pulled-end c service tei 0 ranged lengths rate u g.S' M g.ok;
          given = omega (arith, more, given);
          received = ap (λ (p : Port). length p.received) (port-after u.at port.pull (within-ports c ranged u.at g.ok.but.ends.ran))
              ∙ ap length (same-received ((Rattle.model_card.specs.ports.Card.said (octet_at u.at.line port.pull) u.at.card)) (port_of u.at)) ∙ ap (λ (p : Port). length p.received) g.port ∙ counts.received;
          way = let same = ap length g.way in let before = counts.way in let one = pulled-way u.at in omega (arith, same, before, one);
          now = now-stays u.at.line u.clock (octet_orders (answered port.pull u.at)) ∙ g.now;
        }

  -- An octet of the other end comes, or noise in its place.
  module _ (d : Config) (ranged_far : IsInRange d) (lengths_far : Lengths) (n201 : ℕ) (size : c.n201 ≡ n201) (size_far : d.n201 ≡ n201) (side : heard_side c ≡ own_side d)
      (n S M M' S2 M2 : ℕ) (a other : TimedEndpoint) (h : End S M a) (k : EndOk d service tei 0 ranged_far lengths_far rate S2 M2 other) (less : M ≤ M')
      (bound : transit + S2 + half d service tei 0 ranged_far + 1 + half c service tei 0 ranged ≤ M') (noise : Option ℕ) (clear : IsClearAt n201 noise a other)
      (given : length (port_of a.at).given ≡ n + 1) (given_far : length (port_of other.at).given ≡ n + 1) (way_far : length other.at.way ≡ transit + 1)
      (soon : length (port_of a.at).given ≤ (a.clock.now + 1) * rate) where
    module _ (value : ℕ) (more : List ℕ) (comes : other.at.way ≡ value ∷ more) where
      before-long : (before : List ℕ) → (port_of other.at).given ≡ before ++ other.at.way → n ≡ length before + transit
      before-long before is = let all = ap length is ∙ length-append before other.at.way in omega (arith, all, given_far, way_far)

      by-gain : (o : Option stream.Event) → gained c.n201 (port_of a.at).received (unwrap_or noise value) ≡ o → (Then c service tei 0 ranged lengths rate S M' (happens (port.octet (unwrap_or noise value)) a))
      by-gain None is = none-comes c service tei 0 ranged lengths rate a S M M' h less (unwrap_or noise value) soon is
      by-gain (Some (stream.dropped cause)) is = dropped-comes c service tei 0 ranged lengths rate a S M M' h less (unwrap_or noise value) soon cause is
      by-gain (Some (stream.overlong head)) is =
          let x = clear value more (stream.overlong head) comes (ap (λ n. gained n (port_of a.at).received (unwrap_or noise value)) (sym size) ∙ is) tt in
          let y = its-frame d.n201 (port_of other.at) (fine d service tei 0 ranged_far other.at k.but.ends) (IsOwn d service tei 0 ranged_far) k.but.ends.frames x.0 value more (stream.overlong head) (x.1 ∙ ap (λ w. x.0 ++ w) comes)
          (ap (λ n. gained n x.0 value) size_far ∙ x.2) in absurd (cc y.1)
      by-gain (Some (stream.frame octets)) is =
          let x = clear value more (stream.frame octets) comes (ap (λ n. gained n (port_of a.at).received (unwrap_or noise value)) (sym size) ∙ is) tt in
          let there : gained d.n201 x.0 value ≡ Some (stream.frame octets) = ap (λ n. gained n x.0 value) size_far ∙ x.2 in
          frame-comes c service tei 0 ranged lengths rate a S M M' h less (unwrap_or noise value) soon d ranged_far side (size_far ∙ sym size) octets
          (λ asked_it. let early = k.but.polls.done x.0 value more octets (x.1 ∙ ap (λ w. x.0 ++ w) comes) there asked_it in let so_long = before-long x.0 x.1 in
          omega (arith, early, so_long, given, bound))
          (own-frame d.n201 (port_of other.at) (fine d service tei 0 ranged_far other.at k.but.ends) (IsOwn d service tei 0 ranged_far) k.but.ends.frames x.0 value more octets (x.1 ∙ ap (λ w. x.0 ++ w) comes) there) is

    pub heard-on : HasHeard n S M' a (without_first_octet (hears noise other.at.way a))
    heard-on = go other.at.way refl
      where
        none : other.at.way ≡ [] → ⊥
        none is = let no_way = ap length is in omega (arith, no_way, way_far)

        go : (w : List ℕ) → other.at.way ≡ w → HasHeard n S M' a (without_first_octet (hears noise w a))
        go [] is = absurd (none is)
        go (value ∷ more) is =
            let got = unwrap_or noise value in let x = by-gain value more is (gained c.n201 (port_of a.at).received got) refl in
            let after_it = port-after a.at (port.octet got) (within-ports c ranged a.at h.but.ends.ran) in
            record {
              S' = x.S';
              later = x.later;
              ok = without-end x.S' M' (happens (port.octet got) a) x.ok;
              given = ap (λ (p : Port). length p.given) after_it ∙ given;
              received = ap (λ (p : Port). length p.received) after_it ∙ length-append (port_of a.at).received (got ∷ []);
              way = ap (drop 1) (heard-way got a.at);
            }
