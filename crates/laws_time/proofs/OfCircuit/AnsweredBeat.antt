-- An octet comes to an end without noise: a frame of the other end is heard, or none; a command is answered, and an answer is heard.
use Rattle.laws_time.proofs.Vocabulary.{Bool, Config, Control, IsClearAt, IsInRange, Lengths, Link, LinkEvent, List, None, OctetEndpoint, Option, Parts, Port, Service, Some, TimedEndpoint, [], answer as ports_answer, ap, append_assoc, arith, cases_eq, drop, gained, happens, heard-way, heard_side, hears, inl, inr, is_multiple_frame, length, length-append, line_at, link_in, next_octet, octet_at}
use Rattle.laws_time.proofs.Vocabulary.{option_map_or, own_side, port-after, port_of, refl, replicate, said, state_number, subst, sym, terms, true, unwrap_or, with_item, with_octet, without_first_octet, ℕ, ◌*◌, ◌++◌, ◌+◌, ◌<◌, ◌∙◌, ◌∷◌, ◌≡◌, ◌≤◌, ◌⊎◌}
use Rattle.model_bits.specs.Stream as stream
use Rattle.model_link.specs.Events as link
use Rattle.model_link.specs.Machine as links
use Rattle.model_card.specs.ports.Port as port
use Rattle.laws_order.specs.circuit.Circuit as circuit
use Rattle.model_line.specs.Event as line
use Rattle.laws_time.proofs.OfCircuit.AnsweredEnds.{IsAsking, IsExpiring, IsKeptBy, its-sound, lost, lost-heard, DueAt, frame-put, due-same, Due, due-moved, text-low, IsKept, IsCalm}
use Rattle.laws_time.proofs.OfCircuit.AnsweredRows.{Exchange}
use Rattle.laws_time.proofs.OfCircuit.Words.{Ends, IsOrdinary, IsOwn, Moved, fine, half, heard-dropped, heard-event, heard-frame, heard-none, its-frame, own-frame, ring, same-received, text_length}
use Rattle.laws_time.specs.circuit.LongEnough.{is_of}
use Rattle.laws_time.proofs.OfCircuit.AnsweredBits.{Comes, all_sent}

module _ (c : Config) (service : Service) (tei : ℕ) (ranged : IsInRange c) (d : Config) (ranged_far : IsInRange d) (n201 : ℕ) (size : c.n201 ≡ n201) (size_far : d.n201 ≡ n201)
    (side : heard_side c ≡ own_side d) where
  abbrev pub IsFrame : LinkEvent → Type 0
  IsFrame e = (f : Parts) × (e ≡ link.received (link.frame f))

  pub plain : (e : LinkEvent) → IsFrame e → IsOrdinary e
  plain e is = subst IsOrdinary (sym is.1) tt

  -- A frame is heard, or none, and what is lost is told.
  abbrev pub Hears : (s u : OctetEndpoint) → Ends c service tei 0 ranged s → Type 0
  Hears s u h =
      (mv : Moved c service tei 0 ranged s u h (λ e. (f : Parts) × (e ≡ link.received (link.frame f))))
      × ((e : LinkEvent) → mv.event ≡ Some e → lost u ≡ lost s + (links.told (terms c service tei) e h.its).lost)

  hears-with : (s u : OctetEndpoint) (h : Ends c service tei 0 ranged s) (may : LinkEvent → Type 0) → ((e : LinkEvent) → may e → IsFrame e) → (mv : Moved c service tei 0 ranged s u h may)
      → ((e : LinkEvent) → mv.event ≡ Some e → lost u ≡ lost s + (links.told (terms c service tei) e h.its).lost) → Hears s u h
  hears-with s u h may more mv told = (record { ends = mv.ends; event = mv.event; link_is = mv.link_is; by = λ e is. more e (mv.by e is); items = mv.items; given = mv.given }, told)

  module _ (s : OctetEndpoint) (h : Ends c service tei 0 ranged s) (value : ℕ) where
    here : (o : Option stream.Event) → gained n201 (port_of s).received value ≡ o → gained s.card.card.config.n201 (port_of s).received value ≡ o
    here o is = ap (λ (k : Config). gained k.n201 (port_of s).received value) h.stands.config ∙ ap (λ n. gained n (port_of s).received value) size ∙ is

    -- A frame of the other end is heard.
    module _ (octets : List ℕ) (own : IsOwn d service tei 0 ranged_far octets) (is : gained n201 (port_of s).received value ≡ Some (stream.frame octets)) where
      mv : Moved c service tei 0 ranged s (circuit.happens (port.octet value) s) h (λ e. e ≡ link.received (link.frame own.0))
      mv = heard-frame c service tei 0 ranged s h value d octets own.0 own.1 own.2 side (size_far ∙ sym size) (here (Some (stream.frame octets)) is)

      event-is : mv.event ≡ Some (link.received (link.frame own.0))
      unfolding mv
      event-is = heard-event c service tei 0 ranged s h value d octets own.0 own.1 own.2 side (size_far ∙ sym size) (here (Some (stream.frame octets)) is)

      kind-of : (kind : Bool → Control → Bool) → is_of kind d octets ≡ true → kind own.0.address.command own.0.control ≡ true
      kind-of kind so = grind arith

      same-state : (k : Ends c service tei 0 ranged (circuit.happens (port.octet value) s)) → k.its ≡ links.after (terms c service tei) (link.received (link.frame own.0)) h.its
      same-state k = grind (arith, mv, option_map_or, links.after, terms, event-is)

      pub own-lost : lost (circuit.happens (port.octet value) s) ≡ lost s + (links.told (terms c service tei) (link.received (link.frame own.0)) h.its).lost
      own-lost = lost-heard c service tei 0 ranged s h value d octets own.0 own.1 own.2 side (size_far ∙ sym size) (here (Some (stream.frame octets)) is)

      module _ (n : ℕ) (x : Exchange n) (k : Ends c service tei 0 ranged (circuit.happens (port.octet value) s)) where
        -- The answer: the link doesn't wait any more.
        pub answer-heard : is_of x.answering d octets ≡ true → x.Later h.its.state → state_number k.its.state ≡ n → ⊥
        answer-heard so still number = x.leaves (terms c service tei) own.0 h.its (its-sound c service tei 0 ranged s h) (kind-of x.answering so) still (ap (λ (l : Link). state_number l.state) (sym (same-state k)) ∙ number)

        -- The command: it is answered, if the answer isn't lost, and, if it is an enquiry, the link is up.
        pub command-heard : is_of x.asking d octets ≡ true → (n ≡ 8 → is_multiple_frame k.its.state ≡ true) → lost (circuit.happens (port.octet value) s) ≤ lost s
            → (low most way heard : ℕ) → 8 * low ≤ text_length (port_of s).items → length (port_of s).given + half c service tei 0 ranged ≤ most
            → DueAt c service tei 0 ranged x.answering low most way heard (circuit.happens (port.octet value) s) k
        command-heard so up none low most way heard low_is soon =
            let t = terms c service tei in let all = own-lost in
            due-same c service tei 0 ranged x.answering low most way heard (circuit.happens (port.octet value) s) mv.ends k
            (frame-put c service tei 0 ranged x.answering low most way heard s (circuit.happens (port.octet value) s) h (λ e. e ≡ link.received (link.frame own.0)) mv
            (λ e is. subst IsOrdinary (sym (mv.by e is)) tt) (link.received (link.frame own.0)) event-is
            (x.answered t own.0 h.its (kind-of x.asking so) (λ is. ap (λ (l : Link). is_multiple_frame l.state) (sym (same-state k)) ∙ up is)) (omega (arith, none, all)) low_is soon)

  -- Any octet.
  module _ (a other : TimedEndpoint) (h : Ends c service tei 0 ranged a.at) (k : Ends d service tei 0 ranged_far other.at) (clear : IsClearAt n201 None a other) (value : ℕ) (more : List ℕ)
      (comes : other.at.way ≡ value ∷ more) where
    abbrev u : OctetEndpoint
    u = circuit.happens (port.octet value) a.at

    by-gain : (o : Option stream.Event) → gained n201 (port_of a.at).received value ≡ o → Hears a.at (circuit.happens (port.octet value) a.at) h
    by-gain None is = let mv = heard-none c service tei 0 ranged a.at h value (here a.at h value None is) in hears-with a.at u h (λ e. ⊥) (λ e no. absurd no) mv (λ e is. absurd (mv.by e is))
    by-gain (Some (stream.dropped cause)) is =
        let mv = heard-dropped c service tei 0 ranged a.at h value cause (here a.at h value (Some (stream.dropped cause)) is) in
        hears-with a.at u h (λ e. ⊥) (λ e no. absurd no) mv (λ e is. absurd (mv.by e is))
    by-gain (Some (stream.overlong head)) is =
        let x = clear value more (stream.overlong head) comes is tt in
        let y = its-frame d.n201 (port_of other.at) (fine d service tei 0 ranged_far other.at k) (IsOwn d service tei 0 ranged_far) k.frames x.0 value more (stream.overlong head) (x.1 ∙ ap (λ w. x.0 ++ w) comes)
        (ap (λ n. gained n x.0 value) size_far ∙ x.2) in absurd (cc y.1)
    by-gain (Some (stream.frame octets)) is =
        let x = clear value more (stream.frame octets) comes is tt in
        let own = own-frame d.n201 (port_of other.at) (fine d service tei 0 ranged_far other.at k) (IsOwn d service tei 0 ranged_far) k.frames x.0 value more octets (x.1 ∙ ap (λ w. x.0 ++ w) comes)
        (ap (λ n. gained n x.0 value) size_far ∙ x.2) in
        let mv = heard-frame c service tei 0 ranged a.at h value d octets own.0 own.1 own.2 side (size_far ∙ sym size) (here a.at h value (Some (stream.frame octets)) is) in
        hears-with a.at u h (λ e. e ≡ link.received (link.frame own.0)) (λ e is. (own.0, is)) mv
        (λ e by. own-lost a.at h value octets own is ∙ ap (λ e. lost a.at + (links.told (terms c service tei) e h.its).lost) (sym (mv.by e by)))

    pub hears-moved : Hears a.at (circuit.happens (port.octet value) a.at) h
    hears-moved = by-gain (gained n201 (port_of a.at).received value) refl

-- ---- what a beat makes of the octets that were given, are in transit and were received

-- An octet was given, and is the last in transit.
pub record Sent (s u : OctetEndpoint) : Type 0 where
  pub value : ℕ
  pub given : (port_of u).given ≡ (port_of s).given ++ value ∷ []
  pub way : u.way ≡ s.way ++ value ∷ []
  pub received : (port_of u).received ≡ (port_of s).received

given-with : (o : Option line.Answer) (p : Port) → (with_octet (with_item o p)).given ≡ p.given ++ next_octet (with_item o p) ∷ []
given-with None p = refl
given-with (Some a) p = refl

pub pull-sends : (s t : OctetEndpoint) → port_of t ≡ port_of s → t.way ≡ s.way → t.line < length t.card.ports → Sent s (circuit.happens port.pull t)
unfolding ports_answer
pull-sends s t port_is way_is within =
    let o = said (octet_at t.line port.pull) t.card in let after_it = port-after t port.pull within in
    record {
      value = next_octet (with_item o (port_of t));
      given = ap (λ (p : Port). p.given) after_it ∙ given-with o (port_of t) ∙ ap (λ (p : Port). p.given ++ next_octet (with_item o (port_of t)) ∷ []) port_is;
      way = ap (λ w. w ++ next_octet (with_item o (port_of t)) ∷ []) way_is;
      received = ap (λ (p : Port). p.received) after_it ∙ same-received o (port_of t) ∙ ap (λ (p : Port). p.received) port_is;
    }

-- So it has so many octets.
pub given-long : (s v : OctetEndpoint) (n : ℕ) → Sent s v → length (port_of s).given ≡ n → length (port_of v).given ≡ n + 1
given-long s v n x is = ap length x.given ∙ length-append (port_of s).given (x.value ∷ []) ∙ ap (λ k. k + 1) is

pub way-long : (s v : OctetEndpoint) (n : ℕ) → Sent s v → length s.way ≡ n → length v.way ≡ n + 1
way-long s v n x is = ap length x.way ∙ length-append s.way (x.value ∷ []) ∙ ap (λ k. k + 1) is

pub first-of : (xs : List ℕ) (v : ℕ) → (value : ℕ) × (more : List ℕ) × (xs ++ v ∷ [] ≡ value ∷ more)
first-of [] v = (v, [], refl)
first-of (x ∷ xs) v = (x, xs ++ v ∷ [], refl)

-- An octet was received, and is in transit no more.
pub record Came (s u other : TimedEndpoint) (noise : Option ℕ) : Type 0 where
  pub value : ℕ
  pub more : List ℕ
  pub comes : other.at.way ≡ value ∷ more
  pub is : u ≡ without_first_octet (happens (port.octet (unwrap_or noise value)) s)
  pub port : port_of u.at ≡ record (port_of s.at) { received = (port_of s.at).received ++ unwrap_or noise value ∷ [] }
  pub way : u.at.way ≡ drop 1 s.at.way

pub comes-then : (s other : TimedEndpoint) (noise : Option ℕ) (value : ℕ) (more : List ℕ) → other.at.way ≡ value ∷ more → s.at.line < length s.at.card.ports
    → Came s (without_first_octet (hears noise other.at.way s)) other noise
comes-then s other noise value more comes within =
    let is = ap (λ way. without_first_octet (hears noise way s)) comes in
    record {
      value = value;
      more = more;
      comes = comes;
      is = is;
      port = ap (λ (u : TimedEndpoint). port_of u.at) is ∙ port-after s.at (port.octet (unwrap_or noise value)) within;
      way = ap (λ (u : TimedEndpoint). u.at.way) is ∙ ap (drop 1) (heard-way (unwrap_or noise value) s.at);
    }

-- What is in transit is the end of what was sent.
pub record Behind (way : ℕ) (p : Port) (transit : List ℕ) : Type 0 where
  pub before : List ℕ
  pub sent : all_sent way p ≡ before ++ transit

sent-more : (way : ℕ) (p q : Port) (v : ℕ) → q.given ≡ p.given ++ v ∷ [] → all_sent way q ≡ all_sent way p ++ v ∷ []
sent-more way p q v is = ap (λ g. replicate way 0x7E ++ g) is ∙ sym (append_assoc (replicate way 0x7E) p.given (v ∷ []))

module _ (way : ℕ) (s v u other : TimedEndpoint) (noise : Option ℕ) (sends : Sent s.at v.at) (comes : Came v u other noise) (value : ℕ) (more : List ℕ) (is : v.at.way ≡ value ∷ more) where
  pub behind-then : Behind way (port_of s.at) s.at.way → Behind way (port_of u.at) u.at.way
  behind-then h = record {
    before = h.before ++ value ∷ [];
    sent = (sent-more way (port_of s.at) (port_of u.at) sends.value ((ap (λ (p : Port). p.given) comes.port) ∙ sends.given)) ∙ ap (λ os. os ++ sends.value ∷ []) h.sent ∙ append_assoc h.before s.at.way (sends.value ∷ []) ∙ ap (λ w. h.before ++ w) (sym sends.way ∙ is)
        ∙ sym (append_assoc h.before (value ∷ []) more) ∙ ap (λ w. (h.before ++ value ∷ []) ++ w) (sym (comes.way ∙ ap (drop 1) is));
  }

  -- The other end: what came is what was sent.
  module _ (clean : ℕ) (q r : Port) (same : r.received ≡ q.received) where
    pub comes-pulled : Comes way clean (port_of s.at) s.at.way q → Comes way clean (port_of v.at) (value ∷ more) r
    comes-pulled h = record {
      noisy = h.noisy;
      as_sent = h.as_sent;
      before = h.before;
      received = same ∙ h.received;
      sent = sent-more way (port_of s.at) (port_of v.at) sends.value sends.given ∙ ap (λ os. os ++ sends.value ∷ []) h.sent
          ∙ append_assoc (h.before ++ h.as_sent) s.at.way (sends.value ∷ []) ∙ ap (λ w. (h.before ++ h.as_sent) ++ w) (sym sends.way ∙ is);
      few = h.few;
    }

    pub comes-heard : (t : Port) → t.received ≡ r.received ++ value ∷ [] → Comes way clean (port_of v.at) (value ∷ more) r → Comes way clean (port_of u.at) u.at.way t
    comes-heard t got h = record {
      noisy = h.noisy;
      as_sent = h.as_sent ++ value ∷ [];
      before = h.before;
      received = got ∙ ap (λ os. os ++ value ∷ []) h.received ∙ append_assoc h.noisy h.as_sent (value ∷ []);
      sent = ap (λ g. replicate way 0x7E ++ g) (ap (λ (p : Port). p.given) comes.port) ∙ h.sent ∙ sym (append_assoc (h.before ++ h.as_sent) (value ∷ []) more)
          ∙ ap (λ os. os ++ more) (append_assoc h.before h.as_sent (value ∷ [])) ∙ ap (λ w. (h.before ++ (h.as_sent ++ value ∷ [])) ++ w) (sym (comes.way ∙ ap (drop 1) is));
      few = h.few;
    }

-- ---- what is due at an end as it waits for an answer, one thing at a time; and how its command is put

module _ (c : Config) (service : Service) (tei : ℕ) (ranged : IsInRange c) (kind : Bool → Control → Bool) (low most way heard : ℕ) where
  -- What is due at an end, by the link of its card.
  abbrev pub DueHere : OctetEndpoint → Type 0
  DueHere s = Due (is_of kind c) low most way heard (port_of s) (ring c service tei 0 ranged (link_in (line_at s.line s.card.card) service 0))

  pub from-here : (s : OctetEndpoint) (h : Ends c service tei 0 ranged s) → DueHere s → DueAt c service tei 0 ranged kind low most way heard s h
  from-here s h due = subst (λ x. Due (is_of kind c) low most way heard (port_of s) (ring c service tei 0 ranged x)) h.stands.speaks.link due

  pub to-here : (s : OctetEndpoint) (h : Ends c service tei 0 ranged s) → DueAt c service tei 0 ranged kind low most way heard s h → DueHere s
  to-here s h due = subst (λ x. Due (is_of kind c) low most way heard (port_of s) (ring c service tei 0 ranged x)) (sym h.stands.speaks.link) due

module _ (c : Config) (service : Service) (tei : ℕ) (ranged : IsInRange c) (lengths : Lengths) (rate : ℕ) where
  calm-ordinary : (e : LinkEvent) (l : Link) → IsCalm c service tei ranged lengths rate e l → IsOrdinary e
  calm-ordinary e l calm = grind arith

  module _ (kind : Bool → Control → Bool) (low most way heard : ℕ) where
    pub due-kept : IsKept c service tei ranged lengths rate (λ p x. Due (is_of kind c) low most way heard p (ring c service tei 0 ranged x))
    due-kept s u h may mv calm due = due-moved c service tei 0 ranged kind low most way heard s u h may mv (λ e is. calm-ordinary e h.its (calm e is)) due

  -- As an end comes to a state in which it waits for an answer, its command is put.
  module _ (n : ℕ) (x : Exchange n) (low most way : ℕ) where
    abbrev pub Asks : ℕ → Port → Link → Type 0
    Asks given p l = (length p.given ≡ given) × (state_number l.state ≡ n → Due (is_of x.asking c) low most way given p (ring c service tei 0 ranged l))

    module _ (given : ℕ) (soon : given + half c service tei 0 ranged ≤ most) (late : low ≤ given) (s u : OctetEndpoint) (h : Ends c service tei 0 ranged s) (may : LinkEvent → Type 0)
        (mv : Moved c service tei 0 ranged s u h may) (ordinary : (e : LinkEvent) → mv.event ≡ Some e → IsOrdinary e) (none : (e : LinkEvent) → mv.event ≡ Some e → (links.told (terms c service tei) e h.its).lost ≡ 0) where
      moved-by : (v : Option LinkEvent) → mv.event ≡ v → state_number mv.ends.its.state ≡ n → state_number (option_map_or (λ e. links.after (terms c service tei) e h.its) v h.its).state ≡ n
      moved-by v e is = grind arith

      pub asks-moved : Asks given (port_of s) h.its → Asks given (port_of u) mv.ends.its
      asks-moved y = (ap length mv.given ∙ y.0, λ is. go mv.event refl is)
        where
          by : (e : LinkEvent) → mv.event ≡ Some e → state_number (links.after (terms c service tei) e h.its).state ≡ n → (state_number h.its.state ≡ n) ⊎ (state_number h.its.state ≡ n → ⊥)
              → DueAt c service tei 0 ranged x.asking low most way given u mv.ends
          by e is number (inl was) = due-moved c service tei 0 ranged x.asking low most way given s u h may mv ordinary (y.1 was)
          by e is number (inr other) =
              let so_many = y.0 in let text = text-low c service tei 0 ranged s h in
              frame-put c service tei 0 ranged x.asking low most way given s u h may mv ordinary e is (x.puts (terms c service tei) e h.its number other) (none e is)
              (omega (arith, so_many, text, late)) (omega (arith, so_many, soon))

          go : (v : Option LinkEvent) → mv.event ≡ v → state_number mv.ends.its.state ≡ n → DueAt c service tei 0 ranged x.asking low most way given u mv.ends
          go None e is = due-moved c service tei 0 ranged x.asking low most way given s u h may mv ordinary (y.1 (moved-by None e is))
          go (Some z) e is = by z e (moved-by (Some z) e is) (cases_eq (state_number h.its.state) n)

    pub asks-kept : (given : ℕ) → given + half c service tei 0 ranged ≤ most → low ≤ given
        → IsKept c service tei ranged lengths rate (λ p l. (length p.given ≡ given) × (state_number l.state ≡ n → Due (is_of x.asking c) low most way given p (ring c service tei 0 ranged l)))
    asks-kept given soon late s u h may mv calm y = asks-moved given soon late s u h may mv (λ e is. calm-ordinary e h.its (calm e is)) (λ e is. (calm e is).1) y

    -- What holds as long as it waits.
    pub still-asked : IsKeptBy c service tei ranged lengths rate (IsAsking c service tei ranged lengths rate) (λ p l. x.Still l.state)
    still-asked s u h may mv asking still = go mv.event refl
      where
        link_is : (v : Option LinkEvent) → mv.event ≡ v → option_map_or (λ e. links.after (terms c service tei) e h.its) v h.its ≡ mv.ends.its
        link_is v e = sym (mv.link_is ∙ ap (λ v. option_map_or (λ e. links.after (terms c service tei) e h.its) v h.its) e)

        go : (v : Option LinkEvent) → mv.event ≡ v → x.Still mv.ends.its.state
        go None e = subst (λ (l : Link). x.Still l.state) (link_is None e) still
        go (Some z) e =
            let own = asking z e in
            subst (λ (l : Link). x.Still l.state) (ap (λ e. links.after (terms c service tei) e h.its) (sym own.1) ∙ link_is (Some z) e) (x.still_asked (terms c service tei) own.0 h.its still)

    pub later-expired : IsKeptBy c service tei ranged lengths rate (IsExpiring c service tei ranged lengths rate) (λ p l. x.Later l.state)
    later-expired s u h may mv expiring later = go mv.event refl
      where
        link_is : (v : Option LinkEvent) → mv.event ≡ v → option_map_or (λ e. links.after (terms c service tei) e h.its) v h.its ≡ mv.ends.its
        link_is v e = sym (mv.link_is ∙ ap (λ v. option_map_or (λ e. links.after (terms c service tei) e h.its) v h.its) e)

        go : (v : Option LinkEvent) → mv.event ≡ v → x.Later mv.ends.its.state
        go None e = subst (λ (l : Link). x.Later l.state) (link_is None e) later
        go (Some z) e =
            let own = expiring z e in
            subst (λ (l : Link). x.Later l.state) (ap (λ e. links.after (terms c service tei) e h.its) (sym own.1) ∙ link_is (Some z) e) (x.later_expired (terms c service tei) own.0 h.its later)
