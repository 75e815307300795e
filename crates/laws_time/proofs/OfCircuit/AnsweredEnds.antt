-- A frame that is due at an end stays so, one thing at a time: at a port, at an end, and as layer 3 asks and timers fall due.
use Rattle.laws_time.proofs.Vocabulary.{all-right, All, All-head, AreOctets, Bool, Config, Control, ControlFrame, Course, IsCarried, IsInRange, IsOfLink, IsWaitingFrame, Item, Lengths, LineTold, Link, LinkEvent, LinkIsSound, LinkTimer, List, None, OctetEndpoint, Option, Parts, Port, Request, Service, Some, StationStands, TimedEndpoint, Timer, [], aim_of_expiry, aim_of_request, answered, ap}
use Rattle.laws_time.proofs.Vocabulary.{append-nil, append_assoc, arith, as_endpoint, as_heard, asks, at_requested, at_timer, bits, came, cases_lt, comes_to, contents_given, expires-said, falls, false, few-left, flag, frame, frame_text, gained, heard-as, heard_side, if_meant, inl, inr, item_text, left_of, length, length-append, length-bits, length-map, line_text, line_text-push, link-sound, map}
use Rattle.laws_time.proofs.Vocabulary.{map-append, option_map, option_map_or, own_side, place_in, port_of, put, reading, refl, room, said_by, spelling, subst, sum_by, sum_by-append, sym, take, takes-told, terms, told_by, true, ℕ, ◌*◌, ◌++◌, ◌+◌, ◌<◌, ◌∙◌, ◌∷◌, ◌≡◌, ◌≤◌, ◌⊎◌, by-either, by-option}
use Rattle.model_bits.specs.Stream as stream
use Rattle.model_link.specs.Events as link
use Rattle.model_link.specs.Machine as links
use Rattle.model_line.specs.Event as line
use Rattle.model_card.specs.ports.Port as port
use Rattle.laws_wire.specs.Wire as wire
use Rattle.laws_order.specs.circuit.Circuit as circuit
use Rattle.model_line.specs.Line.{Line}
use Rattle.laws_time.proofs.OfCircuit.Words.{Counts, EndOk, Ends, IsOrdinary, Moved, Pulled, Rests, RunsOurs, Took, all-both, all-keep, asked-told, at-moment, bare, ends-asked, ends-expired, expired-reply, fine, first-of, half, of-link, of-timer, ring, short-text, text, text-kind, text_length, waiting-then}
use Rattle.laws_time.specs.circuit.LongEnough.{is_of}
use Rattle.laws_time.proofs.OfCircuit.AnsweredRows.{Puts, all-put, IsOwnEvent}

pub one-more : (items : List Item) (o : List ℕ) → text_length (items ++ frame o ∷ []) ≡ text_length items + length (item_text (frame o))
one-more items o = ap length (line_text-push items (frame o)) ∙ length-append (line_text items) (item_text (frame o))

some-text : (o : List ℕ) → 8 ≤ length (item_text (frame o))
some-text o = let all = length-append (frame_text o) flag in omega (arith, all)

-- What is put on a line with an octet: nothing, or what has waited longest, if anything waits.
abbrev pub TakesFirst : List Item → List (List ℕ) → List (List ℕ) → Type 0
TakesFirst new ring now = ((new ≡ []) × (now ≡ ring)) ⊎ (((o : List ℕ) × (new ≡ frame o ∷ []) × (ring ≡ o ∷ now) × (length (item_text (frame o)) ≤ 72)) ⊎ (ring ≡ []))

-- It is of the kind; its opening flag ends after so many octets (`low`), and it is given by some octet (`most`). It comes to the other
-- end after so many octets (`way`), which has heard some.
module _ (kind : List ℕ → Bool) (low most way : ℕ) where
  pub record OnLine (heard : ℕ) (p : Port) : Type 0 where
    pub front : List Item
    pub o : List ℕ
    pub more : List Item
    pub items : p.items ≡ front ++ frame o ∷ more
    pub its : kind o ≡ true
    pub after_low : 8 * low ≤ text_length front
    pub to_come : 8 * heard < text_length (front ++ frame o ∷ []) + 8 * way
    pub by : text_length (front ++ frame o ∷ []) ≤ 8 * (most + 1)

  pub record InRing (p : Port) (ring : List (List ℕ)) : Type 0 where
    pub before : List (List ℕ)
    pub o : List ℕ
    pub behind : List (List ℕ)
    pub ring_is : ring ≡ before ++ o ∷ behind
    pub its : kind o ≡ true
    pub after_low : 8 * low ≤ text_length p.items
    pub by : text_length p.items + 72 * length before + 72 ≤ 8 * (most + 1)

  abbrev pub Due : ℕ → Port → List (List ℕ) → Type 0
  Due heard p ring = OnLine heard p ⊎ InRing p ring

  -- It is put at the end of what waits.
  pub due-put : (heard : ℕ) (p q : Port) (ring : List (List ℕ)) (o : List ℕ) (puts : List (List ℕ)) → q.items ≡ p.items → kind o ≡ true → 8 * low ≤ text_length p.items
      → text_length p.items + 72 * (length ring + 1) ≤ 8 * (most + 1) → Due heard q (ring ++ o ∷ puts)
  due-put heard p q ring o puts items its after_low by = grind arith

  -- More is put after it.
  pub due-more : (heard : ℕ) (p q : Port) (ring puts : List (List ℕ)) → q.items ≡ p.items → Due heard p ring → Due heard q (ring ++ puts)
  due-more heard p q ring puts items h = grind (arith, append_assoc, text_length, length)

  -- An octet is pulled.
  module _ (heard : ℕ) (p q : Port) (new : List Item) (ring now : List (List ℕ)) (items : q.items ≡ p.items ++ new) (short : 8 * heard ≤ text_length p.items) where
    first-taken : (h : InRing p ring) (first : List ℕ) (before : List (List ℕ)) → h.before ≡ before → new ≡ frame first ∷ [] → ring ≡ first ∷ now → length (item_text (frame first)) ≤ 72 → Due heard q now
    first-taken h first [] is put ring_is few = grind (arith, one-more, some-text, length, item_text)
    first-taken h first (b ∷ before) is put ring_is few = grind (arith, text_length, one-more, length)

    none-waits : (h : InRing p ring) → ring ≡ [] → ⊥
    none-waits h none = let long = ap length (sym none ∙ h.ring_is) ∙ length-append h.before (h.o ∷ h.behind) in omega (arith, long)

    pub due-pulled : TakesFirst new ring now → Due heard p ring → Due heard q now
    due-pulled takes (inl h) = grind (arith, append_assoc)
    due-pulled (inl x) (inr h) = grind (arith, append-nil, text_length, length)
    due-pulled (inr (inl x)) (inr h) = first-taken h x.0 h.before refl x.1 x.2 x.3
    due-pulled (inr (inr none)) (inr h) = absurd (none-waits h none)

  -- The other end hears an octet more: either it has now heard the frame, or it is still to come.
  abbrev pub IsNow : ℕ → Port → Type 0
  IsNow heard p = (h : OnLine heard p) × (text_length (h.front ++ frame h.o ∷ []) + 8 * way ≤ 8 * (heard + 1))

  pub due-heard : (heard : ℕ) (p : Port) (ring : List (List ℕ)) → Due heard p ring → IsNow heard p ⊎ Due (heard + 1) p ring
  due-heard heard p ring (inr h) = inr (inr h)
  due-heard heard p ring (inl h) = by-either (cases_lt (8 * (heard + 1)) (text_length (h.front ++ frame h.o ∷ []) + 8 * way))
      (λ later. inr (inl (record { front = h.front; o = h.o; more = h.more; items = h.items; its = h.its; after_low = h.after_low; to_come = later; by = h.by }))) (λ now. inl (h, now))

  -- So it is heard in time.
  pub due-soon : (heard : ℕ) (p : Port) (ring : List (List ℕ)) → 8 * heard ≤ text_length p.items → Due heard p ring → heard ≤ most + way
  due-soon heard p ring h1z h2z = grind arith

-- ---- an end of the clocked circuit, one thing at a time: what is due there stays so, and an enquiry is put, and an answer

-- How many frames found no place at an end.
abbrev pub lost : OctetEndpoint → ℕ
lost s = sum_by (λ (t : LineTold). t.lost) s.told

pub lost-more : (e : port.Event) (s : OctetEndpoint) → lost s ≤ lost (circuit.happens e s)
lost-more e s = let all = sum_by-append (λ (t : LineTold). t.lost) s.told (told_by (answered e s)) in omega (arith, all)

said-lost : (x : Course) → sum_by (λ (t : LineTold). t.lost) (said_by x) ≡ x.lost
said-lost x = grind arith

lost-with : (s u : OctetEndpoint) (x : Course) → u.told ≡ s.told ++ said_by x → lost u ≡ lost s + x.lost
lost-with s u x is = grind (arith, sum_by-append, said-lost)

module _ (c : Config) (service : Service) (tei place : ℕ) (ranged : IsInRange c) where
  -- The link of an end is one.
  pub its-same : (s : OctetEndpoint) (h k : Ends c service tei place ranged s) → h.its ≡ k.its
  its-same s h k = sym h.stands.speaks.link ∙ k.stands.speaks.link

  module _ (s : OctetEndpoint) (h : Ends c service tei place ranged s) where
    own : StationStands s.card.card.config service tei place (as_endpoint [] s) (bare c service tei place ranged h.its)
    own = subst (λ k. StationStands k service tei place (as_endpoint [] s) (bare c service tei place ranged h.its)) (sym h.stands.config) h.stands

    pub its-sound : LinkIsSound (terms c service tei) h.its
    its-sound = link-sound service tei place (as_endpoint [] s) (bare c service tei place ranged h.its) own

    -- What is told as a timer expires.
    pub expired-told : (timer : Timer) (its : LinkTimer) → ((l : Line) → aim_of_expiry timer l ≡ at_timer service tei its (place_in l tei))
        → (circuit.happens (port.expiry timer) s).told ≡ s.told ++ said_by (links.course (terms c service tei) (link.expired its) h.its)
    expired-told timer its aims =
        ap (λ (x : wire.Endpoint). x.told) (expired-reply timer s []) ∙ expires-said service tei place (as_endpoint [] s) (bare c service tei place ranged h.its) own timer its aims

    -- What is lost is told.
    pub lost-expired : (timer : Timer) (its : LinkTimer) → ((l : Line) → aim_of_expiry timer l ≡ at_timer service tei its (place_in l tei))
        → lost (circuit.happens (port.expiry timer) s) ≡ lost s + (links.told (terms c service tei) (link.expired its) h.its).lost
    lost-expired timer its aims = lost-with s (circuit.happens (port.expiry timer) s) (links.course (terms c service tei) (link.expired its) h.its) (expired-told timer its aims)

    pub lost-asked : (r : Request) (asked : link.Request) (aims : (l : Line) → aim_of_request r l ≡ at_requested service tei asked (place_in l tei)) (octets : AreOctets (contents_given r)) (e : LinkEvent)
        → (ends-asked c service tei place ranged s h r asked aims octets).event ≡ Some e → lost (circuit.happens (port.request r) s) ≡ lost s + (links.told (terms c service tei) (link.requested asked false) h.its).lost
    lost-asked r asked aims octets e is =
        lost-with s (circuit.happens (port.request r) s) (links.course (terms c service tei) (link.requested asked false) h.its) (asked-told c service tei place ranged s h r asked aims octets e is)

    pub lost-heard : (value : ℕ) (d : Config) (octets : List ℕ) (f : Parts) → octets ≡ spelling (own_side d) f → IsCarried d service tei f → heard_side c ≡ own_side d → d.n201 ≡ c.n201
        → gained s.card.card.config.n201 (port_of s).received value ≡ Some (stream.frame octets)
        → lost (circuit.happens (port.octet value) s) ≡ lost s + (links.told (terms c service tei) (link.received (link.frame f)) h.its).lost
    lost-heard value d octets f spelled from side size is =
        let k = s.card.card.config in let whole : came k.n201 octets ≡ stream.frame octets = grind (arith, came) in
        let read = ap (λ (k : Config). reading (heard_side k) octets) h.stands.config
        ∙ ap (λ side. reading side octets) side ∙ ap (reading (own_side d)) spelled ∙ from.carried.read in
        lost-with s (circuit.happens (port.octet value) s) (links.course (terms c service tei) (link.received (link.frame f)) h.its)
        (ap (λ (x : wire.Endpoint). x.told) (heard-as value s [] ∙ ap (λ o. if_meant (option_map line.hears o) (as_endpoint [] s)) is ∙ ap (λ e. wire.happens (line.hears e) (as_endpoint [] s)) (sym whole))
        ∙ takes-told service tei place (as_endpoint [] s) (bare c service tei place ranged h.its) own f octets whole read from.sapi from.by)

    pub text-is : text_length (port_of s).items ≡ 8 * length (port_of s).given + length (left_of (port_of s))
    text-is =
        let p = port_of s in let all = ap length (fine c service tei place ranged s h).sound.text.text ∙ length-append (bits p.given) (left_of p) in
        let each = length-bits p.given in omega (arith, all, each)

    pub text-low : 8 * length (port_of s).given ≤ text_length (port_of s).items
    text-low = let all = text-is in omega (arith, all)

  frame-here : (xs : List ControlFrame) (f : ControlFrame) (fs : List ControlFrame) → All (IsWaitingFrame (terms c service tei)) (xs ++ f ∷ fs) → IsWaitingFrame (terms c service tei) f
  frame-here xs f fs all = All-head (IsWaitingFrame (terms c service tei)) f fs (all-right (IsWaitingFrame (terms c service tei)) xs (f ∷ fs) all)

  module _ (kind : Bool → Control → Bool) (low most way heard : ℕ) where
    abbrev pub DueAt : (s : OctetEndpoint) → Ends c service tei place ranged s → Type 0
    DueAt s h = Due (is_of kind c) low most way heard (port_of s) (ring c service tei place ranged h.its)

    pub due-same : (s : OctetEndpoint) (h k : Ends c service tei place ranged s) → DueAt s h → DueAt s k
    due-same s h k due = subst (λ l. Due (is_of kind c) low most way heard (port_of s) (ring c service tei place ranged l)) (its-same s h k) due

    -- Something else happens than a pull.
    module _ (s u : OctetEndpoint) (h : Ends c service tei place ranged s) (may : LinkEvent → Type 0) (mv : Moved c service tei place ranged s u h may) (ordinary : (e : LinkEvent) → mv.event ≡ Some e → IsOrdinary e) where
      moved-by : (v : Option LinkEvent) → mv.event ≡ v → mv.ends.its ≡ option_map_or (λ e. links.after (terms c service tei) e h.its) v h.its
      moved-by v is = mv.link_is ∙ ap (λ v. option_map_or (λ e. links.after (terms c service tei) e h.its) v h.its) is

      ring-more : (puts : List (List ℕ)) × (ring c service tei place ranged mv.ends.its ≡ ring c service tei place ranged h.its ++ puts)
      ring-more = by-option mv.event (λ is. ([], ap (ring c service tei place ranged) (moved-by None is) ∙ sym (append-nil (ring c service tei place ranged h.its)))) (λ e is.
          let puts = take (room (terms c service tei) h.its) (put (as_heard (terms c service tei) e) h.its (links.after (terms c service tei) e h.its).state) in (
            map (text c service tei) puts,
            ap (ring c service tei place ranged) (moved-by (Some e) is) ∙ ap (map (text c service tei)) (waiting-then c service tei place ranged e h.its (ordinary e is))
                ∙ map-append (text c service tei) h.its.waiting puts,
          ))

      pub due-moved : DueAt s h → DueAt u mv.ends
      due-moved due =
          let x = ring-more in
          subst (Due (is_of kind c) low most way heard (port_of u)) (sym x.1)
          (due-more (is_of kind c) low most way heard (port_of s) (port_of u) (ring c service tei place ranged h.its) x.0 mv.items due)

      -- It puts a frame of the kind, and nothing is lost.
      module _ (e : LinkEvent) (is : mv.event ≡ Some e) (puts : Puts (terms c service tei) kind e h.its) (none : (links.told (terms c service tei) e h.its).lost ≡ 0) where
        waiting-is : mv.ends.its.waiting ≡ (h.its.waiting ++ puts.0) ++ puts.1 ∷ puts.2
        waiting-is =
            ap (λ (l : Link). l.waiting) (moved-by (Some e) is) ∙ waiting-then c service tei place ranged e h.its (ordinary e is)
            ∙ ap (λ fs. h.its.waiting ++ fs) (all-put (terms c service tei) e h.its none ∙ puts.3) ∙ sym (append_assoc h.its.waiting puts.0 (puts.1 ∷ puts.2))

        pub frame-put : 8 * low ≤ text_length (port_of s).items → length (port_of s).given + half c service tei place ranged ≤ most → DueAt u mv.ends
        frame-put after_low soon =
            let w = frame-here (h.its.waiting ++ puts.0) puts.1 puts.2 (subst (All (IsWaitingFrame (terms c service tei))) waiting-is (its-sound u mv.ends).frames) in
            let few = (its-sound u mv.ends).ring in let all = ap length waiting-is ∙ length-append (h.its.waiting ++ puts.0) (puts.1 ∷ puts.2) in
            let ring_long = length-map (h.its.waiting ++ puts.0) (text c service tei) in let left = few-left c ranged s h.ran in let text_all = text-is s h in
            grind (arith, is_of, port_of, map, text, waiting-is, map-append, due-put, text-kind)

    -- An octet is pulled.
    module _ (s : OctetEndpoint) (h : Ends c service tei place ranged s) (x : Pulled c service tei place ranged s h) where
      takes : (new : List Item) (ws now : List ControlFrame) → All (IsWaitingFrame (terms c service tei)) ws → Took c service tei new ws now → TakesFirst new (map (text c service tei) ws) (map (text c service tei) now)
      takes new ws now all (inl y) = inl (y.0, ap (map (text c service tei)) y.1)
      takes new ws now all (inr (inl y)) =
          let w = All-head (IsWaitingFrame (terms c service tei)) y.0 now (subst (All (IsWaitingFrame (terms c service tei))) y.2 all) in
          inr (inl (text c service tei y.0, y.1, ap (map (text c service tei)) y.2, short-text (text c service tei y.0) w.octets))
      takes new ws now all (inr (inr y)) = inr (inr (ap (map (text c service tei)) y.2))

      pub due-pull : heard ≤ length (port_of s).given → DueAt s h → DueAt (circuit.happens port.pull s) x.ends
      due-pull few due =
          let low_text = text-low s h in
          due-pulled (is_of kind c) low most way heard (port_of s) (port_of (circuit.happens port.pull s)) x.new (ring c service tei place ranged h.its) (ring c service tei place ranged x.ends.its) x.gave.items
          (omega (arith, few, low_text)) (takes x.new h.its.waiting x.ends.its.waiting (its-sound s h).frames x.took) due

-- ---- what holds of the port and the link of an end stays so as layer 3 asks and timers fall due there, as long as no frame is lost

module _ (c : Config) (service : Service) (tei : ℕ) (ranged : IsInRange c) (lengths : Lengths) (rate : ℕ) where
  abbrev pub EndsAt : OctetEndpoint → Type 0
  EndsAt s = Ends c service tei 0 ranged s

  abbrev pub EndAt : ℕ → ℕ → TimedEndpoint → Type 0
  EndAt S M a = EndOk c service tei 0 ranged lengths rate S M a

  -- Layer 3 asks, or a timer expires, and no frame is lost.
  abbrev pub IsCalm : LinkEvent → Link → Type 0
  IsCalm e l = IsOwnEvent e × ((links.told (terms c service tei) e l).lost ≡ 0)

  abbrev pub IsKept : (Port → Link → Type 0) → Type 1
  IsKept D =
      (s u : OctetEndpoint) (h : EndsAt s) (may : LinkEvent → Type 0) (mv : Moved c service tei 0 ranged s u h may) → ((e : LinkEvent) → mv.event ≡ Some e → IsCalm e h.its)
      → D (port_of s) h.its → D (port_of u) mv.ends.its

  -- The same, of requests alone, and of expiries alone.
  abbrev pub IsAsking : LinkEvent → Type 0
  IsAsking e = (r : link.Request) × (e ≡ link.requested r false)

  abbrev pub IsExpiring : LinkEvent → Type 0
  IsExpiring e = (timer : LinkTimer) × (e ≡ link.expired timer)

  abbrev pub IsKeptBy : (LinkEvent → Type 0) → (Port → Link → Type 0) → Type 1
  IsKeptBy K D =
      (s u : OctetEndpoint) (h : EndsAt s) (may : LinkEvent → Type 0) (mv : Moved c service tei 0 ranged s u h may) → ((e : LinkEvent) → mv.event ≡ Some e → K e)
      → D (port_of s) h.its → D (port_of u) mv.ends.its

  module _ (D : Port → Link → Type 0) (base : ℕ) where
    abbrev pub Kept : (s : OctetEndpoint) → EndsAt s → Type 0
    Kept s h = (base ≤ lost s) × (lost s ≤ base → D (port_of s) h.its)

    pub kept-same : (s : OctetEndpoint) (h k : EndsAt s) → Kept s h → Kept s k
    kept-same s h k x = (x.0, λ few. subst (D (port_of s)) (its-same c service tei 0 ranged s h k) (x.1 few))

    module _ (on : IsKept D) where
      step : (e : port.Event) (s : OctetEndpoint) (h : EndsAt s) (may : LinkEvent → Type 0) (mv : Moved c service tei 0 ranged s (circuit.happens e s) h may)
          → (lost (circuit.happens e s) ≤ lost s → (x : LinkEvent) → mv.event ≡ Some x → IsCalm x h.its) → Kept s h → Kept (circuit.happens e s) mv.ends
      step e s h may mv calm x =
          let more = lost-more e s in let before = x.0 in (omega (arith, more, before), λ few. on s (circuit.happens e s) h may mv (calm (omega (arith, few, before))) (x.1 (omega (arith, more, few))))

      module _ (s : OctetEndpoint) (h : EndsAt s) (x : Kept s h) where
        asked-kept : (r : Request) (its : link.Request) → ((l : Line) → aim_of_request r l ≡ at_requested service tei its (place_in l tei)) → AreOctets (contents_given r) → ((k : EndsAt (circuit.happens (port.request r) s)) × Kept (circuit.happens (port.request r) s) k)
        asked-kept r its aims octets =
            let mv = ends-asked c service tei 0 ranged s h r its aims octets in (
              mv.ends,
              step (port.request r) s h (λ e. e ≡ link.requested its false) mv (λ few e is. let all = lost-asked c service tei 0 ranged s h r its aims octets e is in
                  (inl (its, mv.by e is), ap (λ e. (links.told (terms c service tei) e h.its).lost) (mv.by e is) ∙ omega (arith, few, all))) x,
            )

        expired-kept : (timer : Timer) (its : LinkTimer) → ((l : Line) → aim_of_expiry timer l ≡ at_timer service tei its (place_in l tei)) → ((k : EndsAt (circuit.happens (port.expiry timer) s)) × Kept (circuit.happens (port.expiry timer) s) k)
        expired-kept timer its aims =
            let mv = ends-expired c service tei 0 ranged s h timer its aims in
            let all = lost-expired c service tei 0 ranged s h timer its aims in (
              mv.ends,
              step (port.expiry timer) s h (λ e. e ≡ link.expired its) mv
                  (λ few e is. (inr (its, mv.by e is), ap (λ e. (links.told (terms c service tei) e h.its).lost) (mv.by e is) ∙ omega (arith, few, all))) x,
            )

      -- The moment comes.
      module _ (transit moment n S M : ℕ) (rs : List Request) (a : TimedEndpoint) (h : EndAt S M a) (rests : Rests a) (low : a.clock.now ≤ moment) (high : moment ≤ a.clock.now + 1)
          (counts : Counts service tei transit lengths rate c ranged n a) (soon : n + 1 ≤ (moment + 1) * rate) (all : All (IsOfLink service tei) rs) where
        pub comes-kept : Kept a.at h.but.ends → (k : EndsAt (comes_to moment rs a).at) → Kept (comes_to moment rs a).at k
        comes-kept x k =
            let ok = at-moment service tei transit lengths rate c ranged moment n S M rs a h rests low high counts soon all in let given = counts.given in
            (all-keep c service tei 0 ranged lengths rate (λ u. (k : EndsAt u.at) → Kept u.at k) (IsOfLink service tei) (λ r is. is)
            (λ r u S M ok g is kept k. let y = of-link service tei r is in let then = asked-kept u.at ok.but.ends (kept ok.but.ends) r y.0 y.1 y.2 in kept-same (asks u r).at then.0 k then.1)
            (λ e u S M ok g is kept k.
            let y = of-timer service tei e.timer (first-of (RunsOurs service tei) u.clock.running u.clock.now e ok.but.ours is) in
            let then = expired-kept u.at ok.but.ends (kept ok.but.ends) e.timer y.0 y.1 in kept-same (falls u e).at then.0 k then.1)
            S M moment rs all a ok (omega (arith, given, soon)) (λ k. kept-same a.at h.but.ends k x)).1 k

  -- What requests keep, and what expiries keep after them.
  module _ (D R : Port → Link → Type 0) (less : (p : Port) (l : Link) → D p l → R p l) (on : IsKeptBy IsAsking D) (later : IsKeptBy IsExpiring R) (transit moment n S M : ℕ) (rs : List Request) (a : TimedEndpoint)
      (h : EndAt S M a) (rests : Rests a) (low : a.clock.now ≤ moment) (high : moment ≤ a.clock.now + 1) (counts : Counts service tei transit lengths rate c ranged n a)
      (soon : n + 1 ≤ (moment + 1) * rate) (all : All (IsOfLink service tei) rs) where
    abbrev OfD : (s : OctetEndpoint) → EndsAt s → Type 0
    OfD s k = D (port_of s) k.its

    abbrev OfR : (s : OctetEndpoint) → EndsAt s → Type 0
    OfR s k = R (port_of s) k.its

    same-d : (s : OctetEndpoint) (h k : EndsAt s) → OfD s h → OfD s k
    same-d s h k x = subst (D (port_of s)) (its-same c service tei 0 ranged s h k) x

    same-r : (s : OctetEndpoint) (h k : EndsAt s) → OfR s h → OfR s k
    same-r s h k x = subst (R (port_of s)) (its-same c service tei 0 ranged s h k) x

    pub comes-by : OfD a.at h.but.ends → (k : EndsAt (comes_to moment rs a).at) → OfR (comes_to moment rs a).at k
    comes-by x k =
        let ok = at-moment service tei transit lengths rate c ranged moment n S M rs a h rests low high counts soon all in let given = counts.given in
        (all-both c service tei 0 ranged lengths rate (λ u. (k : EndsAt u.at) → OfD u.at k) (λ u. (k : EndsAt u.at) → OfR u.at k) (IsOfLink service tei) (λ r is. is)
        (λ r u S M ok g is kept k.
        let y = of-link service tei r is in let mv = ends-asked c service tei 0 ranged u.at ok.but.ends r y.0 y.1 y.2 in
        same-d (asks u r).at mv.ends k (on u.at (circuit.happens (port.request r) u.at) ok.but.ends (λ e. e ≡ link.requested y.0 false) mv (λ e is. (y.0, mv.by e is)) (kept ok.but.ends)))
        (λ u kept k. less (port_of u.at) k.its (kept k))
        (λ e u S M ok g is kept k.
        let y = of-timer service tei e.timer (first-of (RunsOurs service tei) u.clock.running u.clock.now e ok.but.ours is) in
        let mv = ends-expired c service tei 0 ranged u.at ok.but.ends e.timer y.0 y.1 in
        same-r (falls u e).at mv.ends k (later u.at (circuit.happens (port.expiry e.timer) u.at) ok.but.ends (λ e. e ≡ link.expired y.0) mv (λ e is. (y.0, mv.by e is)) (kept ok.but.ends)))
        S M moment rs all a ok (omega (arith, given, soon)) (λ k. same-d a.at h.but.ends k x)).1 k
