-- An end of the circuit, on whose line one link alone speaks, after each event.
use Rattle.laws_time.proofs.Vocabulary.{All-map, All-weaker, All, All-append, Answer, AreOctets, Config, Fits, FrameEndpoint, Granted, IsCarried, IsInRange, Item, Link, LinkEndpoint, LinkTimer, List, NextFrame, None, OctetEndpoint, Option, Parts, Port, Ran, Request, Service, Some, StationStands, StreamEvent, Timer, [], aim_of_expiry, by-bool, aim_of_request, answer, ap}
use Rattle.laws_time.proofs.Vocabulary.{append-nil, arith, as_endpoint, asked-as, asks-stands, at_requested, at_timer, came, cond, contents_given, expires-stands, false, frame_given, frames_among, frames_among-append, frames_by, fresh_line, gained, given_in, gives-frames, gives-octets, gives-stands, goes-on, heard-as, heard_side, if_meant, inl, inr, is_due, item_of, line_after, line_answer, map}
use Rattle.laws_time.proofs.Vocabulary.{meant, next_of_card, on-line, option_map, option_map_or, own_side, place_in, port-after, port_of, ports_after as after, pull-between, pull-given, pull-put, pulled-as, reading, refl, said_by, set-get_or, sound-port, spelling, subst, sym, takes-stands, takes_slot, terms, true, with_link, with_sent, within-ports, ℕ, ◌++◌, ◌∙◌, ◌∷◌, ◌≡◌, ◌⊎◌}
use Rattle.model_bits.specs.Stream as stream
use Rattle.model_link.specs.Events as link
use Rattle.model_link.specs.Machine as links
use Rattle.model_line.specs.Event as line
use Rattle.model_line.specs.Line.{Line}
use Rattle.model_card.specs.ports.Port as port
use Rattle.laws_wire.specs.Wire as wire
use Rattle.laws_order.specs.circuit.Circuit.{happens}
use Rattle.laws_time.proofs.OfCircuit.Sender.{Fine, Gave, Took, takes-now}

-- An expiry as the card of frames inside has it.
pub expired-reply : (timer : Timer) (s : OctetEndpoint) (way : List (List ℕ)) → as_endpoint way (happens (port.expiry timer) s) ≡ wire.happens (line.expiry timer) (as_endpoint way s)
unfolding after answer meant line_answer takes_slot
expired-reply timer s way = grind (arith, append-nil)

-- What is dropped leaves the card.
dropped-same : (cause : _) (x : FrameEndpoint) → (wire.happens (line.hears (stream.dropped cause)) x).card ≡ x.card
unfolding line_after takes_slot
dropped-same cause x = ap (λ ls. record x.card { lines = ls }) (set-get_or x.card.lines x.line (fresh_line x.card.config))

module _ (c : Config) (service : Service) (tei place : ℕ) (ranged : IsInRange c) where
  abbrev pub bare : Link → LinkEndpoint
  bare l = record { terms = terms c service tei; link = l; way = []; delivered = [] }

  -- A frame of this end's.
  abbrev pub IsOwn : List ℕ → Type 0
  IsOwn octets = (f : Parts) × (octets ≡ spelling (own_side c) f) × IsCarried c service tei f

  pub record Ends (s : OctetEndpoint) : Type 0 where
    pub ran : Ran c s
    pub its : Link
    pub stands : StationStands c service tei place (as_endpoint [] s) (bare its)
    pub frames : All IsOwn (frames_among (port_of s).items)
    pub octets : All AreOctets (frames_among (port_of s).items)

  pub fine : (s : OctetEndpoint) → Ends s → Fine c.n201 (port_of s)
  fine s h = record { sound = sound-port c ranged s h.ran; on = on-line c ranged s h.ran; octets = h.octets }

  finish : (k : Config) → k ≡ c → (u : OctetEndpoint) (y : FrameEndpoint) (n : LinkEndpoint) → record (as_endpoint [] u) { way = [] } ≡ record y { way = [] } → StationStands k service tei place y n
      → StationStands c service tei place (as_endpoint [] u) (bare n.link)
  finish k same u y n is h = grind arith

  -- what was granted and told does not matter
  told-more : (x y : FrameEndpoint) → y.card ≡ x.card → y.line ≡ x.line → y.way ≡ x.way → (n : LinkEndpoint) → StationStands c service tei place x n → StationStands c service tei place y n
  told-more x y card number way n h = grind arith

  abbrev bared : FrameEndpoint → FrameEndpoint
  bared x = record x { way = [] }

  -- Something else than a pull: the link has an event, or none, and what is on the line stays.
  pub record Moved (s u : OctetEndpoint) (h : Ends s) (may : link.Event → Type 0) : Type 0 where
    pub ends : Ends u
    pub event : Option link.Event
    pub link_is : ends.its ≡ (option_map_or (λ e. links.after (terms c service tei) e h.its) event h.its)
    pub by : (e : link.Event) → event ≡ Some e → may e
    pub items : (port_of u).items ≡ (port_of s).items
    pub given : (port_of u).given ≡ (port_of s).given

  abbrev moved-as : (s u : OctetEndpoint) (h : Ends s) (may : link.Event → Type 0) → Ran c u → (event : Option link.Event) → ((e : link.Event) → event ≡ Some e → may e)
      → StationStands c service tei place (as_endpoint [] u) (bare (option_map_or (λ e. links.after (terms c service tei) e h.its) event h.its))
      → (port_of u).items ≡ (port_of s).items → (port_of u).given ≡ (port_of s).given → Moved s u h may
  moved-as s u h may ran event by stands items given = record {
    ends = record {
      ran = ran;
      its = option_map_or (λ e. links.after (terms c service tei) e h.its) event h.its;
      stands = stands;
      frames = subst (λ is. All IsOwn (frames_among is)) (sym items) h.frames;
      octets = subst (λ is. All AreOctets (frames_among is)) (sym items) h.octets;
    };
    event = event;
    link_is = refl;
    by = by;
    items = items;
    given = given;
  }

  module _ (s : OctetEndpoint) (h : Ends s) where
    abbrev x : FrameEndpoint
    x = as_endpoint [] s

    abbrev own : StationStands s.card.card.config service tei place (as_endpoint [] s) (bare h.its)
    own = subst (λ k. StationStands k service tei place (as_endpoint [] s) (bare h.its)) (sym h.stands.config) h.stands

    -- layer 3 asks
    module _ (r : Request) (asked : link.Request) (aims : (l : Line) → aim_of_request r l ≡ at_requested service tei asked (place_in l tei)) (octets : AreOctets (contents_given r)) where
      abbrev IsThat : link.Event → Type 0
      IsThat e = e ≡ link.requested asked false

      same-port : port_of (happens (port.request r) s) ≡ port_of s
      same-port = port-after s (port.request r) (within-ports c ranged s h.ran)

      asked-is : bared (as_endpoint [] (happens (port.request r) s)) ≡ bared (wire.happens (line.request r) (as_endpoint [] s))
      asked-is = ap bared (asked-as r s [])

      moved-by : (event : Option link.Event) → ((e : link.Event) → event ≡ Some e → IsThat e)
          → StationStands c service tei place (as_endpoint [] (happens (port.request r) s)) (bare (option_map_or (λ e. links.after (terms c service tei) e h.its) event h.its)) → Moved s (happens (port.request r) s) h IsThat
      moved-by event by stands = moved-as s (happens (port.request r) s) h IsThat (goes-on c s (port.request r) octets h.ran) event by stands (ap (λ (p : Port). p.items) same-port) (ap (λ (p : Port). p.given) same-port)

      abbrev Stood : Type 0
      Stood =
          (wire.happens (line.request r) (as_endpoint [] s) ≡ as_endpoint [] s)
          ⊎ Granted service tei place (as_endpoint [] s) (bare h.its) own r asked aims (wire.happens (line.request r) (as_endpoint [] s))

      asked-by : Stood → Moved s (happens (port.request r) s) h IsThat
      asked-by (inl none) = moved-by None (λ e is. cc is) (subst (λ z. StationStands c service tei place z (bare h.its)) (sym (asked-is ∙ ap bared none)) h.stands)
      asked-by (inr g) =
          moved-by (Some (link.requested asked false)) (λ f is. sym (cc is)) (finish s.card.card.config h.stands.config (happens (port.request r) s) (wire.happens (line.request r) (as_endpoint [] s)) (with_link (link.requested asked false) (bare h.its)) asked-is g.stands)

      pub ends-asked : Moved s (happens (port.request r) s) h IsThat
      ends-asked = asked-by (asks-stands service tei place (as_endpoint [] s) (bare h.its) own r asked aims)

      -- What it is told, if it is granted.
      told-by : (x : Stood) (e : link.Event) → (asked-by x).event ≡ Some e → (happens (port.request r) s).told ≡ s.told ++ said_by (links.course (terms c service tei) (link.requested asked false) h.its)
      unfolding asked-by moved-by
      told-by x e h1z = grind (arith, asked-is)

      pub asked-told : (e : link.Event) → ends-asked.event ≡ Some e → (happens (port.request r) s).told ≡ s.told ++ said_by (links.course (terms c service tei) (link.requested asked false) h.its)
      unfolding ends-asked
      asked-told e is = told-by (asks-stands service tei place (as_endpoint [] s) (bare h.its) own r asked aims) e is

    -- a timer of the link expires
    module _ (timer : Timer) (its : LinkTimer) (aims : (l : Line) → aim_of_expiry timer l ≡ at_timer service tei its (place_in l tei)) where
      abbrev IsExpired : link.Event → Type 0
      IsExpired e = e ≡ link.expired its

      pub ends-expired : Moved s (happens (port.expiry timer) s) h IsExpired
      ends-expired =
          let u = happens (port.expiry timer) s in let same : port_of u ≡ port_of s = port-after s (port.expiry timer) (within-ports c ranged s h.ran) in let e = link.expired its in
          moved-as s u h IsExpired (goes-on c s (port.expiry timer) tt h.ran) (Some e) (λ f is. sym (cc is))
          (finish s.card.card.config h.stands.config u (wire.happens (line.expiry timer) (as_endpoint [] s)) (with_link e (bare h.its)) (ap bared (expired-reply timer s []))
          (expires-stands service tei place (as_endpoint [] s) (bare h.its) own timer its aims)) (ap (λ (p : Port). p.items) same) (ap (λ (p : Port). p.given) same)

      pub expired-event : ends-expired.event ≡ Some (link.expired its)
      unfolding ends-expired
      expired-event = refl

    -- an octet comes
    module _ (value : ℕ) where
      port-now : port_of (happens (port.octet value) s) ≡ record (port_of s) { received = (port_of s).received ++ value ∷ [] }
      port-now = port-after s (port.octet value) (within-ports c ranged s h.ran)

      now-is : (o : Option StreamEvent) → gained s.card.card.config.n201 (port_of s).received value ≡ o
          → bared (as_endpoint [] (happens (port.octet value) s)) ≡ bared (if_meant (option_map line.hears o) (as_endpoint [] s))
      now-is o is = ap bared (heard-as value s []) ∙ ap (λ o. bared (if_meant (option_map line.hears o) (as_endpoint [] s))) is

      -- that ends no frame
      abbrev IsNone : link.Event → Type 0
      IsNone e = ⊥

      still : StationStands c service tei place (as_endpoint [] (happens (port.octet value) s)) (bare h.its) → Moved s (happens (port.octet value) s) h IsNone
      still stands = moved-as s (happens (port.octet value) s) h IsNone (goes-on c s (port.octet value) tt h.ran) None (λ e is. cc is) stands (ap (λ (p : Port). p.items) port-now) (ap (λ (p : Port). p.given) port-now)

      pub heard-none : gained s.card.card.config.n201 (port_of s).received value ≡ None → Moved s (happens (port.octet value) s) h IsNone
      heard-none is = still (subst (λ z. StationStands c service tei place z (bare h.its)) (sym (now-is None is)) h.stands)

      pub heard-dropped : (cause : _) → gained s.card.card.config.n201 (port_of s).received value ≡ Some (stream.dropped cause) → Moved s (happens (port.octet value) s) h IsNone
      heard-dropped cause is =
          let y = wire.happens (line.hears (stream.dropped cause)) (as_endpoint [] s) in
          still (subst (λ z. StationStands c service tei place z (bare h.its)) (sym (now-is (Some (stream.dropped cause)) is))
          (told-more (as_endpoint [] s) (bared y) (dropped-same cause (as_endpoint [] s)) refl refl (bare h.its) h.stands))

      -- with a frame of the other end
      module _ (d : Config) (octets : List ℕ) (f : Parts) (spelled : octets ≡ spelling (own_side d) f) (from : IsCarried d service tei f) (side : heard_side c ≡ own_side d) (size : d.n201 ≡ c.n201) where
        abbrev IsHeard : link.Event → Type 0
        IsHeard e = e ≡ link.received (link.frame f)

        pub heard-frame : gained s.card.card.config.n201 (port_of s).received value ≡ Some (stream.frame octets) → Moved s (happens (port.octet value) s) h IsHeard
        heard-frame is =
            let e = link.received (link.frame f) in let k = s.card.card.config in let whole : came k.n201 octets ≡ stream.frame octets = grind (arith, came) in
            let read = ap (λ (k : Config). reading (heard_side k) octets) h.stands.config
            ∙ ap (λ side. reading side octets) side ∙ ap (reading (own_side d)) spelled ∙ from.carried.read in
            let takes = takes-stands service tei place (as_endpoint [] s) (bare h.its) own f octets whole read from.sapi from.by in
            moved-as s (happens (port.octet value) s) h IsHeard (goes-on c s (port.octet value) tt h.ran) (Some e) (λ g is. sym (cc is))
            (finish k h.stands.config (happens (port.octet value) s) (wire.frame_comes octets (as_endpoint [] s)) (with_link e (bare h.its))
            (now-is (Some (stream.frame octets)) is ∙ ap (λ e. bared (wire.happens (line.hears e) (as_endpoint [] s))) (sym whole)) takes) (ap (λ (p : Port). p.items) port-now) (ap (λ (p : Port). p.given) port-now)

        pub heard-event : (is : gained s.card.card.config.n201 (port_of s).received value ≡ Some (stream.frame octets)) → (heard-frame is).event ≡ Some (link.received (link.frame f))
        unfolding heard-frame
        heard-event is = refl

    -- ---- an octet is pulled

    fits : Fits c.n201 c
    fits = record { ranged = ranged; size = refl }

    pub record Pulled : Type 0 where
      pub ends : Ends (happens port.pull s)
      pub new : List Item
      pub value : ℕ
      pub gave : Gave c.n201 (port_of s) (port_of (happens port.pull s)) new value
      pub took : Took c service tei new h.its.waiting ends.its.waiting
      pub its_is : (ends.its ≡ h.its) ⊎ (ends.its ≡ links.after (terms c service tei) link.offer h.its)

    not-due : is_due (port_of s) ≡ false → Pulled
    not-due none =
        let between = pull-between c.n201 c fits s h.ran none in let given = pull-given c.n201 c fits s h.ran in
        record {
          ends = record {
            ran = goes-on c s port.pull tt h.ran;
            its = h.its;
            stands = subst (λ z. StationStands c service tei place z (bare h.its)) (sym (ap bared (pulled-as s []) ∙ ap (λ due. bared (if_meant (cond due (Some line.next) None) (as_endpoint [] s))) none)) h.stands;
            frames = subst (λ is. All IsOwn (frames_among is)) (sym between.1) h.frames;
            octets = subst (λ is. All AreOctets (frames_among is)) (sym between.1) h.octets;
          };
          new = [];
          value = given.0;
          gave = record { few = omega arith; items = between.1 ∙ sym (append-nil (port_of s).items); given = given.1 };
          took = inl (refl, refl);
          its_is = inl refl;
        }

    gives-now : frames_by (wire.answered line.next (as_endpoint [] s)) ≡ frames_among (item_of (given_in (next_of_card s.line s.card.card)) ∷ [])
    gives-now = grind arith

    frames-are : frames_among (item_of (given_in (next_of_card s.line s.card.card)) ∷ []) ≡ map (spelling (own_side c)) (frame_given (terms c service tei) (links.given (terms c service tei) h.its))
    frames-are = sym gives-now ∙ gives-frames service tei place (as_endpoint [] s) (bare h.its) own
        ∙ ap (λ (k : Config). map (spelling (own_side k)) (frame_given (terms c service tei) (links.given (terms c service tei) h.its))) h.stands.config

    all-own : (fs : List Parts) → All (IsCarried c service tei) fs → All IsOwn (map (spelling (own_side c)) fs)
    all-own fs all = All-map IsOwn (spelling (own_side c)) fs (All-weaker (IsCarried c service tei) (λ f. IsOwn (spelling (own_side c) f)) (λ f is. (f, refl, is)) fs all)

    octets-now : (o : Option NextFrame) → ((f : NextFrame) → o ≡ Some f → AreOctets f.octets) → All AreOctets (frames_among (item_of o ∷ []))
    octets-now h all = grind arith

    due-now : is_due (port_of s) ≡ true → Pulled
    due-now due =
        let given = pull-given c.n201 c fits s h.ran in let put = pull-put c.n201 c fits s h.ran due in let i = item_of (given_in (next_of_card s.line s.card.card)) in
        let gives = gives-stands service tei place (as_endpoint [] s) (bare h.its) own in
        let carried : All (IsCarried c service tei) (frame_given (terms c service tei) (links.given (terms c service tei) h.its)) = grind (arith, frame_given, terms, links.given) in
        let more = ap frames_among put ∙ frames_among-append (port_of s).items (i ∷ []) in
        record {
          ends = record {
            ran = goes-on c s port.pull tt h.ran;
            its = links.after (terms c service tei) link.offer h.its;
            stands = finish s.card.card.config h.stands.config (happens port.pull s) (wire.happens line.next (as_endpoint [] s)) (with_sent (bare h.its))
                (ap bared (pulled-as s []) ∙ ap (λ due. bared (if_meant (cond due (Some line.next) None) (as_endpoint [] s))) due) gives;
            frames = subst (All IsOwn) (sym more) (All-append IsOwn (frames_among (port_of s).items) (frames_among (i ∷ [])) h.frames
                (subst (All IsOwn) (sym frames-are) (all-own (frame_given (terms c service tei) (links.given (terms c service tei) h.its)) carried)));
            octets = subst (All AreOctets) (sym more) (All-append AreOctets (frames_among (port_of s).items) (frames_among (i ∷ [])) h.octets
                (octets-now (given_in (next_of_card s.line s.card.card)) (gives-so (next_of_card s.line s.card.card) refl)));
          };
          new = i ∷ [];
          value = given.0;
          gave = record { few = omega arith; items = put; given = given.1 };
          took = inr (takes-now c service tei h.its (given_in (next_of_card s.line s.card.card)) frames-are carried);
          its_is = inr refl;
        }
      where
        gives-so : (a : Answer) → next_of_card s.line s.card.card ≡ a → (f : NextFrame) → given_in a ≡ Some f → AreOctets f.octets
        gives-so (line.gave (Some g)) is f same = let own_f : g ≡ f = cc same in subst (λ (x : NextFrame). AreOctets x.octets) own_f (gives-octets c ranged s h.ran g is)
        gives-so (line.gave None) is f same = cc same
        gives-so (line.told t) is f same = cc same
        gives-so (line.refused why) is f same = cc same

    pub pulls : Pulled
    pulls = by-bool (is_due (port_of s)) (λ e. due-now e) (λ e. not-due e)
