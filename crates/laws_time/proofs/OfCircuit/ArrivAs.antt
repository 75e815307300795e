-- The circuit as a wire of stations with losses: from one wire to another, and an end as a station after each event.
use Rattle.laws_time.proofs.Vocabulary.{All, All-append, All-cons, All-nil, Config, EndStep as Step, FrameEndpoint, IsFrame, IsFullTalk, IsFullTalkOf, IsInRange, IsTimelyOf, LineTold, List, None, OctetEndpoint, Option, Port, Ran, Request, Service, Some, StayPatient, StepAt, TimedEndpoint, Timer, Wire, [], acting, ap, append-nil, arith, as_endpoint, asked-as, at_far}
use Rattle.laws_time.proofs.Vocabulary.{at_near, came, cond, doing-append, drop, false, flat_map, flat_map-append, for_layer_3, fresh_line, gained, heard-as, heard-way, hears, if_meant, inl, inr, is_due, length, line_after, line_answer, loses, option_map, port-after, port_of, pulled-as, receives, refl, set-get_or, subst, sym, takes_slot, true, turned}
use Rattle.laws_time.proofs.Vocabulary.{unwrap_or, wire_doing_all as doing_all, within-ports, ℕ, ◌++◌, ◌+◌, ◌∙◌, ◌∷◌, ◌≡◌, map}
use Rattle.model_bits.specs.Stream as stream
use Rattle.model_line.specs.Event as line
use Rattle.model_card.specs.ports.Port as port
use Rattle.laws_wire.specs.Wire as wire
use Rattle.laws_order.specs.circuit.Circuit as circuit
use Rattle.laws_order.specs.circuit.Circuit.{happens}
use Rattle.laws_time.proofs.OfCircuit.AckedCall.{turn, turn-all, all-turned}
use Rattle.laws_wire.proofs.UaMoves.{both-patient}
use Rattle.laws_time.proofs.OfCircuit.Standing.{expired-reply}
use Rattle.laws_time.proofs.OfCircuit.ArrivWay.{Going, IsNoFrame, Comes, comes}

module _ (service : Service) (tei : ℕ) where
  pub record Path (w v : Wire) : Type 0 where
    pub steps : List StepAt
    pub done : All (IsFullTalk service tei) steps
    pub patient : StayPatient steps w
    pub leads : doing_all steps w ≡ v

  pub path-none : (w v : Wire) → w ≡ v → Path w v
  unfolding StayPatient doing_all
  path-none w v same = record { steps = []; done = All-nil (IsFullTalk service tei); patient = tt; leads = same }

  pub path-both : (w v x : Wire) → Path w v → Path v x → Path w x
  path-both w v x p q = record {
    steps = p.steps ++ q.steps;
    done = All-append (IsFullTalk service tei) p.steps q.steps p.done q.done;
    patient = both-patient p.steps q.steps w p.patient (subst (StayPatient q.steps) (sym p.leads) q.patient);
    leads = doing-append p.steps q.steps w ∙ ap (doing_all q.steps) p.leads ∙ q.leads;
  }

  pub path-one : (act : Step) → IsFullTalkOf service tei act → (w v : Wire) → IsTimelyOf act w → acting act w ≡ v → Path w v
  unfolding StayPatient doing_all
  path-one act is w v timely same = record { steps = at_near act ∷ []; done = All-cons (IsFullTalk service tei) (at_near act) [] is (All-nil (IsFullTalk service tei)); patient = (timely, tt); leads = same }

  full-turned : (k : StepAt) → IsFullTalk service tei k → IsFullTalk service tei (turn k)
  full-turned k is = grind arith

  swap-patient : (ds : List StepAt) (w : Wire) → StayPatient ds w → StayPatient (map turn ds) (turned w)
  unfolding StayPatient
  swap-patient [] w h = tt
  swap-patient (at_near act ∷ ds) w h = (h.0, swap-patient ds (acting act w) h.1)
  swap-patient (at_far act ∷ ds) w h = (h.0, swap-patient ds (turned (acting act (turned w))) h.1)

  pub path-turned : (w v : Wire) → Path w v → Path (turned w) (turned v)
  path-turned w v p = record {
    steps = map turn p.steps;
    done = all-turned (IsFullTalk service tei) full-turned p.steps p.done;
    patient = swap-patient p.steps w p.patient;
    leads = turn-all p.steps w ∙ ap turned p.leads;
  }

-- ---- an end of the circuit as a station of frames, after each event: layer 3 hears the same there, except what was dropped

abbrev pub heard_of : List LineTold → List LineTold
heard_of ts = flat_map for_layer_3 ts

-- A station with these frames on its way, that was told this.
abbrev pub station : List (List ℕ) → List LineTold → OctetEndpoint → FrameEndpoint
station way ts s = record { card = s.card.card; line = s.line; way = way; granted = s.granted; told = ts }

pub record Becomes (x : FrameEndpoint) (way : List (List ℕ)) (s : OctetEndpoint) : Type 0 where
  pub ts : List LineTold
  pub is : x ≡ station way ts s
  pub heard : heard_of ts ≡ heard_of s.told

-- An event of the line.
module _ (e : line.Event) (way way' : List (List ℕ)) (s u : OctetEndpoint) (same : as_endpoint way' u ≡ wire.happens e (as_endpoint way s))
    (ts : List LineTold) (heard : heard_of ts ≡ heard_of s.told) where
  pub stirred : Becomes (wire.happens e (station way ts s)) way' u
  stirred = grind (arith, wire.told_by, wire.answered, as_endpoint, flat_map-append, for_layer_3)

-- No event of it.
pub unstirred : (way : List (List ℕ)) (s u : OctetEndpoint) → as_endpoint way u ≡ as_endpoint way s → (ts : List LineTold) → heard_of ts ≡ heard_of s.told → Becomes (station way ts s) way u
unstirred way s u same ts heard = grind arith

pub asked-becomes : (r : Request) (way : List (List ℕ)) (s : OctetEndpoint) (ts : List LineTold) → heard_of ts ≡ heard_of s.told
    → Becomes (wire.happens (line.request r) (station way ts s)) way (happens (port.request r) s)
asked-becomes r way s ts heard = stirred (line.request r) way way s (happens (port.request r) s) (asked-as r s way) ts heard

pub expired-becomes : (timer : Timer) (way : List (List ℕ)) (s : OctetEndpoint) (ts : List LineTold) → heard_of ts ≡ heard_of s.told
    → Becomes (wire.happens (line.expiry timer) (station way ts s)) way (happens (port.expiry timer) s)
expired-becomes timer way s ts heard = stirred (line.expiry timer) way way s (happens (port.expiry timer) s) (expired-reply timer s way) ts heard

-- A pull, with which a frame is called for, or not.
pub due-becomes : (way : List (List ℕ)) (s : OctetEndpoint) (ts : List LineTold) → heard_of ts ≡ heard_of s.told → is_due (port_of s) ≡ true
    → Becomes (wire.happens line.next (station way ts s)) (wire.happens line.next (as_endpoint way s)).way (happens port.pull s)
due-becomes way s ts heard due =
    stirred line.next way (wire.happens line.next (as_endpoint way s)).way s (happens port.pull s)
    (ap (λ b. as_endpoint (if_meant (cond b (Some line.next) None) (as_endpoint way s)).way (happens port.pull s)) (sym due)
    ∙ pulled-as s way ∙ ap (λ b. if_meant (cond b (Some line.next) None) (as_endpoint way s)) due) ts heard

pub undue-becomes : (way : List (List ℕ)) (s : OctetEndpoint) (ts : List LineTold) → heard_of ts ≡ heard_of s.told → is_due (port_of s) ≡ false → Becomes (station way ts s) way (happens port.pull s)
undue-becomes way s ts heard due =
    unstirred way s (happens port.pull s) (ap (λ b. as_endpoint (if_meant (cond b (Some line.next) None) (as_endpoint way s)).way (happens port.pull s)) (sym due)
    ∙ pulled-as s way ∙ ap (λ b. if_meant (cond b (Some line.next) None) (as_endpoint way s)) due) ts heard

-- An octet comes, with which a frame is heard, or nothing, or what stood for a frame is dropped.
module _ (value : ℕ) (way : List (List ℕ)) (s : OctetEndpoint) (ts : List LineTold) (heard : heard_of ts ≡ heard_of s.told) where
  abbrev u : OctetEndpoint
  u = happens (port.octet value) s

  as-got : (o : Option stream.Event) → gained s.card.card.config.n201 (port_of s).received value ≡ o → as_endpoint way (happens (port.octet value) s) ≡ if_meant (option_map line.hears o) (as_endpoint way s)
  as-got o is = heard-as value s way ∙ ap (λ o. if_meant (option_map line.hears o) (as_endpoint way s)) is

  pub none-becomes : gained s.card.card.config.n201 (port_of s).received value ≡ None → Becomes (station way ts s) way (happens (port.octet value) s)
  none-becomes is = unstirred way s u (as-got None is) ts heard

  heard-keeps : (e : stream.Event) → (wire.happens (line.hears e) (as_endpoint way s)).way ≡ way
  unfolding line_answer takes_slot
  heard-keeps e = append-nil way

  pub frame-becomes : (e : stream.Event) → gained s.card.card.config.n201 (port_of s).received value ≡ Some e → Becomes (wire.happens (line.hears e) (station way ts s)) way (happens (port.octet value) s)
  frame-becomes e is =
      subst (λ w. Becomes (wire.happens (line.hears e) (station way ts s)) w u) (heard-keeps e) (stirred (line.hears e) way (wire.happens (line.hears e) (as_endpoint way s)).way s u
      (ap (λ w. as_endpoint w u) (sym (ap (λ (x : FrameEndpoint). x.way) (as-got (Some e) is))) ∙ as-got (Some e) is) ts heard)

  dropped-card : (cause : _) → (wire.happens (line.hears (stream.dropped cause)) (as_endpoint way s)).card ≡ s.card.card
  unfolding line_after takes_slot
  dropped-card cause = ap (λ ls. record s.card.card { lines = ls }) (set-get_or s.card.card.lines s.line (fresh_line s.card.card.config))

  dropped-unheard : (cause : _) → heard_of (wire.told_by (wire.answered (line.hears (stream.dropped cause)) (as_endpoint way s))) ≡ []
  unfolding line_answer takes_slot
  dropped-unheard cause = refl

  dropped-granted : (cause : _) → (wire.happens (line.hears (stream.dropped cause)) (as_endpoint way s)).granted ≡ s.granted
  unfolding line_answer takes_slot
  dropped-granted cause = append-nil s.granted

  pub dropped-becomes : (cause : _) → gained s.card.card.config.n201 (port_of s).received value ≡ Some (stream.dropped cause) → Becomes (station way ts s) way (happens (port.octet value) s)
  dropped-becomes cause is =
      let x = wire.happens (line.hears (stream.dropped cause)) (as_endpoint way s) in let same = as-got (Some (stream.dropped cause)) is in
      let card = ap (λ (x : FrameEndpoint). x.card) same ∙ dropped-card cause in let number = ap (λ (x : FrameEndpoint). x.line) same in
      let granted = ap (λ (x : FrameEndpoint). x.granted) same ∙ dropped-granted cause in
      grind (arith, append-nil, dropped-unheard, flat_map-append, for_layer_3, wire.told_by, wire.answered, as_endpoint)

-- What is heard leaves what was put on the line.
pub heard-port : (c : Config) (ranged : IsInRange c) (a : TimedEndpoint) (ran : Ran c a.at) (noise : Option ℕ) (way : List ℕ)
    → ((port_of (hears noise way a).at).items ≡ (port_of a.at).items) × ((port_of (hears noise way a).at).given ≡ (port_of a.at).given) × ((hears noise way a).at.way ≡ a.at.way)
heard-port c ranged a ran noise [] = (refl, refl, refl)
heard-port c ranged a ran noise (value ∷ more) =
    let same = port-after a.at (port.octet (unwrap_or noise value)) (within-ports c ranged a.at ran) in
    (ap (λ (p : Port). p.items) same, ap (λ (p : Port). p.given) same, heard-way (unwrap_or noise value) a.at)

-- ---- an octet of the other end comes, or noise in its place: at the stations a frame comes, or is lost, or nothing happens

module _ (service : Service) (tei : ℕ) (c d : Config) (ranged_far : IsInRange d) (size : d.n201 ≡ c.n201) (a : TimedEndpoint) (config : a.at.card.card.config ≡ c)
    (there : List (List ℕ)) (ts : List LineTold) (heard : heard_of ts ≡ heard_of a.at.told)
    (other : OctetEndpoint) (ran : Ran d other) (y : FrameEndpoint) (back : List (List ℕ)) (noise : Option ℕ) where
  abbrev before : Wire
  before = record { near = station there ts a.at; far = record y { way = back } }

  -- What comes of it.
  pub record Hears (way : List ℕ) : Type 0 where
    pub left : List (List ℕ)
    pub goes : Going c.n201 (port_of other) (drop 1 way) left
    pub ts' : List LineTold
    pub heard' : heard_of ts' ≡ heard_of (hears noise way a).at.told
    pub path : Path service tei (record { near = station there ts a.at; far = record y { way = back } }) (record { near = station there ts' (hears noise way a).at; far = record y { way = left } })

  module _ (value : ℕ) (more : List ℕ) (goes : Going c.n201 (port_of other) (value ∷ more) back)
      (clear : (e : stream.Event) → gained c.n201 (port_of a.at).received (unwrap_or noise value) ≡ Some e → IsFrame e
      → (before : List ℕ) × ((port_of other).given ≡ before ++ value ∷ more) × (gained c.n201 before value ≡ Some e)) where
    abbrev o : Option stream.Event
    o = gained c.n201 (port_of a.at).received (unwrap_or noise value)

    abbrev u_heard : OctetEndpoint
    u_heard = circuit.happens (port.octet (unwrap_or noise value)) a.at

    here : (o : Option stream.Event) → gained c.n201 (port_of a.at).received (unwrap_or noise value) ≡ o → gained a.at.card.card.config.n201 (port_of a.at).received (unwrap_or noise value) ≡ o
    here o is = ap (λ (k : Config). gained k.n201 (port_of a.at).received (unwrap_or noise value)) config ∙ is

    -- No frame is gained.
    still : (o : Option stream.Event) → gained c.n201 (port_of a.at).received (unwrap_or noise value) ≡ o → IsNoFrame o → Becomes (station there ts a.at) there u_heard
    still None is nay = none-becomes (unwrap_or noise value) there a.at ts heard (here None is)
    still (Some (stream.dropped cause)) is nay = dropped-becomes (unwrap_or noise value) there a.at ts heard cause (here (Some (stream.dropped cause)) is)
    still (Some (stream.frame octets)) is nay = absurd (nay (stream.frame octets) refl tt)
    still (Some (stream.overlong head)) is nay = absurd (nay (stream.overlong head) refl tt)

    abbrev with : FrameEndpoint → List (List ℕ) → Wire
    with x way = record { near = x; far = record y { way = way } }

    pub hears-one : Hears (value ∷ more)
    hears-one = go (comes c.n201 d ranged_far size other ran back value more goes (gained c.n201 (port_of a.at).received (unwrap_or noise value)) clear)
      where
        go : (Comes c.n201 d ranged_far size other ran back value more goes (gained c.n201 (port_of a.at).received (unwrap_or noise value)) clear) → Hears (value ∷ more)
        go (inl (none, goes)) =
            let b = still o refl none in
            record { left = back; goes = goes; ts' = b.ts; heard' = b.heard; path = path-none service tei before (with (station there b.ts u_heard) back) (ap (λ s. with s back) b.is) }
        go (inr (first, left, are, goes, inl none)) =
            let b = still o refl none in
            record {
              left = left;
              goes = goes;
              ts' = b.ts;
              heard' = b.heard;
              path = path-turned service tei (turned before) (turned (with (station there b.ts u_heard) left))
                  (path-one service tei loses tt (turned before) (turned (with (station there b.ts u_heard) left)) tt (λ i. record { near = record y { way = drop 1 (are i) }; far = b.is i }));
            }
        go (inr (first, left, are, goes, inr (gains, whole))) =
            let e = stream.frame first in let b = frame-becomes (unwrap_or noise value) there a.at ts heard e (here (Some e) gains) in
            let whole_here : came a.at.card.card.config.n201 first ≡ stream.frame first = ap (λ (k : Config). came k.n201 first) config ∙ whole in
            record {
              left = left;
              goes = goes;
              ts' = b.ts;
              heard' = b.heard;
              path = path-one service tei receives tt before (with (station there b.ts u_heard) left) tt
                  ((λ i. record { near = wire.with_first_of (are i) (station there ts a.at); far = record y { way = drop 1 (are i) } })
                  ∙ ap (λ s. with s left) (ap (λ e. wire.happens (line.hears e) (station there ts a.at)) whole_here ∙ b.is));
            }

  pub hears-so : (way : List ℕ) (n : ℕ) → length way ≡ n + 1 → (goes : Going c.n201 (port_of other) way back)
      → ((value : ℕ) (more : List ℕ) (e : stream.Event) → way ≡ value ∷ more → gained c.n201 (port_of a.at).received (unwrap_or noise value) ≡ Some e → IsFrame e
      → (before : List ℕ) × ((port_of other).given ≡ before ++ way) × (gained c.n201 before value ≡ Some e))
      → Hears way
  hears-so [] n long goes clear = absurd (omega (arith, long))
  hears-so (value ∷ more) n long goes clear = hears-one value more goes (λ e gains so. clear value more e refl gains so)
