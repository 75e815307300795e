-- One port of a card of octets, taken out of its ports and put back; and what leads such a card on.
use Rattle.lapd_card.proofs.Vocabulary.{◌≡◌, ◌≢◌, ℕ, ◌<◌, ◌==◌, Bool, true, false, List, length, refl, sym, ap, subst, ◌∙◌, arith, true≢false, eqb-true, eq-eqb, get_or, set, length-set, get_or-set_same, get_or-set_other, set-set, slice_get, slice_get-get_or, Some, IfSome, Config, Store, BareReport, Card, Port, PortStands, latest_frame, told_if, OctetCard, port_at}
use Rattle.lapd_card.proofs.Vocabulary.{PortsStand, told_at, told_of, told_if_at, told_beside, delivered_in, option_map_or, nothing, Option, None}
use Rattle.lapd_link_steps.specs.Reports.{has_contents}
use Rattle.model_card.specs.ports.Card.{after, said}
use Rattle.model_card.specs.ports.Event.{Event, at}
use Rattle.model_card.specs.ports.Port as port
use Rattle.model_card.specs.ports.Port.{fresh_port}
use Rattle.model_card.proofs.OfPorts.Reaching.{reached_sound}
pub use Rattle.model_card.proofs.OfPorts.Reaching.{reached_after as reached-after}
use Rattle.lapd_card.specs.Called.{OctetCalled}
use Rattle.lapd_card.specs.Card.{Held, line_count}
use Rattle.lapd_card.specs.FrameCard as frame_card
use Rattle.lapd_card.specs.FrameStands.{FrameStands}
use Rattle.lapd_card.specs.Stands.{OctetCardStands, HasPast}

-- ---- the ports

-- a port that stands for another stands for it in its place
pub ports_set : {n201 : ℕ} {ports : List Port} {ps : List port.Port} (i : ℕ) {y : Port} {p : port.Port} → PortsStand n201 ports ps → i < length ports → PortStands n201 y p
    → PortsStand n201 (set ports i y) (set ps i p)
ports_set {n201} {ports} {ps} i {y} {p} st within one = record {
  count = omega (arith, st.count, length-set ports i y, length-set ps i p);
  each = λ number other few. go number other (omega (arith, few, length-set ports i y)) (number == i) refl;
}
  where
    go : (number : ℕ) (other : Port) → number < length ports → (b : Bool) → (number == i) ≡ b → PortStands n201 (get_or (set ports i y) number other) (get_or (set ps i p) number fresh_port)
    go number other few false apart =
        let differs : number ≢ i = λ same. true≢false (sym (eq-eqb number i same) ∙ apart) in
        subst (λ x. PortStands n201 x (get_or (set ps i p) number fresh_port)) (sym (get_or-set_other ports i number y other differs))
        (subst (PortStands n201 (get_or ports number other)) (sym (get_or-set_other ps i number p fresh_port differs)) (st.each number other few))
    go number other few true same =
        subst (λ n. PortStands n201 (get_or (set ports i y) n other) (get_or (set ps i p) n fresh_port)) (sym (eqb-true number i same))
        (subst (λ x. PortStands n201 x (get_or (set ps i p) i fresh_port)) (sym (get_or-set_same ports i y other within))
        (subst (PortStands n201 y) (sym (get_or-set_same ps i p fresh_port (omega (arith, within, st.count)))) one))

pub with_config : {c d : Config} {ports : List Port} {ps : List port.Port} → c ≡ d → PortsStand d.n201 ports ps → PortsStand c.n201 ports ps
with_config {ports = ports} {ps} same st = subst (λ c. PortsStand c.n201 ports ps) (sym same) st

-- what an outcome tells of a port is told at its place
pub told_there : (ports : List Port) (i : ℕ) (x : Port) (outcome : BareReport) → i < length ports → x ≡ get_or ports i x → told_at ports i outcome ≡ told_of outcome x
told_there ports i x outcome within is = ap (λ there. option_map_or (told_of outcome) there nothing) (slice_get-get_or ports i x within ∙ ap Some (sym is))

-- and where nothing was delivered, no contents are
pub told_bare : (ports : List Port) (i : ℕ) (x : Port) (outcome : BareReport) → i < length ports → x ≡ get_or ports i x → has_contents outcome ≡ false
    → told_beside None outcome ≡ told_at ports i outcome
told_bare ports i x outcome within is none = ap (λ contents. told_beside contents outcome) (not_lent (latest_frame x) outcome none) ∙ sym (told_there ports i x outcome within is)
  where
    not_lent : (octets : List ℕ) (outcome : BareReport) → has_contents outcome ≡ false → None ≡ delivered_in octets outcome
    not_lent octets outcome none = grind arith

pub told_if_there : (ports : List Port) (i : ℕ) (y : Port) (outcome : Option BareReport) → i < length ports → told_if_at (set ports i y) i outcome ≡ told_if (latest_frame y) outcome
told_if_there ports i y outcome within = grind (arith, told_there, length-set, get_or-set_same)

-- what holds of the port at a place
pub at_place : (ports : List Port) (i : ℕ) (x : Port) (P : Port → Type 0) → i < length ports → x ≡ get_or ports i x → IfSome (slice_get ports i) P → P x
at_place ports i x P within is holds = subst P (sym is) (subst (λ o. IfSome o P) (slice_get-get_or ports i x within) holds)

pub to_place : (ports : List Port) (i : ℕ) (x : Port) (P : Port → Type 0) → i < length ports → x ≡ get_or ports i x → P x → IfSome (slice_get ports i) P
to_place ports i x P within is holds = subst (λ o. IfSome o P) (sym (slice_get-get_or ports i x within)) (subst P is holds)

-- the port that was put there
pub port_put : (ports : List Port) (i : ℕ) (x y : Port) → i < length ports → y ≡ get_or (set ports i x) i y → y ≡ x
port_put ports i x y within is = is ∙ get_or-set_same ports i x y within

-- ---- a card of octets

module _ {S : Type 0} (store : S → Store) where
  -- it has as many ports as lines
  pub ports-all : (card : Held S) → HasPast store card → length card.ports ≡ line_count card
  ports-all card (m, s) = s.ports.count ∙ (reached_sound m s.reached).count ∙ ap (λ c. c.lines) s.frames.config

  pub port-there : (card self : Held S) (i n : ℕ) → HasPast store card → card ≡ self → i < line_count self → n ≡ length card.ports → i < n
  port-there card self i n past same within is = subst (λ n. i < n) (sym (is ∙ ports-all card past)) (subst (λ c. i < line_count c) (sym same) within)

  pub port-in : {card self : Held S} {i : ℕ} → HasPast store card → card ≡ self → i < line_count self → i < length card.ports
  port-in {card} {self} {i} past same within = port-there card self i (length card.ports) past same within refl

  -- A call at a port of a card, as it finds them.
  pub record Found (card : Held S) (i : ℕ) (x : Port) : Type 0 where
    pub past : HasPast store card
    pub within : i < line_count card
    pub is : x ≡ get_or card.ports i x

  at_lines : {card : Held S} {i : ℕ} (m : OctetCard) → OctetCardStands store card m → i < line_count card → i < m.card.config.lines
  at_lines {i = i} m s within = subst (λ c. i < c.lines) (sym s.frames.config) within

  -- it stands for that of the machine
  pub port_holds : {card : Held S} {i : ℕ} {x : Port} → Found card i x → (m : OctetCard) → OctetCardStands store card m → PortStands m.card.config.n201 x (port_at i m)
  port_holds {card} {i} {x} call m s =
      subst (λ c. PortStands c.n201 x (port_at i m)) (sym s.frames.config)
      (subst (λ y. PortStands card.frames.config.n201 y (port_at i m)) (sym call.is)
      (s.ports.each i x (subst (λ n. i < n) (sym (ports-all card call.past)) call.within)))

  pub room_at : {card : Held S} {i : ℕ} {x : Port} → Found card i x → x.framer.room ≡ card.frames.config.n201
  room_at call =
      let (m, s) = call.past in
      (port_holds call m s).room ∙ ap (λ c. c.n201) s.frames.config

  -- where the card of frames and one port have gone on, the card has
  pub gone_on : {card : Held S} {i : ℕ} (e : port.Event) {f : frame_card.Held S} {y : Port} → i < line_count card → f.config ≡ card.frames.config
      → (m : OctetCard) → OctetCardStands store card m → FrameStands store f (after (at i e) m).card → PortStands m.card.config.n201 y (port.after e (said (at i e) m) (port_at i m))
      → OctetCardStands store (record { frames = f; ports = set card.ports i y }) (after (at i e) m)
  unfolding after
  gone_on {card} {i} e {f} {y} within config m s frames one = record {
    frames = frames;
    ports = with_config config (ports_set i s.ports (subst (λ n. i < n) (sym (ports-all card (m, s))) within) (subst (λ c. PortStands c.n201 y (port.after e (said (at i e) m) (port_at i m))) s.frames.config one));
    reached = reached-after m (at i e) s.reached (at_lines m s within);
  }

  -- an event keeps a past, and what is said of a card is said of its value
  pub past_after : {e : Event} {r : port.Answer} {card new : Held S} → OctetCalled store e r card new → HasPast store card → HasPast store new
  past_after {e} called (m, s) = (after e m, called.leads.stands m s)

  pub seen : {e : Event} {r : port.Answer} {card self new : Held S} → card ≡ self → OctetCalled store e r card new → OctetCalled store e r self new
  seen {e} {r} {new = new} same called = subst (λ c. OctetCalled store e r c new) same called

  -- an answer by what it says
  pub as_told : {e : Event} {r says : port.Answer} {card new : Held S} → r ≡ says → OctetCalled store e says card new → OctetCalled store e r card new
  as_told {e} {card = card} {new} is called = subst (λ a. OctetCalled store e a card new) (sym is) called

  pub stood : {card self : Held S} → card ≡ self → (m : OctetCard) → OctetCardStands store self m → OctetCardStands store card m
  stood same m s = subst (λ c. OctetCardStands store c m) (sym same) s

  pub put_twice : {e : Event} {r : port.Answer} {card : Held S} {f : frame_card.Held S} (ports : List Port) (i : ℕ) (x y : Port) → OctetCalled store e r card (record { frames = f; ports = set ports i y })
      → OctetCalled store e r card (record { frames = f; ports = set (set ports i x) i y })
  put_twice {e} {r} {card} {f} ports i x y called = subst (λ ps. OctetCalled store e r card (record { frames = f; ports = ps })) (sym (set-set ports i x y)) called

  -- what holds of the card of frames inside
  pub inside : {card self : Held S} → card ≡ self → {P : Card → Type 0} → ((m : Card) → FrameStands store card.frames m → P m) → (m : OctetCard) → OctetCardStands store self m → P m.card
  inside same holds m s = holds m.card (stood same m s).frames
