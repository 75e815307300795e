-- What a run keeps at one end of a circuit.
use Rattle.laws_order.proofs.Vocabulary.{◌≡◌, ℕ, ◌<◌, ◌≤◌, cond, List, [], ◌∷◌, ◌++◌, length, append_assoc, Option, None, Some, option_map, option_to_list, refl, sym, ap, ◌∙◌, subst, arith, append-nil, eq-eqb, All, All-append, All-cons, All-head, All-nil, AreOctets, Config, NextFrame, OctetCard, port_at, gained, left_of, longest_text, IsAtLine, AreAtLines, IsSoundPort, meant_at_lines}
use Rattle.laws_order.proofs.Vocabulary.{refined_card, on_its_way, heard_frames_are_octets, IsOnItsWay, pulls_are_takes, port_sound, config_stays, moments-append, all-right, contents_given, HasOctets, GivesOctets, seen, trace, trace_of, frames_begun, frames-are-octets, IsInRange, StreamEvent, port_request, PortEvent, port_octet, port_meant, card_answer, IsReached, HearsOctets, IsSoundOctetCard}
use Rattle.model_card.proofs.OfPorts.Reaching.{reached_after_all, reached_fresh, reached_sound}
use Rattle.std.proofs.lemmas.Grind.{flat_map-append}
use Rattle.model_line.specs.Event as line
use Rattle.model_card.specs.Card as cards
use Rattle.model_card.specs.Event as frames
use Rattle.model_card.specs.Run as runs
unfoldable use Rattle.model_card.specs.Run.{moments as frame_moments}
use Rattle.model_card.specs.ports.Card.{fresh}
unfoldable use Rattle.model_card.specs.ports.Card.{after, meant}
use Rattle.model_card.specs.ports.Event.{Event, at}
unfoldable use Rattle.model_card.specs.ports.Run.{after_all, meant_all}
use Rattle.laws_trace.specs.Trace as traces
use Rattle.laws_order.specs.circuit.Circuit.{Endpoint as OctetEndpoint, port_of, happens}

-- ---- one event more

after-more : (m : OctetCard) (events : List Event) (e : Event) → after_all m (events ++ e ∷ []) ≡ after e (after_all m events)
unfolding after_all
after-more m [] e = refl
after-more m (x ∷ events) e = after-more (after x m) events e

meant-more : (m : OctetCard) (events : List Event) (e : Event) → meant_all m (events ++ e ∷ []) ≡ meant_all m events ++ option_to_list (meant e (after_all m events))
unfolding after_all meant_all
meant-more m [] e = append-nil (option_to_list (meant e m))
meant-more m (x ∷ events) e =
    ap (λ l. option_to_list (meant x m) ++ l) (meant-more (after x m) events e)
    ∙ sym (append_assoc (option_to_list (meant x m)) (meant_all (after x m) events) (option_to_list (meant e (after_all (after x m) events))))

trace-more : (c : Config) (fs gs : List frames.Event) (number : ℕ)
    → trace_of c (fs ++ gs) number ≡ trace_of c fs number ++ trace number (runs.moments (runs.after_all (cards.fresh c) fs) gs)
trace-more c fs gs number = grind (arith, moments-append, flat_map-append)

-- ---- what is seen are octets

-- What layer 3 asks to send are octets; and what a line hears, too.
abbrev pub AsksOctets : PortEvent → Type 0
AsksOctets (port_request r) = AreOctets (contents_given r)
AsksOctets other = Unit {0}

abbrev IsExact : line.Event → Type 0
IsExact (line.hears e) = HasOctets e
IsExact (line.request r) = AreOctets (contents_given r)
IsExact other = Unit {0}

heard-exact : (number : ℕ) (o : Option StreamEvent) → All (λ (e : frames.Event). HearsOctets e.what) (option_to_list (option_map (frames.at number) (option_map line.hears o)) ++ [])
    → All IsExact (option_to_list (option_map line.hears o))
heard-exact number None h = All-nil IsExact
heard-exact number (Some e) h =
    All-cons IsExact (line.hears e) [] (All-head (λ (e : frames.Event). HearsOctets e.what) (frames.at number (line.hears e)) [] h) (All-nil IsExact)

meaning-exact : (m : OctetCard) (number : ℕ) (what : PortEvent) → AsksOctets what → All IsExact (option_to_list (port_meant m.card.config.n201 what (port_at number m)))
unfolding meant meant_all
meaning-exact m number (port_octet value) h =
    heard-exact number (gained m.card.config.n201 (port_at number m).received value) (heard_frames_are_octets m (at number (port_octet value) ∷ []))
meaning-exact m number what h = grind arith

moment-exact : (card : cards.Card) (number : ℕ) (o : Option line.Event) → All IsExact (option_to_list o)
    → All GivesOctets (trace number (runs.moments card (option_to_list (option_map (frames.at number) o))))
unfolding frame_moments
moment-exact card number o h = grind (arith, append-nil)

-- ---- an end that came about by events at lines of a card that had just begun, and octets alone were asked to be sent there

pub record Ran (c : Config) (s : OctetEndpoint) : Type 0 where
  pub within : s.line < c.lines
  pub events : List Event
  pub at_lines : AreAtLines (fresh c) events
  pub is : s.card ≡ after_all (fresh c) events
  pub exact : All GivesOctets (trace_of c (meant_all (fresh c) events) s.line)

pub goes-on : (c : Config) (s : OctetEndpoint) (what : PortEvent) → AsksOctets what → Ran c s → Ran c (happens what s)
unfolding meant
goes-on c s what asks h =
    let m = after_all (fresh c) h.events in
    let e = at s.line what in
    let fs = meant_all (fresh c) h.events in
    let card : m.card ≡ runs.after_all (cards.fresh c) fs = refined_card (fresh c) h.events in
    let new : All GivesOctets (trace s.line (runs.moments (runs.after_all (cards.fresh c) fs) (option_to_list (meant e m)))) =
    subst (λ x. All GivesOctets (trace s.line (runs.moments x (option_to_list (meant e m))))) card
    (moment-exact m.card s.line (port_meant m.card.config.n201 what (port_at s.line m)) (meaning-exact m s.line what asks)) in
    record {
      within = h.within;
      events = h.events ++ e ∷ [];
      at_lines = All-append (IsAtLine (fresh c)) h.events (e ∷ []) h.at_lines (All-cons (IsAtLine (fresh c)) e [] h.within (All-nil (IsAtLine (fresh c))));
      is = ap (after e) h.is ∙ sym (after-more (fresh c) h.events e);
      exact =
          subst (λ l. All GivesOctets (trace_of c l s.line)) (sym (meant-more (fresh c) h.events e))
          (subst (All GivesOctets) (sym (trace-more c fs (option_to_list (meant e m)) s.line))
          (All-append GivesOctets (trace_of c fs s.line) (trace s.line (runs.moments (runs.after_all (cards.fresh c) fs) (option_to_list (meant e m)))) h.exact new));
    }

module _ (c : Config) (ranged : IsInRange c) (s : OctetEndpoint) (h : Ran c s) where
  pub config : s.card.card.config ≡ c
  config = ap (λ (m : OctetCard). m.card.config) h.is ∙ config_stays (fresh c) h.events

  reached : IsReached s.card
  reached = subst IsReached (sym h.is) (reached_after_all (fresh c) h.events (reached_fresh c ranged) h.at_lines)

  pub sound : IsSoundOctetCard s.card
  sound = reached_sound s.card reached

  pub within-ports : s.line < length s.card.ports
  within-ports = omega (arith, h.within, sound.count, ap (λ (x : Config). x.lines) config)

  pub sound-port : IsSoundPort c.n201 (port_of s)
  sound-port = grind (arith, config, port_sound, sound)

  pub on-line : IsOnItsWay (port_of s)
  on-line = on_its_way s.card s.line reached (subst (λ (x : Config). s.line < x.lines) (sym config) h.within)

  pub few-left : length (left_of (port_of s)) ≤ longest_text c.n201
  few-left = grind (arith, length, config, pulls_are_takes, reached)

  -- the next frame consists of octets
  pub gives-octets : (f : NextFrame) → card_answer (frames.at s.line line.next) s.card.card ≡ line.gave (Some f) → AreOctets f.octets
  unfolding frame_moments
  gives-octets f gives =
      let number = s.line in
      let fs = meant_all (fresh c) h.events in
      let call = frames.at number line.next in
      let card : runs.after_all (cards.fresh c) fs ≡ s.card.card = sym (refined_card (fresh c) h.events) ∙ ap (λ (m : OctetCard). m.card) (sym h.is) in
      let exact : All GivesOctets (trace number (runs.moments (runs.after_all (cards.fresh c) fs) (call ∷ []))) =
      moment-exact (runs.after_all (cards.fresh c) fs) number (Some line.next) (All-cons IsExact line.next [] tt (All-nil IsExact)) in
      let all : All AreOctets (frames_begun (trace_of c (fs ++ call ∷ []) number)) =
      frames-are-octets c (fs ++ call ∷ []) number ranged
      (All-append (runs.IsAtLine (cards.fresh c)) fs (call ∷ []) (meant_at_lines (fresh c) h.events h.at_lines)
      (All-cons (runs.IsAtLine (cards.fresh c)) call [] h.within (All-nil (runs.IsAtLine (cards.fresh c)))))
      h.within
      (subst (All GivesOctets) (sym (trace-more c fs (call ∷ []) number))
      (All-append GivesOctets (trace_of c fs number) (trace number (runs.moments (runs.after_all (cards.fresh c) fs) (call ∷ []))) h.exact exact)) in
      let last : All AreOctets (frames_begun (trace number (runs.moments s.card.card (call ∷ [])))) =
      subst (λ (x : cards.Card). All AreOctets (frames_begun (trace number (runs.moments x (call ∷ []))))) card
      (all-right AreOctets (frames_begun (trace_of c fs number)) (frames_begun (trace number (runs.moments (runs.after_all (cards.fresh c) fs) (call ∷ []))))
      (subst (All AreOctets) (ap frames_begun (trace-more c fs (call ∷ []) number)
      ∙ flat_map-append traces.frame_begun (trace_of c fs number) (trace number (runs.moments (runs.after_all (cards.fresh c) fs) (call ∷ [])))) all)) in
      let seen-then : All AreOctets (frames_begun (seen line.next (card_answer call s.card.card) ++ [])) =
      subst (λ b. All AreOctets (frames_begun (cond b (seen line.next (card_answer call s.card.card)) [] ++ []))) (eq-eqb number number refl) last in
      All-head AreOctets f.octets [] (subst (λ a. All AreOctets (frames_begun (seen line.next a ++ []))) gives seen-then)
