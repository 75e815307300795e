-- An event at a card of octets: what it means to the card of frames, and what becomes of its port.
use Rattle.lapd_card.proofs.Vocabulary.{arith, ◌≡◌, ◌⊎◌, ℕ, ◌<◌, Bool, true, false, List, [], ◌∷◌, ◌++◌, length, refl, sym, ap, subst, ◌∙◌, cond, false≢true, lt-ltb, set, set-get_or, Option, None, Some, IsSome, IfSome, is_some, option_map, option_map_or, option_to_list, Result, Ok, Err, All-cons, All-nil, All-head, Refusal, ShortList, Order, Store, Counters, all_counted, moment_counted, moment_of}
use Rattle.lapd_card.proofs.Vocabulary.{Card, line_at, may_send, frames_by_event, reached-sound, Timer, Request, BareReport, Port, PortStands, told_if_at, told_in, told_if, latest_in, with_frame, orders_taken, IsLoaded, IsSaid, Pulls, OctetCard, port_at, counters_in}
use Rattle.std.specs.Result.{IsErr, IsErrAnd}
use Rattle.lapd_bits.specs.Ended.{without_octets}
use Rattle.lapd_bits.specs.declared.ended.Ended.{Ended}
use Rattle.lapd_bits.specs.declared.ended.Ended.TheVariants as ended
use Rattle.model_bits.specs.Stream as stream
use Rattle.model_line.specs.Event as line
use Rattle.model_line.specs.Event.{given_in}
unfoldable use Rattle.model_line.specs.Machine.{after as line_after, answer as line_answer, takes_slot}
use Rattle.model_line.specs.Taken.{Taken, taken, next_of}
use Rattle.model_card.specs.ByEvent as by_event
use Rattle.model_card.specs.Event as frames
use Rattle.model_card.specs.Machine as machine
unfoldable use Rattle.model_card.specs.Run.{moments as frame_moments}
use Rattle.model_card.specs.ports.Card.{after, answer, meant, said, answer_to, card_after}
use Rattle.model_card.specs.ports.Codec.{frame_moment}
use Rattle.model_card.specs.ports.Drops as drops
use Rattle.model_card.specs.ports.Event.{Event, at}
use Rattle.model_card.specs.ports.Port as port
use Rattle.model_card.specs.ports.Port.{gained, is_due, frame_begun, answer_of}
use Rattle.model_card.specs.ports.Reached.{IsReached}
unfoldable use Rattle.model_card.specs.ports.Run.{meant_all, moments}
use Rattle.model_card.proofs.OfPorts.Codec.{refines}
use Rattle.model_card.proofs.OfPorts.Drops.{drops_are_without_effect}
use Rattle.model_card.proofs.OfPorts.Reaching.{frames_reached, reached_sound}
use Rattle.lapd_line.specs.Reports.{octets_of, pulled_of}
use Rattle.lapd_line.specs.declared.pulled.Pulled.{Pulled}
use Rattle.lapd_line.proofs.PortSteps.{due_is, port_text}
use Rattle.lapd_card.specs.Called.{Called, OctetCalled}
use Rattle.lapd_card.specs.Card.{Held, line_count}
use Rattle.lapd_card.specs.Drive.{CostsAs, IsPriced}
use Rattle.lapd_card.specs.FrameCard as frame_card
use Rattle.lapd_card.specs.FrameStands as frame
use Rattle.lapd_card.specs.FrameStands.{FrameStands}
use Rattle.lapd_card.specs.Stands.{OctetCardStands, Leads}
use Rattle.lapd_card.proofs.OnePort.{Found, port_holds, ports-all, told_if_there, gone_on, with_config, reached-after}

-- ---- what an event costs

priced_as : (m : OctetCard) (e : Event) (o : Option frames.Event) → meant e m ≡ o → by_event.ArePriced m.card (option_to_list o ++ []) → CostsAs e m o
unfolding after frame_moments
priced_as m e None is all = ap may_send (ap (λ o. option_map_or (card_after m.card) o m.card) is)
priced_as m e (Some f) is all = All-head by_event.IsPriced (moment_of m.card f) [] all

pub priced : (m : OctetCard) (e : Event) → IsReached m → e.line < m.card.config.lines → IsPriced e m
unfolding meant_all
priced m e r within =
    let at_lines = (refines m (e ∷ [])).at_lines (All-cons (λ (x : Event). x.line < m.card.config.lines) e [] within (All-nil (λ (x : Event). x.line < m.card.config.lines))) in
    priced_as m e (meant e m) refl (frames_by_event.in_runs m.card (option_to_list (meant e m) ++ []) (reached-sound m.card (frames_reached m r)) at_lines)

-- where the answer to an octet names a cause, what may be sent stays
pub dropped : (m : OctetCard) (number value : ℕ) (t : line.LineTold) → IsReached m → number < m.card.config.lines → port.told t ≡ answer (at number (port.octet value)) m → IsSome t.cause
    → may_send (after (at number (port.octet value)) m).card ≡ may_send m.card
unfolding moments
dropped m number value t r within is some =
    let e = at number (port.octet value) in
    let at_line = All-cons (λ (x : Event). x.line < m.card.config.lines) e [] within (All-nil (λ (x : Event). x.line < m.card.config.lines)) in
    All-head drops.IsDropWithoutCost (record { card = m; event = e; answer = answer e m }) [] (drops_are_without_effect.cost m (e ∷ []) (reached_sound m r) at_line)
    value refl (subst (λ a. IsSome (drops.cause_in a)) is some)

-- ---- what a card of frames does with what it is told

-- What is heard, if anything is, leads it on, and this is told of it; else it stays, and nothing is told.
abbrev pub Hears : {S : Type 0} → (S → Store) → ℕ → Option stream.Event → Option BareReport → frame_card.Held S → frame_card.Held S → Type 0
Hears store i None bare old new = (bare ≡ None) × (new ≡ old)
Hears store i (Some e) bare old new = Called store (frames.at i (line.hears e)) (line.told (told_if (octets_of (Some e)) bare)) old new

abbrev heard_at : ℕ → Option stream.Event → Option frames.Event
heard_at i h = option_map (frames.at i) (option_map line.hears h)

-- as it does where something is heard
pub if_hears : {S : Type 0} (store : S → Store) (i : ℕ) (bare : BareReport) (old new : frame_card.Held S) (h : Option stream.Event) → IsSome h
    → IfSome h (λ e. Called store (frames.at i (line.hears e)) (line.told (told_in (octets_of h) bare)) old new) → Hears store i h (Some bare) old new
if_hears store i bare old new None some called = absurd (cc)
if_hears store i bare old new (Some e) some called = called

-- a frame, overlong or not, is something
pub ended_something : (h : Option stream.Event) {e : Ended} → e ≡ without_octets h → ((n : ℕ) × (e ≡ ended.Frame n)) ⊎ (e ≡ ended.Overlong) → IsSome h
ended_something h told is = grind arith

module _ {S : Type 0} (store : S → Store) {card : Held S} {i : ℕ} {x : Port} (call : Found store card i x) where
  -- ---- an octet

  module _ {value : ℕ} {y : Port}
      (brings : (n201 : ℕ) (p : port.Port) → PortStands n201 x p → gained n201 p.received value ≡ latest_in y)
      (goes_on : (n201 : ℕ) (p : port.Port) → PortStands n201 x p → PortStands n201 y (record p { received = p.received ++ value ∷ [] })) where
    stays : (f : frame_card.Held S) (h : Option stream.Event) (bare : Option BareReport) → Hears store i h bare card.frames f → f.config ≡ card.frames.config
    stays f None bare is = ap (λ k. k.config) is.1
    stays f (Some e) bare called = called.leads.config

    frames_stand : (f : frame_card.Held S) (h : Option stream.Event) (bare : Option BareReport) → Hears store i h bare card.frames f → (m : OctetCard) → OctetCardStands store card m
        → FrameStands store f (option_map_or (card_after m.card) (heard_at i h) m.card)
    frames_stand f None bare is m s = subst (λ k. FrameStands store k m.card) (sym is.1) s.frames
    frames_stand f (Some e) bare called m s = called.leads.stands m.card s.frames

    frames_count : (f : frame_card.Held S) (h : Option stream.Event) (bare : Option BareReport) → Hears store i h bare card.frames f → (m : OctetCard) → OctetCardStands store card m
        → counters_in f.lines ≡ all_counted (counters_in card.frames.lines) (option_to_list (option_map (frame_moment m) (heard_at i h)))
    frames_count f None bare is m s = ap (λ k. counters_in k.lines) is.1
    frames_count f (Some e) bare called m s = called.leads.counted m.card s.frames

    tells : (f : frame_card.Held S) (h : Option stream.Event) (bare : Option BareReport) → Hears store i h bare card.frames f → (m : OctetCard) → OctetCardStands store card m
        → port.told (told_if (octets_of h) bare) ≡ option_map_or answer_of (option_map (answer_to m.card) (heard_at i h)) (port.told line.nothing)
    tells f None bare is m s = ap (λ b. port.told (told_if [] b)) is.0
    tells f (Some e) bare called m s = ap answer_of (called.answers m.card s.frames)

    pub octet_called : (bare : Option BareReport) (f : frame_card.Held S) → Hears store i (latest_in y) bare card.frames f
        → OctetCalled store (at i (port.octet value)) (port.told (told_if_at (set card.ports i y) i bare)) card (record { frames = f; ports = set card.ports i y })
    unfolding after answer meant
    octet_called bare f hears = record {
      answers = λ m s.
          let is = brings m.card.config.n201 (port_at i m) (port_holds store call m s) in
          ap port.told (told_if_there card.ports i y bare (subst (λ n. i < n) (sym (ports-all store card call.past)) call.within))
          ∙ tells f (latest_in y) bare hears m s
          ∙ ap (λ h. option_map_or answer_of (option_map (answer_to m.card) (heard_at i h)) (port.told line.nothing)) (sym is);
      unchanged = λ why is. absurd (cc);
      leads = record {
        config = stays f (latest_in y) bare hears;
        stands = λ m s.
            let there = port_holds store call m s in
            let is = brings m.card.config.n201 (port_at i m) there in
            gone_on store (port.octet value) call.within (stays f (latest_in y) bare hears) m s
            (subst (λ h. FrameStands store f (option_map_or (card_after m.card) (heard_at i h) m.card)) (sym is) (frames_stand f (latest_in y) bare hears m s))
            (goes_on m.card.config.n201 (port_at i m) there);
        counted = λ m s.
            let is = brings m.card.config.n201 (port_at i m) (port_holds store call m s) in
            frames_count f (latest_in y) bare hears m s
            ∙ ap (λ h. all_counted (counters_in card.frames.lines) (option_to_list (option_map (frame_moment m) (heard_at i h)))) (sym is);
      };
    }

-- ---- what is passed on

-- An event of octets that means itself to the card of frames.
pub record IsPassedOn (e : port.Event) (f : line.Event) : Type 0 where
  pub means : (n201 : ℕ) (p : port.Port) → port.meant n201 e p ≡ Some f
  pub leaves : (says : Option line.Answer) (p : port.Port) → port.after e says p ≡ p
  pub answers : (says : Option line.Answer) (p : port.Port) → port.answer e says p ≡ option_map_or answer_of says (port.told line.nothing)

pub expiry_passes : (timer : Timer) → IsPassedOn (port.expiry timer) (line.expiry timer)
expiry_passes timer = record { means = λ n201 p. refl; leaves = λ says p. refl; answers = λ says p. refl }

pub request_passes : (r : Request) → IsPassedOn (port.request r) (line.request r)
request_passes r = record { means = λ n201 p. refl; leaves = λ says p. refl; answers = λ says p. refl }

refused_in : (r : line.Answer) (why : Refusal) → answer_of r ≡ port.refused why → r ≡ line.refused why
refused_in (line.told t) why is = absurd (cc)
refused_in (line.refused x) why is = grind arith
refused_in (line.gave next) why is = absurd (cc)

module _ {e : port.Event} {f : line.Event} (on : IsPassedOn e f) where
  pub meant_is : (i : ℕ) (m : OctetCard) → meant (at i e) m ≡ Some (frames.at i f)
  unfolding meant
  meant_is i m = ap (option_map (frames.at i)) (on.means m.card.config.n201 (port_at i m))

  pub passed_after : (i : ℕ) (m : OctetCard) → after (at i e) m ≡ record { card = machine.after (frames.at i f) m.card; ports = m.ports }
  unfolding after
  passed_after i m = grind (arith, meant_is, set-get_or)

  pub passed_answer : (i : ℕ) (m : OctetCard) → answer (at i e) m ≡ answer_of (machine.answer (frames.at i f) m.card)
  unfolding answer
  passed_answer i m = grind (arith, meant_is)

  pub passed_leads : {S : Type 0} (store : S → Store) {card : Held S} {i : ℕ} {g : frame_card.Held S} → i < line_count card
      → frame.Leads store (frames.at i f) card.frames g → Leads store (at i e) card (record { frames = g; ports = card.ports })
  passed_leads store {card} {i} {g} within leads = record {
    config = leads.config;
    stands = λ m s.
        let is = passed_after i m in
        subst (OctetCardStands store (record { frames = g; ports = card.ports })) (sym is)
        (record {
          frames = leads.stands m.card s.frames;
          ports = with_config leads.config s.ports;
          reached = subst IsReached is (reached-after m (at i e) s.reached (subst (λ c. i < c.lines) (sym s.frames.config) within));
        });
    counted = λ m s.
        leads.counted m.card s.frames
        ∙ ap (λ o. all_counted (counters_in card.frames.lines) (option_to_list (option_map (frame_moment m) o))) (sym (meant_is i m));
  }

  pub passed_called : {S : Type 0} (store : S → Store) {card : Held S} {i : ℕ} {r : line.Answer} {g : frame_card.Held S} → i < line_count card
      → Called store (frames.at i f) r card.frames g → OctetCalled store (at i e) (answer_of r) card (record { frames = g; ports = card.ports })
  passed_called store {card} {i} {r} within called = record {
    answers = λ m s. ap answer_of (called.answers m.card s.frames) ∙ sym (passed_answer i m);
    unchanged = λ why is. ap (λ (g : frame_card.Held _). record { frames = g; ports = card.ports }) (called.unchanged why (refused_in r why is));
    leads = passed_leads store within called.leads;
  }

-- what is refused is answered so
pub err_is : {A E : Type 0} (r : Result A E) (e : E) → IsErr r × IsErrAnd r (λ x. x ≡ e) → r ≡ Err e
err_is (Ok a) e h = absurd (false≢true h.0)
err_is (Err x) e h = ap (λ y. Err y) h.1

-- ---- a pull

-- what is asked of the card of frames
abbrev asked : Bool → Option line.Event
asked due = cond due (Some line.next) None

abbrev called : ℕ → Bool → Option frames.Event
called i due = option_map (frames.at i) (asked due)

said_if_due : (card : Card) (i : ℕ) (due : Bool) → is_some (option_map (answer_to card) (called i due)) ≡ due
said_if_due card i due = grind arith

next_answer : (card : Card) (i : ℕ) → machine.answer (frames.at i line.next) card ≡ line.gave (option_map next_of (taken card.config (line_at i card)))
unfolding line_answer takes_slot
next_answer card i = refl

-- none is given where none is taken
none_taken : (o : Option Taken) → option_map next_of o ≡ None → o ≡ None
none_taken o is = grind arith

pub quiet_gives : (card : Card) (i : ℕ) → taken card.config (line_at i card) ≡ None → given_in (machine.answer (frames.at i line.next) card) ≡ None
quiet_gives card i none = ap given_in (next_answer card i) ∙ ap (option_map next_of) none

-- and then nothing changes, and nothing is counted
pub none_leaves : (card : Card) (i : ℕ) → given_in (machine.answer (frames.at i line.next) card) ≡ None → machine.after (frames.at i line.next) card ≡ card
unfolding line_after takes_slot
none_leaves card i none = grind (arith, none_taken, next_answer, set-get_or)

pub none_counts : (card : Card) (i : ℕ) (all : List Counters) → given_in (machine.answer (frames.at i line.next) card) ≡ None → moment_counted all (moment_of card (frames.at i line.next)) ≡ all
none_counts card i all none = grind (arith, next_answer, set-get_or)

none_begun_leaves : (card : Card) (i : ℕ) (due : Bool) → frame_begun (option_map (answer_to card) (called i due)) ≡ None → option_map_or (card_after card) (called i due) card ≡ card
none_begun_leaves card i due none = grind (arith, none_leaves)

none_begun_counts : (m : OctetCard) (i : ℕ) (all : List Counters) (due : Bool) → frame_begun (option_map (answer_to m.card) (called i due)) ≡ None
    → all ≡ all_counted all (option_to_list (option_map (frame_moment m) (called i due)))
none_begun_counts m i all due none = grind (arith, none_counts)

-- no frame is begun where none is due, or none waits
pub not_due : (m : OctetCard) (i : ℕ) → is_due (port_at i m) ≡ false → frame_begun (said (at i port.pull) m) ≡ None
unfolding meant
not_due m i is = ap (λ due. frame_begun (option_map (answer_to m.card) (called i due))) is

pub quiet : (m : OctetCard) (i : ℕ) → taken m.card.config (line_at i m.card) ≡ None → frame_begun (said (at i port.pull) m) ≡ None
unfolding meant
quiet m i none = go (is_due (port_at i m))
  where
    go : (due : Bool) → frame_begun (option_map (answer_to m.card) (called i due)) ≡ None
    go due = grind (arith, quiet_gives)

-- A port gives the next octet, with a frame that was taken for it or none.
abbrev pub Gives : Port → Option (ShortList Order) → Pulled → Port → Type 0
Gives mid taken_one pulled new =
    (n201 : ℕ) (p : port.Port) (says : Option line.Answer) → IsSaid p says (orders_taken taken_one) → PortStands n201 mid (with_frame (frame_begun says) p) → Pulls n201 p says pulled new

module _ {S : Type 0} (store : S → Store) {card : Held S} {i : ℕ} {x : Port} (call : Found store card i x) where
  -- no frame is taken
  module _ {pulled : Pulled} {y : Port} (gives : Gives x None pulled y) (nothing : (m : OctetCard) → OctetCardStands store card m → frame_begun (said (at i port.pull) m) ≡ None) where
    pulls_none : (m : OctetCard) → OctetCardStands store card m → Pulls m.card.config.n201 (port_at i m) (said (at i port.pull) m) pulled y
    unfolding meant
    pulls_none m s =
        let there = port_holds store call m s in
        let none = nothing m s in
        gives m.card.config.n201 (port_at i m) (said (at i port.pull) m)
        (record { text = port_text there; due = said_if_due m.card i (is_due (port_at i m)); orders = ap (option_map port.orders_with) (sym none) })
        (subst (λ o. PortStands m.card.config.n201 x (with_frame o (port_at i m))) (sym none) there)

    pub none_called : OctetCalled store (at i port.pull) (pulled_of pulled) card (record { frames = card.frames; ports = set card.ports i y })
    unfolding after answer meant
    none_called = record {
      answers = λ m s. (pulls_none m s).told;
      unchanged = λ why is. absurd (cc);
      leads = record {
        config = refl;
        stands = λ m s.
            gone_on store port.pull call.within refl m s
            (subst (FrameStands store card.frames) (sym (none_begun_leaves m.card i (is_due (port_at i m)) (nothing m s))) s.frames)
            (pulls_none m s).after;
        counted = λ m s. none_begun_counts m i (counters_in card.frames.lines) (is_due (port_at i m)) (nothing m s);
      };
    }

  -- the next frame is called for
  module _ {f : frame_card.Held S} {mid y : Port} (taken_one : Option (ShortList Order)) {pulled : Pulled} (few : length x.framer.left < 8)
      (loaded : (m : Card) → FrameStands store card.frames m → IsLoaded (machine.answer (frames.at i line.next) m) (orders_taken taken_one) x mid)
      (leads : frame.Leads store (frames.at i line.next) card.frames f) (gives : Gives mid taken_one pulled y) where
    due : (m : OctetCard) → OctetCardStands store card m → is_due (port_at i m) ≡ true
    due m s = due_is (port_holds store call m s) ∙ lt-ltb (length x.framer.left) 8 few

    pulls_next : (m : OctetCard) → OctetCardStands store card m → Pulls m.card.config.n201 (port_at i m) (Some (machine.answer (frames.at i line.next) m.card)) pulled y
    pulls_next m s =
        let there = port_holds store call m s in
        let one = loaded m.card s.frames in
        gives m.card.config.n201 (port_at i m) (Some (machine.answer (frames.at i line.next) m.card))
        (record { text = port_text there; due = sym (due m s); orders = one.orders }) (one.stands m.card.config.n201 (port_at i m) there)

    next_told : (m : OctetCard) → OctetCardStands store card m → pulled_of pulled ≡ answer (at i port.pull) m
    unfolding answer meant
    next_told m s = grind (arith, pulls_next, due)

    pub next_called : OctetCalled store (at i port.pull) (pulled_of pulled) card (record { frames = f; ports = set card.ports i y })
    unfolding after meant
    next_called = record {
      answers = next_told;
      unchanged = λ why is. absurd (cc);
      leads = record {
        config = leads.config;
        stands = λ m s.
            let p = port_at i m in
            gone_on store port.pull call.within leads.config m s
            (subst (λ b. FrameStands store f (option_map_or (card_after m.card) (called i b) m.card)) (sym (due m s)) (leads.stands m.card s.frames))
            (subst (λ b. PortStands m.card.config.n201 y (port.after port.pull (option_map (answer_to m.card) (called i b)) p)) (sym (due m s)) (pulls_next m s).after);
        counted = λ m s.
            leads.counted m.card s.frames
            ∙ ap (λ b. all_counted (counters_in card.frames.lines) (option_to_list (option_map (frame_moment m) (called i b)))) (sym (due m s));
      };
    }
