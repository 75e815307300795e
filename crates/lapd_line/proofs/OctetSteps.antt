-- What an event does to a line and its port.
use Rattle.lapd_line.proofs.Vocabulary.{arith, ◌≡◌, ℕ, ◌<◌, Bool, true, false, List, [], ◌∷◌, ◌++◌, length, Option, Some, None, option_map, refl, sym, ap, ◌∙◌, subst, cond, lt-ltb, option_map_or, IsSome, Owned, Store, SameLimits, ShortList, Order, Config, Counters, hears, next, LineTold, counted, drop_costs_nothing, may_send, FrameLine, Leads, LeadsIfHeard}
use Rattle.lapd_line.proofs.Vocabulary.{config_of, orders_taken, IsLoaded, IsSaid, PortStands, Pulls, with_frame, OctetsLead, OctetsStand, octets_config, gained, is_due, frame_begun, pull, pulled_of, LineStands, Port, Pulled}
use Rattle.model_bits.specs.Stream as stream
use Rattle.model_line.specs.Event as line
use Rattle.model_line.specs.Line as lines
unfoldable use Rattle.model_line.specs.Machine.{after as line_after, answer as line_answer}
use Rattle.model_card.specs.ports.Line.{OctetLine, after, answer}
use Rattle.model_card.specs.ports.Port as port
use Rattle.lapd_line.specs.declared.line.Line.{Line}
use Rattle.lapd_line.proofs.PortSteps.{due_is, port_text}

-- What a line says to what an event means, and what it and its port are then.
abbrev said_to : Config → OctetLine → Option line.Event → Option line.Answer
said_to c l o = option_map (λ f. line_answer c f l.line) o

abbrev gone_on : Config → port.Event → OctetLine → Option line.Event → OctetLine
gone_on c e l o = record { line = option_map_or (λ f. line_after c f l.line) o l.line; port = port.after e (said_to c l o) l.port }

abbrev counted_if : Line → OctetLine → Option line.Event → Counters
counted_if old l o = option_map_or (λ f. counted (octets_config old) f l.line old.frames.counters) o old.frames.counters

-- It leads the line of frames on, if it means anything to it.
abbrev pub LeadsIf : Option line.Event → FrameLine → Store → FrameLine → Store → Type 0
LeadsIf None old s new t = (new ≡ old) × (t ≡ s)
LeadsIf (Some f) old s new t = Leads f old s new t

-- An event leads both on where it is known what it means, it leads the line of frames on, and the port goes on.
pub leads_as : {old new : Line} {s t : Store} (e : port.Event) (o : Option line.Event)
    → ((others : List Owned) (l : OctetLine) → OctetsStand old s others l → port.meant (octets_config old).n201 e l.port ≡ o)
    → LeadsIf o old.frames s new.frames t
    → ((others : List Owned) (l : OctetLine) → OctetsStand old s others l → PortStands (octets_config old).n201 new.port (port.after e (said_to (octets_config old) l o) l.port))
    → OctetsLead e old s new t
leads_as {old} {new} {s} {t} e o = go o
  where
    c : Config
    c = octets_config old

    -- what it means, as it is known
    known : (x : Option line.Event) (others : List Owned) (l : OctetLine) → port.meant c.n201 e l.port ≡ x → c.n201 ≡ (octets_config new).n201
        → LineStands new.frames t others (gone_on c e l x).line → PortStands c.n201 new.port (gone_on c e l x).port → OctetsStand new t others (after c e l)
    known x others l is same frames port =
        subst (λ y. OctetsStand new t others (gone_on c e l y)) (sym is) (record { frames = frames; port = subst (λ n. PortStands n new.port (gone_on c e l x).port) same port })

    go : (x : Option line.Event) → ((others : List Owned) (l : OctetLine) → OctetsStand old s others l → port.meant c.n201 e l.port ≡ x) → LeadsIf x old.frames s new.frames t
        → ((others : List Owned) (l : OctetLine) → OctetsStand old s others l → PortStands c.n201 new.port (port.after e (said_to c l x) l.port)) → OctetsLead e old s new t
    go None is (same, kept) goes = record {
      config = ap config_of same;
      limits = subst (SameLimits s) (sym kept) (record { slots = refl; width = refl });
      stands = λ others l st.
          known None others l (is others l st) (ap (λ f. (config_of f).n201) (sym same))
          (subst (λ x. LineStands new.frames x others l.line) (sym kept) (subst (λ x. LineStands x s others l.line) (sym same) st.frames)) (goes others l st);
      counted = λ others l st. ap (λ x. x.counters) same ∙ ap (counted_if old l) (sym (is others l st));
    }
    go (Some f) is leads goes = record {
      config = leads.config;
      limits = leads.limits;
      stands = λ others l st. known (Some f) others l (is others l st) (ap (λ d. d.n201) (sym leads.config)) (leads.stands others l.line st.frames) (goes others l st);
      counted = λ others l st. leads.counted others l.line st.frames ∙ ap (counted_if old l) (sym (is others l st));
    }

-- ---- an octet

heard_if : (old new : FrameLine) (s t : Store) (h : Option stream.Event) → LeadsIfHeard h old s new t → LeadsIf (option_map hears h) old s new t
heard_if old new s t None leads = leads
heard_if old new s t (Some e) leads = leads

pub octet_leads : {old new : Line} {s t : Store} {value : ℕ} (h : Option stream.Event)
    → ((n201 : ℕ) (p : port.Port) → PortStands n201 old.port p → gained n201 p.received value ≡ h)
    → ((n201 : ℕ) (p : port.Port) → PortStands n201 old.port p → PortStands n201 new.port (record p { received = p.received ++ value ∷ [] }))
    → LeadsIfHeard h old.frames s new.frames t → OctetsLead (port.octet value) old s new t
octet_leads {old} {new} {s} {t} {value} h brings goes leads =
    leads_as (port.octet value) (option_map hears h) (λ others l st. ap (option_map hears) (brings (octets_config old).n201 l.port st.port)) (heard_if old.frames new.frames s t h leads) (λ others l st. goes (octets_config old).n201 l.port st.port)

-- where the answer names a cause, what may be sent stays
pub drop_leaves : (c : Config) (value : ℕ) (l : OctetLine) (t : LineTold) → port.told t ≡ answer c (port.octet value) l → IsSome t.cause
    → may_send c (after c (port.octet value) l).line ≡ may_send c l.line
drop_leaves c value l t says some = grind (arith, option_map, drop_costs_nothing)

-- ---- a pull

-- what it means
abbrev called : Bool → Option line.Event
called due = cond due (Some next) None

-- What a port makes of what is said for a pull.
abbrev pub PullsAs : Port → Option (ShortList Order) → Pulled → Port → Type 0
PullsAs mid taken pulled new =
    (n201 : ℕ) (p : port.Port) (said : Option line.Answer) → IsSaid p said (orders_taken taken) → PortStands n201 mid (with_frame (frame_begun said) p) → Pulls n201 p said pulled new

-- The line is not called, and the port gives an octet.
module _ {old : Line} {s : Store} {pulled : Pulled} {new : Port} (gives : PullsAs old.port None pulled new)
    (not_due : (others : List Owned) (l : OctetLine) → OctetsStand old s others l → is_due l.port ≡ false) where
  gives_more : (others : List Owned) (l : OctetLine) → OctetsStand old s others l → Pulls (octets_config old).n201 l.port None pulled new
  gives_more others l st = gives (octets_config old).n201 l.port None (record { text = port_text st.port; due = sym (not_due others l st); orders = refl }) st.port

  pub more_told : (others : List Owned) (l : OctetLine) → OctetsStand old s others l → pulled_of pulled ≡ answer (octets_config old) pull l
  more_told others l st = (gives_more others l st).told ∙ ap (λ b. port.answer pull (said_to (octets_config old) l (called b)) l.port) (sym (not_due others l st))

  pub more_leads : OctetsLead pull old s (record old { port = new }) s
  more_leads = leads_as pull None (λ others l st. ap called (not_due others l st)) (refl, refl) (λ others l st. (gives_more others l st).after)

-- The line is called for the next frame.
module _ {old : Line} {s : Store} {mid new : Port} (taken_one : Option (ShortList Order)) {pulled : Pulled} (few : length old.port.framer.left < 8)
    (loaded : (others : List Owned) (m : lines.Line) → LineStands old.frames s others m → IsLoaded (line_answer (octets_config old) next m) (orders_taken taken_one) old.port mid)
    (gives : PullsAs mid taken_one pulled new) where
  is_called : (others : List Owned) (l : OctetLine) → OctetsStand old s others l → is_due l.port ≡ true
  is_called others l st = due_is st.port ∙ lt-ltb (length old.port.framer.left) 8 few

  gives_next : (others : List Owned) (l : OctetLine) → OctetsStand old s others l → Pulls (octets_config old).n201 l.port (Some (line_answer (octets_config old) next l.line)) pulled new
  gives_next others l st =
      let there = loaded others l.line st.frames in
      gives (octets_config old).n201 l.port _ (record { text = port_text st.port; due = sym (is_called others l st); orders = there.orders }) (there.stands (octets_config old).n201 l.port st.port)

  pub next_told : (others : List Owned) (l : OctetLine) → OctetsStand old s others l → pulled_of pulled ≡ answer (octets_config old) pull l
  next_told others l st = (gives_next others l st).told ∙ ap (λ b. port.answer pull (said_to (octets_config old) l (called b)) l.port) (sym (is_called others l st))

  pub next_leads_on : {t : Store} {e : FrameLine} → Leads next old.frames s e t → OctetsLead pull old s (record { frames = e; port = new }) t
  next_leads_on leads = leads_as pull (Some next) (λ others l st. ap called (is_called others l st)) leads (λ others l st. (gives_next others l st).after)
