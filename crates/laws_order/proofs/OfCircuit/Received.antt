-- What the line of an end has received are the octets that came, so what its card of frames hears is what stands in them.
use Rattle.laws_order.proofs.Vocabulary.{arith, ◌≡◌, ◌==◌, ℕ, ◌<◌, Bool, cond, List, [], ◌∷◌, ◌++◌, length, Option, None, Some, option_map, option_to_list, refl, sym, ap, ◌∙◌, append-nil, append_assoc, eq-eqb, flat_map, flat_map-append, Config, Service, OctetCard, port_at, said, Answer, heard_with, heard_in, Seen, IsNotOf, stream_frame, StreamEvent, Port, PortEvent}
use Rattle.laws_order.proofs.Vocabulary.{port_octet, port_after, ne_eqb, heard_by, octet_come, by_port, config_after, ports_after}
use Rattle.model_line.specs.Event as line
unfoldable use Rattle.model_card.specs.ports.Card.{after}
use Rattle.model_card.specs.ports.Event.{Event}
use Rattle.laws_order.specs.circuit.Damaged as damaged
use Rattle.laws_order.specs.circuit.Damaged.{Endpoint as NoisyEndpoint, Step as NoisyStep, happens, completes, elsewhere, loses, meaning, HasReceived, IsElsewhere, heard_among, with_event, with_step, seen_of, seen_by}

-- ---- what an event means is what stands in the octets that came

-- What is possible, of what events mean to the card of frames inside.
abbrev pub IsOther : Service → ℕ → Config → Option line.Event → Type 0
IsOther service tei c (Some (line.hears e)) = IsNotOf service tei c e
IsOther service tei c other = Unit {0}

abbrev pub IsFirst : Option line.Event → List (List ℕ) → Type 0
IsFirst (Some (line.hears (stream_frame octets))) way = (rest : List (List ℕ)) × (way ≡ octets ∷ rest)
IsFirst other way = ⊥

abbrev pub IsPossibleAt : Service → ℕ → NoisyStep → NoisyEndpoint → List (List ℕ) → Type 0
IsPossibleAt service tei (happens what) s way = IsOther service tei s.card.card.config (meaning what s)
IsPossibleAt service tei (completes value) s way = IsFirst (meaning (port_octet value) s) way
IsPossibleAt service tei (elsewhere e) s way = IsElsewhere e s
IsPossibleAt service tei loses s way = Unit {0}

-- What is kept of an end.
pub record Receives (n201 : ℕ) (s : NoisyEndpoint) : Type 0 where
  pub received : (port_at s.line s.card).received ≡ s.came
  pub within : s.line < length s.card.ports
  pub same : s.card.card.config.n201 ≡ n201

pub receives : (s : NoisyEndpoint) → HasReceived s → s.line < s.card.card.config.lines → Receives s.card.card.config.n201 s
receives s h few = record { received = h.received; within = omega (arith, few, h.ports); same = refl }

-- whatever becomes of its way
pub away : (n201 : ℕ) (s : NoisyEndpoint) (way : List (List ℕ)) → Receives n201 s → Receives n201 (record s { way = way })
away n201 s way r = record { received = r.received; within = r.within; same = r.same }

module _ (n201 : ℕ) (s : NoisyEndpoint) (r : Receives n201 s) where
  pub as-meant : (service : Service) (tei : ℕ) (act : NoisyStep) (way : List (List ℕ)) → damaged.IsPossibleAt service tei act s way → IsPossibleAt service tei act s way
  as-meant service tei h way is = grind arith

-- ---- a port has received what came

port-received : (what : PortEvent) (o : Option Answer) (p : Port) → (port_after what o p).received ≡ p.received ++ octet_come what
port-received what o p = grind (arith, append-nil)

received-at : (m : OctetCard) (e : Event) (number : ℕ) → number < length m.ports
    → (port_at number (after e m)).received ≡ (port_at number m).received ++ cond (e.line == number) (octet_come e.what) []
received-at m e number within =
    by_port m e number within (λ b old new. new.received ≡ old.received ++ cond b (octet_come e.what) [])
    (sym (append-nil (port_at number m).received)) (λ is. port-received e.what (said e m) (port_at e.line m))

module _ (n201 : ℕ) (s : NoisyEndpoint) (r : Receives n201 s) where
  event-receives : (what : PortEvent) → Receives n201 (with_event what s)
  event-receives what = grind (arith, cond, eq-eqb, received-at, ports_after, config_after)

  elsewhere-receives : (e : Event) → IsElsewhere e s → Receives n201 (with_step (elsewhere e) s)
  elsewhere-receives e is = grind (arith, cond, ne_eqb, received-at, append-nil, ports_after, config_after)

  pub act-receives : (service : Service) (tei : ℕ) (act : NoisyStep) (way : List (List ℕ)) → damaged.IsPossibleAt service tei act s way → Receives n201 (with_step act s)
  act-receives service tei (happens what) way is = event-receives what
  act-receives service tei (completes value) way is = event-receives (port_octet value)
  act-receives service tei (elsewhere e) way is = elsewhere-receives e is
  act-receives service tei loses way is = away n201 s _ r

-- ---- what is heard

abbrev pub Hears : ℕ → List ℕ → List ℕ → List Seen → Type 0
Hears n201 before after here = heard_in n201 after ≡ heard_in n201 before ++ heard_among here

pub none-heard : (n201 : ℕ) (came : List ℕ) → Hears n201 came came []
none-heard n201 came = sym (append-nil (heard_in n201 came))

pub one-heard : (n201 : ℕ) (a b c : List ℕ) (t u : List Seen) → Hears n201 a b t → Hears n201 b c u → Hears n201 a c (t ++ u)
one-heard n201 a b c t u x y = grind (arith, append_assoc, flat_map-append)

meant-heard : (s : NoisyEndpoint) (o : Option line.Event) → heard_among (flat_map (seen_of s) (option_to_list o)) ≡ flat_map heard_by (option_to_list o)
meant-heard s h = grind arith

hears-by : (o : Option StreamEvent) → flat_map heard_by (option_to_list (option_map line.hears o)) ≡ option_to_list o
hears-by h = grind arith

nothing-by : (due : Bool) → flat_map heard_by (option_to_list (cond due (Some line.next) None)) ≡ []
nothing-by due = grind arith

module _ (n201 : ℕ) (s : NoisyEndpoint) (r : Receives n201 s) where
  -- where nothing comes, nothing is heard
  silent : (o : Option line.Event) → flat_map heard_by (option_to_list o) ≡ [] → Hears n201 s.came (s.came ++ []) (flat_map (seen_of s) (option_to_list o))
  silent o none =
      ap (heard_in n201) (append-nil s.came) ∙ sym (append-nil (heard_in n201 s.came))
      ∙ ap (λ l. heard_in n201 s.came ++ l) (sym (meant-heard s o ∙ none))

  octet-heard : (value : ℕ) → Hears n201 s.came (s.came ++ value ∷ []) (seen_by (completes value) s)
  octet-heard value = grind (arith, heard_with, meant-heard, option_map, hears-by, option_to_list)

  pub act-heard : (act : NoisyStep) → Hears n201 s.came (with_step act s).came (seen_by act s)
  act-heard h = grind (arith, octet-heard, silent, nothing-by, none-heard)
