-- An end, as its octets are pulled, and as octets are heard there that end nothing.
use Rattle.laws_order.proofs.Vocabulary.{◌≡◌, ℕ, ◌+◌, Bool, true, false, cond, [], ◌∷◌, ◌++◌, length, Option, None, Some, option_map, ap, ◌∙◌, arith, length-drop, Config, Card, answer_to, Port, given_in, is_due, item_of, left_of, gained, with_item, with_octet, ready_where, left_with_octet, Endpoint, at, port_pull, port_octet, card_answer}
use Rattle.model_line.specs.Event as line
unfoldable use Rattle.model_card.specs.ports.Card.{meant}
use Rattle.laws_order.specs.circuit.Circuit.{Endpoint as OctetEndpoint, port_of, happens}
use Rattle.laws_order.proofs.OfCircuit.AsFrames.{as_endpoint, if_meant, heard-as, pulled-as}
use Rattle.laws_order.proofs.OfCircuit.Projected.{Fits, port-after}
use Rattle.laws_order.proofs.OfCircuit.Ran.{Ran, config, sound-port, within-ports}

-- What a call for the next frame is answered with.
abbrev pub next_of_card : ℕ → Card → line.Answer
next_of_card number card = card_answer (at number line.next) card

-- ---- a pull

-- the port and the card after a pull, where an item is due or not
abbrev said_if : Bool → OctetEndpoint → Option line.Answer
said_if due s = option_map (answer_to s.card.card) (option_map (at s.line) (cond due (Some line.next) None))

abbrev pulled_port : Bool → OctetEndpoint → Port
pulled_port due s = with_octet (with_item (said_if due s) (port_of s))

abbrev pulled_card : Bool → OctetEndpoint → Card
pulled_card due s = (if_meant (cond due (Some line.next) None) (as_endpoint [] s)).card

card-pulled : (s : OctetEndpoint) → (happens port_pull s).card.card ≡ pulled_card (is_due (port_of s)) s
card-pulled s = ap (λ (x : Endpoint). x.card) (pulled-as s [])

module _ (n201 : ℕ) (c : Config) (fits : Fits n201 c) (s : OctetEndpoint) (ran : Ran c s) where
  abbrev after_pull : OctetEndpoint
  after_pull = happens port_pull s

  port-pulled : port_of after_pull ≡ pulled_port (is_due (port_of s)) s
  unfolding meant
  port-pulled = port-after s port_pull (within-ports c fits.ranged s ran)

  -- where none is due, the octet is one of those that are left
  pub pull-between : is_due (port_of s) ≡ false → (after_pull.card.card ≡ s.card.card) × ((port_of after_pull).items ≡ (port_of s).items)
      × (length (left_of (port_of after_pull)) + 8 ≡ length (left_of (port_of s)))
  pull-between none =
      let ready = ready_where (port_of s) (sound-port c fits.ranged s ran).text none in
      let same = port-pulled ∙ ap (λ due. pulled_port due s) none in
      let left = ap length (left_with_octet (port_of s) ready) in
      let fewer = length-drop 8 (left_of (port_of s)) in
      grind (arith, card-pulled)

  -- where one is due, something is put behind what was there: the frame that waits, or a flag
  pub pull-put : is_due (port_of s) ≡ true → (port_of after_pull).items ≡ (port_of s).items ++ item_of (given_in (next_of_card s.line s.card.card)) ∷ []
  pull-put due = ap (λ (p : Port). p.items) (port-pulled ∙ ap (λ due. pulled_port due s) due)

  pub pull-received : (port_of after_pull).received ≡ (port_of s).received
  pull-received = grind (arith, port-pulled)

  -- one octet more is given
  pub pull-given : (value : ℕ) × ((port_of after_pull).given ≡ (port_of s).given ++ value ∷ [])
  pull-given = grind (arith, port-pulled)

-- ---- an octet that ends nothing is heard

module _ (n201 : ℕ) (c : Config) (fits : Fits n201 c) (s : OctetEndpoint) (ran : Ran c s) (value : ℕ) (none : gained n201 (port_of s).received value ≡ None) where
  abbrev after_octet : OctetEndpoint
  after_octet = happens (port_octet value) s

  pub card-heard : after_octet.card.card ≡ s.card.card
  card-heard =
      let size : s.card.card.config.n201 ≡ n201 = ap (λ (x : Config). x.n201) (config c fits.ranged s ran) ∙ fits.size in
      ap (λ (x : Endpoint). x.card)
      (heard-as value s [] ∙ ap (λ o. if_meant (option_map line.hears o) (as_endpoint [] s)) (ap (λ n. gained n (port_of s).received value) size ∙ none))

  pub port-heard : port_of after_octet ≡ record (port_of s) { received = (port_of s).received ++ value ∷ [] }
  port-heard = port-after s (port_octet value) (within-ports c fits.ranged s ran)
