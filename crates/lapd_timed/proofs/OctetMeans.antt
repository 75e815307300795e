-- What an octet that comes means to the card of frames inside: the hearing of what it has ended.
use Rattle.std.proofs.Common.{arith, ◌≡◌, ℕ, ◌<◌, List, [], ◌∷◌, ◌++◌, length, take, Option, Some, None, option_map, refl, sym, ap, ◌∙◌, length-append}
use Rattle.std.specs.Prelude.{slice_get}
use Rattle.std.specs.Option.{option_map_or}
use Rattle.std.proofs.Math.Seq.{take-append_seam}
use Rattle.std.proofs.lemmas.List.{get_or-set_same}
use Rattle.std.proofs.lemmas.Option.{none-some, same_Some}
use Rattle.model_bits.specs.Stream as stream
use Rattle.model_card.specs.Event as frame
use Rattle.model_card.specs.ports.Card as ports
use Rattle.model_card.specs.ports.Card.{OctetCard, port_at}
use Rattle.model_card.specs.ports.Event as octet
use Rattle.model_card.specs.ports.FrameHeard.{before_latest, ended_at, ended_by_latest}
use Rattle.model_card.specs.ports.Port as port
use Rattle.model_line.specs.Event.{hears}

without_latest : (octets : List ℕ) (v : ℕ) → before_latest (octets ++ v ∷ []) ≡ octets
without_latest octets v = ap (λ n. take n (octets ++ v ∷ [])) (omega (arith, length-append octets (v ∷ []))) ∙ take-append_seam octets (v ∷ [])

-- the event that it means, and what it has ended
pub record HearsEnded (line v : ℕ) (m : OctetCard) (f : frame.Event) : Type 0 where
  pub what : stream.Event
  pub is : f ≡ frame.at line (hears what)
  pub ended : ended_at line (ports.after (octet.at line (port.octet v)) m) ≡ Some what

module _ (line v : ℕ) (m : OctetCard) (there : line < length m.ports) where
  abbrev e : octet.Event
  e = octet.at line (port.octet v)

  abbrev p : port.Port
  p = port_at line m

  received-is : (port_at line (ports.after e m)).received ≡ p.received ++ v ∷ []
  unfolding ports.after
  received-is = ap (λ (q : port.Port). q.received) (get_or-set_same m.ports line (port.after (port.octet v) (ports.said e m) p) port.fresh_port there)

  config-is : (f : frame.Event) → ports.meant e m ≡ Some f → (ports.after e m).card.config.n201 ≡ m.card.config.n201
  unfolding ports.after
  config-is f meant = ap (λ o. (option_map_or (ports.card_after m.card) o m.card).config.n201) meant

  ended-is : (f : frame.Event) (x : stream.Event) → ports.meant e m ≡ Some f → port.gained m.card.config.n201 p.received v ≡ Some x → ended_at line (ports.after e m) ≡ Some x
  ended-is f x meant gained =
      ap (λ n. ended_by_latest n (port_at line (ports.after e m)).received) (config-is f meant)
      ∙ ap (ended_by_latest m.card.config.n201) received-is
      ∙ ap (λ r. slice_get (stream.heard_in m.card.config.n201 (p.received ++ v ∷ [])) (length (stream.heard_in m.card.config.n201 r))) (without_latest p.received v)
      ∙ gained

  pub hears-ended : (f : frame.Event) → ports.meant e m ≡ Some f → HearsEnded line v m f
  unfolding ports.meant
  hears-ended f meant = go (port.gained m.card.config.n201 p.received v) refl meant
    where
      go : (o : Option stream.Event) → port.gained m.card.config.n201 p.received v ≡ o → option_map (frame.at line) (option_map hears o) ≡ Some f → HearsEnded line v m f
      go None gained is = absurd (none-some f is)
      go (Some x) gained is = record { what = x; is = sym (same_Some (frame.at line (hears x)) f is); ended = ended-is f x meant gained }
