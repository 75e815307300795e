-- What is counted of all that is heard in the octets of a card is what is counted of the events that they mean.
use Rattle.model_card.proofs.OfPorts.Vocabulary.{◌≡◌, ℕ, ◌+◌, ◌<◌, Bool, false, List, [], ◌∷◌, ◌++◌, length, Option, option_map, option_to_list, ap, sym, ◌∙◌, subst, cond, arith, All, All-head, All-tail, count_by, sum_by, sum_by-append, sum_by-set, Config, Card, Event, OctetCard, Port, after, after_all, meant, meant_all}
use Rattle.model_bits.specs.Stream as stream
use Rattle.model_line.specs.Event as line
use Rattle.model_card.specs.Event as frames
use Rattle.model_card.specs.Run as runs
unfoldable use Rattle.model_card.specs.Run.{moments as frame_moments}
use Rattle.model_card.proofs.OfPorts.Codec.{own_port, stepped}
use Rattle.model_card.proofs.OfPorts.PortGoesOn.{heard_in_meaning}
use Rattle.model_card.proofs.OfPorts.Steps.{config_after, moments-append, ports_after}

-- A test of events counts those that are heard and pass another.
pub record IsOfHeard (p : stream.Event → Bool) (q : line.Event → Bool) : Type 0 where
  pub hears : (e : stream.Event) → q (line.hears e) ≡ p e
  pub expiry : (timer : _) → q (line.expiry timer) ≡ false
  pub request : (r : _) → q (line.request r) ≡ false
  pub next : q line.next ≡ false

abbrev pub in_port : (stream.Event → Bool) → ℕ → Port → ℕ
in_port p n201 x = count_by p (stream.heard_in n201 x.received)

abbrev pub in_ports : (stream.Event → Bool) → ℕ → List Port → ℕ
in_ports p n201 xs = sum_by (in_port p n201) xs

abbrev pub is_counted : (line.Event → Bool) → runs.Moment → Bool
is_counted q moment = q moment.event.what

module _ (p : stream.Event → Bool) (q : line.Event → Bool) (h : IsOfHeard p q) where
  -- one event that is meant
  counted : (b c : Bool) → b ≡ c → 0 + cond b 1 0 ≡ 0 + cond c 1 0
  counted b c e = ap (λ x. 0 + cond x 1 0) e

  meant_counted : (card : Card) (number : ℕ) (o : Option line.Event)
      → count_by (is_counted q) (runs.moments card (option_to_list (option_map (frames.at number) o))) ≡ count_by p (heard_in_meaning o)
  unfolding frame_moments
  meant_counted card number o = grind (arith, counted)

  -- one event of a card
  event_counted : (m : OctetCard) (e : Event) → e.line < length m.ports
      → in_ports p m.card.config.n201 (after e m).ports
      ≡ in_ports p m.card.config.n201 m.ports + count_by (is_counted q) (runs.moments m.card (option_to_list (meant e m)))
  unfolding after meant
  event_counted m e within = grind (arith, heard_in_meaning, own_port, sum_by-append, meant_counted, sum_by-set)

  -- a run
  pub run_counted : (n201 : ℕ) (m : OctetCard) (events : List Event) → m.card.config.n201 ≡ n201 → All (λ (e : Event). e.line < length m.ports) events
      → in_ports p n201 (after_all m events).ports ≡ in_ports p n201 m.ports + count_by (is_counted q) (runs.moments m.card (meant_all m events))
  unfolding after_all meant_all frame_moments
  run_counted n201 m [] is all = omega arith
  run_counted n201 m (e ∷ events) is all =
      let m' = after e m in
      let one = option_to_list (meant e m) in
      let rest = meant_all m' events in
      let below = λ (x : Event). x.line < length m.ports in
      let first = subst (λ n. in_ports p n m'.ports ≡ in_ports p n m.ports + count_by (is_counted q) (runs.moments m.card one)) is
      (event_counted m e (All-head below e events all)) in
      let later = run_counted n201 m' events (ap (λ (c : Config). c.n201) (config_after m e) ∙ is)
      (subst (λ n. All (λ (x : Event). x.line < n) events) (sym (ports_after m e)) (All-tail below e events all)) in
      let moments : count_by (is_counted q) (runs.moments m.card (one ++ rest)) ≡ count_by (is_counted q) (runs.moments m.card one) + count_by (is_counted q) (runs.moments m'.card rest) =
      ap (count_by (is_counted q)) (moments-append m.card one rest)
      ∙ sum_by-append (λ x. cond (is_counted q x) 1 0) (runs.moments m.card one) (runs.moments (runs.after_all m.card one) rest)
      ∙ ap (λ card. count_by (is_counted q) (runs.moments m.card one) + count_by (is_counted q) (runs.moments card rest)) (sym (stepped m e)) in
      omega (arith, first, later, moments)
