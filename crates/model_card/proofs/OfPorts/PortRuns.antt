-- What each event of a line keeps of its port, a run keeps.
use Rattle.model_card.proofs.OfPorts.Vocabulary.{◌≡◌, ℕ, ◌<◌, List, [], ◌∷◌, ap, ◌∙◌, arith, All-head, All-tail, Config, Event, IsSoundOctetCard, IsAtLine, AreAtLines, OctetCard, Port, after, after_all, port_at, said}
use Rattle.model_card.specs.ports.Port as port
use Rattle.model_card.proofs.OfPorts.Sound.{octets_keep_sound, at_lines_after}
use Rattle.model_card.proofs.OfPorts.Steps.{by_port, config_after}

-- A fact of a port at cards of this configuration is kept by each event.
abbrev pub IsKept : Config → (Port → Type 0) → Type 0
IsKept c I = (m : OctetCard) (e : Event) → m.card.config ≡ c → IsSoundOctetCard m → IsAtLine m e → I (port_at e.line m) → I (port.after e.what (said e m) (port_at e.line m))

pub event_keeps : (c : Config) (I : Port → Type 0) → IsKept c I → (m : OctetCard) (e : Event) (number : ℕ) → m.card.config ≡ c → IsSoundOctetCard m → IsAtLine m e
    → number < c.lines → I (port_at number m) → I (port_at number (after e m))
event_keeps c I kept m e number is s within few =
    let lines = ap (λ (x : Config). x.lines) is in
    by_port m e number (omega (arith, few, lines, s.count)) (λ b old new. I old → I new) (λ h. h) (λ here. kept m e is s within)

pub run_keeps : (c : Config) (I : Port → Type 0) → IsKept c I → (m : OctetCard) (events : List Event) (number : ℕ) → m.card.config ≡ c → IsSoundOctetCard m → AreAtLines m events
    → number < c.lines → I (port_at number m) → I (port_at number (after_all m events))
unfolding after_all
run_keeps c I kept m [] number is s within few h = h
run_keeps c I kept m (e ∷ events) number is s within few h =
    let here = All-head (IsAtLine m) e events within in
    run_keeps c I kept (after e m) events number (config_after m e ∙ is) (octets_keep_sound m e s here)
    (at_lines_after m e events (All-tail (IsAtLine m) e events within)) few (event_keeps c I kept m e number is s here few h)
