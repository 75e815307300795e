-- Which links an octet that has ended something may change.
use Rattle.std.proofs.Common.{◌≡◌, ◌≢◌, ℕ, ◌<◌, length, Some, sym, ◌∙◌, subst}
use Rattle.std.specs.Prelude.{IfSome}
use Rattle.lapd_card.specs.Card as octets_card
use Rattle.lapd_card.specs.Kinds.{shelf_of, CardStands}
use Rattle.lapd_card.proofs.OnePort.{ports-all}
use Rattle.lapd_store.specs.Store.{Store}
use Rattle.model_bits.specs.Heard.{heard_of}
use Rattle.model_bits.specs.declared.heard.Heard.{Heard}
use Rattle.model_card.specs.Card.{line_at}
use Rattle.model_card.specs.Event as frame
use Rattle.model_card.specs.ports.Card as ports
use Rattle.model_card.specs.ports.Card.{OctetCard}
use Rattle.model_card.specs.ports.Event as octet
use Rattle.model_card.specs.ports.FrameHeard.{ended_at}
use Rattle.model_card.specs.ports.Port as port
use Rattle.model_line.specs.Machine as lines
use Rattle.lapd_timed.specs.Named.{Names}
use Rattle.lapd_timed.proofs.EventKeeps.{heard-keeps}
use Rattle.lapd_timed.proofs.OctetMeans.{hears-ended}
use Rattle.lapd_timed.proofs.Touching.{KeepsOthers}

-- the machine has a port of the line
pub ports-there : (card : octets_card.Held Store) (m : OctetCard) (line : ℕ) → CardStands card m → line < octets_card.line_count card → line < length m.ports
ports-there card m line on within = subst (λ n. line < n) (sym (ports-all shelf_of card (m, on)) ∙ on.ports.count) within

pub heard-touches : (line v : ℕ) (m : OctetCard) (f : frame.Event) → line < length m.ports → ports.meant (octet.at line (port.octet v)) m ≡ Some f → (heard : Heard) (tei : ℕ)
    → heard_of heard ≡ ended_at line (ports.after (octet.at line (port.octet v)) m) → IfSome (heard_of heard) (Names tei)
    → KeepsOthers tei m.card.config (line_at f.line m.card) (lines.after m.card.config f.what (line_at f.line m.card))
heard-touches line v m f there meant heard tei says touches =
    let h = hears-ended line v m there f meant in
    let names : Names tei h.what = subst (λ o. IfSome o (Names tei)) (says ∙ h.ended) touches in
    subst (λ (g : frame.Event). KeepsOthers tei m.card.config (line_at g.line m.card) (lines.after m.card.config g.what (line_at g.line m.card))) (sym h.is)
    (heard-keeps h.what tei names m.card.config (line_at line m.card))
