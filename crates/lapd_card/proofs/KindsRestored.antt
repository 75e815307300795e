-- A card of either kind is restored: one of frames, or one of octets whose ports begin anew.
use Rattle.lapd_card.proofs.Vocabulary.{◌≡◌, ℕ, List, replicate, sym, subst, Config, Store, Port, PortsStand}
use Rattle.model_card.specs.declared.kinds.CardKind.{CardKind}
use Rattle.model_card.specs.declared.kinds.CardKind.TheVariants as kinds
use Rattle.model_card.specs.ports.Card.{with_fresh_ports}
use Rattle.model_card.specs.ports.Port.{fresh_port}
use Rattle.lapd_card.specs.FrameCard as frames
use Rattle.lapd_card.specs.Image.{AnyRestores, Restores}
use Rattle.lapd_card.specs.Kinds.{shelf_of}
use Rattle.lapd_card.specs.Stands.{HasPast}
use Rattle.lapd_card.specs.declared.kinds.AnyCard.TheVariants.{Octets}
use Rattle.lapd_card.proofs.OctetsBegin.{begun_stands}

pub octets_restored : {kind : CardKind} {c : Config} {front rest : List ℕ} {frames : frames.Held Store} {ports : List Port} → kind ≡ kinds.Octets → frames.config ≡ c → Restores shelf_of c front rest frames
    → PortsStand c.n201 ports (replicate c.lines fresh_port) → AnyRestores kind c front rest (Octets (record { frames = frames; ports = ports }))
octets_restored {kind} {c} {front} {rest} {frames} {ports} is same (l, read, stands) there =
    subst (λ kind. AnyRestores kind c front rest (Octets (record { frames = frames; ports = ports }))) (sym is)
    (l, read, record { stands = begun_stands shelf_of c l.card same read.saved.config stands.stands read.saved.begins there; counted = stands.counted })

pub octets_past : {c : Config} {front rest : List ℕ} {frames : frames.Held Store} {ports : List Port} → frames.config ≡ c → Restores shelf_of c front rest frames → PortsStand c.n201 ports (replicate c.lines fresh_port)
    → HasPast shelf_of (record { frames = frames; ports = ports })
octets_past {c} same (l, read, stands) there = (with_fresh_ports l.card, begun_stands shelf_of c l.card same read.saved.config stands.stands read.saved.begins there)
