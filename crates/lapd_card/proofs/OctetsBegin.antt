-- A card of octets as it begins.
use Rattle.lapd_card.proofs.Vocabulary.{◌≡◌, false≢true, ℕ, zero, suc, ◌<◌, List, [], ◌∷◌, length, replicate, get_or, refl, sym, ap, subst, ◌∙◌, arith, length-replicate, Option, None, Some, IfSome, Result, Ok, Err, IfOk, AllByRecursion, Config, Store, Port, PortStands, PortsStand}
use Rattle.std.specs.Result.{IsErr}
use Rattle.model_card.specs.ports.Card.{fresh, with_fresh_ports}
use Rattle.model_card.specs.ports.Port.{fresh_port}
use Rattle.model_card.proofs.OfPorts.Reaching.{reached_first}
use Rattle.model_card.proofs.Reaching.{fresh-begins}
use Rattle.model_card.specs.Reached.{MayBegin}
use Rattle.model_card.specs.Card as cards
use Rattle.lapd_card.specs.FrameCard as frame_card
use Rattle.lapd_card.specs.FrameStands.{FrameStands}
use Rattle.lapd_card.specs.Stands.{OctetCardStands}

-- what is said of a fault, where there was none
pub no_fault : {F : Type 0} (A B : F → Type 0) (o : Option F) → ((f : F) → A f → ⊥) → IfSome o A → IfSome o B
no_fault A B None never h = tt
no_fault A B (Some f) never h = absurd (never f h)

-- and of what there is without one, if there was one
pub none_begun : {T F : Type 0} (P : T → Type 0) (r : Result T F) → IsErr r → IfOk r P
none_begun P (Ok x) failed = absurd (false≢true failed)
none_begun P (Err e) failed = tt

abbrev pub IsFreshPort : ℕ → Port → Type 0
IsFreshPort n201 x = PortStands n201 x fresh_port

each_fresh : (n201 : ℕ) (ports : List Port) → AllByRecursion (IsFreshPort n201) ports → (number : ℕ) (other : Port) → number < length ports
    → PortStands n201 (get_or ports number other) (get_or (replicate (length ports) fresh_port) number fresh_port)
each_fresh n201 [] all number other few = absurd (omega (arith, few))
each_fresh n201 (x ∷ ports) (first, all) zero other few = first
each_fresh n201 (x ∷ ports) (first, all) (suc number) other few = each_fresh n201 ports all number other (omega (arith, few))

pub fresh_ports : (n201 count : ℕ) (ports : List Port) → length ports ≡ count → AllByRecursion (IsFreshPort n201) ports → PortsStand n201 ports (replicate count fresh_port)
fresh_ports n201 count ports is all = record {
  count = is ∙ sym (length-replicate count fresh_port);
  each = subst (λ n. (number : ℕ) (other : Port) → number < length ports → PortStands n201 (get_or ports number other) (get_or (replicate n fresh_port) number fresh_port)) is (each_fresh n201 ports all);
}

-- ports that begin, beside a card of frames with which one may begin
pub begun_stands : {S : Type 0} (store : S → Store) (c : Config) (m : cards.Card) {frames : frame_card.Held S} {ports : List Port} → frames.config ≡ c → m.config ≡ c → FrameStands store frames m → MayBegin m
    → PortsStand c.n201 ports (replicate c.lines fresh_port) → OctetCardStands store (record { frames = frames; ports = ports }) (with_fresh_ports m)
begun_stands store c m {frames} {ports} same is stands begins there = record {
  frames = stands;
  ports = subst (λ n. PortsStand frames.config.n201 ports (replicate n fresh_port)) (ap (λ d. d.lines) (sym is)) (subst (λ d. PortsStand d.n201 ports (replicate c.lines fresh_port)) (sym same) there);
  reached = reached_first m begins;
}

pub fresh_stands : {S : Type 0} (store : S → Store) (c : Config) {frames : frame_card.Held S} {ports : List Port} → frames.config ≡ c → FrameStands store frames (cards.fresh c)
    → PortsStand c.n201 ports (replicate c.lines fresh_port) → OctetCardStands store (record { frames = frames; ports = ports }) (fresh c)
fresh_stands store c same stands there = begun_stands store c (cards.fresh c) same refl stands (fresh-begins c stands.reached.config) there
