-- What a script's card stores is within its bound, as it is after every list of events.
use Rattle.lapd_sim.proofs.OfMachine.Vocabulary.{◌≡◌, ℕ, ◌+◌, ◌*◌, ◌≤◌, ◌<◌, List, [], ◌∷◌, take, Option, Some, None, refl, sym, ap, ◌∙◌, subst, arith, All-nil, All-cons, All-head, All-tail, All-take, Config, IsInRange, CardKind, Octets, Frames, Setup, Board, Event, after, fresh, after_all, IsAtLine, AreAtLines, held, script_events, HasRun, bound_of, ScriptsStayWithin, option_map_or, Bool, true}
use Rattle.lapd_sim.proofs.OfMachine.Vocabulary.{false, cond, is_terminal, terminal_bound}
use Rattle.lapd_sim.proofs.OfMachine.Vocabulary.{after_is_sound, config_after, OctetCard, IsSoundOctetCard, What, of_octets, of_frames, octets_after, frames_after}
use Rattle.lapd_script.specs.Bound.{bound}
use Rattle.model_card.proofs.Stored as cards_stored
use Rattle.model_card.specs.Event as frames
use Rattle.model_card.specs.Run as runs
use Rattle.model_card.specs.Sound as cards
use Rattle.model_card.specs.Stored as card_stored
use Rattle.model_line.specs.Event as line
use Rattle.model_card.proofs.OfPorts.Sound as ports_sound
use Rattle.model_card.proofs.OfPorts.Stored as ports_stored
use Rattle.model_card.specs.ports.Card as ports
use Rattle.model_card.specs.ports.Event as octets
use Rattle.model_card.specs.ports.Port as port
use Rattle.model_card.specs.ports.Run as octet_runs
use Rattle.model_card.specs.ports.Stored as octet_stored
use Rattle.lapd_sim.proofs.OfMachine.Events.{scripts_are_runs}

-- A board's card is sound, as one of its kind, and has the board's configuration.
abbrev SoundAs : CardKind → OctetCard → Type 0
SoundAs Octets m = IsSoundOctetCard m
SoundAs Frames m = cards.IsSound m.card

record Fits (b : Board) : Type 0 where
  config : b.card.card.config ≡ b.config
  sound : SoundAs b.kind b.card

sound-octets : (m : OctetCard) (e : octets.Event) → IsSoundOctetCard m → e.line < m.card.config.lines → IsSoundOctetCard (ports.after e m)
unfolding octet_runs.after_all
sound-octets m e s within = ports_sound.cards_stay_sound.always m (e ∷ []) s (All-cons (octet_runs.IsAtLine m) e [] within (All-nil (octet_runs.IsAtLine m)))

step : (kind : CardKind) (c : Config) (m : OctetCard) (number : ℕ) (what : What) → Fits (record { kind = kind; config = c; card = m }) → number < c.lines
    → Fits (after (record { line = number; what = what }) (record { kind = kind; config = c; card = m }))
step Octets c m number what f within = go (of_octets what)
  where
    here : number < m.card.config.lines
    here = subst (λ (x : Config). number < x.lines) (sym f.config) within

    go : (o : Option port.Event) → Fits (record { kind = Octets; config = c; card = option_map_or (octets_after number m) o m })
    go None = f
    go (Some e) = record { config = config_after m (octets.at number e) ∙ f.config; sound = sound-octets m (octets.at number e) f.sound here }
step Frames c m number what f within = go (of_frames what)
  where
    here : number < m.card.config.lines
    here = subst (λ (x : Config). number < x.lines) (sym f.config) within

    go : (o : Option line.Event) → Fits (record { kind = Frames; config = c; card = option_map_or (frames_after number m) o m })
    go None = f
    go (Some e) = record { config = f.config; sound = after_is_sound m.card (frames.at number e) f.sound here }

fits-all : (b : Board) (events : List Event) → Fits b → AreAtLines b events → Fits (after_all b events)
unfolding after_all
fits-all b [] f all = f
fits-all b (e ∷ events) f all =
    fits-all (after e b) events (step b.kind b.config b.card e.line e.what f (All-head (IsAtLine b) e events all)) (All-tail (IsAtLine b) e events all)

fits-fresh : (kind : CardKind) (c : Config) → IsInRange c → Fits (fresh kind c)
fits-fresh Octets c ranged = record { config = refl; sound = ports_sound.cards_stay_sound.begins c ranged }
fits-fresh Frames c ranged = record { config = refl; sound = (ports_sound.cards_stay_sound.begins c ranged).card }

-- the bound, as one product
as-bound : (lines a b rest : ℕ) → lines * b + rest + lines * a ≡ lines * (a + b) + rest
as-bound lines a b rest = omega arith

bound-by : (c : Config) (of_terminal : Bool)
    → c.lines * (8 * c.control * c.terminals + cond of_terminal (8 * (c.terminals + 1)) (32 + 12)) + c.slots * c.n201 + c.lines * (2 * c.n201 + 10)
    ≡ cond of_terminal (terminal_bound c.lines c.terminals c.control c.slots c.n201) (bound c.lines c.terminals c.control c.slots c.n201)
bound-by c true = as-bound c.lines (2 * c.n201 + 10) (8 * c.control * c.terminals + 8 * (c.terminals + 1)) (c.slots * c.n201) ∙ ap (λ n. c.lines * n + c.slots * c.n201) (omega arith)
bound-by c false = as-bound c.lines (2 * c.n201 + 10) (8 * c.control * c.terminals + (32 + 12)) (c.slots * c.n201) ∙ ap (λ n. c.lines * n + c.slots * c.n201) (omega arith)

bound-is : (c : Config) → octet_stored.limit c ≡ bound_of c
bound-is c = bound-by c (is_terminal c)

less : (c : Config) → card_stored.limit c ≤ bound_of c
less c = subst (λ n. card_stored.limit c ≤ n) (bound-is c) (omega arith)

held-few : (b : Board) → Fits b → held b ≤ bound_of b.config
unfolding octet_runs.after_all runs.after_all
held-few b f = go b.kind f.sound
  where
    go : (kind : CardKind) → SoundAs kind b.card → held (record b { kind = kind }) ≤ bound_of b.config
    go Octets s =
        let few = ports_stored.stored_within_limit b.card [] s (All-nil (octet_runs.IsAtLine b.card)) in
        subst (λ c. octet_stored.stored b.card ≤ bound_of c) f.config (subst (λ n. octet_stored.stored b.card ≤ n) (bound-is b.card.card.config) few)
    go Frames s =
        let few = cards_stored.stored_within_limit.now b.card.card s in
        subst (λ c. card_stored.stored b.card.card ≤ bound_of c) f.config (omega (arith, few, less b.card.card.config))

config-stays : (b : Board) (events : List Event) → (after_all b events).config ≡ b.config
unfolding after_all
config-stays b [] = refl
config-stays b (e ∷ events) = config-stays (after e b) events

kind-stays : (b : Board) (events : List Event) → (after_all b events).kind ≡ b.kind
unfolding after_all
kind-stays b [] = refl
kind-stays b (e ∷ events) = kind-stays (after e b) events

run-within : (kind : CardKind) (c : Config) (events : List Event) → IsInRange c → AreAtLines (fresh kind c) events → held (after_all (fresh kind c) events) ≤ bound_of c
run-within kind c events ranged within =
    subst (λ x. held (after_all (fresh kind c) events) ≤ bound_of x) (config-stays (fresh kind c) events)
    (held-few (after_all (fresh kind c) events) (fits-all (fresh kind c) events (fits-fresh kind c ranged) within))

module _ (text : List ℕ) (setup : Setup) (run : HasRun text setup) where
  same-config : run.config ≡ setup.board.config
  same-config = sym (ap (λ (x : Board). x.config) run.board ∙ config-stays (fresh run.kind run.config) (script_events text))

  same-kind : run.kind ≡ setup.board.kind
  same-kind = sym (ap (λ (x : Board). x.kind) run.board ∙ kind-stays (fresh run.kind run.config) (script_events text))

  always-within : (count : ℕ) → held (after_all (fresh setup.board.kind setup.board.config) (take count (script_events text))) ≤ bound_of setup.board.config
  always-within count =
      subst (λ k. held (after_all (fresh k setup.board.config) (take count (script_events text))) ≤ bound_of setup.board.config) same-kind
      (subst (λ c. held (after_all (fresh run.kind c) (take count (script_events text))) ≤ bound_of c) same-config
      (run-within run.kind run.config (take count (script_events text)) run.in_range (All-take (IsAtLine (fresh run.kind run.config)) count (script_events text) run.at_lines)))

  last-within : held setup.board ≤ bound_of setup.board.config
  last-within = grind (arith, held, bound_of, same-config, run-within, script_events)

pub scripts_stay_within : ScriptsStayWithin
scripts_stay_within = record {
  always = λ text setup count there. always-within text setup (scripts_are_runs text setup there) count;
  last = λ text setup there. last-within text setup (scripts_are_runs text setup there);
  same = bound-is;
}
