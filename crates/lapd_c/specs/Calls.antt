-- What a start of a card comes to, and why a request of one is refused.
use Rattle.std.specs.Prelude.{◌≡◌, ◌⊎◌, ℕ, false, Option, Some, None, IfSome, replicate}
use Rattle.lapd_count.specs.Counters.{none_counted}
use Rattle.model_card.specs.Card.{Card}
use Rattle.model_card.specs.Card as frames
use Rattle.model_card.specs.ports.Card as octets
use Rattle.model_line.specs.declared.config.Config.{Config}
use Rattle.model_line.specs.Refusal.{refusal}
use Rattle.model_line.specs.Request.{Request}
use Rattle.lapd_frame.specs.declared.refusals.Refusal.{Refusal}
use Rattle.lapd_card.specs.Kinds.{Machine, with_ports, alone, card_in, AnyStands, counters_of}
use Rattle.model_card.specs.declared.kinds.CardKind.{CardKind}
use Rattle.model_card.specs.declared.kinds.CardKind.TheVariants as kinds
use Rattle.lapd_c.specs.declared.card.CardHandle.{CardHandle}
use Rattle.lapd_c.specs.declared.kept.KeptCard.{KeptCard}
use Rattle.lapd_c.specs.declared.plain.config.PlainConfig.{PlainConfig}
use Rattle.lapd_c.specs.declared.plain.timers.PlainLengths.{PlainLengths}
use Rattle.lapd_c.specs.Slots.{HeldCard}
use Rattle.lapd_c.specs.Cards.{card_of, IsHandle}
use Rattle.lapd_c.specs.Config.{config_fault, config_in}
use Rattle.lapd_c.specs.Kept.{is_timed, timers_of, ChangesStandIn, TimersStandIn}
use Rattle.lapd_c.specs.LinkMarks.{AreUnmarked}
use Rattle.lapd_c.specs.Starts.{IsStart}
use Rattle.lapd_c.specs.Statuses as status
use Rattle.lapd_c.specs.Timers.{lengths_fault, lengths_in}
use Rattle.model_timed.specs.Changes.{unmarked}
use Rattle.model_timed.specs.Clock.{stopped}

-- The machine of a card that begins, by its kind.
abbrev pub fresh : CardKind → Config → Machine
fresh kinds.Octets c = with_ports (octets.fresh c)
fresh kinds.Frames c = alone (frames.fresh c)

-- As a card begins, it stands for a machine, nothing is counted, and no link waits for room.
pub record Begins (m : Machine) (kept : KeptCard) : Type 0 where
  pub stands : AnyStands kept.timed.card m
  pub counters : counters_of kept.timed.card ≡ replicate (card_in m).config.lines none_counted
  pub marks : AreUnmarked (card_in m).config.lines kept.refused

abbrev pub HasBegun : Machine → HeldCard → Type 0
HasBegun m None = ⊥
HasBegun m (Some kept) = Begins m kept

-- What a start of a card of a kind comes to. The timers of such a card are the caller's.
pub record IsCardStart (kind : CardKind) (config : PlainConfig) (old new : CardHandle) (result : ℕ) : Type 0 where
  pub handle : IsHandle new
  pub start : IsStart card_of config old new result
  pub begun : result ≡ status.ok → HasBegun (fresh kind (config_in config)) (card_of new)
  pub timed : result ≡ status.ok → is_timed new ≡ false

-- And of one that keeps its own: none of them runs, the moment is 0, and no link has changed. What is wrong with the
-- lengths is told after what is wrong with the configuration.
pub record IsTimedStart (kind : CardKind) (config : PlainConfig) (lengths : PlainLengths) (old new : CardHandle) (result : ℕ) : Type 0 where
  pub handle : IsHandle new
  pub second : IfSome (card_of old) (λ _. (result ≡ status.second_start) × (new ≡ old))
  pub fault : card_of old ≡ None → IfSome (config_fault config) (λ wrong. (result ≡ wrong) × (new ≡ old))
  pub wrong_lengths : card_of old ≡ None → config_fault config ≡ None
      → IfSome (lengths_fault lengths) (λ wrong. (result ≡ wrong) × (new ≡ old))
  pub otherwise : card_of old ≡ None → config_fault config ≡ None → lengths_fault lengths ≡ None
      → (result ≡ status.ok) ⊎ ((result ≡ status.no_memory) × (new ≡ old))
  pub begun : result ≡ status.ok → HasBegun (fresh kind (config_in config)) (card_of new)
  pub timed : result ≡ status.ok
      → TimersStandIn (timers_of new) (card_in (fresh kind (config_in config))) (stopped (lengths_in lengths))
  pub unmarked : result ≡ status.ok → ChangesStandIn (timers_of new) (card_in (fresh kind (config_in config))) unmarked

-- Why a request at a line is refused, if it is.
abbrev pub refusal_at : ℕ → Request → Card → Option Refusal
refusal_at line asked m = refusal m.config (frames.is_full m) asked (frames.line_at line m)
