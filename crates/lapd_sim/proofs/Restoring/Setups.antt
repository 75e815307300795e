-- A setup whose card is restored from its own image stands for what it stood for.
use Rattle.std.proofs.Common.{◌≡◌, ℕ, ◌^◌, ◌<◌, length, List, Option, Ok, refl, sym, ap, ◌∙◌, subst}
use Rattle.lapd_card.specs.Kinds.{config_of, counters_of, kind_of}
use Rattle.lapd_card.specs.declared.kinds.AnyCard.{AnyCard}
use Rattle.lapd_timed.specs.Image.{IsRestoredFrom}
use Rattle.lapd_timed.specs.declared.card_timers.CardTimers.{CardTimers}
use Rattle.model_bits.proofs.BitLemmas.{number_of-low_bits}
use Rattle.model_bits.specs.Bits.{bits, low_bits, number_of}
use Rattle.model_bits.specs.Check.{check}
use Rattle.model_card.specs.declared.kinds.CardKind.{CardKind}
use Rattle.model_card.specs.declared.kinds.CardKind.TheVariants.{Frames, Octets}
use Rattle.model_image.specs.Images.{Saved, image_of}
use Rattle.model_image.specs.Sound.{IsSaved}
use Rattle.lapd_sim.proofs.Boards.{inside}
use Rattle.lapd_sim.proofs.Restoring.Cards.{clock-stands, counters-are, on-board}
use Rattle.lapd_sim.proofs.Vocabulary.{Each, Hears, OnBoard, Sends, SetupStands, scene}
use Rattle.lapd_sim.specs.Obeyed.{IsImageOf}
use Rattle.lapd_sim.specs.Stands.{ClockStands}
use Rattle.lapd_sim.specs.declared.setup.Setup as rust
unfoldable use Rattle.lapd_sim.specs.machine.Images.{image, sum_of}
use Rattle.lapd_sim.specs.machine.Images.{saved}
use Rattle.lapd_sim.specs.machine.Setup.{Setup}
use Rattle.lapd_sim.specs.machine.Steps.{Scene, after_save, for_frames}
use Rattle.lapd_transcript.specs.Text.{image_text}

pub image-is : (m : Setup) (octets : List ℕ) → octets ≡ image m → image_of (saved m) ≡ octets
unfolding image
image-is m octets is = sym is

-- Its image is refused by nobody.
pub not-refused : (m : Setup) (octets : List ℕ) → IsImageOf m octets → ((s : Saved) → IsSaved s → image_of s ≡ octets → ⊥) → ⊥
not-refused m octets h refused = refused (saved m) h.is_saved (image-is m octets h.octets_are)

module _ (s : rust.Setup) (octets : List ℕ) (card : AnyCard) (waits : List ℕ) (timers : Option CardTimers) (m : Setup) (h : SetupStands s m) (kind : kind_of s.timed.card ≡ Frames)
    (image_is : IsImageOf m octets) (from : IsRestoredFrom octets card waits timers) where
  on-it : OnBoard card m.board
  on-it =
      on-board m octets card waits timers image_is.is_saved (image-is m octets image_is.octets_are) from
      s.timed.card (h.board.kind ∙ kind) h.board (inside s.timed.card m.board h.board)

  pub same-config : config_of card ≡ s.config
  same-config = sym on-it.config ∙ h.config

  pub stands-anew : (new : rust.Setup) → new.config ≡ s.config → new.timed.card ≡ card → new.timed.timers ≡ timers
      → new.terminals ≡ s.terminals → new.listeners ≡ s.listeners → new.losses ≡ s.losses → SetupStands new m
  stands-anew new config card_is timers_are terminals listeners losses = record {
    config = h.config ∙ sym config;
    board = subst (λ k. OnBoard k m.board) (sym card_is) on-it;
    counters = ap counters_of card_is ∙ counters-are m octets card waits timers image_is.is_saved (image-is m octets image_is.octets_are) from
        s.timed.card (h.board.kind ∙ kind) h.board (inside s.timed.card m.board h.board);
    timers = subst (λ t. ClockStands t m.board.card.card m.clock m.marks) (sym timers_are)
        (clock-stands m octets card waits timers image_is.is_saved (image-is m octets image_is.octets_are) from s.timed.timers h.timers);
    terminals = subst (λ ts. Each Sends ts.items m.terminals) (sym terminals) h.terminals;
    listeners = subst (λ ls. Each Hears ls.items m.taken) (sym listeners) h.listeners;
    losses = h.losses ∙ sym losses;
  }

-- a word of a card of frames
pub frames-fine : (k : CardKind) (s : Scene) → k ≡ Frames → for_frames k (Ok s) ≡ Ok s
frames-fine Frames s is = refl
frames-fine Octets s is = absurd (cc)

-- The sum is what the check of a frame of these octets would be.
pub sum-value : (n : ℕ) (octets : List ℕ) → n < 2 ^ 16 → low_bits 16 n ≡ check (bits octets) → n ≡ sum_of octets
unfolding sum_of
sum-value n octets small is = sym (number_of-low_bits 16 n small) ∙ ap number_of is

-- What is shown of the image.
pub image-shown : (m : Setup) (long sum : ℕ) → long ≡ length (image m) → sum ≡ sum_of (image m) → ◌≡◌ {A = Scene} (record { setup = m; text = image_text long sum }) (after_save (scene m))
image-shown m long sum long-is sum-is = λ i. record { setup = m; text = image_text (long-is i) (sum-is i) }
