-- A card in C that is saved into an image, and one that is restored from it.
use Rattle.std.specs.Prelude.{◌≡◌, ◌≢◌, ◌≤◌, ◌<◌, ◌⊎◌, ℕ, nat_lt, true, List, length, take, drop, None, Some, IfSome, is_some, if◌then◌else◌}
use Rattle.lapd_card.specs.Image.{begun_as}
use Rattle.lapd_card.specs.Kinds.{counters_of, card_in, frames_of, kind_of, AnyStands, FrameCardStands, Machine}
use Rattle.lapd_timed.specs.Image.{kind_in, MayBeSaved}
use Rattle.model_image.specs.Images.{image_of, Saved}
use Rattle.model_line.specs.Most.{most_octets}
use Rattle.model_image.specs.Restored.{IsRestored}
use Rattle.model_image.specs.Sound.{IsSaved}
use Rattle.lapd_c.specs.declared.card.CardHandle.{CardHandle}
use Rattle.lapd_c.specs.declared.kept.KeptCard.{KeptCard}
use Rattle.lapd_c.specs.declared.plain.config.PlainConfig.{PlainConfig}
use Rattle.lapd_c.specs.Slots.{HeldCard}
use Rattle.lapd_c.specs.Cards.{card_of, HandleStands, IsHandle}
use Rattle.lapd_c.specs.Config.{config_fault, config_in}
use Rattle.lapd_c.specs.Kept.{is_timed}
use Rattle.lapd_c.specs.LinkMarks.{is_marked, marks_of}
use Rattle.lapd_c.specs.Questions.{IsQuestion}
use Rattle.lapd_c.specs.Reopened.{is_there}
use Rattle.lapd_c.specs.Statuses as status
use Rattle.lapd_c.specs.Waiting.{card_waits}
use Rattle.lapd_c.specs.Wanted.{of_any}

-- So many octets at most takes an image of a card with this configuration, also of one that keeps its own timers.
abbrev pub image_octets : PlainConfig → ℕ
image_octets c = if is_some (config_fault c) then 0 else most_octets (config_in c) true

-- What C holds is, but for its ports, this that may be saved: the card, what it has counted, which links wait, and its timers.
pub record IsHeldAs (kept : KeptCard) (s : Saved) : Type 0 where
  pub kind : kind_of kept.timed.card ≡ kind_in s
  pub lines : FrameCardStands (frames_of kept.timed.card) s.card
  pub counted : counters_of kept.timed.card ≡ s.counted
  pub waits : card_waits s.card kept.refused ≡ s.waits
  pub timers : MayBeSaved kept.timed.timers s.clock s

abbrev pub HandleHolds : HeldCard → Saved → Type 0
HandleHolds None s = ⊥
HandleHolds (Some kept) s = IsHeldAs kept s

-- In so much room a save is OK, if that is as much as an image may have.
abbrev pub save_status : ℕ → ℕ → ℕ
save_status room most = if nat_lt room most then status.wrong_length else status.ok

-- An image stands in front of a room, and so many octets it has. What stood in the room after it stands there still.
abbrev pub StandsInFront : List ℕ → List ℕ → List ℕ × ℕ → Type 0
StandsInFront image room after = (after.1 ≡ length image) × (take after.1 after.0 ≡ image) × (drop after.1 after.0 ≡ drop after.1 room)

-- A save changes nothing of the card. If there is room for all that an image of it may have, the image stands in front; and it is one
-- that a restore takes.
pub record IsCardSave (old new : CardHandle) (result : ℕ) (before after : List ℕ × ℕ) : Type 0 where
  pub question : IsQuestion of_any old new result before after
  pub told : (m : Machine) → HandleStands old m → result ≡ save_status (length before.0) (most_octets (card_in m).config (is_timed old))
  pub saved : (s : Saved) → HandleHolds (card_of old) s → most_octets s.card.config (is_timed old) ≤ length before.0
      → IsSaved s × StandsInFront (image_of s) before.0 after

-- What an image says is held: its ports begin anew, each line has a place for its links that wait, and no link waits whose TEI is
-- not on the line.
pub record IsRead (image : List ℕ) (kept : KeptCard) : Type 0 where
  pub saved : Saved
  pub restored : IsRestored image saved
  pub held : IsHeldAs kept saved
  pub begins : AnyStands kept.timed.card (begun_as (kind_in saved) saved.card)
  pub lines : length kept.refused ≡ saved.card.config.lines
  pub marked : (line place : ℕ) → line < saved.card.config.lines → place < 254 → is_marked (marks_of kept.refused line) place ≡ true → is_there line saved.card place ≡ true

abbrev pub HandleReads : List ℕ → HeldCard → Type 0
HandleReads image None = ⊥
HandleReads image (Some kept) = IsRead image kept

-- These octets are the image of no card that may be saved.
abbrev pub IsNoImage : List ℕ → Type 0
IsNoImage image = (s : Saved) → IsSaved s → image_of s ≡ image → ⊥

-- A restore is a start: of the card of an image, or there is none but the one that was there.
abbrev pub IsFault : ℕ → Type 0
IsFault result = (result ≡ status.bad_image) ⊎ (result ≡ status.no_memory)

pub record IsCardRestore (image : List ℕ) (old new : CardHandle) (result : ℕ) : Type 0 where
  pub handle : IsHandle new
  pub second : IfSome (card_of old) (λ _. result ≡ status.second_start)
  pub otherwise : card_of old ≡ None → (result ≡ status.ok) ⊎ IsFault result
  pub fault : result ≢ status.ok → new ≡ old
  pub restored : result ≡ status.ok → HandleReads image (card_of new)
  pub bad_image : result ≡ status.bad_image → IsNoImage image
