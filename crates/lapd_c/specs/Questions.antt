-- What a question to a card comes to: it changes nothing, and what is written is the machine's word.
use Rattle.std.specs.Prelude.{◌≡◌, ◌≢◌, ◌≤◌, ◌<◌, ℕ, Option, Some, None, Result, IfOk, IfErr}
use Rattle.lapd_card.specs.Kinds.{Machine, card_in}
use Rattle.lapd_c.specs.declared.card.CardHandle.{CardHandle}
use Rattle.lapd_c.specs.Cards.{card_of, IsHandle}
pub use Rattle.lapd_c.specs.QuestionWords.{begun_frame_of, begun_of, heard_frame_of, heard_of, in_front, limit_of, lines_of, link_counters_at, link_counters_of, or_status, room_at, room_of, room_told, state_of, stored_of, waiting_from}
use Rattle.lapd_c.specs.Statuses as status
use Rattle.lapd_c.specs.Wanted.{Wanted, IsOther, OfEach}

-- Whatever is asked.
pub record IsQuestion {A : Type 0} (cards : Wanted) (old new : CardHandle) (result : ℕ) (before after : A) : Type 0 where
  pub handle : IsHandle new
  pub unchanged : card_of new ≡ card_of old
  -- If there is no card, or if it is none of those that are asked, the status says so; unless it is OK, nothing is written.
  pub no_card : card_of old ≡ None → (result ≡ status.no_card) × (new ≡ old)
  pub wrong_card : IsOther cards old → result ≡ status.wrong_card
  pub unwritten : result ≢ status.ok → after ≡ before

-- Of a card, or of a line that it has, or not.
abbrev pub Lacks : Option ℕ → Machine → Type 0
Lacks None m = ⊥
Lacks (Some line) m = (card_in m).config.lines ≤ line

abbrev pub Has : Option ℕ → Machine → Type 0
Has None m = Unit {0}
Has (Some line) m = line < (card_in m).config.lines

-- What is asked of a machine that stands for the card: its word is written, or the status says why it has none, and is not OK.
pub record Questioned {A : Type 0} (cards : Wanted) (line : Option ℕ) (word : Machine → Result A ℕ) (old new : CardHandle) (result : ℕ)
    (before after : A) : Type 0 where
  pub question : IsQuestion cards old new result before after
  pub wrong_line : OfEach cards old (λ m. Lacks line m → result ≡ status.wrong_line)
  pub wrong : OfEach cards old (λ m. Has line m → IfErr (word m) (λ wrong. result ≡ wrong))
  pub not_ok : OfEach cards old (λ m. Has line m → IfErr (word m) (λ wrong. wrong ≢ status.ok))
  pub told : OfEach cards old (λ m. Has line m → IfOk (word m) (λ is. (result ≡ status.ok) × (after ≡ is)))
