-- What a question changes, and what it writes, in words of their own: those of `lapd.h`.
use Rattle.std.specs.Prelude.{◌≡◌, ◌≢◌, ℕ, true, false, Option, None, Result, Ok, Err}
use Rattle.lapd_card.specs.Kinds.{Machine}
use Rattle.lapd_c.specs.declared.card.CardHandle.{CardHandle}
use Rattle.lapd_c.specs.CallsServed.{is_of}
use Rattle.lapd_c.specs.Cards.{card_of, HandleStands}
use Rattle.lapd_c.specs.HandlesLeft.{IsLeft}
use Rattle.lapd_c.specs.Kept.{is_timed}
use Rattle.lapd_c.specs.Questions.{Has, IsQuestion, Lacks, Questioned}
use Rattle.lapd_c.specs.Wanted.{Wanted}

-- Whatever is asked, the card is as it was. If no card is there, or one that is not asked this, the status says so. Unless it is OK
-- nothing is written.
pub record ChangesNothing {A : Type 0} (cards : Wanted) (old new : CardHandle) (result : ℕ) (before after : A) : Type 0 where
  pub left : IsLeft new
  pub unchanged : card_of new ≡ card_of old
  pub no_card : card_of old ≡ None → (result ≡ 11) × (new ≡ old)
  pub other_card : (m : Machine) → HandleStands old m → is_of cards (is_timed old) m ≡ false → result ≡ 26
  pub unwritten : result ≢ 0 → after ≡ before

-- A card that stands for this machine is asked, and it has the line.
pub record IsAsked (cards : Wanted) (line : Option ℕ) (h : CardHandle) (m : Machine) : Type 0 where
  pub stands : HandleStands h m
  pub of_card : is_of cards (is_timed h) m ≡ true
  pub has_line : Has line m

-- The machine's word is written, and nothing else; or the status says why there is none.
pub record IsTold {A : Type 0} (cards : Wanted) (line : Option ℕ) (word : Machine → Result A ℕ) (old : CardHandle) (result : ℕ) (after : A) : Type 0 where
  pub no_line : (m : Machine) → HandleStands old m → is_of cards (is_timed old) m ≡ true → Lacks line m → result ≡ 14
  pub wrong : (m : Machine) (status : ℕ) → IsAsked cards line old m → word m ≡ Err status → (result ≡ status) × (status ≢ 0)
  pub told : (m : Machine) (is : A) → IsAsked cards line old m → word m ≡ Ok is → (result ≡ 0) × (after ≡ is)

-- So of each question that asks for a value of a type.
pub record QuestionsChangeNothing (A : Type 0) : Type 0 where
  pub nothing : (cards : Wanted) (old new : CardHandle) (result : ℕ) (before after : A) → IsQuestion cards old new result before after
      → ChangesNothing cards old new result before after
  pub answered : (cards : Wanted) (line : Option ℕ) (word : Machine → Result A ℕ) (old new : CardHandle) (result : ℕ) (before after : A)
      → Questioned cards line word old new result before after → ChangesNothing cards old new result before after × IsTold cards line word old result after
