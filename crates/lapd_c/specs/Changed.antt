-- When the state of a link changed last, of a card that keeps its own timers.
use Rattle.std.specs.Prelude.{◌≡◌, ◌≢◌, ℕ, Result, Ok, Err, option_map}
use Rattle.lapd_frame.specs.declared.refusals.Refusal.TheVariants.{NoLink}
use Rattle.lapd_frame.specs.declared.services.Service.{Service}
use Rattle.lapd_card.specs.Kinds.{Machine, card_in}
use Rattle.lapd_timed.specs.Marked.{moment_in}
use Rattle.lapd_timed.specs.Places.{link_on}
use Rattle.model_card.specs.Card.{Card, line_at}
use Rattle.model_timed.specs.Changes.{Marks}
use Rattle.lapd_c.specs.declared.card.CardHandle.{CardHandle}
use Rattle.lapd_c.specs.Cards.{HandleStands}
use Rattle.lapd_c.specs.Kept.{ChangesStandIn, timers_of}
use Rattle.lapd_c.specs.QuestionWords.{or_status}
use Rattle.lapd_c.specs.Statuses as status
use Rattle.lapd_c.specs.Statuses.{refusal_status}
use Rattle.lapd_c.specs.Timers.{link_in}

-- What holds of each machine that stands for a card, and of what is noted of its links.
abbrev pub WithMarks : CardHandle → (Card → Marks → Type 0) → Type 0
WithMarks h holds = (m : Machine) (marks : Marks) → HandleStands h m → ChangesStandIn (timers_of h) (card_in m) marks → holds (card_in m) marks

-- The moment that is noted of a link, if its TEI is on the line.
abbrev pub changed_at : ℕ → Card → Marks → Result (Service × ℕ) ℕ → Result ℕ ℕ
changed_at line m marks (Ok link) = or_status (refusal_status NoLink) (option_map (moment_in marks line) (link_on link.0 link.1 (line_at line m)))
changed_at line m marks (Err wrong) = Err wrong

abbrev pub changed_of : ℕ → ℕ → ℕ → Card → Marks → Result ℕ ℕ
changed_of line service tei m marks = changed_at line m marks (link_in service tei)

-- A word is written, or the status says why there is none.
abbrev pub TellsWord : Result ℕ ℕ → ℕ → ℕ → Type 0
TellsWord (Ok is) result after = (result ≡ status.ok) × (after ≡ is)
TellsWord (Err wrong) result after = (result ≡ wrong) × (wrong ≢ status.ok)
