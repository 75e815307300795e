-- When the state of a link changed last, as a question is told it, in words of the marks that stand beside the card.
use Rattle.std.specs.Prelude.{◌≡◌, ◌≢◌, ◌<◌, ℕ, nat_lt, true, Some, Ok, Err, if◌then◌else◌}
use Rattle.std.specs.Option.{unwrap_or}
use Rattle.lapd_frame.specs.declared.services.Service.{Service}
use Rattle.lapd_card.specs.Kinds.{card_in, AnyStands, Machine}
use Rattle.lapd_timed.specs.Stands.{ChangesStand}
use Rattle.lapd_timed.specs.declared.card_timers.CardTimers.{CardTimers}
use Rattle.model_link.specs.Link.{state_number}
use Rattle.model_line.specs.Line.{Line, has_tei, link_number, link_of, place_in}
use Rattle.model_card.specs.Card.{Card, line_at}
use Rattle.model_timed.specs.Changes.{Marks, standing}
use Rattle.lapd_c.specs.declared.card.CardHandle.{CardHandle}
use Rattle.lapd_c.specs.declared.kept.KeptCard.{KeptCard}
use Rattle.lapd_c.specs.Changed.{TellsWord, WithMarks, changed_of}
use Rattle.lapd_c.specs.Services.{number_of}

-- The number of the link of a service with a TEI that is on the line: its mark stands by it.
abbrev pub number_in : Service → ℕ → Line → ℕ
number_in service tei l = link_number (unwrap_or (place_in l tei) 0) service

pub record ChangesAreAnswered : Type 0 where
  -- It is the moment of the link's mark, if its TEI is on the line. No TEI of a terminal is over 126.
  pub moment : (line tei : ℕ) (s : Service) (m : Card) (marks : Marks) → let l = line_at line m in changed_of line (number_of s) tei m marks
      ≡ (if nat_lt 126 tei then Err 16 else if has_tei tei l then Ok (marks line (number_in s tei l)).moment else Err 2)
  pub no_service : (line service tei : ℕ) (m : Card) (marks : Marks) → (service ≢ 0) → (service ≢ 16) → changed_of line service tei m marks ≡ Err 15
  -- The state in a mark that is up to date is that of its link.
  pub of_link : (tei : ℕ) (s : Service) (l : Line) → has_tei tei l ≡ true → standing (number_in s tei l) l ≡ state_number (link_of s tei l).state
  -- If there is one, it is written, and the status is OK; else the status says why.
  pub told : (is result after : ℕ) → TellsWord (Ok is) result after → (result ≡ 0) × (after ≡ is)
  pub not_told : (wrong result after : ℕ) → TellsWord (Err wrong) result after → (result ≡ wrong) × (wrong ≢ 0)
  -- So it is told of each card that keeps its own timers, and of the marks that these have noted.
  pub its_card : (line service tei result after : ℕ) (h : CardHandle) (kept : KeptCard) (timers : CardTimers) (m : Machine) (marks : Marks)
      → WithMarks h (λ m marks. line < m.config.lines → TellsWord (changed_of line service tei m marks) result after)
      → h.slot.card ≡ Some kept → kept.timed.timers ≡ Some timers → AnyStands kept.timed.card m → ChangesStand timers (card_in m) marks
      → line < (card_in m).config.lines → TellsWord (changed_of line service tei (card_in m) marks) result after
