-- What a card holds.
use Rattle.std.specs.Prelude.{◌≡◌, ℕ, ◌+◌, List, refl}
use Rattle.std.specs.Coded.{Coded, code_by, coded×, coded_list}
use Rattle.model_card.specs.Stored.{limit}
use Rattle.model_line.specs.declared.config.Config.{Config}
use Rattle.model_line.specs.contracts.config.Config as config
use Rattle.model_line.specs.Usual.{usual}
use Rattle.lapd_line.specs.declared.frame_line.FrameLine.{FrameLine}
use Rattle.lapd_line.specs.declared.marks.Marks.{Marks}
use Rattle.lapd_line.specs.contracts.frame_line.FrameLine as line
use Rattle.lapd_line.specs.contracts.marks.Marks as marks

pub record Held (S : Type 0) : Type 0 where
  pub config : Config
  pub lines : List FrameLine
  pub shelf : S
  -- the lines on which a frame waits
  pub waiting : Marks

-- the same as the tuple of its fields
abbrev pub held_code : {S : Type 0} → Coded S → Coded (Held S)
held_code {S} shelf =
    code_by (Config × (List FrameLine × (S × Marks)))
    (coded× config.the_row.coded (coded× (coded_list line.the_row.coded) (coded× shelf marks.the_row.coded)))
    (λ h. (h.config, (h.lines, (h.shelf, h.waiting))))
    (λ p. record { config = p.0; lines = p.1.0; shelf = p.1.1.0; waiting = p.1.1.1 })
    (λ _. refl)

abbrev pub line_count : {S : Type 0} → Held S → ℕ
line_count card = card.config.lines

-- Room for every frame of the card: a header, and N201 octets.
abbrev pub room_for_frames : {S : Type 0} → Held S → ℕ
room_for_frames card = card.config.n201 + 4

-- What a card may store, of eight terminals, four control frames, N201 of 260 and 64 slots.
few_octets : limit usual ≡ 16940
few_octets = refl
