-- What a report shows of a machine's answers.
use Rattle.std.specs.Prelude.{ℕ, false}
use Rattle.model_line.specs.Event as line
use Rattle.model_card.specs.ports.Port as port
use Rattle.lapd_c.specs.declared.plain.reports.PlainReport.{PlainReport}
use Rattle.lapd_c.specs.Reports.{Shows, ShowsPull}

-- What a card of frames tells: all of it, and nothing else. The next frame is no matter of a report alone.
abbrev pub ShowsAnswer : PlainReport → line.Answer → Type 0
ShowsAnswer r (line.told t) = Shows r t
ShowsAnswer r (line.refused why) = ⊥
ShowsAnswer r (line.gave next) = ⊥

-- What a card of octets does; beside the octet that a pull gives.
abbrev pub ShowsReply : PlainReport → port.Answer → Type 0
ShowsReply r (port.told t) = Shows r t
ShowsReply r (port.refused why) = ⊥
ShowsReply r (port.pulled value begun orders) = ShowsPull r begun false orders

abbrev pub octet_of : port.Answer → ℕ
octet_of (port.told t) = 0
octet_of (port.refused why) = 0
octet_of (port.pulled value begun orders) = value
