-- What a line counts of what it answers.
use Rattle.std.specs.Prelude.{List}
use Rattle.lapd_count.specs.Counters.{More, with_all}
use Rattle.lapd_count.specs.Shown.{told_shown}
use Rattle.lapd_frame.specs.ShortLists.{listed}
use Rattle.lapd_line.specs.declared.frame_line.FrameLine.{FrameLine}
use Rattle.lapd_link_steps.specs.declared.report.BareReport.{BareReport}
use Rattle.lapd_line.specs.Reports.{cause_in}

-- What a report without references tells.
abbrev pub bare_shown : BareReport → List More
bare_shown bare = told_shown (listed bare.notes) (cause_in bare) bare.lost

abbrev pub with_counted : FrameLine → List More → FrameLine
with_counted line all = record line { counters = with_all line.counters all }
