-- Hand-written answers for `show_delivered`.
use Rattle.lapd_c.proofs.Vocabulary.{◌≤◌, ℕ, List, length, Option, subst, Shows, contents_or_none}
use Rattle.lapd_line.specs.Reports.{told_beside}
use Rattle.lapd_c.proofs.frames.show_delivered.Goals as goal

pub returns : goal.returns
returns c = subst (λ (o : Option (List ℕ)). length (contents_or_none o) ≤ 260 → Shows c.show.new.self (told_beside o c.args.told.now)) c.contents.ensures c.show.ensures
