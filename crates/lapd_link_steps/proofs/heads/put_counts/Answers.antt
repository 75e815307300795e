-- Hand-written answers for `put_counts`.
use Rattle.lapd_image.proofs.Puts.{puts-none, puts-then}
use Rattle.lapd_link_steps.proofs.heads.put_counts.Goals as goal

pub returns-clause-puts : goal.returns-clause-puts
returns-clause-puts c =
    puts-then c.put_count-at.ensures.puts (puts-then c.put_count-at-2.ensures.puts (puts-then c.put_count-at-3.ensures.puts (puts-then c.put_count-at-4.ensures.puts
    (puts-then c.put_count.ensures.puts (puts-none c.put_count.ensures.puts.within)))))
