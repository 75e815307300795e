-- Hand-written answers for `Window::advance`.
use Rattle.lapd_seq.proofs.Remainders.{numbers-advance, distance-next}
use Rattle.lapd_seq.proofs.windows.Window.advance.Goals as goal

pub returns-clause-count : goal.returns-clause-count
returns-clause-count c = distance-next _ _ _ c.requires c.next-self.ensures.circle

pub returns-clause-plain : goal.returns-clause-plain
returns-clause-plain c = λ a s h. numbers-advance _ _ _ a s c.requires (c.next-self.ensures.plain s h.sent) h
