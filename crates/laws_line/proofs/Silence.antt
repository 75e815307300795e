-- A link has nothing to send exactly where the machine gives nothing.
use Rattle.laws_line.proofs.Vocabulary.{Terms, Link, none-goes, goes-not, HasNothingToSend, LinkIsSound as IsSound, IsSilent}

module _ (t : Terms) (l : Link) (s : IsSound t l) where
  pub silent : HasNothingToSend t l → IsSilent t l
  silent h = record { waiting = h.waiting; information = none-goes t l s h.information; pending = h.pending }

  pub sends-none : IsSilent t l → HasNothingToSend t l
  sends-none h = record { waiting = h.waiting; information = goes-not t l s h.information; pending = h.pending }
