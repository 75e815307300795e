-- What a link tells that is cleared, as its TEI leaves the line or it is deactivated.
use Rattle.laws_trace.proofs.Vocabulary.{arith, ◌≡◌, ℕ, Bool, false, None, list_any, option_or, Note, ReleaseIndication, ReleaseConfirm, Service, Terms, Link, cleared, link_told as told}

-- It delivers nothing, and loses no frame.
pub none-delivered : (t : Terms) (x : Link) → option_or (told t cleared x).delivered (told t cleared x).unit ≡ None
none-delivered t x = grind arith

pub none-lost : (t : Terms) (x : Link) → (told t cleared x).lost ≡ 0
none-lost t x = grind arith

-- It notes no more than the end of the link.
pub ends-alone : (q : Note → Bool) → ((s : Service) (n : ℕ) → q (ReleaseIndication s n) ≡ false) → ((s : Service) (n : ℕ) → q (ReleaseConfirm s n) ≡ false)
    → (t : Terms) (x : Link) → list_any q (told t cleared x).notes ≡ false
ends-alone q indication confirm t x = grind arith
