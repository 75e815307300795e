-- What notes say: those of a link of this link alone, and those of TEI management of TEIs alone.
use Rattle.laws_line.proofs.Vocabulary.{arith, ◌≡◌, ℕ, ◌==◌, ◌&&◌, Bool, false, List, [], ◌∷◌, refl, fold, All-head, All-tail, Note, Service, same_service, seen, known, IsOwn, Terms, All, up_by_note}
use Rattle.laws_line.proofs.Told.{its-own}

pub own-notes : (t : Terms) (up : Bool) (ns : List Note) → All (IsOwn t) ns → fold (up_by_note t.service t.tei) up ns ≡ known up ns
own-notes t up [] all = refl
own-notes t up (n ∷ ns) all = grind (arith, All-head, All-tail, its-own, (own-notes t (seen up n) ns (All-tail (IsOwn t) n ns all)))

-- and for another
module _ (t : Terms) (service : Service) (tei : ℕ) (other : (same_service t.service service && (t.tei == tei)) ≡ false) where
  other-note : (up : Bool) (n : Note) → IsOwn t n → up_by_note service tei up n ≡ up
  other-note up n own = grind arith

  pub other-notes : (up : Bool) (ns : List Note) → All (IsOwn t) ns → fold (up_by_note service tei) up ns ≡ up
  other-notes up [] all = refl
  other-notes up (n ∷ ns) all = grind (arith, other-note, All-head, All-tail, (other-notes up ns (All-tail (IsOwn t) n ns all)))
