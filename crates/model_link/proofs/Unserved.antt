-- An event of a link that its state does not serve leaves the link as it is, and nothing else is told.
use Rattle.model_link.proofs.Vocabulary.{◌≡◌, ℕ, List, true, false, refl, sym, ap, ◌∙◌, false≢true, Terms, Link, Course, begun, after, course, told, Received, received, deliver_unit, leave_unserved}
use Rattle.model_link.proofs.Kept.{Kept}
use Rattle.model_link.proofs.Rows.{every_event}

-- The event has been served so far.
abbrev Served : Course → Type 0
Served c = c.unserved ≡ false

-- What an event leaves where it is not served.
abbrev Leaves : Link → Course → Type 0
Leaves l c = c.unserved ≡ true → c ≡ leave_unserved (begun l)

serving : (l : Link) (c : Course) → Served c → Leaves l c
serving l c h e = absurd (false≢true (sym h ∙ e))

at-first : (l : Link) (c : Course) → c ≡ begun l → Served c
at-first l c h = ap (λ (x : Course). x.unserved) h

with-unit : (t : Terms) (l : Link) (octets : List ℕ) (c : Course) → c ≡ begun l → Leaves l (deliver_unit t octets c)
with-unit t l octets c h = serving l (deliver_unit t octets c) (at-first l c h)

unserving : (l : Link) (c : Course) → c ≡ begun l → Leaves l (leave_unserved c)
unserving l c h e = ap leave_unserved h

words : (t : Terms) (l : Link) → Kept t (Unit {0}) (Unit {0}) (Unit {0}) (λ c. c ≡ begun l) (λ p q c. Served c) (Leaves l)
words t l = search (serving, at-first, with-unit, unserving) depth 12 fits 4000

pub unserved_leaves : (t : Terms) (l : Link) (what : Received) → (told t (received what) l).unserved ≡ true
    → course t (received what) l ≡ leave_unserved (begun l)
unserved_leaves t l what is = (every_event (words t l) (received what)).leads (begun l) refl is

-- so the link is as it was
pub unserved-stays : (t : Terms) (what : Received) (l : Link) → (told t (received what) l).unserved ≡ true → after t (received what) l ≡ l
unserved-stays t what l is = ap (λ (c : Course). c.link) (unserved_leaves t l what is)
