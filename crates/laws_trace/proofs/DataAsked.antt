-- What an event of a line is to the data of a link: what it asks for, and what it does not.
use Rattle.laws_trace.proofs.Vocabulary.{arith, ◌≡◌, ℕ, Bool, true, false, List, [], None, eq-eqb, is_some, Service, not_not, Terms, Link, accepted, i_frames, Config, request, next, Answer, Line, aim_of, is_granted, IsBy, not-refused, service-same, is-off, Event, answer, Request, of_link, data_asked, offer, LinkRequest, requested, LinkEvent, LinkData}
use Rattle.model_link.specs.Requests as requests
use Rattle.laws_trace.proofs.OneLink.{is_at_link}
use Rattle.laws_trace.proofs.Deliveries.{heard-by}
use Rattle.laws_trace.proofs.Facts.{either-none}

-- What an event that is no request and no call is to its link: it accepts nothing, and gives nothing.
pub no-data : (c : Config) (e : Event) (a : Answer) (service : Service) (tei : ℕ) (t : Terms) (k : Link) → ((r : Request) → e ≡ request r → ⊥) → (e ≡ next → ⊥)
    → (le : LinkEvent) → IsBy c e a service tei le → (accepted t le k ≡ []) × (i_frames t le k ≡ 0)
no-data c e a service tei t k no-request no-next le by = grind arith

-- What a request is to its link.
pub only-requested : (c : Config) (r : Request) (a : Answer) (service : Service) (tei : ℕ) (le : LinkEvent) → IsBy c (request r) a service tei le
    → (what : LinkRequest) × (full : Bool) × (le ≡ requested what full) × (r ≡ of_link service tei what) × (is_granted a ≡ true)
only-requested c r a service tei le by = grind (arith, heard-by)

pub only-offered : (c : Config) (a : Answer) (service : Service) (tei : ℕ) (le : LinkEvent) → IsBy c next a service tei le → le ≡ offer
only-offered c a service tei le by = grind (arith, heard-by)

-- Data that is granted is accepted by its link,
pub granted-data : (service : Service) (tei : ℕ) (t : Terms) (k : Link) (full : Bool) (what : LinkRequest)
    → ((contents : List ℕ) → what ≡ LinkData contents → requests.refusal t k full (LinkData contents) ≡ None)
    → accepted t (requested what full) k ≡ data_asked service tei (of_link service tei what)
granted-data service tei t k full what h = grind (arith, is_some, service-same, eq-eqb, either-none)

-- and data for another link is none for this one.
module _ (c : Config) (l : Line) (service : Service) (tei : ℕ) where
  pub elsewhere : (r : Request) → is_granted (answer c (request r) l) ≡ true → is_at_link service tei (aim_of c (request r) l) ≡ false → data_asked service tei r ≡ []
  elsewhere r g away = grind (arith, not-refused, is_at_link, not_not, is-off)
