-- An event accepts for a link what its request asks and its answer grants.
use Rattle.laws_line.proofs.Vocabulary.{arith, ◌≡◌, ℕ, Bool, true, false, cond, List, Some, None, refl, nat_lt, Refusal, Service, not_not, Config, Line, place_in, link_in, terms, refusal, Data, LinkData}
use Rattle.model_link.specs.Requests as requests
use Rattle.model_line.proofs.RoomForAll.{passed}

-- contents that the line does not refuse are not refused by their link
by-tests : (serves long full : Bool) (why why2 why3 why4 : Refusal) → serves ≡ true → long ≡ false → full ≡ false
    → cond serves (cond long (Some why) (cond full (Some why2) (cond false (Some why3) None))) (Some why4) ≡ None
by-tests serves long full why why2 why3 why4 s l f = rw (s, l, f) refl

pub link-grants : (c : Config) (service : Service) (tei place : ℕ) (contents : List ℕ) (l : Line) → place_in l tei ≡ Some place
    → refusal c false (Data service tei contents) l ≡ None
    → requests.refusal (terms c service tei) (link_in l service place) false (LinkData contents) ≡ None
link-grants c service tei place contents l at e = grind (arith, passed, not_not, by-tests, nat_lt)
