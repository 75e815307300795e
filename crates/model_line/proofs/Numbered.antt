-- What an event delivers at a link of a line: the next eligible I-frame's contents, or none; or its numbers begin anew.
use Rattle.model_line.proofs.Vocabulary.{◌&&◌, ◌≡◌, ◌≢◌, ℕ, ◌<◌, Bool, true, false, cond, ◌==◌, List, [], ◌∷◌, length, get_or, set, Option, Some, None, is_some, refl, ap, sym, ◌∙◌, subst, inr, arith, eqb-true, eq-eqb, All, list_any, option_or, option_map_or, get_or-set_same, get_or-set_other, All-head, All-tail, Note, Service, Call, Packet, Terms, Link, fresh, is_data, done, delivery, counted_on}
use Rattle.model_line.proofs.Vocabulary.{event-delivers, IsOwn, notes-own, event-tells, Moves, Management, IsAt, Places, Change, Config, Answer, LineTold, told, same_service, arrived_aimed, arrived, is_change_at, restarts_aimed, restarts, is_data_of, delivered_in, delivered_at, delivered, Line, link_number, service_at, place_at, tei_at, link_at, link_in, terms, link_count, Aim, at_none, at_link}
use Rattle.model_line.proofs.Vocabulary.{at_management, at_no_link, at_terminal, told_of_link, of_change, of_aim, Effect, Own, IsSound, LinkEvent, link_told, link_after, course}
use Rattle.std.proofs.Math.Bool.{and-false, and-true, and-or_distrib_right}
use Rattle.model_link.specs.Deliveries as arrivals
use Rattle.model_line.proofs.AimsSound.{IsProper}
use Rattle.model_line.proofs.Downs.{by-down}
use Rattle.model_line.proofs.Managed.{by-managed, by-own-event}
use Rattle.model_line.proofs.LinksSound.{begin_here, begin_away}
use Rattle.model_line.proofs.Numbers.{place_at-number, service_at-number, at_place}

-- Notes of data.

-- the link of a service with a TEI
abbrev is_of : Terms → Service → ℕ → Bool
is_of t service tei = cond (same_service t.service service) (t.tei == tei) false

of_itself : (t : Terms) → is_of t t.service t.tei ≡ true
of_itself t = grind (arith, eq-eqb)

of_no_other : (t : Terms) (service : Service) (tei : ℕ) → ((service ≡ t.service) × (tei ≡ t.tei) → ⊥) → is_of t service tei ≡ false
of_no_other t service tei other = grind (arith, eqb-true)

-- a link's own notes are of data of that link, or of no data
data_of : (t : Terms) (n : Note) (service : Service) (tei : ℕ) → IsOwn t n → is_data_of service tei n ≡ (is_data n && is_of t service tei)
data_of t n service tei own = grind arith

data_in : (t : Terms) (ns : List Note) (service : Service) (tei : ℕ) → All (IsOwn t) ns
    → list_any (is_data_of service tei) ns ≡ (list_any is_data ns && is_of t service tei)
data_in t [] service tei all = refl
data_in t (n ∷ ns) service tei all =
    let rest = data_in t ns service tei (All-tail (IsOwn t) n ns all) in
    rw ((data_of t n service tei (All-head (IsOwn t) n ns all)), rest) (sym (and-or_distrib_right (is_data n) (list_any is_data ns) (is_of t service tei)))

-- Deliveries, as an answer tells them.

-- nothing is delivered by an answer with no contents
none_in : (service : Service) (tei : ℕ) (t : LineTold) → t.contents ≡ None → delivered_in service tei (told t) ≡ None
none_in service tei t e = grind arith

pub none_at : (number : ℕ) (l : Line) (a : Answer) → ((service : Service) (tei : ℕ) → delivered_in service tei a ≡ None) → delivered number l a ≡ None
none_at number l a none = grind arith

-- what a link delivers is what its answer tells, to that link alone
told_own : (t : Terms) (e : LinkEvent) (l : Link)
    → delivered_in t.service t.tei (told (told_of_link (link_told t e l))) ≡ (course t e l).delivered
told_own t e l =
    let ns = (course t e l).notes in
    let has = data_in t ns t.service t.tei (notes-own t e l) ∙ ap (λ b. list_any is_data ns && b) (of_itself t) ∙ and-true (list_any is_data ns) ∙ (event-tells t e l).1 in
    ap (λ b. cond b (option_or (course t e l).delivered (course t e l).unit) None) has ∙ go (course t e l).delivered (course t e l).unit
  where
    go : (d u : Option (List ℕ)) → cond (is_some d) (option_or d u) None ≡ d
    go d u = grind arith

told_others : (t : Terms) (e : LinkEvent) (l : Link) (service : Service) (tei : ℕ) → ((service ≡ t.service) × (tei ≡ t.tei) → ⊥)
    → delivered_in service tei (told (told_of_link (link_told t e l))) ≡ None
told_others t e l service tei other =
    let ns = (course t e l).notes in
    let none = data_in t ns service tei (notes-own t e l) ∙ ap (λ b. list_any is_data ns && b) (of_no_other t service tei other) ∙ and-false (list_any is_data ns) in
    ap (λ b. cond b (option_or (course t e l).delivered (course t e l).unit) None) none

-- Links by their numbers.

number_is : (number : ℕ) → number ≡ link_number (place_at number) (service_at number)
number_is number = grind (arith, service_at-number, at_place)

-- What an event is to one link, by V(R) before and after it.
abbrev pub Part : ℕ → Option arrivals.Arrived → ℕ → Option (List ℕ) → Bool → Type 0
Part r arrived r' delivered restarts = done (counted_on r (delivery r arrived)) (delivery r arrived) r' delivered restarts

pub brings_none : (r r' : ℕ) (a : Option arrivals.Arrived) (d : Option (List ℕ)) (z : Bool) → a ≡ None → r' ≡ r → d ≡ None → z ≡ false → Part r a r' d z
brings_none r r' a d z none same nothing_delivered goes_on = grind arith

begins_anew : (r r' : ℕ) (a : Option arrivals.Arrived) (d : Option (List ℕ)) (z : Bool) → r' ≡ 0 → d ≡ None → z ≡ true → Part r a r' d z
begins_anew r r' a d z number none begins = inr (record { number = number; delivered = none; begins = begins })

-- No link delivers what is told where no part is concerned.
abbrev pub HasNoContents : Aim → Type 0
HasNoContents (at_none t) = (service : Service) (tei : ℕ) → delivered_in service tei (told t) ≡ None
HasNoContents other = Unit {0}

module _ (c : Config) (l : Line) (s : IsSound c l) (number : ℕ) (few : number < link_count c) where
  abbrev pub Parts : Aim → Type 0
  Parts aim =
      Part (link_at number l).r (arrived_aimed c number l aim) (link_at number (of_aim c aim l).line).r
      (delivered number l (told (of_aim c aim l).told)) (restarts_aimed c number l aim)

  -- an event of a link
  at_its_link : (service : Service) (tei place : ℕ) (e : LinkEvent) → IsAt l.management.places place tei → Parts (at_link service tei place e)
  at_its_link service tei place e at = go (link_number place service == number) refl
    where
      t : Terms
      t = terms c service tei

      x : Link
      x = link_after t e (link_in l service place)

      a : Answer
      a = told (told_of_link (link_told t e (link_in l service place)))

      go : (b : Bool) → (link_number place service == number) ≡ b
          → Part (link_at number l).r (cond b (arrivals.eligible t e (link_in l service place)) None) (get_or (set l.links (link_number place service) (link_after t e (link_in l service place))) number fresh).r
          (delivered number l (told (told_of_link (link_told t e (link_in l service place)))))
          (cond b (arrivals.restarts t e (link_in l service place)) false)
      go true same =
          let is : link_number place service ≡ number = eqb-true (link_number place service) number same in
          let there : get_or (set l.links (link_number place service) x) (link_number place service) fresh ≡ x =
          get_or-set_same l.links (link_number place service) x fresh (omega (arith, is, few, s.count)) in
          let its : tei_at (place_at (link_number place service)) l ≡ Some tei = ap (λ p. tei_at p l) (place_at-number place service) ∙ at in
          let by_it : delivered (link_number place service) l a ≡ (course t e (link_in l service place)).delivered =
          ap (λ o. option_map_or (delivered_at (service_at (link_number place service)) a) o None) its
          ∙ ap (λ v. delivered_in v tei a) (service_at-number place service) ∙ told_own t e (link_in l service place) in
          subst (λ n. Part (link_at n l).r (arrivals.eligible t e (link_in l service place)) (get_or (set l.links (link_number place service) x) n fresh).r (delivered n l a) (arrivals.restarts t e (link_in l service place))) is
          (rw (there, by_it) (event-delivers t (link_in l service place) e))
      go false other = grind (arith, eq-eqb, get_or-set_other, brings_none, by_tei)
        where
          by_tei : (o : Option ℕ) → tei_at (place_at number) l ≡ o → number ≢ link_number place service
              → option_map_or (delivered_at (service_at number) a) o None ≡ None
          by_tei None here apart = refl
          by_tei (Some other) here apart =
              told_others t e (link_in l service place) (service_at number) other
              (λ same.
              let one_place : place_at number ≡ place = s.management.table.once (place_at number) place tei (here ∙ ap (λ n. Some n) same.1) at in
              apart (number_is number ∙ ap (λ p. link_number p (service_at number)) one_place ∙ ap (link_number place) same.0))

  -- an event of TEI management: both links of a place begin, and the others stay
  place_parts : (place : ℕ) (r : LineTold) → place < length l.management.places → r.contents ≡ None → (b : Bool) → (place == place_at number) ≡ b
      → Part (link_at number l).r None (get_or (set (set l.links (link_number place Call) fresh) (link_number place Packet) fresh) number fresh).r (delivered number l (told r)) b
  place_parts place r within none b here = grind (arith, eqb-true, begin_here, begins_anew, none_at, none_in, eq-eqb, brings_none, begin_away)

  change_parts : (o : Option Change) (r : LineTold) (new : Places) (m : Management) (own : Own) → r.contents ≡ None → Moves l.management.places o new
      → let of = of_change c o r (record l { management = m; own = own }) in
      Part (link_at number l).r None (link_at number of.line).r (delivered number l (told of.told)) (is_change_at (place_at number) o)
  change_parts o r new m own none moves = grind (arith, brings_none, none_at, none_in, place_parts)

  abbrev PartsOf : Option Change → Effect → Type 0
  PartsOf o out = Part (link_at number l).r None (link_at number out.line).r (delivered number l (told out.told)) (is_change_at (place_at number) o)

  pub aim_parts : (aim : Aim) → IsProper c l aim → HasNoContents aim → Parts aim
  aim_parts (at_management e) proper none = by-managed c l s PartsOf e proper (λ o r m own step. change_parts o r m.places m own step.contents step.moves)
  aim_parts (at_terminal e) proper none = by-own-event c l s PartsOf e proper (λ o r m own step. change_parts o r m.places m own step.contents step.moves)
  aim_parts at_no_link proper none = by-down c l s (λ out. PartsOf None out) (grind (arith, brings_none, none_at, none_in))
  aim_parts aim proper none = grind (arith, brings_none, none_at, at_its_link, none_in)
