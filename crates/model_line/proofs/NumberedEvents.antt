-- Each event of a line is what a link's numbers say of it.
use Rattle.model_line.proofs.Vocabulary.{arith, ◌≡◌, ℕ, zero, suc, ◌<◌, Bool, true, false, cond, List, [], ◌∷◌, get_or, set, Option, Some, None, refl, sym, true≢false, Link, fresh, offer-keeps-r, transfer-goes-on, Config, Event, hears, expiry, request, next, gave, Refusal, refusal, refused, unless_refused, unless_refused_told, of_aim, aim_of_request, arrived_aimed, arrived, restarts_aimed}
use Rattle.model_line.proofs.Vocabulary.{restarts, delivered, Line, link_at, terms, service_at, link_count, after, answer, takes_slot, aim_of_heard}
use Rattle.model_line.proofs.Vocabulary.{aim_of_expiry, Aim, Taken, taken, line_of, next_of, option_map, option_map_or, IsSound, offer, link_after, aim_of}
use Rattle.model_line.proofs.AimsSound.{IsProper}
use Rattle.model_line.proofs.Numbered.{Part, brings_none, none_at, HasNoContents, aim_parts}
use Rattle.model_line.proofs.ProperAims.{event_aims, heard_proper, expiry_proper, request_proper}
use Rattle.model_line.proofs.TakenWalk.{taken_walk, next_walk}

-- No aim has contents but at a link.
event_none : (c : Config) (l : Line) (e : Event) → HasNoContents (aim_of c e l)
event_none c l =
    event_aims c l (λ takes aim. HasNoContents aim) (λ takes service tei. refl) (λ cause service tei. refl) (λ parts service to by tei. refl)
    (λ service tei place e at. tt) (λ e range. tt) (λ e proper. tt) (λ unit is few. tt) tt

-- A call for the next frame leaves V(R) of each link.
set_keeps_r : (all : List Link) (n number : ℕ) (x : Link) → x.r ≡ (get_or all n fresh).r → (get_or (set all n x) number fresh).r ≡ (get_or all number fresh).r
set_keeps_r [] n number x same = refl
set_keeps_r (y ∷ ys) zero zero x same = same
set_keeps_r (y ∷ ys) zero (suc number) x same = refl
set_keeps_r (y ∷ ys) (suc n) zero x same = refl
set_keeps_r (y ∷ ys) (suc n) (suc number) x same = set_keeps_r ys n number x same

abbrev KeepsR : Line → ℕ → Taken → Type 0
KeepsR l number t = (link_at number t.line).r ≡ (link_at number l).r

next_keeps : (c : Config) (l : Line) (number : ℕ) → IsSound c l → (link_at number (option_map_or line_of (taken c l) l)).r ≡ (link_at number l).r
next_keeps c l number s =
    next_walk c l (KeepsR l number) (λ o m. (link_at number m).r ≡ (link_at number l).r)
    (taken_walk c l s (KeepsR l number) (λ octets m own out. refl) (λ u us e. refl)
    (λ n tei few at sound g e.
    let t = terms c (service_at n) tei in
    set_keeps_r l.links n number (link_after t offer (link_at n l)) (offer-keeps-r t (link_at n l))))
    refl (λ t h. h)

-- A request that is refused is none.
asked_parts : (c : Config) (l : Line) (number : ℕ) → IsSound c l → number < link_count c → (o : Option Refusal) (aim : Aim) → IsProper c l (unless_refused o aim) → HasNoContents (unless_refused o aim)
    → let out = of_aim c (unless_refused o aim) l in
    Part (link_at number l).r (arrived_aimed c number l (unless_refused o aim)) (link_at number out.line).r (delivered number l (unless_refused_told o out)) (restarts_aimed c number l (unless_refused o aim))
asked_parts c l number s few None aim proper none = aim_parts c l s number few aim proper none
asked_parts c l number s few (Some why) aim proper none = brings_none _ _ _ _ _ refl refl (none_at number l (refused why) (λ service tei. refl)) refl

-- Any event.
pub event_parts : (c : Config) (e : Event) (l : Line) (number : ℕ) → IsSound c l → number < link_count c
    → Part (link_at number l).r (arrived c number e l) (link_at number (after c e l)).r (delivered number l (answer c e l)) (restarts c number e l)
unfolding after answer
event_parts c (hears e) l number s few = aim_parts c l s number few (aim_of_heard c l e) (heard_proper c l e) (event_none c l (hears e))
event_parts c (expiry timer) l number s few = aim_parts c l s number few (aim_of_expiry timer l) (expiry_proper c l timer) (event_none c l (expiry timer))
event_parts c (request r) l number s few = asked_parts c l number s few (refusal c false r l) (aim_of_request r l) (request_proper c l r) (event_none c l (request r))
event_parts c next l number s few =
    brings_none _ _ _ _ _ refl (next_keeps c l number s) (none_at number l (gave (option_map next_of (taken c l))) (λ service tei. refl)) refl

-- Contents that find no slot bring no frame and begin no numbers anew.
pub record BringsNothing (c : Config) (number : ℕ) (e : Event) (l : Line) : Type 0 where
  pub arrives : arrived c number e l ≡ None
  pub goes_on : restarts c number e l ≡ false

neither : {X : Type 0} (b : Bool) (x y : X) → x ≡ y → cond b x y ≡ y
neither b x y e = grind arith

module _ (c : Config) (number : ℕ) (l : Line) where
  abbrev BringsNone : Aim → Type 0
  BringsNone aim = (arrived_aimed c number l aim ≡ None) × (restarts_aimed c number l aim ≡ false)

  pub slot_brings_nothing : (e : Event) → takes_slot c e l ≡ true → BringsNothing c number e l
  slot_brings_nothing e takes =
      let none =
      event_aims c l (λ takes aim. takes ≡ true → BringsNone aim) (λ b takes. (refl, refl)) (λ cause takes. (refl, refl)) (λ parts service to takes. (refl, refl))
      (λ service tei place e at takes. grind (arith, neither, transfer-goes-on)) (λ e range takes. absurd (true≢false (sym takes))) (λ e proper takes. absurd (true≢false (sym takes))) (λ unit is few takes. (refl, refl)) (λ takes. absurd (true≢false (sym takes))) e takes in
      record { arrives = none.0; goes_on = none.1 }
