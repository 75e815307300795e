-- What an event of a line is to one of its links.
use Rattle.laws_line.proofs.Vocabulary.{◌≡◌, ℕ, ◌<◌, Bool, false, ◌==◌, length, set, Option, Some, None, refl, sym, ap, ◌∙◌, subst, cases_eq, arith, eq-eqb, IfSome, inl, inr, ◌⊎◌, get_or-set_same, get_or-set_other, Refusal, Service, Call, Packet, Link, IsAt, Change, Gained, Left, Config, hears, request, next, Answer, told, is_change_at, Aim, at_link, at_management, of_change, of_aim}
use Rattle.laws_line.proofs.Vocabulary.{aim_of_expiry, Line}
use Rattle.laws_line.proofs.Vocabulary.{link_number, service_at, place_at, tei_at, link_at, terms, link_count, unless_refused_told, aim_of_heard, Taken, taken, aim_of_request, IsProper, place_at-number, service_at-number, heard_proper, expiry_proper, request_proper, taken_walk, next_walk, at_no_link, eqb-true, option_map, fresh, Event, expiry, after, answer, unless_refused, refusal, IsSound}
use Rattle.laws_line.proofs.Vocabulary.{IsMoved, IsBy, IsDeactivated, IsOf, link_cleared, link_offer, LinkEvent, link_after, TeiEvent, begin_here, begin_away}
use Rattle.model_teis.specs.Changes.{Moves}
use Rattle.model_teis.specs.network.Laws as tei_laws
use Rattle.laws_line.proofs.Vocabulary.{LineTold, Management, Own, TerminalEvent, IsOwnEvent, at_terminal}
use Rattle.laws_line.proofs.Changes.{Turn, turned, turned-there}
use Rattle.laws_line.proofs.Tied.{Ties, heard-ties, expiry-ties, request-ties}
use Rattle.laws_line.proofs.Told.{moved}
use Rattle.model_line.proofs.Downs.{by-down}

-- A link of a TEI on the line is deactivated.
pub record IsGivenUp (service : Service) (number : ℕ) (e : Event) (before : Line) (answer : Answer) : Type 0 where
  pub tei : ℕ
  pub on_line : tei_at (place_at number) before ≡ Some tei
  pub by : IsDeactivated e answer service tei

-- A link is left as it is; or its TEI leaves the line, or a TEI comes to its place, or it is deactivated, and it is as one that
-- begins; or it has one event.
pub record HasOne (c : Config) (service : Service) (number : ℕ) (e : Event) (before after : Line) (answer : Answer) : Type 0 where
  pub tei : ℕ
  pub on_line : tei_at (place_at number) before ≡ Some tei
  pub event : LinkEvent
  pub by : IsBy c e answer service tei event
  pub is : link_at number after ≡ link_after (terms c service tei) event (link_at number before)

abbrev pub Happens : Config → ℕ → Event → Line → Line → Answer → Type 0
Happens c number e before after answer =
    (link_at number after ≡ link_at number before)
    ⊎ ((IsMoved number before after ⊎ IsGivenUp (service_at number) number e before answer) × (link_at number after ≡ fresh))
    ⊎ HasOne c (service_at number) number e before after answer

-- An event of a link is by what comes, or it is deactivated.
pub by-or-down : (c : Config) (e : Event) (a : Answer) (service : Service) (tei : ℕ) (le : LinkEvent)
    → IsOf c e a service tei le → IsBy c e a service tei le ⊎ ((le ≡ link_cleared) × IsDeactivated e a service tei)
by-or-down c e a service tei le by = grind arith

module _ (c : Config) (l : Line) (s : IsSound c l) (number : ℕ) (few : number < link_count c) (e : Event) (a : Answer) where
  abbrev Goes : Line → Type 0
  Goes l' = Happens c number e l l' a

  -- an event of a link
  module _ (service : Service) (tei place : ℕ) (le : LinkEvent) (at : IsAt l.management.places place tei) where
    abbrev n : ℕ
    n = link_number place service

    abbrev now : Line
    now = (of_aim c (at_link service tei place le) l).line

    abbrev After : Service → Type 0
    After of = link_at n now ≡ link_after (terms c of tei) le (link_at n l)

    by-way : After service → tei_at (place_at n) l ≡ Some tei → service ≡ service_at n → IsBy c e a service tei le ⊎ ((le ≡ link_cleared) × IsDeactivated e a service tei)
        → Happens c n e l now a
    by-way here on its (inl comes) =
        inr (inr (record { tei = tei; on_line = on; event = le; by = subst (λ of. IsBy c e a of tei le) its comes; is = subst After its here }))
    by-way here on its (inr (down, off)) =
        inr (inl (
          inr (record { tei = tei; on_line = on; by = subst (λ of. IsDeactivated e a of tei) its off }),
          here ∙ ap (λ what. link_after (terms c service tei) what (link_at n l)) down,
        ))

    its-own : IsOf c e a service tei le → n < link_count c → Happens c n e l now a
    its-own by within =
        by-way (get_or-set_same l.links n (link_after (terms c service tei) le (link_at n l)) fresh (omega (arith, s.count, within)))
        (ap (λ p. tei_at p l) (place_at-number place service) ∙ at) (sym (service_at-number place service)) (by-or-down c e a service tei le by)

    at-its-link : IsOf c e a service tei le → Goes now
    at-its-link by =
        elim (cases_eq number n) [
          | inl same ↦ subst (λ k. k < link_count c → Happens c k e l now a) (sym same) (its-own by) few
          | inr apart ↦ inl (get_or-set_other l.links n number (link_after (terms c service tei) le (link_at n l)) fresh apart)
        ]

  -- a TEI comes to a place, or leaves it
  at-its-place : (m : Management) (o : Option Change) (place : ℕ)
      → is_change_at (place_at number) o ≡ (place == place_at number) → place < length l.management.places
      → Moves l.management.places o m.places → (l' : Line)
      → l'.links ≡ set (set l.links (link_number place Call) fresh) (link_number place Packet) fresh
      → l'.management.places ≡ m.places → (b : Bool) → (place == place_at number) ≡ b → Goes l'
  at-its-place m o place at within moves l' ls ps b same = grind (arith, moved, begin_here, eqb-true, begin_away, eq-eqb)

  changed : (o : Option Change) (t : LineTold) (m : Management) (own : Own) → Turn l o t m → Goes (of_change c o t (record l { management = m; own = own })).line
  changed None t m own turn = inl refl
  changed (Some (Gained tei place)) t m own turn = at-its-place m (Some (Gained tei place)) place refl turn.moves.within turn.moves _ refl refl (place == place_at number) refl
  changed (Some (Left tei place)) t m own turn = at-its-place m (Some (Left tei place)) place refl turn.moves.within turn.moves _ refl refl (place == place_at number) refl

  managed : (me : TeiEvent) → tei_laws.IsInRange me → Goes (of_aim c (at_management me) l).line
  managed me fits = turned c l s (λ f. Goes f.line) changed me fits

  managed-there : (te : TerminalEvent) → IsOwnEvent c te → Goes (of_aim c (at_terminal te) l).line
  managed-there te proper = turned-there c l s (λ f. Goes f.line) changed te proper

  pub aim-happens : (aim : Aim) → IsProper c l aim → Ties c e a aim → Goes (of_aim c aim l).line
  aim-happens (at_link service tei place le) proper ties = at-its-link service tei place le proper ties
  aim-happens (at_management me) proper ties = managed me proper
  aim-happens (at_terminal te) proper ties = managed-there te proper
  aim-happens at_no_link proper ties = inl (by-down c l s (λ f. link_at number f.line ≡ link_at number l) refl)
  aim-happens other proper ties = inl refl

-- A call for the next frame takes what one link gives, and leaves the others.
module _ (c : Config) (l : Line) (s : IsSound c l) (number : ℕ) where
  abbrev Offered : Link → Type 0
  Offered x =
      (x ≡ link_at number l)
      ⊎ ((tei : ℕ) × (tei_at (place_at number) l ≡ Some tei) × (x ≡ link_after (terms c (service_at number) tei) link_offer (link_at number l)))

  abbrev Fate : Taken → Type 0
  Fate t = Offered (link_at number t.line)

  taken-fate : IfSome (taken c l) Fate
  taken-fate = taken_walk c l s Fate (λ octets m own out. inl refl) (λ u us e. inl refl) (λ n tei few at sound g e. grind (arith, eqb-true, get_or-set_same, get_or-set_other, eq-eqb))

  pub next-happens : Happens c number next l (after c next l) (answer c next l)
  unfolding after answer
  next-happens = grind (arith, next_walk, taken-fate, option_map)

-- Any event.
pub event-happens : (c : Config) (e : Event) (l : Line) (number : ℕ) → IsSound c l → number < link_count c → Happens c number e l (after c e l) (answer c e l)
unfolding after answer
event-happens c (hears heard) l number s few =
    let aim = aim_of_heard c l heard in
    let a = told (of_aim c aim l).told in
    aim-happens c l s number few (hears heard) a aim (heard_proper c l heard) (heard-ties c l heard a)
event-happens c (expiry timer) l number s few =
    let aim = aim_of_expiry timer l in
    let a = told (of_aim c aim l).told in
    aim-happens c l s number few (expiry timer) a aim (expiry_proper c l timer) (expiry-ties c l timer a)
event-happens c (request r) l number s few = go (refusal c false r l) refl
  where
    go : (o : Option Refusal) → refusal c false r l ≡ o
        → Happens c number (request r) l (of_aim c (unless_refused o (aim_of_request r l)) l).line (unless_refused_told o (of_aim c (unless_refused o (aim_of_request r l)) l))
    go None none =
        let a = told (of_aim c (aim_of_request r l) l).told in
        aim-happens c l s number few (request r) a (aim_of_request r l)
        (subst (λ o. IsProper c l (unless_refused o (aim_of_request r l))) none (request_proper c l r)) (request-ties c l a refl r)
    go (Some why) some = inl refl
event-happens c next l number s few = next-happens c l s number
