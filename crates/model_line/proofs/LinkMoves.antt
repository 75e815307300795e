-- What holds of a link that begins, and is kept by each event of a link, holds of all links of a line.
use Rattle.model_line.proofs.Vocabulary.{arith, ◌≡◌, ℕ, zero, suc, ◌<◌, false, List, [], ◌∷◌, get_or, set, Option, Some, refl, sym, subst, ◌⊎◌, inl, inr, IfSome, option_map_or, unwrap_or, All-head, All-tail, Link, Given, Terms, Change, Config, hears, request, next, LineTold, Aim, of_change, of_aim, Line, UnitData, service_at, place_at, tei_at, link_at, link_in, link_number, terms, link_count}
use Rattle.model_line.proofs.Vocabulary.{aim_of_heard}
use Rattle.model_line.proofs.Vocabulary.{aim_of_expiry, Taken, with_unit, with_given_frame, link_taken, first_taken, taken, line_of, aim_of_request, IsInRange, IsSoundAt, option_map, All, fresh, Event, expiry, after, unless_refused, at_none, at_link, at_management, at_terminal, at_units, at_no_link, Management, Own, refusal, IsSound, link_offer, LinkEvent, link_given, link_after}
use Rattle.model_line.proofs.AimsSound.{IsProper}
use Rattle.model_line.proofs.Downs.{by-down}
use Rattle.model_line.proofs.Managed.{by-managed, by-own-event}
use Rattle.model_line.proofs.Outgoing.{GoesOut, without_message}
use Rattle.model_line.proofs.LinksSound.{sound_in}
use Rattle.model_line.proofs.Offered.{fresh_gives_nothing}
use Rattle.model_line.proofs.ProperAims.{heard_proper, expiry_proper, request_proper}
use Rattle.model_line.proofs.Ranges.{terms_in_range}
use Rattle.model_line.proofs.TakenWalk.{taken_walk, next_walk}
use Rattle.model_link.specs.Sound as link_sound
use Rattle.model_line.proofs.TakenWalk.{either}

-- What is taken: a message, unit data, or a frame of a link of a TEI on the line.
pub record OfLink (c : Config) (l : Line) (t : Taken) : Type 0 where
  pub number : ℕ
  pub few : number < link_count c
  pub tei : ℕ
  pub on_line : tei_at (place_at number) l ≡ Some tei
  pub what : Given
  pub given : link_given (terms c (service_at number) tei) (link_at number l) ≡ Some what
  pub is : t ≡ with_given_frame c l number (terms c (service_at number) tei) what

pub record TakesMessage (c : Config) (l : Line) (t : Taken) : Type 0 where
  pub octets : List ℕ
  pub m : Management
  pub own : Own
  pub out : GoesOut c l octets m own
  pub is : t ≡ without_message l octets m own

abbrev pub IsOne : Config → Line → Taken → Type 0
IsOne c l t = TakesMessage c l t ⊎ ((unit : UnitData) × (t ≡ with_unit c l unit)) ⊎ OfLink c l t

module _ (c : Config) (l : Line) (s : IsSound c l) where
  of-link : (n : ℕ) → n < link_count c → IfSome (link_taken c l n) (OfLink c l)
  of-link n few = known (tei_at (place_at n) l) refl (s.links n few)
    where
      gave : (tei : ℕ) → tei_at (place_at n) l ≡ Some tei → (o : Option Given) → link_given (terms c (service_at n) tei) (link_at n l) ≡ o
          → IfSome (option_map (with_given_frame c l n (terms c (service_at n) tei)) o) (OfLink c l)
      gave tei e o given = grind arith

      known : (o : Option ℕ) → tei_at (place_at n) l ≡ o → IsSoundAt c n (link_at n l) o
          → let t = terms c (service_at n) (unwrap_or o 0) in IfSome (option_map (with_given_frame c l n t) (link_given t (link_at n l))) (OfLink c l)
      known o e is_fresh = grind (arith, fresh_gives_nothing, option_map, gave)

  pub of-links : (ns : List ℕ) → All (λ n. n < link_count c) ns → IfSome (first_taken c l ns) (OfLink c l)
  of-links [] all = tt
  of-links (n ∷ ns) all =
      either (OfLink c l) (link_taken c l n) (first_taken c l ns) (of-link n (All-head (λ n. n < link_count c) n ns all))
      (of-links ns (All-tail (λ n. n < link_count c) n ns all))

  pub taken-one : IfSome (taken c l) (IsOne c l)
  taken-one =
      taken_walk c l s (IsOne c l) (λ octets m own out. inl (record { octets = octets; m = m; own = own; out = out; is = refl })) (λ unit units e. inr (inl (unit, refl)))
      (λ n tei few at sound g e. inr (inr (record { number = n; few = few; tei = tei; on_line = at; what = g; given = e; is = refl })))

module _ (P : Link → Type 0) (begins : P fresh) (keeps : (t : Terms) (e : LinkEvent) (x : Link) → link_sound.IsInRange t → link_sound.IsSound t x → P x → P (link_after t e x)) where
  -- one link is another
  set_holds : (all : List Link) (n number : ℕ) (x : Link) → ((m : ℕ) → P (get_or all m fresh)) → P x → P (get_or (set all n x) number fresh)
  set_holds [] n number x all h = begins
  set_holds (y ∷ ys) zero zero x all h = h
  set_holds (y ∷ ys) zero (suc number) x all h = all (suc number)
  set_holds (y ∷ ys) (suc n) zero x all h = all 0
  set_holds (y ∷ ys) (suc n) (suc number) x all h = set_holds ys n number x (λ m. all (suc m)) h

  -- both links of a place begin anew
  module _ (c : Config) (ranged : IsInRange c) (l : Line) (s : IsSound c l) (h : (number : ℕ) → P (link_at number l)) (number : ℕ) where
    changed : (o : Option Change) (r : LineTold) (now : Line) → ((m : ℕ) → P (link_at m now)) → P (link_at number (of_change c o r now).line)
    changed o r now all = grind (arith, set_holds)

    aimed : (aim : Aim) → IsProper c l aim → P (link_at number (of_aim c aim l).line)
    aimed (at_management e) proper = by-managed c l s (λ o out. P (link_at number out.line)) e proper (λ o r m own step. changed o r (record l { management = m; own = own }) h)
    aimed (at_terminal e) proper = by-own-event c l s (λ o out. P (link_at number out.line)) e proper (λ o r m own step. changed o r (record l { management = m; own = own }) h)
    aimed at_no_link proper = by-down c l s (λ out. P (link_at number out.line)) (h number)
    aimed (at_link service tei place e) at =
        let t = terms c service tei in
        let x = link_in l service place in
        set_holds l.links (link_number place service) number (link_after t e x) h
        (keeps t e x (terms_in_range c ranged service tei (s.management.table.range place tei at)) (sound_in c ranged l s service tei place at) (h (link_number place service)))
    aimed (at_none what) proper = h number
    aimed (at_units unit) proper = h number

    took : (t : Taken) → IsOne c l t → P (link_at number t.line)
    took t (inl x) = subst (λ (u : Taken). P (link_at number u.line)) (sym x.is) (h number)
    took t (inr (inl x)) = subst (λ (u : Taken). P (link_at number u.line)) (sym x.1) (h number)
    took t (inr (inr x)) =
        let terms_of = terms c (service_at x.number) x.tei in
        subst (λ (u : Taken). P (link_at number u.line)) (sym x.is)
        (set_holds l.links x.number number (link_after terms_of link_offer (link_at x.number l)) h
        (keeps terms_of link_offer (link_at x.number l) (terms_in_range c ranged (service_at x.number) x.tei (s.management.table.range (place_at x.number) x.tei x.on_line))
        (subst (IsSoundAt c x.number (link_at x.number l)) x.on_line (s.links x.number x.few)) (h x.number)))

    called : P (link_at number (option_map_or line_of (taken c l) l))
    called = next_walk c l (IsOne c l) (λ o m. P (link_at number m)) (taken-one c l s) (h number) took

  -- Any event.
  pub all-after : (c : Config) → IsInRange c → (e : Event) (l : Line) → IsSound c l → ((number : ℕ) → P (link_at number l)) → (number : ℕ) → P (link_at number (after c e l))
  unfolding after
  all-after c ranged (hears e) l s h number = aimed c ranged l s h number (aim_of_heard c l e) (heard_proper c l e)
  all-after c ranged (expiry timer) l s h number = aimed c ranged l s h number (aim_of_expiry timer l) (expiry_proper c l timer)
  all-after c ranged (request r) l s h number = aimed c ranged l s h number (unless_refused (refusal c false r l) (aim_of_request r l)) (request_proper c l r)
  all-after c ranged next l s h number = called c ranged l s h number
