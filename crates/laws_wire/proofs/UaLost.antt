-- The phases of a call in which UA may be lost: one end rings, and the other is down; or it is up, and its UA waits, is on its way, or is
-- not to come.
use Rattle.laws_wire.proofs.Vocabulary.{◌≡◌, ℕ, ◌≤◌, Bool, true, false, not, List, [], ◌∷◌, ◌++◌, map, take, refl, sym, ap, subst, ◌∙◌, ◌⊎◌, inl, inr, arith, nat_lt, option_to_list, lt-ltb, All, All-head, All-drop, Control, Service, Parts, ControlFrame, Terms, may_repeat, course, IsInRange, LinkEndpoint, with_link, Config, LineTold, expiry, request, terms, Request, Rising, kind_of, T203}
use Rattle.laws_wire.proofs.Vocabulary.{requested, with_link}
use Rattle.laws_wire.proofs.Vocabulary.{one_enquiry, tally, line, HasNo, T200, Course, Endpoint, Wire, happens, without_first, EndStep, requests, expires, sends, receives, loses, acting, IsStill, confirmed, heard_in, is_poll, IsTimelyOf, IsFullTalkOf, timer_T200, timer_T203, NoteData}
use Rattle.model_link.specs.Events as link
use Rattle.laws_wire.proofs.Awaited.{awaits-is, may-there, none-there, goes-first, waits-first}
use Rattle.laws_wire.proofs.Calling.{sabme, end}
use Rattle.laws_wire.proofs.Held.{TellsIt, Held, held-given, held-lost, held-expired}
use Rattle.laws_wire.proofs.Simulated.{for-asked, each-timer, asked_of}
use Rattle.laws_wire.proofs.LossyPhases.{empty}
use Rattle.laws_wire.proofs.Ringing.{ringing, its_sabme, repeated, t200-repeats, Tries, once_more}
use Rattle.laws_wire.proofs.StillRinging.{ignores-frame}
use Rattle.laws_wire.proofs.Talking.{Face}
use Rattle.laws_wire.proofs.TimelyFirst.{takes-none, loses-none, gives-nothing, asks-still}
use Rattle.laws_wire.proofs.TimelyUp.{hushed, none-waits}

-- This goes before what is on the way of an end.
abbrev pub behind : List Parts → LinkEndpoint → LinkEndpoint
behind before n = record n { way = before ++ n.way }

-- where no enquiry waits, none is counted
not-poll : (command : Bool) (control : Control) → is_poll command control ≡ false → one_enquiry (kind_of command control) ≡ 0
not-poll command control e = grind arith

abbrev pub IsNoPoll : ControlFrame → Type 0
IsNoPoll f = is_poll f.command f.control ≡ false

pub none-asked : (t : Terms) (fs : List ControlFrame) → All IsNoPoll fs → tally one_enquiry (line t [] fs) ≡ 0
none-asked t [] h = refl
none-asked t (f ∷ fs) h =
    let more : tally one_enquiry (line t [] fs) ≡ 0 = none-asked t fs (All-drop IsNoPoll 1 (f ∷ fs) h) in
    omega (arith, (not-poll f.command f.control (All-head IsNoPoll f fs h)), more)

pub taken-none : (r : ℕ) (xs : List (List ℕ)) → xs ≡ [] → r ≤ 0 → take r xs ≡ []
taken-none r xs e le = ap (λ xs. take r xs) e ∙ (let none : r ≡ 0 = omega (arith, le) in ap (λ r. take r []) none)

-- ---- one end rings, with this waiting and this on its way; and this holds of the other's station

module _ (service : Service) (tei : ℕ) (c : Config) (p : ℕ) where
  pub record RingsAt (P : Endpoint → Type 0) (ws : List ControlFrame) (way : List Parts) (w : Wire) : Type 0 where
    pub repeats : Tries
    pub near : Held c service tei p [] w.near (end (terms c service tei) (ringing repeats ws) way)
    pub far : P w.far

  abbrev pub RingingAt : (Endpoint → Type 0) → Wire → Type 0
  RingingAt P w = RingsAt P [] [] w ⊎ RingsAt P (its_sabme ∷ []) [] w ⊎ RingsAt P [] (sabme (terms c service tei) ∷ []) w

  -- its layer 3 was told nothing
  pub rings-untold : (P : Endpoint → Type 0) (w : Wire) → RingingAt P w → heard_in w.near ≡ []
  rings-untold P w o = grind arith

  -- T203 does not run
  pub silent-t203 : (k : Tries) (ws : List ControlFrame) (way : List Parts) (s : Endpoint) → Held c service tei p [] s (end (terms c service tei) (ringing k ws) way)
      → Held c service tei p [] (happens (expiry (timer_T203 service tei)) s) (end (terms c service tei) (ringing k ws) way)
  silent-t203 k ws way s h =
      held-expired service tei p [] c s (end (terms c service tei) (ringing k ws) way) h (timer_T203 service tei) T203 (λ l. refl) (record { its_notes = refl; no_unit = refl }) refl

module _ (service : Service) (tei : ℕ) (c d : Config) (p q : ℕ) (face : Face c d) (back : Face d c) (rt : IsInRange (terms c service tei)) (ru : IsInRange (terms d service tei)) where
  abbrev t : Terms
  t = terms c service tei

  abbrev pub first_near : List LineTold
  first_near = confirmed service tei ∷ []

  room : nat_lt 0 t.control ≡ true
  room = let low = rt.control_low in lt-ltb 0 t.control (omega (arith, low))

  abbrev pub Rings : (Endpoint → Type 0) → List ControlFrame → List Parts → Wire → Type 0
  Rings P ws way w = RingsAt service tei c p P ws way w

  abbrev pub Ringing : (Endpoint → Type 0) → Wire → Type 0
  Ringing P w = RingingAt service tei c p P w

  -- what is asked of it is refused
  asks-held : (ws : List ControlFrame) (way : List Parts) (k : Tries) (s : Endpoint) → Held c service tei p [] s (end t (ringing k ws) way) → (r : Request) → IsFullTalkOf service tei (requests r)
      → Held c service tei p [] (happens (request r) s) (end t (ringing k ws) way)
  asks-held ws way k s h r is =
      let n = end t (ringing k ws) way in
      asks-still service tei c p [] s n h r is (for-asked service tei (λ r. with_link (requested (asked_of r) false) n ≡ n) (λ octets. refl) refl refl r is)

  -- while UA is to come T200 does not expire
  pub near-waits : (k : Tries) (w : Wire) → Held c service tei p [] w.near (end t (ringing k []) []) → (IsTimelyOf (expires (timer_T200 service tei)) w → ⊥) → (act : EndStep)
      → (act ≡ receives → ⊥) → IsFullTalkOf service tei act → IsTimelyOf act w → Held c service tei p [] (acting act w).near (end t (ringing k []) [])
  near-waits k w h never (requests r) not is x = asks-held [] [] k w.near h r is
  near-waits k w h never (expires timer) not is x =
      each-timer service tei (λ timer. IsTimelyOf (expires timer) w → Held c service tei p [] (happens (expiry timer) w.near) (end t (ringing k []) [])) (λ x. absurd (never x))
      (λ x. silent-t203 service tei c p k [] [] w.near h) timer is x
  near-waits k w h never sends not is x = gives-nothing service tei c p [] w.near (end t (ringing k []) []) h refl
  near-waits k w h never receives not is x = absurd (not refl)
  near-waits k w h never loses not is x = held-lost service tei p [] c w.near (end t (ringing k []) []) h

  -- so it rings on, as it takes
  pub ringing-takes : (P : Endpoint → Type 0) (ws : List ControlFrame) (way : List Parts) (w : Wire) → Rings P ws way w → P (without_first w.far) → (past : List LineTold) (M : LinkEndpoint)
      → Held d service tei q past w.far M → (r : ℕ) (rest : List Parts) → Rising 0 r (M.way ++ rest) → Rings P ws way (acting receives w)
  ringing-takes P ws way w h lost past M held r rest rising = go M.way refl
    where
      go : (its : List Parts) → M.way ≡ its → Rings P ws way (acting receives w)
      go [] e = subst (Rings P ws way) (sym (takes-none w (empty service tei d q past w.far M held e))) h
      go (f ∷ fs) e =
          let x = subst (λ its. Rising 0 r (its ++ rest)) e rising in
          record { repeats = h.repeats; near = ignores-frame service tei c d p q face w h.repeats ws way h.near past M held f fs e x.0 x.2; far = lost }

  module _ (P : Endpoint → Type 0) where
    abbrev R : List ControlFrame → List Parts → Wire → Type 0
    R ws way w = Rings P ws way w

    module _ (ws : List ControlFrame) (way : List Parts) (w : Wire) (h : R ws way w) where
      abbrev n : LinkEndpoint
      n = end t (ringing h.repeats ws) way

      near-asks : (r : Request) → IsFullTalkOf service tei (requests r) → R ws way (acting (requests r) w)
      near-asks r is = record { repeats = h.repeats; near = asks-held ws way h.repeats w.near h.near r is; far = h.far }

      near-t203 : R ws way (acting (expires (timer_T203 service tei)) w)
      near-t203 = record { repeats = h.repeats; near = silent-t203 service tei c p h.repeats ws way w.near h.near; far = h.far }

      -- where no turn is left, nothing waits, and nothing is on its way
      quiet : IsStill w → (ws ≡ []) × (way ≡ [])
      quiet still = let x = hushed service tei c p [] w.near n h.near still.near still.near_way in (none-waits service tei n x, x.way)

      near-loses : way ≡ [] → R ws way (acting loses w)
      near-loses none = subst (R ws way) (sym (loses-none w (empty service tei c p [] w.near n h.near none))) h

      -- nothing that it asked is open as T200 expires
      nothing-asked : IsTimelyOf (expires (timer_T200 service tei)) w → HasNo is_poll n
      nothing-asked x = none-there service tei c p w.near n h.near.stands is_poll (x.0 (awaits-is service tei c p w.near n h.near.stands)).commands

    -- T200 expires, and SABME goes again
    pub repeats-sabme : (w : Wire) (h : R [] [] w) → may_repeat t (ringing h.repeats []) ≡ true → R (its_sabme ∷ []) [] (acting (expires (timer_T200 service tei)) w)
    repeats-sabme w h few =
        let rung = end t (ringing h.repeats []) [] in
        let s' = happens (expiry (timer_T200 service tei)) w.near in
        let x : Course = course t (link.expired T200) (ringing h.repeats []) in
        let is : x ≡ repeated t h.repeats room = t200-repeats t h.repeats room few in
        let delivered = ap (λ (y : Course). y.delivered) is in
        let tells : TellsIt service tei x = record {
          its_notes = ap (λ (y : Course). y.notes) is ∙ ap (λ o. map (λ octets. NoteData service tei) (option_to_list o)) (sym delivered);
          no_unit = ap (λ (y : Course). y.unit) is;
        } in
        let kept : x.link.contents ≡ [] = ap (λ (y : Course). y.link.contents) is in
        let becomes : with_link (link.expired T200) rung ≡ end t (ringing (once_more h.repeats) (its_sabme ∷ [])) [] =
        (λ i. record rung { link = (is i).link; delivered = option_to_list (is i).delivered }) in
        record {
          repeats = once_more h.repeats;
          near = subst (Held c service tei p [] s') becomes (held-expired service tei p [] c w.near rung h.near (timer_T200 service tei) T200 (λ l. refl) tells kept);
          far = h.far;
        }

    -- each act of the near end, but that it takes
    module _ (w : Wire) (act : EndStep) where
      abbrev Now : Type 0
      Now = IsFullTalkOf service tei act → IsTimelyOf act w → Ringing P (acting act w)

    silent : (w : Wire) (h : R [] [] w) (act : EndStep) → (act ≡ receives → ⊥) → Now w act
    silent w h (requests r) not is x = inl (near-asks [] [] w h r is)
    silent w h (expires timer) not is x =
        each-timer service tei (λ timer. IsTimelyOf (expires timer) w → Ringing P (acting (expires timer) w))
        (λ x. inr (inl (repeats-sabme w h (may-there service tei c p w.near (end t (ringing h.repeats []) []) h.near.stands x.1 refl refl)))) (λ x. inl (near-t203 [] [] w h)) timer is x
    silent w h sends not is x = inl (record { repeats = h.repeats; near = gives-nothing service tei c p [] w.near (end t (ringing h.repeats []) []) h.near refl; far = h.far })
    silent w h receives not is x = absurd (not refl)
    silent w h loses not is x = inl (near-loses [] [] w h refl)

    asking : (w : Wire) (h : R (its_sabme ∷ []) [] w) (act : EndStep) → (act ≡ receives → ⊥) → Now w act
    asking w h (expires timer) not is x =
        each-timer service tei (λ timer. IsTimelyOf (expires timer) w → Ringing P (acting (expires timer) w))
        (λ x. absurd (waits-first is_poll (end t (ringing h.repeats (its_sabme ∷ [])) []) its_sabme [] refl refl (nothing-asked (its_sabme ∷ []) [] w h x)))
        (λ x. inr (inl (near-t203 (its_sabme ∷ []) [] w h))) timer is x
    asking w h sends not is x =
        inr (inr (record { repeats = h.repeats; near = held-given service tei p [] c w.near (end t (ringing h.repeats (its_sabme ∷ [])) []) h.near refl; far = h.far }))
    asking w h act o is x = grind (arith, near-asks, its_sabme, near-loses)

    calling : (w : Wire) (h : R [] (sabme t ∷ []) w) (act : EndStep) → (act ≡ receives → ⊥) → Now w act
    calling w h (expires timer) not is x =
        each-timer service tei (λ timer. IsTimelyOf (expires timer) w → Ringing P (acting (expires timer) w))
        (λ x. absurd (goes-first is_poll (end t (ringing h.repeats []) (sabme t ∷ [])) (sabme t) [] refl refl (nothing-asked [] (sabme t ∷ []) w h x)))
        (λ x. inr (inr (near-t203 [] (sabme t ∷ []) w h))) timer is x
    calling w h sends not is x =
        inr (inr (record { repeats = h.repeats; near = gives-nothing service tei c p [] w.near (end t (ringing h.repeats []) (sabme t ∷ [])) h.near refl; far = h.far }))
    calling w h act o is x = grind (arith, near-asks, sabme, held-lost, end, ringing)

    pub near-rings : (w : Wire) → Ringing P w → (act : EndStep) → (act ≡ receives → ⊥) → Now w act
    near-rings w (inl h) act not is x = silent w h act not is x
    near-rings w (inr (inl h)) act not is x = asking w h act not is x
    near-rings w (inr (inr h)) act not is x = calling w h act not is x

    pub not-told : (w : Wire) → Ringing P w → heard_in w.near ≡ []
    not-told w o = rings-untold service tei c p P w o

    pub still-rings : (w : Wire) → Ringing P w → IsStill w → R [] [] w
    still-rings w (inl h) still = h
    still-rings w (inr (inl h)) still = absurd (cc (quiet (its_sabme ∷ []) [] w h still).0)
    still-rings w (inr (inr h)) still = absurd (cc (quiet [] (sabme t ∷ []) w h still).1)
