-- What is done at one end of a call in which frames are lost and timers expire makes what is still to do less, or tells an error.
use Rattle.laws_wire.proofs.Vocabulary.{◌≡◌, ℕ, ◌+◌, ◌*◌, ◌≤◌, cond, List, [], ◌∷◌, ◌++◌, length, map, drop, refl, sym, ap, subst, ◌∙◌, ◌⊎◌, inl, inr, length-append, arith, Service, Timer, Parts, spelling, LinkTimer, Link, course, given, LinkEndpoint, with_link, with_sent, frame_given, Config, LineTold, expiry, request, after, Course, Data, Endpoint, Wire, happens, with_first_of, without_first}
use Rattle.laws_wire.proofs.Vocabulary.{EndStep, requests, expires, sends, receives, loses, acting, is_any, frame_comes, granted_of, next, IsRoughTalkOf, is_move_of, expiries_of, two_ends_without_first, own_side}
use Rattle.model_link.specs.Events as link
use Rattle.laws_wire.proofs.Answered.{gives-granted, takes-granted, same-granted}
use Rattle.laws_wire.proofs.Asking.{with_more}
use Rattle.laws_wire.proofs.Fair.{HasError}
use Rattle.laws_wire.proofs.Held.{Held, Erred, now-erred, held-given, held-lost, taken-told, taken-stands, expired-told, Grants, held-asked}
use Rattle.laws_wire.proofs.Loads.{load, load_way, load_waiting, owes, may_reject, brings, way-append, Gives, offer-gives}
use Rattle.laws_wire.proofs.LoadsTimed.{Expires, timer-expires}
use Rattle.laws_wire.proofs.LossyPhases.{Aims, for-data, for-timer, first-way}
use Rattle.laws_wire.proofs.Standing.{IsCarried, StationStands, expires-stands, gives-frames}
use Rattle.laws_wire.proofs.Talking.{Face}
use Rattle.laws_wire.proofs.Weighing.{Fell, undelivered, accepts-more, goes as goes_on, delivers, Pays, heft, heft-is, weigh}

-- what a frame does to the link that hears it
pub record TakesWell (v : ℕ) (l l' : Link) (f : Parts) : Type 0 where
  pub contents : l'.contents ≡ l.contents
  pub falls : ((l'.r ≡ l.r) × (load v l' ≤ load v l + brings v f.address.command f.control)) ⊎ ((l'.r ≡ l.r + 1) × (load v l' ≤ load v l + brings v f.address.command f.control + (v + 4)))

any-mapped : (f : Parts → List ℕ) (xs : List Parts) → cond {A = ℕ} (is_any (map f xs)) 1 0 ≤ length xs
any-mapped f [] = omega arith
any-mapped f (x ∷ xs) = omega arith

module _ (service : Service) (tei : ℕ) (c d : Config) (p q : ℕ) (past_n past_m : List LineTold) (face : Face c d) (v : ℕ) (w : Wire) (n m : LinkEndpoint)
    (near : Held c service tei p past_n w.near n) (far : Held d service tei q past_m w.far m) (low : m.link.r ≤ length n.link.contents) where
  abbrev pub Then : Wire → ℕ → ℕ → Type 0
  Then w' moved expired = Pays service tei v moved expired 0 w w'

  -- the stations stand for other ends, of which so much is left to do
  so : (w' : Wire) (moved expired : ℕ) (n' m' : LinkEndpoint) → StationStands c service tei p w'.near n' → StationStands d service tei q w'.far m' → (more : ℕ) → Fell v moved expired more n m n' m'
      → granted_of w' ≡ granted_of w + more → Then w' moved expired
  so w' moved expired n' m' near' far' more fell granted = record {
    more = more;
    granted = granted;
    falls =
        sum moved (heft service tei v w') (weigh v n' m') (heft service tei v w) (weigh v n m) ((v + 4) * expired) ((v + 6) * more) (heft-is service tei v c d p q w' n' m' near' far')
        (heft-is service tei v c d p q w n m near.stands far.stands) fell.falls;
  }
    where
      sum : (moved a a' b b' x y : ℕ) → a ≡ a' → b ≡ b' → moved + a' ≤ b' + x + y → moved + a ≤ b + x + y + 2 * 0
      sum moved a a' b b' x y e f less = omega (arith, e, f, less)

  -- nothing more is granted
  none-more : (a b x y : ℕ) → a ≡ x → b ≡ y → a + b ≡ x + y + 0
  none-more a b x y e f = omega (arith, e, f)

  abbrev moved_by : EndStep → ℕ
  moved_by act = cond {A = ℕ} (is_move_of act w) 1 0

  abbrev Leads : EndStep → Type 0
  Leads act = Then (acting act w) (moved_by act) (expiries_of act) ⊎ Erred (acting act w).near

  own : StationStands w.near.card.config service tei p w.near n
  own = subst (λ k. StationStands k service tei p w.near n) (sym near.stands.config) near.stands

  -- ---- it gives

  pub then-gives : Then (acting sends w) (moved_by sends) 0
  then-gives = so _ _ _ (with_sent n) m ((held-given service tei p past_n c w.near n near x.contents).stands) far.stands 0
      (goes_on v n m (with_sent n) m x.contents refl (moved_by sends) 0 x.received
      (total (moved_by sends) (load v (with_sent n).link) (load_way v n.way) (load_way v news) (load_way v (n.way ++ news)) (load v m.link + load_way v m.way) (load v n.link) (length news) ((v + 4) * 0)
      (way-append v n.way news) (subst (λ xs. cond {A = ℕ} (is_any xs) 1 0 ≤ length news) (sym (gives-frames service tei p w.near n own)) (any-mapped (spelling (own_side w.near.card.config)) news)) x.falls))
      (none-more (length (happens next w.near).granted) (length w.far.granted) (length w.near.granted) (length w.far.granted) (ap length (gives-granted w.near)) refl)
    where
      news : List Parts
      news = frame_given n.terms (given n.terms n.link)

      x : Gives v n.terms n.link (course n.terms link.offer n.link)
      x = offer-gives v n.terms n.link

      total : (moved l' way news all other l count z : ℕ) → all ≡ way + news → moved ≤ count → l' + (news + count) ≤ l → moved + (l' + all) + other ≤ l + way + other + z
      total moved l' way news all other l count z e few less = omega (arith, e, few, less)

  -- ---- the first on its way is lost

  pub then-loses : Then (acting loses w) (moved_by loses) 0
  then-loses =
      so _ _ _ (two_ends_without_first n) m ((held-lost service tei p past_n c w.near n near).stands) far.stands 0
      (grind (arith, goes_on, total, load, load_way))
      (none-more (length (without_first w.near).granted) (length w.far.granted) (length w.near.granted) (length w.far.granted) (ap length refl) refl)
    where
      total : (moved l way way' other z : ℕ) → moved + way ≤ way' → moved + (l + way) + other ≤ l + way' + other + z
      total moved l way way' other z less = omega (arith, less)

  -- ---- a timer expires

  module _ (timer : Timer) (its : LinkTimer) (aims : Aims service tei timer its) where
    abbrev left : Endpoint
    left = happens (expiry timer) w.near

    abbrev went : Course
    went = course n.terms (link.expired its) n.link

    abbrev n2 : LinkEndpoint
    n2 = with_link (link.expired its) n

    total : (l' l way other : ℕ) → l' ≤ l + (v + 4) → 0 + (l' + way) + other ≤ l + way + other + (v + 4) * 1
    total l' l way other less = omega (arith, less)

    pub fairly-expires : Expires v n.terms n.link went → Then (acting (expires timer) w) 0 1
    fairly-expires y = so _ _ _ n2 m (subst (λ k. StationStands k service tei p left n2) near.stands.config (expires-stands service tei p w.near n own timer its aims)) far.stands 0
        (goes_on v n m n2 m y.contents refl 0 1 y.received (total (load v went.link) (load v n.link) (load_way v n.way) (load v m.link + load_way v m.way) y.within))
        (none-more (length left.granted) (length w.far.granted) (length w.near.granted) (length w.far.granted) (ap length (same-granted (expiry timer) w.near refl)) refl)

    then-expires : Leads (expires timer)
    then-expires = go (timer-expires v n.terms n.link its)
      where
        go : HasError went.notes ⊎ Expires v n.terms n.link went → Leads (expires timer)
        go (inl error) = inr (now-erred w.near left went (expired-told service tei p past_n c w.near n near timer its aims) error)
        go (inr y) = inl (fairly-expires y)

  -- ---- its layer 3 asks for more

  pub then-asks : (octets : List ℕ) → Then (acting (requests (Data service tei octets)) w) 0 0
  then-asks octets = go (held-asked service tei p past_n c w.near n near octets)
    where
      s' : Endpoint
      s' = happens (request (Data service tei octets)) w.near

      one-more : (a b x y : ℕ) → a ≡ x + 1 → x ≡ y → a + b ≡ y + b + 1
      one-more a b x y e f = omega (arith, e, f)

      go : (s' ≡ w.near) ⊎ Grants service tei p past_n c w.near n near octets s' → Then (acting (requests (Data service tei octets)) w) 0 0
      go (inl same) =
          subst (λ s. Then (record w { near = s }) 0 0) (sym same) (so w 0 0 n m near.stands far.stands 0 (goes_on v n m n m refl refl 0 0 refl (omega arith)) (omega arith))
      go (inr x) = so _ _ _ (with_more octets n) m x.held.stands far.stands 1
          (grind (arith, length-append, load, with_more, load_way, undelivered, accepts-more, load_waiting, owes, may_reject))
          (one-more (length s'.granted) (length w.far.granted) (length n.link.contents) (length w.near.granted)
          (ap length x.held.granted ∙ length-append n.link.contents (octets ∷ [])) (sym (ap length near.granted)))

  -- ---- it takes

  taken-grants : granted_of (acting receives w) ≡ granted_of w + 0
  taken-grants = grind (arith, none-more, takes-granted)

  abbrev m1 : LinkEndpoint
  m1 = two_ends_without_first m

  lost : StationStands d service tei q (without_first w.far) m1
  lost = (held-lost service tei q past_m d w.far m far).stands

  pub takes-nothing : m.way ≡ [] → Then (acting receives w) (moved_by receives) 0
  takes-nothing e' =
      let none : w.far.way ≡ [] = far.stands.way ∙ ap (map (spelling (own_side d))) e' in
      let still : moved_by receives ≡ 0 = ap (λ ways. cond {A = ℕ} (is_any ways) 1 0) none in
      let same : load_way v m1.way ≡ load_way v m.way = ap (λ way. load_way v (drop 1 way)) e' ∙ sym (ap (load_way v) e') in
      so _ _ _ n m1 (subst (λ ways. StationStands c service tei p (with_first_of ways w.near) n) (sym none) near.stands) lost 0
      (goes_on v n m n m1 refl refl (moved_by receives) 0 refl (omega (arith, still, same))) taken-grants

  module _ (f : Parts) (fs : List Parts) (e : m.way ≡ f ∷ fs) where
    way-there : (w.far.way ≡ spelling (own_side d) f ∷ map (spelling (own_side d)) fs) × IsCarried d service tei f
    way-there = first-way service tei d q past_m w.far m f fs e far

    abbrev s' : Endpoint
    s' = frame_comes (spelling (own_side d) f) w.near

    abbrev x : Course
    x = course n.terms (link.received (link.frame f)) n.link

    abbrev n1 : LinkEndpoint
    n1 = with_link (link.received (link.frame f)) n

    behind : load_way v m.way ≡ 1 + brings v f.address.command f.control + load_way v (drop 1 m.way)
    behind = ap (load_way v) e ∙ sym (ap (λ way. 1 + brings v f.address.command f.control + load_way v (drop 1 way)) e)

    fell : TakesWell v n.link x.link f → x.link.r ≤ length m.link.contents → Fell v 1 0 0 n m n1 m1
    fell y few = which y.falls
      where
        which : ((x.link.r ≡ n.link.r) × (load v x.link ≤ load v n.link + brings v f.address.command f.control))
            ⊎ ((x.link.r ≡ n.link.r + 1) × (load v x.link ≤ load v n.link + brings v f.address.command f.control + (v + 4))) → Fell v 1 0 0 n m n1 m1
        which (inl (r, less)) = grind (arith, goes_on, load, load_way, brings, behind)
        which (inr (r, less)) =
            delivers v n m n1 m1 y.contents refl r few
            (omega (arith, behind, less))

    pub takes-well : TakesWell v n.link x.link f → x.link.r ≤ length m.link.contents → Then (acting receives w) (moved_by receives) 0
    takes-well y few = so _ _ _ n1 m1 (subst (λ ways. StationStands c service tei p (with_first_of ways w.near) n1) (sym way-there.0) (taken-stands service tei p past_n c w.near n near d face f way-there.1)) lost 0
        (subst (λ ways. Fell v (cond {A = ℕ} (is_any ways) 1 0) 0 0 n m n1 m1) (sym way-there.0) (fell y few))
        (taken-grants)

    takes-error : HasError x.notes → Erred (acting receives w).near
    takes-error error =
        subst (λ ways. Erred (with_first_of ways w.near)) (sym way-there.0) (now-erred w.near s' x (taken-told service tei p past_n c w.near n near d face f way-there.1) error)

  then-takes : ((f : Parts) (fs : List Parts) → m.way ≡ f ∷ fs
      → HasError (course n.terms (link.received (link.frame f)) n.link).notes
      ⊎ (TakesWell v n.link (after n.terms (link.received (link.frame f)) n.link) f × (after n.terms (link.received (link.frame f)) n.link).r ≤ length m.link.contents))
      → Leads receives
  then-takes well = go m.way refl
    where
      by : (f : Parts) (fs : List Parts) → m.way ≡ f ∷ fs
          → HasError (course n.terms (link.received (link.frame f)) n.link).notes
          ⊎ (TakesWell v n.link (after n.terms (link.received (link.frame f)) n.link) f × (after n.terms (link.received (link.frame f)) n.link).r ≤ length m.link.contents)
          → Leads receives
      by f fs e (inl error) = inr (takes-error f fs e error)
      by f fs e (inr y) = inl (takes-well f fs e y.0 y.1)

      go : (way : List Parts) → m.way ≡ way → Leads receives
      go [] e = inl (takes-nothing e)
      go (f ∷ fs) e = by f fs e (well f fs e)

  pub then-acts : (act : EndStep) → IsRoughTalkOf service tei act
      → ((f : Parts) (fs : List Parts) → m.way ≡ f ∷ fs
      → HasError (course n.terms (link.received (link.frame f)) n.link).notes
      ⊎ (TakesWell v n.link (after n.terms (link.received (link.frame f)) n.link) f × (after n.terms (link.received (link.frame f)) n.link).r ≤ length m.link.contents))
      → Leads act
  then-acts (requests r) is well = for-data service tei (λ r. Leads (requests r)) (λ octets. inl (then-asks octets)) r is
  then-acts (expires timer) is well = for-timer service tei (λ timer. Leads (expires timer)) then-expires timer is
  then-acts sends is well = inl then-gives
  then-acts receives is well = then-takes well
  then-acts loses is well = inl then-loses
