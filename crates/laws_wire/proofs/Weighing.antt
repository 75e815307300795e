-- What two ends still have to do, where v turns go again at most: what their links have to send, what is on their ways, and for
-- each contents that are not delivered yet a REJ, v turns, and an acknowledgement.
use Rattle.laws_wire.proofs.Vocabulary.{◌≡◌, ℕ, ◌+◌, ◌-◌, ◌*◌, ◌≤◌, List, length, ap, ◌∙◌, arith, Service, Parts, Link, LinkEndpoint, Config, Endpoint, Wire, flat_map, granted_of, link_of, turned}
use Rattle.laws_wire.specs.Facing.{line_of, read_as}
use Rattle.laws_wire.proofs.Loads.{load, load_way}
use Rattle.laws_wire.proofs.Standing.{StationStands}
use Rattle.laws_wire.proofs.Awaited.{link-is, way-is}

-- ---- the weight of two ends

abbrev pub undelivered : Link → Link → ℕ
undelivered l m = length l.contents - m.r

abbrev pub weigh_of : ℕ → Link → List Parts → Link → List Parts → ℕ
weigh_of v l way m back = (load v l + load_way v way) + (load v m + load_way v back) + ((v + 4) * undelivered l m + (v + 4) * undelivered m l)

abbrev pub weigh : ℕ → LinkEndpoint → LinkEndpoint → ℕ
weigh v n m = weigh_of v n.link n.way m.link m.way

-- So many turns or losses are made, and so many timers expire, while more contents are accepted.
pub record Fell (v moved expired more : ℕ) (n m n' m' : LinkEndpoint) : Type 0 where
  pub falls : moved + weigh v n' m' ≤ weigh v n m + (v + 4) * expired + (v + 6) * more

-- ---- what is left to do on a wire, as its stations are

module _ (service : Service) (tei : ℕ) where
  abbrev its_link : Endpoint → Link
  its_link s = link_of service tei (line_of s)

  abbrev its_way : Endpoint → List Parts
  its_way s = flat_map (read_as s.card.config) s.way

  abbrev pub heft : ℕ → Wire → ℕ
  heft v w = weigh_of v (its_link w.near) (its_way w.near) (its_link w.far) (its_way w.far)

  pub heft-is : (v : ℕ) (c d : Config) (p q : ℕ) (w : Wire) (n m : LinkEndpoint) → StationStands c service tei p w.near n → StationStands d service tei q w.far m → heft v w ≡ weigh v n m
  heft-is v c d p q w n m near far =
      λ i. weigh_of v (link-is service tei c p w.near n near i) (way-is service tei c p w.near n near i) (link-is service tei d q w.far m far i) (way-is service tei d q w.far m far i)

  -- So many turns or losses are made, so many timers expire, and so often own busy begins or ends, while more contents are granted.
  pub record Pays (v moved expired reported : ℕ) (w w' : Wire) : Type 0 where
    pub more : ℕ
    pub granted : granted_of w' ≡ granted_of w + more
    pub falls : moved + heft v w' ≤ heft v w + (v + 4) * expired + (v + 6) * more + 2 * reported

  pub pays-turned : (v moved expired reported : ℕ) (w w' : Wire) → Pays v moved expired reported (turned w) w' → Pays v moved expired reported w (turned w')
  pays-turned v moved expired reported w w' h = grind arith

  -- one after the other
  pub both-pay : (v moved expired reported moved' expired' reported' : ℕ) (w w' w'' : Wire) → Pays v moved expired reported w w' → Pays v moved' expired' reported' w' w''
      → Pays v (moved + moved') (expired + expired') (reported + reported') w w''
  both-pay v moved expired reported moved' expired' reported' w w' w'' h k = record {
    more = h.more + k.more;
    granted = all (granted_of w) (granted_of w') (granted_of w'') h.more k.more h.granted k.granted;
    falls = grind (arith, sum, heft);
  }
    where
      all : (a b c x y : ℕ) → b ≡ a + x → c ≡ b + y → c ≡ a + (x + y)
      all a b c x y e f = omega (arith, e, f)

      sum : (m m' a b c x x' xs y y' ys r r' : ℕ) → xs ≡ x + x' → ys ≡ y + y' → m + b ≤ a + x + y + 2 * r → m' + c ≤ b + x' + y' + 2 * r' → m + m' + c ≤ a + xs + ys + 2 * (r + r')
      sum m m' a b c x x' xs y y' ys r r' e f h k = omega (arith, e, f, h, k)

-- ---- what becomes of the weight of one end, while the other stays

-- a product grows with what is accepted, and falls with what is delivered
pub accepts-more : (d len r : ℕ) → r ≤ len → d * (len + 1 - r) ≡ d * (len - r) + d
accepts-more d len r low = let e : len + 1 - r ≡ (len - r) + 1 = omega (arith, low) in ap (λ x. d * x) e ∙ (omega arith)

module _ (v : ℕ) (n m n' m' : LinkEndpoint) (same : n'.link.contents ≡ n.link.contents) (kept : m'.link ≡ m.link) where
  -- nothing is accepted or delivered
  abbrev its : LinkEndpoint → ℕ
  its x = load v x.link + load_way v x.way

  there : n'.link.r ≡ n.link.r → (v + 4) * undelivered n'.link m'.link + (v + 4) * undelivered m'.link n'.link ≡ (v + 4) * undelivered n.link m.link + (v + 4) * undelivered m.link n.link
  there e = grind arith

  pub goes : (moved expired : ℕ) → n'.link.r ≡ n.link.r → moved + its n' + its m' ≤ its n + its m + (v + 4) * expired → Fell v moved expired 0 n m n' m'
  goes moved expired e less = grind (arith, there)

  -- one contents are delivered
  pub delivers : n'.link.r ≡ n.link.r + 1 → n'.link.r ≤ length m.link.contents → 1 + its n' + its m' ≤ its n + its m + (v + 4) → Fell v 1 0 0 n m n' m'
  delivers e low less = grind arith
