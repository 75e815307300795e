-- Turns, in any order or in rounds, lead to where all has arrived whose T200 has expired.
use Rattle.laws_wire.proofs.Vocabulary.{◌≡◌, ℕ, zero, suc, ◌+◌, ◌*◌, ◌<◌, ◌≤◌, Bool, true, false, ◌||◌, List, [], ◌∷◌, ◌++◌, refl, sym, ap, subst, ◌∙◌, inl, inr, arith, nat_lt, ltb-true, ltb-false, true≢false, flat_map, All, All-nil, All-cons, All-append, Service, Config, LineTold, terms, flat_map-append, Endpoint, Wire, sends, receives, StepAt, at_near, at_far, acting, turned, doing, doing_all}
use Rattle.laws_wire.proofs.Vocabulary.{IsStill, calling, CanCall, granted_of, for_layer_3, heard_in, IsRoughTalk, rounds, HasNoErrors, moves, expiries, most_frames, StayTimely, LosesNothing, ever, HasCome, GoesOn, SendsOrReceives, most_left, ArrivesInRounds, ArrivesInTurns, append-nil}
use Rattle.laws_wire.proofs.LeftToDo.{weighs-left}
use Rattle.laws_wire.proofs.LossyPhases.{IsUp, Goes as Phases}
use Rattle.laws_wire.proofs.LossyRun.{More, near-more, Setting, setting, fair-goes}
use Rattle.laws_wire.proofs.RestedRounds.{doing-append, many, many-rounds, finds}
use Rattle.laws_wire.proofs.RestedRun.{from-up, twice}
use Rattle.laws_wire.proofs.Turning.{turns-fair, few-turns, all-of_link, all-lose_none, behind-timely, no-expiries, no-grants, are-moves}
use Rattle.laws_wire.proofs.UnderwayRun.{arrives-under-traffic}
use Rattle.laws_wire.proofs.Weighing.{weigh}

many-turns : (n : ℕ) → All SendsOrReceives (many n)
unfolding many
many-turns zero = All-nil SendsOrReceives
many-turns (suc n) =
    All-cons SendsOrReceives (at_near sends) (at_far receives ∷ at_far sends ∷ at_near receives ∷ many n) tt
    (All-cons SendsOrReceives (at_far receives) (at_far sends ∷ at_near receives ∷ many n) tt
    (All-cons SendsOrReceives (at_far sends) (at_near receives ∷ many n) tt (All-cons SendsOrReceives (at_near receives) (many n) tt (many-turns n))))

pub both-timely : (ds es : List StepAt) (w : Wire) → StayTimely ds w → StayTimely es (doing_all ds w) → StayTimely (ds ++ es) w
unfolding StayTimely doing_all
both-timely [] es w h g = g
both-timely (d ∷ ds) es w h g = (h.0, both-timely ds es (doing d w) h.1 g)

-- what was so at some time was so at some time of more
or-first : (b x y : Bool) → (x ≡ true → y ≡ true) → (b || x) ≡ true → (b || y) ≡ true
or-first b x y h e = grind arith

ever-append : (asks : StepAt → Wire → Bool) (ds es : List StepAt) (w : Wire) → ever asks ds w ≡ true → ever asks (ds ++ es) w ≡ true
unfolding ever
ever-append asks [] es w e = absurd (true≢false (sym e))
ever-append asks (d ∷ ds) es w e = or-first (asks d w) (ever asks ds (doing d w)) (ever asks (ds ++ es) (doing d w)) (ever-append asks ds es (doing d w)) e

come-sooner : (service : Service) (tei : ℕ) (since es : List StepAt) (w last : Wire) → HasCome service tei (since ++ es) w last → HasCome service tei since w last
come-sooner service tei since es w last h = grind (arith, ever-append)

-- ---- what was told stays told

none-first : (xs ys : List LineTold) → xs ++ ys ≡ [] → xs ≡ []
none-first [] ys e = refl
none-first (x ∷ xs) ys e = absurd (cc)

none-before : (s s' : Endpoint) → More s s' → heard_in s' ≡ [] → heard_in s ≡ []
none-before s s' x e = none-first (heard_in s) (flat_map for_layer_3 x.more) (sym (flat_map-append for_layer_3 s.told x.more) ∙ sym (ap (flat_map for_layer_3) x.told) ∙ e)

pub told-still : (ds : List StepAt) (w : Wire) → (heard_in w.near ≡ [] → ⊥) → heard_in (doing_all ds w).near ≡ [] → ⊥
unfolding doing_all
told-still [] w h = h
told-still (at_near act ∷ ds) w h = told-still ds (acting act w) (λ e. h (none-before w.near (acting act w).near (near-more act w) e))
told-still (at_far act ∷ ds) w h = told-still ds (turned (acting act (turned w))) (λ e. h (none-before w.near (acting act (turned w)).far (grind (arith, append-nil)) e))

-- ---- so many turns there are

-- the lesser of two bounds
least : (a b : ℕ) → (m : ℕ) × (m ≤ a) × (m ≤ b) × ((x : ℕ) → x ≤ a → x ≤ b → x < m + 1)
least a b = go (nat_lt a b) refl
  where
    go : (o : Bool) → nat_lt a b ≡ o → (m : ℕ) × (m ≤ a) × (m ≤ b) × ((x : ℕ) → x ≤ a → x ≤ b → x < m + 1)
    go true e = let less = ltb-true a b e in (a, omega arith, omega (arith, less), λ x h g. omega (arith, h))
    go false e = let less = ltb-false a b e in (b, omega (arith, less), omega arith, λ x h g. omega (arith, g))

module _ (service : Service) (c d : Config) (line other tei k : ℕ) (before since : List StepAt) (can : CanCall c line d other tei) (wide : (terms c service tei).k ≤ k) (wide' : (terms d service tei).k ≤ k)
    (talk : All (IsRoughTalk service tei) before) where
  abbrev begun : Wire
  begun = calling service tei c line d other

  abbrev w : Wire
  w = doing_all before begun

  abbrev last : Wire
  last = doing_all since w

  same : doing_all (before ++ since) begun ≡ last
  same = doing-append before since begun

  module _ (timely : StayTimely before begun) (on : GoesOn service tei since w) where
    whole : All (IsRoughTalk service tei) (before ++ since)
    whole = All-append (IsRoughTalk service tei) before since talk on.1

    told : heard_in last.near ≡ [] → ⊥
    told = told-still since w on.0

    module _ (es : List StepAt) (all : All SendsOrReceives es) where
      fair : HasNoErrors (doing_all es last)
      fair = subst (λ v. HasNoErrors (doing_all es v)) same (turns-fair service c d line other tei k (before ++ since) es can whole all (both-timely before since begun timely on.3))

      pub by-call : moves es last ≤ 2 * most_frames k (expiries (before ++ since)) (granted_of last)
      by-call =
          subst (λ v. moves es v ≤ 2 * most_frames k (expiries (before ++ since)) (granted_of v)) same
          (few-turns service c d line other tei k (before ++ since) es can whole all wide wide' (both-timely before since begun timely on.3))

      pub by-left : HasNoErrors last → moves es last ≤ most_left service tei k last
      by-left fair-now =
          let first : HasNoErrors (doing_all (before ++ since) begun) = subst HasNoErrors (sym same) fair-now in
          go (subst (Phases service tei c d 0 0) same (fair-goes service c d line other tei (before ++ since) can whole first.0 first.1))
        where
          x : Setting service c d line other tei
          x = setting service c d line other tei can

          up : (h : IsUp service tei c d 0 0 last) → moves es last ≤ most_left service tei k last
          up h =
              leq (moves es last) (weigh (2 * k) h.n h.m) (most_left service tei k last)
              (from-up service tei c d 0 0 x.face x.back x.near x.far (2 * k) (twice (terms c service tei).k k wide) (twice (terms d service tei).k k wide') es (all-of_link service tei es all) last h
              (no-expiries es all) (no-grants es last all) fair.0 fair.1)
              (weighs-left service tei c d 0 0 k last h (subst (λ t. t.k ≤ k) (sym h.near.held.stands.terms) wide) (subst (λ t. t.k ≤ k) (sym h.far.held.stands.terms) wide'))
            where
              leq : (a b m : ℕ) → a ≤ b → b ≤ m → a ≤ m
              leq a b m p q = omega (arith, p, q)

          go : Phases service tei c d 0 0 last → moves es last ≤ most_left service tei k last
          go (inl h) = absurd (told h.near.heard)
          go (inr (inl h)) = absurd (told h.near.heard)
          go (inr (inr h)) = up h

    fair-now : HasNoErrors last
    unfolding doing_all
    fair-now = fair [] (All-nil SendsOrReceives)

    -- and where none is left all has come
    pub comes : 3 ≤ c.control → 3 ≤ d.control → (es : List StepAt) → All SendsOrReceives es → IsStill (doing_all es last) → HasCome service tei since w (doing_all es last)
    comes three three' es all still =
        let there : doing_all (since ++ es) w ≡ doing_all es last = doing-append since es w in
        let goes : GoesOn service tei (since ++ es) w = (
          on.0,
          All-append (IsRoughTalk service tei) since es on.1 (all-of_link service tei es all),
          All-append LosesNothing since es on.2 (all-lose_none es all),
          behind-timely since es w on.3 all,
        ) in
        come-sooner service tei since es w (doing_all es last)
        (subst (HasCome service tei (since ++ es) w) there (arrives-under-traffic service c d line other tei before (since ++ es) (can, three, three', talk, timely, goes) (subst IsStill (sym there) still)))

    abbrev Bounded : ℕ → Type 0
    Bounded n = (n ≤ most_left service tei k last) × (n ≤ 2 * most_frames k (expiries (before ++ since)) (granted_of last))

    pub bounded : (es : List StepAt) → All SendsOrReceives es → Bounded (moves es last)
    bounded es all = (by-left es all fair-now, by-call es all)

    pub rests : (n : ℕ) × Bounded n × IsStill (rounds n last)
    rests =
        let most = least (most_left service tei k last) (2 * most_frames k (expiries (before ++ since)) (granted_of last)) in
        let m = most.0 in
        let few = bounded (many (m + 1)) (many-turns (m + 1)) in
        let x = finds (m + 1) last (most.3 (moves (many (m + 1)) last) few.0 few.1) in
        let n = x.after in
        let less : n < m + 1 = x.before in
        let left : m ≤ most_left service tei k last = most.1 in
        let call : m ≤ 2 * most_frames k (expiries (before ++ since)) (granted_of last) = most.2 in
        (n, (omega (arith, less, left), omega (arith, less, call)), x.still)

pub arrives-in-rounds : ArrivesInRounds
arrives-in-rounds service c d line other tei k before since (can, three, three', talk, timely, on) wide wide' =
    let x = rests service c d line other tei k before since can wide wide' talk timely on in
    let n = x.0 in
    let there = many-rounds n (doing_all since (doing_all before (calling service tei c line d other))) in (
      n,
      x.1.0,
      x.1.1,
      x.2,
      subst (HasCome service tei since (doing_all before (calling service tei c line d other))) there
          (comes service c d line other tei k before since can wide wide' talk timely on three three' (many n) (many-turns n) (subst IsStill (sym there) x.2)),
    )

pub arrives-in-turns : ArrivesInTurns
arrives-in-turns service c d line other tei k before since more (can, three, three', talk, timely, on) wide wide' all =
    let last = doing_all since (doing_all before (calling service tei c line d other)) in
    let x = bounded service c d line other tei k before since can wide wide' talk timely on more all in
    let same = are-moves more last all in (
      subst (λ n. n ≤ most_left service tei k last) (sym same) x.0,
      subst (λ n. n ≤ 2 * most_frames k (expiries (before ++ since)) (granted_of last)) (sym same) x.1,
      λ still. comes service c d line other tei k before since can wide wide' talk timely on three three' more all still,
    )
