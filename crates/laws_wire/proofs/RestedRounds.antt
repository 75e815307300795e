-- Rounds in which no error is told lead to where no turn is left.
use Rattle.laws_wire.proofs.Vocabulary.{◌≡◌, ℕ, zero, suc, ◌+◌, ◌*◌, ◌<◌, ◌≤◌, List, [], ◌∷◌, ◌++◌, length, option_map, refl, sym, ap, subst, ◌∙◌, arith, All, All-nil, All-append, Service, Config, terms, Wire, StepAt, at_near, at_far, acting, turned, doing, doing_all, IsStill, calling, CanCall, granted_of, IsRoughTalk, round, rounds, HasNoErrors, moves, expiries, most_frames, RoundsComeToRest}
use Rattle.laws_wire.specs.Wire as wire
use Rattle.laws_wire.proofs.Answered.{gives-taken, gives-granted, takes-granted}
use Rattle.laws_wire.proofs.RestedRun.{moves-come-to-an-end}

-- ---- one thing done after another

pub doing-append : (ds es : List StepAt) (w : Wire) → doing_all (ds ++ es) w ≡ doing_all es (doing_all ds w)
unfolding doing_all
doing-append [] es w = refl
doing-append (d ∷ ds) es w = doing-append ds es (doing d w)

pub moves-append : (ds es : List StepAt) (w : Wire) → moves (ds ++ es) w ≡ moves ds w + moves es (doing_all ds w)
unfolding doing_all moves
moves-append [] es w = omega arith
moves-append (d ∷ ds) es w =
    let rest : moves (ds ++ es) (doing d w) ≡ moves ds (doing d w) + moves es (doing_all ds (doing d w)) = moves-append ds es (doing d w) in
    omega (arith, rest)

pub expiries-append : (ds es : List StepAt) → expiries (ds ++ es) ≡ expiries ds + expiries es
unfolding expiries
expiries-append [] es = omega arith
expiries-append (d ∷ ds) es = let rest : expiries (ds ++ es) ≡ expiries ds + expiries es = expiries-append ds es in omega (arith, rest)

-- ---- rounds, as a list

unfoldable pub many : ℕ → List StepAt
many zero = []
many (suc n) = at_near wire.sends ∷ at_far wire.receives ∷ at_far wire.sends ∷ at_near wire.receives ∷ many n

pub many-rounds : (n : ℕ) (w : Wire) → doing_all (many n) w ≡ rounds n w
unfolding many doing_all rounds
many-rounds zero w = refl
many-rounds (suc n) w = many-rounds n (doing_all round w)

pub none-expires : (n : ℕ) → expiries (many n) ≡ 0
unfolding many expiries
none-expires zero = refl
none-expires (suc n) = let rest : expiries (many n) ≡ 0 = none-expires n in omega (arith, rest)

pub all-rough : (service : Service) (tei n : ℕ) → All (IsRoughTalk service tei) (many n)
unfolding many
all-rough service tei zero = All-nil (IsRoughTalk service tei)
all-rough service tei (suc n) = grind (arith, all-rough service tei n)

-- ---- nothing is granted in a round

pub near-gives : (w : Wire) → granted_of (acting wire.sends w) ≡ granted_of w
near-gives w = ap (λ (xs : List (List ℕ)). length xs + length w.far.granted) (gives-granted w.near)

pub near-takes : (w : Wire) → granted_of (acting wire.receives w) ≡ granted_of w
near-takes w = ap (λ (xs : List (List ℕ)). length xs + length w.far.granted) (grind (arith, takes-granted))

pub far-gives : (w : Wire) → granted_of (turned (acting wire.sends (turned w))) ≡ granted_of w
far-gives w = ap (λ (xs : List (List ℕ)). length w.near.granted + length xs) (gives-granted w.far)

pub far-takes : (w : Wire) → granted_of (turned (acting wire.receives (turned w))) ≡ granted_of w
far-takes w = ap (λ (xs : List (List ℕ)). length w.near.granted + length xs) (grind (arith, takes-granted))

abbrev w1 : Wire → Wire
w1 w = acting wire.sends w

abbrev w2 : Wire → Wire
w2 w = turned (acting wire.receives (turned (w1 w)))

abbrev w3 : Wire → Wire
w3 w = turned (acting wire.sends (turned (w2 w)))

abbrev w4 : Wire → Wire
w4 w = acting wire.receives (w3 w)

pub none-more : (n : ℕ) (w : Wire) → granted_of (doing_all (many n) w) ≡ granted_of w
unfolding many doing_all
none-more zero w = refl
none-more (suc n) w = none-more n (w4 w) ∙ near-takes (w3 w) ∙ far-gives (w2 w) ∙ far-takes (w1 w) ∙ near-gives w

-- ---- a round without a move finds no turn left

no-front : (xs ys : List (List ℕ)) → xs ++ ys ≡ [] → xs ≡ []
no-front [] ys e = refl
no-front (x ∷ xs) ys e = absurd (cc)

still-if : (w : Wire) → moves round w ≡ 0 → IsStill w
unfolding moves
still-if w e = grind (arith, gives-taken, option_map, no-front)

-- So among more rounds than there are moves one finds no turn left.
pub record Rests (n : ℕ) (w : Wire) : Type 0 where
  pub after : ℕ
  pub before : after < n
  pub still : IsStill (rounds after w)

pub finds : (n : ℕ) (w : Wire) → moves (many n) w < n → Rests n w
unfolding many moves doing_all rounds
finds zero w few = absurd (omega (arith, few))
finds (suc n) w few = go (λ less. finds n (w4 w) less) (moves round w) refl
  where
    later : Rests n (w4 w) → Rests (suc n) w
    later x = record { after = suc x.after; before = let less = x.before in omega (arith, less); still = x.still }

    go : (moves (many n) (w4 w) < n → Rests n (w4 w)) → (k : ℕ) → moves round w ≡ k → Rests (suc n) w
    go others zero e = record { after = 0; before = omega arith; still = still-if w e }
    go others (suc k) e = later (others (omega (arith, moves-append round (many n) w ∙ ap (λ x. x + moves (many n) (w4 w)) e, few)))

-- There are so few moves in rounds in which no error is told.
pub few-moves : (service : Service) (c d : Config) (line other tei k r : ℕ) (ds : List StepAt) → CanCall c line d other tei → All (IsRoughTalk service tei) ds
    → (terms c service tei).k ≤ k → (terms d service tei).k ≤ k → let w = doing_all ds (calling service tei c line d other) in HasNoErrors (rounds r w)
    → moves (many r) w ≤ 2 * most_frames k (expiries ds) (granted_of w)
few-moves service c d line other tei k r ds can talk wide-near wide-far = λ fair. go fair
  where
    begun : Wire
    begun = calling service tei c line d other

    w : Wire
    w = doing_all ds begun

    led : doing_all (ds ++ many r) begun ≡ rounds r w
    led = doing-append ds (many r) begun ∙ many-rounds r w

    expired : expiries (ds ++ many r) ≡ expiries ds
    expired = expiries-append ds (many r) ∙ (let none : expiries (many r) ≡ 0 = none-expires r in omega (arith, none))

    few : (all first rest most' most : ℕ) → all ≡ first + rest → all ≤ most' → most' ≡ most → rest ≤ most
    few all first rest most' most e less same = omega (arith, e, less, same)

    go : HasNoErrors (rounds r w) → moves (many r) w ≤ 2 * most_frames k (expiries ds) (granted_of w)
    go fair =
        let fair' : HasNoErrors (doing_all (ds ++ many r) begun) = subst HasNoErrors (sym led) fair in
        few (moves (ds ++ many r) begun) (moves ds begun) (moves (many r) w) (2 * most_frames k (expiries (ds ++ many r)) (granted_of (doing_all (ds ++ many r) begun))) (2 * most_frames k (expiries ds) (granted_of w))
        (moves-append ds (many r) begun)
        (moves-come-to-an-end service c d line other tei k (ds ++ many r) can (All-append (IsRoughTalk service tei) ds (many r) talk (all-rough service tei r)) wide-near wide-far fair'.0 fair'.1)
        (λ i. 2 * most_frames k (expired i) ((ap granted_of (doing-append ds (many r) begun) ∙ none-more r w) i))

pub rounds-come-to-rest : RoundsComeToRest
rounds-come-to-rest service c d line other tei k ds can talk wide-near wide-far = λ fair.
    let w = doing_all ds (calling service tei c line d other) in
    let most = 2 * most_frames k (expiries ds) (granted_of w) in
    let x = finds (most + 1) w (omega (arith, (few-moves service c d line other tei k (most + 1) ds can talk wide-near wide-far fair))) in
    (x.after, (let less = x.before in omega (arith, less)), x.still)
