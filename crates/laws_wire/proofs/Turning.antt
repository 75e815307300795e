-- Turns alone, in any order.
use Rattle.laws_wire.proofs.Vocabulary.{◌≡◌, ℕ, ◌+◌, ◌*◌, ◌≤◌, List, [], ◌∷◌, ◌++◌, refl, sym, ap, subst, ◌∙◌, arith, if◌then◌else◌, All, All-head, All-tail, All-weaker, All-append, Service, Config, terms, Wire, StepAt, doing, doing_all, is_turn, turns, calling, CanCall, SendsOrReceives, granted_of, IsRoughTalk, HasNoErrors, moves, expiries, expiries_in, most_frames, IsTimely, StayTimely}
use Rattle.laws_wire.proofs.Vocabulary.{LosesNothing, is_move}
use Rattle.laws_wire.proofs.RestedRounds.{doing-append, moves-append, expiries-append, near-gives, near-takes, far-gives, far-takes}
use Rattle.laws_wire.proofs.RestedRun.{moves-come-to-an-end}
use Rattle.laws_wire.proofs.TimelyRun.{what-is-lost-arrives}

-- ---- one turn

loses-none : (d : StepAt) → SendsOrReceives d → LosesNothing d
loses-none d t = grind arith

in-time : (d : StepAt) (w : Wire) → SendsOrReceives d → IsTimely d w
in-time d w t = grind arith

no-expiry : (d : StepAt) → SendsOrReceives d → expiries_in d ≡ 0
no-expiry d t = grind arith

no-grant : (d : StepAt) (w : Wire) → SendsOrReceives d → granted_of (doing d w) ≡ granted_of w
no-grant d w t = grind (arith, near-gives, near-takes, far-gives, far-takes)

is-move : (d : StepAt) (w : Wire) → SendsOrReceives d → is_turn d w ≡ is_move d w
is-move d w t = grind arith

-- ---- and many

pub all-of_link : (service : Service) (tei : ℕ) (es : List StepAt) → All SendsOrReceives es → All (IsRoughTalk service tei) es
all-of_link service tei es all = All-weaker SendsOrReceives (IsRoughTalk service tei) (λ d t. grind arith) es all

pub all-lose_none : (es : List StepAt) → All SendsOrReceives es → All LosesNothing es
all-lose_none es all = All-weaker SendsOrReceives LosesNothing loses-none es all

pub behind-timely : (ds es : List StepAt) (w : Wire) → StayTimely ds w → All SendsOrReceives es → StayTimely (ds ++ es) w
unfolding StayTimely
behind-timely [] [] w h all = tt
behind-timely [] (e ∷ es) w h all = (in-time e w (All-head SendsOrReceives e es all), behind-timely [] es (doing e w) tt (All-tail SendsOrReceives e es all))
behind-timely (d ∷ ds) es w h all = (h.0, behind-timely ds es (doing d w) h.1 all)

pub no-expiries : (es : List StepAt) → All SendsOrReceives es → expiries es ≡ 0
unfolding expiries
no-expiries [] all = refl
no-expiries (e ∷ es) all =
    let rest = no-expiries es (All-tail SendsOrReceives e es all) in
    omega (arith, (no-expiry e (All-head SendsOrReceives e es all)), rest)

pub no-grants : (es : List StepAt) (w : Wire) → All SendsOrReceives es → granted_of (doing_all es w) ≡ granted_of w
unfolding doing_all
no-grants [] w all = refl
no-grants (e ∷ es) w all = no-grants es (doing e w) (All-tail SendsOrReceives e es all) ∙ no-grant e w (All-head SendsOrReceives e es all)

pub are-moves : (es : List StepAt) (w : Wire) → All SendsOrReceives es → turns es w ≡ moves es w
unfolding turns moves
are-moves [] w all = refl
are-moves (e ∷ es) w all =
    ap (λ b. (if b then 1 else 0) + turns es (doing e w)) (is-move e w (All-head SendsOrReceives e es all))
    ∙ ap (λ n. (if is_move e w then 1 else 0) + n) (are-moves es (doing e w) (All-tail SendsOrReceives e es all))

-- ---- behind a timely call

module _ (service : Service) (c d : Config) (line other tei k : ℕ) (ds es : List StepAt) (can : CanCall c line d other tei) (talk : All (IsRoughTalk service tei) ds) (all : All SendsOrReceives es) where
  abbrev begun : Wire
  begun = calling service tei c line d other

  whole : All (IsRoughTalk service tei) (ds ++ es)
  whole = All-append (IsRoughTalk service tei) ds es talk (all-of_link service tei es all)

  -- no error is told
  pub turns-fair : StayTimely ds begun → HasNoErrors (doing_all es (doing_all ds begun))
  turns-fair timely =
      subst HasNoErrors (doing-append ds es begun)
      (what-is-lost-arrives service c d line other tei (ds ++ es) can whole (behind-timely ds es begun timely all)).no_error

  -- so they are as few as the bound of the whole call says
  pub few-turns : (terms c service tei).k ≤ k → (terms d service tei).k ≤ k → StayTimely ds begun
      → let w = doing_all ds begun in moves es w ≤ 2 * most_frames k (expiries ds) (granted_of w)
  few-turns wide wide' timely =
      let w = doing_all ds begun in
      let fair : HasNoErrors (doing_all (ds ++ es) begun) = subst HasNoErrors (sym (doing-append ds es begun)) (turns-fair timely) in
      let expired : expiries (ds ++ es) ≡ expiries ds = expiries-append ds es ∙ (let none = no-expiries es all in omega (arith, none)) in
      let granted : granted_of (doing_all (ds ++ es) begun) ≡ granted_of w = ap granted_of (doing-append ds es begun) ∙ no-grants es w all in
      let bound : moves (ds ++ es) begun ≤ 2 * most_frames k (expiries (ds ++ es)) (granted_of (doing_all (ds ++ es) begun)) =
      moves-come-to-an-end service c d line other tei k (ds ++ es) can whole wide wide' fair.0 fair.1 in
      let few : moves (ds ++ es) begun ≤ 2 * most_frames k (expiries ds) (granted_of w) =
      subst (λ g. moves (ds ++ es) begun ≤ 2 * most_frames k (expiries ds) g) granted (subst (λ x. moves (ds ++ es) begun ≤ 2 * most_frames k x (granted_of (doing_all (ds ++ es) begun))) expired bound) in
      omega (arith, moves-append ds es begun, few)
