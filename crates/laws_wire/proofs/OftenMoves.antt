-- However T200 expires, once nothing more is lost and nothing more is granted there are so many moves at most.
use Rattle.laws_wire.proofs.Vocabulary.{◌≡◌, ℕ, ◌+◌, ◌*◌, ◌≤◌, LineTold, Endpoint, data_told, length-map, List, ◌++◌, length, sym, subst, inl, inr, arith, All, All-append, Service, Config, terms, Wire, StepAt, doing_all, calling, CanCall, granted_of, IsRoughTalk, HasNoErrors, moves, expiries, most_frames, most_left, frames_left, notes_left, StayTimely, GoesOn, confirmed, indicated, all_told}
use Rattle.std.proofs.Math.Nat.{mul-le-mul_left}
use Rattle.laws_wire.specs.Expiring.{MovesComeToAnEndAsT200Expires}
use Rattle.laws_wire.proofs.LeftToDo.{weighs-left}
use Rattle.laws_wire.proofs.LossyPhases.{IsUp, Goes as Phases}
use Rattle.laws_wire.proofs.LossyRun.{Setting, setting, fair-goes}
use Rattle.laws_wire.proofs.OftenRun.{expiries-come-to-an-end}
use Rattle.laws_wire.proofs.RestedRounds.{doing-append}
use Rattle.laws_wire.proofs.RestedRun.{from-up-on, twice}
use Rattle.laws_wire.proofs.TimelyRun.{what-is-lost-arrives}
use Rattle.laws_wire.proofs.UnderwayRounds.{both-timely}
use Rattle.laws_wire.proofs.Weighing.{weigh}

module _ (service : Service) (c d : Config) (line other tei k : ℕ) (before since : List StepAt) (can : CanCall c line d other tei) (wide : (terms c service tei).k ≤ k) (wide' : (terms d service tei).k ≤ k)
    (talk : All (IsRoughTalk service tei) before) (timely : StayTimely before (calling service tei c line d other)) (on : GoesOn service tei since (doing_all before (calling service tei c line d other))) where
  abbrev begun : Wire
  begun = calling service tei c line d other

  abbrev w : Wire
  w = doing_all before begun

  abbrev last : Wire
  last = doing_all since w

  fair-then : HasNoErrors w
  fair-then = (what-is-lost-arrives service c d line other tei before can talk timely).no_error

  fair-last : HasNoErrors last
  fair-last =
      subst HasNoErrors (doing-append before since begun)
      (what-is-lost-arrives service c d line other tei (before ++ since) can (All-append (IsRoughTalk service tei) before since talk on.1) (both-timely before since begun timely on.3)).no_error

  pub few-moves : granted_of last ≡ granted_of w → moves since w ≤ most_left service tei k w + (2 * k + 4) * expiries since
  few-moves same = go (fair-goes service c d line other tei before can talk fair-then.0 fair-then.1)
    where
      x : Setting service c d line other tei
      x = setting service c d line other tei can

      up : (h : IsUp service tei c d 0 0 w) → moves since w ≤ most_left service tei k w + (2 * k + 4) * expiries since
      up h =
          let one : moves since w ≤ weigh (2 * k) h.n h.m + (2 * k + 4) * expiries since =
          from-up-on service tei c d 0 0 x.face x.back x.near x.far (2 * k) (twice (terms c service tei).k k wide) (twice (terms d service tei).k k wide') since on.1 w h same fair-last.0 fair-last.1 in
          let two : weigh (2 * k) h.n h.m ≤ most_left service tei k w =
          weighs-left service tei c d 0 0 k w h (subst (λ t. t.k ≤ k) (sym h.near.held.stands.terms) wide) (subst (λ t. t.k ≤ k) (sym h.far.held.stands.terms) wide') in
          add (moves since w) (weigh (2 * k) h.n h.m) (most_left service tei k w) ((2 * k + 4) * expiries since) one two
        where
          add : (a b m e : ℕ) → a ≤ b + e → b ≤ m → a ≤ m + e
          add a b m e p q = omega (arith, p, q)

      go : Phases service tei c d 0 0 w → moves since w ≤ most_left service tei k w + (2 * k + 4) * expiries since
      go (inl h) = absurd (on.0 h.near.heard)
      go (inr (inl h)) = absurd (on.0 h.near.heard)
      go (inr (inr h)) = up h

-- T200 expired as often as notes were missing, and twice more
counted : (k moved f g u e : ℕ) → moved ≤ 2 * most_frames k (4 + f + g) u + (2 * k + 4) * e → e ≤ u + 2 → moved ≤ 2 * most_frames k (6 + f + g + u) u
counted k moved f g u e few le =
    let all : (2 * k + 4) * e ≤ (2 * k + 4) * (u + 2) = mul-le-mul_left (2 * k + 4) le in
    let sum : (k + 2) * (6 + f + g + u) ≡ (k + 2) * (4 + f + g) + (k + 2) * (u + 2) = grind arith in
    let both : (2 * k + 4) * (u + 2) ≡ 2 * ((k + 2) * (u + 2)) = grind arith in
    omega (arith, few, all, sum, both)

due-length : (service : Service) (tei : ℕ) (first : LineTold) (s : Endpoint) → length (all_told service tei first s) ≡ length s.granted + 1
due-length service tei first s = let same = length-map s.granted (data_told service tei) in omega (arith, same)

pub moves-come-to-an-end : MovesComeToAnEndAsT200Expires
moves-come-to-an-end service c d line other tei k before since (can, wide_c, wide_d, talk, timely, on) wide wide' = λ same running.
    let w = doing_all before (calling service tei c line d other) in
    let last = doing_all since w in
    let most = expiries-come-to-an-end service c d line other tei before since (can, wide_c, wide_d, talk, timely, on) in
    let near = most.0 in
    let far = most.1 in
    let one = due-length service tei (indicated service tei) w.near in
    let two = due-length service tei (confirmed service tei) w.far in
    let three = due-length service tei (indicated service tei) last.near in
    let four = due-length service tei (confirmed service tei) last.far in
    let few : expiries since ≤ notes_left service tei w + 2 = omega (arith, near, far, one, two, three, four, same, running) in
    counted k (moves since w) (frames_left service tei w.near) (frames_left service tei w.far) (notes_left service tei w) (expiries since)
    (few-moves service c d line other tei k before since can wide wide' talk timely on same) few
