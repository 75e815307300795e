-- What an observer knows of a link is what follows its parts: over runs.
use Rattle.laws_trace.proofs.Vocabulary.{◌≡◌, ℕ, ◌+◌, ◌==◌, ◌&&◌, ◌||◌, not, Bool, cond, Option, Some, None, is_some, sym, ap, subst, arith, eq-eqb, fold, IfSome, option_map_or, Service, State, state_number, Config, Answer, eqb-true, Observed, in_state, by_event, seen, Event, cond_both}
use Rattle.laws_trace.proofs.NewsWatched.{Wanted, newly, none_left, then_owes, then_wanted, wish_of, with_wish}
use Rattle.laws_trace.proofs.States as states
use Rattle.laws_trace.proofs.TimersWatched.{Known, learned}
use Rattle.laws_trace.proofs.States.{is_state, differ}
use Rattle.laws_trace.proofs.ObservedMoves.{grown, event-moves}
use Rattle.laws_trace.proofs.ObservedShape.{When, known_of, at_state, Shape, Moved, none_more, one_more}
use Rattle.laws_trace.proofs.MovesWatched as moves

-- Where the TEI is on the line, in a state: the numbers, whether layer 3 asked for the establishment, or is owed the release,
-- whether I-frames are outstanding, and how often T200 expired.
pub record IsObserved (s : ℕ) (k : Known) (asked : Wanted) (owed : Bool) (n : ℕ) (o : Observed) : Type 0 where
  pub state_is : o.state ≡ s
  pub known_is : known_of o ≡ k
  pub asks : When (s == 5) (o.asked ≡ asked.asked)
  pub wants : When (s == 5) (o.owed ≡ asked.owed)
  pub owes : When (s == 5) (o.outstanding ≡ owed)
  pub rests : When (not (s == 5)) (owed ≡ not (k.next == k.acknowledged))
  pub counts : When (s == 5 || (s == 6 || s == 8)) (o.expiries ≡ n)

-- and where it is not, in state 1.
abbrev pub IsSeen : Option ℕ → Known → Wanted → Bool → ℕ → Observed → Type 0
IsSeen None k asked owed n o = o ≡ in_state 1
IsSeen (Some s) k asked owed n o = IsObserved s k asked owed n o

-- One step behind what was known.
module _ (s to : ℕ) (k l : Known) (new : Bool) (wish : Option Bool) (asked : Wanted) (owed : Bool) (first : ℕ) (more : ℕ → ℕ) (n : ℕ) (p q : Observed) (m : Moved s to l new wish first more p q) (h : IsObserved s k asked owed n p) where
  joined : IsObserved to l (cond (to == 5 && not (to == s)) (newly new) (with_wish wish asked)) (cond (to == 5) (cond (not (to == s)) owed (option_map_or none_left wish owed)) (not (l.next == l.acknowledged))) (cond (not (to == s)) first (more n)) q
  joined = grind (arith, eq-eqb, eqb-true, Known)

module _ (c : Config) (service : Service) (tei : ℕ) where
  -- How often T200 expired counts in states 5, 6 and 8 alone.
  abbrev pub counted_by : Event → ℕ
  counted_by what = option_map_or states.one_more (states.expired_of service tei what) 0

  -- An event of the line, where the TEI is on it before and behind.
  module _ (x : State) (k : Known) (shape : Shape x k) (asked : Wanted) (owed : Bool) (n : ℕ) (o : Observed) (h : IsObserved (state_number x) k asked owed n o) (what : Event) (a : Answer) where
    abbrev s : ℕ
    s = state_number x

    abbrev leads : ℕ → ℕ
    leads n = moves.led c service tei k asked.owed n what (seen what a) s

    same : o ≡ at_state s k o
    same = λ i. record o { state = h.state_is i; acknowledged = (h.known_is i).acknowledged; next = (h.known_is i).next; busy = (h.known_is i).busy }

    abbrev Follows : ℕ → ℕ → Observed → Type 0
    Follows to m q =
        let l = learned c service tei (Some s) (Some to) k (seen what a) in
        IsObserved to l (cond (to == 5 && not (to == s)) (newly (s == 4)) (with_wish (wish_of c service tei what a) asked)) (cond (to == 5) (cond (not (to == s)) owed (option_map_or none_left (wish_of c service tei what a) owed)) (not (l.next == l.acknowledged))) (cond (not (to == s)) (moves.first c (Some s) (states.expired_of service tei what)) m) q

    pub observed : Follows (leads n) (n + counted_by what) (by_event c service tei what a o)
    observed =
        let p = at_state s k o in
        let to = leads o.expiries in
        let l = learned c service tei (Some s) (Some to) k (seen what a) in
        let whole = joined s to k l (s == 4) (wish_of c service tei what a) asked owed (moves.first c (Some s) (states.expired_of service tei what)) (grown c service tei what) n p (by_event c service tei what a p)
        (event-moves c service tei x k shape asked.owed o h.wants what a) (subst (IsObserved s k asked owed n) same h) in
        subst (λ to. Follows to (n + counted_by what) (by_event c service tei what a o)) (sym (ap (λ m. fold (moves.by_seen c service tei k asked.owed) m (seen what a)) (grind (arith, moves.by_expiry))))
        (subst (λ m. Follows to m (by_event c service tei what a o)) (grind (arith, one_more, none_more, states.one_more, cond_both))
        (subst (λ p. Follows to (grown c service tei what n) (by_event c service tei what a p)) (sym same) whole))

    -- from a state to one, or off the line
    pub goes-on : (to : Option ℕ) → IfSome to (λ state. state ≡ leads n) → let from = Some s in let l = learned c service tei from to k (seen what a) in
        IsSeen to l (then_wanted from to (wish_of c service tei what a) asked) (then_owes from to (wish_of c service tei what a) owed (not (l.next == l.acknowledged)))
        (cond (differ from to) (moves.first c from (states.expired_of service tei what)) (n + counted_by what)) (cond (not (is_some to)) (in_state 1) (by_event c service tei what a o))
    goes-on to led = grind (arith, observed)

  -- One that comes to the line.
  pub comes : (to : ℕ) → to ≡ 4 → (k : Known) (wish : Option Bool) (asked : Wanted) (owed : Bool) (n : ℕ) (what : Event) (a : Answer) → let l = learned c service tei None (Some to) k (seen what a) in
      IsObserved to l (then_wanted None (Some to) wish asked) (then_owes None (Some to) wish owed (not (l.next == l.acknowledged))) n (in_state 4)
  comes to is k wish asked owed n what a = grind (arith, learned, is_state, differ)
