-- What an observer knows of a link, by whether its TEI is on the line, and what follows for the words of the laws.
use Rattle.laws_trace.proofs.Vocabulary.{arith, ◌≡◌, ℕ, ◌==◌, ◌&&◌, ◌⊎◌, not, Bool, false, cond, Option, Some, None, is_some, nat_le, list_any, Service, State, state_number, Config, Line, state_of, unwrap_or, Control, Observed, View, in_state, is_outstanding, seen, Answer, Event, brings}
use Rattle.laws_trace.proofs.Deliveries.{frame_by}
use Rattle.laws_trace.proofs.LinksMove.{same-way}
use Rattle.laws_trace.proofs.NewsWatched.{Wanted, owing}
use Rattle.laws_trace.proofs.Observed.{IsObserved, IsSeen}
use Rattle.laws_trace.proofs.ObservedShape.{When, known_of}
use Rattle.laws_trace.proofs.ObservedRun.{Holds, IsFrom, from-is}
use Rattle.laws_trace.proofs.TimersOfLine.{seen-brings}
use Rattle.laws_trace.proofs.TimersWatched.{Known, nothing_yet}
use Rattle.laws_trace.proofs.States.{is_state, differ}
use Rattle.laws_trace.proofs.TimersWatched as known

-- What is known, by whether the TEI is on the line.
abbrev pub Facts : Option ℕ → Known → Wanted → Bool → ℕ → Observed → Type 0
Facts st k asked owed n o =
    ((st ≡ None) × (k ≡ nothing_yet) × (o ≡ in_state 1)) ⊎ ((x : State) × (st ≡ Some (state_number x)) × IsObserved (state_number x) k asked owed n o)

pub facts : (c : Config) (service : Service) (tei : ℕ) (k : Known) (asked : Wanted) (owed : Bool) (n : ℕ) (l : Line) (v : View) → Holds c service tei k asked owed n l v → Facts (state_of service tei l) k asked owed n v.link
facts c service tei k asked owed n l v h = grind (arith, from-is, IsFrom, IsSeen)

module _ (st : Option ℕ) (k : Known) (asked : Wanted) (owed : Bool) (n : ℕ) (o : Observed) where
  pub told-so : Facts st k asked owed n o → st ≡ cond (is_some st) (Some o.state) None
  told-so o = grind (arith, is_some)

  pub numbers-are : Facts st k asked owed n o → known_of o ≡ k
  numbers-are o = grind (arith, known_of)

  pub state-is : (m : ℕ) → (1 == m) ≡ false → Facts st k asked owed n o → (o.state == m) ≡ is_state m st
  state-is m other o = grind (arith, is_state)

  pub owed-is : (x : State) → IsObserved (state_number x) k asked owed n o → is_outstanding o ≡ owed
  owed-is x h = grind (arith, When, Known)

  pub asked-is : (x : State) → IsObserved (state_number x) k asked owed n o → (o.state == 5 && o.asked) ≡ (o.state == 5 && asked.asked)
  asked-is x h = grind (arith, When)

  pub wanted-is : (x : State) → IsObserved (state_number x) k asked owed n o → (o.state == 5 && o.owed) ≡ (o.state == 5 && asked.owed)
  wanted-is x h = grind (arith, When)

  -- a TEI that left is in state 4, or none
  pub down-is : Facts st k asked owed n o → nat_le o.state 4 ≡ (unwrap_or st 4 == 4)
  down-is o = grind (arith, nat_le)

  pub up-is : Facts st k asked owed n o → (o.state == 7) ≡ (unwrap_or st 4 == 7)
  up-is o = grind arith

  pub seen-is : Facts st k asked owed n o → o.state ≡ unwrap_or st 1
  seen-is o = grind arith

-- From one state to another.
pub differs-is : (st to : Option ℕ) (k l : Known) (asked anew : Wanted) (owed owing : Bool) (n m : ℕ) (o p : Observed) → Facts st k asked owed n o → Facts to l anew owing m p
    → not (o.state == p.state) ≡ differ st to
differs-is st to k l asked anew owed owing n m o p x y = grind (arith, differ, same-way)

-- What an event brings.
pub brings-is : (c : Config) (service : Service) (tei : ℕ) (is : Control → Bool) (what : Event) (a : Answer)
    → list_any (known.brings is c service tei) (seen what a) ≡ brings is c service tei what
brings-is c service tei is what a = grind (arith, seen-brings, known.control_in, frame_by)
