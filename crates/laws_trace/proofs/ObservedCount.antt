-- What an observer knows of this side of a link is how the link stands by what is heard and noted: over runs.
use Rattle.laws_trace.proofs.Vocabulary.{arith, ◌≡◌, ℕ, Bool, true, false, Some, refl, sym, ap, ◌∙◌, subst, list_any, Service, State, is_multiple_frame, state_number, Config, Answer, Line, link_of, place_in, IsInRange, notes_of, is_data_of, Event, IsSound, brought, Observed, by_event, is_up, answer}
use Rattle.laws_trace.proofs.Counting.{begins}
use Rattle.laws_trace.proofs.Deliveries.{frame_by}
use Rattle.laws_trace.proofs.DeliveriesRun.{IsCount}
use Rattle.laws_trace.proofs.DeliveriesWatched.{Standing, brings_information}
use Rattle.laws_trace.proofs.ObservedShape.{When}
use Rattle.laws_trace.proofs.ObservedStanding.{Stood, in_number, begins_by, taken_by, informs, event-stands-so}
use Rattle.laws_trace.proofs.ObservedTold.{begins-so, informs-so, data-so}
use Rattle.laws_trace.proofs.Standing.{asked_busy, behind}
use Rattle.laws_trace.proofs.StandingOfLink.{IsStanding}
use Rattle.laws_trace.proofs.Facts.{number-up}

pub record Same (o : Observed) (n : ℕ) (busy rejected : Bool) : Type 0 where
  pub count_is : o.count ≡ n
  pub busy_is : o.own_busy ≡ busy
  pub rejected_is : o.rejected ≡ rejected

-- In states 7 and 8.
abbrev pub Agree : Observed → Standing → Type 0
Agree o w = is_up o.state ≡ true → Same o w.told.count w.busy w.rejected

-- One event of a line, where the TEI is on it.
module _ (service : Service) (tei : ℕ) (c : Config) (ranged : IsInRange c) (l : Line) (s : IsSound c l) (e : Event) (place : ℕ) (on : place_in l tei ≡ Some place) (n : ℕ)
    (count : IsCount (link_of service tei l) n) (busy rejected : Bool) (stands : IsStanding (link_of service tei l) busy rejected) (o : Observed)
    (is : o.state ≡ state_number (link_of service tei l).state) (agree : is_up o.state ≡ true → Same o n busy rejected) where
  abbrev a : Answer
  a = answer c e l

  abbrev its : State
  its = (link_of service tei l).state

  abbrev q : Observed
  q = by_event c service tei e (answer c e l) o

  abbrev now : Standing
  now = behind service tei c e l (answer c e l) n busy rejected

  up-here : is_multiple_frame its ≡ true → is_up o.state ≡ true
  up-here up = ap is_up is ∙ number-up its ∙ up

  abbrev B : Bool
  B = begins service tei (frame_by c e) (notes_of a)

  abbrev D : Bool
  D = list_any (is_data_of service tei) (notes_of a)

  abbrev I : Bool
  I = brings_information service tei (frame_by c e)

  same : o ≡ in_number (state_number its) o
  same = λ i. record o { state = is i }

  stood : is_up q.state ≡ true → Stood (is_up (state_number its)) B D I (asked_busy service tei e a o.own_busy) o q
  stood up =
      let f = brought c service tei e in
      let u = is_up (state_number its) in
      let b = asked_busy service tei e a o.own_busy in
      let h = subst (λ p. When (is_up (by_event c service tei e a p).state) (Stood u (begins_by c service tei its f) (taken_by c service tei p f) (informs c service tei f)
      (asked_busy service tei e a p.own_busy) p (by_event c service tei e a p))) (sym same) (event-stands-so c service tei its o e a) in
      subst (λ i. Stood u B D i b o q) (sym (informs-so c ranged l s e service tei place on))
      (subst (λ d. Stood u B d (informs c service tei f) b o q)
      (sym (data-so c ranged l s e service tei place on o n count is (λ m. count m ∙ sym (agree (up-here m)).count_is) (λ m. stands.busy_is m ∙ sym (agree (up-here m)).busy_is)))
      (subst (λ b'. Stood u b' (taken_by c service tei o f) (informs c service tei f) b o q) (sym (begins-so c ranged l s e service tei place on))
      (grind arith)))

  pub stands-behind : is_up q.state ≡ true → Same q now.told.count now.busy now.rejected
  stands-behind up = go (is_up (state_number its)) refl
    where
      h : Stood (is_up (state_number its)) B D I (asked_busy service tei e a o.own_busy) o q
      h = stood up

      go : (u : Bool) → is_up (state_number its) ≡ u → Same q now.told.count now.busy now.rejected
      go true before = grind (arith, is_up, h)
      go false before = grind (arith, h)
