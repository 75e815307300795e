-- What a row makes of the contents of a link, of V(A) and of V(S): they stay, some are acknowledged, all go, or the
-- numbers begin anew.
use Rattle.laws_link.proofs.Vocabulary.{◌≡◌, ℕ, ◌+◌, ◌-◌, ◌≤◌, Bool, true, false, cond, List, [], length, take, drop, Option, Some, None, refl, ◌⊎◌, arith, option_map_or, Seq, named, Terms, Course, Step, ◌then◌, Leads, named-within, beyond, ErrorCode, Note, by_number, error, re_establish}
use Rattle.laws_link.proofs.Queueing.{Claim, On, note_keeps}

-- the contents are these, n of them more are acknowledged, and no loss is told
pub record Goes (all : List (List ℕ)) (a s n : ℕ) (all' : List (List ℕ)) (a' s' : ℕ) (loss zeroed : Bool) (unit : Option (List ℕ)) (given_up : ℕ) : Type 0 where
  pub contents : all' ≡ all
  pub acknowledged : a' ≡ a + n
  pub among : a + n ≤ length all
  pub sent : (s' ≡ s) ⊎ (s' ≡ a')
  pub no_loss : loss ≡ false
  pub goes_on : zeroed ≡ false
  pub no_unit : unit ≡ None
  pub none_gone : given_up ≡ 0

-- all that are kept go
pub record Empties (all : List (List ℕ)) (a : ℕ) (all' : List (List ℕ)) (a' s' : ℕ) (loss zeroed : Bool) (unit : Option (List ℕ)) (given_up : ℕ) : Type 0 where
  pub contents : all' ≡ take a all
  pub acknowledged : a' ≡ a
  pub sent : s' ≡ a'
  pub told : loss ≡ true
  pub goes_on : zeroed ≡ false
  pub no_unit : unit ≡ None
  pub all_gone : given_up ≡ length (drop a all)

-- the numbers begin anew: what is kept stays where no loss is told
pub record Restarts (all : List (List ℕ)) (a n : ℕ) (all' : List (List ℕ)) (a' s' : ℕ) (loss zeroed : Bool) (unit : Option (List ℕ)) (given_up : ℕ) : Type 0 where
  pub none : n ≡ 0
  pub contents : all' ≡ cond loss [] (drop a all)
  pub acknowledged : a' ≡ 0
  pub sent : s' ≡ 0
  pub begins : zeroed ≡ true
  pub no_unit : unit ≡ None
  pub gone : given_up ≡ cond loss (length (drop a all)) 0

abbrev pub Moves : List (List ℕ) → ℕ → ℕ → ℕ → Claim
Moves all a s n all' a' s' loss zeroed unit given_up =
    Goes all a s n all' a' s' loss zeroed unit given_up ⊎ Empties all a all' a' s' loss zeroed unit given_up ⊎ Restarts all a n all' a' s' loss zeroed unit given_up

-- nothing has changed
pub record Same (all : List (List ℕ)) (a s : ℕ) (all' : List (List ℕ)) (a' s' : ℕ) (loss zeroed : Bool) (unit : Option (List ℕ)) (given_up : ℕ) : Type 0 where
  pub contents : all' ≡ all
  pub acknowledged : a' ≡ a
  pub sent : s' ≡ s
  pub no_loss : loss ≡ false
  pub goes_on : zeroed ≡ false
  pub no_unit : unit ≡ None
  pub none_gone : given_up ≡ 0

module _ (all : List (List ℕ)) (a s : ℕ) (ordered : a ≤ s) (most : s ≤ length all) where
  abbrev pub Stays : Claim
  Stays all' a' s' loss zeroed unit given_up = Same all a s all' a' s' loss zeroed unit given_up

  pub stays : (c : Course) → On Stays c → On (Moves all a s 0) c
  stays c h = grind arith

  -- by an N(R): an invalid one, or one that names m
  by-number : (t : Terms) (f : ℕ → Step) → ((m : ℕ) → a ≤ m → m ≤ s → Leads (On Stays) (f m) (On (Moves all a s (m - a)))) → (c : Course) → On Stays c → (nr : Seq) (o : Option ℕ) → named a s nr ≡ o
      → On (Moves all a s (option_map_or (beyond a) o 0)) (elim o [ None ↦ (error t ErrorCode.J then re_establish t) c | Some n ↦ f n c ])
  by-number t f x c h nr None e = stays ((error t ErrorCode.J then re_establish t) c) ((note_keeps Stays (Note.Error t.service t.tei ErrorCode.J) refl).leads c h)
  by-number t f x c h nr (Some m) e = grind (arith, named-within)

  pub number_moves : (t : Terms) (nr : Seq) {f : ℕ → Step}
      → ((m : ℕ) → a ≤ m → m ≤ s → Leads (On Stays) (f m) (On (Moves all a s (m - a))))
      → Leads (On Stays) (by_number t nr f) (On (Moves all a s (option_map_or (beyond a) (named a s nr) 0)))
  number_moves t nr {f} x = grind (arith, by-number)
