-- Which lines of a card have a frame to give.
use Rattle.lapd_card.proofs.Vocabulary.{◌≡◌, ℕ, zero, suc, ◌+◌, ◌-◌, ◌<◌, ◌≤◌, Bool, true, false, cond, ◌&&◌, nat_lt, List, [], ◌∷◌, length, replicate, get_or, set, Option, Some, None, IfSome, is_some, option_map, refl, sym, subst, ap, ◌∙◌, arith, inl, inr, lt-ltb, get_or-set_same, get_or-set_other, Config, Card, line_at, fresh, fresh_line}
use Rattle.std.proofs.lemmas.Bool.{cases_eq}
use Rattle.std.specs.List.{find, range_with_len}
use Rattle.std.specs.Option.{option_or, unwrap_or}
use Rattle.model_line.proofs.Offered.{fresh_gives_nothing}
use Rattle.model_line.specs.Line as machine
use Rattle.lapd_line.proofs.NextSteps.{nothing_waits}
use Rattle.model_line.specs.Taken.{Taken, first_taken, message_taken, next_of, round, taken, with_given_frame}
use Rattle.lapd_line.specs.Waiting as lines
use Rattle.model_link.specs.Link as link
use Rattle.model_link.specs.Machine.{given}
use Rattle.lapd_card.specs.Waiting.{IsFirstWaiting, has_next, waits_on, next_waiting}
use Rattle.model_line.specs.Counts.{is_given}
use Rattle.model_line.specs.Event.{next, gave}
use Rattle.model_line.specs.Machine as machines
use Rattle.model_card.specs.Event.{at}
use Rattle.model_card.specs.Machine.{answer}
use Rattle.std.proofs.lemmas.Bool.{and_parts, ltb-true}
use Rattle.lapd_line.proofs.AwakeSteps.{marked, unmarked, marked_one}
use Rattle.lapd_line.specs.Marks.{AreMarked, IsMark, IsMarkedAmong, Sets, digit}
use Rattle.lapd_line.specs.Stands as line
use Rattle.lapd_line.specs.Stands.{config_of}
use Rattle.lapd_line.specs.declared.frame_line.FrameLine.{FrameLine}
use Rattle.lapd_line.specs.declared.marks.Marks.{Marks}
use Rattle.lapd_store.specs.Ownership.{Owned}
use Rattle.lapd_store.specs.Store.{Store}

-- A line was looked at after a call, and is marked if a frame waits on it.
pub record Looked (i : ℕ) (old : Marks) (y : FrameLine) (new : Marks) : Type 0 where
  pub told : Bool
  pub says : (s : Store) (others : List Owned) (l : machine.Line) → line.LineStands y s others l → told ≡ lines.has_next (config_of y) l
  pub sets : Sets i told old new

-- a mark says whether its test holds
pub same_marks : (a b : Bool) → digit a ≡ digit b → a ≡ b
same_marks a b is = grind (arith, marked, unmarked)

-- A line of the card has a frame to give where a call for its next frame gives one.
gives_taken : (o : Option Taken) → is_given (gave (option_map next_of o)) ≡ is_some o
gives_taken o = grind arith

answer_gives : (i : ℕ) (m : Card) → is_given (answer (at i next) m) ≡ lines.has_next m.config (line_at i m)
unfolding machines.answer machines.takes_slot
answer_gives i m = gives_taken (taken m.config (line_at i m))

abbrev line_has : Card → ℕ → Bool
line_has m i = nat_lt i m.config.lines && lines.has_next m.config (line_at i m)

line_waits : (i : ℕ) (m : Card) → has_next i m ≡ line_has m i
line_waits i m = ap (λ b. nat_lt i m.config.lines && b) (answer_gives i m)

as_lines : (marks : Marks) (m : Card) → AreMarked marks (waits_on m) → AreMarked marks (line_has m)
as_lines marks m = subst (AreMarked marks) (λ i number. line_waits number m i)

pub of_lines : (marks : Marks) (m : Card) → AreMarked marks (line_has m) → AreMarked marks (waits_on m)
of_lines marks m = subst (AreMarked marks) (sym (λ i number. line_waits number m i))

at_line_of_card : (i : ℕ) (m : Card) → i < m.config.lines → has_next i m ≡ lines.has_next m.config (line_at i m)
at_line_of_card i m within = line_waits i m ∙ ap (λ b. b && lines.has_next m.config (line_at i m)) (lt-ltb i m.config.lines within)

pub nothing_waits_at : (i : ℕ) (m : Card) → i < m.config.lines → false ≡ has_next i m → taken m.config (line_at i m) ≡ None
nothing_waits_at i m within none = nothing_waits m.config (line_at i m) (none ∙ at_line_of_card i m within)

-- so all are marked, where one line has become another
line_set : (i : ℕ) (m : Card) (l : machine.Line) (b : Bool) (old new : Marks) → i < m.config.lines → i < length m.lines → b ≡ lines.has_next m.config l → Sets i b old new
    → AreMarked old (line_has m) → AreMarked new (line_has (record m { lines = set m.lines i l }))
line_set i m l b old new within there told sets h = grind (arith, marked_one, lt-ltb, get_or-set_same, nat_lt, get_or-set_other)

pub waiting_set : (i : ℕ) (m : Card) (l : machine.Line) (b : Bool) (old new : Marks) → i < m.config.lines → i < length m.lines → b ≡ lines.has_next m.config l → Sets i b old new
    → AreMarked old (waits_on m) → AreMarked new (waits_on (record m { lines = set m.lines i l }))
waiting_set i m l b old new within there told sets h =
    of_lines new (record m { lines = set m.lines i l }) (line_set i m l b old new within there told sets (as_lines old m h))

-- On a line as it begins no frame waits.
all_same : {X : Type 0} (n number : ℕ) (x : X) → get_or (replicate n x) number x ≡ x
all_same zero number x = refl
all_same (suc n) zero x = refl
all_same (suc n) (suc number) x = all_same n number x

fresh_takes_none : (c : Config) (numbers : List ℕ) → first_taken c (fresh_line c) numbers ≡ None
fresh_takes_none c [] = refl
fresh_takes_none c (number ∷ numbers) =
    let t = machine.terms_at c number (fresh_line c) in
    let nothing : given t (machine.link_at number (fresh_line c)) ≡ None = ap (given t) (all_same (machine.link_count c) number link.fresh) ∙ fresh_gives_nothing t in
    ap (λ g. option_or (option_map (with_given_frame c (fresh_line c) number t) g) (first_taken c (fresh_line c) numbers)) nothing ∙ fresh_takes_none c numbers

no_message : (c : Config) → message_taken c (fresh_line c) ≡ None
no_message c = grind arith

pub fresh_waits : (c : Config) → lines.has_next c (fresh_line c) ≡ false
fresh_waits c =
    ap (λ o. is_some (option_or o (first_taken c (fresh_line c) (round c (fresh_line c))))) (no_message c)
    ∙ ap is_some (fresh_takes_none c (round c (fresh_line c)))

pub none_marked_first : (c : Config) (marks : Marks) → AreMarked marks (λ number. false) → AreMarked marks (waits_on (fresh c))
none_marked_first c marks h = of_lines marks (fresh c) (grind (arith, nat_lt, all_same, fresh_waits))

-- The first of some numbers for which a test holds.
find_first : (p : ℕ → Bool) (from n number : ℕ) → from ≤ number → number < from + n → p number ≡ true → ((k : ℕ) → from ≤ k → k < number → p k ≡ false)
    → find p (range_with_len from n) ≡ Some number
find_first p from zero number low high holds before = absurd (omega (arith, low, high))
find_first p from (suc n) number low high holds before = elim (cases_eq number from) [
  | inl here ↦ ap (λ b. cond b (Some from) (find p (range_with_len (from + 1) n))) (ap p (sym here) ∙ holds) ∙ ap Some (sym here)
  | inr apart ↦
      ap (λ b. cond b (Some from) (find p (range_with_len (from + 1) n))) (before from (omega arith) (omega (arith, low, apart)))
      ∙ find_first p (from + 1) n number (omega (arith, low, apart)) (omega (arith, high)) holds (λ k above below. before k (omega (arith, above)) below)
]

find_none : (p : ℕ → Bool) (from n : ℕ) → ((k : ℕ) → from ≤ k → k < from + n → p k ≡ false) → find p (range_with_len from n) ≡ None
find_none p from zero none = refl
find_none p from (suc n) none =
    ap (λ b. cond b (Some from) (find p (range_with_len (from + 1) n))) (none from (omega arith) (omega arith))
    ∙ find_none p (from + 1) n (λ k above below. none k (omega (arith, above)) (omega (arith, below)))

-- It is the first that is marked.
pub first_marked : (w : Marks) (m : Card) (from n : ℕ) (o : Option ℕ) → AreMarked w (waits_on m) → n ≡ m.config.lines → n ≤ 64 → IfSome o (IsMarkedAmong w from n)
    → ((number : ℕ) → from ≤ number → number < unwrap_or o n → IsMark w number false) → o ≡ next_waiting from m
first_marked w m from n None are same few some others = sym
    (ap (λ k. find (waits_on m) (range_with_len from (k - from))) (sym same)
    ∙ find_none (waits_on m) from (n - from) (λ k above below.
    let within : k < n = omega (arith, above, below) in
    unmarked (waits_on m k) (sym (others k above within) ∙ are k (omega (arith, within, few)))))
first_marked w m from n (Some number) are same few (low, high, is) others = sym
    (ap (λ k. find (waits_on m) (range_with_len from (k - from))) (sym same)
    ∙ find_first (waits_on m) from (n - from) number low (omega (arith, low, high)) (marked (waits_on m number) (sym is ∙ are number (omega (arith, high, few))))
    (λ k above below. unmarked (waits_on m k) (sym (others k above below) ∙ are k (omega (arith, below, high, few)))))

-- That is the first at which a call gives one, by the answers of the machine.
found : (p : ℕ → Bool) (from n : ℕ) → IfSome (find p (range_with_len from n)) (λ k. (from ≤ k) × (p k ≡ true))
found p from zero = tt
found p from (suc n) = go (p from) refl (found p (from + 1) n)
  where
    later : (o : Option ℕ) → IfSome o (λ k. (from + 1 ≤ k) × (p k ≡ true)) → IfSome o (λ k. (from ≤ k) × (p k ≡ true))
    later None it = tt
    later (Some k) it = let above = it.0 in (omega (arith, above), it.1)

    go : (b : Bool) → p from ≡ b → IfSome (find p (range_with_len (from + 1) n)) (λ k. (from + 1 ≤ k) × (p k ≡ true))
        → IfSome (cond b (Some from) (find p (range_with_len (from + 1) n))) (λ k. (from ≤ k) × (p k ≡ true))
    go true is rest = (omega arith, is)
    go false is rest = later (find p (range_with_len (from + 1) n)) rest

none_before : (p : ℕ → Bool) (from n k : ℕ) → from ≤ k → k < unwrap_or (find p (range_with_len from n)) (from + n) → p k ≡ false
none_before p from zero k above below = absurd (omega (arith, above, below))
none_before p from (suc n) k above below = go (p from) refl below (λ past. none_before p (from + 1) n k past)
  where
    go : (b : Bool) → p from ≡ b → k < unwrap_or (cond b (Some from) (find p (range_with_len (from + 1) n))) (from + suc n)
        → (from + 1 ≤ k → k < unwrap_or (find p (range_with_len (from + 1) n)) (from + 1 + n) → p k ≡ false) → p k ≡ false
    go true is below rest = absurd (omega (arith, above, below))
    go false is below rest = elim (cases_eq k from) [
      | inl here ↦ ap p here ∙ is
      | inr apart ↦ rest (omega (arith, above, apart)) (subst (λ m. k < unwrap_or (find p (range_with_len (from + 1) n)) m) (omega arith) below)
    ]

gave_none : (o : Option Taken) → is_some o ≡ false → gave (option_map next_of o) ≡ gave None
gave_none o none = grind arith

answers_none : (i : ℕ) (m : Card) → lines.has_next m.config (line_at i m) ≡ false → answer (at i next) m ≡ gave None
unfolding machines.answer machines.takes_slot
answers_none i m none = gave_none (taken m.config (line_at i m)) none

pub first_waiting : (from : ℕ) (m : Card) → IsFirstWaiting from m (next_waiting from m)
first_waiting from m = record {
  gives = by_answer (next_waiting from m) (found (waits_on m) from (m.config.lines - from));
  others = λ number above below.
      let within : number < m.config.lines = few number (next_waiting from m) below (found (waits_on m) from (m.config.lines - from)) in
      answers_none number m (sym (at_line_of_card number m within) ∙ none_before (waits_on m) from (m.config.lines - from) number above (same number (next_waiting from m) above below));
}
  where
    by_answer : (o : Option ℕ) → IfSome o (λ k. (from ≤ k) × (has_next k m ≡ true)) → IfSome o (λ k. (from ≤ k) × (is_given (answer (at k next) m) ≡ true))
    by_answer None it = tt
    by_answer (Some k) it = (it.0, (and_parts (nat_lt k m.config.lines) (is_given (answer (at k next) m)) it.1).1)

    few : (number : ℕ) (o : Option ℕ) → number < unwrap_or o m.config.lines → IfSome o (λ k. (from ≤ k) × (has_next k m ≡ true)) → number < m.config.lines
    few number None below it = below
    few number (Some k) below it =
        let there = ltb-true k m.config.lines (and_parts (nat_lt k m.config.lines) (is_given (answer (at k next) m)) it.1).0 in
        omega (arith, below, there)

    same : (number : ℕ) (o : Option ℕ) → from ≤ number → number < unwrap_or o m.config.lines → number < unwrap_or o (from + (m.config.lines - from))
    same number None above below = omega (arith, above, below)
    same number (Some k) above below = below
