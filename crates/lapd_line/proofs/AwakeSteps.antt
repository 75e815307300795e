-- Which links have a frame, as one is looked at, begins or is cleared.
use Rattle.lapd_line.proofs.Vocabulary.{◌≡◌, ◌≢◌, ℕ, ◌<◌, zero, suc, Bool, true, false, List, [], ◌∷◌, replicate, set, slice_get, is_some, option_map_or, refl, ap, sym, ◌∙◌, arith, cases_eq, get_or-set_other, Link, Terms, given, fresh_gives_nothing, Marks, IsMark, AreMarked, Sets, digit, AreAwake, gives, gives_at, HasTerms, machine_at, terms_in}
use Rattle.model_link.specs.Link as machine

-- a mark says which of both it is
pub unmarked : (b : Bool) → digit false ≡ digit b → b ≡ false
unmarked b e = grind arith

pub marked : (b : Bool) → digit true ≡ digit b → b ≡ true
marked b e = grind arith

-- the marks of a test are those of another that answers the same
marked_as : (a : Marks) (p q : ℕ → Bool) → ((number : ℕ) → p number ≡ q number) → AreMarked a p → AreMarked a q
marked_as a p q same h = λ number few. h number few ∙ ap digit (same number)

-- one is set: the tests differ there alone
pub marked_one : (number : ℕ) (w : Bool) (a b : Marks) (p q : ℕ → Bool) → Sets number w a b → q number ≡ w
    → ((other : ℕ) → other ≢ number → q other ≡ p other) → AreMarked a p → AreMarked b q
marked_one number w a b p q sets here apart h = grind (arith, cases_eq)

-- a link with these parameters
gives_has : (links : List Link) (ms : List machine.Link) (number : ℕ) (t : Terms) → HasTerms links number t → gives_at links ms number ≡ gives (machine_at ms number) t
gives_has links ms number t has = ap (λ o. option_map_or (gives (machine_at ms number)) o false) has

-- one that begins gives nothing
gives_fresh : (links : List Link) (ms : List machine.Link) (number : ℕ) → machine_at ms number ≡ machine.fresh → gives_at links ms number ≡ false
gives_fresh links ms number fresh = grind (arith, slice_get, is_some, fresh_gives_nothing)

-- another link than the one that changes
gives_other : (old new : List Link) (ms : List machine.Link) (number other : ℕ) (l : machine.Link) → other ≢ number → slice_get (terms_in new) other ≡ slice_get (terms_in old) other
    → gives_at new (set ms number l) other ≡ gives_at old ms other
gives_other old new ms number other l apart same = grind (arith, slice_get, get_or-set_other)

-- a link has become another, and has a frame if that gives something
pub awake_set : (a b : Marks) (old new : List Link) (ms : List machine.Link) (number : ℕ) (l : machine.Link) (w : Bool) (t : Terms) → Sets number w a b → terms_in new ≡ terms_in old → HasTerms new number t
    → w ≡ gives (machine_at (set ms number l) number) t → AreAwake a old ms → AreAwake b new (set ms number l)
awake_set a b old new ms number l w t sets same has told h = grind (arith, marked_one, gives_has, gives_other, slice_get)

-- one that has begun anew
pub begins_at : (ms : List machine.Link) (number : ℕ) → machine_at (set ms number machine.fresh) number ≡ machine.fresh
begins_at [] number = refl
begins_at (m ∷ ms) zero = refl
begins_at (m ∷ ms) (suc number) = begins_at ms number

pub awake_cleared : (a b : Marks) (old new : List Link) (ms : List machine.Link) (number : ℕ) → Sets number false a b → terms_in new ≡ terms_in old
    → AreAwake a old ms → AreAwake b new (set ms number machine.fresh)
awake_cleared a b old new ms number sets same h = grind (arith, marked_one, gives_fresh, begins_at, gives_other, slice_get)

-- one that begins with other parameters was asleep, and stays so
pub awake_begun : (a : Marks) (old new : List Link) (ms : List machine.Link) (number : ℕ)
    → ((other : ℕ) → other ≢ number → slice_get (terms_in new) other ≡ slice_get (terms_in old) other)
    → machine_at ms number ≡ machine.fresh → AreAwake a old ms → AreAwake a new (set ms number machine.fresh)
awake_begun a old new ms number same fresh h = grind (arith, marked_as, gives_fresh, begins_at, gives_other, cases_eq)

-- all begin
pub all_fresh : (n number : ℕ) → machine_at (replicate n machine.fresh) number ≡ machine.fresh
all_fresh zero number = refl
all_fresh (suc n) zero = refl
all_fresh (suc n) (suc number) = all_fresh n number

pub awake_first : (a : Marks) (links : List Link) (n : ℕ) → AreMarked a (λ number. false) → AreAwake a links (replicate n machine.fresh)
awake_first a links n h = marked_as a (λ number. false) (gives_at links (replicate n machine.fresh)) (λ number. sym (gives_fresh links (replicate n machine.fresh) number (all_fresh n number))) h

-- a link that has a frame gives something, and one that has none gives nothing
pub awake_gives : (a : Marks) (links : List Link) (ms : List machine.Link) (number : ℕ) (t : Terms) (b : Bool) → number < 64 → AreAwake a links ms → HasTerms links number t → IsMark a number b
    → is_some (given t (machine_at ms number)) ≡ b
awake_gives a links ms number t b few h has is = grind (arith, gives_has, marked, unmarked)
