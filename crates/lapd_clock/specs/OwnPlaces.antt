-- What the places stand for: the set of the timers that run.
use Rattle.std.specs.Prelude.{◌≡◌, ℕ, ◌+◌, ◌*◌, ◌/◌, ◌<◌, ◌≤◌, Bool, true, false, ◌&&◌, ◌⊎◌, nat_lt, List, ◌∷◌, map, filter, length, get_or, set, All}
use Rattle.std.specs.List.{AllByRecursion}
use Rattle.lapd_clock.specs.Firsts.{never}
use Rattle.lapd_clock.specs.Timer.{Timer, T201}
use Rattle.lapd_clock.specs.Timers.{Expiry, is_before, is_held, is_of}
use Rattle.lapd_clock.specs.Places.{in_order}
use Rattle.lapd_clock.specs.declared.held.Held.{Held}
use Rattle.lapd_clock.specs.declared.moments.lead.Lead.{Lead}
use Rattle.lapd_clock.specs.declared.moments.place.Place.{Place}

-- What a place holds, as in the set of lapd_clock.
abbrev pub expiry_of : Place → Expiry
expiry_of p = record { moment = p.moment; line = p.line; timer = p.timer }

abbrev pub expiries_of : List Place → List Expiry
expiries_of ps = map expiry_of ps

abbrev pub place_before : Place → Place → Bool
place_before a b = is_before (expiry_of a) (expiry_of b)

-- A timer runs that falls due some time.
abbrev pub is_running : Expiry → Bool
is_running e = nat_lt e.moment never

-- The set that the places stand for.
abbrev pub timers_in : List Expiry → List Expiry
timers_in es = in_order (filter is_running es)

-- No timer falls due before a moment.
abbrev pub AreNotBefore : ℕ → List Expiry → Type 0
AreNotBefore moment es = AllByRecursion (λ e. moment ≤ e.moment) es

-- What stands at a place.
abbrev pub nothing : Expiry
nothing = record { moment = never; line = 0; timer = T201 }

abbrev pub at : ℕ → List Expiry → Expiry
at place es = get_or es place nothing

-- A timer is started, or stopped, in its place.
abbrev pub with_timer : ℕ → Timer → ℕ → List Expiry → List Expiry
with_timer place timer moment es = set es place (record (at place es) { moment = moment; timer = timer })

abbrev pub without_timer : ℕ → List Expiry → List Expiry
without_timer place es = set es place (record (at place es) { moment = never })

-- Each that runs falls due at this moment at the latest.
abbrev pub IsUntil : ℕ → Expiry → Type 0
IsUntil latest e = e.moment < never → e.moment ≤ latest

abbrev pub AreUntil : ℕ → List Expiry → Type 0
AreUntil latest es = All (IsUntil latest) es

-- A timer of a line runs at a place, or at none.
abbrev pub runs_as : ℕ → Timer → Expiry → Bool
runs_as line timer e = is_running e && is_of line timer e

abbrev pub place_runs : ℕ → Timer → Place → Bool
place_runs line timer p = runs_as line timer (expiry_of p)

pub record RunsAt (place line : ℕ) (timer : Timer) (es : List Expiry) : Type 0 where
  pub within : place < length es
  pub runs : (at place es).moment < never
  pub its : is_of line timer (at place es) ≡ true

abbrev pub is_nowhere : ℕ → Timer → List Expiry → Type 0
is_nowhere line timer es = is_held line timer (timers_in es) ≡ false

-- No timer runs at a place of a line; or at each of the line one does.
pub record RestsAt (place line : ℕ) (es : List Expiry) : Type 0 where
  pub within : place < length es
  pub its_line : (at place es).line ≡ line
  pub rests : (at place es).moment ≡ never

abbrev pub is_full : ℕ → List Expiry → Type 0
is_full line es = (i : ℕ) → i < length es → (at i es).line ≡ line → (at i es).moment < never

-- The place for a timer of a line: it runs there; or it runs nowhere, and no other runs there.
abbrev pub IsPlaceFor : ℕ → ℕ → Timer → List Expiry → Type 0
IsPlaceFor place line timer es = RunsAt place line timer es ⊎ (RestsAt place line es × is_nowhere line timer es)

-- A timer runs at a place.
pub record IsHeldAt (place : ℕ) (es : List Expiry) (h : Held) : Type 0 where
  pub runs : (at place es).moment < never
  pub moment_is : h.moment ≡ (at place es).moment
  pub timer_is : h.timer ≡ (at place es).timer

-- A timer that runs at a place is started anew there.
pub record IsRestarted (line : ℕ) (timer : Timer) (moment : ℕ) (old new : List Expiry) : Type 0 where
  pub place : ℕ
  pub runs : RunsAt place line timer old
  pub is : new ≡ with_timer place timer moment old

-- A place is the one after another, or before it.
abbrev pub IsBeside : Bool → ℕ → ℕ → Type 0
IsBeside true place beside = beside ≡ place + 1
IsBeside false place beside = place ≡ beside + 1

-- A timer that runs at a place is stopped there, and another of its line is started at the place beside.
pub record IsExchanged (line : ℕ) (stopped started : Timer) (is_next : Bool) (moment : ℕ) (old new : List Expiry) : Type 0 where
  pub place : ℕ
  pub beside : ℕ
  pub are_beside : IsBeside is_next place beside
  pub runs : RunsAt place line stopped old
  pub within : beside < length old
  pub its_line : (at beside old).line ≡ line
  pub is : new ≡ without_timer place (with_timer beside started moment old)

-- A place falls due first, of those whose timers run: it is first in the set.
pub record IsFirst (place : ℕ) (es : List Expiry) : Type 0 where
  pub within : place < length es
  pub runs : (at place es).moment < never
  pub leads : timers_in es ≡ at place es ∷ timers_in (without_timer place es)

-- It falls due first, and does so until a moment.
pub record IsFirstUntil (end place : ℕ) (es : List Expiry) : Type 0 where
  pub first : IsFirst place es
  pub soon : (at place es).moment ≤ end

-- What is taken out where it is due: the place that falls due first.
pub record IsTaken (now : ℕ) (old new : List Expiry) : Type 0 where
  pub place : ℕ
  pub first : IsFirst place old
  pub due : (at place old).moment ≤ now
  pub is : new ≡ without_timer place old

-- No other place runs this timer of this line, and what runs here is it.
pub record IsItsPlace (place line : ℕ) (timer : Timer) (es : List Expiry) : Type 0 where
  pub within : place < length es
  pub line_is : (at place es).line ≡ line
  pub only : AllByRecursion (λ e. is_of line timer e ≡ false) (timers_in (without_timer place es))
  pub its : (at place es).moment < never → is_of line timer (at place es) ≡ true

-- No timer runs at any place, and each line has so many.
pub record AreIdle (lines each : ℕ) (es : List Expiry) : Type 0 where
  pub count : length es ≡ lines * each
  pub rest : AllByRecursion (λ e. e.moment ≡ never) es
  pub of_line : (i : ℕ) → i < length es → (at i es).line ≡ i / each

abbrev pub AreIdleSoFar : List Place → Type 0
AreIdleSoFar ps = AllByRecursion (λ p. p.moment ≡ never) ps

-- Of each line its first place leads, and none has been used.
abbrev pub AreFirstPlaces : ℕ → List Lead → Type 0
AreFirstPlaces each leads = (line : ℕ) (d : Lead) → line < length leads → get_or leads line d ≡ record { place = line * each; others = never; used = 0 }

abbrev pub AreOfLines : ℕ → List Place → Type 0
AreOfLines each ps = (i : ℕ) → i < length ps → (at i (expiries_of ps)).line ≡ i / each
