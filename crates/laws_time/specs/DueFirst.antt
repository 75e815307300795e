-- Which timer falls due first of those that are due.
use Rattle.std.specs.Prelude.{◌≡◌, ℕ, nat_lt, ◌==◌, ◌&&◌, ◌||◌, Bool, false, List, [], ◌∷◌, All, IfSome}
use Rattle.lapd_clock.specs.Timer.{Timer, T200, T203, T201, T202, Lengths, Service, Call, Packet}
use Rattle.lapd_clock.specs.Timers.{Expiry}
use Rattle.model_timed.specs.Clock.{stopped, due}
use Rattle.model_timed.specs.Timed.{Kind, Timed, Step, after_all}

-- By its moment, and then by line; on one line T200 before T203, and T203 before T201 and T202; by TEI; and call control before the
-- second service (profile).
abbrev pub by_service : Service → ℕ
by_service Call = 0
by_service Packet = 1

abbrev pub by_timer : Timer → List ℕ
by_timer (T200 service tei) = 0 ∷ tei ∷ by_service service ∷ []
by_timer (T203 service tei) = 1 ∷ tei ∷ by_service service ∷ []
by_timer T201 = 2 ∷ 0 ∷ 0 ∷ []
by_timer T202 = 3 ∷ 0 ∷ 0 ∷ []

abbrev pub in_turn : Expiry → List ℕ
in_turn x = x.moment ∷ x.line ∷ by_timer x.timer

-- The first numbers that differ decide.
abbrev pub is_lower : List ℕ → List ℕ → Bool
is_lower (a ∷ more) (b ∷ others) = nat_lt a b || (a == b && is_lower more others)
is_lower some others = false

-- After any steps, prompt or not, no timer that runs goes before the one that is due.
abbrev pub TheFirstFallsDue : {Card Event : Type 0} → Kind Card Event → Type 0
TheFirstFallsDue {Card} {Event} k =
    (card : Card) (lengths : Lengths) (steps : List (Step Event)) → let t : Timed Card = record { card = card; clock = stopped lengths } in
    let u = after_all k steps t in IfSome (due u.clock) (λ x. All (λ y. is_lower (in_turn y) (in_turn x) ≡ false) u.clock.running)
