-- How long an answer is awaited at most: a timed card alone, whatever comes on its line.
use Rattle.std.specs.Prelude.{◌≡◌, ◌≤◌, ◌<◌, ℕ, ◌+◌, ◌==◌, ◌||◌, true, List, [], ◌∷◌, Some}
use Rattle.lapd_clock.specs.Timer.{Lengths}
use Rattle.lapd_frame.specs.declared.services.Service.{Service}
use Rattle.model_line.specs.Sound.{IsInRange}
use Rattle.model_line.specs.declared.config.Config.{Config}
use Rattle.model_timed.specs.Timed.{Timed, Step, after, after_all, ArePrompt}
use Rattle.laws_time.specs.Silence.{awaiting}
use Rattle.laws_time.specs.Watched.{Watched, fresh}

-- After each of these steps `Card::state` tells this of the link.
unfoldable pub StaysIn : {Card Event : Type 0} → Watched Card Event → ℕ → Service → ℕ → ℕ → List (Step Event) → Timed Card → Type 0
StaysIn w number service tei state [] t = Unit {0}
StaysIn w number service tei state (s ∷ steps) t =
    let u = after w.kind s t in (w.state number service tei u.card ≡ Some state) × StaysIn w number service tei state steps u

-- A link is in state 5, 6 or 8 for so long at most, at a card of either kind, whatever happened before and happens meanwhile.
abbrev pub NoAnswerIsAwaitedLonger : {Card Event : Type 0} → Watched Card Event → Type 0
NoAnswerIsAwaitedLonger {Card} {Event} w =
    (service : Service) (c : Config) (lengths : Lengths) (late number tei state : ℕ) (before steps : List (Step Event)) → IsInRange c →
    number < c.lines → (state == 5 || (state == 6 || state == 8)) ≡ true →
    let begun = fresh w c lengths in let t = after_all w.kind before begun in let u = after_all w.kind steps t in
    ArePrompt w.kind late before begun → ArePrompt w.kind late steps t → w.state number service tei t.card ≡ Some state →
    StaysIn w number service tei state steps t → u.clock.now ≤ t.clock.now + awaiting late c lengths
