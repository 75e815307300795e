-- A dead line is told: a timed card alone, of whose link nothing is heard any more.
use Rattle.std.specs.Prelude.{◌≡◌, ◌≤◌, ◌<◌, ℕ, ◌+◌, ◌*◌, ◌==◌, if◌then◌else◌, Bool, true, false, not, ◌||◌, List, [], ◌∷◌, ◌++◌, length, filter, is_some, Option, None, Some}
use Rattle.std.specs.Option.{option_map_or}
use Rattle.model_bits.specs.Stream as stream
use Rattle.lapd_clock.specs.Timer.{Lengths}
use Rattle.lapd_frame.specs.declared.notes.Note.{Note}
use Rattle.lapd_frame.specs.declared.notes.Note.TheVariants.{Error, ReleaseIndication, ReleaseConfirm}
use Rattle.lapd_frame.specs.declared.notes.ErrorCode.TheVariants.{G, H, I}
use Rattle.lapd_frame.specs.declared.services.Service.{Service}
use Rattle.lapd_frame.specs.Grammar.{Parts}
use Rattle.model_line.specs.Event as line
use Rattle.model_line.specs.Request.{Request, Establish, Release, Deactivate}
use Rattle.model_line.specs.Sound.{IsInRange}
use Rattle.model_line.specs.declared.config.Config.{Config}
use Rattle.model_line.specs.Line.{tries}
use Rattle.model_timed.specs.Timed.{Timed, Step, happens, time, falls_due, after, after_all, event_of, ArePrompt}
use Rattle.laws_trace.specs.LinkFrames.{brought, is_too_long, malformed}
use Rattle.laws_trace.specs.News.{is_news}
use Rattle.laws_trace.specs.Trace.{is_own, IsFront}
use Rattle.laws_trace.specs.Units.{is_ui}
use Rattle.laws_time.specs.Watched.{Watched, fresh}

-- Nothing is heard of a link except unit data, neither whole nor malformed, nor, by annex B, UI over N201; and layer 3 asks neither to establish it, nor to release
-- or deactivate it. All else may happen: layer 3 asks for data and unit data, or is busy, or is not so any more; frames go, or do
-- not; other links are served.
abbrev pub moves_link : Service → ℕ → Request → Bool
moves_link service tei (Establish of by) = is_own service tei of by
moves_link service tei (Release of by) = is_own service tei of by
moves_link service tei (Deactivate of by) = is_own service tei of by
moves_link service tei other = false

abbrev pub is_heard : Config → Service → ℕ → stream.Event → Bool
is_heard c service tei e =
    is_some (malformed c service tei e) || option_map_or (λ (f : Parts). not (is_ui f.control) || is_too_long c f) (brought c service tei (line.hears e)) false

abbrev pub is_stirred : Config → Service → ℕ → line.Event → Bool
is_stirred c service tei (line.hears e) = is_heard c service tei e
is_stirred c service tei (line.request r) = moves_link service tei r
is_stirred c service tei other = false

abbrev pub IsStillAt : {Card Event : Type 0} → Watched Card Event → Config → Service → ℕ → ℕ → Step Event → Timed Card → Type 0
IsStillAt w c service tei number (happens e) t =
    w.kind.line e ≡ number → option_map_or (is_stirred c service tei) (w.meant e t.card) false ≡ false
IsStillAt w c service tei number (time moment) t = Unit {0}
IsStillAt w c service tei number falls_due t = Unit {0}

-- And its TEI stays on the line.
unfoldable pub AreStill : {Card Event : Type 0} → Watched Card Event → Config → Service → ℕ → ℕ → List (Step Event) → Timed Card → Type 0
AreStill w c service tei number [] t = Unit {0}
AreStill w c service tei number (s ∷ steps) t =
    let u = after w.kind s t in
    IsStillAt w c service tei number s t × (is_some (w.state number service tei u.card) ≡ true) × AreStill w c service tei number steps u

-- What is told of the link meanwhile, except data and unit data.
abbrev pub news_in : {Card Event : Type 0} → Watched Card Event → Service → ℕ → ℕ → Option Event → Card → List Note
news_in w service tei number None card = []
news_in w service tei number (Some e) card = if w.kind.line e == number then filter (is_news service tei) (w.notes e card) else []

unfoldable pub news : {Card Event : Type 0} → Watched Card Event → Service → ℕ → ℕ → List (Step Event) → Timed Card → List Note
news w service tei number [] t = []
news w service tei number (s ∷ steps) t =
    news_in w service tei number (event_of w.kind s t) t.card ++ news w service tei number steps (after w.kind s t)

-- In state 7 or 8 error I is told, and then error G and an indication of the release; in state 5 the latter, or the confirm in place of
-- the indication, if a release is owed; and in state 6 error H and the confirm of the release (Q.921 clauses 5.5.1.3, 5.5.3.3 and
-- 5.6.7, and annex B).
abbrev pub given_up : Bool → Service → ℕ → List Note
given_up owed service tei = Error service tei G ∷ (if owed then ReleaseConfirm service tei else ReleaseIndication service tei) ∷ []

abbrev pub told_in : ℕ → Bool → Service → ℕ → List Note
told_in state owed service tei =
    if state == 5 then given_up owed service tei
    else if state == 6 then Error service tei H ∷ ReleaseConfirm service tei ∷ []
    else Error service tei I ∷ given_up false service tei

-- How long this takes at most, if T200 and T203 run so long, a command goes so often, and timers fall due so late at most:
-- first, in state 7, the timer that runs, which is T203, or T200 after an I-frame; then the answers that are awaited.
abbrev pub awaiting : ℕ → Config → Lengths → ℕ
awaiting late c lengths = tries c * (lengths.t200 + late)

abbrev pub idling : ℕ → Lengths → ℕ
idling late lengths = lengths.t203 + late + (lengths.t200 + late)

abbrev pub first_in : ℕ → ℕ → Config → Lengths → ℕ
first_in state late c lengths = (if state == 7 then idling late lengths else 0) + awaiting late c lengths

abbrev pub all_in : ℕ → ℕ → Config → Lengths → ℕ
all_in state late c lengths = first_in state late c lengths + (if state == 7 || state == 8 then awaiting late c lengths else 0)

-- At any time a beginning of that is told, and nothing else; the first of it once the first time is over, and all once the second is.
pub record IsToldInTime (late state : ℕ) (owed : Bool) (c : Config) (lengths : Lengths) (service : Service) (tei : ℕ) (since now : ℕ) (told : List Note) : Type 0 where
  pub front : IsFront told (told_in state owed service tei)
  pub first : since + first_in state late c lengths < now → 1 ≤ length told
  pub all : since + all_in state late c lengths < now → told ≡ told_in state owed service tei

-- So it is at a card of either kind, from its start on, whatever happened before.
abbrev pub ADeadLineIsTold : {Card Event : Type 0} → Watched Card Event → Type 0
ADeadLineIsTold {Card} {Event} w =
    (service : Service) (c : Config) (lengths : Lengths) (late number tei from : ℕ) (before steps : List (Step Event)) → IsInRange c → number < c.lines →
    5 ≤ from → let begun = fresh w c lengths in let t = after_all w.kind before begun in let u = after_all w.kind steps t in
    ArePrompt w.kind late before begun → ArePrompt w.kind late steps t → w.state number service tei t.card ≡ Some from →
    AreStill w c service tei number steps t → IsToldInTime late from (w.owed number service tei t.card) c lengths service tei t.clock.now u.clock.now (news w service tei number steps t)
