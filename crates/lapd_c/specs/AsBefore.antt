-- A card whose timers are the caller's, by the contracts of a start, of a call, and of an expiry.
use Rattle.std.specs.Prelude.{◌≡◌, ℕ, false, Option}
use Rattle.model_card.specs.declared.kinds.CardKind.{CardKind}
use Rattle.lapd_c.specs.declared.card.CardHandle.{CardHandle}
use Rattle.lapd_c.specs.declared.plain.config.PlainConfig.{PlainConfig}
use Rattle.lapd_c.specs.declared.plain.reports.PlainReport.{PlainReport}
use Rattle.lapd_c.specs.declared.plain.timers.PlainTimer.{PlainTimer}
use Rattle.lapd_c.specs.Asked.{expire_asked}
use Rattle.lapd_c.specs.CalledBy.{Asked, Called, IsCallOf}
use Rattle.lapd_c.specs.Calls.{IsCardStart}
use Rattle.lapd_c.specs.FallsDue.{IsMomentCall, IsTimersCall}
use Rattle.lapd_c.specs.Kept.{is_timed}
use Rattle.lapd_c.specs.Statuses as status
use Rattle.lapd_c.specs.Wanted.{Wanted, of_any}

-- An expiry that is asked of each card, whosever its timers are.
abbrev pub any_expire_asked : ℕ → PlainTimer → Asked
any_expire_asked line timer = record (expire_asked line timer) { cards = of_any }

-- After a start without lengths, and after each call that comes then, the card's timers are the caller's. Then the contract of an
-- expiry, which speaks of cards whose timers are the caller's, holds of this card without that.
pub record AsBefore : Type 0 where
  pub start : (kind : CardKind) (config : PlainConfig) (none begun : CardHandle) → IsCardStart kind config none begun status.ok → is_timed begun ≡ false
  pub call : (cards : Wanted) (line result : ℕ) (names : Option ℕ) (old new : CardHandle) (before report : PlainReport) → IsCallOf cards line names old new result before report
      → is_timed old ≡ false → is_timed new ≡ false
  pub moment : (result : ℕ) (old new : CardHandle) (before report : PlainReport) → IsMomentCall old new result before report → is_timed old ≡ false → is_timed new ≡ false
  pub lengths : (result : ℕ) (old new : CardHandle) → IsTimersCall old new result → is_timed old ≡ false → is_timed new ≡ false
  pub expiry : (line result : ℕ) (old new : CardHandle) (timer : PlainTimer) (before report : PlainReport) → is_timed old ≡ false
      → Called (expire_asked line timer) old new result before report → Called (any_expire_asked line timer) old new result before report
