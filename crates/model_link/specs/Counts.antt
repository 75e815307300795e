-- What is counted of a link (profile).
use Rattle.std.specs.Prelude.{◌≡◌, ℕ, zero, suc, ◌+◌, min, refl}
use Rattle.lapd_frame.specs.declared.controls.Control.{Control}
use Rattle.lapd_frame.specs.declared.controls.Control.TheVariants.{Reject}
use Rattle.model_link.specs.declared.counts.LinkCounts.{LinkCounts}
use Rattle.model_link.specs.declared.timers.LinkTimer.{LinkTimer}
use Rattle.model_link.specs.declared.timers.LinkTimer.TheVariants.{T200, T203}

abbrev pub none_counted : LinkCounts
none_counted = record { sent_again = 0; t200_expired = 0; rejects_sent = 0; rejects_received = 0; established = 0 }

-- One more. A number stays at its greatest value.
abbrev pub one_more : ℕ → ℕ
one_more n = min (n + 1) 65535

-- An I-frame is sent, while so many of those that are to be sent were sent before.
abbrev pub with_information_sent : ℕ → LinkCounts → LinkCounts
with_information_sent zero counts = counts
with_information_sent (suc again) counts = record counts { sent_again = one_more counts.sent_again }

-- A control frame is sent.
abbrev pub with_control_sent : Control → LinkCounts → LinkCounts
with_control_sent (Reject nr pf) counts = record counts { rejects_sent = one_more counts.rejects_sent }
with_control_sent other counts = counts

-- REJ is received in state 7 or 8.
abbrev pub with_reject_received : LinkCounts → LinkCounts
with_reject_received counts = record counts { rejects_received = one_more counts.rejects_received }

-- A timer expires.
abbrev pub with_expiry : LinkTimer → LinkCounts → LinkCounts
with_expiry T200 counts = record counts { t200_expired = one_more counts.t200_expired }
with_expiry T203 counts = counts

-- The link is established.
abbrev pub with_establishment : LinkCounts → LinkCounts
with_establishment counts = record counts { established = one_more counts.established }

-- Worked.
expired_at_most : (with_expiry T200 (record none_counted { t200_expired = 65535 })).t200_expired ≡ 65535
expired_at_most = refl

expired_once : with_expiry T203 (with_expiry T200 none_counted) ≡ record none_counted { t200_expired = 1 }
expired_once = refl
