-- What a call does with the octets that it is handed: one for the next frame, and one that writes a frame that has begun.
use Rattle.std.specs.Prelude.{◌≡◌, ◌≤◌, ◌<◌, ◌++◌, ℕ, List, length, drop, Option, IfSome, IfNone}
use Rattle.lapd_line.specs.Reports.{written}
use Rattle.lapd_line.specs.declared.next_frame.NextFrame.{NextFrame}
use Rattle.lapd_card.specs.declared.frame_card.RoomTooSmall.{RoomTooSmall}

-- There is room for every frame. What is given, if anything is, stands in front, and the octets after it are as they were.
pub record GivenIn (least : ℕ) (given : Option NextFrame) (before after : List ℕ) : Type 0 where
  pub enough : least ≤ length before
  pub fits : written given ≤ length after
  pub rest : drop (written given) after ≡ drop (written given) before
  pub as_many : length after ≡ length before

-- There is not. The fault says how much room is enough, and nothing has changed.
pub record NoRoom {X : Type 0} (least : ℕ) (fault : RoomTooSmall) (old new : X) (before after : List ℕ) : Type 0 where
  pub few : length before < least
  pub room : fault.room ≡ least
  pub unchanged : new ≡ old
  pub unwritten : after ≡ before

-- A whole frame stands in front, and the octets after it are as they were: so many it has; or there is none, as it has no room.
pub record IsWhole (frame : List ℕ) (count : Option ℕ) (before after : List ℕ) : Type 0 where
  pub short : IfNone count (length before < length frame)
  pub written : IfSome count (λ n. (n ≡ length frame) × (after ≡ frame ++ drop n before))
