-- A text in a room of the caller's.
use Rattle.std.specs.Prelude.{ℕ, List, ◌++◌, length, take, drop}

-- The text stands at the beginning of the room, as much of it as fits; what lies behind it stays.
abbrev pub in_room : List ℕ → List ℕ → List ℕ
in_room text room = take (length room) text ++ drop (length text) room
