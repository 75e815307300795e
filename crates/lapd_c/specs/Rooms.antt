-- How much room a link has, as numbers.
use Rattle.model_link.specs.declared.rooms.Room.{Room}
use Rattle.lapd_c.specs.declared.plain.rooms.PlainRoom.{PlainRoom}
use Rattle.lapd_c.specs.Reserved.{unused}

abbrev pub plain_room : Room → PlainRoom
plain_room room = record { pool = room.pool; queue = room.queue; va = room.va; reserved = unused 10 }
