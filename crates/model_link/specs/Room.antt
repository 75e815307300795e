-- How much room a link has for contents, and how far what it sent is acknowledged.
use Rattle.std.specs.Prelude.{ℕ, ◌-◌, ◌%◌, ◌==◌, length, Option, None, Some, if◌then◌else◌}
use Rattle.lapd_frame.specs.declared.refusals.Refusal.{Refusal}
use Rattle.lapd_frame.specs.declared.refusals.Refusal.TheVariants.{QueueFull, PoolFull}
use Rattle.model_link.specs.declared.rooms.Room.{Room}
use Rattle.model_link.specs.declared.terms.Terms.{Terms}
use Rattle.model_link.specs.Link.{Link, queue_of}

-- The places of its queue that are left, where so many slots of the pool are free (profile), and V(A) (clause 3.5.2.3).
abbrev pub room_of : Terms → ℕ → Link → Room
room_of t free l = record { queue = t.queue - length (queue_of l); pool = free; va = l.a % 128 }

-- Why contents that are not too long are refused in state 7 or 8: no place is left, or else no slot.
abbrev pub refusal_for : Room → Option Refusal
refusal_for room = if room.queue == 0 then Some QueueFull else if room.pool == 0 then Some PoolFull else None
