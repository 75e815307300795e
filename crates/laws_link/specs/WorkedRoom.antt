-- Worked values: the room of a link.
use Rattle.std.specs.Prelude.{◌≡◌, [], ◌∷◌, None, Some, refl}
use Rattle.laws_link.specs.WorkedWords.{seq, distance_of, named, QueueFull, PoolFull, supervisory_of, unnumbered_of, control_of, header_of, reading, Link, fresh, Data, offer, after_all, room_of, refusal_for, usual_terms, with_k_and_queue, frame_comes, ask, sabme}

-- With k 1 and places for two contents, two leave no place, however many slots are free; once the terminal has
-- acknowledged the first, there is one.
abbrev both : Link
both = after_all (with_k_and_queue 1 2) (sabme ∷ ask (Data (1 ∷ [])) ∷ ask (Data (2 ∷ [])) ∷ offer ∷ offer ∷ []) fresh

no_place : room_of (with_k_and_queue 1 2) 5 both ≡ record { queue = 0; pool = 5; va = 0 }
unfolding seq distance_of named reading header_of control_of unnumbered_of supervisory_of after_all
no_place = refl

one_place : room_of (with_k_and_queue 1 2) 6 (after_all (with_k_and_queue 1 2) (frame_comes (0x02 ∷ 0x81 ∷ 0x01 ∷ 0x02 ∷ []) ∷ []) both)
    ≡ record { queue = 1; pool = 6; va = 1 }
unfolding seq distance_of named reading header_of control_of unnumbered_of supervisory_of after_all
one_place = refl

-- V(A) is a number modulo 128.
after_129 : room_of usual_terms 0 (record fresh { a = 129; s = 129; r = 3 }) ≡ record { queue = 8; pool = 0; va = 1 }
after_129 = refl

-- Where both are used up the queue is told, as it is nearer.
told_first : refusal_for (record { queue = 0; pool = 0; va = 0 }) ≡ Some QueueFull
told_first = refl

told_then : refusal_for (record { queue = 1; pool = 0; va = 0 }) ≡ Some PoolFull
told_then = refl

told_none : refusal_for (record { queue = 1; pool = 1; va = 0 }) ≡ None
told_none = refl
