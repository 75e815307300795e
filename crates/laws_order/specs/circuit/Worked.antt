-- Worked values.
use Rattle.std.specs.Prelude.{◌≡◌, true, false, refl}
use Rattle.laws_order.specs.circuit.Beats.{longest, enough_beats}

-- N201 of 260: 321 octets. Nothing on its way at the end of a beat: the establishment takes 1284 beats at most, and a request 1284 more.
longest_260 : longest 260 ≡ 321
longest_260 = refl

establishes : enough_beats 260 0 false 0 ≡ 1284
establishes = refl

one_more : enough_beats 260 0 false 1 ≡ 2568
one_more = refl

-- Where both ends call, 1284 more. On a long way, of 1000 octets, each frame takes 1642.
both_establish : enough_beats 260 0 true 0 ≡ 2568
both_establish = refl

far_apart : enough_beats 260 1000 false 0 ≡ 3284
far_apart = refl
