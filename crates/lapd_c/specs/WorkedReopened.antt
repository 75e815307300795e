-- Worked values: which link waits for room, how long, and how a report names it.
use Rattle.std.specs.Prelude.{◌≡◌, true, false, [], ◌∷◌, None, Some, Ok, Err, refl}
use Rattle.lapd_frame.specs.declared.refusals.Refusal.TheVariants.{NoLink}
use Rattle.lapd_frame.specs.Services.{sapi_of}
use Rattle.lapd_c.specs.declared.link_marks.LinkMarks.{LinkMarks}
use Rattle.lapd_c.specs.LinkMarks.{is_marked, no_marks}
use Rattle.lapd_c.specs.LinkPlaces.{service_at, tei_at}
use Rattle.lapd_c.specs.Reopened.{refused_place, is_room, is_for_more}

-- Contents for the packet link of TEI 64 are refused by status 5, its queue: it waits. Unit data are refused so by the queue of
-- the line, and nothing waits; nor does it after a refusal for another reason, as the pool's, 6.
of_packets : refused_place 5 3 16 64 ≡ Some 129
of_packets = refl

of_unit_data : refused_place 5 4 16 64 ≡ None
of_unit_data = refl

of_the_pool : refused_place 6 3 16 64 ≡ None
of_the_pool = refl

-- Place 129 has bit 1 of the third word.
abbrev waits : LinkMarks
waits = record { words = no_marks ∷ no_marks ∷ record { bits = 2 } ∷ no_marks ∷ [] }

packets_wait : is_marked waits 129 ≡ true
packets_wait = refl

calls_do_not : is_marked waits 128 ≡ false
calls_do_not = refl

-- It is told when its queue takes one more, whatever the pool has; and waits no longer once its TEI has left the line.
not_while_full : is_for_more (Ok (record { pool = 3; queue = 0; va = 5 })) ≡ false
not_while_full = refl

with_room_for_one : is_for_more (Ok (record { pool = 0; queue = 1; va = 6 })) ≡ true
with_room_for_one = refl

without_its_tei : is_room (Err NoLink) ≡ false
without_its_tei = refl

-- The report names it by its SAPI and TEI.
service_named : sapi_of (service_at 129) ≡ 16
service_named = refl

tei_named : tei_at 129 ≡ 64
tei_named = refl
