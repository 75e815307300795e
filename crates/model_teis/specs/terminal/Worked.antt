-- Worked values: a terminal whose first reference number is 4660 (1234 in hexadecimal), with room for eight TEIs.
use Rattle.std.specs.Prelude.{◌≡◌, ℕ, List, [], ◌∷◌, true, Some, None, refl}
use Rattle.lapd_frame.specs.declared.notes.Note.TheVariants.{Assigned, Removed, Denied, Unassigned, RemoveAll}
use Rattle.lapd_frame.specs.declared.readings.Reading.TheVariants.{Profile, AnnexB}
use Rattle.lapd_frame.specs.declared.timers.Order.TheVariants.{Start, Stop}
use Rattle.lapd_frame.specs.declared.timers.Timer.TheVariants.{T202}
use Rattle.model_teis.specs.declared.changes.Change.TheVariants.{Gained, Left}
use Rattle.model_teis.specs.terminal.Machine.{Terminal, TeiTold, fresh, nothing}
use Rattle.model_teis.specs.terminal.Numbers.{next_number}
use Rattle.model_teis.specs.terminal.Events.{Event, message, expiry, ask, assign, after, told, offered, after_offer}
unfoldable use Rattle.model_teis.specs.terminal.Events.{course}

-- after events, in their order
abbrev after_all : List Event → Terminal → Terminal
after_all [] m = m
after_all (e ∷ es) m = after_all es (after e m)

abbrev line : Terminal
line = fresh Profile 8 4660

-- the numbers go on: 295D, 8BFA, 641B
second_number : next_number 0x1234 ≡ 0x295D
second_number = refl

third_number : next_number 0x295D ≡ 0x8BFA
third_number = refl

fourth_number : next_number 0x8BFA ≡ 0x641B
fourth_number = refl

-- messages of the network: by Ri 1234, TEI 64 is assigned, or there is none to be had; by another, TEI 64 is assigned; and
-- those of one type, Ri 0 and an Ai
abbrev assigned : List ℕ
assigned = 0x0F ∷ 0x12 ∷ 0x34 ∷ 2 ∷ 0x81 ∷ []

abbrev denied : List ℕ
denied = 0x0F ∷ 0x12 ∷ 0x34 ∷ 3 ∷ 0xFF ∷ []

abbrev to_another : List ℕ
to_another = 0x0F ∷ 0x55 ∷ 0x55 ∷ 2 ∷ 0x81 ∷ []

abbrev of_type : ℕ → ℕ → List ℕ
of_type type last = 0x0F ∷ 0 ∷ 0 ∷ type ∷ last ∷ []

-- A TEI is asked for, and T202 started.
asks : told ask line ≡ record nothing { orders = Start T202 ∷ [] }
unfolding course
asks = refl

request_goes : offered (after ask line) ≡ Some (0xFC ∷ 0xFF ∷ 0x03 ∷ 0x0F ∷ 0x12 ∷ 0x34 ∷ 1 ∷ 0xFF ∷ [])
unfolding course
request_goes = refl

-- It is assigned; a check of it is answered; and it is removed.
abbrev asked : Terminal
asked = after_offer (after ask line)

takes : told (message assigned) asked ≡ record nothing { notes = Assigned 64 ∷ []; change = Some (Gained 64 0); orders = Stop T202 ∷ [] }
unfolding course
takes = refl

abbrev has_64 : Terminal
has_64 = after (message assigned) asked

answers : offered (after (message (of_type 4 0x81)) has_64) ≡ Some (0xFC ∷ 0xFF ∷ 0x03 ∷ 0x0F ∷ 0x29 ∷ 0x5D ∷ 5 ∷ 0x81 ∷ [])
unfolding course
answers = refl

leaves : told (message (of_type 6 0x81)) has_64 ≡ record nothing { notes = Removed 64 ∷ []; change = Some (Left 64 0) }
unfolding course
leaves = refl

-- A newer request takes the place of one that waits, and none waits after it.
newer_goes : offered (after_all (ask ∷ expiry ∷ []) line) ≡ Some (0xFC ∷ 0xFF ∷ 0x03 ∷ 0x0F ∷ 0x29 ∷ 0x5D ∷ 1 ∷ 0xFF ∷ [])
unfolding course
newer_goes = refl

none_after_it : offered (after_offer (after_all (ask ∷ expiry ∷ []) line)) ≡ None
unfolding course
none_after_it = refl

-- After three attempts no TEI was assigned. A denial ends nothing.
gives_up : told expiry (after_all (ask ∷ expiry ∷ expiry ∷ []) line) ≡ record nothing { notes = Unassigned ∷ []; orders = Stop T202 ∷ [] }
unfolding course
gives_up = refl

is_denied : told (message denied) (after ask line) ≡ record nothing { notes = Denied ∷ [] }
unfolding course
is_denied = refl

-- A check of all is answered for each TEI; a removal of all is told, if more than one is on the line.
abbrev has_both : Terminal
has_both = after_all (assign 64 ∷ assign 65 ∷ []) line

first_answer : offered (after (message (of_type 4 0xFF)) has_both) ≡ Some (0xFC ∷ 0xFF ∷ 0x03 ∷ 0x0F ∷ 0x12 ∷ 0x34 ∷ 5 ∷ 0x81 ∷ [])
unfolding course
first_answer = refl

second_answer : offered (after_offer (after (message (of_type 4 0xFF)) has_both)) ≡ Some (0xFC ∷ 0xFF ∷ 0x03 ∷ 0x0F ∷ 0x29 ∷ 0x5D ∷ 5 ∷ 0x83 ∷ [])
unfolding course
second_answer = refl

all_are_to_go : told (message (of_type 6 0xFF)) has_both ≡ record nothing { notes = RemoveAll ∷ [] }
unfolding course
all_are_to_go = refl

-- Another terminal is assigned TEI 64: it is verified, twice, and then leaves.
abbrev doubts : Terminal
doubts = after_all (assign 64 ∷ message to_another ∷ []) line

verify_goes : offered doubts ≡ Some (0xFC ∷ 0xFF ∷ 0x03 ∷ 0x0F ∷ 0 ∷ 0 ∷ 7 ∷ 0x81 ∷ [])
unfolding course
verify_goes = refl

verifies_again : told expiry doubts ≡ record nothing { orders = Start T202 ∷ [] }
unfolding course
verifies_again = refl

leaves_unverified : told expiry (after expiry doubts) ≡ record nothing { notes = Removed 64 ∷ []; change = Some (Left 64 0); orders = Stop T202 ∷ [] }
unfolding course
leaves_unverified = refl

-- By annex B a TEI below 64 is taken, too, in answer to the terminal's own request alone, and never 127; and more octets may follow
-- the five of a message. In the profile neither is served.
abbrev asked_by_annex_b : Terminal
asked_by_annex_b = after_offer (after ask (fresh AnnexB 8 4660))

abbrev of_choice : ℕ → List ℕ → List ℕ
of_choice last more = 0x0F ∷ 0x12 ∷ 0x34 ∷ 2 ∷ last ∷ more

abbrev passed_over : TeiTold
passed_over = record nothing { unserved = true }

takes_5 : told (message (of_choice 0x0B [])) asked_by_annex_b ≡ record nothing { notes = Assigned 5 ∷ []; change = Some (Gained 5 0); orders = Stop T202 ∷ [] }
unfolding course
takes_5 = refl

takes_0_longer : told (message (of_choice 0x01 (0x00 ∷ 0xFF ∷ []))) asked_by_annex_b ≡ record nothing { notes = Assigned 0 ∷ []; change = Some (Gained 0 0); orders = Stop T202 ∷ [] }
unfolding course
takes_0_longer = refl

takes_none_of_all : told (message (of_choice 0xFF [])) asked_by_annex_b ≡ passed_over
unfolding course
takes_none_of_all = refl

takes_none_of_another : told (message (0x0F ∷ 0x55 ∷ 0x55 ∷ 2 ∷ 0x0B ∷ [])) asked_by_annex_b ≡ passed_over
unfolding course
takes_none_of_another = refl

takes_none_in_the_profile : (told (message (of_choice 0x0B [])) asked ≡ passed_over) × (told (message (of_choice 0x81 (0x00 ∷ []))) asked ≡ passed_over)
unfolding course
takes_none_in_the_profile = (refl, refl)

answers_longer : offered (after (message (0x0F ∷ 0 ∷ 0 ∷ 4 ∷ 0xFF ∷ 0x00 ∷ [])) (after (assign 64) asked_by_annex_b)) ≡ Some (0xFC ∷ 0xFF ∷ 0x03 ∷ 0x0F ∷ 0x29 ∷ 0x5D ∷ 5 ∷ 0x81 ∷ [])
unfolding course
answers_longer = refl
