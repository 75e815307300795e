-- Worked values: what the rows of annex B leave and tell, and in the profile where it differs.
use Rattle.std.specs.Prelude.{◌≡◌, ℕ, List, [], ◌∷◌, ◌++◌, replicate, true, false, Some, None, refl}
use Rattle.lapd_frame.specs.declared.notes.Note.TheVariants.{Doubled, Removed}
use Rattle.lapd_frame.specs.declared.readings.Reading.{Reading}
use Rattle.lapd_frame.specs.declared.readings.Reading.TheVariants.{Profile, AnnexB}
use Rattle.lapd_frame.specs.declared.timers.Order.TheVariants.{Start, Stop}
use Rattle.lapd_frame.specs.declared.timers.Timer.TheVariants.{T201}
use Rattle.lapd_frame.specs.declared.refusals.Refusal.TheVariants.{CheckRunning}
use Rattle.model_teis.specs.network.Messages.{IdentityAssigned, IdentityDenied, IdentityCheckRequest, IdentityRemove}
use Rattle.model_teis.specs.network.Machine.{Management, TeiTold, First, Settling, Left, empty, nothing}
use Rattle.model_teis.specs.network.Events.{Event, message, expiry, assign, remove, check, down, course, refusal, after, told}
use Rattle.model_teis.specs.network.Laws.{Act, event, pull, after_acts}

-- A terminal says a message of this type with Ri 0x1234, and octets with Ai.
abbrev says : ℕ → List ℕ → Event
says type actions = message (0x0F ∷ 0x12 ∷ 0x34 ∷ type ∷ actions)

abbrev asks : Event
asks = says 1 (0xFF ∷ [])

abbrev made : Reading → List Act → Management
made r acts = after_acts acts (empty r 3)

-- A request comes again while its answer waits, and once that has gone.
again : ((made AnnexB (event asks ∷ event asks ∷ [])).waiting ≡ IdentityAssigned 0x1234 64 ∷ [])
    × ((made AnnexB (event asks ∷ pull ∷ event asks ∷ [])).waiting ≡ IdentityAssigned 0x1234 65 ∷ [])
    × ((made Profile (event asks ∷ event asks ∷ [])).waiting ≡ IdentityAssigned 0x1234 64 ∷ IdentityAssigned 0x1234 64 ∷ [])
unfolding course refusal
again = (refl, refl, refl)

-- One is for TEI 70, which is denied, and one for TEI 63.
abbrev passed_over : TeiTold
passed_over = record nothing { unserved = true }

of_choice : ((made AnnexB (event (says 1 (0x8D ∷ [])) ∷ [])).waiting ≡ IdentityDenied 0x1234 70 ∷ [])
    × (told (says 1 (0x8D ∷ [])) (empty Profile 3) ≡ passed_over) × (told (says 1 (0x7F ∷ [])) (empty AnnexB 3) ≡ passed_over)
unfolding course refusal
of_choice = (refl, refl, refl)

-- More octets follow: by annex B the first five are read, in the profile none. In the fifth bit 1 is 0, or it is missing.
abbrev longer : Event
longer = says 1 (0xFF ∷ 0x00 ∷ 0x12 ∷ [])

padded : ((made AnnexB (event longer ∷ [])).waiting ≡ IdentityAssigned 0x1234 64 ∷ []) × (told longer (empty Profile 3) ≡ passed_over)
    × (told (says 1 (0xFE ∷ 0xFF ∷ [])) (empty AnnexB 3) ≡ passed_over) × (told (says 1 []) (empty AnnexB 3) ≡ passed_over)
unfolding course refusal
padded = (refl, refl, refl, refl)

-- TEIs 66, 65 and 64 are at the places 0, 1 and 2. While TEI 66 is under check, TEIs 64 and 65 are to be verified: each is asked for
-- once. A verify of TEI 66 is not served.
abbrev due : Reading → Management
due r = made r (event (assign 66) ∷ event (assign 65) ∷ event (assign 64) ∷ event (check 66) ∷ event (says 7 (0x81 ∷ [])) ∷ event (says 7 (0x83 ∷ [])) ∷ [])

asked : ((due AnnexB).waiting ≡ IdentityCheckRequest 66 ∷ IdentityCheckRequest 64 ∷ IdentityCheckRequest 65 ∷ [])
    × ((due AnnexB).to_check ≡ false ∷ true ∷ true ∷ []) × ((due Profile).to_check ≡ false ∷ false ∷ false ∷ [])
    × (after (says 7 (0x81 ∷ [])) (due AnnexB) ≡ due AnnexB) × (told (says 7 (0x85 ∷ [])) (due AnnexB) ≡ passed_over)
unfolding course refusal
asked = (refl, refl, refl, refl, refl)

-- No terminal answers for TEI 66. Its removal is sent, and the check at the lowest place settles: one order, and no message.
abbrev silent : Management
silent = after_acts (pull ∷ pull ∷ pull ∷ event expiry ∷ pull ∷ event expiry ∷ []) (due AnnexB)

abbrev settling : Management
settling = record {
  reading = AnnexB;
  places = None ∷ Some 65 ∷ Some 64 ∷ [];
  remembered = [];
  check = Some (record { tei = 65; period = Settling; first = 0; second = 0 });
  to_check = false ∷ false ∷ true ∷ [];
  waiting = IdentityRemove 66 ∷ [];
}

next : (silent ≡ settling)
    × (told expiry (after expiry (due AnnexB)) ≡ record { notes = Removed 66 ∷ []; change = Some (Left 66 0); orders = Start T201 ∷ []; lost = 1; unserved = false })
unfolding course refusal
next = (refl, refl)

-- While it settles a response counts nothing, though it is served; TEI 64 is asked for once more, and no other check is granted.
settles : (after (says 5 (0x83 ∷ [])) settling ≡ settling) × (told (says 5 (0x83 ∷ [])) settling ≡ nothing) × (told (says 5 (0x80 ∷ 0x83 ∷ [])) settling ≡ nothing)
    × (told (says 7 (0x83 ∷ [])) settling ≡ passed_over) × ((after (says 7 (0x81 ∷ [])) settling).waiting ≡ IdentityRemove 66 ∷ IdentityCheckRequest 64 ∷ [])
    × (refusal (check 64) settling ≡ Some CheckRunning)
unfolding course refusal
settles = (refl, refl, refl, refl, refl, refl)

-- Then it begins.
abbrev begins : Management
begins = after expiry settling

is_begun : (begins ≡ record settling { check = Some (record { tei = 65; period = First; first = 0; second = 0 }); waiting = IdentityRemove 66 ∷ IdentityCheckRequest 65 ∷ [] })
    × (told expiry settling ≡ record nothing { orders = Start T201 ∷ [] })
unfolding course refusal
is_begun = (refl, refl)

-- A TEI that leaves is forgotten, and all are if the line is down. If TEI 65 leaves while it settles, TEI 64 settles, and no other
-- after that.
forgotten : ((after (remove 64) settling).to_check ≡ false ∷ false ∷ false ∷ []) × ((after down settling).to_check ≡ false ∷ false ∷ false ∷ [])
    × ((after (remove 65) settling).check ≡ Some (record { tei = 64; period = Settling; first = 0; second = 0 }))
    × ((told (remove 64) (after_acts (event (remove 65) ∷ pull ∷ []) settling)).orders ≡ Stop T201 ∷ [])
unfolding course refusal
forgotten = (refl, refl, refl, refl)

-- Responses name TEIs 64 and 65 in one message; two of these come in one period. One more ends with TEI 64.
abbrev answered : Management
answered = after (says 5 (0x80 ∷ 0x83 ∷ [])) begins

counts : (answered.check ≡ Some (record { tei = 65; period = First; first = 1; second = 0 }))
    × ((told (says 5 (0x82 ∷ 0x81 ∷ [])) answered).notes ≡ Doubled 65 ∷ []) × (told (says 5 (0x81 ∷ 0x83 ∷ [])) begins ≡ passed_over)
unfolding course refusal
counts = (refl, refl, refl)

-- Octets follow the last Ai: they are not looked at. TEI 65 is the last of 64 Ai, and of 65; and no Ai is the last.
long : ((after (says 5 (0x83 ∷ 0x81 ∷ [])) begins).check ≡ answered.check) × ((after (says 5 (0x80 ∷ 0x83 ∷ 0x80 ∷ [])) begins).check ≡ answered.check)
    × ((after (says 5 (replicate 63 0x80 ++ 0x83 ∷ 0x00 ∷ [])) begins).check ≡ answered.check)
    × (told (says 5 (replicate 64 0x80 ++ 0x83 ∷ [])) begins ≡ passed_over) × (told (says 5 (0x80 ∷ 0x82 ∷ [])) begins ≡ passed_over)
unfolding course refusal
long = (refl, refl, refl, refl, refl)
