-- The premises of the laws on an end that is busy itself are met: by a link where own busy has begun, and by the worked run in
-- which RNR and all frames are lost.
use Rattle.laws_link.proofs.Vocabulary.{ℕ, true, false, List, [], ◌∷◌, length, refl, arith, leb-true, seq, distance_of, named, supervisory_of, unnumbered_of, control_of, header_of, reading, Information, ReceiveNotReady, Parts, frame_of, command, response, Data, SetBusy, frame, Event, received, requested, offer, after_all, Ends, requests, sends, receives, StepAt, at_near, at_far}
use Rattle.laws_link.proofs.Vocabulary.{doing_all, StayUp, sound-all, usual_terms, up, both, StayAhead, IsTaken, HasUnsent, CanRecoverFrom, CanRecoverFromWith, HasMissing, IsBusyItself, IsUpAndIdle, IsDropped, busy_losing, busy_cut_off, near_dropped, far_dropped}
use Rattle.laws_link.proofs.OfTwo.Premises.{begins}
use Rattle.laws_link.proofs.OfTwo.PremisesMet.{by-test, stay_ahead, mild, mild_act, mild_request}
use Rattle.laws_link.proofs.OfTwo.Together.{all-stay_up}

-- the run in which all are lost
busy-losing-ahead : StayAhead busy_losing both
unfolding seq distance_of named reading header_of control_of unnumbered_of supervisory_of after_all stay_ahead mild mild_act mild_request
busy-losing-ahead = by-test busy_losing both refl

pub busy-losing-up : StayUp busy_losing both
busy-losing-up = all-stay_up busy_losing both begins begins refl busy-losing-ahead

pub near-silent : CanRecoverFromWith true busy_cut_off.near busy_cut_off.far
unfolding seq distance_of named reading header_of control_of unnumbered_of supervisory_of after_all doing_all
near-silent = grind (arith, leb-true, busy_cut_off)

pub far-silent : CanRecoverFrom busy_cut_off.far busy_cut_off.near
unfolding seq distance_of named reading header_of control_of unnumbered_of supervisory_of after_all doing_all
far-silent = grind (arith, leb-true, busy_cut_off)

pub near-missing : HasMissing 3 busy_cut_off.near busy_cut_off.far
unfolding seq distance_of named reading header_of control_of unnumbered_of supervisory_of after_all doing_all
near-missing = leb-true (length busy_cut_off.near.link.contents) 3 refl

-- own busy has begun, and the other has heard of it
abbrev begun : List StepAt
begun = at_near (requests SetBusy false) ∷ at_near sends ∷ at_far receives ∷ []

abbrev busy_now : Ends
busy_now = doing_all begun both

pub is-busy : IsBusyItself busy_now.near
unfolding seq distance_of named reading header_of control_of unnumbered_of supervisory_of after_all doing_all
is-busy = search (begins.ranges, sound-all usual_terms begins.ranges (requested SetBusy false ∷ offer ∷ []) up begins.sound)

pub is-open : IsUpAndIdle busy_now.far
unfolding seq distance_of named reading header_of control_of unnumbered_of supervisory_of after_all doing_all
is-open = search (begins.ranges, sound-all usual_terms begins.ranges (received (frame (frame_of usual_terms (response (ReceiveNotReady (seq 0) false)))) ∷ []) up begins.sound)

pub is-taken : IsTaken busy_now.near busy_now.far
unfolding seq distance_of named reading header_of control_of unnumbered_of supervisory_of after_all doing_all
is-taken = record { received = refl; delivered = refl; owed = λ less. absurd (omega (arith, less)); sizes = begins.sound.sizes }

pub is-dropped : IsDropped busy_now.near busy_now.far
unfolding seq distance_of named reading header_of control_of unnumbered_of supervisory_of after_all doing_all
is-dropped = record { low = leb-true 0 0 refl; high = leb-true 0 0 refl; sizes = begins.sound.sizes }

pub unsent : HasUnsent 0 busy_now.near
unfolding seq distance_of named reading header_of control_of unnumbered_of supervisory_of after_all doing_all
unsent = leb-true (length busy_now.near.link.contents) 0 refl

-- own busy is on where one content is unsent, and one of the other's was dropped
abbrev asks_for : ℕ → Event
asks_for n = requested (Data (n ∷ [])) false

abbrev sent_first : ℕ → Parts
sent_first n = record (frame_of usual_terms (command (Information (seq 0) (seq 0) false))) { info = n ∷ [] }

abbrev dropping : ℕ → ℕ → List Event
dropping theirs own = requested SetBusy false ∷ offer ∷ received (frame (sent_first theirs)) ∷ asks_for own ∷ []

pub near-busy : IsBusyItself near_dropped.near
unfolding seq distance_of named reading header_of control_of unnumbered_of supervisory_of after_all doing_all
near-busy = search (begins.ranges, sound-all usual_terms begins.ranges (dropping 4 1) up begins.sound)

pub far-open : IsUpAndIdle near_dropped.far
unfolding seq distance_of named reading header_of control_of unnumbered_of supervisory_of after_all doing_all
far-open = search (begins.ranges, sound-all usual_terms begins.ranges (asks_for 4 ∷ offer ∷ []) up begins.sound)

pub near-taken : IsTaken near_dropped.near near_dropped.far
unfolding seq distance_of named reading header_of control_of unnumbered_of supervisory_of after_all doing_all
near-taken = record { received = refl; delivered = refl; owed = λ less. absurd (omega (arith, less)); sizes = near-busy.sound.sizes }

pub near-dropped : IsDropped near_dropped.near near_dropped.far
unfolding seq distance_of named reading header_of control_of unnumbered_of supervisory_of after_all doing_all
near-dropped = record { low = leb-true 0 0 refl; high = leb-true 0 1 refl; sizes = far-open.sound.sizes }

pub near-unsent : HasUnsent 1 near_dropped.near
unfolding seq distance_of named reading header_of control_of unnumbered_of supervisory_of after_all doing_all
near-unsent = leb-true (length near_dropped.near.link.contents) 1 refl

pub far-busy : IsBusyItself far_dropped.far
unfolding seq distance_of named reading header_of control_of unnumbered_of supervisory_of after_all doing_all
far-busy = search (begins.ranges, sound-all usual_terms begins.ranges (dropping 1 4) up begins.sound)

pub near-open : IsUpAndIdle far_dropped.near
unfolding seq distance_of named reading header_of control_of unnumbered_of supervisory_of after_all doing_all
near-open = search (begins.ranges, sound-all usual_terms begins.ranges (asks_for 1 ∷ offer ∷ []) up begins.sound)

pub far-taken : IsTaken far_dropped.far far_dropped.near
unfolding seq distance_of named reading header_of control_of unnumbered_of supervisory_of after_all doing_all
far-taken = record { received = refl; delivered = refl; owed = λ less. absurd (omega (arith, less)); sizes = far-busy.sound.sizes }

pub far-dropped : IsDropped far_dropped.far far_dropped.near
unfolding seq distance_of named reading header_of control_of unnumbered_of supervisory_of after_all doing_all
far-dropped = record { low = leb-true 0 0 refl; high = leb-true 0 1 refl; sizes = near-open.sound.sizes }

pub far-unsent : HasUnsent 1 far_dropped.far
unfolding seq distance_of named reading header_of control_of unnumbered_of supervisory_of after_all doing_all
far-unsent = leb-true (length far_dropped.far.link.contents) 1 refl
