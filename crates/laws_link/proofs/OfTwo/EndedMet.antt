-- Ends that meet what the end of own busy asks, and what it gives them.
use Rattle.laws_link.proofs.Vocabulary.{true, false, [], ◌∷◌, length, refl, arith, leb-true, seq, distance_of, named, supervisory_of, unnumbered_of, control_of, header_of, reading, ReceiveNotReady, frame_of, response, Data, SetBusy, frame, received, requested, offer, after_all, doing_all, sound-all, ends-agree, usual_terms, up, both, rounds, IsTaken, HasUnsent, HasMissing, with_t200_expired}
use Rattle.laws_link.proofs.Vocabulary.{IsBusyItself, IsUpAndIdle, with_near_told, HasDroppedNothing, BothHaveArrived, busy_losing, busy_cut_off, kept}
use Rattle.laws_link.proofs.OfTwo.Premises.{begins}
use Rattle.laws_link.proofs.OfTwo.Reached.{whole-first, cut-off, cut-off-far}
use Rattle.laws_link.proofs.OfTwo.PremisesMet.{timed}
use Rattle.laws_link.proofs.OfTwo.BusyMet.{busy-losing-up, near-silent, far-silent, near-missing}
use Rattle.laws_link.proofs.OfTwo.Ended.{near-arrives, told-recovers}

-- nothing was dropped
near-busy : IsBusyItself kept.near
unfolding seq distance_of named reading header_of control_of unnumbered_of supervisory_of after_all doing_all
near-busy = search (begins.ranges, sound-all usual_terms begins.ranges (requested SetBusy false ∷ offer ∷ requested (Data (1 ∷ [])) false ∷ []) up begins.sound)

far-open : IsUpAndIdle kept.far
unfolding seq distance_of named reading header_of control_of unnumbered_of supervisory_of after_all doing_all
far-open = search (begins.ranges, sound-all usual_terms begins.ranges (received (frame (frame_of usual_terms (response (ReceiveNotReady (seq 0) false)))) ∷ requested (Data (4 ∷ [])) false ∷ []) up begins.sound)

near-taken : IsTaken kept.near kept.far
unfolding seq distance_of named reading header_of control_of unnumbered_of supervisory_of after_all doing_all
near-taken = record { received = refl; delivered = refl; owed = λ less. absurd (omega (arith, less)); sizes = near-busy.sound.sizes }

nothing-dropped : HasDroppedNothing kept.near kept.far
unfolding seq distance_of named reading header_of control_of unnumbered_of supervisory_of after_all doing_all
nothing-dropped = record { received = refl; delivered = refl; sizes = far-open.sound.sizes }

near-unsent : HasUnsent 1 kept.near
unfolding seq distance_of named reading header_of control_of unnumbered_of supervisory_of after_all doing_all
near-unsent = leb-true (length kept.near.link.contents) 1 refl

far-unsent : HasUnsent 1 kept.far
unfolding seq distance_of named reading header_of control_of unnumbered_of supervisory_of after_all doing_all
far-unsent = leb-true (length kept.far.link.contents) 1 refl

pub kept-arrive : BothHaveArrived kept (rounds 2 (with_near_told kept))
kept-arrive = near-arrives 1 kept near-busy far-open near-taken nothing-dropped near-unsent far-unsent

-- all frames were lost
far-missing : HasMissing 3 busy_cut_off.far busy_cut_off.near
unfolding seq distance_of named reading header_of control_of unnumbered_of supervisory_of after_all doing_all
far-missing = leb-true (length busy_cut_off.far.link.contents) 3 refl

pub lost-arrive : BothHaveArrived busy_cut_off (rounds 6 (with_t200_expired (with_near_told busy_cut_off)))
lost-arrive =
    let h = whole-first busy_losing both begins begins timed timed refl busy-losing-up in
    let agree = ends-agree busy_losing both begins begins busy-losing-up in
    (told-recovers 3 busy_cut_off (cut-off true busy_cut_off h agree.1 near-silent) (cut-off-far false busy_cut_off h agree.0 far-silent) near-missing far-missing).0
