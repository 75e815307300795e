-- The premises are met: by two links that begin, by the worked run in which every frame is lost, and by one in which a
-- frame is lost and REJ makes it good.
use Rattle.laws_link.proofs.Vocabulary.{◌≡◌, Bool, true, false, ◌&&◌, List, [], ◌∷◌, length, refl, inr, arith, may_repeat, nat_le, and_parts, leb-true, seq, distance_of, named, supervisory_of, unnumbered_of, control_of, header_of, reading, Request, Release, after_all, Endpoint, Ends, EndStep, requests, expires, StepAt, at_near, at_far, doing, doing_all, StayUp, IsTimed, both, mended}
use Rattle.laws_link.proofs.Vocabulary.{IsNotRelease, KeepsLinkUp, KeepsLinksUp, StayAhead, IsReady, IsTaken, HasUnsent, CanRecoverFrom, HasMissing, losing, cut_off}
use Rattle.laws_link.proofs.OfTwo.Premises.{begins}
use Rattle.laws_link.proofs.OfTwo.Together.{all-stay_up}

-- a test of what goes on ahead
unfoldable pub mild_request : Request → Bool
mild_request Release = false
mild_request other = true

unfoldable pub mild_act : EndStep → Endpoint → Bool
mild_act (requests request full) n = mild_request request
mild_act (expires timer) n = may_repeat n.terms n.link
mild_act other n = true

unfoldable pub mild : StepAt → Ends → Bool
mild (at_near act) e = mild_act act e.near
mild (at_far act) e = mild_act act e.far

unfoldable pub stay_ahead : List StepAt → Ends → Bool
stay_ahead [] e = true
stay_ahead (d ∷ ds) e = nat_le e.far.link.r e.near.link.s && nat_le e.near.link.r e.far.link.s && mild d e && stay_ahead ds (doing d e)

pub by-request : (request : Request) → mild_request request ≡ true → IsNotRelease request
unfolding mild_request
by-request other e = grind arith

by-act : (act : EndStep) (n : Endpoint) → mild_act act n ≡ true → KeepsLinkUp act n
unfolding mild_act
by-act other n e = grind (arith, by-request)

by-doing : (d : StepAt) (e : Ends) → mild d e ≡ true → KeepsLinksUp d e
unfolding mild
by-doing h e h' = grind (arith, by-act)

pub by-test : (ds : List StepAt) (e : Ends) → stay_ahead ds e ≡ true → StayAhead ds e
unfolding StayAhead stay_ahead
by-test [] e h = tt
by-test (d ∷ ds) e h =
    let one = and_parts (nat_le e.far.link.r e.near.link.s && nat_le e.near.link.r e.far.link.s && mild d e) (stay_ahead ds (doing d e)) h in
    let two = and_parts (nat_le e.far.link.r e.near.link.s && nat_le e.near.link.r e.far.link.s) (mild d e) one.0 in
    let three = and_parts (nat_le e.far.link.r e.near.link.s) (nat_le e.near.link.r e.far.link.s) two.0 in (
      (leb-true e.far.link.r e.near.link.s three.0, leb-true e.near.link.r e.far.link.s three.1),
      by-doing d e two.1,
      by-test ds (doing d e) one.1,
    )

-- the run in which a frame is lost and REJ makes it good
pub mended-ahead : StayAhead mended both
unfolding seq distance_of named reading header_of control_of unnumbered_of supervisory_of after_all stay_ahead mild mild_act mild_request
mended-ahead = by-test mended both refl

-- the run in which all are lost
losing-ahead : StayAhead losing both
unfolding seq distance_of named reading header_of control_of unnumbered_of supervisory_of after_all stay_ahead mild mild_act mild_request
losing-ahead = by-test losing both refl

pub losing-up : StayUp losing both
losing-up = all-stay_up losing both begins begins refl losing-ahead

pub near-silent : CanRecoverFrom cut_off.near cut_off.far
unfolding seq distance_of named reading header_of control_of unnumbered_of supervisory_of after_all doing_all
near-silent = grind (arith, leb-true, cut_off)

pub far-silent : CanRecoverFrom cut_off.far cut_off.near
unfolding seq distance_of named reading header_of control_of unnumbered_of supervisory_of after_all doing_all
far-silent = grind (arith, leb-true, cut_off)

pub near-missing : HasMissing 3 cut_off.near cut_off.far
unfolding seq distance_of named reading header_of control_of unnumbered_of supervisory_of after_all doing_all
near-missing = leb-true (length cut_off.near.link.contents) 3 refl

-- two links that begin
pub timed : IsTimed both.near.link
unfolding seq distance_of named reading header_of control_of unnumbered_of supervisory_of after_all
timed = record { timer = inr (refl, leb-true 0 0 refl) }

pub ready : IsReady both.near
ready =
    let b = begins in
    record { ranges = b.ranges; sound = b.sound; state = b.state; peer_busy = b.peer_busy; own_busy = b.own_busy; waiting = b.waiting; way = b.way }

pub taken : IsTaken both.near both.far
unfolding seq distance_of named reading header_of control_of unnumbered_of supervisory_of after_all
taken =
    let b = begins in
    record { received = refl; delivered = refl; owed = λ less. absurd (omega (arith, less, b.a, b.s)); sizes = b.sound.sizes }

pub unsent : HasUnsent 0 both.near
unfolding seq distance_of named reading header_of control_of unnumbered_of supervisory_of after_all
unsent = leb-true (length both.near.link.contents) 0 refl
