-- The premises of the law are met by the worked run.
use Rattle.laws_order.proofs.Vocabulary.{◌≡◌, ℕ, true, List, [], ◌∷◌, ◌++◌, refl, sym, arith, All, list_any, leb-true, All-nil, All-cons, Service, Call, Packet, exchanged, reading, side_reading, header_of, control_of, unnumbered_of, supervisory_of, distance_of, named, seq, Assign, request, IsFront, calling, Wire, requests, at, step, IsElsewhere, AnyStepAt}
use Rattle.laws_order.proofs.Vocabulary.{◌≤◌, any_near, any_far}
use Rattle.laws_order.proofs.Vocabulary.{IsPossible, any_doing_all, seen_near, seen_far, t200s, IsToldAtLast, IsNotDeactivated, data_noted, data_granted, ends_by, known, IsInStep, FaceInStep, kept_by, StaysEstablished, IsToldOfRelease, NoCall, IsNotCalled, called as is_rung, Profile, NoteReleaseConfirm, subst, news, tei_refusal, tei_course, releases, released, takes_two, far_lasts, awaits}
use Rattle.laws_order.proofs.Vocabulary.{both_release, both_begin_nothing, own_side, heard_side}
use Rattle.laws_wire.specs.Wire.{acting, at_far, doing, doing_all}
use Rattle.model_line.specs.Config.{sapi_fault}
use Rattle.model_line.specs.Line.{tries}
use Rattle.model_line.specs.Machine as lines
use Rattle.model_line.specs.Request.{SetBusy}
use Rattle.laws_order.specs.Worked.{network, user, faces, calls_both, others_speak, both_send, is_busy, goes_again, busy_run, call_far as far_stays, owes, sends_one, sends_more, more_far_stays, busy_waits, clears, cleared_stays, enquires, asks_state, recovers, recovered_stays, early, loses_first, early_stays}
use Rattle.laws_order.specs.WorkedInTheEnd.{four_tries, gives_up, four_expire, gives_up_quietly, goes_on_to_the_end, comes_quietly, comes_there, comes_confirmed}
use Rattle.laws_order.proofs.InTheEnd.{releases-are-told, both-are-told}
use Rattle.laws_order.proofs.Ordered.{delivered-in-order}
use Rattle.laws_order.proofs.Beginning.{Pasts, past-acted, past-done, past-all, past-calling, link_known, step-known}
use Rattle.laws_order.proofs.Released.{releases-end}

called : Pasts (calling Call 0 user 0 network 0)
unfolding sapi_fault
called = past-calling Call 0 user 0 network 0 refl (omega arith) refl (omega arith)

pasts : Pasts faces
pasts = past-all calls_both (calling Call 0 user 0 network 0) called

-- What the law says of the far end of a wire, where it is computed that both are in step.
abbrev FarInOrder : (w : Wire) → Pasts w → List AnyStepAt → Type 0
FarInOrder w h hs = IsFront (data_noted Call 0 (seen_far hs w)) (kept_by (known Call 0 w.near h.near) (known Call 0 w.far h.far) ++ data_granted Call 0 (seen_near hs w))

-- What of two ends in step computes.
record Looks (service : Service) (w : Wire) : Type 0 where
  near : IsInStep service 0 w.near (link_known service 0 w.near) (link_known service 0 w.far)
  far : IsInStep service 0 w.far (link_known service 0 w.far) (link_known service 0 w.near)
  sides : own_side w.far.card.config ≡ heard_side w.near.card.config

looks-so : (service : Service) (w : Wire) (h : Pasts w) → Looks service w → FaceInStep service 0 w (known service 0 w.near h.near) (known service 0 w.far h.far)
looks-so service w h x = step-known service 0 w h.near h.far (x.near, x.far, x.sides)

told-in-order : (w : Wire) (h : Pasts w) (hs : List AnyStepAt) → Looks Call w → All (IsPossible Call 0 w) hs → StaysEstablished Call 0 (seen_far hs w) → FarInOrder w h hs
told-in-order w h hs x all stays = (delivered-in-order Call 0 w h.near h.far hs (looks-so Call w h x) all).1 stays

call-looks : Looks Call faces
unfolding lines.after lines.answer lines.takes_slot exchanged reading side_reading header_of control_of unnumbered_of supervisory_of tei_course tei_refusal seq distance_of named doing_all
call-looks = grind (arith, leb-true)

packet-looks : Looks Packet faces
unfolding lines.after lines.answer lines.takes_slot exchanged reading side_reading header_of control_of unnumbered_of supervisory_of tei_course tei_refusal seq distance_of named doing_all
packet-looks = grind (arith, leb-true)

packet-in-step : FaceInStep Packet 0 faces (known Packet 0 faces.near pasts.near) (known Packet 0 faces.far pasts.far)
packet-in-step = looks-so Packet faces pasts packet-looks

abbrev IsOpen : Wire → AnyStepAt → Type 0
IsOpen w h = IsPossible Call 0 w h

abbrev ArePossible : Wire → List AnyStepAt → Type 0
ArePossible w [] = Unit {0}
ArePossible w (h ∷ hs) = IsOpen w h × ArePossible w hs

all-of : (w : Wire) (hs : List AnyStepAt) → ArePossible w hs → All (IsOpen w) hs
all-of w [] h = All-nil (IsOpen w)
all-of w (x ∷ hs) h = All-cons (IsOpen w) x hs h.0 (all-of w hs h.1)

at-the-other-line : IsElsewhere faces.far (at 1 (request (Assign 5)))
unfolding lines.after lines.answer lines.takes_slot exchanged reading side_reading header_of control_of unnumbered_of supervisory_of tei_course tei_refusal seq distance_of named doing_all
at-the-other-line = (leb-true 2 2 refl, λ same. let e : ◌≡◌ {A = ℕ} 1 0 = same in absurd (omega (arith, e)))

others-are : ArePossible faces others_speak
unfolding lines.after lines.answer lines.takes_slot exchanged reading side_reading header_of control_of unnumbered_of supervisory_of tei_course tei_refusal seq distance_of named doing_all
others-are = (refl, (refl, (refl, tt)))

both : (w : Wire) (hs ks : List AnyStepAt) → ArePossible w hs → ArePossible w ks → ArePossible w (hs ++ ks)
both w [] ks h k = k
both w (x ∷ hs) ks h k = (h.0, both w hs ks h.1 k)

then-are : ArePossible faces (both_send ++ is_busy ++ goes_again)
then-are = (tt, (tt, (tt, (tt, (tt, (tt, (at-the-other-line, (tt, (tt, (tt, (tt, (tt, (tt, (tt, (tt, (tt, (tt, (tt, (tt, (tt, (tt, (tt, (tt, (tt, (tt, (tt, (tt, (tt, (tt, (tt, (tt, (tt, (tt, (tt, (tt, (tt, (tt, (tt, (tt, (tt, (tt, (tt, tt))))))))))))))))))))))))))))))))))))))))))

possible : All (IsOpen faces) busy_run
possible = all-of faces busy_run (both faces others_speak (both_send ++ is_busy ++ goes_again) others-are then-are)

-- so the law says what the worked values show
call-in-order : FarInOrder faces pasts busy_run
call-in-order = told-in-order faces pasts busy_run call-looks possible far_stays

-- Runs in which only frames, timers and requests come.
abbrev OnlyActs : List AnyStepAt → Type 0
OnlyActs [] = Unit {0}
OnlyActs (any_near (step act) ∷ hs) = OnlyActs hs
OnlyActs (any_far (step act) ∷ hs) = OnlyActs hs
OnlyActs (h ∷ hs) = ⊥

all-happened : (hs : List AnyStepAt) → OnlyActs hs → (w : Wire) → Pasts w → Pasts (any_doing_all hs w)
unfolding any_doing_all
all-happened [] only w h = h
all-happened (any_near (step act) ∷ hs) only w h = all-happened hs only (acting act w) (past-acted act w h)
all-happened (any_far (step act) ∷ hs) only w h = all-happened hs only (doing (at_far act) w) (past-done (at_far act) w h)
all-happened other only w h = absurd only

acts-possible : (w : Wire) (hs : List AnyStepAt) → OnlyActs hs → All (IsOpen w) hs
acts-possible w [] only = All-nil (IsOpen w)
acts-possible w (any_near (step act) ∷ hs) only = All-cons (IsOpen w) (any_near (step act)) hs tt (acts-possible w hs only)
acts-possible w (any_far (step act) ∷ hs) only = All-cons (IsOpen w) (any_far (step act)) hs tt (acts-possible w hs only)
acts-possible w other only = absurd only

-- and in the midst of data: where something is received that is not acknowledged, and the N(R) on the other way is from before
owing-looks : Looks Call owes
unfolding lines.after lines.answer lines.takes_slot exchanged reading side_reading header_of control_of unnumbered_of supervisory_of tei_course tei_refusal seq distance_of named doing_all any_doing_all
owing-looks = grind (arith, leb-true)

more-in-order : FarInOrder owes (all-happened sends_one tt faces pasts) sends_more
more-in-order = told-in-order owes (all-happened sends_one tt faces pasts) sends_more owing-looks (acts-possible owes sends_more tt) more_far_stays

-- and where an RNR waits
abbrev own_busy : List AnyStepAt
own_busy = any_far (step (requests (SetBusy Call 0))) ∷ []

busy-looks : Looks Call busy_waits
unfolding lines.after lines.answer lines.takes_slot exchanged reading side_reading header_of control_of unnumbered_of supervisory_of tei_course tei_refusal seq distance_of named doing_all any_doing_all
busy-looks = grind (arith, leb-true)

cleared-in-order : FarInOrder busy_waits (all-happened own_busy tt faces pasts) clears
cleared-in-order = told-in-order busy_waits (all-happened own_busy tt faces pasts) clears busy-looks (acts-possible busy_waits clears tt) cleared_stays

-- and where one end recovers, in state 8
asking-looks : Looks Call enquires
unfolding lines.after lines.answer lines.takes_slot exchanged reading side_reading header_of control_of unnumbered_of supervisory_of tei_course tei_refusal seq distance_of named doing_all any_doing_all
asking-looks = grind (arith, leb-true)

asked-in-order : FarInOrder enquires (all-happened asks_state tt faces pasts) recovers
asked-in-order = told-in-order enquires (all-happened asks_state tt faces pasts) recovers asking-looks (acts-possible enquires recovers tt) recovered_stays

-- and where I-frames are on their way behind UA
early-looks : Looks Call early
unfolding lines.after lines.answer lines.takes_slot exchanged reading side_reading header_of control_of unnumbered_of supervisory_of tei_course tei_refusal seq distance_of named doing_all any_doing_all
early-looks = grind (arith, leb-true)

early-pasts : Pasts early
early-pasts = past-all _ (calling Call 0 user 0 network 0) called

early-in-order : IsFront (data_noted Call 0 (seen_near loses_first early))
    (kept_by (known Call 0 early.far early-pasts.far) (known Call 0 early.near early-pasts.near) ++ data_granted Call 0 (seen_far loses_first early))
early-in-order =
    (delivered-in-order Call 0 early early-pasts.near early-pasts.far loses_first (looks-so Call early early-pasts early-looks) (acts-possible early loses_first tt)).0 early_stays

-- and where the near end releases its link in the midst of data: of the far end up to its indication, and of both from there on
cut-in-order : FarInOrder faces pasts (releases ++ takes_two)
cut-in-order = told-in-order faces pasts (releases ++ takes_two) call-looks (acts-possible faces (releases ++ takes_two) tt) far_lasts

its-reading : released.near.card.config.reading ≡ Profile
unfolding lines.after lines.answer lines.takes_slot exchanged reading side_reading header_of control_of unnumbered_of supervisory_of tei_course tei_refusal seq distance_of named doing_all any_doing_all
its-reading = refl

uncalled : (hs : List AnyStepAt) → IsNotCalled Call 0 hs released
uncalled hs = subst (λ r. NoCall r (is_rung Call 0 hs released)) (sym its-reading) tt

release-told : IsToldOfRelease Call 0 (news released.near.card.config.reading Call 0 (seen_near both_release released))
release-told =
    (releases-end Call 0 released both_release (all-happened releases tt faces pasts).near awaits (acts-possible released both_release tt) both_begin_nothing (uncalled both_release)).0

-- and it is told in the end: where each DISC is lost, and where the other end was told before
told-at-last : IsToldAtLast Call 0 (news released.near.card.config.reading Call 0 (seen_near gives_up released))
told-at-last =
    let many : tries released.near.card.config ≤ t200s Call 0 gives_up released = omega (arith, four_tries, four_expire) in
    releases-are-told Call 0 released gives_up (all-happened releases tt faces pasts).near awaits (acts-possible released gives_up tt) gives_up_quietly (uncalled gives_up) many

abbrev AreActive : List AnyStepAt → Type 0
AreActive [] = Unit {0}
AreActive (h ∷ hs) = IsNotDeactivated Call 0 h × AreActive hs

all-active : (hs : List AnyStepAt) → AreActive hs → All (IsNotDeactivated Call 0) hs
all-active [] h = All-nil (IsNotDeactivated Call 0)
all-active (x ∷ hs) h = All-cons (IsNotDeactivated Call 0) x hs h.0 (all-active hs h.1)

first-lasts : StaysEstablished Call 0 (seen_far releases faces)
unfolding lines.after lines.answer lines.takes_slot exchanged reading side_reading header_of control_of unnumbered_of supervisory_of tei_course tei_refusal seq distance_of named doing_all any_doing_all seen_far
first-lasts = refl

both-told : list_any (ends_by Call 0) (seen_far goes_on_to_the_end released) ≡ true
both-told =
    both-are-told Call 0 faces pasts.near pasts.far releases goes_on_to_the_end (looks-so Call faces pasts call-looks) (acts-possible faces releases tt) first-lasts awaits (acts-possible released goes_on_to_the_end tt)
    (comes_there, all-active goes_on_to_the_end (tt, (tt, (tt, (tt, (tt, (tt, (tt, tt)))))))) comes_quietly
    (subst (λ r. news r Call 0 (seen_near goes_on_to_the_end released) ≡ NoteReleaseConfirm Call 0 ∷ []) (sym its-reading) comes_confirmed)
