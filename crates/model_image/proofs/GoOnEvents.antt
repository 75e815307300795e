-- Two links that are the same go on the same: every event.
use Rattle.std.proofs.Common.{arith, ◌≡◌, ℕ, zero, suc, ◌+◌, ◌-◌, ◌<◌, ◌&&◌, Bool, true, false, cond, not, List, [], ◌∷◌, length, drop, Option, Some, None, refl, sym, ap, ◌∙◌, subst, ◌≤◌}
use Rattle.std.specs.Prelude.{nat_lt, nat_le, slice_get, if◌then◌else◌}
use Rattle.std.proofs.lemmas.Bool.{and_parts, ltb-true}
use Rattle.std.proofs.lemmas.List.{length-drop}
use Rattle.lapd_seq.specs.Numbers.{seq}
use Rattle.lapd_frame.specs.declared.controls.Control.TheVariants.{Information, ReceiveReady}
use Rattle.lapd_frame.specs.declared.notes.ErrorCode.TheVariants as code
use Rattle.lapd_frame.specs.declared.refusals.Refusal.{Refusal}
use Rattle.lapd_frame.specs.declared.refusals.Refusal.TheVariants.{TooLong, QueueFull, PoolFull, WrongState}
use Rattle.model_link.specs.declared.frames.ControlFrame.{ControlFrame}
use Rattle.model_link.specs.declared.states.State.{State}
use Rattle.model_link.specs.declared.states.State.TheVariants.{TeiAssigned, AwaitingEstablishment, AwaitingRelease, Established, TimerRecovery}
use Rattle.model_link.specs.declared.timers.LinkTimer.{LinkTimer}
use Rattle.model_link.specs.declared.timers.LinkTimer.TheVariants.{T200}
use Rattle.model_link.specs.declared.terms.Terms.{Terms}
use Rattle.model_link.specs.Counts.{with_expiry, with_control_sent, with_information_sent}
use Rattle.model_link.specs.Events.{Received, frame, undefined, wrong_size, overlong, Event, received, expired, requested, offer, cleared, Request, Establish, Release, Data, SetBusy, ClearBusy}
use Rattle.model_link.specs.Link.{Link}
use Rattle.model_link.specs.Machine.{frame_in, malformed_in, expired_in, told_of_clearing, received_step, is_running, expired_step, cleared_step, step, course, given_of, told, given, after}
use Rattle.model_link.specs.Offers.{give, give_waiting, with_one_sent, may_send_information, is_established, next_information, first_unsent, send_information, is_awaiting_acknowledgement, is_pending, send_acknowledgement, offer_among, offer_step}
use Rattle.model_link.specs.MultipleFrame.{set_busy_in_7_8, clear_busy_in_7_8}
use Rattle.model_link.specs.Requests.{serves, refusal, establish_in, release_in, granted, request_step}
use Rattle.model_link.specs.Steps.{Sent, Course, Step, begun, ◌then◌, nothing, depending_on, changed}
use Rattle.model_link.specs.Told.{of_call, of_packet, runs, orders_for}
use Rattle.model_link.specs.Words.{count, command, response}
use Rattle.model_image.specs.Laws.{LinksGoOn}
use Rattle.model_link.specs.Same.{IsSameLink}
use Rattle.model_image.proofs.GoOn.{SameNumbers, Alike, Leads2, Tells, then2, nothing2, depending2, pending2, start2, data2, anew2, count2, seq-same}
use Rattle.model_image.proofs.GoOnTests.{lt-same, rows2}
use Rattle.model_image.proofs.GoOnRows.{frame2, expired2, malformed2, clearing2}

-- what depends on the state
by-state : (f : State → Step) → ((s : State) → Leads2 Alike (f s) (f s) Alike) → (c d : Course) → Alike c d → Alike (f c.link.state c) (f d.link.state d)
by-state f each c d h = subst (λ (s : State). Alike (f c.link.state c) (f s d)) h.flags.0 ((each c.link.state).leads c d h)

received-same : (t : Terms) (what : Received) (c d : Course) → Alike c d → Alike (received_step t what c) (received_step t what d)
received-same t (frame f) c d h = by-state (λ s. frame_in s t f.address.command f.info f.control) (λ s. frame2 t s f.address.command f.info f.control) c d h
received-same t undefined c d h = by-state (λ s. malformed_in s t code.L) (λ s. malformed2 t s code.L) c d h
received-same t wrong_size c d h = by-state (λ s. malformed_in s t code.N) (λ s. malformed2 t s code.N) c d h
received-same t overlong c d h = by-state (λ s. malformed_in s t code.O) (λ s. malformed2 t s code.O) c d h

running-tells : (timer : LinkTimer) → Tells Alike (is_running timer) (is_running timer)
running-tells timer = record { tells = λ c d h. ap (λ (r : Option LinkTimer). runs timer r) h.flags.7 }

expired-same : (t : Terms) (timer : LinkTimer) → Leads2 Alike (expired_step t timer) (expired_step t timer) Alike
expired-same t timer = depending2 (running-tells timer) (record { leads = by-state (λ s. count (with_expiry timer) then expired_in s timer t) (λ s. then2 (count2 (with_expiry timer)) (expired2 t s timer)) }) nothing2

cleared-same : (t : Terms) → Leads2 Alike (cleared_step t) (cleared_step t) Alike
cleared-same t = record { leads = λ c d h. anew2.leads _ _ (by-state (λ s. told_of_clearing s t) (clearing2 t) c d h) }

-- requests
release2 : (t : Terms) (here : State) → Leads2 Alike (release_in here t) (release_in here t) Alike
release2 t TeiAssigned = search rows2 depth 14 fits 6000
release2 t AwaitingEstablishment = search rows2 depth 14 fits 6000
release2 t AwaitingRelease = nothing2
release2 t Established = search rows2 depth 14 fits 6000
release2 t TimerRecovery = search rows2 depth 14 fits 6000

establish2 : (t : Terms) (here : State) → Leads2 Alike (establish_in here t) (establish_in here t) Alike
establish2 t TeiAssigned = search rows2 depth 14 fits 6000
establish2 t AwaitingEstablishment = search rows2 depth 14 fits 6000
establish2 t AwaitingRelease = nothing2
establish2 t Established = nothing2
establish2 t TimerRecovery = nothing2

set_busy2 : (t : Terms) → Leads2 Alike (set_busy_in_7_8 t) (set_busy_in_7_8 t) Alike
set_busy2 t = search rows2 depth 14 fits 6000

clear_busy2 : (t : Terms) → Leads2 Alike (clear_busy_in_7_8 t) (clear_busy_in_7_8 t) Alike
clear_busy2 t = search rows2 depth 14 fits 6000

granted-same : (t : Terms) (r : Request) → Leads2 Alike (granted t r) (granted t r) Alike
granted-same t Establish = record { leads = by-state (λ s. establish_in s t) (establish2 t) }
granted-same t Release = record { leads = by-state (λ s. release_in s t) (release2 t) }
granted-same t (Data octets) = record { leads = (data2 octets).leads }
granted-same t SetBusy = record { leads = (set_busy2 t).leads }
granted-same t ClearBusy = record { leads = (clear_busy2 t).leads }

refusal-same : (t : Terms) (pool : Bool) (r : Request) (c d : Course) → Alike c d → refusal t c.link pool r ≡ refusal t d.link pool r
refusal-same t pool Establish c d h = λ i. if serves t.reading (h.flags.0 i) (h.flags.11 i) Establish then None else Some WrongState
refusal-same t pool Release c d h = λ i. if serves t.reading (h.flags.0 i) (h.flags.11 i) Release then None else Some WrongState
refusal-same t pool SetBusy c d h = λ i. if serves t.reading (h.flags.0 i) (h.flags.11 i) SetBusy then None else Some WrongState
refusal-same t pool ClearBusy c d h = λ i. if serves t.reading (h.flags.0 i) (h.flags.11 i) ClearBusy then None else Some WrongState
refusal-same t pool (Data octets) c d h = λ i.
    if serves t.reading (h.flags.0 i) (h.flags.11 i) (Data octets)
    then (if nat_lt t.n201 (length octets) then Some TooLong else if nat_le t.queue (length (h.numbers.queue i)) then Some QueueFull else if pool then Some PoolFull else None)
    else Some WrongState

unless-same : (t : Terms) (r : Request) (c d : Course) → Alike c d → (o : Option Refusal)
    → Alike (elim o as (λ o. Course) [ None ↦ granted t r c | Some why ↦ c ]) (elim o as (λ o. Course) [ None ↦ granted t r d | Some why ↦ d ])
unless-same t r c d h None = (granted-same t r).leads c d h
unless-same t r c d h (Some why) = h

requested-same : (t : Terms) (r : Request) (pool : Bool) (c d : Course) → Alike c d → Alike (request_step t r pool c) (request_step t r pool d)
requested-same t r pool c d h =
    subst (λ (o : Option Refusal). Alike (request_step t r pool c) (elim o as (λ o. Course) [ None ↦ granted t r d | Some why ↦ d ])) (refusal-same t pool r c d h)
    (unless-same t r c d h (refusal t c.link pool r))

-- offers
give-same : (f g : ControlFrame) (o p : Option (List ℕ)) (c d : Course) → f ≡ g → o ≡ p → Alike c d → Alike (give f o c) (give g p d)
give-same f g o p c d e q h = let w = h.said in record {
  flags = h.flags;
  numbers = h.numbers;
  said = (w.0, w.1, w.2, λ i. Some (record { frame = e i; contents = q i }), w.4, w.5, w.6, w.7, w.8);
}

waiting-same : (f : ControlFrame) (fs : List ControlFrame) → Leads2 Alike (give_waiting f fs) (give_waiting f fs) Alike
waiting-same f fs = record {
  leads = λ c d h. let k = h.flags in let w = h.said in record {
    flags = (k.0, k.1, k.2, k.3, k.4, k.5, k.6, k.7, refl, k.9, ap (with_control_sent f.control) k.10, k.11);
    numbers = h.numbers;
    said = (w.0, w.1, w.2, refl, w.4, w.5, w.6, w.7, w.8);
  };
}

slice-drop : (c : List (List ℕ)) (n k : ℕ) → slice_get (drop n c) k ≡ slice_get c (n + k)
slice-drop c zero k = let same : 0 + k ≡ k = omega arith in sym (ap (λ (i : ℕ). slice_get c i) same)
slice-drop [] (suc n) k = refl
slice-drop (x ∷ c) (suc n) k = let same : suc n + k ≡ suc (n + k) = omega arith in slice-drop c n k ∙ sym (ap (λ (i : ℕ). slice_get (x ∷ c) i) same)

unsent-same : (a s r : ℕ) (c : List (List ℕ)) (a' s' r' : ℕ) (c' : List (List ℕ)) → SameNumbers a s r c a' s' r' c' → slice_get c s ≡ slice_get c' s'
unsent-same a s r c a' s' r' c' k =
    let more : ℕ = s - a in
    let one : a + more ≡ s = omega (arith, k.sent) in
    let other : a' + more ≡ s' = omega (arith, k.sent, k.sent', k.out) in
    sym (ap (λ (i : ℕ). slice_get c i) one) ∙ sym (slice-drop c a more) ∙ ap (λ (q : List (List ℕ)). slice_get q more) k.queue ∙ slice-drop c' a' more ∙ ap (λ (i : ℕ). slice_get c' i) other

lengths-same : (a s r : ℕ) (c : List (List ℕ)) (a' s' r' : ℕ) (c' : List (List ℕ)) → SameNumbers a s r c a' s' r' c' → s + length c' ≡ s' + length c
lengths-same a s r c a' s' r' c' k =
    let same : length (drop a c) ≡ length (drop a' c') = ap (λ (q : List (List ℕ)). length q) k.queue in
    omega (arith, same, length-drop a c, length-drop a' c', k.out, k.sent, k.there, k.sent', k.there')

may-tells : (t : Terms) → Tells Alike (may_send_information t) (may_send_information t)
may-tells t = record {
  tells = λ c d h.
      let k = h.numbers in
      let out : c.link.s - c.link.a ≡ d.link.s - d.link.a = omega (arith, k.out, k.sent, k.sent') in
      let unsent : nat_lt c.link.s (length c.link.contents) ≡ nat_lt d.link.s (length d.link.contents) =
      lt-same c.link.s (length c.link.contents) d.link.s (length d.link.contents) (lengths-same _ _ _ _ _ _ _ _ k) in
      λ i. is_established (h.flags.0 i) && not (h.flags.1 i) && nat_lt (out i) t.k && unsent i;
}

one-more : (c d : Course) → Alike c d → c.link.s < length c.link.contents → d.link.s < length d.link.contents
    → Alike (changed with_one_sent c) (changed with_one_sent d)
one-more c d h less less' = let f = h.flags in let k = h.numbers in record {
  flags = (f.0, f.1, f.2, f.3, f.4, f.5, f.6, f.7, f.8, ap (λ (n : ℕ). n - 1) f.9, λ i. with_information_sent (f.9 i) (f.10 i), f.11);
  numbers = record {
    va = k.va;
    out = omega (arith, k.out);
    vr = k.vr;
    queue = k.queue;
    sent = omega (arith, k.sent);
    there = omega (arith, less);
    sent' = omega (arith, k.sent');
    there' = omega (arith, less');
  };
  said = h.said;
}

awaiting-tells : Tells Alike is_awaiting_acknowledgement is_awaiting_acknowledgement
awaiting-tells = record { tells = λ c d h. ap (λ (r : Option LinkTimer). runs T200 r) h.flags.7 }

pending-tells : Tells Alike is_pending is_pending
pending-tells = record { tells = λ c d h. h.flags.4 }

last-of : (a b x y : Bool) → (a && b && x && y) ≡ true → y ≡ true
last-of a b x y e = grind (arith, and_parts, e)

unsent : (t : Terms) (l : Link) → may_send_information t l ≡ true → l.s < length l.contents
unsent t l e = ltb-true l.s (length l.contents) (last-of (is_established l.state) (not l.peer_busy) (nat_lt (l.s - l.a) t.k) (nat_lt l.s (length l.contents)) e)

information-same : (c d : Course) → Alike c d → c.link.s < length c.link.contents → d.link.s < length d.link.contents → Alike (send_information c) (send_information d)
information-same c d h less less' =
    let k = h.numbers in
    let ns : seq c.link.s ≡ seq d.link.s = seq-same c.link.s d.link.s (omega (arith, k.va, k.out, k.sent, k.sent')) in
    let nr : seq c.link.r ≡ seq d.link.r = seq-same c.link.r d.link.r k.vr in
    let first = give-same (next_information c.link) (next_information d.link) (first_unsent c.link) (first_unsent d.link) c d
    (λ i. command (Information (ns i) (nr i) false)) (unsent-same _ _ _ _ _ _ _ _ k) h in
    (then2 (pending2 false) (depending2 awaiting-tells nothing2 (start2 T200))).leads _ _ (one-more _ _ first less less')

acknowledged-same : Leads2 Alike send_acknowledgement send_acknowledgement Alike
acknowledged-same = record {
  leads = λ c d h.
      let nr : seq c.link.r ≡ seq d.link.r = seq-same c.link.r d.link.r h.numbers.vr in
      (pending2 false).leads _ _ (give-same _ _ None None c d (λ i. response (ReceiveReady (nr i) false)) refl h);
}

rest-same : Leads2 Alike (depending_on is_pending send_acknowledgement nothing) (depending_on is_pending send_acknowledgement nothing) Alike
rest-same = depending2 pending-tells acknowledged-same nothing2

either-same : (t : Terms) (c d : Course) → Alike c d → (b : Bool) → may_send_information t c.link ≡ b → may_send_information t d.link ≡ b
    → Alike (cond b (send_information c) (depending_on is_pending send_acknowledgement nothing c)) (cond b (send_information d) (depending_on is_pending send_acknowledgement nothing d))
either-same t c d h true e e' = information-same c d h (unsent t c.link e) (unsent t d.link e')
either-same t c d h false e e' = rest-same.leads c d h

among-same : (t : Terms) (ws : List ControlFrame) (c d : Course) → Alike c d → Alike (offer_among t ws c) (offer_among t ws d)
among-same t (f ∷ fs) c d h = (waiting-same f fs).leads c d h
among-same t [] c d h =
    let test = (may-tells t).tells c d h in
    subst (λ (b : Bool). Alike (offer_among t [] c) (cond b (send_information d) (depending_on is_pending send_acknowledgement nothing d))) test
    (either-same t c d h (may_send_information t c.link) refl (sym test))

offered-same : (t : Terms) (c d : Course) → Alike c d → Alike (offer_step t c) (offer_step t d)
offered-same t c d h = subst (λ (ws : List ControlFrame). Alike (offer_step t c) (offer_among t ws d)) h.flags.8 (among-same t c.link.waiting c d h)

-- any event
event-same : (t : Terms) (e : Event) (c d : Course) → Alike c d → Alike (step t e c) (step t e d)
event-same t (received what) c d h = received-same t what c d h
event-same t (expired timer) c d h = (expired-same t timer).leads c d h
event-same t (requested r pool) c d h = requested-same t r pool c d h
event-same t offer c d h = offered-same t c d h
event-same t cleared c d h = (cleared-same t).leads c d h

-- Two links that are the same, each with its numbers in order.
pub record IsAlike (l m : Link) : Type 0 where
  pub same : IsSameLink l m
  pub sent : l.a ≤ l.s
  pub there : l.s ≤ length l.contents
  pub sent' : m.a ≤ m.s
  pub there' : m.s ≤ length m.contents

begun-same : (l m : Link) → IsAlike l m → Alike (begun l) (begun m)
begun-same l m alike = let same = alike.same in record {
  flags = (same.state, same.peer_busy, same.own_busy, same.rejecting, same.pending, same.asked, same.repeats, same.running, same.waiting, same.again, same.counts, same.owed);
  numbers = record {
    va = same.va;
    out = omega (arith, same.sent, alike.sent, alike.sent');
    vr = same.vr;
    queue = same.queue;
    sent = alike.sent;
    there = alike.there;
    sent' = alike.sent';
    there' = alike.there';
  };
  said = (refl, refl, refl, refl, refl, refl, refl, refl, refl);
}

alike-again : (c d : Course) → Alike c d → IsAlike c.link d.link
alike-again c d h = let f = h.flags in let k = h.numbers in record {
  same = record {
    state = f.0;
    va = k.va;
    sent = omega (arith, k.out, k.sent, k.sent');
    vr = k.vr;
    again = f.9;
    queue = k.queue;
    peer_busy = f.1;
    own_busy = f.2;
    rejecting = f.3;
    pending = f.4;
    asked = f.5;
    repeats = f.6;
    running = f.7;
    waiting = f.8;
    counts = f.10;
    owed = f.11;
  };
  sent = k.sent;
  there = k.there;
  sent' = k.sent';
  there' = k.there';
}

given-same : (t : Terms) (l m : Link) (c d : Course) → l.running ≡ m.running → Alike c d → (o : Option Sent) → given_of t l c o ≡ given_of t m d o
given-same t l m c d e h None = refl
given-same t l m c d e h (Some sent) = λ i. Some (record { frame = sent.frame; contents = sent.contents; orders = orders_for t (e i) (h.said.4 i) (h.flags.7 i) })

pub told-same : (t : Terms) (e : Event) (l m : Link) → IsAlike l m → told t e l ≡ told t e m
told-same t e l m alike =
    let ends : Alike (course t e l) (course t e m) = event-same t e (begun l) (begun m) (begun-same l m alike) in
    let w = ends.said in
    λ i. record { notes = w.0 i; delivered = w.1 i; unit = w.2 i; orders = orders_for t (alike.same.running i) (w.4 i) (ends.flags.7 i); lost = w.5 i; given_up = of_call t.service (w.8 i); given_up_16 = of_packet t.service (w.8 i); unserved = w.6 i }

pub offers-same : (t : Terms) (l m : Link) → IsAlike l m → given t l ≡ given t m
offers-same t l m alike =
    let offers : Alike (course t offer l) (course t offer m) = event-same t offer (begun l) (begun m) (begun-same l m alike) in
    given-same t l m (course t offer l) (course t offer m) alike.same.running offers (course t offer l).sent ∙ ap (λ (o : Option Sent). given_of t m (course t offer m) o) offers.said.3

pub after-same : (t : Terms) (e : Event) (l m : Link) → IsAlike l m → IsAlike (after t e l) (after t e m)
after-same t e l m alike = alike-again (course t e l) (course t e m) (event-same t e (begun l) (begun m) (begun-same l m alike))

-- as the law says it
pub links_go_on : LinksGoOn
links_go_on t e l m sound also same =
    let alike : IsAlike l m = record { same = same; sent = sound.ordered; there = sound.accepted; sent' = also.ordered; there' = also.accepted } in
    record { told = told-same t e l m alike; given = offers-same t l m alike; after = (after-same t e l m alike).same }
