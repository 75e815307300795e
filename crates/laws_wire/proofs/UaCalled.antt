-- The link of the end that is called, before its caller is up: it has received nothing but SABME.
use Rattle.laws_wire.proofs.Vocabulary.{◌≡◌, ℕ, ◌+◌, ◌≤◌, Bool, true, false, cond, ◌||◌, IsTrue, List, [], ◌∷◌, ◌++◌, Option, None, Some, refl, sym, ap, subst, ◌∙◌, ◌⊎◌, inl, inr, append_assoc, eqb-true, ne_eqb, arith, flat_map, list_any, All, All-head, front_rest, Refusal, Parts, State, Established, TimerRecovery, Sabme, LinkTimer, T203, ControlFrame, Terms, Link, is_multiple_frame, may_repeat}
use Rattle.laws_wire.proofs.Vocabulary.{has_outstanding, received}
use Rattle.laws_wire.proofs.Vocabulary.{requested, expired, offer, course, given, given_of, is_running, begun, frame_given, IsInRange, IsWaitingFrame, LinkEndpoint, frame_of, frames_of, frames-append, kinds-append, has_room, Reports, still, at-first, offer-gave, Calm, Kind, enquiry, report, kind_of, kinds_of, tally, tally-push, one_enquiry, one_answer, one_rejection, line, most, is_recovering}
use Rattle.laws_wire.proofs.Vocabulary.{Sane, frame, after, Course}
use Rattle.laws_wire.proofs.Vocabulary.{◌then◌, for_layer_3, LinkClearBusy, LinkEvent, LinkRequest, LinkSetBusy, F, granted, refusal, error_f, renewed, carried-reports, rising-reports, timer-stays, timed-after, heeds-after, expires-goes, IsSound, is_information, Every, every-push, Behind, calm-rise, Grown, IsNotRelease, LinkData, asks-went, no-reports, request-stays}
use Rattle.model_link.specs.Link.{most_rc}
use Rattle.model_link.specs.Counts.{with_establishment}
use Rattle.model_link.specs.Machine
use Rattle.model_link.specs.Offers
use Rattle.model_link.specs.Words
use Rattle.model_link.proofs.Facing.{AreReports, IsReport, set_busy_up, clear_busy_up, reports-push}
use Rattle.laws_wire.proofs.Calling.{end, its_ua, sabme}
use Rattle.laws_wire.proofs.Joint.{Goes, by-up, stays, timer-goes}
use Rattle.laws_wire.proofs.Loose.{Loose}
use Rattle.laws_wire.proofs.Ringing.{answered, Tries}
use Rattle.laws_wire.proofs.Speaking.{said_by}
use Rattle.laws_wire.proofs.TimelyFirst.{loose-first, near-ready}
use Rattle.laws_wire.proofs.Fair.{or-true}

pub sane-after : (t : Terms) (e : LinkEvent) (l : Link) → Sane l → Sane (after t e l)
sane-after t e l h = record { timed = timed-after t e l h.timed; heeds = heeds-after t e l h.heeds }

-- ---- what requests and timers do to a link that is up

-- At most one frame more waits: a report, or an enquiry in state 8, which is asked only where nothing is open.
abbrev pub Grows : Type 0 → Link → Link → Type 0
Grows Free l l' =
    ((l'.waiting ≡ l.waiting) × (most (is_recovering l.state) ≤ most (is_recovering l'.state)))
    ⊎ ((f : ControlFrame) × (l'.waiting ≡ l.waiting ++ f ∷ []) × (kind_of f.command f.control ≡ report) × (l'.state ≡ l.state))
    ⊎ ((f : ControlFrame) × (l'.waiting ≡ l.waiting ++ f ∷ []) × (kind_of f.command f.control ≡ enquiry) × (l'.state ≡ TimerRecovery) × (l.state ≡ TimerRecovery → Free))

pub record Stirs (Free : Type 0) (l l' : Link) : Type 0 where
  pub up : IsTrue (is_multiple_frame l'.state)
  pub a : l'.a ≡ l.a
  pub s : l'.s ≡ l.s
  pub r : l'.r ≡ l.r
  pub rejecting : l'.rejecting ≡ l.rejecting
  pub sane : Sane l'
  pub reports : Reports l.r l.waiting l'.waiting
  pub grown : Grows Free l l'

module _ (t : Terms) (l : Link) (up : IsTrue (is_multiple_frame l.state)) (sane : Sane l) (Free : Type 0) where
  -- own busy begins or ends
  by-refusal : (rq : LinkRequest) (o : Option Refusal) → Goes l (granted t rq (begun l)).link [] → Goes l (elim o as (λ o. Course) [ None ↦ granted t rq (begun l) | Some _ ↦ begun l ]).link []
  by-refusal rq o g = grind (arith, stays)

  busy-goes : Goes l (after t (requested LinkSetBusy false) l) []
  busy-goes =
      by-refusal LinkSetBusy (refusal t l false LinkSetBusy)
      (by-up t l _ ((set_busy_up t l {S = still l.s}).leads (begun l) (at-first t l)) (grind arith))

  ready-goes : Goes l (after t (requested LinkClearBusy false) l) []
  ready-goes =
      by-refusal LinkClearBusy (refusal t l false LinkClearBusy)
      (by-up t l _ ((clear_busy_up t l {S = still l.s}).leads (begun l) (at-first t l)) (grind arith))

  -- so it goes on as layer 3 asks
  request-stirs : (rq : LinkRequest) → IsNotRelease rq → Goes l (after t (requested rq false) l) [] → Stirs Free l (after t (requested rq false) l)
  request-stirs rq mild g = grind (arith, asks-went, request-stays, sane-after, Grown, is_recovering)

  pub busy-stirs : Stirs Free l (after t (requested LinkSetBusy false) l)
  busy-stirs = request-stirs LinkSetBusy tt busy-goes

  pub ready-stirs : Stirs Free l (after t (requested LinkClearBusy false) l)
  ready-stirs = request-stirs LinkClearBusy tt ready-goes

  pub data-stirs : (octets : List ℕ) → Stirs Free l (after t (requested (LinkData octets) false) l)
  data-stirs octets = grind (arith, sane-after, no-reports)

  -- a timer
  module _ (timer : LinkTimer) (can : l.state ≡ TimerRecovery → is_running timer l ≡ true → may_repeat t l ≡ true) (free : l.state ≡ TimerRecovery → is_running timer l ≡ true → Free) where
    pub timer-stirs : Stirs Free l (after t (expired timer) l)
    timer-stirs = grind (arith, stays, timer-stays, expires-goes, timer-goes, is_recovering, sane-after)

-- ---- UA waits, and this behind it: reports, and in state 8 an enquiry; no I-frame went

abbrev IsIdle : Kind → Type 0
IsIdle k = Calm k × (one_answer k + one_rejection k ≡ 0)

pub record Poised (t : Terms) (l : Link) (post : List ControlFrame) : Type 0 where
  pub up : IsTrue (is_multiple_frame l.state)
  pub a : l.a ≡ 0
  pub s : l.s ≡ 0
  pub r : l.r ≡ 0
  pub rejecting : l.rejecting ≡ false
  pub sane : Sane l
  pub reports : AreReports 0 post
  pub idle : Every IsIdle (line t [] post)
  pub one : tally one_enquiry (line t [] post) ≤ most (is_recovering l.state)

pub record PoisedOn (t : Terms) (l : Link) (first : List ControlFrame) : Type 0 where
  pub post : List ControlFrame
  pub waiting : l.waiting ≡ first ++ post
  pub poised : Poised t l post

one-report : (r : ℕ) (before after : List ControlFrame) (f : ControlFrame) → after ≡ before ++ f ∷ [] → Reports r before after → IsReport r f.control
one-report r before after f e h =
    let same : h.news ≡ f ∷ [] = sym (front_rest after before h.news h.more) ∙ front_rest after before (f ∷ []) e in
    (subst (AreReports r) same h.are).0

module _ (t : Terms) (l l' : Link) (first post : List ControlFrame) (Free : Type 0) (waits : l.waiting ≡ first ++ post) (h : Poised t l post) (x : Stirs Free l l')
    (none : Free → tally one_enquiry (line t [] post) ≡ 0) where
  abbrev ks : List Kind
  ks = line t [] post

  pushed : (f : ControlFrame) (k : Kind) → l'.waiting ≡ l.waiting ++ f ∷ [] → kind_of f.command f.control ≡ k → IsIdle k → tally one_enquiry ks + one_enquiry k ≤ most (is_recovering l'.state)
      → PoisedOn t l' first
  pushed f k e is idle few =
      let longer : line t [] (post ++ f ∷ []) ≡ ks ++ k ∷ [] =
      ap kinds_of (frames-append t post (f ∷ [])) ∙ kinds-append (frames_of t post) (frame_of t f ∷ []) ∙ ap (λ y. ks ++ y ∷ []) is in
      let more : tally one_enquiry (ks ++ k ∷ []) ≡ tally one_enquiry ks + one_enquiry k = tally-push one_enquiry ks k in
      record {
        post = post ++ f ∷ [];
        waiting = e ∙ ap (λ ws. ws ++ f ∷ []) waits ∙ append_assoc first post (f ∷ []);
        poised = record {
          up = x.up;
          a = x.a ∙ h.a;
          s = x.s ∙ h.s;
          r = x.r ∙ h.r;
          rejecting = x.rejecting ∙ h.rejecting;
          sane = x.sane;
          reports = reports-push 0 post f (subst (λ r. IsReport r f.control) h.r (one-report l.r l.waiting l'.waiting f e x.reports)) h.reports;
          idle = subst (Every IsIdle) (sym longer) (every-push IsIdle ks k h.idle idle);
          one = subst (λ xs. tally one_enquiry xs ≤ most (is_recovering l'.state)) (sym longer) (omega (arith, more, few));
        };
      }

  by-grown : Grows Free l l' → PoisedOn t l' first
  by-grown (inl (same, le)) = grind (arith, one_enquiry, is_recovering)
  by-grown (inr (inl (f, e, k, state))) =
      let one : tally one_enquiry ks ≤ most (is_recovering l'.state) = subst (λ z. tally one_enquiry ks ≤ most (is_recovering z)) (sym state) h.one in
      pushed f report e k (tt, refl) (omega (arith, one))
  by-grown (inr (inr (f, e, k, state, free))) =
      pushed f enquiry e k (tt, refl)
      (subst (λ z. tally one_enquiry ks + 1 ≤ most (is_recovering z)) (sym state) (let nothing : tally one_enquiry ks ≡ 0 = open-none l.state refl in omega (arith, nothing)))
    where
      open-none : (here : State) → l.state ≡ here → tally one_enquiry ks ≡ 0
      open-none o e = grind arith

  pub poised-on : PoisedOn t l' first
  poised-on = by-grown x.grown

-- ---- as UA goes, the two ends are as those that are up

no-others : (xs : List Kind) → Every IsIdle xs → tally one_answer xs + tally one_rejection xs ≡ 0
no-others [] h = refl
no-others (x ∷ xs) h = let here = h.0.1 in let rest = no-others xs h.1 in omega (arith, here, rest)

all-calm : (xs : List Kind) → Every IsIdle xs → Every Calm xs
all-calm [] h = tt
all-calm (x ∷ xs) h = (h.0.0, all-calm xs h.1)

behind-calm : (ks : List Kind) → Every Calm ks → Behind one_enquiry Calm ks
behind-calm [] h = tt
behind-calm (k ∷ ks) h = (λ some. h.1, behind-calm ks h.1)

module _ (t u : Terms) (rt : IsInRange t) (ru : IsInRange u) (same : t.n201 ≡ u.n201) (k : Tries) (few : k.repeats ≤ most_rc t) (l : Link) (post : List ControlFrame) (waits : l.waiting ≡ post) (sound : IsSound u l)
    (h : Poised u l post) where
  abbrev n : LinkEndpoint
  n = end t (answered k []) []

  abbrev kinds : List Kind
  kinds = line u [] post

  pub loose-plain : Loose n (end u (record l { a = 0; s = 0; r = 0; rejecting = false; waiting = post }) [])
  loose-plain =
      let others = no-others kinds h.idle in
      let calm = all-calm kinds h.idle in
      record {
        joined = record {
          near_ranges = rt;
          far_ranges = ru;
          near_sound = (near-ready t u rt ru same k few).sound;
          far_sound = subst (IsSound u) (sym (λ i. record l { a = sym h.a i; s = sym h.s i; r = sym h.r i; rejecting = sym h.rejecting i; waiting = sym waits i })) sound;
          near_up = refl;
          far_up = h.up;
          there = record { carried = omega arith; rising = rising-reports u 0 0 [] post h.reports (omega arith); delivered = refl; accepted = omega arith };
          back = record { carried = carried-reports u l.contents (0 + u.k) 0 0 [] post h.reports (omega arith); rising = omega arith; delivered = refl; accepted = omega arith };
        };
        same = same;
        there = grind (arith, answered);
        back = grind (arith, calm-rise, behind-calm);
        near_sane = (loose-first t u rt ru same k few).near_sane;
        far_sane = subst Sane (sym (λ i. record l { a = sym h.a i; s = sym h.s i; r = sym h.r i; rejecting = sym h.rejecting i; waiting = sym waits i })) h.sane;
      }

  pub loose-poised : Loose n (end u l [])
  loose-poised = subst (λ x. Loose n (end u x [])) (λ i. record l { a = sym h.a i; s = sym h.s i; r = sym h.r i; rejecting = sym h.rejecting i; waiting = sym waits i }) loose-plain

-- ---- SABME comes again

-- The link as SABME leaves it: UA waits, where there is room, and contents that it had sent are given up, with all others.
abbrev pub again : Bool → List (List ℕ) → Link → Link
again room contents l = record l {
  state = Established;
  contents = contents;
  a = 0;
  s = 0;
  r = 0;
  again = 0;
  peer_busy = false;
  own_busy = false;
  rejecting = false;
  pending = false;
  running = Some T203;
  waiting = cond room (l.waiting ++ its_ua ∷ []) l.waiting;
  counts = with_establishment l.counts;
}

pub record Renews (t : Terms) (l : Link) (sent : Bool) (x : Course) : Type 0 where
  pub link : x.link ≡ again (has_room t l) (cond sent [] l.contents) l
  pub told : flat_map for_layer_3 (said_by x) ≡ cond sent (renewed t.service t.tei) (error_f t.service t.tei) ∷ []
  pub delivered : x.delivered ≡ None

module _ (t u : Terms) (l : Link) (up : IsTrue (is_multiple_frame l.state)) (zero : l.a ≡ 0) where
  abbrev first : Course
  first = (Words.send t (Words.response (Rattle.lapd_frame.specs.declared.controls.Control.TheVariants.Ua true)) then Words.clear_flags then Words.error t F) (begun l)

  abbrev last : Bool → Course
  last b = (Words.zero_numbers then Words.start T203 then Words.enter Established) (cond b ((Words.discard then Words.establish_indication t) first) first)

  by-sabme : (here : State) → IsTrue (is_multiple_frame here) → Machine.frame_in here t true [] (Sabme true) (begun l) ≡ last (has_outstanding l)
  by-sabme here is = grind arith

  pub renews : Renews t l (has_outstanding l) (course t (received (frame (sabme u))) l)
  renews = subst (Renews t l (has_outstanding l)) (sym (by-sabme l.state up)) (grind (arith, eqb-true))

-- ---- what it gives

abbrev pub informs : List Parts → Bool
informs fs = list_any (λ (f : Parts). is_information f.control) fs

module _ (t : Terms) (l : Link) (sound : IsSound t l) where
  abbrev Informs : Course → Type 0
  Informs c =
      ((informs (frame_given t (given_of t l c c.sent)) ≡ false) × (c.link.s ≡ l.s))
      ⊎ ((informs (frame_given t (given_of t l c c.sent)) ≡ true) × (c.link.s ≡ l.s + 1))

  by-waiting : (ws : List ControlFrame) → l.waiting ≡ ws → Informs (Offers.offer_among t ws (begun l))
  by-waiting [] e = grind arith
  by-waiting (f ∷ fs) e =
      inl (ap (λ b. b || false) (All-head (IsWaitingFrame t) f fs (subst (All (IsWaitingFrame t)) e sound.frames)).without_contents, refl)

  pub flagged : (b : Bool) → IsInRange t → b ≡ has_outstanding l → (b || informs (frame_given t (given t l))) ≡ has_outstanding (after t offer l)
  flagged b ranges e = go (by-waiting l.waiting refl)
    where
      kept : (after t offer l).a ≡ l.a
      kept = (offer-gave t ranges l sound l.waiting refl).acknowledged

      go : Informs (course t offer l) → (b || informs (frame_given t (given t l))) ≡ has_outstanding (after t offer l)
      go o = grind (arith, kept, or-true, ne_eqb)
