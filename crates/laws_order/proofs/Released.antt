-- What an end is told of its link in state 6, and in state 4, whatever happens at it and at the other end.
use Rattle.laws_order.proofs.Vocabulary.{Bool, ◌||◌, Reading, NoCall, IsNotCalled, is_called, called}
use Rattle.laws_order.proofs.Vocabulary.{arith, ◌≡◌, ℕ, List, [], ◌∷◌, ◌++◌, refl, sym, ap, ◌∙◌, subst, append-nil, ◌⊎◌, inl, inr, All, list_any, All-head, All-tail, list_any-append, Note, Service, TeiAssigned, AwaitingRelease, Link, came, hears, expiry, request, next, after_is_sound, Seen, seen, Endpoint, Wire, requests, expires, sends, receives, loses, answered, happens, turned, flat_map-append}
use Rattle.laws_order.proofs.Vocabulary.{Event, line_of, AnyStep, step, disturbed, elsewhere, any_acting, AnyStepAt, any_near, any_far, IsPossible, any_doing, IsPossibleAt, events_here, seen_by, seen_at_near, seen_near, data_noted, news, begins_by, BeginsNothing, IsToldOfRelease, ReleasesEnd, ReleasedIsOver, or_parts, at}
use Rattle.laws_order.proofs.Beginning.{past-well, six-here, four-here}
use Rattle.laws_order.proofs.Leading.{other-line}
use Rattle.laws_order.proofs.Ordered.{noted-append, near-place, far-place, all-possible}
use Rattle.laws_order.proofs.Pairs.{link_here, IsWell}
use Rattle.laws_order.proofs.ReleasedAt.{Confirm, GivenUp, Confirmless, SixAt, endpoint-six, endpoint-four}

module _ (service : Service) (tei : ℕ) where
  -- Whatever happens at an end, it is one event there, or none.
  abbrev Same : Wire → Wire → Type 0
  Same w w' = IsWell w'.near × (link_here service tei w'.near ≡ link_here service tei w.near) × (w'.near.card.config ≡ w.near.card.config)

  abbrev pub reads : Wire → Reading
  reads w = w.near.card.config.reading

  pub data Occurs (w w' : Wire) (t : List Seen) (es : List Event) : Type 0 where
    nothing_there : Same w w' → t ≡ [] → es ≡ [] → Occurs w w' t es
    one_there : (e : Event) → w'.near ≡ happens e w.near → t ≡ seen e (answered e w.near) → es ≡ e ∷ [] → Occurs w w' t es

  one-event : (w w' : Wire) (e : Event) → w'.near ≡ happens e w.near → Occurs w w' (seen e (answered e w.near) ++ []) (e ∷ [])
  one-event w w' e is = one_there e is (append-nil (seen e (answered e w.near))) refl

  takes-occurs : (near far : Endpoint) (way : List (List ℕ)) → let w : Wire = record { near = near; far = record far { way = way } } in
      IsWell near → Occurs w (any_acting (step receives) w) (seen_by (step receives) w) (events_here (step receives) w)
  takes-occurs near far [] well = nothing_there (well, refl, refl) refl refl
  takes-occurs near far (octets ∷ rest) well = one-event _ _ (hears (came near.card.config.n201 octets)) refl

  near-occurs : (act : AnyStep) (w : Wire) → IsWell w.near → IsPossibleAt service tei w.near act → Occurs w (any_acting act w) (seen_by act w) (events_here act w)
  near-occurs (step (requests r)) w well is = one-event _ _ (request r) refl
  near-occurs (step (expires timer)) w well is = one-event _ _ (expiry timer) refl
  near-occurs (step sends) w well is = one-event _ _ next refl
  near-occurs (step receives) w well is = takes-occurs w.near w.far w.far.way well
  near-occurs (step loses) w well is = nothing_there (record { sound = well.sound; within = well.within }, refl, refl) refl refl
  near-occurs (disturbed what) w well is = one-event _ _ (hears what) refl
  near-occurs (elsewhere e) w well is = grind (arith, after_is_sound, other-line)

  far-occurs : (act : AnyStep) (w : Wire) → IsWell w.far → Occurs (turned w) (turned (any_acting act w)) [] []
  far-occurs act w well = grind arith

  pub then-well : (w w' : Wire) (t : List Seen) (es : List Event) → IsWell w.near → Occurs w w' t es → IsWell w'.near
  then-well w w' t es well (nothing_there same none nil) = same.0
  then-well w w' t es well (one_there e is shown one) = subst IsWell (sym is) (record { sound = after_is_sound w.near.card (at w.near.line e) well.sound well.within; within = well.within })

  -- Whole runs.
  pub both-quiet : (t u : List Seen) → BeginsNothing service tei (t ++ u) → BeginsNothing service tei t × BeginsNothing service tei u
  both-quiet t u h = or_parts (list_any (begins_by service tei) t) (list_any (begins_by service tei) u) (sym (list_any-append (begins_by service tei) t u) ∙ h)

  abbrev pub Is : Reading → List Seen → List Note → Type 0
  Is r t ns = (news r service tei t ≡ ns) × (data_noted service tei t ≡ [])

  pub joins : (r : Reading) (t u : List Seen) (ns ms : List Note) → Is r t ns → Is r u ms → Is r (t ++ u) (ns ++ ms)
  joins r t u ns ms x y = grind (arith, flat_map-append, noted-append)

  -- the configuration stays
  pub same-reading : (w w' : Wire) (t : List Seen) (es : List Event) → Occurs w w' t es → reads w' ≡ reads w
  same-reading w w' t es h = grind arith

  -- that the other side asks for nothing, of one event and of those behind it
  no-call : (r : Reading) (a b : Bool) → NoCall r (a || b) → NoCall r a × NoCall r b
  no-call h a b none = grind arith

  abbrev Uncalled : Wire → List Event → Type 0
  Uncalled w es = NoCall (reads w) (list_any (is_called service tei w.near) es)

  step-four : (w w' : Wire) (t : List Seen) (es : List Event) → IsWell w.near → (link_here service tei w.near).state ≡ TeiAssigned → BeginsNothing service tei t
      → Uncalled w es → Occurs w w' t es → ((link_here service tei w'.near).state ≡ TeiAssigned) × Is (reads w) t []
  step-four w w' t es well is quiet uncalled h = grind (arith, no-call, endpoint-four, link_here)

  -- where a release is confirmed, one of its events may confirm it
  abbrev pub MayConfirm : Wire → Wire → List Event → Type 0
  MayConfirm w w' es = All (λ e. Confirmless service tei w.near.card.config e (line_of w'.near)) es → ⊥

  abbrev pub StepSix : Wire → Wire → List Seen → List Event → Type 0
  StepSix w w' t es =
      (((link_here service tei w'.near).state ≡ AwaitingRelease) × Is (reads w) t [])
      ⊎ (((link_here service tei w'.near).state ≡ TeiAssigned) × ((Is (reads w) t (Confirm service tei) × MayConfirm w w' es) ⊎ Is (reads w) t (GivenUp service tei)))

  pub step-six : (w w' : Wire) (t : List Seen) (es : List Event) → IsWell w.near → (link_here service tei w.near).state ≡ AwaitingRelease → Occurs w w' t es → StepSix w w' t es
  step-six w w' t es well is (nothing_there same none nil) = inl (ap (λ (y : Link). y.state) same.1 ∙ is, ((ap (news (reads w) service tei) none, ap (data_noted service tei) none)))
  step-six w w' t es well is (one_there e it shown one) = go (endpoint-six service tei w.near well e is)
    where
      none-of : (Confirmless service tei w.near.card.config e (line_of (happens e w.near)) → ⊥) → MayConfirm w w' es
      none-of never = λ all.
          let mine : All (λ e. Confirmless service tei w.near.card.config e (line_of w'.near)) (e ∷ []) =
          subst (All (λ e. Confirmless service tei w.near.card.config e (line_of w'.near))) one all in
          never (subst (λ s. Confirmless service tei w.near.card.config e (line_of s)) it (All-head (λ e. Confirmless service tei w.near.card.config e (line_of w'.near)) e [] mine))

      go : SixAt service tei w.near well e (line_of (happens e w.near)) (answered e w.near) → StepSix w w' t es
      go o = grind (arith, link_here, Confirm, none-of, GivenUp)

  abbrev IsOpen : Wire → AnyStepAt → Type 0
  IsOpen w h = IsPossible service tei w h

  abbrev pub events_at : AnyStepAt → Wire → List Event
  events_at (any_near act) w = events_here act w
  events_at (any_far act) w = []

  pub occurs : (h : AnyStepAt) (w : Wire) → IsWell w.near → IsOpen w h → Occurs w (any_doing h w) (seen_at_near h w) (events_at h w)
  occurs (any_near act) w well is = near-occurs act w well is
  occurs (any_far act) w well is = far-occurs act (turned w) well

  pub later : (h : AnyStepAt) (hs : List AnyStepAt) (w : Wire) → All (IsOpen w) (h ∷ hs) → All (IsOpen (any_doing h w)) hs
  later (any_near act) hs w all = all-possible service tei w (any_acting act w) (near-place act w) (far-place act w) hs (All-tail (IsOpen w) (any_near act) hs all)
  later (any_far act) hs w all =
      all-possible service tei w (turned (any_acting act (turned w))) (far-place act (turned w)) (near-place act (turned w)) hs (All-tail (IsOpen w) (any_far act) hs all)

  -- at first, and behind that
  split-calls : (h : AnyStepAt) (hs : List AnyStepAt) (w : Wire) → reads (any_doing h w) ≡ reads w → IsNotCalled service tei (h ∷ hs) w
      → Uncalled w (events_at h w) × IsNotCalled service tei hs (any_doing h w)
  unfolding called
  split-calls h hs w same none = grind arith

  pub run-four : (hs : List AnyStepAt) (w : Wire) → IsWell w.near → (link_here service tei w.near).state ≡ TeiAssigned → All (IsOpen w) hs
      → BeginsNothing service tei (seen_near hs w) → IsNotCalled service tei hs w → Is (reads w) (seen_near hs w) []
  unfolding seen_near
  run-four [] w well is all quiet none = (refl, refl)
  run-four (h ∷ hs) w well is all quiet none =
      let w' = any_doing h w in
      let both = both-quiet (seen_at_near h w) (seen_near hs w') quiet in
      let o = occurs h w well (All-head (IsOpen w) h hs all) in
      let same = same-reading w w' (seen_at_near h w) (events_at h w) o in
      let calls = split-calls h hs w same none in
      let x = step-four w w' (seen_at_near h w) (events_at h w) well is both.0 calls.0 o in
      joins (reads w) (seen_at_near h w) (seen_near hs w') [] [] x.1
      (subst (λ r. Is r (seen_near hs w') []) same
      (run-four hs w' (then-well w w' (seen_at_near h w) (events_at h w) well o) x.0 (later h hs w all) both.1 calls.1))

  abbrev Released : Reading → List Seen → Type 0
  Released r t = IsToldOfRelease service tei (news r service tei t) × (data_noted service tei t ≡ [])

  not-yet : (r : Reading) (t : List Seen) → Is r t [] → Released r t
  not-yet r t x = (inl x.0, x.1)

  given-up-so : (r : Reading) (t : List Seen) → Is r t (GivenUp service tei) → Released r t
  given-up-so r t x = (inr (inr x.0), x.1)

  run-six : (hs : List AnyStepAt) (w : Wire) → IsWell w.near → (link_here service tei w.near).state ≡ AwaitingRelease → All (IsOpen w) hs
      → BeginsNothing service tei (seen_near hs w) → IsNotCalled service tei hs w → Released (reads w) (seen_near hs w)
  unfolding seen_near
  run-six [] w well is all quiet none = not-yet (reads w) [] (refl, refl)
  run-six (h ∷ hs) w well is all quiet none =
      let w' = any_doing h w in
      let t = seen_at_near h w in
      let u = seen_near hs w' in
      let both = both-quiet t u quiet in
      let o = occurs h w well (All-head (IsOpen w) h hs all) in
      let well' = then-well w w' t (events_at h w) well o in
      let same = same-reading w w' t (events_at h w) o in
      let calls = split-calls h hs w same none in
      go w' t u (λ is'. subst (λ r. Released r u) same (run-six hs w' well' is' (later h hs w all) both.1 calls.1))
      (λ is'. subst (λ r. Is r u []) same (run-four hs w' well' is' (later h hs w all) both.1 calls.1))
      (step-six w w' t (events_at h w) well is o)
    where
      go : (w' : Wire) (t u : List Seen) → ((link_here service tei w'.near).state ≡ AwaitingRelease → Released (reads w) u)
          → ((link_here service tei w'.near).state ≡ TeiAssigned → Is (reads w) u []) → StepSix w w' t (events_at h w) → Released (reads w) (t ++ u)
      go w' t u six four o = grind (arith, flat_map-append, noted-append, joins, given-up-so)

pub releases-end : ReleasesEnd
releases-end service tei w hs p is all quiet none = run-six service tei hs w (past-well w.near p) (six-here service tei w.near is) all quiet none

pub released-is-over : ReleasedIsOver
released-is-over service tei w hs p is all quiet none = run-four service tei hs w (past-well w.near p) (four-here service tei w.near is) all quiet none
