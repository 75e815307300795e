-- What an event of a link puts behind the control frames that wait, and what an offer gives: of each frame a predicate holds that holds of
-- supervisory frames, of the answers to what is heard, and of the command that the state awaits the answer to.
use Rattle.laws_order.proofs.Vocabulary.{arith, ◌≡◌, ℕ, suc, Bool, true, false, cond, IsTrue, List, [], ◌∷◌, ◌++◌, take, refl, ap, ◌∙◌, append-nil, append_assoc, slice_get, unwrap_or, Seq, seq, Control, Information, ReceiveReady, ReceiveNotReady, Reject, Sabme, Disc, Ua, Dm, Parts, State, AwaitingEstablishment, AwaitingRelease, ControlFrame, Terms, received, undefined, wrong_size, overlong}
use Rattle.laws_order.proofs.Vocabulary.{expired, requested, offer, cleared, Link, is_multiple_frame, frame_of, course, given_of, Course, frame_given, frames_of, as_heard, receipt_as, answers, commands, put, room, event-follows, after, begun, at-end}
use Rattle.model_link.specs.Events.{Event, frame}
use Rattle.model_link.specs.Offers
use Rattle.model_link.specs.Words

-- Each of some frames, and each of some that wait.
abbrev pub Each : (Control → Type 0) → List Parts → Type 0
Each P [] = Unit {0}
Each P (f ∷ fs) = P f.control × Each P fs

abbrev pub EachWaits : (Control → Type 0) → List ControlFrame → Type 0
EachWaits P [] = Unit {0}
EachWaits P (f ∷ fs) = P f.control × EachWaits P fs

-- What is heard is answered by such a frame, and such a one is the command whose answer a state awaits.
abbrev pub Answered : (Control → Type 0) → Control → Type 0
Answered P (Sabme p) = P (Ua p) × P (Dm p)
Answered P (Disc p) = P (Ua p) × P (Dm p)
Answered P other = Unit {0}

abbrev pub AnsweredAt : (Control → Type 0) → Event → Type 0
AnsweredAt P (received (frame f)) = Answered P f.control
AnsweredAt P other = Unit {0}

abbrev pub Awaited : (Control → Type 0) → State → Type 0
Awaited P AwaitingEstablishment = P (Sabme true)
Awaited P AwaitingRelease = P (Disc true)
Awaited P other = Unit {0}

pub record Reporting (P : Control → Type 0) : Type 0 where
  pub ready : (nr : Seq) (pf : Bool) → P (ReceiveReady nr pf)
  pub not_ready : (nr : Seq) (pf : Bool) → P (ReceiveNotReady nr pf)
  pub reject : (nr : Seq) (pf : Bool) → P (Reject nr pf)

module _ (P : Control → Type 0) where
  pub each-append : (xs ys : List Parts) → Each P xs → Each P ys → Each P (xs ++ ys)
  each-append [] ys h k = k
  each-append (x ∷ xs) ys h k = (h.0, each-append xs ys h.1 k)

  pub each-front : (xs ys : List Parts) → Each P (xs ++ ys) → Each P xs
  each-front [] ys h = tt
  each-front (x ∷ xs) ys h = (h.0, each-front xs ys h.1)

  pub each-back : (xs ys : List Parts) → Each P (xs ++ ys) → Each P ys
  each-back [] ys h = h
  each-back (x ∷ xs) ys h = each-back xs ys h.1

  pub each-frames : (t : Terms) (ws : List ControlFrame) → EachWaits P ws → Each P (frames_of t ws)
  each-frames t [] h = tt
  each-frames t (f ∷ fs) h = (h.0, each-frames t fs h.1)

  waits-append : (xs ys : List ControlFrame) → EachWaits P xs → EachWaits P ys → EachWaits P (xs ++ ys)
  waits-append [] ys h k = k
  waits-append (x ∷ xs) ys h k = (h.0, waits-append xs ys h.1 k)

  waits-take : (n : ℕ) (ws : List ControlFrame) → EachWaits P ws → EachWaits P (take n ws)
  waits-take (suc n) (w ∷ ws) h = (h.0, waits-take n ws h.1)
  waits-take other any h = tt

  module _ (reports : Reporting P) (l : Link) where
    receipt : (own : Bool) (r : ℕ) (pf : Bool) → P (receipt_as own r pf)
    receipt own r pf = grind arith

    to-supervisory : (b : Bool) → EachWaits P (cond b (record { command = false; control = receipt_as l.own_busy l.r true } ∷ []) [])
    to-supervisory b = grind arith

    its-answers : (e : Event) → AnsweredAt P e → EachWaits P (answers e l)
    its-answers e h = grind (arith, receipt, to-supervisory)

    is-put : (e : Event) (to : State) → AnsweredAt P e → Awaited P to → EachWaits P (put e l to)
    is-put e to h a = waits-append (answers e l) (commands e l to) (its-answers e h) (grind arith)

    -- What waits behind what waited.
    module _ (t : Terms) where
      pub record Grows (after : List ControlFrame) : Type 0 where
        pub news : List ControlFrame
        pub more : after ≡ l.waiting ++ news
        pub are : EachWaits P news

      grows : (e : Event) (to : State) (after : List ControlFrame) → after ≡ l.waiting ++ take (room t l) (put e l to) → AnsweredAt P e → Awaited P to → Grows after
      grows e to after is h a = record { news = take (room t l) (put e l to); more = is; are = waits-take (room t l) (put e l to) (is-put e to h a) }

      abbrev pub IsPut : Event → Type 0
      IsPut offer = ⊥
      IsPut cleared = ⊥
      IsPut other = Unit {0}

      pub waits-more : (e : Event) → IsPut e → AnsweredAt P e → Awaited P (after t e l).state → Grows (after t e l).waiting
      waits-more (received (frame f)) is h a =
          grows (as_heard t (received (frame f))) (after t (received (frame f)) l).state (after t (received (frame f)) l).waiting
          (event-follows t (received (frame f)) l).leaves.waiting (grind arith) a
      waits-more (received undefined) is h a = grows (received undefined) _ _ (event-follows t (received undefined) l).leaves.waiting tt a
      waits-more (received wrong_size) is h a = grows (received wrong_size) _ _ (event-follows t (received wrong_size) l).leaves.waiting tt a
      waits-more (received overlong) is h a = grows (received overlong) _ _ (event-follows t (received overlong) l).leaves.waiting tt a
      waits-more (expired timer) is h a = grows (expired timer) _ _ (event-follows t (expired timer) l).leaves.waiting tt a
      waits-more (requested request full) is h a = grows (requested request full) _ _ (event-follows t (requested request full) l).leaves.waiting tt a
      waits-more other is h a = absurd is

      -- What an offer gives comes from what waits, or it is an I-frame, of a link in state 7, or RR.
      pub record Gives (c : Course) : Type 0 where
        pub news : List Parts
        pub line : (way : List Parts) → (way ++ frame_given t (given_of t l c c.sent)) ++ frames_of t c.link.waiting ≡ (way ++ frames_of t l.waiting) ++ news
        pub are : Each P news

      by-two : (b : Bool) (u v : Course) → (b ≡ true → Gives u) → Gives v → Gives (cond b u v)
      by-two b u v x y = grind arith

      one : (c : Course) (f : Parts) → P f.control → l.waiting ≡ [] → c.link.waiting ≡ l.waiting → frame_given t (given_of t l c c.sent) ≡ f ∷ [] → Gives c
      one c f is e waits gives = record {
        news = f ∷ [];
        line = λ way. ap (λ xs. (way ++ xs) ++ frames_of t c.link.waiting) gives ∙ ap (λ ws. (way ++ f ∷ []) ++ frames_of t ws) waits ∙ at-end t l way f l.waiting e;
        are = (is, tt);
      }

      none : Gives (begun l)
      none = grind (arith, frames_of, append-nil)

      abbrev information : Parts
      information = record (frame_of t (Offers.next_information l)) { info = unwrap_or (slice_get l.contents l.s) [] }

      among : (IsTrue (is_multiple_frame l.state) → (ns nr : Seq) (p : Bool) → P (Information ns nr p)) → (ws : List ControlFrame) → l.waiting ≡ ws
          → Gives (Offers.offer_among t ws (begun l))
      among says [] e =
          by-two (Offers.may_send_information t l) _ _
          (λ may.
          let is = says (grind arith) (seq l.s) (seq l.r) false in
          by-two (Offers.is_awaiting_acknowledgement (Offers.with_one_sent l)) _ _ (λ b. one _ information is e refl refl) (one _ information is e refl refl))
          (by-two l.pending _ _ (λ b. one _ (frame_of t (Words.response (ReceiveReady (seq l.r) false))) (reports.ready (seq l.r) false) e refl refl) none)
      among says (f ∷ fs) e = grind (arith, append_assoc, frames_of, append-nil)

      pub offers : (IsTrue (is_multiple_frame l.state) → (ns nr : Seq) (p : Bool) → P (Information ns nr p)) → Gives (course t offer l)
      offers says = among says l.waiting refl
