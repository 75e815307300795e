-- What is seen of the control frames of a link, and which are due by it.
use Rattle.laws_trace.proofs.Vocabulary.{arith, ◌≡◌, ℕ, ◌==◌, ◌&&◌, true, false, cond, List, [], ◌∷◌, ◌++◌, map, drop, Some, None, refl, sym, ap, ◌∙◌, inl, inr, eq-eqb, append-nil, Result, Ok, Err, All, IfSome, flat_map, option_to_list, nat_lt, length, All-head, All-tail, Ui, ReadFault, Service, Parts, reading, sapi_of, reading-again, event-follows, ControlFrame, Terms, Link, address_at}
use Rattle.laws_trace.proofs.Vocabulary.{IsGiven}
use Rattle.laws_trace.proofs.Vocabulary.{Given, orders_for, given_is_frame, Config, hears, Answer, Line, place_in, terms, aim_of, message_of, aim_of_reading, at_side, is_granted, IsBy, Brings, sapi-is, same-sapi, both-true, eqb-true, unwrap_or, begun as course_begun, Event, answer, line_frame_of as frame_of, Request, trace_frame_in as frame_in, Seen, heard, seen, seen_told}
use Rattle.laws_trace.proofs.Vocabulary.{seen_granted, drop-nil, link_after as after, link_given_of as given_of, offer_among, LinkIsInRange as IsInRange, LinkIsSound as IsSound, trace_begun as begun, service-same, StreamEvent, own_side}
use Rattle.model_link.specs.Events as link
use Rattle.laws_trace.proofs.ControlsWatched.{of_link, control_in, controls_at, while_up, answer_to, changed, answers_at, answers_to_frame}
use Rattle.laws_trace.proofs.DeliveriesWatched.{Standing}
use Rattle.laws_trace.proofs.Addressed.{addressed-is}
use Rattle.laws_trace.proofs.ControlsDue.{controls, answers_of}
use Rattle.laws_trace.proofs.OneLink.{frames_given, IsForeign, is_at_link}
use Rattle.laws_trace.proofs.ReadAgain.{read-again}
use Rattle.laws_trace.proofs.Spelled.{whole-parts}
use Rattle.laws_trace.proofs.Facts.{either-none}

abbrev control_of : ControlFrame → List ControlFrame
control_of f = control_in f.command f.control

module _ (c : Config) (service : Service) (tei : ℕ) where
  abbrev pub begun_of : List ℕ → List ControlFrame
  begun_of octets = of_link service tei control_in (reading (own_side c) octets)

  abbrev pub controls_begun : List Seen → List ControlFrame
  controls_begun t = flat_map (controls_at c service tei) t

  -- What is seen to go are the frames that begin.
  none-told : (a : Answer) → controls_begun (seen_told a) ≡ []
  none-told a = grind arith

  pub begun-is : (e : Event) (l : Line) → controls_begun (seen e (answer c e l)) ≡ flat_map begun_of (frame_in (answer c e l))
  unfolding answer
  begun-is e l = grind (arith, none-told)

  -- Frames of others are no control frames of this link.
  foreign : (frame : List ℕ) → IsForeign c service tei frame → begun_of frame ≡ []
  foreign frame (inl x) =
      ap begun_of x.1
      ∙ read-again (own_side c) (λ r. of_link service tei control_in r ≡ []) (record { sapi = 63; command = true; tei = 127 }) (Ui false)
      (λ info. either-none (63 == sapi_of service && 127 == tei)) (λ fault. refl) x.0
  foreign frame (inr (inl x)) =
      ap begun_of x.1
      ∙ read-again (own_side c) (λ r. of_link service tei control_in r ≡ []) (record { sapi = sapi_of x.0.service; command = true; tei = x.0.tei }) (Ui false)
      (λ info. either-none (sapi_of x.0.service == sapi_of service && x.0.tei == tei)) (λ fault. refl) x.0.contents
  foreign frame (inr (inr x)) =
      let t = x.0 in
      let g = x.1 in
      let away : (sapi_of t.service == sapi_of service && t.tei == tei) ≡ false = ap (λ b. b && t.tei == tei) (same-sapi t.service service) ∙ x.3 in
      ap begun_of x.2 ∙ read-again (own_side c) (λ r. of_link service tei control_in r ≡ []) (address_at t g.frame.command) g.frame.control
      (λ info. ap (λ b. cond b (control_of g.frame) []) away) (λ fault. refl) (unwrap_or g.contents [])

  pub all-foreign : (frames : List (List ℕ)) → All (IsForeign c service tei) frames → flat_map begun_of frames ≡ []
  all-foreign [] h = refl
  all-foreign (f ∷ frames) h =
      ap (λ xs. xs ++ flat_map begun_of frames) (foreign f (All-head (IsForeign c service tei) f frames h)) ∙ all-foreign frames (All-tail (IsForeign c service tei) f frames h)

  -- And what has waited goes.
  abbrev its : Terms
  its = terms c service tei

  pub given-read : (g : Given) → IsGiven its g.frame g.contents → begun_of (frame_of c its g) ≡ control_of g.frame
  given-read g h =
      ap (of_link service tei control_in) (reading-again (own_side c) (whole-parts its g) (frame_of c its g) (record { is_frame = h.whole; octets_are = refl }))
      ∙ ap (λ b. cond b (control_of g.frame) []) (ap (λ b. b && tei == tei) (eq-eqb (sapi_of service) (sapi_of service) refl) ∙ eq-eqb tei tei refl)

  -- So it is the first that begins, and the others wait on.
  drop-front : (xs ys : List ControlFrame) → drop (length xs) (xs ++ ys) ≡ ys
  drop-front [] ys = refl
  drop-front (x ∷ xs) ys = drop-front xs ys

  pub first-begins : (l : Link) → IsInRange its → IsSound its l → (f : ControlFrame) (fs : List ControlFrame) → l.waiting ≡ f ∷ fs
      → flat_map begun_of (frames_given c its link.offer l) ≡ control_of f
  first-begins l range sound f fs is = go l.waiting is (given_is_frame its range l sound)
    where
      go : (ws : List ControlFrame) → ws ≡ f ∷ fs → let under = offer_among its ws (course_begun l) in
          IfSome (given_of its l under under.sent) (λ g. IsGiven its g.frame g.contents)
          → flat_map begun_of (map (frame_of c its) (option_to_list (given_of its l under under.sent))) ≡ control_of f
      go [] is h = cc is
      go (x ∷ xs) is h =
          let under = offer_among its (x ∷ xs) (course_begun l) in
          let g : Given = record { frame = x; contents = None; orders = orders_for its l.running under.started under.link.running } in
          append-nil (begun_of (frame_of c its g)) ∙ given-read g h ∙ ap control_of (cc is)

  pub offer-leaves : (l : Link) → IsInRange its → IsSound its l
      → controls (after its link.offer l).waiting ≡ drop (length (flat_map begun_of (frames_given c its link.offer l))) (controls l.waiting)
  offer-leaves l range sound = ap controls (event-follows its link.offer l).leaves.waiting ∙ go l.waiting refl
    where
      begins : List ControlFrame
      begins = flat_map begun_of (frames_given c its link.offer l)

      go : (ws : List ControlFrame) → l.waiting ≡ ws → controls (drop 1 l.waiting) ≡ drop (length begins) (controls l.waiting)
      go [] is = ap (λ ws. controls (drop 1 ws)) is ∙ sym (ap (λ ws. drop (length begins) (controls ws)) is ∙ drop-nil (length begins))
      go (f ∷ fs) is =
          ap (λ ws. controls (drop 1 ws)) is
          ∙ sym (ap (λ ws. drop (length begins) (controls ws)) is ∙ ap (λ xs. drop (length xs) (control_of f ++ controls fs)) (first-begins l range sound f fs is)
          ∙ drop-front (control_of f) (controls fs))

  -- What is seen, and what answers it.
  module _ (was now : Standing) (state : ℕ) where
    abbrev pub answers_seen : List Seen → List ControlFrame
    answers_seen t = flat_map (answers_at c service tei was now state) t

    abbrev To : Result Parts ReadFault → List ControlFrame
    To r = answers_to_frame c service tei was now state r

    pub begun-none : (frames : List (List ℕ)) → answers_seen (map begun frames) ≡ []
    begun-none [] = refl
    begun-none (f ∷ frames) = begun-none frames

    pub heard-answers : (e : Event) (a : Answer) (what : StreamEvent) → e ≡ hears what → answers_seen (seen e a) ≡ answers_at c service tei was now state (heard what)
    heard-answers e a what is = grind (arith, answers_at, append-nil)

    -- by an event of the link
    frame-answers : (e : Event) (a : Answer) (frame : Parts) → Brings c e service tei frame
        → answers_seen (seen e a) ≡ answer_to was now state frame.address.command (nat_lt c.n201 (length frame.info)) frame.control
    frame-answers e a frame x = grind (arith, heard-answers, answer_to, eq-eqb, sapi-is)

    pub asked-answers : (r : Request) (a : Answer) → is_granted a ≡ true → answers_seen (seen_granted r a ++ seen_told a) ≡ while_up state (changed was now)
    asked-answers r a is = grind (arith, append-nil, while_up, changed)

    pub event-answers : (e : Event) (a : Answer) (event : link.Event) → IsBy c e a service tei event → answers_seen (seen e a) ≡ answers_of c.n201 was now state event
    event-answers e a event x = grind (arith, frame-answers, heard-answers, asked-answers, begun-none)

    -- by another event, while layer 3 is as busy as before
    module _ (l : Line) (place : ℕ) (on : place_in l tei ≡ Some place) where
      read-none : (r : Result Parts ReadFault) → is_at_link service tei (aim_of_reading c l r) ≡ false → To r ≡ []
      read-none (Err fault) aims = refl
      read-none (Ok frame) aims = grind (arith, aimed)
        where
          aimed : (frame.address.sapi == sapi_of service && frame.address.tei == tei) ≡ true → is_at_link service tei (aim_of_reading c l (Ok frame)) ≡ true
          aimed is =
              let two = both-true (frame.address.sapi == sapi_of service) (frame.address.tei == tei) is in
              ap (λ aim. is_at_link service tei (at_side c frame aim))
              (addressed-is l frame.address.sapi frame.address.tei frame.address.command service tei place (link.frame frame) (message_of frame.control frame.info)
              (eqb-true frame.address.sapi (sapi_of service) two.0) (eqb-true frame.address.tei tei two.1) on)
              ∙ ap (λ b. b && tei == tei) (service-same service) ∙ eq-eqb tei tei refl

      pub none-answered : (e : Event) (a : Answer) → while_up state (changed was now) ≡ [] → is_at_link service tei (aim_of c e l) ≡ false → answers_seen (seen e a) ≡ []
      none-answered e a same aims = grind (arith, heard-answers, read-none, append-nil, while_up, changed, begun-none)
