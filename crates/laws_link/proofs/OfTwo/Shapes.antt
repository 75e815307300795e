-- An end that asks and one that answers: what each makes of the other's frames.
use Rattle.laws_link.proofs.Vocabulary.{◌≡◌, ℕ, ◌+◌, Bool, true, false, cond, ◌==◌, List, [], ◌∷◌, ◌++◌, length, Option, None, Some, append-nil, arith, nat_lt, slice_get, unwrap_or, option_to_list, le-ltb, Seq, seq, named, ReceiveReady, ReceiveNotReady, LinkTimer, T200, T203, ControlFrame, Terms, Link, frame_of, frame, received, Course, Step, begun, ◌then◌, Endpoint, with_link, ErrorCode, State}
use Rattle.laws_link.proofs.Vocabulary.{with_next_sent, LinkCounts, command, error, re_establish, response}
use Rattle.laws_link.proofs.OfTwo.Plain.{information_frame, acknowledgement_frame}

-- The enquiry and the answer.
abbrev pub enquiry : ℕ → ControlFrame
enquiry r = command (ReceiveReady (seq r) true)

abbrev pub reply : ℕ → ControlFrame
reply r = response (ReceiveReady (seq r) true)

-- The same of an end with own busy off or on.
abbrev pub enquiry_with : Bool → ℕ → ControlFrame
enquiry_with own r = command (cond own (ReceiveNotReady (seq r) true) (ReceiveReady (seq r) true))

abbrev pub reply_with : Bool → ℕ → ControlFrame
reply_with own r = response (cond own (ReceiveNotReady (seq r) true) (ReceiveReady (seq r) true))

-- An end in state 8, and one in state 7, with own busy as the first bit says.
abbrev pub in_8_with : Bool → Endpoint → List ControlFrame → Bool → ℕ → Bool → List (List ℕ) → Endpoint
in_8_with own n ws busy a p ds =
    record n { link = record n.link { state = State.TimerRecovery; own_busy = own; peer_busy = busy; pending = p; waiting = ws; running = Some T200; a = a }; way = []; delivered = ds }

abbrev pub in_8 : Endpoint → List ControlFrame → Bool → ℕ → Bool → List (List ℕ) → Endpoint
in_8 n ws busy a p ds = in_8_with false n ws busy a p ds

abbrev pub in_7_with : Bool → Bool → Endpoint → List ControlFrame → ℕ → ℕ → Bool → Option LinkTimer → List (List ℕ) → Endpoint
in_7_with own busy n ws a s p running ds =
    record n { link = record n.link { state = State.Established; own_busy = own; peer_busy = busy; pending = p; waiting = ws; running = running; a = a; s = s }; way = []; delivered = ds }

abbrev pub in_7 : Endpoint → List ControlFrame → ℕ → ℕ → Bool → Option LinkTimer → List (List ℕ) → Endpoint
in_7 n ws a s p running ds = in_7_with false false n ws a s p running ds

-- with one I-frame more received
abbrev pub with_one_more : Endpoint → Endpoint
with_one_more m = record m { link = record m.link { r = m.link.r + 1; rejecting = false } }

-- which sends again from number x on
abbrev pub going_back : ℕ → Endpoint → Endpoint
going_back x n = record n { link = with_next_sent x n.link }

-- of which so many are to be sent again, and which counted so
abbrev pub tallied : ℕ → LinkCounts → Endpoint → Endpoint
tallied g k n = record n { link = record n.link { again = g; counts = k } }

abbrev pub effect : Terms → Seq → (ℕ → Step) → Course → Option ℕ → Course
effect t nr f c o = elim o [ None ↦ (error t ErrorCode.J then re_establish t) c | Some x ↦ f x c ]

module _ (m : Endpoint) where
  abbrev pub having : Course → Endpoint
  having c = record m { link = c.link; way = []; delivered = m.delivered ++ option_to_list c.delivered }

  -- the answer waits, if there is room; the other end is taken for busy from now on, or not
  abbrev pub replied : Bool → Bool → List ControlFrame → Bool → Course
  replied own busy ws b =
      record (begun (record m.link { peer_busy = busy; pending = false; waiting = cond b (ws ++ reply_with own m.link.r ∷ []) ws })) { lost = cond {A = ℕ} b 0 (0 + 1) }

-- an enquiry in state 8
pub asked-8 : (own : Bool) (n : Endpoint) (ws : List ControlFrame) (busy : Bool) (a : ℕ) (p : Bool) (ds : List (List ℕ)) (t : Terms) (w x : ℕ)
    → nat_lt (length ws) n.terms.control ≡ true → named a n.link.s (seq w) ≡ Some x
    → with_link (received (frame (frame_of t (enquiry w)))) (in_8_with own n ws busy a p ds) ≡ in_8_with own n (ws ++ reply_with own n.link.r ∷ []) false x false ds
asked-8 own n ws busy a p ds t w x room names = grind (arith, append-nil)

-- its answer
pub answered-8 : (own : Bool) (n : Endpoint) (ws : List ControlFrame) (busy : Bool) (a : ℕ) (p : Bool) (ds : List (List ℕ)) (t : Terms) (w x : ℕ)
    → named a n.link.s (seq w) ≡ Some x
    → with_link (received (frame (frame_of t (reply w)))) (in_8_with own n ws busy a p ds) ≡ in_7_with own false (going_back x n) ws x x p (Some T203) ds
answered-8 own n ws busy a p ds t w x names = grind (arith, append-nil)

-- an acknowledgement in state 8
pub acknowledged-8 : (own : Bool) (n : Endpoint) (ws : List ControlFrame) (busy : Bool) (a : ℕ) (p : Bool) (ds : List (List ℕ)) (t : Terms) (l : Link) (x : ℕ)
    → named a n.link.s (seq l.r) ≡ Some x
    → with_link (received (frame (acknowledgement_frame t l))) (in_8_with own n ws busy a p ds) ≡ in_8_with own n ws false x p ds
acknowledged-8 own n ws busy a p ds t l x names = grind (arith, append-nil)

-- an I-frame in state 8
pub informed-8 : (m : Endpoint) (ws : List ControlFrame) (busy : Bool) (a : ℕ) (p : Bool) (ds : List (List ℕ)) (t : Terms) (l : Link) (x : ℕ)
    → nat_lt m.terms.n201 (length (unwrap_or (slice_get l.contents l.s) [])) ≡ false
    → ((seq l.s).value == (seq m.link.r).value) ≡ true → named a m.link.s (seq l.r) ≡ Some x
    → with_link (received (frame (information_frame t l))) (in_8 m ws busy a p ds)
    ≡ in_8 (with_one_more m) ws busy x true (ds ++ unwrap_or (slice_get l.contents l.s) [] ∷ [])
informed-8 m ws busy a p ds t l x o next names = grind (arith, slice_get)

-- an enquiry in state 7 that acknowledges nothing new
pub asked-7 : (own : Bool) (n : Endpoint) (a s : ℕ) (p : Bool) (running : Option LinkTimer) (ds : List (List ℕ)) (t : Terms) (w : ℕ)
    → nat_lt 0 n.terms.control ≡ true → named a s (seq w) ≡ Some a
    → with_link (received (frame (frame_of t (enquiry w)))) (in_7_with own false n [] a s p running ds) ≡ in_7_with own false n (reply_with own n.link.r ∷ []) a s false (cond (a == s) (Some T203) running) ds
asked-7 own n a s p running ds t w room names = grind (arith, append-nil, nat_lt, le-ltb)
