-- An end that is busy itself, and the other end: what each makes of the other's frames in states 7 and 8.
use Rattle.laws_link.proofs.Vocabulary.{arith, ◌≡◌, ℕ, Bool, true, false, List, [], ◌∷◌, ◌++◌, length, Option, Some, append-nil, nat_lt, slice_get, unwrap_or, seq, named, ReceiveNotReady, LinkTimer, T200, ControlFrame, Terms, Link, frame_of, frame, received, Endpoint, with_link, response}
use Rattle.laws_link.proofs.OfTwo.Plain.{information_frame}
use Rattle.laws_link.proofs.OfTwo.Shapes.{enquiry_with, reply, reply_with, in_8, in_8_with, in_7_with, going_back, effect, having, replied}

-- RNR with F=0, which tells that own busy has begun.
abbrev pub busy_report : ℕ → ControlFrame
busy_report r = response (ReceiveNotReady (seq r) false)

-- A busy end's enquiry in state 8, and in state 7
pub heeds-8 : (m : Endpoint) (ws : List ControlFrame) (busy : Bool) (a : ℕ) (p : Bool) (ds : List (List ℕ)) (t : Terms) (w x : ℕ)
    → nat_lt (length ws) m.terms.control ≡ true → named a m.link.s (seq w) ≡ Some x
    → with_link (received (frame (frame_of t (enquiry_with true w)))) (in_8 m ws busy a p ds) ≡ in_8 m (ws ++ reply m.link.r ∷ []) true x false ds
heeds-8 m ws busy a p ds t w x room names = grind (arith, in_8, having, replied, effect, reply, append-nil)

pub heeds-7 : (m : Endpoint) (busy : Bool) (ws : List ControlFrame) (a s : ℕ) (p : Bool) (running : Option LinkTimer) (ds : List (List ℕ)) (t : Terms) (w x : ℕ)
    → nat_lt (length ws) m.terms.control ≡ true → named a s (seq w) ≡ Some x
    → with_link (received (frame (frame_of t (enquiry_with true w)))) (in_7_with false busy m ws a s p running ds)
    ≡ in_7_with false true m (ws ++ reply m.link.r ∷ []) x s false (Some T200) ds
heeds-7 m busy ws a s p running ds t w x room names = grind (arith, in_7_with, having, replied, effect, reply, append-nil)

-- its answer in state 8
pub learns-8 : (m : Endpoint) (ws : List ControlFrame) (busy : Bool) (a : ℕ) (p : Bool) (ds : List (List ℕ)) (t : Terms) (w x : ℕ)
    → named a m.link.s (seq w) ≡ Some x
    → with_link (received (frame (frame_of t (reply_with true w)))) (in_8 m ws busy a p ds) ≡ in_7_with false true (going_back x m) ws x x p (Some T200) ds
learns-8 m ws busy a p ds t w x names = grind (arith, in_8, having, effect, in_7_with, append-nil)

-- its report in state 7
pub learns-7 : (m : Endpoint) (busy : Bool) (ws : List ControlFrame) (a s : ℕ) (p : Bool) (running : Option LinkTimer) (ds : List (List ℕ)) (t : Terms) (w x : ℕ)
    → named a s (seq w) ≡ Some x
    → with_link (received (frame (frame_of t (busy_report w)))) (in_7_with false busy m ws a s p running ds) ≡ in_7_with false true m ws x s p (Some T200) ds
learns-7 m busy ws a s p running ds t w x names = grind (arith, in_7_with, having, effect, append-nil)

-- An I-frame at the busy end in state 8: it is dropped, and its N(R) counts.
pub drops-8 : (n : Endpoint) (ws : List ControlFrame) (busy : Bool) (a : ℕ) (p : Bool) (ds : List (List ℕ)) (t : Terms) (l : Link) (x : ℕ)
    → nat_lt n.terms.n201 (length (unwrap_or (slice_get l.contents l.s) [])) ≡ false → named a n.link.s (seq l.r) ≡ Some x
    → with_link (received (frame (information_frame t l))) (in_8_with true n ws busy a p ds) ≡ in_8_with true n ws busy x p ds
drops-8 n ws busy a p ds t l x o names = grind (arith, in_8_with, slice_get, having, effect, append-nil)
