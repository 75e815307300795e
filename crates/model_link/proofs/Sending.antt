-- One direction between two ends, where an end gives a frame to its way.
use Rattle.model_link.proofs.Vocabulary.{◌≡◌, ℕ, ◌+◌, ◌-◌, ◌<◌, ◌≤◌, Bool, true, false, cond, not, ◌&&◌, List, [], ◌∷◌, ◌++◌, length, Option, Some, refl, ap, ◌∙◌, append_assoc, append-nil, arith, slice_get, get_or, unwrap_or, nat_lt, ltb-true, and_parts, slice_get-get_or, seq, ReceiveReady, Parts, ControlFrame, Terms, Link, frame_of, Course, begun, given_of, IsInRange, IsSound, frame_given}
use Rattle.model_link.proofs.Vocabulary.{is_awaiting_acknowledgement, with_one_sent, response, give_waiting, is_established, may_send_information, next_information, offer_among, send_acknowledgement}
use Rattle.model_link.proofs.Lines.{Carries, Carried, Rising, carried-push, rising-push}
use Rattle.model_link.proofs.Direction.{frames_of}

-- A link keeps its contents, V(A) and V(R); its line has these frames more.
pub record Gave (t : Terms) (l : Link) (c : Course) : Type 0 where
  pub same : c.link.contents ≡ l.contents
  pub acknowledged : c.link.a ≡ l.a
  pub received : c.link.r ≡ l.r
  pub news : List Parts
  pub line : (way : List Parts) → (way ++ frame_given t (given_of t l c c.sent)) ++ frames_of t c.link.waiting ≡ (way ++ frames_of t l.waiting) ++ news
  pub carried : (r : ℕ) (fs : List Parts) → Carried l.contents (l.a + t.k) r fs → Carried l.contents (l.a + t.k) r (fs ++ news)
  pub rising : (a : ℕ) (fs : List Parts) → Rising a l.r fs → Rising a l.r (fs ++ news)

-- what goes alone goes to the end of the line
at-end : (t : Terms) (way : List Parts) (f : Parts) (ws : List ControlFrame) → ws ≡ [] → (way ++ f ∷ []) ++ frames_of t ws ≡ (way ++ frames_of t ws) ++ f ∷ []
at-end t way f ws e = grind (arith, append-nil)

unwrapped : (o : Option (List ℕ)) (x : List ℕ) → o ≡ Some x → o ≡ Some (unwrap_or o [])
unwrapped o x e = grind arith

module _ (t : Terms) (ranges : IsInRange t) (l : Link) (sound : IsSound t l) where
  -- a frame that waited
  waited : (f : ControlFrame) (fs : List ControlFrame) → l.waiting ≡ f ∷ fs → Gave t l (give_waiting f fs (begun l))
  waited f fs e = grind (arith, append_assoc, frames_of, append-nil, Carried, Rising)

  -- nothing
  idle : Gave t l (begun l)
  idle = grind (arith, frames_of, append-nil, Carried, Rising)

  -- an acknowledgement
  acknowledgement : l.waiting ≡ [] → Gave t l (send_acknowledgement (begun l))
  acknowledgement e =
      record {
        same = refl;
        acknowledged = refl;
        received = refl;
        news = frame_of t (response (ReceiveReady (seq l.r) false)) ∷ [];
        line = λ way. at-end t way (frame_of t (response (ReceiveReady (seq l.r) false))) l.waiting e;
        carried = λ r gs h. carried-push l.contents (l.a + t.k) r gs (frame_of t (response (ReceiveReady (seq l.r) false))) (λ r' le. tt) h;
        rising = λ a gs h. rising-push a l.r gs (frame_of t (response (ReceiveReady (seq l.r) false))) refl h;
      }

  -- an I-frame carries the contents number V(S)
  abbrev information_frame : Parts
  information_frame = record (frame_of t (next_information l)) { info = unwrap_or (slice_get l.contents l.s) [] }

  carries : may_send_information t l ≡ true → (r : ℕ) → r ≤ l.a + t.k → Carries l.contents (l.a + t.k) r (l.a + t.k) (seq l.s) (unwrap_or (slice_get l.contents l.s) [])
  carries e r le =
      let parts = and_parts (is_established l.state && not l.peer_busy && nat_lt (l.s - l.a) t.k) (nat_lt l.s (length l.contents)) e in
      let inner = and_parts (is_established l.state && not l.peer_busy) (nat_lt (l.s - l.a) t.k) parts.0 in
      let low : l.a ≤ l.s = sound.ordered in
      let some : l.s < length l.contents = ltb-true l.s (length l.contents) parts.1 in
      let free : l.s - l.a < t.k = ltb-true (l.s - l.a) t.k inner.1 in
      let small : t.k ≤ 127 = ranges.k_high in
      grind (arith, unwrapped (slice_get l.contents l.s) (get_or l.contents l.s []) (slice_get-get_or l.contents l.s [] some))

  either : (b : Bool) (u v : Course) → Gave t l u → Gave t l v → Gave t l (cond b u v)
  either b u v x y = grind arith

  -- whatever it does to the timer
  sent : (c : Course) → may_send_information t l ≡ true → l.waiting ≡ [] → c.link.contents ≡ l.contents → c.link.a ≡ l.a → c.link.r ≡ l.r
      → c.link.waiting ≡ l.waiting → frame_given t (given_of t l c c.sent) ≡ information_frame ∷ [] → Gave t l c
  sent c may e same acknowledged received waits gives =
      record {
        same = same;
        acknowledged = acknowledged;
        received = received;
        news = information_frame ∷ [];
        line = λ way. ap (λ xs. (way ++ xs) ++ frames_of t c.link.waiting) gives ∙ ap (λ ws. (way ++ information_frame ∷ []) ++ frames_of t ws) waits ∙ at-end t way information_frame l.waiting e;
        carried = λ r gs h. carried-push l.contents (l.a + t.k) r gs information_frame (λ r' le. carries may r' le) h;
        rising = λ a gs h. rising-push a l.r gs information_frame refl h;
      }

  tested : (b : Bool) (u v : Course) → (b ≡ true → Gave t l u) → Gave t l v → Gave t l (cond b u v)
  tested b u v x y = grind arith

  pub offer-gave : (ws : List ControlFrame) → l.waiting ≡ ws → Gave t l (offer_among t ws (begun l))
  offer-gave [] e =
      tested (may_send_information t l) _ _
      (λ may. either (is_awaiting_acknowledgement (with_one_sent l)) _ _ (sent _ may e refl refl refl refl refl) (sent _ may e refl refl refl refl refl))
      (either l.pending _ _ (acknowledgement e) idle)
  offer-gave (f ∷ fs) e = waited f fs e
