-- What each row of the tables makes of the contents of a link, of V(A) and of V(S).
use Rattle.laws_link.proofs.Vocabulary.{◌≡◌, ℕ, ◌-◌, ◌≤◌, Bool, true, false, cond, List, [], length, take, drop, length-take-le, Option, Some, None, IsTrue, true≢false, refl, ◌⊎◌, inl, inr, sym, arith, nat_lt, option_map_or, ltb-false, drop_all, take_all, Seq, named, Control, Information, ReceiveReady, ReceiveNotReady, Reject, Sabme, Disc, Ui, Ua, Dm, Frmr, Xid, ErrorCode, Established, LinkTimer}
use Rattle.laws_link.proofs.Vocabulary.{T203, Terms, Link, has_outstanding, is_peer_busy, begun, Step, ◌then◌, by_bit, frame_in_4, release_in_4, establish_in_4, Leads, keeping_then, depending_leads, bit_leads, tested_leads, from_more, eqb-true, beyond, number_of, acknowledge, by_number, clear_flags, discard, enter, error, establish_indication, leave_unserved, read_as, response, send, start}
use Rattle.laws_link.proofs.Vocabulary.{zero_numbers, ap, zero-add}
use Rattle.laws_link.proofs.Vocabulary.{clear_busy_in_7_8, contents_in_7_8, failed, set_busy_in_7_8, both_ways}
use Rattle.model_link.specs.AwaitingEstablishment
use Rattle.model_link.specs.AwaitingRelease
use Rattle.model_link.specs.Established
use Rattle.model_link.specs.TimerRecovery
use Rattle.laws_link.proofs.Queueing.{Claim, On, words}
use Rattle.laws_link.proofs.Moves.{Moves, Stays, stays, number_moves}

-- whether a frame is a UI
abbrev pub is_ui : Control → Bool
is_ui (Ui p) = true
is_ui other = false

-- how many contents an N(R) acknowledges, if it is there, where the link is in state 7 or 8
abbrev pub count : ℕ → ℕ → Option Seq → ℕ
count a s None = 0
count a s (Some nr) = option_map_or (beyond a) (named a s nr) 0

module _ (t : Terms) (l : Link) (ordered : l.a ≤ l.s) (most : l.s ≤ length l.contents) where
  abbrev pub Stay : Claim
  Stay = Stays l.contents l.a l.s ordered most

  abbrev pub Move : ℕ → Claim
  Move n = Moves l.contents l.a l.s n

  pub begins : On Stay (begun l)
  begins = record { contents = refl; acknowledged = refl; sent = refl; no_loss = refl; goes_on = refl; no_unit = refl; none_gone = refl }

  pub still : (f : Step) → Leads (On Stay) f (On Stay) → On (Move 0) (f (begun l))
  still f x = stays l.contents l.a l.s ordered most (f (begun l)) (x.leads (begun l) begins)

  -- Nothing is kept where as many contents are acknowledged as there are.
  none-left : length l.contents ≡ l.a → drop l.s l.contents ≡ []
  none-left none = drop_all l.s l.contents (omega (arith, ordered, none))

  pub all-taken : length l.contents ≡ l.a → l.contents ≡ take l.a l.contents
  all-taken none = sym (take_all l.a l.contents (omega (arith, none)))

  pub none-kept : length l.contents ≡ l.a → 0 ≡ length (drop l.a l.contents)
  none-kept none = ap (λ x. length x) (sym (drop_all l.a l.contents (omega (arith, none))))

  same-place : has_outstanding l ≡ false → l.s ≡ l.a
  same-place e = grind (arith, eqb-true)

  -- State 4.
  pub frames_in_4 : length l.contents ≡ l.a → (octets : List ℕ) (control : Control) → is_ui control ≡ false → On (Move 0) (frame_in_4 t octets control (begun l))
  frames_in_4 none octets control is = grind (arith, still, read_as, leave_unserved, establish_in_4, words, none-left, none-kept, begins)

  pub released_in_4 : length l.contents ≡ l.a → On (Move 0) (release_in_4 t (begun l))
  released_in_4 none = grind (arith, all-taken, none-kept)

  -- State 5.
  pub frames_in_5 : (IsTrue l.asked → length l.contents ≡ l.a) → (IsTrue l.owed → length l.contents ≡ l.a) → (octets : List ℕ) (control : Control) → is_ui control ≡ false → On (Move 0) (AwaitingEstablishment.frame_in_5 t octets control (begun l))
  frames_in_5 none over octets control is = grind (arith, none-left, none-kept, over, drop_all, begins, length-take-le, same-place, still, words)

  pub t200_in_5 : On (Move 0) (AwaitingEstablishment.t200_in_5 t (begun l))
  t200_in_5 = grind (arith, On, words, both_ways, nat_lt, still)

  -- State 6.
  pub frames_in_6 : length l.contents ≡ l.a → (octets : List ℕ) (control : Control) → is_ui control ≡ false → On (Move 0) (AwaitingRelease.frame_in_6 t octets control (begun l))
  frames_in_6 none octets control is = grind (arith, all-taken, none-kept, still, words)

  pub t200_in_6 : length l.contents ≡ l.a → On (Move 0) (AwaitingRelease.t200_in_6 t (begun l))
  t200_in_6 none = grind (arith, On, words, both_ways, nat_lt, still, all-taken, none-kept)

  -- States 7 and 8.
  sabme-again : (p d : Bool) → has_outstanding l ≡ d
      → let c = (send t (response (Ua p)) then clear_flags then error t ErrorCode.F) (begun l) in
      On (Move 0) ((zero_numbers then start T203 then enter Established) (cond d ((discard then establish_indication t) c) c))
  sabme-again p d e = grind (arith, drop_all, length-take-le, begins, same-place)

  -- an N(R) that names m
  went : (m : ℕ) → l.a ≤ m → m ≤ l.s → (all : List (List ℕ)) (a s : ℕ) (loss zeroed : Bool) (unit : Option (List ℕ)) (given_up : ℕ)
      → all ≡ l.contents → a ≡ m → (s ≡ l.s) ⊎ (s ≡ a) → loss ≡ false → zeroed ≡ false → unit ≡ None → given_up ≡ 0
      → Moves l.contents l.a l.s (m - l.a) all a s loss zeroed unit given_up
  went m from to all a s loss zeroed unit given_up e e' sent no_loss on none gone = grind arith

  acknowledging : (m : ℕ) → l.a ≤ m → m ≤ l.s → Leads (On Stay) (acknowledge m) (On (Move (m - l.a)))
  acknowledging m from to = grind (arith, went)

  acknowledging-then : (m : ℕ) → l.a ≤ m → m ≤ l.s → (timer : LinkTimer) → Leads (On Stay) (acknowledge m then start timer) (On (Move (m - l.a)))
  acknowledging-then m from to timer = grind (arith, went)

  in-7 : (m : ℕ) → l.a ≤ m → m ≤ l.s → Leads (On Stay) (Established.acknowledged_in_7 m) (On (Move (m - l.a)))
  in-7 m from to = grind (arith, depending_leads, acknowledging-then, tested_leads, from_more, ltb-false, went)

  in-7-by-information : (m : ℕ) → l.a ≤ m → m ≤ l.s → Leads (On Stay) (Established.acknowledged_by_information_in_7 m) (On (Move (m - l.a)))
  in-7-by-information m from to = depending_leads is_peer_busy (acknowledging m from to) (in-7 m from to)

  in-7-by-rej : (m : ℕ) → l.a ≤ m → m ≤ l.s → Leads (On Stay) (Established.acknowledged_by_rej_in_7 m) (On (Move (m - l.a)))
  in-7-by-rej m from to = grind (arith, went)

  in-8 : (timer : LinkTimer) (final : Bool) (m : ℕ) → l.a ≤ m → m ≤ l.s → Leads (On Stay) (TimerRecovery.acknowledged_in_8 timer final m) (On (Move (m - l.a)))
  in-8 timer final m from to = grind (arith, bit_leads, went, acknowledging)

  numbers : (nr : Seq) {f : ℕ → Step} → ((m : ℕ) → l.a ≤ m → m ≤ l.s → Leads (On Stay) (f m) (On (Move (m - l.a))))
      → Leads (On Stay) (by_number t nr f) (On (Move (count l.a l.s (Some nr))))
  numbers nr x = number_moves l.contents l.a l.s ordered most t nr x

  moved : {n : ℕ} (f : Step) → Leads (On Stay) f (On (Move n)) → On (Move n) (f (begun l))
  moved f x = x.leads (begun l) begins

  contents_lead : (ns : Seq) (p : Bool) (octets : List ℕ) → Leads (On Stay) (contents_in_7_8 t ns p octets) (On Stay)
  contents_lead ns p octets = search words depth 12 fits 4000

  information : (ns nr : Seq) (p : Bool) (octets : List ℕ) (f : ℕ → Step)
      → ((m : ℕ) → l.a ≤ m → m ≤ l.s → Leads (On Stay) (f m) (On (Move (m - l.a)))) → (b : Bool)
      → On (Move (count l.a l.s (cond b None (Some nr)))) (by_bit b (failed t ErrorCode.O) (contents_in_7_8 t ns p octets then by_number t nr f) (begun l))
  information ns nr p octets f x true = (still (failed t ErrorCode.O) (search words))
  information ns nr p octets f x false = moved (contents_in_7_8 t ns p octets then by_number t nr f) (keeping_then (contents_lead ns p octets) (numbers nr x))

  pub frames_in_7 : (b : Bool) (octets : List ℕ) (control : Control) → is_ui control ≡ false
      → On (Move (count l.a l.s (number_of t control octets))) (Established.frame_in_7 t b octets control (begun l))
  frames_in_7 b octets (Information ns nr p) is = information ns nr p octets Established.acknowledged_by_information_in_7 in-7-by-information (nat_lt t.n201 (length octets))
  frames_in_7 b octets (ReceiveReady nr pf) is = moved (Established.frame_in_7 t b octets (ReceiveReady nr pf)) (search (words, numbers, in-7) depth 12 fits 4000)
  frames_in_7 b octets (ReceiveNotReady nr pf) is = moved (Established.frame_in_7 t b octets (ReceiveNotReady nr pf)) (search (words, numbers, acknowledging-then) depth 12 fits 4000)
  frames_in_7 b octets (Reject nr pf) is = moved (Established.frame_in_7 t b octets (Reject nr pf)) (search (words, numbers, in-7-by-rej) depth 12 fits 4000)
  frames_in_7 b octets (Sabme p) is = sabme-again p (has_outstanding l) refl
  frames_in_7 b octets (Disc p) is = inr (inl (record { contents = refl; acknowledged = refl; sent = refl; told = refl; goes_on = refl; no_unit = refl; all_gone = zero-add _ }))
  frames_in_7 b octets (Dm false) is = (still (failed t ErrorCode.E) (search words))
  frames_in_7 b octets (Frmr f) is = (still (failed t ErrorCode.K) (search words))
  frames_in_7 b octets (Ui p) is = absurd (true≢false is)
  frames_in_7 b octets other is = still (Established.frame_in_7 t b octets other) (search words)

  pub timer_in_7 : (timer : LinkTimer) → On (Move 0) (Established.timer_in_7 t timer (begun l))
  timer_in_7 timer = still (Established.timer_in_7 t timer) (search words)

  pub frames_in_8 : (b : Bool) (octets : List ℕ) (control : Control) → is_ui control ≡ false
      → On (Move (count l.a l.s (number_of t control octets))) (TimerRecovery.frame_in_8 t b octets control (begun l))
  frames_in_8 b octets (Information ns nr p) is = information ns nr p octets acknowledge acknowledging (nat_lt t.n201 (length octets))
  frames_in_8 b octets (Sabme p) is = sabme-again p (has_outstanding l) refl
  frames_in_8 b octets (Disc p) is = inr (inl (record { contents = refl; acknowledged = refl; sent = refl; told = refl; goes_on = refl; no_unit = refl; all_gone = zero-add _ }))
  frames_in_8 b octets (Ua f) is = still (TimerRecovery.frame_in_8 t b octets (Ua f)) (search words)
  frames_in_8 b octets (Dm true) is = (still (failed t ErrorCode.B) (search words))
  frames_in_8 b octets (Dm false) is = (still (failed t ErrorCode.E) (search words))
  frames_in_8 b octets (Frmr f) is = (still (failed t ErrorCode.K) (search words))
  frames_in_8 b octets (Ui p) is = absurd (true≢false is)
  frames_in_8 b octets (Xid pf) is = still (TimerRecovery.frame_in_8 t b octets (Xid pf)) (search words)
  frames_in_8 b octets other is = moved (TimerRecovery.frame_in_8 t b octets other) (search (words, numbers, in-8) depth 12 fits 4000)

  pub t200_in_8 : On (Move 0) (TimerRecovery.t200_in_8 t (begun l))
  t200_in_8 = grind (arith, On, words, both_ways, nat_lt, still)

  -- Requests of layer 3.
  pub set_busy : On (Move 0) (set_busy_in_7_8 t (begun l))
  set_busy = still (set_busy_in_7_8 t) (search words)

  pub clear_busy : On (Move 0) (clear_busy_in_7_8 t (begun l))
  clear_busy = still (clear_busy_in_7_8 t) (search words)
