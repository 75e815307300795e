-- What an event does to a link that stays in states 7 and 8, for the end that it faces.
use Rattle.model_link.proofs.Vocabulary.{◌≡◌, ℕ, ◌≤◌, Bool, true, false, cond, IsTrue, List, [], ◌∷◌, ◌++◌, Option, None, Some, refl, sym, subst, append_assoc, append-nil, true≢false, arith, ltb-false, Seq, seq, named, Control, ReceiveReady, ReceiveNotReady, Reject, ErrorCode, State, Established, LinkTimer, ControlFrame, Terms, Link, is_multiple_frame, Course, Step, ◌then◌, TimerRecovery}
use Rattle.model_link.proofs.Vocabulary.{acknowledge}
use Rattle.model_link.proofs.Vocabulary.{answer, by_number, command, enquire, error, has_room, pending_is, re_establish, rr_or_rnr, reject, report_receiver_status, response, send, clear_busy_in_7_8, failed, set_busy_in_7_8, acknowledged_by_information_in_7, acknowledged_by_rnr_in_7, acknowledged_in_7, frame_in_7, is_all_sent, is_beyond_acknowledged, timer_in_7, frame_in_8, t200_in_8, frame_in}
use Rattle.model_link.proofs.Leads.{Leads, keeping_then, depending_leads, bit_leads, tested_leads, from_more}
use Rattle.model_link.proofs.SoundRows.{named-within}

-- A supervisory frame that says that V(R) is r.
abbrev pub IsReport : ℕ → Control → Type 0
IsReport r (ReceiveReady nr pf) = nr ≡ seq r
IsReport r (ReceiveNotReady nr pf) = nr ≡ seq r
IsReport r (Reject nr pf) = nr ≡ seq r
IsReport r other = ⊥

abbrev pub AreReports : ℕ → List ControlFrame → Type 0
AreReports r [] = Unit {0}
AreReports r (f ∷ fs) = IsReport r f.control × AreReports r fs

pub reports-push : (r : ℕ) (fs : List ControlFrame) (f : ControlFrame) → IsReport r f.control → AreReports r fs → AreReports r (fs ++ f ∷ [])
reports-push r [] f x h = (x, tt)
reports-push r (g ∷ fs) f x h = (h.0, reports-push r fs f x h.1)

-- what waits is what waited, and reports
pub record Reports (r : ℕ) (before after : List ControlFrame) : Type 0 where
  pub news : List ControlFrame
  pub more : after ≡ before ++ news
  pub are : AreReports r news

pub no-reports : (r : ℕ) (ws : List ControlFrame) → Reports r ws ws
no-reports r ws = record { news = []; more = sym (append-nil ws); are = tt }

reported : (r : ℕ) (before after : List ControlFrame) (f : ControlFrame) (b : Bool) → IsReport r f.control → Reports r before after
    → Reports r before (cond b (after ++ f ∷ []) after)
reported r before after f b x h = grind (arith, append_assoc, reports-push)

-- A link stays as it was except for its V(A), its V(S) by a claim on it, its V(R), and reports.
abbrev pub Number : Type 1
Number = ℕ → Type 0

pub record Stay (l : Link) (S : Number) (a r : ℕ) (contents : List (List ℕ)) (a' s' r' : ℕ) (ws : List ControlFrame) : Type 0 where
  pub same : contents ≡ l.contents
  pub acknowledged : a' ≡ a
  pub sent : S s'
  pub received : r' ≡ r
  pub reports : Reports r l.waiting ws

abbrev pub Stays : Link → Number → ℕ → ℕ → Course → Type 0
Stays l S a r c = Stay l S a r c.link.contents c.link.a c.link.s c.link.r c.link.waiting

module _ {l : Link} {S : Number} {a r : ℕ} (t : Terms) where
  sends : (f : Link → ControlFrame) → ((l' : Link) → IsReport l'.r (f l').control)
      → Leads (Stays l S a r) (λ c. (send t (f c.link) then pending_is false) c) (Stays l S a r)
  sends f x =
      record {
        leads = λ c h. record {
          same = h.same;
          acknowledged = h.acknowledged;
          sent = h.sent;
          received = h.received;
          reports = reported r l.waiting c.link.waiting (f c.link) (has_room t c.link) (subst (λ n. IsReport n (f c.link).control) h.received (x c.link)) h.reports;
        };
      }

  pub enquire_stays : Leads (Stays l S a r) (enquire t) (Stays l S a r)
  enquire_stays = sends (λ l'. command (rr_or_rnr true l')) (λ l'. (grind arith))

  pub answer_stays : Leads (Stays l S a r) (answer t) (Stays l S a r)
  answer_stays = sends (λ l'. response (rr_or_rnr true l')) (λ l'. (grind arith))

  pub report_stays : Leads (Stays l S a r) (report_receiver_status t) (Stays l S a r)
  report_stays = sends (λ l'. response (rr_or_rnr false l')) (λ l'. (grind arith))

  pub reject_stays : (f : Bool) → Leads (Stays l S a r) (reject t f) (Stays l S a r)
  reject_stays f = sends (λ l'. response (Reject (seq l'.r) f)) (λ l'. refl)

-- What is wanted in the end, if the link is still in state 7 or 8.
pub record Up (l : Link) (a r : ℕ) (c : Course) : Type 0 where
  pub stay : IsTrue (is_multiple_frame c.link.state) → Stay l (λ s. Unit {0}) a r c.link.contents c.link.a c.link.s c.link.r c.link.waiting

module _ (l : Link) (a r : ℕ) where
  pub stays_up : {S : Number} {f : Step} → Leads (Stays l S a r) f (Stays l S a r) → Leads (Stays l S a r) f (Up l a r)
  stays_up {f = f} x =
      record {
        leads = λ c h. record {
          stay = λ up. let y = x.leads c h in record { same = y.same; acknowledged = y.acknowledged; sent = tt; received = y.received; reports = y.reports };
        };
      }

  -- a row that leads out of the states
  pub failed_up : {P : Course → Type 0} (t : Terms) (e : ErrorCode) → Leads P (failed t e) (Up l a r)
  failed_up t e = record { leads = λ c h. record { stay = λ up. absurd (true≢false (sym up)) } }

pub ruleset words = (keeping_then, depending_leads, bit_leads, enquire_stays, answer_stays, report_stays, reject_stays)

pub ruleset rows = (words, stays_up, failed_up)

module _ (t : Terms) (l : Link) where
  pub timer_7_up : {S : Number} (timer : LinkTimer) → Leads (Stays l S l.a l.r) (timer_in_7 t timer) (Up l l.a l.r)
  timer_7_up timer = search rows depth 12 fits 4000

  pub t200_8_up : {S : Number} → Leads (Stays l S l.a l.r) (t200_in_8 t) (Up l l.a l.r)
  t200_8_up = search rows depth 12 fits 4000

  pub set_busy_up : {S : Number} → Leads (Stays l S l.a l.r) (set_busy_in_7_8 t) (Up l l.a l.r)
  set_busy_up = search rows depth 12 fits 4000

  pub clear_busy_up : {S : Number} → Leads (Stays l S l.a l.r) (clear_busy_in_7_8 t) (Up l l.a l.r)
  clear_busy_up = search rows depth 12 fits 4000

abbrev pub any_number : Number
any_number s = Unit {0}

abbrev pub still : ℕ → Number
still s s' = s' ≡ s

-- What an N(R) does: it is acknowledged, whatever is to be sent again.
acknowledged : {l : Link} {S : Number} {a r : ℕ} {contents : List (List ℕ)} {a' s' r' : ℕ} {ws : List ControlFrame} (n s : ℕ)
    → Stay l S a r contents a' s' r' ws → Stay l any_number n r contents n s r' ws
acknowledged n s h = record { same = h.same; acknowledged = refl; sent = tt; received = h.received; reports = h.reports }

module _ (l : Link) (r : ℕ) {S : Number} (a n : ℕ) where
  -- in state 7 nothing happens only where n is V(A)
  pub acknowledge_up : Leads (Stays l S a r) (acknowledge n) (Up l n r)
  acknowledge_up = search (acknowledged)

  pub in_7_up : a ≤ n → Leads (Stays l S a r) (acknowledged_in_7 n) (Up l n r)
  in_7_up low =
      depending_leads (is_all_sent n) (search (acknowledged))
      (tested_leads (is_beyond_acknowledged n) (from_more (λ c h. h.holds) (search (acknowledged))) (grind (arith, ltb-false, acknowledged)))

  pub information_7_up : a ≤ n → Leads (Stays l S a r) (acknowledged_by_information_in_7 n) (Up l n r)
  information_7_up low = depending_leads _ acknowledge_up (in_7_up low)

  pub rnr_7_up : a ≤ n → Leads (Stays l S a r) (acknowledged_by_rnr_in_7 n) (Up l n r)
  rnr_7_up low = search (acknowledged)

-- What a received frame does: the N(R) names n, which is acknowledged.
pub record UpBy (l : Link) (nr : Seq) (r : ℕ) (c : Course) : Type 0 where
  pub stay : IsTrue (is_multiple_frame c.link.state)
      → (n : ℕ) × (named l.a l.s nr ≡ Some n) × Stay l (λ s. Unit {0}) n r c.link.contents c.link.a c.link.s c.link.r c.link.waiting

module _ (t : Terms) (l : Link) (r : ℕ) where
  by-number : (nr : Seq) (f : ℕ → Step) → ((n : ℕ) → l.a ≤ n → Leads (Stays l (still l.s) l.a r) (f n) (Up l n r))
      → (c : Course) → Stays l (still l.s) l.a r c → (o : Option ℕ) → named l.a l.s nr ≡ o
      → UpBy l nr r (elim o [ None ↦ (error t ErrorCode.J then re_establish t) c | Some n ↦ f n c ])
  by-number nr f x c h None e = record { stay = λ up. absurd (true≢false (sym up)) }
  by-number nr f x c h (Some n) e = grind (arith, named-within)

  pub number_up : (nr : Seq) (f : ℕ → Step) → ((n : ℕ) → l.a ≤ n → Leads (Stays l (still l.s) l.a r) (f n) (Up l n r))
      → Leads (Stays l (still l.s) l.a r) (by_number t nr f) (UpBy l nr r)
  number_up nr f x = grind (arith, by-number)

  -- supervisory frames
  reports_7 : (b : Bool) (octets : List ℕ) (m : ℕ) (control : Control) → IsReport m control
      → Leads (Stays l (still l.s) l.a r) (frame_in_7 t b octets control) (UpBy l (seq m) r)
  reports_7 b octets m (ReceiveReady nr pf) e = subst (λ n. Leads (Stays l (still l.s) l.a r) (frame_in_7 t b octets (ReceiveReady nr pf)) (UpBy l n r)) e (search (words, number_up, in_7_up) depth 12 fits 4000)
  reports_7 b octets m (ReceiveNotReady nr pf) e = subst (λ n. Leads (Stays l (still l.s) l.a r) (frame_in_7 t b octets (ReceiveNotReady nr pf)) (UpBy l n r)) e (search (words, number_up, rnr_7_up) depth 12 fits 4000)
  reports_7 b octets m (Reject nr pf) e = subst (λ n. Leads (Stays l (still l.s) l.a r) (frame_in_7 t b octets (Reject nr pf)) (UpBy l n r)) e (search (words, number_up, acknowledged) depth 12 fits 4000)
  reports_7 b octets m other e = absurd e

  reports_8 : (b : Bool) (octets : List ℕ) (m : ℕ) (control : Control) → IsReport m control
      → Leads (Stays l (still l.s) l.a r) (frame_in_8 t b octets control) (UpBy l (seq m) r)
  reports_8 b octets m (ReceiveReady nr pf) e = subst (λ n. Leads (Stays l (still l.s) l.a r) (frame_in_8 t b octets (ReceiveReady nr pf)) (UpBy l n r)) e (search (words, number_up, bit_leads, acknowledged) depth 12 fits 4000)
  reports_8 b octets m (ReceiveNotReady nr pf) e = subst (λ n. Leads (Stays l (still l.s) l.a r) (frame_in_8 t b octets (ReceiveNotReady nr pf)) (UpBy l n r)) e (search (words, number_up, bit_leads, acknowledged) depth 12 fits 4000)
  reports_8 b octets m (Reject nr pf) e = subst (λ n. Leads (Stays l (still l.s) l.a r) (frame_in_8 t b octets (Reject nr pf)) (UpBy l n r)) e (search (words, number_up, bit_leads, acknowledged) depth 12 fits 4000)
  reports_8 b octets m other e = absurd e

  pub reports_up : (here : State) → IsTrue (is_multiple_frame here) → (b : Bool) (octets : List ℕ) (m : ℕ) (control : Control) → IsReport m control
      → Leads (Stays l (still l.s) l.a r) (frame_in here t b octets control) (UpBy l (seq m) r)
  reports_up Established up b octets m control e = reports_7 b octets m control e
  reports_up TimerRecovery up b octets m control e = reports_8 b octets m control e
  reports_up other up b octets m control e = absurd (true≢false (sym up))
