-- How steps are put together. The answer for a row is the chain of its words.
use Rattle.lapd_link_steps.proofs.Vocabulary.{◌≡◌, ℕ, Bool, true, false, IsTrue, cond, ◌+◌, ◌-◌, ◌⊎◌, List, Option, Some, None, MatchOption, inl, inr, refl, sym, ap, subst, arith, ◌∙◌, Seq, IsNamed, named, WindowStands, State, Terms, Link, Sent, Course, Step, ◌then◌, nothing, depending_on, by_bit, changed, acknowledge, by_number, pending_is, start, T200, failed, Entity, BareReport, Past, past_of}
use Rattle.lapd_link_steps.proofs.Vocabulary.{link_of, course_of, Fits, Agrees, Does, DoesBy}
use Rattle.lapd_frame.specs.Readings.{by_reading}
use Rattle.lapd_frame.specs.declared.notes.ErrorCode.TheVariants as code
use Rattle.lapd_frame.specs.declared.readings.Reading.{Reading}
use Rattle.lapd_frame.specs.declared.readings.Reading.TheVariants.{Profile, AnnexB}
use Rattle.model_link.specs.declared.counts.LinkCounts.{LinkCounts}
use Rattle.model_link.specs.Counts.{with_information_sent}
use Rattle.model_link.specs.Words.{read_as}
use Rattle.model_link.specs.Offers as offers
use Rattle.model_link.specs.Words as word
use Rattle.lapd_seq.specs.declared.windows.Window.{Window}

-- one step after the other
infixr 10 ◌▹◌
pub ◌▹◌ : {terms : Terms} {info : List ℕ} {f g : Step} {e e' e'' : Entity} {t t' t'' : BareReport} → Does terms info f e t e' t' → Does terms info g e' t' e'' t'' → Does terms info (f then g) e t e'' t''
◌▹◌ {terms} {info} {f} {g} {e} {e'} {e''} {t} {t'} {t''} first second =
    record {
      step = λ messages p fits.
          let now = first.step messages p fits in
          subst (λ (c : Course). Agrees terms info messages (g c) e'' t'') now.is (second.step messages (past_of (f (course_of info e t p))) now.fits);
    }

-- no step
pub does_nothing : {terms : Terms} {info : List ℕ} {e : Entity} {t : BareReport} → Does terms info nothing e t e t
does_nothing = record { step = λ messages p fits. record { fits = fits; is = refl } }

-- a flag, RC or the state is set
still-fits : {terms : Terms} {messages : List (List ℕ)} {e e' : Entity} {t : BareReport} {p : Past} → e'.window ≡ e.window → e'.vr ≡ e.vr → e'.waiting ≡ e.waiting → Fits terms messages e t p → Fits terms messages e' t p
still-fits {p = p} same still ring fits =
    record { window = subst (λ w. WindowStands w p.a p.s) (sym same) fits.window; received = still ∙ fits.received; ring = ap (λ w. w.capacity) ring ∙ fits.ring; queue = fits.queue; few = fits.few; cause = fits.cause; given_up = fits.given_up; whole = fits.whole }

module _ {terms : Terms} {info : List ℕ} {e : Entity} {t : BareReport} where
  pub peer_busy_set : {b : Bool} → Does terms info (word.peer_busy_is b) e t (record e { peer_busy = b }) t
  peer_busy_set = record { step = λ messages p fits. record { fits = still-fits refl refl refl fits; is = refl } }

  pub own_busy_set : {b : Bool} → Does terms info (word.own_busy_is b) e t (record e { own_busy = b }) t
  own_busy_set = record { step = λ messages p fits. record { fits = still-fits refl refl refl fits; is = refl } }

  pub rejecting_set : {b : Bool} → Does terms info (word.rejecting_is b) e t (record e { rejecting = b }) t
  rejecting_set = record { step = λ messages p fits. record { fits = still-fits refl refl refl fits; is = refl } }

  pub pending_set : {b : Bool} → Does terms info (word.pending_is b) e t (record e { pending = b }) t
  pending_set = record { step = λ messages p fits. record { fits = still-fits refl refl refl fits; is = refl } }

  pub asked_set : {b : Bool} → Does terms info (word.asked_is b) e t (record e { asked = b }) t
  asked_set = record { step = λ messages p fits. record { fits = still-fits refl refl refl fits; is = refl } }

  pub owed_set : {b : Bool} → Does terms info (word.owed_is b) e t (record e { owed = b }) t
  owed_set = record { step = λ messages p fits. record { fits = still-fits refl refl refl fits; is = refl } }

  pub repeats_set : {n : ℕ} → Does terms info (word.repeats_are n) e t (record e { repeats = n }) t
  repeats_set = record { step = λ messages p fits. record { fits = still-fits refl refl refl fits; is = refl } }

  pub state_set : {state : State} → Does terms info (word.enter state) e t (record e { state = state }) t
  state_set = record { step = λ messages p fits. record { fits = still-fits refl refl refl fits; is = refl } }

  -- something is counted
  pub counted : (change : LinkCounts → LinkCounts) {k : LinkCounts} → k ≡ change e.counts → Does terms info (word.count change) e t (record e { counts = k }) t
  counted change same = record { step = λ messages p fits. record { fits = still-fits refl refl refl fits; is = ap (λ (k : LinkCounts). record (course_of info e t p) { link = record (link_of e p) { counts = k } }) same } }

  pub one_sent : {w : Window} {n : ℕ} {k : LinkCounts} → ((a s : ℕ) → WindowStands e.window a s → WindowStands w a (s + 1)) → n ≡ e.again - 1 → k ≡ with_information_sent e.again e.counts
      → Does terms info (changed offers.with_one_sent) e t (record e { window = w; again = n; counts = k }) t
  one_sent {k = kept} plain fewer same = record { step = λ messages p fits. record { fits = record { window = plain p.a p.s fits.window; received = fits.received; ring = fits.ring; queue = fits.queue; few = fits.few; cause = fits.cause; given_up = fits.given_up; whole = fits.whole }; is = ap (λ (n : ℕ). record (course_of info e t p) { link = record (link_of e p) { s = p.s + 1; again = n; counts = kept } }) fewer ∙ ap (λ (k : LinkCounts). record (course_of info e t p) { link = record (link_of e p) { s = p.s + 1; again = e.again - 1; counts = k } }) same } }

  pub repeats_more : Does terms info word.repeated e t (record e { repeats = e.repeats + 1 }) t
  repeats_more = record { step = λ messages p fits. record { fits = still-fits refl refl refl fits; is = refl } }

-- a step that comes to the same
pub same_step : {terms : Terms} {info : List ℕ} {f g : Step} {e e' : Entity} {t t' : BareReport} → ((messages : List (List ℕ)) (p : Past) → Fits terms messages e t p → g (course_of info e t p) ≡ f (course_of info e t p)) → Does terms info g e t e' t' → Does terms info f e t e' t'
same_step {terms} {info} {e' = e'} {t' = t'} same done =
    record {
      step = λ messages p fits.
          subst (λ (c : Course). Agrees terms info messages c e' t') (same messages p fits) (done.step messages p fits);
    }

-- the test of a row, known before
pub where_yes : {terms : Terms} {info : List ℕ} {f : Step} {e e' : Entity} {t t' : BareReport} (test : Link → Bool) (g : Step) → ((messages : List (List ℕ)) (p : Past) → Fits terms messages e t p → test (link_of e p) ≡ true) → Does terms info f e t e' t' → Does terms info (depending_on test f g) e t e' t'
where_yes {info = info} {f} {e} {t = t} test g passed done =
    same_step
    (λ messages p fits. ap (λ (b : Bool). cond {A = Course} b (f (course_of info e t p)) (g (course_of info e t p))) (sym (passed messages p fits)))
    done

pub where_no : {terms : Terms} {info : List ℕ} {g : Step} {e e' : Entity} {t t' : BareReport} (test : Link → Bool) (f : Step) → ((messages : List (List ℕ)) (p : Past) → Fits terms messages e t p → test (link_of e p) ≡ false) → Does terms info g e t e' t' → Does terms info (depending_on test f g) e t e' t'
where_no {info = info} {g} {e} {t = t} test f failed done =
    same_step
    (λ messages p fits. ap (λ (b : Bool). cond {A = Course} b (f (course_of info e t p)) (g (course_of info e t p))) (sym (failed messages p fits)))
    done

-- steps by the number that an N(R) names
pub by_then : {terms : Terms} {info : List ℕ} {nr : Seq} {f : ℕ → Step} {g : Step} {e e' e'' : Entity} {t t' t'' : BareReport} → DoesBy terms info nr f e t e' t' → Does terms info g e' t' e'' t'' → DoesBy terms info nr (λ n. f n then g) e t e'' t''
by_then {terms} {info} {f = f} {g} {e} {e'' = e''} {t} {t'' = t''} first second =
    record {
      step = λ messages p n named fits.
          let now = first.step messages p n named fits in
          subst (λ (c : Course). Agrees terms info messages (g c) e'' t'') now.is (second.step messages (past_of (f n (course_of info e t p))) now.fits);
    }

pub acknowledged_then : {terms : Terms} {info : List ℕ} {nr : Seq} {g : ℕ → Step} {e e' e'' : Entity} {t t' t'' : BareReport} → DoesBy terms info nr acknowledge e t e' t' → DoesBy terms info nr g e' t' e'' t'' → DoesBy terms info nr (λ n. acknowledge n then g n) e t e'' t''
acknowledged_then {terms} {info} {g = g} {e} {e'' = e''} {t} {t'' = t''} first second =
    record {
      step = λ messages p n named fits.
          let now = first.step messages p n named fits in
          let still : IsNamed n p.s _ n = record { from = omega arith; to = named.to; remainder = named.remainder } in
          subst (λ (c : Course). Agrees terms info messages (g n c) e'' t'') now.is (second.step messages (past_of (acknowledge n (course_of info e t p))) n still now.fits);
    }

pub by_where_yes : {terms : Terms} {info : List ℕ} {nr : Seq} {f : ℕ → Step} {e e' : Entity} {t t' : BareReport} (test : ℕ → Link → Bool) (g : ℕ → Step) → ((messages : List (List ℕ)) (p : Past) (n : ℕ) → IsNamed p.a p.s nr n → Fits terms messages e t p → test n (link_of e p) ≡ true) → DoesBy terms info nr f e t e' t' → DoesBy terms info nr (λ n. depending_on (test n) (f n) (g n)) e t e' t'
by_where_yes {terms} {info} {f = f} {e} {e'} {t} {t'} test g passed done =
    record {
      step = λ messages p n named fits.
          subst (λ (b : Bool). Agrees terms info messages (cond {A = Course} b (f n (course_of info e t p)) (g n (course_of info e t p))) e' t')
          (sym (passed messages p n named fits))
          (done.step messages p n named fits);
    }

pub by_where_no : {terms : Terms} {info : List ℕ} {nr : Seq} {g : ℕ → Step} {e e' : Entity} {t t' : BareReport} (test : ℕ → Link → Bool) (f : ℕ → Step) → ((messages : List (List ℕ)) (p : Past) (n : ℕ) → IsNamed p.a p.s nr n → Fits terms messages e t p → test n (link_of e p) ≡ false) → DoesBy terms info nr g e t e' t' → DoesBy terms info nr (λ n. depending_on (test n) (f n) (g n)) e t e' t'
by_where_no {terms} {info} {g = g} {e} {e'} {t} {t'} test f failed done =
    record {
      step = λ messages p n named fits.
          subst (λ (b : Bool). Agrees terms info messages (cond {A = Course} b (f n (course_of info e t p)) (g n (course_of info e t p))) e' t')
          (sym (failed messages p n named fits))
          (done.step messages p n named fits);
    }

pub by_bit_yes : {terms : Terms} {info : List ℕ} {nr : Seq} {f : ℕ → Step} {e e' : Entity} {t t' : BareReport} (b : Bool) (g : ℕ → Step) → b ≡ true → DoesBy terms info nr f e t e' t' → DoesBy terms info nr (λ n. by_bit b (f n) (g n)) e t e' t'
by_bit_yes b g is done = by_where_yes (λ _ _. b) g (λ messages p n named fits. is) done

pub by_bit_no : {terms : Terms} {info : List ℕ} {nr : Seq} {g : ℕ → Step} {e e' : Entity} {t t' : BareReport} (b : Bool) (f : ℕ → Step) → b ≡ false → DoesBy terms info nr g e t e' t' → DoesBy terms info nr (λ n. by_bit b (f n) (g n)) e t e' t'
by_bit_no b f is done = by_where_no (λ _ _. b) f (λ messages p n named fits. is) done

-- whatever the number is
pub by_any : {terms : Terms} {info : List ℕ} {nr : Seq} {f : Step} {e e' : Entity} {t t' : BareReport} → Does terms info f e t e' t' → DoesBy terms info nr (λ _. f) e t e' t'
by_any done = record { step = λ messages p n named fits. done.step messages p fits }

-- The N(R) of a row: it names a number, and the row's effect was done, or it names none, and the link failed.
abbrev chosen : Terms → (ℕ → Step) → Course → Option ℕ → Course
chosen t step c o = elim o [ None ↦ failed t code.J c | Some n ↦ step n c ]

number_named : {terms : Terms} {info : List ℕ} {messages : List (List ℕ)} {nr : Seq} {step : ℕ → Step} {e e' : Entity} {t t' : BareReport} {p : Past} (o : Option ℕ) → MatchOption o (true ≡ false) (λ n. IsTrue true × IsNamed p.a p.s nr n) → DoesBy terms info nr step e t e' t' → Fits terms messages e t p → Agrees terms info messages (chosen terms step (course_of info e t p) o) e' t'
number_named None wrong done fits = absurd (cc)
number_named {messages = messages} {p = p} (Some n) is done fits = done.step messages p n is.1 fits

number_unnamed : {terms : Terms} {info : List ℕ} {messages : List (List ℕ)} (nr : Seq) (step : ℕ → Step) {e e' : Entity} {t t' : BareReport} {p : Past} (o : Option ℕ) → MatchOption o (false ≡ false) (λ n. IsTrue false × IsNamed p.a p.s nr n) → Does terms info (failed terms code.J) e t e' t' → Fits terms messages e t p → Agrees terms info messages (chosen terms step (course_of info e t p) o) e' t'
number_unnamed {messages = messages} nr step {p = p} None right done fits = done.step messages p fits
number_unnamed nr step (Some n) wrong done fits = absurd (cc)

abbrev Tells_named : Entity → Seq → Bool → Type 0
Tells_named e nr result = (a s : ℕ) → WindowStands e.window a s → MatchOption (named a s nr) (result ≡ false) (λ n. IsTrue result × IsNamed a s nr n)

pub number_yes : {terms : Terms} {info : List ℕ} {nr : Seq} {step : ℕ → Step} {e e' : Entity} {t t' : BareReport} (b : Bool) → Tells_named e nr b → b ≡ true → DoesBy terms info nr step e t e' t' → Does terms info (by_number terms nr step) e t e' t'
number_yes {nr = nr} {e = e} b told is done =
    let yes = subst (Tells_named e nr) is told in
    record { step = λ messages p fits. number_named (named p.a p.s nr) (yes p.a p.s fits.window) done fits }

pub number_no : {terms : Terms} {info : List ℕ} (nr : Seq) (step : ℕ → Step) {e e' : Entity} {t t' : BareReport} (b : Bool) → Tells_named e nr b → b ≡ false → Does terms info (failed terms code.J) e t e' t' → Does terms info (by_number terms nr step) e t e' t'
number_no nr step {e = e} b told is done =
    let unnamed = subst (Tells_named e nr) is told in
    record { step = λ messages p fits. number_unnamed nr step (named p.a p.s nr) (unnamed p.a p.s fits.window) done fits }

-- a bit, known before
pub bit_yes : {terms : Terms} {info : List ℕ} {f : Step} {e e' : Entity} {t t' : BareReport} (b : Bool) (g : Step) → b ≡ true → Does terms info f e t e' t' → Does terms info (by_bit b f g) e t e' t'
bit_yes {info = info} {f} {e} {t = t} b g is done =
    same_step (λ messages p fits. ap (λ (v : Bool). by_bit v f g (course_of info e t p)) (sym is)) done

pub bit_no : {terms : Terms} {info : List ℕ} {g : Step} {e e' : Entity} {t t' : BareReport} (b : Bool) (f : Step) → b ≡ false → Does terms info g e t e' t' → Does terms info (by_bit b f g) e t e' t'
bit_no {info = info} {g} {e} {t = t} b f is done =
    same_step (λ messages p fits. ap (λ (v : Bool). by_bit v f g (course_of info e t p)) (sym is)) done

-- the reading, known before
pub as_profile : {terms : Terms} (read : Terms) {info : List ℕ} {f : Step} {e e' : Entity} {t t' : BareReport} (g : Step) → read.reading ≡ Profile → Does terms info f e t e' t' → Does terms info (read_as read f g) e t e' t'
as_profile read {info = info} {f} {e} {t = t} g is done =
    same_step (λ messages p fits. ap (λ (r : Reading). by_reading r (f (course_of info e t p)) (g (course_of info e t p))) (sym is)) done

pub as_annex_b : {terms : Terms} (read : Terms) {info : List ℕ} {g : Step} {e e' : Entity} {t t' : BareReport} (f : Step) → read.reading ≡ AnnexB → Does terms info g e t e' t' → Does terms info (read_as read f g) e t e' t'
as_annex_b read {info = info} {g} {e} {t = t} f is done =
    same_step (λ messages p fits. ap (λ (r : Reading). by_reading r (f (course_of info e t p)) (g (course_of info e t p))) (sym is)) done

-- the state, known before
pub by_state : {terms : Terms} {info : List ℕ} (f : State → Step) {e e' : Entity} {t t' : BareReport} (state : State) → e.state ≡ state → Does terms info (f state) e t e' t' → Does terms info (λ c. f c.link.state c) e t e' t'
by_state {info = info} f {e} {t = t} state is done =
    same_step (λ messages p fits. ap (λ (s : State). f s (course_of info e t p)) (sym is)) done

pub by_either : {terms : Terms} {info : List ℕ} (f : State → Step) {e e' : Entity} {t t' : BareReport} {one : State} {Others : Type 0} → (e.state ≡ one) ⊎ Others → Does terms info (f one) e t e' t' → (Others → Does terms info (λ c. f c.link.state c) e t e' t') → Does terms info (λ c. f c.link.state c) e t e' t'
by_either f {one = one} (inl is) first others = by_state f one is first
by_either f (inr more) first others = others more

-- what a step takes, known before
pub with_known : {X : Type 0} {terms : Terms} {info : List ℕ} (f : X → Step) {e e' : Entity} {t t' : BareReport} (x y : X) → x ≡ y → Does terms info (f y) e t e' t' → Does terms info (f x) e t e' t'
with_known {terms = terms} {info} f {e} {e'} {t} {t'} x y is done = subst (λ z. Does terms info (f z) e t e' t') (sym is) done

pub by_known : {X : Type 0} {terms : Terms} {info : List ℕ} {nr : Seq} (f : X → ℕ → Step) {e e' : Entity} {t t' : BareReport} (x y : X) → x ≡ y → DoesBy terms info nr (f y) e t e' t' → DoesBy terms info nr (f x) e t e' t'
by_known {terms = terms} {info} {nr} f {e} {e'} {t} {t'} x y is done = subst (λ z. DoesBy terms info nr (f z) e t e' t') (sym is) done

-- what is sent is no part of what an entity holds
pub gives : {terms : Terms} {info : List ℕ} {e : Entity} {t : BareReport} (sent : Course → Option Sent) → Does terms info (λ c. record c { sent = sent c }) e t e t
gives sent =
    record {
      step = λ messages p fits.
          record {
            fits = record { window = fits.window; received = fits.received; ring = fits.ring; queue = fits.queue; few = fits.few; cause = fits.cause; given_up = fits.given_up; whole = fits.whole };
            is = refl;
          };
    }

-- what is sent as an I-frame
sent-awaited : (b : Bool) (c : Course) → (by_bit b nothing (start T200) c).sent ≡ c.sent
sent-awaited true c = refl
sent-awaited false c = refl

pub sent-information : (c : Course) → (offers.send_information c).sent ≡ Some (record { frame = offers.next_information c.link; contents = offers.first_unsent c.link })
sent-information c =
    let then_sent : Course = (offers.give_information then changed offers.with_one_sent then pending_is false) c in
    sent-awaited (offers.is_awaiting_acknowledgement then_sent.link) then_sent
