-- What an observer knows of a link, and when its timers are started anew: what each row comes to, over plain values.
use Rattle.laws_trace.proofs.Vocabulary.{◌≡◌, ℕ, ◌+◌, ◌%◌, ◌≤◌, ◌<◌, ◌==◌, ◌&&◌, ◌||◌, Bool, true, false, cond, not, Option, Some, None, refl, sym, ap, ◌∙◌, subst, arith, eq-eqb, true≢false, nat_lt, option_map_or, Information, ReceiveReady, ReceiveNotReady, Reject, Sabme, Ua, Seq, named, seq-value, State, TeiAssigned, AwaitingEstablishment, AwaitingRelease, Established, TimerRecovery, LinkTimer}
use Rattle.laws_trace.proofs.Vocabulary.{state_number, runs, named-within, named-is_seq, eqb-true, ltb-true, ltb-false, Control, T200, T203}
use Rattle.laws_trace.proofs.TimersWatched.{Known, nothing_yet, number_heard, listens, renews}
use Rattle.laws_trace.proofs.States.{is_state, differ}
use Rattle.laws_trace.proofs.TimerActs.{Timing, by_name, starts, begins, ends, awaits, fails, acknowledges, with_busy, informs, supervises, informed, recovers}
use Rattle.laws_trace.proofs.TimerActs as acts

-- What is known is true in states 7 and 8, and in the others nothing is kept in mind.
pub record IsKnown (k : Known) (a s : ℕ) (busy : Bool) : Type 0 where
  pub acknowledged : k.acknowledged ≡ a % 128
  pub next : k.next ≡ s % 128
  pub busy_is : k.busy ≡ busy

abbrev pub Agrees : State → Known → ℕ → ℕ → Bool → Type 0
Agrees Established k a s busy = IsKnown k a s busy
Agrees TimerRecovery k a s busy = IsKnown k a s busy
Agrees other k a s busy = k ≡ nothing_yet

abbrev pub told_state : State → Option ℕ
told_state state = Some (state_number state)

-- What is known behind a control field that is heard, or behind none.
abbrev pub heard_by : State → State → Known → Option Control → Known
heard_by from to k o =
    let in_7 = is_state 7 (told_state to) in
    cond (in_7 || is_state 8 (told_state to)) (option_map_or (listens (is_state 8 (told_state from) && in_7) in_7 k) o k) nothing_yet

abbrev pub anew_by : LinkTimer → State → State → Known → Option Control → Bool
anew_by timer from to k o = differ (told_state from) (told_state to) || (is_state 7 (told_state from) && option_map_or (renews timer k) o false)

-- In state 5 V(A) and V(S) are as they were where the link came there.
abbrev pub Kept : State → Timing → Timing → Type 0
Kept AwaitingEstablishment x y = (y.a ≡ x.a) × (y.s ≡ x.s)
Kept other x y = Unit {0}

-- A timer that ran, which had not just expired, and that runs afterwards, is started exactly where one of the causes is there.
pub record Good (k : Known) (ran : LinkTimer → Bool) (x y : Timing) (o : Option Control) : Type 0 where
  pub agrees : Agrees y.state (heard_by x.state y.state k o) y.a y.s y.busy
  pub anew : (timer : LinkTimer) → ran timer ≡ true → runs timer y.running ≡ true → runs timer y.started ≡ anew_by timer x.state y.state k o
  pub kept : Kept y.state x y

-- But for V(A) and V(S), which layer 3 may move in state 5.
pub record Fair (k : Known) (ran : LinkTimer → Bool) (x y : Timing) (o : Option Control) : Type 0 where
  pub agrees : Agrees y.state (heard_by x.state y.state k o) y.a y.s y.busy
  pub anew : (timer : LinkTimer) → ran timer ≡ true → runs timer y.running ≡ true → runs timer y.started ≡ anew_by timer x.state y.state k o

pub fair : (k : Known) (ran : LinkTimer → Bool) (x y : Timing) (o : Option Control) → Good k ran x y o → Fair k ran x y o
fair k ran x y o h = record { agrees = h.agrees; anew = h.anew }

not-both : {X : Type 0} (b : Bool) → b ≡ false → b ≡ true → X
not-both b none some = absurd (true≢false (sym some ∙ none))

not-t200 : {X : Type 0} → runs T200 (Some T203) ≡ true → X
not-t200 e = cc e

module _ (k : Known) (ran : LinkTimer → Bool) (a s : ℕ) (busy : Bool) (r : Option LinkTimer) where
  abbrev pub at : State → Timing
  at state = record { state = state; a = a; s = s; busy = busy; running = r; started = None }

  -- No timer runs afterwards, or none but T200, which awaits the answer to DISC.
  pub ended : (from : State) (o : Option Control) → Good k ran (at from) (ends (at from)) o
  ended from o = record { agrees = refl; anew = λ timer was now. not-both false refl now; kept = tt }

  pub stopped : (from : State) (o : Option Control) → Good k ran (at from) (record (acts.stops (at from)) { state = TeiAssigned }) o
  stopped from o = record { agrees = refl; anew = λ timer was now. not-both false refl now; kept = tt }

  pub released-7 : Good k ran (at Established) (record (awaits AwaitingRelease (at Established)) { s = a }) None
  released-7 = grind arith

  pub released-8 : Good k ran (at TimerRecovery) (record (awaits AwaitingRelease (at TimerRecovery)) { s = a }) None
  released-8 = grind arith

  -- The link is down: no timer ran.
  module _ (none : (timer : LinkTimer) → ran timer ≡ false) where
    never : {X : Type 0} (timer : LinkTimer) → ran timer ≡ true → X
    never timer some = not-both (ran timer) (none timer) some

    pub same-4 : (o : Option Control) → Good k ran (at TeiAssigned) (at TeiAssigned) o
    same-4 o = record { agrees = refl; anew = λ timer was now. never timer was; kept = tt }

    pub sabme-4 : (p : Bool) → Good k ran (at TeiAssigned) (with_busy false (begins (at TeiAssigned))) (Some (Sabme p))
    sabme-4 p = record { agrees = record { acknowledged = refl; next = refl; busy_is = refl }; anew = λ timer was now. never timer was; kept = tt }

    pub asked-4 : Good k ran (at TeiAssigned) (fails (at TeiAssigned)) None
    asked-4 = record { agrees = refl; anew = λ timer was now. never timer was; kept = (refl, refl) }

  -- T200 runs, and it awaits an answer to SABME or DISC.
  module _ (only : ran T203 ≡ false) where
    by-t200 : (y : Timing) (from : State) (o : Option Control) → (ran T200 ≡ true → runs T200 y.running ≡ true → runs T200 y.started ≡ anew_by T200 from y.state k o)
        → (timer : LinkTimer) → ran timer ≡ true → runs timer y.running ≡ true → runs timer y.started ≡ anew_by timer from y.state k o
    by-t200 y from o h timer was now = grind (arith, not-both)

    pub same-5 : (o : Option Control) → Good k ran (at AwaitingEstablishment) (at AwaitingEstablishment) o
    same-5 o = record { agrees = refl; anew = λ timer was now. refl; kept = (refl, refl) }

    pub agreed-5 : k ≡ nothing_yet → busy ≡ false → Good k ran (at AwaitingEstablishment) (begins (at AwaitingEstablishment)) (Some (Ua true))
    agreed-5 none calm = grind (arith, by-t200, begins, not-t200)

    -- The release that is owed is carried out. Layer 3 decides, and gives up what is kept.
    pub carried-5 : (o : Option Control) → Good k ran (at AwaitingEstablishment) (record (awaits AwaitingRelease (at AwaitingEstablishment)) { a = 0; s = 0 }) o
    carried-5 o = grind (arith, by-t200)

    pub decided-5 : (o : Option Control) → Fair k ran (at AwaitingEstablishment) (record (at AwaitingEstablishment) { s = a }) o
    decided-5 o = record { agrees = refl; anew = λ timer was now. refl }

    pub same-6 : (o : Option Control) → Good k ran (at AwaitingRelease) (at AwaitingRelease) o
    same-6 o = record { agrees = refl; anew = λ timer was now. refl; kept = tt }

    -- State 8, in which T200 runs.
    module _ (known : IsKnown k a s busy) where
      pub same-8 : (o : Option Control) → option_map_or (listens false false k) o k ≡ k → Good k ran (at TimerRecovery) (at TimerRecovery) o
      same-8 o same = record { agrees = subst (λ k. IsKnown k a s busy) (sym same) known; anew = λ timer was now. refl; kept = tt }

      pub failed-8 : (b : Bool) (o : Option Control) → Good k ran (at TimerRecovery) (fails (with_busy b (at TimerRecovery))) o
      failed-8 b o = record { agrees = refl; anew = by-t200 (fails (with_busy b (at TimerRecovery))) TimerRecovery o (λ was now. refl); kept = (refl, refl) }

      pub sabme-8 : (p : Bool) → Good k ran (at TimerRecovery) (with_busy false (begins (at TimerRecovery))) (Some (Sabme p))
      sabme-8 p = grind (arith, by-t200, with_busy, begins, not-t200)

      pub informed-8 : (over : Bool) (ns nr : Seq) (p : Bool) → Good k ran (at TimerRecovery) (informs over nr acknowledges (at TimerRecovery)) (Some (Information ns nr p))
      informed-8 over ns nr p = grind (arith, failed-8, by_name, fails, acknowledges, seq-value, named-is_seq)

      -- RR, RNR and REJ: a response with F=1 ends the recovery
      pub supervised-8 : (b : Bool) (timer : LinkTimer) (o : Option Control) (nr : Seq) → option_map_or (listens false false k) o k ≡ number_heard nr.value false b k
          → option_map_or (listens true true k) o k ≡ number_heard nr.value true b k → (final : Bool)
          → Good k ran (at TimerRecovery) (supervises b nr (recovers timer final) (at TimerRecovery)) o
      supervised-8 b timer o nr stays leads final = grind (arith, by_name, fails, recovers, with_busy, failed-8, seq-value, named-is_seq, by-t200)

  -- State 7: T200 runs where an acknowledgement is awaited, or the terminal is busy, else T203.
  module _ (ordered : a ≤ s) (within : s ≤ a + 127) (known : IsKnown k a s busy) (idle : ran T203 ≡ true → (s ≡ a) × (busy ≡ false)) where
    pub same-7 : (o : Option Control) → option_map_or (listens false true k) o k ≡ k → ((timer : LinkTimer) → option_map_or (renews timer k) o false ≡ false)
        → Good k ran (at Established) (at Established) o
    same-7 o same none = record { agrees = subst (λ k. IsKnown k a s busy) (sym same) known; anew = λ timer was now. sym (none timer); kept = tt }

    pub failed-7 : (b : Bool) (o : Option Control) → Good k ran (at Established) (fails (with_busy b (at Established))) o
    failed-7 b o = record { agrees = refl; anew = λ timer was now. grind arith; kept = (refl, refl) }

    by-t200-7 : (o : Option Control) (timer : LinkTimer) → option_map_or (renews T200 k) o false ≡ true → runs timer (Some T200) ≡ true
        → runs timer (Some T200) ≡ anew_by timer Established Established k o
    by-t200-7 o timer renewed now = grind arith

    pub sabme-7 : (p : Bool) → Good k ran (at Established) (with_busy false (begins (at Established))) (Some (Sabme p))
    sabme-7 p = grind (arith, not-t200)

    value-7 : (nr : Seq) (n : ℕ) → named a s nr ≡ Some n → nr.value ≡ n % 128
    value-7 nr n is = seq-value nr n (named-is_seq a s n nr is)

    -- an N(R) that acknowledges an I-frame is another than the last; one that does not is the last
    other-number : (nr : Seq) (n : ℕ) → named a s nr ≡ Some n → a < n → not (nr.value == k.acknowledged) ≡ true
    other-number nr n is more = go (nr.value == k.acknowledged) refl
      where
        go : (b : Bool) → (nr.value == k.acknowledged) ≡ b → not b ≡ true
        go false e = refl
        go true e = absurd (omega (arith, value-7, eqb-true, more, named-within, within))

    -- RR, and I while the terminal is not busy
    module _ (o : Option Control) (nr : Seq) (again : Bool) (heard : option_map_or (listens false true k) o k ≡ number_heard nr.value false again k)
        (t200_by : option_map_or (renews T200 k) o false ≡ not (nr.value == k.acknowledged)) (t203_by : option_map_or (renews T203 k) o false ≡ true) where
      pub acknowledged-7 : (n : ℕ) → named a s nr ≡ Some n → Good k ran (at Established) (acts.acknowledged n (with_busy again (at Established))) o
      acknowledged-7 n is = go (n == s) refl (nat_lt a n) refl
        where
          x : Timing
          x = with_busy again (at Established)

          numbers : (m : ℕ) → n ≡ m → IsKnown (option_map_or (listens false true k) o k) m s again
          numbers m same = grind (arith, value-7)

          go : (all : Bool) → (n == s) ≡ all → (more : Bool) → nat_lt a n ≡ more
              → Good k ran (at Established) (cond all (starts T203 (acknowledges n x)) (cond more (starts T200 (acknowledges n x)) x)) o
          go true e more f = record { agrees = numbers n refl; anew = λ timer was now. grind (arith, not-t200); kept = tt }
          go false e true f = record {
            agrees = numbers n refl;
            anew = λ timer was now. by-t200-7 o timer (t200_by ∙ other-number nr n is (ltb-true a n f)) now;
            kept = tt;
          }
          go false e false f =
              let same : n ≡ a = omega (arith, named-within, ltb-false) in
              record { agrees = numbers a same; anew = λ timer was now. grind (arith, value-7, eq-eqb); kept = tt }

    pub ready-7 : (nr : Seq) (p : Bool) → Good k ran (at Established) (supervises false nr acts.acknowledged (at Established)) (Some (ReceiveReady nr p))
    ready-7 nr p = go (named a s nr) refl
      where
        go : (o : Option ℕ) → named a s nr ≡ o → Good k ran (at Established) (by_name o fails acts.acknowledged (with_busy false (at Established))) (Some (ReceiveReady nr p))
        go None is = failed-7 false (Some (ReceiveReady nr p))
        go (Some n) is = acknowledged-7 (Some (ReceiveReady nr p)) nr false refl refl refl n is

    pub not-ready-7 : (nr : Seq) (p : Bool)
        → Good k ran (at Established) (supervises true nr (λ n x. starts T200 (acknowledges n x)) (at Established)) (Some (ReceiveNotReady nr p))
    not-ready-7 nr p = grind (arith, by_name, fails, starts, acknowledges, with_busy, failed-7, value-7, by-t200-7)

    pub reject-7 : (nr : Seq) (p : Bool)
        → Good k ran (at Established) (supervises false nr (λ n x. record (starts T203 x) { a = n; s = n }) (at Established)) (Some (Reject nr p))
    reject-7 nr p = grind (arith, failed-7, value-7, not-t200)

    pub informed-7 : (over : Bool) (ns nr : Seq) (p : Bool) → Good k ran (at Established) (informs over nr informed (at Established)) (Some (Information ns nr p))
    informed-7 true ns nr p = failed-7 busy (Some (Information ns nr p))
    informed-7 false ns nr p = grind (arith, failed-7, o, by-busy)
      where
        o : Option Control
        o = Some (Information ns nr p)

        -- the terminal is busy, so T200 runs
        while-busy : busy ≡ true → (timer : LinkTimer) → ran timer ≡ true → false ≡ option_map_or (renews timer k) o false
        while-busy is timer was = grind (arith, not-both)

        by-busy : (b : Bool) → busy ≡ b → (n : ℕ) → named a s nr ≡ Some n → Good k ran (at Established) (cond b (acknowledges n (at Established)) (acts.acknowledged n (at Established))) o
        by-busy true is n names = grind (arith, value-7, while-busy)
        by-busy false is n names =
            acknowledged-7 o nr busy (ap (λ b. number_heard nr.value false b k) known.busy_is)
            (ap (λ b. not b && not (nr.value == k.acknowledged)) (known.busy_is ∙ is)) refl n names
