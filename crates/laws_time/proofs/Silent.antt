-- How a link of which nothing is heard goes on, and how long each step takes: over plain values.
use Rattle.laws_time.proofs.Vocabulary.{Answer, AreAtLines, Bool, Clock, Config, Event, IsInRange, Lengths, LinkTimer, List, Note, Observed, Service, Some, T200, T203, TimedCard, Timer, View, [], anew, ap, append-nil, append_assoc, arith, at, awaits, by_event, by_t200, cond, counted, enquires, eq-eqb, eqb-true, expiry, false, in_state, inl, inr, is_anew, is_on, is_stirred}
use Rattle.laws_time.proofs.Vocabulary.{le-ltb, ltb-true, may_repeat, moment_at as moment_of, mul-le, nat_le, news_in, next, not, notes_due, of_frames, refl, request, runs, subst, sym, timer_of, told_in, tries, true, true≢false, view_behind, view_of, ℕ, ◌*◌, ◌++◌, ◌+◌, ◌-◌, ◌<◌, ◌==◌, ◌||◌, ◌∙◌, ◌∷◌, ◌≡◌, ◌≤◌, ◌⊎◌}
use Rattle.lapd_frame.specs.declared.timers.Timer.TheVariants as timers
use Rattle.model_line.specs.Event as line_event
use Rattle.model_card.specs.Card as cards
use Rattle.model_line.specs.Event.{hears}
use Rattle.model_line.specs.Line.{repeats_in}
use Rattle.laws_time.proofs.TimedFrames.{with_event}
use Rattle.laws_time.proofs.Links.{view-then, stays-on}
use Rattle.laws_time.proofs.Sending.{sends-on}
use Rattle.laws_time.proofs.Effects.{IsLike, is_its_expiry, calm, same-awaits, none-renews, no-news, like-self}
use Rattle.laws_time.proofs.Walk.{Stands, Holds, seen, step, q-is, own-news}
use Rattle.laws_time.proofs.Before.{Goes, t200-leads, t203-leads, expired-anew}

pub one-more : (n x : ℕ) → (n + 1) * x ≡ x + n * x
one-more n x = grind arith

-- what is left of all that a command takes, after so many repeats
pub left-in-all : (c : Config) (state e x : ℕ) → (repeats_in c state - e) * x + x ≤ tries c * x
left-in-all c state e x = omega (arith, mul-le (repeats_in c state - e) x (repeats_in c state) x (omega arith) (omega arith), one-more (repeats_in c state) x)

module _ (c : Config) (t200 late first all : ℕ) where
  abbrev pub pause : ℕ
  pause = t200 + late

  abbrev pub whole : ℕ
  whole = tries c * pause

  abbrev pub left : ℕ → ℕ → ℕ
  left state expiries = (repeats_in c state - expiries) * pause

  -- The moment of T200, in a state and after so many expiries; and that of T203.
  abbrev pub limit : ℕ → ℕ
  limit state = cond {A = ℕ} (state == 5 || state == 6) all first

  abbrev pub Due200 : ℕ → ℕ → ℕ → Type 0
  Due200 state expiries m = m + late + (cond {A = ℕ} (state == 7) whole (left state expiries)) ≤ limit state

  abbrev pub Due203 : ℕ → Type 0
  Due203 m = m + late + pause + whole ≤ first

  -- What T200 leads to that falls due at m, where it is now.
  module _ (now m : ℕ) (late_is : now ≤ m + late) where
    pub enquiry-203 : Due203 m → Due200 8 0 (now + t200)
    enquiry-203 h = omega (arith, h, left-in-all c 8 0 pause, late_is)

    pub sent : (e : ℕ) → Due203 m → Due200 7 e (now + t200)
    sent e h = omega (arith, h, late_is)

-- What is still owed to be told, in a state.
abbrev pub owed : Service → ℕ → Bool → ℕ → List Note
owed service tei release state = cond (state == 4) [] (told_in state release service tei)

abbrev pub owed_of : Service → ℕ → Observed → List Note
owed_of service tei o = owed service tei o.owed o.state

pub record IsPhase (o : Observed) : Type 0 where
  pub least : 4 ≤ o.state
  pub most : o.state ≤ 8

-- What an expiry leads to.
module _ (c : Config) (service : Service) (tei : ℕ) (a : Answer) (timer : Timer) (o : Observed) where
  by-state : awaits o ≡ true → (o.state ≡ 5) ⊎ ((o.state ≡ 6) ⊎ ((o.state ≡ 8) ⊎ (o.state ≡ 7)))
  by-state waits = grind (arith, eqb-true)

  lead-7 : o.state ≡ 7 → awaits o ≡ true → by_t200 c o ≡ enquires (counted c) o
  lead-7 is waits = grind arith

  lead-more : awaits o ≡ true → (o.state == 7) ≡ false → may_repeat c o ≡ true → by_t200 c o ≡ record o { expiries = o.expiries + 1 }
  lead-more waits other less = grind arith

  lead-8 : o.state ≡ 8 → may_repeat c o ≡ false → by_t200 c o ≡ anew o
  lead-8 is none = grind arith

  lead-56 : awaits o ≡ true → (o.state == 7) ≡ false → (o.state == 8) ≡ false → may_repeat c o ≡ false → by_t200 c o ≡ in_state 4
  lead-56 waits not_7 not_8 none = grind arith

  pub notes-none : (q : Observed) → 4 ≤ o.state → (q.state ≡ o.state) ⊎ ((o.state ≡ 7) × (q.state ≡ 8)) → notes_due c service tei o q (expiry timer) a ≡ []
  notes-none q h1z h2z = grind arith

  -- all of it
  module _ (t200 late first all : ℕ) where
    pub record Leads (q : Observed) : Type 0 where
      pub phase : IsPhase q
      pub told : owed_of service tei o ≡ notes_due c service tei o q (expiry timer) a ++ owed_of service tei q
      pub due : (now m : ℕ) → now ≤ m + late → Due200 c t200 late first all o.state o.expiries m → (nat_le 7 o.state ≡ true → first + whole c t200 late first all ≤ all) → runs T200 q ≡ true
          → Due200 c t200 late first all q.state q.expiries (now + t200)
      pub no_t203 : runs T203 q ≡ false
      pub wait : nat_le 7 q.state ≡ true → nat_le 7 o.state ≡ true

    leads-7 : o.state ≡ 7 → Leads (enquires (counted c) o)
    leads-7 is = grind arith

    leads-more : awaits o ≡ true → (o.state == 7) ≡ false → may_repeat c o ≡ true → IsPhase o → Leads (record o { expiries = o.expiries + 1 })
    leads-more waits other less phase = grind (arith, notes-none, ltb-true, not, awaits)

    leads-8 : o.state ≡ 8 → Leads (anew o)
    leads-8 is = grind arith

    leads-down : (o.state ≡ 5) ⊎ (o.state ≡ 6) → Leads (in_state 4)
    leads-down h = grind arith

    pub leads : awaits o ≡ true → IsPhase o → Leads (by_t200 c o)
    leads waits phase = grind (arith, by-state, may_repeat, by_t200, lead-7, leads-7, lead-more, leads-more, lead-56, leads-down, lead-8, leads-8)

-- ---- a timed card, of a link of which nothing is heard any more

only-7 : (o q : Observed) → q.state ≡ o.state → awaits o ≡ false → awaits q ≡ true → o.state ≡ 7
only-7 o q same none some = grind (arith, eqb-true)

pub idle-7 : (o : Observed) → o.state ≡ 7 → awaits o ≡ false → runs T203 o ≡ true
idle-7 o is none = grind arith

pub never-both : (o : Observed) → runs T203 o ≡ true → (o.state ≡ 7) × (awaits o ≡ false)
never-both o run = grind (arith, eqb-true)

idle-200 : (c : Config) (o : Observed) → awaits o ≡ false → by_t200 c o ≡ o
idle-200 c o none = grind arith

not-anew : (c : Config) (service : Service) (tei : ℕ) (timer : LinkTimer) (its : Timer) (o : Observed) → is_anew c service tei timer o o (expiry its) ≡ false
not-anew c service tei timer its o = grind (arith, le-ltb, eq-eqb)

not-or : (r a : Bool) → a ≡ false → (not r || a) ≡ true → r ≡ false
not-or r a none some = grind arith

busy-7 : (o : Observed) → o.state ≡ 7 → runs T203 o ≡ false → awaits o ≡ true
busy-7 o is none = grind arith

module _ (c : Config) (lengths : Lengths) (late number : ℕ) (ranged : IsInRange c) (within : number < c.lines) (service : Service) (tei first all : ℕ) where
  abbrev o_of : List Event → Observed
  o_of events = seen c lengths late number ranged within service tei events

  abbrev D200 : Observed → ℕ → Type 0
  D200 o m = Due200 c lengths.t200 late first all o.state o.expiries m

  abbrev D203 : ℕ → Type 0
  D203 m = Due203 c lengths.t200 late first all m

  abbrev Has : LinkTimer → List Event → Clock → (ℕ → Type 0) → Type 0
  Has timer events clock P = Holds c lengths late number ranged within service tei timer events clock P

  abbrev Stand : List Event → TimedCard → Type 0
  Stand events t = Stands c lengths late number ranged within service tei events t

  like-due : (o q : Observed) → IsLike o q → (m : ℕ) → D200 o m → D200 q m
  like-due o q like m h = grind arith

  -- An event of the line that moves nothing.
  module _ (events : List Event) (t : TimedCard) (s : Stand events t) (what : line_event.Event) where
    abbrev o : Observed
    o = seen c lengths late number ranged within service tei events

    abbrev q : Observed
    q = (view_behind c service tei number events what).link

    abbrev q' : Observed
    q' = seen c lengths late number ranged within service tei (events ++ at number what ∷ [])

    is-q : q' ≡ q
    is-q = q-is c lengths late number ranged within service tei events t s what T200

    begun-less : (timer : LinkTimer) → is_anew c service tei timer o q what ≡ false → (not (runs timer o) || is_anew c service tei timer o q what) ≡ true → runs timer o ≡ false
    begun-less timer none begun = not-or (runs timer o) (is_anew c service tei timer o q what) none begun

    pub calm-200 : IsLike o q → is_anew c service tei T200 o q what ≡ false → Has T200 events t.clock (D200 o) → Has T203 events t.clock D203 → (Has T200 (events ++ at number what ∷ []) (with_event (at number what) t).clock (D200 q'))
    calm-200 like none h200 h203 =
        step c lengths late number ranged within service tei events t s what T200 (D200 o) (D200 q') (λ run same. h200 run)
        (λ run m late_is h. subst (λ q. D200 q m) (sym is-q) (like-due o q like m h))
        (λ begun run. subst (λ q. D200 q (t.clock.now + lengths.t200)) (sym is-q) (from-203 (begun-less T200 none begun) run))
      where
        from-203 : runs T200 o ≡ false → runs T200 q ≡ true → D200 q (t.clock.now + lengths.t200)
        from-203 idle run =
            let at_7 = only-7 o q like.state idle run in let d = h203 (idle-7 o at_7 idle) in
            subst (λ s. Due200 c lengths.t200 late first all s q.expiries (t.clock.now + lengths.t200)) (sym (like.state ∙ at_7))
            (sent c lengths.t200 late first all t.clock.now d.0 d.2 q.expiries d.3)

    pub calm-203 : IsLike o q → is_anew c service tei T203 o q what ≡ false → (o.state ≡ 7 → awaits o ≡ true → awaits q ≡ true) → Has T203 events t.clock D203 → (Has T203 (events ++ at number what ∷ []) (with_event (at number what) t).clock D203)
    calm-203 like none keeps h203 =
        step c lengths late number ranged within service tei events t s what T203 D203 D203 (λ run same. h203 run) (λ run m late_is h. h)
        (λ begun run. absurd (not-so (begun-less T203 none begun) run))
      where
        not-so : runs T203 o ≡ false → runs T203 q ≡ true → ⊥
        not-so idle run = let now_7 = never-both q run in let at_7 = sym like.state ∙ now_7.0 in true≢false (sym (keeps at_7 (busy-7 o at_7 idle)) ∙ now_7.1)

  pub record Waits (whole_told : List Note) (events : List Event) (t : TimedCard) (told : List Note) : Type 0 where
    pub goes : Goes c lengths late number ranged within service tei events t
    pub on : is_on tei (view_of c service tei number events).teis ≡ true
    pub phase : IsPhase (o_of events)
    pub told_is : told ++ owed_of service tei (o_of events) ≡ whole_told
    pub wait : nat_le 7 (o_of events).state ≡ true → first + whole c lengths.t200 late first all ≤ all
    pub t200 : Has T200 events t.clock (D200 (o_of events))
    pub t203 : Has T203 events t.clock D203

  -- An event of the line, from a clock in which the timers are held but the one that expires.
  module _ (whole_told : List Note) (events : List Event) (t u : TimedCard) (told : List Note) (w : Waits whole_told events t told) (s : Stand events u) (what : line_event.Event)
      (on_then : is_on tei (view_behind c service tei number events what).teis ≡ true)
      (g : Goes c lengths late number ranged within service tei (events ++ at number what ∷ []) (with_event (at number what) u)) where
    abbrev Result : Type 0
    Result = Waits whole_told (events ++ at number what ∷ []) (with_event (at number what) u) (told ++ news_in of_frames service tei number (Some (at number what)) u.card)

    abbrev r : Observed
    r = (view_behind c service tei number events what).link

    r-is : o_of (events ++ at number what ∷ []) ≡ r
    r-is = is-q events u s what

    on-after : is_on tei (view_of c service tei number (events ++ at number what ∷ [])).teis ≡ true
    on-after = ap (λ (v : View). is_on tei v.teis) (view-then c service tei number events (at number what)) ∙ on_then

    pub waits-calm : IsLike (o_of events) r → ((timer : LinkTimer) → is_anew c service tei timer (o_of events) r what ≡ false) → ((o_of events).state ≡ 7 → awaits (o_of events) ≡ true → awaits r ≡ true)
        → notes_due c service tei (o_of events) r what (moment_of c events number what).answer ≡ [] → Has T200 events u.clock (D200 (o_of events)) → Has T203 events u.clock D203 → Result
    waits-calm like none keeps quiet h200 h203 = record {
      goes = g;
      on = on-after;
      phase = subst IsPhase (sym r-is) (record { least = subst (λ n. 4 ≤ n) (sym like.state) w.phase.least; most = subst (λ n. n ≤ 8) (sym like.state) w.phase.most });
      told_is = ap (λ ns. (told ++ ns) ++ owed_of service tei (o_of (events ++ at number what ∷ []))) (own-news c lengths late number ranged within service tei events u s what ∙ quiet)
          ∙ ap (λ ns. ns ++ owed_of service tei (o_of (events ++ at number what ∷ []))) (append-nil told)
          ∙ ap (λ (o : Observed). told ++ owed_of service tei o) r-is ∙ (λ i. told ++ owed service tei (like.owed i) (like.state i)) ∙ w.told_is;
      wait = λ up. w.wait (ap (nat_le 7) (sym like.state ∙ ap (λ (o : Observed). o.state) (sym r-is)) ∙ up);
      t200 = calm-200 events u s what like (none T200) h200 h203;
      t203 = calm-203 events u s what like (none T203) keeps h203;
    }

  -- One of its timers expires: the clock is without it.
  module _ (whole_told : List Note) (events : List Event) (t u : TimedCard) (told : List Note) (w : Waits whole_told events t told) (s : Stand events u) (same_now : u.clock.now ≡ t.clock.now) where
    abbrev r_of : Timer → Observed
    r_of timer = (view_behind c service tei number events (expiry timer)).link

    abbrev OnThen : Timer → Type 0
    OnThen timer = is_on tei (view_behind c service tei number events (expiry timer)).teis ≡ true

    abbrev GoesThen : Timer → Type 0
    GoesThen timer = Goes c lengths late number ranged within service tei (events ++ at number (expiry timer) ∷ []) (with_event (at number (expiry timer)) u)

    abbrev ResultOf : Timer → Type 0
    ResultOf timer = Waits whole_told (events ++ at number (expiry timer) ∷ []) (with_event (at number (expiry timer)) u) (told ++ news_in of_frames service tei number (Some (at number (expiry timer))) u.card)

    -- One that does not run, which does nothing.
    pub idle : (timer : Timer) → OnThen timer → GoesThen timer → r_of timer ≡ (o_of events) → Has T200 events u.clock (D200 (o_of events)) → Has T203 events u.clock D203 → ResultOf timer
    idle timer on g same h200 h203 =
        waits-calm whole_told events t u told w s (expiry timer) on g (subst (IsLike (o_of events)) (sym same) (like-self (o_of events)))
        (λ its. ap (λ r. is_anew c service tei its (o_of events) r (expiry timer)) same ∙ not-anew c service tei its timer (o_of events)) (λ at_7 waits. ap awaits same ∙ waits)
        (ap (λ r. notes_due c service tei (o_of events) r (expiry timer) (moment_of c events number (expiry timer)).answer) same
        ∙ notes-none c service tei (moment_of c events number (expiry timer)).answer timer (o_of events) (o_of events) w.phase.least (inl refl)) h200 h203

    -- One that runs, and leads on to this.
    module _ (timer : LinkTimer) (x : Observed) (leads_to : r_of (timer_of service tei timer) ≡ x) (on : OnThen (timer_of service tei timer)) (g : GoesThen (timer_of service tei timer)) where
      abbrev what : line_event.Event
      what = expiry (timer_of service tei timer)

      abbrev a : Answer
      a = (moment_of c events number (expiry (timer_of service tei timer))).answer

      now_is : o_of (events ++ at number (expiry (timer_of service tei timer)) ∷ []) ≡ x
      now_is = r-is whole_told events t u told w s (expiry (timer_of service tei timer)) on g ∙ leads_to

      news-are : news_in of_frames service tei number (Some (at number (expiry (timer_of service tei timer)))) u.card ≡ notes_due c service tei (o_of events) x (expiry (timer_of service tei timer)) (moment_of c events number (expiry (timer_of service tei timer))).answer
      news-are = own-news c lengths late number ranged within service tei events u s what ∙ ap (λ q. notes_due c service tei (o_of events) q what a) leads_to

      pub waits-led : IsPhase x → owed_of service tei (o_of events) ≡ notes_due c service tei (o_of events) x (expiry (timer_of service tei timer)) (moment_of c events number (expiry (timer_of service tei timer))).answer ++ owed_of service tei x
          → (runs T200 x ≡ true → D200 x (u.clock.now + lengths.t200)) → runs T203 x ≡ false → (nat_le 7 x.state ≡ true → nat_le 7 (o_of events).state ≡ true)
          → (runs T200 (o_of events) ≡ true → is_anew c service tei T200 (o_of events) (r_of (timer_of service tei timer)) (expiry (timer_of service tei timer)) ≡ true) → ResultOf (timer_of service tei timer)
      waits-led phase owes due_then none up anew = record {
        goes = g;
        on = on-after whole_told events t u told w s what on g;
        phase = subst IsPhase (sym now_is) phase;
        told_is = grind (arith, append_assoc, news_in, of_frames, at, owed, owed_of, news-are, notes_due, now_is);
        wait = λ above. w.wait (up (ap (λ (o : Observed). nat_le 7 o.state) (sym now_is) ∙ above));
        t200 = step c lengths late number ranged within service tei events u s what T200 (λ m. ⊥) (D200 (o_of (events ++ at number (expiry (timer_of service tei timer)) ∷ [])))
            (λ run same. absurd (true≢false (sym (anew run) ∙ same)))
            (λ run m late_is h. absurd h) (λ begun run. subst (λ o. D200 o (u.clock.now + lengths.t200)) (sym now_is) (due_then (ap (runs T200) (sym leads_to) ∙ run)));
        t203 = λ run. absurd (true≢false (sym run ∙ ap (runs T203) now_is ∙ none));
      }

    -- T200 runs, and leads on.
    pub waits-200 : OnThen (timers.T200 service tei) → GoesThen (timers.T200 service tei) → runs T200 (o_of events) ≡ true → ResultOf (timers.T200 service tei)
    waits-200 on g run =
        let l = leads c service tei (moment_of c events number (expiry (timers.T200 service tei))).answer (timers.T200 service tei) (o_of events) lengths.t200 late first all run w.phase in
        let d = w.t200 run in
        waits-led T200 (by_t200 c (o_of events)) (t200-leads c number ranged within service tei events s.all w.on) on g l.phase l.told
        (λ run_now. l.due u.clock.now d.0 (subst (λ n. n ≤ d.0 + late) (sym same_now) d.2) d.3 w.wait run_now) l.no_t203 l.wait
        (λ run_was. expired-anew c number ranged within service tei events s.all T200 run_was)

    -- T203 runs, and leads to an enquiry.
    pub waits-203 : OnThen (timers.T203 service tei) → GoesThen (timers.T203 service tei) → runs T203 (o_of events) ≡ true → ResultOf (timers.T203 service tei)
    waits-203 on g run =
        let at_7 = never-both (o_of events) run in let d = w.t203 run in
        waits-led T203 (enquires 0 (o_of events)) (t203-leads c number ranged within service tei events s.all w.on ∙ ap (λ b. cond b (enquires 0 (o_of events)) (o_of events)) run) on g
        (record { least = omega arith; most = omega arith }) (ap (owed service tei (o_of events).owed) at_7.0
        ∙ sym (ap (λ ns. ns ++ owed service tei (o_of events).owed 8) (notes-none c service tei (moment_of c events number (expiry (timers.T203 service tei))).answer (timers.T203 service tei) (o_of events) (enquires 0 (o_of events)) w.phase.least (inr (at_7.0, refl)))))
        (λ run_now. enquiry-203 c lengths.t200 late first all u.clock.now d.0 (subst (λ n. n ≤ d.0 + late) (sym same_now) d.2) d.3) refl (λ up. ap (nat_le 7) at_7.0)
        (λ run_was. absurd (true≢false (sym run_was ∙ at_7.1)))

    -- T200 does not run, or T203 does not.
    pub idle-200-is : awaits (o_of events) ≡ false → r_of (timers.T200 service tei) ≡ (o_of events)
    idle-200-is none = t200-leads c number ranged within service tei events s.all w.on ∙ idle-200 c (o_of events) none

    pub idle-203-is : runs T203 (o_of events) ≡ false → r_of (timers.T203 service tei) ≡ (o_of events)
    idle-203-is none = t203-leads c number ranged within service tei events s.all w.on ∙ ap (λ b. cond b (enquires 0 (o_of events)) (o_of events)) none

  -- Any other event of the line, of which nothing is heard.
  module _ (whole_told : List Note) (events : List Event) (t u : TimedCard) (told : List Note) (w : Waits whole_told events t told) (s : Stand events u) (what : line_event.Event)
      (on_then : is_on tei (view_behind c service tei number events what).teis ≡ true)
      (g : Goes c lengths late number ranged within service tei (events ++ at number what ∷ []) (with_event (at number what) u))
      (still : is_stirred c service tei what ≡ false) (other : is_its_expiry service tei what ≡ false) where
    abbrev r_is : Observed
    r_is = (view_behind c service tei number events what).link

    abbrev a_is : Answer
    a_is = (moment_of c events number what).answer

    by-event : r_is ≡ by_event c service tei what a_is (o_of events)
    by-event = stays-on c events number ranged s.all within service tei what w.on on_then

    alike : IsLike (o_of events) r_is
    alike = subst (IsLike (o_of events)) (sym by-event) (calm c service tei a_is (o_of events) what still other)

    keeps-by : (x : line_event.Event) → x ≡ what → awaits (o_of events) ≡ true → awaits r_is ≡ true
    keeps-by next is waits =
        ap awaits (sym (is-q events u s what)) ∙ subst (λ x. awaits (o_of (events ++ at number x ∷ [])) ≡ true) is
        (sends-on c events number ranged s.all (subst (λ x. AreAtLines (cards.fresh c) (events ++ at number x ∷ [])) (sym is) g.stands.all) within service tei w.on
        (subst (λ x. is_on tei (view_of c service tei number (events ++ at number x ∷ [])).teis ≡ true) (sym is) (on-after whole_told events t u told w s what on_then g)) waits)
    keeps-by (hears e) is waits = ap awaits by-event ∙ same-awaits c service tei a_is (o_of events) what still other (λ n. cc (is ∙ n)) ∙ waits
    keeps-by (request e) is waits = ap awaits by-event ∙ same-awaits c service tei a_is (o_of events) what still other (λ n. cc (is ∙ n)) ∙ waits
    keeps-by (expiry e) is waits = ap awaits by-event ∙ same-awaits c service tei a_is (o_of events) what still other (λ n. cc (is ∙ n)) ∙ waits

    pub waits-still : Has T200 events u.clock (D200 (o_of events)) → Has T203 events u.clock D203
        → Waits whole_told (events ++ at number what ∷ []) (with_event (at number what) u) (told ++ news_in of_frames service tei number (Some (at number what)) u.card)
    waits-still h200 h203 =
        waits-calm whole_told events t u told w s what on_then g alike (λ timer. none-renews c service tei a_is (o_of events) timer what still other r_is alike)
        (λ at_7 waits. keeps-by what refl waits) (no-news c service tei a_is (o_of events) what still other w.phase.least r_is alike) h200 h203
