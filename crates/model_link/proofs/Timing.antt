-- A link that awaits something has its timer: every row keeps that.
use Rattle.model_link.proofs.Vocabulary.{◌≡◌, ℕ, ◌≤◌, Bool, Option, Some, None, ◌⊎◌, inl, inr, refl, arith, Seq, named, ErrorCode, State, TeiAssigned, AwaitingEstablishment, AwaitingRelease, Established, TimerRecovery, LinkTimer, T200, T203, Terms, Course, Step, ◌then◌, eqb-true, acknowledge, asked_is, by_number, discard, enter, error, establish_indication, no_timer, re_establish}
use Rattle.model_link.proofs.Vocabulary.{send_again_from, start, zero_numbers, failed, acknowledged_by_information_in_7, acknowledged_in_7, acknowledged_in_8}
use Rattle.model_link.proofs.Leads.{Leads, keeping_then, nothing_leads, depending_leads, bit_leads, read_leads, tested_leads, from_more, to_less, leaves}
use Rattle.model_link.proofs.SoundRows.{named-within}

-- the same as `IsTimedIn`, of what it speaks of
abbrev pub TimedBy : State → Option LinkTimer → ℕ → ℕ → Type 0
TimedBy TeiAssigned running a s = running ≡ None
TimedBy Established running a s = (running ≡ Some T200) ⊎ ((running ≡ Some T203) × (s ≤ a))
TimedBy other running a s = running ≡ Some T200

-- in this state, and timed
pub record In (here state : State) (running : Option LinkTimer) (a s : ℕ) : Type 0 where
  pub state_is : state ≡ here
  pub timer : TimedBy here running a s

abbrev pub At : State → Course → Type 0
At here c = In here c.link.state c.link.running c.link.a c.link.s

-- and N(R) names no number before V(A)
pub record Named (here : State) (m : ℕ) (c : Course) : Type 0 where
  pub holds : At here c
  pub from : c.link.a ≤ m

-- what is wanted in the end
pub record Timed (state : State) (running : Option LinkTimer) (a s : ℕ) : Type 0 where
  pub timer : TimedBy state running a s

abbrev pub Ends : Course → Type 0
Ends c = Timed c.link.state c.link.running c.link.a c.link.s

pub enough : (here state : State) (running : Option LinkTimer) (a s : ℕ) → In here state running a s → Timed state running a s
enough here state running a s h = record { timer = rw h.state_is h.timer }

pub at_ends : {here : State} {f : Step} → Leads (At here) f (At here) → Leads (At here) f Ends
at_ends {here} {f} x = to_less (λ c h. enough here c.link.state c.link.running c.link.a c.link.s h) x

pub unnamed : {here : State} {m : ℕ} {Q : Course → Type 0} {f : Step} → Leads (At here) f Q → Leads (Named here m) f Q
unnamed x = from_more (λ c h. h.holds) x

-- all contents that are kept are released: nothing is outstanding
pub discarded : (here : State) (running : Option LinkTimer) (a s : ℕ) → TimedBy here running a s → TimedBy here running a a
discarded here running a s e = grind arith

pub discard_timed : (here : State) → Leads (At here) discard (At here)
discard_timed here = grind (arith, discarded)

-- the ends of rows, whatever was before
module _ {X : Course → Type 0} where
  pub enters_4 : Leads X (no_timer then enter TeiAssigned) Ends
  enters_4 = record { leads = λ c h. record { timer = refl } }

  pub enters_5 : Leads X (start T200 then enter AwaitingEstablishment) Ends
  enters_5 = record { leads = λ c h. record { timer = refl } }

  pub asks_for_5 : (b : Bool) → Leads X (start T200 then asked_is b then enter AwaitingEstablishment) Ends
  asks_for_5 b = record { leads = λ c h. record { timer = refl } }

  pub enters_6 : Leads X (start T200 then enter AwaitingRelease) Ends
  enters_6 = record { leads = λ c h. record { timer = refl } }

  pub enters_8 : Leads X (start T200 then enter TimerRecovery) Ends
  enters_8 = record { leads = λ c h. record { timer = refl } }

  pub zero_enters_7 : Leads X (zero_numbers then start T203 then enter Established) Ends
  zero_enters_7 = record { leads = λ c h. record { timer = inr (refl, omega arith) } }

  pub zero_told_enters_7 : (t : Terms) → Leads X (zero_numbers then start T203 then establish_indication t then enter Established) Ends
  zero_told_enters_7 t = record { leads = λ c h. record { timer = inr (refl, omega arith) } }

  pub failed_timed : (t : Terms) (e : ErrorCode) → Leads X (failed t e) Ends
  failed_timed t e = record { leads = λ c h. record { timer = refl } }

-- T200 is started anew, and the state stays
pub restart_5 : Leads (At AwaitingEstablishment) (start T200) (At AwaitingEstablishment)
restart_5 = record { leads = λ c h. record { state_is = h.state_is; timer = refl } }

pub restart_6 : Leads (At AwaitingRelease) (start T200) (At AwaitingRelease)
restart_6 = record { leads = λ c h. record { state_is = h.state_is; timer = refl } }

pub restart_7 : Leads (At Established) (start T200) (At Established)
restart_7 = record { leads = λ c h. record { state_is = h.state_is; timer = inl refl } }

pub restart_8 : Leads (At TimerRecovery) (start T200) (At TimerRecovery)
restart_8 = record { leads = λ c h. record { state_is = h.state_is; timer = refl } }

-- what a valid N(R) does in state 7
pub nearer : (running : Option LinkTimer) (a s m : ℕ) → a ≤ m → TimedBy Established running a s → TimedBy Established running m s
nearer running a s m from o = grind arith

pub acknowledge_start_7 : (m : ℕ) → Leads (Named Established m) (acknowledge m then start T200) (At Established)
acknowledge_start_7 m = record { leads = λ c h. record { state_is = h.holds.state_is; timer = inl refl } }

pub send_again_7 : (m : ℕ) → Leads (Named Established m) (acknowledge m then send_again_from m then start T203) (At Established)
send_again_7 m = record { leads = λ c h. record { state_is = h.holds.state_is; timer = inr (refl, omega arith) } }

pub to_named : {here : State} {m : ℕ} {f : Step} → Leads (Named here m) f (At here) → Leads (Named here m) f Ends
to_named {here} {m} {f} x = to_less (λ c h. enough here c.link.state c.link.running c.link.a c.link.s h) x

pub acknowledged_7 : (m : ℕ) → Leads (Named Established m) (acknowledged_in_7 m) (At Established)
acknowledged_7 m = grind (arith, tested_leads, eqb-true, from_more, depending_leads, acknowledge_start_7, unnamed, nothing_leads)

pub acknowledged_by_information_7 : (m : ℕ) → Leads (Named Established m) (acknowledged_by_information_in_7 m) (At Established)
acknowledged_by_information_7 m = grind (arith, depending_leads, acknowledged_7, nearer)

-- and in state 8
pub acknowledge_8 : (m : ℕ) → Leads (Named TimerRecovery m) (acknowledge m) (At TimerRecovery)
acknowledge_8 m = record { leads = λ c h. record { state_is = h.holds.state_is; timer = h.holds.timer } }

pub acknowledged_8 : (final : Bool) (timer : LinkTimer) (m : ℕ) → Leads (Named TimerRecovery m) (acknowledged_in_8 timer final m) Ends
acknowledged_8 final timer m = bit_leads final (grind arith) (to_named (acknowledge_8 m))

-- by the N(R): an invalid one, or the one number that it names
pub by-number : (here : State) (t : Terms) (nr : Seq) (f : ℕ → Step) → ((m : ℕ) → Leads (Named here m) (f m) Ends) → (c : Course) → At here c
    → (o : Option ℕ) → named c.link.a c.link.s nr ≡ o → Ends (elim o [ None ↦ (error t ErrorCode.J then re_establish t) c | Some n ↦ f n c ])
by-number here t nr f x c h o e = grind (arith, named-within)

pub number_timed : {here : State} (t : Terms) (nr : Seq) (f : ℕ → Step) → ((m : ℕ) → Leads (Named here m) (f m) Ends) → Leads (At here) (by_number t nr f) Ends
number_timed {here} t nr f x = record { leads = λ c h. by-number here t nr f x c h (named c.link.a c.link.s nr) refl }

pub ruleset words = (leaves, keeping_then, nothing_leads, depending_leads, bit_leads, read_leads, discard_timed, restart_5, restart_6, restart_7, restart_8)

pub ruleset ends = (words, at_ends, enters_4, enters_5, asks_for_5, enters_6, enters_8, zero_enters_7, zero_told_enters_7, failed_timed)

pub ruleset rows = (ends, number_timed, to_named, acknowledged_7, acknowledged_by_information_7, acknowledge_start_7, send_again_7, acknowledged_8, acknowledge_8)
