-- Where T200 runs while the terminal is taken for busy: each word, and each row.
use Rattle.laws_link.proofs.Vocabulary.{arith, ◌≡◌, ℕ, Bool, false, IsTrue, List, Option, Some, refl, sym, subst, Seq, Control, Sabme, Note, State, TeiAssigned, AwaitingEstablishment, AwaitingRelease, Established, TimerRecovery, LinkTimer, T200, Terms, Course, Step, ◌then◌, frame_in_5, Leads, keeping_then, nothing_leads}
use Rattle.laws_link.proofs.Vocabulary.{depending_leads, bit_leads, read_leads, to_less, HeedsIn, leaves, number_leads, by_number, clear_flags, enter, no_timer, note, re_establish, start, frame_in_7, frame_in_8}

-- A claim on the state, on whether the terminal is taken for busy, and on the timer that runs.
abbrev pub Claim : Type 1
Claim = State → Bool → Option LinkTimer → Type 0

pub record Holds (P : Claim) (state : State) (busy : Bool) (running : Option LinkTimer) : Type 0 where
  pub holds : P state busy running

abbrev pub On : Claim → Course → Type 0
On P c = Holds P c.link.state c.link.peer_busy c.link.running

pub ruleset words = (leaves, keeping_then, nothing_leads, depending_leads, bit_leads, read_leads)

-- The claims: the end; a state; a state in which the terminal is not taken for busy; any state in which it is not; a
-- state in which T200 runs; T200 runs; state 7 as it is between events.
abbrev pub heeding : Claim
heeding state busy running = HeedsIn state busy running

abbrev pub calm_at : State → Claim
calm_at here state busy running = (state ≡ here) × (busy ≡ false)

abbrev pub calm : Claim
calm state busy running = busy ≡ false

abbrev pub awake_at : State → Claim
awake_at here state busy running = (state ≡ here) × (running ≡ Some T200)

abbrev pub awake : Claim
awake state busy running = running ≡ Some T200

abbrev pub heeding_in_7 : Claim
heeding_in_7 state busy running = (state ≡ Established) × (IsTrue busy → running ≡ Some T200)

-- from a claim to the end
down_heeds : (here state : State) (busy : Bool) (running : Option LinkTimer) → state ≡ here → HeedsIn here busy running → HeedsIn state busy running
down_heeds here state busy running e h = subst (λ s. HeedsIn s busy running) (sym e) h

-- the words that change what is claimed
module _ {g : Step} {R : Course → Type 0} where
  pub flags_then : {P : Claim} → Leads (On calm) g R → Leads (On P) (clear_flags then g) R
  flags_then x = record { leads = λ c h. x.leads (clear_flags c) (record { holds = refl }) }

  pub start_then : (timer : LinkTimer) → Leads (On calm) g R → Leads (On calm) (start timer then g) R
  start_then timer x = record { leads = λ c h. x.leads (start timer c) (record { holds = h.holds }) }

pub enter_7_calm : Leads (On calm) (enter Established) (On heeding)
enter_7_calm = grind arith

pub enter_7_awake : Leads (On awake) (enter Established) (On heeding)
enter_7_awake = record { leads = λ c h. record { holds = λ b. h.holds } }

pub enter_5_calm : Leads (On calm) (enter AwaitingEstablishment) (On heeding)
enter_5_calm = record { leads = λ c h. record { holds = h.holds } }

pub enter_8_awake : Leads (On awake) (enter TimerRecovery) (On heeding)
enter_8_awake = record { leads = λ c h. record { holds = h.holds } }

module _ {P : Claim} (t : Terms) where
  pub re_establish_heeds : (x : Note) → Leads (On P) (note x then re_establish t) (On heeding)
  re_establish_heeds x = record { leads = λ c h. record { holds = refl } }

  pub enter_4_heeds : Leads (On P) (enter TeiAssigned) (On heeding)
  enter_4_heeds = record { leads = λ c h. record { holds = tt } }

  pub enter_6_heeds : Leads (On P) (enter AwaitingRelease) (On heeding)
  enter_6_heeds = record { leads = λ c h. record { holds = tt } }

  pub number_heeds : (nr : Seq) {f : ℕ → Step} → ((m : ℕ) → Leads (On P) (f m) (On heeding)) → Leads (On P) (by_number t nr f) (On heeding)
  number_heeds nr x = number_leads t nr (re_establish_heeds _) x

  -- a last word that may stop a timer: into state 4
  pub no_timer_then_4 : Leads (On P) (no_timer then enter TeiAssigned) (On heeding)
  no_timer_then_4 = record { leads = λ c h. record { holds = tt } }

  pub start_then_6 : (timer : LinkTimer) → Leads (On P) (start timer then enter AwaitingRelease) (On heeding)
  start_then_6 timer = record { leads = λ c h. record { holds = tt } }

pub ruleset rows = (words, flags_then, enter_7_calm, enter_7_awake, enter_5_calm, enter_8_awake, re_establish_heeds, enter_4_heeds, enter_6_heeds, number_heeds, no_timer_then_4, start_then_6)

-- State 5.
module _ (t : Terms) where
  pub in_5 : (octets : List ℕ) (control : Control) → Leads (On (calm_at AwaitingEstablishment)) (frame_in_5 t octets control) (On heeding)
  in_5 octets control = grind (arith, start_then, to_less, down_heeds)

module _ (t : Terms) where
  pub in_7 : (b : Bool) (octets : List ℕ) (control : Control) → Leads (On heeding_in_7) (frame_in_7 t b octets control) (On heeding)
  in_7 b octets (Sabme p) = search (rows, start_then) depth 14 fits 6000
  in_7 b octets control = grind (arith, to_less, down_heeds, re_establish_heeds)

module _ (t : Terms) where
  pub in_8 : (b : Bool) (octets : List ℕ) (control : Control) → Leads (On (awake_at TimerRecovery)) (frame_in_8 t b octets control) (On heeding)
  in_8 b octets control = grind (arith, start_then, to_less, down_heeds, re_establish_heeds)
