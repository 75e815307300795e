-- An event of a link in states 7 and 8 tells an error; or it leaves the link there, tells what it delivers, and nothing else.
use Rattle.laws_wire.proofs.Vocabulary.{arith, ◌≡◌, ℕ, Bool, true, false, ◌||◌, IsTrue, List, [], ◌∷◌, ◌++◌, map, Option, None, refl, sym, ap, ◌∙◌, ◌⊎◌, inl, inr, true≢false, option_to_list, list_any, list_any-append, Seq, Control, Information, Sabme, ErrorCode, Note, Parts, State, Established, TimerRecovery, LinkTimer, Terms, Link, is_multiple_frame, received, expired, begun, Step, Leads}
use Rattle.laws_wire.proofs.Vocabulary.{keeping_then, nothing_leads, depending_leads, bit_leads, Means, frame, Course, is_error, NoteData, NoteError}
use Rattle.model_link.specs.Words
use Rattle.model_link.specs.MultipleFrame
use Rattle.model_link.specs.Established
use Rattle.model_link.specs.TimerRecovery
use Rattle.model_link.specs.Counts.{with_expiry}
use Rattle.model_link.specs.Words.{with_counted}
use Rattle.model_link.specs.Machine

abbrev pub HasError : List Note → Type 0
HasError ns = list_any is_error ns ≡ true

pub or-true : (b : Bool) → (b || true) ≡ true
or-true b = grind arith

pub error-told : (ns : List Note) (n : Note) → is_error n ≡ true → HasError (ns ++ n ∷ [])
error-told ns n is = list_any-append is_error ns (n ∷ []) ∙ ap (λ b. list_any is_error ns || (b || false)) is ∙ or-true (list_any is_error ns)

pub record Fine (t : Terms) (here : State) (ns : List Note) (d u : Option (List ℕ)) : Type 0 where
  pub up : IsTrue (is_multiple_frame here)
  pub its_notes : ns ≡ map (λ octets. NoteData t.service t.tei) (option_to_list d)
  pub no_unit : u ≡ None

pub record Fair (t : Terms) (c : Course) : Type 0 where
  pub fair : HasError c.notes ⊎ Fine t c.link.state c.notes c.delivered c.unit

module _ (t : Terms) where
  failed_fair : (e : ErrorCode) → Leads (Fair t) (MultipleFrame.failed t e) (Fair t)
  failed_fair e = record { leads = λ c h. record { fair = inl (error-told c.notes (NoteError t.service t.tei e) refl) } }

  error_fair : (e : ErrorCode) → Leads (Fair t) (Words.error t e) (Fair t)
  error_fair e = record { leads = λ c h. record { fair = inl (error-told c.notes (NoteError t.service t.tei e) refl) } }

  enquire_fair : Leads (Fair t) (Words.enquire t) (Fair t)
  enquire_fair = record { leads = λ c h. record { fair = h.fair } }

  answer_fair : Leads (Fair t) (Words.answer t) (Fair t)
  answer_fair = record { leads = λ c h. record { fair = h.fair } }

  reject_fair : (f : Bool) → Leads (Fair t) (Words.reject t f) (Fair t)
  reject_fair f = record { leads = λ c h. record { fair = h.fair } }

  peer_busy_fair : (b : Bool) → Leads (Fair t) (Words.peer_busy_is b) (Fair t)
  peer_busy_fair b = record { leads = λ c h. record { fair = h.fair } }

  rejecting_fair : (b : Bool) → Leads (Fair t) (Words.rejecting_is b) (Fair t)
  rejecting_fair b = record { leads = λ c h. record { fair = h.fair } }

  pending_fair : (b : Bool) → Leads (Fair t) (Words.pending_is b) (Fair t)
  pending_fair b = record { leads = λ c h. record { fair = h.fair } }

  repeats_fair : (n : ℕ) → Leads (Fair t) (Words.repeats_are n) (Fair t)
  repeats_fair n = record { leads = λ c h. record { fair = h.fair } }

  repeated_fair : Leads (Fair t) Words.repeated (Fair t)
  repeated_fair = record { leads = λ c h. record { fair = h.fair } }

  start_fair : (timer : LinkTimer) → Leads (Fair t) (Words.start timer) (Fair t)
  start_fair timer = record { leads = λ c h. record { fair = h.fair } }

  acknowledge_fair : (n : ℕ) → Leads (Fair t) (Words.acknowledge n) (Fair t)
  acknowledge_fair n = record { leads = λ c h. record { fair = h.fair } }

  again_fair : (n : ℕ) → Leads (Fair t) (Words.send_again_from n) (Fair t)
  again_fair n = record { leads = λ c h. record { fair = h.fair } }

  enter_fair : Leads (Fair t) (Words.enter Established) (Fair t)
  enter_fair = record { leads = λ c h. record { fair = grind arith } }

  recover_fair : Leads (Fair t) (Words.enter TimerRecovery) (Fair t)
  recover_fair = record { leads = λ c h. record { fair = grind arith } }

  number_fair : {f : ℕ → Step} (nr : Seq) → ((n : ℕ) → Leads (Fair t) (f n) (Fair t)) → Leads (Fair t) (Words.by_number t nr f) (Fair t)
  number_fair {f} nr x = grind (arith, error-told)

ruleset words = (keeping_then, nothing_leads, depending_leads, bit_leads, failed_fair, error_fair, enquire_fair, answer_fair, reject_fair, peer_busy_fair, rejecting_fair, pending_fair, repeats_fair, repeated_fair, start_fair, acknowledge_fair, again_fair, enter_fair, recover_fair)

module _ (t : Terms) where
  in_7 : (n : ℕ) → Leads (Fair t) (Established.acknowledged_in_7 n) (Fair t)
  in_7 n = search words depth 12 fits 4000

  by_information_7 : (n : ℕ) → Leads (Fair t) (Established.acknowledged_by_information_in_7 n) (Fair t)
  by_information_7 n = search words depth 12 fits 4000

  rnr_7 : (n : ℕ) → Leads (Fair t) (Established.acknowledged_by_rnr_in_7 n) (Fair t)
  rnr_7 n = search words depth 12 fits 4000

  in_8 : (timer : LinkTimer) (final : Bool) (n : ℕ) → Leads (Fair t) (TimerRecovery.acknowledged_in_8 timer final n) (Fair t)
  in_8 timer final n = search words depth 12 fits 4000

  -- supervisory frames
  supervised : (own : MultipleFrame.Particulars) (busy b pf : Bool) (nr : Seq) (effect : Bool → ℕ → Step) → ((final : Bool) → Leads (Fair t) (own.told_of final) (Fair t))
      → ((final : Bool) (n : ℕ) → Leads (Fair t) (effect final n) (Fair t)) → Leads (Fair t) (MultipleFrame.supervisory t own busy b pf nr effect) (Fair t)
  supervised own busy b pf nr effect told x =
      keeping_then (peer_busy_fair t busy) (keeping_then answered (keeping_then (told (MultipleFrame.is_final b pf)) (number_fair t nr (x (MultipleFrame.is_final b pf)))))
    where
      answered : Leads (Fair t) (MultipleFrame.answered t b pf) (Fair t)
      answered = search words depth 12 fits 4000

  -- I-frames
  module _ (l : Link) (up : IsTrue (is_multiple_frame l.state)) where
    pub at-first : Fair t (begun l)
    at-first = record { fair = inr (record { up = up; its_notes = refl; no_unit = refl }) }

    information : (ns nr : Seq) (p : Bool) (octets : List ℕ) (f : ℕ → Step) → ((n : ℕ) → Leads (Fair t) (f n) (Fair t))
        → Fair t (MultipleFrame.information_in_7_8 t ns nr p octets f (begun l))
    information ns nr p octets f x = grind (arith, failed_fair, at-first, number_fair)

    frames-7 : (b : Bool) (octets : List ℕ) (m : ℕ) (control : Control) → Means m control → Fair t (Established.frame_in_7 t b octets control (begun l))
    frames-7 b octets m (Information ns nr p) e = information ns nr p octets Established.acknowledged_by_information_in_7 by_information_7
    frames-7 b octets m control e = grind (arith, supervised, in_7, at-first, rnr_7)

    frames-8 : (b : Bool) (octets : List ℕ) (m : ℕ) (control : Control) → Means m control → Fair t (TimerRecovery.frame_in_8 t b octets control (begun l))
    frames-8 b octets m (Information ns nr p) e = information ns nr p octets Words.acknowledge (acknowledge_fair t)
    frames-8 b octets m control e = grind (arith, supervised, nothing_leads, in_8, at-first)

    frames-in : (here : State) → IsTrue (is_multiple_frame here) → (b : Bool) (octets : List ℕ) (m : ℕ) (control : Control) → Means m control
        → Fair t (Machine.frame_in here t b octets control (begun l))
    frames-in Established is b octets m control e = frames-7 b octets m control e
    frames-in TimerRecovery is b octets m control e = frames-8 b octets m control e
    frames-in other is b octets m control e = absurd (true≢false (sym is))

    pub frame-fair : (f : Parts) (m : ℕ) → Means m f.control → Fair t (Machine.course t (received (frame f)) l)
    frame-fair f m e = frames-in l.state up f.address.command f.info m f.control e

    -- timers
    expired-in : (here : State) → IsTrue (is_multiple_frame here) → (timer : LinkTimer) → Fair t (Machine.expired_in here timer t (begun l))
    expired-in here is timer = grind (arith, at-first)

  module _ (l : Link) (up : IsTrue (is_multiple_frame l.state)) where
    pub timer-fair : (timer : LinkTimer) → Fair t (Machine.course t (expired timer) l)
    timer-fair timer = grind (arith, expired-in (with_counted (with_expiry timer) l) up l.state up timer, at-first)

    -- SABME is an error
    pub sabme-error : (f : Parts) (p : Bool) → f.control ≡ Sabme p → HasError (Machine.course t (received (frame f)) l).notes
    sabme-error f p is = grind arith
