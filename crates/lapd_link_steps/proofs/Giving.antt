-- How the steps of an offer are put together.
use Rattle.lapd_link_steps.proofs.Vocabulary.{◌≡◌, ℕ, ◌≤◌, Bool, true, false, cond, eqb, eqb-true, eqb-false, List, [], ◌∷◌, length, drop, Option, Some, None, is_some, refl, sym, ap, subst, arith, ◌∙◌, ◌||◌, Buffer, buffer, ControlFrame, Terms, Link, queue_of, Course, begun, changed, pending_is, ◌then◌, Sent, Step, depending_on, given, given_of, give_information, with_one_sent}
use Rattle.lapd_link_steps.proofs.Vocabulary.{is_awaiting_acknowledgement, may_send_information, send_acknowledgement, send_information, offer_among, offer_step, Entity, Given, BareReport, Past, past_at, link_of, course_of, Fits, Rests, Agrees, Gives, start, T200}
use Rattle.lapd_frame.specs.declared.short_lists.ShortList.TheVariants.{None as no_notes}
use Rattle.model_link.specs.Events.{offer}
use Rattle.model_link.specs.Machine.{course}

-- the test of an offer, known before
pub gives_where : {terms : Terms} {f : Step} {queued : ℕ} {e e' : Entity} {t t' : BareReport} {given : Option Given} (test : Link → Bool) (g : Step) → ((messages : List (List ℕ)) (p : Past) → length messages ≡ queued → t.released ≡ 0 → Fits terms messages e t p → test (link_of e p) ≡ true) → Gives terms f queued e t e' t' given → Gives terms (depending_on test f g) queued e t e' t' given
gives_where {terms} {f} {e = e} {e'} {t} {t'} {given} test g passed done =
    record {
      step = λ info messages p many none unsent fits.
          subst (λ (b : Bool). Agrees terms info messages (cond {A = Course} b (f (course_of info e t p)) (g (course_of info e t p))) e' t')
          (sym (passed messages p many none fits)) (done.step info messages p many none unsent fits);
      sent = λ info messages p many none unsent fits.
          ap (λ (b : Bool). (cond {A = Course} b (f (course_of info e t p)) (g (course_of info e t p))).sent) (passed messages p many none fits)
          ∙ done.sent info messages p many none unsent fits;
    }

-- a ring that was found empty is as it was
pub gives_empty : {terms : Terms} {queued : ℕ} {e' : Entity} {t t' : BareReport} {given : Option Given} (e : Entity) (w : Buffer ControlFrame) → e.waiting.items ≡ [] → w ≡ buffer (drop 1 e.waiting.items) e.waiting.capacity → Gives terms (offer_among terms []) queued (record e { waiting = w }) t e' t' given → Gives terms (offer_step terms) queued e t e' t' given
gives_empty {terms} {queued} {e'} {t} {t'} {given} e w empty popped done =
    let same : w ≡ e.waiting =
    popped
    ∙ ap (λ (fs : List ControlFrame). buffer (drop 1 fs) e.waiting.capacity) empty
    ∙ ap (λ (fs : List ControlFrame). buffer fs e.waiting.capacity) (sym empty) in
    let kept : Gives terms (offer_among terms []) queued e t e' t' given =
    subst (λ (v : Buffer ControlFrame). Gives terms (offer_among terms []) queued (record e { waiting = v }) t e' t' given) same done in
    record {
      step = λ info messages p many none unsent fits.
          subst (λ (fs : List ControlFrame). Agrees terms info messages (offer_among terms fs (course_of info e t p)) e' t')
          (sym empty) (kept.step info messages p many none unsent fits);
      sent = λ info messages p many none unsent fits.
          ap (λ (fs : List ControlFrame). (offer_among terms fs (course_of info e t p)).sent) empty
          ∙ kept.sent info messages p many none unsent fits;
    }

-- Whether an offer gives a frame: an I-frame may go, or an acknowledgement is owed, where no control frame waits.
both_sent : (b : Bool) (x y : Course) → is_some x.sent ≡ true → is_some y.sent ≡ true → is_some (cond {A = Course} b x y).sent ≡ true
both_sent true x y first second = first
both_sent false x y first second = second

one_sent : (b : Bool) (x y : Course) → is_some x.sent ≡ true → is_some (cond {A = Course} b x y).sent ≡ (b || is_some y.sent)
one_sent true x y first = first
one_sent false x y first = refl

or_none : (b : Bool) → (b || false) ≡ b
or_none true = refl
or_none false = refl

some_without_control : (t : Terms) (l : Link) → is_some (offer_among t [] (begun l)).sent ≡ (may_send_information t l || l.pending)
some_without_control t l =
    let sent : Course = (give_information then changed with_one_sent then pending_is false) (begun l) in
    let owed : Course = cond {A = Course} l.pending (send_acknowledgement (begun l)) (begun l) in
    one_sent (may_send_information t l) (send_information (begun l)) owed (both_sent (is_awaiting_acknowledgement sent.link) sent (start T200 sent) refl refl)
    ∙ ap (λ b. may_send_information t l || b) (one_sent l.pending (send_acknowledgement (begun l)) (begun l) refl ∙ or_none l.pending)

waits_some : {X : Type 0} (xs : List X) → length xs ≡ 0 → xs ≡ []
waits_some [] none = refl
waits_some (x ∷ xs) none = absurd (omega (arith, none))

control_offered : (t : Terms) (fs : List ControlFrame) (l : Link) → (length fs ≡ 0 → ⊥) → is_some (offer_among t fs (begun l)).sent ≡ true
control_offered t [] l some = absurd (some refl)
control_offered t (f ∷ fs) l some = refl

some_given : (t : Terms) (l : Link) (c : Course) (o : Option Sent) → is_some (given_of t l c o) ≡ is_some o
some_given t l c None = refl
some_given t l c (Some x) = refl

-- nothing is told between two events
abbrev untold : BareReport
untold = record { notes = no_notes; orders = no_notes; delivered = false; unit = false; start = 0; cause = None; started = None; lost = 0; given_up = 0; given_up_16 = 0; unserved = false; released = 0; given_up_from = 127; in_range = omega arith }

-- so the machine gives a frame where a control frame waits,
module _ {terms : Terms} {e : Entity} (m : Link) (rests : Rests terms e m) where
  given_as : is_some (offer_among terms e.waiting.items (begun (link_of e (past_at m)))).sent ≡ is_some (given terms m)
  given_as = ap (λ l. is_some (offer_step terms (begun l)).sent) rests.is ∙ sym (some_given terms m (course terms offer m) (course terms offer m).sent)

  control_waits : (length e.waiting.items ≡ 0 → ⊥) → true ≡ is_some (given terms m)
  control_waits some = sym (control_offered terms e.waiting.items (link_of e (past_at m)) some) ∙ given_as

  pub control_given : eqb (length e.waiting.items) 0 ≡ false → true ≡ is_some (given terms m)
  control_given apart = control_waits (eqb-false (length e.waiting.items) 0 apart)

  -- and else where an I-frame may go, or an acknowledgement is owed
  pub other_given : {queued : ℕ} {may : Bool} → eqb (length e.waiting.items) 0 ≡ true
      → ((messages : List (List ℕ)) (t : BareReport) (p : Past) → length messages ≡ queued → t.released ≡ 0 → Fits terms messages e t p → may ≡ may_send_information terms (link_of e p))
      → length (queue_of m) ≡ queued → queued ≤ 127 → (may || e.pending) ≡ is_some (given terms m)
  other_given {queued} {may} none allowed many few =
      let fits : Fits terms (queue_of m) e untold (past_at m) = record { window = rests.window; received = rests.received; ring = rests.ring; queue = refl; few = omega (arith, many, few); cause = refl; given_up = omega (arith, many, few); whole = λ some. absurd (omega (arith, some, many, few)) } in
      ap (λ b. b || e.pending) (allowed (queue_of m) untold (past_at m) many refl fits)
      ∙ sym (some_without_control terms (link_of e (past_at m)))
      ∙ ap (λ fs. is_some (offer_among terms fs (begun (link_of e (past_at m)))).sent) (sym (waits_some e.waiting.items (eqb-true (length e.waiting.items) 0 none)))
      ∙ given_as
