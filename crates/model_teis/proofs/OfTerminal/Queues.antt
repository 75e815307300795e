-- The messages that wait: each is due, and no two have one slot.
use Rattle.model_teis.proofs.OfTerminal.Vocabulary.{◌≡◌, ℕ, ◌+◌, ◌<◌, ◌≤◌, ◌==◌, ◌||◌, Bool, true, false, not, cond, List, [], ◌∷◌, ◌++◌, length, set, get_or, drop, Option, Some, None, ap, subst, refl, sym, arith, All, All-append, All-cons, All-nil, All-drop, All-filter_by, count_by, filter, list_any, position, position-Some, nat_tests, same_number, on-range, false≢true}
use Rattle.model_teis.proofs.OfTerminal.Vocabulary.{get_or-set_same, get_or-set_other, length-filter, length-filter_both, sum_by-set, sum_by-take-drop, sum_by_push, length-set, Places, is_on, IsSoundTable, Message, IdentityRequest, IdentityVerify, IdentityCheckResponse, Procedure, Asking, Verifying, IsSoundQueue, has_slot, slot_of, is_due, may_ask, may_verify, is_verify, is_request}
use Rattle.model_teis.proofs.OfTerminal.Vocabulary.{is_response_of, put_at, with_request, with_verify}
use Rattle.model_teis.proofs.OfTerminal.Counted.{count-filter, count-all, count-none, one_place, none-passes, nowhere}

abbrev pub IsDueAt : Places → Option Procedure → Message → Type 0
IsDueAt places procedure message = is_due places procedure message ≡ true

-- Some are withdrawn, and what stays is due where it was,
pub queue-kept : (keep : Message → Bool) (before after : Places) (old new : Option Procedure) (waiting : List Message)
    → ((message : Message) → keep message ≡ true → IsDueAt before old message → IsDueAt after new message) → IsSoundQueue before old waiting → IsSoundQueue after new (filter keep waiting)
queue-kept keep before after old new waiting stays sound = record {
  due = All-filter_by keep (IsDueAt before old) (IsDueAt after new) stays waiting sound.due;
  once = λ slot. omega (arith, count-filter (has_slot slot) keep waiting, sound.once slot);
}

-- or none is withdrawn,
pub queue-stays : (before after : Places) (old new : Option Procedure) (waiting : List Message)
    → ((message : Message) → IsDueAt before old message → IsDueAt after new message) → IsSoundQueue before old waiting → IsSoundQueue after new waiting
queue-stays before after old new waiting stays sound = record { due = λ k d l. stays (get_or waiting k d) (sound.due k d l); once = sound.once }

-- the oldest is taken,
pub queue-rest : (places : Places) (procedure : Option Procedure) (waiting : List Message) → IsSoundQueue places procedure waiting → IsSoundQueue places procedure (drop 1 waiting)
queue-rest places procedure waiting sound = record {
  due = All-drop (IsDueAt places procedure) 1 waiting sound.due;
  once = λ slot. omega (arith, sound.once slot, sum_by-take-drop (λ message. cond {A = ℕ} (has_slot slot message) 1 0) waiting 1);
}

-- or one more waits, whose slot is free.
one_more : (message : Message) (waiting : List Message) (slot : ℕ) → count_by (has_slot (slot_of message)) waiting ≡ 0 → count_by (has_slot slot) waiting ≤ 1 → count_by (has_slot slot) waiting + cond {A = ℕ} (slot_of message == slot) 1 0 ≤ 1
one_more message waiting slot none few =
    elim (slot_of message == slot) as (λ b. (slot_of message == slot) ≡ b → count_by (has_slot slot) waiting + cond {A = ℕ} b 1 0 ≤ 1) [
      | true ↦ λ e. omega (arith, subst (λ n. count_by (has_slot n) waiting ≡ 0) (same_number (slot_of message) slot e) none)
      | false ↦ λ e. omega arith
    ] refl

pub queue-more : (places : Places) (procedure : Option Procedure) (message : Message) (waiting : List Message)
    → IsDueAt places procedure message → count_by (has_slot (slot_of message)) waiting ≡ 0 → IsSoundQueue places procedure waiting → IsSoundQueue places procedure (waiting ++ message ∷ [])
queue-more places procedure message waiting due none sound = record {
  due = All-append (IsDueAt places procedure) waiting (message ∷ []) sound.due (All-cons (IsDueAt places procedure) message [] due (All-nil (IsDueAt places procedure)));
  once = λ slot. omega (arith, one_more message waiting slot none (sound.once slot), sum_by_push (λ other. cond {A = ℕ} (has_slot slot other) 1 0) waiting message);
}

-- Slots: that of a procedure is no TEI's.
apart : (tei : ℕ) → tei ≤ 126 → ((127 == tei) ≡ false) × ((tei == 127) ≡ false)
apart tei low = (grind (arith, nat_tests), grind (arith, nat_tests))

response_slot : (tei : ℕ) (message : Message) → tei ≤ 126 → is_response_of tei message ≡ false → has_slot tei message ≡ false
response_slot tei (IdentityRequest ri) low other = (apart tei low).0
response_slot tei (IdentityCheckResponse ri own) low other = other
response_slot tei (IdentityVerify own) low other = (apart tei low).0

pub no_response : (tei : ℕ) (waiting : List Message) → tei ≤ 126 → list_any (is_response_of tei) waiting ≡ false → count_by (has_slot tei) waiting ≡ 0
no_response tei waiting low none =
    count-none (has_slot tei) waiting (λ k d l. response_slot tei (get_or waiting k d) low (none-passes (is_response_of tei) waiting none k d l))

-- A procedure begins or goes on: what waits is due, except for a message of the procedure.
module _ (places : Places) (table : IsSoundTable places) where
  own_slot : (procedure : Option Procedure) (message : Message) → IsDueAt places procedure message → is_request message ≡ false → is_verify message ≡ false → has_slot 127 message ≡ false
  own_slot procedure (IdentityRequest ri) due first second = absurd (false≢true (sym first))
  own_slot procedure (IdentityCheckResponse ri tei) due first second = (apart tei (on-range places tei table due)).1
  own_slot procedure (IdentityVerify tei) due first second = absurd (false≢true (sym second))

  -- a TEI is asked for
  no_verify : (procedure : Option Procedure) (message : Message) → may_ask procedure ≡ true → IsDueAt places procedure message → is_verify message ≡ false
  no_verify procedure (IdentityRequest ri) may due = refl
  no_verify procedure (IdentityCheckResponse ri tei) may due = refl
  no_verify None (IdentityVerify tei) may due = absurd (false≢true due)
  no_verify (Some (Asking ri attempts)) (IdentityVerify tei) may due = absurd (false≢true due)
  no_verify (Some (Verifying own attempts)) (IdentityVerify tei) may due = absurd (false≢true may)

  due_asked : (procedure : Option Procedure) (ri attempts : ℕ) (message : Message) → may_ask procedure ≡ true → is_request message ≡ false → IsDueAt places procedure message → IsDueAt places (Some (Asking ri attempts)) message
  due_asked procedure ri attempts (IdentityRequest own) may other due = absurd (false≢true (sym other))
  due_asked procedure ri attempts (IdentityCheckResponse own tei) may other due = due
  due_asked procedure ri attempts (IdentityVerify tei) may other due = absurd (false≢true (sym (no_verify procedure (IdentityVerify tei) may due)))

  same_ri : (ri : ℕ) → (ri == ri) ≡ true
  same_ri ri = grind (arith, nat_tests)

  asked_first : (procedure : Option Procedure) (ri attempts : ℕ) (waiting : List Message) → may_ask procedure ≡ true → All (λ message. is_request message ≡ false) waiting
      → IsSoundQueue places procedure waiting → IsSoundQueue places (Some (Asking ri attempts)) (waiting ++ IdentityRequest ri ∷ [])
  asked_first procedure ri attempts waiting may none sound =
      queue-more places (Some (Asking ri attempts)) (IdentityRequest ri) waiting (same_ri ri)
      (count-none (has_slot 127) waiting (λ k d l. own_slot procedure (get_or waiting k d) (sound.due k d l) (none k d l) (no_verify procedure (get_or waiting k d) may (sound.due k d l))))
      (record { due = λ k d l. due_asked procedure ri attempts (get_or waiting k d) may (none k d l) (sound.due k d l); once = sound.once })

  -- the request takes the place of the one that waits
  request_slot : (message : Message) → is_request message ≡ true → slot_of message ≡ 127
  request_slot (IdentityRequest ri) is = refl
  request_slot (IdentityCheckResponse ri tei) is = absurd (false≢true is)
  request_slot (IdentityVerify tei) is = absurd (false≢true is)

  has_own : (message : Message) → is_request message ≡ true → has_slot 127 message ≡ true
  has_own message is = ap (λ slot. slot == 127) (request_slot message is)

  other_request : (waiting : List Message) (place k : ℕ) (d : Message) → count_by (has_slot 127) waiting ≤ 1 → place < length waiting → k < length waiting → (k ≡ place → ⊥)
      → is_request (get_or waiting place d) ≡ true → is_request (get_or waiting k d) ≡ false
  other_request waiting place k d few there within other is =
      elim (is_request (get_or waiting k d)) as (λ b. is_request (get_or waiting k d) ≡ b → b ≡ false) [
        | true ↦ λ e. absurd (other (one_place (has_slot 127) waiting k place d d few within there (has_own (get_or waiting k d) e) (has_own (get_or waiting place d) is)))
        | false ↦ λ e. refl
      ] refl

  asked_due : (procedure : Option Procedure) (ri attempts : ℕ) (waiting : List Message) (place : ℕ) → may_ask procedure ≡ true → position is_request waiting ≡ Some place
      → IsSoundQueue places procedure waiting → All (IsDueAt places (Some (Asking ri attempts))) (set waiting place (IdentityRequest ri))
  asked_due procedure ri attempts waiting place may at sound k d l =
      let there = position-Some is_request waiting place d at in
      let within : k < length waiting = omega (arith, length-set waiting place (IdentityRequest ri)) in
      elim (k == place) as (λ b. (k == place) ≡ b → IsDueAt places (Some (Asking ri attempts)) (get_or (set waiting place (IdentityRequest ri)) k d)) [
        | true ↦ λ e.
            let same : place ≡ k = sym (same_number k place e) in
            subst (λ n. IsDueAt places (Some (Asking ri attempts)) (get_or (set waiting place (IdentityRequest ri)) n d)) same
            (subst (IsDueAt places (Some (Asking ri attempts))) (sym (get_or-set_same waiting place (IdentityRequest ri) d there.0)) (same_ri ri))
        | false ↦ λ e.
            let other : (k ≡ place → ⊥) = λ same. grind (arith, nat_tests) in
            subst (IsDueAt places (Some (Asking ri attempts))) (sym (get_or-set_other waiting place k (IdentityRequest ri) d other))
            (due_asked procedure ri attempts (get_or waiting k d) may (other_request waiting place k d (sound.once 127) there.0 within other there.1) (sound.due k d within))
      ] refl

  asked_again : (procedure : Option Procedure) (ri attempts : ℕ) (waiting : List Message) (place : ℕ) → may_ask procedure ≡ true → position is_request waiting ≡ Some place
      → IsSoundQueue places procedure waiting → IsSoundQueue places (Some (Asking ri attempts)) (set waiting place (IdentityRequest ri))
  asked_again procedure ri attempts waiting place may at sound =
      let d = IdentityRequest ri in
      let there = position-Some is_request waiting place d at in
      let slot_same = request_slot (get_or waiting place d) there.1 in
      record {
        due = asked_due procedure ri attempts waiting place may at sound;
        once = λ slot.
            let same : cond {A = ℕ} (has_slot slot (get_or waiting place d)) 1 0 ≡ cond {A = ℕ} (127 == slot) 1 0 = ap (λ n. cond {A = ℕ} (n == slot) 1 0) slot_same in
            omega (arith, same, sound.once slot, sum_by-set (λ message. cond {A = ℕ} (has_slot slot message) 1 0) waiting place d d there.0);
      }

  pub queue-asked : (procedure : Option Procedure) (ri attempts : ℕ) (waiting : List Message) → may_ask procedure ≡ true
      → IsSoundQueue places procedure waiting → IsSoundQueue places (Some (Asking ri attempts)) (with_request ri waiting)
  queue-asked procedure ri attempts waiting may sound =
      elim (position is_request waiting) as (λ o. position is_request waiting ≡ o → IsSoundQueue places (Some (Asking ri attempts)) (put_at (IdentityRequest ri) waiting o)) [
        | None ↦ λ e. asked_first procedure ri attempts waiting may (nowhere is_request waiting e) sound
        | Some place ↦ λ e. asked_again procedure ri attempts waiting place may e sound
      ] refl

  -- a TEI is verified
  no_request : (tei : ℕ) (procedure : Option Procedure) (message : Message) → may_verify tei procedure ≡ true → IsDueAt places procedure message → is_request message ≡ false
  no_request tei None (IdentityRequest ri) may due = absurd (false≢true due)
  no_request tei (Some (Asking own attempts)) (IdentityRequest ri) may due = absurd (false≢true may)
  no_request tei (Some (Verifying own attempts)) (IdentityRequest ri) may due = absurd (false≢true due)
  no_request tei procedure (IdentityCheckResponse ri own) may due = refl
  no_request tei procedure (IdentityVerify own) may due = refl

  same_tei : (tei own verified : ℕ) → (verified == tei) ≡ true → (verified == own) ≡ true → (tei == own) ≡ true
  same_tei tei own verified first second = grind (arith, nat_tests)

  due_verified : (procedure : Option Procedure) (tei attempts : ℕ) (message : Message) → may_verify tei procedure ≡ true → IsDueAt places procedure message → IsDueAt places (Some (Verifying tei attempts)) message
  due_verified procedure tei attempts (IdentityRequest ri) may due = absurd (false≢true (sym (no_request tei procedure (IdentityRequest ri) may due)))
  due_verified procedure tei attempts (IdentityCheckResponse ri own) may due = due
  due_verified None tei attempts (IdentityVerify own) may due = absurd (false≢true due)
  due_verified (Some (Asking ri made)) tei attempts (IdentityVerify own) may due = absurd (false≢true due)
  due_verified (Some (Verifying verified made)) tei attempts (IdentityVerify own) may due = same_tei tei own verified may due

  verified_queue : (procedure : Option Procedure) (tei attempts : ℕ) (waiting : List Message) → may_verify tei procedure ≡ true → IsSoundQueue places procedure waiting → IsSoundQueue places (Some (Verifying tei attempts)) waiting
  verified_queue procedure tei attempts waiting may sound =
      queue-stays places places procedure (Some (Verifying tei attempts)) waiting (λ message due. due_verified procedure tei attempts message may due) sound

  pub queue-verified : (procedure : Option Procedure) (tei attempts : ℕ) (waiting : List Message) → may_verify tei procedure ≡ true
      → IsSoundQueue places procedure waiting → IsSoundQueue places (Some (Verifying tei attempts)) (with_verify tei waiting)
  queue-verified procedure tei attempts waiting may sound =
      elim (list_any is_verify waiting) as (λ b. list_any is_verify waiting ≡ b → IsSoundQueue places (Some (Verifying tei attempts)) (cond b waiting (waiting ++ IdentityVerify tei ∷ []))) [
        | true ↦ λ e. verified_queue procedure tei attempts waiting may sound
        | false ↦ λ e.
            queue-more places (Some (Verifying tei attempts)) (IdentityVerify tei) waiting (same_ri tei)
            (count-none (has_slot 127) waiting (λ k d l. own_slot procedure (get_or waiting k d) (sound.due k d l) (no_request tei procedure (get_or waiting k d) may (sound.due k d l)) (none-passes is_verify waiting e k d l)))
            (verified_queue procedure tei attempts waiting may sound)
      ] refl

-- A queue in which no two have one slot is no longer than the table, and one.
abbrev fits : Places → Message → Bool
fits places message = has_slot 127 message || is_on (slot_of message) places

abbrev is_apart : ℕ → Message → Bool
is_apart slot message = not (has_slot slot message)

fits_rest : (own : ℕ) (places : Places) (message : Message) → is_apart own message ≡ true → fits (Some own ∷ places) message ≡ true → fits places message ≡ true
fits_rest own places message other there = grind (arith, nat_tests)

only_own : (message : Message) → fits [] message ≡ true → has_slot 127 message ≡ true
only_own message there = grind arith

all_fit : (places : Places) (waiting : List Message) → ((slot : ℕ) → count_by (has_slot slot) waiting ≤ 1) → All (λ message. fits places message ≡ true) waiting → length waiting ≤ length places + 1
all_fit [] waiting once all =
    omega (arith, once 127, count-all (has_slot 127) waiting (λ k d l. only_own (get_or waiting k d) (all k d l)))
all_fit (None ∷ places) waiting once all = omega (arith, all_fit places waiting once all)
all_fit (Some own ∷ places) waiting once all =
    let others = filter (is_apart own) waiting in
    let shorter = all_fit places others (λ slot. omega (arith, count-filter (has_slot slot) (is_apart own) waiting, once slot))
    (All-filter_by (is_apart own) (λ message. fits (Some own ∷ places) message ≡ true) (λ message. fits places message ≡ true) (fits_rest own places) waiting all) in
    omega (arith, shorter, once own, length-filter (has_slot own) waiting, length-filter_both (has_slot own) (is_apart own) (λ message. refl) waiting)

due_fits : (places : Places) (procedure : Option Procedure) (message : Message) → IsDueAt places procedure message → fits places message ≡ true
due_fits places procedure (IdentityRequest ri) due = refl
due_fits places procedure (IdentityCheckResponse ri tei) due = grind arith
due_fits places procedure (IdentityVerify tei) due = refl

pub queue-length : (places : Places) (procedure : Option Procedure) (waiting : List Message) → IsSoundQueue places procedure waiting → length waiting ≤ length places + 1
queue-length places procedure waiting sound = all_fit places waiting sound.once (λ k d l. due_fits places procedure (get_or waiting k d) (sound.due k d l))
