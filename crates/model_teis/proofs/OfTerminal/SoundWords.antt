-- What the words of the table keep.
use Rattle.model_teis.proofs.OfTerminal.Vocabulary.{◌≡◌, ℕ, zero, suc, ◌+◌, ◌*◌, ◌<◌, ◌≤◌, ◌==◌, ◌||◌, Bool, true, false, cond, List, [], ◌∷◌, ◌++◌, length, length-set, max, set, get_or, drop, filter, replicate, Option, Some, None, IfSome, ap, subst, refl, sym, arith, All, AllByRecursion, All-nil, All-cons, All-from_recursion, nat_tests, same_number, false≢true, list_any, Places}
use Rattle.model_teis.proofs.OfTerminal.Vocabulary.{free_place, is_on, place_of, freed, table-empty, table-freed, table-put, on-freed, on-put, on-range, IsSoundTable, Terminal, fresh, Procedure, Asking, Verifying, Message, IdentityRequest, IdentityCheckResponse, IdentityVerify, action_of, next_number, IsSound, IsSoundProcedure, IsSoundQueue, is_due, is_other, is_response}
use Rattle.model_teis.proofs.OfTerminal.Vocabulary.{is_response_of, is_verified, is_verify, is_request, position, put_at, may_ask, may_verify, with_request, with_verify, named, teis_on, length-append, slice_get, slice_get_within, get_or_from_slice_get}
use Rattle.std.proofs.Math.Nat.{mod-lt}
use Rattle.lapd_frame.specs.declared.readings.Reading.{Reading}
use Rattle.model_teis.proofs.Named.{teis_few}
use Rattle.model_teis.proofs.OfTerminal.Queues.{IsDueAt, queue-kept, queue-stays, queue-rest, queue-more, queue-asked, queue-verified, queue-length, no_response}

-- as a line begins
pub empty_length : (n : ℕ) → length (replicate {A = Option ℕ} n None) ≡ n
empty_length zero = refl
empty_length (suc n) = ap suc (empty_length n)

pub sound_fresh : (r : Reading) (terminals seed : ℕ) → terminals ≤ 8 → seed < 65536 → IsSound (fresh r terminals seed)
sound_fresh r terminals seed few low = record {
  few = omega (arith, empty_length terminals);
  table = table-empty terminals;
  number = low;
  runs = tt;
  queue = record { due = All-nil (λ message. is_due (replicate terminals None) None message ≡ true); once = λ slot. omega arith };
}

-- the next reference number
pub number_low : (number : ℕ) → next_number number < 65536
number_low number = mod-lt (25173 * number + 13849) (omega arith)

-- A procedure ends.
ended_due : (places : Places) (procedure : Option Procedure) (message : Message) → is_response message ≡ true → IsDueAt places procedure message → IsDueAt places None message
ended_due places procedure (IdentityRequest ri) is due = absurd (false≢true is)
ended_due places procedure (IdentityCheckResponse ri tei) is due = due
ended_due places procedure (IdentityVerify tei) is due = absurd (false≢true is)

pub sound_ended : (m : Terminal) → IsSound m → IsSound (record m { procedure = None; waiting = filter is_response m.waiting })
sound_ended m sound = record {
  few = sound.few;
  table = sound.table;
  number = sound.number;
  runs = tt;
  queue = queue-kept is_response m.places m.places m.procedure None m.waiting (ended_due m.places m.procedure) sound.queue;
}

-- A TEI leaves that is not verified.
freed_length : (places : Places) (o : Option ℕ) → length (freed places o) ≡ length places
freed_length places None = refl
freed_length places (Some place) = length-set places place None

left_runs : (places : Places) (tei : ℕ) (procedure : Option Procedure) → is_verified tei procedure ≡ false → IfSome procedure (IsSoundProcedure places) → IfSome procedure (IsSoundProcedure (freed places (place_of tei places)))
left_runs places tei None other runs = tt
left_runs places tei (Some (Asking ri attempts)) other runs = runs
left_runs places tei (Some (Verifying own attempts)) other runs = (on-freed places tei own other runs.0, runs.1, runs.2)

left_due : (places : Places) (tei : ℕ) (procedure : Option Procedure) (message : Message) → is_other tei message ≡ true → IsDueAt places procedure message → IsDueAt (freed places (place_of tei places)) procedure message
left_due places tei procedure (IdentityRequest ri) other due = due
left_due places tei procedure (IdentityCheckResponse ri own) other due =
    let apart : (own == tei) ≡ false = grind arith in
    on-freed places tei own apart due
left_due places tei procedure (IdentityVerify own) other due = due

pub sound_left : (m : Terminal) (tei : ℕ) → is_verified tei m.procedure ≡ false → IsSound m
    → IsSound (record m { places = freed m.places (place_of tei m.places); waiting = filter (is_other tei) m.waiting })
sound_left m tei other sound = record {
  few = omega (arith, sound.few, freed_length m.places (place_of tei m.places));
  table = table-freed m.places tei sound.table;
  number = sound.number;
  runs = left_runs m.places tei m.procedure other sound.runs;
  queue = queue-kept (is_other tei) m.places (freed m.places (place_of tei m.places)) m.procedure m.procedure m.waiting (left_due m.places tei m.procedure) sound.queue;
}

-- A TEI comes to the line.
joined_runs : (places : Places) (place tei : ℕ) (procedure : Option Procedure) → free_place places ≡ Some place → IfSome procedure (IsSoundProcedure places) → IfSome procedure (IsSoundProcedure (set places place (Some tei)))
joined_runs places place tei None at runs = tt
joined_runs places place tei (Some (Asking ri attempts)) at runs = runs
joined_runs places place tei (Some (Verifying own attempts)) at runs = (on-put places place tei own at runs.0, runs.1, runs.2)

joined_due : (places : Places) (place tei : ℕ) (procedure : Option Procedure) (message : Message) → free_place places ≡ Some place → IsDueAt places procedure message → IsDueAt (set places place (Some tei)) procedure message
joined_due places place tei procedure (IdentityRequest ri) at due = due
joined_due places place tei procedure (IdentityCheckResponse ri own) at due = on-put places place tei own at due
joined_due places place tei procedure (IdentityVerify own) at due = due

pub sound_joined : (m : Terminal) (tei place : ℕ) → is_on tei m.places ≡ false → free_place m.places ≡ Some place → tei ≤ 126 → IsSound m → IsSound (record m { places = set m.places place (Some tei) })
sound_joined m tei place off at low sound = record {
  few = omega (arith, sound.few, length-set m.places place (Some tei));
  table = table-put m.places place tei sound.table off at low;
  number = sound.number;
  runs = joined_runs m.places place tei m.procedure at sound.runs;
  queue = queue-stays m.places (set m.places place (Some tei)) m.procedure m.procedure m.waiting (λ message due. joined_due m.places place tei m.procedure message at due) sound.queue;
}

-- A check is answered.
pub queue_responded : (m : Terminal) (tei : ℕ) → is_on tei m.places ≡ true → list_any (is_response_of tei) m.waiting ≡ false → IsSound m
    → IsSoundQueue m.places m.procedure (m.waiting ++ IdentityCheckResponse m.number tei ∷ [])
queue_responded m tei on none sound =
    queue-more m.places m.procedure (IdentityCheckResponse m.number tei) m.waiting on (no_response tei m.waiting (on-range m.places tei sound.table on) none) sound.queue

pub sound_responded : (m : Terminal) (tei : ℕ) → is_on tei m.places ≡ true → list_any (is_response_of tei) m.waiting ≡ false → IsSound m
    → IsSound (record m { number = next_number m.number; waiting = m.waiting ++ IdentityCheckResponse m.number tei ∷ [] })
sound_responded m tei on none sound = record { few = sound.few; table = sound.table; number = number_low m.number; runs = sound.runs; queue = queue_responded m tei on none sound }

-- A TEI is asked for, or verified.
pub sound_asked : (m : Terminal) (attempts : ℕ) → may_ask m.procedure ≡ true → 1 ≤ attempts → attempts ≤ 3 → IsSound m
    → IsSound (record m { number = next_number m.number; procedure = Some (Asking m.number attempts); waiting = with_request m.number m.waiting })
sound_asked m attempts may least most sound = record {
  few = sound.few;
  table = sound.table;
  number = number_low m.number;
  runs = (sound.number, least, most);
  queue = queue-asked m.places sound.table m.procedure m.number attempts m.waiting may sound.queue;
}

pub sound_verified : (m : Terminal) (tei attempts : ℕ) → is_on tei m.places ≡ true → may_verify tei m.procedure ≡ true → 1 ≤ attempts → attempts ≤ 2 → IsSound m
    → IsSound (record m { procedure = Some (Verifying tei attempts); waiting = with_verify tei m.waiting })
sound_verified m tei attempts on may least most sound = record {
  few = sound.few;
  table = sound.table;
  number = sound.number;
  runs = (on, least, most);
  queue = queue-verified m.places sound.table m.procedure tei attempts m.waiting may sound.queue;
}

-- The oldest message is taken, or all are given up.
pub sound_rest : (m : Terminal) → IsSound m → IsSound (record m { waiting = drop 1 m.waiting })
sound_rest m sound = record { few = sound.few; table = sound.table; number = sound.number; runs = sound.runs; queue = queue-rest m.places m.procedure m.waiting sound.queue }

pub sound_down : (m : Terminal) → IsSound m → IsSound (record m { procedure = None; waiting = [] })
sound_down m sound = record {
  few = sound.few;
  table = sound.table;
  number = sound.number;
  runs = tt;
  queue = record { due = All-nil (λ message. is_due m.places None message ≡ true); once = λ slot. omega arith };
}

-- A place more than there are TEIs is enough.
pub room : (m : Terminal) → IsSound m → length m.waiting ≤ length m.places + 1
room m sound = queue-length m.places m.procedure m.waiting sound.queue

pub few_messages : (m : Terminal) → IsSound m → length m.waiting ≤ 9
few_messages m sound = omega (arith, room m sound, sound.few)

-- What waits names a TEI or the group.
pub due_action : (places : Places) (procedure : Option Procedure) (message : Message) → IsSoundTable places → IfSome procedure (IsSoundProcedure places) → IsDueAt places procedure message → action_of message < 128
due_action places procedure (IdentityRequest ri) table runs due = omega arith
due_action places procedure (IdentityCheckResponse ri tei) table runs due = omega (arith, on-range places tei table due)
due_action places None (IdentityVerify tei) table runs due = absurd (false≢true due)
due_action places (Some (Asking ri attempts)) (IdentityVerify tei) table runs due = absurd (false≢true due)
due_action places (Some (Verifying own attempts)) (IdentityVerify tei) table runs due =
    omega (arith, on-range places tei table (subst (λ n. is_on n places ≡ true) (same_number own tei due) runs.0))

pub low_action : (m : Terminal) (k : ℕ) (message : Message) → IsSound m → k < length m.waiting → get_or m.waiting k message ≡ message → action_of message < 128
low_action m k message sound within at =
    due_action m.places m.procedure message sound.table sound.runs (subst (IsDueAt m.places m.procedure) at (sound.queue.due k message within))

-- The TEIs that an Ai names are on the line.
or_right : (a b : Bool) → b ≡ true → (a || b) ≡ true
or_right a b e = grind arith

pub same_itself : (n : ℕ) → (n == n) ≡ true
same_itself n = grind (arith, nat_tests)

or_left : (a b : Bool) → a ≡ true → (a || b) ≡ true
or_left a b e = grind arith

each_on : (whole places : Places) → ((own : ℕ) → is_on own places ≡ true → is_on own whole ≡ true) → AllByRecursion (λ tei. is_on tei whole ≡ true) (teis_on places)
each_on whole [] h = tt
each_on whole (None ∷ places) h = each_on whole places (λ own e. h own (or_right false _ e))
each_on whole (Some tei ∷ places) h = (h tei (or_left _ _ (same_itself tei)), each_on whole places (λ own e. h own (or_right _ _ e)))

pub named_on : (tei : ℕ) (places : Places) → All (λ own. is_on own places ≡ true) (named tei places)
named_on tei places =
    elim (tei == 127) as (λ b. All (λ own. is_on own places ≡ true) (cond b (teis_on places) (cond (is_on tei places) (tei ∷ []) []))) [
      | true ↦ All-from_recursion (λ own. is_on own places ≡ true) (teis_on places) (each_on places places (λ own e. e))
      | false ↦ elim (is_on tei places) as (λ b. is_on tei places ≡ b → All (λ own. is_on own places ≡ true) (cond b (tei ∷ []) [])) [
        | true ↦ λ e. All-cons (λ own. is_on own places ≡ true) tei [] e (All-nil (λ own. is_on own places ≡ true))
        | false ↦ λ e. All-nil (λ own. is_on own places ≡ true)
      ] refl
    ]

-- The same, as the code's values have it.
pub ended_is : (m : Terminal) (waiting : List Message) → waiting ≡ filter is_response m.waiting → IsSound m → IsSound (record m { procedure = None; waiting = waiting })
ended_is m waiting e sound = subst (λ w. IsSound (record m { procedure = None; waiting = w })) (sym e) (sound_ended m sound)

pub left_is : (m : Terminal) (tei : ℕ) (places : Places) (waiting : List Message) → places ≡ freed m.places (place_of tei m.places) → waiting ≡ filter (is_other tei) m.waiting
    → is_verified tei m.procedure ≡ false → IsSound m → IsSound (record m { places = places; waiting = waiting })
left_is m tei places waiting e f other sound =
    subst (λ w. IsSound (record m { places = places; waiting = w })) (sym f)
    (subst (λ p. IsSound (record m { places = p; waiting = filter (is_other tei) m.waiting })) (sym e) (sound_left m tei other sound))

pub joined_is : (m : Terminal) (tei place : ℕ) (places : Places) → places ≡ set m.places place (Some tei) → is_on tei m.places ≡ false → free_place m.places ≡ Some place → tei ≤ 126 → IsSound m
    → IsSound (record m { places = places })
joined_is m tei place places e off at low sound = subst (λ p. IsSound (record m { places = p })) (sym e) (sound_joined m tei place off at low sound)

pub responded_is : (m : Terminal) (tei number : ℕ) (waiting : List Message) → number ≡ next_number m.number → waiting ≡ m.waiting ++ IdentityCheckResponse m.number tei ∷ []
    → is_on tei m.places ≡ true → list_any (is_response_of tei) m.waiting ≡ false → IsSound m → IsSound (record m { number = number; waiting = waiting })
responded_is m tei number waiting e f on none sound =
    subst (λ w. IsSound (record m { number = number; waiting = w })) (sym f)
    (subst (λ n. IsSound (record m { number = n; waiting = m.waiting ++ IdentityCheckResponse m.number tei ∷ [] })) (sym e) (sound_responded m tei on none sound))

pub asked_is : (m : Terminal) (attempts number : ℕ) (waiting : List Message) → number ≡ next_number m.number → waiting ≡ with_request m.number m.waiting
    → may_ask m.procedure ≡ true → 1 ≤ attempts → attempts ≤ 3 → IsSound m → IsSound (record m { number = number; procedure = Some (Asking m.number attempts); waiting = waiting })
asked_is m attempts number waiting e f may least most sound =
    subst (λ w. IsSound (record m { number = number; procedure = Some (Asking m.number attempts); waiting = w })) (sym f)
    (subst (λ n. IsSound (record m { number = n; procedure = Some (Asking m.number attempts); waiting = with_request m.number m.waiting })) (sym e) (sound_asked m attempts may least most sound))

pub verified_is : (m : Terminal) (tei attempts : ℕ) (waiting : List Message) → waiting ≡ with_verify tei m.waiting → is_on tei m.places ≡ true → may_verify tei m.procedure ≡ true
    → 1 ≤ attempts → attempts ≤ 2 → IsSound m → IsSound (record m { procedure = Some (Verifying tei attempts); waiting = waiting })
verified_is m tei attempts waiting e on may least most sound =
    subst (λ w. IsSound (record m { procedure = Some (Verifying tei attempts); waiting = w })) (sym e) (sound_verified m tei attempts on may least most sound)

pub rest_is : (m : Terminal) (waiting : List Message) → waiting ≡ drop 1 m.waiting → IsSound m → IsSound (record m { waiting = waiting })
rest_is m waiting e sound = subst (λ w. IsSound (record m { waiting = w })) (sym e) (sound_rest m sound)

-- The room that each message needs.
pub room_to_ask : (m : Terminal) (attempts : ℕ) → may_ask m.procedure ≡ true → 1 ≤ attempts → attempts ≤ 3 → IsSound m → length (with_request m.number m.waiting) ≤ 9
room_to_ask m attempts may least most sound = few_messages _ (sound_asked m attempts may least most sound)

pub room_to_verify : (m : Terminal) (tei attempts : ℕ) → is_on tei m.places ≡ true → may_verify tei m.procedure ≡ true → 1 ≤ attempts → attempts ≤ 2 → IsSound m → length (with_verify tei m.waiting) ≤ 9
room_to_verify m tei attempts on may least most sound = few_messages _ (sound_verified m tei attempts on may least most sound)

pub room_to_respond : (m : Terminal) (tei : ℕ) → is_on tei m.places ≡ true → list_any (is_response_of tei) m.waiting ≡ false → IsSound m → length m.waiting + 1 ≤ 9
room_to_respond m tei on none sound =
    let few : length (m.waiting ++ IdentityCheckResponse m.number tei ∷ []) ≤ 9 = few_messages _ (sound_responded m tei on none sound) in
    omega (arith, few, length-append m.waiting (IdentityCheckResponse m.number tei ∷ []))

pub low_front : (m : Terminal) (message : Message) → IsSound m → slice_get m.waiting 0 ≡ Some message → action_of message < 128
low_front m message sound e = low_action m 0 message sound (slice_get_within m.waiting 0 message e) (get_or_from_slice_get m.waiting 0 message message e)

pub named_few : (tei : ℕ) (places : Places) → length (named tei places) ≤ max 1 (length places)
named_few tei places =
    elim (tei == 127) as (λ b. length (cond b (teis_on places) (cond (is_on tei places) (tei ∷ []) [])) ≤ max 1 (length places)) [
      | true ↦ omega (arith, teis_few places)
      | false ↦ elim (is_on tei places) as (λ b. length (cond b (tei ∷ []) []) ≤ max 1 (length places)) [
        | true ↦ omega arith
        | false ↦ omega arith
      ]
    ]

-- a TEI that is verified is on the line, and may be verified again
pub verified_on : (m : Terminal) (tei attempts : ℕ) → m.procedure ≡ Some (Verifying tei attempts) → IsSound m → (is_on tei m.places ≡ true) × (may_verify tei m.procedure ≡ true)
verified_on m tei attempts runs sound =
    let on : IsSoundProcedure m.places (Verifying tei attempts) = subst (λ o. IfSome o (IsSoundProcedure m.places)) runs sound.runs in
    (on.0, subst (λ o. may_verify tei o ≡ true) (sym runs) (same_itself tei))

-- the room that is asked of a queue
pub room_of_first : (ri : ℕ) (waiting : List Message) → position is_request waiting ≡ None → length (with_request ri waiting) ≤ 9 → length waiting + 1 ≤ 9
room_of_first ri waiting none few =
    let whole : length (waiting ++ IdentityRequest ri ∷ []) ≤ 9 = subst (λ o. length (put_at (IdentityRequest ri) waiting o) ≤ 9) none few in
    omega (arith, whole, length-append waiting (IdentityRequest ri ∷ []))

pub room_of_verify : (tei : ℕ) (waiting : List Message) → list_any is_verify waiting ≡ false → length (with_verify tei waiting) ≤ 9 → length waiting + 1 ≤ 9
room_of_verify tei waiting none few =
    let whole : length (waiting ++ IdentityVerify tei ∷ []) ≤ 9 = subst (λ b. length (cond b waiting (waiting ++ IdentityVerify tei ∷ [])) ≤ 9) none few in
    omega (arith, whole, length-append waiting (IdentityVerify tei ∷ []))
