-- What the words of the table keep.
use Rattle.model_teis.proofs.OfNetwork.Vocabulary.{Remembered, ◌≡◌, ℕ, ◌+◌, ◌≤◌, nat_le, true, false, cond, List, [], ◌∷◌, ◌++◌, length, drop, set, replicate, Option, Some, None, IfSome, refl, arith, length-append, length-drop, IsDistinct, nat_tests, All-nil, All-cons, All-append, Message, action_of, Places, is_on, place_of, free_place, Check, Period, First, Second, Settling, Reading, no_room}
use Rattle.model_teis.proofs.OfNetwork.Vocabulary.{with_message, freed}
use Rattle.model_teis.proofs.OfNetwork.Vocabulary.{counted, responses, is_checked, IsSoundMemory, IsSoundCheck, IsSoundQueue, IsSound, Management, sym, subst}
use Rattle.model_teis.proofs.OfNetwork.Vocabulary.{AreSoundChecks, IsAsRead}
use Rattle.model_teis.proofs.OfNetwork.Vocabulary.{Bool, false≢true, list_any, length-replicate, ◌∙◌, AnnexB, MayBeDue, IdentityCheckRequest, Course, asks_for, due_at, nothing_happens, send}
use Rattle.model_teis.specs.network.Rows.{ask_once}
use Rattle.model_teis.proofs.Tables.{on-put, on-freed, on-range, same_number, table-put}
use Rattle.model_teis.proofs.OfNetwork.Dues.{dues-put, dues-later, dues-none, none-replicate, read-annex_b, read-none}

has_room : (n : ℕ) → nat_le 4 n ≡ false → n + 1 ≤ 4
has_room n e = grind (arith, nat_tests)

abbrev names_one : Message → Type 0
names_one message = action_of message ≤ 127

pub queue-sent : (message : Message) (waiting : List Message) → IsSoundQueue waiting → action_of message ≤ 127 → IsSoundQueue (with_message message waiting)
queue-sent message waiting sound low =
    elim (no_room waiting) as (λ b. no_room waiting ≡ b → IsSoundQueue (cond b waiting (waiting ++ message ∷ []))) [
      | true ↦ λ e. sound
      | false ↦ λ e. record {
        few = omega (arith, has_room (length waiting) e, length-append waiting (message ∷ []));
        actions = All-append names_one waiting (message ∷ []) sound.actions (All-cons names_one message [] low (All-nil names_one));
      }
    ] refl

-- a message is sent, and the table stays
pub sound_sent : (m : Management) (message : Message) (check : Option Check) (waiting : List Message) → IsSound m → action_of message ≤ 127 → IfSome check (IsSoundCheck m.reading m.places)
    → AreSoundChecks m.places check m.to_check → waiting ≡ with_message message m.waiting → IsSound (record m { check = check; waiting = waiting })
sound_sent m message check waiting sound low checked due sent = record {
  table = sound.table;
  memory = sound.memory;
  checked = checked;
  due = due;
  queue = subst IsSoundQueue (sym sent) (queue-sent message m.waiting sound.queue low);
  read = sound.read;
}

-- another check runs
pub sound_checked : (m : Management) (check : Option Check) → IsSound m → IfSome check (IsSoundCheck m.reading m.places) → AreSoundChecks m.places check m.to_check → IsSound (record m { check = check })
sound_checked m check sound checked due =
    record { table = sound.table; memory = sound.memory; checked = checked; due = due; queue = sound.queue; read = sound.read }

-- a TEI that is on the line can be named in a message
pub on_low : (m now : Management) (tei : ℕ) → m ≡ now → IsSound m → is_on tei now.places ≡ true → tei ≤ 127
on_low m now tei is sound on = omega (arith, on-range m.places tei sound.table (subst (λ n. is_on tei n.places ≡ true) (sym is) on))

pub queue-rest : (waiting : List Message) → IsSoundQueue waiting → IsSoundQueue (drop 1 waiting)
queue-rest waiting sound = grind (arith, length-drop)

pub check-put : (r : Reading) (places : Places) (check : Option Check) (place tei : ℕ) → free_place places ≡ Some place → IfSome check (IsSoundCheck r places) → IfSome check (IsSoundCheck r (set places place (Some tei)))
check-put r places None place tei at sound = sound
check-put r places (Some check) place tei at sound =
    record { on_line = on-put places place tei check.tei at sound.on_line; first = sound.first; second = sound.second; settled = sound.settled }

pub check-freed : (r : Reading) (places : Places) (check : Option Check) (tei : ℕ) → is_checked tei check ≡ false → IfSome check (IsSoundCheck r places) → IfSome check (IsSoundCheck r (freed places (place_of tei places)))
check-freed r places None tei other sound = sound
check-freed r places (Some check) tei other sound =
    record { on_line = on-freed places tei check.tei other sound.on_line; first = sound.first; second = sound.second; settled = sound.settled }

pub check-begun : (r : Reading) (places : Places) (tei : ℕ) → is_on tei places ≡ true → IsSoundCheck r places (record { tei = tei; period = First; first = 0; second = 0 })
check-begun r places tei on = record { on_line = on; first = omega arith; second = omega arith; settled = tt }

pub check-settles : (r : Reading) (places : Places) (tei : ℕ) → r ≡ AnnexB → is_on tei places ≡ true → IsSoundCheck r places (record { tei = tei; period = Settling; first = 0; second = 0 })
check-settles r places tei read on = record { on_line = on; first = omega arith; second = omega arith; settled = (read, refl, refl) }

pub check-again : (r : Reading) (places : Places) (check : Check) → IsSoundCheck r places check → IsSoundCheck r places (record check { period = Second })
check-again r places check sound = record { on_line = sound.on_line; first = sound.first; second = sound.second; settled = tt }

pub same-counted : (own : Check) → (counted own).tei ≡ own.tei
same-counted own = grind arith

below_two : (n : ℕ) → nat_le 2 n ≡ false → n ≤ 1
below_two n e = grind (arith, nat_tests)

pub check-counted : (r : Reading) (places : Places) (check : Check) → IsSoundCheck r places check → nat_le 2 (responses (counted check)) ≡ false → IsSoundCheck r places (counted check)
check-counted r places check sound few = by-period check.period refl
  where
    by-period : (q : Period) → check.period ≡ q → IsSoundCheck r places (counted check)
    by-period First is = grind (arith, nat_le, below_two)
    by-period Second is = grind (arith, nat_le, below_two)
    by-period Settling is = grind (arith, nat_le, below_two)

-- a TEI comes to a place,
pub sound_came : (m : Management) (place tei : ℕ) (places : Places) (remembered : List Remembered) (waiting : List Message) → IsSound m → is_on tei m.places ≡ false → free_place m.places ≡ Some place → tei ≤ 126
    → places ≡ set m.places place (Some tei) → IsSoundMemory (set m.places place (Some tei)) remembered → IsSoundQueue waiting → IsAsRead m.reading remembered m.to_check
    → IsSound (record m { places = places; remembered = remembered; waiting = waiting })
sound_came m place tei places remembered waiting sound off at low is memory queue read =
    subst (λ p. IsSound (record m { places = p; remembered = remembered; waiting = waiting })) (sym is) (record {
      table = table-put m.places place tei sound.table off at low;
      memory = memory;
      checked = check-put m.reading m.places m.check place tei at sound.checked;
      due = dues-put m.places m.check m.to_check place tei at sound.due;
      queue = queue;
      read = read;
    })

-- as things begin
pub memory-empty : (places : Places) → IsSoundMemory places []
unfolding IsDistinct
memory-empty places = record { few = omega arith; one_ri = tt; one_tei = tt; on_line = All-nil (λ r. is_on r.tei places ≡ true) }

pub queue-empty : IsSoundQueue []
queue-empty = record { few = omega arith; actions = All-nil names_one }

-- ---- of the code: what a state says in which an event stands

-- the TEI under check is on the line
pub checked_on : (r : Reading) (places : Places) (tei : ℕ) (o : Option Check) → IfSome o (IsSoundCheck r places) → is_checked tei o ≡ true → is_on tei places ≡ true
checked_on r places tei None sound is = absurd (false≢true is)
checked_on r places tei (Some own) sound is = subst (λ n. is_on n places ≡ true) (same_number own.tei tei is) sound.on_line

pub checked_now : (m now : Management) (tei : ℕ) → m ≡ now → IsSound m → is_checked tei now.check ≡ true → is_on tei now.places ≡ true
checked_now m now tei is sound own = subst (λ n. is_checked tei n.check ≡ true → is_on tei n.places ≡ true) is (checked_on m.reading m.places tei m.check sound.checked) own

-- a message is sent, and all else stays
pub sound_said : (m : Management) (message : Message) (waiting : List Message) → IsSound m → action_of message ≤ 127 → waiting ≡ with_message message m.waiting → IsSound (record m { waiting = waiting })
sound_said m message waiting sound low sent = sound_sent m message m.check waiting sound low sound.checked sound.due sent

-- a check is due
pub sound_due : (m : Management) (tei : ℕ) (to_check : List Bool) → IsSound m → m.reading ≡ AnnexB → MayBeDue (Some tei) m.check → to_check ≡ due_at (place_of tei m.places) true m.to_check
    → IsSound (record m { to_check = to_check })
sound_due m tei to_check sound read may is = record {
  table = sound.table;
  memory = sound.memory;
  checked = sound.checked;
  due = subst (AreSoundChecks m.places m.check) (sym is) (dues-later m.places m.check m.to_check tei may sound.due);
  queue = sound.queue;
  read = read-annex_b m.reading m.remembered m.to_check to_check read sound.read;
}

-- the line is down
pub sound_down : (m : Management) (to_check : List Bool) (waiting : List Message) → IsSound m → to_check ≡ replicate (length m.to_check) false → waiting ≡ []
    → IsSound (record m { check = None; to_check = to_check; waiting = waiting })
sound_down m to_check waiting sound cleared none = record {
  table = sound.table;
  memory = sound.memory;
  checked = tt;
  due = subst (AreSoundChecks m.places None) (sym cleared)
      (dues-none m.places None (replicate (length m.to_check) false) (length-replicate (length m.to_check) false ∙ sound.due.each) (none-replicate (length m.to_check)));
  queue = subst IsSoundQueue (sym none) queue-empty;
  read = subst (IsAsRead m.reading m.remembered) (sym cleared) (read-none m.reading m.remembered m.to_check (length m.to_check) sound.read);
}

-- A check request that is sent unless one waits leaves the rest.
pub asked : (tei : ℕ) (c : Course) → ((ask_once tei c).now.reading ≡ c.now.reading) × ((ask_once tei c).now.check ≡ c.now.check)
asked tei c = go (list_any (asks_for tei) c.now.waiting)
  where
    go : (b : Bool) → (((cond b nothing_happens (send (IdentityCheckRequest tei))) c).now.reading ≡ c.now.reading) × (((cond b nothing_happens (send (IdentityCheckRequest tei))) c).now.check ≡ c.now.check)
    go true = (refl, refl)
    go false = (refl, refl)
