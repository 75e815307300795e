-- What each row of the table keeps.
use Rattle.model_teis.proofs.OfNetwork.Vocabulary.{◌≡◌, ℕ, ◌≤◌, true, false, set, Option, Some, None, IfSome, subst, refl, sym, arith, List, [], option_map, IdentityAssigned, IdentityDenied, IdentityCheckRequest, IdentityRemove, Message, action_of, Places, is_on, place_of, free_place, Management, Check, Remembered, TeiTold, Gained, Course, with_message, freed, left, is_of_other, Event, IsInRange}
use Rattle.lapd_frame.specs.declared.notes.Note.TheVariants.{Doubled, Removed}
use Rattle.model_teis.proofs.OfNetwork.Vocabulary.{◌==◌, ◌∙◌, Bool, length, length-replicate, replicate, AnnexB, First, Second, AreSoundChecks, IsAsRead, MayBeDue, begin_check, begun, check_is_due, counted, due_at, end_check, is_checked, leave, note, nothing, send}
use Rattle.model_teis.proofs.OfNetwork.Vocabulary.{IsSoundCheck, IsSoundQueue, IsSound, IsSoundMemory, Moves, course, filter}
use Rattle.model_teis.proofs.Tables.{table-freed, on-newcomer, on-range, free_tei-is, free_place-is, place_of-is}
use Rattle.model_teis.proofs.OfNetwork.Memories.{memory-put, memory-as_read, memory-freed, remembered-range}
use Rattle.model_teis.proofs.OfNetwork.SoundWords.{sound_came, queue-empty, queue-sent, check-freed, check-begun, check-again, check-counted, same-counted}
use Rattle.model_teis.proofs.OfNetwork.Walk.{OfEvents, OfMessages, of_event}
use Rattle.model_teis.proofs.OfNetwork.Dues.{dues-none, dues-freed, dues-later, dues-idle, dues-same, none-replicate, read-less, read-leaving, read-remembered, read-none, read-annex_b}
use Rattle.model_teis.proofs.OfNetwork.Ends.{IsEnded, ended}

-- Where an event has led, from m on.
pub record Leads (m : Management) (c : Course) : Type 0 where
  pub sound : IsSound c.now
  pub moves : Moves m.places c.told.change c.now.places

-- the table after a TEI left
moved_out : (places : Places) (tei : ℕ) → Moves places (option_map (left tei) (place_of tei places)) (freed places (place_of tei places))
moved_out places tei =
    elim (place_of tei places) as (λ o. place_of tei places ≡ o → Moves places (option_map (left tei) o) (freed places o)) [
      | None ↦ λ e. refl
      | Some place ↦ λ e. record { within = (place_of-is places tei place e).0; was_there = (place_of-is places tei place e).1; is_free = refl }
    ] refl

module _ (m : Management) (sound : IsSound m) where
  -- the table stays as it is,
  stays : (check : Option Check) (to_check : List Bool) (waiting : List Message) (told : TeiTold) → told.change ≡ None → IfSome check (IsSoundCheck m.reading m.places)
      → AreSoundChecks m.places check to_check → IsAsRead m.reading m.remembered to_check → IsSoundQueue waiting
      → Leads m (record { now = record m { check = check; to_check = to_check; waiting = waiting }; told = told })
  stays check to_check waiting told change checked due read queue = record {
    sound = record { table = sound.table; memory = sound.memory; checked = checked; due = due; queue = queue; read = read };
    moves = subst (λ o. Moves m.places o m.places) (sym change) refl;
  }

  says : (waiting : List Message) (told : TeiTold) → told.change ≡ None → IsSoundQueue waiting → Leads m (record { now = record m { waiting = waiting }; told = told })
  says waiting told change queue = stays m.check m.to_check waiting told change sound.checked sound.due sound.read queue

  stands_still : (told : TeiTold) → told.change ≡ None → Leads m (record { now = m; told = told })
  stands_still told change = says m.waiting told change sound.queue

  -- a TEI comes,
  comes : (tei place : ℕ) (remembered : List Remembered) (waiting : List Message) (told : TeiTold) → told.change ≡ Some (Gained tei place)
      → is_on tei m.places ≡ false → free_place m.places ≡ Some place → tei ≤ 126 → IsSoundMemory (set m.places place (Some tei)) remembered → IsSoundQueue waiting
      → IsAsRead m.reading remembered m.to_check
      → Leads m (record { now = record m { places = set m.places place (Some tei); remembered = remembered; waiting = waiting }; told = told })
  comes tei place remembered waiting told change off at low memory queue read =
      let there = free_place-is m.places place at in
      record {
        sound = sound_came m place tei _ remembered waiting sound off at low refl memory queue read;
        moves = subst (λ o. Moves m.places o (set m.places place (Some tei))) (sym change)
            (record { lowest = at; within = there.0; was_free = there.1; was_off = off; range = low; is_there = refl });
      }

  -- or leaves
  goes : (tei : ℕ) (check : Option Check) (to_check : List Bool) (waiting : List Message) (told : TeiTold) → told.change ≡ option_map (left tei) (place_of tei m.places)
      → is_checked tei check ≡ false → IfSome check (IsSoundCheck m.reading m.places) → AreSoundChecks m.places check to_check → IsAsRead m.reading m.remembered to_check → IsSoundQueue waiting
      → Leads m (record {
        now = record m {
          places = freed m.places (place_of tei m.places);
          remembered = filter (is_of_other tei) m.remembered;
          check = check;
          to_check = due_at (place_of tei m.places) false to_check;
          waiting = waiting;
        };
        told = told;
      })
  goes tei check to_check waiting told change other checked due read queue = record {
    sound = record {
      table = table-freed m.places tei sound.table;
      memory = memory-freed m.places m.remembered tei sound.memory;
      checked = check-freed m.reading m.places check tei other checked;
      due = dues-freed m.places check to_check tei due;
      queue = queue;
      read = read-less m.reading (filter (is_of_other tei) m.remembered) to_check (place_of tei m.places) (read-leaving m.reading m.remembered to_check (is_of_other tei) read);
    };
    moves = subst (λ o. Moves m.places o (freed m.places (place_of tei m.places))) (sym change) (moved_out m.places tei);
  }

  -- a check ends, and its TEI stays or leaves
  ends_so : (own : Check) (waiting : List Message) (told : TeiTold) → told.change ≡ None → m.check ≡ Some own → IsSoundQueue waiting
      → IsEnded (record { now = record m { waiting = waiting }; told = told }) own (end_check (record { now = record m { waiting = waiting }; told = told }))
  ends_so own waiting told change is queue = ended (record { now = record m { waiting = waiting }; told = told }) own (says waiting told change queue).sound is

  ends : (own : Check) → m.check ≡ Some own → Leads m (end_check (begun m))
  ends own is =
      let d = end_check (begun m) in
      let e = ends_so own m.waiting nothing refl is sound.queue in
      subst (λ n. Leads m (record { now = n; told = d.told })) (sym e.now) (stays d.now.check d.now.to_check m.waiting d.told e.change e.checked e.due e.read sound.queue)

  goes_after : (own : Check) (waiting : List Message) (told : TeiTold) → told.change ≡ None → m.check ≡ Some own → IsSoundQueue waiting
      → Leads m (leave own.tei (end_check (record { now = record m { waiting = waiting }; told = told })))
  goes_after own waiting told change is queue =
      let d = end_check (record { now = record m { waiting = waiting }; told = told }) in
      let e = ends_so own waiting told change is queue in
      subst (λ n. Leads m (leave own.tei (record { now = n; told = d.told }))) (sym e.now)
      (goes own.tei d.now.check d.now.to_check waiting _ refl e.other e.checked e.due e.read queue)

  -- what the words keep, and so each way in which an event ends
  sent : (message : Message) → action_of message ≤ 127 → IsSoundQueue (with_message message m.waiting)
  sent message low = queue-sent message m.waiting sound.queue low

  low : (tei : ℕ) → is_on tei m.places ≡ true → tei ≤ 127
  low tei on = omega (arith, on-range m.places tei sound.table on)

  checked_is : (own : Check) → m.check ≡ Some own → IsSoundCheck m.reading m.places own
  checked_is own is = subst (λ o. IfSome o (IsSoundCheck m.reading m.places)) is sound.checked

  removes : (own : Check) → m.check ≡ Some own → IsSoundQueue (with_message (IdentityRemove own.tei) m.waiting)
  removes own is = sent (IdentityRemove own.tei) (low own.tei (checked_is own is).on_line)

  begins : (tei : ℕ) → is_on tei m.places ≡ true → m.check ≡ None → Leads m (begin_check tei (begun m))
  begins tei on is = stays _ _ _ _ refl (check-begun m.reading m.places tei on) (dues-idle m.places m.check m.to_check _ is sound.due) sound.read (sent (IdentityCheckRequest tei) (low tei on))

  later : (own : Check) (tei : ℕ) (waiting : List Message) (told : TeiTold) → told.change ≡ None → m.reading ≡ AnnexB → m.check ≡ Some own → (own.tei == tei) ≡ false → IsSoundQueue waiting
      → Leads m (check_is_due tei (record { now = record m { waiting = waiting }; told = told }))
  later own tei waiting told change read is other queue =
      stays m.check _ waiting told change sound.checked (dues-later m.places m.check m.to_check tei (subst (MayBeDue (Some tei)) (sym is) other) sound.due)
      (read-annex_b m.reading m.remembered m.to_check _ read sound.read) queue

  messages : OfMessages m (Leads m)
  messages = record {
    is_unserved = stands_still _ refl;
    is_lost = stands_still _ refl;
    is_denied = λ ri tei few. says _ _ refl (sent (IdentityDenied ri tei) few);
    comes_again = λ ri tei is. says _ _ refl (sent (IdentityAssigned ri tei) (remembered-range m.places m.remembered ri tei sound.table sound.memory is));
    is_new = λ ri place tei new at free.
        let lowest = free_tei-is m.places tei free in
        let put = memory-put m.places m.remembered place tei at sound.memory in
        comes tei place _ _ _ refl lowest.off at lowest.most
        (memory-as_read m.reading m.places (set m.places place (Some tei)) m.remembered ri tei sound.memory put new lowest.off (on-newcomer m.places place tei at))
        (sent (IdentityAssigned ri tei) (omega (arith, lowest.most))) (read-remembered m.reading m.remembered _ m.to_check sound.read);
    begins = begins;
    is_later = λ own tei read on is other. later own tei _ _ refl read is other (sent (IdentityCheckRequest tei) (low tei on));
    is_still_asked = λ own tei read on is other. later own tei _ _ refl read is other sound.queue;
    is_counted = λ own is few.
        stays _ m.to_check _ _ refl (check-counted m.reading m.places own (checked_is own is) few) (dues-same m.places m.check m.to_check own (counted own) is (same-counted own) sound.due) sound.read sound.queue;
    is_doubled = λ own is. goes_after own _ (send (IdentityRemove own.tei) (note (Doubled own.tei) (begun m))).told refl is (removes own is);
  }

  ways : (e : Event) → IsInRange e → OfEvents e m (Leads m)
  ways e range = record {
    messages = λ octets is. messages;
    expiries = record {
      is_idle = λ is. stands_still _ refl;
      asks_again = λ own is.
          let checked = checked_is own is in
          stays _ m.to_check _ _ refl (check-again m.reading m.places own checked) (dues-same m.places m.check m.to_check own (record own { period = Second }) is refl sound.due) sound.read
          (sent (IdentityCheckRequest own.tei) (low own.tei checked.on_line));
      has_settled = λ own is.
          let checked = checked_is own is in
          stays _ m.to_check _ _ refl (check-begun m.reading m.places own.tei checked.on_line)
          (dues-same m.places m.check m.to_check own (record { tei = own.tei; period = First; first = 0; second = 0 }) is refl sound.due) sound.read
          (sent (IdentityCheckRequest own.tei) (low own.tei checked.on_line));
      is_removed = λ own is. goes_after own _ (note (Removed own.tei) (begun m)).told refl is sound.queue;
      is_told = λ own read is. goes_after own _ (send (IdentityRemove own.tei) (note (Removed own.tei) (begun m))).told refl is (removes own is);
      ends = ends;
    };
    is_refused = stands_still _ refl;
    joins = λ tei place is off at.
        comes tei place _ _ _ refl off at (subst IsInRange is range) (memory-put m.places m.remembered place tei at sound.memory) sound.queue sound.read;
    begins = begins;
    leaves_checked = λ own is. goes_after own _ (send (IdentityRemove own.tei) (begun m)).told refl is (removes own is);
    leaves = λ tei on other. goes tei m.check m.to_check _ _ refl other sound.checked sound.due sound.read (sent (IdentityRemove tei) (low tei on));
    disowns = λ tei is. says _ _ refl (sent (IdentityRemove tei) (subst IsInRange is range));
    gives_up = λ is. stays m.check _ [] _ refl sound.checked (given_up m.check) none_read queue-empty;
    gives_up_checked = λ own is. stays None _ [] _ refl tt (given_up None) none_read queue-empty;
  }
    where
      given_up : (check : Option Check) → AreSoundChecks m.places check (replicate (length m.to_check) false)
      given_up check = dues-none m.places check (replicate (length m.to_check) false) (length-replicate (length m.to_check) false ∙ sound.due.each) (none-replicate (length m.to_check))

      none_read : IsAsRead m.reading m.remembered (replicate (length m.to_check) false)
      none_read = read-none m.reading m.remembered m.to_check (length m.to_check) sound.read

  pub leads : (e : Event) → IsInRange e → Leads m (course e m)
  leads e range = of_event m (Leads m) e (ways e range)
