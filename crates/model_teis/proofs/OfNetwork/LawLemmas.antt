-- The laws of the table, from what each of its rows keeps.
use Rattle.std.specs.Prelude.{if◌then◌else◌, ◌*◌}
use Rattle.model_teis.proofs.OfNetwork.Vocabulary.{arith, ℕ, ◌+◌, ◌≤◌, Bool, length, list_any, is_due, Profile, AnnexB, Remembered, List, [], ◌∷◌, ap, heard_in, responses_in, Reading, Management, empty, held, Event, refusal, course, after, after_offer, IsSound, IsInRange, Act, event, pull, AreInRange, after_acts, IsSoundThroughout, ChangesAreTold, LowestIsAssigned, NewIsAssigned, FewMoreWait}
use Rattle.model_teis.proofs.OfNetwork.Vocabulary.{FewAreLost}
use Rattle.model_teis.proofs.OfNetwork.Vocabulary.{ReadingStays, UnservedChangesNothing, IsAsRead}
use Rattle.model_teis.proofs.Tables.{table-empty}
use Rattle.model_teis.proofs.OfNetwork.SoundWords.{memory-empty, queue-empty, queue-rest}
use Rattle.model_teis.proofs.OfNetwork.Dues.{dues-empty, read-empty}
use Rattle.model_teis.proofs.OfNetwork.Served.{leads}
use Rattle.model_teis.proofs.OfNetwork.Counted.{counts, lowest-hear, gains-serve}

-- An event keeps things sound, and so does a pull.
pub sound-after : (e : Event) (m : Management) → IsInRange e → IsSound m → IsSound (after e m)
sound-after e m range sound = (leads m sound e range).sound

pub sound-after_offer : (m : Management) → IsSound m → IsSound (after_offer m)
sound-after_offer m sound = record { table = sound.table; memory = sound.memory; checked = sound.checked; due = sound.due; queue = queue-rest m.waiting sound.queue; read = sound.read }

pub sound-empty : (r : Reading) (terminals : ℕ) → IsSound (empty r terminals)
sound-empty r terminals = record {
  table = table-empty terminals;
  memory = memory-empty (empty r terminals).places;
  checked = tt;
  due = dues-empty terminals;
  queue = queue-empty;
  read = read-empty r terminals;
}

sound-acts : (acts : List Act) (m : Management) → AreInRange acts → IsSound m → IsSound (after_acts acts m)
sound-acts [] m range sound = sound
sound-acts (event e ∷ acts) m range sound = sound-acts acts (after e m) range.1 (sound-after e m range.0 sound)
sound-acts (pull ∷ acts) m range sound = sound-acts acts (after_offer m) range.1 (sound-after_offer m sound)

pub sound_throughout : IsSoundThroughout
sound_throughout r terminals acts range = sound-acts acts (empty r terminals) range (sound-empty r terminals)

pub changes_are_told : ChangesAreTold
changes_are_told e m range sound = (leads m sound e range).moves

pub few_more_wait : FewMoreWait
few_more_wait e m = (counts e m).waits

pub few_are_lost : FewAreLost
few_are_lost e m = (counts e m).lost

pub reading_stays : ReadingStays
reading_stays e m = (counts e m).reading

pub unserved_changes_nothing : UnservedChangesNothing
unserved_changes_nothing e m is =
    let idle = (counts e m).idle is in
    (ap (λ c. c.now) idle, ap (λ c. c.told) idle)

pub lowest_is_assigned : LowestIsAssigned
unfolding course refusal
lowest_is_assigned octets m = lowest-hear octets m

pub new_is_assigned : NewIsAssigned
unfolding course refusal
new_is_assigned octets m ri place tei h =
    let gains = gains-serve ri place tei m (heard_in m.reading octets) (responses_in octets) h.asks h.is_new h.unanswered h.room h.place_is h.tei_is in
    record { change = gains.0; answer = gains.1 }

-- Sound management holds no more octets than four messages and four assignments have.
few_held : (r : Reading) (waiting : ℕ) (remembered : List Remembered) (to_check : List Bool) → waiting ≤ 4 → length remembered ≤ 4 → IsAsRead r remembered to_check
    → 8 * waiting + 3 * length remembered + (if list_any is_due to_check then 1 else 0) ≤ 44
few_held Profile waiting remembered to_check few known read = rw read (omega (arith, few, known))
few_held AnnexB waiting remembered to_check few known read = rw read (grind arith)

pub held-few : (m : Management) → IsSound m → held m ≤ 44
held-few m sound = few_held m.reading (length m.waiting) m.remembered m.to_check sound.queue.few sound.memory.few sound.read
