-- What a link stands for.
--
-- Every clause of a call is said for every machine and every list of what others own for which the link stands. A
-- row frees nothing on the shelf: it counts the contents that are to go, and `settle` then releases so many, the
-- oldest first, and puts the report together (`Reaches`). That the machine's link stays sound is the law
-- `stays_sound`, and needs no code.
use Rattle.std.specs.Prelude.{◌≡◌, ℕ, ◌<◌, ◌≤◌, Bool, false, List, length, None}
use Rattle.lapd_store.specs.Store.{Store, used_slots}
use Rattle.lapd_store.specs.Ownership.{Owned, Keeps}
use Rattle.model_link.specs.declared.terms.Terms.{Terms}
use Rattle.model_link.specs.Link as machine
use Rattle.model_link.specs.Events.{Request, Establish, Release, Data, SetBusy, ClearBusy}
use Rattle.model_link.specs.Steps.{Course}
use Rattle.model_link.specs.Machine as answers
use Rattle.model_link.specs.Sound.{IsInRange, IsSound}
use Rattle.lapd_link_steps.specs.Done.{Rests}
use Rattle.lapd_link_steps.specs.declared.report.BareReport.{BareReport}
use Rattle.lapd_link.specs.declared.link.Link.{Link}
use Rattle.lapd_link.specs.Outcome.{told_with}

-- the terms under which a link works
abbrev pub terms_of : Link → Terms
terms_of link = link.terms

-- the slots of the contents that it keeps, the oldest first
abbrev pub slots_of : Link → List ℕ
slots_of link = link.queue.slots

-- A link holds what a link of the machine is, except for its past: its numbers are the remainders of the machine's. The
-- machine's link is sound, so that the bounds hold from any link on.
pub record Fits (link : Link) (m : machine.Link) : Type 0 where
  pub range : IsInRange (terms_of link)
  pub sound : IsSound (terms_of link) m
  pub rests : Rests (terms_of link) link.entity m
  pub capacity : link.queue.capacity ≡ (terms_of link).queue

-- A link stands for a link of the machine, beside what others own on the shelf: the shelf keeps the contents of the
-- machine's queue in the slots of the link's, and what others own, and nothing else.
pub record LinkStands (link : Link) (store : Store) (others : List Owned) (m : machine.Link) : Type 0 where
  pub fits : Fits link m
  pub wide : (terms_of link).n201 ≤ store.width
  pub kept : Keeps store (slots_of link) (machine.queue_of m) others

-- A link and its report stand for the end of an event, whatever the event was. No link tells why octets were dropped.
pub record Reaches (info : List ℕ) (before : machine.Link) (c : Course) (link : Link) (store : Store) (others : List Owned) (report : BareReport) : Type 0 where
  pub rests : Rests (terms_of link) link.entity c.link
  pub kept : Keeps store (slots_of link) (machine.queue_of c.link) others
  pub told : told_with info report ≡ answers.told_of (terms_of link) before c
  pub cause : report.cause ≡ None

-- What stays through every event: the terms, and the capacity of the queue.
pub record Stays (old new : Link) : Type 0 where
  pub terms : terms_of new ≡ terms_of old
  pub capacity : new.queue.capacity ≡ old.queue.capacity

-- What a request needs that is not refused: contents that fit, a place in the queue, and a free slot on the shelf.
abbrev pub HasRoom : Request → Link → Bool → Type 0
HasRoom Establish link pool_is_full = Unit {0}
HasRoom Release link pool_is_full = Unit {0}
HasRoom (Data octets) link pool_is_full = (length octets ≤ (terms_of link).n201) × (length link.queue.slots < (terms_of link).queue) × (pool_is_full ≡ false)
HasRoom SetBusy link pool_is_full = Unit {0}
HasRoom ClearBusy link pool_is_full = Unit {0}

abbrev pub HasPlace : Request → Link → Store → Type 0
HasPlace Establish link store = Unit {0}
HasPlace Release link store = Unit {0}
HasPlace (Data octets) link store = (length octets ≤ store.width) × (length link.queue.slots < link.queue.capacity) × (used_slots store < store.slots)
HasPlace SetBusy link store = Unit {0}
HasPlace ClearBusy link store = Unit {0}
