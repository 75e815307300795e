-- A link in an image of its card.
use Rattle.std.specs.Prelude.{◌≡◌, ℕ, ◌+◌, ◌≤◌, List, [], ◌++◌, length, All}
use Rattle.lapd_image.specs.Numbers.{contents, list_of}
use Rattle.lapd_image.specs.Reads.{IsReadAs}
use Rattle.lapd_link.specs.declared.link.Link.{Link}
use Rattle.lapd_link.specs.Stands.{LinkStands, slots_of, terms_of}
use Rattle.lapd_store.specs.Ownership.{Keeps, Owned}
use Rattle.lapd_store.specs.Store.{Store, used_slots}
use Rattle.model_bits.specs.StuffingLaws.{AreOctets}
use Rattle.model_link.specs.Image.{counted_of, link}
use Rattle.model_link.specs.declared.terms.Terms.{Terms}
use Rattle.model_link.specs.Link as machine
use Rattle.model_link.specs.Sound.{IsSound}
use Rattle.model_link.specs.Timed.{IsTimed}

-- What may be saved of a link: it is sound, and its timer is that of its state. Its counts have 16 bits, and contents are octets.
pub record IsSaved (t : Terms) (m : machine.Link) : Type 0 where
  pub sound : IsSound t m
  pub timed : IsTimed m
  pub counts : All (λ n. n ≤ 65535) (counted_of m.counts)
  pub octets : All AreOctets (machine.queue_of m)

-- Contents of at most so many octets; and all that a link with these terms may keep, for which so many slots are free.
pub record IsContents (most : ℕ) (message : List ℕ) : Type 0 where
  pub size : length message ≤ most
  pub octets : AreOctets message

pub record AreContents (t : Terms) (free : ℕ) (messages : List (List ℕ)) : Type 0 where
  pub queue : length messages ≤ t.queue
  pub pool : length messages ≤ free
  pub each : All (IsContents t.n201) messages

-- These messages were read, and are kept beside what others own.
pub record Takes (free : ℕ) (messages : List (List ℕ)) (front rest : List ℕ) (old : Link) (s : Store) (new : Link) (t : Store) : Type 0 where
  pub read : IsReadAs (list_of contents) (AreContents (terms_of old) free) messages front rest
  pub kept : (others : List Owned) → Keeps s (slots_of old) [] others → Keeps t (slots_of new) messages others

-- A link that began stands for this one now, beside whatever others own.
pub record Becomes (m : machine.Link) (old : Link) (s : Store) (new : Link) (t : Store) : Type 0 where
  pub stands : (others : List Owned) → LinkStands old s others machine.fresh → LinkStands new t others m

-- A link of these octets was read.
abbrev pub Restores : List ℕ → List ℕ → Link → Store → Link → Store → Type 0
Restores front rest old s new t = (m : machine.Link) × IsReadAs link (IsSaved (terms_of old)) m front rest × Becomes m old s new t

-- No link whose contents find room in so many slots stands at the front.
abbrev pub HasNoLink : ℕ → List ℕ → Link → Store → Type 0
HasNoLink slots front old s =
    (m : machine.Link) (rest : List ℕ) → IsSaved (terms_of old) m → used_slots s + length (machine.queue_of m) ≤ slots
    → front ≡ link m ++ rest → ⊥
