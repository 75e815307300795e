-- Contents are read from an image, and kept.
use Rattle.lapd_link.proofs.Vocabulary.{◌≡◌, ℕ, ◌+◌, ◌<◌, ◌≤◌, List, [], ◌∷◌, ◌++◌, length, arith, ap, sym, ◌∙◌, length-append, Terms, Keeps, Owned, SameLimits, Store, used_slots, Link, Stays, pairs_of, slots_of, terms_of}
use Rattle.std.proofs.Common.{append_assoc, ◌^◌}
use Rattle.std.proofs.lemmas.List.Elements.{All-push}
use Rattle.std.specs.Prelude.{flat_map}
use Rattle.lapd_image.proofs.ReadLists.{IsKept, list-none, read-more}
use Rattle.lapd_image.proofs.Reading.{Reads, contents-read, length-number, number-read}
use Rattle.lapd_image.specs.Numbers.{contents, list_of, number}
use Rattle.lapd_image.specs.Reads.{HasNone, IsReadAs}
use Rattle.lapd_link.specs.Image.{AreContents, IsContents}
use Rattle.lapd_link_steps.proofs.ControlFrames.{all-front, all-last}
use Rattle.lapd_store.proofs.Ownership.{used_slots-held}
use Rattle.lapd_store.proofs.Queues.{length-pairs_of}
use Rattle.model_bits.specs.StuffingLaws.{AreOctets}

-- Contents of which the count is read.
record AreThese (count : ℕ) (message mid rest : List ℕ) : Type 0 where
  size : count ≡ length message
  follows : mid ≡ message ++ rest

these : {most count : ℕ} {front mid rest message : List ℕ} → most < 65536 → count < 256 ^ 2 → front ≡ number 2 count ++ mid → IsContents most message → front ≡ contents message ++ rest → AreThese count message mid rest
these {most} {count} {front} {mid} {rest} {message} low few read is e =
    let found : (count ≡ length message) × (mid ≡ message ++ rest) =
    number-read 2 count (length message) mid (message ++ rest) few (omega (arith, is.size, low)) (sym read ∙ e ∙ append_assoc (number 2 (length message)) message rest) in
    record { size = found.0; follows = found.1 }

pub contents-short : {most : ℕ} {front : List ℕ} → length front < 2 → HasNone contents (IsContents most) front
contents-short short message rest is e =
    omega (arith, short, ap (λ (l : List ℕ). length l) e, length-append (contents message) rest, length-append (number 2 (length message)) message, length-number 2 (length message))

pub contents-long : {most count : ℕ} {front : List ℕ} (mid : List ℕ) → most < 65536 → count < 256 ^ 2 → front ≡ number 2 count ++ mid → most < count → HasNone contents (IsContents most) front
contents-long mid low few read long message rest is e = let found = these low few read is e in omega (arith, found.size, is.size, long)

pub contents-cut : {most count : ℕ} {front : List ℕ} (mid : List ℕ) → most < 65536 → count < 256 ^ 2 → front ≡ number 2 count ++ mid → length mid < count → HasNone contents (IsContents most) front
contents-cut mid low few read cut message rest is e =
    let found = these low few read is e in
    omega (arith, found.size, cut, ap (λ (l : List ℕ). length l) found.follows, length-append message rest)

pub contents-whole : {most count : ℕ} {front mid new : List ℕ} (message : List ℕ) → front ≡ number 2 count ++ mid → mid ≡ message ++ new → length message ≡ count → count ≤ most → AreOctets message
    → IsReadAs contents (IsContents most) message front new
contents-whole {new = new} message read follows size few octets = record {
  saved = record { size = omega (arith, size, few); octets = octets };
  octets = read ∙ (λ i. number 2 (sym size i) ++ follows i) ∙ sym (append_assoc (number 2 (length message)) message new);
}

-- A list of them, as far as it is read.
pub each-read : {most : ℕ} → most < 65536 → Reads (IsContents most) (λ (c d : List ℕ). c ≡ d) contents
each-read low c d r s is also e = contents-read c d r s (omega (arith, is.size, low)) (omega (arith, also.size, low)) e

room-before : (t : Terms) (free : ℕ) → IsKept (IsContents t.n201) (AreContents t free)
room-before t free = record {
  each = λ all good. good.each;
  front = λ xs ys good. record { queue = omega (arith, length-append xs ys, good.queue); pool = omega (arith, length-append xs ys, good.pool); each = all-front (IsContents t.n201) xs ys good.each };
}

-- So many contents are read, and kept.
pub record Taken (free count : ℕ) (front now : List ℕ) (old : Link) (s : Store) (link : Link) (t : Store) : Type 0 where
  pub messages : List (List ℕ)
  pub many : length messages ≡ count
  pub read : IsReadAs (flat_map contents) (AreContents (terms_of old) free) messages front now
  pub kept : (others : List Owned) → Keeps s (slots_of old) [] others → Keeps t (slots_of link) messages others
  pub entity : link.entity ≡ old.entity
  pub stays : Stays old link
  pub limits : SameLimits s t

module _ {free count : ℕ} {old link : Link} {s t : Store} {before now : List ℕ} (low : (terms_of old).n201 < 65536) (taken : Taken free count before now old s link t) where
  pub taken-none : {front : List ℕ} {all : ℕ} → front ≡ all ∷ before → count < all → HasNone contents (IsContents (terms_of old).n201) now → HasNone (list_of contents) (AreContents (terms_of old) free) front
  taken-none counted fewer none =
      list-none contents (IsContents (terms_of old).n201) (each-read low) (AreContents (terms_of old) free) (room-before (terms_of old) free) taken.messages counted
      (omega (arith, taken.many, fewer)) taken.read (λ x rest good e. none x rest (all-last (IsContents (terms_of old).n201) taken.messages x good.each) e)

  pub taken-more : {new : List ℕ} {more : Link} {u : Store} {octets : List ℕ} → count < free → count < (terms_of old).queue → IsReadAs contents (IsContents (terms_of old).n201) octets now new
      → ((messages : List (List ℕ)) (others : List Owned) → Keeps t (slots_of link) messages others → Keeps u (slots_of more) (messages ++ octets ∷ []) others)
      → more.entity ≡ link.entity → Stays link more → SameLimits t u → Taken free (count + 1) before new old s more u
  taken-more {new} {more} {u} {octets} free-one place last kept entity stays limits =
      let size = length-append taken.messages (octets ∷ []) in
      record {
        messages = taken.messages ++ octets ∷ [];
        many = omega (arith, size, taken.many);
        read =
            read-more contents (IsContents (terms_of old).n201) (each-read low) (AreContents (terms_of old) free) (room-before (terms_of old) free) taken.messages taken.read
            (record {
              saved = record { queue = omega (arith, size, taken.many, place); pool = omega (arith, size, taken.many, free-one); each = All-push (IsContents (terms_of old).n201) taken.messages octets taken.read.saved.each last.saved };
              octets = last.octets;
            });
        kept = λ others k. kept taken.messages others (taken.kept others k);
        entity = entity ∙ taken.entity;
        stays = record { terms = stays.terms ∙ taken.stays.terms; capacity = stays.capacity ∙ taken.stays.capacity };
        limits = record { slots = limits.slots ∙ taken.limits.slots; width = limits.width ∙ taken.limits.width };
      }

-- As many slots are used as contents are kept, beside those of others.
used-kept : {s : Store} {slots : List ℕ} {messages : List (List ℕ)} {others : List Owned} → Keeps s slots messages others → used_slots s ≡ length messages + length others
used-kept {s} {slots} {messages} {others} kept =
    omega (arith, used_slots-held _ kept.held, length-append (pairs_of slots messages) others, length-pairs_of slots messages kept.lengths, kept.lengths)

pub used-taken : {free count : ℕ} {front now : List ℕ} {old link : Link} {s t : Store} {others : List Owned} → Taken free count front now old s link t → Keeps s (slots_of old) [] others
    → (used_slots t ≡ used_slots s + count) × (length (slots_of link) ≡ count)
used-taken {others = others} taken kept =
    let after = taken.kept others kept in
    (omega (arith, used-kept after, used-kept kept, taken.many), after.lengths ∙ taken.many)
