-- A link in an image.
use Rattle.lapd_link.proofs.Vocabulary.{◌≡◌, ℕ, ◌+◌, ◌<◌, ◌≤◌, subst, Terms, Entity, Rests, IsSound, List, [], ◌∷◌, ◌++◌, length, queue_of, ControlFrame, Some, None, ap, sym, ◌∙◌, get_or, slice_get, get_or_from_slice_get, Keeps, Keeps-at, Owned, Store, contents_of}
use Rattle.std.proofs.lemmas.Option.{slice_get-get_or, none-some}
use Rattle.std.proofs.Common.{add-one, take}
use Rattle.std.proofs.Math.Seq.{take-suc}
use Rattle.std.proofs.lemmas.List.Elements.{All-push}
use Rattle.std.specs.Prelude.{All, flat_map}
use Rattle.lapd_image.specs.Numbers.{contents, list_of}
use Rattle.lapd_link.specs.Image.{IsSaved}
use Rattle.lapd_link_steps.specs.Image.{IsSmall, head}
use Rattle.model_bits.specs.StuffingLaws.{AreOctets}
use Rattle.model_link.specs.Image.{control_frame, counted_of, link}
use Rattle.model_link.specs.Link as machine
use Rattle.model_link.specs.Timed.{IsTimed}

-- The octets in the slot at a place are the message there.
pub kept-message : {s : Store} (slots : List ℕ) (messages : List (List ℕ)) {others : List Owned} (i slot : ℕ) {octets : List ℕ}
    → slice_get slots i ≡ Some slot → contents_of s slot ≡ Some octets → Keeps s slots messages others → octets ≡ get_or messages i []
kept-message slots messages {others} i slot {octets} is lies kept =
    sym (get_or_from_slice_get messages i octets [] (sym (Keeps-at slots messages others i slot is kept) ∙ lies))

-- Within a list there is an item.
pub past_the_last : (slots : List ℕ) (i : ℕ) → i < length slots → slice_get slots i ≡ None → ⊥
past_the_last slots i within none = none-some (get_or slots i 0) (sym none ∙ slice_get-get_or slots i 0 within)

-- The parts of an image are the whole.
pub whole-image : (m : machine.Link) {n : ℕ} {frames : List ControlFrame} → n ≡ length (queue_of m) → frames ≡ m.waiting
    → head m ++ ((n ∷ []) ++ (flat_map contents (queue_of m) ++ list_of control_frame frames)) ≡ link m
whole-image m many same = λ i. head m ++ ((many i ∷ []) ++ (flat_map contents (queue_of m) ++ list_of control_frame (same i)))

-- What holds of those before a place, and of that at it, holds of those before the next.
pub one-more : {X : Type 0} (P : X → Type 0) (xs : List X) (i : ℕ) (d : X) → i < length xs → All P (take i xs) → P (get_or xs i d) → All P (take (i + 1) xs)
one-more P xs i d within before at =
    subst (All P) (sym (take-suc xs i d within) ∙ ap (λ n. take n xs) (sym (add-one i))) (All-push P (take i xs) (get_or xs i d) before at)

-- A link that is timed may be saved, if its entity's numbers are small and its contents octets.
pub saved-resting : {t : Terms} {e : Entity} {m : machine.Link} → IsSound t m → Rests t e m → IsSmall e → IsTimed m → All AreOctets (queue_of m) → IsSaved t m
saved-resting sound rests low timed octets = record {
  sound = sound;
  timed = timed;
  counts = subst (λ c. All (λ n. n ≤ 65535) (counted_of c)) (ap (λ (l : machine.Link). l.counts) rests.is) low.counts;
  octets = octets;
}
