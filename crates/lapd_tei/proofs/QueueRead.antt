-- The messages that wait are read, one after the other.
use Rattle.lapd_tei.proofs.Vocabulary.{◌≡◌, ℕ, ◌<◌, ◌≤◌, ◌+◌, nat_le, false, cond, List, [], ◌∷◌, ◌++◌, length, length-append, ap, sym, subst, ◌∙◌, arith, nat_tests, All-append, All-cons, All-nil, Message, IdentityAssigned, IdentityCheckRequest, IdentityDenied, IdentityRemove, action_of, with_message}
use Rattle.std.specs.Prelude.{◌*◌, flat_map}
use Rattle.lapd_image.specs.Numbers.{list_of}
use Rattle.lapd_image.specs.Reads.{HasNone, IsReadAs}
use Rattle.lapd_image.proofs.Parts.{none-narrower}
use Rattle.lapd_image.proofs.Reading.{Reads}
use Rattle.lapd_image.proofs.ReadLists.{All-front, All-last, IsKept, list-none, read-more}
use Rattle.model_teis.specs.network.Image.{IsOfOctets, IsQueue}
use Rattle.model_teis.specs.network.Messages.{information_of}
use Rattle.model_teis.proofs.OfNetwork.ImageRead.{message-read, message-spelled, message_from}

pub field-read : Reads IsOfOctets (λ (x y : Message). x ≡ y) information_of
field-read x y r s few also e = message-read information_of message_from message-spelled x y r s tt tt e

names_one : Message → Type 0
names_one message = action_of message ≤ 127

pub queue-kept : IsKept IsOfOctets IsQueue
unfolding names_one
queue-kept = record {
  each = λ all queue. queue.octets;
  front = λ xs ys queue. record {
    sound = record { few = omega (arith, queue.sound.few, length-append xs ys); actions = All-front names_one xs ys queue.sound.actions };
    octets = All-front IsOfOctets xs ys queue.octets;
  };
}

-- An octet that is the last of the field holds an action indicator of at most 127.
last_octet : (action : ℕ) → 2 * action + 1 < 256 → action ≤ 127
last_octet action low = omega (arith, low)

action-low : (m : Message) → IsOfOctets m → action_of m ≤ 127
action-low (IdentityAssigned ri tei) octets = last_octet tei (octets 4 0 (omega arith))
action-low (IdentityDenied ri tei) octets = last_octet tei (octets 4 0 (omega arith))
action-low (IdentityCheckRequest tei) octets = last_octet tei (octets 4 0 (omega arith))
action-low (IdentityRemove tei) octets = last_octet tei (octets 4 0 (omega arith))

queue-pushed : (done : List Message) (m : Message) → length done < 4 → IsQueue done → IsOfOctets m → IsQueue (done ++ m ∷ [])
unfolding names_one
queue-pushed done m few queue octets = record {
  sound = record {
    few = omega (arith, few, length-append done (m ∷ []));
    actions = All-append names_one done (m ∷ []) queue.sound.actions (All-cons names_one m [] (action-low m octets) (All-nil names_one));
  };
  octets = All-append IsOfOctets done (m ∷ []) queue.octets (All-cons IsOfOctets m [] octets (All-nil IsOfOctets));
}

room : (n : ℕ) → n < 4 → nat_le 4 n ≡ false
room n few = grind (arith, nat_tests)

sent-last : (done : List Message) (m : Message) → length done < 4 → with_message m done ≡ done ++ m ∷ []
sent-last done m few = ap (λ b. cond b done (done ++ m ∷ [])) (room (length done) few)

-- so many are read, and one more,
pub queue-more : (done all : List Message) (m : Message) {old now new : List ℕ} → length done < 4 → all ≡ with_message m done
    → IsReadAs (flat_map information_of) IsQueue done old now → IsReadAs information_of IsOfOctets m now new
    → (length all ≡ length done + 1) × IsReadAs (flat_map information_of) IsQueue all old new
queue-more done all m {old} {now} {new} few sent before one =
    let last : all ≡ done ++ m ∷ [] = sent ∙ sent-last done m few in (
      omega (arith, ap length last, length-append done (m ∷ [])),
      subst (λ waiting. IsReadAs (flat_map information_of) IsQueue waiting old new) (sym last)
          (read-more information_of IsOfOctets field-read IsQueue queue-kept done before
          (record { saved = queue-pushed done m few before.saved one.saved; octets = one.octets })),
    )

-- or none is.
pub queue-none : {front old now : List ℕ} {count : ℕ} (done : List Message) → front ≡ count ∷ old → length done < count
    → IsReadAs (flat_map information_of) IsQueue done old now → HasNone information_of IsOfOctets now → HasNone (list_of information_of) IsQueue front
queue-none done counted fewer before none =
    list-none information_of IsOfOctets field-read IsQueue queue-kept done counted fewer before
    (none-narrower information_of (λ m queue. All-last IsOfOctets done m queue.octets) none)
