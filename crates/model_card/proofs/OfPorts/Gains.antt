-- What is heard with an octet.
use Rattle.model_card.proofs.OfPorts.Vocabulary.{◌≡◌, ℕ, List, [], ◌∷◌, ◌++◌, length, slice_get, Option, None, Some, option_to_list, refl, one_event_an_octet, gained, arith}
use Rattle.model_bits.specs.Stream as stream

next_of : {X : Type 0} (xs : List X) (o : Option X) → slice_get (xs ++ option_to_list o) (length xs) ≡ o
next_of [] None = refl
next_of [] (Some x) = refl
next_of (y ∷ xs) o = next_of xs o

pub heard_with : (n201 : ℕ) (received : List ℕ) (value : ℕ)
    → stream.heard_in n201 (received ++ value ∷ []) ≡ stream.heard_in n201 received ++ option_to_list (gained n201 received value)
heard_with n201 received value =
    let heard = stream.heard_in n201 received in
    let one = one_event_an_octet n201 received value in
    grind (arith, next_of)
