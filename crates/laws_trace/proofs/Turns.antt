-- Links take turns: over runs of a card of which a line is only called for its next frame.
use Rattle.laws_trace.proofs.Vocabulary.{◌≡◌, ℕ, ◌+◌, ◌*◌, ◌/◌, ◌<◌, ◌≤◌, Bool, true, false, List, Result, refl, ap, arith, not, Address, Ui, ReadFault, Parts, spelling, reading-again, option_map_or, Control, is_ui, result_ok, Sender, exchanged, exchanged-back}
use Rattle.laws_trace.proofs.LinkNames.{named_in, is_of_a_link}
use Rattle.laws_trace.proofs.ReadAgain.{read-again}
use Rattle.lapd_frame.proofs.AddressField.{cr_bit-small}

abbrev is_no_ui : Result Parts ReadFault → Bool
is_no_ui r = not (option_map_or (λ (f : Parts). is_ui f.control) (result_ok r) false)

-- What is no UI is of a link, whether the grammar has it or not.
pub link-frame : (sender : Sender) (a : Address) (c : Control) → is_ui c ≡ false → (info : List ℕ)
    → is_of_a_link sender (spelling sender (record { address = a; control = c; info = info })) ≡ true
link-frame sender a c other info = read-again sender (λ r. is_no_ui r ≡ true) a c (λ info. ap not other) (λ fault. refl) info

-- A UI of the grammar is not.
pub ui-frame : (sender : Sender) (a : Address) (info : List ℕ) → a.sapi < 64 → a.tei < 128 → a.command ≡ true → is_of_a_link sender (spelling sender (record { address = a; control = Ui false; info = info })) ≡ false
ui-frame sender a info sapi tei command =
    let parts : Parts = record { address = a; control = Ui false; info = info } in
    ap is_no_ui (reading-again sender parts (spelling sender parts) (record { is_frame = record { sapi = sapi; tei = tei; kind = command; size = refl }; octets_are = refl }))

-- Its name is its address.
by-bit : (bit : ℕ) → bit ≤ 1 → (sapi : ℕ) → (4 * sapi + 2 * bit) / 4 ≡ sapi
by-bit bit few sapi = omega (arith, few)

pub name-is : (sender : Sender) (a : Address) (c : Control) (info : List ℕ) → named_in sender.sapi (spelling sender (record { address = a; control = c; info = info })) ≡ record { sapi = a.sapi; tei = a.tei }
name-is sender a c info = grind (arith, exchanged, by-bit, cr_bit-small, exchanged-back)
