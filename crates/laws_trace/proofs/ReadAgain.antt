-- What holds of a frame with an address and a control field, and of every fault, holds of what is read of its spelling, whether
-- the grammar has it or not.
use Rattle.laws_trace.proofs.Vocabulary.{arith, ◌≡◌, ℕ, Bool, true, false, cond, List, slice_index, Result, Ok, Err, Some, sym, subst, Address, Side, Sender, Ui, ReadFault, BadExtension, Parts, side_spelling, spelling, checked, header_of, completed, side_reading, reading, named_by, fault_named, renamed, renamed-back, management-spelled, address-again, control-again, Control, Config, own_side}
use Rattle.laws_trace.proofs.Vocabulary.{Message, message_frame, information_of, Option, ap, ◌∙◌}
use Rattle.lapd_frame.specs.declared.addresses.Side.TheVariants.{User}
use Rattle.model_teis.specs.declared.terminal.messages.Message.{Message as OwnMessage}
use Rattle.model_teis.specs.terminal.Messages.{frame_of as own_frame_of, information_of as own_information_of}
use Rattle.model_line.specs.Line.{is_at, is_terminal}

module _ (side : Side) (P : Result Parts ReadFault → Type 0) (a : Address) (c : Control) (ok : (info : List ℕ) → P (Ok (record { address = a; control = c; info = info })))
    (err : (fault : ReadFault) → P (Err fault)) where
  by-extension : (octets : List ℕ) (bad : Bool) → P (completed octets (cond bad (Err BadExtension) (checked a (Some c))))
  by-extension octets bad = grind arith

  of-side : (info : List ℕ) → P (side_reading side (side_spelling side (record { address = a; control = c; info = info })))
  unfolding side_reading header_of
  of-side info = grind (arith, slice_index, control-again, address-again, by-extension)

-- So it does of a sender, by the services that its frames name.
module _ (sender : Sender) (P : Result Parts ReadFault → Type 0) (a : Address) (c : Control) (ok : (info : List ℕ) → P (Ok (record { address = a; control = c; info = info })))
    (err : (fault : ReadFault) → P (Err fault)) where
  pub read-again : (info : List ℕ) → P (reading sender (spelling sender (record { address = a; control = c; info = info })))
  unfolding reading
  read-again info =
      of-side sender.side (λ r. P (named_by sender.sapi r)) (renamed sender.sapi a) c
      (λ info. subst (λ b. P (Ok (record { address = b; control = c; info = info }))) (sym (renamed-back sender.sapi a)) (ok info))
      (λ fault. err (fault_named sender.sapi fault)) info

-- A message of TEI management is a frame of the card's side.
pub message-text : (c : Config) (m : Message)
    → message_frame c.side m ≡ spelling (own_side c) (record { address = record { sapi = 63; command = true; tei = 127 }; control = Ui false; info = information_of m })
message-text c m = management-spelled (own_side c) true 127 (Ui false) (information_of m)

-- So is one of a terminal's.
user-side : (side : Side) (seed : Option ℕ) → is_at side seed ≡ true → side ≡ User
user-side side seed is = grind arith

pub own-text : (c : Config) (m : OwnMessage) → is_terminal c ≡ true
    → own_frame_of m ≡ spelling (own_side c) (record { address = record { sapi = 63; command = true; tei = 127 }; control = Ui false; info = own_information_of m })
own-text c m is =
    ap (λ side. side_spelling side (record { address = record { sapi = 63; command = true; tei = 127 }; control = Ui false; info = own_information_of m })) (sym (user-side c.side c.seed is))
    ∙ management-spelled (own_side c) true 127 (Ui false) (own_information_of m)
