-- A number of contents, as one of call control, and as one of the second service.
use Rattle.lapd_link_steps.proofs.Vocabulary.{◌≡◌, ℕ, zero, suc, refl}
use Rattle.lapd_frame.specs.declared.services.Service.TheVariants.{Call, Packet}
use Rattle.model_link.specs.Told.{of_call, of_packet}

pub all_of_call : (n : ℕ) → of_call Call n ≡ n
all_of_call zero = refl
all_of_call (suc n) = refl

pub none_of_call : (n : ℕ) → of_call Packet n ≡ 0
none_of_call zero = refl
none_of_call (suc n) = refl

pub all_of_packet : (n : ℕ) → of_packet Packet n ≡ n
all_of_packet zero = refl
all_of_packet (suc n) = refl

pub none_of_packet : (n : ℕ) → of_packet Call n ≡ 0
none_of_packet zero = refl
none_of_packet (suc n) = refl
