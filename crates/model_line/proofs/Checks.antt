-- Checks of TEIs that are due: where none is.
use Rattle.model_line.proofs.Vocabulary.{◌≡◌, ℕ, zero, suc, false, cond, length, replicate, get_or, refl, sym, ap, ◌∙◌, true≢false, length-replicate, list_any, sum_by, Profile, AnnexB, Reading, Management, IsUnused}
use Rattle.model_teis.specs.network.Machine.{one_if, is_due, is_check_due}
use Rattle.model_teis.specs.network.Sound as tei

-- of bits that are all off none is on,
all-off : (n i : ℕ) → get_or (replicate n false) i false ≡ false
all-off zero i = refl
all-off (suc n) zero = refl
all-off (suc n) (suc i) = all-off n i

pub none-counted : (n : ℕ) → sum_by one_if (replicate n false) ≡ 0
none-counted zero = refl
none-counted (suc n) = none-counted n

none-found : (n : ℕ) → list_any is_due (replicate n false) ≡ false
none-found zero = refl
none-found (suc n) = none-found n

pub nothing-held : (m : Management) → is_check_due m ≡ false → cond {A = ℕ} (is_check_due m) 1 0 ≡ 0
nothing-held m none = ap (λ b. cond {A = ℕ} b 1 0) none

-- What the network's side has beside its table, unused, has no check that is due.
pub unused-none : (m : Management) → IsUnused m → is_check_due m ≡ false
unused-none m unused = ap (list_any is_due) unused.to_check ∙ none-found (length m.places)

pub unused-due : (m : Management) → IsUnused m → tei.AreSoundChecks m.places m.check m.to_check
unused-due m unused =
    record {
      each = ap length unused.to_check ∙ length-replicate (length m.places) false;
      due = λ i due. absurd (true≢false (sym due ∙ ap (λ bits. get_or bits i false) unused.to_check ∙ all-off (length m.places) i));
    }

pub unused-read : (r : Reading) (m : Management) → IsUnused m → tei.IsAsRead r m.remembered m.to_check
unused-read Profile m unused = unused-none m unused
unused-read AnnexB m unused = unused.remembered

pub still-unused : (m : Management) → IsUnused m → replicate (length m.to_check) false ≡ m.to_check
still-unused m unused = ap (λ bits. replicate (length bits) false) unused.to_check ∙ ap (λ n. replicate n false) (length-replicate (length m.places) false) ∙ sym unused.to_check
