-- The room of a link.
use Rattle.lapd_link.proofs.Vocabulary.{◌≡◌, ℕ, ◌-◌, ◌%◌, List, length, ap, ◌∙◌, Seq, seq, va_of, Owned, Store, Room, room_of, Link, LinkStands, slots_of, terms_of}
use Rattle.model_link.specs.Link as machine

number : (va : Seq) (a : ℕ) → va ≡ seq a → va.value ≡ a % 128
unfolding seq
number va a is = ap (λ (n : Seq). n.value) is

abbrev pub made : ℕ → ℕ → ℕ → Room
made queue pool va = record { queue = queue; pool = pool; va = va }

same : {queue queue' pool pool' va va' : ℕ} → queue ≡ queue' → pool ≡ pool' → va ≡ va' → made queue pool va ≡ made queue' pool' va'
same {queue} {queue'} {pool} {pool'} {va} {va'} places slots number =
    ap (λ n. made n pool va) places ∙ ap (λ n. made queue' n va) slots ∙ ap (made queue' pool') number

-- Its three numbers are those of the link for which it stands.
pub room_is : (link : Link) (store : Store) (others : List Owned) (m : machine.Link) → LinkStands link store others m
    → (queue pool free : ℕ) (va : Seq) → queue ≡ (terms_of link).queue - length (slots_of link) → pool ≡ free → va ≡ va_of link.entity.window
    → made queue pool va.value ≡ room_of (terms_of link) free m
room_is link store others m s queue pool free va places slots is =
    same (places ∙ ap (λ n. (terms_of link).queue - n) s.kept.lengths) slots (number va m.a (is ∙ s.fits.rests.window.acknowledged))
