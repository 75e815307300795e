-- What a TEI that is disowned leaves of TEI management.
use Rattle.model_teis.proofs.OfNetwork.Vocabulary.{arith, ◌≡◌, ℕ, ◌||◌, Bool, true, false, List, [], ◌∷◌, refl, ap, ◌∙◌, none-some, list_any, Places, has, means, is_on, is_in_use, course, refusal, DisownSendsRemove, DisownSpares, DisownAllSpares}

or-true : (b : Bool) → (b || true) ≡ true
or-true true = refl
or-true false = refl

-- a test that is met wherever another is
first_or : {X : Type 0} (q : X → Bool) (x : X) (xs : List X) (b more : Bool) → (b ≡ true → q x ≡ true) → (more ≡ true → list_any q xs ≡ true) → (b || more) ≡ true → (q x || list_any q xs) ≡ true
first_or q x xs true more hx hs e = ap (λ b. b || list_any q xs) (hx refl)
first_or q x xs false more hx hs e = ap (λ b. q x || b) (hs e) ∙ or-true (q x)

wider : {X : Type 0} (p q : X → Bool) → ((x : X) → p x ≡ true → q x ≡ true) → (xs : List X) → list_any p xs ≡ true → list_any q xs ≡ true
wider p q h [] e = e
wider p q h (x ∷ xs) e = first_or q x xs (p x) (list_any p xs) (h x) (wider p q h xs) e

pub used : (tei : ℕ) (places : Places) → is_on tei places ≡ true → is_in_use tei places ≡ true
used tei places on = wider (has tei) (means tei) (λ o. grind arith) places on

pub all_used : (tei : ℕ) (places : Places) → is_on tei places ≡ true → is_in_use 127 places ≡ true
all_used tei places on = wider (has tei) (means 127) (λ o. grind arith) places on

pub disown_sends_remove : DisownSendsRemove
unfolding course refusal
disown_sends_remove tei m free = grind (arith, none-some)

pub disown_spares : DisownSpares
unfolding refusal
disown_spares tei m on = rw (used tei m.places on) refl

pub disown_all_spares : DisownAllSpares
unfolding refusal
disown_all_spares tei m on = rw (all_used tei m.places on) refl
