-- The program's words, where they stand in references.
use Rattle.lapd_script.proofs.Vocabulary.{◌≡◌, ℕ, ◌<◌, ◌≤◌, Bool, true, false, cond, ◌&&◌, List, [], ◌∷◌, length, get_or, Some, None, Option, refl, ap, ◌∙◌, Bor, bytes_eq, codes, arith, texts, Job, job, frame, job_or_none, limits_of, seen}
use Rattle.lapd_script.specs.declared.jobs.Job as rust
use Rattle.lapd_script.specs.declared.jobs.Job.TheVariants.{Frame}
use Rattle.std.specs.Bool.{then_some}
use Rattle.lapd_script.proofs.ReadLemmas.{at, nowhere}

otherwise : {A : Type 0} (t : Bool) (x y : A) → false ≡ t → y ≡ cond t x y
otherwise t x y e = ap (λ test. cond test x y) e

chosen : {A : Type 0} (t : Bool) (x y : A) → true ≡ t → x ≡ cond t x y
chosen t x y e = ap (λ test. cond test x y) e

-- one test and another
pub and_first : (test first second known : Bool) → known ≡ first → test ≡ (known && second) → test ≡ (first && second)
and_first test first second known e h = h ∙ ap (λ t. t && second) e

seen_if : (test : Bool) (found : rust.Job) → seen (then_some test found) ≡ cond test (seen (Some found)) None
seen_if true found = refl
seen_if false found = refl

pub with_network : (words : List (Bor (List ℕ))) (result : Option rust.Job) (test : Bool) → 3 ≤ length words → length words < 4
    → result ≡ then_some test (Frame (get_or words 1 nowhere) true) → test ≡ (bytes_eq (at words 0) (codes "frame") && bytes_eq (at words 2) (codes "--network")) → seen result ≡ job (texts words)
with_network (a ∷ b ∷ c ∷ []) result test low high r t = ap seen r ∙ seen_if test (Frame b true) ∙ ap (λ t. cond t (Some (frame b.now true)) None) t
with_network (a ∷ b ∷ c ∷ d ∷ more) result test low high r t = absurd (omega (arith, high))
with_network _ result test low high r t = absurd (omega (arith, low))

abbrev limits_at : List (Bor (List ℕ)) → Option Job
limits_at words = job_or_none (limits_of (at words 1) (at words 2) (at words 3) (at words 4) (at words 5))

six : (words : List (Bor (List ℕ))) → 6 ≤ length words → length words < 7 → cond (bytes_eq (at words 0) (codes "limits")) (limits_at words) None ≡ job (texts words)
six (a ∷ b ∷ c ∷ d ∷ e ∷ f ∷ []) low high = refl
six (a ∷ b ∷ c ∷ d ∷ e ∷ f ∷ g ∷ more) low high = absurd (omega (arith, high))
six _ low high = absurd (omega (arith, low))

pub no_limits : (words : List (Bor (List ℕ))) → 6 ≤ length words → length words < 7 → false ≡ bytes_eq (at words 0) (codes "limits") → None ≡ job (texts words)
no_limits words low high e = otherwise (bytes_eq (at words 0) (codes "limits")) (limits_at words) None e ∙ six words low high

pub with_limits : (words : List (Bor (List ℕ))) (result : Option Job) → 6 ≤ length words → length words < 7 → true ≡ bytes_eq (at words 0) (codes "limits") → result ≡ limits_at words → result ≡ job (texts words)
with_limits words result low high e r = r ∙ chosen (bytes_eq (at words 0) (codes "limits")) (limits_at words) None e ∙ six words low high
