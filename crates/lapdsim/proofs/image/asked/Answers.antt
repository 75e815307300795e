-- What asks for an image asks for no work of another kind.
use Rattle.std.proofs.Common.{◌≡◌, ◌≤◌, ◌<◌, length, ℕ, List, [], ◌∷◌, true, None, Bor, slice_index_or, codes, bytes_eq, sym, ap, ◌∙◌, arith}
use Rattle.std.proofs.lemmas.Slice.Eq.{bytes_eq-Decides}
use Rattle.lapd_script.specs.Job.{job}
use Rattle.lapd_script.specs.Words.{texts}
use Rattle.lapdsim.proofs.image.asked.Goals as goal

no-work : (words : List (Bor (List ℕ))) → 2 ≤ length words → length words < 3
    → bytes_eq (slice_index_or words 0 (record { ref_ptr = (0, 0); now = [] })).now (codes "image") ≡ true → job (texts words) ≡ None
no-work [] low high is = absurd (omega (arith, low))
no-work (a ∷ []) low high is = absurd (omega (arith, low))
no-work (a ∷ b ∷ []) low high is = ap (λ word. job (word ∷ b.now ∷ [])) ((bytes_eq-Decides a.now (codes "image")).0 is)
no-work (a ∷ b ∷ c ∷ more) low high is = absurd (omega (arith, high))

-- src/image.rt:24:1
pub returns-then-eq : goal.returns-then-eq
returns-then-eq c = record {
  no_work = λ work. absurd (work (no-work c.args.words.now c.in-len2.len_at_least c.in-len2.len_below (sym c.eq.ensures ∙ c.if-eq.true)));
}
