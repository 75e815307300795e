-- Hand-written answers for `Port::write_begun`: of no frame nothing is written.
use Rattle.lapd_line.proofs.Vocabulary.{◌≡◌, ℕ, List, [], ◌∷◌, ◌++◌, length, drop, Option, Some, IfSome, refl, ap, ◌∙◌, subst, arith}
use Rattle.lapd_line.proofs.port.Port.write_begun.Goals as goal

pub returns-clause-empty : goal.returns-clause-empty
returns-clause-empty c = λ none. nothing_written c.write_loaded.result c.args.self.now.framer.loaded c.args.out.now c.write_loaded.new.out none c.write_loaded.ensures.written
  where
    no_octets : (l : List ℕ) → 0 ≡ length l → l ≡ []
    no_octets [] is = refl
    no_octets (x ∷ l) is = absurd (omega (arith, is))

    nothing_written : (o : Option ℕ) (loaded out out' : List ℕ) → o ≡ Some 0 → IfSome o (λ count. (count ≡ length loaded) × (out' ≡ loaded ++ drop count out)) → out' ≡ out
    nothing_written o loaded out out' none written =
        let w = subst (λ o. IfSome o (λ count. (count ≡ length loaded) × (out' ≡ loaded ++ drop count out))) none written in
        w.1 ∙ ap (λ l. l ++ out) (no_octets loaded w.0)
