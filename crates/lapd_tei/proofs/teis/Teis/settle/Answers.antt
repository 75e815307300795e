-- Hand-written answers for `Teis::settle`.
use Rattle.lapd_tei.proofs.Vocabulary.{◌≡◌, true, Some, AnnexB, Settling, sym, subst, is_on, AreSoundChecks, management_of}
use Rattle.model_teis.proofs.OfNetwork.SoundWords.{sound_checked, check-settles}
use Rattle.lapd_tei.proofs.teis.Teis.settle.Goals as goal

pub invariant_of-self : goal.invariant_of-self
invariant_of-self c =
    let on : is_on c.args.tei c.self.inside.table ≡ true = subst (λ m. is_on c.args.tei m.places ≡ true) (sym c.self.view_is) c.requires.on in
    let read : c.self.inside.reading ≡ AnnexB = subst (λ m. m.reading ≡ AnnexB) (sym c.self.view_is) c.requires.read in
    sound_checked (management_of c.self.inside) _ c.self.invariant (check-settles _ _ c.args.tei read on)
    (subst (λ m. AreSoundChecks m.places (Some (record { tei = c.args.tei; period = Settling; first = 0; second = 0 })) m.to_check) (sym c.self.view_is) c.requires.due)
