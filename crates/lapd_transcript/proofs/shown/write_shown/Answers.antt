-- Hand-written answers for `write_shown`.
use Rattle.lapd_transcript.proofs.Vocabulary.{◌≡◌, List, ℕ, [], ◌++◌, codes, ap, ◌∙◌, append-nil, subst, parts_of, head_text, octets_text, Writes}
use Rattle.lapd_transcript.proofs.shown.write_shown.Goals as goal

pub returns : goal.returns
returns g c =
    let frame = parts_of c.args.frame.now in
    let head : c.as_slice.result.now ++ [] ≡ head_text frame = append-nil c.as_slice.result.now ∙ c.as_slice.ensures.value ∙ c.head_of.ensures in
    subst (λ (text : List ℕ). Writes c.write_pieces.result (g.T.Target.taken c.args.target.now) (g.T.Target.taken c.write_pieces.new.target) text)
    (ap (λ l. l ++ octets_text frame.info ++ codes "\n") head) c.write_pieces.ensures
