-- Hand-written answers for `FrameLine::place`.
use Rattle.lapd_line.proofs.Vocabulary.{◌∙◌, sym, ap, place_of}
use Rattle.lapd_line.proofs.frame_line.FrameLine.place.Goals as goal

pub returns : goal.returns
returns c = λ store others m st. c.place.ensures.place ∙ sym (ap (λ t. place_of c.args.tei t.places) st.layer.management)
