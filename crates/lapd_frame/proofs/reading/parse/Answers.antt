-- Hand-written answers for `parse`.
use Rattle.lapd_frame.proofs.Vocabulary.{◌≡◌, slice_index, Some, ap, sym, ◌∙◌, arith, control_of}
use Rattle.lapd_frame.proofs.ControlField.{allowed-found}
use Rattle.lapd_frame.proofs.Spelling.{are-octets, start-within}
use Rattle.lapd_frame.proofs.reading.parse.Goals as goal

pub split_at-requires : goal.split_at-requires
split_at-requires c =
    let octets = c.args.octets.now in
    let fourth : c.octet_at-fourth.result ≡ slice_index octets 3 = c.octet_at-fourth.ensures in
    let found : control_of (slice_index octets 2) (slice_index octets 3) ≡ Some c.in-Some.control =
    ap (λ n. control_of (slice_index octets 2) n) (sym fourth) ∙ allowed-found _ _ _ (sym c.control_of.ensures ∙ c.in-Some.is) in
    omega (arith, start-within octets c.in-Some.control (are-octets octets (λ i. omega (arith, c.type_inv.octets i))) (sym c.if-is_short.ensures) found)
