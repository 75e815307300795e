-- Hand-written answers for `read_long`.
use Rattle.lapd_frame.proofs.Vocabulary.{◌≡◌, ◌+◌, ◌<◌, ◌++◌, length, length-append, arith, All-append}
use Rattle.lapd_frame.proofs.Spelling.{are-octets, long-is}
use Rattle.lapd_frame.proofs.overlong.read_long.Goals as goal

pub returns-clause-grammar : goal.returns-clause-grammar
returns-clause-grammar c = λ rest small long.
    let count : length (c.args.octets.now ++ rest) ≡ length c.args.octets.now + length rest = length-append _ _ in
    long-is c.args.side (c.args.octets.now ++ rest) _ (All-append (λ octet. octet < 256) c.args.octets.now rest (are-octets c.args.octets.now c.fits-octets) small) (omega arith) (c.kind.ensures.reading rest long)
