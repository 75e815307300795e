-- Hand-written answers for `write`.
use Rattle.lapd_frame.proofs.Vocabulary.{◌≡◌, ◌+◌, ◌++◌, length, length-append, take, ap, ◌∙◌, arith, parts_of, head_of}
use Rattle.lapd_frame.proofs.Spelling.{reading-again}
use Rattle.lapd_frame.proofs.Written.{written, front-of}
use Rattle.lapd_frame.proofs.writing.write.Goals as goal

pub returns-clause-whole : goal.returns-clause-whole
returns-clause-whole c =
    let front = head_of c.args.side c.args.frame.now.address c.args.frame.now.control in
    let head : take c.start-start.result c.head.result ≡ front = ap (λ n. take n c.head.result) c.start-start.ensures.value ∙ c.head.ensures in
    written c.start-start.result c.head.result c.args.frame.now.info.now c.args.out.now c.put_head.new.out c.put.new.out front head (omega arith) c.put_head.ensures c.put.ensures

pub returns-clause-read_again : goal.returns-clause-read_again
returns-clause-read_again c =
    let front = head_of c.args.side c.args.frame.now.address c.args.frame.now.control in
    let info = c.args.frame.now.info.now in
    let head : take c.start-start.result c.head.result ≡ front = ap (λ n. take n c.head.result) c.start-start.ensures.value ∙ c.head.ensures in
    let whole = written c.start-start.result c.head.result info c.args.out.now c.put_head.new.out c.put.new.out front head (omega arith) c.put_head.ensures c.put.ensures in
    let count : length (front ++ info) ≡ c.start-start.result + length info = length-append front info ∙ (omega arith) in
    let spelled = front-of (c.start-start.result + length info) c.put.new.out (front ++ info) _ whole count in
    reading-again c.args.side (parts_of c.args.frame.now) _ (record { is_frame = c.requires.frame; octets_are = spelled })
