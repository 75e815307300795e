-- Hand-written answers for `put_frame`.
use Rattle.lapd_text.proofs.Vocabulary.{refl}
use Rattle.lapd_text.proofs.Written.{line_put, no_room}
use Rattle.lapd_text.proofs.text.put_frame.Goals as goal

pub returns-in_default : goal.returns-in_default
returns-in_default c = (no_room c.args.head.now c.args.info.now c.args.meaning.now c.args.out.now c.in_default.ensures.none, refl)

pub returns : goal.returns
returns c =
    line_put c.args.head.now c.args.info.now c.args.meaning.now c.args.out.now c.put.new.out c.put_info.new.out c.put-2.new.out c.put-3.new.out c.in-Some.end
    c.in-Some.ensures.there.0 c.in-Some.ensures.there.1 c.put.ensures c.put_info.ensures c.put-2.ensures c.put-3.ensures
