-- Hand-written answers for `Port::give`.
use Rattle.lapd_line.proofs.PortSteps.{Gives, given_on, given_told}
use Rattle.lapd_line.proofs.port.Port.give.Goals as goal

pub returns : goal.returns
returns c = λ n201 p said is st.
    let gives : Gives c.args.self.now.framer c.octet.new.self c.octet.result =
    record { value = c.octet.ensures.octet; bits = c.octet.ensures.bits; room = c.octet.ensures.room; stands = c.octet.ensures.stands } in
    record {
      told = given_told gives n201 p said c.args.taken is st c.none.result c.unwrap_or.result c.is_some.result c.is_some.ensures c.none.ensures c.unwrap_or.ensures;
      after = given_on gives n201 p said c.args.taken is st;
    }
