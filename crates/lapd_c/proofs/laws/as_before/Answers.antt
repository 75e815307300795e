-- Hand-written answers for `as_before`.
use Rattle.lapd_c.proofs.Vocabulary.{refl, ◌∙◌}
use Rattle.lapd_c.proofs.laws.as_before.Goals as goal

pub returns : goal.returns
returns c = record {
  start = λ kind config none begun s. s.timed refl;
  call = λ cards line result names old new before report it untimed. it.timed ∙ untimed;
  moment = λ result old new before report it untimed. it.timed ∙ untimed;
  lengths = λ result old new it untimed. it.timed ∙ untimed;
  expiry = λ line result old new timer before report untimed it. record {
    call = record {
      handle = it.call.handle;
      kind = it.call.kind;
      timed = it.call.timed;
      no_card = it.call.no_card;
      wrong_card = λ other. absurd other;
      wrong_line = λ m s past. it.call.wrong_line m (s, untimed) past;
      unwritten = it.call.unwritten;
      reopened = it.call.reopened;
      expired = it.call.expired;
      given_up = it.call.given_up;
      tail = it.call.tail;
    };
    wrong = λ m s w. it.wrong m (s, untimed) w;
    not_ok = λ m s w. it.not_ok m (s, untimed) w;
    refused = λ m s w. it.refused m (s, untimed) w;
    unchanged = it.unchanged;
    served = λ m s w. it.served m (s, untimed) w;
  };
}
