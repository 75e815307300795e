-- What is asked of a card of either kind is an event of its machine.
use Rattle.std.specs.Prelude.{is_some}
use Rattle.lapd_c.proofs.Vocabulary.{◌≡◌, ◌&&◌, ℕ, Bool, List, refl, sym, ap, nat_lt, OctetCard, with_ports}
use Rattle.std.proofs.lemmas.List.{set-get_or}
use Rattle.lapd_frame.specs.declared.timers.Timer.{Timer}
use Rattle.model_line.specs.Event as line
use Rattle.model_line.specs.Counts.{is_given}
use Rattle.model_line.specs.Event.{given_in}
use Rattle.model_line.specs.Request.{Request}
use Rattle.model_card.specs.Event.{at}
use Rattle.model_card.specs.Machine as machine
unfoldable use Rattle.model_card.specs.ports.Card.{after, answer, meant}
use Rattle.model_card.specs.ports.Event as octet
use Rattle.model_card.specs.ports.Port as port
use Rattle.model_card.specs.ports.Port.{Port, fresh_port}
use Rattle.lapd_card.specs.Kinds as kinds
use Rattle.lapd_c.specs.BothKinds.{BothKindsAreServed}

-- the ports stay
request_is : (number : ℕ) (r : Request) (m : OctetCard) → kinds.after (at number (line.request r)) (with_ports m) ≡ with_ports (after (octet.at number (port.request r)) m)
unfolding after meant
request_is number r m =
    ap (λ (ps : List Port). with_ports (record { card = machine.after (at number (line.request r)) m.card; ports = ps })) (sym (set-get_or m.ports number fresh_port))

expiry_is : (number : ℕ) (timer : Timer) (m : OctetCard) → kinds.after (at number (line.expiry timer)) (with_ports m) ≡ with_ports (after (octet.at number (port.expiry timer)) m)
unfolding after meant
expiry_is number timer m =
    ap (λ (ps : List Port). with_ports (record { card = machine.after (at number (line.expiry timer)) m.card; ports = ps })) (sym (set-get_or m.ports number fresh_port))

-- a frame is given if there is one
is_given_is : (a : line.Answer) → is_given a ≡ is_some (given_in a)
is_given_is (line.told t) = refl
is_given_is (line.refused why) = refl
is_given_is (line.gave next) = refl

pub both_kinds_are_served_by : BothKindsAreServed
unfolding answer meant
both_kinds_are_served_by = record {
  request = λ number r m. request_is number r m;
  expiry = λ number timer m. expiry_is number timer m;
  answers_request = λ number r m. refl;
  answers_expiry = λ number timer m. refl;
  event = λ e m. refl;
  answers_event = λ e m. refl;
  octets_begin = λ c. refl;
  frames_begin = λ c. refl;
  nothing_counted = refl;
  frame = λ number octets m. refl;
  fault = λ number fault. refl;
  call = λ number. refl;
  next_frame = λ number m. refl;
  gives = λ next. refl;
  more = λ number m. ap (λ (b : Bool). nat_lt number m.config.lines && b) (is_given_is (machine.answer (at number line.next) m));
}
