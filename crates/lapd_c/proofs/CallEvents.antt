-- Which event a call is: each word of the contracts says it.
use Rattle.lapd_c.proofs.Vocabulary.{◌≡◌, ℕ, ◌+◌, ◌≤◌, false, List, [], refl, ap, ◌∙◌, arith, Some, None, Ok}
use Rattle.std.specs.Prelude.{Err, nat_lt, is_some, is_none, Option, if◌then◌else◌}
use Rattle.lapd_frame.specs.declared.services.Service.{Service}
use Rattle.lapd_frame.specs.declared.services.Service.TheVariants.{Call, Packet}
use Rattle.lapd_frame.specs.declared.timers.Timer.{Timer}
use Rattle.lapd_frame.specs.declared.timers.Timer.TheVariants.{T200, T203}
use Rattle.model_line.specs.Event.{next, given_in}
use Rattle.model_line.specs.Request.{Request, Establish, Release, Data, Unit, Assign, Remove, Check, Disown, AskTei, VerifyTei, SetBusy, ClearBusy, Deactivate, Down}
use Rattle.model_card.specs.Card.{Card}
use Rattle.model_card.specs.Event.{at}
use Rattle.model_card.specs.Machine.{answer}
use Rattle.lapd_c.specs.Asked.{next_with_room, if_ok, expiry_at, request_at}
use Rattle.lapd_c.specs.CalledBy.{inside}
use Rattle.lapd_c.specs.CallEvents.{CallsAreEvents}
use Rattle.lapd_c.specs.Frames.{fails}
use Rattle.lapd_c.specs.Numbers.{number_of}
use Rattle.lapd_c.specs.Requests.{request_in, with_service, of_service}
use Rattle.lapd_c.specs.Services.{service_in}
use Rattle.lapd_c.specs.Statuses.{no_frame, wrong_length, wrong_tei}
use Rattle.lapd_c.specs.Timers.{link_in, with_tei, timer_of_link}
use Rattle.lapd_c.proofs.WrongCalls.{request_contents, request_service, request_wrong, timer_service, timer_tei, timer_wrong, wrong_fault}

-- which of two numbers is less
not-below : (a b : ℕ) → b ≤ a → nat_lt a b ≡ false
not-below a b le = grind arith

-- A service has its number, and no other.
service-in : (service : Service) → service_in (number_of service) ≡ Ok service
service-in Call = refl
service-in Packet = refl

-- The frame that waits is called for, if there is room for it.
next-means : (line room : ℕ) (card : Card) → next_with_room line room card
    ≡ (if nat_lt room (card.config.n201 + 4) then Err 19 else if is_some (given_in (answer (at line next) card)) then Ok (inside (at line next)) else Err 28)
next-means line room card = go (given_in (answer (at line next) card))
  where
    go : {A : Type 0} (o : Option A) → (if nat_lt room (card.config.n201 + 4) then Err wrong_length else if is_none o then Err no_frame else Ok (inside (at line next)))
        ≡ (if nat_lt room (card.config.n201 + 4) then Err 19 else if is_some o then Ok (inside (at line next)) else Err 28)
    go None = refl
    go (Some x) = refl

-- A timer of a link has the link that its numbers name.
linked : (which : Service → ℕ → Timer) (service : Service) (tei : ℕ) → tei ≤ 126 → timer_of_link which (link_in (number_of service) tei) ≡ Ok (which service tei)
linked which service tei low =
    ap (λ r. timer_of_link which (with_tei tei r)) (service-in service) ∙ ap (λ b. timer_of_link which (if b then Err wrong_tei else Ok (service, tei))) (not-below 126 tei low)

-- Requests of a service, by their numbers
asked : (line number tei : ℕ) (contents : List ℕ) (service : Service) (r : Request) → request_in number (number_of service) tei contents ≡ with_service number tei contents (service_in (number_of service))
    → of_service number tei contents service ≡ Ok r
    → if_ok (request_at line) (request_in number (number_of service) tei contents) ≡ Ok (request_at line r)
asked line number tei contents service r known is =
    ap (λ q. if_ok (request_at line) q) (known ∙ ap (λ s. with_service number tei contents s) (service-in service) ∙ is)

pub calls_are_events_by : CallsAreEvents
calls_are_events_by = record {
  octet = λ line value. (refl, refl, λ card. refl);
  pull = λ line. (refl, refl, λ card. refl);
  frame_line = λ line taken. (refl, refl);
  frame = λ line taken card. refl;
  next_line = λ line room. (refl, refl);
  next_frame = next-means;
  abort = λ line. (refl, refl, λ card. refl);
  ragged = λ line. (refl, refl, λ card. refl);
  short = λ line. (refl, refl, λ card. refl);
  bad_check = λ line. (refl, refl, λ card. refl);
  t200 = λ line service tei low. (refl, refl, λ card. ap (λ r. if_ok (expiry_at line) r) (linked T200 service tei low));
  t203 = λ line service tei low. (refl, refl, λ card. ap (λ r. if_ok (expiry_at line) r) (linked T203 service tei low));
  t201 = λ line service tei low. (refl, refl, λ card. refl);
  t202 = λ line service tei low. (refl, refl, λ card. refl);
  establish = λ line service tei. (refl, refl, λ card. asked line 1 tei [] service (Establish service tei) refl refl);
  release = λ line service tei. (refl, refl, λ card. asked line 2 tei [] service (Release service tei) refl refl);
  send_data = λ line service tei contents. (refl, refl, λ card. asked line 3 tei contents service (Data service tei contents) refl refl);
  send_unit = λ line service tei contents. (refl, refl, λ card. asked line 4 tei contents service (Unit service tei contents) refl refl);
  assign = λ line service tei. (refl, refl, λ card. asked line 5 tei [] service (Assign tei) refl refl);
  remove = λ line service tei. (refl, refl, λ card. asked line 6 tei [] service (Remove tei) refl refl);
  check = λ line service tei. (refl, refl, λ card. asked line 7 tei [] service (Check tei) refl refl);
  busy = λ line service tei. (refl, refl, λ card. asked line 8 tei [] service (SetBusy service tei) refl refl);
  ready = λ line service tei. (refl, refl, λ card. asked line 9 tei [] service (ClearBusy service tei) refl refl);
  deactivate = λ line service tei. (refl, refl, λ card. asked line 10 tei [] service (Deactivate service tei) refl refl);
  down = λ line service tei. (refl, refl, λ card. asked line 11 tei [] service Down refl refl);
  disown = λ line service tei. (refl, refl, λ card. asked line 12 tei [] service (Disown tei) refl refl);
  ask = λ line service tei. (refl, refl, λ card. asked line 13 tei [] service AskTei refl refl);
  verify = λ line service tei. (refl, refl, λ card. asked line 14 tei [] service (VerifyTei tei) refl refl);
  names = (λ line service tei contents. refl, λ line service tei contents. refl, λ line service tei contents. refl, λ line service tei contents. refl, λ line service tei contents. refl, λ line service tei contents. refl, λ line service tei contents. refl);
  no_names = (λ line service tei contents. refl, λ line service tei contents. refl, λ line service tei contents. refl, λ line service tei contents. refl, λ line service tei contents. refl, λ line service tei contents. refl, λ line service tei contents. refl);
  others_name_none = λ line value room taken timer. (refl, refl, refl, refl, refl, refl);
  no_fault = λ line number none card. ap (if_ok (λ fault. inside (fails line fault))) (wrong_fault number none);
  no_timer = λ line service tei number none card. ap (if_ok (expiry_at line)) (timer_wrong number service tei none);
  no_request = λ line service tei contents number none card. ap (if_ok (request_at line)) (request_wrong number service tei contents none);
  no_timers_service = λ line tei number service first few no_call no_packet card. ap (if_ok (expiry_at line)) (timer_service number service tei first few no_call no_packet);
  no_service = λ line tei contents number service first few no_call no_packet card. ap (if_ok (request_at line)) (request_service number service tei contents first few no_call no_packet);
  no_tei = λ line number tei service first few past card. ap (if_ok (expiry_at line)) (timer_tei number tei service first few past);
  no_contents = λ line number tei octet service octets first few no_data no_unit card.
      ap (if_ok (request_at line)) (request_contents number tei octet service octets first few no_data no_unit);
  t201_alone = λ line service tei. (refl, refl, λ card. refl);
  t202_alone = λ line service tei. (refl, refl, λ card. refl);
  octet_waits = λ line value status. refl;
  pull_waits = λ line status. refl;
  frame_waits = λ line status taken. refl;
  fault_waits = λ line number status. refl;
  next_waits = λ line room status. refl;
  expiry_waits = λ line number service tei status. refl;
  waits = λ line number service tei status contents. refl;
}
