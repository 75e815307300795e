-- What is wrong with numbers that name nothing.
use Rattle.lapd_c.proofs.Vocabulary.{◌≡◌, ◌≤◌, ◌<◌, ◌∷◌, ℕ, Bool, true, false, cond, List, None, Some, Ok, Result, inl, inr, refl, ap, ◌∙◌, arith}
use Rattle.std.specs.Prelude.{◌≢◌, ◌⊎◌, ◌==◌, Err, nat_le}
use Rattle.std.proofs.lemmas.Bool.{and_from, and_right, cond_both, eqb-false, eqb-true, le-leb, lt-leb, lt-ltb}
use Rattle.lapd_frame.specs.declared.services.Service.{Service}
use Rattle.lapd_frame.specs.declared.services.Service.TheVariants.{Call, Packet}
use Rattle.lapd_frame.specs.declared.timers.Order.TheVariants.{Start, Stop}
use Rattle.lapd_frame.specs.declared.timers.Timer.TheVariants.{T200, T203}
use Rattle.lapd_c.specs.Faults.{fault_in}
use Rattle.lapd_c.specs.Numbers.{number_of, ordered, timed}
use Rattle.lapd_c.specs.Requests.{is_request, request_in, with_service}
use Rattle.lapd_c.specs.Services.{or_wrong_service, service_in}
use Rattle.lapd_c.specs.Statuses.{wrong_cause, wrong_length, wrong_order, wrong_request, wrong_tei, wrong_timer}
use Rattle.lapd_c.specs.Timers.{link_in, order_in, order_of_timer, timer_in, timer_of_link, with_tei}
use Rattle.lapd_c.specs.declared.plain.timers.PlainTimer.{PlainTimer}

-- a number is none of those from 1 to a last one
abbrev IsNone : ℕ → ℕ → Type 0
IsNone last number = (number ≡ 0) ⊎ (last < number)

-- a number that is none of those up to a last one is another than each
other_than : (last number k : ℕ) → IsNone last number → 1 ≤ k → k ≤ last → number ≢ k
other_than last number k (inl zero) first few is = omega (arith, zero, first, is)
other_than last number k (inr past) first few is = omega (arith, past, few, is)

module _ {A : Type 0} (wrong : ℕ) where
  -- another number goes on to the next test; and what is wrong both ways is wrong
  past : (n k : ℕ) (x y : Result A ℕ) → n ≢ k → y ≡ Err wrong → cond (n == k) x y ≡ Err wrong
  past n k x y other is = cond_both (n == k) x y (λ r. r ≡ Err wrong) (λ same. absurd (other (eqb-true n k same))) (λ _. is)

  both : (b : Bool) (x y : Result A ℕ) → x ≡ Err wrong → y ≡ Err wrong → cond b x y ≡ Err wrong
  both b x y is its = cond_both b x y (λ r. r ≡ Err wrong) (λ _. is) (λ _. its)

  -- one of two
  first_two : (number : ℕ) (x y z : Result A ℕ) → 1 ≤ number → number ≤ 2 → x ≡ Err wrong → y ≡ Err wrong → cond (number == 1) x (cond (number == 2) y z) ≡ Err wrong
  first_two number x y z first few is its =
      cond_both (number == 1) _ _ (λ r. r ≡ Err wrong) (λ _. is) (λ not_one. cond_both (number == 2) _ _ (λ r. r ≡ Err wrong) (λ _. its)
      (λ not_two. absurd (eqb-false number 2 not_two (last (eqb-false number 1 not_one)))))
    where
      last : number ≢ 1 → number ≡ 2
      last other = omega (arith, first, few, other)

-- faults and timers
pub wrong_fault : (number : ℕ) → IsNone 4 number → fault_in number ≡ Err wrong_cause
wrong_fault number none =
    past wrong_cause number 1 _ _ (other_than 4 number 1 none (omega arith) (omega arith))
    (past wrong_cause number 2 _ _ (other_than 4 number 2 none (omega arith) (omega arith))
    (past wrong_cause number 3 _ _ (other_than 4 number 3 none (omega arith) (omega arith))
    (past wrong_cause number 4 _ _ (other_than 4 number 4 none (omega arith) (omega arith)) refl)))

pub timer_wrong : (number service tei : ℕ) → IsNone 4 number → timer_in (timed number service tei) ≡ Err wrong_timer
timer_wrong number service tei none =
    past wrong_timer number 1 _ _ (other_than 4 number 1 none (omega arith) (omega arith))
    (past wrong_timer number 2 _ _ (other_than 4 number 2 none (omega arith) (omega arith))
    (past wrong_timer number 3 _ _ (other_than 4 number 3 none (omega arith) (omega arith))
    (past wrong_timer number 4 _ _ (other_than 4 number 4 none (omega arith) (omega arith)) refl)))

-- a service, and the link of a timer
pub wrong_sapi : (number : ℕ) → number ≢ 0 → number ≢ 16 → service_in number ≡ Err 15
wrong_sapi number no_call no_packet = ap or_wrong_service (cond_both (number == 0) (Some Call) (cond (number == 16) (Some Packet) None) (λ o. o ≡ None) (λ is. absurd (no_call (eqb-true number 0 is)))
    (λ _. cond_both (number == 16) (Some Packet) None (λ o. o ≡ None) (λ is. absurd (no_packet (eqb-true number 16 is))) (λ _. refl)))

of_service_is : (service : Service) → service_in (number_of service) ≡ Ok service
of_service_is Call = refl
of_service_is Packet = refl

of_link : (wrong number service tei : ℕ) → 1 ≤ number → number ≤ 2 → link_in service tei ≡ Err wrong → timer_in (timed number service tei) ≡ Err wrong
of_link wrong number service tei first few is = first_two wrong number _ _ _ first few (ap (timer_of_link T200) is) (ap (timer_of_link T203) is)

pub timer_service : (number service tei : ℕ) → 1 ≤ number → number ≤ 2 → service ≢ 0 → service ≢ 16 → timer_in (timed number service tei) ≡ Err 15
timer_service number service tei first few no_call no_packet = of_link 15 number service tei first few (ap (with_tei tei) (wrong_sapi service no_call no_packet))

pub timer_tei : (number tei : ℕ) (service : Service) → 1 ≤ number → number ≤ 2 → 126 < tei → timer_in (timed number (number_of service) tei) ≡ Err wrong_tei
timer_tei number tei service first few past = of_link wrong_tei number (number_of service) tei first few
    (ap (with_tei tei) (of_service_is service) ∙ ap (λ (b : Bool). cond b (Err wrong_tei) (Ok (service, tei))) (lt-ltb 126 tei past))

-- orders
pub order_none : (number : ℕ) (p : PlainTimer) → IsNone 2 number → order_in (ordered number p) ≡ Err wrong_order
order_none number p none =
    past wrong_order number 1 _ _ (other_than 2 number 1 none (omega arith) (omega arith)) (past wrong_order number 2 _ _ (other_than 2 number 2 none (omega arith) (omega arith)) refl)

pub order_timer : (number wrong : ℕ) (p : PlainTimer) → 1 ≤ number → number ≤ 2 → timer_in p ≡ Err wrong → order_in (ordered number p) ≡ Err wrong
order_timer number wrong p first few is = first_two wrong number _ _ _ first few (ap (order_of_timer Start) is) (ap (order_of_timer Stop) is)

-- requests
pub request_wrong : (number service tei : ℕ) (contents : List ℕ) → IsNone 14 number → request_in number service tei contents ≡ Err wrong_request
request_wrong number service tei contents none =
    ap (λ (b : Bool). cond b (with_service number tei contents (service_in service)) (Err wrong_request)) (out none)
  where
    out : IsNone 14 number → is_request number ≡ false
    out (inl zero) = ap is_request zero
    out (inr past) = and_right (nat_le 1 number) (nat_le number 14) (lt-leb number 14 past)

a_request : (number : ℕ) → 1 ≤ number → number ≤ 14 → is_request number ≡ true
a_request number first few = and_from (nat_le 1 number) (nat_le number 14) (le-leb 1 number first) (le-leb number 14 few)

request_is : (number service tei : ℕ) (contents : List ℕ) → 1 ≤ number → number ≤ 14 → request_in number service tei contents ≡ with_service number tei contents (service_in service)
request_is number service tei contents first few =
    ap (λ (b : Bool). cond b (with_service number tei contents (service_in service)) (Err wrong_request)) (a_request number first few)

pub request_service : (number service tei : ℕ) (contents : List ℕ) → 1 ≤ number → number ≤ 14 → service ≢ 0 → service ≢ 16 → request_in number service tei contents ≡ Err 15
request_service number service tei contents first few no_call no_packet = request_is number service tei contents first few ∙ ap (with_service number tei contents) (wrong_sapi service no_call no_packet)

pub request_contents : (number tei octet : ℕ) (service : Service) (octets : List ℕ) → 1 ≤ number → number ≤ 14 → number ≢ 3 → number ≢ 4
    → request_in number (number_of service) tei (octet ∷ octets) ≡ Err wrong_length
request_contents number tei octet service octets first few no_data no_unit =
    request_is number (number_of service) tei (octet ∷ octets) first few ∙ ap (with_service number tei (octet ∷ octets)) (of_service_is service)
    ∙ both wrong_length (number == 1) _ _ refl (both wrong_length (number == 2) _ _ refl (past wrong_length number 3 _ _ no_data (past wrong_length number 4 _ _ no_unit
    (both wrong_length (number == 5) _ _ refl (both wrong_length (number == 6) _ _ refl (both wrong_length (number == 7) _ _ refl (both wrong_length (number == 8) _ _ refl
    (both wrong_length (number == 9) _ _ refl (both wrong_length (number == 10) _ _ refl (both wrong_length (number == 11) _ _ refl (both wrong_length (number == 12) _ _ refl
    (both wrong_length (number == 13) _ _ refl refl))))))))))))
