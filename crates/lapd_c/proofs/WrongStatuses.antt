-- What is wrong is told by another status than OK.
use Rattle.lapd_c.proofs.Vocabulary.{ℕ, Bool, true, false, cond, List, [], ◌∷◌, Option, None, Some, Ok, Result, Refusal, Service, arith, nat_lt}
use Rattle.std.specs.Prelude.{◌≢◌, ◌==◌, Err}
use Rattle.std.specs.Result.{IfErr}
use Rattle.lapd_frame.specs.Services.{service_of}
use Rattle.lapd_frame.specs.declared.refusals.Refusal.TheVariants.{BadTei, NoLink, WrongState, TooLong, QueueFull, PoolFull, TeiTaken, TableFull, CheckRunning, ControlFull, WrongSide}
use Rattle.lapd_frame.specs.declared.timers.Timer.{Timer}
use Rattle.lapd_frame.specs.declared.timers.Timer.TheVariants.{T200, T203}
use Rattle.model_line.specs.Request.{Request, Establish, Release, Assign, Remove, Check, Disown, AskTei, VerifyTei, SetBusy, ClearBusy, Deactivate, Down}
use Rattle.lapd_c.specs.Faults.{fault_in}
use Rattle.lapd_c.specs.Requests.{is_request, of_service, request_in, with_service, without_contents}
use Rattle.lapd_c.specs.Services.{or_wrong_service, service_in}
use Rattle.lapd_c.specs.Statuses.{refusal_status}
use Rattle.lapd_c.specs.Timers.{link_in, timer_in, timer_of_link, with_tei}
use Rattle.lapd_c.specs.declared.plain.timers.PlainTimer.{PlainTimer}

abbrev pub NotOk : {A : Type 0} → Result A ℕ → Type 0
NotOk asked = IfErr asked (λ wrong. wrong ≢ 0)

either : {A : Type 0} (b : Bool) (x y : Result A ℕ) → NotOk x → NotOk y → NotOk (cond b x y)
either true x y is its = is
either false x y is its = its

-- a refusal
pub refused_not_ok : (why : Refusal) → refusal_status why ≢ 0
refused_not_ok BadTei e = omega (arith, e)
refused_not_ok NoLink e = omega (arith, e)
refused_not_ok WrongState e = omega (arith, e)
refused_not_ok TooLong e = omega (arith, e)
refused_not_ok QueueFull e = omega (arith, e)
refused_not_ok PoolFull e = omega (arith, e)
refused_not_ok TeiTaken e = omega (arith, e)
refused_not_ok TableFull e = omega (arith, e)
refused_not_ok CheckRunning e = omega (arith, e)
refused_not_ok ControlFull e = omega (arith, e)
refused_not_ok WrongSide e = omega (arith, e)

-- a fault, a link, a timer
pub fault_not_ok : (cause : ℕ) → NotOk (fault_in cause)
fault_not_ok cause = either (cause == 1) _ _ tt (either (cause == 2) _ _ tt (either (cause == 3) _ _ tt (either (cause == 4) _ _ tt (λ e. omega (arith, e)))))

service_not_ok : (o : Option Service) → NotOk (or_wrong_service o)
service_not_ok None = λ e. omega (arith, e)
service_not_ok (Some service) = tt

of_tei : (tei : ℕ) (asked : Result Service ℕ) → NotOk asked → NotOk (with_tei tei asked)
of_tei tei (Err wrong) is = is
of_tei tei (Ok service) is = either (nat_lt 126 tei) (Err 16) (Ok (service, tei)) (λ e. omega (arith, e)) tt

pub link_not_ok : (service tei : ℕ) → NotOk (link_in service tei)
link_not_ok service tei = of_tei tei (service_in service) (service_not_ok (service_of service))

of_link : (which : Service → ℕ → Timer) (asked : Result (Service × ℕ) ℕ) → NotOk asked → NotOk (timer_of_link which asked)
of_link which (Err wrong) is = is
of_link which (Ok link) is = tt

pub timer_not_ok : (p : PlainTimer) → NotOk (timer_in p)
timer_not_ok p =
    let link = link_in p.service p.tei in
    either (p.timer == 1) _ _ (of_link T200 link (link_not_ok p.service p.tei))
    (either (p.timer == 2) _ _ (of_link T203 link (link_not_ok p.service p.tei)) (either (p.timer == 3) _ _ tt (either (p.timer == 4) _ _ tt (λ e. omega (arith, e)))))

-- a request
none_given : (r : Request) (contents : List ℕ) → NotOk (without_contents r contents)
none_given r [] = tt
none_given r (octet ∷ octets) = λ e. omega (arith, e)

asks : (number tei : ℕ) (contents : List ℕ) (s : Service) → NotOk (of_service number tei contents s)
asks number tei contents s =
    either (number == 1) _ _ (none_given (Establish s tei) contents) (either (number == 2) _ _ (none_given (Release s tei) contents) (either (number == 3) _ _ tt (either (number == 4) _ _ tt
    (either (number == 5) _ _ (none_given (Assign tei) contents) (either (number == 6) _ _ (none_given (Remove tei) contents) (either (number == 7) _ _ (none_given (Check tei) contents)
    (either (number == 8) _ _ (none_given (SetBusy s tei) contents) (either (number == 9) _ _ (none_given (ClearBusy s tei) contents) (either (number == 10) _ _ (none_given (Deactivate s tei) contents)
    (either (number == 11) _ _ (none_given Down contents) (either (number == 12) _ _ (none_given (Disown tei) contents)
    (either (number == 13) _ _ (none_given AskTei contents) (none_given (VerifyTei tei) contents)))))))))))))

of_sapi : (number tei : ℕ) (contents : List ℕ) (asked : Result Service ℕ) → NotOk asked → NotOk (with_service number tei contents asked)
of_sapi number tei contents (Err wrong) is = is
of_sapi number tei contents (Ok service) is = asks number tei contents service

pub request_not_ok : (number service tei : ℕ) (contents : List ℕ) → NotOk (request_in number service tei contents)
request_not_ok number service tei contents =
    either (is_request number) _ _ (of_sapi number tei contents (service_in service) (service_not_ok (service_of service))) (λ e. omega (arith, e))
