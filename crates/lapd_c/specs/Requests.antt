-- Requests as numbers.
use Rattle.std.specs.Prelude.{ℕ, ◌==◌, nat_le, Bool, ◌&&◌, List, [], ◌∷◌, Result, Ok, Err, if◌then◌else◌}
use Rattle.lapd_frame.specs.declared.services.Service.{Service}
use Rattle.model_line.specs.declared.requests.Request as rust
use Rattle.model_line.specs.Request.{Request, request_of, Establish, Release, Data, Unit, Assign, Remove, Check, Disown, AskTei, VerifyTei, SetBusy, ClearBusy, Deactivate, Down}
use Rattle.lapd_c.specs.Services.{service_in}
use Rattle.lapd_c.specs.Statuses.{wrong_request, wrong_length}

-- A request that has no contents is given none.
abbrev pub without_contents : Request → List ℕ → Result Request ℕ
without_contents r [] = Ok r
without_contents r (octet ∷ octets) = Err wrong_length

-- The request of a number, of the link of a service with a TEI, where it is of a link.
abbrev pub of_service : ℕ → ℕ → List ℕ → Service → Result Request ℕ
of_service number tei contents service =
    if number == 1 then without_contents (Establish service tei) contents
    else if number == 2 then without_contents (Release service tei) contents
    else if number == 3 then Ok (Data service tei contents)
    else if number == 4 then Ok (Unit service tei contents)
    else if number == 5 then without_contents (Assign tei) contents
    else if number == 6 then without_contents (Remove tei) contents
    else if number == 7 then without_contents (Check tei) contents
    else if number == 8 then without_contents (SetBusy service tei) contents
    else if number == 9 then without_contents (ClearBusy service tei) contents
    else if number == 10 then without_contents (Deactivate service tei) contents
    else if number == 11 then without_contents Down contents
    else if number == 12 then without_contents (Disown tei) contents
    else if number == 13 then without_contents AskTei contents
    else without_contents (VerifyTei tei) contents

abbrev pub with_service : ℕ → ℕ → List ℕ → Result Service ℕ → Result Request ℕ
with_service number tei contents (Err wrong) = Err wrong
with_service number tei contents (Ok service) = of_service number tei contents service

abbrev pub is_request : ℕ → Bool
is_request number = nat_le 1 number && nat_le number 14

abbrev pub request_in : ℕ → ℕ → ℕ → List ℕ → Result Request ℕ
request_in number sapi tei contents =
    if is_request number then with_service number tei contents (service_in sapi) else Err wrong_request

-- What was read, its contents seen without references.
abbrev pub read_of : Result rust.Request ℕ → Result Request ℕ
read_of (Ok r) = Ok (request_of r)
read_of (Err wrong) = Err wrong
