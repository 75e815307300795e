-- What numbers mean, and the service of a number: 0, or 16 for the second service, whatever its SAPI.
use Rattle.std.specs.Prelude.{ℕ, Option, Some, None, Result, Ok, Err}
use Rattle.lapd_frame.specs.declared.services.Service.{Service}
use Rattle.lapd_frame.specs.declared.services.Service.TheVariants.{Call, Packet}
use Rattle.lapd_frame.specs.Services.{service_of}
use Rattle.lapd_c.specs.Statuses.{wrong_service}

abbrev pub or_wrong_service : Option Service → Result Service ℕ
or_wrong_service None = Err wrong_service
or_wrong_service (Some service) = Ok service

abbrev pub service_in : ℕ → Result Service ℕ
service_in sapi = or_wrong_service (service_of sapi)

-- The number of a service.
abbrev pub number_of : Service → ℕ
number_of Call = 0
number_of Packet = 16

-- What numbers mean, if nothing is wrong with them.
abbrev pub if_ok : {A B : Type 0} → (A → B) → Result A ℕ → Result B ℕ
if_ok meant (Ok value) = Ok (meant value)
if_ok meant (Err wrong) = Err wrong
