-- The services of SAPI 0 and 16 (Q.921 clause 3.3.3, table 2), and the letters of the error codes.
use Rattle.std.specs.Prelude.{ℕ, ◌==◌, Bool, true, false, if◌then◌else◌, Option, Some, None}
use Rattle.lapd_frame.specs.declared.services.Service.{Service}
use Rattle.lapd_frame.specs.declared.services.Service.TheVariants.{Call, Packet}
use Rattle.lapd_frame.specs.declared.notes.ErrorCode.{ErrorCode}
use Rattle.lapd_frame.specs.declared.notes.ErrorCode.TheVariants as code

abbrev pub sapi_of : Service → ℕ
sapi_of Call = 0
sapi_of Packet = 16

abbrev pub service_of : ℕ → Option Service
service_of sapi = if sapi == 0 then Some Call else if sapi == 16 then Some Packet else None

abbrev pub same_service : Service → Service → Bool
same_service Call Call = true
same_service Call Packet = false
same_service Packet Call = false
same_service Packet Packet = true

-- in ASCII
abbrev pub letter_of : ErrorCode → ℕ
letter_of code.A = 65
letter_of code.B = 66
letter_of code.C = 67
letter_of code.D = 68
letter_of code.E = 69
letter_of code.F = 70
letter_of code.G = 71
letter_of code.H = 72
letter_of code.I = 73
letter_of code.J = 74
letter_of code.K = 75
letter_of code.L = 76
letter_of code.N = 78
letter_of code.O = 79
