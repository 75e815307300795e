-- Which event of which line a call is, and of which cards, in words of their own: those of `lapd.h`, and not those that the
-- contracts of the calls use.
use Rattle.std.specs.Prelude.{◌≡◌, ◌≢◌, ◌⊎◌, ℕ, ◌+◌, ◌≤◌, ◌<◌, nat_lt, List, [], ◌∷◌, is_some, Some, Ok, Err, if◌then◌else◌, None}
use Rattle.model_bits.specs.Stream.{dropped}
use Rattle.model_bits.specs.declared.heard.Cause.{Cause}
use Rattle.model_bits.specs.declared.heard.Cause.TheVariants as cause
use Rattle.lapd_frame.specs.declared.services.Service.{Service}
use Rattle.lapd_frame.specs.declared.timers.Timer.{Timer}
use Rattle.lapd_frame.specs.declared.timers.Timer.TheVariants.{T200, T203, T201, T202}
use Rattle.model_line.specs.Came.{came}
use Rattle.model_line.specs.Event.{hears, next, expiry, request, given_in}
use Rattle.model_line.specs.Request.{Request, Establish, Release, Data, Unit, Assign, Remove, Check, Disown, AskTei, VerifyTei, SetBusy, ClearBusy, Deactivate, Down}
use Rattle.model_card.specs.Card.{Card}
use Rattle.model_card.specs.Event.{at}
use Rattle.model_card.specs.Machine.{answer}
use Rattle.model_card.specs.ports.Event as octets
use Rattle.model_card.specs.ports.Port as port
use Rattle.lapd_c.specs.Asked.{octet_asked, pull_asked, frame_asked, failed_asked, next_frame_asked, expire_asked, request_asked}
use Rattle.lapd_c.specs.CalledBy.{Asked, Happening, inside, at_port}
use Rattle.lapd_c.specs.Numbers.{number_of, timed}
use Rattle.lapd_c.specs.Reopened.{refused_place}
use Rattle.lapd_c.specs.declared.plain.timers.PlainTimer.{PlainTimer}
use Rattle.lapd_c.specs.Wanted.{Wanted, of_any, of_octets, of_frames, of_untimed}

-- A call is of these cards, and this event of this line, whatever the card has.
abbrev pub IsEvent : Wanted → Asked → ℕ → Happening → Type 0
IsEvent cards asked line e = (asked.cards ≡ cards) × (asked.line ≡ line) × ((card : Card) → asked.event card ≡ Ok e)

-- A request names its TEI, as the one whose links give contents up, if it is of a link, or one to remove a TEI.
abbrev pub IsNamed : ℕ → Type 0
IsNamed number = (line service tei : ℕ) (contents : List ℕ) → (request_asked line number service tei contents).names ≡ Some tei

abbrev pub IsUnnamed : ℕ → Type 0
IsUnnamed number = (line service tei : ℕ) (contents : List ℕ) → (request_asked line number service tei contents).names ≡ None

-- A fault in place of a frame, a timer of a link, and a request have these numbers.
abbrev pub IsFault : ℕ → Cause → Type 0
IsFault number what = (line : ℕ) → IsEvent of_frames (failed_asked line number) line (inside (at line (hears (dropped what))))

abbrev pub IsExpiry : ℕ → (Service → ℕ → Timer) → Type 0
IsExpiry number which = (line : ℕ) (service : Service) (tei : ℕ) → tei ≤ 126
    → IsEvent of_untimed (expire_asked line (record { timer = number; service = number_of service; tei = tei })) line (inside (at line (expiry (which service tei))))

abbrev pub IsRequest : ℕ → (Service → ℕ → Request) → Type 0
IsRequest number which = (line : ℕ) (service : Service) (tei : ℕ)
    → IsEvent of_any (request_asked line number (number_of service) tei []) line (inside (at line (request (which service tei))))

abbrev pub IsSent : ℕ → (Service → ℕ → List ℕ → Request) → Type 0
IsSent number which = (line : ℕ) (service : Service) (tei : ℕ) (contents : List ℕ)
    → IsEvent of_any (request_asked line number (number_of service) tei contents) line (inside (at line (request (which service tei contents))))

-- Something is wrong with a call, whatever the card has, and its status says what. So it is with a number that names nothing, from 1
-- to the last; and with one that names something of a service, if no service has that number.
abbrev pub IsWrong : Asked → ℕ → Type 0
IsWrong asked status = (card : Card) → asked.event card ≡ Err status

abbrev pub NamesNone : ℕ → (ℕ → Asked) → ℕ → Type 0
NamesNone last asked status = (number : ℕ) → (number ≡ 0) ⊎ (last < number) → IsWrong (asked number) status

abbrev pub NamesNoService : ℕ → (ℕ → ℕ → Asked) → Type 0
NamesNoService last asked = (number service : ℕ) → 1 ≤ number → number ≤ last → service ≢ 0 → service ≢ 16 → IsWrong (asked number service) 15

pub record CallsAreEvents : Type 0 where
  pub octet : (line value : ℕ) → IsEvent of_octets (octet_asked line value) line (at_port (octets.at line (port.octet value)))
  pub pull : (line : ℕ) → IsEvent of_octets (pull_asked line) line (at_port (octets.at line port.pull))
  pub frame_line : (line : ℕ) (taken : List ℕ) → ((frame_asked line taken).cards ≡ of_frames) × ((frame_asked line taken).line ≡ line)
  pub frame : (line : ℕ) (taken : List ℕ) (card : Card) → (frame_asked line taken).event card ≡ Ok (inside (at line (hears (came card.config.n201 taken))))
  pub next_line : (line room : ℕ) → ((next_frame_asked line room).cards ≡ of_frames) × ((next_frame_asked line room).line ≡ line)
  pub next_frame : (line room : ℕ) (card : Card) → (next_frame_asked line room).event card
      ≡ (if nat_lt room (card.config.n201 + 4) then Err 19 else if is_some (given_in (answer (at line next) card)) then Ok (inside (at line next)) else Err 28)
  pub abort : IsFault 1 cause.Abort
  pub ragged : IsFault 2 cause.Ragged
  pub short : IsFault 3 cause.Short
  pub bad_check : IsFault 4 cause.Fcs
  pub t200 : IsExpiry 1 T200
  pub t203 : IsExpiry 2 T203
  pub t201 : IsExpiry 3 (λ service tei. T201)
  pub t202 : IsExpiry 4 (λ service tei. T202)
  pub establish : IsRequest 1 Establish
  pub release : IsRequest 2 Release
  pub send_data : IsSent 3 Data
  pub send_unit : IsSent 4 Unit
  pub assign : IsRequest 5 (λ service tei. Assign tei)
  pub remove : IsRequest 6 (λ service tei. Remove tei)
  pub check : IsRequest 7 (λ service tei. Check tei)
  pub busy : IsRequest 8 SetBusy
  pub ready : IsRequest 9 ClearBusy
  pub deactivate : IsRequest 10 Deactivate
  pub down : IsRequest 11 (λ service tei. Down)
  pub disown : IsRequest 12 (λ service tei. Disown tei)
  pub ask : IsRequest 13 (λ service tei. AskTei)
  pub verify : IsRequest 14 (λ service tei. VerifyTei tei)
  -- Requests that name a TEI whose links may give contents up; no other request and no other call does.
  pub names : IsNamed 1 × IsNamed 2 × IsNamed 3 × IsNamed 6 × IsNamed 8 × IsNamed 9 × IsNamed 10
  pub no_names : IsUnnamed 4 × IsUnnamed 5 × IsUnnamed 7 × IsUnnamed 11 × IsUnnamed 12 × IsUnnamed 13 × IsUnnamed 14
  pub others_name_none : (line value room : ℕ) (taken : List ℕ) (timer : PlainTimer) → ((octet_asked line value).names ≡ None) × ((pull_asked line).names ≡ None)
      × ((frame_asked line taken).names ≡ None) × ((failed_asked line value).names ≡ None) × ((next_frame_asked line room).names ≡ None) × ((expire_asked line timer).names ≡ None)
  -- What numbers do not name is wrong; and contents of a request that is not of data.
  pub no_fault : (line : ℕ) → NamesNone 4 (failed_asked line) 27
  pub no_timer : (line service tei : ℕ) → NamesNone 4 (λ number. expire_asked line (timed number service tei)) 17
  pub no_request : (line service tei : ℕ) (contents : List ℕ) → NamesNone 14 (λ number. request_asked line number service tei contents) 18
  pub no_timers_service : (line tei : ℕ) → NamesNoService 2 (λ number service. expire_asked line (timed number service tei))
  pub no_service : (line tei : ℕ) (contents : List ℕ) → NamesNoService 14 (λ number service. request_asked line number service tei contents)
  pub no_tei : (line number tei : ℕ) (service : Service) → 1 ≤ number → number ≤ 2 → 126 < tei → IsWrong (expire_asked line (timed number (number_of service) tei)) 16
  pub no_contents : (line number tei octet : ℕ) (service : Service) (octets : List ℕ) → 1 ≤ number → number ≤ 14 → number ≢ 3 → number ≢ 4
      → IsWrong (request_asked line number (number_of service) tei (octet ∷ octets)) 19
  -- T201 and T202 are of no link: nothing else of the timer is read.
  pub t201_alone : (line service tei : ℕ) → IsEvent of_untimed (expire_asked line (timed 3 service tei)) line (inside (at line (expiry T201)))
  pub t202_alone : (line service tei : ℕ) → IsEvent of_untimed (expire_asked line (timed 4 service tei)) line (inside (at line (expiry T202)))
  -- No other call has a link wait.
  pub octet_waits : (line value status : ℕ) → (octet_asked line value).waits status ≡ None
  pub pull_waits : (line status : ℕ) → (pull_asked line).waits status ≡ None
  pub frame_waits : (line status : ℕ) (taken : List ℕ) → (frame_asked line taken).waits status ≡ None
  pub fault_waits : (line number status : ℕ) → (failed_asked line number).waits status ≡ None
  pub next_waits : (line room status : ℕ) → (next_frame_asked line room).waits status ≡ None
  pub expiry_waits : (line number service tei status : ℕ) → (expire_asked line (timed number service tei)).waits status ≡ None
  -- And which link waits after a request.
  pub waits : (line number service tei status : ℕ) (contents : List ℕ) → (request_asked line number service tei contents).waits status ≡ refused_place status number service tei
