-- What requests of Rattle ask: each the request of the machine of its name, of the same link or TEI, with the same contents.
use Rattle.std.specs.Prelude.{◌≡◌, ℕ, List}
use Rattle.std.specs.Borrow.{Bor}
use Rattle.lapd_frame.specs.declared.services.Service.{Service}
use Rattle.model_line.specs.Request.{Request, Establish, Release, Data, Unit, Assign, Remove, Check, Disown, AskTei, VerifyTei, SetBusy, ClearBusy, Deactivate, Down, request_of}
use Rattle.model_line.specs.declared.requests.Request as rust
use Rattle.model_line.specs.declared.requests.Request.TheVariants as asks

abbrev pub OfLink : (Service → ℕ → rust.Request) → (Service → ℕ → Request) → Type 0
OfLink ask asked = (service : Service) (tei : ℕ) → request_of (ask service tei) ≡ asked service tei

abbrev pub OfTei : (ℕ → rust.Request) → (ℕ → Request) → Type 0
OfTei ask asked = (tei : ℕ) → request_of (ask tei) ≡ asked tei

abbrev pub WithContents : (Service → ℕ → Bor (List ℕ) → rust.Request) → (Service → ℕ → List ℕ → Request) → Type 0
WithContents ask asked = (service : Service) (tei : ℕ) (contents : Bor (List ℕ)) → request_of (ask service tei contents) ≡ asked service tei contents.now

pub record RequestsMeanThis : Type 0 where
  pub establish : OfLink asks.Establish Establish
  pub release : OfLink asks.Release Release
  pub numbered : WithContents asks.Data Data
  pub unnumbered : WithContents asks.Unit Unit
  pub assign : OfTei asks.Assign Assign
  pub remove : OfTei asks.Remove Remove
  pub check : OfTei asks.Check Check
  pub disown : OfTei asks.Disown Disown
  pub ask_tei : request_of asks.AskTei ≡ AskTei
  pub verify_tei : OfTei asks.VerifyTei VerifyTei
  pub set_busy : OfLink asks.SetBusy SetBusy
  pub clear_busy : OfLink asks.ClearBusy ClearBusy
  pub deactivate : OfLink asks.Deactivate Deactivate
  pub down : request_of asks.Down ≡ Down
