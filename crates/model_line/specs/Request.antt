-- What is asked of a line, wherever the contents lie.
use Rattle.std.specs.Prelude.{ℕ, List}
use Rattle.lapd_frame.specs.declared.services.Service.{Service}
use Rattle.model_line.specs.declared.requests.Request as rust

pub data Request : Type 0 where
  Establish : Service → ℕ → Request
  Release : Service → ℕ → Request
  Data : Service → ℕ → List ℕ → Request
  Unit : Service → ℕ → List ℕ → Request
  Assign : ℕ → Request
  Remove : ℕ → Request
  Check : ℕ → Request
  Disown : ℕ → Request
  AskTei : Request
  VerifyTei : ℕ → Request
  SetBusy : Service → ℕ → Request
  ClearBusy : Service → ℕ → Request
  Deactivate : Service → ℕ → Request
  Down : Request

-- What a request of layer 3 asks, its contents seen without references.
abbrev pub request_of : rust.Request → Request
request_of (rust.TheVariants.Establish service tei) = Establish service tei
request_of (rust.TheVariants.Release service tei) = Release service tei
request_of (rust.TheVariants.Data service tei contents) = Data service tei contents.now
request_of (rust.TheVariants.Unit service tei contents) = Unit service tei contents.now
request_of (rust.TheVariants.Assign tei) = Assign tei
request_of (rust.TheVariants.Remove tei) = Remove tei
request_of (rust.TheVariants.Check tei) = Check tei
request_of (rust.TheVariants.Disown tei) = Disown tei
request_of rust.TheVariants.AskTei = AskTei
request_of (rust.TheVariants.VerifyTei tei) = VerifyTei tei
request_of (rust.TheVariants.SetBusy service tei) = SetBusy service tei
request_of (rust.TheVariants.ClearBusy service tei) = ClearBusy service tei
request_of (rust.TheVariants.Deactivate service tei) = Deactivate service tei
request_of rust.TheVariants.Down = Down
