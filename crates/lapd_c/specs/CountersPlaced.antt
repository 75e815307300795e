-- Where each counter of a line stands, as `include/lapd.h` has them: one after the other, in these orders.
use Rattle.std.specs.Prelude.{◌≡◌, ◌∷◌, [], List, length, map}
use Rattle.std.specs.List.{range_with_len}
use Rattle.lapd_count.specs.Counters.{none_counted, place}
use Rattle.lapd_count.specs.declared.counter.Counter.TheVariants as counter
use Rattle.lapd_count.specs.declared.counter.Way.TheVariants.{Heard, Begun}
use Rattle.lapd_count.specs.declared.kinds.Kind.{Kind}
use Rattle.lapd_count.specs.declared.kinds.Kind.TheVariants as kind
use Rattle.lapd_count.specs.declared.messages.MessageType.{MessageType}
use Rattle.lapd_count.specs.declared.messages.MessageType.TheVariants as message
use Rattle.lapd_frame.specs.declared.notes.ErrorCode.{ErrorCode}
use Rattle.lapd_frame.specs.declared.notes.ErrorCode.TheVariants as code
use Rattle.model_bits.specs.declared.heard.Cause.{Cause}
use Rattle.model_bits.specs.declared.heard.Cause.TheVariants as cause

abbrev pub kinds : List Kind
kinds = kind.Information ∷ kind.ReceiveReady ∷ kind.ReceiveNotReady ∷ kind.Reject ∷ kind.Sabme ∷ kind.Disc ∷ kind.Ui ∷ kind.Ua ∷ kind.Dm ∷ kind.Frmr ∷ kind.Xid ∷ kind.Undefined ∷ []

abbrev pub causes : List Cause
causes = cause.Abort ∷ cause.Ragged ∷ cause.Short ∷ cause.Fcs ∷ cause.Extension ∷ cause.Sapi ∷ cause.Tei ∷ cause.Unserved ∷ []

abbrev pub codes : List ErrorCode
codes = code.A ∷ code.B ∷ code.C ∷ code.D ∷ code.E ∷ code.F ∷ code.G ∷ code.H ∷ code.I ∷ code.J ∷ code.K ∷ code.L ∷ code.N ∷ code.O ∷ []

abbrev pub messages : List MessageType
messages = message.IdentityRequest ∷ message.IdentityAssigned ∷ message.IdentityDenied ∷ message.IdentityCheckRequest ∷ message.IdentityCheckResponse ∷ message.IdentityRemove ∷ message.IdentityVerify ∷ []

pub record CountersArePlaced : Type 0 where
  pub frames_heard : map (λ k. place (counter.Frames Heard k)) kinds ≡ range_with_len 0 12
  pub frames_begun : map (λ k. place (counter.Frames Begun k)) kinds ≡ range_with_len 12 12
  pub of_frames : map place (counter.Octets Heard ∷ counter.Octets Begun ∷ counter.Polls Heard ∷ counter.Polls Begun ∷ counter.Overlong ∷ []) ≡ range_with_len 24 5
  pub dropped : map (λ c. place (counter.Dropped c)) causes ≡ range_with_len 29 8
  pub errors : map (λ c. place (counter.Errors c)) codes ≡ range_with_len 37 14
  pub notes : map place (counter.EstablishIndications ∷ counter.EstablishConfirms ∷ counter.ReleaseIndications ∷ counter.ReleaseConfirms ∷ counter.Data ∷ counter.Units ∷ counter.Xids
      ∷ counter.Assigned ∷ counter.Removed ∷ counter.Doubled ∷ counter.Denied ∷ counter.Unassigned ∷ counter.RemovedAll ∷ counter.Lost ∷ []) ≡ range_with_len 51 14
  pub messages_heard : map (λ m. place (counter.Messages Heard m)) messages ≡ range_with_len 65 7
  pub messages_begun : map (λ m. place (counter.Messages Begun m)) messages ≡ range_with_len 72 7
  pub all : length none_counted.values ≡ 79
