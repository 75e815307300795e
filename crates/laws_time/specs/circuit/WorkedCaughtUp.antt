-- Worked values: an end whose content was told enquires, and has caught up. The run meets all premises. (How many frames found no place
-- for as long as an answer takes at most is too long to compute.)
use Rattle.std.specs.Prelude.{◌≡◌, List, [], ◌∷◌, ◌++◌, replicate, Some, refl}
use Rattle.lapd_frame.specs.declared.services.Service.TheVariants.{Call}
use Rattle.model_line.specs.declared.config.Config.{Config}
use Rattle.model_line.specs.Request.{Data}
use Rattle.laws_wire.specs.Worked as wire
use Rattle.laws_time.specs.circuit.Answered.{state_at}
use Rattle.laws_time.specs.circuit.CaughtUp.{GoesWell, in_call}
use Rattle.laws_time.specs.circuit.Clocked.{Clocked, Beat, plain, after, contents_at}
use Rattle.laws_time.specs.circuit.LongEnough.{Line, answered_in}

-- An octet a millisecond, none in transit, eight octets in a content at most and two control frames: an answer takes 72 octet times at most.
-- T203 of the end that calls runs for 20 milliseconds.
abbrev small : Config → Config
small c = record c { control = 2; n201 = 8 }

abbrev pub its_line : Line
its_line = record {
  near = small wire.user;
  far = small wire.network;
  near_line = 0;
  far_line = 0;
  tei = 0;
  service = Call;
  lengths = record { t200 = 73; t203 = 20; t201 = 73; t202 = 146 };
  far_lengths = record { t200 = 73; t203 = 1000; t201 = 73; t202 = 146 };
  rate = 1;
  way = 0;
}

at_most : answered_in its_line.near its_line.far its_line.way ≡ 72
at_most = refl

-- The call is established, and a content is sent, told and acknowledged. Then T203 falls due, 50 beats after the call began, and 17 beats
-- later the enquiry is answered.
abbrev pub sends : Beat
sends = record plain { near_asks = Data Call 0 (0xAB ∷ []) ∷ [] }

abbrev pub talks : List Beat
talks = replicate 13 plain ++ (sends ∷ replicate 35 plain)

abbrev pub asks : Clocked
asks = in_call its_line [] plain talks

-- What the law asks for, and what was told by then.
pub record Meets : Type 0 where
  pub well : GoesWell its_line [] plain (talks ++ replicate 17 plain)
  pub enquires : state_at its_line asks.near ≡ Some 8
  pub answered : state_at its_line (after 1 (replicate 17 plain) asks).near ≡ Some 7
  pub told : contents_at asks.far ≡ (0xAB ∷ []) ∷ []

abbrev pub AnEnquiryMeetsIt : Type 0
AnEnquiryMeetsIt = Meets
