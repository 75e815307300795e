-- The frames of a link, as an observer of its line reads them.
use Rattle.std.specs.Prelude.{ℕ, ◌==◌, ◌&&◌, ◌||◌, not, nat_lt, Bool, true, false, List, length, slice_index, Option, Some, None, Result, Ok, Err, if◌then◌else◌}
use Rattle.std.specs.Option.{option_map_or, option_and_then}
use Rattle.std.specs.Result.{result_ok, result_err}
use Rattle.model_bits.specs.Stream as stream
use Rattle.lapd_frame.specs.declared.addresses.Address.{Address}
use Rattle.lapd_frame.specs.declared.faults.ReadFault.{ReadFault}
use Rattle.lapd_frame.specs.declared.faults.ReadFault.TheVariants.{Undefined, WrongSize}
use Rattle.lapd_frame.specs.declared.notes.ErrorCode.{ErrorCode}
use Rattle.lapd_frame.specs.declared.notes.ErrorCode.TheVariants.{L, N, O}
use Rattle.lapd_frame.specs.declared.overlong.Long.{Long}
use Rattle.lapd_frame.specs.declared.overlong.Long.TheVariants as long
use Rattle.lapd_frame.specs.declared.senders.Sender.{Sender}
use Rattle.lapd_frame.specs.declared.services.Service.{Service}
use Rattle.lapd_frame.specs.Grammar.{Parts}
use Rattle.lapd_frame.specs.Readings.{by_reading}
use Rattle.lapd_frame.specs.Senders.{reading, long_reading}
use Rattle.lapd_frame.specs.Services.{sapi_of}
use Rattle.model_line.specs.declared.config.Config.{Config}
use Rattle.model_line.specs.Event as line_event
use Rattle.model_line.specs.Event.{hears}
use Rattle.model_line.specs.Taken.{own_side}
use Rattle.model_line.specs.Heard.{heard_side}
use Rattle.laws_trace.specs.Units.{is_ui}

-- A frame that is heard, as the grammar reads it; it is for the link of a service with a TEI by its address (Q.921
-- clauses 3.2 and 3.3).
abbrev pub is_for : Service → ℕ → Address → Bool
is_for service tei address = address.sapi == sapi_of service && address.tei == tei

-- Octets are read as a frame of a sender, of which this holds.
abbrev pub reads : Sender → (Parts → Bool) → List ℕ → Bool
reads sender holds octets = option_map_or holds (result_ok (reading sender octets)) false

abbrev pub frame_of : Config → stream.Event → Option Parts
frame_of c (stream.frame octets) = result_ok (reading (heard_side c) octets)
frame_of c other = None

abbrev pub its_frame : Service → ℕ → Option Parts → Option Parts
its_frame service tei None = None
its_frame service tei (Some f) = if is_for service tei f.address then Some f else None

-- The one that an event brings.
abbrev pub brought : Config → Service → ℕ → line_event.Event → Option Parts
brought c service tei (hears e) = its_frame service tei (frame_of c e)
brought c service tei other = None

-- Rows that hold by annex B, and not in the profile.
abbrev pub is_annex_b : Config → Bool
is_annex_b c = by_reading c.reading false true

-- One with more than N201 octets of information is too long, but for UI in the profile (clauses 3.6.11 and 5.8.5).
abbrev pub is_too_long : Config → Parts → Bool
is_too_long c f = (not (is_ui f.control) || is_annex_b c) && nat_lt c.n201 (length f.info)

-- A malformed one, by the letter of its error: a frame that the grammar does not have, one of wrong size, and an I-frame that
-- was too long to keep, or by annex B a UI, which the third octet tells (clause 5.8.5, table 5 and appendix II).
abbrev pub fault_of : Service → ℕ → ReadFault → Option ErrorCode
fault_of service tei (Undefined address) = if is_for service tei address then Some L else None
fault_of service tei (WrongSize address) = if is_for service tei address then Some N else None
fault_of service tei other = None

abbrev pub begins_ui : List ℕ → Bool
begins_ui head = slice_index head 2 == 0x03 || slice_index head 2 == 0x13

abbrev pub faulty_long : Bool → Service → ℕ → Result Long ReadFault → Option ErrorCode
faulty_long ui service tei (Ok (long.Information address)) = if is_for service tei address then Some O else None
faulty_long ui service tei (Ok (long.Unnumbered address)) = if ui && is_for service tei address then Some O else None
faulty_long ui service tei (Err fault) = fault_of service tei fault

abbrev pub malformed : Config → Service → ℕ → stream.Event → Option ErrorCode
malformed c service tei (stream.frame octets) = option_and_then (fault_of service tei) (result_err (reading (heard_side c) octets))
malformed c service tei (stream.overlong head) = faulty_long (is_annex_b c && begins_ui head) service tei (long_reading (heard_side c) head)
malformed c service tei (stream.dropped cause) = None

-- A frame that begins is one of the link, and no unit data.
abbrev pub is_frame_of : Config → Service → ℕ → List ℕ → Bool
is_frame_of c service tei octets = option_map_or (λ (f : Parts). not (is_ui f.control)) (its_frame service tei (result_ok (reading (own_side c) octets))) false
