-- Which SAPI a service has on a line.
use Rattle.std.specs.Prelude.{◌≡◌, ℕ, ◌/◌, ◌==◌, List, slice_index, Option, Some, None, Result, Ok, Err, IfSome}
use Rattle.lapd_frame.specs.declared.addresses.Address.{Address}
use Rattle.lapd_frame.specs.declared.faults.ReadFault.{ReadFault}
use Rattle.lapd_frame.specs.declared.faults.ReadFault.TheVariants.{Undefined, WrongSize}
use Rattle.lapd_frame.specs.declared.overlong.Long.{Long}
use Rattle.lapd_frame.specs.declared.overlong.Long.TheVariants as long
use Rattle.lapd_frame.specs.Grammar.{Parts}
use Rattle.lapd_frame.specs.Senders.{reading, long_reading}
use Rattle.model_line.specs.declared.config.Config.{Config}
use Rattle.model_line.specs.Heard.{heard_side}
use Rattle.model_line.specs.Sound.{IsInRange}
use Rattle.model_line.specs.Taken.{own_side}

-- The SAPI of a frame: the six upper bits of its first octet (Q.921 clauses 3.2 and 3.3.1).
abbrev pub sapi_in : List ℕ → ℕ
sapi_in octets = slice_index octets 0 / 4

-- As frames are read, 0 in an address names call control, 16 the second service, and 63 layer 2 management. These are exactly
-- the frames with SAPI 0, with the SAPI of the configuration, and with SAPI 63 (clause 3.3.3, table 2, and profile).
pub record IsNamed (c : Config) (octets : List ℕ) (a : Address) : Type 0 where
  pub call : (a.sapi == 0) ≡ (sapi_in octets == 0)
  pub packet : (a.sapi == 16) ≡ (sapi_in octets == c.sapi)
  pub management : (a.sapi == 63) ≡ (sapi_in octets == 63)

-- A frame that the grammar does not have has an address, too, if it is not too short and its extension bits are right; and one that
-- is too long to keep.
abbrev pub address_in : ReadFault → Option Address
address_in (Undefined a) = Some a
address_in (WrongSize a) = Some a
address_in other = None

abbrev pub address_of_long : Result Long ReadFault → Option Address
address_of_long (Ok (long.Information a)) = Some a
address_of_long (Ok (long.Unnumbered a)) = Some a
address_of_long (Err fault) = address_in fault

-- So it is of what a card hears, and of what begins on its lines.
pub record ServicesHaveTheirSapis : Type 0 where
  pub heard : (c : Config) (octets : List ℕ) (frame : Parts) → IsInRange c → reading (heard_side c) octets ≡ Ok frame → IsNamed c octets frame.address
  pub sent : (c : Config) (octets : List ℕ) (frame : Parts) → IsInRange c → reading (own_side c) octets ≡ Ok frame → IsNamed c octets frame.address
  pub malformed : (c : Config) (octets : List ℕ) (fault : ReadFault) → IsInRange c → reading (heard_side c) octets ≡ Err fault → IfSome (address_in fault) (IsNamed c octets)
  pub long : (c : Config) (head : List ℕ) → IsInRange c → IfSome (address_of_long (long_reading (heard_side c) head)) (IsNamed c head)
