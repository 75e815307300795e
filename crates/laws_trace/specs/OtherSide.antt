-- Whose frames a card hears, and whose it sends.
use Rattle.std.specs.Prelude.{◌≡◌, ℕ, ◌/◌, ◌%◌, ◌==◌, List, slice_index, Ok}
use Rattle.lapd_frame.specs.declared.addresses.Side.TheVariants.{Network, User}
use Rattle.lapd_frame.specs.Grammar.{Parts}
use Rattle.lapd_frame.specs.Senders.{reading}
use Rattle.model_line.specs.declared.config.Config.{Config}
use Rattle.model_line.specs.Heard.{heard_side}
use Rattle.model_line.specs.Taken.{own_side}

-- The C/R bit of a frame: the second lowest bit of its first octet (Q.921 clause 3.3.2).
abbrev pub bit_in : List ℕ → ℕ
bit_in octets = slice_index octets 0 / 2 % 2

-- Commands that the network sends have C/R bit 1, and those that the user sends 0. So a card of the network's side hears
-- commands by 0, and one of the user's side by 1; and what begins is read the other way round (clause 3.3.2, table 1).
pub record TheOtherSideIsHeard : Type 0 where
  pub by_network : (c : Config) (octets : List ℕ) (frame : Parts) → c.side ≡ Network → reading (heard_side c) octets ≡ Ok frame → frame.address.command ≡ (bit_in octets == 0)
  pub by_user : (c : Config) (octets : List ℕ) (frame : Parts) → c.side ≡ User → reading (heard_side c) octets ≡ Ok frame → frame.address.command ≡ (bit_in octets == 1)
  pub of_network : (c : Config) (octets : List ℕ) (frame : Parts) → c.side ≡ Network → reading (own_side c) octets ≡ Ok frame → frame.address.command ≡ (bit_in octets == 1)
  pub of_user : (c : Config) (octets : List ℕ) (frame : Parts) → c.side ≡ User → reading (own_side c) octets ≡ Ok frame → frame.address.command ≡ (bit_in octets == 0)
