-- The definitions that the contracts of this crate cite.
pub mod Allowed
pub mod Faults
pub mod Grammar
pub mod Overlong
pub mod Reading
pub mod Readings
pub mod Senders
pub mod Services
pub mod ShortLists
-- the words of the contracts, from where they are defined
pub use Rattle.lapd_frame.specs.Allowed.{allowed}
pub use Rattle.lapd_frame.specs.Faults.{IsFault, is_short}
pub use Rattle.lapd_frame.specs.Grammar.{IsFrame, Parts, Spells, address_field, allows, cr_bit, one_of, other_side, parts_of, row, second_octet, spelling, takes}
pub use Rattle.lapd_frame.specs.Overlong.{IsLong, is_ui, is_unit}
pub use Rattle.lapd_frame.specs.Reading.{address_of, control_of, header_of, long_of, long_reading, outcome_of, reading, start_of, supervisory_of, unnumbered_of}
pub use Rattle.lapd_frame.specs.declared.addresses.Side.{Side}
pub use Rattle.lapd_frame.specs.declared.faults.ReadFault.{ReadFault}
