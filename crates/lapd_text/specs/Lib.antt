-- What octets say in words. Read Shown first.
pub mod Shown
pub mod Messages
pub mod Told
pub mod Named
pub mod Worked
-- the words of the contracts, from where they are defined
pub use Rattle.hex.specs.Hex.{encode_upper}
pub use Rattle.lapd_frame.specs.Grammar.{parts_of}
pub use Rattle.lapd_text.specs.Shown.{fields, head_text, joined, number_text, octets_text, shown_text}
pub use Rattle.lapd_text.specs.Messages.{meaning_text, message_text, name_of, words_of}
pub use Rattle.lapd_text.specs.Told.{IsPutIn, digit_count, fault_text, told_text}
