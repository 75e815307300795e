-- What the fields of a deframer and of a framer stand for, over the definitions of model_bits. A public call names
-- Deframer alone, and of Ended what its answers say; private calls name the others.
pub mod Register
pub mod Ended
pub mod Deframer
pub mod Steps
pub mod Unstuffer
pub mod FlagEnd
pub mod Stuffer
pub mod FramerText
pub mod Reading
pub mod FramerFields
