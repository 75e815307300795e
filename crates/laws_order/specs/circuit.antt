-- Two cards of octets on one circuit, and worked values of them.
pub mod Circuit
pub mod Through
pub mod Beats
pub mod Worked
pub mod WorkedCall
pub mod Damaged
pub mod Mixed
pub mod MixedCall
pub mod Resting
pub mod WorkedDamaged
pub mod WorkedMixed
