-- Two cards on one wire at which anything happens, and the order of what is told there.
pub mod AnySteps
pub mod Order
pub mod Release
pub mod InTheEnd
pub mod Worked
pub mod WorkedRelease
pub mod WorkedInTheEnd
pub mod WorkedBroken
pub mod circuit
pub mod teis
