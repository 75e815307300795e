-- What a card does with what it is given and what it hears, and worked values of it and of its machine.
pub mod OneEvent
pub mod Promises
pub mod Timers
pub mod Laws
pub mod WorkedCard
pub mod Worked
pub mod WorkedTimers
pub mod Among
pub mod PromisesOfTakes
pub mod WaitingIsHeard
pub mod Brief
pub mod WorkedBroken
pub mod WorkedClauses
pub mod WorkedHeard
