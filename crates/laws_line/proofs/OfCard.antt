-- Lemmas.
pub mod Spelling
pub mod Hearing
pub mod TimersRun
pub mod OneEvent
pub mod Meanwhile
pub mod InOrder
pub mod Amid
pub mod Wherever
pub mod GoingOut
pub mod Brief
