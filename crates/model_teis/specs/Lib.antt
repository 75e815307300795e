-- The machines of TEI management.
--
-- Read in this order: Table, Changes, Told, Steps and Information, which both sides share; then one side, network or
-- terminal. Refused says how a refusal is found, TableImage what the table is in an image of its card.
pub mod Table
pub mod Changes
pub mod Told
pub mod Steps
pub mod Refused
pub mod Information
pub mod TableImage
pub mod network
pub mod terminal
