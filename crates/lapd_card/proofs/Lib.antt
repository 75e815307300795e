-- Lemmas: one line of a card in a call; one port of a card of octets; what drive has done and counted; rooms; a card of either kind; saves
-- (PutLines, SavedLines) and restores (Configs, ReadMembers, ReadLines, ReadCounters, Restored, KindsRestored).
pub mod Vocabulary
pub mod Served
pub mod Waiting
pub mod OneLine
pub mod OneEvent
pub mod Begins
pub mod Headline
pub mod Amounts
pub mod Counting
pub mod Taken
pub mod OnePort
pub mod OneOctet
pub mod OctetsBegin
pub mod OctetHeadline
pub mod OctetAmounts
pub mod OctetsTaken
pub mod Kinded
pub mod ReadLines
pub mod ReadMembers
pub mod ReadCounters
pub mod Restored
pub mod Configs
pub mod PutLines
pub mod SavedLines
pub mod KindsRestored
