-- The image of a card.
--
-- Numbers and lists are those of lapd_image. Of its parts, the counters of a line have theirs beside their code, a link in
-- model_link, TEI management in model_teis, a line and the configuration in model_line. Read in this order: Clocks, the part that is of a card's
-- own timers; Images, the whole. Same says when two cards are the same, and Sound which are saved; Laws has what is proved, and
-- Restored what becomes of a card that is restored. The files Worked.. have images that compute.
pub mod Clocks
pub mod Images
pub mod Same
pub mod Sound
pub mod Laws
pub mod Restored
pub mod WorkedLinks
pub mod WorkedImages
