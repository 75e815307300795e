-- The bits of a line. Read in this order: Bits, Stuffing, Check, Stream (what is heard in a line's bits) and Sent (what
-- goes out); then OpenGap, Heads, Heard and Framer, what a deframer and a framer stand for; and the laws, CheckLaws,
-- StuffingLaws, StreamLaws, FlagLaws and RoundTrip. The definitions go bit by bit over whole lists and know no register,
-- counter or buffer.
pub mod Bits
pub mod Stuffing
pub mod StuffingLaws
pub mod Check
pub mod CheckLaws
pub mod Stream
pub mod StreamLaws
pub mod FlagLaws
pub mod Sent
pub mod OpenGap
pub mod Heads
pub mod Heard
pub mod Framer
pub mod RoundTrip
