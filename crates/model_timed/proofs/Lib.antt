-- Lemmas: what orders make of a clock (Orders), that timers keep their lengths (Changing) and are true (True), what
-- an event of octets means to them (OctetsRun), and which run (Running, RunTheSame);
-- and what is noted of links (Marking).
pub mod Orders
pub mod Changing
pub mod True
pub mod Running
pub mod OctetsRun
pub mod RunTheSame
pub mod Marking
