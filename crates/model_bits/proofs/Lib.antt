-- Lemmas: bits and stuffing; the frame check; what is heard at a place and over bits; the round trip.
pub mod Vocabulary
pub mod BitLemmas
pub mod Division
pub mod StuffingCounted
pub mod StuffingShape
pub mod StuffingOctets
pub mod StuffingLengths
pub mod Places
pub mod Hearing
pub mod Quiet
pub mod FlagPlaces
pub mod OneEvent
pub mod StreamLengths
pub mod Items
pub mod RoundTripPlaces
pub mod RoundTripFrame
