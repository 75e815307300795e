-- Which rows hold where readers of the standard differ.
pub use Rattle.lapd_frame.specs.declared.readings.Reading.{Reading}
pub use Rattle.lapd_frame.specs.declared.readings.Reading.TheVariants.{Profile, AnnexB}

-- The first in the profile, the second by annex B.
abbrev pub by_reading : {A : Type 0} → Reading → A → A → A
by_reading Profile profile annex_b = profile
by_reading AnnexB profile annex_b = annex_b
