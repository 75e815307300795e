-- The definitions by which the contracts of this crate are stated.
pub mod Reports
pub mod Quiet
pub mod Past
pub mod Does
pub mod Parts
pub mod Done
pub mod Image
-- the words of the contracts, from where they are defined
pub use Rattle.lapd_frame.specs.Grammar.{spelling}
pub use Rattle.lapd_frame.specs.Reading.{start_of}
pub use Rattle.lapd_frame.specs.declared.addresses.Side.TheVariants.{Network}
pub use Rattle.lapd_frame.specs.declared.controls.Control.TheVariants.{Dm, Ua}
pub use Rattle.lapd_seq.specs.Circle.{IsNamed, IsValid, named}
pub use Rattle.lapd_seq.specs.Windows.{WindowStands, outstanding_of, va_of, vs_of}
pub use Rattle.model_link.specs.Link.{Link, frame_of, queue_of}
pub use Rattle.model_link.specs.Machine.{cleared_step, expire_running, expired_step, frame_step, given}
pub use Rattle.model_link.specs.Steps.{changed}
pub use Rattle.model_link.specs.Told.{runs}
pub use Rattle.model_link.specs.Words.{begin_anew, by_number}
pub use Rattle.model_link.specs.declared.frames.ControlFrame.{ControlFrame}
pub use Rattle.model_link.specs.declared.terms.Terms.{Terms}
pub use Rattle.lapd_link_steps.specs.Does.{Adds, Changes, DoesBy, HasRoom, Tells}
pub use Rattle.lapd_link_steps.specs.Done.{Gives, IsFresh, Rests, given_of}
pub use Rattle.lapd_link_steps.specs.Parts.{awaiting, effect_of, established_by_state, malformed_by_state, particulars, released_by_state, renewed, supervisory, told_of_clearing_by_state, told_of_establishment}
pub use Rattle.lapd_link_steps.specs.Past.{Fits, link_of}
pub use Rattle.lapd_link_steps.specs.Quiet.{IsQuiet}
pub use Rattle.lapd_link_steps.specs.Reports.{IsClear, cause_in, counting, delivered_in, has_contents}
pub use Rattle.lapd_link_steps.specs.declared.entity.Entity.{Entity}
pub use Rattle.lapd_link_steps.specs.declared.report.BareReport.{BareReport}
