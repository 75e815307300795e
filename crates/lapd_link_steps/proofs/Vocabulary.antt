-- The words with which the proofs of this crate speak, from where they are defined.
pub use Rattle.std.proofs.Common.{Bool, IsTrue, List, MatchOption, None, Option, Some, [], ap, arith, cond, drop, eqb, false, get_or, inl, inr, length, min, not, refl, subst, suc, sym, take, true, true≢false, zero, zero-add, ℕ, ◌*◌, ◌+◌, ◌-◌, ◌<◌, ◌∙◌, ◌∷◌, ◌≡◌, ◌≤◌, ◌⊎◌, ◌&&◌, ◌||◌, is_some}
pub use Rattle.std.proofs.Math.Nat.{min-eq_left, min-eq_right}
pub use Rattle.std.proofs.Math.Seq.{take-length}
pub use Rattle.std.proofs.lemmas.Bool.{cases_lt, eqb-false, eqb-true, eq-eqb, le-ltb, lt-ltb}
pub use Rattle.std.proofs.lemmas.Bool.Decides.{eqb_tells}
pub use Rattle.std.proofs.lemmas.List.{drop-drop, drop_all, length-drop, length-take}
pub use Rattle.std.proofs.lemmas.List.Sums.{sum_by-cons, sum_by_more}
pub use Rattle.std.proofs.lemmas.Option.{slice_get-get_or}
pub use Rattle.std.specs.List.{slice_get}
pub use Rattle.std.specs.Prelude.{sum_by}
pub use Rattle.circular_buffer.specs.Buffer.{Buffer, buffer}
pub use Rattle.lapd_frame.specs.Grammar.{spelling}
pub use Rattle.lapd_frame.specs.Reading.{start_of}
pub use Rattle.lapd_frame.specs.declared.addresses.Side.TheVariants.{Network}
pub use Rattle.lapd_frame.specs.declared.controls.Control.{Control}
pub use Rattle.lapd_frame.specs.declared.controls.Control.TheVariants.{Disc, Dm, Information, Reject, Sabme, Ua}
pub use Rattle.lapd_frame.specs.declared.notes.Note.{Note}
pub use Rattle.lapd_link_steps.specs.Does.{Agrees, Does, DoesBy}
pub use Rattle.lapd_link_steps.specs.Done.{Gives, Rests, Took, past_at}
pub use Rattle.lapd_link_steps.specs.Reports.{IsClear}
pub use Rattle.lapd_link_steps.specs.Parts.{effect_of, particulars, renewed}
pub use Rattle.lapd_link_steps.specs.Past.{Fits, Past, course_of, if_told, link_of, past_of}
pub use Rattle.lapd_link_steps.specs.declared.entity.Entity.{Entity}
pub use Rattle.lapd_link_steps.specs.declared.offers.Given.{Given}
pub use Rattle.lapd_link_steps.specs.declared.states.multiple_frame.Bearer.TheVariants.{Rej, Rnr}
pub use Rattle.lapd_link_steps.specs.declared.report.BareReport.{BareReport}
pub use Rattle.lapd_seq.specs.Circle.{IsNamed, named}
pub use Rattle.lapd_seq.specs.Numbers.{seq}
pub use Rattle.lapd_seq.specs.Windows.{WindowStands}
pub use Rattle.lapd_seq.specs.declared.numbers.Seq.{Seq}
pub use Rattle.model_link.specs.Established.{unsolicited}
pub use Rattle.model_link.specs.Link.{Link, frame_of, has_outstanding, is_asked, is_owed, is_own_busy, is_peer_busy, is_rejecting, may_repeat, queue_of}
pub use Rattle.model_link.specs.Machine.{expired_in, frame_in, given, given_of, malformed_in, told_of_clearing}
pub use Rattle.model_link.specs.MultipleFrame.{failed, long_unit_in_7_8}
pub use Rattle.model_link.specs.Offers.{give_information, is_awaiting_acknowledgement, is_pending, may_send_information, offer_among, offer_step, send_acknowledgement, send_information, with_one_sent}
pub use Rattle.model_link.specs.Requests.{establish_in, release_in}
pub use Rattle.model_link.specs.Steps.{Course, Sent, Step, begun, by_bit, changed, depending_on, nothing, ◌then◌}
pub use Rattle.model_link.specs.Words.{acknowledge, begin_anew, by_number, command, deliver_unit, leave_unserved, malformed, pending_is, start}
pub use Rattle.model_link.specs.declared.frames.ControlFrame.{ControlFrame}
pub use Rattle.model_link.specs.declared.states.State.{State}
pub use Rattle.model_link.specs.declared.states.State.TheVariants.{AwaitingEstablishment, AwaitingRelease, Established, TeiAssigned, TimerRecovery}
pub use Rattle.model_link.specs.declared.terms.Terms.{Terms}
pub use Rattle.model_link.specs.declared.timers.LinkTimer.{LinkTimer}
pub use Rattle.model_link.specs.declared.timers.LinkTimer.TheVariants.{T200, T203}
