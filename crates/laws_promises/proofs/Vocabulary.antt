-- The words of std and of the crates below with which the proofs of this crate speak, from where they are defined.
pub use Rattle.std.proofs.Common.{Bool, List, [], ap, arith, cond, false, get_or, length, map, refl, subst, sym, take, true, ℕ, ◌*◌, ◌+◌, ◌<◌, ◌∙◌, ◌∷◌, ◌≡◌, ◌≤◌}
pub use Rattle.std.proofs.Math.Nat.{mul-le-mul_left}
pub use Rattle.std.proofs.lemmas.Bool.{leb-true}
pub use Rattle.std.proofs.lemmas.List.Elements.{All-cons, All-head, All-map, All-nil, All-tail, All-take, All-weaker}
pub use Rattle.std.proofs.lemmas.List.Sums.{sum_by-cons}
pub use Rattle.std.specs.Prelude.{All, count_by, option_map}
pub use Rattle.lapd_frame.specs.declared.timers.Order.{Order}
pub use Rattle.laws_line.proofs.OfCard.Brief.{others-stay}
pub use Rattle.laws_line.proofs.OfCard.Wherever.{come-to-an-end}
pub use Rattle.laws_line.specs.card.PromisesOfTakes.{CallsComeToAnEnd, Wherever}
pub use Rattle.model_bits.specs.declared.heard.Cause.TheVariants.{Short}
pub use Rattle.model_card.proofs.Amortised.{frames_amortised, rejects_are_long}
pub use Rattle.model_card.proofs.OfPorts.Codec.{asked_at, refines, said_is}
pub use Rattle.model_card.proofs.OfPorts.Reaching.{frames_reached}
pub use Rattle.model_card.proofs.Reaching.{reached-sound}
pub use Rattle.model_card.specs.Card.{Card}
pub use Rattle.model_card.specs.Counts.{accepted, expired, heard, long_heard, may_send, rejected, sent, window}
pub use Rattle.model_card.specs.Machine.{after, answer}
pub use Rattle.model_card.specs.Run.{IsAtLine, Moment, after_all, one_more, run}
unfoldable pub use Rattle.model_card.specs.Run.{moments}
pub use Rattle.model_card.specs.Sound.{IsSound}
pub use Rattle.model_card.specs.ports.Card.{OctetCard}
pub use Rattle.model_card.specs.ports.Port.{Port, left_of, pulled}
pub use Rattle.model_card.specs.ports.Run.{meant_all}
pub use Rattle.model_line.specs.Came.{came}
pub use Rattle.model_line.specs.Counts.{hears_frame, hears_long_frame, is_frame, is_long_frame}
pub use Rattle.std.proofs.lemmas.List.{length-map, take_all}
pub use Rattle.std.proofs.lemmas.Option.{slice_get-get_or}
pub use Rattle.model_card.specs.Counted.{all_counted, moment_counted, moment_of}
pub use Rattle.lapd_card.specs.Counted.{counters_in}
pub use Rattle.lapd_card.specs.FrameStands.{Leads, FrameStands}
pub use Rattle.lapd_card.specs.Sink.{Taken}
pub use Rattle.model_card.proofs.Fold.{run_is_moments}
pub use Rattle.model_card.proofs.Refusals.{refused_by_the_table}
pub use Rattle.model_line.specs.declared.config.Config.{Config}
