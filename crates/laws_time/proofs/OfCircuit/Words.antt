-- The words of an end and of its beats, with which the laws of the circuit are proved.
pub use Rattle.laws_time.proofs.Moments.{is_own_t200, lengths-stay, now-stays, own-same, own-timer}
pub use Rattle.laws_time.proofs.Links.{state-is, stays-on, there, view-then}
pub use Rattle.laws_time.proofs.OctetsMean.{event-inside, frame_steps, inside, meant_at, notes-are, orders-are, prompt-inside, steps-inside}
pub use Rattle.laws_time.proofs.OfCircuit.Ends.{Leads, Rests, all-obeyed, at_time, both-lead, both-prompt, comes-both, comes-keep, div-stays, ends-are-timed-cards, falls-keep, first-of, fold-keeps, leads-both, long, rest-of, time-comes, weaker}
pub use Rattle.laws_time.proofs.OfCircuit.Sender.{Fine, Sends, Took, asks, given-short, its-frame, last-is, out, own-frame, sends-later, text, text_length}
pub use Rattle.laws_time.proofs.OfCircuit.Standing.{Ends, IsOwn, Moved, Pulled, asked-told, bare, ends-asked, ends-expired, expired-event, expired-reply, fine, heard-dropped, heard-event, heard-frame, heard-none, pulls}
pub use Rattle.laws_time.proofs.OfCircuit.Orders.{RunsOurs, awaits-in, of-link, of-timer}
pub use Rattle.laws_time.proofs.OfCircuit.Open.{IsOrdinary, half, ring, short-text, stuffed-longest, text-kind, waiting-then}
pub use Rattle.laws_time.proofs.OfCircuit.Under.{EndBut, EndOk, Goes, all-both, all-keep, all-past, all-then, asks-goes, but-gone, clock-is, fell-goes, goes-both, goes-none, gone, here-is, next-card, o-is, past, soon-then, state-here, still-runs, t200-there}
pub use Rattle.laws_time.proofs.OfCircuit.Beats.{Counts, Gone, at-moment, same-received}
pub use Rattle.laws_time.proofs.OfCircuit.LongEnough.{Pair, all-pairs, begins_of, clear-keeps, clear-parts, due-is, far-comes, far-gone, far-high, far-low, fit-turned, in-all, long-ago, near-comes, near-gone, near-high, near-in-all, near-low, none-ordered, pair-begins, pair-later, pair-then, pair-turned, port-is, ran-begun, soon, station-is, turned_beat, turned_line, turned_world, way-is}
