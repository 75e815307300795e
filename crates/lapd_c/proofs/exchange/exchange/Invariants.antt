-- So many steps were made, and none had anything to tell.
use Rattle.lapd_c.proofs.Vocabulary.{◌≡◌, ℕ, ◌+◌, ◌<◌, ◌≤◌, length, OctetCard, AnyStands, with_ports, AllQuiet}
use Rattle.lapd_card.specs.Kinds.{kind_of, line_count}
use Rattle.lapd_timed.specs.Called.{keeps_timers}
use Rattle.model_card.specs.declared.kinds.CardKind.TheVariants as kinds
use Rattle.lapd_c.proofs.Exchanging.{Made}
use Rattle.lapd_c.proofs.exchange.exchange.Given as goal

abbrev pub invariant-loop-step : goal.invariant-loop-step
invariant-loop-step l = record {
  kind : kind_of l.timed.card ≡ kinds.Octets;
  line : l.line < line_count l.timed.card;
  timed : keeps_timers l.timed ≡ keeps_timers l.initial.timed;
  lengths : length l.given ≡ length l.taken;
  bound : l.step ≤ l.end;
  made : (n : ℕ) × (l.step ≡ l.initial.steps + n) × ((m : OctetCard) → AnyStands l.initial.timed.card (with_ports m)
      → Made l.line l.taken l.initial.steps m l.initial.timed n l.timed l.initial.given l.given × AllQuiet l.line l.taken l.initial.steps n m);
}
