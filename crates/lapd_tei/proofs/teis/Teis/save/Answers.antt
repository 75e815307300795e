-- Hand-written answers for `Teis::save`.
use Rattle.std.proofs.Common.{ap, refl, subst}
use Rattle.lapd_image.proofs.Puts.{puts-same, puts-then}
use Rattle.model_teis.specs.network.Image.{IsSavedOf, image}
use Rattle.lapd_tei.proofs.teis.Teis.save.Goals as goal

pub returns : goal.returns
returns c = record {
  puts =
      puts-same (ap image c.self.view_is)
      (puts-then c.save-end.ensures (puts-then c.save-end-2.ensures.puts (puts-then c.save-end-3.ensures (puts-then c.save-end-4.ensures c.save.ensures.puts))));
  saved =
      subst (λ m. IsSavedOf m m) c.self.view_is
      (record { saved = record { sound = c.self.invariant; remembered = c.save-end-2.ensures.saved; messages = c.save.ensures.saved }; reading = refl; places = refl });
}
