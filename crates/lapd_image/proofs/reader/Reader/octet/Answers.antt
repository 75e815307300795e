-- Hand-written answers for `Reader::octet`: what is left are octets.
use Rattle.std.proofs.Common.{◌<◌, subst}
use Rattle.std.specs.Prelude.{All}
use Rattle.std.proofs.lemmas.List.Elements.{All-tail}
use Rattle.lapd_image.proofs.reader.Reader.octet.Goals as goal

pub invariant_of-self : goal.invariant_of-self
invariant_of-self c =
    All-tail (λ octet. octet < 256) _ _ (subst (All (λ octet. octet < 256)) c.in-Some.ensures.cases.0 c.self.invariant)
