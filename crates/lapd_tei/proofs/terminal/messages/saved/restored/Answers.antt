-- Hand-written answers for `Message::restore`.
use Rattle.std.proofs.Common.{◌≡◌, ◌<◌, ℕ, List, ◌++◌, length, refl, sym, ap, ◌∙◌, subst}
use Rattle.std.specs.Prelude.{All}
use Rattle.lapd_image.specs.Reads.{HasNone}
use Rattle.lapd_image.proofs.Reading.{front-read}
use Rattle.model_teis.specs.terminal.Image.{IsOfOctets}
use Rattle.model_teis.specs.declared.terminal.messages.Message.{Message}
use Rattle.model_teis.specs.declared.terminal.messages.Message.TheVariants.{IdentityRequest, IdentityCheckResponse, IdentityVerify}
use Rattle.model_teis.specs.terminal.Messages.{information_of}
use Rattle.lapd_tei.proofs.terminal.messages.saved.restored.Goals as goal

five : (message : Message) → length (information_of message) ≡ 5
five (IdentityRequest ri) = refl
five (IdentityCheckResponse ri tei) = refl
five (IdentityVerify tei) = refl

-- five octets that are no message are not those of one
no_message : (front octets left : List ℕ) → length octets ≡ 5 → front ≡ octets ++ left → ((message : Message) → octets ≡ information_of message → ⊥) → HasNone information_of IsOfOctets front
no_message front octets left size read none message rest saved e =
    none message (front-read octets (information_of message) left rest (size ∙ sym (five message)) (sym read ∙ e)).0

pub returns-in-Some-clause-read : goal.returns-in-Some-clause-read
returns-in-Some-clause-read c = record {
  saved = subst (All (λ octet. octet < 256)) c.in-Some.ensures.one c.in_ok-information.ensures.range;
  octets = c.in_ok-information.ensures.read ∙ ap (λ l. l ++ c.octets.new.self) c.in-Some.ensures.one;
}

pub returns-in-None-clause-none : goal.returns-in-None-clause-none
returns-in-None-clause-none c =
    no_message _ _ _ c.in_ok-information.ensures.count c.in_ok-information.ensures.read c.in-None.ensures.none
