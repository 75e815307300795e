-- How layer 3 learns that a link keeps nothing any more.
use Rattle.std.specs.Prelude.{◌≢◌, ℕ, ◌==◌, ◌&&◌, Bool, false}
use Rattle.lapd_frame.specs.declared.notes.Note.{Note}
use Rattle.lapd_frame.specs.declared.notes.Note.TheVariants as notes
use Rattle.lapd_frame.specs.declared.services.Service.{Service}
use Rattle.lapd_frame.specs.Services.{same_service}
use Rattle.model_line.specs.Line.{Line, place_at, tei_at}

-- An indication of an establishment, or an indication or a confirm of a release, of the link of a service with a TEI.
abbrev pub is_loss_of : Service → ℕ → Note → Bool
is_loss_of service tei (notes.EstablishIndication of by) = same_service of service && by == tei
is_loss_of service tei (notes.ReleaseIndication of by) = same_service of service && by == tei
is_loss_of service tei (notes.ReleaseConfirm of by) = same_service of service && by == tei
is_loss_of service tei other = false

-- or another TEI is at its place than before, or none, since its TEI has left the line, or a TEI has come to it.
abbrev pub IsMoved : ℕ → Line → Line → Type 0
IsMoved number before after = tei_at (place_at number) after ≢ tei_at (place_at number) before
