-- A timed card of frames, in the words of these proofs.
use Rattle.laws_time.proofs.Vocabulary.{Event, Expiry, Step, TimedCard, frames, ℕ}
use Rattle.model_timed.specs.Timed as timed

abbrev pub with_event : Event → TimedCard → TimedCard
with_event e t = timed.with_event frames e t

abbrev pub expiry_of : Expiry → Event
expiry_of x = timed.expiry_at frames x

abbrev pub with_expiry : TimedCard → Expiry → TimedCard
with_expiry t x = timed.with_expiry frames t x

abbrev pub IsPrompt : ℕ → Step Event → TimedCard → Type 0
IsPrompt late s t = timed.IsPrompt frames late s t
