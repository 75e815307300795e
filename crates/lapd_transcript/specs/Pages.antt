-- What a page stands for.
use Rattle.lapd_transcript.specs.declared.output.Page.{Page}
use Rattle.lapd_transcript.specs.Streams.{Taken, Output}

abbrev pub on : {T : Type 0} → (T → Taken) → Page T → Output
on taken page = record { taken = taken page.target.now; page = page.text.items; name = page.target.ghost_name }
