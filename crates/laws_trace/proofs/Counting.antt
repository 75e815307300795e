-- When the numbers of a link begin, and how many contents were told since, by what is heard and noted.
use Rattle.laws_trace.proofs.Vocabulary.{ℕ, ◌+◌, ◌&&◌, not, Bool, true, false, List, [], ◌∷◌, Option, Some, None, if◌then◌else◌, list_any, Sabme, Ua, C, Note, Error, ReleaseConfirm, Service, Parts, Config, is_data_of, Control, frame_of, is_for, Seen, heard, trace_noted as noted}

-- Whoever watches the link of a service with a TEI keeps in mind the frame that was heard right before, as the grammar
-- reads it, and how many contents were told as data of the link since its numbers began.
pub record Watched : Type 0 where
  pub frame : Option Parts
  pub count : ℕ

abbrev pub nothing_yet : Watched
nothing_yet = record { frame = None; count = 0 }

-- The numbers begin with SABME that is told, and with UA with F=1 unless it is told as error C, or as the end of the link
-- (Q.921 clauses 5.5.1.2, 5.5.3.2, 5.7 and 5.8.7).
abbrev pub is_told : List Note → Bool
is_told [] = false
is_told (n ∷ ns) = true

abbrev pub is_end : Note → Bool
is_end (ReleaseConfirm service tei) = true
is_end (Error service tei C) = true
is_end other = false

abbrev pub begins_by : Control → List Note → Bool
begins_by (Sabme p) ns = is_told ns
begins_by (Ua f) ns = f && not (list_any is_end ns)
begins_by other ns = false

abbrev pub begins : Service → ℕ → Option Parts → List Note → Bool
begins service tei None ns = false
begins service tei (Some f) ns = is_for service tei f.address && begins_by f.control ns

abbrev pub counted : Service → ℕ → Watched → List Note → ℕ
counted service tei w ns =
    if begins service tei w.frame ns then 0 else if list_any (is_data_of service tei) ns then w.count + 1 else w.count

abbrev pub watch : Config → Service → ℕ → Watched → Seen → Watched
watch c service tei w (heard e) = record w { frame = frame_of c e }
watch c service tei w (noted ns contents) = record { frame = None; count = counted service tei w ns }
watch c service tei w other = record w { frame = None }
