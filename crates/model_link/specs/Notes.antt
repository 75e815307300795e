-- Notes of data, and whose a note is.
use Rattle.std.specs.Prelude.{◌≡◌, Bool, true, false}
use Rattle.lapd_frame.specs.declared.notes.Note.{Note}
use Rattle.lapd_frame.specs.declared.notes.Note.TheVariants.{EstablishIndication, EstablishConfirm, ReleaseIndication, ReleaseConfirm, Data, Unit, Error, Assigned, Removed, Doubled, Denied, Unassigned, RemoveAll, Xid}
use Rattle.model_link.specs.declared.terms.Terms.{Terms}

-- Whether a note says that contents are delivered.
abbrev pub is_data : Note → Bool
is_data (Data service tei) = true
is_data other = false

-- Whether it says that unit data is told.
abbrev pub is_unit : Note → Bool
is_unit (Unit service tei) = true
is_unit other = false

-- A note of a link names its service and its TEI, and is none of TEI management.
abbrev pub IsOwn : Terms → Note → Type 0
IsOwn t (EstablishIndication service tei) = (service ≡ t.service) × (tei ≡ t.tei)
IsOwn t (EstablishConfirm service tei) = (service ≡ t.service) × (tei ≡ t.tei)
IsOwn t (ReleaseIndication service tei) = (service ≡ t.service) × (tei ≡ t.tei)
IsOwn t (ReleaseConfirm service tei) = (service ≡ t.service) × (tei ≡ t.tei)
IsOwn t (Data service tei) = (service ≡ t.service) × (tei ≡ t.tei)
IsOwn t (Unit service tei) = (service ≡ t.service) × (tei ≡ t.tei)
IsOwn t (Error service tei code) = (service ≡ t.service) × (tei ≡ t.tei)
IsOwn t (Assigned tei) = ⊥
IsOwn t (Removed tei) = ⊥
IsOwn t (Doubled tei) = ⊥
IsOwn t Denied = ⊥
IsOwn t Unassigned = ⊥
IsOwn t RemoveAll = ⊥
IsOwn t (Xid service tei) = (service ≡ t.service) × (tei ≡ t.tei)
