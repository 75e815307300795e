-- The kinds of frames, by the first octet of the control field (Q.921 clause 3.4, table 5).
use Rattle.std.specs.Option.{option_map_or}
use Rattle.std.specs.Prelude.{ℕ, Bool, List, [], ◌∷◌, get_or, nat_lt}
use denote.Enum.Declared.{tag_of}
use Rattle.lapd_frame.specs.contracts.controls.Control.{the_type as the_control}
use Rattle.lapd_frame.specs.declared.controls.Control.{Control}
use Rattle.lapd_frame.specs.Reading.{control_of}
use Rattle.lapd_count.specs.contracts.kinds.Kind.{the_type}
use Rattle.lapd_count.specs.declared.kinds.Kind.{Kind}
use Rattle.lapd_count.specs.declared.kinds.Kind.TheVariants.{Information, ReceiveReady, ReceiveNotReady, Reject, Sabme, Disc, Ui, Ua, Dm, Frmr, Xid, Undefined}

-- Those of the control fields of the grammar, in its order, and then what is none.
abbrev pub kinds : List Kind
kinds = Information ∷ ReceiveReady ∷ ReceiveNotReady ∷ Reject ∷ Sabme ∷ Disc ∷ Ui ∷ Ua ∷ Dm ∷ Frmr ∷ Xid ∷ Undefined ∷ []

abbrev pub kind_in_order : Control → Kind
kind_in_order control = get_or kinds (tag_of the_control control) Undefined

-- A frame is of the kind of its control field, whose first octet alone tells that.
abbrev pub kind_of : ℕ → Kind
kind_of octet = option_map_or kind_in_order (control_of octet 0) Undefined

-- Those whose commands with P=1 ask for an answer in states 7 and 8 are the first four: I, RR, RNR and REJ (clauses 3.4.1,
-- 3.4.2 and 3.5.1).
abbrev pub asks : Kind → Bool
asks kind = nat_lt (tag_of the_type kind) 4
