-- What holds of counters. Their sentences stand in `src/laws.rt`.
use Rattle.std.specs.Prelude.{◌≡◌, ◌+◌, ◌≤◌, List, length, get_or, min}
use Rattle.lapd_frame.specs.declared.controls.Control.{Control}
use Rattle.lapd_frame.specs.declared.controls.Control.TheVariants as control
use Rattle.lapd_frame.specs.Grammar.{row}
use Rattle.lapd_count.specs.declared.counter.Counter.{Counter}
use Rattle.lapd_count.specs.declared.counters.Counters.{Counters}
use Rattle.lapd_count.specs.declared.kinds.Kind.{Kind}
use Rattle.lapd_count.specs.declared.kinds.Kind.TheVariants as kind
use Rattle.lapd_count.specs.Counters.{More, count, most, place, value_in, with_all, amount_in}
use Rattle.lapd_count.specs.Kinds.{kind_of}

abbrev pub CountersAreNumbers : Type 0
CountersAreNumbers =
    (counters : Counters) (all : List More) (counter : Counter) → length counters.values ≡ count → value_in counters counter ≤ most
    → value_in (with_all counters all) counter ≡ min (value_in counters counter + amount_in counter all) most

-- No two counters stand at one place, so to compare places is to compare names.
abbrev pub PlacesAreNames : Type 0
PlacesAreNames = (one other : Counter) → place one ≡ place other → one ≡ other

abbrev pub control_kind : Control → Kind
control_kind (control.Information ns nr pf) = kind.Information
control_kind (control.ReceiveReady nr pf) = kind.ReceiveReady
control_kind (control.ReceiveNotReady nr pf) = kind.ReceiveNotReady
control_kind (control.Reject nr pf) = kind.Reject
control_kind (control.Sabme pf) = kind.Sabme
control_kind (control.Disc pf) = kind.Disc
control_kind (control.Ui pf) = kind.Ui
control_kind (control.Ua pf) = kind.Ua
control_kind (control.Dm pf) = kind.Dm
control_kind (control.Frmr pf) = kind.Frmr
control_kind (control.Xid pf) = kind.Xid

abbrev pub ControlsHaveKinds : Type 0
ControlsHaveKinds = (c : Control) → kind_of (get_or (row c).field 0 0) ≡ control_kind c
