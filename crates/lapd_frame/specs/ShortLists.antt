-- What a short list holds.
use Rattle.std.specs.Prelude.{List, []}
use Rattle.lapd_frame.specs.declared.short_lists.ShortList.{ShortList}
use Rattle.lapd_frame.specs.declared.short_lists.ShortList.TheVariants.{None, One, Two, Three, Four}

-- its items, in order
abbrev pub listed : {T : Type 0} → ShortList T → List T
listed None = []
listed (One items) = items
listed (Two items) = items
listed (Three items) = items
listed (Four items) = items
