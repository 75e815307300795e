-- The table of kinds has the kind of each octet.
use Rattle.lapd_count.proofs.Vocabulary.{◌≡◌, ℕ, ◌<◌, get_or, map, refl, ap, ◌∙◌, arith, range_with_len, get_or-map-range_with_len, kind_of, Kind, KINDS}
use Rattle.lapd_frame.specs.Reading.{control_of, supervisory_of, unnumbered_of}

table_is : KINDS ≡ map kind_of (range_with_len 0 256)
unfolding control_of supervisory_of unnumbered_of
table_is = refl

pub kind_at : (octet : ℕ) (none : Kind) → octet < 256 → get_or KINDS octet none ≡ kind_of octet
kind_at octet none small =
    ap (λ t. get_or t octet none) table_is
    ∙ get_or-map-range_with_len kind_of 0 256 octet octet none small (omega arith)
