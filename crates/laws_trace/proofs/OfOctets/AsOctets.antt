-- As octets a frame that the grammar has is one that it has, with the same address and control field.
use Rattle.laws_trace.proofs.Vocabulary.{◌≡◌, ℕ, ◌%◌, ◌<◌, cond, List, [], ◌∷◌, ◌++◌, map, refl, sym, ap, ◌∙◌, arith, All, filter, map-append, All-head, All-tail, Address, Side, Parts, spelling, reading-again, Config, head, as_octets, Control, head_of, IsSpelled, is_unit, own_side, Sender, side_spelling, renamed, exchanged-small}
use Rattle.model_card.proofs.OfPorts.AsOctets.{as_many, exact}
use Rattle.laws_trace.proofs.Reading.{carries_unit}
use Rattle.lapd_frame.specs.Grammar.{row, takes}
use Rattle.lapd_frame.specs.Senders.{Spells}

-- A head is as it was.
sent : (side : Side) (a : Address) (c : Control) (info : List ℕ) → a.sapi < 64 → a.tei < 128
    → as_octets (side_spelling side (record { address = a; control = c; info = info })) ≡ side_spelling side (record { address = a; control = c; info = as_octets info })
sent side a c info sapi tei =
    map-append (λ n. n % 256) (head_of side a c) info ∙ ap (λ ns. ns ++ as_octets info) (exact (head_of side a c) (head side a c sapi tei))

sent_by : (sender : Sender) (a : Address) (c : Control) (info : List ℕ) → a.sapi < 64 → a.tei < 128
    → as_octets (spelling sender (record { address = a; control = c; info = info })) ≡ spelling sender (record { address = a; control = c; info = as_octets info })
sent_by sender a c info sapi tei = sent sender.side (renamed sender.sapi a) c info (exchanged-small sender.sapi a.sapi sapi) tei

abbrev parts_sent : Parts → Parts
parts_sent parts = record parts { info = as_octets parts.info }

still : (sender : Sender) (parts : Parts) (octets : List ℕ) → Spells sender parts octets → Spells sender (parts_sent parts) (as_octets octets)
still sender parts octets h = grind (arith, takes, row, as_many, sent_by)

pub still_spelled : (c : Config) (octets : List ℕ) → IsSpelled c octets → IsSpelled c (as_octets octets)
still_spelled c octets (parts, spells, served) = (parts_sent parts, still (own_side c) parts octets spells, served)

-- It is unit data exactly where it was.
same_kind : (c : Config) (octets : List ℕ) → IsSpelled c octets → is_unit (own_side c) (as_octets octets) ≡ is_unit (own_side c) octets
same_kind c octets (parts, spells, served) =
    ap carries_unit (reading-again (own_side c) (parts_sent parts) (as_octets octets) (still (own_side c) parts octets spells))
    ∙ sym (ap carries_unit (reading-again (own_side c) parts octets spells))

one_more : (c : Config) (frame : List ℕ) → is_unit (own_side c) (as_octets frame) ≡ is_unit (own_side c) frame → (more kept : List (List ℕ)) → more ≡ map as_octets kept
    → cond (is_unit (own_side c) (as_octets frame)) (as_octets frame ∷ more) more ≡ map as_octets (cond (is_unit (own_side c) frame) (frame ∷ kept) kept)
one_more c frame same more kept rest = grind arith

pub same_units : (c : Config) (frames : List (List ℕ)) → All (IsSpelled c) frames → filter (is_unit (own_side c)) (map as_octets frames) ≡ map as_octets (filter (is_unit (own_side c)) frames)
same_units c [] h = refl
same_units c (frame ∷ frames) h =
    one_more c frame (same_kind c frame (All-head (IsSpelled c) frame frames h)) (filter (is_unit (own_side c)) (map as_octets frames)) (filter (is_unit (own_side c)) frames)
    (same_units c frames (All-tail (IsSpelled c) frame frames h))
