-- The latest frame that was put on a line, and how it begins.
use Rattle.std.specs.Prelude.{ℕ, List, [], ◌∷◌, length, get_or, fold, Option, Some, None}
use Rattle.model_bits.specs.Sent.{Item, idle, frame}
use Rattle.model_bits.specs.declared.heads.Head.{Head}

-- The octets of the latest frame among the items, idle flags apart; none where there is no frame.
abbrev pub or_later : List ℕ → Item → List ℕ
or_later octets idle = octets
or_later octets (frame later) = later

abbrev pub latest_frame : List Item → List ℕ
latest_frame items = fold or_later [] items

-- The first four octets, 0 where there are fewer.
abbrev pub first_four : List ℕ → List ℕ
first_four octets = get_or octets 0 0 ∷ get_or octets 1 0 ∷ get_or octets 2 0 ∷ get_or octets 3 0 ∷ []

-- How a frame begins, and how long it is.
abbrev pub head_of : List ℕ → Option Head
head_of [] = None
head_of (octet ∷ octets) = Some (record { octets = first_four (octet ∷ octets); length = length (octet ∷ octets) })
