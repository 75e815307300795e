-- How an image spells numbers, lists and contents. It is a list of octets, the same on every processor.
use Rattle.std.specs.Prelude.{ℕ, zero, suc, ◌/◌, ◌%◌, List, [], ◌∷◌, ◌++◌, length, flat_map}

-- A number in so many octets, the low one first. A number in one octet is written as itself.
unfoldable pub number : ℕ → ℕ → List ℕ
number zero n = []
number (suc more) n = n % 256 ∷ number more (n / 256)

-- A list: in one octet how many members it has, and then each of them.
abbrev pub list_of : {A : Type 0} → (A → List ℕ) → List A → List ℕ
list_of each all = length all ∷ flat_map each all

-- Contents: in two octets how many octets they have, and then these.
abbrev pub contents : List ℕ → List ℕ
contents octets = number 2 (length octets) ++ octets
