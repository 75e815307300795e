-- A line is sound by its parts: TEI management with the links, and the units that wait.
use Rattle.model_line.proofs.Vocabulary.{arith, ◌≡◌, ℕ, ◌≤◌, ◌<◌, List, length, get_or, None, All, Link, fresh, Terms, Management, Config, Line, Own, UnitData, is_terminal, link_count, service_at, place_at, terms, terms_at, link_at, IsOfSide, IsSoundAt, IsSound, IsUnitData}
use Rattle.model_link.specs.Sound as links
use Rattle.model_teis.specs.Table.{IsAt}
use Rattle.model_teis.specs.network.Sound as tei

module _ (c : Config) (l : Line) (s : IsSound c l) where
  -- other units
  pub with_units : (units : List UnitData) → All (IsUnitData c) units → length units ≤ c.unit_queue → IsSound c (record l { units = units })
  with_units units all few = grind arith

  -- other TEI management, and other links
  pub with_links : (m : Management) (own : Own) (all : List Link) (turn : ℕ) → tei.IsSound m → m.reading ≡ c.reading → IsOfSide (is_terminal c) m own → length m.places ≡ c.terminals → length all ≡ link_count c → turn ≤ link_count c
      → ((n : ℕ) → n < link_count c → IsSoundAt c n (get_or all n fresh) (get_or m.places (place_at n) None))
      → IsSound c (record l { management = m; own = own; links = all; turn = turn })
  with_links m own all turn management reading owned places count within links = grind arith

  -- What holds of a link that begins, and of each that is sound, holds of each link of the line.
  pub any_link : (n : ℕ) → n < link_count c → (P : Terms → Link → Type 0) → P (terms c (service_at n) 0) fresh
      → ((number : ℕ) → IsAt l.management.places (place_at n) number → links.IsSound (terms c (service_at n) number) (link_at n l) → P (terms c (service_at n) number) (link_at n l))
      → P (terms_at c n l) (link_at n l)
  any_link n few P begins each = grind arith
