-- What a frame is on each side of a line.
use Rattle.model_line.proofs.Vocabulary.{◌≡◌, ℕ, ◌≤◌, nat_lt, arith, true, false, Option, eqb-true, leb-true, ltb-false, Unserved, Side, User, Service, Parts, service_of, Config, LineTold, Aim, at_none, at_link, at_management, at_terminal, at_units, at_no_link, group_told, told_of_group, at_side, last_unit_tei, has_management, IsToGroup}
use Rattle.model_line.specs.Event.{dropped}

-- What holds of an aim where it is served: of one at TEI management, on a side that has it.
abbrev pub WhereServed : Config → (Aim → Type 0) → Aim → Type 0
WhereServed c P (at_none told) = P (at_none told)
WhereServed c P (at_link service tei place event) = P (at_link service tei place event)
WhereServed c P (at_management event) = has_management c ≡ true → P (at_management event)
WhereServed c P (at_terminal event) = P (at_terminal event)
WhereServed c P (at_units unit) = P (at_units unit)
WhereServed c P at_no_link = P at_no_link

pub everywhere : (c : Config) (P : Aim → Type 0) (aim : Aim) → P aim → WhereServed c P aim
everywhere c P aim p = grind arith

-- So it holds of what a frame is on the side of the card, if it holds of what is not served and of the group's unit data.
module _ (c : Config) (parts : Parts) (P : Aim → Type 0) (unserved : P (at_none (dropped Unserved)))
    (to_group : (service : Service) → IsToGroup c parts service → P (at_none (group_told service parts.info))) where
  of_group : (told : LineTold) → c.side ≡ User → P (at_none told) → (o : Option Service) → service_of parts.address.sapi ≡ o
      → P (at_none (told_of_group c parts o told))
  of_group told side p o sapi = grind (arith, leb-true, eqb-true)

  pub side_where : (aim : Aim) → WhereServed c P aim → P (at_side c parts aim)
  side_where aim p = grind (arith, of_group)

  pub side_aims : (aim : Aim) → P aim → P (at_side c parts aim)
  side_aims aim p = side_where aim (everywhere c P aim p)

-- Unit data is sent to a TEI of seven bits.
pub unit_tei : (side : Side) (tei : ℕ) → nat_lt (last_unit_tei side) tei ≡ false → tei ≤ 127
unit_tei side tei e = grind (arith, ltb-false)
