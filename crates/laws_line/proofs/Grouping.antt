-- What the user's side hears of the network for the group: unit data, and messages of TEI management.
use Rattle.laws_line.proofs.Vocabulary.{◌≡◌, ℕ, ◌==◌, cond, List, Option, Some, None, Ok, refl, ap, ◌∙◌, arith, le-leb, Tei, Unserved, Address, Control, Service, Parts, reading, service_of, sapi_of, place_of-is, Config, hears, Aim, at_none, Line, place_in, drop_for, management_sapi, to_service, addressed, message_of, aim_of_reading, heard_side, group_told, told_at, at_side, IsToGroup, dropped}
use Rattle.laws_line.proofs.Vocabulary.{after, answer, at_place, line_group_tei as group_tei, IsSound, OnlyTells, IsToManagement, link_frame, LinkReceived, stream_frame}
use Rattle.laws_line.proofs.Causing.{to-group}
use Rattle.laws_line.proofs.Hearing.{sapi-is, by-none}

-- no TEI of a line is the group's
none-there : (c : Config) (l : Line) → IsSound c l → place_in l group_tei ≡ None
none-there c l s = go (place_in l group_tei) refl
  where
    go : (o : Option ℕ) → place_in l group_tei ≡ o → o ≡ None
    go None is = refl
    go (Some place) is = absurd (omega (arith, s.management.table.range place group_tei (place_of-is l.management.places group_tei place is).1))

-- so a frame to the group is for no link
for-nobody : (c : Config) (l : Line) (a : Address) (service : Service) (what : LinkReceived) (m : Aim) → IsSound c l → service_of a.sapi ≡ Some service → a.tei ≡ group_tei
    → addressed l a what m ≡ drop_for Tei
for-nobody c l a service what m s sapi group =
    ap (λ n. cond (n == management_sapi) (cond (a.tei == group_tei) m (drop_for Tei)) (to_service l a.tei what (service_of n))) (sapi-is a.sapi service sapi)
    ∙ by-service service
    ∙ ap (λ n. at_place service n what (place_in l n)) group ∙ ap (at_place service group_tei what) (none-there c l s)
  where
    by-service : (by : Service) → cond (sapi_of by == management_sapi) (cond (a.tei == group_tei) m (drop_for Tei)) (to_service l a.tei what (service_of (sapi_of by)))
        ≡ at_place by a.tei what (place_in l a.tei)
    by-service by = grind arith

-- and a UI of a service is unit data
pub group-read : (c : Config) (l : Line) (parts : Parts) (octets : List ℕ) (service : Service) → IsSound c l → reading (heard_side c) octets ≡ Ok parts
    → IsToGroup c parts service → OnlyTells (group_told service parts.info) l (after c (hears (stream_frame octets)) l) (answer c (hears (stream_frame octets)) l)
group-read c l parts octets service s read to =
    by-none c l (stream_frame octets) (group_told service parts.info)
    ((ap (aim_of_reading c l) read)
    ∙ ap (at_side c parts) (for-nobody c l parts.address service (link_frame parts) (message_of parts.control parts.info) s to.sapi to.group)
    ∙ ap at_none (grind (arith, le-leb)))

-- What is for TEI management is not served.
module _ (c : Config) (parts : Parts) (to : IsToManagement c parts) where
  no-unit : at_none (told_at c c.side parts (dropped Unserved)) ≡ drop_for Unserved
  no-unit = grind arith

  by-control : (k : Control) → at_side c parts (message_of k parts.info) ≡ drop_for Unserved
  by-control k = grind (arith, no-unit)

pub managed-read : (c : Config) (l : Line) (parts : Parts) (octets : List ℕ) → reading (heard_side c) octets ≡ Ok parts
    → IsToManagement c parts → OnlyTells (dropped Unserved) l (after c (hears (stream_frame octets)) l) (answer c (hears (stream_frame octets)) l)
managed-read c l parts octets read to =
    by-none c l (stream_frame octets) (dropped Unserved)
    ((ap (aim_of_reading c l) read)
    ∙ ap (at_side c parts) (to-group c l parts.address (link_frame parts) (message_of parts.control parts.info) to.sapi to.group)
    ∙ by-control c parts to parts.control)
