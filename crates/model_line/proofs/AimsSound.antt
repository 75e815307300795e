-- What an event is to the parts of a line keeps the line sound.
use Rattle.model_line.proofs.Vocabulary.{◌≡◌, ℕ, ◌<◌, [], ◌∷◌, ◌++◌, length, get_or, set, Option, Some, None, ap, sym, ◌∙◌, subst, arith, length-set, length-append, get_or-set_other, All-nil, All-cons, All-append, Moves, Management, IsAt, Change, Gained, Left, Call, Packet, fresh, Config, LineTold, Line, Own, is_terminal, link_number, link_at, place_at, Aim, at_none, at_link, at_management}
use Rattle.model_line.proofs.Vocabulary.{at_terminal, at_units, at_no_link}
use Rattle.model_line.proofs.Vocabulary.{without_units, of_change, of_management, of_terminal, of_aim, IsInRange, IsOfSide, IsSoundAt, IsSound, IsUnitData, TeiEvent, TerminalEvent, tei_down}
use Rattle.model_teis.specs.network.Laws as tei_laws
use Rattle.model_teis.specs.network.Sound as tei
use Rattle.model_line.proofs.LinksSound.{link_event_sound, with_both}
use Rattle.model_line.proofs.Managed.{IsOwnEvent, by-managed, by-own-event}
use Rattle.model_line.proofs.SoundParts.{with_links, with_units}

-- An aim that a line can have: a link's TEI is at its place, a request's TEI is one of a terminal, and unit data finds
-- a place to wait.
abbrev pub IsProper : Config → Line → Aim → Type 0
IsProper c l (at_none what) = Unit {0}
IsProper c l (at_link service tei place event) = IsAt l.management.places place tei
IsProper c l (at_management event) = tei_laws.IsInRange event
IsProper c l (at_terminal event) = IsOwnEvent c event
IsProper c l (at_units unit) = IsUnitData c unit × (length l.units < c.unit_queue)
IsProper c l at_no_link = Unit {0}

module _ (c : Config) (ranged : IsInRange c) where
  -- a TEI comes to a place, or leaves it, and both links of the place begin
  place_changed : (l : Line) (m : Management) (own : Own) (place : ℕ) (o : Option ℕ) → IsSound c l → tei.IsSound m → m.reading ≡ c.reading → IsOfSide (is_terminal c) m own → m.places ≡ set l.management.places place o
      → place < length l.management.places
      → IsSound c (record l { management = m; own = own; links = set (set l.links (link_number place Call) fresh) (link_number place Packet) fresh })
  place_changed l m own place o s ms reading owned here within =
      with_links c l s m own (set (set l.links (link_number place Call) fresh) (link_number place Packet) fresh) l.turn ms reading owned
      (ap (λ p. length p) here ∙ length-set l.management.places place o ∙ s.places) (length-set _ _ _ ∙ length-set _ _ _ ∙ s.count) s.turn
      (with_both c ranged l.links m.places place s.count (omega (arith, within, s.places)) (λ t at. ms.table.range place t at)
      (λ n few away.
      subst (λ p. IsSoundAt c n (link_at n l) p)
      (sym (ap (λ p. get_or p (place_at n) None) here ∙ get_or-set_other l.management.places place (place_at n) o None away)) (s.links n few)))

  -- the links after a change of the table
  links_moved : (l : Line) (change : Option Change) (m : Management) (own : Own) (told : LineTold) → IsSound c l → tei.IsSound m → m.reading ≡ c.reading → IsOfSide (is_terminal c) m own
      → Moves l.management.places change m.places → IsSound c (of_change c change told (record l { management = m; own = own })).line
  links_moved l None m own told s ms reading owned same = grind (arith, with_links)
  links_moved l (Some (Gained tei place)) m own told s ms reading owned joined = place_changed l m own place (Some tei) s ms reading owned joined.is_there joined.within
  links_moved l (Some (Left tei place)) m own told s ms reading owned left = place_changed l m own place None s ms reading owned left.is_free left.within

  pub management_event_sound : (l : Line) (e : TeiEvent) → IsSound c l → tei_laws.IsInRange e → IsSound c (of_management c e l).line
  management_event_sound l e s fits =
      by-managed c l s (λ change f. IsSound c f.line) e fits (λ change told m own step. links_moved l change m own told s step.sound step.reading step.owned step.moves)

  own_event_sound : (l : Line) (e : TerminalEvent) → IsSound c l → IsOwnEvent c e → IsSound c (of_terminal c e l).line
  own_event_sound l e s proper =
      by-own-event c l s (λ change f. IsSound c f.line) e proper (λ change told m own step. links_moved l change m own told s step.sound step.reading step.owned step.moves)

  pub aim_sound : (l : Line) (aim : Aim) → IsSound c l → IsProper c l aim → IsSound c (of_aim c aim l).line
  aim_sound l (at_none what) s proper = s
  aim_sound l (at_link service tei place event) s proper = link_event_sound c ranged l s service tei place event proper
  aim_sound l (at_management event) s proper = management_event_sound l event s proper
  aim_sound l (at_terminal event) s proper = own_event_sound l event s proper
  aim_sound l (at_units unit) s proper =
      with_units c l s (l.units ++ unit ∷ [])
      (All-append (IsUnitData c) l.units (unit ∷ []) s.units (All-cons (IsUnitData c) unit [] proper.0 (All-nil (IsUnitData c))))
      (omega (arith, proper.1, length-append l.units (unit ∷ [])))
  aim_sound l at_no_link s proper =
      management_event_sound (without_units l) tei_down (with_units c l s [] (All-nil (IsUnitData c)) (omega arith)) tt
