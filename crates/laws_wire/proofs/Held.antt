-- A station in a call in which frames are lost and timers expire: what its layer 3 was granted is what its link accepted, and
-- layer 3 heard what its link delivered.
use Rattle.laws_wire.proofs.Vocabulary.{◌≡◌, ℕ, Bool, true, false, ◌==◌, suc, List, [], ◌∷◌, ◌++◌, length, map, None, is_some, refl, sym, ap, subst, ◌∙◌, ◌⊎◌, inl, inr, append-nil, append_assoc, eqb-true, arith, option_to_list, flat_map, list_any, and_parts, false≢true, map-append, list_any-append, list_any_none, Note, Service, Timer, Parts, spelling, LinkTimer, LinkEndpoint, with_link, with_sent}
use Rattle.laws_wire.proofs.Vocabulary.{Config, LineTold, expiry, request, next, at_timer, aim_of_expiry, Line, place_in, flat_map-append, Course, Data, Endpoint, happens, without_first, frame_comes, data_told, for_layer_3, heard_in, is_error, HasNoError, two_ends_without_first, course, NoteData, refusal, own_side}
use Rattle.model_link.specs.Events as link
use Rattle.laws_wire.proofs.Answered.{gives-told, same-granted, takes-granted}
use Rattle.laws_wire.proofs.Asking.{with_more}
use Rattle.laws_wire.proofs.Fair.{HasError, or-true}
use Rattle.laws_wire.proofs.Speaking.{heard_by, said_by}
use Rattle.laws_wire.proofs.Standing.{IsCarried, StationStands, expires-stands, expires-said}
use Rattle.laws_wire.proofs.Talking.{Face, unheard, Holds, holds-given, holds-lost, holds-asked, More, takes as takes_frame}

-- ---- what layer 3 hears of an event

-- of what is delivered it hears, and of nothing else
pub record TellsIt (service : Service) (tei : ℕ) (c : Course) : Type 0 where
  pub its_notes : c.notes ≡ map (λ octets. NoteData service tei) (option_to_list c.delivered)
  pub no_unit : c.unit ≡ None

-- ---- errors that were told

abbrev pub tells_error : LineTold → Bool
tells_error t = list_any is_error t.notes

abbrev pub Erred : Endpoint → Type 0
Erred s = list_any tells_error s.told ≡ true

some-notes : (ns : List Note) → HasError ns → (length ns == 0) ≡ true → ⊥
some-notes [] h e = false≢true h
some-notes (n ∷ ns) h e = let none : suc (length ns) ≡ 0 = eqb-true (length (n ∷ ns)) 0 e in absurd (omega (arith, none))

pub error-said : (c : Course) → HasError c.notes → list_any tells_error (said_by c) ≡ true
error-said c h = grind (arith, heard_by, and_parts, is_some, some-notes)

pub now-erred : (s s' : Endpoint) (c : Course) → s'.told ≡ s.told ++ said_by c → HasError c.notes → Erred s'
now-erred s s' c told h = grind (arith, list_any-append, said_by, error-said, or-true)

pub not-erred : (s : Endpoint) → HasNoError s → Erred s → ⊥
not-erred s none h = false≢true (sym (list_any_none tells_error s.told none) ∙ h)

-- ---- a station and the end for which it stands

pub record Held (c : Config) (service : Service) (tei place : ℕ) (past : List LineTold) (s : Endpoint) (n : LinkEndpoint) : Type 0 where
  pub stands : StationStands c service tei place s n
  pub granted : s.granted ≡ n.link.contents
  pub heard : heard_in s ≡ past ++ map (data_told service tei) n.delivered

module _ (service : Service) (tei place : ℕ) (past : List LineTold) (c : Config) (s : Endpoint) (n : LinkEndpoint) (h : Held c service tei place past s n) where
  -- what stands for the station, without what it was told
  quiet : Holds c service tei place (record { told = s.told; had = n.delivered }) s n
  quiet = record { stands = h.stands; granted = h.granted; since = []; told = sym (append-nil s.told); delivered = sym (append-nil n.delivered) }

  own : StationStands s.card.config service tei place s n
  own = subst (λ k. StationStands k service tei place s n) (sym h.stands.config) h.stands

  -- what it heard by an event
  pub heard-then : (s' : Endpoint) (x : Course) → s'.told ≡ s.told ++ said_by x → TellsIt n.terms.service n.terms.tei x
      → heard_in s' ≡ past ++ map (data_told service tei) (n.delivered ++ option_to_list x.delivered)
  heard-then s' x told y = grind (arith, flat_map, flat_map-append, said_by, heard_by, and_parts, is_some, append-nil, append_assoc, map-append)

  heard-data : (xs : List (List ℕ)) → flat_map for_layer_3 (map (data_told service tei) xs) ≡ map (data_told service tei) xs
  heard-data [] = refl
  heard-data (x ∷ xs) = ap (λ ts. data_told service tei x ∷ ts) (heard-data xs)

  heard-so-far : (s' : Endpoint) (more : List (List ℕ)) → s'.told ≡ s.told ++ map (data_told service tei) more
      → heard_in s' ≡ past ++ map (data_told service tei) (n.delivered ++ more)
  heard-so-far s' more told = grind (arith, flat_map, flat_map-append, heard-data, append_assoc, map-append)

  pub held-given : (with_sent n).link.contents ≡ n.link.contents → Held c service tei place past (happens next s) (with_sent n)
  held-given kept =
      let x = holds-given service tei place (record { told = s.told; had = n.delivered }) c s n quiet kept in
      record { stands = x.stands; granted = x.granted; heard = ap (flat_map for_layer_3) (gives-told s) ∙ h.heard }

  pub held-lost : Held c service tei place past (without_first s) (two_ends_without_first n)
  held-lost =
      let x = holds-lost service tei place (record { told = s.told; had = n.delivered }) c s n quiet in
      record { stands = x.stands; granted = x.granted; heard = h.heard }

  -- a frame of the other side
  module _ (d : Config) (face : Face c d) (f : Parts) (from : IsCarried d service tei f) where
    abbrev took : Endpoint
    took = frame_comes (spelling (own_side d) f) s

    abbrev x : Course
    x = course n.terms (link.received (link.frame f)) n.link

    pub taken-told : took.told ≡ s.told ++ said_by x
    taken-told = (takes_frame service tei place unheard c d face s n f h.stands from).told

    pub taken-stands : StationStands c service tei place took (with_link (link.received (link.frame f)) n)
    taken-stands = (takes_frame service tei place unheard c d face s n f h.stands from).stands

    pub held-taken : TellsIt n.terms.service n.terms.tei x → (with_link (link.received (link.frame f)) n).link.contents ≡ n.link.contents
        → Held c service tei place past took (with_link (link.received (link.frame f)) n)
    held-taken tells kept = record {
      stands = (takes_frame service tei place unheard c d face s n f h.stands from).stands;
      granted = takes-granted (spelling (own_side d) f) s ∙ h.granted ∙ sym kept;
      heard = heard-then took x (takes_frame service tei place unheard c d face s n f h.stands from).told tells;
    }

  -- a timer
  module _ (timer : Timer) (its : LinkTimer) (aims : (l : Line) → aim_of_expiry timer l ≡ at_timer service tei its (place_in l tei)) where
    abbrev after : Endpoint
    after = happens (expiry timer) s

    pub expired-told : after.told ≡ s.told ++ said_by (course n.terms (link.expired its) n.link)
    expired-told = expires-said service tei place s n own timer its aims

    pub held-expired : TellsIt n.terms.service n.terms.tei (course n.terms (link.expired its) n.link) → (with_link (link.expired its) n).link.contents ≡ n.link.contents
        → Held c service tei place past after (with_link (link.expired its) n)
    held-expired tells kept =
        record {
          stands = subst (λ k. StationStands k service tei place after (with_link (link.expired its) n)) h.stands.config (expires-stands service tei place s n own timer its aims);
          granted = same-granted (expiry timer) s refl ∙ h.granted ∙ sym kept;
          heard = heard-then after (course n.terms (link.expired its) n.link) expired-told tells;
        }

  -- data
  pub record Grants (octets : List ℕ) (s' : Endpoint) : Type 0 where
    pub none : refusal n.terms n.link false (link.Data octets) ≡ None
    pub held : Held c service tei place past s' (with_more octets n)

  pub held-asked : (octets : List ℕ) → (happens (request (Data service tei octets)) s ≡ s) ⊎ Grants octets (happens (request (Data service tei octets)) s)
  held-asked octets = go (holds-asked service tei place (record { told = s.told; had = n.delivered }) c s n octets quiet)
    where
      s' : Endpoint
      s' = happens (request (Data service tei octets)) s

      go : (s' ≡ s) ⊎ More service tei place (record { told = s.told; had = n.delivered }) c s s' n octets → (s' ≡ s) ⊎ Grants octets s'
      go (inl same) = inl same
      go (inr y) = inr (record {
        none = y.none;
        held = record { stands = y.holds.stands; granted = y.holds.granted; heard = heard-so-far s' y.holds.since y.holds.told ∙ ap (λ xs. past ++ map (data_told service tei) xs) (sym y.holds.delivered) };
      })

  -- the first that it hears is its establishment
  pub held-first : (first : LineTold) (s' : Endpoint) (n' : LinkEndpoint) (x : Course) → past ≡ [] → n.delivered ≡ [] → n'.delivered ≡ [] → StationStands c service tei place s' n' → s'.granted ≡ s.granted
      → n'.link.contents ≡ n.link.contents → s'.told ≡ s.told ++ said_by x → said_by x ≡ first ∷ [] → for_layer_3 first ≡ first ∷ []
      → Held c service tei place (first ∷ []) s' n'
  held-first first s' n' x none before now stands granted kept told said is = grind (arith, flat_map, flat_map-append, said_by, append-nil)
