-- Contents that an answer hands on are noted once.
use Rattle.laws_line.proofs.Vocabulary.{◌≡◌, ℕ, ◌+◌, false, cond, List, [], ◌∷◌, length, Option, Some, None, option_to_list, refl, ◌⊎◌, arith, count_by, option_or, sum_by-cons, sum_by-append, Note, Refusal, Service, Timer, Terms, LinkTimer, Link, is_data, is_unit, event-tells, Change, place_of-is, Config, request, hears, next, Aim, at_link, at_management, of_change, of_aim}
use Rattle.laws_line.proofs.Vocabulary.{at_timer, aim_of_expiry, Line, place_in, link_in, terms, unless_refused_told, aim_of_heard, Request, Establish, Release, Assign, Remove, SetBusy, ClearBusy, Deactivate, at_requested, aim_of_request, IsInRange, sound_in, heard_aims, Down, Event, expiry, answer, unless_refused, refusal, Data, Unit, Check, IsSound, tells_contents, IsNotedOnce, link_received}
use Rattle.laws_line.proofs.Vocabulary.{LinkEstablish, LinkRelease, link_expired, LinkClearBusy, link_requested, LinkRequest, LinkData, link_cleared, LinkSetBusy, LinkEvent, link_told, StreamEvent, message, check, disown, remove, assigning, TeiEvent, Disown}
use Rattle.model_link.specs.Sound as link_sound
use Rattle.laws_link.proofs.Once as link_once
use Rattle.laws_line.proofs.Vocabulary.{ap, T201, T202, AskTei, VerifyTei, Management, Own, Effect, LineTold, IsProper, IsOwnEvent, request_proper, at_terminal, TerminalEvent, asking, verifying, terminal_expiry, tei_expiry}
use Rattle.laws_line.proofs.Changes.{AreOfTeis, IsOfTeis, Turn, turned, turned-there}
use Rattle.model_teis.specs.network.Laws as tei_laws
use Rattle.model_line.proofs.Downs.{by-down}

-- Notes of contents are those of data and those of unit data.
one-note : (n : Note) → cond {A = ℕ} (tells_contents n) 1 0 ≡ cond {A = ℕ} (is_data n) 1 0 + cond {A = ℕ} (is_unit n) 1 0
one-note n = grind arith

both : (ns : List Note) → count_by tells_contents ns ≡ count_by is_data ns + count_by is_unit ns
both [] = refl
both (n ∷ ns) =
    let all = sum_by-cons (λ n. cond (tells_contents n) 1 0) n ns in
    let unit-all = sum_by-cons (λ n. cond (is_unit n) 1 0) n ns in
    omega (arith, (both ns), all, (sum_by-cons (λ n. cond (is_data n) 1 0) n ns), unit-all, one-note n)

-- A link's.
either-one : (d u : Option (List ℕ)) → (d ≡ None) ⊎ (u ≡ None) → length (option_to_list d) + length (option_to_list u) ≡ length (option_to_list (option_or d u))
either-one d u one = grind arith

link-once : (t : Terms) (l : Link) → link_sound.IsSound t l → (e : LinkEvent)
    → count_by tells_contents (link_told t e l).notes ≡ length (option_to_list (option_or (link_told t e l).delivered (link_told t e l).unit))
link-once t l s e =
    let noted = link_once.noted-once t l s e in
    omega (arith, both (link_told t e l).notes, noted.contents, noted.unit, (either-one (link_told t e l).delivered (link_told t e l).unit (event-tells t e l).2))

-- A link whose TEI leaves the line tells of no contents.
cleared-none : (t : Terms) (l : Link) → count_by tells_contents (link_told t link_cleared l).notes ≡ 0
cleared-none t l = grind arith

-- Nor does TEI management.
one-quiet : (n : Note) → IsOfTeis n → tells_contents n ≡ false
one-quiet n h = grind arith

quiet-none : (ns : List Note) → AreOfTeis ns → count_by tells_contents ns ≡ 0
quiet-none [] h = refl
quiet-none (n ∷ ns) h =
    let first : cond {A = ℕ} (tells_contents n) 1 0 ≡ 0 = ap (λ b. cond {A = ℕ} b 1 0) (one-quiet n h.0) in
    omega (arith, sum_by-cons (λ n. cond (tells_contents n) 1 0) n ns, quiet-none ns h.1, first)

-- What an event aims at.
module _ (c : Config) (ranged : IsInRange c) (l : Line) (s : IsSound c l) where
  abbrev Once : Aim → Type 0
  Once aim =
      let t = (of_aim c aim l).told in
      count_by tells_contents t.notes ≡ length (option_to_list t.contents)

  at-its-link : (service : Service) (tei place : ℕ) (e : LinkEvent) → place_in l tei ≡ Some place → Once (at_link service tei place e)
  at-its-link service tei place e on =
      link-once (terms c service tei) (link_in l service place)
      (sound_in c ranged l s service tei place (place_of-is l.management.places tei place on).1) e

  abbrev OnceTold : Effect → Type 0
  OnceTold f = count_by tells_contents f.told.notes ≡ length (option_to_list f.told.contents)

  changed-once : (o : Option Change) (t : LineTold) (m : Management) (own : Own) → Turn l o t m → OnceTold (of_change c o t (record l { management = m; own = own }))
  changed-once o t m own turn =
      let none = quiet-none t.notes turn.quiet in
      let contents = turn.contents in
      grind (arith, sum_by-append, cleared-none)

  managed : (e : TeiEvent) → tei_laws.IsInRange e → Once (at_management e)
  managed e fits = turned c l s OnceTold changed-once e fits

  owned : (e : TerminalEvent) → IsOwnEvent c e → Once (at_terminal e)
  owned e proper = turned-there c l s OnceTold changed-once e proper

  heard-once : (e : StreamEvent) → Once (aim_of_heard c l e)
  heard-once =
      heard_aims c l Once (λ cause. refl) (λ service tei place what on. at-its-link service tei place (link_received what) on)
      (λ info. managed (message info) tt) (λ parts service to. refl)

  timer-once : (service : Service) (tei : ℕ) (timer : LinkTimer) (o : Option ℕ) → place_in l tei ≡ o → Once (at_timer service tei timer o)
  timer-once service tei timer None on = refl
  timer-once service tei timer (Some place) on = at-its-link service tei place (link_expired timer) on

  expiry-once : (timer : Timer) → Once (aim_of_expiry timer l)
  expiry-once T201 = managed tei_expiry tt
  expiry-once T202 = owned terminal_expiry tt
  expiry-once timer = grind (arith, timer-once)

  asked-once : (service : Service) (tei : ℕ) (what : LinkRequest) (o : Option ℕ) → place_in l tei ≡ o → Once (at_requested service tei what o)
  asked-once service tei what None on = refl
  asked-once service tei what (Some place) on = at-its-link service tei place (link_requested what false) on

  request-once : (r : Request) → IsProper c l (aim_of_request r l) → Once (aim_of_request r l)
  request-once (Establish service tei) proper = asked-once service tei LinkEstablish (place_in l tei) refl
  request-once (Release service tei) proper = asked-once service tei LinkRelease (place_in l tei) refl
  request-once (Data service tei contents) proper = asked-once service tei (LinkData contents) (place_in l tei) refl
  request-once (Unit service tei contents) proper = refl
  request-once (Assign tei) proper = managed (assigning tei) proper
  request-once (Remove tei) proper = managed (remove tei) proper
  request-once (Check tei) proper = managed (check tei) proper
  request-once (Disown tei) proper = managed (disown tei) proper
  request-once AskTei proper = owned asking proper
  request-once (VerifyTei tei) proper = owned (verifying tei) proper
  request-once (SetBusy service tei) proper = asked-once service tei LinkSetBusy (place_in l tei) refl
  request-once (ClearBusy service tei) proper = asked-once service tei LinkClearBusy (place_in l tei) refl
  request-once (Deactivate service tei) proper = grind (arith, at-its-link)
  request-once Down proper = by-down c l s (λ f. count_by tells_contents f.told.notes ≡ length (option_to_list f.told.contents)) refl

pub told-once : (c : Config) (e : Event) (l : Line) → IsInRange c → IsSound c l → IsNotedOnce (answer c e l)
unfolding answer
told-once c (hears e) l ranged s = heard-once c ranged l s e
told-once c (expiry timer) l ranged s = expiry-once c ranged l s timer
told-once c (request r) l ranged s = go (refusal c false r l) (request_proper c l r)
  where
    go : (o : Option Refusal) → IsProper c l (unless_refused o (aim_of_request r l)) → IsNotedOnce (unless_refused_told o (of_aim c (unless_refused o (aim_of_request r l)) l))
    go None proper = request-once c ranged l s r proper
    go (Some why) proper = refl
told-once c next l ranged s = refl
