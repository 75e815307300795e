-- How the turn goes round the links of a line while whatever happens there: one keeps its place, and another has something to send.
use Rattle.model_teis.specs.terminal.Messages.{information_of as own_information_of}
use Rattle.laws_trace.proofs.Vocabulary.{◌≡◌, ◌≢◌, ℕ, ◌+◌, ◌<◌, ◌≤◌, ◌==◌, ◌⊎◌, ⊎_elim, Bool, true, false, cond, List, [], ◌∷◌, ◌++◌, get_or, map, Option, Some, None, option_map, refl, sym, ap, ◌∙◌, subst, inl, inr, arith, eq-eqb, true≢false, All, filter, and_parts, flat_map-append, get_or-set_same, map-append, filter-append, Address, sapi_of, Config, request, next, Answer, gave, Line}
use Rattle.laws_trace.proofs.Vocabulary.{fresh_line}
use Rattle.laws_trace.proofs.Vocabulary.{link_count, service_at, place_at, tei_at, Taken, taken, next_of, way_round, in_turn, IsSilentAt, IsOfLink, IsOwed, IsIdle, contents_of_link, comes-first, served, turn-stays, Card, line_at, is_full, by_room, eqb-true, unwrap_or, information_of, CardEvent as Event, after, card_answer as answer, IsAtLine, CardIsSound as IsSound, trace_frame_in as frame_in}
use Rattle.laws_trace.proofs.Vocabulary.{Seen, seen, frames_begun, IsAmong, sapi-small, own_side}
use Rattle.model_line.specs.Event as line_event
use Rattle.model_line.specs.Machine as lines
use Rattle.model_line.specs.Sound as line
use Rattle.laws_trace.proofs.Runs.{nothing-seen, apart}
use Rattle.laws_trace.proofs.Turns.{link-frame, ui-frame, name-is}
use Rattle.laws_trace.proofs.Units.{NoneWaits, plain-order, first-of, none-told, none-requested, given-frames}
use Rattle.laws_trace.proofs.LinkNames.{LinkName, named_in, is_of_a_link, links_begun, named as name_of, same-number}
use Rattle.laws_trace.proofs.NamedFrames.{names}
use Rattle.model_line.proofs.Following.{some-same}
use Rattle.laws_trace.proofs.ReadAgain.{message-text, own-text}

-- A link that would begin a frame has something to send.
pub record Speaks (c : Config) (l : Line) (number tei : ℕ) : Type 0 where
  pub few : number < link_count c
  pub on_line : tei_at (place_at number) l ≡ Some tei
  pub speaks : IsSilentAt c l number → ⊥

-- A run of a line in which one link keeps its place, and another has something to send, with the links of the frames
-- that begin.
module _ (c : Config) (one tei other its : ℕ) where
  abbrev way : ℕ → ℕ
  way turn = way_round (link_count c) turn other

  pub record Meets (l : Line) : Type 0 where
    pub sound : line.IsSound c l
    pub here : tei_at (place_at one) l ≡ Some tei
    pub there : Speaks c l other its

  pub record Goes (l m : Line) (number by : ℕ) : Type 0 where
    pub on_line : tei_at (place_at number) l ≡ Some by
    pub passed : List ℕ
    pub behind : List ℕ
    pub place : in_turn c l ≡ passed ++ number ∷ behind
    pub all_silent : All (IsSilentAt c l) passed
    pub turned : m.turn ≡ number + 1

  pub data Walk : Line → List LinkName → Type 0 where
    ends : (l : Line) → Walk l []
    still : (l m : Line) (names : List LinkName) → m.turn ≡ l.turn → Walk m names → Walk l names
    goes : (l m : Line) (number by : ℕ) (names : List LinkName) → Meets l → Goes l m number by → Walk m names → Walk l (name_of number by ∷ names)

  comes : (l m : Line) (number by : ℕ) → Meets l → Goes l m number by → (other ≡ number) ⊎ (way (number + 1) + 1 ≤ way l.turn)
  comes l m number by h g =
      turned (comes-first (link_count c) l.turn h.sound.turn (IsSilentAt c l) other number g.passed g.behind h.there.few g.place g.all_silent h.there.speaks)
    where
      turned : (number ≡ other) ⊎ (way (number + 1) + 1 ≤ way l.turn) → (other ≡ number) ⊎ (way (number + 1) + 1 ≤ way l.turn)
      turned o = grind arith

  -- from the turn behind the one on, the other goes before it goes again
  between-is : one ≢ other → (l : Line) (names : List LinkName) → Walk l names → way l.turn ≤ way (one + 1) → (between behind : List LinkName)
      → names ≡ between ++ name_of one tei ∷ behind → IsAmong (name_of other its) between
  between-is apart k ns (ends l) near [] behind e = absurd (cc e)
  between-is apart k ns (ends l) near (x ∷ between) behind e = absurd (cc e)
  between-is apart k ns (still l m names turn walk) near between behind e = between-is apart m names walk (subst (λ t. way t ≤ way (one + 1)) (sym turn) near) between behind e
  between-is apart k ns (goes l m number by rest h g walk) near [] behind e =
      let same = same-number c l h.sound number one by tei g.on_line h.here (cc e) in
      ⊎_elim (λ equal. absurd (apart (sym same ∙ sym equal)))
      (λ less. absurd (omega (arith, (ap (λ n. way (n + 1)) same), less, near))) (comes l m number by h g)
  between-is apart k ns (goes l m number by rest h g walk) near (x ∷ between) behind e =
      let head : name_of number by ≡ x = cc e in
      ⊎_elim
      (λ equal.
      let t : by ≡ its = some-same by its (sym g.on_line ∙ ap (λ n. tei_at (place_at n) l) (sym equal) ∙ h.there.on_line) in
      record { front = []; back = between; split = ap (λ y. y ∷ between) (sym head ∙ ap (λ n. name_of n by) (sym equal) ∙ ap (name_of other) t) })
      (λ less.
      let inner = between-is apart m rest walk (omega (arith, (ap way g.turned), less, near)) between behind (cc e) in
      record { front = x ∷ inner.front; back = inner.back; split = ap (λ ys. x ∷ ys) inner.split }) (comes l m number by h g)

  same-way : (a b : ℕ) → a ≡ b → a ≤ b
  same-way a b e = omega (arith, e)

  pub take-turns : one ≢ other → (l : Line) (names : List LinkName) → Walk l names → (front between behind : List LinkName)
      → names ≡ front ++ name_of one tei ∷ (between ++ name_of one tei ∷ behind) → IsAmong (name_of other its) between
  take-turns apart k ns (ends l) [] between behind e = absurd (cc e)
  take-turns apart k ns (ends l) (x ∷ front) between behind e = absurd (cc e)
  take-turns apart k ns (still l m names turn walk) front between behind e = take-turns apart m names walk front between behind e
  take-turns apart k ns (goes l m number by rest h g walk) (x ∷ front) between behind e =
      take-turns apart m rest walk front between behind (cc e)
  take-turns apart k ns (goes l m number by rest h g walk) [] between behind e =
      let is : name_of number by ≡ name_of one tei = cc e in
      let tail : rest ≡ between ++ name_of one tei ∷ behind = cc e in
      between-is apart m rest walk (same-way (way m.turn) (way (one + 1)) (ap way (g.turned ∙ ap (λ n. n + 1) (same-number c l h.sound number one by tei g.on_line h.here is)))) between behind tail

  -- One event.
  module _ (ranged : line.IsInRange c) (l : Line) (h : Meets l) (plain : NoneWaits c l) where
    abbrev names-in : List (List ℕ) → List LinkName
    names-in frames = map (named_in c.sapi) (filter (is_of_a_link (own_side c)) frames)

    no-name : (frame : List ℕ) (names : List LinkName) → is_of_a_link (own_side c) frame ≡ false → Walk l names → Walk l (names-in (frame ∷ []) ++ names)
    no-name frame names none walk = subst (λ b. Walk l (map (named_in c.sapi) (cond b (frame ∷ []) []) ++ names)) (sym none) walk

    a-name : (frame : List ℕ) (name : LinkName) (names : List LinkName) → is_of_a_link (own_side c) frame ≡ true → named_in c.sapi frame ≡ name → Walk l (name ∷ names) → Walk l (names-in (frame ∷ []) ++ names)
    a-name frame name names is named walk = grind (arith, named_in)

    abbrev new : Line
    new = lines.after c next l

    of-link : (frame : List ℕ) (x : IsOfLink c (contents_of_link l) l new frame) (names : List LinkName) → Walk new names → Walk l (names-in (frame ∷ []) ++ names)
    of-link frame x names walk =
        let a : Address = record { sapi = sapi_of (service_at x.number); command = x.command; tei = x.tei } in
        a-name frame (name_of x.number x.tei) names (ap (is_of_a_link (own_side c)) x.spelled ∙ link-frame (own_side c) a x.control (plain-order c l new frame plain x) (unwrap_or x.information []))
        (ap (named_in c.sapi) x.spelled ∙ name-is (own_side c) a x.control (unwrap_or x.information []))
        (goes l new x.number x.tei names h (record {
          on_line = x.on_line;
          passed = x.its_turn.passed;
          behind = x.its_turn.behind;
          place = x.its_turn.place;
          all_silent = x.its_turn.all_silent;
          turned = ap (λ (l : Line). l.turn) x.line;
        }) walk)

    by-next : (o : Option Taken) → elim o as (λ o. Type 0) [ None ↦ IsIdle c l new | Some t ↦ IsOwed c (contents_of_link l) l new t.frame ]
        → (names : List LinkName) → Walk new names → Walk l (names-in (frame_in (gave (option_map next_of o))) ++ names)
    by-next None x names walk = still l new names (ap (λ (l : Line). l.turn) x.line) walk
    by-next (Some t) (inl x) names walk =
        let a : Address = record { sapi = 63; command = true; tei = 127 } in
        no-name t.frame names (ap (is_of_a_link (own_side c)) (x.spelled ∙ message-text c x.message) ∙ ui-frame (own_side c) a (information_of x.message) (omega arith) (omega arith) refl) (still l new names (ap (λ (l : Line). l.turn) x.line) walk)
    by-next (Some t) (inr (inl x)) names walk =
        let a : Address = record { sapi = 63; command = true; tei = 127 } in
        no-name t.frame names (ap (is_of_a_link (own_side c)) (x.spelled ∙ own-text c x.message x.terminal) ∙ ui-frame (own_side c) a (own_information_of x.message) (omega arith) (omega arith) refl) (still l new names (ap (λ (l : Line). l.turn) x.line) walk)
    by-next (Some t) (inr (inr (inl x))) names walk =
        let a : Address = record { sapi = sapi_of x.unit.service; command = true; tei = x.unit.tei } in
        let small = first-of c l.units x.unit x.oldest h.sound.units in
        no-name t.frame names (ap (is_of_a_link (own_side c)) x.spelled ∙ ui-frame (own_side c) a x.unit.contents (sapi-small x.unit.service) (omega (arith, small)) refl) (still l new names (ap (λ (l : Line). l.turn) x.line) walk)
    by-next (Some t) (inr (inr (inr x))) names walk = of-link t.frame x names walk

    none-begins : (e : line_event.Event) (a : Answer) (names : List LinkName) → frames_begun (seen e a) ≡ [] → (lines.after c e l).turn ≡ l.turn
        → Walk (lines.after c e l) names → Walk l (links_begun c (seen e a) ++ names)
    none-begins e a names none turn walk = subst (λ fs. Walk l (names-in fs ++ names)) (sym none) (still l (lines.after c e l) names turn walk)

    event-walks : (e : line_event.Event) (names : List LinkName) → Walk (lines.after c e l) names → Walk l (links_begun c (seen e (lines.answer c e l)) ++ names)
    unfolding lines.answer
    event-walks (request r) names walk =
        none-begins (request r) (lines.answer c (request r) l) names (none-requested r (lines.answer c (request r) l)) (turn-stays c (request r) l) walk
    event-walks next names walk =
        subst (λ fs. Walk l (names-in fs ++ names)) (sym (given-frames (option_map next_of (taken c l)))) (by-next (taken c l) (served c l h.sound) names walk)
    event-walks other names walk =
        none-begins other (lines.answer c other l) names (none-told (lines.answer c other l)) (turn-stays c other l) walk

pub names-both : (c : Config) (t u : List Seen) → links_begun c (t ++ u) ≡ links_begun c t ++ links_begun c u
names-both c t u = grind (arith, named_in, is_of_a_link, flat_map-append, filter-append, map-append)

-- A run.
module _ (number one tei other its : ℕ) where
  abbrev pub WalkOf : Card → Line → List LinkName → Type 0
  WalkOf card l names = Walk card.config one tei other its l names

  own-walk : (card : Card) (e : Event) → IsSound card → IsAtLine card e → Meets card.config one tei other its (line_at e.line card) → NoneWaits card.config (line_at e.line card)
      → (names : List LinkName) → WalkOf card (line_at e.line (after e card)) names
      → WalkOf card (line_at e.line card) (links_begun card.config (seen e.what (answer e card)) ++ names)
  own-walk card e s here h plain =
      let c = card.config in
      let l = line_at e.line card in
      by_room (λ ls a. (names : List LinkName) → WalkOf card (get_or ls e.line (fresh_line c)) names → WalkOf card l (links_begun c (seen e.what a) ++ names)) e card
      (λ full names walk.
      subst (λ t. WalkOf card l (links_begun c t ++ names)) (sym (nothing-seen c e.what l (and_parts (lines.takes_slot c e.what l) (is_full card) full).0)) walk)
      (λ room names walk.
      event-walks c one tei other its s.config l h plain e.what names
      (subst (λ (x : Line). WalkOf card x names) (get_or-set_same card.lines e.line (lines.after c e.what l) (fresh_line c) (omega (arith, s.count, here))) walk))

  pub moment-walk : (card : Card) (e : Event) → IsSound card → IsAtLine card e → Meets card.config one tei other its (line_at number card) → NoneWaits card.config (line_at number card)
      → (b : Bool) → (e.line == number) ≡ b → (names : List LinkName) → WalkOf card (line_at number (after e card)) names
      → WalkOf card (line_at number card) (links_begun card.config (cond b (seen e.what (answer e card)) []) ++ names)
  moment-walk card e s here h plain true same names walk =
      let is = eqb-true e.line number same in
      subst (λ n. WalkOf card (line_at n card) (links_begun card.config (seen e.what (answer e card)) ++ names)) is
      (own-walk card e s here (subst (λ n. Meets card.config one tei other its (line_at n card)) (sym is) h) (subst (λ n. NoneWaits card.config (line_at n card)) (sym is) plain) names
      (subst (λ n. WalkOf card (line_at n (after e card)) names) (sym is) walk))
  moment-walk card e s here h plain false away names walk =
      subst (λ (x : Line). WalkOf card x names) (apart card e number (λ same. true≢false (sym (eq-eqb e.line number (sym same)) ∙ away))) walk
