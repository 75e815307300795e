-- An event at a card is one at one of its lines.
use Rattle.lapd_card.proofs.Vocabulary.{arith, if◌then◌else◌, ◌≡◌, ℕ, ◌<◌, ◌-◌, false, List, [], ◌++◌, length, nat_lt, nat_le, refl, sym, ap, subst, ◌∙◌, Some, None, IsSome, Option, Ok, Err, Result, IfOk, IfErr, IfSome, OnOk, OnErr, lt-ltb, append-nil, set-get_or, set, map, flat_map, sum_by, zip, Refusal, Service, none_counted, BareReport, answer_of_request, told_beside, told_in, Config, refusal}
use Rattle.lapd_card.proofs.Vocabulary.{Request}
use Rattle.lapd_card.proofs.Vocabulary.{slots_of, octets_of, Card, line_at, used, is_full, Event, at, wants_room, after, refused_by_the_table, IfErr-weaker, moment_counted, Store, used_slots, stored_octets, used_slots-held, stored_octets-held, slots-machines, octets-machines, slots-pairs, octets-pairs, owned_octets, Owned, FrameLine, config_of, Held, counters_of, IsFit, owned, LinesStand}
use Rattle.lapd_card.proofs.Vocabulary.{FrameStands}
use Rattle.lapd_card.proofs.Vocabulary.{HasPast, Leads, Room, room_in, room, RefusesBy, refuses_by}
use Rattle.lapd_line.specs.Reports.{octets_of as told_octets}
use Rattle.lapd_line.specs.Stands as line
use Rattle.model_bits.specs.Stream as stream
use Rattle.model_line.specs.Event as line_event
use Rattle.model_line.specs.Line as machine
use Rattle.model_line.specs.Machine as lines
use Rattle.model_card.specs.Machine.{answer}
use Rattle.lapd_card.specs.Called.{Called}
use Rattle.model_card.proofs.Reaching.{reached-sound}
use Rattle.model_card.proofs.Steps.{has_lines, line_sound}
use Rattle.model_line.proofs.Placed.{place-few}
use Rattle.lapd_card.proofs.OneLine.{Found, one_holds, one_says, one_leads}
use Rattle.lapd_line.specs.declared.marks.Marks.{Marks}
use Rattle.lapd_card.proofs.Waiting.{Looked}
use Rattle.lapd_card.proofs.Served.{TakesNoSlot, heard_takes, has_room, answer_served, accepted_has_room}

-- What is told, or given, is no refusal.
pub told_unrefused : {t : line_event.LineTold} (why : Refusal) → line_event.told t ≡ line_event.refused why → ⊥
told_unrefused why is = cc

pub gave_unrefused : {next : Option line_event.NextFrame} (why : Refusal) → line_event.gave next ≡ line_event.refused why → ⊥
gave_unrefused why is = cc

-- so many slots do lines use
pub used_by : (c : Config) (lines : List FrameLine) (s : Store) (ms : List machine.Line) → LinesStand c lines s ms → used_slots s ≡ sum_by (slots_of c) ms
used_by c lines s ms stand =
    let pairs = flat_map owned (zip lines ms) in
    used_slots-held (pairs ++ []) stand.held
    ∙ ap length (append-nil pairs)
    ∙ slots-machines owned (slots_of c) lines ms stand.count (λ p d within. fits _ (stand.fit p d within))
  where
    fits : (p : FrameLine × machine.Line) → IsFit c p → length (owned p) ≡ slots_of c p.1
    fits p fit = slots-pairs p.0 fit.store fit.others p.1 fit.stands ∙ ap (λ d. slots_of d p.1) fit.config

module _ {S : Type 0} (store : S → Store) where
  -- the slots in use are those of the machine, and so are the octets in them
  pub used_is : (card : Held S) (m : Card) → FrameStands store card m → used_slots (store card.shelf) ≡ used m
  used_is card m s = used_by card.config card.lines (store card.shelf) m.lines s.lines ∙ ap (λ c. sum_by (slots_of c) m.lines) (sym s.config)

  pub octets_is : (card : Held S) (m : Card) → FrameStands store card m → stored_octets (store card.shelf) ≡ sum_by (octets_of m.config) m.lines
  octets_is card m s =
      let pairs = flat_map owned (zip card.lines m.lines) in
      stored_octets-held (pairs ++ []) s.lines.held
      ∙ ap owned_octets (append-nil pairs)
      ∙ octets-machines owned (octets_of card.config) card.lines m.lines s.lines.count (λ p d within. fits card.config _ (s.lines.fit p d within))
      ∙ ap (λ c. sum_by (octets_of c) m.lines) (sym s.config)
    where
      fits : (c : Config) (p : FrameLine × machine.Line) → IsFit c p → owned_octets (owned p) ≡ octets_of c p.1
      fits c p fit = octets-pairs p.0 fit.store fit.others p.1 fit.stands ∙ ap (λ d. octets_of d p.1) fit.config

  -- the machine of a card that a call finds counts its slots
  free : (card self : Held S) → card ≡ self → (m : Card) → FrameStands store self m → (slots : ℕ) → slots ≡ card.config.slots → (slots ≡ m.config.slots) × (used_slots (store card.shelf) ≡ used m)
  free card self same m stood slots is =
      let s = subst (λ c. FrameStands store c m) (sym same) stood in
      (is ∙ ap (λ c. c.slots) (sym s.config), used_is card m s)

  -- an event keeps a past
  pub past_after : {e : Event} {card self new : Held S} → card ≡ self → Leads store e self new → HasPast store card → HasPast store new
  past_after {e} same leads (m, s) = (after e m, leads.stands m (subst (λ c. FrameStands store c m) same s))

  module _ {card self : Held S} {i : ℕ} {x : FrameLine} (call : Found store card self i x) where
    -- what the line does with an event that takes no slot, the card does,
    pub event_leads : (e : line_event.Event) → TakesNoSlot e → {y : FrameLine} {t : S} {w : Marks} → line.Leads e x (store card.shelf) y (store t) → Looked i card.waiting y w
        → Leads store (at i e) self (record { config = card.config; lines = set card.lines i y; shelf = t; waiting = w })
    event_leads e takes {y} {t} {w} leads looked = one_leads store call e y t w leads looked (λ m s. has_room i e takes m)

    -- and answers what its line answers
    pub answers : (e : line_event.Event) (P : line_event.Answer → Type 0) → ((others : List Owned) (l : machine.Line) → line.LineStands x (store card.shelf) others l → P (lines.answer (config_of x) e l))
        → (m : Card) → FrameStands store self m → wants_room (at i e) m ≡ false → P (answer (at i e) m)
    answers e P says m s room = subst P (sym (answer_served i e m room)) (one_holds store call (λ c l. P (lines.answer c e l)) says m s)

    pub event_says : (e : line_event.Event) → TakesNoSlot e → (P : line_event.Answer → Type 0) → ((others : List Owned) (l : machine.Line) → line.LineStands x (store card.shelf) others l → P (lines.answer (config_of x) e l))
        → (m : Card) → FrameStands store self m → P (answer (at i e) m)
    event_says e takes P says m s = answers e P says m s (has_room i e takes m)

    -- So a call that is not refused is this event.
    pub event_called : (e : line_event.Event) → TakesNoSlot e → {r : line_event.Answer} → ((why : Refusal) → r ≡ line_event.refused why → ⊥)
        → ((others : List Owned) (l : machine.Line) → line.LineStands x (store card.shelf) others l → r ≡ lines.answer (config_of x) e l)
        → {y : FrameLine} {t : S} {w : Marks} → line.Leads e x (store card.shelf) y (store t) → Looked i card.waiting y w
        → Called store (at i e) r self (record { config = card.config; lines = set card.lines i y; shelf = t; waiting = w })
    event_called e takes {r} never told leads looked = record {
      answers = event_says e takes (λ a. r ≡ a) told;
      unchanged = λ why is. absurd (never why is);
      leads = event_leads e takes leads looked;
    }

    -- What is heard, if anything is, it serves so too.
    heard_as : (o : Option stream.Event) {t : line_event.LineTold} → ((others : List Owned) (l : machine.Line) → line.LineStands x (store card.shelf) others l → line_event.told t ≡ line.answer_if_heard (config_of x) o l)
        → (y : FrameLine) (s : S) (w : Marks) → line.LeadsIfHeard o x (store card.shelf) y (store s) → Looked i card.waiting y w
        → IfSome o (λ e. Called store (at i (line_event.hears e)) (line_event.told t) self (record { config = card.config; lines = set card.lines i y; shelf = s; waiting = w }))
    heard_as None says y s w leads looked = tt
    heard_as (Some e) says y s w leads looked = event_called (line_event.hears e) (heard_takes e) told_unrefused says leads looked

    pub heard_called : {o h : Option stream.Event} (bare : BareReport) → o ≡ h
        → ((others : List Owned) (l : machine.Line) → line.LineStands x (store card.shelf) others l → line_event.told (told_in (told_octets o) bare) ≡ line.answer_if_heard (config_of x) o l)
        → (y : FrameLine) (s : S) (w : Marks) → line.LeadsIfHeard o x (store card.shelf) y (store s) → Looked i card.waiting y w
        → IfSome h (λ e. Called store (at i (line_event.hears e)) (line_event.told (told_in (told_octets h) bare)) self (record { config = card.config; lines = set card.lines i y; shelf = s; waiting = w }))
    heard_called {o} {h} bare is says y s w leads looked =
        subst (λ h. IfSome h (λ e. Called store (at i (line_event.hears e)) (line_event.told (told_in (told_octets h) bare)) self (record { config = card.config; lines = set card.lines i y; shelf = s; waiting = w }))) is
        (heard_as o says y s w leads looked)

    pub heard_past : (o : Option stream.Event) (y : FrameLine) (t : S) (w : Marks) → IsSome o → line.LeadsIfHeard o x (store card.shelf) y (store t) → Looked i card.waiting y w
        → HasPast store (record { config = card.config; lines = set card.lines i y; shelf = t; waiting = w })
    heard_past None y t w some leads looked = absurd (cc)
    heard_past (Some e) y t w some leads looked = past_after call.same (event_leads (line_event.hears e) (heard_takes e) leads looked) call.past

    -- the line refuses by what the card holds
    pub refusal_is : (r : Request) (slots : ℕ) (o : Option Refusal) → slots ≡ card.config.slots
        → ((others : List Owned) (l : machine.Line) → line.LineStands x (store card.shelf) others l → refusal (config_of x) (nat_le slots (used_slots (store card.shelf))) r l ≡ o)
        → (m : Card) → FrameStands store self m → refusal m.config (is_full m) r (line_at i m) ≡ o
    refusal_is r slots o is says m s =
        let (most, taken) = free card self call.same m s slots is in
        ap (λ n. refusal m.config (nat_le m.config.slots n) r (line_at i m)) (sym taken)
        ∙ ap (λ n. refusal m.config (nat_le n (used_slots (store card.shelf))) r (line_at i m)) (sym most)
        ∙ one_holds store call (λ c l. refusal c (nat_le slots (used_slots (store card.shelf))) r l ≡ o) says m s

    -- and has room by what it leaves free
    pub room_is : (service : Service) (tei slots : ℕ) (r : Result Room Refusal) → slots ≡ card.config.slots
        → ((others : List Owned) (l : machine.Line) → line.LineStands x (store card.shelf) others l → r ≡ room_in (config_of x) (slots - used_slots (store card.shelf)) service tei l)
        → (m : Card) → FrameStands store self m → r ≡ room i service tei m
    room_is service tei slots r is says m s =
        let (most, taken) = free card self call.same m s slots is in
        one_says store call (λ c l. room_in c (slots - used_slots (store card.shelf)) service tei l) r says m s
        ∙ ap (λ n. room_in m.config (n - used_slots (store card.shelf)) service tei (line_at i m)) most
        ∙ ap (λ n. room_in m.config (m.config.slots - n) service tei (line_at i m)) taken

    -- what its line tells of a link, the card tells
    pub told_of_link : {A : Type 0} (asked : machine.Line → Option A) (r : Option A) → ((others : List Owned) (l : machine.Line) → line.LineStands x (store card.shelf) others l → r ≡ asked l)
        → (m : Card) → FrameStands store self m → r ≡ (if nat_lt i m.config.lines then asked (line_at i m) else None)
    told_of_link asked r is m s =
        one_says store call (λ c l. asked l) r is m s
        ∙ ap (λ b. if b then asked (line_at i m) else None) (sym (lt-ltb i m.config.lines (subst (λ c. i < c.lines) (sym s.config) call.within)))

    -- where a TEI is on a line is where it is on the machine's; and no place is past those of a line
    pub place_is : (tei : ℕ) (r : Option ℕ) → ((others : List Owned) (l : machine.Line) → line.LineStands x (store card.shelf) others l → r ≡ machine.place_in l tei)
        → (m : Card) → FrameStands store self m → r ≡ machine.place_in (line_at i m) tei
    place_is tei r is m s = one_says store call (λ c l. machine.place_in l tei) r is m s

    pub place_few : (tei : ℕ) (r : Option ℕ) → ((others : List Owned) (l : machine.Line) → line.LineStands x (store card.shelf) others l → r ≡ machine.place_in l tei)
        → IfSome r (λ place. place < self.config.terminals)
    place_few tei None is = tt
    place_few tei (Some place) is =
        let m = call.past.0 in
        let s = subst (λ c. FrameStands store c m) call.same call.past.1 in
        let sound = line_sound m i (has_lines m (reached-sound m s.reached)) (subst (λ c. i < c.lines) (sym s.config) call.within) in
        let within = place-few m.config (line_at i m) tei place sound (sym (place_is tei (Some place) is m s)) in
        omega (arith, within, ap (λ c. c.terminals) s.config)

-- so it refuses by its room
pub refuses_so : (number : ℕ) (service : Service) (tei : ℕ) (m : Card) (r : Result Room Refusal) → r ≡ room number service tei m
    → IfOk r (λ x. RefusesBy x number service tei m)
refuses_so number service tei m (Ok x) is = refuses_by m number service tei x (sym is)
refuses_so number service tei m (Err why) is = tt

-- A request, as a line answers it to a card: refused, where the table has a row for it, and else accepted.
pub record Requested {S : Type 0} (store : S → Store) (r : Request) (card : Held S) (i slots : ℕ) (x : FrameLine) (result : Result Unit Refusal) (o : BareReport) (y : FrameLine) (t : S) (w : Marks) : Type 0 where
  pub most : slots ≡ card.config.slots
  pub refused : IfErr result (λ why. (others : List Owned) (l : machine.Line) → line.LineStands x (store card.shelf) others l → refusal (config_of x) (nat_le slots (used_slots (store card.shelf))) r l ≡ Some why)
  pub accepted : OnOk result ((others : List Owned) (l : machine.Line) → line.LineStands x (store card.shelf) others l → refusal (config_of x) (nat_le slots (used_slots (store card.shelf))) r l ≡ None)
  pub unchanged : OnErr result (y ≡ x)
  pub kept : OnErr result (t ≡ card.shelf)
  pub unmarked : OnErr result (w ≡ card.waiting)
  pub told : OnOk result ((others : List Owned) (l : machine.Line) → line.LineStands x (store card.shelf) others l → line_event.told (told_beside None o) ≡ lines.answer (config_of x) (line_event.request r) l)
  pub leads : OnOk result (line.Leads (line_event.request r) x (store card.shelf) y (store t))
  pub looked : OnOk result (Looked i card.waiting y w)

module _ {S : Type 0} (store : S → Store) {r : Request} {card self : Held S} {i slots : ℕ} {x : FrameLine} (call : Found store card self i x) {o : BareReport} {y : FrameLine} {t : S} {w : Marks} where
  -- the card refuses and accepts with its line
  pub request_refused : (result : Result Unit Refusal) → Requested store r card i slots x result o y t w → IfErr result (λ why. (m : Card) → FrameStands store self m → refusal m.config (is_full m) r (line_at i m) ≡ Some why)
  request_refused result asked = IfErr-weaker result _ _ (λ why. refusal_is store call r slots (Some why) asked.most) asked.refused

  pub request_accepted : (result : Result Unit Refusal) → Requested store r card i slots x result o y t w → OnOk result ((m : Card) → FrameStands store self m → refusal m.config (is_full m) r (line_at i m) ≡ None)
  request_accepted (Ok done) asked = refusal_is store call r slots None asked.most asked.accepted
  request_accepted (Err why) asked = tt

  request_told : (result : Result Unit Refusal) → Requested store r card i slots x result o y t w → (m : Card) → FrameStands store self m → answer_of_request result o ≡ answer (at i (line_event.request r)) m
  request_told (Err why) asked m s = sym ((refused_by_the_table.refused_exactly m i r why).1 (request_refused (Err why) asked m s))
  request_told (Ok done) asked m s =
      answers store call (line_event.request r) (λ a. line_event.told (told_beside None o) ≡ a) asked.told m s (accepted_has_room r i m (request_accepted (Ok done) asked m s))

  -- one that is refused leaves the card as it is
  request_unchanged : (result : Result Unit Refusal) → Requested store r card i slots x result o y t w → OnErr result (record { config = card.config; lines = set card.lines i y; shelf = t; waiting = w } ≡ self)
  request_unchanged result asked = grind (arith, set-get_or)

  pub request_leads : (result : Result Unit Refusal) → Requested store r card i slots x result o y t w
      → Leads store (at i (line_event.request r)) self (record { config = card.config; lines = set card.lines i y; shelf = t; waiting = w })
  request_leads (Ok done) asked = one_leads store call (line_event.request r) y t w asked.leads asked.looked (λ m s. accepted_has_room r i m (request_accepted (Ok done) asked m s))
  request_leads (Err why) asked =
      let is = request_unchanged (Err why) asked in
      let refused = request_refused (Err why) asked in
      record {
        config = ap (λ c. c.config) is;
        stands = λ m s.
            let some = subst (λ o. IsSome o) (sym (refused m s)) refl in
            subst (FrameStands store _) (sym (refused_by_the_table.unchanged m i r some)) (subst (λ c. FrameStands store c m) (sym is) s);
        counted = λ m s.
            ap (λ c. map counters_of c.lines) is
            ∙ sym (set-get_or (map counters_of self.lines) i none_counted)
            ∙ ap (λ a. moment_counted (map counters_of self.lines) (record { card = m; event = at i (line_event.request r); answer = a })) (sym ((refused_by_the_table.refused_exactly m i r why).1 (refused m s)));
      }

  request_kept : (result : Result Unit Refusal) → Requested store r card i slots x result o y t w → (why : Refusal) → answer_of_request result o ≡ line_event.refused why
      → record { config = card.config; lines = set card.lines i y; shelf = t; waiting = w } ≡ self
  request_kept (Ok done) asked why is = absurd (told_unrefused why is)
  request_kept (Err e) asked why is = request_unchanged (Err e) asked

  pub request_called : (result : Result Unit Refusal) → Requested store r card i slots x result o y t w
      → Called store (at i (line_event.request r)) (answer_of_request result o) self (record { config = card.config; lines = set card.lines i y; shelf = t; waiting = w })
  request_called result asked = record { answers = request_told result asked; unchanged = request_kept result asked; leads = request_leads result asked }

-- What a card answers to a request says what its table of refusals does.
pub refused_so : (m : Card) (i : ℕ) (r : Request) (why : Refusal) → line_event.refused why ≡ answer (at i (line_event.request r)) m → refusal m.config (is_full m) r (line_at i m) ≡ Some why
refused_so m i r why is = (refused_by_the_table.refused_exactly m i r why).0 (sym is)

pub accepted_so : (m : Card) (i : ℕ) (r : Request) {t : line_event.LineTold} → line_event.told t ≡ answer (at i (line_event.request r)) m → refusal m.config (is_full m) r (line_at i m) ≡ None
accepted_so m i r is = go (refusal m.config (is_full m) r (line_at i m)) refl
  where
    go : (o : Option Refusal) → refusal m.config (is_full m) r (line_at i m) ≡ o → o ≡ None
    go None none = refl
    go (Some why) some = absurd (told_unrefused why (is ∙ (refused_by_the_table.refused_exactly m i r why).1 some))
