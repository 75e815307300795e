-- What questions are answered.
use Rattle.std.specs.Prelude.{◌==◌, ◌+◌, ◌-◌, ◌++◌, ◌||◌, Result, Err, slice_get, fold, find, flat_map, map, is_some, if◌then◌else◌}
use Rattle.lapd_c.proofs.Vocabulary.{◌≡◌, ◌∷◌, ◌<◌, ℕ, suc, Bool, true, false, cond, Option, None, Some, IfSome, Ok, option_map, List, [], length, inl, inr, refl, sym, ap, subst, ◌∙◌, arith, not, nat_lt, cases_lt, and_parts, false≢true, Card, Line, Machine, with_ports, alone, card_in, OctetCard, Service, answer, at, next}
use Rattle.std.proofs.lemmas.Bool.{lt-ltb, ltb-true, ne_eqb}
use Rattle.std.specs.Option.{option_map_or, unwrap_or}
use Rattle.model_bits.specs.Heads.{head_of, or_later}
use Rattle.model_bits.specs.Framer.{last_octets}
use Rattle.model_bits.specs.OpenGap.{octets_held}
use Rattle.model_bits.specs.Sent as item
use Rattle.model_bits.specs.Sent.{Item, idle}
use Rattle.model_bits.specs.Stream as stream
use Rattle.model_bits.specs.Stream.{Event, dropped, heard_in, overlong}
use Rattle.model_bits.specs.declared.heads.Head.{Head}
use Rattle.lapd_frame.specs.declared.refusals.Refusal.TheVariants.{BadTei, NoLink}
use Rattle.lapd_frame.specs.declared.services.Service.TheVariants.{Call, Packet}
use Rattle.model_teis.specs.Table.{has}
use Rattle.model_link.specs.Link.{fresh}
use Rattle.model_link.specs.Room as link
use Rattle.model_line.specs.Counts.{is_given}
use Rattle.model_line.specs.Line.{counts_in, counts_of, has_tei, link_in, link_of, place_in, terms}
use Rattle.model_line.specs.Room.{unless}
use Rattle.model_card.specs.Card.{line_at, state}
use Rattle.model_card.specs.Room.{free}
use Rattle.model_card.specs.ports.Card.{port_at}
use Rattle.model_card.specs.ports.FrameHeard.{before_latest, octets_in}
use Rattle.model_card.specs.ports.HeadHeard.{or_heard}
use Rattle.model_card.specs.Stored as of_frames
use Rattle.model_card.specs.ports.Port.{Port, left_of}
use Rattle.model_card.specs.ports.Stored.{held_at, limit}
use Rattle.lapd_card.proofs.Waiting.{first_waiting}
use Rattle.lapd_c.proofs.LinksTold.{links_are_told_by}
use Rattle.lapd_c.proofs.QuestionsServed.{questions_change_nothing_by}
use Rattle.lapd_card.specs.Waiting.{IsFirstWaiting, has_next, next_waiting, waits_on}
use Rattle.std.specs.List.{list_any, position, range_with_len}
use Rattle.lapd_c.specs.Counters.{plain_link_counters}
use Rattle.lapd_c.specs.Heads.{plain_head}
use Rattle.lapd_c.proofs.FramesComing.{coming}
use Rattle.lapd_c.specs.QuestionWords.{begun_frame_of, begun_of, heard_frame_of, in_front, link_counters_at, link_counters_of, or_status, room_at, room_of, room_told, state_of, waiting_from}
use Rattle.lapd_c.specs.Changed.{changed_at, changed_of}
use Rattle.lapd_timed.specs.declared.card_timers.CardTimers.{CardTimers}
use Rattle.lapd_c.specs.Slots.{HeldCard}
use Rattle.lapd_c.specs.Cards.{StandsIn}
use Rattle.lapd_c.specs.Kept.{ChangesStandIn, timers_held}
use Rattle.lapd_c.specs.ChangesAnswered.{ChangesAreAnswered, number_in}
use Rattle.lapd_c.proofs.Halves.{even, odd}
use Rattle.model_teis.proofs.Tables.{place_of-is}
use Rattle.lapd_timed.specs.Marked.{moment_in}
use Rattle.lapd_timed.specs.Places.{number_at}
use Rattle.model_link.specs.Link.{state_number}
use Rattle.model_line.specs.Line.{link_at, link_number, place_at, tei_at}
use Rattle.model_timed.specs.Changes.{Marks, standing}
use Rattle.lapd_c.specs.QuestionsAnswered.{GivesNone, HasEnded, IsNoService, WaitsFirst, NoneWaits, QuestionsAreAnswered, beginning, beginning_in, counters_beside, frame_in, frames_in, last_or, octets_heard, octets_of, octets_on_their_way, room_beside, whole_in}
use Rattle.lapd_c.specs.Services.{if_ok, number_of, or_wrong_service}
use Rattle.lapd_c.specs.Statuses.{wrong_tei}
use Rattle.lapd_c.specs.Timers as timers
use Rattle.lapd_c.specs.Timers.{with_tei}
use Rattle.lapd_c.specs.declared.plain.counters.PlainLinkCounters.{PlainLinkCounters}
use Rattle.lapd_c.specs.declared.plain.heads.PlainHead.{PlainHead}
use Rattle.lapd_c.specs.declared.plain.rooms.PlainRoom.{PlainRoom}

-- the card of frames
inside : (m : Machine) → card_in m ≡ frames_in m
inside (with_ports m) = refl
inside (alone m) = refl

-- ---- a link

link_by : (s : Service) (tei : ℕ) → timers.link_in (number_of s) tei ≡ (if nat_lt 126 tei then Err wrong_tei else Ok (s, tei))
link_by Call tei = refl
link_by Packet tei = refl

state_told : (line tei : ℕ) (s : Service) (m : Machine) → state_of line (number_of s) tei m
    ≡ (if nat_lt 126 tei then Err 16 else Ok (unwrap_or (state line s tei (frames_in m)) 0))
state_told line tei s m =
    let asked = λ (r : Result (Service × ℕ) ℕ). if_ok (λ (link : Service × ℕ). unwrap_or (state line link.0 link.1 (card_in m)) 0) r in
    ap asked (link_by s tei) ∙ by_case (nat_lt 126 tei)
    ∙ ap (λ (c : Card). if nat_lt 126 tei then Err 16 else Ok (unwrap_or (state line s tei c) 0)) (inside m)
  where
    by_case : (b : Bool) → if_ok (λ (link : Service × ℕ). unwrap_or (state line link.0 link.1 (card_in m)) 0) (if b then Err wrong_tei else Ok (s, tei))
        ≡ (if b then Err 16 else Ok (unwrap_or (state line s tei (card_in m)) 0))
    by_case true = refl
    by_case false = refl

-- a room by its two tests
abbrev told_if : ℕ → ℕ → Service → Card → Bool → Bool → Result PlainRoom ℕ
told_if line tei s c bad on =
    room_told (unless (if bad then Some BadTei else if not on then Some NoLink else None) (link.room_of (terms c.config s tei) (free c) (link_of s tei (line_at line c))))

abbrev room_if : ℕ → ℕ → Service → Card → Bool → Bool → Result PlainRoom ℕ
room_if line tei s c high on = if high then Err 16 else if on then Ok (room_beside (link_of s tei (line_at line c)) c) else Err 2

room_there : (line tei : ℕ) (s : Service) (m : Machine)
    → room_of line (number_of s) tei m ≡ room_if line tei s (frames_in m) (nat_lt 126 tei) (has_tei tei (line_at line (frames_in m)))
room_there line tei s m =
    ap (λ (r : Result (Service × ℕ) ℕ). room_at line (card_in m) r) (link_by s tei)
    ∙ by_case (card_in m) (nat_lt 126 tei) refl (has_tei tei (line_at line (card_in m))) refl
    ∙ ap (λ (c : Card). room_if line tei s c (nat_lt 126 tei) (has_tei tei (line_at line c))) (inside m)
  where
    by_case : (c : Card) (b : Bool) → nat_lt 126 tei ≡ b → (t : Bool) → has_tei tei (line_at line c) ≡ t → room_at line c (if b then Err wrong_tei else Ok (s, tei)) ≡ room_if line tei s c b t
    by_case c true is t on = refl
    by_case c false is true on = ap (λ (x : Bool). told_if line tei s c x (has_tei tei (line_at line c))) is ∙ ap (λ (x : Bool). told_if line tei s c false x) on
    by_case c false is false on = ap (λ (x : Bool). told_if line tei s c x (has_tei tei (line_at line c))) is ∙ ap (λ (x : Bool). told_if line tei s c false x) on

-- the place of the first is that of the head, or one of the rest
first_of : {X : Type 0} (p : X → Bool) (x : X) (xs : List X) → position p (x ∷ xs) ≡ cond (p x) (Some 0) (option_map suc (position p xs))
first_of p x xs = grind arith

-- a TEI has a place if it is on the line
has_place : {X : Type 0} (p : X → Bool) (xs : List X) → is_some (position p xs) ≡ list_any p xs
has_place p [] = refl
has_place p (x ∷ xs) = ap is_some (first_of p x xs) ∙ go (has_place p xs) (p x)
  where
    later : (o : Option ℕ) → is_some (option_map suc o) ≡ is_some o
    later None = refl
    later (Some n) = refl

    go : is_some (position p xs) ≡ list_any p xs → (b : Bool) → is_some (cond b (Some 0) (option_map suc (position p xs))) ≡ (b || list_any p xs)
    go rest true = refl
    go rest false = later (position p xs) ∙ rest

-- what was counted of a link, by its tests
abbrev counters_if : ℕ → ℕ → Service → Card → Bool → Result PlainLinkCounters ℕ
counters_if line tei s c high =
    let l = line_at line c in if high then Err 16 else if has_tei tei l then Ok (counters_beside (link_of s tei l)) else Err 2

counters_there : (line tei : ℕ) (s : Service) (m : Machine) → line < (frames_in m).config.lines
    → link_counters_of line (number_of s) tei m ≡ counters_if line tei s (frames_in m) (nat_lt 126 tei)
counters_there line tei s m within =
    ap (λ (r : Result (Service × ℕ) ℕ). link_counters_at line (card_in m) r) (link_by s tei)
    ∙ ap (λ (c : Card). link_counters_at line c (if nat_lt 126 tei then Err wrong_tei else Ok (s, tei))) (inside m)
    ∙ by_case (frames_in m) within (nat_lt 126 tei)
  where
    at_place : (l : Line) (o : Option ℕ) → or_status 2 (option_map plain_link_counters (option_map (counts_in l s) o))
        ≡ (if is_some o then Ok (counters_beside (option_map_or (link_in l s) o fresh)) else Err 2)
    at_place l None = refl
    at_place l (Some place) = refl

    on_line : (l : Line) → or_status 2 (option_map plain_link_counters (counts_of s tei l)) ≡ (if has_tei tei l then Ok (counters_beside (link_of s tei l)) else Err 2)
    on_line l =
        at_place l (place_in l tei)
        ∙ ap (λ (b : Bool). if b then Ok (counters_beside (link_of s tei l)) else Err 2) (has_place (has tei) l.management.places)

    by_case : (c : Card) → line < c.config.lines → (b : Bool) → link_counters_at line c (if b then Err wrong_tei else Ok (s, tei)) ≡ counters_if line tei s c b
    by_case c there true = refl
    by_case c there false =
        ap (λ (b : Bool). or_status 2 (option_map plain_link_counters (if b then counts_of s tei (line_at line c) else None))) (lt-ltb line c.config.lines there)
        ∙ on_line (line_at line c)

-- a link that numbers do not name
of_no_link : (line service tei status : ℕ) (m : Machine) → timers.link_in service tei ≡ Err status
    → (state_of line service tei m ≡ Err status) × (room_of line service tei m ≡ Err status) × (link_counters_of line service tei m ≡ Err status)
of_no_link line service tei status m is = (
  ap (λ (r : Result (Service × ℕ) ℕ). if_ok (λ (link : Service × ℕ). unwrap_or (state line link.0 link.1 (card_in m)) 0) r) is,
  ap (λ (r : Result (Service × ℕ) ℕ). room_at line (card_in m) r) is,
  ap (λ (r : Result (Service × ℕ) ℕ). link_counters_at line (card_in m) r) is,
)

service_other : (service tei : ℕ) → IsNoService service → timers.link_in service tei ≡ Err 15
service_other service tei none =
    ap (λ (b : Bool). with_tei tei (or_wrong_service (if b then Some Call else if service == 16 then Some Packet else None))) (ne_eqb service 0 none.0)
    ∙ ap (λ (b : Bool). with_tei tei (or_wrong_service (if b then Some Packet else None))) (ne_eqb service 16 none.1)

-- ---- when its state changed last

changed_there : (line tei : ℕ) (s : Service) (m : Card) (marks : Marks) → let l = line_at line m in changed_of line (number_of s) tei m marks
    ≡ (if nat_lt 126 tei then Err 16 else if has_tei tei l then Ok (marks line (number_in s tei l)).moment else Err 2)
changed_there line tei s m marks = ap (λ (r : Result (Service × ℕ) ℕ). changed_at line m marks r) (link_by s tei) ∙ by_case (nat_lt 126 tei)
  where
    at_place : (o : Option ℕ) → or_status 2 (option_map (moment_in marks line) (option_map (number_at s) o)) ≡ (if is_some o then Ok (marks line (link_number (unwrap_or o 0) s)).moment else Err 2)
    at_place None = refl
    at_place (Some place) = refl

    by_case : (b : Bool) → changed_at line m marks (if b then Err wrong_tei else Ok (s, tei)) ≡ (if b then Err 16 else if has_tei tei (line_at line m) then Ok (marks line (number_in s tei (line_at line m))).moment else Err 2)
    by_case true = refl
    by_case false =
        at_place (place_in (line_at line m) tei) ∙ ap (λ (b : Bool). if b then Ok (marks line (number_in s tei (line_at line m))).moment else Err 2) (has_place (has tei) (line_at line m).management.places)

place_there : (s : Service) (place : ℕ) → place_at (link_number place s) ≡ place
place_there Call place = (even place).1
place_there Packet place = (odd place).1

of_link : (tei : ℕ) (s : Service) (l : Line) → has_tei tei l ≡ true → standing (number_in s tei l) l ≡ state_number (link_of s tei l).state
of_link tei s l on = go (place_in l tei) refl
  where
    go : (o : Option ℕ) → place_in l tei ≡ o → standing (link_number (unwrap_or o 0) s) l ≡ state_number (option_map_or (link_in l s) o fresh).state
    go None e = absurd (false≢true (sym (ap is_some e) ∙ has_place (has tei) l.management.places ∙ on))
    go (Some place) e =
        let state = state_number (link_at (link_number place s) l).state in
        ap (λ (p : ℕ). if is_some (tei_at p l) then state else 0) (place_there s place)
        ∙ ap (λ (o : Option ℕ). if is_some o then state else 0) ((place_of-is l.management.places tei place e).1)

changes_are_answered : ChangesAreAnswered
changes_are_answered = record {
  moment = changed_there;
  no_service = λ line service tei m marks call packet. ap (λ (r : Result (Service × ℕ) ℕ). changed_at line m marks r) (service_other service tei (call, packet));
  of_link = of_link;
  told = λ is result after t. t;
  not_told = λ wrong result after t. t;
  its_card = λ line service tei result after h kept timers m marks told is own stands changes.
      told m marks (subst (λ (held : HeldCard). StandsIn held m) (sym is) stands)
      (subst (λ (held : Option CardTimers). ChangesStandIn held (card_in m) marks) (sym (ap timers_held is ∙ own)) changes);
}

-- ---- frames that begin and are heard

begins : (octets : List ℕ) → plain_head (head_of octets) ≡ beginning octets
begins [] = refl
begins (a ∷ []) = refl
begins (a ∷ b ∷ []) = refl
begins (a ∷ b ∷ c ∷ []) = refl
begins (a ∷ b ∷ c ∷ d ∷ more) = refl

latest_is : (before : List ℕ) (items : List Item) → fold or_later before items ≡ last_or before (flat_map frame_in items)
latest_is before [] = refl
latest_is before (idle ∷ items) = latest_is before items
latest_is before (item.frame octets ∷ items) = latest_is octets items

begun_told : (line : ℕ) (m : OctetCard) → begun_of line (with_ports m) ≡ Ok (beginning (last_or [] (flat_map frame_in (port_at line m).items)))
begun_told line m =
    ap (λ (o : List ℕ). Ok (plain_head (head_of o))) (latest_is [] (port_at line m).items) ∙ ap Ok (begins (last_or [] (flat_map frame_in (port_at line m).items)))

heard_last : (n201 : ℕ) (before : Option Head) (events : List Event) → plain_head (fold (or_heard n201) before events) ≡ last_or (plain_head before) (flat_map (beginning_in n201) events)
heard_last n201 before [] = refl
heard_last n201 before (stream.frame octets ∷ events) =
    heard_last n201 (head_of octets) events ∙ ap (λ (h : PlainHead). last_or h (flat_map (beginning_in n201) events)) (begins octets)
heard_last n201 before (overlong four ∷ events) = heard_last n201 (Some (record { octets = four; length = n201 + 5 })) events
heard_last n201 before (dropped cause ∷ events) = heard_last n201 before events

-- ---- whole frames

begun_whole : (line : ℕ) (out : List ℕ) (m : OctetCard) → begun_frame_of line out (with_ports m) ≡ whole_in out (last_or [] (flat_map frame_in (port_at line m).items))
begun_whole line out m = ap (whole_in out) (latest_is [] (port_at line m).items)

at_end : {X : Type 0} (xs : List X) (x : X) → slice_get (xs ++ x ∷ []) (length xs) ≡ Some x
at_end [] x = refl
at_end (y ∷ xs) x = at_end xs x

past_end : {X : Type 0} (xs : List X) → slice_get (xs ++ []) (length xs) ≡ None
past_end [] = refl
past_end (x ∷ xs) = past_end xs

octets_are : (e : Event) → octets_in e ≡ octets_heard e
octets_are (stream.frame octets) = refl
octets_are (overlong four) = refl
octets_are (dropped cause) = refl

-- what is heard after some others, if anything is
abbrev whole_of : List ℕ → List Event → List Event → Result (List ℕ × ℕ) ℕ
whole_of out before heard = in_front out (option_map_or octets_in (slice_get heard (length before)) [])

heard_whole : (line : ℕ) (out : List ℕ) (m : OctetCard) (e : Event) → HasEnded line m (e ∷ []) → heard_frame_of line out (with_ports m) ≡ whole_in out (octets_heard e)
heard_whole line out m e is =
    let before = heard_in m.card.config.n201 (before_latest (port_at line m).received) in
    ap (whole_of out before) is ∙ ap (λ (o : Option Event). in_front out (option_map_or octets_in o [])) (at_end before e) ∙ ap (whole_in out) (octets_are e)

none_whole : (line : ℕ) (out : List ℕ) (m : OctetCard) → HasEnded line m [] → heard_frame_of line out (with_ports m) ≡ Err 28
none_whole line out m is =
    let before = heard_in m.card.config.n201 (before_latest (port_at line m).received) in
    ap (whole_of out before) is ∙ ap (λ (o : Option Event). in_front out (option_map_or octets_in o [])) (past_end before)

-- ---- frames that wait

not_given : (line : ℕ) (m : Card) → GivesNone m line → is_given (answer (at line next) m) ≡ true → ⊥
not_given line m none given = false≢true (sym (ap is_given none) ∙ given)

waits_there : (from line : ℕ) (m : Card) → WaitsFirst m from line → waiting_from from (alone m) ≡ Ok line
waits_there from line m is = go (next_waiting from m) (first_waiting from m)
  where
    go : (o : Option ℕ) → IsFirstWaiting from m o → or_status 28 o ≡ Ok line
    go None h = absurd (not_given line m (h.others line is.after is.within) (ap is_given is.gives))
    go (Some k) h = elim (cases_lt k line) [
      | inl less ↦ absurd (not_given k m (is.before k h.gives.0 less) h.gives.1)
      | inr past ↦ elim (cases_lt line k) [
        | inl less ↦ absurd (not_given line m (h.others line is.after less) (ap is_given is.gives))
        | inr there ↦ let same : k ≡ line = omega (arith, past, there) in ap (λ (n : ℕ). Ok n) same
      ]
    ]

found : (test : ℕ → Bool) (all : List ℕ) → IfSome (find test all) (λ k. test k ≡ true)
found test [] = tt
found test (x ∷ all) = (elim (test x) as (λ b. test x ≡ b → IfSome (cond b (Some x) (find test all)) (λ k. test k ≡ true)) [
  | true ↦ λ is. is
  | false ↦ λ is. found test all
]) refl

none_waits_there : (from : ℕ) (m : Card) → NoneWaits m from → waiting_from from (alone m) ≡ Err 28
none_waits_there from m none = go (next_waiting from m) (found (waits_on m) (range_with_len from (m.config.lines - from))) (first_waiting from m)
  where
    go : (o : Option ℕ) → IfSome o (λ k. has_next k m ≡ true) → IsFirstWaiting from m o → or_status 28 o ≡ Err 28
    go None is h = refl
    go (Some k) is h =
        let within = ltb-true k m.config.lines (and_parts (nat_lt k m.config.lines) (is_given (answer (at k next) m)) is).0 in
        absurd (not_given k m (none k h.gives.0 within) h.gives.1)

-- ---- what is stored

last_is : (items : List Item) → last_octets items ≡ length (last_or [] (map octets_of items))
last_is [] = refl
last_is (idle ∷ []) = refl
last_is (item.frame octets ∷ []) = refl
last_is (one ∷ other ∷ items) = last_is (other ∷ items)

held_is : (n201 : ℕ) (p : Port) → held_at n201 p ≡ octets_on_their_way n201 p
held_is n201 p = ap (λ n. octets_held n201 p.received + (if nat_lt (length (left_of p)) 8 then 0 else n)) (last_is p.items)

same_sum : (f g : Port → ℕ) → ((p : Port) → f p ≡ g p) → (ps : List Port) → (n : ℕ) → fold (λ a p. a + f p) n ps ≡ fold (λ a p. a + g p) n ps
same_sum f g same [] n = refl
same_sum f g same (p ∷ ps) n = ap (λ k. fold (λ a p. a + f p) (n + k) ps) (same p) ∙ same_sum f g same ps (n + g p)

pub questions_are_answered_by : QuestionsAreAnswered
questions_are_answered_by = record {
  served = (questions_change_nothing_by _, questions_change_nothing_by _, questions_change_nothing_by _, questions_change_nothing_by _, questions_change_nothing_by _, questions_change_nothing_by _);
  has = λ line m within. within;
  has_any = λ m. tt;
  lacks = λ line m past. past;
  state = state_told;
  room = room_there;
  link_counters = counters_there;
  changes = changes_are_answered;
  no_service = λ line service tei m none. of_no_link line service tei 15 m (service_other service tei none);
  links = links_are_told_by;
  begun = begun_told;
  heard = λ line m. ap Ok (heard_last m.card.config.n201 None (heard_in m.card.config.n201 (port_at line m).received));
  no_octets = λ line m. (refl, refl);
  begun_frame = begun_whole;
  heard_frame = heard_whole;
  none_ended = none_whole;
  no_whole = λ line out m. (refl, refl);
  waits = waits_there;
  none_waits = none_waits_there;
  counters = λ c. refl;
  stored = λ m. refl;
  stored_at_ports = λ m. ap (λ n. Ok (of_frames.stored m.card + n)) (same_sum (held_at m.card.config.n201) (octets_on_their_way m.card.config.n201) (held_is m.card.config.n201) m.ports 0);
  coming = coming;
  stored_alone = λ m. refl;
  limit = λ m. ap (λ (c : Card). Ok (limit c.config)) (inside m);
  lines = λ m. ap (λ (c : Card). Ok c.config.lines) (inside m);
  text = λ octets side room. refl;
}
