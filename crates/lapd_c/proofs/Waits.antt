-- Which links wait for room, how long, and what is told of them.
use Rattle.std.specs.Prelude.{◌≢◌, ◌⊎◌, ◌/◌, ◌%◌, ◌==◌, ◌||◌, Err, not, if◌then◌else◌}
use Rattle.lapd_c.proofs.Vocabulary.{◌≡◌, ◌≤◌, ◌<◌, ◌+◌, ◌*◌, ◌&&◌, ℕ, Bool, true, false, Option, None, Some, List, [], length, Ok, Result, inl, inr, refl, sym, ap, subst, ◌∙◌, cond, and_parts, arith, cases_lt, nat_lt, false≢true, Service, service_at, tei_at}
use Rattle.std.proofs.lemmas.Bool.{eq-eqb, eqb-false, eqb-true, lt-ltb, ltb-true}
use Rattle.std.proofs.lemmas.List.{set_past, length-set, get_or-set_same, get_or-set_other}
use Rattle.lapd_frame.specs.declared.refusals.Refusal.{Refusal}
use Rattle.lapd_frame.specs.declared.services.Service.TheVariants.{Call, Packet}
use Rattle.lapd_frame.specs.Services.{sapi_of}
use Rattle.model_card.specs.Card.{Card}
use Rattle.model_card.specs.Room.{room}
use Rattle.model_link.specs.declared.rooms.Room.{Room}
use Rattle.lapd_c.specs.LinkMarks.{MarksBecome, is_marked, marks_of}
use Rattle.lapd_c.specs.LinkPlaces.{place_of}
use Rattle.lapd_c.specs.Reopened.{AreShutBelow, IsFirstOpen, ShowsReopened, TellsReopened, WaitsFor, is_for_more, is_open, is_room, is_there, is_told, refused_place, waits_on, waits_there}
use Rattle.lapd_c.proofs.Halves.{even, evenly, odd, oddly}
use Rattle.lapd_c.specs.Waits.{HasRoom, IsTold, LinksReopen, ToldOne, Waits, WaitsMore, WaitsOn}
use Rattle.lapd_c.specs.declared.link_marks.LinkMarks.{LinkMarks}
use Rattle.lapd_c.specs.declared.plain.reports.PlainReport.{PlainReport}

-- ---- the marks after a change of one line

module _ (old new : List LinkMarks) (line : ℕ) (test : ℕ → Bool) (h : MarksBecome line test old new) where
  same_count : length new ≡ length old
  same_count = ap (λ (all : List LinkMarks). length all) h.all ∙ length-set old line h.links

  at_line : line < length old → marks_of new line ≡ h.links
  at_line within = ap (λ (all : List LinkMarks). marks_of all line) h.all ∙ get_or-set_same old line h.links (record { words = [] }) within

  elsewhere : (other : ℕ) → other ≢ line → marks_of new other ≡ marks_of old other
  elsewhere other differs = ap (λ (all : List LinkMarks). marks_of all other) h.all ∙ get_or-set_other old line other h.links (record { words = [] }) differs

  now_marked : (place : ℕ) → line < length old → place < 254 → is_marked (marks_of new line) place ≡ test place
  now_marked place within few = ap (λ (m : LinkMarks). is_marked m place) (at_line within) ∙ h.marks within place few

  behind : length old ≤ line → new ≡ old
  behind past = h.all ∙ set_past old line h.links past

-- so one that waited waits where the test has it
waits_if : (all other : List LinkMarks) (line tei : ℕ) (service : Service) (w : Waits other line service tei) → is_marked (marks_of all line) w.place ≡ true → Waits all line service tei
waits_if all other line tei service w is = record { place = w.place; within = w.within; of_service = w.of_service; of_tei = w.of_tei; marked = is }

waits_elsewhere : (old new : List LinkMarks) (line other tei : ℕ) (service : Service) (test : ℕ → Bool) → MarksBecome line test old new → other ≢ line → Waits old other service tei → Waits new other service tei
waits_elsewhere old new line other tei service test h differs w =
    waits_if new old other tei service w (ap (λ (m : LinkMarks). is_marked m w.place) (elsewhere old new line test h other differs) ∙ w.marked)

-- ---- a link that is refused waits

itself : (place : ℕ) (b : Bool) → ((place == place) || b) ≡ true
itself place b = grind (arith, eqb-true)

refused_link : (old new : List LinkMarks) (line sapi tei : ℕ) (its : Service) → service_at (place_of sapi tei) ≡ its → tei_at (place_of sapi tei) ≡ tei → place_of sapi tei < 254 → WaitsFor (refused_place 5 3 sapi tei) line old new
    → tei ≤ 126 → line < length old → Waits new line its tei
refused_link old new line sapi tei its service is_tei less h few within =
    let place = place_of sapi tei in
    let is : WaitsFor (Some place) line old new = subst (λ (b : Bool). WaitsFor (cond b (Some place) None) line old new) (lt-ltb tei 127 (omega (arith, few))) h in
    record { place = place; within = less; of_service = service; of_tei = is_tei; marked = now_marked old new line _ is place within less ∙ itself place _ }

refused_waits : (old new : List LinkMarks) (line tei : ℕ) (service : Service) → WaitsFor (refused_place 5 3 (sapi_of service) tei) line old new → tei ≤ 126 → line < length old → Waits new line service tei
refused_waits old new line tei Call h few within =
    refused_link old new line 0 tei Call (ap (λ (n : ℕ). cond (n == 0) Call Packet) ((even tei).0)) (even tei).1 (omega (arith, few)) h few within
refused_waits old new line tei Packet h few within =
    refused_link old new line 16 tei Packet (ap (λ (n : ℕ). cond (n == 0) Call Packet) ((odd tei).0)) (odd tei).1 (omega (arith, few)) h few within

-- and each that waited goes on
either : (b c : Bool) → c ≡ true → (b || c) ≡ true
either b c is = grind arith

stays_by : (place : Option ℕ) (old new : List LinkMarks) (line other tei : ℕ) (service : Service) → WaitsFor place line old new → Waits old other service tei → Waits new other service tei
stays_by None old new line other tei service h w = subst (λ (all : List LinkMarks). Waits all other service tei) (sym h) w
stays_by (Some place) old new line other tei service h w =
    (elim (other == line) as (λ b. (other == line) ≡ b → Waits new other service tei) [
      | true ↦ λ is. let same : other ≡ line = eqb-true other line is in
          subst (λ (n : ℕ). Waits old n service tei → Waits new n service tei) (sym same) (λ v. elim (cases_lt line (length old)) [
            | inl within ↦ waits_if new old line tei service v (now_marked old new line _ h v.place within v.within ∙ either (place == v.place) _ v.marked)
            | inr past ↦ subst (λ (all : List LinkMarks). Waits all line service tei) (sym (behind old new line _ h past)) v
          ]) w
      | false ↦ λ is. waits_elsewhere old new line other tei service _ h (eqb-false other line is) w
    ]) refl

same_lines_by : (place : Option ℕ) (old new : List LinkMarks) (line : ℕ) → WaitsFor place line old new → length new ≡ length old
same_lines_by None old new line h = ap (λ (all : List LinkMarks). length all) h
same_lines_by (Some place) old new line h = same_count old new line _ h

-- ---- what a report tells

there : (line tei : ℕ) (service : Service) (m : Card) (left : Room) (all : List LinkMarks) (w : Waits all line service tei) → HasRoom line service tei m left
    → room line (service_at w.place) (tei_at w.place) m ≡ Ok left
there line tei service m left all w is =
    subst (λ (s : Service). room line s (tei_at w.place) m ≡ Ok left) (sym w.of_service) (subst (λ (t : ℕ). room line service t m ≡ Ok left) (sym w.of_tei) is)

goes_on : (told : Option ℕ) (a b : Bool) → a ≡ true → b ≡ true → (c : Bool) → c ≡ false → ((a && b) && not c) ≡ true
goes_on told a b is its c out = grind arith

told_or_waits : (told : Option ℕ) (old new : List LinkMarks) (line tei : ℕ) (service : Service) (m : Card) (r : PlainReport) (left : Room)
    → ShowsReopened r told → MarksBecome line (waits_on told line m (marks_of old line)) old new → line < length old → Waits old line service tei → HasRoom line service tei m left
    → IsTold r service tei ⊎ Waits new line service tei
told_or_waits None old new line tei service m r left shown h within w is =
    inr (waits_if new old line tei service w (now_marked old new line _ h w.place within w.within ∙ goes_on None _ _ w.marked (ap is_room (there line tei service m left old w is)) false refl))
told_or_waits (Some place) old new line tei service m r left shown h within w is =
    (elim (place == w.place) as (λ b. (place == w.place) ≡ b → IsTold r service tei ⊎ Waits new line service tei) [
      | true ↦ λ its. let same : place ≡ w.place = eqb-true place w.place its in
          inl (record {
            reopened = shown.0;
            of_service = shown.1 ∙ ap (λ (n : ℕ). sapi_of (service_at n)) same ∙ ap sapi_of w.of_service;
            of_tei = shown.2 ∙ ap tei_at same ∙ w.of_tei;
          })
      | false ↦ λ its. inr (waits_if new old line tei service w (now_marked old new line _ h w.place within w.within ∙ goes_on (Some place) _ _ w.marked (ap is_room (there line tei service m left old w is)) (place == w.place) its))
    ]) refl

-- the report that tells of a link says so; one that tells of none, though one is open, does not stand
told-one : (told : Option ℕ) (line place : ℕ) (m : Card) (waits : LinkMarks) (report : PlainReport) → IsFirstOpen told line m waits → ShowsReopened report told
    → place < 254 → is_marked waits place ≡ true → is_open line m place ≡ true → report.reopened ≡ 1
told-one None line place m waits report shut shown within marked open_there = absurd (false≢true (sym (shut place within marked) ∙ open_there))
told-one (Some other) line place m waits report first shown within marked open_there = shown.0

-- what it tells has room
open_of : (r : Result Room Refusal) → is_for_more r ≡ true → (left : Room) × (r ≡ Ok left) × (0 < left.queue)
open_of (Ok left) is = (left, refl, ltb-true 0 left.queue is)
open_of (Err why) is = absurd (false≢true is)

-- one that waits and has room is at no place before the first such
not_before : (place line tei : ℕ) (its : Service) (m : Card) (left : Room) (all : List LinkMarks) (w : Waits all line its tei) → AreShutBelow place line m (marks_of all line)
    → HasRoom line its tei m left → 0 < left.queue → place ≤ w.place
not_before place line tei its m left all w shut is more = elim (cases_lt w.place place) [
  | inl less ↦ absurd (false≢true (sym (shut w.place less w.marked) ∙ ap is_for_more (there line tei its m left all w is) ∙ lt-ltb 0 left.queue more))
  | inr not_less ↦ omega (arith, not_less)
]

-- of two places of one TEI the first is that of call control
call_before : (a b : ℕ) → a ≤ b → a / 2 ≡ b / 2 → (service_at a ≡ Call) ⊎ (service_at b ≡ Packet)
call_before a b less same = grind (arith, odd_there, eqb-false)
  where
    odd_there : (x : Bool) → (b % 2 == 0) ≡ x → a % 2 ≢ 0 → cond x Call Packet ≡ Packet
    odd_there true is odd = absurd (odd (omega (arith, less, same, eqb-true (b % 2) 0 is)))
    odd_there false is odd = refl

told_has_room : (told : Option ℕ) (old : List LinkMarks) (line : ℕ) (m : Card) (r : PlainReport) → IsFirstOpen told line m (marks_of old line) → ShowsReopened r told → r.reopened ≡ 1 → ToldOne old line m r
told_has_room None old line m r first shown is = absurd (omega (arith, shown, is))
told_has_room (Some place) old line m r first shown is =
    let its = open_of (room line (service_at place) (tei_at place) m) first.opened in
    record {
      service = service_at place;
      tei = tei_at place;
      told = record { reopened = shown.0; of_service = shown.1; of_tei = shown.2 };
      waited = record { place = place; within = first.within; of_service = refl; of_tei = refl; marked = first.marked };
      left = its.0;
      has_room = its.1;
      more = its.2;
      lowest = λ other its_service left w is more. omega (arith, not_before place line other its_service m left old w first.below is more, w.of_tei);
      call_first = λ its_service left w is more.
          subst (λ s. (service_at place ≡ Call) ⊎ (s ≡ Packet)) w.of_service
          (call_before place w.place (not_before place line (tei_at place) its_service m left old w first.below is more) (sym w.of_tei));
    }

-- ---- no other waits, and one that is told does no longer

-- a place is that of its link, and no other
place_is : (place : ℕ) → place_of (sapi_of (service_at place)) (tei_at place) ≡ place
place_is place = grind (arith, evenly, oddly)

of_its_service : (sapi tei : ℕ) → service_at (place_of sapi tei) ≡ (if sapi == 0 then Call else Packet)
of_its_service sapi tei = for (sapi == 0)
  where
    for : (b : Bool) → service_at (if b then 2 * tei else 2 * tei + 1) ≡ (if b then Call else Packet)
    for true = ap (λ (n : ℕ). cond (n == 0) Call Packet) ((even tei).0)
    for false = ap (λ (n : ℕ). cond (n == 0) Call Packet) ((odd tei).0)

of_its_tei : (sapi tei : ℕ) → tei_at (place_of sapi tei) ≡ tei
of_its_tei sapi tei = for (sapi == 0)
  where
    for : (b : Bool) → tei_at (if b then 2 * tei else 2 * tei + 1) ≡ tei
    for true = (even tei).1
    for false = (odd tei).1

one_of : (b c : Bool) → (b || c) ≡ true → b ≡ false → c ≡ true
one_of b c is out = grind arith

-- the one more is at the place of a request for data that the queue has refused
more_at : (place : ℕ) (old new : List LinkMarks) (line other tei : ℕ) (service : Service) → WaitsFor (Some place) line old new → Waits new other service tei
    → Waits old other service tei ⊎ ((other ≡ line) × (service ≡ service_at place) × (tei ≡ tei_at place))
more_at place old new line other tei service h w =
    (elim (other == line) as (λ b. (other == line) ≡ b → Waits old other service tei ⊎ ((other ≡ line) × (service ≡ service_at place) × (tei ≡ tei_at place))) [
      | true ↦ λ is. let same : other ≡ line = eqb-true other line is in
          subst (λ (n : ℕ). Waits new n service tei → Waits old n service tei ⊎ ((n ≡ line) × (service ≡ service_at place) × (tei ≡ tei_at place))) (sym same) (λ v. elim (cases_lt line (length old)) [
            | inl within ↦ let on = sym (now_marked old new line _ h v.place within v.within) ∙ v.marked in
                (elim (place == v.place) as (λ b. (place == v.place) ≡ b → Waits old line service tei ⊎ ((line ≡ line) × (service ≡ service_at place) × (tei ≡ tei_at place))) [
                  | true ↦ λ its. let it : place ≡ v.place = eqb-true place v.place its in
                      inr (refl, sym v.of_service ∙ ap service_at (sym it), sym v.of_tei ∙ ap tei_at (sym it))
                  | false ↦ λ its. inl (waits_if old new line tei service v (one_of (place == v.place) _ on its))
                ]) refl
            | inr past ↦ inl (subst (λ (all : List LinkMarks). Waits all line service tei) (behind old new line _ h past) v)
          ]) w
      | false ↦ λ is. inl (waits_if old new other tei service w (sym (ap (λ (m : LinkMarks). is_marked m w.place) (elsewhere old new line _ h other (eqb-false other line is))) ∙ w.marked))
    ]) refl

no_more_by : (status request sapi its line : ℕ) (old new : List LinkMarks) → WaitsFor (refused_place status request sapi its) line old new
    → (other tei : ℕ) (service : Service) → Waits new other service tei
    → Waits old other service tei ⊎ ((status ≡ 5) × (request ≡ 3) × (other ≡ line) × (service ≡ (if sapi == 0 then Call else Packet)) × (tei ≡ its))
no_more_by status request sapi its line old new h other tei service w =
    (elim ((status == 5) && (request == 3) && nat_lt its 127) as (λ b. ((status == 5) && (request == 3) && nat_lt its 127) ≡ b
    → WaitsFor (cond b (Some (place_of sapi its)) None) line old new
    → Waits old other service tei ⊎ ((status ≡ 5) × (request ≡ 3) × (other ≡ line) × (service ≡ (if sapi == 0 then Call else Packet)) × (tei ≡ its))) [
      | true ↦ λ is those. let both = and_parts ((status == 5) && (request == 3)) (nat_lt its 127) is in let parts = and_parts (status == 5) (request == 3) (both.0) in
          elim (more_at (place_of sapi its) old new line other tei service those w) [
            | inl before ↦ inl before
            | inr it ↦ inr (eqb-true status 5 (parts.0), eqb-true request 3 (parts.1), it.0, it.1 ∙ of_its_service sapi its, it.2 ∙ of_its_tei sapi its)
          ]
      | false ↦ λ is none. inl (subst (λ (all : List LinkMarks). Waits all other service tei) none w)
    ]) refl h

begins_by : (status request sapi its line : ℕ) (old new : List LinkMarks) → WaitsFor (refused_place status request sapi its) line old new
    → (service : Service) → status ≡ 5 → request ≡ 3 → sapi ≡ sapi_of service → its ≤ 126 → line < length old → Waits new line service its
begins_by status request sapi its line old new h service full more named few within =
    refused_waits old new line its service (subst (λ (n : ℕ). WaitsFor (refused_place 5 3 n its) line old new) named
    (subst (λ (n : ℕ). WaitsFor (refused_place 5 n sapi its) line old new) more (subst (λ (n : ℕ). WaitsFor (refused_place n request sapi its) line old new) full h))) few within

module _ (told : Option ℕ) (old new : List LinkMarks) (line tei : ℕ) (service : Service) (m : Card) (h : MarksBecome line (waits_on told line m (marks_of old line)) old new)
    (within : line < length old) (w : Waits new line service tei) where
  on_there : (waits_there line m (marks_of old line) w.place ≡ true) × (not (is_told told w.place) ≡ true)
  on_there = and_parts (waits_there line m (marks_of old line) w.place) (not (is_told told w.place)) (sym (now_marked old new line _ h w.place within w.within) ∙ w.marked)

  stays_there_by : Waits old line service tei × ((left : Room) × HasRoom line service tei m left)
  stays_there_by =
      let both = and_parts (is_marked (marks_of old line) w.place) (is_there line m w.place) (on_there.0) in (
        waits_if old new line tei service w (both.0),
        left_of (room line service tei m) (subst (λ (s : Service). is_room (room line s tei m) ≡ true) w.of_service (subst (λ (t : ℕ). is_room (room line (service_at w.place) t m) ≡ true) w.of_tei (both.1))),
      )
    where
      left_of : (r : Result Room Refusal) → is_room r ≡ true → (left : Room) × (r ≡ Ok left)
      left_of (Ok left) is = (left, refl)
      left_of (Err why) is = absurd (false≢true is)

once_by : (told : Option ℕ) (old new : List LinkMarks) (line tei : ℕ) (service : Service) (m : Card) (r : PlainReport) → ShowsReopened r told
    → MarksBecome line (waits_on told line m (marks_of old line)) old new → line < length old → IsTold r service tei → Waits new line service tei → ⊥
once_by None old new line tei service m r shown h within is w = omega (arith, shown, is.reopened)
once_by (Some place) old new line tei service m r shown h within is w =
    let same : place ≡ w.place = sym (place_is place) ∙ ap (λ (n : ℕ). place_of n (tei_at place)) (sym (shown.1) ∙ is.of_service ∙ ap sapi_of (sym w.of_service))
    ∙ ap (λ (n : ℕ). place_of (sapi_of (service_at w.place)) n) (sym (shown.2) ∙ is.of_tei ∙ sym w.of_tei) ∙ place_is w.place in
    false≢true (subst (λ (b : Bool). not b ≡ true) (eq-eqb place w.place same) ((on_there (Some place) old new line tei service m h within w).1))

more_by : (status request sapi its line : ℕ) (old new : List LinkMarks) → WaitsFor (refused_place status request sapi its) line old new → WaitsMore status request sapi its line old new
more_by status request sapi its line old new h = record {
  begins = begins_by status request sapi its line old new h;
  stays = λ other tei service w. stays_by (refused_place status request sapi its) old new line other tei service h w;
  no_other = no_more_by status request sapi its line old new h;
  lines = same_lines_by (refused_place status request sapi its) old new line h;
}

on_by : (line : ℕ) (m : Card) (old new : List LinkMarks) (r : PlainReport) → TellsReopened line m old new r → WaitsOn line m old new r
on_by line m old new r t = record {
  stays = λ tei service left within w is. told_or_waits t.told old new line tei service m r left t.shown t.waits within w is;
  no_other = λ tei service within w. stays_there_by t.told old new line tei service m t.waits within w;
  once = λ tei service within is w. once_by t.told old new line tei service m r t.shown t.waits within is w;
  one = λ tei service left w is more.
      told-one t.told line w.place m (marks_of old line) r t.first t.shown w.within w.marked (ap is_for_more (there line tei service m left old w is) ∙ lt-ltb 0 left.queue more);
  told = λ is. told_has_room t.told old line m r t.first t.shown is;
  elsewhere = λ other tei service differs. (
    λ w. waits_elsewhere old new line other tei service _ t.waits differs w,
    λ w. waits_if old new other tei service w (sym (ap (λ (m : LinkMarks). is_marked m w.place) (elsewhere old new line _ t.waits other differs)) ∙ w.marked),
  );
  lines = same_count old new line _ t.waits;
}

pub links_reopen_by : LinksReopen
links_reopen_by = record {
  begins = λ all lines line tei service none w. false≢true (sym (none.none line w.place w.within) ∙ w.marked);
  refused = more_by;
  called = on_by;
}
