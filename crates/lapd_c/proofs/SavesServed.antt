-- What saves and restores come to.
use Rattle.std.proofs.Common.{arith, inl, inr, ◌≡◌, ◌≢◌, ◌⊎◌, ℕ, ◌+◌, ◌*◌, ◌<◌, ◌≤◌, Bool, true, false, cond, List, length, take, refl, sym, ap, ◌∙◌, subst}
use Rattle.std.specs.Prelude.{Option, Some, None, Ok, Err, Result, IfSome, is_some, option_map, if◌then◌else◌}
use Rattle.std.proofs.lemmas.Bool.{false≢true, le-ltb, lt-ltb}
use Rattle.std.proofs.lemmas.Option.{same_Some}
use Rattle.lapd_card.specs.Image.{begun_as}
use Rattle.lapd_clock.specs.Image as clocks
use Rattle.lapd_clock.specs.Timers.{Timers}
use Rattle.lapd_frame.specs.declared.refusals.Refusal.{Refusal}
use Rattle.lapd_frame.specs.declared.services.Service.{Service}
use Rattle.lapd_timed.specs.Image.{kind_in}
use Rattle.model_card.specs.Room.{room}
use Rattle.model_image.specs.Images.{image_of, Saved}
use Rattle.model_line.specs.Most.{most_line, most_octets}
use Rattle.model_image.specs.Sound.{IsSaved}
use Rattle.model_image.specs.Restored.{IsRestored}
use Rattle.model_image.proofs.Restored.{a_restored_card_goes_on}
use Rattle.model_image.proofs.Whole.{images_are_read}
use Rattle.model_card.specs.declared.kinds.CardKind.TheVariants as kinds
use Rattle.lapd_c.specs.Waiting.{card_waits}
use Rattle.model_line.specs.Line.{link_count}
use Rattle.model_line.specs.declared.config.Config.{Config}
use Rattle.model_link.specs.declared.rooms.Room.{Room}
use Rattle.std.proofs.Math.Nat.{mul-le-mul_left}
use Rattle.lapd_c.specs.declared.card.CardHandle.{CardHandle}
use Rattle.lapd_c.specs.declared.link_marks.LinkMarks.{LinkMarks}
use Rattle.lapd_c.specs.Slots.{HeldCard, HeldClock}
use Rattle.lapd_c.specs.Cards.{card_of, marks_at, marks_held, HandleStands, StandsIn}
use Rattle.lapd_c.specs.ClockImages as clock_image
use Rattle.lapd_c.specs.ClockImages.{IsSavedAs}
use Rattle.lapd_c.specs.Clocks.{clock_of}
use Rattle.lapd_c.specs.Config.{config_in}
use Rattle.lapd_c.specs.Kept.{timers_held}
use Rattle.lapd_c.specs.LinkPlaces.{service_at}
use Rattle.lapd_c.specs.Reopened.{is_room}
use Rattle.lapd_c.specs.Saves.{image_octets, save_status, HandleHolds, HandleReads}
use Rattle.lapd_c.specs.SavesServed.{BeginsAnew, GoesOnFrom, SavesAreServed}
use Rattle.lapd_c.specs.Waits.{Waits}
use Rattle.lapd_c.proofs.CardStays.{card_begun, card_restored, card_stays, timed_card_begun}
use Rattle.lapd_c.proofs.ClockAgain.{same_clock}
use Rattle.lapd_c.proofs.ClockStays.{applied, begun, fallen, lengthened, reported}
use Rattle.lapd_c.proofs.HandlesLeft.{clock_left}
use Rattle.lapd_c.proofs.MostOctets.{most_of}
use Rattle.lapd_c.proofs.Saving.{its, timed_alike}
use Rattle.lapd_c.proofs.WaitsAgain.{still_waits, waited}

-- ---- what a status tells

enough_told : (room most result : ℕ) → result ≡ save_status room most → most ≤ room → result ≡ 0
enough_told room most result told fits = told ∙ ap (λ b. cond b 19 0) (le-ltb room most fits)

little_told : (room most result : ℕ) → result ≡ save_status room most → room < most → result ≡ 19
little_told room most result told less = told ∙ ap (λ b. cond b 19 0) (lt-ltb room most less)

itself : {X : Type 0} (o : Option X) → option_map (λ x. x) o ≡ o
itself None = refl
itself (Some x) = refl

second_told : {H X : Type 0} (held : H → Option X) (old new : H) (result : ℕ) (x : X) → held old ≡ Some x → IfSome (held old) (λ _. result ≡ 13) → (result ≢ 0 → new ≡ old)
    → (result ≡ 13) × (new ≡ old)
second_told held old new result x is second fault =
    let told = its (λ _. result ≡ 13) (held old) x is second in
    (told, fault (λ e. omega (arith, told, e)))

-- ---- how many octets an image has at most

most_timed : (c : Config) (timed : Bool) → most_octets c timed ≤ most_octets c true
most_timed c true = omega arith
most_timed c false = omega arith

most_clocks : (c : Config) → 24 + c.lines * (1 + 11 * (4 * c.terminals + 1)) ≤ most_octets c true
most_clocks c =
    let line = most_line c + 8 * (link_count c + 1) in
    let each : 1 + 11 * (4 * c.terminals + 1) ≤ line = omega arith in
    let all = mul-le-mul_left c.lines each in
    omega (arith, all)

-- ---- it goes on

its_room : (r : Result Room Refusal) → is_room r ≡ true → (left : Room) × (r ≡ Ok left)
its_room (Ok left) is = (left, refl)
its_room (Err why) is = absurd (false≢true is)

begins_anew : (t : Saved) (new : CardHandle) → HandleStands new (begun_as (kind_in t) t.card) → BeginsAnew t new
begins_anew t new stands = record {
  octets = λ e. subst (λ b. HandleStands new (begun_as (if b then kinds.Octets else kinds.Frames) t.card)) e stands;
  frames = λ e. subst (λ b. HandleStands new (begun_as (if b then kinds.Octets else kinds.Frames) t.card)) e stands;
}

anew : (image : List ℕ) (new : CardHandle) (held : HeldCard) → card_of new ≡ held → HandleReads image held → (s : Saved) × IsRestored image s × BeginsAnew s new
anew image new None is read = absurd read
anew image new (Some kept) is read =
    (read.saved, read.restored, begins_anew read.saved new (subst (λ held. StandsIn held (begun_as (kind_in read.saved) read.saved.card)) (sym is) read.begins))

-- The marks of what is held are those that are saved.
waits_held : (held : HeldCard) (s : Saved) → HandleHolds held s → card_waits s.card (marks_held held) ≡ s.waits
waits_held None s holds = absurd holds
waits_held (Some kept) s holds = holds.waits

goes_on : (s : Saved) (image : List ℕ) (old new : CardHandle) (held : HeldCard) → HandleHolds (card_of old) s → card_of new ≡ held → image ≡ image_of s → IsSaved s
    → HandleReads image held → GoesOnFrom s old new
goes_on s image old new None holds is same saved read = absurd read
goes_on s image old new (Some kept) holds is same saved read =
    let t = read.saved in
    let again : IsRestored (image_of s) t = record { saved = read.restored.saved; same = read.restored.same ∙ same } in
    let on = a_restored_card_goes_on s t saved again in
    let alike = images_are_read s t saved again.saved (sym again.same) in
    let begun : HandleStands new (begun_as (kind_in t) t.card) = subst (λ held. StandsIn held (begun_as (kind_in t) t.card)) (sym is) read.begins in
    let here : card_waits t.card (marks_at new) ≡ t.waits = ap (λ held. card_waits t.card (marks_held held)) is ∙ read.held.waits in
    let there = waits_held (card_of old) s holds in
    let has_room : (line tei : ℕ) (service : Service) → line < t.card.config.lines → Waits (marks_at new) line service tei
    → (left : Room) × (room line service tei t.card ≡ Ok left) = λ line tei service within w.
    let marked = subst (λ (all : List LinkMarks). Waits all line service tei) (ap marks_held is) w in
    its_room (room line service tei t.card)
    (subst (λ (of : Service). is_room (room line of tei t.card) ≡ true) marked.of_service
    (subst (λ (n : ℕ). is_room (room line (service_at marked.place) n t.card) ≡ true) marked.of_tei
    (read.marked line marked.place within marked.within marked.marked))) in
    record {
      restored = t;
      read = again;
      holds = subst (λ held. HandleHolds held t) (sym is) read.held;
      goes_on = on;
      stands = begun;
      kind = sym alike.kind;
      anew = begins_anew t new begun;
      lines = ap (λ held. length (marks_held held)) is ∙ read.lines;
      timed = ap (λ held. is_some (timers_held held)) is ∙ sym (timed_alike kept.timed.timers t.clock t read.held.timers) ∙ ap is_some on.clock;
      waits = has_room;
      still = λ line tei service left within w room. still_waits s t saved.card again.saved.card alike (marks_at old) (marks_at new) there here line within tei service left w room;
      no_other = λ line tei service within w.
          let left = has_room line tei service (subst (λ c. line < c.lines) alike.config within) w in
          waited s t saved.card again.saved.card alike (marks_at old) (marks_at new) there here line within tei service left.0 w left.1;
    }

clock_goes_on : (c : Timers) (image : List ℕ) (lines : List (List _)) (held : HeldClock) → image ≡ clocks.image c lines → clocks.IsSaved c → clocks.AreItsTimers c lines
    → clock_image.HandleReads image held → held ≡ Some c
clock_goes_on c image lines None same saved own read = absurd read
clock_goes_on c image lines (Some d) same saved own read = ap Some (sym (same_clock c d lines read.lines saved read.saved own read.timers (sym same ∙ read.octets_are)))

all_but_bad : (result : ℕ) → (result ≡ 0) ⊎ ((result ≡ 46) ⊎ (result ≡ 22)) → (result ≡ 46 → ⊥) → (result ≡ 0) ⊎ (result ≡ 22)
all_but_bad result (inl ok) good = inl ok
all_but_bad result (inr (inl bad)) good = absurd (good bad)
all_but_bad result (inr (inr none)) good = inr none

-- what was read may be saved
read_saved : (image : List ℕ) (held : HeldClock) (c : Timers) → clock_image.HandleReads image held → held ≡ Some c → clocks.IsSaved c
read_saved image None c read is = absurd read
read_saved image (Some d) c read is = subst clocks.IsSaved (same_Some d c is) read.saved

none_left : {X : Type 0} (P : Option X → Type 0) (o : Option X) → (P None → ⊥) → P o → o ≡ None → ⊥
none_left P o none holds is = none (subst P is holds)

pub saves_are_served_by : SavesAreServed
saves_are_served_by = record {
  save_leaves = λ old new result before after s. s.question.handle;
  restore_leaves = λ image old new result r. r.handle;
  clock_save_leaves = λ old new result before after s. clock_left new s.call.handle;
  clock_restore_leaves = λ image old new result r. clock_left new r.handle;
  save = λ old new result before after s. record { unchanged = s.question.unchanged; not_there = s.question.no_card; unwritten = s.question.unwritten };
  clock_save = λ old new result before after s. record { unchanged = s.call.after ∙ itself (clock_of old); not_there = s.call.none; unwritten = s.unwritten };
  restore = λ image old new result r. record {
    none_there = r.otherwise;
    second = λ x is. second_told card_of old new result x is r.second r.fault;
    not_ok = r.fault;
    there = λ ok. none_left (HandleReads image) (card_of new) (λ none. none) (r.restored ok);
  };
  clock_restore = λ image old new result r. record {
    none_there = r.otherwise;
    second = λ x is. second_told clock_of old new result x is r.second r.fault;
    not_ok = r.fault;
    there = λ ok. none_left (clock_image.HandleReads image) (clock_of new) (λ none. none) (r.restored ok);
  };
  enough = λ old new result before after m s stands fits. enough_told (length before.0) _ result (s.told m stands) fits;
  too_little = λ old new result before after m s stands less. little_told (length before.0) _ result (s.told m stands) less;
  clock_enough = λ old new result before after c s is fits.
      enough_told (length before.0) (clocks.most_octets c) result (its (λ c. result ≡ save_status (length before.0) (clocks.most_octets c)) (clock_of old) c is s.call.told) fits;
  clock_too_little = λ old new result before after c s is less.
      little_told (length before.0) (clocks.most_octets c) result (its (λ c. result ≡ save_status (length before.0) (clocks.most_octets c)) (clock_of old) c is s.call.told) less;
  most = λ config m timed same fits.
      subst (λ (c : Config). most_octets c timed ≤ image_octets config) (sym same) (omega (arith, most_of config fits, most_timed (config_in config) timed));
  most_of_clock = λ config c fits lines places.
      let least = most_clocks (config_in config) in
      let own : c.lines * (1 + 11 * c.places) ≡ config.lines * (1 + 11 * (4 * config.terminals + 1)) = λ i. lines i * (1 + 11 * places i) in
      omega (arith, most_of config fits, least, own);
  rest = λ old new before after s save held room. (save.saved s held room).1.2;
  clock_rest = λ old new before after c save saved is room.
      (its (λ c. clocks.IsSaved c → clocks.most_octets c ≤ length before.0 → IsSavedAs c before.0 after) (clock_of old) c is save.saved saved room).2.2;
  again = λ old same other new before after s save held room r.
      let is = save.saved s held room in
      goes_on s (take after.1 after.0) old new (card_of new) held refl is.1.1 is.0 (r.restored refl);
  taken = λ old same other new result before after s save held room r none.
      let is = save.saved s held room in
      all_but_bad result (r.otherwise none) (λ e. r.bad_image e s is.0 (sym is.1.1));
  clock_again = λ old same other new before after c save saved is room r.
      let front = its (λ c. clocks.IsSaved c → clocks.most_octets c ≤ length before.0 → IsSavedAs c before.0 after) (clock_of old) c is save.saved saved room in
      clock_goes_on c (take after.1 after.0) front.0 (clock_of new) front.2.1 saved front.1 (r.restored refl);
  clock_taken = λ old same other new result before after c save saved is room r none.
      let front = its (λ c. clocks.IsSaved c → clocks.most_octets c ≤ length before.0 → IsSavedAs c before.0 after) (clock_of old) c is save.saved saved room in
      all_but_bad result (r.otherwise none) (λ e. r.bad_image e c front.0 saved front.1 front.2.1);
  anew = λ image old new r. anew image new (card_of new) refl (r.restored refl);
  clock_begins = begun;
  clock_restored = λ image old new c r is. read_saved image (clock_of new) c (r.restored refl) is;
  clock_stays = λ c saved. record {
    applied = λ line now order. applied c line now order saved;
    reported = λ line now r. reported c line now r saved;
    fallen = λ now. fallen c now saved;
    lengthened = λ lengths. lengthened lengths c saved;
  };
  card_begins = card_begun;
  timed_card_begins = timed_card_begun;
  card_restored = card_restored;
  card_stays = card_stays;
}
