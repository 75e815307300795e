-- Whether a frame waits.
use Rattle.lapd_line.proofs.Vocabulary.{◌≡◌, ℕ, zero, suc, ◌+◌, ◌-◌, ◌<◌, ◌≤◌, Bool, true, false, ◌||◌, List, [], ◌∷◌, slice_get, Option, Some, None, is_some, option_map, option_or, option_map_or, refl, sym, ap, ◌∙◌, arith, false≢true, inl, inr, cases_eq, same_Some, length-map, Side, Owned, Store, Terms, Given, given, terms_of, Config, Line, UnitData, link_at, link_count, terms_at, Taken}
use Rattle.lapd_line.proofs.Vocabulary.{link_taken, first_taken, round, with_given_frame, LinkLayer, IsMark, AreMarked, gives, gives_at, machine_at, terms_in, LayerStands, AreFor, QueuedUnit, cases_lt, slice_get_within, offered_by, message_taken, unit_taken, has_next}
use Rattle.lapd_line.proofs.AwakeSteps.{awake_gives, marked}
use Rattle.lapd_line.proofs.ManagingSteps.{message_of_kind}
use Rattle.lapd_line.proofs.PullTakesLinks.{Known, known, low_link, among, none_of, asleep_gives_nothing, round_is}

some_or : (x y : Option Taken) → is_some (option_or x y) ≡ (is_some x || is_some y)
some_or x y = grind arith

some_map : {A B : Type 0} (f : A → B) (o : Option A) → is_some (option_map f o) ≡ is_some o
some_map f o = grind arith

or_true : (b : Bool) → (b || true) ≡ true
or_true b = grind arith

or_false : (b : Bool) → (b || false) ≡ b
or_false b = grind arith

-- unit data waits where its ring holds some
unit_waits : (us : List QueuedUnit) (ds : List UnitData) → AreFor us ds → is_some (slice_get ds 0) ≡ is_some (slice_get us 0)
unit_waits [] [] are = refl
unit_waits [] (d ∷ ds) are = absurd are
unit_waits (u ∷ us) [] are = absurd are
unit_waits (u ∷ us) (d ∷ ds) are = refl

-- one of these links gives something
some_among : (c : Config) (m : Line) (from n number : ℕ) → from ≤ number → number < from + n → is_some (link_taken c m number) ≡ true → is_some (among from n c m) ≡ true
some_among c m from zero number low high some = absurd (omega (arith, low, high))
some_among c m from (suc n) number low high some =
    some_or (link_taken c m from) (among (from + 1) n c m)
    ∙ elim (cases_eq number from) [
      | inl here ↦ ap (λ k. is_some (link_taken c m k) || is_some (among (from + 1) n c m)) (sym here) ∙ ap (λ b. b || is_some (among (from + 1) n c m)) some
      | inr apart ↦
          ap (λ b. is_some (link_taken c m from) || b) (some_among c m (from + 1) n number (omega (arith, low, apart)) (omega (arith, high)) some)
          ∙ or_true (is_some (link_taken c m from))
    ]

module _ (e : LinkLayer) (s : Store) (others : List Owned) (m : Line) (st : LayerStands e s others m) where
  -- a link that has a frame is there,
  pub there : (number : ℕ) → number < 64 → IsMark e.has_frame number true → number < link_count e.config
  there number few has_frame = go (slice_get (terms_in e.links.items) number) refl (marked (gives_at e.links.items m.links number) (sym has_frame ∙ st.has_frame number few))
    where
      go : (o : Option Terms) → slice_get (terms_in e.links.items) number ≡ o → option_map_or (gives (machine_at m.links number)) (slice_get (terms_in e.links.items) number) false ≡ true → number < link_count e.config
      go None is some = absurd (false≢true (sym (ap (λ o. option_map_or (gives (machine_at m.links number)) o false) is) ∙ some))
      go (Some t) is some = omega (arith, slice_get_within (terms_in e.links.items) number t is, length-map e.links.items terms_of, st.count)

  -- and is one from which a frame is taken
  link_gives : (number : ℕ) → number < link_count e.config → IsMark e.has_frame number true → is_some (link_taken e.config m number) ≡ true
  link_gives number few has_frame =
      let k = known e s others m number few st in
      let some : is_some (given k.t (link_at number m)) ≡ true = awake_gives e.has_frame e.links.items m.links number k.t true (low_link e s number (others, m, st) few) st.has_frame k.has has_frame in
      some_map (with_given_frame e.config m number (terms_at e.config number m)) (given (terms_at e.config number m) (link_at number m)) ∙ go k (given k.t (link_at number m)) refl some
    where
      go : (k : Known e m number) (o : Option Given) → given k.t (link_at number m) ≡ o → is_some (given k.t (link_at number m)) ≡ true → is_some (given (terms_at e.config number m) (link_at number m)) ≡ true
      go k None is some = absurd (false≢true (sym (ap is_some is) ∙ some))
      go k (Some g) is some =
          let same : k.t ≡ terms_at e.config number m = same_Some _ _ (sym k.has ∙ k.some g is) in
          ap (λ t. is_some (given t (link_at number m))) (sym same) ∙ some

  -- so a link gives a frame exactly where one is marked
  links_wait : (b : Bool) → (b ≡ false → AreMarked e.has_frame (λ number. false)) → (b ≡ true → (number : ℕ) × (number < 64) × IsMark e.has_frame number true)
      → is_some (first_taken e.config m (round e.config m)) ≡ b
  links_wait b none some =
      ap is_some (sym (round_is e s others m st)) ∙ some_or (among e.turn (link_count e.config - e.turn) e.config m) (among 0 (e.turn - 0) e.config m) ∙ go b refl
    where
      n : ℕ
      n = link_count e.config

      silent : b ≡ false → (from count : ℕ) → from + count ≤ n → is_some (among from count e.config m) ≡ false
      silent is from count few =
          ap is_some (none_of e.config m from count (λ number low high.
          let within : number < n = omega (arith, high, few) in
          asleep_gives_nothing e s others m number within st (none is number (low_link e s number (others, m, st) within))))

      turn : e.turn ≤ n
      turn = omega (arith, st.turn, st.sound.turn)

      go : (v : Bool) → b ≡ v → (is_some (among e.turn (n - e.turn) e.config m) || is_some (among 0 (e.turn - 0) e.config m)) ≡ b
      go false is =
          ap (λ x. x || is_some (among 0 (e.turn - 0) e.config m)) (silent is e.turn (n - e.turn) (omega (arith, turn)))
          ∙ silent is 0 (e.turn - 0) (omega (arith, turn)) ∙ sym is
      go true is =
          let (number, low, has_frame) = some is in
          let within = there number low has_frame in
          let gives_one = link_gives number within has_frame in
          let some_one : (is_some (among e.turn (n - e.turn) e.config m) || is_some (among 0 (e.turn - 0) e.config m)) ≡ true = elim (cases_lt number e.turn) [
            | inl before ↦
                ap (λ x. is_some (among e.turn (n - e.turn) e.config m) || x) (some_among e.config m 0 (e.turn - 0) number (omega arith) (omega (arith, before)) gives_one)
                ∙ or_true (is_some (among e.turn (n - e.turn) e.config m))
            | inr behind ↦
                ap (λ x. x || is_some (among 0 (e.turn - 0) e.config m)) (some_among e.config m e.turn (n - e.turn) number behind (omega (arith, within, turn)) gives_one)
          ] in
          some_one ∙ sym is

  -- a message, unit data or a frame of a link
  waits_is : (message unit link : Bool) → message ≡ is_some (offered_by e.config.side e.teis) → unit ≡ is_some (slice_get e.units.waiting 0)
      → is_some (first_taken e.config m (round e.config m)) ≡ link → (message || (unit || link)) ≡ has_next e.config m
  waits_is message unit link is_message is_unit is_link =
      let some_message : is_some (message_taken e.config m) ≡ message =
      ap is_some (message_of_kind e.config e.teis m st.kind st.management st.own) ∙ some_map _ (offered_by e.config.side e.teis) ∙ sym is_message in
      let some_unit : is_some (unit_taken e.config m) ≡ unit = some_map _ (slice_get m.units 0) ∙ unit_waits e.units.waiting m.units st.addressed ∙ sym is_unit in
      sym (some_or (message_taken e.config m) (option_or (unit_taken e.config m) (first_taken e.config m (round e.config m)))
      ∙ ap (λ b. is_some (message_taken e.config m) || b) (some_or (unit_taken e.config m) (first_taken e.config m (round e.config m)))
      ∙ ap (λ b. b || (is_some (unit_taken e.config m) || is_some (first_taken e.config m (round e.config m)))) some_message
      ∙ ap (λ b. message || (b || is_some (first_taken e.config m (round e.config m)))) some_unit
      ∙ ap (λ b. message || (unit || b)) is_link)

  pub waits_with_link : (true ≡ false → AreMarked e.has_frame (λ number. false)) → (true ≡ true → (number : ℕ) × (number < 64) × IsMark e.has_frame number true) → true ≡ has_next e.config m
  waits_with_link none some =
      let message : Bool = is_some (offered_by e.config.side e.teis) in
      let unit : Bool = is_some (slice_get e.units.waiting 0) in
      sym (ap (λ b. message || b) (or_true unit) ∙ or_true message) ∙ waits_is message unit true refl refl (links_wait true none some)

  pub waits_with_message : ((side : Side) → true ≡ is_some (offered_by side e.teis)) → true ≡ has_next e.config m
  waits_with_message is_message = waits_is true (is_some (slice_get e.units.waiting 0)) (is_some (first_taken e.config m (round e.config m))) (is_message e.config.side) refl refl

  pub waits_with_unit : {unit : Bool} → (false ≡ false → AreMarked e.has_frame (λ number. false)) → (false ≡ true → (number : ℕ) × (number < 64) × IsMark e.has_frame number true)
      → ((side : Side) → false ≡ is_some (offered_by side e.teis)) → unit ≡ is_some (slice_get e.units.waiting 0) → unit ≡ has_next e.config m
  waits_with_unit {unit} none some is_message is_unit = sym (or_false unit) ∙ waits_is false unit false (is_message e.config.side) is_unit (links_wait false none some)
