-- A terminal asks for a TEI: the turns of the wire until both ends are told of it.
use Rattle.laws_wire.proofs.Vocabulary.{◌≡◌, ℕ, ◌+◌, ◌<◌, ◌≤◌, Bool, true, false, List, [], ◌∷◌, ◌++◌, drop, set, Some, None, refl, sym, ap, subst, ◌∙◌, append-nil, arith, get_or-set_same, All, All-head, All-tail, Ok, spelling, reading, own_side, heard_side, came, Config, Line, fresh_line, Event, LineTold, hears, next, request, gave, nothing, line_after, line_answer, line_takes_slot, ranges_of}
use Rattle.laws_wire.proofs.Vocabulary.{has_lines}
use Rattle.laws_wire.proofs.Vocabulary.{line_at, after_is_sound, fresh_is_sound, Endpoint, Wire, StepAt, answered, happens, frame_comes, told_by, frames_by, is_any, if◌then◌else◌, endpoint, with_first_of, sends, receives, at_near, at_far, acting, turned, doing, is_turn, is_turn_of, IsStill}
use Rattle.lapd_frame.specs.declared.addresses.Side.TheVariants.{Network}
use Rattle.lapd_frame.specs.declared.timers.Order.TheVariants as orders
use Rattle.lapd_frame.specs.declared.timers.Timer.TheVariants.{T202}
use Rattle.model_line.specs.Event as answers
use Rattle.model_line.specs.Line.{is_terminal, seed_of}
use Rattle.model_line.specs.Request.{AskTei}
use Rattle.model_line.specs.Sound.{IsInRange}
use Rattle.model_card.specs.Card as cards
use Rattle.model_card.specs.Event.{at as event_at}
use Rattle.model_card.specs.Sound as card_sound
use Rattle.laws_wire.specs.Arriving.{SendsOrReceives}
use Rattle.laws_wire.specs.Terminals.{assigned_told}
unfoldable use Rattle.laws_wire.specs.Wire.{doing_all, turns}
use Rattle.laws_wire.proofs.Answered.{same-granted, takes-none}
use Rattle.laws_wire.proofs.Beginning.{all-fresh_lines}
use Rattle.laws_wire.proofs.Spelled.{Carries, sides-turned}
use Rattle.laws_wire.proofs.TerminalLines as lines
use Rattle.laws_wire.proofs.TerminalLines.{HasNone}

-- An endpoint of which all but the other lines of its card is said.
pub record IsSo (c : Config) (l : Line) (out : List (List ℕ)) (said : List LineTold) (s : Endpoint) : Type 0 where
  pub config : s.card.config ≡ c
  pub sound : card_sound.IsSound s.card
  pub within : s.line < c.lines
  pub line : line_at s.line s.card ≡ l
  pub way : s.way ≡ out
  pub granted : s.granted ≡ []
  pub told : s.told ≡ said

module _ (c : Config) (l : Line) (out : List (List ℕ)) (said : List LineTold) (s : Endpoint) (h : IsSo c l out said s) where
  own-line : (l' : Line) → line_at s.line (record s.card { lines = set s.card.lines s.line l' }) ≡ l'
  own-line l' =
      let many = (has_lines s.card h.sound).count in
      get_or-set_same s.card.lines s.line l' (fresh_line s.card.config) (omega (arith, many, h.within, (ap (λ (k : Config). k.lines) h.config)))

  -- the next frame is called for
  gives-answer : answered next s ≡ line_answer c next l
  unfolding line_takes_slot
  gives-answer = ap (λ k. line_answer k next (line_at s.line s.card)) h.config ∙ ap (line_answer c next) h.line

  pub gives : IsSo c (line_after c next l) (out ++ frames_by (line_answer c next l)) (said ++ told_by (line_answer c next l)) (happens next s)
  unfolding line_takes_slot
  gives = record {
    config = h.config;
    sound = after_is_sound s.card (event_at s.line next) h.sound (subst (λ k. s.line < k.lines) (sym h.config) h.within);
    within = h.within;
    line =
        own-line (line_after s.card.config next (line_at s.line s.card))
        ∙ ap (λ k. line_after k next (line_at s.line s.card)) h.config ∙ ap (line_after c next) h.line;
    way = ap (λ way. way ++ frames_by (answered next s)) h.way ∙ ap (λ a. out ++ frames_by a) gives-answer;
    granted = same-granted next s refl ∙ h.granted;
    told = ap (λ told. told ++ told_by (answered next s)) h.told ∙ ap (λ a. said ++ told_by a) gives-answer;
  }

  -- nothing is to go
  module _ (none : HasNone c l) where
    pub idle-gives : answered next s ≡ gave None
    idle-gives = gives-answer ∙ lines.idle-answer c l none

    pub idles : IsSo c l out said (happens next s)
    idles =
        let x = gives in
        record {
          config = x.config;
          sound = x.sound;
          within = x.within;
          line = x.line ∙ lines.idle-after c l none;
          way = x.way ∙ ap (λ a. out ++ frames_by a) (lines.idle-answer c l none) ∙ append-nil out;
          granted = x.granted;
          told = x.told ∙ ap (λ a. said ++ told_by a) (lines.idle-answer c l none) ∙ append-nil said;
        }

  -- octets come
  module _ (octets : List ℕ) where
    abbrev its : Config → Event
    its k = hears (came k.n201 octets)

    comes-answer : answered (its s.card.config) s ≡ line_answer c (its c) l
    unfolding line_takes_slot
    comes-answer = ap (λ k. line_answer k (its k) (line_at s.line s.card)) h.config ∙ ap (line_answer c (its c)) h.line

    pub comes : IsSo c (line_after c (its c) l) (out ++ frames_by (line_answer c (its c) l)) (said ++ told_by (line_answer c (its c) l)) (frame_comes octets s)
    unfolding line_takes_slot
    comes = record {
      config = h.config;
      sound = after_is_sound s.card (event_at s.line (its s.card.config)) h.sound (subst (λ k. s.line < k.lines) (sym h.config) h.within);
      within = h.within;
      line =
          own-line (line_after s.card.config (its s.card.config) (line_at s.line s.card))
          ∙ ap (λ k. line_after k (its k) (line_at s.line s.card)) h.config ∙ ap (line_after c (its c)) h.line;
      way = ap (λ way. way ++ frames_by (answered (its s.card.config) s)) h.way ∙ ap (λ a. out ++ frames_by a) comes-answer;
      granted = same-granted (its s.card.config) s refl ∙ h.granted;
      told = ap (λ told. told ++ told_by (answered (its s.card.config) s)) h.told ∙ ap (λ a. said ++ told_by a) comes-answer;
    }

  -- what it had in transit is received
  pub lost : IsSo c l (drop 1 out) said (record s { way = drop 1 s.way })
  lost = record { config = h.config; sound = h.sound; within = h.within; line = h.line; way = ap (drop 1) h.way; granted = h.granted; told = h.told }

-- A card begins.
module _ (c : Config) (ranged : IsInRange c) (line : ℕ) (within : line < c.lines) where
  pub begins : IsSo c (fresh_line c) [] [] (endpoint c line)
  begins = record {
    config = refl;
    sound = fresh_is_sound c ranged;
    within = within;
    line = all-fresh_lines c c.lines line;
    way = refl;
    granted = refl;
    told = refl;
  }

  -- and a terminal's is asked to have a TEI assigned
  module _ (own : is_terminal c ≡ true) where
    its_answer : answered (request AskTei) (endpoint c line) ≡ answers.told (record nothing { orders = orders.Start T202 ∷ [] })
    unfolding line_takes_slot
    its_answer = ap (line_answer c (request AskTei)) begins.line ∙ lines.asks-answer c own ranged

    pub asks : IsSo c (lines.asked c) [] [] (happens (request AskTei) (endpoint c line))
    unfolding line_takes_slot
    asks = record {
      config = refl;
      sound = after_is_sound (cards.fresh c) (event_at line (request AskTei)) (fresh_is_sound c ranged) within;
      within = within;
      line =
          own-line c (fresh_line c) [] [] (endpoint c line) begins (line_after c (request AskTei) (line_at line (cards.fresh c)))
          ∙ ap (line_after c (request AskTei)) begins.line ∙ lines.asks-after c own ranged;
      way = ap frames_by its_answer;
      granted = same-granted (request AskTei) (endpoint c line) refl;
      told = ap told_by its_answer;
    }

-- what goes, or is in transit, is a frame
no-frame : (octets : List ℕ) → gave (Some (record { octets = octets; orders = [] })) ≡ gave None → ⊥
no-frame octets e = cc e

no-way : (octets : List ℕ) → octets ∷ [] ≡ [] → ⊥
no-way octets e = cc e

-- ---- where the wire is

-- The request waits; it is in transit; the answer waits; it is in transit; and both ends have the TEI.
pub data Phase : Type 0 where
  wanted : Phase
  requested : Phase
  granted : Phase
  answering : Phase
  done : Phase

-- So many turns are left, and one is.
abbrev pub left : Phase → ℕ
left wanted = 4
left requested = 3
left granted = 2
left answering = 1
left done = 0

abbrev note : LineTold
note = assigned_told

module _ (c d : Config) where
  abbrev near_line : Phase → Line
  near_line wanted = lines.asked c
  near_line requested = lines.waits c
  near_line granted = lines.waits c
  near_line answering = lines.waits c
  near_line done = lines.has_it c

  abbrev request_frame : List ℕ
  request_frame = spelling (own_side c) (lines.requested (seed_of c))

  abbrev answer_frame : List ℕ
  answer_frame = spelling (own_side d) (lines.answered (seed_of c))

  abbrev near_way : Phase → List (List ℕ)
  near_way wanted = []
  near_way requested = request_frame ∷ []
  near_way granted = []
  near_way answering = []
  near_way done = []

  abbrev pub near_told : Phase → List LineTold
  near_told wanted = []
  near_told requested = []
  near_told granted = []
  near_told answering = []
  near_told done = note ∷ []

  abbrev far_line : Phase → Line
  far_line wanted = fresh_line d
  far_line requested = fresh_line d
  far_line granted = lines.assigning (seed_of c) d
  far_line answering = lines.gave_it (seed_of c) d
  far_line done = lines.gave_it (seed_of c) d

  abbrev far_way : Phase → List (List ℕ)
  far_way wanted = []
  far_way requested = []
  far_way granted = []
  far_way answering = answer_frame ∷ []
  far_way done = []

  abbrev pub far_told : Phase → List LineTold
  far_told wanted = []
  far_told requested = []
  far_told granted = note ∷ []
  far_told answering = note ∷ []
  far_told done = note ∷ []

  pub record IsAt (p : Phase) (w : Wire) : Type 0 where
    pub near : IsSo c (near_line p) (near_way p) (near_told p) w.near
    pub far : IsSo d (far_line p) (far_way p) (far_told p) w.far

  -- A step leads on by one turn, or is none.
  pub record Led (p : Phase) (w' : Wire) (turn : ℕ) : Type 0 where
    pub phase : Phase
    pub at : IsAt phase w'
    pub price : turn + left phase ≤ left p

  module _ (own : is_terminal c ≡ true) (side : d.side ≡ Network) (opposite : own_side d ≡ heard_side c) (same-n201 : c.n201 ≡ d.n201) (ranged : IsInRange c) (far-ranged : IsInRange d) where
    stays : (p : Phase) (w : Wire) (turn : ℕ) → turn ≡ 0 → IsAt p w → Led p w turn
    stays p w turn none h = record { phase = p; at = h; price = omega (arith, none) }

    quiet-near : (p : Phase) → HasNone c (near_line p) → (w : Wire) → IsAt p w → Led p (acting sends w) (if is_turn_of sends w then 1 else 0)
    quiet-near p none w h =
        stays p (acting sends w) _ (ap (λ a. if is_any (frames_by a) then 1 else 0) (idle-gives c (near_line p) (near_way p) (near_told p) w.near h.near none))
        (record { near = idles c (near_line p) (near_way p) (near_told p) w.near h.near none; far = h.far })

    quiet-far : (p : Phase) → HasNone d (far_line p) → (w : Wire) → IsAt p w → Led p (turned (acting sends (turned w))) (if is_turn_of sends (turned w) then 1 else 0)
    quiet-far p none w h =
        stays p (turned (acting sends (turned w))) _ (ap (λ a. if is_any (frames_by a) then 1 else 0) (idle-gives d (far_line p) (far_way p) (far_told p) w.far h.far none))
        (record { near = h.near; far = idles d (far_line p) (far_way p) (far_told p) w.far h.far none })

    deaf-near : (p : Phase) → far_way p ≡ [] → (w : Wire) → IsAt p w → Led p (acting receives w) (if is_turn_of receives w then 1 else 0)
    deaf-near p none w h =
        let e = h.far.way ∙ none in
        stays p (acting receives w) _ (ap (λ way. if is_any way then 1 else 0) e) (subst (IsAt p) (sym (takes-none w e)) h)

    deaf-far : (p : Phase) → near_way p ≡ [] → (w : Wire) → IsAt p w → Led p (turned (acting receives (turned w))) (if is_turn_of receives (turned w) then 1 else 0)
    deaf-far p none w h =
        let e = h.near.way ∙ none in
        stays p (turned (acting receives (turned w))) _ (ap (λ way. if is_any way then 1 else 0) e) (subst (λ v. IsAt p (turned v)) (sym (takes-none (turned w) e)) h)

    -- the steps that lead on
    one : (p q : Phase) (w' : Wire) (b : Bool) → left q + 1 ≡ left p → IsAt q w' → Led p w' (if b then 1 else 0)
    one p q w' b less at = record { phase = q; at = at; price = price b }
      where
        price : (b : Bool) → (if b then 1 else 0) + left q ≤ left p
        price true = omega (arith, less)
        price false = omega (arith, less)

    request-goes : (w : Wire) → IsAt wanted w → Led wanted (acting sends w) (if is_turn_of sends w then 1 else 0)
    request-goes w h =
        let x = gives c (lines.asked c) [] [] w.near h.near in
        one wanted requested (acting sends w) (is_turn_of sends w) refl (record {
          near = record {
            config = x.config;
            sound = x.sound;
            within = x.within;
            granted = x.granted;
            line = x.line ∙ lines.goes-after c own ranged;
            way = x.way ∙ ap frames_by (lines.goes-answer c own ranged);
            told = x.told ∙ ap told_by (lines.goes-answer c own ranged);
          };
          far = h.far;
        })

    answer-goes : (w : Wire) → IsAt granted w → Led granted (turned (acting sends (turned w))) (if is_turn_of sends (turned w) then 1 else 0)
    answer-goes w h =
        let ri = seed_of c in
        let x = gives d (lines.assigning ri d) [] (note ∷ []) w.far h.far in
        one granted answering (turned (acting sends (turned w))) (is_turn_of sends (turned w)) refl (record {
          near = h.near;
          far = record {
            config = x.config;
            sound = x.sound;
            within = x.within;
            granted = x.granted;
            line = x.line ∙ lines.gives-after d side ri;
            way = x.way ∙ ap frames_by (lines.gives-answer d side ri);
            told = x.told ∙ ap (λ a. (note ∷ []) ++ told_by a) (lines.gives-answer d side ri);
          };
        })

    from-near : Carries (own_side c) d.n201 (lines.requested (seed_of c)) request_frame
    from-near = lines.carried (own_side c) d.n201 (seed_of c) 1 127 ((ranges_of d far-ranged).n201.least)

    from-far : Carries (own_side d) c.n201 (lines.answered (seed_of c)) answer_frame
    from-far = lines.carried (own_side d) c.n201 (seed_of c) 2 64 ((ranges_of c ranged).n201.least)

    request-comes : (w : Wire) → IsAt requested w → Led requested (turned (acting receives (turned w))) (if is_turn_of receives (turned w) then 1 else 0)
    request-comes w h =
        let ri = seed_of c in
        let some = (ranges_of d far-ranged).terminals.least in
        let read = subst (λ k. reading k request_frame ≡ Ok (lines.requested ri)) (sides-turned c d opposite) from-near.read in
        let x = comes d (fresh_line d) [] [] w.far h.far request_frame in
        let after-is = lines.assigns-after d side ((ranges_of d far-ranged).n201.least) some ri request_frame from-near.whole read in
        let answer-is = lines.assigns-answer d side ((ranges_of d far-ranged).n201.least) some ri request_frame from-near.whole read in
        let far : IsSo d (lines.assigning ri d) [] (note ∷ []) (frame_comes request_frame w.far) = record {
          config = x.config;
          sound = x.sound;
          within = x.within;
          granted = x.granted;
          line = x.line ∙ after-is;
          way = x.way ∙ ap frames_by answer-is;
          told = x.told ∙ ap told_by answer-is;
        } in
        one requested granted (turned (acting receives (turned w))) (is_turn_of receives (turned w)) refl (record {
          near = lost c (lines.waits c) (request_frame ∷ []) [] w.near h.near;
          far = subst (λ way. IsSo d (lines.assigning ri d) [] (note ∷ []) (with_first_of way w.far)) (sym h.near.way) far;
        })

    answer-comes : (w : Wire) → IsAt answering w → Led answering (acting receives w) (if is_turn_of receives w then 1 else 0)
    answer-comes w h =
        let ri = seed_of c in
        let some = (ranges_of c ranged).terminals.least in
        let read = subst (λ k. reading k answer_frame ≡ Ok (lines.answered ri)) opposite from-far.read in
        let x = comes c (lines.waits c) [] [] w.near h.near answer_frame in
        let after-is = lines.gets-after c own ((ranges_of c ranged).n201.least) some answer_frame from-far.whole read in
        let answer-is = lines.gets-answer c own ((ranges_of c ranged).n201.least) some answer_frame from-far.whole read in
        let near : IsSo c (lines.has_it c) [] (note ∷ []) (frame_comes answer_frame w.near) = record {
          config = x.config;
          sound = x.sound;
          within = x.within;
          granted = x.granted;
          line = x.line ∙ after-is;
          way = x.way ∙ ap frames_by answer-is;
          told = x.told ∙ ap told_by answer-is;
        } in
        one answering done (acting receives w) (is_turn_of receives w) refl (record {
          near = subst (λ way. IsSo c (lines.has_it c) [] (note ∷ []) (with_first_of way w.near)) (sym h.far.way) near;
          far = lost d (lines.gave_it ri d) (answer_frame ∷ []) (note ∷ []) w.far h.far;
        })

    -- ---- all steps

    near-sends : (p : Phase) (w : Wire) → IsAt p w → Led p (acting sends w) (if is_turn_of sends w then 1 else 0)
    near-sends wanted w h = request-goes w h
    near-sends requested w h = quiet-near requested (lines.none-waits c) w h
    near-sends granted w h = quiet-near granted (lines.none-waits c) w h
    near-sends answering w h = quiet-near answering (lines.none-waits c) w h
    near-sends done w h = quiet-near done (lines.none-has c) w h

    far-sends : (p : Phase) (w : Wire) → IsAt p w → Led p (turned (acting sends (turned w))) (if is_turn_of sends (turned w) then 1 else 0)
    far-sends wanted w h = quiet-far wanted (lines.none-first d) w h
    far-sends requested w h = quiet-far requested (lines.none-first d) w h
    far-sends granted w h = answer-goes w h
    far-sends answering w h = quiet-far answering (lines.none-gave (seed_of c) d) w h
    far-sends done w h = quiet-far done (lines.none-gave (seed_of c) d) w h

    near-receives : (p : Phase) (w : Wire) → IsAt p w → Led p (acting receives w) (if is_turn_of receives w then 1 else 0)
    near-receives wanted w h = deaf-near wanted refl w h
    near-receives requested w h = deaf-near requested refl w h
    near-receives granted w h = deaf-near granted refl w h
    near-receives answering w h = answer-comes w h
    near-receives done w h = deaf-near done refl w h

    far-receives : (p : Phase) (w : Wire) → IsAt p w → Led p (turned (acting receives (turned w))) (if is_turn_of receives (turned w) then 1 else 0)
    far-receives wanted w h = deaf-far wanted refl w h
    far-receives requested w h = request-comes w h
    far-receives granted w h = deaf-far granted refl w h
    far-receives answering w h = deaf-far answering refl w h
    far-receives done w h = deaf-far done refl w h

    step : (x : StepAt) → SendsOrReceives x → (p : Phase) (w : Wire) → IsAt p w → Led p (doing x w) (if is_turn x w then 1 else 0)
    step (at_near sends) is p w h = near-sends p w h
    step (at_near receives) is p w h = near-receives p w h
    step (at_near other) is p w h = absurd is
    step (at_far sends) is p w h = far-sends p w h
    step (at_far receives) is p w h = far-receives p w h
    step (at_far other) is p w h = absurd is

    pub runs : (ds : List StepAt) → All SendsOrReceives ds → (p : Phase) (w : Wire) → IsAt p w → Led p (doing_all ds w) (turns ds w)
    unfolding doing_all turns
    runs [] all p w h = record { phase = p; at = h; price = omega arith }
    runs (x ∷ ds) all p w h =
        let x1 = step x (All-head SendsOrReceives x ds all) p w h in
        let rest = runs ds (All-tail SendsOrReceives x ds all) x1.phase (doing x w) x1.at in
        record { phase = rest.phase; at = rest.at; price = omega (arith, x1.price, rest.price) }

    -- ---- where no turn is left both have it

    pub still-done : (p : Phase) (w : Wire) → IsAt p w → IsStill w → p ≡ done
    still-done wanted w h still = absurd (no-frame request_frame (sym (gives-answer c (lines.asked c) [] [] w.near h.near ∙ lines.goes-answer c own ranged) ∙ still.near))
    still-done requested w h still = absurd (no-way request_frame (sym h.near.way ∙ still.near_way))
    still-done granted w h still = absurd (no-frame answer_frame (sym (gives-answer d (lines.assigning (seed_of c) d) [] (note ∷ []) w.far h.far ∙ lines.gives-answer d side (seed_of c)) ∙ still.far))
    still-done answering w h still = absurd (no-way answer_frame (sym h.far.way ∙ still.far_way))
    still-done done w h still = refl
