-- A script is a run of the card: each line's events lead the card as the line does.
use Rattle.lapd_sim.proofs.OfMachine.Vocabulary.{[], ◌≡◌, ℕ, ◌<◌, Bool, true, false, cond, List, ◌∷◌, ◌++◌, Option, Some, None, Result, Ok, Err, refl, sym, ap, ◌∙◌, subst, arith, fold, All, All-append, none-some, standard, Config, Field, IsInRange, Event, Board, fresh, after_all, IsAtLine, AreAtLines, CardKind, FaultKind, TooLong, BadCard, read, pieces_of, line_in, Setup, begun, Scene}
use Rattle.lapd_sim.proofs.OfMachine.Vocabulary.{with_card, without_card, Fault, Played, not_begun, played, faulty, is_too_long, after_scene, after_bench, after_reading, unless_faulty, one_more, meant_events, read_events, unless_fault, line_events, events_from, board_meant, first_board, script_events, ScriptsAreRuns}
use Rattle.model_line.specs.Config as configs
use Rattle.lapd_script.specs.Meaning as line
use Rattle.lapd_sim.proofs.OfMachine.Kinds.{IsEventOf, EachIsOf, all_of_kind}
use Rattle.lapd_sim.proofs.OfMachine.Runs.{after_all-append, config_stays, kind_stays}
use Rattle.lapd_sim.proofs.OfMachine.Kept.{IsKept}
use Rattle.lapd_sim.proofs.OfMachine.Meanings.{Led, May, in_range, meaning_brings, nothing_led, scene_of}

-- Where there is a card before the line there is one after it.
pub record Goes (before : Setup) (events : List Event) (q : Played) : Type 0 where
  pub setup : Setup
  pub there : q.setup ≡ Some setup
  pub led : Led before (unless_fault q.fault events) setup

scene_goes : (piece : List ℕ) (b : Setup) (p : Played) (events : List Event) (text : List ℕ) (r : Result Scene FaultKind) → p.setup ≡ Some b → p.fault ≡ None
    → May b events text r → Goes b events (after_scene piece r p)
scene_goes piece b p events text (Err kind) e clear h = record { setup = b; there = e; led = nothing_led b }
scene_goes piece b p events text (Ok s) e clear h = record {
  setup = s.setup;
  there = refl;
  led = subst (λ f. Led b (unless_fault f events) s.setup) (sym clear) h.led;
}

abbrev on : Option Setup → Option Fault → Played → Played
on setup fault p = record p { setup = setup; fault = fault }

reading_goes : (piece : List ℕ) (b : Setup) (p : Played) (r : Result line.Meaning FaultKind)
    → Goes b (read_events r (Some b)) (after_reading piece r (on (Some b) None p))
reading_goes piece b p (Err kind) = record { setup = b; there = refl; led = nothing_led b }
reading_goes piece b p (Ok m) =
    scene_goes piece b (on (Some b) None p) (meant_events m (scene_of b)) _ (with_card m (scene_of b)) refl refl (meaning_brings m b)

line_goes : (piece : List ℕ) (b : Setup) (fault : Option Fault) (p : Played)
    → Goes b (read_events (read (line_in piece)) (Some b)) (one_more (on (Some b) fault p) piece)
line_goes piece b (Some fault) p = record { setup = b; there = refl; led = nothing_led b }
line_goes piece b None p = go (is_too_long piece (on (Some b) None p))
  where
    go : (long : Bool) → Goes b (read_events (read (line_in piece)) (Some b))
        (cond long (faulty TooLong (on (Some b) None p)) (after_reading piece (read (line_in piece)) (on (Some b) None p)))
    go true = record { setup = b; there = refl; led = nothing_led b }
    go false = reading_goes piece b p (read (line_in piece))

pub one_goes : (piece : List ℕ) (b : Setup) (p : Played) → p.setup ≡ Some b → Goes b (read_events (read (line_in piece)) p.setup) (one_more p piece)
one_goes piece b p e =
    subst (λ o. Goes b (read_events (read (line_in piece)) o) (one_more (on o p.fault p) piece)) (sym e) (line_goes piece b p.fault p)

-- One list of events, and then another.
led_then : (a b c : Setup) (xs ys : List Event) → Led a xs b → Led b ys c → Led a (xs ++ ys) c
led_then a b c xs ys first then = record {
  board = then.board ∙ ap (λ x. after_all x ys) first.board ∙ sym (after_all-append a.board xs ys);
  of_kind =
      let same : b.board.kind ≡ a.board.kind = ap (λ (x : Board). x.kind) first.board ∙ kind_stays a.board xs in
      All-append (IsEventOf a.board.kind) xs ys first.of_kind (subst (λ kind. EachIsOf kind ys) same then.of_kind);
  kept = λ k.
      let here = first.kept k in
      let there = then.kept here.0 in
      let same : b.board.config ≡ a.board.config = ap (λ (x : Board). x.config) first.board ∙ config_stays a.board xs in
      (there.0, All-append (IsAtLine a.board) xs ys here.1 (subst (λ (x : Config). All (λ (e : Event). e.line < x.lines) ys) same there.1));
}

lines_go : (pieces : List (List ℕ)) (p : Played) (b : Setup) → p.setup ≡ Some b
    → (last : Setup) → (fold one_more p pieces).setup ≡ Some last → Led b (events_from p pieces) last
lines_go [] p b e last there =
    let same : b ≡ last = cc in
    subst (λ x. Led b [] x) same (nothing_led b)
lines_go (piece ∷ pieces) p b e last there =
    let step = one_goes piece b p e in
    let next = one_more p piece in
    led_then b step.setup last (line_events piece p) (events_from next pieces) step.led (lines_go pieces next step.setup step.there last there)

-- Where there is none before the line: none yet, none for good, or the one that begins.
pub data Begins (r : Result line.Meaning FaultKind) (q : Played) : Type 0 where
  waits : q.setup ≡ None → board_meant r ≡ None → Begins r q
  stops : q.setup ≡ None → (fault : Fault) → q.fault ≡ Some fault → Begins r q
  begins : (kind : CardKind) (c : Config) → board_meant r ≡ Some (fresh kind c) → q.setup ≡ Some (begun kind c) → IsInRange c → Begins r q

card_begins : (piece : List ℕ) (kind : CardKind) (config : Config) (p : Played) → p.setup ≡ None
    → Begins (Ok (line.card kind config)) (after_bench piece (without_card (line.card kind config)) p)
card_begins piece kind config p e = go (configs.first_fault config) refl
  where
    go : (o : Option Field) → configs.first_fault config ≡ o → Begins (Ok (line.card kind config))
        (after_bench piece (elim o as (λ o. Result (Option Setup) FaultKind) [ None ↦ Ok (Some (begun kind config)) | Some field ↦ Err BadCard ]) p)
    go None ranged = begins kind config refl refl ranged
    go (Some field) fault = stops e _ refl

reading_begins : (piece : List ℕ) (r : Result line.Meaning FaultKind) (p : Played) → Begins r (after_reading piece r (on None None p))
reading_begins piece (Ok line.skip) p = waits refl refl
reading_begins piece (Ok (line.card kind config)) p = card_begins piece kind config (on None None p) refl
reading_begins piece _ p = stops refl _ refl

line_begins : (piece : List ℕ) (fault : Option Fault) (p : Played) → Begins (read (line_in piece)) (one_more (on None fault p) piece)
line_begins piece (Some fault) p = stops refl fault refl
line_begins piece None p = go (is_too_long piece (on None None p))
  where
    go : (long : Bool) → Begins (read (line_in piece)) (cond long (faulty TooLong (on None None p)) (after_reading piece (read (line_in piece)) (on None None p)))
    go true = stops refl _ refl
    go false = reading_begins piece (read (line_in piece)) p

pub one_begins : (piece : List ℕ) (p : Played) → p.setup ≡ None → Begins (read (line_in piece)) (one_more p piece)
one_begins piece p e = subst (λ o. Begins (read (line_in piece)) (one_more (on o p.fault p) piece)) (sym e) (line_begins piece p.fault p)

nothing_read : (f : Option Fault) (r : Result line.Meaning FaultKind) → unless_fault f (read_events r None) ≡ []
nothing_read f r = grind (arith, Err, Ok)

pub nothing_brought : (piece : List ℕ) (p : Played) → p.setup ≡ None → line_events piece p ≡ []
nothing_brought piece p e = ap (λ o. unless_fault (one_more p piece).fault (read_events (read (line_in piece)) o)) e ∙ nothing_read (one_more p piece).fault (read (line_in piece))

pub stopped : (pieces : List (List ℕ)) (p : Played) (fault : Fault) → p.fault ≡ Some fault → (fold one_more p pieces).setup ≡ p.setup
stopped [] p fault e = refl
stopped (piece ∷ pieces) p fault e =
    let same : one_more p piece ≡ p = ap (λ f. unless_faulty piece f p) e in
    stopped pieces (one_more p piece) fault (ap (λ (q : Played). q.fault) same ∙ e) ∙ ap (λ (q : Played). q.setup) same

-- On a card that has just begun, no timer runs.
fresh_kept : (kind : CardKind) (c : Config) → IsKept (begun kind c)
fresh_kept kind c = record { ticks = record { in_order = tt; on_lines = tt; lengths = in_range standard refl }; later = tt }

pub record Ran (p : Played) (pieces : List (List ℕ)) (last : Setup) : Type 0 where
  pub kind : CardKind
  pub config : Config
  pub begun : first_board pieces ≡ Some (fresh kind config)
  pub in_range : IsInRange config
  pub at_lines : AreAtLines (fresh kind config) (events_from p pieces)
  pub of_kind : EachIsOf kind (events_from p pieces)
  pub board : last.board ≡ after_all (fresh kind config) (events_from p pieces)
  pub kept : IsKept last

lines_run : (pieces : List (List ℕ)) (p : Played) (last : Setup) → p.setup ≡ None → (fold one_more p pieces).setup ≡ Some last → Ran p pieces last
lines_run [] p last e there = absurd (none-some last (sym e ∙ there))
lines_run (piece ∷ pieces) p last e there = go (λ f. lines_run pieces (one_more p piece) last f there) (one_begins piece p e)
  where
    next : Played
    next = one_more p piece

    no_more_events : events_from next pieces ≡ events_from p (piece ∷ pieces)
    no_more_events = sym (ap (λ events. events ++ events_from next pieces) (nothing_brought piece p e))

    after_line : Option Board → Option Board
    after_line o = elim o [ None ↦ first_board pieces | Some b ↦ Some b ]

    go : (next.setup ≡ None → Ran next pieces last) → Begins (read (line_in piece)) next → Ran p (piece ∷ pieces) last
    go later (waits none no_card) =
        let ran = later none in
        record {
          kind = ran.kind;
          config = ran.config;
          begun = ap after_line no_card ∙ ran.begun;
          in_range = ran.in_range;
          at_lines = subst (AreAtLines (fresh ran.kind ran.config)) no_more_events ran.at_lines;
          of_kind = subst (EachIsOf ran.kind) no_more_events ran.of_kind;
          board = ran.board ∙ ap (λ events. after_all (fresh ran.kind ran.config) events) no_more_events;
          kept = ran.kept;
        }
    go later (stops none fault f) = absurd (none-some last (sym none ∙ sym (stopped pieces next fault f) ∙ there))
    go later (begins kind c is_card starts ranged) =
        let led = lines_go pieces next (begun kind c) starts last there in
        let kept = led.kept (fresh_kept kind c) in
        record {
          kind = kind;
          config = c;
          begun = ap after_line is_card;
          in_range = ranged;
          at_lines = subst (AreAtLines (fresh kind c)) no_more_events kept.1;
          of_kind = subst (EachIsOf kind) no_more_events led.of_kind;
          board = led.board ∙ ap (λ events. after_all (fresh kind c) events) no_more_events;
          kept = kept.0;
        }

pub script_ran : (text : List ℕ) (setup : Setup) → (played (pieces_of text)).setup ≡ Some setup → Ran not_begun (pieces_of text) setup
script_ran text setup there = lines_run (pieces_of text) not_begun setup refl there

pub scripts_are_runs : ScriptsAreRuns
scripts_are_runs text setup there =
    let ran = script_ran text setup there in
    record {
      kind = ran.kind;
      config = ran.config;
      begun = ran.begun;
      in_range = ran.in_range;
      at_lines = ran.at_lines;
      of_kind = all_of_kind ran.kind (script_events text) ran.of_kind;
      board = ran.board;
    }
