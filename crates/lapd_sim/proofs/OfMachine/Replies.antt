-- The text of a script is what the answers to its events say.
use Rattle.lapd_sim.proofs.OfMachine.Vocabulary.{[], arith, ◌≡◌, ℕ, Bool, true, false, cond, List, ◌∷◌, ◌++◌, Option, Some, None, Result, Ok, Err, refl, sym, ap, ◌∙◌, subst, append_assoc, append-nil, fold, none-some, Event, Board, fresh, moments, after_all, FaultKind, TooLong, read, pieces_of, line_in, Setup, begun, Scene, with_card, without_card, Fault, Played, not_begun}
use Rattle.lapd_sim.proofs.OfMachine.Vocabulary.{faulty, is_too_long, after_scene, after_bench, after_reading, one_more, read_events, unless_fault, line_events, events_from, first_board, meant_moments, read_moments, read_text, line_moments, moments_from, text_from, TranscriptsAreReplies}
use Rattle.lapd_script.specs.Meaning as line
use Rattle.lapd_sim.specs.machine.Replies.{said, line_text}
use Rattle.lapd_sim.proofs.OfMachine.Events.{one_goes, Begins, waits, stops, begins, one_begins, nothing_brought, stopped}
use Rattle.lapd_sim.proofs.OfMachine.Meanings.{May, meaning_brings, moments-append, no_moment, scene_of}

-- A line, as far as the script has been played.
abbrev Writes : List ℕ → List ℕ → Played → Type 0
Writes before text q = q.written ≡ before ++ unless_fault q.fault text

abbrev on : Option Setup → Option Fault → Played → Played
on setup fault p = record p { setup = setup; fault = fault }

writes_nothing : (before : List ℕ) → before ≡ before ++ []
writes_nothing before = sym (append-nil before)

scene_writes : (piece : List ℕ) (b : Setup) (p : Played) (events : List Event) (text : List ℕ) (r : Result Scene FaultKind) → p.fault ≡ None → May b events text r → Writes p.written text (after_scene piece r p)
scene_writes piece b p events text (Err kind) clear h = writes_nothing p.written
scene_writes piece b p events text (Ok s) clear h = ap (λ x. p.written ++ x) (h.says ∙ ap (λ f. unless_fault f text) (sym clear))

without_writes : (piece : List ℕ) (p : Played) (r : Result (Option Setup) FaultKind) → Writes p.written [] (after_bench piece r p)
without_writes piece p r = grind (arith, Err, writes_nothing, Ok, Fault, unless_fault)

reading_writes : (piece : List ℕ) (o : Option Setup) (p : Played) (r : Result line.Meaning FaultKind)
    → Writes p.written (read_text r o) (after_reading piece r (on o None p))
reading_writes piece o p (Err kind) = writes_nothing p.written
reading_writes piece None p (Ok m) = without_writes piece (on None None p) (without_card m)
reading_writes piece (Some b) p (Ok m) =
    scene_writes piece b (on (Some b) None p) _ (said m b (meant_moments m b)) (with_card m (scene_of b)) refl (meaning_brings m b)

line_writes : (piece : List ℕ) (o : Option Setup) (fault : Option Fault) (p : Played)
    → Writes p.written (read_text (read (line_in piece)) o) (one_more (on o fault p) piece)
line_writes piece o (Some fault) p = writes_nothing p.written
line_writes piece o None p = go (is_too_long piece (on o None p))
  where
    go : (long : Bool) → Writes p.written (read_text (read (line_in piece)) o)
        (cond long (faulty TooLong (on o None p)) (after_reading piece (read (line_in piece)) (on o None p)))
    go true = writes_nothing p.written
    go false = reading_writes piece o p (read (line_in piece))

lines_write : (pieces : List (List ℕ)) (p : Played) → (fold one_more p pieces).written ≡ p.written ++ text_from p pieces
lines_write [] p = writes_nothing p.written
lines_write (piece ∷ pieces) p =
    lines_write pieces (one_more p piece)
    ∙ ap (λ x. x ++ text_from (one_more p piece) pieces) (line_writes piece p.setup p.fault p)
    ∙ append_assoc p.written (line_text piece p) (text_from (one_more p piece) pieces)

-- The moments, line after line.
same_moments : (b : Setup) (fault : Option Fault) (r : Result line.Meaning FaultKind)
    → moments b.board (unless_fault fault (read_events r (Some b))) ≡ unless_fault fault (read_moments r (Some b))
same_moments b fault r = grind (arith, no_moment, Err, Ok)

line_moments_are : (piece : List ℕ) (p : Played) (b : Setup) → p.setup ≡ Some b → moments b.board (line_events piece p) ≡ line_moments piece p
line_moments_are piece p b e =
    subst (λ o. moments b.board (unless_fault (one_more p piece).fault (read_events (read (line_in piece)) o)) ≡ unless_fault (one_more p piece).fault (read_moments (read (line_in piece)) o))
    (sym e) (same_moments b (one_more p piece).fault (read (line_in piece)))

lines_moments : (pieces : List (List ℕ)) (p : Played) (b : Setup) → p.setup ≡ Some b → moments b.board (events_from p pieces) ≡ moments_from p pieces
lines_moments [] p b e = no_moment b.board
lines_moments (piece ∷ pieces) p b e =
    let step = one_goes piece b p e in
    moments-append b.board (line_events piece p) (events_from (one_more p piece) pieces)
    ∙ ap (λ ms. ms ++ moments (after_all b.board (line_events piece p)) (events_from (one_more p piece) pieces)) (line_moments_are piece p b e)
    ∙ ap (λ ms. line_moments piece p ++ ms) (ap (λ c. moments c (events_from (one_more p piece) pieces)) (sym step.led.board) ∙ lines_moments pieces (one_more p piece) step.setup step.there)

nothing_met : (fault : Option Fault) (r : Result line.Meaning FaultKind) → unless_fault fault (read_moments r None) ≡ []
nothing_met fault r = grind (arith, Err, Ok)

moments_run : (pieces : List (List ℕ)) (p : Played) (last : Setup) (b : Board) → p.setup ≡ None → (fold one_more p pieces).setup ≡ Some last
    → first_board pieces ≡ Some b → moments b (events_from p pieces) ≡ moments_from p pieces
moments_run [] p last b e there is_card = absurd (none-some last (sym e ∙ there))
moments_run (piece ∷ pieces) p last b e there is_card =
    ap (λ events. moments b (events ++ events_from next pieces)) (nothing_brought piece p e)
    ∙ go (λ f later. moments_run pieces next last b f there later) (one_begins piece p e)
    ∙ ap (λ ms. ms ++ moments_from next pieces) (sym says_nothing)
  where
    next : Played
    next = one_more p piece

    says_nothing : line_moments piece p ≡ []
    says_nothing = ap (λ o. unless_fault next.fault (read_moments (read (line_in piece)) o)) e ∙ nothing_met next.fault (read (line_in piece))

    after_line : Option Board → Option Board
    after_line o = elim o [ None ↦ first_board pieces | Some d ↦ Some d ]

    go : (next.setup ≡ None → first_board pieces ≡ Some b → moments b (events_from next pieces) ≡ moments_from next pieces)
        → Begins (read (line_in piece)) next → moments b (events_from next pieces) ≡ moments_from next pieces
    go more (waits none no_card) = more none (sym (ap after_line no_card) ∙ is_card)
    go more (stops none fault f) = absurd (none-some last (sym none ∙ sym (stopped pieces next fault f) ∙ there))
    go more (begins kind d begun_with starts ranged) =
        let told : Some (fresh kind d) ≡ Some b = sym (ap after_line begun_with) ∙ is_card in
        let same : fresh kind d ≡ b = cc in
        subst (λ x. moments x (events_from next pieces) ≡ moments_from next pieces) same (lines_moments pieces next (begun kind d) starts)

pub transcripts_are_replies : TranscriptsAreReplies
transcripts_are_replies = grind (arith, moments_run, pieces_of, not_begun, lines_write)
