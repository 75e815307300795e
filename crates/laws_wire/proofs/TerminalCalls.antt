-- A terminal that has its TEI calls, or is called.
use Rattle.laws_wire.proofs.Vocabulary.{◌≡◌, ℕ, ◌+◌, ◌*◌, ◌≤◌, Bool, true, false, if◌then◌else◌, granted_of, all_told, confirmed, told_first, List, [], ◌∷◌, ◌++◌, append-nil, Sender, other_side, length, None, Some, refl, sym, ap, subst, ◌∙◌, arith, All, All-nil, get_or-set_same, length-replicate, has-place, table-put, table-empty, Service, fresh, given, terms, terms_at, terms_in_range}
use Rattle.laws_wire.proofs.Vocabulary.{fresh_gives_nothing, Config, Line, LineTold, Establish, Endpoint, Wire, StepAt, EndStep, requests, acting, turned, AreOpposite, CanCall, IsStill, ranges_of}
use Rattle.laws_wire.proofs.Vocabulary.{IsCall, ComesThrough, ToldInOrder, IsBeginningOf}
use Rattle.lapd_frame.specs.declared.addresses.Side.TheVariants.{Network}
use Rattle.model_line.specs.Line.{is_terminal, seed_of}
use Rattle.model_line.specs.Sound.{IsInRange}
use Rattle.laws_wire.specs.Arriving.{SendsOrReceives}
use Rattle.laws_wire.specs.Terminals.{asking, assigned_told, AreToldWithin, CallsComeThroughThen, TerminalsComeThrough}
unfoldable use Rattle.laws_wire.specs.Wire.{doing_all, turns}
unfoldable use Rattle.laws_wire.specs.Call.{both_call}
use Rattle.laws_wire.proofs.Beginning.{none-on, free-is, frees}
use Rattle.laws_wire.proofs.BothAsking.{calls}
use Rattle.laws_wire.proofs.Calling.{end}
use Rattle.laws_wire.proofs.LineSpeaks.{Speaks}
use Rattle.laws_wire.proofs.Quiet.{Both, turned-both}
use Rattle.laws_wire.proofs.Run.{begun-comes, faces, faces-back}
use Rattle.laws_wire.proofs.Spelled.{sides-turned}
use Rattle.laws_wire.proofs.Standing.{IsCarried}
use Rattle.laws_wire.proofs.Talking.{unheard, Holds}
use Rattle.laws_wire.proofs.ToldBefore.{with_past, acts-after, all-after, turns-after, both-after}
use Rattle.laws_wire.proofs.TerminalLines as lines
use Rattle.laws_wire.proofs.TerminalLines.{HasNone}
use Rattle.laws_wire.proofs.TerminalTurns.{IsSo, IsAt, Phase, wanted, requested, granted, answering, done, begins, asks, runs, still-done}

-- ---- a line that has the TEI at its first place, and on which nothing waits

module _ (service : Service) (c : Config) (ranged : IsInRange c) (l : Line) (places : l.management.places ≡ lines.first c.terminals) (none : HasNone c l) where
  some : 1 ≤ c.terminals
  some = (ranges_of c ranged).terminals.least

  placed : Rattle.model_teis.specs.Table.place_of 64 (lines.first c.terminals) ≡ Some 0
  placed =
      let many : length (frees c.terminals) ≡ c.terminals = length-replicate c.terminals None in
      has-place (lines.first c.terminals) 64 0
      (table-put (frees c.terminals) 0 64 (table-empty c.terminals) (none-on 64 c.terminals) (free-is c.terminals some) (omega arith))
      (get_or-set_same (frees c.terminals) 0 (Some 64) None (omega (arith, many, some)))

  speaks : Speaks c service 64 0 fresh l
  speaks = record {
    placed = ap (Rattle.model_teis.specs.Table.place_of 64) places ∙ placed;
    messages = none.messages;
    units = none.units;
    silent = λ number low other. ap (given (terms_at c number l)) (none.links number) ∙ fresh_gives_nothing (terms_at c number l);
    link = none.links (Rattle.model_line.specs.Line.link_number 0 service);
  }

  -- so its endpoint stands for an end in state 4
  pub holds : (said : List LineTold) (s : Endpoint) → IsSo c l [] said s → Holds c service 64 0 unheard (record s { told = [] }) (end (terms c service 64) fresh [])
  holds said s h = record {
    stands = record {
      config = h.config;
      sound = h.sound;
      within = h.within;
      speaks = subst (Speaks c service 64 0 fresh) (sym h.line) speaks;
      terms = refl;
      way = h.way;
      carried = All-nil (IsCarried c service 64);
    };
    granted = h.granted;
    since = [];
    told = refl;
    delivered = refl;
  }

-- ---- a call from two such ends

abbrev note : LineTold
note = assigned_told

abbrev pub untold : Wire → Wire
untold w = record { near = record w.near { told = [] }; far = record w.far { told = [] } }

after-note : (w : Wire) (all told : List LineTold) → ToldInOrder (IsStill w) all told → ToldInOrder (IsStill (with_past (note ∷ []) (note ∷ []) w)) (note ∷ all) (note ∷ told)
after-note w all told h = (
  (h.0.0, ap (λ ts. note ∷ ts) h.0.1),
  λ still. ap (λ ts. note ∷ ts) (h.1 (record { near = still.near; far = still.far; near_way = still.near_way; far_way = still.far_way })),
)

four-more : (both : Bool) (before b g : ℕ) → before ≤ 4 → b ≤ (if both then 8 else 4) + 4 * g → before + b ≤ (if both then 12 else 8) + 4 * g
four-more true before b g few less = omega (arith, few, less)
four-more false before b g few less = omega (arith, few, less)

-- what a call tells comes after it
abbrev Then : Service → ℕ → Bool → Wire → Type 0
Then service taken both w =
    AreToldWithin taken ((if both then 12 else 8) + 4 * granted_of w) (note ∷ all_told service 64 (confirmed service 64) w.far) (note ∷ all_told service 64 (told_first service 64 both) w.near) w

then-told : (service : Service) (before taken : ℕ) (both : Bool) (w : Wire) → before ≤ 4 → ComesThrough service 64 taken both w → Then service (before + taken) both (with_past (note ∷ []) (note ∷ []) w)
then-told service before taken both w few x = record {
  turns = four-more both before taken (granted_of w) few x.turns;
  near = after-note w (all_told service 64 (confirmed service 64) w.far) w.near.told x.near;
  far = after-note w (all_told service 64 (told_first service 64 both) w.near) w.far.told x.far;
}

module _ (c d : Config) (ranged : IsInRange c) (far-ranged : IsInRange d) (opposite : AreOpposite c d) (w : Wire) (near-told : w.near.told ≡ note ∷ []) (far-told : w.far.told ≡ note ∷ [])
    (ends : (service : Service) → Both service 64 c d 0 0 unheard unheard (untold w) (end (terms c service 64) fresh []) (end (terms d service 64) fresh [])) (before : ℕ) (few-before : before ≤ 4) where
  first-told : with_past (note ∷ []) (note ∷ []) (untold w) ≡ w
  first-told = λ i. record { near = record w.near { told = sym near-told i }; far = record w.far { told = sym far-told i } }

  module _ (service : Service) (ds : List StepAt) (called : All (IsCall service 64) ds) where
    abbrev asks_it : EndStep
    asks_it = requests (Establish service 64)

    abbrev v : Wire
    v = acting asks_it (untold w)

    untold-comes : ComesThrough service 64 (turns ds v) (both_call ds v) (doing_all ds v)
    untold-comes =
        let few : 64 ≤ 126 = omega arith in
        let h = ends service in
        let x = calls service 64 0 few c unheard (untold w).near h.near in
        begun-comes service 64 few c d 0 0 (faces c d opposite) (faces-back c d opposite) (terms_in_range c ranged service 64 few) (terms_in_range d far-ranged service 64 few)
        v (record { near = x.holds; far = h.far }) ds called

    abbrev note-first : Wire → Wire
    note-first w = with_past (note ∷ []) (note ∷ []) w

    of-all : (v' : Wire) → note-first v ≡ v' → Then service (before + turns ds v') (both_call ds v') (doing_all ds v')
    of-all v' is =
        let x = then-told service before (turns ds v) (both_call ds v) (doing_all ds v) few-before untold-comes in
        subst (λ v'. Then service (before + turns ds v') (both_call ds v') (doing_all ds v')) is
        (subst (λ n. Then service (before + n) (both_call ds (note-first v)) (doing_all ds (note-first v))) (sym (turns-after (note ∷ []) (note ∷ []) ds v))
        (subst (λ b. Then service (before + turns ds v) b (doing_all ds (note-first v))) (sym (both-after (note ∷ []) (note ∷ []) ds v))
        (subst (Then service (before + turns ds v) (both_call ds v)) (sym (all-after (note ∷ []) (note ∷ []) ds v)) x)))

    comes-then : Then service (before + turns ds (acting asks_it w)) (both_call ds (acting asks_it w)) (doing_all ds (acting asks_it w))
    comes-then = of-all (acting asks_it w) (sym (acts-after (note ∷ []) (note ∷ []) asks_it (untold w)) ∙ ap (acting asks_it) first-told)

  pub calls-then : CallsComeThroughThen before w
  calls-then service ds called = comes-then service ds called

-- ---- what is told of a TEI

before-it : (told : List LineTold) → told ≡ [] → IsBeginningOf (note ∷ []) told
before-it told none = (note ∷ [], ap (λ ts. ts ++ note ∷ []) none)

all-of-it : (told : List LineTold) → told ≡ note ∷ [] → IsBeginningOf (note ∷ []) told
all-of-it told all = ([], append-nil told ∙ all)

not-yet : (told : List LineTold) → told ≡ [] → told ≡ note ∷ [] → ⊥
not-yet told none all = cc (none, all)

-- ---- a terminal's card and one of the network's side begin

module _ (c d : Config) (line other : ℕ) (can : CanCall c line d other 64) (own : is_terminal c ≡ true) where
  side : d.side ≡ Network
  side = ap (λ (s : Sender). s.side) can.opposite.0 ∙ ap other_side (lines.terminal-side c own)

  module _ (p : Phase) (w : Wire) (h : IsAt c d p w) where
    near-so_far : IsBeginningOf (note ∷ []) w.near.told
    near-so_far = go p h
      where
        go : (p : Phase) → IsAt c d p w → IsBeginningOf (note ∷ []) w.near.told
        go done h = all-of-it w.near.told h.near.told
        go wanted h = before-it w.near.told h.near.told
        go requested h = before-it w.near.told h.near.told
        go granted h = before-it w.near.told h.near.told
        go answering h = before-it w.near.told h.near.told

    far-so_far : IsBeginningOf (note ∷ []) w.far.told
    far-so_far = go p h
      where
        go : (p : Phase) → IsAt c d p w → IsBeginningOf (note ∷ []) w.far.told
        go wanted h = before-it w.far.told h.far.told
        go requested h = before-it w.far.told h.far.told
        go granted h = all-of-it w.far.told h.far.told
        go answering h = all-of-it w.far.told h.far.told
        go done h = all-of-it w.far.told h.far.told

    told-done : w.near.told ≡ note ∷ [] → p ≡ done
    told-done told = go p h
      where
        go : (p : Phase) → IsAt c d p w → p ≡ done
        go done h = refl
        go wanted h = absurd (not-yet w.near.told h.near.told told)
        go requested h = absurd (not-yet w.near.told h.near.told told)
        go granted h = absurd (not-yet w.near.told h.near.told told)
        go answering h = absurd (not-yet w.near.told h.near.told told)

    still-told : IsStill w → IsAt c d done w
    still-told still = subst (λ p. IsAt c d p w) (still-done c d own side can.opposite.0 can.opposite.1 can.near.0 can.far.0 p w h still) h

  both-have : (w : Wire) → IsAt c d done w → (service : Service)
      → Both service 64 c d 0 0 unheard unheard (untold w) (end (terms c service 64) fresh []) (end (terms d service 64) fresh [])
  both-have w h service = record {
    near = holds service c can.near.0 (lines.has_it c) refl (lines.none-has c) (note ∷ []) w.near h.near;
    far = holds service d can.far.0 (lines.gave_it (seed_of c) d) refl (lines.none-gave (seed_of c) d) (note ∷ []) w.far h.far;
  }

  abbrev w0 : Wire
  w0 = asking c line d other

  first-phase : IsAt c d wanted w0
  first-phase = record { near = asks c can.near.0 line can.near.1 own; far = begins d can.far.0 other can.far.1 }

  comes : (ds : List StepAt) → All SendsOrReceives ds
      → AreToldWithin (turns ds w0) 4 (note ∷ []) (note ∷ []) (doing_all ds w0)
      × ((doing_all ds w0).near.told ≡ note ∷ [] → CallsComeThroughThen (turns ds w0) (doing_all ds w0) × CallsComeThroughThen (turns ds w0) (turned (doing_all ds w0)))
  comes ds all =
      let w = doing_all ds w0 in
      let x = runs c d own side can.opposite.0 can.opposite.1 can.near.0 can.far.0 ds all wanted w0 first-phase in
      let few : turns ds w0 ≤ 4 = omega (arith, x.price) in (
        record {
          turns = few;
          near = (near-so_far x.phase w x.at, λ still. (still-told x.phase w x.at still).near.told);
          far = (far-so_far x.phase w x.at, λ still. (still-told x.phase w x.at still).far.told);
        },
        λ told.
            let h = subst (λ p. IsAt c d p w) (told-done x.phase w x.at told) x.at in
            let has = both-have w h in (
              calls-then c d can.near.0 can.far.0 can.opposite w told h.far.told has (turns ds w0) few,
              calls-then d c can.far.0 can.near.0 (sides-turned c d can.opposite.0, sym can.opposite.1) (turned w) h.far.told told
                  (λ service. turned-both service 64 c d 0 0 unheard unheard (untold w) _ _ (has service)) (turns ds w0) few,
            ),
      )

pub terminals-come-through : TerminalsComeThrough
terminals-come-through c d line other ds can own all = comes c d line other can own ds all
