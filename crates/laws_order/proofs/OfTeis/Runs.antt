-- A run of a network's line and a terminal's.
use Rattle.std.specs.Prelude.{◌≡◌, ℕ, ◌<◌, ◌==◌, ◌&&◌, ◌||◌, Bool, true, false, cond, List, [], ◌∷◌, ◌++◌, length, map, filter, fold, drop, take, replicate, zero, suc, All, None, refl}
use Rattle.std.specs.List.{list_any}
use Rattle.std.proofs.Common.{subst, sym, ap, ◌∙◌, append-nil, eq-eqb, eqb-true}
use Rattle.std.proofs.lemmas.List.Elements.{All-append, All-cons, All-head, All-nil, All-tail}
use Rattle.lapd_frame.specs.Grammar.{Parts}
use Rattle.lapd_frame.specs.declared.addresses.Side.{Side}
use Rattle.model_teis.specs.declared.network.messages.Message.{Message}
use Rattle.model_teis.specs.declared.network.remembered.Remembered.{Remembered}
use Rattle.model_line.specs.declared.config.Config.{Config}
use Rattle.model_line.specs.Came.{came}
use Rattle.model_line.specs.Event as line_event
use Rattle.model_line.specs.Event.{Answer, hears, expiry, request, next}
use Rattle.model_line.specs.Line.{is_at, is_terminal}
use Rattle.model_line.specs.Request.{Establish, Release, Data, Unit, Assign, Remove, Check, Disown, AskTei, VerifyTei, SetBusy, ClearBusy, Deactivate, Down}
use Rattle.model_line.specs.Taken.{own_side}
use Rattle.model_card.specs.Card.{fresh}
use Rattle.model_card.specs.Event.{Event, at}
use Rattle.model_card.specs.Machine.{answer}
use Rattle.model_card.specs.Run.{after_all, moments, IsAtLine, AreAtLines}
use Rattle.laws_trace.specs.LinkFrames.{reads}
use Rattle.laws_trace.specs.Managing as managing
use Rattle.laws_trace.specs.Managing.{Managed, nothing_due, due, managed_after, octets_of, at_terminal}
use Rattle.laws_trace.specs.ManagingTerminal.{teis_of}
use Rattle.laws_trace.specs.TeisAreManaged.{message_text}
use Rattle.laws_trace.specs.Trace.{frame_in}
use Rattle.laws_trace.proofs.TeisAreManaged.{teis-are-managed}
use Rattle.laws_order.specs.teis.Bus.{Bus, Network, Past, Step, network, terminal, receives, loses, network_of, with_teis, begun, doing, acting, received, missing, misses, is_heard, gives_up, leaves_untold, over_of, newly_owed}
use Rattle.laws_order.specs.teis.Assignments.{Terminal, CanMeet, IsThere, IsIn, terminal_after}
use Rattle.laws_order.proofs.OfTeis.Frames.{AreNone, begins-one, begins-none}
use Rattle.laws_order.proofs.OfTeis.NewlyMade.{Changes, table-of, same-table, dropped-none, dropped-all}
use Rattle.laws_order.proofs.OfTeis.NetworkSteps.{event-so, IsOther}
use Rattle.laws_order.proofs.OfTeis.NetworkHolds.{kept, given-up, called-none, called-one}
use Rattle.laws_order.proofs.OfTeis.TerminalHolds.{grows, lost, no-frame, comes, terminal_now}
use Rattle.laws_order.proofs.OfTeis.Seen.{network-teis, network-then, terminal-then}
use Rattle.laws_order.proofs.OfTeis.Waiting.{Holds, removal}

module _ (b : Bus) (can : CanMeet b) where
  abbrev c : Config
  c = b.network

  -- The network's side is no terminal.
  is-network : is_terminal c ≡ false
  is-network = ap (λ (s : Side). is_at s c.seed) can.side

  due-is : (e : line_event.Event) (w : Managed) → due c e w ≡ managing.by_event c e (nothing_due w)
  due-is e w = ap (λ x. cond x (at_terminal c e (nothing_due w)) (managing.by_event c e (nothing_due w))) is-network

  -- One event of its line.
  module _ (n : Network) (t : Terminal) (way : List (List ℕ)) (missed : List Remembered) (h : Holds b n t way missed) (events : List Event) (all : AreAtLines (fresh c) events) (same : n.teis ≡ managed_after c b.number events) where
    abbrev w : Managed
    w = n.teis

    there : (r : Remembered) → IsIn r w.held → managing.is_on r.tei w ≡ true
    there r is = h.on r (h.held r is)

    abbrev a : line_event.Event → Answer
    a what = answer (at b.number what) (after_all (fresh c) events)

    abbrev Then : line_event.Event → Type 0
    Then what =
        let m = with_teis (λ tei. managing.is_on tei (due c what w)) (due c what w) n in
        Holds b m t (way ++ frame_in (a what)) (over_of m.hold (missed ++ filter (λ r. gives_up r.tei what w || leaves_untold r.tei w (due c what w)) n.made))

    begins-so : (what : line_event.Event) → filter (reads (own_side c) (λ (f : Parts). f.address.sapi == 63)) (frame_in (a what)) ≡ map (message_text c) (due c what w).begins
    begins-so what =
        (teis-are-managed c events b.number can.network all can.number what).begins ∙ ap (λ w. map (message_text c) (due c what w).begins) (sym same)

    none-begins : (what : line_event.Event) → (due c what w).begins ≡ [] → AreNone b (frame_in (a what))
    none-begins what none = begins-none b can (a what) (begins-so what ∙ ap (map (message_text c)) none)

    changed : (what : line_event.Event) → IsOther what → Then what
    changed what other =
        let changes : Changes (nothing_due w) (due c what w) = subst (Changes (nothing_due w)) (sym (due-is what w)) (event-so (nothing_due w) there c what other) in
        let table = table-of (nothing_due w) (due c what w) changes in
        kept b can n t way missed h what (due c what w) (frame_in (a what)) (record { known = table.known; alone = table.alone })
        (record { new = changes.queue.new; owed = changes.queue.owed; made = changes.queue.made }) (none-begins what changes.begins)

    abbrev down : line_event.Event
    down = request Down

    is-down : Then down
    is-down =
        let on = ap (λ (d : Managed). d.on) (due-is down w) in
        given-up b can n t way missed h down (due c down w) (frame_in (a down)) (same-table w (due c down w) there on (ap (λ (d : Managed). d.held) (due-is down w)) (ap (λ (d : Managed). newly_owed w d) (due-is down w) ∙ dropped-none (length w.owed) [] refl)) on refl
        (ap (λ (d : Managed). d.owed) (due-is down w)) (none-begins down (ap (λ (d : Managed). d.begins) (due-is down w)))

    none-new : (ms : List Message) → w.owed ≡ ms → newly_owed w (due c next w) ≡ []
    none-new ms was = ap (λ (d : Managed). newly_owed w d) (due-is next w) ∙ ap (λ ms. drop (length ms) (drop 1 ms)) was ∙ none-left ms
      where
        none-left : (ms : List Message) → drop (length ms) (drop 1 ms) ≡ []
        none-left [] = refl
        none-left (m ∷ more) = dropped-all m more

    is-next : (ms : List Message) → w.owed ≡ ms → Then next
    is-next [] was =
        let on = ap (λ (d : Managed). d.on) (due-is next w) in
        called-none b can n t way missed h next (due c next w) (frame_in (a next)) (same-table w (due c next w) there on (ap (λ (d : Managed). d.held) (due-is next w)) (none-new [] was)) on
        was (ap (λ (d : Managed). d.owed) (due-is next w) ∙ ap (drop 1) was)
        (none-begins next (ap (λ (d : Managed). d.begins) (due-is next w) ∙ ap (λ ms. map octets_of (take 1 ms)) was))
    is-next (m ∷ more) was =
        let on = ap (λ (d : Managed). d.on) (due-is next w) in
        called-one b can n t way missed h next (due c next w) (frame_in (a next)) (same-table w (due c next w) there on (ap (λ (d : Managed). d.held) (due-is next w)) (none-new (m ∷ more) was)) on
        m more was (ap (λ (d : Managed). d.owed) (due-is next w) ∙ ap (drop 1) was)
        (begins-one b can (a next) m (begins-so next ∙ ap (λ (d : Managed). map (message_text c) d.begins) (due-is next w) ∙ ap (λ ms. map (message_text c) (map octets_of (take 1 ms))) was))

    own-event : (what : line_event.Event) → Then what
    own-event (hears e) = changed (hears e) tt
    own-event (expiry timer) = changed (expiry timer) tt
    own-event next = is-next w.owed refl
    own-event (request Down) = is-down
    own-event (request (Establish service tei)) = changed (request (Establish service tei)) tt
    own-event (request (Release service tei)) = changed (request (Release service tei)) tt
    own-event (request (Data service tei contents)) = changed (request (Data service tei contents)) tt
    own-event (request (Unit service tei contents)) = changed (request (Unit service tei contents)) tt
    own-event (request (Assign tei)) = changed (request (Assign tei)) tt
    own-event (request (Remove tei)) = changed (request (Remove tei)) tt
    own-event (request (Check tei)) = changed (request (Check tei)) tt
    own-event (request (Disown tei)) = changed (request (Disown tei)) tt
    own-event (request AskTei) = changed (request AskTei) tt
    own-event (request (VerifyTei tei)) = changed (request (VerifyTei tei)) tt
    own-event (request (SetBusy service tei)) = changed (request (SetBusy service tei)) tt
    own-event (request (ClearBusy service tei)) = changed (request (ClearBusy service tei)) tt
    own-event (request (Deactivate service tei)) = changed (request (Deactivate service tei)) tt

    -- One of the card.
    abbrev ThenOf : Event → Bool → Type 0
    ThenOf e x =
        let m = cond x (with_teis (λ tei. managing.is_on tei (due c e.what w)) (due c e.what w) n) n in
        Holds b m t (way ++ cond x (frame_in (answer e (after_all (fresh c) events))) [])
        (over_of m.hold (missed ++ filter (λ r. x && (gives_up r.tei e.what w || leaves_untold r.tei w (due c e.what w))) n.made))

    pub any-event : (e : Event) (x : Bool) → (e.line == b.number) ≡ x → ThenOf e x
    any-event e true is = subst (λ line. ThenOf (at line e.what) true) (sym (eqb-true e.line b.number is)) (own-event e.what)
    any-event e false is =
        subst (λ way. Holds b n t way (over_of n.hold (missed ++ filter (λ r. false) n.made))) (sym (append-nil way)) (grows b can n t way missed (filter (λ r. false) n.made) h)

  -- A run.
  pub record Runs (p : Past) : Type 0 where
    pub all : AreAtLines (fresh c) p.at_network
    pub there : AreAtLines (fresh b.terminal) p.at_terminal
    pub holds : Holds b (network_of b p) (terminal_after b.terminal b.line p.at_terminal) p.way p.missed

  abbrev known_terminal : Past → Terminal
  known_terminal p = terminal_after b.terminal b.line p.at_terminal

  -- Where a step leads, if all this was missed.
  abbrev then_of : Past → List Remembered → Past
  then_of now all = record now { missed = over_of (network_of b now).hold all }

  step-so : (p : Past) (step : Step) → IsThere b step → Runs p → Runs (doing b p step)
  step-so p (network e) there runs = record {
    all = All-append (IsAtLine (fresh c)) p.at_network (e ∷ []) runs.all (All-cons (IsAtLine (fresh c)) e [] there (All-nil (IsAtLine (fresh c))));
    holds = subst (λ n. Holds b n (known_terminal p) (acting b (network e) p).way (over_of n.hold (p.missed ++ filter (λ r. misses b p (network e) r.tei) (network_of b p).made))) (sym (network-then c b.number can.network can.number p.at_network e runs.all there))
        (any-event (network_of b p) (known_terminal p) p.way p.missed runs.holds p.at_network runs.all (network-teis c b.number p.at_network) e (e.line == b.number) refl);
    there = runs.there;
  }
  step-so p (terminal e) there runs = go (e.line == b.line) (is_heard e.what) refl refl
    where
      more-there : (e : Event) → e.line < b.terminal.lines → AreAtLines (fresh b.terminal) (p.at_terminal ++ e ∷ [])
      more-there e within = All-append (IsAtLine (fresh b.terminal)) p.at_terminal (e ∷ []) runs.there (All-cons (IsAtLine (fresh b.terminal)) e [] within (All-nil (IsAtLine (fresh b.terminal))))

      n : Network
      n = network_of b p

      ys : List Remembered
      ys = missing b (terminal e) p

      go : (x y : Bool) → (e.line == b.line) ≡ x → is_heard e.what ≡ y → Runs (then_of (cond (x && y) p (record p { at_terminal = p.at_terminal ++ e ∷ [] })) (p.missed ++ ys))
      go true true is heard = record { all = runs.all; there = runs.there; holds = grows b can n (known_terminal p) p.way p.missed ys runs.holds }
      go true false is other = record {
        all = runs.all;
        there = more-there e there;
        holds = subst (λ t. Holds b n t p.way (over_of n.hold (p.missed ++ ys)))
            (sym (terminal-then b.terminal b.line can.terminal can.line p.at_terminal e runs.there there ∙ ap (λ x. cond x (terminal_now b can n (known_terminal p) e.what) (known_terminal p)) is))
            (grows b can n (terminal_now b can n (known_terminal p) e.what) p.way p.missed ys (no-frame b can n (known_terminal p) e.what p.way p.missed other runs.holds));
      }
      go false y is heard = record {
        all = runs.all;
        there = more-there e there;
        holds = subst (λ t. Holds b n t p.way (over_of n.hold (p.missed ++ ys)))
            (sym (terminal-then b.terminal b.line can.terminal can.line p.at_terminal e runs.there there ∙ ap (λ x. cond x (terminal_now b can n (known_terminal p) e.what) (known_terminal p)) is))
            (grows b can n (known_terminal p) p.way p.missed ys runs.holds);
      }
  step-so p receives there runs = go p.way runs.holds
    where
      n : Network
      n = network_of b p

      ys : List Remembered
      ys = missing b receives p

      go : (way : List (List ℕ)) → Holds b n (known_terminal p) way p.missed → Runs (then_of (received b way (record p { way = way })) (p.missed ++ ys))
      go [] h = record { all = runs.all; there = runs.there; holds = grows b can n (known_terminal p) [] p.missed ys h }
      go (x ∷ more) h =
          let e = at b.line (hears (came b.terminal.n201 x)) in record {
            all = runs.all;
            there = All-append (IsAtLine (fresh b.terminal)) p.at_terminal (e ∷ []) runs.there (All-cons (IsAtLine (fresh b.terminal)) e [] can.line (All-nil (IsAtLine (fresh b.terminal))));
            holds = subst (λ t. Holds b n t more (over_of n.hold (p.missed ++ ys)))
                (sym (terminal-then b.terminal b.line can.terminal can.line p.at_terminal e runs.there can.line ∙ ap (λ y. cond y (terminal_now b can n (known_terminal p) e.what) (known_terminal p)) (eq-eqb b.line b.line refl)))
                (grows b can n (terminal_now b can n (known_terminal p) e.what) more p.missed ys (comes b can n (known_terminal p) x more p.missed h));
          }
  step-so p loses there runs = record { all = runs.all; there = runs.there; holds = go p.way runs.holds }
    where
      n : Network
      n = network_of b p

      go : (way : List (List ℕ)) → Holds b n (known_terminal p) way p.missed
          → Holds b n (known_terminal p) (drop 1 way) (over_of n.hold (p.missed ++ filter (λ r. list_any (removal b r.tei) (take 1 way)) n.made))
      go [] h = grows b can n (known_terminal p) [] p.missed (filter (λ r. false) n.made) h
      go (x ∷ more) h = lost b can n (known_terminal p) x more p.missed h

  -- as the cards begin
  none-there : (k : ℕ) → [] ≡ teis_of (replicate k None)
  none-there zero = refl
  none-there (suc k) = none-there k

  pub begins-runs : Runs begun
  unfolding moments
  begins-runs = record {
    all = All-nil (IsAtLine (fresh c));
    there = All-nil (IsAtLine (fresh b.terminal));
    holds = record {
      held = λ r is. absurd is;
      on = λ r is. absurd is;
      made = λ r is. absurd is;
      alone = λ r s is other same. absurd is;
      latest = λ r s is other same. absurd is;
      own = none-there b.terminal.terminals;
      way_is = tt;
      owed_is = tt;
      given = λ r is. absurd is;
    };
  }

  pub run-so : (p : Past) (steps : List Step) → All (IsThere b) steps → Runs p → Runs (fold (doing b) p steps)
  run-so p [] all runs = runs
  run-so p (step ∷ steps) all runs = run-so (doing b p step) steps (All-tail (IsThere b) step steps all) (step-so p step (All-head (IsThere b) step steps all) runs)
