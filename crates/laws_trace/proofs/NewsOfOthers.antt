-- Where no event is one of a link, and its TEI stays on the line, nothing is told of its establishment or its release.
use Rattle.laws_trace.proofs.Vocabulary.{Packet, All-append, and-false, same_service, ◌&&◌, ◌++◌}
use Rattle.laws_trace.proofs.Vocabulary.{arith, ◌≡◌, ℕ, ◌==◌, Bool, true, false, cond, List, [], ◌∷◌, Option, Some, None, refl, sym, ap, ◌∙◌, true≢false, ◌⊎◌, inl, inr, All, filter, All-nil, All-cons, All-head, All-tail, All-weaker, Note, Service, Call, Timer, is_on-at, Management, IsAt, IsSoundTable, Change, Left, Terms, Link, notes-own, Config, Aim, at_link, at_management, of_aim, of_change}
use Rattle.laws_trace.proofs.Vocabulary.{aim_of_expiry, Line, has_tei, link_in, place_in, terms, aim_of, aim_of_heard, group_tei, Assign, Remove, Deactivate, at_requested, at_deactivated, aim_of_request, IsProper, heard_aims, request_proper, notes_of, is-off, has-no-place, Down, eqb-true, IsOwn, fresh_link as fresh, line_of_link as of_link, Event}
use Rattle.laws_trace.proofs.Vocabulary.{line_after as after, answer, Request, Establish, Release, Data, Checking as Check, Disown, tei_disown, SetBusy, ClearBusy, IsSound, is_own, is_news, by-down, Unit, HasLeft, TeiIsInRange as IsInRange, Moves, link_told as told, emptied, StreamEvent, tei_check, tei_remove, TeiEvent, tei_assign, tei_message}
use Rattle.model_link.specs.Events as link
use Rattle.laws_trace.proofs.OneLink.{is_at_link}
use Rattle.lapd_frame.specs.declared.timers.Timer.TheVariants.{T202}
use Rattle.laws_line.proofs.Changes.{AreOfTeis, IsOfTeis, Turn, turned, turned-there}
use Rattle.laws_trace.proofs.Vocabulary.{T201, LineTold}
use Rattle.model_teis.specs.terminal.Events.{Event as TerminalEvent, ask as terminal_ask, expiry as terminal_expiry, verify as terminal_verify}
use Rattle.model_teis.specs.network.Events.{expiry as tei_expiry}
use Rattle.model_line.proofs.Managed.{IsOwnEvent}
use Rattle.model_line.specs.Effect.{Effect, at_terminal}
use Rattle.model_line.specs.Line.{Own}
use Rattle.model_line.specs.Request.{AskTei, VerifyTei}

module _ (service : Service) (tei : ℕ) where
  abbrev No : Note → Type 0
  No n = is_news service tei n ≡ false

  pub none-filtered : (ns : List Note) → All No ns → filter (is_news service tei) ns ≡ []
  none-filtered [] all = refl
  none-filtered (n ∷ ns) all =
      ap (λ b. cond b (n ∷ filter (is_news service tei) ns) (filter (is_news service tei) ns)) (All-head No n ns all) ∙ none-filtered ns (All-tail No n ns all)

  other-note : (t : Terms) → is_own service tei t.service t.tei ≡ false → (n : Note) → IsOwn t n → No n
  other-note t other n own = grind arith

  pub other-link : (t : Terms) → is_own service tei t.service t.tei ≡ false → (what : link.Event) (x : Link) → All No (told t what x).notes
  other-link t other what x = All-weaker (IsOwn t) No (other-note t other) (told t what x).notes (notes-own t what x)

  one-note : (n : Note) → IsOfTeis n → No n
  one-note n is = grind arith

  pub tei-note : (ns : List Note) → AreOfTeis ns → All No ns
  tei-note [] are = All-nil No
  tei-note (n ∷ ns) are = All-cons No n ns (one-note n are.0) (tei-note ns are.1)

  module _ (c : Config) (l : Line) (s : IsSound c l) where
    -- its TEI was not on the line, or stays on it
    abbrev pub Stays : Line → Type 0
    Stays x = (has_tei tei l ≡ false) ⊎ (has_tei tei x ≡ true)

    abbrev Silent : Aim → Type 0
    Silent aim = is_at_link service tei aim ≡ false → Stays (of_aim c aim l).line → All No (of_aim c aim l).told.notes

    -- A step of TEI management: links of another TEI are cleared.
    module _ (t : LineTold) (m : Management) (own : Own) (table : IsSoundTable m.places) (quiet : AreOfTeis t.notes) where
      abbrev at : Line
      at = record l { management = m; own = own }

      abbrev ns : List Note
      ns = t.notes

      abbrev itself : Link → Link
      itself x = x

      gone-off : (by place : ℕ) → HasLeft l.management.places m.places by place → (b : Bool) → (by == tei) ≡ b → Stays at → b ≡ false
      gone-off by place gone false other there = refl
      gone-off by place gone true same there = go there
        where
          was-there : IsAt l.management.places place tei
          was-there = gone.was_there ∙ ap Some (eqb-true by tei same)

          go : Stays at → true ≡ false
          go (inl off) = absurd (true≢false (sym (is_on-at l.management.places place tei was-there) ∙ off))
          go (inr there) =
              absurd (true≢false (sym there
              ∙ is-off m.places tei (has-no-place m.places tei (emptied fresh itself refl c l s m table place None gone.is_free gone.within tei refl was-there))))

      changed : (o : Option Change) → Moves l.management.places o m.places
          → Stays (of_change c o t at).line → All No (of_change c o t at).told.notes
      changed (Some (Left by place)) gone there =
          let apart : (its : Service) → is_own service tei its by ≡ false = λ its. ap (λ b. same_service its service && b) (gone-off by place gone (by == tei) refl there) ∙ and-false (same_service its service) in
          let call = of_link c Call by place link.cleared at in
          let packet = of_link c Packet by place link.cleared call.line in
          All-append No (ns ++ call.told.notes) packet.told.notes
          (All-append No ns call.told.notes (tei-note ns quiet) (other-link (terms c Call by) (apart Call) link.cleared (link_in at Call place)))
          (other-link (terms c Packet by) (apart Packet) link.cleared (link_in call.line Packet place))
      changed other moves there = tei-note ns quiet

    abbrev Kept : Effect → Type 0
    Kept f = Stays f.line → All No f.told.notes

    each-step : (o : Option Change) (t : LineTold) (m : Management) (own : Own) → Turn l o t m → Kept (of_change c o t (record l { management = m; own = own }))
    each-step o t m own turn = changed t m own turn.table turn.quiet o turn.moves

    managed : (me : TeiEvent) → IsInRange me → Silent (at_management me)
    managed me fits aims = turned c l s Kept each-step me fits

    owned : (te : TerminalEvent) → IsOwnEvent c te → Silent (at_terminal te)
    owned te proper aims = turned-there c l s Kept each-step te proper

    of-link : (its : Service) (by place : ℕ) (what : link.Event) → Silent (at_link its by place what)
    of-link its by place what aims there = other-link (terms c its by) aims what (link_in l its place)

    asked-silent : (its : Service) (by : ℕ) (what : link.Request) (o : Option ℕ) → Silent (at_requested its by what o)
    asked-silent its by what o aims there = grind (arith, of-link)

    deactivated-silent : (its : Service) (by : ℕ) (o : Option ℕ) → Silent (at_deactivated its by o)
    deactivated-silent its by o aims there = grind (arith, of-link)

    pub heard-silent : (e : StreamEvent) → Silent (aim_of_heard c l e)
    heard-silent e =
        heard_aims c l Silent (λ cause aims there. All-nil No) (λ its by place what on. of-link its by place (link.received what)) (λ info. managed (tei_message info) tt)
        (λ parts its to aims there. All-cons No (Unit its group_tei) [] refl (All-nil No)) e

    pub expiry-silent : (timer : Timer) → Silent (aim_of_expiry timer l)
    expiry-silent T201 = managed tei_expiry tt
    expiry-silent T202 = owned terminal_expiry tt
    expiry-silent timer = grind (arith, of-link)

    pub request-silent : (r : Request) → IsProper c l (aim_of_request r l) → Silent (aim_of_request r l)
    request-silent (Establish its by) proper = asked-silent its by link.Establish (place_in l by)
    request-silent (Release its by) proper = asked-silent its by link.Release (place_in l by)
    request-silent (Data its by contents) proper = asked-silent its by (link.Data contents) (place_in l by)
    request-silent (Request.Unit its by contents) proper = λ aims there. All-nil No
    request-silent (Assign by) proper = managed (tei_assign by) proper
    request-silent (Remove by) proper = managed (tei_remove by) proper
    request-silent (Check by) proper = managed (tei_check by) proper
    request-silent (Disown by) proper = managed (tei_disown by) proper
    request-silent AskTei proper = owned terminal_ask proper
    request-silent (VerifyTei by) proper = owned (terminal_verify by) proper
    request-silent (SetBusy its by) proper = asked-silent its by link.SetBusy (place_in l by)
    request-silent (ClearBusy its by) proper = asked-silent its by link.ClearBusy (place_in l by)
    request-silent (Deactivate its by) proper = deactivated-silent its by (place_in l by)
    request-silent Down proper = λ aims there. by-down c l s (λ f. All No f.told.notes) (All-nil No)

  -- Any event of a line.
  pub others-silent : (c : Config) (e : Event) (l : Line) → IsSound c l → is_at_link service tei (aim_of c e l) ≡ false → (has_tei tei l ≡ false) ⊎ (has_tei tei (after c e l) ≡ true) → All No (notes_of (answer c e l))
  unfolding after answer
  others-silent c e l s aims there = grind (arith, heard-silent, expiry-silent, request_proper, is_at_link, request-silent)
