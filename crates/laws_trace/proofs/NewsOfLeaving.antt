-- Where the TEI of a link leaves its line, what is told of the link is what the end of the TEI tells.
use Rattle.laws_trace.proofs.Vocabulary.{◌≡◌, ℕ, ◌==◌, ◌&&◌, ◌||◌, not, Bool, true, false, List, [], ◌++◌, Option, Some, None, refl, sym, ap, ◌∙◌, subst, arith, eq-eqb, true≢false, ◌⊎◌, inl, inr, append-nil, filter, option_map_or, get_or-set_other, filter-append, Note, Refusal, Service, Timer, Management, is_on, Change, Gained, Left, place_of-is, is_on-at}
use Rattle.laws_trace.proofs.Vocabulary.{event-follows, Link, state_number, Config, Aim, at_none, at_link, at_management, of_aim, of_change, Answer, hears, expiry, request, next, dropped, aim_of_expiry, Line, has_tei, link_of, place_in, terms, aim_of, unless_refused, unless_refused_told, aim_of_heard, aim_of_request, group_told, IsProper, heard_aims}
use Rattle.laws_trace.proofs.Vocabulary.{request_proper, notes_of, has-place, Down, at_no_link, IfSome, line_of, Taken, taken, IsOne, taken-one, eqb-true, fresh_link as fresh, Event, line_after as after, answer, refusal, Request, Checking as Check, Disown, tei_disown, IsSound, is_news, releases, by-down, or-true, HasLeft, TeiIsInRange as IsInRange, Moves}
use Rattle.laws_trace.proofs.Vocabulary.{link_told as told, false_from_ne_true, received, LinkEvent, cleared, StreamEvent, tei_check, TeiEvent, tei_message}
use Rattle.laws_line.proofs.Changes.{AreOfTeis, Turn, turned, turned-there}
use Rattle.laws_trace.proofs.Vocabulary.{LineTold, Assign, Remove, tei_assign, tei_remove}
use Rattle.model_teis.specs.terminal.Events.{Event as TerminalEvent, ask as terminal_ask, verify as terminal_verify}
use Rattle.model_line.proofs.Managed.{IsOwnEvent}
use Rattle.model_line.specs.Effect.{Effect, at_terminal}
use Rattle.model_line.specs.Line.{Own}
use Rattle.model_line.specs.Request.{AskTei, VerifyTei}
use Rattle.laws_trace.proofs.NewsWatched.{Wanted, due}
use Rattle.laws_trace.proofs.NewsOfLink.{Asks}
use Rattle.laws_trace.proofs.LinkLed.{own-is}
use Rattle.laws_trace.proofs.ManagingTables.{on-coming, on-leaving}
use Rattle.laws_trace.proofs.NewsOfOthers.{none-filtered, tei-note, other-link}

-- Calls keep a TEI on the line.
pub next-keeps : (tei : ℕ) (c : Config) (l : Line) → IsSound c l → has_tei tei l ≡ true → has_tei tei (after c next l) ≡ true
unfolding after
next-keeps tei c l s on = go (taken c l) (taken-one c l s)
  where
    go : (o : Option Taken) → IfSome o (IsOne c l) → has_tei tei (option_map_or line_of o l) ≡ true
    go o x = grind arith

-- What the end of a TEI tells of its link is due as the link would come to state 4.
module _ (service : Service) (tei : ℕ) (c : Config) (l : Line) (s : IsSound c l) (place : ℕ) (on : place_in l tei ≡ Some place) where
  abbrev own : Link
  own = link_of service tei l

  abbrev news : List Note → List Note
  news ns = filter (is_news service tei) ns

  abbrev Leaves : List Note → Type 0
  Leaves ns = news ns ≡ news (told (terms c service tei) cleared own).notes

  abbrev Gone : Aim → Type 0
  Gone aim = has_tei tei (of_aim c aim l).line ≡ false → Leaves (of_aim c aim l).told.notes

  there : has_tei tei l ≡ true
  there = is_on-at l.management.places place tei (place_of-is l.management.places tei place on).1

  stays : (aim : Aim) → has_tei tei (of_aim c aim l).line ≡ has_tei tei l → Gone aim
  stays aim same = λ off. absurd (true≢false (sym (same ∙ there) ∙ off))

  -- A step of TEI management.
  module _ (t : LineTold) (m : Management) (own_part : Own) (quiet : AreOfTeis t.notes) where
    abbrev at : Line
    at = record l { management = m; own = own_part }

    abbrev ns : List Note
    ns = t.notes

    three : (xs ys zs : List Note) → news ((xs ++ ys) ++ zs) ≡ (news xs ++ news ys) ++ news zs
    three xs ys zs = filter-append (is_news service tei) (xs ++ ys) zs ∙ ap (λ us. us ++ news zs) (filter-append (is_news service tei) xs ys)

    none-news : news ns ≡ []
    none-news = none-filtered service tei ns (tei-note service tei ns quiet)

    -- its own TEI leaves
    its-own : (place' : ℕ) → HasLeft l.management.places m.places tei place' → Leaves (of_change c (Some (Left tei place')) t at).told.notes
    its-own place' gone = grind (arith, has-place, cleared, get_or-set_other, fresh, append-nil, three, none-news, none-filtered, other-link, told)

    changed : (o : Option Change) → Moves l.management.places o m.places → has_tei tei (of_change c o t at).line ≡ false
        → Leaves (of_change c o t at).told.notes
    changed None same off = absurd (true≢false (sym (ap (is_on tei) same ∙ there) ∙ off))
    changed (Some (Gained by place')) joined off =
        absurd (true≢false (sym (ap (is_on tei) joined.is_there ∙ on-coming l.management.places place' by tei joined.lowest ∙ ap (λ b. (by == tei) || b) there ∙ or-true (by == tei)) ∙ off))
    changed (Some (Left by place')) gone off = go (by == tei) refl
      where
        go : (b : Bool) → (by == tei) ≡ b → Leaves (of_change c (Some (Left by place')) t at).told.notes
        go true same = grind (arith, eqb-true, its-own)
        go false other =
            let apart = false_from_ne_true (tei == by) (λ is. true≢false (sym (eq-eqb by tei (sym (eqb-true tei by is))) ∙ other)) in
            absurd (true≢false (sym (ap (is_on tei) gone.is_free ∙ ap (λ o. is_on tei (Rattle.model_teis.specs.Table.freed l.management.places o)) (sym (has-place l.management.places by place' s.management.table gone.was_there))
            ∙ on-leaving l.management.places by tei s.management.table ∙ ap (λ b. not b && is_on tei l.management.places) apart ∙ there) ∙ off))

  abbrev GoneBy : Effect → Type 0
  GoneBy f = has_tei tei f.line ≡ false → Leaves f.told.notes

  each-step : (o : Option Change) (t : LineTold) (m : Management) (own_part : Own) → Turn l o t m → GoneBy (of_change c o t (record l { management = m; own = own_part }))
  each-step o t m own_part turn = changed t m own_part turn.quiet o turn.moves

  managed : (me : TeiEvent) → IsInRange me → Gone (at_management me)
  managed me fits = turned c l s GoneBy each-step me fits

  owned : (te : TerminalEvent) → IsOwnEvent c te → Gone (at_terminal te)
  owned te proper = turned-there c l s GoneBy each-step te proper

  pub heard-gone : (e : StreamEvent) → Gone (aim_of_heard c l e)
  heard-gone e =
      heard_aims c l Gone (λ cause. stays (at_none (dropped cause)) refl) (λ its by place' what at. stays (at_link its by place' (received what)) refl) (λ info. managed (tei_message info) tt)
      (λ parts its to. stays (at_none (group_told its parts.info)) refl) e

  pub expiry-gone : (timer : Timer) → Gone (aim_of_expiry timer l)
  expiry-gone timer = grind (arith, managed, owned, stays)

  pub request-gone : (r : Request) → IsProper c l (aim_of_request r l) → Gone (aim_of_request r l)
  request-gone (Request.Unit its by contents) proper = stays (aim_of_request (Request.Unit its by contents) l) refl
  request-gone (Check by) proper = managed (tei_check by) proper
  request-gone (Assign by) proper = managed (tei_assign by) proper
  request-gone (Remove by) proper = managed (tei_remove by) proper
  request-gone AskTei proper = owned terminal_ask proper
  request-gone (VerifyTei by) proper = owned (terminal_verify by) proper
  request-gone (Disown by) proper = managed (tei_disown by) proper
  request-gone Down proper = stays at_no_link (by-down c l s (λ f. has_tei tei f.line ≡ has_tei tei l) refl)
  request-gone other proper = grind (arith, stays)

-- Any event of a line.
leaves : (service : Service) (tei : ℕ) (c : Config) (e : Event) (l : Line) → IsSound c l → (place : ℕ) → place_in l tei ≡ Some place → has_tei tei (after c e l) ≡ false
    → filter (is_news service tei) (notes_of (answer c e l)) ≡ filter (is_news service tei) (told (terms c service tei) cleared (link_of service tei l)).notes
unfolding after answer
leaves service tei c (hears what) l s place on off = heard-gone service tei c l s place on what off
leaves service tei c (expiry timer) l s place on off = expiry-gone service tei c l s place on timer off
leaves service tei c (request r) l s place on off = go (refusal c false r l) (request_proper c l r) off
  where
    go : (o : Option Refusal) → IsProper c l (unless_refused o (aim_of_request r l)) → has_tei tei (of_aim c (unless_refused o (aim_of_request r l)) l).line ≡ false
        → filter (is_news service tei) (notes_of (unless_refused_told o (of_aim c (unless_refused o (aim_of_request r l)) l)))
        ≡ filter (is_news service tei) (told (terms c service tei) cleared (link_of service tei l)).notes
    go None proper off = request-gone service tei c l s place on r proper off
    go (Some why) proper off = absurd (true≢false (sym (is_on-at l.management.places place tei (place_of-is l.management.places tei place on).1) ∙ off))
leaves service tei c next l s place on off =
    absurd (true≢false (sym (next-keeps tei c l s (is_on-at l.management.places place tei (place_of-is l.management.places tei place on).1)) ∙ off))

pub leaving-due : (service : Service) (tei : ℕ) (c : Config) (e : Event) (l : Line) → IsSound c l → (place : ℕ) → place_in l tei ≡ Some place → has_tei tei (after c e l) ≡ false
    → (was : Wanted) (outstanding : Bool) → (let x = link_of service tei l in Asks x.state was x.asked x.owed)
    → filter (is_news service tei) (notes_of (answer c e l)) ≡ due service tei [] was false false false outstanding (state_number (link_of service tei l).state) 4
leaving-due service tei c e l s place on off was outstanding asks = leaves service tei c e l s place on off ∙ (grind (arith, event-follows, due, own-is, asks))

-- No request to release a link takes its TEI off the line.
pub none-released : (service : Service) (tei : ℕ) (c : Config) (e : Event) (l : Line) → has_tei tei l ≡ true → has_tei tei (after c e l) ≡ false → (a : Answer) → releases service tei e a ≡ false
unfolding after
none-released service tei c e l on off a = grind arith

-- An event of a link keeps its TEI on the line.
pub one-stays : (service : Service) (tei : ℕ) (c : Config) (e : Event) (l : Line) → IsSound c l → has_tei tei l ≡ true → (place : ℕ) (event : LinkEvent)
    → (e ≡ next) ⊎ (aim_of c e l ≡ at_link service tei place event) → has_tei tei (after c e l) ≡ true
unfolding after
one-stays service tei c e l s on place event (inl is) = subst (λ e. has_tei tei (after c e l) ≡ true) (sym is) (next-keeps tei c l s on)
one-stays service tei c e l s on place event (inr aimed) = grind (arith, next-keeps)
