-- What layer 3 is told of the establishment and release of a link: one event of its line.
use Rattle.laws_trace.proofs.Vocabulary.{arith, ◌≡◌, ℕ, ◌==◌, ◌&&◌, Bool, false, cond, List, [], Option, Some, None, refl, sym, ap, ◌∙◌, subst, true≢false, inl, inr, filter, list_any, none-some, ErrorCode, Service, State, Link, state_number, Config, Answer, Line, has_tei, link_of, place_in, state_of, notes_of, is-off, moves, unwrap_or, Control, fresh_link, IsInRange, terms, link_after, IsSound}
use Rattle.laws_trace.proofs.Vocabulary.{is_news, is_sabme, is_xid}
use Rattle.laws_trace.proofs.Vocabulary.{releases, wrong, seen, Event, and-false, line_after, answer, event-follows}
use Rattle.laws_trace.proofs.NewsWatched.{Wanted, due, newly, then_wanted, wish_of, with_wish}
use Rattle.laws_trace.proofs.TimersWatched.{brings, control_in}
use Rattle.laws_trace.proofs.ErrorsSeen.{none-wrong, one-wrong}
use Rattle.laws_trace.proofs.LinkLed.{on-line, own-is}
use Rattle.laws_trace.proofs.LinksMove.{differs, no-event}
use Rattle.laws_trace.proofs.NewsOfLeaving.{leaving-due, none-released, one-stays}
use Rattle.laws_trace.proofs.NewsOfOthers.{none-filtered, others-silent}
use Rattle.laws_trace.proofs.NewsRows.{sabme_of, xid_of, released_of, wanted_of}
use Rattle.laws_trace.proofs.NewsOfLink.{event-news, Asks, event-asking}
use Rattle.laws_trace.proofs.OwedOfEvent.{IsOwed}
use Rattle.laws_trace.proofs.LineAtEnd.{link-at-end}
use Rattle.laws_trace.proofs.OneLink.{HasOne, HasNone, Goes, event-goes, IsGivenUp}
use Rattle.laws_trace.proofs.TimerClaims.{told_state}
use Rattle.laws_trace.proofs.TimersOfEvent.{state-on, off-fresh, off-state, comes}
use Rattle.laws_trace.proofs.NewsSeen.{one-begins, none-begins, none-releases, one-wish, none-wish}
use Rattle.laws_trace.proofs.TimersOfLine.{seen-brings}
use Rattle.laws_trace.proofs.Deliveries.{frame_by, heard-by}
use Rattle.laws_trace.proofs.Facts.{same-state}

abbrev pub IsAskedOf : Service → ℕ → Wanted → Line → Type 0
IsAskedOf service tei was l = let x = link_of service tei l in Asks x.state was x.asked x.owed

-- One event of a line.
module _ (c : Config) (ranged : IsInRange c) (l : Line) (s : IsSound c l) (service : Service) (tei : ℕ) (was : Wanted) (asks : IsAskedOf service tei was l) (outstanding : Bool) (owes : IsOwed service tei outstanding l)
    (e : Event) where
  abbrev a : Answer
  a = answer c e l

  abbrev own : Link
  own = link_of service tei l

  abbrev next : Link
  next = link_of service tei (line_after c e l)

  -- nothing is due where the link stays in its state
  unmoved : (state : State) (outstanding : Bool) → due service tei [] was false false false outstanding (state_number state) (state_number state) ≡ []
  unmoved state outstanding = grind arith

  abbrev then_asked : Option ℕ → Option ℕ → Wanted
  then_asked from to = then_wanted from to (wish_of c service tei e a) was

  asked-in : (from to : State) → then_asked (told_state from) (told_state to) ≡ cond ((state_number to == 5) && moves from to) (newly (state_number from == 4)) (with_wish (wish_of c service tei e a) was)
  asked-in from to = ap (λ b. cond ((state_number to == 5) && b) (newly (state_number from == 4)) (with_wish (wish_of c service tei e a) was)) (differs from to)

  abbrev heard : (Control → Bool) → Bool
  heard which = list_any (brings which c service tei) (seen e a)

  -- a deactivation brings no frame
  ended-heard : (which : Control → Bool) → IsGivenUp c service tei e l (line_after c e l) a → heard which ≡ false
  ended-heard which x = grind (arith, seen-brings, control_in, frame_by)

  abbrev Errors : ℕ → ℕ → List ErrorCode
  Errors from seen = wrong c service tei e from seen

  -- it comes to a state, which is told where its TEI stays on the line
  abbrev Due : ℕ → ℕ → ℕ → Type 0
  Due from to seen =
      filter (is_news service tei) (notes_of a)
      ≡ due service tei (Errors from seen) was (heard is_xid) (heard is_sabme) (releases service tei e a) outstanding from to

  module _ (place there : ℕ) (on : place_in l tei ≡ Some place) (still : place_in (line_after c e l) tei ≡ Some there) where
    -- no event of the link
    module _ (x : HasNone c service tei e l (line_after c e l) a) where
      same : next ≡ own
      same = x.stays (on-line l tei place on) (on-line (line_after c e l) tei there still)

      none-heard : (which : Control → Bool) → heard which ≡ false
      none-heard which = none-begins c service tei which l place on e x.aims a

      none-due : Due (state_number own.state) (state_number next.state) (state_number next.state)
      none-due =
          none-filtered service tei (notes_of a) (others-silent service tei c e l s x.aims (inr (on-line (line_after c e l) tei there still)))
          ∙ sym (ap (λ (y : Link). due service tei (Errors (state_number own.state) (state_number y.state)) was (heard is_xid) (heard is_sabme) (releases service tei e a) outstanding (state_number own.state) (state_number y.state)) same
          ∙ ap (λ errors. due service tei errors was (heard is_xid) (heard is_sabme) (releases service tei e a) outstanding (state_number own.state) (state_number own.state))
          (none-wrong c service tei l place on e x.aims (state_number own.state) (state_number own.state) (inl refl))
          ∙ ap (λ b. due service tei [] was b (heard is_sabme) (releases service tei e a) outstanding (state_number own.state) (state_number own.state)) (none-heard is_xid)
          ∙ ap (λ b. due service tei [] was false b (releases service tei e a) outstanding (state_number own.state) (state_number own.state)) (none-heard is_sabme)
          ∙ ap (λ b. due service tei [] was false false b outstanding (state_number own.state) (state_number own.state)) (none-releases c service tei is_sabme l place on e x.aims)
          ∙ unmoved own.state outstanding)

    -- one event of the link
    module _ (x : HasOne c service tei e l (line_after c e l) a) where
      asked-now : (state : State) → Asks state was own.asked own.owed → (errors : List ErrorCode) (xid sabme released outstanding : Bool) (to : ℕ)
          → due service tei errors (wanted_of own) xid sabme released outstanding (state_number state) to ≡ due service tei errors was xid sabme released outstanding (state_number state) to
      asked-now state is errors xid sabme released outstanding to = grind (arith, due)

      one-due : Due (state_number own.state) (state_number next.state) (state_number next.state)
      one-due = grind (arith, event-news, no-event, due, xid_of, sabme_of, released_of, asked-now, one-begins, heard-by, own-is, one-wrong, wanted_of)

    -- its deactivation
    ended-due : IsGivenUp c service tei e l (line_after c e l) a → Due (state_number own.state) (state_number next.state) (state_number next.state)
    ended-due x = grind (arith, event-follows, due, own-is, releases, wrong, ended-heard, asks)

    stays-due : Due (state_number own.state) (state_number next.state) (state_number next.state)
    stays-due = go (event-goes c e l service tei s)
      where
        go : Goes c service tei e l (line_after c e l) a → Due (state_number own.state) (state_number next.state) (state_number next.state)
        go (inl x) = none-due x
        go (inr (inl x)) = one-due x
        go (inr (inr x)) = ended-due x

    abbrev AsksThen : Link → Type 0
    AsksThen y = Asks y.state (then_asked (told_state own.state) (told_state y.state)) y.asked y.owed

    none-asks : HasNone c service tei e l (line_after c e l) a → AsksThen next
    none-asks x =
        subst AsksThen (sym (same x))
        (subst (λ w. Asks own.state w own.asked own.owed)
        (sym (asked-in own.state own.state ∙ ap (λ b. cond ((state_number own.state == 5) && b) (newly (state_number own.state == 4)) (with_wish (wish_of c service tei e a) was)) (same-state own.state)
        ∙ ap (λ b. cond b (newly (state_number own.state == 4)) (with_wish (wish_of c service tei e a) was)) (and-false (state_number own.state == 5))
        ∙ ap (λ o. with_wish o was) (none-wish c service tei l place on e x.aims))) asks)

    one-asks : HasOne c service tei e l (line_after c e l) a → AsksThen next
    one-asks x =
        let t = terms c service tei in
        let y = link_after t x.event own in
        let sound = link-at-end c l ranged s service tei place on in
        subst AsksThen (sym x.is)
        (subst (λ w. Asks y.state w y.asked y.owed)
        (sym (asked-in own.state y.state ∙ ap (λ o. cond ((state_number y.state == 5) && moves own.state y.state) (newly (state_number own.state == 4)) (with_wish o was)) (one-wish c service tei e a x.event x.by)))
        (event-asking t own was sound.owed x.event (no-event x.event c e a service tei x.by) asks))

    stays-asked : AsksThen next
    stays-asked = go (event-goes c e l service tei s)
      where
        go : Goes c service tei e l (line_after c e l) a → AsksThen next
        go (inl x) = none-asks x
        go (inr (inl x)) = one-asks x
        go (inr (inr x)) = subst AsksThen (sym x.is) tt

  begins-asked : (b : Wanted) → next ≡ fresh_link → Asks next.state b next.asked next.owed
  begins-asked b is = subst (λ (y : Link). Asks y.state b y.asked y.owed) (sym is) tt

  pub event-asks : IsAskedOf service tei (then_asked (state_of service tei l) (state_of service tei (line_after c e l))) (line_after c e l)
  event-asks = go (place_in l tei) refl (place_in (line_after c e l) tei) refl
    where
      b : Wanted
      b = then_asked (state_of service tei l) (state_of service tei (line_after c e l))

      go : (o : Option ℕ) → place_in l tei ≡ o → (p : Option ℕ) → place_in (line_after c e l) tei ≡ p → Asks next.state b next.asked next.owed
      go o on None off = begins-asked b (off-fresh service tei (line_after c e l) off)
      go None off (Some there) still = begins-asked b (comes c e l s service tei off)
      go (Some place) on (Some there) still =
          subst (λ b. Asks next.state b next.asked next.owed)
          (sym (ap (λ o. then_asked o (state_of service tei (line_after c e l))) (state-on service tei l place on)
          ∙ ap (λ o. then_asked (told_state own.state) o) (state-on service tei (line_after c e l) there still)))
          (stays-asked place there on still)

  both-due : (from to : ℕ) → state_of service tei l ≡ Some from → state_of service tei (line_after c e l) ≡ Some to → Due from to to
  both-due from to was-in is-in = go (place_in l tei) refl (place_in (line_after c e l) tei) refl
    where
      number : (n m : ℕ) → Some n ≡ Some m → n ≡ m
      number n m is = cc is

      go : (o : Option ℕ) → place_in l tei ≡ o → (p : Option ℕ) → place_in (line_after c e l) tei ≡ p → Due from to to
      go (Some place) on (Some there) still =
          subst (λ n. Due n to to) (number (state_number own.state) from (sym (state-on service tei l place on) ∙ was-in))
          (subst (λ n. Due (state_number own.state) n n) (number (state_number next.state) to (sym (state-on service tei (line_after c e l) there still) ∙ is-in))
          (stays-due place there on still))
      go o off p q = grind (arith, none-some, off-state)

  -- where the TEI leaves, it comes to state 4
  gone-due : (place : ℕ) → place_in l tei ≡ Some place → place_in (line_after c e l) tei ≡ None → Due (state_number own.state) 4 1
  gone-due place on gone =
      let off : has_tei tei (line_after c e l) ≡ false = is-off (line_after c e l).management.places tei gone in
      leaving-due service tei c e l s place on off was outstanding asks
      ∙ ap (λ b. due service tei [] was b (heard is_sabme) false outstanding (state_number own.state) 4) (sym (none-brought off (event-goes c e l service tei s)))
      ∙ ap (λ b. due service tei [] was (heard is_xid) (heard is_sabme) b outstanding (state_number own.state) 4) (sym (none-released service tei c e l (on-line l tei place on) off a))
      ∙ ap (λ errors. due service tei errors was (heard is_xid) (heard is_sabme) (releases service tei e a) outstanding (state_number own.state) 4) (sym (no-error off (event-goes c e l service tei s)))
    where
      none-brought : has_tei tei (line_after c e l) ≡ false → Goes c service tei e l (line_after c e l) a → heard is_xid ≡ false
      none-brought off (inl x) = none-begins c service tei is_xid l place on e x.aims a
      none-brought off (inr (inr x)) = ended-heard is_xid x
      none-brought off (inr (inl x)) = absurd (true≢false (sym (one-stays service tei c e l s (on-line l tei place on) x.place x.event x.aimed) ∙ off))

      no-error : has_tei tei (line_after c e l) ≡ false → Goes c service tei e l (line_after c e l) a → Errors (state_number own.state) 1 ≡ []
      no-error off (inl x) = none-wrong c service tei l place on e x.aims (state_number own.state) 1 (inr refl)
      no-error off (inr (inr x)) = ap (λ e. wrong c service tei e (state_number own.state) 1) x.by.0
      no-error off (inr (inl x)) = absurd (true≢false (sym (one-stays service tei c e l s (on-line l tei place on) x.place x.event x.aimed) ∙ off))

  pub event-due : (from : ℕ) → state_of service tei l ≡ Some from → Due from (unwrap_or (state_of service tei (line_after c e l)) 4) (unwrap_or (state_of service tei (line_after c e l)) 1)
  event-due from was-in = go (state_of service tei (line_after c e l)) refl
    where
      by-place : (o : Option ℕ) → place_in l tei ≡ o → state_of service tei (line_after c e l) ≡ None → Due from 4 1
      by-place None off none = absurd (none-some from (sym (off-state service tei l off) ∙ was-in))
      by-place (Some place) on none = grind (arith, state-on, gone-due, none-some)

      go : (o : Option ℕ) → state_of service tei (line_after c e l) ≡ o → Due from (unwrap_or o 4) (unwrap_or o 1)
      go (Some to) is-in = both-due from to was-in is-in
      go None none = by-place (place_in l tei) refl none

  -- and where its TEI is not on the line, nothing is told
  pub off-due : state_of service tei l ≡ None → filter (is_news service tei) (notes_of a) ≡ []
  off-due none = go (place_in l tei) refl
    where
      go : (o : Option ℕ) → place_in l tei ≡ o → filter (is_news service tei) (notes_of a) ≡ []
      go (Some place) on = absurd (none-some (state_number own.state) (sym none ∙ state-on service tei l place on))
      go None off = by-part (event-goes c e l service tei s)
        where
          by-part : Goes c service tei e l (line_after c e l) a → filter (is_news service tei) (notes_of a) ≡ []
          by-part (inl x) = none-filtered service tei (notes_of a) (others-silent service tei c e l s x.aims (inl (is-off l.management.places tei off)))
          by-part (inr (inl x)) = absurd (none-some x.place (sym off ∙ x.placed))
          by-part (inr (inr x)) = absurd (none-some x.place (sym off ∙ x.placed))
