-- A control frame that waits at a line of a card is taken by one of so many calls also where other events of that line are
-- between them.
use Rattle.laws_line.proofs.Vocabulary.{◌≡◌, ℕ, ◌+◌, ◌-◌, ◌<◌, ◌≤◌, ◌==◌, ◌&&◌, Bool, true, false, cond, List, [], ◌∷◌, ◌++◌, length, get_or, set, Some, refl, sym, ap, subst, ◌∙◌, ◌⊎◌, inl, inr, arith, eq-eqb, eqb-false, get_or-set_same, All-head, All-tail, ControlFrame, next, Line, fresh_line, link_count, service_at, place_at, tei_at, link_at, Taken, taken, Card, line_at, at, wants_room}
use Rattle.laws_line.proofs.Vocabulary.{IsAtLine, AreAtLines, after_is_sound, eqb-true, is_take, priority_waiting, frames_before, control_text, deactivates, CardEvent as Event, card_after as after, CardIsSound as IsSound, AreAmong, map, card_answer as answer, priority_added_at, takes_of, is_deactivated_at, StaysAt, IsNotDeactivated}
use Rattle.model_line.specs.Machine as lines
unfoldable use Rattle.model_line.specs.Machine.{answer as line_answer}
unfoldable use Rattle.model_card.specs.Run.{moments}
use Rattle.model_card.specs.Takes.{frames_given, given_of}
use Rattle.laws_line.proofs.Among.{no-farther-off, other-waits}
use Rattle.laws_line.proofs.OfCard.InOrder.{InOrder, in-order, among-behind}
use Rattle.laws_line.proofs.OfCard.Meanwhile.{at-another, at-next, few-lines, is-call, line-sound}

module _ (number link tei : ℕ) (f : ControlFrame) where
  -- an event at the line finds room, or changes nothing
  own-line : (card : Card) (e : Event) (x : Line) (b : Bool) → number < length card.lines → e.line ≡ number
      → (get_or (cond b card.lines (set card.lines e.line x)) number (fresh_line card.config) ≡ line_at number card)
      ⊎ (get_or (cond b card.lines (set card.lines e.line x)) number (fresh_line card.config) ≡ x)
  own-line card e x b few same = grind (arith, get_or-set_same)

  abbrev Waits : Line → List ControlFrame → List ControlFrame → Type 0
  Waits l before behind = (link_at link l).waiting ≡ before ++ f ∷ behind

  abbrev On : Line → Type 0
  On l = tei_at (place_at link) l ≡ Some tei

  abbrev Farther : Card → List ControlFrame → Line → Line → Type 0
  Farther card before l l' =
      ((behind' : List ControlFrame) × Waits l' before behind')
      × (frames_before card.config l' link (length before) ≤ frames_before card.config l link (length before) + (priority_waiting l' - priority_waiting l))

  unmoved : (card : Card) (before behind : List ControlFrame) (l l' : Line) → l' ≡ l → Waits l before behind → Farther card before l l'
  unmoved card before behind l l' same waits = grind arith

  pub on-first : (card : Card) (events : List Event) → StaysAt number link tei card events → On (line_at number card)
  unfolding StaysAt
  on-first card [] on = on
  on-first card (e ∷ events) on = on.0

  -- what is no next of the line
  other-event : (card : Card) (e : Event) → IsSound card → number < card.config.lines → link < link_count card.config → (e.line == number && is_take e.what) ≡ false → is_deactivated_at number link tei e ≡ false
      → On (line_at number card) → On (line_at number (after e card)) → (before behind : List ControlFrame) → Waits (line_at number card) before behind
      → Farther card before (line_at number card) (line_at number (after e card))
  other-event card e s few some apart up at at' before behind waits = go (e.line == number) refl apart up
    where
      by-own : is_take e.what ≡ false → deactivates (service_at link) tei e.what ≡ false
          → ((line_at number (after e card) ≡ line_at number card) ⊎ (line_at number (after e card) ≡ lines.after card.config e.what (line_at e.line card))) → e.line ≡ number
          → Farther card before (line_at number card) (line_at number (after e card))
      by-own other stays (inl same) here = unmoved card before behind (line_at number card) (line_at number (after e card)) same waits
      by-own other stays (inr moved) here =
          let is : line_at number (after e card) ≡ lines.after card.config e.what (line_at number card) = moved ∙ ap (λ n. lines.after card.config e.what (line_at n card)) here in
          subst (λ x. Farther card before (line_at number card) x) (sym is) (
            other-waits card.config s.config link tei some e.what (line_at number card) other stays (line-sound card number s few) at (subst On is at') before f behind waits,
            no-farther-off card.config s.config link tei some e.what (line_at number card) (length before) other,
          )

      go : (b : Bool) → (e.line == number) ≡ b → (b && is_take e.what) ≡ false → (b && deactivates (service_at link) tei e.what) ≡ false → Farther card before (line_at number card) (line_at number (after e card))
      go true is other stays =
          by-own other stays (own-line card e (lines.after card.config e.what (line_at e.line card)) (wants_room e card) (few-lines number card s few) (eqb-true e.line number is)) (eqb-true e.line number is)
      go false is other stays =
          unmoved card before behind (line_at number card) (line_at number (after e card))
          (at-another card number e (λ same. eqb-false e.line number is (sym same))) waits

  abbrev Less : Card → List Event → List ControlFrame → Type 0
  Less card events before =
      frames_before card.config (line_at number card) link (length before) + priority_added_at number card events < takes_of number events

  -- what is given by the calls among events
  abbrev given : Card → List Event → List (List ℕ)
  given card events = frames_given number (moments card events)

  abbrev texts : Card → List ControlFrame → List (List ℕ)
  texts card fs = map (control_text card.config link tei) fs

  Rest : Card → Event → List Event → Type 0
  Rest card e events =
      (before behind : List ControlFrame) → Waits (line_at number (after e card)) before behind → Less (after e card) events before
      → AreAmong (texts card (before ++ f ∷ [])) (given (after e card) events)

  sooner : (card : Card) (e : Event) (events : List Event) (frames : List (List ℕ)) → AreAmong frames (given (after e card) events) → AreAmong frames (given card (e ∷ events))
  unfolding moments
  sooner card e events frames x = among-behind frames (given_of number (record { card = card; event = e; answer = answer e card })) (given (after e card) events) x

  given-now : (card : Card) (events : List Event) (t : Taken) → taken card.config (line_at number card) ≡ Some t → given card (at number next ∷ events) ≡ t.frame ∷ given (after (at number next) card) events
  unfolding moments line_answer lines.takes_slot
  given-now card events t some = grind (arith, eq-eqb)

  first-given : (card : Card) (events : List Event) (b : ControlFrame) (bs : List ControlFrame) (t : Taken) → taken card.config (line_at number card) ≡ Some t → t.frame ≡ control_text card.config link tei b
      → AreAmong (texts card bs) (given (after (at number next) card) events) → AreAmong (texts card (b ∷ bs)) (given card (at number next ∷ events))
  first-given card events b bs t some is x =
      let rest = given (after (at number next) card) events in
      ([], rest, given-now card events t some ∙ ap (λ text. text ∷ rest) is, x)

  by-call : (card : Card) (events : List Event) → IsSound card → number < card.config.lines → link < link_count card.config → On (line_at number card)
      → (before behind : List ControlFrame) → Waits (line_at number card) before behind
      → frames_before card.config (line_at number card) link (length before) + priority_added_at number (after (at number next) card) events < 1 + takes_of number events
      → Rest card (at number next) events → AreAmong (texts card (before ++ f ∷ [])) (given card (at number next ∷ events))
  unfolding Rest
  by-call card events s few some at' before behind waits less more =
      go (in-order card.config s.config link tei some (line_at number card) (line-sound card number s few) at' f behind before waits)
    where
      is : line_at number (after (at number next) card) ≡ (lines.after card.config next (line_at number card))
      is = at-next card number (few-lines number card s few)

      later : (before' : List ControlFrame) → Waits (lines.after card.config next (line_at number card)) before' behind → frames_before card.config (lines.after card.config next (line_at number card)) link (length before') + 1 ≤ frames_before card.config (line_at number card) link (length before)
          → AreAmong (texts card (before' ++ f ∷ [])) (given (after (at number next) card) events)
      later before' waits' nearer =
          let near : frames_before card.config (line_at number (after (at number next) card)) link (length before') + 1 ≤ frames_before card.config (line_at number card) link (length before) =
          subst (λ l. frames_before card.config l link (length before') + 1 ≤ frames_before card.config (line_at number card) link (length before)) (sym is) nearer in
          more before' behind (subst (λ l. Waits l before' behind) (sym is) waits') (omega (arith, less, near))

      go : InOrder card.config s.config link tei some (line_at number card) (line-sound card number s few) at' f behind before (lines.after card.config next (line_at number card))
          → AreAmong (texts card (before ++ f ∷ [])) (given card (at number next ∷ events))
      go (inl (none, (t, begins, same))) =
          subst (λ fs. AreAmong (texts card (fs ++ f ∷ [])) (given card (at number next ∷ events))) (sym none) (first-given card events f [] t begins same tt)
      go (inr (inl (b, bs, first, (t, begins, same), (waits', nearer)))) =
          subst (λ fs. AreAmong (texts card (fs ++ f ∷ [])) (given card (at number next ∷ events))) (sym first) (first-given card events b (bs ++ f ∷ []) t begins same (later bs waits' nearer))
      go (inr (inr (waits', nearer))) = sooner card (at number next) events (texts card (before ++ f ∷ [])) (later before waits' nearer)

  pub taken-amid : (events : List Event) (card : Card) → IsSound card → number < card.config.lines → link < link_count card.config → AreAtLines card events → StaysAt number link tei card events
      → IsNotDeactivated number link tei events
      → (before behind : List ControlFrame) → Waits (line_at number card) before behind → Less card events before → AreAmong (texts card (before ++ f ∷ [])) (given card events)
  unfolding StaysAt priority_added_at Rest
  taken-amid [] card s few some lines on up before behind waits less = absurd (omega (arith, less))
  taken-amid (e ∷ events) card s few some lines on up before behind waits less =
      let here = All-head (IsAtLine card) e events lines in
      by-kind (e.line == number && is_take e.what) refl
      (λ before' behind' waits' less'. taken-amid events (after e card) (after_is_sound card e s here) few some (All-tail (IsAtLine card) e events lines) on.1
      (All-tail (λ e. is_deactivated_at number link tei e ≡ false) e events up) before' behind' waits' less')
    where
      come : ℕ
      come = priority_waiting (line_at number (after e card)) - priority_waiting (line_at number card)

      rest : ℕ
      rest = priority_added_at number (after e card) events

      with-kind : (b : Bool) → (e.line == number && is_take e.what) ≡ b
          → frames_before card.config (line_at number card) link (length before) + (cond b 0 come + rest) < cond b 1 0 + takes_of number events
      with-kind b is = grind (arith, come, rest)

      by-kind : (b : Bool) → (e.line == number && is_take e.what) ≡ b
          → ((before' behind' : List ControlFrame) → Waits (line_at number (after e card)) before' behind' → Less (after e card) events before'
          → AreAmong (texts card (before' ++ f ∷ [])) (given (after e card) events))
          → AreAmong (texts card (before ++ f ∷ [])) (given card (e ∷ events))
      by-kind true is more =
          let same = is-call number e is in
          let none : cond true 0 come + rest ≡ rest = omega arith in
          let fewer : frames_before card.config (line_at number card) link (length before) + (cond true 0 come + rest) < cond true 1 0 + takes_of number events = with-kind true is in
          let now : frames_before card.config (line_at number card) link (length before) + rest < 1 + takes_of number events = omega (arith, fewer, none) in
          grind (arith, by-call, Rest)
      by-kind false is more =
          let stays = All-head (λ e. is_deactivated_at number link tei e ≡ false) e events up in
          let x = other-event card e s few some is stays on.0 (on-first (after e card) events on.1) before behind waits in
          let farther = x.1 in
          let fewer : frames_before card.config (line_at number card) link (length before) + (cond false 0 come + rest) < cond false 1 0 + takes_of number events = with-kind false is in
          let sum : (cond false 0 come + rest) ≡ come + rest = omega arith in
          sooner card e events (texts card (before ++ f ∷ [])) (more before x.0.0 x.0.1 (omega (arith, fewer, farther, sum)))
