-- Rows of a link: what is put as it comes to a state that awaits an answer, how that is answered, and which state the answer leaves.
use Rattle.laws_time.proofs.Vocabulary.{AwaitingEstablishment, Bool, Control, ControlFrame, Disc, Dm, Link, LinkEvent as Event, LinkTimer, List, Parts, ReceiveNotReady, ReceiveReady, Received, Sabme, State, Terms, Ua, [], answers, answers_to, ap, arith, as_command, as_heard, as_response, by_request, command_in, commands, cond, drop, event-follows, expired, false, inl, inr, is_faulty}
use Rattle.laws_time.proofs.Vocabulary.{is_multiple_frame, is_overlong, length, link_after as after, offer, overlong, put, receipt_as, received, refl, requested, room, state_after, state_number, subst, suc, sym, take, to_disc, to_sabme, told, true, true≢false, zero, ℕ, ◌&&◌, ◌++◌, ◌∙◌, ◌∷◌, ◌≡◌, ◌≤◌, ◌⊎◌}
use Rattle.lapd_frame.specs.declared.readings.Reading.{Reading}
use Rattle.model_link.specs.Events.{Request, frame}
use Rattle.model_link.specs.Sound.{IsSound}
use Rattle.laws_link.specs.States.{by_frame, by_expiry}

-- A supervisory command with P=1 enquires, and such a response with F=1 replies.
abbrev pub enquires : Bool → Control → Bool
enquires true (ReceiveReady nr pf) = pf
enquires true (ReceiveNotReady nr pf) = pf
enquires command other = false

abbrev pub replies : Bool → Control → Bool
replies false (ReceiveReady nr pf) = pf
replies false (ReceiveNotReady nr pf) = pf
replies command other = false

abbrev pub establishes : Bool → Control → Bool
establishes command (Sabme p) = p
establishes command other = false

abbrev pub ends_link : Bool → Control → Bool
ends_link command (Disc p) = p
ends_link command other = false

abbrev pub agrees : Bool → Control → Bool
agrees command (Ua f) = f
agrees command (Dm f) = f
agrees command other = false

enquires-so : (busy : Bool) (r : ℕ) → enquires true (receipt_as busy r true) ≡ true
enquires-so busy r = grind arith

replies-so : (busy : Bool) (r : ℕ) → replies false (receipt_as busy r true) ≡ true
replies-so busy r = grind arith

-- What is put, if nothing is lost.
take-all : (n : ℕ) (fs : List ControlFrame) → length (drop n fs) ≡ 0 → take n fs ≡ fs
take-all zero [] none = refl
take-all zero (f ∷ fs) none = absurd (cc none)
take-all (suc n) [] none = refl
take-all (suc n) (f ∷ fs) none = ap (λ fs. f ∷ fs) (take-all n fs none)

-- Layer 3 asks, or a timer expires.
abbrev pub IsOwnEvent : Event → Type 0
IsOwnEvent e = ((r : Request) × (e ≡ requested r false)) ⊎ ((timer : LinkTimer) × (e ≡ expired timer))

down-is : (state : State) → state_number state ≡ 5 → is_multiple_frame state ≡ false
down-is state is = grind arith

framed-8 : (r : Reading) (owed : Bool) (state : State) (command : Bool) (control : Control) → state_number (by_frame r owed state command control) ≡ 8 → state_number state ≡ 8
framed-8 r owed state command control is = grind arith

not-five : ◌≡◌ {A = ℕ} 8 5 → ⊥
not-five is = omega (arith, is)

module _ (t : Terms) where
  pub leads : (e : Event) (l : Link) → (after t e l).state ≡ state_after t (as_heard t e) l
  leads e l = (event-follows t e l).leaves.state

  pub all-put : (e : Event) (l : Link) → (told t e l).lost ≡ 0 → take (room t l) (put (as_heard t e) l (after t e l).state) ≡ put (as_heard t e) l (after t e l).state
  all-put e l none = take-all (room t l) (put (as_heard t e) l (after t e l).state) (sym (event-follows t e l).leaves.lost_is ∙ none)

  -- A link that comes to a state in which it waits for an answer puts its command.
  put-in : (e : Event) (l : Link) (to : State) (n : ℕ) (f : ControlFrame) → state_number to ≡ n → (state_number l.state ≡ n → ⊥) → command_in to l ≡ f ∷ [] → commands e l to ≡ f ∷ []
  put-in e l to n f is other command = grind arith

  enquiry-in : (to : State) (l : Link) → state_number to ≡ 8 → command_in to l ≡ as_command (receipt_as l.own_busy l.r true)
  enquiry-in to l h1z = grind arith

  pub sabme-in : (to : State) (l : Link) → state_number to ≡ 5 → command_in to l ≡ as_command (Sabme true)
  sabme-in to l h1z = grind arith

  disc-in : (to : State) (l : Link) → state_number to ≡ 6 → command_in to l ≡ as_command (Disc true)
  disc-in to l h1z = grind arith

  abbrev pub Puts : (Bool → Control → Bool) → Event → Link → Type 0
  Puts kind e l = (xs : List ControlFrame) × (f : ControlFrame) × (fs : List ControlFrame) × (put (as_heard t e) l (after t e l).state ≡ xs ++ f ∷ fs) × (kind f.command f.control ≡ true)

  comes-in : (kind : Bool → Control → Bool) (n : ℕ) (e : Event) (l : Link) (f : ControlFrame) → kind f.command f.control ≡ true → state_number (after t e l).state ≡ n → (state_number l.state ≡ n → ⊥)
      → command_in (after t e l).state l ≡ f ∷ [] → Puts kind e l
  comes-in kind n e l f is number other command =
      (answers (as_heard t e) l, f, [], ap (λ fs. answers (as_heard t e) l ++ fs) (put-in (as_heard t e) l (after t e l).state n f number other command), is)

  pub offer-stays : (l : Link) → (after t offer l).state ≡ l.state
  offer-stays l = leads offer l

  -- No frame leads to state 8.
  module _ (n : ℕ) (other : n ≡ 5 → ⊥) (framed : (owed : Bool) (state : State) (command : Bool) (control : Control) → state_number (by_frame t.reading owed state command control) ≡ n → state_number state ≡ n) where
    received-stays : (r : Received) (l : Link) → state_number (state_after t (received r) l) ≡ n → state_number l.state ≡ n
    received-stays r l is = grind arith

    heard-stays : (f : Parts) (l : Link) → state_number (after t (received (frame f)) l).state ≡ n → state_number l.state ≡ n
    heard-stays f l is = received-stays (cond (is_overlong t f.control f.info) overlong (frame f)) l (ap state_number (sym (leads (received (frame f)) l)) ∙ is)

  -- An enquiry that is heard in state 7 or 8 is answered.
  as-enquiry : (command : Bool) (control : Control) (info : List ℕ) (l : Link) → enquires command control ≡ true
      → (is_overlong t control info ≡ false) × (answers_to command control l ≡ cond (is_multiple_frame l.state) (as_response (receipt_as l.own_busy l.r true)) [])
  as-enquiry command control info l h1z = grind arith

  answer-put : (f : Parts) (l : Link) → enquires f.address.command f.control ≡ true → is_multiple_frame l.state ≡ true → Puts replies (received (frame f)) l
  answer-put f l is up =
      let x = as-enquiry f.address.command f.control f.info l is in let to = (after t (received (frame f)) l).state in let heard = as_heard t (received (frame f)) in
      let answered : answers (as_heard t (received (frame f))) l ≡ as_response (receipt_as l.own_busy l.r true) =
      ap (λ b. answers (received (cond b overlong (frame f))) l) x.0 ∙ x.1 ∙ ap (λ b. cond b (as_response (receipt_as l.own_busy l.r true)) []) up in (
        [],
        record { command = false; control = receipt_as l.own_busy l.r true },
        commands heard l to,
        ap (λ fs. fs ++ commands heard l to) answered,
        replies-so l.own_busy l.r,
      )

  -- SABME and DISC are answered in any state.
  as-sabme : (state : State) → agrees false (to_sabme state true) ≡ true
  as-sabme state = grind arith

  as-disc : (state : State) → agrees false (to_disc state true) ≡ true
  as-disc state = grind arith

  abbrev IsAnswered : Bool → Control → List ℕ → Link → Type 0
  IsAnswered command control info l = (is_overlong t control info ≡ false) × (c : Control) × (answers_to command control l ≡ as_response c) × (agrees false c ≡ true)

  sabme-answered : (command : Bool) (control : Control) (info : List ℕ) (l : Link) → establishes command control ≡ true → IsAnswered command control info l
  sabme-answered command (Sabme p) info l is = (refl, to_sabme l.state p, refl, subst (λ p. agrees false (to_sabme l.state p) ≡ true) (sym is) (as-sabme l.state))
  sabme-answered command other info l is = absurd (true≢false (sym is))

  disc-answered : (command : Bool) (control : Control) (info : List ℕ) (l : Link) → ends_link command control ≡ true → IsAnswered command control info l
  disc-answered command (Disc p) info l is = (refl, to_disc l.state p, refl, subst (λ p. agrees false (to_disc l.state p) ≡ true) (sym is) (as-disc l.state))
  disc-answered command other info l is = absurd (true≢false (sym is))

  agreed-put : (f : Parts) (l : Link) → IsAnswered f.address.command f.control f.info l → Puts agrees (received (frame f)) l
  agreed-put f l x =
      let to = (after t (received (frame f)) l).state in
      let heard = as_heard t (received (frame f)) in (
        [],
        record { command = false; control = x.1 },
        commands heard l to,
        ap (λ fs. fs ++ commands heard l to) (ap (λ b. answers (received (cond b overlong (frame f))) l) x.0 ∙ x.2),
        x.3,
      )

  -- It moves no link to state 7 or 8.
  was-up : (f : Parts) (l : Link) → enquires f.address.command f.control ≡ true → is_multiple_frame (after t (received (frame f)) l).state ≡ true → is_multiple_frame l.state ≡ true
  was-up f l is up = grind arith

  pub up-is : (state : State) → (state_number state ≡ 7) ⊎ (state_number state ≡ 8) → is_multiple_frame state ≡ true
  up-is state is = grind arith

  -- A reply leaves no link in state 8.
  not-long : (command : Bool) (control : Control) (info : List ℕ) → replies command control ≡ true → is_overlong t control info ≡ false
  not-long command control info is = grind arith

  moved-on : (owed : Bool) (state : State) (command : Bool) (control : Control) → replies command control ≡ true → state_number (by_frame t.reading owed state command control) ≡ 8 → ⊥
  moved-on owed state command control is number = grind arith

  reply-leaves : (f : Parts) (l : Link) → replies f.address.command f.control ≡ true → state_number (after t (received (frame f)) l).state ≡ 8 → ⊥
  reply-leaves f l is number =
      go (is_multiple_frame l.state && is_faulty (frame f) l)
      (ap state_number (ap (λ b. state_after t (received (cond b overlong (frame f))) l) (sym (not-long f.address.command f.control f.info is)) ∙ sym (leads (received (frame f)) l)) ∙ number)
    where
      go : (b : Bool) → state_number (cond b AwaitingEstablishment (by_frame t.reading l.owed l.state f.address.command f.control)) ≡ 8 → ⊥
      go true number = cc number
      go false number = moved-on l.owed l.state f.address.command f.control is number

  -- UA and DM with F=1 leave no link in state 6, unless a release is owed, which is in state 5 alone, by annex B; nor, unless it was
  -- in state 8, in state 5.
  none-owed-6 : (f : Parts) (l : Link) → l.owed ≡ false → agrees f.address.command f.control ≡ true → state_number (after t (received (frame f)) l).state ≡ 6 → ⊥
  none-owed-6 f l none is number = grind arith

  agreement-6 : (f : Parts) (l : Link) → IsSound t l → agrees f.address.command f.control ≡ true → (state_number l.state ≡ 6) ⊎ (state_number l.state ≡ 4)
      → state_number (after t (received (frame f)) l).state ≡ 6 → ⊥
  agreement-6 f l sound is there number = go l.owed refl there
    where
      go : (b : Bool) → l.owed ≡ b → (state_number l.state ≡ 6) ⊎ (state_number l.state ≡ 4) → ⊥
      go true e (inl at) = let here = ap state_number (sound.owed e).state in omega (arith, here, at)
      go true e (inr at) = let here = ap state_number (sound.owed e).state in omega (arith, here, at)
      go false e at = none-owed-6 f l e is number

  agreement-5 : (f : Parts) (l : Link) → agrees f.address.command f.control ≡ true → is_multiple_frame l.state ≡ false → state_number (after t (received (frame f)) l).state ≡ 5 → ⊥
  agreement-5 f l is down number = grind arith

  -- What layer 3 asks and what expires leads no link to state 7 or 8, except from there.
  asked-down : (state : State) (request : Request) → is_multiple_frame state ≡ false → is_multiple_frame (by_request state request) ≡ false
  asked-down state request down = grind arith

  expired-down : (state : State) (timer : LinkTimer) (again : Bool) → is_multiple_frame state ≡ false → is_multiple_frame (by_expiry state timer again) ≡ false
  expired-down state timer again down = grind arith

  -- In state 6 layer 3 is granted nothing, and an expiry leaves it there or leads to state 4, where none does anything.
  asked-stays : (state : State) (request : Request) → state_number state ≡ 6 → state_number (by_request state request) ≡ 6
  asked-stays state request is = grind arith

  expired-ends : (state : State) (timer : LinkTimer) (again : Bool) → (state_number state ≡ 6) ⊎ (state_number state ≡ 4)
      → (state_number (by_expiry state timer again) ≡ 6) ⊎ (state_number (by_expiry state timer again) ≡ 4)
  expired-ends state timer again is = grind arith

  asked-6 : (r : Request) (l : Link) → state_number l.state ≡ 6 → state_number (after t (requested r false) l).state ≡ 6
  asked-6 r l is = grind (arith, asked-stays)

  expired-6 : (timer : LinkTimer) (l : Link) → (state_number l.state ≡ 6) ⊎ (state_number l.state ≡ 4)
      → (state_number (after t (expired timer) l).state ≡ 6) ⊎ (state_number (after t (expired timer) l).state ≡ 4)
  expired-6 timer l is = grind (arith, expired-ends)

  own-down : (e : Event) (l : Link) → IsOwnEvent e → is_multiple_frame l.state ≡ false → is_multiple_frame (after t e l).state ≡ false
  own-down e l h1z h2z = grind (arith, asked-down, expired-down)

-- A state in which an end waits for an answer: with its command, the answer, and what holds of the state as long as the end waits.
pub record Exchange (n : ℕ) : Type 1 where
  pub asking : Bool → Control → Bool
  pub answering : Bool → Control → Bool
  -- as layer 3 asks, and then as timers expire
  pub Still : State → Type 0
  pub Later : State → Type 0
  pub still_in : (state : State) → state_number state ≡ n → Still state
  pub still_asked : (t : Terms) (r : Request) (l : Link) → Still l.state → Still (after t (requested r false) l).state
  pub still_later : (state : State) → Still state → Later state
  pub later_expired : (t : Terms) (timer : LinkTimer) (l : Link) → Later l.state → Later (after t (expired timer) l).state
  pub puts : (t : Terms) (e : Event) (l : Link) → state_number (after t e l).state ≡ n → (state_number l.state ≡ n → ⊥) → Puts t asking e l
  pub answered : (t : Terms) (f : Parts) (l : Link) → asking f.address.command f.control ≡ true → (n ≡ 8 → is_multiple_frame (after t (received (frame f)) l).state ≡ true) → Puts t answering (received (frame f)) l
  -- by how many octet times later it may be put than at the beginning of a beat: a frame may lead there
  pub late : ℕ
  pub few : late ≤ 1
  pub by_frame : (t : Terms) (f : Parts) (l : Link) → state_number (after t (received (frame f)) l).state ≡ n → (state_number l.state ≡ n) ⊎ (late ≡ 1)
  pub leaves : (t : Terms) (f : Parts) (l : Link) → IsSound t l → answering f.address.command f.control ≡ true → Later l.state
      → state_number (after t (received (frame f)) l).state ≡ n → ⊥

pub enquiry : Exchange 8
enquiry = record {
  asking = enquires;
  answering = replies;
  Still = λ state. Unit {0};
  Later = λ state. Unit {0};
  still_in = λ state is. tt;
  still_asked = λ t r l still. tt;
  still_later = λ state still. tt;
  later_expired = λ t timer l still. tt;
  puts = λ t e l is other. comes-in t enquires 8 e l (record { command = true; control = receipt_as l.own_busy l.r true }) (enquires-so l.own_busy l.r) is other (enquiry-in t (after t e l).state l is);
  answered = λ t f l is up. answer-put t f l is (was-up t f l is (up refl));
  late = 0;
  few = omega arith;
  by_frame = λ t f l is. inl (heard-stays t 8 not-five (framed-8 t.reading) f l is);
  leaves = λ t f l sound is still number. reply-leaves t f l is number;
}

pub enquiry-soon : enquiry.late ≡ 0
unfolding enquiry
enquiry-soon = refl

pub establishment : Exchange 5
establishment = record {
  asking = establishes;
  answering = agrees;
  Still = λ state. is_multiple_frame state ≡ false;
  Later = λ state. is_multiple_frame state ≡ false;
  still_in = λ state is. down-is state is;
  still_asked = λ t r l still. own-down t (requested r false) l (inl (r, refl)) still;
  still_later = λ state still. still;
  later_expired = λ t timer l still. own-down t (expired timer) l (inr (timer, refl)) still;
  puts = λ t e l is other. comes-in t establishes 5 e l (record { command = true; control = Sabme true }) refl is other (sabme-in t (after t e l).state l is);
  answered = λ t f l is up. agreed-put t f l (sabme-answered t f.address.command f.control f.info l is);
  late = 1;
  few = omega arith;
  by_frame = λ t f l is. inr refl;
  leaves = λ t f l sound is still number. agreement-5 t f l is still number;
}

pub establishment-asks : establishment.asking ≡ establishes
unfolding establishment
establishment-asks = refl

pub release : Exchange 6
release = record {
  asking = ends_link;
  answering = agrees;
  Still = λ state. state_number state ≡ 6;
  Later = λ state. (state_number state ≡ 6) ⊎ (state_number state ≡ 4);
  still_in = λ state is. is;
  still_asked = λ t r l still. asked-6 t r l still;
  still_later = λ state still. inl still;
  later_expired = λ t timer l still. expired-6 t timer l still;
  puts = λ t e l is other. comes-in t ends_link 6 e l (record { command = true; control = Disc true }) refl is other (disc-in t (after t e l).state l is);
  answered = λ t f l is up. agreed-put t f l (disc-answered t f.address.command f.control f.info l is);
  late = 1;
  few = omega arith;
  by_frame = λ t f l is. inr refl;
  leaves = λ t f l sound is still number. agreement-6 t f l sound is still number;
}
