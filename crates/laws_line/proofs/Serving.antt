-- What is taken.
use Rattle.laws_line.proofs.Vocabulary.{cond, ◌≡◌, ℕ, ◌+◌, ◌<◌, false, List, [], ◌∷◌, ◌++◌, drop, take, slice_get, get_or, set, Option, Some, None, refl, sym, ap, ◌∙◌, subst, arith, zero-add, append-nil, IfSome, range_with_len, option_or, option_map_or, get_or-set_same, take-append-drop, All-head, All-tail, All-nil, All-cons, All-get_or, All-append, get_or-range_with_len, length-range_with_len}
use Rattle.laws_line.proofs.Vocabulary.{none-some, Service, Timer, LinkTimer, Link, is_information, Given, IsInOrder, IsOffered, given-in-order, given-is-offered, carried-is, offer-counts, nothing-given, Config, hears, Aim, at_units, at_timer, aim_of_expiry, aim_of_heard, Request, at_requested, aim_of_request, heard_aims, Line, UnitData, link_count, service_at, place_at, tei_at, terms, link_at}
use Rattle.laws_line.proofs.Vocabulary.{with_link, Taken, with_given_frame, link_taken, first_taken, round, taken, IsSoundAt, round_below, at_no_link, option_map, All, fresh, Event, after, answer, IsSound, IsSilentAt, IsItsTurn, IsOfLink, IsOwed, HasNothing, contents_of_link, IsServed, unit_asked, units_behind, UnitsWait, TurnStays, LinkRequest, link_offer, link_given, link_after, StreamEvent}
use Rattle.model_link.specs.Sound as link_sound
use Rattle.laws_line.proofs.Silence.{silent}
use Rattle.model_teis.specs.network.Events as teis
use Rattle.model_teis.specs.network.Messages as messages
use Rattle.model_teis.specs.terminal.Events as terminals
use Rattle.laws_line.proofs.Vocabulary.{inl, inr, expiry, Bool, true, HasNoMessage, IsOfSide, IsUnused, Message, OwnMessage, own_frame_of, is_terminal, terminal_in, unit_taken, with_message, with_own_message, at_management, at_terminal, TeiEvent, TerminalEvent, Change, LineTold, of_aim, of_change, of_management, of_network, of_terminal, of_terminal_if, at_a_terminal, told_of_management}
use Rattle.laws_line.proofs.Vocabulary.{tei_told, tei_after, terminal_told, terminal_after, with_terminal, without_units, down}
use Rattle.laws_line.proofs.Among.{by-aim}

-- the first of a list is not there
no-first : {X : Type 0} (xs : List X) → slice_get xs 0 ≡ None → xs ≡ []
no-first [] e = refl
no-first (x ∷ xs) e = cc

module _ (c : Config) (l : Line) (s : IsSound c l) where
  -- What is taken, by the line without it; or nothing waits.
  abbrev Fate : Option Taken → Type 0
  Fate None = HasNothing c l
  Fate (Some t) = IsOwed c (contents_of_link l) l t.line t.frame

  abbrev LinkFate : ℕ → Option Taken → Type 0
  LinkFate number None = IsSilentAt c l number
  LinkFate number (Some t) = IsItsTurn c l number → IsOfLink c (contents_of_link l) l t.line t.frame

  by-link : (number : ℕ) → number < link_count c → LinkFate number (link_taken c l number)
  by-link number few = go (tei_at (place_at number) l) refl (s.links number few)
    where
      at-tei : (tei : ℕ) → tei_at (place_at number) l ≡ Some tei → link_sound.IsSound (terms c (service_at number) tei) (link_at number l)
          → (o : Option Given) → link_given (terms c (service_at number) tei) (link_at number l) ≡ o
          → LinkFate number (option_map (with_given_frame c l number (terms c (service_at number) tei)) o)
      at-tei tei at sound None e = grind (arith, silent, nothing-given)
      at-tei tei at sound (Some g) e =
          let t = terms c (service_at number) tei in
          let after_it = link_after t link_offer (link_at number l) in
          let carried : IsOffered (contents_of_link l number) (link_at number l).s g.frame g.contents =
          subst (λ o. IfSome o (λ g. IsOffered (link_at number l).contents (link_at number l).s g.frame g.contents)) e (given-is-offered t (link_at number l) sound) in
          let counts : after_it.s ≡ (link_at number l).s + cond (is_information g.frame.control) 1 0 =
          offer-counts t (link_at number l) sound ∙ ap (λ o. (link_at number l).s + cond (option_map_or (λ g. is_information g.frame.control) o false) 1 0) e in
          let here : get_or (set l.links number after_it) number fresh ≡ after_it = get_or-set_same l.links number after_it fresh (omega (arith, few, s.count)) in
          let ordered : IsInOrder t (link_at number l) after_it g.frame =
          subst (λ o. IfSome o (λ g. IsInOrder t (link_at number l) after_it g.frame)) e (given-in-order t (link_at number l) sound) in (
          λ turn. record {
            number = number;
            few = few;
            its_turn = turn;
            tei = tei;
            on_line = at;
            command = g.frame.command;
            control = g.frame.control;
            information = g.contents;
            spelled = refl;
            in_order = subst (λ (x : Link). IsInOrder t (link_at number l) x g.frame) (sym here) ordered;
            carried = carried-is (contents_of_link l number) (link_at number l).s g.frame.command g.frame.control g.contents carried;
            counted = ap (λ (x : Link). x.s) here ∙ counts;
            line = ap (λ (x : Link). record (with_link number x l) { turn = number + 1 }) (sym here);
          }
          )

      go : (o : Option ℕ) → tei_at (place_at number) l ≡ o → IsSoundAt c number (link_at number l) o → LinkFate number (link_taken c l number)
      go o e begins = grind (arith, option_map, none-some, at-tei)

  -- all links of a round
  abbrev Idle : ℕ → Type 0
  Idle number = LinkFate number None

  -- the first of a list that has something to give
  record First (ns : List ℕ) (t : Taken) : Type 0 where
    number : ℕ
    passed : List ℕ
    behind : List ℕ
    place : ns ≡ passed ++ number ∷ behind
    all_silent : All Idle passed
    fate : LinkFate number (Some t)

  abbrev RoundFate : List ℕ → Option Taken → Type 0
  RoundFate ns None = All Idle ns
  RoundFate ns (Some t) = First ns t

  by-round : (ns : List ℕ) → All (λ n. n < link_count c) ns → RoundFate ns (first_taken c l ns)
  by-round [] few = All-nil Idle
  by-round (n ∷ ns) few = go (link_taken c l n) (by-link n (All-head (λ n. n < link_count c) n ns few)) (first_taken c l ns) (by-round ns (All-tail (λ n. n < link_count c) n ns few))
    where
      go : (o : Option Taken) → LinkFate n o → (rest : Option Taken) → RoundFate ns rest → RoundFate (n ∷ ns) (option_or o rest)
      go (Some t) x rest y = record { number = n; passed = []; behind = ns; place = refl; all_silent = All-nil Idle; fate = x }
      go None x None y = All-cons Idle n ns x y
      go None x (Some t) y = record {
        number = y.number;
        passed = n ∷ y.passed;
        behind = y.behind;
        place = ap (λ xs. n ∷ xs) y.place;
        all_silent = All-cons Idle n y.passed x y.all_silent;
        fate = y.fate;
      }

  -- a round is all links
  front : {X : Type 0} (P : X → Type 0) (xs ys : List X) → All P (xs ++ ys) → All P xs × All P ys
  front P [] ys h = (All-nil P, h)
  front P (x ∷ xs) ys h =
      let rest = front P xs ys (All-tail P x (xs ++ ys) h) in
      (All-cons P x xs (All-head P x (xs ++ ys) h) rest.0, rest.1)

  whole-round : All Idle (round c l) → (number : ℕ) → number < link_count c → Idle number
  whole-round h number few =
      let numbers = range_with_len 0 (link_count c) in
      let parts = front Idle (drop l.turn numbers) (take l.turn numbers) h in
      let all : All Idle numbers = subst (All Idle) (take-append-drop l.turn numbers) (All-append Idle (take l.turn numbers) (drop l.turn numbers) parts.1 parts.0) in
      subst Idle (get_or-range_with_len 0 (link_count c) number 0 few ∙ zero-add number)
      (All-get_or Idle numbers number 0 (omega (arith, length-range_with_len 0 (link_count c), few)) all)

  -- what follows a message, where none waits
  behind : HasNoMessage l → Fate (option_or (unit_taken c l) (first_taken c l (round c l)))
  behind none = grind (arith, no-first, by-round, round_below, whole-round)

  by-own : is_terminal c ≡ true → IsUnused l.management → (o : Option OwnMessage) → slice_get l.own.waiting 0 ≡ o
      → Fate (option_or (option_map (with_own_message l) (option_map own_frame_of o)) (option_or (unit_taken c l) (first_taken c l (round c l))))
  by-own is unused None e = behind (record { management = unused.waiting; own = no-first l.own.waiting e })
  by-own is unused (Some m) e = inr (inl (record { terminal = is; message = m; oldest = e; spelled = refl; line = refl }))

  by-message : is_terminal c ≡ false → l.own.waiting ≡ [] → (o : Option Message) → slice_get l.management.waiting 0 ≡ o
      → Fate (option_or (option_map (with_message l) (option_map (messages.frame_of c.side) o)) (option_or (unit_taken c l) (first_taken c l (round c l))))
  by-message net unused None e = behind (record { management = no-first l.management.waiting e; own = unused })
  by-message net unused (Some m) e = inl (record { message = m; oldest = e; spelled = refl; line = refl })

  taken-is : Fate (taken c l)
  taken-is = go (is_terminal c) refl
    where
      go : (b : Bool) → is_terminal c ≡ b → Fate (option_or
          (cond b (option_map (with_own_message l) (terminals.offered (terminal_in l))) (option_map (with_message l) (teis.offered c.side l.management)))
          (option_or (unit_taken c l) (first_taken c l (round c l))))
      go true is = by-own is (subst (λ b. IsOfSide b l.management l.own) is s.own).1 (slice_get l.own.waiting 0) refl
      go false net = by-message net (subst (λ b. IsOfSide b l.management l.own) net s.own).1 (slice_get l.management.waiting 0) refl

  pub none-waits : taken c l ≡ None → HasNothing c l
  none-waits e = subst Fate e taken-is

  pub served : IsServed c (contents_of_link l) l
  unfolding after
  served = grind (arith, taken-is)

-- Unit data that waits.
module _ (c : Config) where
  abbrev unit_of : Aim → List UnitData
  unit_of (at_units unit) = unit ∷ []
  unit_of other = []

  abbrev left_by : Aim → List UnitData → List UnitData
  left_by at_no_link units = []
  left_by other units = units

  abbrev units_by : Aim → List UnitData → List UnitData
  units_by aim units = left_by aim units ++ unit_of aim

  none-heard : (l : Line) (e : StreamEvent) → units_by (aim_of_heard c l e) l.units ≡ l.units
  none-heard l e =
      let none = append-nil l.units in
      heard_aims c l (λ aim. units_by aim l.units ≡ l.units) (λ cause. none) (λ service tei place what at. none) (λ info. none) (λ parts service to. none) e

  by-timer : (service : Service) (tei : ℕ) (timer : LinkTimer) (o : Option ℕ) (units : List UnitData) → units_by (at_timer service tei timer o) units ≡ units
  by-timer service tei timer o units = grind (arith, append-nil)

  by-expiry : (l : Line) (timer : Timer) → units_by (aim_of_expiry timer l) l.units ≡ l.units
  by-expiry l timer = grind (arith, by-timer, append-nil)

  by-asked : (service : Service) (tei : ℕ) (what : LinkRequest) (o : Option ℕ) (units : List UnitData) → units_by (at_requested service tei what o) units ≡ units ++ []
  by-asked service tei what o units = grind arith

  by-request : (l : Line) (r : Request) → units_by (aim_of_request r l) l.units ≡ units_behind r l.units ++ unit_asked r
  by-request l r = grind (arith, by-asked)

  -- what TEI management has changes no unit data
  changed : (o : Option Change) (t : LineTold) (l : Line) → (of_change c o t l).line.units ≡ l.units
  changed o t l = grind arith

  there : (e : TerminalEvent) (l : Line) → (of_terminal c e l).line.units ≡ l.units
  there e l = changed (terminal_told e (terminal_in l)).change (told_of_management (terminal_told e (terminal_in l))) (with_terminal (terminal_after e (terminal_in l)) l)

  there-if : (o : Option TerminalEvent) (l : Line) → (of_terminal_if c o l).line.units ≡ l.units
  there-if None l = refl
  there-if (Some e) l = there e l

  managed : (e : TeiEvent) (l : Line) → (of_management c e l).line.units ≡ l.units
  managed e l = go (is_terminal c)
    where
      go : (b : Bool) → (cond b (of_terminal_if c (at_a_terminal e) l) (of_network c e l)).line.units ≡ l.units
      go true = there-if (at_a_terminal e) l
      go false = changed (tei_told e l.management).change (told_of_management (tei_told e l.management)) (record l { management = tei_after e l.management })

  pub aimed-units : (aim : Aim) (l : Line) → (of_aim c aim l).line.units ≡ units_by aim l.units
  aimed-units (at_management e) l = managed e l ∙ sym (append-nil l.units)
  aimed-units (at_terminal e) l = there e l ∙ sym (append-nil l.units)
  aimed-units at_no_link l = managed down (without_units l)
  aimed-units aim l = grind (arith, append-nil)

pub units-wait : (c : Config) (e : Event) (l : Line) → UnitsWait e l (after c e l) (answer c e l)
unfolding after answer
units-wait c (hears e) l = aimed-units c (aim_of_heard c l e) l ∙ none-heard c l e
units-wait c (expiry timer) l = aimed-units c (aim_of_expiry timer l) l ∙ by-expiry c l timer
units-wait c e l = grind (arith, append-nil, aimed-units, by-request)

-- Whose turn it is stays.
pub turn-stays : (c : Config) (e : Event) (l : Line) → TurnStays e l (after c e l)
unfolding after
turn-stays c e l = grind (arith, by-aim)
