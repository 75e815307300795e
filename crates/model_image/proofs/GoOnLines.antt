-- Two lines that differ only in links that are the same go on the same.
use Rattle.std.proofs.Common.{arith, ◌≡◌, ℕ, ◌<◌, ◌≤◌, ◌==◌, Bool, true, false, cond, not, List, [], ◌∷◌, ◌++◌, length, get_or, set, Option, Some, None, refl, sym, ap, ◌∙◌, subst, eqb-true, eq-eqb}
use Rattle.std.specs.Prelude.{nat_le, nat_lt, option_map, slice_get}
use Rattle.std.specs.Option.{option_or, option_map_or}
use Rattle.std.proofs.lemmas.Bool.{ltb-true, ltb-false}
use Rattle.std.proofs.lemmas.List.{length-set, get_or-set_same, get_or-set_other, set_past}
use Rattle.lapd_frame.specs.declared.refusals.Refusal.TheVariants.{WrongState, QueueFull}
use Rattle.lapd_frame.specs.declared.services.Service.{Service}
use Rattle.lapd_frame.specs.declared.services.Service.TheVariants.{Call, Packet}
use Rattle.model_teis.specs.network.Events as teis
use Rattle.model_teis.specs.declared.changes.Change.{Change}
use Rattle.model_teis.specs.declared.changes.Change.TheVariants.{Gained, Left}
use Rattle.model_teis.specs.terminal.Events as terminals
use Rattle.model_link.specs.Events as link_event
use Rattle.model_link.specs.Link.{Link, fresh}
use Rattle.model_link.specs.Machine as links
use Rattle.model_link.specs.Requests.{serves}
use Rattle.model_link.specs.Told.{Given}
use Rattle.model_line.specs.declared.config.Config.{Config}
use Rattle.model_line.specs.Effect.{Aim, at_none, at_link, at_management, at_terminal, at_units, at_no_link, Effect, of_link, of_change, of_network, of_terminal, of_terminal_if, of_aim, at_a_terminal, told_of_link, told_of_management, without_units}
use Rattle.model_line.specs.Event.{Event, hears, expiry, request, next, Answer, LineTold, told, gave}
use Rattle.model_line.specs.Line.{Line, link_number, link_at, link_in, link_of, place_in, terms, terms_at, is_terminal, terminal_in, with_terminal}
use Rattle.model_line.specs.Taken.{Taken, with_message, with_own_message, unit_taken, with_given_frame, link_taken, first_taken, round, taken, next_of, line_of}
use Rattle.lapd_frame.specs.declared.refusals.Refusal.{Refusal}
use Rattle.model_link.specs.declared.states.State.{State}
use Rattle.lapd_frame.specs.declared.timers.Timer.TheVariants.{T200, T203, T201, T202}
use Rattle.model_line.specs.Heard.{aim_of_heard}
use Rattle.model_line.specs.Expiry.{aim_of_expiry}
use Rattle.model_line.specs.Request.{Request, Establish, Release, Data, Unit as SendUnit, Assign, Remove, Check, Disown, AskTei, VerifyTei, SetBusy, ClearBusy, Deactivate, Down}
use Rattle.model_line.specs.Requested.{aim_of_request}
use Rattle.model_line.specs.Refusal.{Row, first_that_holds, bad_tei, no_link, wrong_state, too_long, queue_full, pool_full, refusal}
use Rattle.model_line.specs.Machine as machine
use Rattle.model_line.specs.Machine.{unless_refused, unless_refused_told}
use Rattle.model_image.proofs.GoOnEvents.{IsAlike, told-same, offers-same, after-same}
use Rattle.model_line.proofs.ImageRead.{same-link}

-- Links that are the same, by their numbers.
pub record AreAlike (xs ys : List Link) : Type 0 where
  pub count : length xs ≡ length ys
  pub each : (n : ℕ) → IsAlike (get_or xs n fresh) (get_or ys n fresh)

abbrev pub with_links : List Link → Line → Line
with_links ys l = record l { links = ys }

pub fresh-alike : IsAlike fresh fresh
fresh-alike = record { same = same-link fresh fresh refl; sent = omega arith; there = omega arith; sent' = omega arith; there' = omega arith }

-- one of them changed
one-set : (xs ys : List Link) (k n : ℕ) (x y : Link) → AreAlike xs ys → IsAlike x y → (b : Bool) → (n == k) ≡ b → (w : Bool) → nat_lt k (length xs) ≡ w
    → IsAlike (get_or (set xs k x) n fresh) (get_or (set ys k y) n fresh)
one-set xs ys k n x y alike new true e true w =
    let same : n ≡ k = eqb-true n k e in
    let here : IsAlike (get_or (set xs k x) k fresh) (get_or (set ys k y) k fresh) =
    rw (get_or-set_same xs k x fresh (ltb-true k (length xs) w), get_or-set_same ys k y fresh (subst (λ (m : ℕ). k < m) alike.count (ltb-true k (length xs) w))) new in
    subst (λ (m : ℕ). IsAlike (get_or (set xs k x) m fresh) (get_or (set ys k y) m fresh)) (sym same) here
one-set xs ys k n x y alike new true e false w =
    rw (set_past xs k x (ltb-false k (length xs) w), set_past ys k y (subst (λ (m : ℕ). m ≤ k) alike.count (ltb-false k (length xs) w))) (alike.each n)
one-set xs ys k n x y alike new false e w v =
    let apart : n ≡ k → ⊥ = λ same. absurd (grind (arith, eq-eqb, e, same)) in
    rw (get_or-set_other xs k n x fresh apart, get_or-set_other ys k n y fresh apart) (alike.each n)

set-alike : (xs ys : List Link) (k : ℕ) (x y : Link) → AreAlike xs ys → IsAlike x y → AreAlike (set xs k x) (set ys k y)
set-alike xs ys k x y alike new = record {
  count = length-set xs k x ∙ alike.count ∙ sym (length-set ys k y);
  each = λ n. one-set xs ys k n x y alike new (n == k) refl (nat_lt k (length xs)) refl;
}

-- Two effects, of a line and of the same with other links: what is told, and what they leave.
pub record SameEffects (e f : Effect) : Type 0 where
  pub told : e.told ≡ f.told
  pub rest : f.line ≡ with_links f.line.links e.line
  pub links : AreAlike e.line.links f.line.links

-- Two lines, of which one is the other with other links; two frames that are taken; and two answers with the lines that are
-- left.
pub record SameLines (l m : Line) : Type 0 where
  pub rest : m ≡ with_links m.links l
  pub links : AreAlike l.links m.links

abbrev SameTaken : Option Taken → Option Taken → Type 0
SameTaken None None = Unit {0}
SameTaken None (Some u) = ⊥
SameTaken (Some t) None = ⊥
SameTaken (Some t) (Some u) = (t.frame ≡ u.frame) × (t.orders ≡ u.orders) × SameLines t.line u.line

pub record SameSteps (a b : Answer) (l m : Line) : Type 0 where
  pub answers : a ≡ b
  pub lines : SameLines l m

module _ (c : Config) where
  link-same : (service : Service) (tei place : ℕ) (e : link_event.Event) (l : Line) (ys : List Link) → AreAlike l.links ys
      → SameEffects (of_link c service tei place e l) (of_link c service tei place e (with_links ys l))
  link-same service tei place e l ys alike =
      let one : IsAlike (link_in l service place) (link_in (with_links ys l) service place) = alike.each (link_number place service) in
      record {
        told = ap told_of_link (told-same (terms c service tei) e _ _ one);
        rest = refl;
        links = set-alike l.links ys (link_number place service) _ _ alike (after-same (terms c service tei) e _ _ one);
      }

  change-same : (change : Option Change) (said : LineTold) (l : Line) (ys : List Link) → AreAlike l.links ys
      → SameEffects (of_change c change said l) (of_change c change said (with_links ys l))
  change-same None said l ys alike = record { told = refl; rest = refl; links = alike }
  change-same (Some (Gained tei place)) said l ys alike = record {
    told = refl;
    rest = refl;
    links = set-alike _ _ (link_number place Packet) fresh fresh (set-alike l.links ys (link_number place Call) fresh fresh alike fresh-alike) fresh-alike;
  }
  change-same (Some (Left tei place)) said l ys alike =
      let call = link-same Call tei place link_event.cleared l ys alike in
      let packet = link-same Packet tei place link_event.cleared (of_link c Call tei place link_event.cleared l).line _ call.links in
      record {
        told = λ i. record said { notes = said.notes ++ (call.told i).notes ++ (packet.told i).notes; orders = (call.told i).orders ++ (packet.told i).orders ++ said.orders; given_up = (call.told i).given_up; given_up_16 = (packet.told i).given_up_16 };
        rest = refl;
        links = packet.links;
      }

  network-same : (e : teis.Event) (l : Line) (ys : List Link) → AreAlike l.links ys → SameEffects (of_network c e l) (of_network c e (with_links ys l))
  network-same e l ys alike =
      change-same (teis.told e l.management).change (told_of_management (teis.told e l.management)) (record l { management = teis.after e l.management }) ys alike

  terminal-same : (e : terminals.Event) (l : Line) (ys : List Link) → AreAlike l.links ys → SameEffects (of_terminal c e l) (of_terminal c e (with_links ys l))
  terminal-same e l ys alike =
      change-same (terminals.told e (terminal_in l)).change (told_of_management (terminals.told e (terminal_in l))) (with_terminal (terminals.after e (terminal_in l)) l) ys alike

  terminal-if : (o : Option terminals.Event) (l : Line) (ys : List Link) → AreAlike l.links ys → SameEffects (of_terminal_if c o l) (of_terminal_if c o (with_links ys l))
  terminal-if None l ys alike = record { told = refl; rest = refl; links = alike }
  terminal-if (Some e) l ys alike = terminal-same e l ys alike

  by-side : (b : Bool) (e : teis.Event) (l : Line) (ys : List Link) → AreAlike l.links ys
      → SameEffects (cond b (of_terminal_if c (at_a_terminal e) l) (of_network c e l)) (cond b (of_terminal_if c (at_a_terminal e) (with_links ys l)) (of_network c e (with_links ys l)))
  by-side true e l ys alike = terminal-if (at_a_terminal e) l ys alike
  by-side false e l ys alike = network-same e l ys alike

  pub aim-same : (aim : Aim) (l : Line) (ys : List Link) → AreAlike l.links ys → SameEffects (of_aim c aim l) (of_aim c aim (with_links ys l))
  aim-same (at_none said) l ys alike = record { told = refl; rest = refl; links = alike }
  aim-same (at_link service tei place e) l ys alike = link-same service tei place e l ys alike
  aim-same (at_management e) l ys alike = by-side (is_terminal c) e l ys alike
  aim-same (at_terminal e) l ys alike = terminal-same e l ys alike
  aim-same (at_units unit) l ys alike = record { told = refl; rest = refl; links = alike }
  aim-same at_no_link l ys alike = by-side (is_terminal c) teis.down (without_units l) ys alike

  -- why a request is refused
  at-place : (service : Service) (l : Line) (ys : List Link) → AreAlike l.links ys → (o : Option ℕ)
      → IsAlike (option_map_or (link_in l service) o fresh) (option_map_or (link_in (with_links ys l) service) o fresh)
  at-place service l ys alike None = fresh-alike
  at-place service l ys alike (Some place) = alike.each (link_number place service)

  of-tei : (service : Service) (tei : ℕ) (l : Line) (ys : List Link) → AreAlike l.links ys → IsAlike (link_of service tei l) (link_of service tei (with_links ys l))
  of-tei service tei l ys alike = at-place service l ys alike (place_in l tei)

  by-state : (service : Service) (tei : ℕ) (r : link_event.Request) (l : Line) (ys : List Link) → AreAlike l.links ys
      → wrong_state c service tei r l ≡ wrong_state c service tei r (with_links ys l)
  by-state service tei r l ys alike = let same = (of-tei service tei l ys alike).same in λ i. record { why = WrongState; holds = not (serves c.reading (same.state i) (same.owed i) r) }

  by-queue : (service : Service) (tei : ℕ) (l : Line) (ys : List Link) → AreAlike l.links ys → queue_full c service tei l ≡ queue_full c service tei (with_links ys l)
  by-queue service tei l ys alike = ap (λ (q : List (List ℕ)). record { why = QueueFull; holds = nat_le c.queue (length q) }) (of-tei service tei l ys alike).same.queue

  pub refusal-same : (full : Bool) (r : Request) (l : Line) (ys : List Link) → AreAlike l.links ys → refusal c full r l ≡ refusal c full r (with_links ys l)
  refusal-same full (Establish service tei) l ys alike = ap (λ (row : Row). first_that_holds (bad_tei tei ∷ no_link tei l ∷ row ∷ [])) (by-state service tei link_event.Establish l ys alike)
  refusal-same full (Release service tei) l ys alike = ap (λ (row : Row). first_that_holds (bad_tei tei ∷ no_link tei l ∷ row ∷ [])) (by-state service tei link_event.Release l ys alike)
  refusal-same full (SetBusy service tei) l ys alike = ap (λ (row : Row). first_that_holds (bad_tei tei ∷ no_link tei l ∷ row ∷ [])) (by-state service tei link_event.SetBusy l ys alike)
  refusal-same full (ClearBusy service tei) l ys alike = ap (λ (row : Row). first_that_holds (bad_tei tei ∷ no_link tei l ∷ row ∷ [])) (by-state service tei link_event.ClearBusy l ys alike)
  refusal-same full (Data service tei contents) l ys alike =
      let state = by-state service tei (link_event.Data contents) l ys alike in
      let queue = by-queue service tei l ys alike in
      λ i. first_that_holds (bad_tei tei ∷ no_link tei l ∷ state i ∷ too_long c contents ∷ queue i ∷ pool_full full ∷ [])
  refusal-same full (SendUnit service tei contents) l ys alike = refl
  refusal-same full (Assign tei) l ys alike = refl
  refusal-same full (Remove tei) l ys alike = refl
  refusal-same full (Check tei) l ys alike = refl
  refusal-same full (Disown tei) l ys alike = refl
  refusal-same full AskTei l ys alike = refl
  refusal-same full (VerifyTei tei) l ys alike = refl
  refusal-same full (Deactivate service tei) l ys alike = refl
  refusal-same full Down l ys alike = refl

  -- the next frame
  mapped : {X : Type 0} (f g : X → Taken) (o : Option X) → ((x : X) → SameTaken (Some (f x)) (Some (g x))) → SameTaken (option_map f o) (option_map g o)
  mapped f g None each = tt
  mapped f g (Some x) each = each x

  either : (o p o' p' : Option Taken) → SameTaken o p → SameTaken o' p' → SameTaken (option_or o o') (option_or p p')
  either None None o' p' one other = other
  either None (Some u) o' p' one other = absurd one
  either (Some t) None o' p' one other = absurd one
  either (Some t) (Some u) o' p' one other = one

  message-same : (b : Bool) (l : Line) (ys : List Link) → AreAlike l.links ys
      → SameTaken (cond b (option_map (with_own_message l) (terminals.offered (terminal_in l))) (option_map (with_message l) (teis.offered c.side l.management)))
      (cond b (option_map (with_own_message (with_links ys l)) (terminals.offered (terminal_in l))) (option_map (with_message (with_links ys l)) (teis.offered c.side l.management)))
  message-same true l ys alike = mapped _ _ (terminals.offered (terminal_in l)) (λ x. (refl, refl, record { rest = refl; links = alike }))
  message-same false l ys alike = mapped _ _ (teis.offered c.side l.management) (λ x. (refl, refl, record { rest = refl; links = alike }))

  unit-same : (l : Line) (ys : List Link) → AreAlike l.links ys → SameTaken (unit_taken c l) (unit_taken c (with_links ys l))
  unit-same l ys alike = mapped _ _ (slice_get l.units 0) (λ x. (refl, refl, record { rest = refl; links = alike }))

  taken-same : (l : Line) (ys : List Link) → AreAlike l.links ys → (n : ℕ) → SameTaken (link_taken c l n) (link_taken c (with_links ys l) n)
  taken-same l ys alike n =
      let t = terms_at c n l in
      subst (λ (o : Option Given). SameTaken (link_taken c l n) (option_map (with_given_frame c (with_links ys l) n t) o)) (offers-same t (link_at n l) (link_at n (with_links ys l)) (alike.each n))
      (mapped (with_given_frame c l n t) (with_given_frame c (with_links ys l) n t) (links.given t (link_at n l)) (λ g. (
        refl,
        refl,
        record {
          rest = refl;
          links = set-alike l.links ys n _ _ alike (after-same t link_event.offer (link_at n l) (link_at n (with_links ys l)) (alike.each n));
        },
      )))

  first-same : (l : Line) (ys : List Link) → AreAlike l.links ys → (ns : List ℕ) → SameTaken (first_taken c l ns) (first_taken c (with_links ys l) ns)
  first-same l ys alike [] = tt
  first-same l ys alike (n ∷ ns) = either _ _ _ _ (taken-same l ys alike n) (first-same l ys alike ns)

  any-same : (l : Line) (ys : List Link) → AreAlike l.links ys → SameTaken (taken c l) (taken c (with_links ys l))
  any-same l ys alike = either _ _ _ _ (message-same (is_terminal c) l ys alike) (either _ _ _ _ (unit-same l ys alike) (first-same l ys alike (round c l)))

  gave-same : (o p : Option Taken) → SameTaken o p → gave (option_map next_of o) ≡ gave (option_map next_of p)
  gave-same None None same = refl
  gave-same None (Some u) same = absurd same
  gave-same (Some t) None same = absurd same
  gave-same (Some t) (Some u) same = λ i. gave (Some (record { octets = same.0 i; orders = same.1 i }))

  left-same : (l : Line) (ys : List Link) → AreAlike l.links ys → (o p : Option Taken) → SameTaken o p → SameLines (option_map_or line_of o l) (option_map_or line_of p (with_links ys l))
  left-same l ys alike None None same = record { rest = refl; links = alike }
  left-same l ys alike None (Some u) same = absurd same
  left-same l ys alike (Some t) None same = absurd same
  left-same l ys alike (Some t) (Some u) same = same.2

  -- any event
  refused-same : (o : Option Refusal) (r : Request) (l : Line) (ys : List Link) → AreAlike l.links ys
      → SameSteps (unless_refused_told o (of_aim c (unless_refused o (aim_of_request r l)) l)) (unless_refused_told o (of_aim c (unless_refused o (aim_of_request r l)) (with_links ys l)))
      (of_aim c (unless_refused o (aim_of_request r l)) l).line (of_aim c (unless_refused o (aim_of_request r l)) (with_links ys l)).line
  refused-same None r l ys alike = let e = aim-same (aim_of_request r l) l ys alike in record { answers = ap told e.told; lines = record { rest = e.rest; links = e.links } }
  refused-same (Some why) r l ys alike = record { answers = refl; lines = record { rest = refl; links = alike } }

  request-aim : (r : Request) (l : Line) (ys : List Link) → aim_of_request r l ≡ aim_of_request r (with_links ys l)
  request-aim (Establish service tei) l ys = refl
  request-aim (Release service tei) l ys = refl
  request-aim (Data service tei contents) l ys = refl
  request-aim (SendUnit service tei contents) l ys = refl
  request-aim (Assign tei) l ys = refl
  request-aim (Remove tei) l ys = refl
  request-aim (Check tei) l ys = refl
  request-aim (Disown tei) l ys = refl
  request-aim AskTei l ys = refl
  request-aim (VerifyTei tei) l ys = refl
  request-aim (SetBusy service tei) l ys = refl
  request-aim (ClearBusy service tei) l ys = refl
  request-aim (Deactivate service tei) l ys = refl
  request-aim Down l ys = refl

  pub event-same : (e : Event) (l : Line) (ys : List Link) → AreAlike l.links ys → SameSteps (machine.answer c e l) (machine.answer c e (with_links ys l)) (machine.after c e l) (machine.after c e (with_links ys l))
  unfolding machine.after machine.answer
  event-same (hears h) l ys alike = let e = aim-same (aim_of_heard c l h) l ys alike in record { answers = ap told e.told; lines = record { rest = e.rest; links = e.links } }
  event-same (expiry (T200 service tei)) l ys alike = let e = aim-same (aim_of_expiry (T200 service tei) l) l ys alike in record { answers = ap told e.told; lines = record { rest = e.rest; links = e.links } }
  event-same (expiry (T203 service tei)) l ys alike = let e = aim-same (aim_of_expiry (T203 service tei) l) l ys alike in record { answers = ap told e.told; lines = record { rest = e.rest; links = e.links } }
  event-same (expiry T201) l ys alike = let e = aim-same (aim_of_expiry T201 l) l ys alike in record { answers = ap told e.told; lines = record { rest = e.rest; links = e.links } }
  event-same (expiry T202) l ys alike = let e = aim-same (aim_of_expiry T202 l) l ys alike in record { answers = ap told e.told; lines = record { rest = e.rest; links = e.links } }
  event-same (request r) l ys alike =
      let told_so : Option Refusal → Aim → Line → Answer = λ o aim m. unless_refused_told o (of_aim c (unless_refused o aim) m) in
      let left_so : Option Refusal → Aim → Line → Line = λ o aim m. (of_aim c (unless_refused o aim) m).line in
      let why : Option Refusal = refusal c false r l in
      let what : Aim = aim_of_request r l in
      subst (λ (a : Aim). SameSteps (told_so why what l) (told_so (refusal c false r (with_links ys l)) a (with_links ys l)) (left_so why what l) (left_so (refusal c false r (with_links ys l)) a (with_links ys l)))
      (request-aim r l ys)
      (subst (λ (o : Option Refusal). SameSteps (told_so why what l) (told_so o what (with_links ys l)) (left_so why what l) (left_so o what (with_links ys l)))
      (refusal-same false r l ys alike) (refused-same why r l ys alike))
  event-same next l ys alike =
      let same = any-same l ys alike in
      record { answers = gave-same (taken c l) (taken c (with_links ys l)) same; lines = left-same l ys alike (taken c l) (taken c (with_links ys l)) same }
