-- What layer 3 asks of a link is refused, or it takes effect: the law.
use Rattle.laws_trace.proofs.Vocabulary.{◌≡◌, ℕ, ◌+◌, ◌-◌, ◌<◌, ◌≤◌, ⊎_elim, ◌==◌, ◌&&◌, ◌||◌, Bool, true, false, cond, nat_le, nat_lt, list_any, List, Option, [], ◌∷◌, ◌++◌, length, take, drop, filter, Some, None, Ok, Err, Result, refl, sym, ap, ◌∙◌, subst, arith, eqb-true, append-nil, All-nil, All-cons, All-append, Note, Service, Refusal, ControlFrame, Config, Answer, Line, link_of, has_tei}
use Rattle.laws_trace.proofs.Vocabulary.{unless_refused_told, of_request, queue_of, IsInRange, lost_in, notes_of, is_loss_of, is_granted, deactivates, Card, line_at, is_full, at, fresh, refusal, refused_by_the_table, answer_is, CardEvent as Event, after_all, IsAtLine, AreAtLines, managing_is_on as is_on, due, nothing_due, releases, is_news, Observed, View, in_state, moment_of, view_of, views}
use Rattle.laws_trace.proofs.Vocabulary.{observer_by_request, Outgoing, outgoing_of, watches, is_empty, is_own, is_up, Always, request, Request, Establish, Release, Data, SetBusy, ClearBusy, Deactivate, Moment, state_number, is_multiple_frame, result_err, keeps, config-stays, used, of_link, LinkRequest, LinkEstablish, LinkRelease, LinkData, LinkSetBusy, LinkClearBusy, put_in, changed, went_on}
use Rattle.laws_trace.proofs.Vocabulary.{asked_for, by_establish, by_release, decides, asks_establishment, Terms, terms, State, TeiAssigned, data_granted, Link, as_command, Sabme, Disc, ReleaseConfirm}
use Rattle.model_line.specs.Line.{is_terminal}
use Rattle.model_card.specs.Card.{state}
use Rattle.model_link.specs.Requests.{serves}
use Rattle.std.proofs.lemmas.List.{drop_all}
use Rattle.model_link.specs.Sound as link_sound
use Rattle.laws_trace.specs.News as news
use Rattle.laws_trace.specs.NoLossInVain.{puts_by}
use Rattle.laws_trace.specs.NoSlotIsLost.{slots_taken}
use Rattle.laws_trace.specs.RequestsTakeEffect.{Effect, IsAnswered, RequestsTakeEffect, decided, effect, deactivated, of_tei, puts}
use Rattle.laws_trace.specs.Reasons.{may_establish, may_release}
use Rattle.laws_trace.proofs.Addressed.{at-some-place}
use Rattle.laws_trace.proofs.Facts.{either-none, number-up}
use Rattle.laws_trace.proofs.LinkLed.{own-is}
use Rattle.laws_trace.proofs.LineAtEnd.{line-at-end, link-at-end}
use Rattle.laws_trace.proofs.NoLossInVain.{no-loss-in-vain}
use Rattle.laws_trace.proofs.ObservedControls.{none-due}
use Rattle.laws_trace.proofs.ObservedLaws.{links-move-so, news-is-told-so}
use Rattle.laws_trace.proofs.Outgoing.{then-is, view-is, kept-now}
use Rattle.laws_trace.proofs.Plain.{all-wait}
use Rattle.laws_trace.proofs.SeenAs.{seen-before, tei-seen}
use Rattle.laws_trace.proofs.SlotsTaken.{taken-is}
use Rattle.laws_trace.proofs.WaitingNow.{waiting-now}
use Rattle.laws_trace.proofs.RequestsRefused.{same-ok, served, either-served, third-served, room-served, there, by-state, by-either, by-third, by-room, by-tei, opens_in, ends_in, serves-establish, serves-release, opens-at, ends-at}
use Rattle.laws_trace.proofs.RequestsOfLink.{as-many, decided-put, decided-told, losses, put_by, told_by, still, sabme-put, disc-put, busy-put, up-told, released-told, ended-told, no-went, teis-then, link-then, waiting-then, waiting-ended, kept-then}

-- In state 4 nothing is kept.
empty-down : (t : Terms) (x : Link) → link_sound.IsSound t x → (state_number x.state == 4) ≡ true → queue_of x ≡ []
empty-down t x sound is = go x.state refl is sound.settled
  where
    go : (s : State) → x.state ≡ s → (state_number s == 4) ≡ true → link_sound.IsSettledIn s x → queue_of x ≡ []
    go TeiAssigned at is settled = drop_all x.a x.contents (omega (arith, settled))
    go s at is settled = absurd (grind arith)

-- What follows, one fact after the other.
record TakesEffect (service : Service) (tei : ℕ) (a : Answer) (told_state : Option ℕ) (now : Outgoing) (e : Effect) : Type 0 where
  granted : is_granted a ≡ true
  told : filter (is_news service tei) (notes_of a) ≡ e.told
  state : told_state ≡ Some e.link.state
  link : now.view.link ≡ e.link
  waiting : now.waiting ≡ e.waiting
  kept : now.kept ≡ e.kept

same-effect : (x y : Effect) → x.link ≡ y.link → x.waiting ≡ y.waiting → x.kept ≡ y.kept → x.told ≡ y.told → x ≡ y
same-effect x y link waiting kept told = λ i. record { link = link i; waiting = waiting i; kept = kept i; told = told i }

module _ (c : Config) (events : List Event) (number : ℕ) (ranged : IsInRange c) (all : AreAtLines (fresh c) events) (within : number < c.lines) (service : Service) (tei : ℕ) where
  abbrev card : Card
  card = after_all (fresh c) events

  abbrev l : Line
  l = line_at number (after_all (fresh c) events)

  abbrev own : Link
  own = link_of service tei (line_at number (after_all (fresh c) events))

  abbrev o : Outgoing
  o = outgoing_of c service tei number events

  view : (outgoing_of c service tei number events).view ≡ view_of c service tei number events
  view = view-is c number ranged within service tei events

  on-is : is_on tei (outgoing_of c service tei number events).view.teis ≡ has_tei tei l
  on-is = ap (λ (v : View). is_on tei v.teis) view ∙ tei-seen c events number ranged all within service tei

  -- A request that is granted.
  module _ (r : Request) (same : is_on tei (due c (request r) o.view.teis) ≡ is_on tei o.view.teis) (on : is_on tei o.view.teis ≡ true)
      (unrefused : refusal card.config (is_full card) r l ≡ None) where
    abbrev a : Answer
    a = (moment_of c events number (request r)).answer

    abbrev longer : List Event
    longer = events ++ at number (request r) ∷ []

    abbrev now : Outgoing
    now = outgoing_of c service tei number longer

    all-then : AreAtLines (fresh c) longer
    all-then = All-append (IsAtLine (fresh c)) events (at number (request r) ∷ []) all (All-cons (IsAtLine (fresh c)) (at number (request r)) [] within (All-nil (IsAtLine (fresh c))))

    so : is_granted a ≡ true
    so = ap is_granted (answer_is card number r) ∙ ap (λ why. is_granted (unless_refused_told why (of_request card.config r l))) unrefused

    now-is : now ≡ watches c service tei number o (moment_of c events number (request r))
    now-is = then-is c number ranged within service tei events (at number (request r))

    abbrev next : Observed
    next = observer_by_request c service tei r o.view.link

    link : now.view.link ≡ next
    link = ap (λ (n : Outgoing). n.view.link) now-is ∙ link-then c number service tei o card r a same on so

    state-is : state number service tei (after_all (fresh c) longer) ≡ Some next.state
    state-is =
        links-move-so c longer number ranged all-then within service tei ∙ ap (λ (v : View). cond (is_on tei v.teis) (Some v.link.state) None) (sym (view-is c number ranged within service tei longer))
        ∙ ap (λ (n : Outgoing). cond (is_on tei n.view.teis) (Some n.view.link.state) None) now-is
        ∙ ap (λ b. cond b (Some (watches c service tei number o (moment_of c events number (request r))).view.link.state) None) (teis-then c number service tei o card r a same on so)
        ∙ ap (λ (x : Observed). Some x.state) (link-then c number service tei o card r a same on so)

    abbrev Told : Observed → Observed → List Note
    Told was now = cond (was.state == 1) [] (news.due service tei false false (releases service tei (request r) a) was now.state)

    abbrev its : Moment
    its = moment_of c events number (request r)

    teis-now : is_on tei (views c service tei number o.view its).teis ≡ true
    teis-now = teis-then c number service tei o card r a same on so

    link-now : (views c service tei number o.view its).link ≡ next
    link-now = link-then c number service tei o card r a same on so

    told-is : filter (is_news service tei) (notes_of a) ≡ Told o.view.link next
    told-is =
        news-is-told-so c longer number ranged all-then within service tei events (request r) [] refl
        ∙ ap (λ (w : View). Told w.link (views c service tei number w its).link) (sym view)
        ∙ ap (λ (n : Observed). Told o.view.link n) link-now

    abbrev fs : List ControlFrame
    fs = put_in c service tei o.view.link next its

    puts-are : puts_by c number events (request r) service tei ≡ fs
    puts-are = grind (arith, put_in, view, teis-now, link-now)

    few : length o.waiting ≤ c.control
    few =
        let p = at-some-place l tei (sym on-is ∙ on) in
        let same = waiting-now c number ranged within service tei events all p.0 p.1 ∙ all-wait c events number ranged all within service tei p.0 p.1 in
        subst (λ (ws : List ControlFrame). length ws ≤ c.control) (sym same) (link-at-end c l ranged (line-at-end c events number ranged all within) service tei p.0 p.1).ring

    waiting-is : deactivates service tei (request r) ≡ false → now.waiting ≡ take c.control (o.waiting ++ fs)
    waiting-is stays =
        ap (λ (n : Outgoing). n.waiting) now-is
        ∙ waiting-then c number service tei o card r a same on so stays fs (ap (λ (n : Observed). put_in c service tei o.view.link n its) link-now)
        ∙ as-many o.waiting fs c.control (lost_in a) few
        (subst (λ ps. is_empty ps ≡ false → lost_in a ≡ length o.waiting + length ps - c.control) puts-are ((no-loss-in-vain c events number ranged all within (request r)).of_link service tei))

    kept-is : now.kept ≡ keeps c service tei o.view.link next (request r) a o.kept
    kept-is = ap (λ (n : Outgoing). n.kept) now-is ∙ kept-then c number service tei o card r a same on so

    abbrev Takes : Effect → Type 0
    Takes e = TakesEffect service tei a (state number service tei (after_all (fresh c) longer)) now e

    -- where it is no deactivation
    gives : (e : Effect) → deactivates service tei (request r) ≡ false → next ≡ e.link → take c.control (o.waiting ++ put_by o.view.link e.link) ≡ e.waiting
        → told_by service tei (releases service tei (request r) a) o.view.link e.link ≡ e.told
        → (list_any (is_loss_of service tei) (notes_of a) ≡ list_any (is_loss_of service tei) e.told → keeps c service tei o.view.link e.link (request r) a o.kept ≡ e.kept) → Takes e
    gives e stays link_is waits tells keep =
        let tells_all = told-is ∙ ap (λ (n : Observed). Told o.view.link n) link_is ∙ tells in
        record {
          granted = so;
          told = tells_all;
          state = state-is ∙ ap (λ (n : Observed). Some n.state) link_is;
          link = link ∙ link_is;
          waiting = waiting-is stays ∙ ap (λ (n : Observed). take c.control (o.waiting ++ put_in c service tei o.view.link n its)) link_is ∙ waits;
          kept = kept-is ∙ ap (λ (n : Observed). keeps c service tei o.view.link n (request r) a o.kept) link_is ∙ keep (sym (losses service tei (notes_of a)) ∙ ap (list_any (is_loss_of service tei)) tells_all);
        }

  full-is : nat_le c.slots (slots_taken c events) ≡ is_full card
  full-is = ap (nat_le c.slots) (taken-is c events ranged all) ∙ ap (λ (d : Config). nat_le d.slots (used card)) (sym (config-stays (fresh c) events))

  abbrev full : Bool
  full = nat_le c.slots (slots_taken c events)

  module _ (on : has_tei tei l ≡ true) where
    state-seen : o.view.link.state ≡ state_number own.state
    state-seen = let p = at-some-place l tei on in ap (λ (v : View). v.link.state) view ∙ (seen-before c events number ranged all within service tei p.0 p.1).state_is

    owed-seen : (state_number own.state == 5) ≡ true → o.view.link.owed ≡ own.owed
    owed-seen is = let p = at-some-place l tei on in ap (λ (v : View). v.link.owed) view ∙ (seen-before c events number ranged all within service tei p.0 p.1).owed_is is

    kept-seen : o.kept ≡ queue_of own
    kept-seen = let p = at-some-place l tei on in kept-now c number ranged within service tei events all p.0 p.1

  up-seen : has_tei tei l ≡ true → is_up o.view.link.state ≡ is_multiple_frame own.state
  up-seen on = ap is_up (state-seen on) ∙ number-up own.state

  refusal-is : (asked : LinkRequest) → refusal card.config (is_full card) (of_link service tei asked) l ≡ result_err (of_tei tei o (effect c full service tei o asked))
  refusal-is LinkEstablish =
      ap (λ (d : Config). refusal d (is_full card) (Establish service tei) l) (config-stays (fresh c) events)
      ∙ by-either (nat_lt 126 tei) (has_tei tei l) (is_on tei o.view.teis) (serves c.reading own.state own.owed LinkEstablish) (may_establish c o.view.link) (o.view.link.state == 4) _ _ on-is
      (λ on. ap (λ n. n == 4 || opens_in c.reading n) (state-seen on) ∙ serves-establish c.reading own.state own.owed)
  refusal-is LinkRelease =
      ap (λ (d : Config). refusal d (is_full card) (Release service tei) l) (config-stays (fresh c) events)
      ∙ by-third (nat_lt 126 tei) (has_tei tei l) (is_on tei o.view.teis) (serves c.reading own.state own.owed LinkRelease) (may_release c o.view.link) (o.view.link.state == 4) (is_up o.view.link.state) _ _ _ on-is
      (λ on. ap (λ n. is_up n || (n == 4 || ends_in c.reading n o.view.link.owed)) (state-seen on) ∙ serves-release c.reading own.state own.owed o.view.link.owed (owed-seen on))
  refusal-is (LinkData contents) =
      ap (λ (d : Config). refusal d (is_full card) (Data service tei contents) l) (config-stays (fresh c) events)
      ∙ by-room (nat_lt 126 tei) (has_tei tei l) (is_on tei o.view.teis) (is_multiple_frame own.state) (is_up o.view.link.state) (nat_lt c.n201 (length contents))
      (nat_le c.queue (length (queue_of own))) (nat_le c.queue (length o.kept)) (is_full card) full _ on-is up-seen (λ on. ap (λ xs. nat_le c.queue (length xs)) (kept-seen on)) full-is
  refusal-is LinkSetBusy = by-state (nat_lt 126 tei) (has_tei tei l) (is_on tei o.view.teis) (is_multiple_frame own.state) (is_up o.view.link.state) _ on-is up-seen
  refusal-is LinkClearBusy = by-state (nat_lt 126 tei) (has_tei tei l) (is_on tei o.view.teis) (is_multiple_frame own.state) (is_up o.view.link.state) _ on-is up-seen

  -- What layer 3 asks, where it is granted.
  Effective : Request → Effect → Type 0
  Effective r e =
      TakesEffect service tei (moment_of c events number (request r)).answer (state number service tei (after_all (fresh c) (events ++ at number (request r) ∷ [])))
      (outgoing_of c service tei number (events ++ at number (request r) ∷ [])) e

  the-same : is_on tei (cond (is_terminal c) (nothing_due o.view.teis) (nothing_due o.view.teis)) ≡ is_on tei o.view.teis
  the-same = ap (list_any (λ on. on == tei)) (none-due c o.view.teis)

  module _ (on : is_on tei o.view.teis ≡ true) where
    abbrev w : Observed
    w = o.view.link

    none-kept : w.state ≡ 4 → o.kept ≡ []
    none-kept is =
        let its_own : has_tei tei l ≡ true = sym on-is ∙ on in
        let p = at-some-place l tei its_own in
        let sound = link-at-end c l ranged (line-at-end c events number ranged all within) service tei p.0 p.1 in
        kept-seen its_own ∙ empty-down (terms c service tei) own sound (ap (λ n. n == 4) (sym (state-seen its_own)) ∙ ap (λ n. n == 4) is)

    abbrev fine : Request → Type 0
    fine r = refusal card.config (is_full card) r l ≡ None

    establish-takes : fine (Establish service tei) → (w.state == 4) ≡ true → Effective (Establish service tei) (record (puts c (as_command (Sabme true)) o) { link = record (in_state 5) { asked = true } })
    unfolding Effective
    establish-takes unrefused is =
        let at_4 : w.state ≡ 4 = eqb-true w.state 4 is in
        let its_answer = (moment_of c events number (request (Establish service tei))).answer in
        let granted_so : is_granted its_answer ≡ true = so (Establish service tei) the-same on unrefused in
        let opened : asks_establishment service tei (request (Establish service tei)) its_answer ≡ true = ap (λ b. b && is_own service tei service tei) granted_so ∙ own-is service tei in
        gives (Establish service tei) the-same on unrefused (record (puts c (as_command (Sabme true)) o) { link = record (in_state 5) { asked = true } }) refl
        (ap (λ b. cond b (by_establish c w) w) (own-is service tei) ∙ ap (λ b. cond b asked_for (cond (w.state == 5) (decides c true w) w)) is)
        (ap (λ fs. take c.control (o.waiting ++ fs)) (sabme-put w at_4)) (either-none (w.state == 1))
        (λ lost. grind (arith, opened, none-kept at_4))

    released-takes : fine (Release service tei) → (w.state == 4) ≡ true → Effective (Release service tei) (record (puts c [] o) { kept = []; told = ReleaseConfirm service tei ∷ [] })
    unfolding Effective
    released-takes unrefused is =
        let at_4 : w.state ≡ 4 = eqb-true w.state 4 is in
        let its_answer = (moment_of c events number (request (Release service tei))).answer in
        let granted_so : is_granted its_answer ≡ true = so (Release service tei) the-same on unrefused in
        let own : releases service tei (request (Release service tei)) its_answer ≡ true = ap (λ b. b && is_own service tei service tei) granted_so ∙ own-is service tei in
        gives (Release service tei) the-same on unrefused (record (puts c [] o) { kept = []; told = ReleaseConfirm service tei ∷ [] }) refl
        (ap (λ b. cond b (by_release c w) w) (own-is service tei) ∙ ap (λ n. cond (is_up n) (in_state 6) (cond (n == 5) (decides c false w) w)) at_4)
        (ap (λ fs. take c.control (o.waiting ++ fs)) (still w)) (ap (λ b. told_by service tei b w w) own ∙ released-told service tei w at_4)
        (λ lost. grind (arith, own))

    disc-takes : fine (Release service tei) → is_up w.state ≡ true → Effective (Release service tei) (record (puts c (as_command (Disc true)) o) { link = in_state 6; kept = [] })
    unfolding Effective
    disc-takes unrefused up =
        let its_answer = (moment_of c events number (request (Release service tei))).answer in
        let granted_so : is_granted its_answer ≡ true = so (Release service tei) the-same on unrefused in
        let own : releases service tei (request (Release service tei)) its_answer ≡ true = ap (λ b. b && is_own service tei service tei) granted_so ∙ own-is service tei in
        gives (Release service tei) the-same on unrefused (record (puts c (as_command (Disc true)) o) { link = in_state 6; kept = [] }) refl
        (ap (λ b. cond b (by_release c w) w) (own-is service tei) ∙ ap (λ b. cond b (in_state 6) (cond (w.state == 5) (decides c false w) w)) up)
        (ap (λ fs. take c.control (o.waiting ++ fs)) (disc-put w up)) (either-none (w.state == 1)) (λ none. grind (arith, own))

    -- In state 5 layer 3 decides.
    decides-open : fine (Establish service tei) → w.state ≡ 5 → Effective (Establish service tei) (decided c true o)
    unfolding Effective
    decides-open unrefused is =
        let its_answer = (moment_of c events number (request (Establish service tei))).answer in
        let granted_so : is_granted its_answer ≡ true = so (Establish service tei) the-same on unrefused in
        let own : asks_establishment service tei (request (Establish service tei)) its_answer ≡ true = ap (λ b. b && is_own service tei service tei) granted_so ∙ own-is service tei in
        gives (Establish service tei) the-same on unrefused (decided c true o) refl
        (ap (λ b. cond b (by_establish c w) w) (own-is service tei) ∙ ap (λ n. cond (n == 4) asked_for (cond (n == 5) (decides c true w) w)) is)
        (ap (λ fs. take c.control (o.waiting ++ fs)) (decided-put c true w is)) (decided-told service tei c false true w is) (λ lost. grind (arith, own))

    decides-end : fine (Release service tei) → w.state ≡ 5 → Effective (Release service tei) (decided c false o)
    unfolding Effective
    decides-end unrefused is =
        let its_answer = (moment_of c events number (request (Release service tei))).answer in
        let granted_so : is_granted its_answer ≡ true = so (Release service tei) the-same on unrefused in
        let own : releases service tei (request (Release service tei)) its_answer ≡ true = ap (λ b. b && is_own service tei service tei) granted_so ∙ own-is service tei in
        gives (Release service tei) the-same on unrefused (decided c false o) refl
        (ap (λ b. cond b (by_release c w) w) (own-is service tei) ∙ ap (λ n. cond (is_up n) (in_state 6) (cond (n == 5) (decides c false w) w)) is)
        (ap (λ fs. take c.control (o.waiting ++ fs)) (decided-put c false w is)) (decided-told service tei c (releases service tei (request (Release service tei)) its_answer) false w is) (λ lost. grind (arith, own))

    data-takes : (contents : List ℕ) → fine (Data service tei contents) → is_up w.state ≡ true → Effective (Data service tei contents) (record (puts c [] o) { kept = o.kept ++ contents ∷ [] })
    unfolding Effective
    data-takes contents unrefused up =
        let its_answer = (moment_of c events number (request (Data service tei contents))).answer in
        let granted_so : is_granted its_answer ≡ true = so (Data service tei contents) the-same on unrefused in
        let its : data_granted service tei (request (Data service tei contents)) its_answer ≡ contents ∷ [] =
        ap (λ b. cond (b && is_own service tei service tei) (contents ∷ []) []) granted_so ∙ ap (λ b. cond b (contents ∷ []) []) (own-is service tei) in
        gives (Data service tei contents) the-same on unrefused (record (puts c [] o) { kept = o.kept ++ contents ∷ [] }) refl refl
        (ap (λ fs. take c.control (o.waiting ++ fs)) (still w)) (up-told service tei w w up refl)
        (λ none. ap (λ b. cond b [] (cond (is_up w.state) (drop (went_on false w w) o.kept ++ data_granted service tei (request (Data service tei contents)) its_answer) o.kept)) none
        ∙ ap (λ b. cond b (drop (went_on false w w) o.kept ++ data_granted service tei (request (Data service tei contents)) its_answer) o.kept) up
        ∙ ap (λ n. drop n o.kept ++ data_granted service tei (request (Data service tei contents)) its_answer) (no-went w w refl)
        ∙ ap (λ xs. o.kept ++ xs) its)

    abbrev busy : Bool → Observed
    busy b = record w { own_busy = b }

    same-kept : (b : Bool) → is_up w.state ≡ true → cond (is_up w.state) (drop (went_on false w (busy b)) o.kept ++ []) o.kept ≡ o.kept
    same-kept b up = grind (arith, went_on, append-nil, no-went)

    set-takes : fine (SetBusy service tei) → is_up w.state ≡ true → Effective (SetBusy service tei) (record (puts c (changed w (busy true)) o) { link = busy true })
    unfolding Effective
    set-takes unrefused up =
        gives (SetBusy service tei) the-same on unrefused (record (puts c (changed w (busy true)) o) { link = busy true }) refl
        (ap (λ b. cond b (busy true) w) (own-is service tei)) (ap (λ fs. take c.control (o.waiting ++ fs)) (busy-put w true)) (up-told service tei w (busy true) up refl)
        (λ none. ap (λ b. cond b [] (cond (is_up w.state) (drop (went_on false w (busy true)) o.kept ++ []) o.kept)) none ∙ same-kept true up)

    clear-takes : fine (ClearBusy service tei) → is_up w.state ≡ true → Effective (ClearBusy service tei) (record (puts c (changed w (busy false)) o) { link = busy false })
    unfolding Effective
    clear-takes unrefused up =
        gives (ClearBusy service tei) the-same on unrefused (record (puts c (changed w (busy false)) o) { link = busy false }) refl
        (ap (λ b. cond b (busy false) w) (own-is service tei)) (ap (λ fs. take c.control (o.waiting ++ fs)) (busy-put w false)) (up-told service tei w (busy false) up refl)
        (λ none. ap (λ b. cond b [] (cond (is_up w.state) (drop (went_on false w (busy false)) o.kept ++ []) o.kept)) none ∙ same-kept false up)

    takes : (asked : LinkRequest) (e : Effect) → fine (of_link service tei asked) → effect c full service tei o asked ≡ Ok e → Effective (of_link service tei asked) e
    takes LinkEstablish e unrefused is =
        ⊎_elim (λ x. subst (Effective (Establish service tei)) x.2 (decides-open unrefused (opens-at c.reading w.state x.0 x.1))) (λ x. subst (Effective (Establish service tei)) x.1 (establish-takes unrefused x.0))
        (either-served (may_establish c w) (w.state == 4) _ _ e is)
    takes LinkRelease e unrefused is =
        ⊎_elim (λ x. subst (Effective (Release service tei)) x.1 (disc-takes unrefused x.0))
        (λ y. ⊎_elim (λ x. subst (Effective (Release service tei)) x.1 (released-takes unrefused x.0))
        (λ x. subst (Effective (Release service tei)) x.3 (decides-end unrefused (ends-at c.reading w.state w.owed x.0 x.1 x.2))) y)
        (third-served (may_release c w) (w.state == 4) (is_up w.state) _ _ _ e is)
    takes (LinkData contents) e unrefused is =
        let x = room-served (is_up w.state) (nat_lt c.n201 (length contents)) (nat_le c.queue (length o.kept)) full _ e is in
        subst (Effective (Data service tei contents)) x.1 (data-takes contents unrefused x.0)
    takes LinkSetBusy e unrefused is = let x = served (is_up w.state) _ e is in subst (Effective (SetBusy service tei)) x.1 (set-takes unrefused x.0)
    takes LinkClearBusy e unrefused is = let x = served (is_up w.state) _ e is in subst (Effective (ClearBusy service tei)) x.1 (clear-takes unrefused x.0)

    -- A deactivation.
    ended-takes : fine (Deactivate service tei) → Effective (Deactivate service tei) (deactivated service tei o.view.link)
    unfolding Effective
    ended-takes unrefused =
        let r = Deactivate service tei in
        let its_answer = (moment_of c events number (request r)).answer in
        let granted_so : is_granted its_answer ≡ true = so r the-same on unrefused in
        let link_is : observer_by_request c service tei r w ≡ in_state 4 = ap (λ b. cond b (in_state 4) w) (own-is service tei) in
        let its_own : has_tei tei l ≡ true = sym on-is ∙ on in
        record {
          granted = granted_so;
          told = told-is r the-same on unrefused ∙ ap (λ (n : Observed). told_by service tei false w n) link_is ∙ ended-told service tei w own.state (state-seen its_own);
          state = state-is r the-same on unrefused ∙ ap (λ (n : Observed). Some n.state) link_is;
          link = link r the-same on unrefused ∙ link_is;
          waiting = ap (λ (n : Outgoing). n.waiting) (now-is r the-same on unrefused) ∙ waiting-ended c number service tei o card r its_answer the-same on granted_so (own-is service tei);
          kept = kept-is r the-same on unrefused ∙ (grind (arith, granted_so, own-is));
        }

  answered : (r : Request) (due : Result Effect Refusal) → refusal card.config (is_full card) r l ≡ result_err due → ((e : Effect) → due ≡ Ok e → refusal card.config (is_full card) r l ≡ None → Effective r e)
      → IsAnswered c events number service tei r due
  unfolding Effective
  answered r (Err why) refuses grants = (refused_by_the_table.refused_exactly card number r why).1 refuses
  answered r (Ok e) refuses grants = let t = grants e refl refuses in (t.granted, t.state, same-effect _ e t.link t.waiting t.kept t.told)

  asked-answered : (asked : LinkRequest) → IsAnswered c events number service tei (of_link service tei asked) (of_tei tei o (effect c full service tei o asked))
  asked-answered asked =
      answered (of_link service tei asked) (of_tei tei o (effect c full service tei o asked)) (refusal-is asked)
      (λ e is unrefused. let x = there (nat_lt 126 tei) (is_on tei o.view.teis) (effect c full service tei o asked) e is in takes x.0 asked e unrefused x.1)

  deactivation-answered : IsAnswered c events number service tei (Deactivate service tei) (of_tei tei o (Ok (deactivated service tei o.view.link)))
  deactivation-answered = grind (arith, answered, of_tei, Ok, deactivated, by-tei, nat_lt, on-is, there, same-ok, ended-takes)

pub requests-take-effect : Always RequestsTakeEffect
requests-take-effect c events number ranged all within service tei =
    (asked-answered c events number ranged all within service tei, deactivation-answered c events number ranged all within service tei)
