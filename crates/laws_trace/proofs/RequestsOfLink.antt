-- What each request is to a link as it stands, and what is known of the link behind it where it is granted.
use Rattle.laws_trace.proofs.Vocabulary.{◌≡◌, ℕ, ◌+◌, ◌-◌, ◌<◌, ◌≤◌, ◌==◌, ◌||◌, Bool, true, false, not, cond, nat_le, nat_lt, list_any, List, [], ◌∷◌, ◌++◌, length, take, filter, refl, sym, leb-true, leb-false, le-ltb, ap, ◌∙◌, arith, eq-eqb, eqb-true, append-nil, any-filter_same, Note, Service, ControlFrame, Config, Answer, lost_in, is_loss_of, is_granted, deactivates, Card, at}
use Rattle.laws_trace.proofs.Vocabulary.{awaits_release, decides, managing_is_on as is_on, due, is_news, Observed, in_state, observer_by_request, Outgoing, watches, is_empty, is_up, request, Request, Moment, State, state_number, keeps, put_in, changed, command_of, enters, steps, went_on, as_command, Sabme, Disc, ReleaseConfirm, ReleaseIndication, trace_frame_in as frame_in}
use Rattle.std.proofs.Math.Seq.{take-nil, take-append-add}
use Rattle.std.proofs.lemmas.List.{take_all}
use Rattle.lapd_frame.specs.declared.readings.Reading.{Reading}
use Rattle.lapd_frame.specs.declared.readings.Reading.TheVariants.{Profile, AnnexB}
use Rattle.lapd_frame.specs.Readings.{by_reading}
use Rattle.laws_trace.specs.News as news

-- Frames come behind others as far as there are places.
pub as-many : (w fs : List ControlFrame) (n lost : ℕ) → length w ≤ n → (is_empty fs ≡ false → lost ≡ length w + length fs - n) → w ++ take (length fs - lost) fs ≡ take n (w ++ fs)
as-many w [] n lost few loses = ap (λ xs. w ++ xs) (take-nil (0 - lost)) ∙ append-nil w ∙ sym (take_all n w few) ∙ ap (take n) (sym (append-nil w))
as-many w (f ∷ fs) n lost few loses =
    let all = f ∷ fs in
    let is : n ≡ length w + (n - length w) = omega (arith, few) in
    ap (λ xs. w ++ xs) (go (nat_le (length w + length all) n) refl) ∙ sym (take-append-add w all (n - length w)) ∙ ap (λ k. take k (w ++ all)) (sym is)
  where
    go : (b : Bool) → nat_le (length w + length (f ∷ fs)) n ≡ b → take (length (f ∷ fs) - lost) (f ∷ fs) ≡ take (n - length w) (f ∷ fs)
    go true is =
        let few = leb-true (length w + length (f ∷ fs)) n is in
        let none = loses refl in
        take_all (length (f ∷ fs) - lost) (f ∷ fs) (omega (arith, few, none)) ∙ sym (take_all (n - length w) (f ∷ fs) (omega (arith, few)))
    go false is =
        let more = leb-false (length w + length (f ∷ fs)) n is in
        let some = loses refl in
        ap (λ k. take k (f ∷ fs)) (omega (arith, few, more, some))

-- What is no news is no loss.
pub loss-is-news : (service : Service) (tei : ℕ) (n : Note) → is_loss_of service tei n ≡ true → is_news service tei n ≡ true
loss-is-news service tei n is = grind arith

pub losses : (service : Service) (tei : ℕ) (notes : List Note) → list_any (is_loss_of service tei) (filter (is_news service tei) notes) ≡ list_any (is_loss_of service tei) notes
losses service tei notes = any-filter_same (is_loss_of service tei) (is_news service tei) true (loss-is-news service tei) notes

pub no-frame : (a : Answer) → is_granted a ≡ true → frame_in a ≡ []
no-frame a so = grind arith

-- What each request is to a link, as it stands.
pub not-at : (s n : ℕ) → n < 7 → is_up s ≡ true → (s == n) ≡ false
not-at s n less up = grind (arith, leb-true, eqb-true)

pub not-below : (s : ℕ) → is_up s ≡ true → nat_le s 4 ≡ false
not-below s up = grind (arith, nat_le, leb-true)

abbrev pub put_by : Observed → Observed → List ControlFrame
put_by was now = changed was now ++ (cond (enters was now) (command_of now) [])

abbrev pub told_by : Service → ℕ → Bool → Observed → Observed → List Note
told_by service tei released was now = cond (was.state == 1) [] (news.due service tei false false released was now.state)

pub still : (w : Observed) → put_by w w ≡ []
still w = grind (arith, eq-eqb)

pub sabme-put : (w : Observed) → w.state ≡ 4 → put_by w (record (in_state 5) { asked = true }) ≡ as_command (Sabme true)
sabme-put w is = ap (λ n. cond (not (n == 5) || nat_lt w.expiries 0) (as_command (Sabme true)) []) is

pub disc-put : (w : Observed) → is_up w.state ≡ true → put_by w (in_state 6) ≡ as_command (Disc true)
disc-put w up = ap (λ b. cond (not b || nat_lt w.expiries 0) (as_command (Disc true)) []) (not-at w.state 6 (omega arith) up)

-- Layer 3 decides in state 5: nothing is put, and nothing told.
pub decided-put : (c : Config) (establish : Bool) (w : Observed) → w.state ≡ 5 → put_by w (decides c establish w) ≡ []
decided-put c establish w is = go c.reading
  where
    go : (r : Reading) → put_by w (by_reading r w (record w { asked = establish; owed = not establish; outstanding = false })) ≡ []
    go Profile = still w
    go AnnexB = grind (arith, eq-eqb, still)

pub decided-state : (c : Config) (establish : Bool) (w : Observed) → (decides c establish w).state ≡ w.state
decided-state c establish w = go c.reading
  where
    go : (r : Reading) → (by_reading r w (record w { asked = establish; owed = not establish; outstanding = false })).state ≡ w.state
    go Profile = refl
    go AnnexB = refl

pub no-entry : (w : Observed) (busy : Bool) → enters w (record w { own_busy = busy }) ≡ false
no-entry w busy = ap (λ b. not b || nat_lt w.expiries w.expiries) (eq-eqb w.state w.state refl) ∙ le-ltb w.expiries w.expiries (omega arith)

pub busy-put : (w : Observed) (busy : Bool) → put_by w (record w { own_busy = busy }) ≡ changed w (record w { own_busy = busy })
busy-put w busy = grind (arith, changed, command_of, no-entry, append-nil)

module _ (service : Service) (tei : ℕ) where
  pub up-told : (w now : Observed) → is_up w.state ≡ true → now.state ≡ w.state → told_by service tei false w now ≡ []
  up-told w now up same = grind (arith, not-at, not-below)

  pub decided-told : (c : Config) (released establish : Bool) (w : Observed) → w.state ≡ 5 → told_by service tei released w (decides c establish w) ≡ []
  decided-told c released establish w is = grind (arith, decided-state)

  pub released-told : (w : Observed) → w.state ≡ 4 → told_by service tei true w w ≡ ReleaseConfirm service tei ∷ []
  released-told w is = grind arith

  pub ended-told : (w : Observed) (x : State) → w.state ≡ state_number x
      → told_by service tei false w (in_state 4) ≡ cond (w.state == 4) [] (cond (awaits_release w) (ReleaseConfirm service tei ∷ []) (ReleaseIndication service tei ∷ []))
  ended-told w x is = grind arith

pub no-steps : (a : ℕ) → steps a a ≡ 0
no-steps a = omega arith

pub no-went : (w now : Observed) → now.acknowledged ≡ w.acknowledged → went_on false w now ≡ 0
no-went w now same = grind (arith, no-steps)

-- What is known of a link behind a request that is granted.
module _ (c : Config) (number : ℕ) (service : Service) (tei : ℕ) (o : Outgoing) (k : Card) (r : Request) (a : Answer)
    (same : is_on tei (due c (request r) o.view.teis) ≡ is_on tei o.view.teis) (on : is_on tei o.view.teis ≡ true) (so : is_granted a ≡ true) where
  abbrev m : Moment
  m = record { card = k; event = at number (request r); answer = a }

  abbrev then : Outgoing
  then = watches c service tei number o m

  pub teis-then : is_on tei then.view.teis ≡ true
  teis-then = grind (arith, eq-eqb)

  pub link-then : then.view.link ≡ observer_by_request c service tei r o.view.link
  link-then = grind (arith, eq-eqb, teis-then)

  pub waiting-then : deactivates service tei (request r) ≡ false → (fs : List ControlFrame) → put_in c service tei o.view.link then.view.link m ≡ fs → then.waiting ≡ o.waiting ++ take (length fs - lost_in a) fs
  waiting-then stays fs is = grind (arith, eq-eqb, teis-then, no-frame)

  pub waiting-ended : deactivates service tei (request r) ≡ true → then.waiting ≡ []
  waiting-ended ends = grind (arith, eq-eqb, teis-then)

  pub kept-then : then.kept ≡ keeps c service tei o.view.link (observer_by_request c service tei r o.view.link) (request r) a o.kept
  kept-then = grind (arith, eq-eqb, teis-then, link-then)
