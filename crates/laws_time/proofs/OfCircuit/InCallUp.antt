-- A call comes through: T200 and an answer's time after noise has ended both ends are up.
use Rattle.laws_time.proofs.Vocabulary.{ACallOutlastsNoise, All, All-append, All-head, All-tail, All-weaker, AreAsked, AreClear, Beat, Clocked, IsAsked, IsAskedOfLink, IsClean, IsIdle, IsOfLink, IsShort, IsTalk, IsUndisturbed, IsUp, Line, LineTold, List, Outlasts, Request, Some, WasTold, [], after, all-left, all-right, answered_in, ap, by-either}
use Rattle.laws_time.proofs.Vocabulary.{append-nil, append_assoc, arith, beat, begins, begun, calls, confirmed, errors_at, flat_map-append, fold-append, for_layer_3, front-none, indicated, inl, inr, is_used_up, length, length-append, list_any, list_any-append, or_parts, refl, state_at, subst, sym, ◌*◌, ◌++◌, ◌+◌, ◌<◌, ◌∙◌, ◌∷◌, ◌≡◌, ◌≤◌, ◌⊎◌}
use Rattle.laws_time.proofs.OfCircuit.Answered.{Waits, first-ready, grows-all}
use Rattle.laws_time.proofs.OfCircuit.AgainRan.{beats-then, both-all, both-begin}
use Rattle.laws_time.proofs.OfCircuit.AnsweredEnds.{lost}
use Rattle.laws_time.proofs.OfCircuit.AnsweredRows.{establishment}
use Rattle.laws_time.proofs.OfCircuit.ArrivAs.{heard_of}
use Rattle.laws_time.proofs.OfCircuit.ArrivIdle.{reached}
use Rattle.laws_time.proofs.OfCircuit.InCallWalk.{BothWalk, walks-all, talk-all, n200-lasts-in-a-call}
use Rattle.laws_time.proofs.OfCircuit.InCallThrough.{in-call, t200-there, all-ring, rings-shortly, AreUntold}
use Rattle.laws_time.proofs.OfCircuit.InCallDue.{IsUntold}
use Rattle.laws_time.proofs.OfCircuit.LongEnough.{pair-begins, all-pairs, pair-then, clear-parts, Pair, begins_of}

-- Both ends are up, and were told so.
abbrev CameThrough : Line → Clocked → Type 0
CameThrough l w = IsUp l w.near × IsUp l w.far × WasTold (confirmed l.service l.tei) w.near × WasTold (indicated l.service l.tei) w.far

both-asked : (l : Line) (rs : List Request) → All (IsAsked l) rs → All (λ r. IsOfLink l.service l.tei r × IsAskedOfLink l.service l.tei r) rs
both-asked l = All-weaker (IsAsked l) (λ r. IsOfLink l.service l.tei r × IsAskedOfLink l.service l.tei r) both
  where
    both : (r : Request) → IsAsked l r → IsOfLink l.service l.tei r × IsAskedOfLink l.service l.tei r
    both r is = grind arith

module _ (l : Line) (before noisy clean : List Beat) (b c : Beat) (nothing : All IsIdle before) (asked : All (AreAsked l) (b ∷ noisy ++ c ∷ clean)) (h : IsUndisturbed l (before ++ calls l b ∷ noisy) c clean)
    (short : IsShort l (length (noisy ++ c ∷ clean))) where
  abbrev first : List Beat
  first = before ++ calls l b ∷ noisy

  abbrev v : Clocked
  v = after l.rate (before ++ calls l b ∷ noisy) (begins l)

  abbrev w : Clocked
  w = beat l.rate (after l.rate (before ++ calls l b ∷ noisy) (begins l)) c

  -- A part of the beats without noise, and the rest.
  module _ (done rest : List Beat) (all : done ++ rest ≡ clean) where
    abbrev some : List Beat
    some = before ++ calls l b ∷ (noisy ++ c ∷ done)

    same-list : some ≡ (before ++ calls l b ∷ noisy) ++ c ∷ done
    same-list = sym (append_assoc before (calls l b ∷ noisy) (c ∷ done))

    pub same-world : after l.rate some (begins l) ≡ after l.rate done w
    same-world = ap (λ bs. after l.rate bs (begins l)) same-list ∙ fold-append (beat l.rate) (begins l) first (c ∷ done)

    some-clear : AreClear l some (begins l)
    some-clear =
        subst (λ bs. AreClear l bs (begins l)) (sym same-list)
        (clear-parts l (first ++ c ∷ done) rest (begins l) (subst (λ bs. AreClear l bs (begins l)) (sym (append_assoc first (c ∷ done) rest ∙ ap (λ bs. first ++ c ∷ bs) all)) h.clear)).0

    some-asked : All (AreAsked l) (b ∷ noisy ++ c ∷ done)
    some-asked = all-left (AreAsked l) (b ∷ noisy ++ c ∷ done) rest (subst (All (AreAsked l)) (ap (λ bs. b ∷ bs) (sym (append_assoc noisy (c ∷ done) rest ∙ ap (λ bs. noisy ++ c ∷ bs) all))) asked)

    some-short : IsShort l (length (noisy ++ c ∷ done))
    some-short = grind (arith, length-append, length)

    pair : Pair l (begins_of h.fit) (after l.rate some (begins l))
    pair =
        all-pairs l (begins_of h.fit) some (subst (All (IsTalk l)) (sym same-list) (all-left (IsTalk l) (first ++ c ∷ done) rest (subst (All (IsTalk l)) (sym (append_assoc first (c ∷ done) rest ∙ ap (λ bs. first ++ c ∷ bs) all)) h.talk))) (begins l) some-clear (pair-begins l (begins_of h.fit))

    abbrev InCall : Clocked → Type 0
    InCall w = ((state_at l w.near ≡ Some 5) × (heard_of w.near.at.told ≡ [])) ⊎ ((heard_of w.near.at.told ≡ [] → ⊥) × CameThrough l w)

    pub call-now : InCall (after l.rate done w)
    call-now =
        let u = after l.rate some (begins l) in let none = n200-lasts-in-a-call l before (noisy ++ c ∷ done) b h.fit nothing some-asked some-clear some-short in
        let fair = or_parts (list_any is_used_up (errors_at u.near)) (list_any is_used_up (errors_at u.far)) (sym (list_any-append is_used_up (errors_at u.near) (errors_at u.far)) ∙ none) in
        subst InCall same-world (in-call l h.fit u pair
        (reached l h.fit before b (noisy ++ c ∷ done) nothing (All-head (AreAsked l) b (noisy ++ c ∷ done) some-asked) (All-tail (AreAsked l) b (noisy ++ c ∷ done) some-asked) some-clear fair))

  -- The beats without noise.
  parts : AreClear l (before ++ calls l b ∷ noisy) (begins l) × AreClear l (c ∷ clean) v
  parts = clear-parts l first (c ∷ clean) (begins l) h.clear

  pair-first : Pair l (begins_of h.fit) v
  pair-first = all-pairs l (begins_of h.fit) first (all-left (IsTalk l) first (c ∷ clean) h.talk) (begins l) parts.0 (pair-begins l (begins_of h.fit))

  -- If it rings in the end, it rang all the time.
  module _ (five : state_at l (after l.rate clean w).near ≡ Some 5) (unheard : heard_of (after l.rate clean w).near.at.told ≡ []) where
    untold : (done rest : List Beat) → done ++ rest ≡ clean → AreClear l rest (after l.rate done w) → Pair l (begins_of h.fit) (after l.rate done w) → All (IsTalk l) rest → heard_of (after l.rate done w).near.at.told ≡ []
    untold done rest all clear p talk =
        front-none (heard_of (after l.rate done w).near.at.told) (heard_of walk.near.more)
        (sym (flat_map-append for_layer_3 (after l.rate done w).near.at.told walk.near.more) ∙ ap heard_of (sym walk.near.grows) ∙ ap (λ (u : Clocked). heard_of u.near.at.told) last ∙ unheard)
      where
        walk : BothWalk l h.fit (after l.rate done w) (after l.rate rest (after l.rate done w))
        walk = walks-all l h.fit rest (after l.rate done w) p talk clear

        last : after l.rate rest (after l.rate done w) ≡ after l.rate clean w
        last = sym (fold-append (beat l.rate) w done rest) ∙ ap (λ bs. after l.rate bs w) all

    rang : (done rest : List Beat) → done ++ rest ≡ clean → AreClear l rest (after l.rate done w) → Pair l (begins_of h.fit) (after l.rate done w) → All (IsTalk l) rest → state_at l (after l.rate done w).near ≡ Some 5
    rang done rest all clear p talk = by-either (call-now done rest all) (λ x. x.0) (λ x. absurd (x.0 (untold done rest all clear p talk)))

    waits : (done rest : List Beat) → done ++ rest ≡ clean → AreClear l rest (after l.rate done w) → Pair l (begins_of h.fit) (after l.rate done w) → All (IsTalk l) rest
        → Waits l 5 rest (after l.rate done w) × AreUntold l rest (after l.rate done w)
    unfolding Waits AreClear
    waits done [] all clear p talk = (tt, tt)
    waits done (d ∷ rest) all clear p talk =
        let at_done = after l.rate done w in let t = All-head (IsTalk l) d rest talk in let ts = All-tail (IsTalk l) d rest talk in let u : Clocked = beat l.rate (after l.rate done w) d in
        let then : after l.rate (done ++ d ∷ []) w ≡ beat l.rate (after l.rate done w) d = fold-append (beat l.rate) w done (d ∷ []) in
        let more : (done ++ d ∷ []) ++ rest ≡ clean = append_assoc done (d ∷ []) rest ∙ all in let q = pair-then l (begins_of h.fit) at_done p d t clear.0 clear.1 in
        let clear_then = subst (AreClear l rest) (sym then) clear.2 in let q_then = subst (Pair l (begins_of h.fit)) (sym then) q in
        let later = waits (done ++ d ∷ []) rest more clear_then q_then ts in (
          (subst (λ (u : Clocked). state_at l u.near ≡ Some 5) then (rang (done ++ d ∷ []) rest more clear_then q_then ts), (λ e. absurd (cc e)), subst (Waits l 5 rest) then later.0),
          (subst (λ (u : Clocked). IsUntold u.near.at.told) then (untold (done ++ d ∷ []) rest more clear_then q_then ts), subst (AreUntold l rest) then later.1),
        )

    -- So it rang no longer than T200 and an answer's time.
    short-ring : length clean < l.lengths.t200 * l.rate + answered_in l.near l.far l.way
    unfolding AreClear
    short-ring =
        let k = h.fit.call in let t = All-head (IsTalk l) c clean (all-right (IsTalk l) first (c ∷ clean) h.talk) in
        let ts = All-tail (IsTalk l) c clean (all-right (IsTalk l) first (c ∷ clean) h.talk) in let is_clean = All-head IsClean c clean h.clean in
        let p = pair-then l (begins_of h.fit) v pair-first c t parts.1.0 parts.1.1 in let in_5 = rang [] clean refl parts.1.2 p ts in
        let falls = t200-there l.near l.service l.tei k.near.0 l.lengths w.near p.near_ok.but.ends p.both.near_leads in_5 in let waited = waits [] clean refl parts.1.2 p ts in
        let base = lost w.near.at in let other_base = lost w.far.at in
        let y = first-ready l (begins_of h.fit) v pair-first (both-all l h.fit.call first (all-left (IsTalk l) first (c ∷ clean) h.talk) (begins l) (both-begin l h.fit.call)) c t is_clean (parts.1.0, parts.1.1, tt) in
        let cleans = All-tail IsClean c clean h.clean in let rest = grows-all l (begins_of h.fit) 5 establishment w.beats v.beats base other_base (omega arith) clean w y ts parts.1.2 cleans in
        let same : begun l first c ≡ w = fold-append (beat l.rate) (begins l) first (c ∷ []) in
        let near_kept : lost (after l.rate clean w).near.at ≡ lost w.near.at = subst (λ (u : Clocked). lost (after l.rate clean u).near.at ≡ lost u.near.at) same h.near_kept in
        let far_kept : lost (after l.rate clean w).far.at ≡ lost w.far.at = subst (λ (u : Clocked). lost (after l.rate clean u).far.at ≡ lost u.far.at) same h.far_kept in
        let asked_clean = All-weaker (AreAsked l) (λ (b : Beat). All (λ r. IsOfLink l.service l.tei r × IsAskedOfLink l.service l.tei r) b.near_asks) (λ d is. both-asked l d.near_asks is.0) clean (all-right (AreAsked l) (c ∷ []) clean (all-right (AreAsked l) (b ∷ noisy) (c ∷ clean) asked)) in
        rings-shortly l h.fit v.beats base other_base falls.0 w (after l.rate clean w) (length clean) p (omega arith) falls.2 (beats-then l.rate clean w) rest.ready
        (all-ring l h.fit v.beats base other_base falls.0 clean w (omega arith) y ts asked_clean parts.1.2 cleans waited.0 waited.1 in_5 falls.1 (omega (arith, near_kept)) (omega (arith, far_kept)))

  pub both-up : l.lengths.t200 * l.rate + answered_in l.near l.far l.way ≤ length clean → CameThrough l (after l.rate clean w)
  both-up long = by-either (call-now clean [] (append-nil clean)) (λ x. let soon = short-ring x.0 x.1 in absurd (omega (arith, soon, long))) (λ x. x.1)

clear-both : (l : Line) (bs more : List Beat) (w : Clocked) → AreClear l bs w → AreClear l more (after l.rate bs w) → AreClear l (bs ++ more) w
unfolding AreClear
clear-both l [] more w clear then = then
clear-both l (b ∷ bs) more w clear then = (clear.0, clear.1, clear-both l bs more (beat l.rate w b) clear.2 then)

none-begins : (x : LineTold) (xs : List LineTold) → x ∷ xs ≡ [] → ⊥
none-begins x xs e = cc e

-- Whatever comes then.
module _ (l : Line) (before noisy clean later : List Beat) (b c : Beat) (h : Outlasts l before noisy clean later b c) where
  abbrev start : List Beat
  start = before ++ calls l b ∷ noisy

  abbrev up_by : Clocked
  up_by = after l.rate clean (begun l (before ++ calls l b ∷ noisy) c)

  -- without what comes then
  short-first : IsShort l (length (noisy ++ c ∷ clean))
  short-first = grind (arith, length-append)

  up-first : CameThrough l up_by
  up-first =
      subst (λ (w : Clocked). CameThrough l (after l.rate clean w)) (sym (fold-append (beat l.rate) (begins l) start (c ∷ [])))
      (both-up l before noisy clean b c h.idle (all-left (AreAsked l) (b ∷ noisy ++ c ∷ clean) later h.asked) h.undisturbed short-first h.long)

  -- all beats
  abbrev all_beats : List Beat
  all_beats = before ++ calls l b ∷ (noisy ++ c ∷ clean ++ later)

  same-beats : all_beats ≡ (start ++ c ∷ clean) ++ later
  same-beats = sym (append_assoc before (calls l b ∷ (noisy ++ c ∷ clean)) later) ∙ ap (λ bs. bs ++ later) (sym (append_assoc before (calls l b ∷ noisy) (c ∷ clean)))

  first-world : after l.rate (start ++ c ∷ clean) (begins l) ≡ up_by
  first-world = grind (arith, fold-append)

  last-world : after l.rate all_beats (begins l) ≡ after l.rate later up_by
  last-world = grind (arith, same-beats, fold-append, first-world)

  whole-clear : AreClear l all_beats (begins l)
  whole-clear = grind (arith, begins, same-beats, clear-both, first-world)

  later-talk : All (IsTalk l) later
  later-talk = talk-all l h.undisturbed.fit later (all-right (AreAsked l) (b ∷ noisy ++ c ∷ clean) later h.asked)

  pair-at : (bs : List Beat) → All (IsTalk l) bs → AreClear l bs (begins l) → Pair l (begins_of h.undisturbed.fit) (after l.rate bs (begins l))
  pair-at bs talk clear = all-pairs l (begins_of h.undisturbed.fit) bs talk (begins l) clear (pair-begins l (begins_of h.undisturbed.fit))

  stays-up : CameThrough l (after l.rate later up_by)
  stays-up =
      let u = after l.rate all_beats (begins l) in let none = n200-lasts-in-a-call l before (noisy ++ c ∷ clean ++ later) b h.undisturbed.fit h.idle h.asked whole-clear h.short in
      let fair = or_parts (list_any is_used_up (errors_at u.near)) (list_any is_used_up (errors_at u.far)) (sym (list_any-append is_used_up (errors_at u.near) (errors_at u.far)) ∙ none) in
      let first_pair = subst (Pair l (begins_of h.undisturbed.fit)) first-world (pair-at (start ++ c ∷ clean) h.undisturbed.talk h.undisturbed.clear) in
      let whole_talk = subst (All (IsTalk l)) (sym same-beats) (All-append (IsTalk l) (start ++ c ∷ clean) later h.undisturbed.talk later-talk) in
      let walk = walks-all l h.undisturbed.fit later up_by first_pair later-talk h.clear in
      subst (CameThrough l) last-world (elim (in-call l h.undisturbed.fit u (pair-at all_beats whole_talk whole-clear)
      (reached l h.undisturbed.fit before b (noisy ++ c ∷ clean ++ later) h.idle (All-head (AreAsked l) b (noisy ++ c ∷ clean ++ later) h.asked) (All-tail (AreAsked l) b (noisy ++ c ∷ clean ++ later) h.asked) whole-clear fair)) [
        | inl x ↦
            let unheard = front-none (heard_of up_by.near.at.told) (heard_of walk.near.more)
            (sym (flat_map-append for_layer_3 up_by.near.at.told walk.near.more) ∙ ap heard_of (sym walk.near.grows) ∙ ap (λ (w : Clocked). heard_of w.near.at.told) (sym last-world) ∙ x.1) in
            absurd (none-begins (confirmed l.service l.tei) up-first.2.0 (sym up-first.2.1 ∙ unheard))
        | inr x ↦ x.1
      ])

pub a-call-outlasts-noise : ACallOutlastsNoise
a-call-outlasts-noise l before noisy clean later b c h = stays-up l before noisy clean later b c h
