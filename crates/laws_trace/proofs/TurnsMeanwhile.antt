-- Links take turns, whatever else happens meanwhile: the law.
use Rattle.laws_trace.proofs.Vocabulary.{◌≡◌, ◌≢◌, ℕ, ◌<◌, ◌==◌, true, false, List, [], ◌∷◌, ◌++◌, Some, refl, sym, ap, ◌∙◌, subst, arith, All, get_or-replicate, All-head, All-tail, Service, sapi_of, Config, Line, fresh_line, tei_at, Card, line_at, at, moments, fresh_is_sound, all-left, all-right, config-stays, link_number, link_in, place_in, has_tei, at-within, place_of-is, number_within}
use Rattle.laws_trace.proofs.Vocabulary.{place_at-number, service_at-number, append-nil, append_assoc, option_map_or, list_any, IsSilent, terms, link_at, length, fresh, CardEvent as Event, after, after_all, IsAtLine, AreAtLines, CardIsSound as IsSound, always_sound, is_own, Always, trace, frames_begun, IsAmong, IsSpelled, managed_after, fresh_link, All-cons, All-nil, after_all-append}
use Rattle.model_line.specs.Sound as line
use Rattle.laws_trace.specs.TurnsMeanwhile.{IsKeptWaiting, LinksTakeTurnsMeanwhile}
use Rattle.laws_trace.proofs.Runs.{run-shows}
use Rattle.laws_trace.proofs.Units.{NoneWaits, fresh-none, Passes, rests, joins, steps}
use Rattle.laws_trace.proofs.LinkNames.{links_begun, named as name_of}
use Rattle.laws_trace.proofs.Addressed.{at-some-place}
use Rattle.laws_trace.proofs.LineAtEnd.{line-at-end}
use Rattle.laws_trace.proofs.LinkLed.{own-is}
use Rattle.laws_trace.proofs.NamedFrames.{names, names-append, its-name, among-frames}
use Rattle.laws_trace.proofs.OfOctets.Seen.{begun_given}
use Rattle.laws_trace.proofs.OffersOfLink.{nothing-offered}
use Rattle.laws_trace.proofs.Spelled.{run-spelled}
use Rattle.laws_trace.proofs.TeisAreManaged.{follows-now}
use Rattle.laws_trace.proofs.TurnsKept.{keeps-there}
use Rattle.laws_trace.proofs.TurnsWalked.{Meets, Walk, ends, take-turns, names-both, WalkOf, moment-walk}
use Rattle.model_line.proofs.Following.{some-same}

-- While it is so before each event, as the observer has it.
module _ (c : Config) (number : ℕ) (ranged : line.IsInRange c) (within : number < c.lines) (first second : Service) (tei its : ℕ) where
  abbrev end : List Event → Line
  end before = line_at number (after_all (fresh c) before)

  abbrev Waits : List Event → Type 0
  Waits = IsKeptWaiting c number tei second its

  abbrev WaitsMeanwhile : List Event → List Event → Type 0
  WaitsMeanwhile before meanwhile = (so_far : List Event) (e : Event) (behind : List Event) → meanwhile ≡ so_far ++ e ∷ behind → Waits (before ++ so_far)

  -- the places of both TEIs
  record Places (p q : ℕ) (before : List Event) : Type 0 where
    here : tei_at p (end before) ≡ Some tei
    there : tei_at q (end before) ≡ Some its

  module _ (before : List Event) (all : AreAtLines (fresh c) before) where
    is-there : (x : ℕ) → list_any (λ on. on == x) (managed_after c number before).on ≡ true → has_tei x (end before) ≡ true
    is-there x on = sym ((follows-now c before number ranged all within).on.same x) ∙ on

    found : (x : ℕ) → has_tei x (end before) ≡ true → (place : ℕ) × (tei_at place (end before) ≡ Some x) × (place_in (end before) x ≡ Some place)
    found x on = let at = at-some-place (end before) x on in (at.0, (place_of-is (end before).management.places x at.0 at.1).1, at.1)

    sound : line.IsSound c (end before)
    sound = line-at-end c before number ranged all within

    speaks : Waits before → (p q : ℕ) → Places p q before → Meets c (link_number p first) tei (link_number q second) its (end before)
    speaks w p q at = record {
      sound = sound;
      here = ap (λ n. tei_at n (end before)) (place_at-number p first) ∙ at.here;
      there = record {
        few = number_within q c.terminals second (omega (arith, sound.places, low));
        on_line = ap (λ n. tei_at n (end before)) (place_at-number q second) ∙ at.there;
        speaks = λ silent. w.offers_one (nothing-offered c before number ranged all within second its q placed
            (subst (IsSilent (terms c second its)) (sym (ap (λ o. option_map_or (link_in (end before) second) o fresh_link) placed))
            (subst (λ x. IsSilent (terms c x its) (link_at (link_number q second) (end before))) (service_at-number q second)
            (silent its (ap (λ n. tei_at n (end before)) (place_at-number q second) ∙ at.there)))));
      };
    }
      where
        low : q < length (end before).management.places
        low = at-within (end before).management.places q its at.there

        placed : place_in (end before) its ≡ Some q
        placed =
            let f = found its (is-there its w.on_line) in
            f.2 ∙ ap Some (sound.management.table.once f.0 q its f.1 at.there)

  module _ (p q : ℕ) where
    abbrev one : ℕ
    one = link_number p first

    abbrev other : ℕ
    other = link_number q second

    abbrev WalksOn : List Event → Card → Type 0
    WalksOn es card = WalkOf number one tei other its card (line_at number card) (links_begun card.config (trace number (moments card es)))

    module _ (before : List Event) (e : Event) (es : List Event) (all : AreAtLines (fresh c) (before ++ e ∷ es)) (at : Places p q before) where
      abbrev card : Card
      card = after_all (fresh c) before

      front : AreAtLines (fresh c) before
      front = all-left (IsAtLine (fresh c)) before (e ∷ es) all

      sound-there : IsSound card
      sound-there = always_sound (fresh c) before (fresh_is_sound c ranged) front

      kept : card.config ≡ c
      kept = config-stays (fresh c) before

      here : IsAtLine card e
      here = subst (λ (d : Config). e.line < d.lines) (sym kept) (All-head (IsAtLine (fresh c)) e es (all-right (IsAtLine (fresh c)) before (e ∷ es) all))

      plain-then : NoneWaits card.config (end before) → NoneWaits (after e card).config (line_at number (after e card))
      unfolding after_all
      plain-then plain =
          (run-shows NoneWaits Passes rests joins steps card (e ∷ []) number sound-there (All-cons (IsAtLine card) e [] here (All-nil (IsAtLine card))) plain).1

      then-card : after_all (fresh c) (before ++ e ∷ []) ≡ after e card
      unfolding after_all
      then-card = after_all-append (fresh c) before (e ∷ [])

      -- one event, before those that walk on
      walks-one : WaitsMeanwhile before (e ∷ es) → NoneWaits card.config (end before) → WalksOn es (after e card) → WalksOn (e ∷ es) card
      unfolding moments
      walks-one waits plain walk =
          let meets = speaks before front (subst Waits (append-nil before) (waits [] e es refl)) p q at in
          grind (arith, names-both, moment-walk, sound-there, here, kept, links_begun)

      keeps-at : (n x : ℕ) → tei_at n (end before) ≡ Some x → has_tei x (end (before ++ e ∷ [])) ≡ true → tei_at n (end (before ++ e ∷ [])) ≡ Some x
      keeps-at n x at =
          subst (λ (k : Card). has_tei x (line_at number k) ≡ true → tei_at n (line_at number k) ≡ Some x) (sym then-card) (keeps-there card e number n x sound-there here at)

      places-then : AreAtLines (fresh c) (before ++ e ∷ []) → Waits (before ++ e ∷ []) → Places p q (before ++ e ∷ [])
      places-then fronts now = record {
        here = keeps-at p tei at.here (is-there (before ++ e ∷ []) fronts tei now.stays);
        there = keeps-at q its at.there (is-there (before ++ e ∷ []) fronts its now.on_line);
      }

    walks : (before meanwhile : List Event) → AreAtLines (fresh c) (before ++ meanwhile) → WaitsMeanwhile before meanwhile → Places p q before
        → NoneWaits (after_all (fresh c) before).config (end before) → WalksOn meanwhile (after_all (fresh c) before)
    unfolding moments
    walks before [] all waits at plain = ends (end before)
    walks before (e ∷ []) all waits at plain = walks-one before e [] all at waits plain (ends (line_at number (after e (after_all (fresh c) before))))
    walks before (e ∷ x ∷ rest) all waits at plain =
        let whole = subst (AreAtLines (fresh c)) (sym (append_assoc before (e ∷ []) (x ∷ rest))) all in
        let same = then-card before e (x ∷ rest) all at in
        walks-one before e (x ∷ rest) all at waits plain
        (subst (WalksOn (x ∷ rest)) same
        (walks (before ++ e ∷ []) (x ∷ rest) whole (λ so_far y behind split. subst Waits (sym (append_assoc before (e ∷ []) so_far)) (waits (e ∷ so_far) y behind (ap (λ xs. e ∷ xs) split)))
        (places-then before e (x ∷ rest) all at (all-left (IsAtLine (fresh c)) (before ++ e ∷ []) (x ∷ rest) whole) (waits (e ∷ []) x rest refl))
        (subst (λ (k : Card). NoneWaits k.config (line_at number k)) (sym same) (plain-then before e (x ∷ rest) all at plain))))

-- Two links have two numbers.
two-links : (first second : Service) (tei its p q : ℕ) (l : Line) → is_own first tei second its ≡ false → tei_at p l ≡ Some tei → tei_at q l ≡ Some its → link_number p first ≢ link_number q second
two-links first second tei its p q l away here there same = grind (arith, service_at-number, place_at-number, some-same, own-is)

pub links-take-turns-meanwhile : Always LinksTakeTurnsMeanwhile
unfolding moments
links-take-turns-meanwhile c events number ranged all within before [] first second tei its split away waits front between behind a b own-a own-b e = no-frame front e
  where
    no-frame : {X : Type 0} (front : List (List ℕ)) → [] ≡ front ++ a ∷ (between ++ b ∷ behind) → X
    no-frame [] e = absurd (cc e)
    no-frame (x ∷ front) e = absurd (cc e)
links-take-turns-meanwhile c events number ranged all within before (x ∷ xs) first second tei its split away waits front between behind a b own-a own-b e =
    among-frames c second its between (all-left (IsSpelled c) between (b ∷ behind) after-a) among.front among.back
    (among.split ∙ ap (λ n. among.front ++ n ∷ among.back) (number-name Q.0 second its))
  where
    card : Card
    card = after_all (fresh c) before

    these : AreAtLines (fresh c) (before ++ x ∷ xs)
    these = subst (AreAtLines (fresh c)) split all

    front-lines : AreAtLines (fresh c) before
    front-lines = all-left (IsAtLine (fresh c)) before (x ∷ xs) these

    begins : IsSound (fresh c)
    begins = fresh_is_sound c ranged

    kept : card.config ≡ c
    kept = config-stays (fresh c) before

    plain : NoneWaits card.config (line_at number card)
    plain =
        subst (λ d. NoneWaits d (line_at number card)) (sym kept)
        (run-shows NoneWaits Passes rests joins steps (fresh c) before number begins front-lines
        (subst (λ (l : Line). NoneWaits c l) (sym (get_or-replicate c.lines number (fresh_line c) (fresh_line c) within)) (fresh-none c))).1

    now : IsKeptWaiting c number tei second its before
    now = subst (IsKeptWaiting c number tei second its) (append-nil before) (waits [] x xs refl)

    P : (place : ℕ) × (tei_at place (line_at number card) ≡ Some tei) × (place_in (line_at number card) tei ≡ Some place)
    P = found c number ranged within first second tei its before front-lines tei (is-there c number ranged within first second tei its before front-lines tei now.stays)

    Q : (place : ℕ) × (tei_at place (line_at number card) ≡ Some its) × (place_in (line_at number card) its ≡ Some place)
    Q = found c number ranged within first second tei its before front-lines its (is-there c number ranged within first second tei its before front-lines its now.on_line)

    one : ℕ
    one = link_number P.0 first

    other : ℕ
    other = link_number Q.0 second

    frames : List (List ℕ)
    frames = frames_begun (trace number (moments card (x ∷ xs)))

    is : frames ≡ front ++ a ∷ (between ++ b ∷ behind)
    is = begun_given number card (x ∷ xs) ∙ e

    walk : Walk c one tei other its (line_at number card) (names c frames)
    walk =
        subst (λ (d : Config). Walk d one tei other its (line_at number card) (names d frames)) kept
        (walks c number ranged within first second tei its P.0 Q.0 before (x ∷ xs) these waits (record { here = P.1; there = Q.1 }) plain)

    spelled : All (IsSpelled c) (front ++ a ∷ (between ++ b ∷ behind))
    spelled =
        subst (All (IsSpelled c)) is
        (subst (λ (d : Config). All (IsSpelled d) frames) kept
        (run-spelled card (x ∷ xs) number (always_sound (fresh c) before begins front-lines)
        (subst (λ (d : Config). All (λ (e : Event). e.line < d.lines) (x ∷ xs)) (sym kept) (all-right (IsAtLine (fresh c)) before (x ∷ xs) these))))

    from-a : All (IsSpelled c) (a ∷ (between ++ b ∷ behind))
    from-a = all-right (IsSpelled c) front (a ∷ (between ++ b ∷ behind)) spelled

    after-a : All (IsSpelled c) (between ++ b ∷ behind)
    after-a = All-tail (IsSpelled c) a (between ++ b ∷ behind) from-a

    number-name : (place : ℕ) (service : Service) (by : ℕ) → name_of (link_number place service) by ≡ record { sapi = sapi_of service; tei = by }
    number-name place service by = ap (λ s. record { sapi = sapi_of s; tei = by }) (service_at-number place service)

    named : names c frames ≡ names c front ++ name_of one tei ∷ (names c between ++ name_of one tei ∷ names c behind)
    named =
        ap (names c) is ∙ names-append c front (a ∷ (between ++ b ∷ behind))
        ∙ ap (λ ns. names c front ++ ns) (its-name c first tei a (between ++ b ∷ behind) (All-head (IsSpelled c) a (between ++ b ∷ behind) from-a) own-a)
        ∙ ap (λ ns. names c front ++ record { sapi = sapi_of first; tei = tei } ∷ ns) (names-append c between (b ∷ behind)
        ∙ ap (λ ns. names c between ++ ns)
        (its-name c first tei b behind (All-head (IsSpelled c) b behind (all-right (IsSpelled c) between (b ∷ behind) after-a)) own-b))
        ∙ ap (λ n. names c front ++ n ∷ (names c between ++ n ∷ names c behind)) (sym (number-name P.0 first tei))

    among : IsAmong (name_of other its) (names c between)
    among = take-turns c one tei other its (two-links first second tei its P.0 Q.0 (line_at number card) away P.1 Q.1) (line_at number card) (names c frames) walk (names c front) (names c between) (names c behind) named
