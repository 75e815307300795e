-- What happens at a setup, one event more.
use Rattle.lapd_sim.proofs.Vocabulary.{◌≡◌, ℕ, List, [], ◌∷◌, ◌++◌, Result, Ok, Err, refl, ap, sym, ◌∙◌, subst, append_assoc, append-nil, ◌+◌, ◌<◌, length, get_or, take, take_more, take-append-drop, drop, false≢true, IsErr, Event, reply, WriteFailed, Output, IsPut, IsStuck, puts_then, stuck_more, Setup, happened, Scene, with_event, with_events, reply_text, scene, Tells}
use Rattle.std.proofs.lemmas.List.Sums.{fold-append}

-- ---- what is said after what was said before

-- what happens does not depend on it,
bench_onto : (events : List Event) (m : Setup) (x y : List ℕ) → (with_events events (record { setup = m; text = x })).setup ≡ (with_events events (record { setup = m; text = y })).setup
bench_onto [] m x y = refl
bench_onto (e ∷ events) m x y =
    let said = reply_text m.losses e (reply e m.board) in
    bench_onto events (happened m e) (x ++ said) (y ++ said)

-- and what is said follows it
text_onto : (events : List Event) (m : Setup) (x : List ℕ) → (with_events events (record { setup = m; text = x })).text ≡ x ++ (with_events events (scene m)).text
text_onto [] m x = sym (append-nil x)
text_onto (e ∷ events) m x =
    let said = reply_text m.losses e (reply e m.board) in
    text_onto events (happened m e) (x ++ said)
    ∙ append_assoc x said (with_events events (scene (happened m e))).text
    ∙ ap (λ l. x ++ l) (sym (text_onto events (happened m e) said))

tells_onto : (r : Result Unit WriteFailed) (a b c : Output) (P : Setup → Type 0) (events : List Event) (s : Scene) → IsPut a b s.text → Tells r b c P (with_events events (scene s.setup)) → Tells r a c P (with_events events s)
tells_onto (Ok u) a b c P events s before told = (
  subst (λ text. IsPut a c text) (sym (text_onto events s.setup s.text)) (puts_then (Ok u) a b c s.text (with_events events (scene s.setup)).text before told.0),
  subst P (bench_onto events s.setup [] s.text) told.1,
)
tells_onto (Err e) a b c P events s before told =
    subst (λ text. IsStuck a c text) (sym (text_onto events s.setup s.text)) (puts_then (Err e) a b c s.text (with_events events (scene s.setup)).text before told)

-- events, and then more of them
pub tells_after : (r : Result Unit WriteFailed) (a b c : Output) (P : Setup → Type 0) (events more : List Event) (m : Setup) → IsPut a b (with_events events (scene m)).text
    → Tells r b c P (with_events more (scene (with_events events (scene m)).setup)) → Tells r a c P (with_events (events ++ more) (scene m))
tells_after r a b c P events more m before told =
    subst (λ s. Tells r a c P s) (sym (fold-append with_event (scene m) events more)) (tells_onto r a b c P more (with_events events (scene m)) before told)

-- where a write failed, those that were to follow change nothing
pub broken_after : (a b : Output) (events more : List Event) (m : Setup) → IsStuck a b (with_events events (scene m)).text → IsStuck a b (with_events (events ++ more) (scene m)).text
broken_after a b events more m broken =
    let s = with_events events (scene m) in
    let whole : (with_events (events ++ more) (scene m)).text ≡ s.text ++ (with_events more (scene s.setup)).text =
    ap (λ (t : Scene). t.text) (fold-append with_event (scene m) events more) ∙ text_onto more s.setup s.text in
    subst (λ text. IsStuck a b text) (sym whole) (stuck_more a b s.text (with_events more (scene s.setup)).text broken)

-- where a `?` leaves
pub leaves_told : (r : Result Unit WriteFailed) (a b : Output) (P : Setup → Type 0) (s : Scene) → IsErr r → IsStuck a b s.text → Tells r a b P s
leaves_told (Ok u) a b P s e broken = absurd (false≢true e)
leaves_told (Err w) a b P s e broken = broken

-- ---- what the members of a list bring, one after the other

module _ (g : List ℕ → List Event) (joins : (xs ys : List ℕ) → g (xs ++ ys) ≡ g xs ++ g ys) (xs : List ℕ) (i : ℕ) (less : i < length xs) (a b c : Output) (P : Setup → Type 0) (m : Setup) where
  abbrev so_far : Scene
  so_far = with_events (g (take i xs)) (scene m)

  abbrev here : Scene
  here = with_events (g (get_or xs i 0 ∷ [])) (scene so_far.setup)

  one_more : g (take (i + 1) xs) ≡ g (take i xs) ++ g (get_or xs i 0 ∷ [])
  one_more = ap g (take_more xs i 0 less) ∙ joins (take i xs) (get_or xs i 0 ∷ [])

  pub tells_more : IsPut a b so_far.text → Tells {E = WriteFailed} (Ok tt) b c P here → Tells {E = WriteFailed} (Ok tt) a c P (with_events (g (take (i + 1) xs)) (scene m))
  tells_more put told =
      subst (λ es. Tells {E = WriteFailed} (Ok tt) a c P (with_events es (scene m))) (sym one_more) (tells_after (Ok tt) a b c P (g (take i xs)) (g (get_or xs i 0 ∷ [])) m put told)

  pub breaks_off : IsPut a b so_far.text → IsStuck b c here.text → IsStuck a c (with_events (g xs) (scene m)).text
  breaks_off put broken =
      subst (λ es. IsStuck a c (with_events es (scene m)).text) (ap (λ front. front ++ g (drop (i + 1) xs)) (sym one_more) ∙ sym (joins (take (i + 1) xs) (drop (i + 1) xs)) ∙ ap g (take-append-drop (i + 1) xs))
      (broken_after a c (g (take i xs) ++ g (get_or xs i 0 ∷ [])) (g (drop (i + 1) xs)) m
      (tells_after (Err (record {})) a b c P (g (take i xs)) (g (get_or xs i 0 ∷ [])) m put broken))
