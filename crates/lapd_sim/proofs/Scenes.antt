-- What a line of a script says at a setup.
use Rattle.lapd_sim.proofs.Vocabulary.{◌≡◌, ℕ, ◌<◌, ◌≤◌, nat_lt, List, length, cond, true, Result, Ok, Err, OnOk, refl, sym, ap, ◌∙◌, subst, lt-ltb, le-leb, CardKind, kind_of, BadLine, BadFrame, Config, Output, Puts, WriteFailed, Setup, FaultKind, Scene, at_line, after_coming, can_come, for_octets, for_frames, with_card, LineFault, Obeys, Tells, scene, written, SetupStands}
use Rattle.lapd_script.specs.Meaning as meaning
use Rattle.model_card.specs.declared.kinds.CardKind.TheVariants.{Octets, Frames}
use Rattle.lapd_sim.specs.declared.setup.Setup as rust
use Rattle.lapd_sim.proofs.Vocabulary.{Bool, IsErr, IsPut, None, Option, Some, none-some, nothing, puts_nothing, told_text}
use Rattle.std.proofs.Common.{arith, false, nat_le}
use Rattle.std.proofs.lemmas.Bool.Decides.{nat_tests}
use Rattle.lapd_clock.specs.Timer.{Lengths, first_out_of_range}
use Rattle.lapd_clock.specs.declared.fault.LengthFault.{LengthFault}
use Rattle.lapd_script.specs.declared.kind.FaultKind.TheVariants.{BadNumber}
use Rattle.lapd_sim.specs.machine.Steps.{after_timers, with_timers}
use Rattle.lapd_script.specs.declared.faults.LineFault.TheVariants.{Write}

-- at a line that is there, on a card of the right kind
module _ (s : rust.Setup) (m : Setup) (stands : SetupStands s m) {at_it line : ℕ} (e : line ≡ at_it) (less : line < s.config.lines) where
  within : line < m.board.config.lines
  within = subst (λ (c : Config). line < c.lines) (sym stands.config) less

  pub there : (word : ℕ → Scene → Scene) → at_line at_it (scene m) (word at_it (scene m)) ≡ Ok (word line (scene m))
  there word = subst (λ n. at_line n (scene m) (word n (scene m)) ≡ Ok (word line (scene m))) e (rw (lt-ltb line m.board.config.lines within) refl)

  pub there_octets : (word : ℕ → Scene → Scene) → kind_of s.timed.card ≡ Octets → for_octets m.board.kind (at_line at_it (scene m) (word at_it (scene m))) ≡ Ok (word line (scene m))
  there_octets word kind = ap (λ k. for_octets k (at_line at_it (scene m) (word at_it (scene m)))) (stands.board.kind ∙ kind) ∙ there word

  pub there_frames : (word : ℕ → Scene → Scene) → kind_of s.timed.card ≡ Frames → for_frames m.board.kind (at_line at_it (scene m) (word at_it (scene m))) ≡ Ok (word line (scene m))
  there_frames word kind = ap (λ k. for_frames k (at_line at_it (scene m) (word at_it (scene m)))) (stands.board.kind ∙ kind) ∙ there word

  -- a frame comes that can
  pub into_is : (kind : CardKind) (frame : List ℕ) → kind_of s.timed.card ≡ kind → can_come kind frame ≡ true → with_card (meaning.into at_it frame) (scene m) ≡ Ok (after_coming kind line frame (scene m))
  into_is kind frame is can =
      subst (λ n. with_card (meaning.into n frame) (scene m) ≡ Ok (after_coming kind line frame (scene m))) e
      (subst (λ k. cond (nat_lt line m.board.config.lines) (cond (can_come k frame) (Ok (after_coming k line frame (scene m))) (Err BadFrame)) (Err BadLine) ≡ Ok (after_coming kind line frame (scene m))) (sym (stands.board.kind ∙ is))
      (rw (lt-ltb line m.board.config.lines within) (rw can refl)))

pub is_frame_is : (frame : List ℕ) → 3 ≤ length frame → length frame ≤ 1028 → can_come Octets frame ≡ true
is_frame_is frame short long = rw (le-leb 3 (length frame) short) (le-leb (length frame) 1028 long)

-- a line is obeyed that has been told
pub obeyed : (r : Result Unit WriteFailed) (result : Result Unit LineFault) → result ≡ written r → (a b : Output) (Q : Setup → Type 0) (said : Result Scene FaultKind) (s : Scene) → said ≡ Ok s
    → Tells r a b Q s → Obeys result a b Q said
obeyed (Ok u) result is a b Q said s e told = subst (λ x. Obeys x a b Q said) (sym is) (subst (λ x. Obeys (Ok tt) a b Q x) (sym e) told)
obeyed (Err w) result is a b Q said s e told = subst (λ x. Obeys x a b Q said) (sym is) (subst (λ x. Obeys (Err Write) a b Q x) (sym e) told)

-- it has been told where its text was put
pub tells : (r : Result Unit WriteFailed) (a b : Output) (Q : Setup → Type 0) (s t : Scene) → t ≡ s → Puts r a b t.text → OnOk r (Q t.setup) → Tells r a b Q s
tells (Ok u) a b Q s t e put q = subst (Tells {E = WriteFailed} (Ok u) a b Q) e (put, q)
tells (Err w) a b Q s t e put q = subst (Tells (Err w) a b Q) e put

pub on_ok : {P : Type 0} (r : Result Unit WriteFailed) → P → OnOk r P
on_ok (Ok u) p = p
on_ok (Err w) p = tt

pub when_ok : {A B : Type 0} (r : Result Unit WriteFailed) → OnOk r A → (A → B) → OnOk r B
when_ok (Ok u) one f = f one
when_ok (Err w) one f = tt

-- a time that is over, lengths that are in range, and a scene that is another's
pub is_over : (a b : ℕ) → b < a → nat_le a b ≡ false
is_over a b h = grind (arith, nat_tests)

pub timers_set : (lengths : Lengths) (s : Scene) → first_out_of_range lengths ≡ None → with_timers lengths s ≡ Ok (after_timers lengths s)
timers_set lengths s is = go (first_out_of_range lengths) is
  where
    go : (o : Option LengthFault) → o ≡ None → (elim o as (λ o. Result Scene FaultKind) [ None ↦ Ok (after_timers lengths s) | Some timer ↦ Err BadNumber ]) ≡ Ok (after_timers lengths s)
    go None e = refl
    go (Some timer) e = absurd (none-some timer (sym e))

pub moved_to : (r : Result Scene FaultKind) (s t : Scene) → r ≡ Ok s → s ≡ t → r ≡ Ok t
moved_to r s t is e = subst (λ x. r ≡ Ok x) e is

pub if_ok : {A E P : Type 0} (r : Result A E) → (IsErr r → ⊥) → OnOk r P → P
if_ok (Ok x) sound one = one
if_ok (Err e) sound one = absurd (sound refl)

-- where nothing happened nothing is said, whatever is shown
pub nothing_told : (losses : Bool) (line : ℕ) (a : Output) → IsPut a a (told_text losses line None nothing)
nothing_told true line a = puts_nothing a
nothing_told false line a = puts_nothing a
