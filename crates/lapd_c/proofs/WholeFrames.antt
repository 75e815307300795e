-- Whole frames: one that comes, and one that is given.
use Rattle.lapd_c.proofs.Vocabulary.{arith, ◌≡◌, ℕ, List, drop, Option, sym, ap, subst, None, option_map, Config, NextFrame, gave_in, next_in, Card, at, moment_counted, moment_of, Counters, Store, FrameCardStands, frame_comes, goes, next_at, AnyCard, AnyStands, alone}
use Rattle.std.proofs.Common.{Some, IfSome, length, ◌≤◌}
use Rattle.std.proofs.Math.Nat.{min-eq_left}
use Rattle.std.proofs.lemmas.List.{length-take}
use Rattle.lapd_c.specs.Frames.{IsGiven}
use Rattle.model_line.specs.Came.{came}
use Rattle.model_line.specs.Event as line
use Rattle.model_card.specs.Machine as machine
use Rattle.lapd_card.specs.FrameCard as frames
use Rattle.lapd_card.proofs.OneOctet.{none_leaves, none_counts}

-- a frame that comes at a card is heard by the configuration of its machine
pub comes_at : (i : ℕ) (frame : List ℕ) (c : frames.Held Store) (m : Card) → FrameCardStands c m → at i (line.hears (came c.config.n201 frame)) ≡ frame_comes i frame m
comes_at i frame c m s = ap (λ (config : Config). at i (line.hears (came config.n201 frame))) (sym s.config)

-- what is written is the frame that is next
pub next_is : (i : ℕ) (m : Card) (out : List ℕ) (given : Option NextFrame) → gave_in out given ≡ machine.answer (goes i) m → next_at i m ≡ option_map (next_in out) given
next_is i m out given is = ap line.given_in (sym is)

-- where no frame waits, the card stays, and nothing is counted
pub none_goes : (i : ℕ) (m : Card) (card : AnyCard) → next_at i m ≡ None → AnyStands card (alone (machine.after (goes i) m)) → AnyStands card (alone m)
none_goes i m card none s = subst (λ m. AnyStands card (alone m)) (none_leaves m i none) s

pub none_counted : (i : ℕ) (m : Card) (all : List Counters) → next_at i m ≡ None → moment_counted all (moment_of m (goes i)) ≡ all
none_counted i m all none = none_counts m i all none

-- what is written is given, where it fits
pub given_written : (i : ℕ) (m : Card) (out out' : List ℕ) (count : ℕ) (next : NextFrame) → next_at i m ≡ Some (next_in out' next) → count ≡ next.length → next.length ≤ length out'
    → drop next.length out' ≡ drop next.length out → IfSome (next_at i m) (λ n. IsGiven n out out' count)
given_written i m out out' count next is o rest same = grind (arith, IfSome, length-take, min-eq_left)

-- where there is none, nothing is said
pub none_said : {X : Type 0} (P : X → Type 0) (o : Option X) → o ≡ None → IfSome o P
none_said P None is = tt
none_said P (Some x) is = absurd (cc)
