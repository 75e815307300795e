-- A link in an image, without its contents.
use Rattle.lapd_link_steps.proofs.Vocabulary.{◌≡◌, ℕ, ◌+◌, ◌-◌, ◌<◌, arith, ap, sym, ◌∙◌, true, List, ◌∷◌, length, refl, Terms, Link, Entity, ControlFrame, Sabme, link_of, past_at, Rests}
use Rattle.std.proofs.Common.{◌%◌, ◌++◌, length-append}
use Rattle.std.specs.Prelude.{Err, Ok, OnErr, Result}
use Rattle.lapd_image.proofs.Reading.{front-read}
use Rattle.lapd_image.specs.Numbers.{number}
use Rattle.lapd_image.specs.Reads.{HasNone}
use Rattle.lapd_link_steps.specs.Image.{IsHead, head, octets_of}
use Rattle.lapd_link_steps.specs.declared.heads.Octets.{Octets}
use Rattle.lapd_seq.proofs.Callers.{seq-value}
use Rattle.model_bits.specs.Bits.{number_of}
use Rattle.model_link.specs.Image.{counts, link_flags, state_octet}
use Rattle.model_link.specs.declared.counts.LinkCounts.{LinkCounts}

-- What an entity writes before the contents is the head of the link for which it rests.
pub head-resting : {terms : Terms} {e : Entity} {m : Link} {state flags va out : ℕ} → Rests terms e m → state ≡ state_octet (link_of e (past_at m))
    → flags ≡ number_of (link_flags (link_of e (past_at m))) → va ≡ e.window.va.value → m.a + out ≡ m.s
    → state ∷ flags ∷ e.repeats ∷ va ∷ out ∷ e.vr.value ∷ e.again ∷ counts e.counts ≡ head m
head-resting {terms} {e} {m} {state} {flags} {va} {out} rests is-state is-flags is-va sent =
    let first : va ≡ m.a % 128 = is-va ∙ seq-value e.window.va m.a rests.window.acknowledged in
    let many : out ≡ m.s - m.a = omega (arith, sent) in
    let next : e.vr.value ≡ m.r % 128 = seq-value e.vr m.r rests.received in
    (λ i. is-state i ∷ is-flags i ∷ e.repeats ∷ first i ∷ many i ∷ next i ∷ e.again ∷ counts e.counts) ∙ ap head rests.is

-- any frame, which stands in for one past the last
pub some_frame : ControlFrame
some_frame = record { command = true; control = Sabme true }

-- A head has 17 octets.
counts-length : (c : LinkCounts) → length (counts c) ≡ 10
unfolding number
counts-length c = refl

pub head-length : (l : Link) → length (head l) ≡ 17
head-length l = omega (arith, counts-length l.counts)

pub counted : {front : List ℕ} (now : List ℕ) (n : ℕ) → front ≡ number 2 n ++ now → length front ≡ 2 + length now
unfolding number
counted now n e = omega (arith, ap (λ (l : List ℕ). length l) e)

pub head-short : {front : List ℕ} → length front < 17 → HasNone head IsHead front
head-short {front} short m rest near e =
    omega (arith, short, ap (λ (l : List ℕ). length l) e, length-append (counts m.counts) rest, counts-length m.counts)

-- What is of no link is at the front of no image of one.
pub head-none : {front : List ℕ} (now : List ℕ) (o : Octets) (c : LinkCounts) → front ≡ octets_of o ++ (counts c ++ now)
    → ((m : Link) → IsHead m → octets_of o ++ counts c ≡ head m → ⊥) → HasNone head IsHead front
head-none now o c read none m rest near e =
    let size : length (octets_of o ++ counts c) ≡ length (head m) = omega (arith, counts-length c, counts-length m.counts) in
    none m near (front-read (octets_of o ++ counts c) (head m) now rest size (sym read ∙ e)).0

-- What follows if a call has failed.
pub if_err : {T E P Q : Type 0} (r : Result T E) → (P → Q) → OnErr r P → OnErr r Q
if_err (Ok x) f p = tt
if_err (Err e) f p = f p
