-- Two links that are the same go on the same: what an N(R) names, what the tests tell, and the rules by which rows are proved.
use Rattle.std.proofs.Common.{eq-eqb, eqb-true}
use Rattle.std.proofs.lemmas.Bool.{ltb-false, ltb-true}
use Rattle.std.proofs.Common.{arith, ◌≡◌, ℕ, ◌+◌, ◌-◌, ◌%◌, ◌≤◌, ◌==◌, Bool, true, false, cond, not, Option, Some, None, refl, ap, ◌∙◌}
use Rattle.std.specs.Prelude.{nat_lt, nat_le}
use Rattle.std.proofs.lemmas.Bool.{leb-true, leb-false}
use Rattle.lapd_seq.specs.declared.numbers.Seq.{Seq}
use Rattle.lapd_seq.specs.Numbers.{seq}
use Rattle.lapd_seq.specs.Circle.{named, distance_of}
use Rattle.lapd_frame.specs.declared.notes.Note.TheVariants as notes
use Rattle.lapd_frame.specs.declared.notes.ErrorCode.TheVariants as code
use Rattle.model_link.specs.declared.states.State.{State}
use Rattle.model_link.specs.declared.terms.Terms.{Terms}
use Rattle.model_link.specs.Link.{Link, has_outstanding, is_asked, is_owed, is_peer_busy, is_own_busy, is_rejecting, may_repeat, most_repeats, state_number}
use Rattle.model_link.specs.Steps.{Course, Step, ◌then◌}
use Rattle.model_link.specs.Words.{error, re_establish, by_number}
use Rattle.model_link.specs.MultipleFrame.{is_next}
use Rattle.model_link.specs.Established.{is_all_sent, is_beyond_acknowledged}
use Rattle.model_image.proofs.GoOn.{Alike, Named, Leads2, Tells, keep2, nothing2, depending2, bit2, read2, note2, deliver2, deliver_unit2, unserved2, peer_busy2, own_busy2, rejecting2, pending2, asked2, owed2}
use Rattle.model_image.proofs.GoOn.{count2, repeats2, repeated2, enter2, clear2, start2, no_timer2, reset2, zero2, discard2, received2, anew2, data2, send2, seq-same, enquire2, answer2, report2, reject2}

-- An N(R) names a number of each, or of neither.
abbrev AreNamed : ℕ → ℕ → ℕ → ℕ → Option ℕ → Option ℕ → Type 0
AreNamed a s a' s' None None = Unit {0}
AreNamed a s a' s' None (Some m) = ⊥
AreNamed a s a' s' (Some n) None = ⊥
AreNamed a s a' s' (Some n) (Some m) = (a ≤ n) × (n ≤ s) × (a' ≤ m) × (m ≤ s') × (n + a' ≡ m + a)

are-named : (a s a' s' : ℕ) (nr : Seq) → a % 128 ≡ a' % 128 → s + a' ≡ s' + a → AreNamed a s a' s' (named a s nr) (named a' s' nr)
unfolding named
are-named a s a' s' nr va out =
    let steps : distance_of (seq a) nr ≡ distance_of (seq a') nr = ap (λ (x : Seq). distance_of x nr) (seq-same a a' va) in
    go (nat_le (a + distance_of (seq a) nr) s) (nat_le (a' + distance_of (seq a') nr) s') refl refl steps
  where
    go : (b b' : Bool) → nat_le (a + distance_of (seq a) nr) s ≡ b → nat_le (a' + distance_of (seq a') nr) s' ≡ b' → distance_of (seq a) nr ≡ distance_of (seq a') nr
        → AreNamed a s a' s' (cond b (Some (a + distance_of (seq a) nr)) None) (cond b' (Some (a' + distance_of (seq a') nr)) None)
    go true true p q steps = (omega arith, leb-true _ _ p, omega arith, leb-true _ _ q, omega (arith, steps))
    go false false p q steps = tt
    go true false p q steps = absurd (omega (arith, steps, out, leb-true _ _ p, leb-false _ _ q))
    go false true p q steps = absurd (omega (arith, steps, out, leb-false _ _ p, leb-true _ _ q))

pub number2 : {Q : Course → Course → Type 0} (t : Terms) (nr : Seq) (f g : ℕ → Step) → Leads2 Alike (error t code.J then re_establish t) (error t code.J then re_establish t) Q
    → ((n m : ℕ) → Leads2 (Named n m) (f n) (g m) Q) → Leads2 Alike (by_number t nr f) (by_number t nr g) Q
number2 {Q} t nr f g invalid valid = record {
  leads = λ c d h.
      go c d h (named c.link.a c.link.s nr) (named d.link.a d.link.s nr) (are-named c.link.a c.link.s d.link.a d.link.s nr h.numbers.va h.numbers.out);
}
  where
    go : (c d : Course) → Alike c d → (o p : Option ℕ) → AreNamed c.link.a c.link.s d.link.a d.link.s o p
        → Q (elim o as (λ o. Course) [ None ↦ (error t code.J then re_establish t) c | Some n ↦ f n c ]) (elim p as (λ p. Course) [ None ↦ (error t code.J then re_establish t) d | Some n ↦ g n d ])
    go c d h None None named = invalid.leads c d h
    go c d h None (Some m) named = absurd named
    go c d h (Some n) None named = absurd named
    go c d h (Some n) (Some m) named = (valid n m).leads c d (record { alike = h; from = named.0; to = named.1; from' = named.2; to' = named.3; by = named.4 })

-- Tests.
eq-same : (x y x' y' : ℕ) → x + y' ≡ x' + y → (x == y) ≡ (x' == y')
eq-same x y x' y' e = go (x == y) (x' == y') refl refl
  where
    go : (b b' : Bool) → (x == y) ≡ b → (x' == y') ≡ b' → b ≡ b'
    go true true p q = refl
    go false false p q = refl
    go true false p q = absurd (grind (arith, eqb-true, eq-eqb, e, p, q))
    go false true p q = absurd (grind (arith, eqb-true, eq-eqb, e, p, q))

pub lt-same : (x y x' y' : ℕ) → x + y' ≡ x' + y → nat_lt x y ≡ nat_lt x' y'
lt-same x y x' y' e = go (nat_lt x y) (nat_lt x' y') refl refl
  where
    go : (b b' : Bool) → nat_lt x y ≡ b → nat_lt x' y' ≡ b' → b ≡ b'
    go true true p q = refl
    go false false p q = refl
    go true false p q = absurd (omega (arith, e, ltb-true x y p, ltb-false x' y' q))
    go false true p q = absurd (omega (arith, e, ltb-false x y p, ltb-true x' y' q))

pub asked_tells : Tells Alike is_asked is_asked
asked_tells = record { tells = λ c d h. h.flags.5 }

pub owed_tells : Tells Alike is_owed is_owed
owed_tells = record { tells = λ c d h. h.flags.11 }

pub peer_tells : Tells Alike is_peer_busy is_peer_busy
peer_tells = record { tells = λ c d h. h.flags.1 }

pub own_tells : Tells Alike is_own_busy is_own_busy
own_tells = record { tells = λ c d h. h.flags.2 }

pub rejecting_tells : Tells Alike is_rejecting is_rejecting
rejecting_tells = record { tells = λ c d h. h.flags.3 }

pub repeat_tells : (t : Terms) → Tells Alike (may_repeat t) (may_repeat t)
repeat_tells t = record {
  tells = λ c d h. ap (λ (n : ℕ). nat_lt n (most_repeats t (state_number c.link.state))) h.flags.6 ∙ ap (λ (s : State). nat_lt d.link.repeats (most_repeats t (state_number s))) h.flags.0;
}

pub outstanding_tells : Tells Alike has_outstanding has_outstanding
outstanding_tells = record { tells = λ c d h. ap not (eq-same c.link.s c.link.a d.link.s d.link.a h.numbers.out) }

pub next_tells : (ns : Seq) → Tells Alike (is_next ns) (is_next ns)
next_tells ns = record { tells = λ c d h. ap (λ (x : Seq). ns.value == x.value) (seq-same c.link.r d.link.r h.numbers.vr) }

pub all_sent_tells : (n m : ℕ) → Tells (Named n m) (is_all_sent n) (is_all_sent m)
all_sent_tells n m = record { tells = λ c d h. eq-same n c.link.s m d.link.s (omega (arith, h.by, h.alike.numbers.out)) }

pub beyond_tells : (n m : ℕ) → Tells (Named n m) (is_beyond_acknowledged n) (is_beyond_acknowledged m)
beyond_tells n m = record { tells = λ c d h. lt-same c.link.a n d.link.a m (omega (arith, h.by)) }

pub named_tells : {n m : ℕ} {test test' : Link → Bool} → Tells Alike test test' → Tells (Named n m) test test'
named_tells x = record { tells = λ c d h. x.tells c d h.alike }

pub ruleset words2 = (count2, keep2, nothing2, depending2, bit2, read2, note2, deliver2, deliver_unit2, unserved2, peer_busy2, own_busy2, rejecting2, pending2, asked2, owed2, repeats2, repeated2, enter2, clear2, start2, no_timer2, reset2, zero2, discard2, received2, anew2, data2, send2, enquire2, answer2, report2, reject2)

pub ruleset tests2 = (asked_tells, owed_tells, peer_tells, own_tells, rejecting_tells, repeat_tells, outstanding_tells, next_tells)

pub ruleset rows2 = (words2, tests2)
