-- Two links that are the same go on the same: when two courses are alike, and what each word of the tables makes of them.
use Rattle.std.proofs.Common.{arith, ◌≡◌, ℕ, ◌+◌, ◌-◌, ◌%◌, ◌≤◌, Bool, true, false, cond, List, [], ◌∷◌, ◌++◌, length, take, drop, refl, sym, ap, ◌∙◌}
use Rattle.std.specs.Prelude.{nat_lt, min}
use Rattle.std.proofs.lemmas.List.{drop-drop, drop-append-le, drop_all, length-append, length-take-le}
use Rattle.lapd_seq.specs.Numbers.{seq}
use Rattle.lapd_seq.proofs.Callers.{is_seq, seq-value}
use Rattle.lapd_frame.specs.declared.controls.Control.TheVariants.{ReceiveReady, ReceiveNotReady, Reject}
use Rattle.lapd_frame.specs.declared.notes.Note.{Note}
use Rattle.lapd_frame.specs.declared.notes.Note.TheVariants as notes
use Rattle.lapd_frame.specs.declared.notes.ErrorCode.TheVariants as code
use Rattle.lapd_frame.specs.declared.readings.Reading.{Reading}
use Rattle.lapd_frame.specs.declared.readings.Reading.TheVariants.{Profile, AnnexB}
use Rattle.lapd_frame.specs.Readings.{by_reading}
use Rattle.model_link.specs.Counts.{with_establishment}
use Rattle.model_link.specs.declared.counts.LinkCounts.{LinkCounts}
use Rattle.model_link.specs.declared.frames.ControlFrame.{ControlFrame}
use Rattle.model_link.specs.declared.states.State.{State}
use Rattle.model_link.specs.declared.timers.LinkTimer.{LinkTimer}
use Rattle.model_link.specs.declared.terms.Terms.{Terms}
use Rattle.model_link.specs.Link.{Link, queue_of}
use Rattle.model_link.specs.Steps.{Course, Step, ◌then◌, nothing, depending_on, by_bit}
use Rattle.model_link.specs.Words.{note, deliver, deliver_unit, leave_unserved, read_as, peer_busy_is, own_busy_is, rejecting_is, pending_is, asked_is, owed_is, repeats_are, repeated, enter, clear_flags, start, no_timer}
use Rattle.model_link.specs.Words.{reset_numbers, zero_numbers, count, discard, acknowledge, send_again_from, count_received, begin_anew, send, command, response, rr_or_rnr, enquire, answer, report_receiver_status, reject}
use Rattle.model_link.specs.MultipleFrame.{data_in_7_8}

-- All but numbers and contents, with how many go again and what was counted; numbers and contents; what is answered so far.
abbrev pub SameFlags : Link → Link → Type 0
SameFlags l m =
    (l.state ≡ m.state) × (l.peer_busy ≡ m.peer_busy) × (l.own_busy ≡ m.own_busy) × (l.rejecting ≡ m.rejecting) × (l.pending ≡ m.pending)
    × (l.asked ≡ m.asked) × (l.repeats ≡ m.repeats) × (l.running ≡ m.running) × (l.waiting ≡ m.waiting) × (l.again ≡ m.again)
    × (l.counts ≡ m.counts) × (l.owed ≡ m.owed)

pub record SameNumbers (a s r : ℕ) (c : List (List ℕ)) (a' s' r' : ℕ) (c' : List (List ℕ)) : Type 0 where
  pub va : a % 128 ≡ a' % 128
  pub out : s + a' ≡ s' + a
  pub vr : r % 128 ≡ r' % 128
  pub queue : drop a c ≡ drop a' c'
  pub sent : a ≤ s
  pub there : s ≤ length c
  pub sent' : a' ≤ s'
  pub there' : s' ≤ length c'

abbrev pub AreSameNumbers : Link → Link → Type 0
AreSameNumbers l m = SameNumbers l.a l.s l.r l.contents m.a m.s m.r m.contents

abbrev pub SameSaid : Course → Course → Type 0
SameSaid c d =
    (c.notes ≡ d.notes) × (c.delivered ≡ d.delivered) × (c.unit ≡ d.unit) × (c.sent ≡ d.sent) × (c.started ≡ d.started) × (c.lost ≡ d.lost)
    × (c.unserved ≡ d.unserved) × (c.zeroed ≡ d.zeroed) × (c.given_up ≡ d.given_up)

pub record Alike (c d : Course) : Type 0 where
  pub flags : SameFlags c.link d.link
  pub numbers : AreSameNumbers c.link d.link
  pub said : SameSaid c d

-- Two numbers that an N(R) names, one of each link.
pub record Named (n m : ℕ) (c d : Course) : Type 0 where
  pub alike : Alike c d
  pub from : c.link.a ≤ n
  pub to : n ≤ c.link.s
  pub from' : d.link.a ≤ m
  pub to' : m ≤ d.link.s
  pub by : n + d.link.a ≡ m + c.link.a

-- Where two steps lead from two courses of which this holds.
pub record Leads2 (P : Course → Course → Type 0) (f g : Step) (Q : Course → Course → Type 0) : Type 0 where
  pub leads : (c d : Course) → P c d → Q (f c) (g d)

-- and what two tests tell of them
pub record Tells (P : Course → Course → Type 0) (test test' : Link → Bool) : Type 0 where
  pub tells : (c d : Course) → P c d → test c.link ≡ test' d.link

pub then2 : {P Q R : Course → Course → Type 0} {f f' g g' : Step} → Leads2 P f f' Q → Leads2 Q g g' R → Leads2 P (f then g) (f' then g') R
then2 {f} {f'} x y = record { leads = λ c d h. y.leads (f c) (f' d) (x.leads c d h) }

pub keep2 : {f f' g g' : Step} → Leads2 Alike f f' Alike → Leads2 Alike g g' Alike → Leads2 Alike (f then g) (f' then g') Alike
keep2 x y = then2 x y

pub nothing2 : {P : Course → Course → Type 0} → Leads2 P nothing nothing P
nothing2 = record { leads = λ c d h. h }

two-ways : (Q : Course → Course → Type 0) (b b' : Bool) (u v u' v' : Course) → b ≡ b' → Q u u' → Q v v' → Q (cond b u v) (cond b' u' v')
two-ways Q true true u v u' v' e x y = x
two-ways Q true false u v u' v' e x y = absurd (cc)
two-ways Q false true u v u' v' e x y = absurd (cc)
two-ways Q false false u v u' v' e x y = y

pub depending2 : {P Q : Course → Course → Type 0} {f f' g g' : Step} {test test' : Link → Bool} → Tells P test test' → Leads2 P f f' Q → Leads2 P g g' Q
    → Leads2 P (depending_on test f g) (depending_on test' f' g') Q
depending2 {P} {Q} {f} {f'} {g} {g'} {test} {test'} told x y = record {
  leads = λ c d h. two-ways Q (test c.link) (test' d.link) (f c) (g c) (f' d) (g' d) (told.tells c d h) (x.leads c d h) (y.leads c d h);
}

pub bit2 : {P Q : Course → Course → Type 0} {f f' g g' : Step} (b : Bool) → Leads2 P f f' Q → Leads2 P g g' Q → Leads2 P (by_bit b f g) (by_bit b f' g') Q
bit2 {P} {Q} {f} {f'} {g} {g'} b x y = record { leads = λ c d h. two-ways Q b b (f c) (g c) (f' d) (g' d) refl (x.leads c d h) (y.leads c d h) }

pub read2 : {P Q : Course → Course → Type 0} {f f' g g' : Step} (t : Terms) → Leads2 P f f' Q → Leads2 P g g' Q → Leads2 P (read_as t f g) (read_as t f' g') Q
read2 {P} {Q} {f} {f'} {g} {g'} t x y = record { leads = λ c d h. go c d t.reading (x.leads c d h) (y.leads c d h) }
  where
    go : (c d : Course) (r : Reading) → Q (f c) (f' d) → Q (g c) (g' d) → Q (by_reading r (f c) (g c)) (by_reading r (f' d) (g' d))
    go c d Profile p q = p
    go c d AnnexB p q = q

pub forget : {n m : ℕ} {Q : Course → Course → Type 0} {f g : Step} → Leads2 Alike f g Q → Leads2 (Named n m) f g Q
forget x = record { leads = λ c d h. x.leads c d h.alike }

-- Words that tell.
pub note2 : (n : Note) → Leads2 Alike (note n) (note n) Alike
note2 n = record {
  leads = λ c d h. record {
    flags = h.flags;
    numbers = h.numbers;
    said =
        (ap (λ (ns : List Note). ns ++ n ∷ []) h.said.0, h.said.1, h.said.2, h.said.3, h.said.4, h.said.5, h.said.6, h.said.7, h.said.8);
  };
}

pub deliver2 : (t : Terms) (octets : List ℕ) → Leads2 Alike (deliver t octets) (deliver t octets) Alike
deliver2 t octets = record {
  leads = λ c d h. record {
    flags = h.flags;
    numbers = h.numbers;
    said =
        (ap (λ (ns : List Note). ns ++ notes.Data t.service t.tei ∷ []) h.said.0, refl, h.said.2, h.said.3, h.said.4, h.said.5, h.said.6, h.said.7, h.said.8);
  };
}

pub deliver_unit2 : (t : Terms) (octets : List ℕ) → Leads2 Alike (deliver_unit t octets) (deliver_unit t octets) Alike
deliver_unit2 t octets = record {
  leads = λ c d h. record {
    flags = h.flags;
    numbers = h.numbers;
    said =
        (ap (λ (ns : List Note). ns ++ notes.Unit t.service t.tei ∷ []) h.said.0, h.said.1, refl, h.said.3, h.said.4, h.said.5, h.said.6, h.said.7, h.said.8);
  };
}

pub unserved2 : Leads2 Alike leave_unserved leave_unserved Alike
unserved2 = record { leads = λ c d h. record { flags = h.flags; numbers = h.numbers; said = (h.said.0, h.said.1, h.said.2, h.said.3, h.said.4, h.said.5, refl, h.said.7, h.said.8) } }

-- Flags, RC, the state and timers.
pub peer_busy2 : (b : Bool) → Leads2 Alike (peer_busy_is b) (peer_busy_is b) Alike
peer_busy2 b = record { leads = λ c d h. let f = h.flags in record { flags = (f.0, refl, f.2, f.3, f.4, f.5, f.6, f.7, f.8, f.9, f.10, f.11); numbers = h.numbers; said = h.said } }

pub own_busy2 : (b : Bool) → Leads2 Alike (own_busy_is b) (own_busy_is b) Alike
own_busy2 b = record { leads = λ c d h. let f = h.flags in record { flags = (f.0, f.1, refl, f.3, f.4, f.5, f.6, f.7, f.8, f.9, f.10, f.11); numbers = h.numbers; said = h.said } }

pub rejecting2 : (b : Bool) → Leads2 Alike (rejecting_is b) (rejecting_is b) Alike
rejecting2 b = record { leads = λ c d h. let f = h.flags in record { flags = (f.0, f.1, f.2, refl, f.4, f.5, f.6, f.7, f.8, f.9, f.10, f.11); numbers = h.numbers; said = h.said } }

pub pending2 : (b : Bool) → Leads2 Alike (pending_is b) (pending_is b) Alike
pending2 b = record { leads = λ c d h. let f = h.flags in record { flags = (f.0, f.1, f.2, f.3, refl, f.5, f.6, f.7, f.8, f.9, f.10, f.11); numbers = h.numbers; said = h.said } }

pub asked2 : (b : Bool) → Leads2 Alike (asked_is b) (asked_is b) Alike
asked2 b = record { leads = λ c d h. let f = h.flags in record { flags = (f.0, f.1, f.2, f.3, f.4, refl, f.6, f.7, f.8, f.9, f.10, f.11); numbers = h.numbers; said = h.said } }

pub owed2 : (b : Bool) → Leads2 Alike (owed_is b) (owed_is b) Alike
owed2 b = record { leads = λ c d h. let f = h.flags in record { flags = (f.0, f.1, f.2, f.3, f.4, f.5, f.6, f.7, f.8, f.9, f.10, refl); numbers = h.numbers; said = h.said } }

pub repeats2 : (n : ℕ) → Leads2 Alike (repeats_are n) (repeats_are n) Alike
repeats2 n = record { leads = λ c d h. let f = h.flags in record { flags = (f.0, f.1, f.2, f.3, f.4, f.5, refl, f.7, f.8, f.9, f.10, f.11); numbers = h.numbers; said = h.said } }

pub repeated2 : Leads2 Alike repeated repeated Alike
repeated2 = record { leads = λ c d h. let f = h.flags in record { flags = (f.0, f.1, f.2, f.3, f.4, f.5, ap (λ (n : ℕ). n + 1) f.6, f.7, f.8, f.9, f.10, f.11); numbers = h.numbers; said = h.said } }

pub enter2 : (s : State) → Leads2 Alike (enter s) (enter s) Alike
enter2 s = record { leads = λ c d h. let f = h.flags in record { flags = (refl, f.1, f.2, f.3, f.4, f.5, f.6, f.7, f.8, f.9, f.10, f.11); numbers = h.numbers; said = h.said } }

pub clear2 : Leads2 Alike clear_flags clear_flags Alike
clear2 = record { leads = λ c d h. let f = h.flags in record { flags = (f.0, refl, refl, refl, refl, f.5, f.6, f.7, f.8, f.9, f.10, f.11); numbers = h.numbers; said = h.said } }

pub start2 : (timer : LinkTimer) → Leads2 Alike (start timer) (start timer) Alike
start2 timer = record {
  leads = λ c d h. let f = h.flags in let w = h.said in
      record { flags = (f.0, f.1, f.2, f.3, f.4, f.5, f.6, refl, f.8, f.9, f.10, f.11); numbers = h.numbers; said = (w.0, w.1, w.2, w.3, refl, w.5, w.6, w.7, w.8) };
}

pub no_timer2 : Leads2 Alike no_timer no_timer Alike
no_timer2 = record {
  leads = λ c d h. let f = h.flags in let w = h.said in
      record { flags = (f.0, f.1, f.2, f.3, f.4, f.5, f.6, refl, f.8, f.9, f.10, f.11); numbers = h.numbers; said = (w.0, w.1, w.2, w.3, refl, w.5, w.6, w.7, w.8) };
}

-- What is counted.
pub count2 : (change : LinkCounts → LinkCounts) → Leads2 Alike (count change) (count change) Alike
count2 change = record { leads = λ c d h. let f = h.flags in record { flags = (f.0, f.1, f.2, f.3, f.4, f.5, f.6, f.7, f.8, f.9, ap change f.10, f.11); numbers = h.numbers; said = h.said } }

-- Numbers and contents.
queue-on : (c d : List (List ℕ)) (a b n m : ℕ) → a ≤ n → b ≤ m → n + b ≡ m + a → drop a c ≡ drop b d → drop n c ≡ drop m d
queue-on c d a b n m from from' by same =
    let more : ℕ = n - a in
    let one : a + more ≡ n = omega (arith, from) in
    let other : b + more ≡ m = omega (arith, from, from', by) in
    sym (ap (λ (k : ℕ). drop k c) one) ∙ sym (drop-drop more a c) ∙ ap (λ (q : List (List ℕ)). drop more q) same ∙ drop-drop more b d ∙ ap (λ (k : ℕ). drop k d) other

nothing-kept : (c : List (List ℕ)) (a : ℕ) → a ≤ length c → drop a (take a c) ≡ []
nothing-kept c a few = drop_all a (take a c) (omega (arith, length-take-le a c few))

pub reset2 : Leads2 Alike reset_numbers reset_numbers Alike
reset2 = record {
  leads = λ c d h. let f = h.flags in let w = h.said in let n = h.numbers in record {
    flags = (f.0, f.1, f.2, f.3, f.4, f.5, f.6, f.7, f.8, refl, f.10, f.11);
    numbers = record {
      va = refl;
      out = refl;
      vr = refl;
      queue = queue-on c.link.contents d.link.contents c.link.a d.link.a c.link.s d.link.s n.sent n.sent' n.out n.queue;
      sent = omega arith;
      there = omega arith;
      sent' = omega arith;
      there' = omega arith;
    };
    said = (w.0, w.1, w.2, w.3, w.4, w.5, w.6, refl, w.8);
  };
}

pub zero2 : Leads2 Alike zero_numbers zero_numbers Alike
zero2 = record { leads = λ c d h. (count2 with_establishment).leads _ _ (reset2.leads c d h) }

-- as many contents are given up
given-up : (c d : Course) → Alike c d → c.given_up + length (queue_of c.link) ≡ d.given_up + length (queue_of d.link)
given-up c d h = λ i. h.said.8 i + length (h.numbers.queue i)

pub discard2 : Leads2 Alike discard discard Alike
discard2 = record {
  leads = λ c d h. let f = h.flags in let n = h.numbers in
      let few : c.link.a ≤ length c.link.contents = omega (arith, n.sent, n.there) in
      let few' : d.link.a ≤ length d.link.contents = omega (arith, n.sent', n.there') in
      record {
        flags = (f.0, f.1, f.2, f.3, f.4, f.5, f.6, f.7, f.8, refl, f.10, f.11);
        numbers = record {
          va = n.va;
          out = omega arith;
          vr = n.vr;
          queue = nothing-kept c.link.contents c.link.a few ∙ sym (nothing-kept d.link.contents d.link.a few');
          sent = omega arith;
          there = omega (arith, length-take-le c.link.a c.link.contents few);
          sent' = omega arith;
          there' = omega (arith, length-take-le d.link.a d.link.contents few');
        };
        said = (h.said.0, h.said.1, h.said.2, h.said.3, h.said.4, h.said.5, h.said.6, h.said.7, given-up c d h);
      };
}

pub acknowledge2 : (n m : ℕ) → Leads2 (Named n m) (acknowledge n) (acknowledge m) (Named n m)
acknowledge2 n m = record {
  leads = λ c d h. let k = h.alike.numbers in record {
    alike = record {
      flags = h.alike.flags;
      numbers = record {
        va = omega (arith, k.va, h.by, h.from, h.from');
        out = omega (arith, k.out, h.by);
        vr = k.vr;
        queue = queue-on c.link.contents d.link.contents c.link.a d.link.a n m h.from h.from' h.by k.queue;
        sent = h.to;
        there = k.there;
        sent' = h.to';
        there' = k.there';
      };
      said = h.alike.said;
    };
    from = omega arith;
    to = h.to;
    from' = omega arith;
    to' = h.to';
    by = omega arith;
  };
}

pub send_again2 : (n m : ℕ) → Leads2 (Named n m) (send_again_from n) (send_again_from m) (Named n m)
send_again2 n m = record {
  leads = λ c d h. let f = h.alike.flags in let k = h.alike.numbers in
      let back : c.link.s - n ≡ d.link.s - m = omega (arith, h.by, h.to, h.to', k.out) in
      record {
        alike = record {
          flags = (f.0, f.1, f.2, f.3, f.4, f.5, f.6, f.7, f.8, λ i. min (f.9 i + back i) 255, f.10, f.11);
          numbers = record {
            va = k.va;
            out = h.by;
            vr = k.vr;
            queue = k.queue;
            sent = h.from;
            there = omega (arith, h.to, k.there);
            sent' = h.from';
            there' = omega (arith, h.to', k.there');
          };
          said = h.alike.said;
        };
        from = h.from;
        to = omega arith;
        from' = h.from';
        to' = omega arith;
        by = h.by;
      };
}

pub alike_then : {n m : ℕ} {f g : Step} → Leads2 (Named n m) f g (Named n m) → Leads2 (Named n m) f g Alike
alike_then {n} {m} {f} {g} x = record { leads = λ c d h. (x.leads c d h).alike }

pub received2 : Leads2 Alike count_received count_received Alike
received2 = record {
  leads = λ c d h. let k = h.numbers in record {
    flags = h.flags;
    numbers = record { va = k.va; out = k.out; vr = omega (arith, k.vr); queue = k.queue; sent = k.sent; there = k.there; sent' = k.sent'; there' = k.there' };
    said = h.said;
  };
}

pub anew2 : Leads2 Alike begin_anew begin_anew Alike
anew2 = record {
  leads = λ c d h. let w = h.said in record {
    flags = (refl, refl, refl, refl, refl, refl, refl, refl, refl, refl, refl, refl);
    numbers = record { va = refl; out = refl; vr = refl; queue = refl; sent = omega arith; there = omega arith; sent' = omega arith; there' = omega arith };
    said = (w.0, w.1, w.2, w.3, refl, w.5, w.6, refl, given-up c d h);
  };
}

pub data2 : (octets : List ℕ) → Leads2 Alike (data_in_7_8 octets) (data_in_7_8 octets) Alike
data2 octets = record {
  leads = λ c d h. let k = h.numbers in
      let few : c.link.a ≤ length c.link.contents = omega (arith, k.sent, k.there) in
      let few' : d.link.a ≤ length d.link.contents = omega (arith, k.sent', k.there') in
      record {
        flags = h.flags;
        numbers = record {
          va = k.va;
          out = k.out;
          vr = k.vr;
          queue = drop-append-le c.link.a c.link.contents (octets ∷ []) few ∙ ap (λ (q : List (List ℕ)). q ++ octets ∷ []) k.queue ∙ sym (drop-append-le d.link.a d.link.contents (octets ∷ []) few');
          sent = k.sent;
          there = omega (arith, k.there, length-append c.link.contents (octets ∷ []));
          sent' = k.sent';
          there' = omega (arith, k.there', length-append d.link.contents (octets ∷ []));
        };
        said = h.said;
      };
}

-- Frames that wait.
send-same : (t : Terms) (f g : ControlFrame) (c d : Course) → f ≡ g → Alike c d → Alike (send t f c) (send t g d)
send-same t f g c d e h = let k = h.flags in let w = h.said in record {
  flags = (k.0, k.1, k.2, k.3, k.4, k.5, k.6, k.7, λ i. cond (nat_lt (length (k.8 i)) t.control) (k.8 i ++ e i ∷ []) (k.8 i), k.9, k.10, k.11);
  numbers = h.numbers;
  said = (w.0, w.1, w.2, w.3, w.4, λ i. cond {A = ℕ} (nat_lt (length (k.8 i)) t.control) (w.5 i) (w.5 i + 1), w.6, w.7, w.8);
}

pub send2 : (t : Terms) (f : ControlFrame) → Leads2 Alike (send t f) (send t f) Alike
send2 t f = record { leads = λ c d h. send-same t f f c d refl h }

-- the same sequence number
pub seq-same : (a b : ℕ) → a % 128 ≡ b % 128 → seq a ≡ seq b
seq-same a b e = is_seq (seq a) b (seq-value (seq a) a refl ∙ e)

status-same : (pf : Bool) (c d : Course) → Alike c d → rr_or_rnr pf c.link ≡ rr_or_rnr pf d.link
status-same pf c d h =
    let number : seq c.link.r ≡ seq d.link.r = seq-same c.link.r d.link.r h.numbers.vr in
    λ i. cond (h.flags.2 i) (ReceiveNotReady (number i) pf) (ReceiveReady (number i) pf)

pub enquire2 : (t : Terms) → Leads2 Alike (enquire t) (enquire t) Alike
enquire2 t = record { leads = λ c d h. (pending2 false).leads _ _ (send-same t _ _ c d (ap command (status-same true c d h)) h) }

pub answer2 : (t : Terms) → Leads2 Alike (answer t) (answer t) Alike
answer2 t = record { leads = λ c d h. (pending2 false).leads _ _ (send-same t _ _ c d (ap response (status-same true c d h)) h) }

pub report2 : (t : Terms) → Leads2 Alike (report_receiver_status t) (report_receiver_status t) Alike
report2 t = record { leads = λ c d h. (pending2 false).leads _ _ (send-same t _ _ c d (ap response (status-same false c d h)) h) }

pub reject2 : (t : Terms) (f : Bool) → Leads2 Alike (reject t f) (reject t f) Alike
reject2 t f = record {
  leads = λ c d h.
      let number : seq c.link.r ≡ seq d.link.r = seq-same c.link.r d.link.r h.numbers.vr in
      (pending2 false).leads _ _ (send-same t (response (Reject (seq c.link.r) f)) (response (Reject (seq d.link.r) f)) c d (λ i. response (Reject (number i) f)) h);
}
