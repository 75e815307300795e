-- A link is read from an image.
use Rattle.lapd_link.proofs.Vocabulary.{◌≡◌, false, ℕ, zero, suc, ◌+◌, ◌-◌, ◌≤◌, Bool, List, [], ◌++◌, length, drop, Option, arith, refl, ap, sym, subst, ◌∙◌, length-append, length-drop, Terms, Keeps, SameLimits, Stays, Store, Link, queue_of, slots_of, terms_of, Entity, Rests, IsInRange, IsSound, State, ControlFrame, LinkTimer}
use Rattle.std.proofs.Common.{append_assoc, inl, inr, replicate}
use Rattle.std.proofs.lemmas.List.{length-replicate}
use Rattle.std.proofs.lemmas.List.Elements.{All-append, All-drop, All-replicate}
use Rattle.std.specs.Prelude.{All}
use Rattle.lapd_frame.specs.declared.readings.Reading.TheVariants.{AnnexB}
use Rattle.lapd_image.proofs.Reading.{front-read, list-read}
use Rattle.lapd_image.specs.Numbers.{contents, list_of}
use Rattle.lapd_image.specs.Reads.{IsReadAs}
use Rattle.lapd_link.proofs.ReadContents.{each-read}
use Rattle.lapd_link.specs.Image.{AreContents, Becomes, IsContents, IsSaved, Takes}
use Rattle.lapd_link_steps.proofs.ControlFrames.{is_waiting, may_wait}
use Rattle.lapd_link_steps.proofs.Image.{head-length}
use Rattle.lapd_link_steps.specs.Image.{AreWaiting, IsFit, IsSettled, IsSmall, head, restored}
use Rattle.lapd_link_steps.specs.Image as image
use Rattle.lapd_seq.proofs.Callers.{is_seq}
use Rattle.lapd_seq.proofs.Remainders.{numbers-of}
use Rattle.lapd_seq.specs.Windows.{outstanding_of, va_of}
use Rattle.model_bits.specs.StuffingLaws.{AreOctets}
use Rattle.model_link.proofs.ImageRead.{link-read, small}
use Rattle.model_link.specs.Image.{control_frame, link}
use Rattle.model_link.specs.Same.{IsSameLink}
use Rattle.model_link.specs.Link as machine
use Rattle.model_link.specs.declared.states.State.TheVariants.{TeiAssigned, AwaitingEstablishment, AwaitingRelease, Established, TimerRecovery}
use Rattle.model_link.specs.Sound.{IsOwing, IsSettledIn}
use Rattle.model_link.specs.Timed.{IsTimed, IsTimedIn}

-- What follows a head that was read, if the image of a link is there.
module _ {front now : List ℕ} (l m : machine.Link) (rest : List ℕ) (read : front ≡ head l ++ now) (e : front ≡ link m ++ rest) where
  pub after-head : now ≡ list_of contents (queue_of m) ++ (list_of control_frame m.waiting ++ rest)
  after-head =
      (front-read (head l) (head m) now ((list_of contents (queue_of m) ++ list_of control_frame m.waiting) ++ rest)
      (head-length l ∙ sym (head-length m)) (sym read ∙ e ∙ append_assoc (head m) (list_of contents (queue_of m) ++ list_of control_frame m.waiting) rest)).1
      ∙ append_assoc (list_of contents (queue_of m)) (list_of control_frame m.waiting) rest

  -- And what follows the contents.
  pub after-queue : {t : Terms} {free : ℕ} (messages : List (List ℕ)) {second : List ℕ} → t.n201 ≤ 260 → IsReadAs (list_of contents) (AreContents t free) messages now second
      → AreContents t free (queue_of m) → second ≡ list_of control_frame m.waiting ++ rest
  after-queue {t} messages {second} low queue also =
      (list-read (IsContents t.n201) contents (each-read (omega (arith, low))) messages (queue_of m) second (list_of control_frame m.waiting ++ rest) queue.saved.each also.each
      (sym queue.octets ∙ after-head)).1

-- What a link that may be saved has queued may be kept.
pub contents-saved : {t : Terms} {m : machine.Link} (used slots : ℕ) → IsSaved t m → used + length (queue_of m) ≤ slots → AreContents t (slots - used) (queue_of m)
contents-saved {t} {m} used slots saved room = record {
  queue = saved.sound.queue;
  pool = omega (arith, room);
  each = λ k d h. record { size = All-drop (λ (c : List ℕ). length c ≤ t.n201) m.a m.contents saved.sound.sizes k d h; octets = saved.octets k d h };
}

pub waiting-saved : {t : Terms} {m : machine.Link} {capacity : ℕ} → capacity ≡ t.control → IsSaved t m → AreWaiting capacity m.waiting
waiting-saved {m = m} same saved = record {
  room = omega (arith, same, saved.sound.ring);
  each = λ k d h. may_wait (saved.sound.frames k d h);
}

-- What is fit of a link that may be saved.
abbrev Fit : Terms → machine.Link → Type 0
Fit t m = IsFit t (length (queue_of m)) (machine.outstanding m) m.again m.state m.own_busy m.pending m.asked m.owed m.repeats m.running

settled-fit : (state : State) (m : machine.Link) → IsSettledIn state m → IsSettled state m.asked (length (queue_of m))
settled-fit TeiAssigned m is = omega (arith, length-drop m.a m.contents, is)
settled-fit AwaitingEstablishment m is = λ on. omega (arith, length-drop m.a m.contents, is on)
settled-fit AwaitingRelease m is = omega (arith, length-drop m.a m.contents, is)
settled-fit Established m is = tt
settled-fit TimerRecovery m is = tt

timed-fit : (state : State) (m : machine.Link) → IsTimedIn state m → image.IsTimed state m.running (machine.outstanding m)
timed-fit TeiAssigned m is = is
timed-fit AwaitingEstablishment m is = is
timed-fit AwaitingRelease m is = is
timed-fit Established m (inl t) = inl t
timed-fit Established m (inr t) = inr (t.0, omega (arith, t.1))
timed-fit TimerRecovery m is = is

release-fit : {t : Terms} (m : machine.Link) → IsOwing t m → (m.state ≡ AwaitingEstablishment) × (t.reading ≡ AnnexB) × (m.asked ≡ false) × (length (queue_of m) ≡ 0)
release-fit m owing = (owing.state, owing.reading, owing.asked, omega (arith, length-drop m.a m.contents, owing.queue))

pub fit-saved : {t : Terms} {m : machine.Link} → IsSaved t m → Fit t m
fit-saved {t} {m} saved = record {
  accepted = omega (arith, length-drop m.a m.contents, saved.sound.again, saved.sound.ordered);
  within = omega (arith, saved.sound.within);
  settled = settled-fit m.state m saved.sound.settled;
  owes_nothing = saved.sound.owes_nothing;
  release = λ on. release-fit m (saved.sound.owed on);
  repeats = saved.sound.repeats;
  timed = timed-fit m.state m saved.timed.timer;
}

pub fit-same : {t : Terms} {l m : machine.Link} → IsSameLink l m → Fit t m → Fit t l
fit-same {t} {l} {m} same fit =
    subst (λ (x : Type 0). x)
    (λ i. IsFit t (length (sym same.queue i)) (sym same.sent i) (sym same.again i) (sym same.state i) (sym same.own_busy i) (sym same.pending i) (sym same.asked i) (sym same.owed i) (sym same.repeats i) (sym same.running i)) fit

-- A link of which all parts are read.
pub queue-restored : (n : ℕ) (queue : List (List ℕ)) → drop n (replicate n [] ++ queue) ≡ queue
queue-restored zero queue = refl
queue-restored (suc n) queue = queue-restored n queue

pub record IsRead (t : Terms) (free : ℕ) (e : Entity) (messages : List (List ℕ)) (front rest : List ℕ) : Type 0 where
  pub octets : front ≡ link (restored e messages) ++ rest
  pub queue : AreContents t free messages
  pub waiting : AreWaiting t.control e.waiting.items

pub whole-read : {t : Terms} {free : ℕ} {front first second rest : List ℕ} (e e' : Entity) (messages : List (List ℕ)) → front ≡ head (restored e []) ++ first
    → IsReadAs (list_of contents) (AreContents t free) messages first second → IsReadAs (list_of control_frame) (AreWaiting t.control) e'.waiting.items second rest
    → e' ≡ record e { waiting = e'.waiting } → IsRead t free e' messages front rest
whole-read {rest = rest} e e' messages read queue ring kept =
    let waiting : List ℕ = list_of control_frame e'.waiting.items in
    let l : machine.Link = restored e' messages in
    let others =
    queue.octets ∙ ap (λ (o : List ℕ). list_of contents messages ++ o) ring.octets ∙ sym (append_assoc (list_of contents messages) waiting rest)
    ∙ ap (λ (q : List (List ℕ)). (list_of contents q ++ waiting) ++ rest) (sym (queue-restored l.a messages)) in
    record {
      octets =
          read ∙ (λ i. ap (λ (x : Entity). head (restored x messages)) (sym kept) i ++ others i)
          ∙ sym (append_assoc (head l) (list_of contents (queue_of l) ++ waiting) rest);
      queue = queue.saved;
      waiting = ring.saved;
    }

-- It is sound, and its timer is that of its state.
sizes-read : {t : Terms} {free : ℕ} (n : ℕ) (messages : List (List ℕ)) → AreContents t free messages → All (λ c. length c ≤ t.n201) (replicate n [] ++ messages)
sizes-read {t} n messages queue =
    All-append (λ (c : List ℕ). length c ≤ t.n201) (replicate n []) messages
    (All-replicate (λ (c : List ℕ). length c ≤ t.n201) n [] (omega arith)) (λ k d h. (queue.each k d h).size)

none-queued : (n : ℕ) (queue : List (List ℕ)) → length queue ≡ 0 → length (replicate n [] ++ queue) ≡ n
none-queued n queue none = omega (arith, length-append (replicate n []) queue, length-replicate {A = List ℕ} n [], none)

fit-settled : (e : Entity) (messages : List (List ℕ)) (state : State) → IsSettled state e.asked (length messages) → IsSettledIn state (restored e messages)
fit-settled e messages TeiAssigned is = none-queued (va_of e.window).value messages is
fit-settled e messages AwaitingEstablishment is = λ on. none-queued (va_of e.window).value messages (is on)
fit-settled e messages AwaitingRelease is = none-queued (va_of e.window).value messages is
fit-settled e messages Established is = tt
fit-settled e messages TimerRecovery is = tt

fit-timed : (e : Entity) (messages : List (List ℕ)) (state : State) → image.IsTimed state e.running (outstanding_of e.window) → IsTimedIn state (restored e messages)
fit-timed e messages TeiAssigned is = is
fit-timed e messages AwaitingEstablishment is = is
fit-timed e messages AwaitingRelease is = is
fit-timed e messages Established (inl t) = inl t
fit-timed e messages Established (inr t) = inr (t.0, omega (arith, t.1))
fit-timed e messages TimerRecovery is = is

module _ {t : Terms} {free : ℕ} (e : Entity) {messages : List (List ℕ)} (range : IsInRange t) (queue : AreContents t free messages) (ring : AreWaiting t.control e.waiting.items)
    (fit : IsFit t (length messages) (outstanding_of e.window) e.again e.state e.own_busy e.pending e.asked e.owed e.repeats e.running) where
  owing-read : (e.state ≡ AwaitingEstablishment) × (t.reading ≡ AnnexB) × (e.asked ≡ false) × (length messages ≡ 0) → IsOwing t (restored e messages)
  owing-read h = record { state = h.0; reading = h.1; asked = h.2; queue = none-queued (va_of e.window).value messages h.3 }

  pub sound-read : IsSound t (restored e messages)
  sound-read =
      let va : ℕ = (va_of e.window).value in
      let size = length-append (replicate va []) messages in
      record {
        ordered = omega arith;
        accepted = omega (arith, size, length-replicate {A = List ℕ} va [], fit.accepted);
        again = omega (arith, size, length-replicate {A = List ℕ} va [], fit.accepted);
        within = omega (arith, fit.within);
        settled = fit-settled e messages e.state fit.settled;
        queue = omega (arith, ap (λ (q : List (List ℕ)). length q) (queue-restored va messages), queue.queue);
        ring = ring.room;
        owes_nothing = fit.owes_nothing;
        owed = λ on. owing-read (fit.release on);
        repeats = fit.repeats;
        sizes = sizes-read va messages queue;
        frames = λ k d h. is_waiting range.tei (ring.each k d h);
      }

  pub timed-read : IsTimed (restored e messages)
  timed-read = record { timer = fit-timed e messages e.state fit.timed }

  -- An entity rests for the link that is read.
  pub rests-read : e.waiting.capacity ≡ t.control → Rests t e (restored e messages)
  rests-read capacity = record {
    window = numbers-of e.window.va e.window.vs (omega (arith, fit.within, range.k_high));
    received = is_seq e.vr e.vr.value (omega (arith, e.vr.in_range));
    ring = capacity;
    is = refl;
  }

  pub saved-read : IsSmall e → IsSaved t (restored e messages)
  saved-read low = record {
    sound = sound-read;
    timed = timed-read;
    counts = low.counts;
    octets = subst (λ (q : List (List ℕ)). All AreOctets q) (sym (queue-restored (va_of e.window).value messages)) (λ k d h. (queue.each k d h).octets);
  }

-- The link stands for it.
pub becomes-read : {old new : Link} {s u : Store} {free : ℕ} {messages : List (List ℕ)} {front rest : List ℕ} → Takes free messages front rest old s new u → AreWaiting (terms_of old).control new.entity.waiting.items
    → IsFit (terms_of old) (length messages) (outstanding_of new.entity.window) new.entity.again new.entity.state new.entity.own_busy new.entity.pending new.entity.asked new.entity.owed new.entity.repeats new.entity.running
    → new.entity.waiting.capacity ≡ old.entity.waiting.capacity → Stays old new → SameLimits s u → Becomes (restored new.entity messages) old s new u
becomes-read {old} {new} {s} {u} {messages = messages} takes ring fit capacity stays limits = record {
  stands = λ others fresh.
      let t = terms_of old in
      let l : machine.Link = restored new.entity messages in
      record {
        fits = record {
          range = subst IsInRange (sym stays.terms) fresh.fits.range;
          sound = subst (λ (x : Terms). IsSound x l) (sym stays.terms) (sound-read new.entity fresh.fits.range takes.read.saved ring fit);
          rests = subst (λ (x : Terms). Rests x new.entity l) (sym stays.terms) (rests-read new.entity fresh.fits.range takes.read.saved ring fit (capacity ∙ fresh.fits.rests.ring));
          capacity = stays.capacity ∙ fresh.fits.capacity ∙ ap (λ (x : Terms). x.queue) (sym stays.terms);
        };
        wide = omega (arith, fresh.wide, limits.width, ap (λ (x : Terms). x.n201) stays.terms);
        kept = subst (λ (q : List (List ℕ)). Keeps u (slots_of new) q others) (sym (queue-restored l.a messages)) (takes.kept others fresh.kept);
      };
}

-- What is read is fit where a link that may be saved is there.
pub fit-as : {t t' : Terms} {n n' sent again : ℕ} {state : State} {own pending asked owed : Bool} {rc : ℕ} {running : Option LinkTimer} → t ≡ t' → n ≡ n'
    → IsFit t n sent again state own pending asked owed rc running → IsFit t' n' sent again state own pending asked owed rc running
fit-as {sent = sent} {again} {state} {own} {pending} {asked} {owed} {rc} {running} terms many fit =
    subst (λ (x : Type 0). x) (λ i. IsFit (terms i) (many i) sent again state own pending asked owed rc running) fit

pub fit-read : {t : Terms} {free : ℕ} {e : Entity} {messages : List (List ℕ)} {front rest : List ℕ} {m : machine.Link} (after : List ℕ) → IsInRange t → IsRead t free e messages front rest
    → IsSmall e → IsSaved t m → front ≡ link m ++ after → IsFit t (length messages) (outstanding_of e.window) e.again e.state e.own_busy e.pending e.asked e.owed e.repeats e.running
fit-read {t} {e = e} {messages} {rest = rest} {m} after range read low saved is =
    let l : machine.Link = restored e messages in
    let same : IsSameLink l m =
    (link-read l m rest after (small l t.n201 range.n201_high (sizes-read l.a messages read.queue) low.counts)
    (small m t.n201 range.n201_high saved.sound.sizes saved.counts) (sym read.octets ∙ is)).0 in
    let sent : machine.outstanding l ≡ outstanding_of e.window = omega arith in
    subst (λ (x : Type 0). x)
    (λ i. IsFit t (length (queue-restored l.a messages i)) (sent i) e.again e.state e.own_busy e.pending e.asked e.owed e.repeats e.running) (fit-same same (fit-saved saved))

-- Of an entity of which only what waits has changed.
pub kept-as : {e e' e'' : Entity} → e' ≡ e → e'' ≡ record e' { waiting = e''.waiting } → e'' ≡ record e { waiting = e''.waiting }
kept-as {e'' = e''} same kept = kept ∙ ap (λ (x : Entity). record x { waiting = e''.waiting }) same

pub small-as : {e e' e'' : Entity} → e' ≡ e → e'' ≡ record e' { waiting = e''.waiting } → IsSmall e → IsSmall e''
small-as {e} {e'} {e''} same kept low =
    subst IsSmall (sym (kept-as same kept)) (record { again = low.again; counts = low.counts })

pub ring-as : {n n' : ℕ} {frames : List ControlFrame} {front rest : List ℕ} → n ≡ n' → IsReadAs (list_of control_frame) (AreWaiting n) frames front rest → IsReadAs (list_of control_frame) (AreWaiting n') frames front rest
ring-as {frames = frames} {front} {rest} same = subst (λ (n : ℕ). IsReadAs (list_of control_frame) (AreWaiting n) frames front rest) same
