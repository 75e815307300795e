-- Links that stand for links of the machine stand for any that are the same.
use Rattle.std.proofs.Common.{arith, ◌≡◌, ℕ, suc, ◌+◌, ◌%◌, ◌≤◌, ◌++◌, List, [], ◌∷◌, length, get_or, Some, false, refl, sym, ap, ◌∙◌, subst}
use Rattle.std.specs.Prelude.{is_some, slice_get}
use Rattle.std.specs.List.{All, zip}
use Rattle.std.specs.Option.{option_map_or}
use Rattle.std.proofs.lemmas.List.Elements.{All-cons, All-head, All-nil, All-tail}
use Rattle.lapd_link.specs.declared.link.Link.{Link}
use Rattle.lapd_link.specs.Stands.{slots_of, terms_of}
use Rattle.lapd_link_steps.specs.Done.{Rests}
use Rattle.lapd_link_steps.specs.declared.entity.Entity.{Entity}
use Rattle.lapd_line.specs.Awake.{AreAwake, gives_at}
use Rattle.lapd_line.specs.Links.{LinkFits, links_pairs, machine_at, terms_in}
use Rattle.lapd_line.specs.Marks.{IsMark}
use Rattle.lapd_line.specs.declared.marks.Marks.{Marks}
use Rattle.lapd_store.specs.Ownership.{pairs_of}
use Rattle.model_image.proofs.GoOn.{seq-same}
use Rattle.model_image.proofs.GoOnEvents.{IsAlike, offers-same}
use Rattle.model_image.proofs.GoOnLines.{AreAlike}
use Rattle.model_line.specs.declared.config.Config.{Config}
use Rattle.model_link.specs.Link as machine
use Rattle.model_link.specs.Sound.{IsSound}
use Rattle.model_link.specs.declared.terms.Terms.{Terms}

-- V(S), too
sent-same : (l u : machine.Link) → IsAlike l u → l.s % 128 ≡ u.s % 128
sent-same l u alike = omega (arith, alike.same.va, alike.same.sent, alike.sent, alike.sent')

rests-same : (t : Terms) (e : Entity) (l u : machine.Link) → IsAlike l u → l.s ≤ l.a + 127 → Rests t e u → Rests t e l
rests-same t e l u alike within h =
    let same = alike.same in
    let is = h.is in
    record {
      window = record {
        ordered = alike.sent;
        within = within;
        acknowledged = h.window.acknowledged ∙ seq-same u.a l.a (sym same.va);
        sent = h.window.sent ∙ seq-same u.s l.s (sym (sent-same l u alike));
      };
      received = h.received ∙ seq-same u.r l.r (sym same.vr);
      ring = h.ring;
      is = λ i. record {
        state = (ap (λ (x : machine.Link). x.state) is ∙ sym same.state) i;
        contents = l.contents;
        a = l.a;
        s = l.s;
        r = l.r;
        again = (ap (λ (x : machine.Link). x.again) is ∙ sym same.again) i;
        peer_busy = (ap (λ (x : machine.Link). x.peer_busy) is ∙ sym same.peer_busy) i;
        own_busy = (ap (λ (x : machine.Link). x.own_busy) is ∙ sym same.own_busy) i;
        rejecting = (ap (λ (x : machine.Link). x.rejecting) is ∙ sym same.rejecting) i;
        pending = (ap (λ (x : machine.Link). x.pending) is ∙ sym same.pending) i;
        asked = (ap (λ (x : machine.Link). x.asked) is ∙ sym same.asked) i;
        owed = (ap (λ (x : machine.Link). x.owed) is ∙ sym same.owed) i;
        repeats = (ap (λ (x : machine.Link). x.repeats) is ∙ sym same.repeats) i;
        running = (ap (λ (x : machine.Link). x.running) is ∙ sym same.running) i;
        waiting = (ap (λ (x : machine.Link). x.waiting) is ∙ sym same.waiting) i;
        counts = (ap (λ (x : machine.Link). x.counts) is ∙ sym same.counts) i;
      };
    }

-- One link,
fits-same : (c : Config) (link : Link) (l u : machine.Link) → IsAlike l u → IsSound (terms_of link) l → LinkFits c (link, u) → LinkFits c (link, l)
fits-same c link l u alike sound h = record {
  fits = record {
    range = h.fits.range;
    sound = sound;
    rests = rests-same (terms_of link) link.entity l u alike (omega (arith, sound.within, h.fits.range.k_high)) h.fits.rests;
    capacity = h.fits.capacity;
  };
  lengths = h.lengths ∙ ap (λ (q : List (List ℕ)). length q) (sym alike.same.queue);
  narrow = h.narrow;
  queue = h.queue;
  control = h.control;
}

-- and links, each of which is sound where the other is; by their numbers.
abbrev pub AreSoundToo : List Link → List machine.Link → List machine.Link → Type 0
AreSoundToo links ls us =
    (n : ℕ) (link : Link) → slice_get links n ≡ Some link → IsSound (terms_of link) (get_or us n machine.fresh) → IsSound (terms_of link) (get_or ls n machine.fresh)

rest-alike : (l u : machine.Link) (ls us : List machine.Link) → AreAlike (l ∷ ls) (u ∷ us) → AreAlike ls us
rest-alike l u ls us alike = record { count = omega (arith, alike.count); each = λ n. alike.each (suc n) }

pub all-fit : (c : Config) (links : List Link) (ls us : List machine.Link) → AreAlike ls us → AreSoundToo links ls us → All (LinkFits c) (zip links us) → All (LinkFits c) (zip links ls)
all-fit c [] ls us alike sound h = All-nil (LinkFits c)
all-fit c (link ∷ links) [] us alike sound h = All-nil (LinkFits c)
all-fit c (link ∷ links) (l ∷ ls) [] alike sound h = absurd (omega (arith, alike.count))
all-fit c (link ∷ links) (l ∷ ls) (u ∷ us) alike sound h =
    let first : LinkFits c (link, u) = All-head (LinkFits c) (link, u) (zip links us) h in
    All-cons (LinkFits c) (link, l) (zip links ls) (fits-same c link l u (alike.each 0) (sound 0 link refl first.fits.sound) first)
    (all-fit c links ls us (rest-alike l u ls us alike) (λ n. sound (suc n)) (All-tail (LinkFits c) (link, u) (zip links us) h))

-- what they own
pub pairs-same : (links : List Link) (ls us : List machine.Link) → AreAlike ls us → links_pairs links us ≡ links_pairs links ls
pairs-same [] ls us alike = refl
pairs-same (link ∷ links) [] [] alike = refl
pairs-same (link ∷ links) [] (u ∷ us) alike = absurd (omega (arith, alike.count))
pairs-same (link ∷ links) (l ∷ ls) [] alike = absurd (omega (arith, alike.count))
pairs-same (link ∷ links) (l ∷ ls) (u ∷ us) alike =
    let queue = sym (alike.each 0).same.queue in
    let rest = pairs-same links ls us (rest-alike l u ls us alike) in
    λ i. pairs_of (slots_of link) (queue i) ++ rest i

-- and which have something to give.
gives-same : (links : List Link) (ls us : List machine.Link) → AreAlike ls us → (number : ℕ) → gives_at links us number ≡ gives_at links ls number
gives-same links ls us alike number =
    λ i. option_map_or (λ terms. is_some (sym (offers-same terms (machine_at ls number) (machine_at us number) (alike.each number)) i)) (slice_get (terms_in links) number) false

pub awake-same : (marks : Marks) (links : List Link) (ls us : List machine.Link) → AreAlike ls us → AreAwake marks links us → AreAwake marks links ls
awake-same marks links ls us alike h = λ number few. subst (λ b. IsMark marks number b) (gives-same links ls us alike number) (h number few)
