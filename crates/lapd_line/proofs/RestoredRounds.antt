-- The links of a line are read, one after the other.
use Rattle.lapd_line.proofs.Vocabulary.{◌≡◌, ◌≢◌, ℕ, ◌+◌, ◌-◌, ◌<◌, ◌≤◌, zero, suc, List, ◌++◌, length, replicate, set, Option, Some, None, refl, sym, ap, subst, ◌∙◌, arith, append_assoc, ⊎_elim, cases_eq, length-set, get_or-set_same, get_or-set_other, Owned, Store, SameLimits, used_slots, Config, HasTerms, machine_at, LinkLayer, places_of, terms, service_at, link_count, sum_by-cons}
use Rattle.lapd_line.proofs.Vocabulary.{range_with_len}
use Rattle.std.specs.Prelude.{flat_map}
use Rattle.std.proofs.lemmas.List.{length-replicate}
use Rattle.lapd_link.specs.Image as link
use Rattle.lapd_line.specs.ImageParts.{AreSavedLinks, HasNoLinkAt, HasNoLinks, IsSavedAt, LinksAwake, RestoresLink, RestoresLinks, SameButLinks, image_at, images_from, slots_at, slots_from, tei_in}
use Rattle.model_line.specs.Image.{link_if}
use Rattle.model_link.proofs.ImageRead.{link-read, small}
use Rattle.model_link.specs.Link as machine
use Rattle.model_link.specs.Link.{queue_of}
use Rattle.lapd_line.proofs.AwakeSteps.{all_fresh}
use Rattle.lapd_line.proofs.SavedSteps.{images_next}

-- Nothing else has changed, so only these are others.
pub but_links : (old e : LinkLayer) → SameButLinks old e → e ≡ record old { links = e.links; has_frame = e.has_frame }
but_links old e same = λ i. record { config = same.config i; teis = same.teis i; links = e.links; units = same.units i; turn = same.turn i; has_frame = e.has_frame }

-- the images of links of which these are the same
images_same : (f g : ℕ → List ℕ) (a n : ℕ) → ((k : ℕ) → k < a + n → f k ≡ g k) → flat_map f (range_with_len a n) ≡ flat_map g (range_with_len a n)
images_same f g a zero same = refl
images_same f g a (suc n) same =
    let here : f a ≡ g a = same a (omega arith) in
    let rest = images_same f g (a + 1) n (λ k h. same k (omega (arith, h))) in
    λ i. here i ++ rest i

-- What stands at a place is read as one link alone: what it keeps is known, and what follows.
one_read : (c : Config) → c.n201 ≤ 260 → (number : ℕ) (o : Option ℕ) (l m : machine.Link) (r s : List ℕ) → IsSavedAt c number o l → IsSavedAt c number o m → link_if o l ++ r ≡ link_if o m ++ s
    → (queue_of l ≡ queue_of m) × (r ≡ s)
one_read c short number None l m r s saved also e = (ap queue_of (saved ∙ sym also), e)
one_read c short number (Some tei) l m r s saved also e =
    let read = link-read l m r s (small l c.n201 short saved.sound.sizes saved.counts) (small m c.n201 short also.sound.sizes also.counts) e in
    (read.0.queue, read.1)

-- So many were read, those before this number; the others are as they begin.
pub record LinksSoFar (slots : ℕ) (front rest : List ℕ) (old : LinkLayer) (s : Store) (number : ℕ) (new : LinkLayer) (t : Store) : Type 0 where
  pub ms : List machine.Link
  pub many : length ms ≡ link_count old.config
  pub begin : (other : ℕ) → number ≤ other → machine_at ms other ≡ machine.fresh
  pub saved : (other : ℕ) → other < number → IsSavedAt old.config other (tei_in (places_of old.teis) other) (machine_at ms other)
  pub octets : front ≡ images_from (places_of old.teis) ms 0 number ++ rest
  pub stand : (others : List Owned) → LinksAwake old s others (replicate (link_count old.config) machine.fresh) → LinksAwake new t others ms
  pub terms : (other tei : ℕ) → other < number → tei_in (places_of old.teis) other ≡ Some tei → HasTerms new.links.items other (terms old.config (service_at other) tei)
  -- and whatever links stand at the front, of those the others follow, and there is room for their contents
  pub meant : (ls : List machine.Link) (more : List ℕ) (left : ℕ) → AreSavedLinks old.config (places_of old.teis) ls → used_slots s + slots_from ls 0 (link_count old.config) ≤ slots
      → front ≡ images_from (places_of old.teis) ls 0 (link_count old.config) ++ more → number + left ≡ link_count old.config
      → (rest ≡ images_from (places_of old.teis) ls number left ++ more) × (used_slots t + slots_from ls number left ≤ slots)
  pub same : SameButLinks old new
  pub within : used_slots t ≤ slots
  pub limits : SameLimits s t

pub none_yet : {slots : ℕ} {front : List ℕ} {e : LinkLayer} {s : Store} → used_slots s ≤ slots → LinksSoFar slots front front e s 0 e s
none_yet {slots} {front} {e} {s} within = record {
  ms = replicate (link_count e.config) machine.fresh;
  many = length-replicate (link_count e.config) machine.fresh;
  begin = λ other h. all_fresh (link_count e.config) other;
  saved = λ other h. absurd (omega (arith, h));
  octets = refl;
  stand = λ others awake. awake;
  terms = λ other tei h. absurd (omega (arith, h));
  meant = λ ls more left saved room is all.
      let whole : link_count e.config ≡ left = omega (arith, all) in
      (is ∙ ap (λ n. images_from (places_of e.teis) ls 0 n ++ more) whole, subst (λ n. used_slots s + slots_from ls 0 n ≤ slots) whole room);
  same = record { config = refl; teis = refl; units = refl; turn = refl };
  within = within;
  limits = record { slots = refl; width = refl };
}

-- One more was read.
pub one_more : {slots number : ℕ} {front mid rest : List ℕ} {old e new : LinkLayer} {s t u : Store} → old.config.n201 ≤ 260 → LinksSoFar slots front mid old s number e t → number < link_count old.config
    → RestoresLink number (tei_in (places_of e.teis) number) mid rest e t new u → SameButLinks e new → SameLimits t u → used_slots u ≤ slots
    → LinksSoFar slots front rest old s (number + 1) new u
one_more {slots} {number} {front} {mid} {rest} {old} {e} {new} {s} {t} {u} short before few it now limits within =
    let is = but_links old e before.same in
    let places = places_of old.teis in
    let o = tei_in places number in
    let (l, read, becomes) = subst (λ x. RestoresLink number (tei_in (places_of x.teis) number) mid rest x t new u) is it in
    let ms = set before.ms number l in
    let here : machine_at ms number ≡ l = get_or-set_same before.ms number l machine.fresh (omega (arith, few, before.many)) in
    let there : (other : ℕ) → other ≢ number → machine_at ms other ≡ machine_at before.ms other = λ other apart. get_or-set_other before.ms number other l machine.fresh apart in
    let first = images_same (image_at places ms) (image_at places before.ms) 0 number (λ k h. ap (link_if (tei_in places k)) (there k (λ q. omega (arith, q, h)))) in
    let next : image_at places ms number ≡ link_if o l = ap (link_if o) here in
    record {
      ms = ms;
      many = length-set before.ms number l ∙ before.many;
      begin = λ other h. there other (λ q. omega (arith, q, h)) ∙ before.begin other (omega (arith, h));
      saved = λ other h. ⊎_elim
          (λ same. subst (λ k. IsSavedAt old.config k (tei_in places k) (machine_at ms k)) (sym same) (subst (IsSavedAt old.config number o) (sym here) read.saved))
          (λ apart. subst (IsSavedAt old.config other (tei_in places other)) (sym (there other apart)) (before.saved other (omega (arith, h, apart))))
          (cases_eq other number);
      octets =
          before.octets ∙ ap (λ r. images_from places before.ms 0 number ++ r) read.octets ∙ sym (append_assoc (images_from places before.ms 0 number) (link_if o l) rest)
          ∙ (λ i. (sym first i ++ sym next i) ++ rest) ∙ ap (λ x. x ++ rest) (sym (images_next (image_at places ms) 0 number number (omega arith)));
      stand = λ others awake. becomes.stand others before.ms (before.begin number (omega arith)) (subst (λ x. LinksAwake x t others before.ms) is (before.stand others awake));
      terms = λ other tei h at. ⊎_elim
          (λ same. subst (λ k. HasTerms new.links.items k (terms old.config (service_at k) tei)) (sym same) (becomes.here tei (ap (tei_in places) (sym same) ∙ at)))
          (λ apart. becomes.there other apart ∙ before.terms other tei (omega (arith, h, apart)) at)
          (cases_eq other number);
      meant = λ ls more left saved room at all.
          let whole = before.meant ls more (suc left) saved room at (omega (arith, all)) in
          let one = one_read old.config short number o l (machine_at ls number) rest (images_from places ls (number + 1) left ++ more) read.saved (saved.each number few)
          (sym read.octets ∙ whole.0 ∙ append_assoc (image_at places ls number) (images_from places ls (number + 1) left) more) in
          (one.1, omega (arith, ap length one.0, whole.1, becomes.used, sum_by-cons (slots_at ls) number (range_with_len (number + 1) left)));
      same = record {
        config = now.config ∙ before.same.config;
        teis = now.teis ∙ before.same.teis;
        units = now.units ∙ before.same.units;
        turn = now.turn ∙ before.same.turn;
      };
      within = within;
      limits = record { slots = limits.slots ∙ before.limits.slots; width = limits.width ∙ before.limits.width };
    }

-- The next is none.
pub no_more : {slots number : ℕ} {front mid : List ℕ} {old e : LinkLayer} {s t : Store} → LinksSoFar slots front mid old s number e t → number < link_count old.config
    → HasNoLinkAt slots number (tei_in (places_of e.teis) number) mid e t → HasNoLinks slots front old.config (places_of old.teis) s
no_more {slots} {number} {mid = mid} {old} {e} {t = t} before few none = λ ls more saved room at.
    let there = subst (λ x. HasNoLinkAt slots number (tei_in (places_of x.teis) number) mid x t) (but_links old e before.same) none in
    let left = link_count old.config - number - 1 in
    let whole = before.meant ls more (suc left) saved room at (omega (arith, few)) in
    there (machine_at ls number) (images_from (places_of old.teis) ls (number + 1) left ++ more) (saved.each number few) (omega (arith, whole.1, sum_by-cons (slots_at ls) number (range_with_len (number + 1) left)))
    (whole.0 ∙ append_assoc (image_at (places_of old.teis) ls number) (images_from (places_of old.teis) ls (number + 1) left) more)

-- All are read.
pub all_read : {slots number : ℕ} {front rest : List ℕ} {old e : LinkLayer} {s t : Store} → LinksSoFar slots front rest old s number e t → number ≡ link_count old.config → RestoresLinks front rest old s e t
all_read {front = front} {rest} {old} so_far all = (
  so_far.ms,
  record { count = so_far.many; each = λ number few. so_far.saved number (omega (arith, few, all)) },
  so_far.octets ∙ ap (λ n. images_from (places_of old.teis) so_far.ms 0 n ++ rest) all,
  record { stand = so_far.stand; terms = λ number tei few. so_far.terms number tei (omega (arith, few, all)) },
)
