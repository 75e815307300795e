-- A shelf over a region stays sound: after a put, a release and at the start.
use Rattle.lapd_store.proofs.Vocabulary.{◌≡◌, ◌≢◌, ℕ, zero, suc, ◌+◌, ◌*◌, ◌^◌, ◌<◌, ◌≤◌, Option, Some, None, IsSome, List, [], ◌∷◌, length, replicate, set, get_or, refl, sym, ap, subst, ◌∙◌, arith, inl, inr, length-set, nat_cmp, cases_eq, cond-true, cond-false, le-ltb, lt-ltb, get_or-replicate, length-replicate, get_or-set_same, get_or-set_other, entries_from, Holds, SameOutside, free_mark}
use Rattle.lapd_store.proofs.Vocabulary.{list_end, or_end, link, slot_contents, contents_from, raw_store, IsApart, IsFreeList, IsFilled, Store, empty_store, contents_of, IsUsed, IsFree, used_slots, stored_octets, with_contents, without, IsWithinLimits, Inside}
use Rattle.std.specs.FinMap as finmap
use Rattle.lapd_store.specs.RawStore.{IsSoundRaw}
use Rattle.lapd_store.proofs.Entries.{each_key, same_entries, get-insert_same, get-insert_other, get-remove_same, get-remove_other}
use Rattle.lapd_store.proofs.RawLemmas.{get_raw, times_le, slot_ends, kept, contents_held, contents_free, marked, marked_within, used_within, apart_used, list_kept}
use Rattle.lapd_store.proofs.StoreLemmas.{used_slots-empty, stored_octets-empty, IsWithinLimits-empty, used_slots-with_contents, stored_octets-with_contents, IsWithinLimits-with_contents, used_slots-without, stored_octets-without, IsWithinLimits-without, stored_octets_bound}

-- the first slot of a free list that is not at its end, and the rest of the list
pub record Taken (region : List (Option ℕ)) (lens : List ℕ) (width first count : ℕ) : Type 0 where
  pub rest : List ℕ
  pub next : ℕ
  pub mark : get_or lens first 0 ≡ free_mark
  pub apart : IsApart first rest
  pub holds : Holds region (first * width) (link next)
  pub list : IsFreeList region lens width rest next
  pub more : count ≡ length rest + 1

taken : (region : List (Option ℕ)) (lens : List ℕ) (width : ℕ) (free : List ℕ) (first slot : ℕ) → IsFreeList region lens width free first → first ≢ list_end → slot ≡ first → Taken region lens width slot (length free)
taken region lens width [] first number list ne is = absurd (ne list)
taken region lens width (slot ∷ rest) first number list ne is =
    subst (λ k. Taken region lens width k (suc (length rest))) (sym list.0 ∙ sym is)
    (record { rest = rest; next = list.3.0; mark = list.1; apart = list.2; holds = list.3.1; list = list.3.2; more = omega arith })

none_used : IsSome {T = List ℕ} None → ⊥
none_used e = cc

module _ (a : Inside) (sound : IsSoundRaw a) where
  pub contents_of-raw : (slot : ℕ) → contents_of (raw_store a) slot ≡ slot_contents a.region a.width slot (get_or a.lengths.items slot free_mark)
  contents_of-raw slot = get_raw a.region a.width a.lengths.items slot

  -- where the free list is not at its end, its first slot
  pub first_slot : a.first ≢ list_end → (slot : ℕ) → slot ≡ a.first → Taken a.region a.lengths.items a.width slot (length sound.free)
  first_slot ne slot is = taken a.region a.lengths.items a.width sound.free a.first slot sound.linked ne is

  -- a used slot has a length
  pub used_mark : (slot : ℕ) → IsUsed (raw_store a) slot → get_or a.lengths.items slot free_mark ≢ free_mark
  used_mark slot used e = none_used (subst IsSome (contents_of-raw slot ∙ contents_free a.region a.width slot _ e) used)

  pub slot_within : (slot : ℕ) → slot < length a.lengths.items → slot * a.width + a.width ≤ length a.region
  slot_within slot lt = omega (arith, slot_ends slot (length a.lengths.items) a.width lt, sound.covered)

  -- octets that lie in a used slot are its contents
  pub held : (slot : ℕ) (xs : List ℕ) → get_or a.lengths.items slot free_mark ≢ free_mark → length xs ≡ get_or a.lengths.items slot free_mark → length xs ≤ a.width → Holds a.region (slot * a.width) xs → contents_of (raw_store a) slot ≡ Some xs
  held slot xs used long o holds = grind (arith, contents_of-raw, contents_held, slot_within, used_within)

  -- a used slot's contents
  pub used_held : (slot : ℕ) (used : get_or a.lengths.items slot free_mark ≢ free_mark) → contents_of (raw_store a) slot ≡ Some (sound.filled slot used).octets
  used_held slot used = let f = sound.filled slot used in held slot f.octets used f.long f.fits f.holds

  -- at the end of the free list every slot is used
  pub full_at_end : a.first ≡ list_end → used_slots (raw_store a) ≡ length a.lengths.items
  full_at_end end = all_used sound.free sound.linked sound.total where
    all_used : (free : List ℕ) → IsFreeList a.region a.lengths.items a.width free a.first → length free + a.used ≡ length a.lengths.items → used_slots (raw_store a) ≡ length a.lengths.items
    all_used [] list total = omega (arith, total, sound.counted)
    all_used (slot ∷ slots) list total = absurd (omega (arith, end, list.0, marked_within a.lengths.items slot list.1, sound.few))

  -- the octets with those of one message more are no more than a count of 64 bits can hold
  pub octets_fit : (more : ℕ) → more ≤ a.width → a.octets + more < 2 ^ 64
  octets_fit more fits =
      let bound = stored_octets_bound (raw_store a) 260 sound.most sound.within in
      omega (arith, bound, sound.measured, sound.within.count, sound.few, sound.most, fits)

  pub first_within : a.first ≢ list_end → (slot : ℕ) → slot ≡ a.first → slot < length a.lengths.items
  first_within ne slot is = marked_within a.lengths.items slot (first_slot ne slot is).mark

  pub first_free : a.first ≢ list_end → (slot : ℕ) → slot ≡ a.first → IsFree (raw_store a) slot
  first_free ne slot is = contents_of-raw slot ∙ contents_free a.region a.width slot _ (marked a.lengths.items slot (first_slot ne slot is).mark)

  module _ (b : Inside) (slot len : ℕ) (same : SameOutside a.region b.region (slot * a.width) len) (short : len ≤ a.width) where
    -- another slot's contents stay
    same_slot : (q : ℕ) → q ≢ slot → slot_contents b.region a.width q (get_or a.lengths.items q free_mark) ≡ slot_contents a.region a.width q (get_or a.lengths.items q free_mark)
    same_slot q ne =
        let m = get_or a.lengths.items q free_mark in
        elim (cases_eq m free_mark) [
          | inl e ↦ contents_free b.region a.width q m e ∙ sym (contents_free a.region a.width q m e)
          | inr used ↦
              let f = sound.filled q used in
              let within = slot_within q (used_within a.lengths.items q used) in
              contents_held b.region a.width q m f.octets f.long used (omega (arith, within, f.fits, same.size)) (kept a.region b.region a.width slot q len f.octets same short ne f.fits f.holds)
              ∙ sym (contents_held a.region a.width q m f.octets f.long used (omega (arith, within, f.fits)) f.holds)
        ]

    module _ (mark : ℕ) (items : b.lengths.items ≡ set a.lengths.items slot mark) (wide : b.width ≡ a.width) where
      get-new : (q : ℕ) → finmap.get (finmap.from_entries {R = nat_cmp} (entries_from 0 (contents_from b.region b.width 0 b.lengths.items))) q ≡ slot_contents b.region a.width q (get_or (set a.lengths.items slot mark) q free_mark)
      get-new q = get_raw b.region b.width b.lengths.items q ∙ (λ i. slot_contents b.region (wide i) q (get_or (items i) q free_mark))

      get-others : (q : ℕ) → q ≢ slot → finmap.get (finmap.from_entries {R = nat_cmp} (entries_from 0 (contents_from b.region b.width 0 b.lengths.items))) q ≡ slot_contents a.region a.width q (get_or a.lengths.items q free_mark)
      get-others q ne = get-new q ∙ ap (slot_contents b.region a.width q) (get_or-set_other a.lengths.items slot q mark free_mark ne) ∙ same_slot q ne

      -- the slots that were used before keep their octets
      filled-others : (q : ℕ) → q ≢ slot → get_or (set a.lengths.items slot mark) q free_mark ≢ free_mark → IsFilled b.region (set a.lengths.items slot mark) a.width q
      filled-others q ne used =
          let is = get_or-set_other a.lengths.items slot q mark free_mark ne in
          let f = sound.filled q (λ e. used (is ∙ e)) in
          record { octets = f.octets; long = f.long ∙ sym is; fits = f.fits; holds = kept a.region b.region a.width slot q len f.octets same short ne f.fits f.holds }

      covered-new : length b.region ≡ length b.lengths.items * b.width
      covered-new = same.size ∙ sound.covered ∙ (λ i. (sym (ap length items ∙ length-set a.lengths.items slot mark)) i * sym wide i)

      as_long : length b.lengths.items ≡ length a.lengths.items
      as_long = ap length items ∙ length-set a.lengths.items slot mark

      list-new : (free : List ℕ) (first : ℕ) → IsApart slot free → IsFreeList a.region a.lengths.items a.width free first → IsFreeList b.region b.lengths.items b.width free first
      list-new free first apart list = grind (arith, list_kept, same, get_or-set_other)

      -- so the store is as before but at the slot,
      store-new : (contents : finmap.FinMap nat_cmp (List ℕ)) → slot_contents b.region a.width slot (get_or (set a.lengths.items slot mark) slot free_mark) ≡ finmap.get contents slot
          → ((q : ℕ) → q ≢ slot → finmap.get contents q ≡ contents_of (raw_store a) q) → raw_store b ≡ record (raw_store a) { contents = contents }
      store-new contents here others =
          let all = same_entries _ _ (each_key _ slot (get-new slot ∙ here) (λ q ne. get-others q ne ∙ sym (others q ne ∙ contents_of-raw q))) in
          λ i. record { contents = all i; slots = as_long i; width = wide i }

      -- and the shelf is sound where that slot is
      sound-new : (s : Store) → raw_store b ≡ s → (free : List ℕ) → IsFreeList b.region b.lengths.items b.width free b.first
          → (get_or (set a.lengths.items slot mark) slot free_mark ≢ free_mark → IsFilled b.region (set a.lengths.items slot mark) a.width slot)
          → length free + b.used ≡ length a.lengths.items → b.used ≡ used_slots s → b.octets ≡ stored_octets s → IsWithinLimits s → IsSoundRaw b
      sound-new s is free linked filled total counted measured within = grind (arith, each_key, filled-others, as_long, covered-new)

-- a used slot: its octets are written, they lie in the region, and the counts are more than nothing
pub record Used (a : Inside) (slot : ℕ) : Type 0 where
  pub used : IsUsed (raw_store a) slot
  pub mark : get_or a.lengths.items slot free_mark ≢ free_mark
  pub there : slot < length a.lengths.items
  pub within : slot * a.width + a.width ≤ length a.region
  pub small : length a.region ≤ 2129920
  pub filled : IsFilled a.region a.lengths.items a.width slot
  pub one : 1 ≤ a.used
  pub octets : get_or a.lengths.items slot free_mark ≤ a.octets

-- as a caller names it
pub used_slot : {a : Inside} {s : Store} {n m : ℕ} → IsSoundRaw a → raw_store a ≡ s → n ≡ m → IsUsed s m → Used a n
used_slot {a} {s} {n} {m} sound view same is =
    let used = subst (IsUsed (raw_store a)) (sym same) (subst (λ t. IsUsed t m) (sym view) is) in
    let mark = used_mark a sound n used in
    let there = used_within a.lengths.items n mark in
    let filled = sound.filled n mark in
    let contents = used_held a sound n mark in
    record {
      used = used;
      mark = mark;
      there = there;
      within = slot_within a sound n there;
      small = omega (arith, sound.covered, times_le (length a.lengths.items) 8192 a.width sound.few, sound.most);
      filled = filled;
      one = omega (arith, used_slots-without (raw_store a) n _ contents, sound.counted);
      octets = omega (arith, stored_octets-without (raw_store a) n _ contents, sound.measured, filled.long);
    }

-- as the code reaches a slot: by a number, and a width that was cast
module _ (a b : Inside) (sound : IsSoundRaw a) (slot from : ℕ) (wide_from : from ≡ a.width) (wide : b.width ≡ a.width) where
  -- a put in the first free slot
  module _ (ne : a.first ≢ list_end) (is_first : slot ≡ a.first) (xs : List ℕ) (outside : SameOutside a.region b.region (slot * from) (length xs)) (lies : Holds b.region (slot * from) xs)
      (short : length xs ≤ a.width) (items : b.lengths.items ≡ set a.lengths.items slot (length xs)) where
    same : SameOutside a.region b.region (slot * a.width) (length xs)
    same = subst (λ w. SameOutside a.region b.region (slot * w) (length xs)) wide_from outside

    holds : Holds b.region (slot * a.width) xs
    holds = subst (λ w. Holds b.region (slot * w) xs) wide_from lies

    inside : slot < length a.lengths.items
    inside = first_within a sound ne slot is_first

    free : IsFree (raw_store a) slot
    free = first_free a sound ne slot is_first

    in_place : slot_contents b.region a.width slot (length xs) ≡ Some xs
    in_place = grind (arith, slot_within, inside, contents_held, holds)

    pub put_stored : raw_store b ≡ with_contents (raw_store a) slot xs
    put_stored =
        store-new a sound b slot (length xs) same short (length xs) items wide _
        (ap (slot_contents b.region a.width slot) (get_or-set_same a.lengths.items slot (length xs) free_mark inside) ∙ in_place ∙ sym (get-insert_same _ slot xs))
        (λ q other. get-insert_other _ slot xs q other)

    pub put_sound : b.octets ≡ a.octets + length xs → b.used ≡ a.used + 1 → ((next : ℕ) → Holds a.region (slot * from) (link next) → b.first ≡ next) → IsSoundRaw b
    put_sound octets used read =
        let t = first_slot a sound ne slot is_first in
        let first = read t.next (subst (λ w. Holds a.region (slot * w) (link t.next)) (sym wide_from) t.holds) in
        let room : used_slots (raw_store a) < length a.lengths.items = omega (arith, sound.total, sound.counted, t.more) in
        sound-new a sound b slot (length xs) same short (length xs) items wide _ put_stored t.rest
        (subst (IsFreeList b.region b.lengths.items b.width t.rest) (sym first) (list-new a sound b slot (length xs) same short (length xs) items wide t.rest t.next t.apart t.list))
        (λ _. record { octets = xs; long = sym (get_or-set_same a.lengths.items slot (length xs) free_mark inside); fits = short; holds = holds })
        (omega (arith, sound.total, used, t.more))
        (used ∙ ap (λ n. n + 1) sound.counted ∙ sym (used_slots-with_contents (raw_store a) slot xs free))
        (octets ∙ ap (λ n. n + length xs) sound.measured ∙ sym (stored_octets-with_contents (raw_store a) slot xs free))
        (IsWithinLimits-with_contents (raw_store a) slot xs free room short sound.within)

  -- a release of a used slot
  module _ (was : Used a slot) (outside : SameOutside a.region b.region (slot * from) 2) (lies : Holds b.region (slot * from) (link a.first)) (items : b.lengths.items ≡ set a.lengths.items slot free_mark) where
    left : SameOutside a.region b.region (slot * a.width) 2
    left = subst (λ w. SameOutside a.region b.region (slot * w) 2) wide_from outside

    two : 2 ≤ a.width
    two = omega (arith, sound.least)

    was_held : contents_of (raw_store a) slot ≡ Some (sound.filled slot was.mark).octets
    was_held = used_held a sound slot was.mark

    now_free : get_or (set a.lengths.items slot free_mark) slot free_mark ≡ free_mark
    now_free = get_or-set_same a.lengths.items slot free_mark free_mark was.there

    pub release_stored : raw_store b ≡ without (raw_store a) slot
    release_stored =
        store-new a sound b slot 2 left two free_mark items wide _ (contents_free b.region a.width slot _ now_free ∙ sym (get-remove_same _ slot)) (λ q other. get-remove_other _ slot q other)

    pub release_sound : b.octets + get_or a.lengths.items slot free_mark ≡ a.octets → b.used + 1 ≡ a.used → b.first ≡ slot → IsSoundRaw b
    release_sound octets used first =
        let apart = apart_used a.region a.lengths.items a.width sound.free a.first slot was.mark sound.linked in
        sound-new a sound b slot 2 left two free_mark items wide _ release_stored (slot ∷ sound.free) (
          first,
          ap (λ l. get_or l slot 0) items ∙ get_or-set_same a.lengths.items slot free_mark 0 was.there,
          apart,
          (a.first, subst (λ w. Holds b.region (slot * w) (link a.first)) (wide_from ∙ sym wide) lies, list-new a sound b slot 2 left two free_mark items wide sound.free a.first apart sound.linked),
        )
        (λ other_mark. absurd (other_mark now_free))
        (omega (arith, sound.total, used))
        (omega (arith, used_slots-without (raw_store a) slot _ was_held, used, sound.counted))
        (omega (arith, stored_octets-without (raw_store a) slot _ was_held, octets, sound.measured, (sound.filled slot was.mark).long))
        (IsWithinLimits-without (raw_store a) slot _ was_held sound.within)

-- a start: every slot is free, by rising number
abbrev count_from : ℕ → ℕ → List ℕ
count_from k zero = []
count_from k (suc m) = k ∷ count_from (k + 1) m

apart_above : (k j m : ℕ) → k < j → IsApart k (count_from j m)
apart_above k j zero lt = tt
apart_above k j (suc m) lt = ((λ same. omega (arith, same, lt)), apart_above k (j + 1) m (omega arith))

length-count_from : (k m : ℕ) → length (count_from k m) ≡ m
length-count_from k zero = refl
length-count_from k (suc m) = ap suc (length-count_from (k + 1) m)

module _ (region : List (Option ℕ)) (lens : List ℕ) (width slots : ℕ) (links : (slot : ℕ) → slot < slots → Holds region (slot * width) (link (or_end (slot + 1) slots))) (marks : (slot : ℕ) → slot < slots → get_or lens slot 0 ≡ free_mark) where
  linked_from : (k m : ℕ) → k + m ≡ slots → IsFreeList region lens width (count_from k m) (or_end k slots)
  linked_from k zero all = cond-false _ _ _ (le-ltb k slots (omega arith))
  linked_from k (suc m) all =
      let lt : k < slots = omega arith in
      (cond-true _ _ _ (lt-ltb k slots lt), marks k lt, apart_above k (k + 1) m (omega arith), (or_end (k + 1) slots, links k lt, linked_from (k + 1) m (omega arith)))

unmarked : (n slot : ℕ) → get_or (replicate n free_mark) slot free_mark ≡ free_mark
unmarked zero slot = refl
unmarked (suc n) zero = refl
unmarked (suc n) (suc slot) = unmarked n slot

module _ (b : Inside) (slots : ℕ) (items : b.lengths.items ≡ replicate slots free_mark) where
  pub start_store : raw_store b ≡ empty_store slots b.width
  start_store =
      let none = same_entries _ finmap.empty (λ q. get_raw b.region b.width b.lengths.items q
      ∙ contents_free b.region b.width q _ (ap (λ l. get_or l q free_mark) items ∙ unmarked slots q) ∙ sym (finmap.get-empty nat_cmp q)) in
      λ i. record { contents = none i; slots = (ap length items ∙ length-replicate slots free_mark) i; width = b.width }

  pub start_sound : length b.region ≡ slots * b.width → ((slot : ℕ) → slot < slots → Holds b.region (slot * b.width) (link (or_end (slot + 1) slots)))
      → b.first ≡ or_end 0 slots → b.octets ≡ 0 → b.used ≡ 0 → slots ≤ 8192 → 8 ≤ b.width → b.width ≤ 260 → IsSoundRaw b
  start_sound size links first octets used few least most =
      let long = ap length items ∙ length-replicate slots free_mark in
      let is = start_store in
      record {
        free = count_from 0 slots;
        linked = subst (IsFreeList b.region b.lengths.items b.width (count_from 0 slots)) (sym first)
            (linked_from b.region b.lengths.items b.width slots links (λ slot lt. ap (λ l. get_or l slot 0) items ∙ get_or-replicate slots slot free_mark 0 lt) 0 slots (omega arith));
        filled = λ slot mark. absurd (mark (ap (λ l. get_or l slot free_mark) items ∙ unmarked slots slot));
        total = omega (arith, length-count_from 0 slots, used, long);
        counted = used ∙ sym (ap used_slots is ∙ used_slots-empty slots b.width);
        measured = octets ∙ sym (ap stored_octets is ∙ stored_octets-empty slots b.width);
        within = subst IsWithinLimits (sym is) (IsWithinLimits-empty slots b.width);
        covered = size ∙ ap (λ n. n * b.width) (sym long);
        few = omega (arith, few, long);
        least = least;
        most = most;
      }
