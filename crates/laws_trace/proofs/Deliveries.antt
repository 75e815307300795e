-- What is told is what was heard.
use Rattle.laws_trace.proofs.Vocabulary.{◌≡◌, ℕ, ◌%◌, ◌≤◌, ◌==◌, ◌&&◌, Bool, true, false, cond, List, [], ◌∷◌, Option, Some, None, refl, sym, ap, ◌∙◌, arith, eq-eqb, inl, inr, true≢false, All, ◌||◌, count_by, list_any, All-head, All-tail, sum_by-cons, none-some, Note, Service, Parts, same_service, Terms, Arrived, restarts, eligible, Link, is_multiple_frame, notes-own, unit_heard, Config}
use Rattle.laws_trace.proofs.Vocabulary.{hears, Answer, Line, link_in, terms, aim_of, group_tei, IsInRange, notes_of, contents_in, is_data_of, is_unit_of, tells_contents, IsBy, Brings, BringsMalformed, contents-heard, sapi-is, read-aim, read-event, told-once, group-read, IsOwn, Event, answer, IsSound, result_ok, frame_of, is_for, is_ui, Unit, IsHeard, IsHeardAtLink}
use Rattle.laws_trace.proofs.Vocabulary.{IsHeardByGroup, stream_frame, StreamEvent, link_told}
use Rattle.model_link.specs.Events as link
use Rattle.laws_trace.proofs.Counting.{begins_by, begins}
use Rattle.laws_trace.proofs.DeliveriesWatched.{number_in, IsOfFrame}
use Rattle.laws_trace.proofs.Begins.{begins-is}
use Rattle.laws_trace.proofs.OneLink.{is_at_link}

-- The frame that an event brings, as the grammar reads it.
abbrev pub frame_by : Config → Event → Option Parts
frame_by c (hears what) = frame_of c what
frame_by c other = None

-- What is noted of contents is counted, and what a link notes is its own.
any-counted : (p q : Note → Bool) → ((n : Note) → p n ≡ true → q n ≡ true) → (ns : List Note) → list_any p ns ≡ true → 1 ≤ count_by q ns
any-counted p q h [] e = absurd (true≢false (sym e))
any-counted p q h (n ∷ ns) e = go (p n) refl e (λ any. any-counted p q h ns any)
  where
    go : (b : Bool) → p n ≡ b → (b || list_any p ns) ≡ true → (list_any p ns ≡ true → 1 ≤ count_by q ns) → 1 ≤ count_by q (n ∷ ns)
    go true is any more =
        let one : cond {A = ℕ} (q n) 1 0 ≡ 1 = ap (λ b. cond {A = ℕ} b 1 0) (h n is) in
        omega (arith, one, sum_by-cons (λ n. cond (q n) 1 0) n ns)
    go false is any more = let rest = more any in omega (arith, rest, sum_by-cons (λ n. cond (q n) 1 0) n ns)

some-own : (t : Terms) (q : Note → Bool) (P : Type 0) → ((n : Note) → IsOwn t n → q n ≡ true → P) → (ns : List Note) → All (IsOwn t) ns → list_any q ns ≡ true → P
some-own t q P h [] own e = absurd (true≢false (sym e))
some-own t q P h (n ∷ ns) own e = go (q n) refl e (λ any. some-own t q P h ns (All-tail (IsOwn t) n ns own) any)
  where
    go : (b : Bool) → q n ≡ b → (b || list_any q ns) ≡ true → (list_any q ns ≡ true → P) → P
    go true is any more = h n (All-head (IsOwn t) n ns own) is
    go false is any more = more any

module _ (service : Service) (tei : ℕ) where
  pub data-tells : (n : Note) → is_data_of service tei n ≡ true → tells_contents n ≡ true
  data-tells n e = grind arith

  pub unit-tells : (n : Note) → is_unit_of service tei n ≡ true → tells_contents n ≡ true
  unit-tells n e = grind arith

  module _ (t : Terms) where
    abbrev pub IsIts : Type 0
    IsIts = (same_service t.service service && t.tei == tei) ≡ true

    pub data-own : (n : Note) → IsOwn t n → is_data_of service tei n ≡ true → IsIts
    data-own n own e = grind arith

    pub unit-own : (n : Note) → IsOwn t n → is_unit_of service tei n ≡ true → IsIts
    unit-own n own e = grind arith

-- An event that is none of the link notes no contents of it.
module _ (c : Config) (ranged : IsInRange c) (l : Line) (s : IsSound c l) (e : Event) (service : Service) (tei : ℕ) where
  abbrev a : Answer
  a = answer c e l

  -- where contents are noted, there are some
  has-contents : (q : Note → Bool) → ((n : Note) → q n ≡ true → tells_contents n ≡ true) → list_any q (notes_of a) ≡ true
      → (o : Option (List ℕ)) → contents_in a ≡ o → (contents : List ℕ) × (contents_in a ≡ Some contents)
  has-contents q h some o is = grind (arith, any-counted, told-once)

  noted-aim : (q : Note → Bool) → ((t : Terms) (n : Note) → IsOwn t n → q n ≡ true → (same_service t.service service && t.tei == tei) ≡ true)
      → list_any q (notes_of a) ≡ true → (contents : List ℕ) → IsHeardAtLink c l e a contents → is_at_link service tei (aim_of c e l) ≡ true
  noted-aim q own some contents x =
      let t = terms c x.service x.tei in
      let one = read-event c l x.service x.tei x.place x.parts x.octets x.read x.whose in
      let le = link.received (link.frame x.parts) in
      let same : answer c (hears (stream_frame x.octets)) l ≡ a = ap (λ e. answer c e l) (sym x.by) in
      let told : notes_of a ≡ (link_told t le (link_in l x.service x.place)).notes = ap notes_of (sym same ∙ one.answer_is.is) ∙ one.answer_is.notes in
      ap (λ e. is_at_link service tei (aim_of c e l)) x.by ∙ ap (is_at_link service tei) (read-aim c l x.service x.tei x.place x.parts x.octets x.read x.whose)
      ∙ some-own t q ((same_service x.service service && x.tei == tei) ≡ true) (own t) (link_told t le (link_in l x.service x.place)).notes
      (notes-own t le (link_in l x.service x.place)) (ap (list_any q) (sym told) ∙ some)

  pub none-noted : (q : Note → Bool) → ((n : Note) → q n ≡ true → tells_contents n ≡ true)
      → ((t : Terms) (n : Note) → IsOwn t n → q n ≡ true → (same_service t.service service && t.tei == tei) ≡ true)
      → is_at_link service tei (aim_of c e l) ≡ false → list_any q (notes_of a) ≡ true
      → (contents : List ℕ) × (contents_in a ≡ Some contents) × IsHeardByGroup c e a contents
  none-noted q tells own none some =
      let x = has-contents q tells some (contents_in a) refl in
      (x.0, x.1, go x.0 (contents-heard c e l x.0 ranged s x.1))
    where
      go : (contents : List ℕ) → IsHeard c l e a contents → IsHeardByGroup c e a contents
      go contents (inl at) = absurd (true≢false (sym (noted-aim q own some contents at) ∙ none))
      go contents (inr group) = group

  -- the notes of the group's unit data
  pub group-notes : (contents : List ℕ) (x : IsHeardByGroup c e a contents) → notes_of a ≡ Unit x.service group_tei ∷ []
  group-notes contents x =
      ap (λ e. notes_of (answer c e l)) x.by ∙ ap notes_of (group-read c l x.parts x.octets x.service s x.read x.whose).answer_is

-- The frame that an event of the link brings.
module _ (c : Config) (e : Event) (a : Answer) (service : Service) (tei : ℕ) where
  pub brings-frame : (f : Parts) → Brings c e service tei f → (frame_by c e ≡ Some f) × (is_for service tei f.address ≡ true)
  brings-frame f x = (ap (frame_by c) x.by ∙ ap result_ok x.read, grind (arith, eq-eqb, sapi-is))

  pub brings-none : (what : link.Received) → BringsMalformed c e service tei what → frame_by c e ≡ None
  brings-none what x = grind arith

  pub heard-by : (what : link.Received) → BringsMalformed c e service tei what → (heard : StreamEvent) × (e ≡ hears heard)
  heard-by what x = grind arith

  -- whether the numbers begin with it
  pub one-begins : (le : link.Event) → IsBy c e a service tei le → (k : Link)
      → begins service tei (frame_by c e) (link_told (terms c service tei) le k).notes ≡ restarts (terms c service tei) le k
  one-begins (link.received (link.frame f)) by k = grind (arith, brings-frame, begins, begins_by, begins-is)
  one-begins le by k = grind (arith, brings-none)

  pub data-of : (le : link.Event) → IsBy c e a service tei le → (k : Link) (n : ℕ) → (is_multiple_frame k.state ≡ true → k.r ≡ n) → (contents : List ℕ)
      → (i : Arrived) → eligible (terms c service tei) le k ≡ Some i → i.contents ≡ contents → i.ns.value ≡ k.r % 128
      → IsOfFrame service tei (record { frame = frame_by c e; count = n }) (λ control. number_in control ≡ Some (n % 128)) (Some contents)
  data-of le by k n up contents i h same number = grind (arith, brings-frame, number_in, none-some)

  -- a UI that is told
  pub unit-of : (le : link.Event) → IsBy c e a service tei le → (n : ℕ) (contents : List ℕ) → unit_heard le ≡ Some contents
      → IsOfFrame service tei (record { frame = frame_by c e; count = n }) (λ control. is_ui control ≡ true) (Some contents)
  unit-of le by n contents h = grind (arith, brings-frame, none-some)
