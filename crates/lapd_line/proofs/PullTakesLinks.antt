-- What a pull takes of the links.
use Rattle.lapd_line.proofs.Vocabulary.{◌≡◌, ◌⊎◌, inl, inr, Bool, true, false, ℕ, zero, suc, ◌+◌, ◌-◌, ◌≤◌, ◌<◌, List, [], ◌∷◌, ◌++◌, length, take, drop, get_or, slice_get, Option, Some, None, option_map, IfSome, refl, ap, sym, ◌∙◌, subst, arith, none-some, slice_get_cases, slice_get-map, range_with_len, option_or, unwrap_or, Order, IsFrame, spelling, listed, Owned, Store, IsUsed, Link, Offer}
use Rattle.lapd_line.proofs.Vocabulary.{contents_in, HasMessage, terms_of, Terms, frame_of, given, Given, Config, Line, link_at, link_count, place_at, service_at, tei_at, terms, terms_at, Taken, with_given_frame, link_taken, first_taken, round, IsSoundAt, fresh_gives_nothing, TakesSoundly, link_sound, ranges_of, is_some, false≢true, ShortList, orders_taken, IsMark, Sets, TellsOf, given_by}
use Rattle.lapd_line.proofs.Vocabulary.{LinkLayer, LayerStands, Standing, HasTerms, IsGiven, Offers, terms_in, Loading, Loads, room_in, reference_in, IsFree, HasTaken, Took, Takes, contents_of, own_side}
use Rattle.std.proofs.Common.{Vec, Global}
use Rattle.model_link.specs.Machine.{after}
use Rattle.lapd_line.proofs.AwakeSteps.{awake_set, awake_gives}
use Rattle.lapd_line.proofs.LayerSteps.{beside_links, links_part, links_turned}
use Rattle.lapd_line.proofs.PullTakes.{takes_or, takes_first, takes_as}

-- The parameters of a link as it is. Where no TEI is at its place it gives nothing, whatever they are; else they are
-- those of its TEI.
pub record Known (e : LinkLayer) (m : Line) (number : ℕ) : Type 0 where
  pub t : Terms
  pub has : HasTerms e.links.items number t
  pub none : given t (link_at number m) ≡ None → given (terms_at e.config number m) (link_at number m) ≡ None
  pub some : (g : Given) → given t (link_at number m) ≡ Some g → HasTerms e.links.items number (terms_at e.config number m)

pub known : (e : LinkLayer) (s : Store) (others : List Owned) (m : Line) (number : ℕ) → number < link_count e.config → LayerStands e s others m → Known e m number
known e s others m number few st = go (tei_at (place_at number) m) refl (st.sound.links number few) (slice_get_cases e.links.items number).1
  where
    go : (o : Option ℕ) → tei_at (place_at number) m ≡ o → IsSoundAt e.config number (link_at number m) o
        → ((x : Link) × (number < length e.links.items) × (slice_get e.links.items number ≡ Some x) × (get_or e.links.items number x ≡ x)) ⊎ ((length e.links.items ≤ number) × (slice_get e.links.items number ≡ None)) → Known e m number
    go (Some tei) at here there =
        let same : terms_at e.config number m ≡ terms e.config (service_at number) tei = ap (λ o. terms e.config (service_at number) (unwrap_or o 0)) at in
        record {
          t = terms e.config (service_at number) tei;
          has = st.terms number tei few at;
          none = λ h. ap (λ t. given t (link_at number m)) same ∙ h;
          some = λ g h. subst (HasTerms e.links.items number) (sym same) (st.terms number tei few at);
        }
    go None at fresh (inl (x, within, is, more)) = record {
      t = terms_of x;
      has = slice_get-map terms_of e.links.items number ∙ ap (option_map terms_of) is;
      none = λ h. ap (given (terms_at e.config number m)) fresh ∙ fresh_gives_nothing (terms_at e.config number m);
      some = λ g h. absurd (none-some g (sym (ap (given (terms_of x)) fresh ∙ fresh_gives_nothing (terms_of x)) ∙ h));
    }
    go None at fresh (inr (past, none)) = absurd (omega (arith, past, few, st.count))

-- every link has its mark
pub low_link : (e : LinkLayer) (s : Store) (number : ℕ) → Standing e s → number < link_count e.config → number < 64
low_link e s number (others, m, st) few = omega (arith, few, (ranges_of e.config st.range).terminals.most)

-- a link that has a frame gives something
none_given : (store : Store) (o : Option Offer) → o ≡ None → given_by store o ≡ None
none_given store o is = ap (given_by store) is

pub awake_offers : (e : LinkLayer) (s : Store) (number : ℕ) (new : List Link) (o : Option Offer) → number < link_count e.config → Standing e s → IsMark e.has_frame number true → Offers number e.links.items new o
    → is_some o ≡ true
awake_offers e s number new o few (others, m, st) has_frame offers = go o refl
  where
    k : Known e m number
    k = known e s others m number few st

    go : (x : Option Offer) → o ≡ x → is_some x ≡ true
    go (Some x) is = refl
    go None is =
        let given_none : None ≡ given k.t (link_at number m) = sym (none_given s o is) ∙ (offers.given e.config k.t s (beside_links e m others) m.links k.has (links_part e s others m st)).given in
        ap is_some given_none ∙ awake_gives e.has_frame e.links.items m.links number k.t true (low_link e s number (others, m, st) few) st.has_frame k.has has_frame

-- what a link gives, for a line that the entities stand for
record Gives (e : LinkLayer) (s : Store) (m : Line) (number : ℕ) (o : Offer) : Type 0 where
  pub has : HasTerms e.links.items number (terms_at e.config number m)
  pub is : IsGiven s (terms_at e.config number m) (link_at number m) (Some o)

gives : (e : LinkLayer) (s : Store) (others : List Owned) (m : Line) (number : ℕ) (new : List Link) (o : Offer) → number < link_count e.config → LayerStands e s others m
    → Offers number e.links.items new (Some o) → Gives e s m number o
gives e s others m number new o few st offers =
    let k = known e s others m number few st in
    let part = links_part e s others m st in
    let has = k.some _ (sym (offers.given e.config k.t s (beside_links e m others) m.links k.has part).given) in
    record { has = has; is = offers.given e.config (terms_at e.config number m) s (beside_links e m others) m.links has part }

-- it is a frame under the link's parameters, and its contents have room
pub record CanSend (e : LinkLayer) (number : ℕ) (new : List Link) (o : Offer) (info : List ℕ) : Type 0 where
  pub frame : (t : Terms) × HasTerms new number t × IsFrame (frame_of t o.frame)
  pub size : length info ≤ e.config.n201

size_of : (s : Store) (most : ℕ) (slot : Option ℕ) (info : List ℕ) → info ≡ unwrap_or (contents_in s slot) [] → IfSome slot (HasMessage s most) → length info ≤ most
size_of s most slot info is h = grind arith

pub given_used : (e : LinkLayer) (s : Store) (number : ℕ) (new : List Link) (o : Offer) → number < link_count e.config → Standing e s → Offers number e.links.items new (Some o)
    → IfSome o.contents (λ slot. IsUsed s slot)
given_used e s number new o few (others, m, st) offers = (gives e s others m number new o few st offers).is.used

-- its new parameters are its old ones
still : (e : LinkLayer) (number : ℕ) (new : List Link) (t : Terms) → terms_in new ≡ terms_in e.links.items → HasTerms e.links.items number t → HasTerms new number t
still e number new t same has = subst (λ l. slice_get l number ≡ Some t) (sym same) has

-- the information that goes with it
pub no_contents : (s : Store) (slot : Option ℕ) → slot ≡ None → [] ≡ unwrap_or (contents_in s slot) []
no_contents s slot is = sym (ap (λ x. unwrap_or (contents_in s x) []) is)

pub its_contents : (s : Store) (slot : Option ℕ) (at : ℕ) (octets : List ℕ) → slot ≡ Some at → contents_of s at ≡ Some octets → octets ≡ unwrap_or (contents_in s slot) []
its_contents s slot at octets is there = sym (ap (λ x. unwrap_or (contents_in s x) []) is ∙ ap (λ o. unwrap_or o []) there)

pub can_send : (e : LinkLayer) (s : Store) (number : ℕ) (new : List Link) (o : Offer) (info : List ℕ) → number < link_count e.config → Standing e s
    → Offers number e.links.items new (Some o) → info ≡ unwrap_or (contents_in s o.contents) [] → CanSend e number new o info
can_send e s number new o info few (others, m, st) offers is =
    let g = gives e s others m number new o few st offers in
    let t = terms_at e.config number m in
    record {
      frame = (t, still e number new t offers.terms g.has, g.is.frame);
      size = size_of s e.config.n201 o.contents info is g.is.slot;
    }

-- what a link gives is sent
pub link_sent : (e : LinkLayer) (s : Store) (f g : Loading) (number : ℕ) (new : Vec Link Global) (o : Offer) (info : List ℕ) (after : LinkLayer) → number < link_count e.config
    → (looked : Bool) × TellsOf number new.items looked × Sets number looked e.has_frame after.has_frame → after ≡ record e { links = new; has_frame = after.has_frame; turn = number + 1 }
    → Offers number e.links.items new.items (Some o) → info ≡ unwrap_or (contents_in s o.contents) [] → room_in g ≡ room_in f → reference_in g ≡ reference_in f
    → ((t : Terms) → HasTerms new.items number t → Loads (spelling (own_side e.config) (record (frame_of t o.frame) { info = info })) f g)
    → Takes (λ c m. link_taken c m number) e s f after s g (Some (listed o.orders))
link_sent e s f g number new o info after few (looked, looks, sets) rest offers is room reference loaded =
    subst (λ l. Takes (λ c m. link_taken c m number) e s f l s g (Some (listed o.orders))) (sym rest) (record {
      config = refl;
      limits = record { slots = refl; width = refl };
      room = room;
      reference = reference;
      took = λ others m st.
          let gave = gives e s others m number new.items o few st offers in
          let t = terms_at e.config number m in
          let what : Given = record { frame = o.frame; contents = contents_in s o.contents; orders = listed o.orders } in
          let same : link_taken e.config m number ≡ Some (with_given_frame e.config m number t what) = ap (λ x. option_map (with_given_frame e.config m number t) x) (sym gave.is.given) in
          let sound : TakesSoundly e.config m (with_given_frame e.config m number t what) =
          subst (λ x. IfSome x (TakesSoundly e.config m)) same (link_sound e.config st.range m st.sound number few) in
          let stand = offers.goes_on s e.config t (beside_links e m others) m.links gave.has (links_part e s others m st) in
          let has_t = still e number new.items t offers.terms gave.has in
          let are_awake = awake_set e.has_frame after.has_frame e.links.items new.items m.links number _ looked t sets offers.terms has_t (looks e.config t s (beside_links e m others) _ has_t stand) st.has_frame in
          let has : HasTaken (with_given_frame e.config m number t what) (listed o.orders) (record e { links = new; has_frame = after.has_frame; turn = number + 1 }) s others f g = record {
            orders = refl;
            stands = links_turned e s s others m new _ after.has_frame (number + 1) (number + 1) st offers.terms (record { slots = refl; width = refl }) sound.line stand are_awake refl;
            loaded = subst (λ x. Loads (spelling (own_side e.config) (record (frame_of t o.frame) { info = x })) f g) is (loaded t has_t);
          } in
          subst (λ x. Took x (Some (listed o.orders)) m (record e { links = new; has_frame = after.has_frame; turn = number + 1 }) s others f g) (sym same) has;
    })

-- more links, one after another
range_append : (a n k : ℕ) → range_with_len a (n + k) ≡ range_with_len a n ++ range_with_len (a + n) k
range_append a zero k =
    let count : 0 + k ≡ k = omega arith in
    let first : a ≡ a + 0 = omega arith in
    ap (λ n. range_with_len a n) count ∙ ap (λ b. range_with_len b k) first
range_append a (suc n) k =
    let count : suc n + k ≡ suc (n + k) = omega arith in
    let first : a + 1 + n ≡ a + suc n = omega arith in
    ap (λ n. range_with_len a n) count
    ∙ ap (λ l. a ∷ l) (range_append (a + 1) n k ∙ ap (λ b. range_with_len (a + 1) n ++ range_with_len b k) first)

either_assoc : (x y z : Option Taken) → option_or (option_or x y) z ≡ option_or x (option_or y z)
either_assoc x y z = grind arith

first_append : (c : Config) (m : Line) (xs ys : List ℕ) → first_taken c m (xs ++ ys) ≡ option_or (first_taken c m xs) (first_taken c m ys)
first_append c m [] ys = refl
first_append c m (x ∷ xs) ys =
    ap (λ o. option_or (link_taken c m x) o) (first_append c m xs ys) ∙ sym (either_assoc (link_taken c m x) (first_taken c m xs) (first_taken c m ys))

abbrev pub among : ℕ → ℕ → Config → Line → Option Taken
among from n c m = first_taken c m (range_with_len from n)

among_append : (c : Config) (m : Line) (a n k : ℕ) → option_or (among a n c m) (among (a + n) k c m) ≡ among a (n + k) c m
among_append c m a n k = sym (ap (first_taken c m) (range_append a n k) ∙ first_append c m (range_with_len a n) (range_with_len (a + n) k))

-- the first that has something to give
pub found : (from number to : ℕ) {a b c : LinkLayer} {s t u : Store} {f g h : Loading} {orders : List Order} → from ≤ number → number < to
    → Takes (among from (number - from)) a s f b t g None → Takes (λ c m. link_taken c m number) b t g c u h (Some orders)
    → Takes (among from (to - from)) a s f c u h (Some orders)
found from number to {a} {b} {c} {s} {t} {u} {f} {g} {h} {orders} order within before now =
    takes_as {first = λ config m. option_or (among from (number - from) config m) (option_or (link_taken config m number) (among (number + 1) (to - (number + 1)) config m))} {second = among from (to - from)}
    (λ others m st.
    ap (λ x. option_or (among from (number - from) a.config m) (among x (suc (to - (number + 1))) a.config m)) (omega (arith, order))
    ∙ among_append a.config m from (number - from) (suc (to - (number + 1)))
    ∙ ap (λ n. among from n a.config m) (omega (arith, order, within)))
    (takes_or {first = among from (number - from)} {second = λ config m. option_or (link_taken config m number) (among (number + 1) (to - (number + 1)) config m)} before
    (takes_first (among (number + 1) (to - (number + 1))) {first = λ c m. link_taken c m number} now))

no_value : {A : Type 0} (o : Option A) → is_some o ≡ false → o ≡ None
no_value o none = grind arith

-- links that are asleep have nothing to give
pub asleep_gives_nothing : (e : LinkLayer) (s : Store) (others : List Owned) (m : Line) (number : ℕ) → number < link_count e.config → LayerStands e s others m → IsMark e.has_frame number false → link_taken e.config m number ≡ None
asleep_gives_nothing e s others m number few st asleep =
    let k = known e s others m number few st in
    let low = low_link e s number (others, m, st) few in
    ap (λ g. option_map (with_given_frame e.config m number (terms_at e.config number m)) g)
    (k.none (no_value (given k.t (link_at number m)) (awake_gives e.has_frame e.links.items m.links number k.t false low st.has_frame k.has asleep)))

pub none_of : (c : Config) (m : Line) (from n : ℕ) → ((number : ℕ) → from ≤ number → number < from + n → link_taken c m number ≡ None) → among from n c m ≡ None
none_of c m from zero none = refl
none_of c m from (suc n) none =
    ap (λ o. option_or o (among (from + 1) n c m)) (none from (omega arith) (omega arith))
    ∙ none_of c m (from + 1) n (λ number low high. none number (omega (arith, low)) (omega (arith, high)))

-- so they are passed over
pub passed : (from number : ℕ) {a : LinkLayer} {s : Store} {f : Loading} → number ≤ link_count a.config → ((n : ℕ) → from ≤ n → n < number → IsMark a.has_frame n false)
    → from ≤ number → Takes (among from (number - from)) a s f a s f None
passed from number {a} {s} {f} within asleep order = record {
  config = refl;
  limits = record { slots = refl; width = refl };
  room = refl;
  reference = refl;
  took = λ others m st.
      let none = none_of a.config m from (number - from) (λ n low high. asleep_gives_nothing a s others m n (omega (arith, high, order, within)) st (asleep n low (omega (arith, high, order)))) in
      subst (λ o. Took o None m a s others f f) (sym none) (st, refl);
}

-- where one gives something, that is taken
taken_some : (o : Option (ShortList Order)) → is_some o ≡ true → is_some (orders_taken o) ≡ true
taken_some o some = grind arith

found_some : (from number to : ℕ) {a b c : LinkLayer} {s t u : Store} {f g h : Loading} (orders : Option (List Order)) → is_some orders ≡ true → from ≤ number → number < to
    → Takes (among from (number - from)) a s f b t g None → Takes (λ c m. link_taken c m number) b t g c u h orders
    → Takes (among from (to - from)) a s f c u h orders
found_some from number to (Some orders) some order within before now = found from number to order within before now
found_some from number to None some order within before now = absurd (false≢true some)

pub found_first : (from number to : ℕ) {a c : LinkLayer} {s u : Store} {f h : Loading} (orders : Option (ShortList Order)) → is_some orders ≡ true → from ≤ number → number < to → to ≤ link_count a.config
    → ((n : ℕ) → from ≤ n → n < number → IsMark a.has_frame n false) → Takes (λ c m. link_taken c m number) a s f c u h (orders_taken orders)
    → Takes (among from (to - from)) a s f c u h (orders_taken orders)
found_first from number to orders some order within few asleep now =
    found_some from number to (orders_taken orders) (taken_some orders some) order within (passed from number (omega (arith, within, few)) asleep order) now

-- where nothing was taken, a past stands still, and what a frame is loaded into is as it was
pub none_stands : {source : Config → Line → Option Taken} {a b : LinkLayer} {s t : Store} {f g : Loading} → Takes source a s f b t g None → Standing a s → Standing b t × (g ≡ f)
none_stands {source} {a} {b} {s} {t} {f} {g} h (others, m, st) = go (source a.config m) (h.took others m st)
  where
    go : (o : Option Taken) → Took o None m b t others f g → Standing b t × (g ≡ f)
    go None (stays, same) = ((others, m, stays), same)
    go (Some k) h = absurd h

-- What a take of a frame needs.
pub record Ready (e : LinkLayer) (s : Store) (f : Loading) : Type 0 where
  pub stands : Standing e s
  pub free : IsFree f
  pub room : e.config.n201 ≤ room_in f

pub ready : {e : LinkLayer} {s : Store} {f : Loading} → Standing e s → IsFree f → e.config.n201 ≤ room_in f → Ready e s f
ready stands free room = record { stands = stands; free = free; room = room }

-- it is still so after one that took nothing
pub still_ready : {source : Config → Line → Option Taken} {a b : LinkLayer} {s t : Store} {f g : Loading} → Takes source a s f b t g None → Ready a s f → Ready b t g
still_ready h r =
    let (stays, same) = none_stands h r.stands in
    record { stands = stays; free = subst IsFree (sym same) r.free; room = omega (arith, r.room, h.room, ap (λ x. x.n201) h.config) }

-- the turn is among the links
pub turn_within : {e : LinkLayer} {s : Store} → Standing e s → (e.turn ≤ link_count e.config) × (length e.links.items ≡ link_count e.config)
turn_within (others, m, st) = (omega (arith, st.turn, st.sound.turn), st.count)

-- the whole round: from the turn on, and then up to it
pub drop_range : (a n t : ℕ) → t ≤ n → drop t (range_with_len a n) ≡ range_with_len (a + t) (n - t)
drop_range a n zero h =
    let first : a ≡ a + 0 = omega arith in
    let count : n ≡ n - 0 = omega arith in
    ap (λ b. range_with_len b n) first ∙ ap (λ k. range_with_len (a + 0) k) count
drop_range a zero (suc t) h = absurd (omega (arith, h))
drop_range a (suc n) (suc t) h =
    let first : a + 1 + t ≡ a + suc t = omega arith in
    let count : n - t ≡ suc n - suc t = omega arith in
    drop_range (a + 1) n t (omega (arith, h)) ∙ ap (λ b. range_with_len b (n - t)) first ∙ ap (λ k. range_with_len (a + suc t) k) count

pub take_range : (a n t : ℕ) → t ≤ n → take t (range_with_len a n) ≡ range_with_len a t
take_range a n zero h = refl
take_range a zero (suc t) h = absurd (omega (arith, h))
take_range a (suc n) (suc t) h = ap (λ l. a ∷ l) (take_range (a + 1) n t (omega (arith, h)))

pub round_is : (e : LinkLayer) (s : Store) (others : List Owned) (m : Line) → LayerStands e s others m
    → option_or (among e.turn (link_count e.config - e.turn) e.config m) (among 0 (e.turn - 0) e.config m) ≡ first_taken e.config m (round e.config m)
round_is e s others m st =
    let n = link_count e.config in
    let few : m.turn ≤ n = st.sound.turn in
    let all : m.turn - 0 ≡ m.turn = omega arith in
    let first : m.turn ≡ 0 + m.turn = omega arith in
    ap (λ t. option_or (among t (n - t) e.config m) (among 0 (t - 0) e.config m)) (sym st.turn)
    ∙ ap (λ k. option_or (among m.turn (n - m.turn) e.config m) (among 0 k e.config m)) all
    ∙ sym (first_append e.config m (range_with_len m.turn (n - m.turn)) (range_with_len 0 m.turn))
    ∙ ap (λ l. first_taken e.config m (l ++ range_with_len 0 m.turn)) (ap (λ b. range_with_len b (n - m.turn)) first ∙ sym (drop_range 0 n m.turn few))
    ∙ ap (λ l. first_taken e.config m (drop m.turn (range_with_len 0 n) ++ l)) (sym (take_range 0 n m.turn few))

pub round_found : (e : LinkLayer) (count : ℕ) {b : LinkLayer} {s t : Store} {f g : Loading} {orders : List Order} → count ≡ length e.links.items
    → Takes (among e.turn (count - e.turn)) e s f b t g (Some orders) → Takes (λ c m. first_taken c m (round c m)) e s f b t g (Some orders)
round_found e count {b} {s} {t} {f} {g} {orders} is h =
    takes_as {first = λ c m. option_or (among e.turn (count - e.turn) c m) (among 0 (e.turn - 0) c m)} {second = λ c m. first_taken c m (round c m)}
    (λ others m st. ap (λ n. option_or (among e.turn (n - e.turn) e.config m) (among 0 (e.turn - 0) e.config m)) (is ∙ st.count) ∙ round_is e s others m st)
    (takes_first (among 0 (e.turn - 0)) {first = among e.turn (count - e.turn)} h)

pub round_ends : (e : LinkLayer) (count : ℕ) {b c : LinkLayer} {s t u : Store} {f g h : Loading} {orders : Option (List Order)} → count ≡ length e.links.items
    → Takes (among e.turn (count - e.turn)) e s f b t g None → Takes (among 0 (e.turn - 0)) b t g c u h orders
    → Takes (λ c m. first_taken c m (round c m)) e s f c u h orders
round_ends e count {b} {c} {s} {t} {u} {f} {g} {h} {orders} is before now =
    takes_as {first = λ c m. option_or (among e.turn (count - e.turn) c m) (among 0 (e.turn - 0) c m)} {second = λ c m. first_taken c m (round c m)}
    (λ others m st. ap (λ n. option_or (among e.turn (n - e.turn) e.config m) (among 0 (e.turn - 0) e.config m)) (is ∙ st.count) ∙ round_is e s others m st)
    (takes_or {first = among e.turn (count - e.turn)} {second = among 0 (e.turn - 0)} before now)
