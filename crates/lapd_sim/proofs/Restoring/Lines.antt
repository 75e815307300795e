-- Lines and cards of frames that stand for those of the machine stand for any that are the same.
use Rattle.std.proofs.Common.{arith, ◌≡◌, ℕ, zero, suc, ◌<◌, ◌≤◌, ◌++◌, List, [], ◌∷◌, length, get_or, Bool, true, false, Option, Some, None, refl, sym, ap, ◌∙◌, subst}
use Rattle.std.specs.Prelude.{◌&&◌, nat_lt, option_map}
use Rattle.std.specs.List.{All, AllZip, flat_map, zip}
use Rattle.std.proofs.lemmas.Bool.{ltb-true, ltb-false}
use Rattle.std.proofs.lemmas.List.Elements.{All-cons, All-head, All-nil, All-tail}
use Rattle.std.proofs.lemmas.Option.{none-some, same_Some, slice_get-map, slice_get_past}
use Rattle.lapd_card.specs.FrameCard.{Held}
use Rattle.lapd_card.specs.FrameStands.{FrameStands}
use Rattle.lapd_card.specs.Lines.{IsFit, owned}
use Rattle.lapd_card.specs.Waiting.{waits_on}
use Rattle.lapd_line.specs.LinkLayer.{LayerStands}
use Rattle.lapd_line.specs.Links.{links_pairs}
use Rattle.lapd_line.specs.Marks.{IsMark}
use Rattle.lapd_line.specs.Units.{AreFor, unit_pairs}
use Rattle.lapd_line.specs.declared.frame_line.FrameLine.{FrameLine}
use Rattle.lapd_line.specs.declared.link_layer.LinkLayer.{LinkLayer}
use Rattle.lapd_link.specs.Stands.{terms_of}
use Rattle.lapd_store.specs.Ownership.{Holds, Owned}
use Rattle.lapd_store.specs.Store.{Store}
use Rattle.model_card.specs.Card as cards
use Rattle.model_card.specs.Event.{at}
use Rattle.model_card.specs.Machine.{answer}
use Rattle.model_card.specs.Reached.{IsReached}
use Rattle.model_card.specs.Sound.{IsSound as IsSoundCard}
use Rattle.model_image.specs.Laws.{AreSameCards}
use Rattle.model_line.specs.Same.{IsSameLine}
use Rattle.model_image.proofs.GoOnCards.{to-alike}
use Rattle.model_image.proofs.GoOnLines.{SameLines}
use Rattle.model_image.proofs.GoOnOctets.{frames-once}
use Rattle.model_line.specs.Counts.{is_given}
use Rattle.model_line.specs.Event.{next}
use Rattle.model_line.specs.Line.{Line, fresh_line, link_at, link_count, place_at, service_at, tei_at, terms}
use Rattle.model_line.specs.Sound.{IsSound, IsSoundAt}
use Rattle.model_line.specs.declared.config.Config.{Config}
use Rattle.model_link.specs.Link as machine
use Rattle.model_link.specs.Sound as links
use Rattle.model_link.specs.declared.terms.Terms.{Terms}
use Rattle.lapd_sim.proofs.Restoring.Links.{AreSoundToo, all-fit, awake-same, pairs-same}

-- A link of a free place is as it begins, at both; and that of a TEI is sound.
sound-too : (c : Config) (number : ℕ) (o : Option ℕ) (t : Terms) (l u : machine.Link) → ((tei : ℕ) → o ≡ Some tei → t ≡ terms c (service_at number) tei)
    → IsSoundAt c number l o → IsSoundAt c number u o → links.IsSound t u → links.IsSound t l
sound-too c number None t l u is sound also h = subst (links.IsSound t) (also ∙ sym sound) h
sound-too c number (Some tei) t l u is sound also h = subst (λ x. links.IsSound x l) (sym (is tei refl)) sound

module _ (e : LinkLayer) (store : Store) (others : List Owned) (l u : Line) (same : SameLines l u) (sound : IsSound e.config l) (h : LayerStands e store others u) where
  tei-same : (number : ℕ) → tei_at number l ≡ tei_at number u
  tei-same number = sym (ap (λ (x : Line). tei_at number x) same.rest)

  sound-links : AreSoundToo e.links.items l.links u.links
  sound-links n link is before = go (nat_lt n (link_count e.config)) refl
    where
      terms-are : n < link_count e.config → (tei : ℕ) → tei_at (place_at n) l ≡ Some tei → terms_of link ≡ terms e.config (service_at n) tei
      terms-are within tei on =
          same_Some (terms_of link) (terms e.config (service_at n) tei)
          (sym (ap (option_map terms_of) is) ∙ sym (slice_get-map terms_of e.links.items n) ∙ h.terms n tei within (sym (tei-same (place_at n)) ∙ on))

      go : (b : Bool) → nat_lt n (link_count e.config) ≡ b → links.IsSound (terms_of link) (get_or l.links n machine.fresh)
      go true b =
          let within : n < link_count e.config = ltb-true n (link_count e.config) b in
          sound-too e.config n (tei_at (place_at n) l) (terms_of link) (link_at n l) (link_at n u) (terms-are within) (sound.links n within)
          (subst (λ o. IsSoundAt e.config n (link_at n u) o) (sym (tei-same (place_at n))) (h.sound.links n within)) before
      go false b =
          let past : length e.links.items ≤ n = omega (arith, h.count, ltb-false n (link_count e.config) b) in
          absurd (none-some link (sym (slice_get_past e.links.items n past) ∙ is))

  pub layer-same : LayerStands e store others l
  layer-same = record {
    range = h.range;
    wide = h.wide;
    sound = sound;
    management = sym (ap (λ (x : Line). x.management) same.rest) ∙ h.management;
    own = sym (ap (λ (x : Line). x.own) same.rest) ∙ h.own;
    kind = h.kind;
    count = h.count;
    links = all-fit e.config e.links.items l.links u.links same.links sound-links h.links;
    terms = λ number tei within on. h.terms number tei within (sym (tei-same (place_at number)) ∙ on);
    addressed = subst (AreFor e.units.waiting) (ap (λ (x : Line). x.units) same.rest) h.addressed;
    capacity = h.capacity;
    turn = sym (ap (λ (x : Line). x.turn) same.rest) ∙ h.turn;
    has_frame = awake-same e.has_frame e.links.items l.links u.links same.links h.has_frame;
    held = subst (λ owned. Holds store (owned ++ others)) owned-same h.held;
  }
    where
      owned-same : links_pairs e.links.items u.links ++ unit_pairs e.units.waiting u.units ≡ links_pairs e.links.items l.links ++ unit_pairs e.units.waiting l.units
      owned-same =
          let units = ap (λ (x : Line). x.units) same.rest in
          let pairs = pairs-same e.links.items l.links u.links same.links in
          λ i. pairs i ++ unit_pairs e.units.waiting (units i)

-- ---- the lines of a card

pub lines-owned : (c : Config) (lines : List FrameLine) (ls us : List Line) → AllZip SameLines ls us → flat_map owned (zip lines us) ≡ flat_map owned (zip lines ls)
lines-owned c [] ls us same = refl
lines-owned c (x ∷ xs) [] [] same = refl
lines-owned c (x ∷ xs) [] (u ∷ us) same = absurd same
lines-owned c (x ∷ xs) (l ∷ ls) [] same = absurd same
lines-owned c (x ∷ xs) (l ∷ ls) (u ∷ us) same =
    let units = ap (λ (y : Line). y.units) same.0.rest in
    let pairs = pairs-same x.layer.links.items l.links u.links same.0.links in
    let rest = lines-owned c xs ls us same.1 in
    λ i. (pairs i ++ unit_pairs x.layer.units.waiting (units i)) ++ rest i

lines-fit : (c : Config) (lines : List FrameLine) (ls us : List Line) → AllZip SameLines ls us → All (IsSound c) ls → All (IsFit c) (zip lines us) → All (IsFit c) (zip lines ls)
lines-fit c [] ls us same sound h = All-nil (IsFit c)
lines-fit c (x ∷ xs) [] us same sound h = All-nil (IsFit c)
lines-fit c (x ∷ xs) (l ∷ ls) [] same sound h = absurd same
lines-fit c (x ∷ xs) (l ∷ ls) (u ∷ us) same sound h =
    let first : IsFit c (x, u) = All-head (IsFit c) (x, u) (zip xs us) h in
    All-cons (IsFit c) (x, l) (zip xs ls)
    (record {
      config = first.config;
      store = first.store;
      others = first.others;
      stands = record {
        layer = layer-same x.layer first.store first.others l u same.0 (subst (λ d. IsSound d l) (sym first.config) (All-head (IsSound c) l ls sound)) first.stands.layer;
      };
    })
    (lines-fit c xs ls us same.1 (All-tail (IsSound c) l ls sound) (All-tail (IsFit c) (x, u) (zip xs us) h))

as-many : (ls us : List Line) → AllZip SameLines ls us → length us ≡ length ls
as-many [] [] same = refl
as-many [] (u ∷ us) same = absurd same
as-many (l ∷ ls) [] same = absurd same
as-many (l ∷ ls) (u ∷ us) same = ap suc (as-many ls us same.1)

all-alike : (c : Config) (ls us : List Line) → All (IsSound c) ls → All (IsSound c) us → AllZip (IsSameLine c) ls us → AllZip SameLines ls us
all-alike c [] [] sound also same = tt
all-alike c [] (u ∷ us) sound also same = absurd same
all-alike c (l ∷ ls) [] sound also same = absurd same
all-alike c (l ∷ ls) (u ∷ us) sound also same = (
  to-alike c l u (All-head (IsSound c) l ls sound) (All-head (IsSound c) u us also) same.0,
  all-alike c ls us (All-tail (IsSound c) l ls sound) (All-tail (IsSound c) u us also) same.1,
)

-- Which lines have something to give.
waits-same : (a b : cards.Card) → IsSoundCard a → IsSoundCard b → AreSameCards a b → (number : ℕ) → waits_on b number ≡ waits_on a number
waits-same a b sound also same number = go (nat_lt number a.config.lines) refl
  where
    lines : nat_lt number b.config.lines ≡ nat_lt number a.config.lines
    lines = ap (λ (c : Config). nat_lt number c.lines) (sym same.config)

    go : (w : Bool) → nat_lt number a.config.lines ≡ w → waits_on b number ≡ waits_on a number
    go true w =
        let one = frames-once (at number next) a b sound also same (ltb-true number a.config.lines w) in
        λ i. lines i && is_given (sym one.answers i)
    go false w =
        ap (λ v. v && is_given (answer (at number next) b)) (lines ∙ w) ∙ sym (ap (λ v. v && is_given (answer (at number next) a)) w)

-- A card of frames.
pub card-same : {S : Type 0} (store : S → Store) (card : Held S) (a b : cards.Card) → IsSoundCard a → IsSoundCard b → AreSameCards a b → IsReached a → FrameStands store card b → FrameStands store card a
card-same store card a b sound also same reached h =
    let config : a.config ≡ card.config = same.config ∙ h.config in
    let alike : AllZip SameLines a.lines b.lines =
    all-alike a.config a.lines b.lines sound.lines (subst (λ c. All (IsSound c) b.lines) (sym same.config) also.lines) same.lines in
    record {
      config = config;
      lines = record {
        width = h.lines.width;
        count = h.lines.count ∙ as-many a.lines b.lines alike;
        fit = lines-fit card.config card.lines a.lines b.lines alike (subst (λ c. All (IsSound c) a.lines) config sound.lines) h.lines.fit;
        held = subst (λ all. Holds (store card.shelf) (all ++ [])) (lines-owned card.config card.lines a.lines b.lines alike) h.lines.held;
      };
      slots = h.slots;
      waiting = λ number few. subst (λ w. IsMark card.waiting number w) (waits-same a b sound also same number) (h.waiting number few);
      reached = reached;
    }

-- Its TEIs are at the same places.
line-teis : (place : ℕ) (xs ys : List Line) (n : ℕ) (d : Line) → AllZip SameLines xs ys → tei_at place (get_or xs n d) ≡ tei_at place (get_or ys n d)
line-teis place [] [] n d same = refl
line-teis place [] (y ∷ ys) n d same = absurd same
line-teis place (x ∷ xs) [] n d same = absurd same
line-teis place (x ∷ xs) (y ∷ ys) zero d same = sym (ap (λ (l : Line). tei_at place l) same.0.rest)
line-teis place (x ∷ xs) (y ∷ ys) (suc n) d same = line-teis place xs ys n d same.1

pub teis-same : (a b : cards.Card) → IsSoundCard a → IsSoundCard b → AreSameCards a b → (place line : ℕ) → tei_at place (cards.line_at line a) ≡ tei_at place (cards.line_at line b)
teis-same a b sound also same place line =
    line-teis place a.lines b.lines line (fresh_line a.config) (all-alike a.config a.lines b.lines sound.lines (subst (λ c. All (IsSound c) b.lines) (sym same.config) also.lines) same.lines)
    ∙ ap (λ (c : Config). tei_at place (get_or b.lines line (fresh_line c))) same.config
