-- The counters of the lines of a card are read, one line after the other, and the lines stand as they did.
use Rattle.lapd_card.proofs.Vocabulary.{◌≡◌, ℕ, ◌+◌, ◌≤◌, ◌<◌, List, ◌++◌, length, length-set, length-map, map-set, get_or, set, set-get_or, take, take_all, refl, sym, ap, subst, ◌∙◌, arith, flat_map, All, All-nil, All-push, fresh_line, FrameLine, counters_in, counters_of, LinesStand}
use Rattle.std.proofs.lemmas.List.{take_more_set}
use Rattle.std.proofs.Common.{length-take}
use Rattle.lapd_count.specs.Image.{counters, IsCounted}
use Rattle.lapd_image.specs.Reads.{IsReadAs, HasNone}
use Rattle.lapd_line.specs.LinkLayer.{LayerStands}
use Rattle.model_line.proofs.ImageRead.{counters-read}
use Rattle.lapd_card.specs.Image.{AreCounted, StayLines}
use Rattle.lapd_card.proofs.OneLine.{focused}
use Rattle.lapd_card.proofs.ReadMembers.{none_more, one_more}

-- a line whose counters alone change stands as it did
stays_one : (old lines : List FrameLine) (i : ℕ) (x y : FrameLine) → i < length lines → x ≡ get_or lines i x → y.layer ≡ x.layer → StayLines old lines → StayLines old (set lines i y)
stays_one old lines i x y within is layer stay = record {
  count = length-set lines i y ∙ stay.count;
  stand = λ c s ms h.
      let focus = focused c lines s ms i x within is (stay.stand c s ms h) in
      let l = get_or ms i (fresh_line c) in
      subst (λ ms. LinesStand c (set lines i y) s ms) (set-get_or ms i (fresh_line c))
      (focus.back s y l (record { slots = refl; width = refl }) (ap (λ e. e.config) layer) (record { layer = subst (λ e. LayerStands e s focus.rest l) (sym layer) focus.stands.layer }));
}

-- Those of some lines are read.
pub record CountedSoFar (front rest : List ℕ) (old lines : List FrameLine) (i : ℕ) : Type 0 where
  pub stay : StayLines old lines
  pub counted : All IsCounted (take i (counters_in lines))
  pub octets : front ≡ flat_map counters (take i (counters_in lines)) ++ rest

pub none_counted : (front : List ℕ) (lines : List FrameLine) → CountedSoFar front front lines lines 0
none_counted front lines = record { stay = record { count = refl; stand = λ c s ms h. h }; counted = All-nil IsCounted; octets = refl }

module _ {front rest : List ℕ} {old lines : List FrameLine} {i : ℕ} (so : CountedSoFar front rest old lines i) where
  pub all_counted : length lines ≤ i → IsReadAs (flat_map counters) (AreCounted (length old)) (counters_in lines) front rest
  all_counted all =
      let many = length-map lines counters_of in
      let whole = take_all i (counters_in lines) (omega (arith, many, all)) in
      record {
        saved = record { count = many ∙ so.stay.count; each = subst (All IsCounted) whole so.counted };
        octets = so.octets ∙ ap (λ cs. flat_map counters cs ++ rest) whole;
      }

  module _ {x : FrameLine} (within : i < length lines) (is : x ≡ get_or lines i x) where
    pub one_more_counted : {next : List ℕ} {y : FrameLine} → IsReadAs counters IsCounted y.counters rest next → y.layer ≡ x.layer → CountedSoFar front next old (set lines i y) (i + 1)
    one_more_counted {next} {y} read layer =
        let done = ap (take (i + 1)) (map-set counters_of lines i y) ∙ take_more_set (counters_in lines) i y.counters (omega (arith, within, length-map lines counters_of)) in
        record {
          stay = stays_one old lines i x y within is layer so.stay;
          counted = subst (All IsCounted) (sym done) (All-push IsCounted (take i (counters_in lines)) y.counters so.counted read.saved);
          octets = one_more counters (take i (counters_in lines)) y.counters next so.octets read.octets ∙ ap (λ cs. flat_map counters cs ++ next) (sym done);
        }

    -- If none are read there, none are of so many lines.
    pub no_more_counted : HasNone counters IsCounted rest → HasNone (flat_map counters) (AreCounted (length old)) front
    no_more_counted none cs end saved e =
        none_more counters counters-read (take i (counters_in lines)) (length old)
        (omega (arith, within, so.stay.count, length-take i (counters_in lines), length-map lines counters_of)) so.counted so.octets none cs end saved.count saved.each e
