-- A whole image is read; or what is refused is the image of none that may be saved.
use Rattle.std.proofs.Common.{◌≡◌, Bool, List, [], ◌∷◌, ◌++◌, ℕ, Option, Some, None, is_some, cond, refl, sym, ap, ◌∙◌, subst, append_assoc, append-nil}
use Rattle.std.specs.List.{AllZip}
use Rattle.std.specs.Prelude.{IfSome, flat_map}
use Rattle.std.proofs.lemmas.Bool.{false≢true}
use Rattle.lapd_card.specs.Image.{begun_as, AnyStandsFor, Lines}
use Rattle.lapd_card.specs.Kinds.{AnyStands}
use Rattle.lapd_card.specs.declared.kinds.AnyCard.{AnyCard}
use Rattle.lapd_count.specs.Image.{counters}
use Rattle.lapd_image.specs.Reads.{HasNone, IsReadAs}
use Rattle.lapd_image.proofs.Reading.{front-read, heads, tails}
use Rattle.model_teis.proofs.OfNetwork.ImageRead.{bits-read}
use Rattle.model_card.specs.Card.{Card}
use Rattle.model_card.specs.Sound.{IsSound}
use Rattle.model_card.specs.declared.kinds.CardKind.{CardKind}
use Rattle.model_card.specs.declared.kinds.CardKind.TheVariants as kinds
use Rattle.model_image.specs.Clocks.{clock}
use Rattle.model_line.specs.ConfigImage.{config}
use Rattle.model_line.specs.Image.{line}
use Rattle.model_image.specs.Images.{changes, image_of, marks, Saved}
use Rattle.model_image.specs.Sound.{AreChanges, AreMarks, IsClockOf, IsSaved}
use Rattle.model_timed.specs.Clock.{Clock}
use Rattle.lapd_timed.specs.Image.{card_octets, head_of, is_kind_of_octets, lines_in, timers_part, AreTimersRead, AreWaitsRead, HaveNoTimers, IsRestoredFrom, IsSavedCard, MayBeSaved, MayStandBeside}
use Rattle.lapd_timed.specs.declared.card_timers.CardTimers.{CardTimers}
use Rattle.lapd_timed.proofs.ImageRead.{as-many, begun-frames, begun-kind, beside-alike, lines-read, marks-alike, marks-read, same-clock, AreAlike}
use Rattle.lapd_timed.proofs.TimersRead.{same-size}

-- what an image has behind the marks of the lines
abbrev behind : Saved → List ℕ
behind s = clock s.card s.clock ++ flat_map changes s.changed

may-be-saved : (s : Saved) → IsSaved s → IsSavedCard (lines_in s)
may-be-saved s may = record {
  config = record { range = may.card.config; seed = may.seed };
  lines = record { config = refl; begins = record { sound = may.card; timed = may.timed }; lines = may.lines; each_counted = may.each_counted; counted = may.counted };
}

parts : (s : Saved) → image_of s ≡ head_of s.of_octets (is_some s.clock) ++ (card_octets (lines_in s) ++ (flat_map marks s.waits ++ behind s))
parts s =
    go (head_of s.of_octets (is_some s.clock)) (config s.card.config) (flat_map (line s.card.config) s.card.lines) (flat_map counters s.counted) (flat_map marks s.waits ++ behind s)
  where
    go : (a b c d e : List ℕ) → a ++ (b ++ (c ++ (d ++ e))) ≡ a ++ ((b ++ (c ++ d)) ++ e)
    go a b c d e = ap (λ x. a ++ x) (ap (λ x. b ++ x) (sym (append_assoc c d e)) ∙ sym (append_assoc b (c ++ d) e))

-- What follows which links wait: nothing, or timers that stand beside the card.
abbrev Ends : Card → List ℕ → Option Clock → List (List ℕ) → Type 0
Ends m front None changed = front ≡ []
Ends m front (Some c) changed = MayStandBeside m c changed × (front ≡ timers_part m c changed)

module _ (octets : List ℕ) where
  -- It is the image of none that may be saved.
  abbrev pub IsNone : Type 0
  IsNone = (s : Saved) → IsSaved s → image_of s ≡ octets → ⊥

  pub none-of-head : ((of_octets timed : Bool) (rest : List ℕ) → octets ≡ head_of of_octets timed ++ rest → ⊥) → IsNone
  none-of-head none s may e = none s.of_octets (is_some s.clock) _ (sym e ∙ parts s)

  module _ (of_octets timed : Bool) (front : List ℕ) (head : octets ≡ head_of of_octets timed ++ front) where
    after-head : (s : Saved) → image_of s ≡ octets → (timed ≡ is_some s.clock) × (front ≡ card_octets (lines_in s) ++ (flat_map marks s.waits ++ behind s))
    after-head s e =
        let left = tails (tails (tails (tails (tails (sym head ∙ sym e ∙ parts s))))) in
        let bits = bits-read (of_octets ∷ timed ∷ []) (s.of_octets ∷ is_some s.clock ∷ []) refl (heads left) in
        (heads (tails bits), tails left)

    pub none-of-card : HasNone card_octets IsSavedCard front → IsNone
    none-of-card none s may e = none (lines_in s) _ (may-be-saved s may) (after-head s e).1

    module _ (l : Lines) (after_card : List ℕ) (read : IsReadAs card_octets IsSavedCard l front after_card) where
      after-lines : (s : Saved) → IsSaved s → image_of s ≡ octets → AreAlike s.card l.card × (after_card ≡ flat_map marks s.waits ++ behind s)
      after-lines s may e =
          let both = lines-read (lines_in s) l (flat_map marks s.waits ++ behind s) after_card (may-be-saved s may) read.saved (sym (after-head s e).1 ∙ read.octets) in
          (both.0, sym both.1)

      marked : (s : Saved) → IsSaved s → AreAlike s.card l.card → AllZip (AreMarks l.card.config) l.card.lines s.waits
      marked s may alike =
          subst (λ c. AllZip (AreMarks c) l.card.lines s.waits) alike.config (marks-alike s.card.config s.card.lines l.card.lines s.waits alike.lines may.waits)

      pub none-of-waits : HasNone (flat_map marks) (AllZip (AreMarks l.card.config) l.card.lines) after_card → IsNone
      none-of-waits none s may e = let after = after-lines s may e in none s.waits (behind s) (marked s may after.0) after.1

      module _ (waits after_waits : List ℕ) (wait : AreWaitsRead l.card waits after_card after_waits) where
        after-marks : (s : Saved) → IsSaved s → image_of s ≡ octets → AreAlike s.card l.card × (after_waits ≡ clock l.card s.clock ++ flat_map changes s.changed)
        after-marks s may e =
            let after = after-lines s may e in
            let many = sym (as-many l.card.config l.card.lines wait.saved wait.marks) ∙ as-many l.card.config l.card.lines s.waits (marked s may after.0) in (
              after.0,
              marks-read wait.saved s.waits after_waits (behind s) many (sym wait.octets ∙ after.1)
                  ∙ ap (λ x. x ++ flat_map changes s.changed) (same-clock s.card l.card may.card after.0 s.clock),
            )

        ends : (s : Saved) → IsSaved s → image_of s ≡ octets → Ends l.card after_waits s.clock s.changed
        ends s may e = let after = after-marks s may e in go s may.card after.0 s.clock may.clock may.changed after.1
          where
            go : (s : Saved) → IsSound s.card → AreAlike s.card l.card → (o : Option Clock) → IfSome o (IsClockOf s.card) → AreChanges s.card.config o s.changed
                → after_waits ≡ clock l.card o ++ flat_map changes s.changed → Ends l.card after_waits o s.changed
            go s sound alike None of rows e = e ∙ ap (flat_map changes) rows
            go s sound alike (Some c) of rows e = (beside-alike s.card l.card sound alike c s.changed (record { clock = of; rows = rows }), e)

        pub none-of-timers : HaveNoTimers l.card timed after_waits → IsNone
        none-of-timers none s may e = go s.clock s.changed (ends s may e) (after-head s e).0
          where
            go : (o : Option Clock) (changed : List (List ℕ)) → Ends l.card after_waits o changed → timed ≡ is_some o → ⊥
            go None changed end same = false≢true (sym same ∙ none.0)
            go (Some c) changed end same = none.1 c changed [] end.0 (end.1 ∙ sym (append-nil (timers_part l.card c changed)))

        pub none-of-end : (timers : Option CardTimers) (rest : List ℕ) → AreTimersRead l.card timed timers after_waits rest → (rest ≡ [] → ⊥) → IsNone
        none-of-end timers rest known more s may e = more (go timers s.clock s.changed known (ends s may e) (after-head s e).0)
          where
            go : (t : Option CardTimers) (o : Option Clock) (changed : List (List ℕ)) → AreTimersRead l.card timed t after_waits rest → Ends l.card after_waits o changed → timed ≡ is_some o → rest ≡ []
            go None None changed known end same = sym known.1 ∙ end
            go None (Some c) changed known end same = absurd (false≢true (sym known.0 ∙ same))
            go (Some t) None changed known end same = absurd (false≢true (sym same ∙ known.0))
            go (Some t) (Some c) changed known end same =
                let of = known.1 in
                (front-read (timers_part l.card of.clock of.changed) (timers_part l.card c changed) rest [] (same-size l.card of.clock c of.changed changed of.saved.rows end.0.rows)
                (sym of.octets ∙ end.1 ∙ sym (append-nil (timers_part l.card c changed)))).1

-- ---- it is read

kind-back : (kind : CardKind) → cond {A = CardKind} (is_kind_of_octets kind) kinds.Octets kinds.Frames ≡ kind
kind-back kinds.Octets = refl
kind-back kinds.Frames = refl

module _ (octets front after_card after_waits waits : List ℕ) (kind : CardKind) (timed : Bool) (card : AnyCard) (l : Lines) (head : octets ≡ head_of (is_kind_of_octets kind) timed ++ front)
    (read : IsReadAs card_octets IsSavedCard l front after_card) (stands : AnyStandsFor kind card l) (wait : AreWaitsRead l.card waits after_card after_waits) where
  restored : (timers : Option CardTimers) (o : Option Clock) (changed : List (List ℕ)) → timed ≡ is_some o → IfSome o (IsClockOf l.card) → AreChanges l.card.config o changed
      → after_waits ≡ clock l.card o ++ flat_map changes changed
      → let s : Saved = record { of_octets = is_kind_of_octets kind; card = l.card; counted = l.counted; waits = wait.saved; clock = o; changed = changed } in
      MayBeSaved timers o s → IsRestoredFrom octets card waits timers
  restored timers o changed same beside rows e kept =
      let s : Saved = record { of_octets = is_kind_of_octets kind; card = l.card; counted = l.counted; waits = wait.saved; clock = o; changed = changed } in
      let begins = read.saved.lines.begins in
      record {
        saved = s;
        restored = record {
          saved = record {
            card = begins.sound;
            timed = begins.timed;
            seed = read.saved.config.seed;
            lines = read.saved.lines.lines;
            each_counted = read.saved.lines.each_counted;
            counted = read.saved.lines.counted;
            waits = wait.marks;
            clock = beside;
            changed = rows;
          };
          same = parts s ∙ sym (head ∙ (λ i. head_of (is_kind_of_octets kind) (same i) ++ (read.octets ∙ ap (λ x. card_octets l ++ x) (wait.octets ∙ ap (λ x. flat_map marks wait.saved ++ x) e)) i));
        };
        stands = record {
          kind = begun-kind card kind l.card stands.stands ∙ sym (kind-back kind);
          lines = begun-frames card kind l.card stands.stands;
          counted = stands.counted;
          waiting = wait.numbers;
          kept = kept;
        };
        begins = subst (λ k. AnyStands card (begun_as k l.card)) (sym (kind-back kind)) stands.stands;
        others = wait.others;
      }

  pub whole-read : (timers : Option CardTimers) (rest : List ℕ) → AreTimersRead l.card timed timers after_waits rest → rest ≡ [] → IsRestoredFrom octets card waits timers
  whole-read None rest known none = restored None None [] known.0 tt refl (known.1 ∙ none) refl
  whole-read (Some t) rest known none =
      let of = known.1 in
      restored (Some t) (Some of.clock) of.changed known.0 of.saved.clock of.saved.rows
      (of.octets ∙ ap (λ x. timers_part l.card of.clock of.changed ++ x) none ∙ append-nil (timers_part l.card of.clock of.changed)) of.stand
