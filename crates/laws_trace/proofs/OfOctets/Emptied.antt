-- Where a line was only pulled, as often as the configuration says, the latest call for its next frame gave none.
use Rattle.laws_trace.proofs.Vocabulary.{◌≡◌, ℕ, zero, suc, ◌+◌, ◌<◌, ◌≤◌, ◌==◌, Bool, true, false, cond, List, [], ◌∷◌, ◌++◌, Option, None, option_map, refl, sym, ap, ◌∙◌, subst, arith, append_assoc, eq-eqb, All, flat_map-append, All-nil, All-cons, All-head, All-tail, Config, NextFrame, taken, next_of, most_frames, HasNothing, Card, line_at, AreTakesAt, takes_at, card-idles, all-left, all-right}
use Rattle.laws_trace.proofs.Vocabulary.{config-stays, OctetCard, calls_answered, moments_meant, asked_at, refines, pulls_are_takes, fresh_octets_sound, moments-append, eqb-true, answer as line_answer, takes_slot, moments as frame_moments, after_all as frames_after, ports_fresh as fresh, ports_after as after, PortsEvent as Event, PortsAreAtLines as AreAtLines, ports_after_all as after_all}
use Rattle.laws_trace.proofs.Vocabulary.{port_at, meant_all, EndsInPulls, gave, next, IsInRange, config_stays}
use Rattle.model_card.specs.Card as cards
use Rattle.model_card.specs.Event as frames
use Rattle.model_card.specs.Machine as machine
use Rattle.model_card.specs.Run as runs
use Rattle.model_card.proofs.CardSound as card_sound
use Rattle.laws_trace.proofs.Drained.{drained}
use Rattle.model_card.specs.ports.Pulls.{pulls_at, pulls_behind, most_pulls_behind}
use Rattle.model_card.specs.ports.Run.{IsAtLine}
use Rattle.model_card.specs.ports.Sound.{IsSoundOctetCard}
use Rattle.model_card.proofs.OfPorts.Reaching.{reached_after_all, reached_fresh}
use Rattle.model_card.proofs.OfPorts.Sound.{always_sound}

-- what events mean behind others
pub meant_both : (m : OctetCard) (front behind : List Event) → meant_all m (front ++ behind) ≡ meant_all m front ++ meant_all (after_all m front) behind
unfolding after_all meant_all
meant_both m [] behind = refl
meant_both m (e ∷ front) behind = grind (arith, meant_both (after e m) front behind, append_assoc)

-- ---- the latest call among events

pub record IsLatest (number : ℕ) (fs : List frames.Event) : Type 0 where
  pub front : List frames.Event
  pub back : List frames.Event
  pub split : fs ≡ front ++ frames.at number next ∷ back
  pub only : AreTakesAt number front
  pub none : takes_at number back ≡ 0
  pub count : takes_at number fs ≡ 1 + takes_at number front

abbrev IsTake : ℕ → frames.Event → Type 0
IsTake number f = f.line ≡ number → f.what ≡ next

at_front : (number : ℕ) (f : frames.Event) (fs : List frames.Event) → IsTake number f → takes_at number fs ≡ 0 → 0 < takes_at number (f ∷ fs)
    → (b : Bool) → (f.line == number) ≡ b → IsLatest number (f ∷ fs)
at_front number f fs h none some true is = record {
  front = [];
  back = fs;
  split = λ i. record { line = eqb-true f.line number is i; what = h (eqb-true f.line number is) i } ∷ fs;
  only = All-nil (IsTake number);
  none = none;
  count = ap (λ b. cond b 1 0 + takes_at number fs) is ∙ ap (λ n. 1 + n) none;
}
at_front number f fs h none some false is = absurd (omega (arith, subst (λ b. 0 < cond b 1 0 + takes_at number fs) is some, none))

behind_one : (number : ℕ) (f : frames.Event) (fs : List frames.Event) → IsTake number f → IsLatest number fs → IsLatest number (f ∷ fs)
behind_one number f fs h x =
    record {
      front = f ∷ x.front;
      back = x.back;
      split = ap (λ es. f ∷ es) x.split;
      only = All-cons (IsTake number) f x.front h x.only;
      none = x.none;
      count = grind arith;
    }

latest : (number : ℕ) (fs : List frames.Event) → AreTakesAt number fs → 0 < takes_at number fs → IsLatest number fs
latest number [] only some = absurd (omega (arith, some))
latest number (f ∷ fs) only some = by_count (takes_at number fs) refl (latest number fs (All-tail (IsTake number) f fs only))
  where
    by_count : (n : ℕ) → takes_at number fs ≡ n → (0 < takes_at number fs → IsLatest number fs) → IsLatest number (f ∷ fs)
    by_count zero is later = at_front number f fs (All-head (IsTake number) f fs only) is some (f.line == number) refl
    by_count (suc n) is later = behind_one number f fs (All-head (IsTake number) f fs only) (later (omega (arith, is)))

-- ---- what calls are answered with

is_off : (b : Bool) (n : ℕ) → cond b 1 0 + n ≡ 0 → b ≡ false
is_off b n h = grind arith

none_left : (b : Bool) (n : ℕ) → cond b 1 0 + n ≡ 0 → n ≡ 0
none_left b n h = grind arith

none_behind : (number : ℕ) (card : Card) (fs : List frames.Event) → takes_at number fs ≡ 0 → calls_answered number (runs.moments card fs) ≡ []
unfolding frame_moments
none_behind number card [] none = refl
none_behind number card (f ∷ fs) none = grind (arith, none_behind number (machine.after f card) fs, is_off, none_left)

gives_none : (card : Card) (number : ℕ) → taken card.config (line_at number card) ≡ None → asked_at card number next ≡ gave None
unfolding line_answer takes_slot
gives_none card number none = ap (λ o. gave (option_map next_of o)) none

call_gives_none : (number : ℕ) (card : Card) (back : List frames.Event) → taken card.config (line_at number card) ≡ None → takes_at number back ≡ 0
    → calls_answered number (runs.moments card (frames.at number next ∷ back)) ≡ None ∷ []
unfolding frame_moments
call_gives_none number card back nothing none = grind (arith, asked_at, eq-eqb, gives_none, none_behind)

-- ---- of a line that was only pulled

module _ (c : Config) (events : List Event) (number : ℕ) (ranged : IsInRange c) (all : AreAtLines (fresh c) events) (within : number < c.lines) (h : EndsInPulls c events number) where
  abbrev m : OctetCard
  m = after_all (fresh c) h.before

  abbrev pub first : List frames.Event
  first = meant_all (fresh c) h.before

  abbrev pub calls : List frames.Event
  calls = meant_all m h.pulls

  pub meaning : meant_all (fresh c) events ≡ first ++ calls
  meaning = ap (meant_all (fresh c)) h.split ∙ meant_both (fresh c) h.before h.pulls

  these : AreAtLines (fresh c) (h.before ++ h.pulls)
  these = subst (AreAtLines (fresh c)) h.split all

  pub before_lines : AreAtLines (fresh c) h.before
  before_lines = all-left (IsAtLine (fresh c)) h.before h.pulls these

  pub same : m.card.config ≡ c
  same = config_stays (fresh c) h.before

  pub lines : AreAtLines m h.pulls
  lines = subst (λ (x : Config). All (λ (e : Event). e.line < x.lines) h.pulls) (sym same) (all-right (IsAtLine (fresh c)) h.before h.pulls these)

  pub few : number < m.card.config.lines
  few = subst (λ (x : Config). number < x.lines) (sym same) within

  pub sound : IsSoundOctetCard m
  sound = always_sound (fresh c) h.before (fresh_octets_sound c ranged) before_lines

  pub only : AreTakesAt number calls
  only = pulls_are_takes.only m h.pulls number h.only

  pub many : most_frames c < takes_at number calls
  many =
      let behind = pulls_are_takes.most m number (reached_after_all (fresh c) h.before (reached_fresh c ranged) before_lines) few (most_frames c) in
      let least = subst (λ (x : Config). pulls_behind x.n201 (port_at number m) (most_frames c) ≤ most_pulls_behind x.n201 (most_frames c)) same behind in
      pulls_are_takes.enough m h.pulls number (most_frames c) sound lines few h.only
      (subst (λ (x : Config). pulls_behind x.n201 (port_at number m) (most_frames c) ≤ pulls_at number h.pulls) (sym same) (omega (arith, least, h.enough)))

  pub x : IsLatest number calls
  x = let some = many in latest number calls only (omega (arith, some))

  abbrev front : List frames.Event
  front = first ++ x.front

  whole : meant_all (fresh c) events ≡ front ++ frames.at number next ∷ x.back
  whole = meaning ∙ ap (λ fs. first ++ fs) x.split ∙ sym (append_assoc first x.front (frames.at number next ∷ x.back))

  front_lines : runs.AreAtLines (cards.fresh c) front
  front_lines =
      all-left (runs.IsAtLine (cards.fresh c)) front (frames.at number next ∷ x.back)
      (subst (runs.AreAtLines (cards.fresh c)) whole ((refines (fresh c) events).at_lines all))

  abbrev there : Card
  there = runs.after_all (cards.fresh c) front

  nothing : HasNothing c (line_at number there)
  nothing = drained c front number ranged front_lines within first x.front refl x.only (omega (arith, x, many))

  none : taken there.config (line_at number there) ≡ None
  unfolding frames_after
  none =
      let kept : there.config ≡ c = config-stays (cards.fresh c) front in
      (card-idles there number [] (card_sound.always_sound (cards.fresh c) front (card_sound.fresh_is_sound c ranged) front_lines)
      (subst (λ (x : Config). number < x.lines) (sym kept) within) (All-nil (runs.IsAtLine there)) (All-nil (IsTake number))
      (subst (λ (x : Config). HasNothing x (line_at number there)) (sym kept) nothing)).none

  abbrev pub before_none : List (Option NextFrame)
  before_none = calls_answered number (runs.moments (cards.fresh c) front)

  pub latest_gave_none : calls_answered number (moments_meant c events) ≡ before_none ++ None ∷ []
  latest_gave_none = grind (arith, whole, moments-append, flat_map-append, call_gives_none, x, none)
