-- What a save writes in front of a room, and what C holds as it is saved and restored.
use Rattle.std.proofs.Common.{◌≡◌, ℕ, ◌≤◌, cond, List, length, map, take, refl, sym, ap, ◌∙◌, subst, length-take-le, take_all}
use Rattle.std.specs.List.{AllZip}
use Rattle.std.specs.Prelude.{IfOk, IfSome, Option, Some, None, Ok, Err, Result, is_some}
use Rattle.std.specs.Result.{result_ok}
use Rattle.std.proofs.lemmas.Bool.{le-ltb}
use Rattle.lapd_card.specs.Kinds.{config_of, frames_of, card_in, AnyStands, FrameCardStands, Machine}
use Rattle.lapd_card.specs.declared.kinds.AnyCard.{AnyCard}
use Rattle.lapd_image.specs.Puts.{Puts}
use Rattle.lapd_timed.specs.Image.{AreAllMarks, IsRestoredFrom, MayBeSaved, StandsFor}
use Rattle.lapd_timed.specs.declared.card_timers.CardTimers.{CardTimers}
use Rattle.model_bits.specs.Bits.{number_of}
use Rattle.model_card.specs.Card.{Card}
use Rattle.model_card.proofs.Reaching.{reached-sound}
use Rattle.model_image.specs.Images.{image_of, Saved}
use Rattle.model_line.specs.Most.{most_octets}
use Rattle.model_image.specs.Sound.{AreMarks, IsSaved}
use Rattle.model_image.proofs.FitsWhole.{images_fit}
use Rattle.model_timed.specs.Clock.{Clock}
use Rattle.lapd_c.specs.declared.kept.KeptCard.{KeptCard}
use Rattle.lapd_c.specs.Saves.{save_status, IsHeldAs, IsRead, StandsInFront}
use Rattle.lapd_c.specs.Waiting.{card_waits, AreAllMarked}
use Rattle.lapd_c.proofs.Served.{frames_stand}
use Rattle.lapd_c.proofs.WaitsBack.{held_marks, marked_there, waits_back}

-- What holds of what is there.
pub its : {X : Type 0} (P : X → Type 0) (o : Option X) (x : X) → o ≡ Some x → IfSome o P → P x
its P o x is holds = subst (λ o. IfSome o P) is holds

-- So much room is enough.
pub told_enough : (room most : ℕ) → most ≤ room → 0 ≡ save_status room most
told_enough room most fits = sym (ap (λ b. cond b 19 0) (le-ltb room most fits))

-- Octets that have room stand in front, and are all that is counted.
pub written : (octets old new : List ℕ) (end : ℕ) → Puts octets 0 old end new → length octets ≤ length old → StandsInFront octets old (new, end)
written octets old new end puts fits =
    let front : take end new ≡ octets = puts.front ∙ take_all (length old) octets fits in
    (sym (length-take-le end new puts.within) ∙ ap (λ (l : List ℕ). length l) front, front, puts.after)

-- A card that keeps its own timers has a clock in its image; another has none.
pub timed_alike : (timers : Option CardTimers) (clock : Option Clock) (s : Saved) → MayBeSaved timers clock s → is_some clock ≡ is_some timers
timed_alike None None s may = refl
timed_alike None (Some c) s may = absurd may
timed_alike (Some timers) None s may = absurd may
timed_alike (Some timers) (Some c) s may = refl

-- The image of what is held has no more octets than its card says.
pub held_fits : (kept : KeptCard) (s : Saved) → IsSaved s → IsHeldAs kept s → length (image_of s) ≤ most_octets s.card.config (is_some kept.timed.timers)
held_fits kept s saved held = subst (λ timed. length (image_of s) ≤ most_octets s.card.config timed) (timed_alike kept.timed.timers s.clock s held.timers) (images_fit s saved)

-- The configuration of what is held is the card's.
pub config_there : (kept : KeptCard) (m : Machine) → AnyStands kept.timed.card m → (card_in m).config ≡ config_of kept.timed.card
config_there kept m stands = (frames_stand kept.timed.card m stands).config

-- It is what an image of this card and these links and timers has, and only links wait whose TEI is on the line.
pub stands_for : (kept : KeptCard) (waits : List ℕ) (s : Saved) → map number_of (card_waits s.card kept.refused) ≡ take s.card.config.lines waits → IsHeldAs kept s
    → StandsFor kept.timed.card waits kept.timed.timers s
stands_for kept waits s numbers held = record {
  kind = held.kind;
  lines = held.lines;
  counted = held.counted;
  waiting = ap (map number_of) (sym held.waits) ∙ numbers;
  kept = held.timers;
}

pub marks_held_as : (kept : KeptCard) (s : Saved) → IsHeldAs kept s → AreAllMarks s
marks_held_as kept s held = subst (AllZip (AreMarks s.card.config) s.card.lines) held.waits (held_marks s.card kept.refused (reached-sound s.card held.lines.reached))

-- What was restored is held, once its links are marked.
pub read_again : (image waits : List ℕ) (kept : KeptCard) (card : AnyCard) (timers : Option CardTimers) → kept.timed.card ≡ card → kept.timed.timers ≡ timers
    → ((m : Card) → FrameCardStands (frames_of card) m → AreAllMarked m waits kept.refused) → IsRestoredFrom image card waits timers → IsRead image kept
read_again image waits kept card timers same own marked restored =
    let from = subst (λ card. IsRestoredFrom image card waits kept.timed.timers) (sym same) (subst (λ own. IsRestoredFrom image card waits own) (sym own) restored) in
    let s = from.saved in
    let marks = marked s.card (subst (λ card. FrameCardStands (frames_of card) s.card) same from.stands.lines) in
    let sound = reached-sound s.card from.stands.lines.reached in
    record {
      saved = s;
      restored = from.restored;
      held = record {
        kind = from.stands.kind;
        lines = from.stands.lines;
        counted = from.stands.counted;
        waits = waits_back s.card sound s.waits waits kept.refused from.restored.saved.waits from.stands.waiting marks;
        timers = from.stands.kept;
      };
      begins = from.begins;
      lines = marks.count;
      marked = λ line place within few is. marked_there s.card waits kept.refused marks line place within few is;
    }

-- and it stays so in a box.
pub boxed : {B E : Type 0} (P : KeptCard → Type 0) (kept : KeptCard) (r : Result B E) (value : B → KeptCard) → IfOk r (λ b. value b ≡ kept) → P kept
    → IfSome (result_ok r) (λ b. P (value b))
boxed P kept (Ok b) value is holds = subst P (sym is) holds
boxed P kept (Err e) value is holds = tt
