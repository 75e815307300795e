-- What is saved of a setup is its image, and may be saved.
use Rattle.std.proofs.Common.{arith, ◌≡◌, ℕ, zero, suc, ◌<◌, ◌≤◌, List, [], ◌∷◌, length, get_or, replicate, take, true, false, sym, ap, ◌∙◌, subst}
use Rattle.std.specs.List.{AllZip}
use Rattle.std.proofs.lemmas.List.{length-replicate}
use Rattle.lapd_image.specs.Puts.{Puts}
use Rattle.lapd_image.proofs.Puts.{puts-whole}
use Rattle.lapd_timed.specs.Image.{AreAllMarks, StandsFor}
use Rattle.model_card.proofs.Reaching.{reached-sound}
use Rattle.model_image.proofs.FitsWhole.{images_fit}
use Rattle.model_image.specs.Images.{Saved, image_of}
use Rattle.model_line.specs.Most.{most_octets}
use Rattle.model_image.specs.Sound.{AreMarks, IsSaved}
use Rattle.model_line.proofs.Ranges.{ranges_of}
use Rattle.model_line.specs.Line.{Line, link_count}
use Rattle.model_line.specs.declared.config.Config.{Config}
use Rattle.lapd_sim.proofs.Boards.{inside}
use Rattle.lapd_sim.proofs.Restoring.Cards.{stands-for}
use Rattle.lapd_sim.proofs.Vocabulary.{SetupStands}
use Rattle.lapd_sim.specs.Obeyed.{IsImageOf}
use Rattle.lapd_sim.specs.declared.setup.Setup as rust
unfoldable use Rattle.lapd_sim.specs.machine.Images.{image}
use Rattle.lapd_sim.specs.machine.Images.{saved}
use Rattle.lapd_sim.specs.machine.Setup.{Setup}

-- No link waits, so none does whose TEI is not there.
none-set : (links number : ℕ) → get_or (replicate links false) number false ≡ true → ⊥
none-set zero number waits = absurd (cc)
none-set (suc links) zero waits = absurd (cc)
none-set (suc links) (suc number) waits = none-set links number waits

none-marked : (c : Config) (ls : List Line) (n : ℕ) → length ls ≡ n → AllZip (AreMarks c) ls (replicate n (replicate (link_count c) false))
none-marked c [] zero as_many = tt
none-marked c [] (suc n) as_many = absurd (omega (arith, as_many))
none-marked c (l ∷ ls) zero as_many = absurd (omega (arith, as_many))
none-marked c (l ∷ ls) (suc n) as_many = (
  record { each = length-replicate (link_count c) false; there = λ number waits. absurd (none-set (link_count c) number waits) },
  none-marked c ls n (omega (arith, as_many)),
)

image-at : (m : Setup) (octets : List ℕ) → octets ≡ image_of (saved m) → octets ≡ image m
unfolding image
image-at m octets is = is

module _ (s : rust.Setup) (m : Setup) (h : SetupStands s m) where
  config-is : m.board.card.card.config ≡ s.config
  config-is = (inside s.timed.card m.board h.board).config ∙ s.same_config

  few : m.board.card.card.config.lines ≤ 64
  few = omega (arith, ap (λ (c : Config). c.lines) config-is, (ranges_of s.config s.in_range).lines.most)

  stands : StandsFor s.timed.card (replicate 64 0) s.timed.timers (saved m)
  stands = stands-for m s.timed.card s.timed.timers h.board (inside s.timed.card m.board h.board) h.counters h.timers few

  marks : AreAllMarks (saved m)
  marks = none-marked m.board.card.card.config m.board.card.card.lines m.board.card.card.config.lines
      (reached-sound m.board.card.card (inside s.timed.card m.board h.board).reached).count

  pub is-image : (waits old new : List ℕ) (end : ℕ) → waits ≡ replicate 64 0 → most_octets s.config true < length old
      → ((t : Saved) → StandsFor s.timed.card waits s.timed.timers t → Puts (image_of t) 0 old end new)
      → ((t : Saved) → StandsFor s.timed.card waits s.timed.timers t → AreAllMarks t → IsSaved t) → IsImageOf m (take end new)
  is-image waits old new end none room puts may =
      let its = subst (λ ws. StandsFor s.timed.card ws s.timed.timers (saved m)) (sym none) stands in
      let sound = may (saved m) its marks in
      let most : most_octets m.board.card.card.config true ≡ most_octets s.config true = ap (λ c. most_octets c true) config-is in
      let whole = puts-whole (omega (arith, images_fit (saved m) sound, most, room)) (puts (saved m) its) in
      record { octets_are = image-at m (take end new) whole.front; is_saved = sound }
