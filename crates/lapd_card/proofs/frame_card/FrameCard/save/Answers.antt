-- Hand-written answers for `FrameCard::save`.
use Rattle.lapd_card.proofs.Vocabulary.{ap, flat_map}
use Rattle.lapd_count.specs.Image.{counters}
use Rattle.lapd_image.proofs.Puts.{puts-same, puts-then}
use Rattle.lapd_card.proofs.SavedLines.{card_saved}
use Rattle.lapd_card.proofs.frame_card.FrameCard.save.Goals as goal

pub returns-clause-puts : goal.returns-clause-puts
returns-clause-puts g c = λ l s. puts-then (c.save_lines-at.ensures.puts l.card s.stands) (puts-same (ap (flat_map counters) s.counted) c.save_counters.ensures.puts)

pub returns-clause-saved : goal.returns-clause-saved
returns-clause-saved g c = λ l s. card_saved g.S.Shelf.store s (c.save_lines-at.ensures.saved l.card s.stands) c.save_counters.ensures.saved
