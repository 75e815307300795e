-- Hand-written answers for `timed_cards_are_cards`.
use Rattle.laws_time.proofs.BesideACard.{keeps-up-with-frames, keeps-up-with-octets}
use Rattle.laws_time.proofs.TimedCards.{callers-clocks-are-clocks, timed-cards-are-cards, the-first-falls-due}
use Rattle.model_timed.specs.Frames.{frames}
use Rattle.model_timed.specs.Octets.{octets}
use Rattle.laws_time.proofs.cards.timed_cards_are_cards.Goals as goal

pub returns-clause-cards : goal.returns-clause-cards
returns-clause-cards c = timed-cards-are-cards

pub returns-clause-first_of_frames : goal.returns-clause-first_of_frames
returns-clause-first_of_frames c = the-first-falls-due frames

pub returns-clause-first_of_octets : goal.returns-clause-first_of_octets
returns-clause-first_of_octets c = the-first-falls-due octets

pub returns-clause-callers : goal.returns-clause-callers
returns-clause-callers c = callers-clocks-are-clocks

pub returns-clause-beside_frames : goal.returns-clause-beside_frames
returns-clause-beside_frames c = keeps-up-with-frames

pub returns-clause-beside_octets : goal.returns-clause-beside_octets
returns-clause-beside_octets c = keeps-up-with-octets
