-- A card of octets tells the frame that a pull of a line began last: the law.
use Rattle.laws_trace.proofs.Vocabulary.{◌≡◌, ℕ, List, [], ◌∷◌, refl, arith, fold, length-replicate, or_later, Item, idle, frames_among, OfEachLine, fresh_port, run_goes_on, fresh_at, ports_fresh as fresh}
use Rattle.model_bits.specs.Sent.{frame}
use Rattle.laws_trace.specs.octets.LatestIsBegun.{later_of, LatestIsBegun}

-- idle flags apart
of_frames : (latest : List ℕ) (items : List Item) → fold or_later latest items ≡ fold later_of latest (frames_among items)
of_frames latest [] = refl
of_frames latest (idle ∷ items) = of_frames latest items
of_frames latest (frame octets ∷ items) = of_frames octets items

pub latest-is-begun : OfEachLine LatestIsBegun
latest-is-begun c events number ranged all within =
    grind (arith, fresh_at, of_frames, run_goes_on (fresh c) events number (omega (arith, within, length-replicate c.lines fresh_port)))
