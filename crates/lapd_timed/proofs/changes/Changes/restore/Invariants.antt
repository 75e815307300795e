-- The invariant of the loop of `Changes::restore`.
use Rattle.std.proofs.Common.{◌≡◌, ◌≤◌, ◌++◌, length, take}
use Rattle.std.specs.Prelude.{All}
use Rattle.model_image.specs.Images.{changes}
use Rattle.lapd_timed.proofs.changes.Changes.restore.Given as goal

-- so many moments have been read
abbrev pub invariant-loop-slot : goal.invariant-loop-slot
invariant-loop-slot l = record {
  links : l.self.links ≡ l.fn.self.links;
  states : l.self.states ≡ l.fn.self.states;
  count : length l.self.moments ≡ length l.fn.self.moments;
  read : l.initial.reader ≡ changes (take l.slot l.self.moments) ++ l.reader;
  past : All (λ moment. moment ≤ l.now) (take l.slot l.self.moments);
}
