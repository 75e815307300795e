-- Contents are lent where they were delivered.
use Rattle.lapd_link_steps.proofs.Vocabulary.{arith, ◌≡◌, ℕ, Bool, true, false, List, Some, None}
use Rattle.std.specs.Option.{option_or}
use Rattle.std.specs.Prelude.{◌||◌, if◌then◌else◌}

pub some_delivered : (delivered unit : Bool) (contents : List ℕ) → (delivered || unit) ≡ true
    → Some contents ≡ option_or (if delivered then Some contents else None) (if unit then Some contents else None)
some_delivered delivered unit contents is = grind arith

pub none_delivered : (delivered unit : Bool) (contents : List ℕ) → (delivered || unit) ≡ false
    → None ≡ option_or (if delivered then Some contents else None) (if unit then Some contents else None)
none_delivered delivered unit contents is = grind arith
