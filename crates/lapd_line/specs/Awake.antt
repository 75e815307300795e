-- Which links have something to give.
use Rattle.std.specs.Prelude.{◌≡◌, ℕ, Bool, false, is_some, List, slice_get}
use Rattle.std.specs.Option.{option_map_or}
use Rattle.lapd_store.specs.Ownership.{Owned}
use Rattle.lapd_store.specs.Store.{Store}
use Rattle.lapd_link.specs.declared.link.Link.{Link}
use Rattle.model_line.specs.declared.config.Config.{Config}
use Rattle.model_link.specs.declared.terms.Terms.{Terms}
use Rattle.model_link.specs.Link as machine
use Rattle.model_link.specs.Machine.{given}
use Rattle.lapd_line.specs.declared.marks.Marks.{Marks}
use Rattle.lapd_line.specs.Links.{HasTerms, LinksStand, machine_at, terms_in}
use Rattle.lapd_line.specs.Marks.{AreMarked}

-- A link gives something under its parameters; the link at a place does, where there is one.
abbrev pub gives : machine.Link → Terms → Bool
gives m terms = is_some (given terms m)

abbrev pub gives_at : List Link → List machine.Link → ℕ → Bool
gives_at links ms number = option_map_or (gives (machine_at ms number)) (slice_get (terms_in links) number) false

-- Marked are the links that have a frame to give, and no others.
abbrev pub AreAwake : Marks → List Link → List machine.Link → Type 0
AreAwake marks links ms = AreMarked marks (gives_at links ms)

-- It is told of the link at a place whether it has something to give.
abbrev pub TellsOf : ℕ → List Link → Bool → Type 0
TellsOf number links told =
    (c : Config) (terms : Terms) (store : Store) (others : List Owned) (ms : List machine.Link) → HasTerms links number terms
    → LinksStand c links store others ms → told ≡ gives (machine_at ms number) terms
