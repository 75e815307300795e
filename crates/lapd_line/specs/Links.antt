-- The links of a line, and what they stand for.
use Rattle.std.specs.Prelude.{◌≡◌, ℕ, ◌≤◌, ◌++◌, List, length, map, get_or, slice_get, Some}
use Rattle.std.specs.List.{All, flat_map, zip}
use Rattle.lapd_store.specs.Ownership.{Owned, Holds, pairs_of}
use Rattle.lapd_store.specs.Store.{Store}
use Rattle.lapd_link.specs.declared.link.Link.{Link}
use Rattle.lapd_link.specs.Stands.{Fits, slots_of, terms_of}
use Rattle.model_link.specs.declared.terms.Terms.{Terms}
use Rattle.model_link.specs.Link as machine
use Rattle.model_line.specs.declared.config.Config.{Config}

-- The parameters of each link.
abbrev pub terms_in : List Link → List Terms
terms_in links = map terms_of links

-- What a link owns: the slots of its contents.
abbrev pub link_pairs : Link × machine.Link → List Owned
link_pairs p = pairs_of (slots_of p.0) (machine.queue_of p.1)

-- A link stands for a machine as far as no shelf is touched, and is one for this configuration.
pub record LinkFits (c : Config) (p : Link × machine.Link) : Type 0 where
  pub fits : Fits p.0 p.1
  pub lengths : length (slots_of p.0) ≡ length (machine.queue_of p.1)
  pub narrow : (terms_of p.0).n201 ≤ c.n201
  pub queue : (terms_of p.0).queue ≡ c.queue
  pub control : (terms_of p.0).control ≡ c.control

abbrev pub links_pairs : List Link → List machine.Link → List Owned
links_pairs links ms = flat_map link_pairs (zip links ms)

-- The links and machines for them agree, and the shelf holds exactly what the links and others own.
pub record LinksStand (c : Config) (links : List Link) (store : Store) (others : List Owned) (ms : List machine.Link) : Type 0 where
  pub wide : c.n201 ≤ store.width
  pub same : length links ≡ length ms
  pub fits : All (LinkFits c) (zip links ms)
  pub held : Holds store (links_pairs links ms ++ others)

-- The link at a place has these parameters.
abbrev pub HasTerms : List Link → ℕ → Terms → Type 0
HasTerms links number terms = slice_get (terms_in links) number ≡ Some terms

-- The machine of the link at a place.
abbrev pub machine_at : List machine.Link → ℕ → machine.Link
machine_at ms number = get_or ms number machine.fresh
