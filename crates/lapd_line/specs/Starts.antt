-- The links of a line as it begins.
use Rattle.std.specs.Prelude.{◌≡◌, List, length}
use Rattle.std.specs.List.{All}
use Rattle.lapd_link.specs.declared.link.Link.{Link}
use Rattle.model_link.specs.Link.{fresh}
use Rattle.model_line.specs.declared.config.Config.{Config}
use Rattle.model_line.specs.Line.{link_count}
use Rattle.lapd_line.specs.Links.{LinkFits}

-- A link stands for one that begins.
abbrev pub IsBegun : Config → Link → Type 0
IsBegun c link = LinkFits c (link, fresh)

-- There is one for each place and service, and all begin.
pub record AreBegun (c : Config) (links : List Link) : Type 0 where
  pub count : length links ≡ link_count c
  pub begun : All (IsBegun c) links
