-- What a sink has kept, and which replies it keeps.
--
-- It keeps a reply exactly where it has room for one more and the answer is short, as every answer of a card is.
-- `keep_replies` of `test_product` hands it to `drive` and concludes from the contracts alone: after `Ok` it keeps the
-- answers of all moments of the run, in order, and after a fault exactly those before the one that it missed.
use Rattle.std.specs.Prelude.{◌≡◌, ℕ, ◌<◌, ◌≤◌, List, [], ◌∷◌, ◌++◌, length, map, Option, option_map, IfSome, vec_capacity, ⊤}
use Rattle.model_card.specs.ports.Port.{Answer, told, refused, pulled}
use Rattle.lapd_card.specs.declared.kept.Kept.{Kept}
use Rattle.lapd_card.specs.declared.kept.KeptReply.{KeptReply}
use Rattle.lapd_card.specs.Reply.{answer_of}

-- An answer with these contents, where it may have any.
abbrev pub with_contents : Option (List ℕ) → Answer → Answer
with_contents contents (told t) = told (record t { contents = contents })
with_contents contents (refused why) = refused why
with_contents contents (pulled value begun orders) = pulled value begun orders

-- The answer that was kept, with its line; and all that were kept, in order.
abbrev pub kept_of : KeptReply → ℕ × Answer
kept_of kept = (kept.line, with_contents (option_map (λ copy. copy.items) kept.contents) (answer_of kept.reply))

abbrev pub replies_in : Kept → List (ℕ × Answer)
replies_in sink = map kept_of sink.replies.items

-- For how many replies there is room in all.
abbrev pub room_in : Kept → ℕ
room_in sink = vec_capacity sink.replies

-- What the answer delivers has at most 260 octets, as what a card delivers has: N201 is no greater.
abbrev pub IsShort : Answer → Type 0
IsShort (told t) = IfSome t.contents (λ contents. length contents ≤ 260)
IsShort (refused why) = ⊤
IsShort (pulled value begun orders) = ⊤

-- There is room for one more.
abbrev pub HasRoom : Kept → Type 0
HasRoom sink = length (replies_in sink) < room_in sink

-- A reply is kept: it goes to the end, once. There was room, and it is short.
pub record Keeps (old : Kept) (line : ℕ) (answer : Answer) (new : Kept) : Type 0 where
  pub room : HasRoom old
  pub short : IsShort answer
  pub appended : replies_in new ≡ replies_in old ++ (line, answer) ∷ []
  pub same_room : room_in new ≡ room_in old

-- A reply is not kept, and nothing else changes: there was no room, or it is not short.
pub record Misses (old : Kept) (line : ℕ) (answer : Answer) (new : Kept) : Type 0 where
  pub none : HasRoom old → IsShort answer → ⊥
  pub same : replies_in new ≡ replies_in old
  pub same_room : room_in new ≡ room_in old
