-- What the memory of a region owns and lends. No public clause cites this file.
--
-- An octet that was written is owned with its value; one that was not is room for one, and a `&` to that room holds nothing,
-- so it cannot be read. The right to free a block is a value that cannot be copied or dropped, so giving a block back twice
-- is refused before any proof. A wrong body inside the four functions of `octets.rt` is refused by the shape of its proof;
-- must-fail edits are therefore one level up, in `Region`.
use Rattle.std.specs.Prelude.{ℕ, ◌+◌, List, [], ◌∷◌, Option, Some, None}
use Rattle.std.specs.Borrow.{full_share, u8}
use base.Fml.{Lft, Fml, ftrue, ffalse, fsep, froom}
use mir.Syntax.{Ty, ty_int, w8, ty_array}
use denote.Memory.{part_at, shared_of}
use denote.Sharing.{nothing, said, beside}
use denote.RawPtr.{Ptr, block_ptr, null_ptr}

-- the type for which a block of n octets is allocated
abbrev pub block_of : ℕ → Ty
block_of n = ty_array (ty_int w8) n

-- one octet, o octets into the block b: its value where it was written, else room for one
abbrev pub octet : ℕ → ℕ → Option ℕ → Fml
octet b o (Some x) = part_at u8 full_share x b o
octet b o None = froom (ty_int w8) b o

-- octets side by side
abbrev pub octets : ℕ → ℕ → List (Option ℕ) → Fml
octets b o [] = ftrue
octets b o (c ∷ cs) = fsep (octet b o c) (octets b (o + 1) cs)

-- what a `&` to an octet holds: nothing where it was not written, so none can be read there
abbrev pub octet_lent : ℕ → ℕ → Option ℕ → Lft → Fml
octet_lent b o (Some x) = shared_of u8 x b o
octet_lent b o None = nothing

-- and to octets side by side
abbrev pub lent : ℕ → ℕ → List (Option ℕ) → Lft → Fml
lent b o [] = nothing
lent b o (c ∷ cs) = beside (octet_lent b o c) (lent b (o + 1) cs)

-- what the owner of the octets from a pointer on owns
abbrev pub octets_own : Ptr → List (Option ℕ) → Fml
octets_own (block_ptr b o) cs = octets b o cs
octets_own null_ptr cs = ffalse

-- and what a `&` to it holds
abbrev pub octets_lent : Ptr → List (Option ℕ) → Lft → Fml
octets_lent (block_ptr b o) cs = lent b o cs
octets_lent null_ptr cs = said ffalse
