-- A `&` to a region's memory is made of one to each octet that was written.
use Rattle.lapd_store.proofs.Vocabulary.{arith, u8, octet, octets, octet_lent, lent, octets_own, octets_lent}
use Rattle.std.specs.Prelude.{ℕ, ◌+◌, List, [], ◌∷◌, Option, Some, None, refl}
use Rattle.lapd_store.proofs.Pointers.{Ura, Lft, Incl, ftrue, ffalse, Logic, Laws, of_field, copy_shared, Ptr, block_ptr, null_ptr, ShrLaws, said, beside_shr_laws, nothing_shr_laws, said_shr_laws, Shares-less, u8-field, u8-laws, u8-copy, Lends, Lends-both, Lends-nothing, Lends-false}

abbrev byte_laws : Laws u8
byte_laws = of_field u8-field u8-laws refl (copy_shared u8-field u8-copy)

octet_lent_laws : (b o : ℕ) (c : Option ℕ) → ShrLaws (octet_lent b o c)
octet_lent_laws b o (Some x) = byte_laws.shr_laws x b o
octet_lent_laws b o None = nothing_shr_laws

lent_laws : (b o : ℕ) (cs : List (Option ℕ)) → ShrLaws (lent b o cs)
lent_laws b o [] = nothing_shr_laws
lent_laws b o (c ∷ cs) = beside_shr_laws _ _ (octet_lent_laws b o c) (lent_laws b (o + 1) cs)

pub octets_lent_laws : (p : Ptr) (cs : List (Option ℕ)) → ShrLaws (octets_lent p cs)
octets_lent_laws p cs = grind (arith, block_ptr, lent_laws, null_ptr, said_shr_laws, ffalse)

module _ {M : Type 1} {𝓤 : Ura M} (𝓛 : Logic 𝓤) (l : Lft) (inc : Incl l u8.lives) where
  Lends-octet : (b o : ℕ) (c : Option ℕ) → Lends 𝓛 (octet b o c) (octet_lent b o c) l
  Lends-octet b o (Some x) = λ κ ts. Shares-less 𝓛 u8 u8.lives l inc (byte_laws.shares 𝓛) x κ ts b o
  Lends-octet b o None = Lends-nothing 𝓛 (octet b o None) l

  Lends-row : (b o : ℕ) (cs : List (Option ℕ)) → Lends 𝓛 (octets b o cs) (lent b o cs) l
  Lends-row b o [] = Lends-nothing 𝓛 ftrue l
  Lends-row b o (c ∷ cs) = Lends-both 𝓛 (octet b o c) (octets b (o + 1) cs) (octet_lent b o c) (lent b (o + 1) cs) l (Lends-octet b o c) (Lends-row b (o + 1) cs)

  pub Lends-octets : (p : Ptr) (cs : List (Option ℕ)) → Lends 𝓛 (octets_own p cs) (octets_lent p cs) l
  Lends-octets p cs = grind (arith, block_ptr, Lends-row, null_ptr, Lends-false, said, ffalse)
