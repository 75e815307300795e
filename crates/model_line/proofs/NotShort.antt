-- What a line gives is not too short for a frame.
use Rattle.model_line.proofs.Vocabulary.{◌≡◌, ℕ, ◌%◌, ◌≤◌, ◌⊎◌, Bool, true, false, cond, List, [], ◌∷◌, ◌++◌, length, slice_index, IfSome, inl, arith, Sender, Address, Control, spelling, own_side, service_at, Config, Line, Taken, taken, terms, IsSound}
use Rattle.lapd_frame.specs.Grammar.{one_of}
use Rattle.lapd_frame.specs.Services.{sapi_of}
use Rattle.lapd_frame.specs.declared.controls.Control.TheVariants.{Ui}
use Rattle.model_link.specs.Link.{address_at}
use Rattle.model_line.proofs.TakenWalk.{taken_walk}
use Rattle.std.specs.Option.{unwrap_or}

-- It has four octets or more, or three, of which the last begins no control field of two.
abbrev pub IsNotShort : List ℕ → Type 0
IsNotShort octets = (4 ≤ length octets) ⊎ ((length octets ≡ 3) × (slice_index octets 2 % 4 ≡ 3))

third : (without with_pf : ℕ) (pf : Bool) → without % 4 ≡ 3 → with_pf % 4 ≡ 3 → cond pf with_pf without % 4 ≡ 3
third without with_pf pf h k = grind arith

one_octet : (a b without with_pf : ℕ) (pf : Bool) (info : List ℕ) → without % 4 ≡ 3 → with_pf % 4 ≡ 3 → IsNotShort (a ∷ b ∷ (one_of without with_pf pf ++ info))
one_octet a b without with_pf pf info h k = grind (arith, third)

-- what the grammar spells
pub not_short : (sender : Sender) (a : Address) (c : Control) (info : List ℕ) → IsNotShort (spelling sender (record { address = a; control = c; info = info }))
not_short sender a c info = grind (arith, one_octet)

abbrev IsLong : Taken → Type 0
IsLong t = IsNotShort t.frame

pub taken_not_short : (c : Config) (l : Line) → IsSound c l → IfSome (taken c l) IsLong
taken_not_short c l s =
    taken_walk c l s IsLong
    (λ octets m own out. inl (omega (arith, out.size)))
    (λ u us e. not_short (own_side c) (record { sapi = sapi_of u.service; command = true; tei = u.tei }) (Ui false) u.contents)
    (λ n tei few at sound g e. not_short (own_side c) (address_at (terms c (service_at n) tei) g.frame.command) g.frame.control (unwrap_or g.contents []))
