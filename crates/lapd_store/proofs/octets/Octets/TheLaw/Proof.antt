-- A `&` to the octets reaches each that was written.
use Rattle.lapd_store.proofs.Pointers.{Incl-refl, of_Lends}
use Rattle.lapd_store.specs.contracts.octets.Octets as C
use Rattle.lapd_store.proofs.octets.Octets.TheLaw.Statement.{statement}
use Rattle.lapd_store.proofs.Sharing.{octets_lent_laws, Lends-octets}

pub shares : statement
shares = of_Lends C.struct C.the_codes C.the_heap C.the_lent (λ d p. octets_lent_laws d.at d.written) tt
    (λ M 𝓤 𝓛 d p. Lends-octets 𝓛 C.the_row.lives (Incl-refl _) d.at d.written)
