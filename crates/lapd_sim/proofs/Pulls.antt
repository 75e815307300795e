-- What a line has taken, octet by octet.
use Rattle.lapd_sim.specs.declared.setup.Setup as rust
use Rattle.lapd_sim.proofs.Vocabulary.{◌≡◌, ℕ, zero, suc, ◌+◌, List, [], ◌∷◌, ◌++◌, refl, sym, ap, ◌∙◌, subst, suc-eq-add-one, at, reply, pull, SetupStands, Setup, happened, Pulls, octet_in, one_pull, pulls}

-- one more is the last
pulls_more : (n line : ℕ) (p : Pulls) → pulls (suc n) line p ≡ one_pull line (pulls n line p)
pulls_more zero line p = refl
pulls_more (suc n) line p = pulls_more n line (one_pull line p)

-- From a setup, so many octets have been pulled.
pub record Pulled (s : rust.Setup) (line count : ℕ) (taken : List ℕ) (m : Setup) : Type 0 where
  pub octets : taken ≡ (pulls count line (record { setup = m; octets = [] })).octets
  pub stands : SetupStands s (pulls count line (record { setup = m; octets = [] })).setup

pub pulled_on : (old new : rust.Setup) (line count value : ℕ) (taken : List ℕ) (m : Setup) → Pulled old line count taken m
    → ((b : Setup) → SetupStands old b → value ≡ octet_in (reply (at line pull) b.board))
    → ((b : Setup) → SetupStands old b → SetupStands new (happened b (at line pull)))
    → Pulled new line (count + 1) (taken ++ value ∷ []) m
pulled_on old new line count value taken m p is after =
    let start : Pulls = record { setup = m; octets = [] } in
    let so_far = pulls count line start in
    let more : one_pull line so_far ≡ pulls (count + 1) line start = sym (pulls_more count line start) ∙ ap (λ n. pulls n line start) (suc-eq-add-one count) in
    record {
      octets = ap (λ octets. octets ++ value ∷ []) p.octets ∙ ap (λ last. so_far.octets ++ last ∷ []) (is so_far.setup p.stands) ∙ ap (λ (q : Pulls). q.octets) more;
      stands = subst (λ (q : Pulls). SetupStands new q.setup) more (after so_far.setup p.stands);
    }
