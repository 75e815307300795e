-- Rounds after a call in which T200 is long enough tell no error, so they lead to where no turn is left.
use Rattle.laws_wire.proofs.Vocabulary.{ℕ, zero, suc, ◌+◌, ◌*◌, List, [], ◌∷◌, ◌++◌, subst, ◌∙◌, All, All-append, Service, Config, Wire, StepAt, doing, doing_all, calling, CanCall, granted_of, IsRoughTalk, rounds, HasNoErrors, StayTimely, expiries, most_frames, TimelyRoundsComeToRest}
use Rattle.laws_wire.proofs.RestedRounds.{doing-append, many, many-rounds, all-rough, rounds-come-to-rest}
use Rattle.laws_wire.proofs.TimelyRun.{what-is-lost-arrives}

-- turns are timely
pub many-timely : (n : ℕ) (w : Wire) → StayTimely (many n) w
unfolding many StayTimely
many-timely zero w = tt
many-timely (suc n) w = (tt, ((tt, tt), ((tt, tt), (tt, many-timely n _))))

timely-append : (ds : List StepAt) (n : ℕ) (w : Wire) → StayTimely ds w → StayTimely (ds ++ many n) w
unfolding StayTimely
timely-append [] n w h = many-timely n w
timely-append (d ∷ ds) n w h = (h.0, timely-append ds n (doing d w) h.1)

-- so no error is told in any rounds behind a timely call
pub timely-fair : (service : Service) (c d : Config) (line other tei r : ℕ) (ds : List StepAt) → CanCall c line d other tei → All (IsRoughTalk service tei) ds
    → let begun = calling service tei c line d other in StayTimely ds begun → HasNoErrors (rounds r (doing_all ds begun))
timely-fair service c d line other tei r ds can talk = λ timely.
    let begun = calling service tei c line d other in
    subst HasNoErrors (doing-append ds (many r) begun ∙ many-rounds r (doing_all ds begun))
    (what-is-lost-arrives service c d line other tei (ds ++ many r) can (All-append (IsRoughTalk service tei) ds (many r) talk (all-rough service tei r)) (timely-append ds r begun timely)).no_error

pub timely-rounds-come-to-rest : TimelyRoundsComeToRest
timely-rounds-come-to-rest service c d line other tei k ds can talk wide-near wide-far timely =
    let most = 2 * most_frames k (expiries ds) (granted_of (doing_all ds (calling service tei c line d other))) in
    rounds-come-to-rest service c d line other tei k ds can talk wide-near wide-far (timely-fair service c d line other tei (most + 1) ds can talk timely)
