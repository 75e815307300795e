-- What holds of two links that came from an establishment, and stayed up: all that recovery asks but silence.
use Rattle.laws_link.proofs.Vocabulary.{arith, ◌≡◌, ℕ, ◌+◌, Bool, false, List, [], ◌∷◌, Parts, Link, frame, received, Endpoint, Ends, EndStep, requests, expires, sends, receives, loses, StepAt, at_near, at_far, with_first_of, acting, turned, doing, doing_all, Begins, StayUp, Agree, Joined, joined-first, done-at, ends-agree, IsTimed, Heeds, rounds, IsCutOffWith, CanRecoverFrom, CanRecoverFromWith}
use Rattle.laws_link.proofs.Vocabulary.{HasMissing, with_t200_expired, joined-turned}
use Rattle.model_link.proofs.TimedRows.{timed-after}
use Rattle.laws_link.proofs.OfTwo.HeedingEvents.{heeds-after}
use Rattle.laws_link.proofs.OfTwo.Arriving.{Arrived}
use Rattle.laws_link.proofs.OfTwo.Recovery.{all-recovered}
use Rattle.laws_link.proofs.OfTwo.Together.{same-after}

-- of one link
pub record Sane (l : Link) : Type 0 where
  pub timed : IsTimed l
  pub heeds : Heeds l

abbrev pub BothSane : Ends → Type 0
BothSane e = Sane e.near.link × Sane e.far.link

sane-first : (way : List Parts) (n : Endpoint) → Sane n.link → Sane (with_first_of way n).link
sane-first [] n h = h
sane-first (f ∷ fs) n h = record { timed = timed-after n.terms (received (frame f)) n.link h.timed; heeds = heeds-after n.terms (received (frame f)) n.link h.heeds }

sane-acting : (act : EndStep) (e : Ends) → BothSane e → BothSane (acting act e)
sane-acting (requests request full) e h = grind (arith, timed-after, heeds-after)
sane-acting (expires timer) e h = grind (arith, timed-after, heeds-after)
sane-acting sends e h = grind (arith, timed-after, heeds-after)
sane-acting receives e h = (sane-first e.far.way e.near h.0, h.1)
sane-acting loses e h = h

pub sane-doing : (d : StepAt) (e : Ends) → BothSane e → BothSane (doing d e)
sane-doing (at_near act) e h = sane-acting act e h
sane-doing (at_far act) e h = let x = sane-acting act (turned e) (h.1, h.0) in (x.1, x.0)

pub record Whole (e : Ends) : Type 0 where
  joined : Joined e.near e.far
  sane : BothSane e
  same : e.near.terms.n201 ≡ e.far.terms.n201

all-whole : (ds : List StepAt) (e : Ends) → StayUp ds e → Whole e → Whole (doing_all ds e)
unfolding doing_all StayUp
all-whole [] e up h = h
all-whole (d ∷ ds) e up h =
    all-whole ds (doing d e) up.1 (record { joined = done-at d e up.0 h.joined; sane = sane-doing d e h.sane; same = same-after d e h.same })

pub cut-off : (own : Bool) (e : Ends) → Whole e → Agree e.far e.near → CanRecoverFromWith own e.near e.far → IsCutOffWith own e.near e.far
cut-off own e h agree silent = grind arith

pub cut-off-far : (own : Bool) (e : Ends) → Whole e → Agree e.near e.far → CanRecoverFromWith own e.far e.near → IsCutOffWith own e.far e.near
cut-off-far own e h agree silent = grind (arith, cut-off, joined-turned)

pub whole-first : (ds : List StepAt) (e : Ends) → Begins e.near → Begins e.far → IsTimed e.near.link → IsTimed e.far.link → e.near.terms.n201 ≡ e.far.terms.n201 → StayUp ds e
    → Whole (doing_all ds e)
whole-first ds e b c tb tc same up = grind (arith, all-whole, joined-first)

pub reached : (ds : List StepAt) (u : ℕ) (e : Ends) → Begins e.near → Begins e.far → IsTimed e.near.link → IsTimed e.far.link
    → e.near.terms.n201 ≡ e.far.terms.n201 → StayUp ds e
    → CanRecoverFrom (doing_all ds e).near (doing_all ds e).far → CanRecoverFrom (doing_all ds e).far (doing_all ds e).near
    → HasMissing u (doing_all ds e).near (doing_all ds e).far → HasMissing u (doing_all ds e).far (doing_all ds e).near
    → Arrived (doing_all ds e).near.link.contents (doing_all ds e).far.link.contents (rounds (u + 3) (with_t200_expired (doing_all ds e)))
reached ds u e b c tb tc same up sn sf un uf =
    let h = whole-first ds e b c tb tc same up in
    let agree = ends-agree ds e b c up in
    all-recovered u (doing_all ds e) (cut-off false (doing_all ds e) h agree.1 sn) (cut-off-far false (doing_all ds e) h agree.0 sf) un uf
