-- Two ends that are up, of which neither was ever busy, and whose T200 is timely: they stay so.
use Rattle.laws_wire.proofs.Vocabulary.{◌≡◌, LinkEndpoint, Joined, Sane, Flows}
use Rattle.laws_wire.proofs.Loose.{Loose, loose-turned}
use Rattle.laws_wire.proofs.Tame.{Tame}

pub record Firm (n m : LinkEndpoint) : Type 0 where
  pub joined : Joined n m
  pub same : n.terms.n201 ≡ m.terms.n201
  pub there : Flows n m
  pub back : Flows m n
  pub near_sane : Sane n.link
  pub far_sane : Sane m.link
  pub near_tame : Tame n
  pub far_tame : Tame m

pub firm-of : (n m : LinkEndpoint) → Loose n m → Tame n × Tame m → Firm n m
firm-of n m h tame = record { joined = h.joined; same = h.same; there = h.there; back = h.back; near_sane = h.near_sane; far_sane = h.far_sane; near_tame = tame.0; far_tame = tame.1 }

pub as-loose : (n m : LinkEndpoint) → Firm n m → Loose n m
as-loose n m h = record { joined = h.joined; same = h.same; there = h.there; back = h.back; near_sane = h.near_sane; far_sane = h.far_sane }

pub firm-turned : (n m : LinkEndpoint) → Firm n m → Firm m n
firm-turned n m h = firm-of m n (loose-turned n m (as-loose n m h)) (h.far_tame, h.near_tame)
