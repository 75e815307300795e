-- How many octets a card of octets stores, port by port.
use Rattle.lapd_card.proofs.Vocabulary.{◌≡◌, ℕ, ◌+◌, ◌*◌, ◌≤◌, ◌<◌, List, length, take, get_or, ap, subst, ◌∙◌, arith, Fits, w32, sum_by_more, sum_by, take_all, ranges_of, limit, Store, Port, OctetCard}
use Rattle.model_card.specs.ports.Port as port
use Rattle.model_card.specs.ports.Port.{fresh_port}
use Rattle.model_card.specs.ports.Stored.{held_at}
use Rattle.lapd_card.specs.Card.{Held}
use Rattle.lapd_card.specs.Stands.{OctetCardStands, HasPast}
use Rattle.lapd_card.proofs.Amounts.{limit_small}
use Rattle.lapd_card.proofs.OnePort.{Found, ports-all}

-- one port more
pub held_more : (n201 : ℕ) (ps : List port.Port) (i frames : ℕ) {held one : ℕ} → i < length ps → held ≡ frames + sum_by (held_at n201) (take i ps) → one ≡ held_at n201 (get_or ps i fresh_port)
    → held + one ≡ frames + sum_by (held_at n201) (take (i + 1) ps)
held_more n201 ps i frames within so_far more = omega (arith, so_far, more, sum_by_more (held_at n201) ps i fresh_port within)

module _ {S : Type 0} (store : S → Store) {card self : Held S} (same : card ≡ self) (past : HasPast store card) where
  -- its information fields are short, and its lines few
  pub narrow : card.frames.config.n201 ≤ 260
  narrow = grind (arith, ranges_of)

  few_ports : length card.ports ≤ 64
  few_ports =
      let (m, s) = past in
      let few = subst (λ c. c.lines ≤ 64) s.frames.config (ranges_of m.card.config s.reached.config).lines.most in
      omega (arith, few, ports-all store card past)

  pub frames_small : {n : ℕ} → n ≤ limit card.frames.config → n ≤ 2233984
  frames_small few = grind (arith, limit_small)

  pub of_machine : {items : List Port} → items ≡ card.ports → (m : OctetCard) → OctetCardStands store card m → length items ≡ length m.ports
  of_machine is m s = ap length is ∙ s.ports.count

  -- the ports so far, in a loop over them
  module _ {items : List Port} {i : ℕ} (is : items ≡ card.ports) where
    pub call_of : {x : Port} → i < length items → x ≡ get_or items i x → Found store card i x
    call_of {x} here is_x = record {
      past = past;
      within = subst (λ n. i < n) (ap length is ∙ ports-all store card past) here;
      is = is_x ∙ ap (λ ls. get_or ls i x) is;
    }

    pub few_held : {held one : ℕ} → held ≤ 2233984 + i * 530 → one ≤ 530 → i < length items → Fits w32 (held + one)
    few_held so_far few here = grind (arith, few_ports)

    pub all_held : length items ≤ i → (m : OctetCard) → OctetCardStands store card m → sum_by (held_at m.card.config.n201) (take i m.ports) ≡ sum_by (held_at m.card.config.n201) m.ports
    all_held all m s = ap (sum_by (held_at m.card.config.n201)) (take_all i m.ports (omega (arith, all, of_machine is m s)))
